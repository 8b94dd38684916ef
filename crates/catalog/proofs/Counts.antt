-- Counts and tests of some item.
use Rattle.std.proofs.Common.{◌≡◌, suc, ◌+◌, Bool, true, false, cond, ◌&&◌, ◌||◌, List, [], ◌∷◌, ◌++◌, map, refl, ap, arith}
use Rattle.std.specs.List.{list_any}
use Rattle.catalog.specs.Counts.{how_many}

pub how_many-append : {A : Type 0} (passes : A → Bool) (xs ys : List A) → how_many passes (xs ++ ys) ≡ how_many passes xs + how_many passes ys
how_many-append passes [] ys = omega arith
how_many-append passes (x ∷ xs) ys =
    elim (passes x) as (λ b. cond b (suc (how_many passes (xs ++ ys))) (how_many passes (xs ++ ys)) ≡ cond b (suc (how_many passes xs)) (how_many passes xs) + how_many passes ys) [
      | true ↦ omega (arith, how_many-append passes xs ys)
      | false ↦ how_many-append passes xs ys
    ]

pub how_many-map : {A B : Type 0} (passes : B → Bool) (f : A → B) (xs : List A) → how_many passes (map f xs) ≡ how_many (λ x. passes (f x)) xs
how_many-map passes f [] = refl
how_many-map passes f (x ∷ xs) = ap (λ n. cond (passes (f x)) (suc n) n) (how_many-map passes f xs)

pub any-map : {A B : Type 0} (passes : B → Bool) (f : A → B) (xs : List A) → list_any passes (map f xs) ≡ list_any (λ x. passes (f x)) xs
any-map passes f [] = refl
any-map passes f (x ∷ xs) = ap (λ b. passes (f x) || b) (any-map passes f xs)

-- where one item passes, some item does
pub any-from_one : {A : Type 0} (passes : A → Bool) (xs : List A) → how_many passes xs ≡ 1 → list_any passes xs ≡ true
any-from_one passes [] one = cc
any-from_one passes (x ∷ xs) one =
    elim (passes x) as (λ b. cond b (suc (how_many passes xs)) (how_many passes xs) ≡ 1 → (b || list_any passes xs) ≡ true) [
      | true ↦ λ h. refl
      | false ↦ λ h. any-from_one passes xs h
    ] one

pub and_true : (a b : Bool) → (a && b) ≡ true → (a ≡ true) × (b ≡ true)
and_true true b h = (refl, h)
and_true false b h = cc

-- where two functions give the same list, they agree at an item that passes
pub same_at_one : {A B : Type 0} (passes : A → Bool) (f g : A → B) (xs : List A) → map f xs ≡ map g xs → list_any passes xs ≡ true → (x : A) × (passes x ≡ true) × (f x ≡ g x)
same_at_one passes f g [] same some = cc
same_at_one {A} {B} passes f g (x ∷ xs) same some =
    let head : f x ≡ g x = cc in
    let tail : map f xs ≡ map g xs = cc in
    elim (passes x) as (λ b. passes x ≡ b → (b || list_any passes xs) ≡ true → (y : A) × (passes y ≡ true) × (f y ≡ g y)) [
      | true ↦ λ here later. (x, here, head)
      | false ↦ λ here later. same_at_one passes f g xs tail later
    ] refl some

-- tests that answer alike count alike
pub how_many-same : {A : Type 0} (p q : A → Bool) (xs : List A) → ((x : A) → p x ≡ q x) → how_many p xs ≡ how_many q xs
how_many-same p q [] alike = refl
how_many-same p q (x ∷ xs) alike = rw (alike x) (ap (λ n. cond (q x) (suc n) n) (how_many-same p q xs alike))
