-- Small lemmas on tests, lists, names and functions changed at one place.
use Rattle.std.proofs.Common.{ap₂, ◌≡◌, refl, sym, ap, ◌∙◌, subst, ℕ, suc, ◌==◌, ◌&&◌, ◌||◌, not, Bool, true, false, List, [], ◌∷◌, ◌++◌, map, if◌then◌else◌, Option, Some, None, slice_get, ◌⊎◌, inl, inr, ◌↔◌, true≢false, ⊎_elim, filter, filter_map, flat_map, zero}
use Rattle.std.proofs.lemmas.Bool.{eqb-true, eq-eqb}
use Rattle.std.specs.List.{list_any, list_all, AllByRecursion, cons_option}
pub use Rattle.protocol.specs.Parts.{In}
use Rattle.protocol.specs.Language.{Name, same, put}

-- ---- tests
pub either : {A : Type 0} (Q : A → Type 0) (b : Bool) (x y : A) → Q x → Q y → Q (if b then x else y)
either Q true x y p q = p
either Q false x y p q = q

pub either_if : {A : Type 0} (Q : A → Type 0) (b : Bool) (x y : A) → (b ≡ true → Q x) → (b ≡ false → Q y) → Q (if b then x else y)
either_if Q true x y p q = p refl
either_if Q false x y p q = q refl

pub by_test : (b : Bool) → (b ≡ true) ⊎ (b ≡ false)
by_test true = inl refl
by_test false = inr refl

pub left_true : (a b : Bool) → (a && b) ≡ true → a ≡ true
left_true true b e = refl
left_true false b e = e

pub right_true : (a b : Bool) → (a && b) ≡ true → b ≡ true
right_true true b e = e
right_true false b e = cc

pub both_true : (a b : Bool) → a ≡ true → b ≡ true → (a && b) ≡ true
both_true true b e f = f
both_true false b e f = e

pub or_left : (a b : Bool) → a ≡ true → (a || b) ≡ true
or_left true b e = refl
or_left false b e = cc

pub or_right : (a b : Bool) → b ≡ true → (a || b) ≡ true
or_right true b e = refl
or_right false b e = e

pub or_none_left : (a b : Bool) → (a || b) ≡ false → a ≡ false
or_none_left true b e = e
or_none_left false b e = refl

pub or_none_right : (a b : Bool) → (a || b) ≡ false → b ≡ false
or_none_right true b e = cc
or_none_right false b e = e

pub or_false : (b : Bool) → (b || false) ≡ b
or_false true = refl
or_false false = refl

pub or_cases : (a b : Bool) → (a || b) ≡ true → (a ≡ true) ⊎ (b ≡ true)
or_cases true b e = inl refl
or_cases false b e = inr e

pub not_false : (b : Bool) → not b ≡ false → b ≡ true
not_false true e = refl
not_false false e = cc

pub not_true : (b : Bool) → not b ≡ true → b ≡ false
not_true true e = cc
not_true false e = refl

pub if_true : {A : Type 0} (b : Bool) (x y : A) → b ≡ true → (if b then x else y) ≡ x
if_true true x y e = refl
if_true false x y e = cc

pub if_false : {A : Type 0} (b : Bool) (x y : A) → b ≡ false → (if b then x else y) ≡ y
if_false true x y e = cc
if_false false x y e = refl

pub clash : {A : Type 0} {b : Bool} → b ≡ true → b ≡ false → A
clash e f = let g : true ≡ false = sym e ∙ f in absurd (true≢false g)

-- ---- names
pub same_law : (a b : Name) → (same a b ≡ true) ↔ (a ≡ b)
same_law a b = (
  λ e. λ i. record { life = eqb-true a.life b.life (left_true (a.life == b.life) (a.number == b.number) e) i; number = eqb-true a.number b.number (right_true (a.life == b.life) (a.number == b.number) e) i },
  λ e. both_true (a.life == b.life) (a.number == b.number) (eq-eqb a.life b.life (ap (λ n. n.life) e)) (eq-eqb a.number b.number (ap (λ n. n.number) e)),
)

pub same_refl : (a : Name) → same a a ≡ true
same_refl a = (same_law a a).1 refl

-- ---- functions changed at one place
module _ {A B : Type 0} (is : A → A → Bool) (law : (a b : A) → (is a b ≡ true) ↔ (a ≡ b)) where
  pub put_all : (k : A) (v : B) (f : A → B) (Q : A → B → Type 0) → Q k v → ((j : A) → is j k ≡ false → Q j (f j)) → (j : A) → Q j (put is k v f j)
  put_all k v f Q here there j = either_if (Q j) (is j k) v (f j) (λ e. subst (λ i. Q i v) (sym ((law j k).0 e)) here) (λ e. there j e)

  pub put_here : (k : A) (v : B) (f : A → B) → put is k v f k ≡ v
  put_here k v f = if_true (is k k) v (f k) ((law k k).1 refl)

  pub put_there : (k : A) (v : B) (f : A → B) (j : A) → is j k ≡ false → put is k v f j ≡ f j
  put_there k v f j e = if_false (is j k) v (f j) e

-- ---- options
pub some_is : {A : Type 0} {x y : A} → Some x ≡ Some y → x ≡ y
some_is {A} {x} {y} e = cc

-- ---- lists
abbrev pub Every : {A : Type 0} → (A → Type 0) → List A → Type 0
Every P xs = AllByRecursion P xs

module _ {A : Type 0} (P : A → Type 0) where
  pub every_append : (xs ys : List A) → Every P xs → Every P ys → Every P (xs ++ ys)
  every_append [] ys all more = more
  every_append (x ∷ xs) ys all more = (all.0, every_append xs ys all.1 more)

  pub every_all : (xs : List A) → ((x : A) → P x) → Every P xs
  every_all [] all = tt
  every_all (x ∷ xs) all = (all x, every_all xs all)

  pub every_in : (xs : List A) (x : A) → Every P xs → In x xs → P x
  every_in [] x all here = absurd here
  every_in (y ∷ ys) x all (inl e) = subst P (sym e) all.0
  every_in (y ∷ ys) x all (inr below) = every_in ys x all.1 below

  pub every_at : (xs : List A) (n : ℕ) (x : A) → Every P xs → slice_get xs n ≡ Some x → P x
  every_at [] zero x all e = cc
  every_at [] (suc n) x all e = cc
  every_at (y ∷ ys) zero x all e = subst P (some_is e) all.0
  every_at (y ∷ ys) (suc n) x all e = every_at ys n x all.1 e

  pub every_map : {B : Type 0} (f : B → A) (xs : List B) → ((x : B) → P (f x)) → Every P (map f xs)
  every_map f [] all = tt
  every_map f (x ∷ xs) all = (all x, every_map f xs all)

  pub every_flat : {B : Type 0} (f : B → List A) (xs : List B) → ((x : B) → Every P (f x)) → Every P (flat_map f xs)
  every_flat f [] all = tt
  every_flat f (x ∷ xs) all = every_append (f x) (flat_map f xs) (all x) (every_flat f xs all)

pub every_more : {A : Type 0} (P Q : A → Type 0) (xs : List A) → ((x : A) → P x → Q x) → Every P xs → Every Q xs
every_more P Q [] to all = tt
every_more P Q (x ∷ xs) to all = (to x all.0, every_more P Q xs to all.1)

pub every_self : {A : Type 0} (P : A → Type 0) (xs : List A) → ((x : A) → In x xs → P x) → Every P xs
every_self P [] to = tt
every_self P (x ∷ xs) to = (to x (inl refl), every_self P xs (λ y here. to y (inr here)))

pub in_left : {A : Type 0} (x : A) (xs ys : List A) → In x xs → In x (xs ++ ys)
in_left x [] ys here = absurd here
in_left x (y ∷ xs) ys (inl e) = inl e
in_left x (y ∷ xs) ys (inr below) = inr (in_left x xs ys below)

pub in_at : {A : Type 0} (xs : List A) (n : ℕ) (x : A) → slice_get xs n ≡ Some x → In x xs
in_at [] zero x e = cc
in_at [] (suc n) x e = cc
in_at (y ∷ ys) zero x e = inl (sym (some_is e))
in_at (y ∷ ys) (suc n) x e = inr (in_at ys n x e)

pub in_right : {A : Type 0} (x : A) (xs ys : List A) → In x ys → In x (xs ++ ys)
in_right x [] ys here = here
in_right x (y ∷ xs) ys here = inr (in_right x xs ys here)

pub in_append : {A : Type 0} (x : A) (xs ys : List A) → In x (xs ++ ys) → In x xs ⊎ In x ys
in_append x [] ys here = inr here
in_append x (y ∷ xs) ys (inl e) = inl (inl e)
in_append x (y ∷ xs) ys (inr below) = ⊎_elim (λ h. inl (inr h)) (λ h. inr h) (in_append x xs ys below)

pub in_flat : {A B : Type 0} (f : A → List B) (x : A) (y : B) (xs : List A) → In x xs → In y (f x) → In y (flat_map f xs)
in_flat f x y [] here there = absurd here
in_flat f x y (z ∷ xs) (inl e) there = in_left y (f z) (flat_map f xs) (subst (λ v. In y (f v)) e there)
in_flat f x y (z ∷ xs) (inr below) there = in_right y (f z) (flat_map f xs) (in_flat f x y xs below there)

pub all_in : {A : Type 0} (p : A → Bool) (x : A) (xs : List A) → list_all p xs ≡ true → In x xs → p x ≡ true
all_in p x [] all here = absurd here
all_in p x (y ∷ xs) all (inl e) = subst (λ z. p z ≡ true) (sym e) (left_true (p y) (list_all p xs) all)
all_in p x (y ∷ xs) all (inr below) = all_in p x xs (right_true (p y) (list_all p xs) all) below

pub any_in : {A : Type 0} (p : A → Bool) (x : A) (xs : List A) → In x xs → p x ≡ true → list_any p xs ≡ true
any_in p x [] here is = absurd here
any_in p x (y ∷ xs) (inl e) is = or_left (p y) (list_any p xs) (subst (λ z. p z ≡ true) e is)
any_in p x (y ∷ xs) (inr below) is = or_right (p y) (list_any p xs) (any_in p x xs below is)

-- an element that passes
pub found : {A : Type 0} (p : A → Bool) (xs : List A) → list_any p xs ≡ true → (x : A) × In x xs × (p x ≡ true)
found p [] e = cc
found p (y ∷ xs) e = ⊎_elim (λ is. (y, inl refl, is)) (λ below. let f = found p xs below in (f.0, inr f.1, f.2)) (or_cases (p y) (list_any p xs) e)

pub in_filter : {A : Type 0} (p : A → Bool) (x : A) (xs : List A) → In x xs → p x ≡ true → In x (filter p xs)
in_filter p x [] here is = absurd here
in_filter p x (y ∷ xs) (inl e) is = rw (if_true (p y) (y ∷ filter p xs) (filter p xs) (subst (λ z. p z ≡ true) e is)) (inl e)
in_filter p x (y ∷ xs) (inr below) is = either (λ l. In x l) (p y) (y ∷ filter p xs) (filter p xs) (inr (in_filter p x xs below is)) (in_filter p x xs below is)

-- a letter for each that has something to be said
pub every_said : {A B : Type 0} (P : B → Type 0) (f : A → Option B) (xs : List A) → ((x : A) (y : B) → In x xs → f x ≡ Some y → P y) → Every P (filter_map f xs)
every_said P f [] all = tt
every_said {A} {B} P f (x ∷ xs) all = go (f x) refl (every_said P f xs (λ z y here e. all z y (inr here) e))
  where
    go : (o : Option B) → f x ≡ o → Every P (filter_map f xs) → Every P (cons_option o (filter_map f xs))
    go None e rest = rest
    go (Some y) e rest = (all x y (inl refl) e, rest)

-- tests that agree on each item agree on the list
pub any_same : {A : Type 0} (p q : A → Bool) → ((x : A) → p x ≡ q x) → (xs : List A) → list_any p xs ≡ list_any q xs
any_same p q same [] = refl
any_same p q same (x ∷ xs) = ap₂ (λ (a b : Bool). a || b) (same x) (any_same p q same xs)

pub all_same : {A : Type 0} (p q : A → Bool) → ((x : A) → p x ≡ q x) → (xs : List A) → list_all p xs ≡ list_all q xs
all_same p q same [] = refl
all_same p q same (x ∷ xs) = ap₂ (λ (a b : Bool). a && b) (same x) (all_same p q same xs)

pub filter_same : {A : Type 0} (p q : A → Bool) (xs : List A) → ((x : A) → In x xs → p x ≡ q x) → filter p xs ≡ filter q xs
filter_same p q [] same = refl
filter_same p q (x ∷ xs) same = ap₂ (λ b ys. if b then x ∷ ys else ys) (same x (inl refl)) (filter_same p q xs (λ y here. same y (inr here)))

-- a choice of what is made of both
pub if_with : {A B : Type 0} (f : A → B) (b : Bool) (x y : A) → f (if b then x else y) ≡ (if b then f x else f y)
if_with f true x y = refl
if_with f false x y = refl
