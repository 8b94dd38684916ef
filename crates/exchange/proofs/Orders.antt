-- What is looked for among names.
use Rattle.std.proofs.Common.{◌≡◌, ℕ, ◌+◌, ◌<◌, ◌||◌, Bool, true, false, not, nat_eq, cond, List, [], ◌∷◌, length, map, take, drop, get_or, Option, Some, Bor, arith, ap, refl, sym, ◌∙◌, add-one, drop-cons}
use Rattle.std.specs.Cmp.Lexicographic.{pointwise}
use Rattle.std.specs.List.{list_any, position, position_or_len}
use Rattle.std.proofs.lemmas.List.{get_or-map, length-map, take-map, take_more}
use Rattle.std.proofs.lemmas.Grind.{common_steps}
use Rattle.std.specs.Option.{ok_or}
use Rattle.meaning.specs.declared.schema.Column.{Column}
use Rattle.exchange.specs.declared.order.HeaderFault.TheVariants.{Lacking}
use Rattle.exchange.specs.Order.{place_of, twice_after}

-- what references are to, looked for as the references are
pub any-map : {A B : Type 0} (see : A → B) (test : B → Bool) (xs : List A) → list_any (λ x. test (see x)) xs ≡ list_any test (map see xs)
any-map see test [] = refl
any-map see test (x ∷ xs) = ap (λ rest. test (see x) || rest) (any-map see test xs)

place-map : {A B : Type 0} (see : A → B) (test : B → Bool) (xs : List A) → position_or_len (λ x. test (see x)) xs ≡ position_or_len test (map see xs)
place-map see test [] = refl
place-map see test (x ∷ xs) = ap (λ n. cond (not (test (see x))) (1 + n) 0) (place-map see test xs)

pub position-map : {A B : Type 0} (see : A → B) (test : B → Bool) (xs : List A) → position (λ x. test (see x)) xs ≡ position test (map see xs)
position-map see test xs = rw (place-map see test xs, length-map xs see) refl

-- ---- a name that stands before

-- the rest from a place on
pub rest_from : {A : Type 0} (xs : List A) (i : ℕ) (x : A) → i < length xs → drop i xs ≡ get_or xs i x ∷ drop (i + 1) xs
rest_from xs i x within = rw (add-one, drop-cons xs i x) refl

pub twice_found : (names : List (List ℕ)) (i : ℕ) (name : List ℕ) → i < length names → list_any (λ other. pointwise nat_eq other (get_or names i name)) (take i names) ≡ true
    → twice_after (take i names) (drop i names) ≡ Some i
twice_found names i name within found =
    let taken : length (take i names) ≡ i = grind (arith, common_steps) in
    rw (rest_from names i name within, found, taken) refl

pub twice_on : (names : List (List ℕ)) (i : ℕ) (name : List ℕ) → i < length names → list_any (λ other. pointwise nat_eq other (get_or names i name)) (take i names) ≡ false
    → twice_after (take i names) (drop i names) ≡ twice_after (take (i + 1) names) (drop (i + 1) names)
twice_on names i name within not_found = rw (rest_from names i name within, not_found, take_more names i name within) refl

-- whether the name at a place stands before it, as references say it
pub stands_before : (names : List (Bor (List ℕ))) (i : ℕ) (name : Bor (List ℕ)) (answer : Bool) → i < length names → answer ≡ list_any (λ other. pointwise nat_eq other.now (get_or names i name).now) (take i names)
    → list_any (λ other. pointwise nat_eq other (get_or (map (λ x. x.now) names) i name.now)) (take i (map (λ x. x.now) names)) ≡ answer
stands_before names i name answer within is =
    rw (take-map (λ (x : Bor (List ℕ)). x.now) i names, get_or-map (λ (x : Bor (List ℕ)). x.now) names i name name.now within) (sym (is ∙ any-map (λ (x : Bor (List ℕ)). x.now) (λ other. pointwise nat_eq other (get_or names i name).now) (take i names)))

-- ---- the place of a column

-- a column's place, as it was looked for among references
pub place_is : (names : List (Bor (List ℕ))) (number : ℕ) (column : Column) (name : List ℕ) (found answer : Option ℕ) → name ≡ column.name → found ≡ position (λ other. pointwise nat_eq other.now name) names → found ≡ answer
    → place_of (map (λ x. x.now) names) number column ≡ ok_or answer (Lacking number)
place_is names number column name found answer same is answered =
    let at : (wanted : List ℕ) → Option ℕ = λ wanted. position (λ (other : Bor (List ℕ)). pointwise nat_eq other.now wanted) names in
    let there = position-map (λ (x : Bor (List ℕ)). x.now) (λ other. pointwise nat_eq other column.name) names in
    ap (λ place. ok_or place (Lacking number)) (sym there ∙ sym (ap at same) ∙ sym is ∙ answered)
