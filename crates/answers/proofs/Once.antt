-- No column stands twice among those that are left, put behind others, or counted on from a width.
use Rattle.std.proofs.Common.{◌≡◌, ℕ, ◌+◌, Bool, true, false, cond, not, ◌||◌, ◌==◌, List, [], ◌∷◌, ◌++◌, filter, refl, ap₂, ◌∙◌, arith}
use Rattle.std.specs.List.{AllByRecursion}
use Rattle.std.proofs.lemmas.Bool.Decides.{nat_tests}
use Rattle.catalog.specs.Counts.{has}
use Rattle.plan.specs.Uniform.{AreOnce, beside, past}

-- neither of two
or_neither : (a b : Bool) → a ≡ false → b ≡ false → (a || b) ≡ false
or_neither true b first second = first
or_neither false b first second = second

first_not : (a b : Bool) → (a || b) ≡ false → a ≡ false
first_not true b h = h
first_not false b h = refl

rest_not : (a b : Bool) → (a || b) ≡ false → b ≡ false
rest_not true b h = absurd (cc)
rest_not false b h = h

-- what is left
not_left : (test : ℕ → Bool) (columns : List ℕ) (col : ℕ) → has columns col ≡ false → has (filter test columns) col ≡ false
not_left test [] col none = refl
not_left test (first ∷ columns) col none = at (test first) (not_left test columns col (rest_not (first == col) (has columns col) none))
  where
    at : (t : Bool) → has (filter test columns) col ≡ false → has (cond t (first ∷ filter test columns) (filter test columns)) col ≡ false
    at true more = or_neither (first == col) (has (filter test columns) col) (first_not (first == col) (has columns col) none) more
    at false more = more

pub once_left : (test : ℕ → Bool) (columns : List ℕ) → AreOnce columns → AreOnce (filter test columns)
once_left test [] once = tt
once_left test (col ∷ columns) once = at (test col) (once_left test columns once.1)
  where
    at : (t : Bool) → AreOnce (filter test columns) → AreOnce (cond t (col ∷ filter test columns) (filter test columns))
    at true more = (not_left test columns col once.0, more)
    at false more = more

-- what is put behind others
has_apart : (front columns : List ℕ) (col : ℕ) → has front col ≡ false → has columns col ≡ false → has (front ++ columns) col ≡ false
has_apart [] columns col none none_other = none_other
has_apart (first ∷ front) columns col none none_other =
    or_neither (first == col) (has (front ++ columns) col) (first_not (first == col) (has front col) none) (has_apart front columns col (rest_not (first == col) (has front col) none) none_other)

turned : (a b : ℕ) → (a == b) ≡ false → (b == a) ≡ false
turned a b apart = grind (arith, nat_tests)

not_among : (first : ℕ) (front columns : List ℕ) → AllByRecursion (λ col. has (first ∷ front) col ≡ false) columns → has columns first ≡ false
not_among first front [] apart = refl
not_among first front (col ∷ columns) apart =
    or_neither (col == first) (has columns first) (turned first col (first_not (first == col) (has front col) apart.0)) (not_among first front columns apart.1)

without_first : (first : ℕ) (front columns : List ℕ) → AllByRecursion (λ col. has (first ∷ front) col ≡ false) columns → AllByRecursion (λ col. has front col ≡ false) columns
without_first first front [] apart = tt
without_first first front (col ∷ columns) apart = (rest_not (first == col) (has front col) apart.0, without_first first front columns apart.1)

once_apart : (front columns : List ℕ) → AreOnce front → AreOnce columns → AllByRecursion (λ col. has front col ≡ false) columns → AreOnce (front ++ columns)
once_apart [] columns once once_other apart = once_other
once_apart (first ∷ front) columns once once_other apart =
    (has_apart front columns first once.0 (not_among first front columns apart), once_apart front columns once.1 once_other (without_first first front columns apart))

not_of : (t : Bool) → not t ≡ true → t ≡ false
not_of true h = absurd (cc)
not_of false h = refl

new_apart : (front columns : List ℕ) → AllByRecursion (λ col. has front col ≡ false) (filter (λ col. not (has front col)) columns)
new_apart front [] = tt
new_apart front (col ∷ columns) = at (has front col) refl (new_apart front columns)
  where
    at : (t : Bool) → has front col ≡ t → AllByRecursion (λ other. has front other ≡ false) (filter (λ other. not (has front other)) columns) →
        AllByRecursion (λ other. has front other ≡ false) (cond (not t) (col ∷ filter (λ other. not (has front other)) columns) (filter (λ other. not (has front other)) columns))
    at true is more = more
    at false is more = (is, more)

pub once_beside : (columns others : List ℕ) → AreOnce columns → AreOnce others → AreOnce (beside columns others)
once_beside columns others once once_other =
    once_apart columns (filter (λ col. not (has columns col)) others) once (once_left (λ col. not (has columns col)) others once_other) (new_apart columns others)

-- what is counted on from a width
same_past : (width a b : ℕ) → (width + a == width + b) ≡ (a == b)
same_past width a b = grind (arith, nat_tests)

has_past : (width : ℕ) (columns : List ℕ) (col : ℕ) → has (past width columns) (width + col) ≡ has columns col
has_past width [] col = refl
has_past width (first ∷ columns) col = ap₂ (λ (a b : Bool). a || b) (same_past width first col) (has_past width columns col)

pub once_past : (width : ℕ) (columns : List ℕ) → AreOnce columns → AreOnce (past width columns)
once_past width [] once = tt
once_past width (col ∷ columns) once = (has_past width columns col ∙ once.0, once_past width columns once.1)
