-- The needs of a statement of the schema: their conditions fit the columns of their relations.
use Rattle.std.proofs.Common.{◌≡◌, ℕ, zero, suc, ◌-◌, ◌<◌, ◌≤◌, List, [], ◌∷◌, ◌++◌, length, refl, ap, ◌∙◌, arith}
use Rattle.std.specs.List.{AllByRecursion, slice_get}

-- what a list has at a place of its front, and past it
pub get_front : {A : Type 0} (xs ys : List A) (i : ℕ) → i < length xs → slice_get (xs ++ ys) i ≡ slice_get xs i
get_front [] ys i within = absurd (omega arith)
get_front (x ∷ xs) ys zero within = refl
get_front (x ∷ xs) ys (suc i) within = get_front xs ys i (omega arith)

pub get_past : {A : Type 0} (xs ys : List A) (i : ℕ) → length xs ≤ i → slice_get (xs ++ ys) i ≡ slice_get ys (i - length xs)
get_past [] ys i past = let e : i ≡ i - 0 = omega arith in ap (slice_get ys) e
get_past (x ∷ xs) ys zero past = absurd (omega arith)
get_past (x ∷ xs) ys (suc i) past =
    let e : i - length xs ≡ suc i - suc (length xs) = omega arith in
    get_past xs ys i (omega arith) ∙ ap (slice_get ys) e

-- conditions on one side of a join, and those carried to a column
pub all_both : {A : Type 0} (P : A → Type 0) (xs ys : List A) → AllByRecursion P xs → AllByRecursion P ys → AllByRecursion P (xs ++ ys)
all_both P [] ys one two = two
all_both P (x ∷ xs) ys one two = (one.0, all_both P xs ys one.1 two)
