-- One column: its test values fit, and one of them compares with every constant as a given value does.
use Rattle.std.proofs.Common.{◌≡◌, ℕ, zero, suc, ℤ, pos, negsuc, ◌+ℤ◌, List, [], ◌∷◌, ◌++◌, Option, Some, None, true, false, refl, ap, ◌∙◌, subst, arith, length-append, Contains, option_to_list}
use Rattle.std.specs.Prelude.{FitsSigned, int_lt}
use Rattle.std.specs.List.{AllByRecursion, flat_map}
use Rattle.std.specs.Int.{w64}
use Rattle.std.specs.Str.{chars, IsAscii}
use Rattle.std.specs.Ordering.{is_gt}
use Rattle.std.proofs.lemmas.Int.{ints}
use Rattle.std.proofs.lemmas.Bool.{cond_both}
use Rattle.std.proofs.lemmas.List.Elements.{recursion_from_All, All-contains_itself, All-nil, All-push, All-same}
use Rattle.std.proofs.lemmas.Str.{IsUtf8-nil, IsUtf8-append, IsUtf8-from_ascii, chars-nil, chars-append, chars-IsAscii}
use Rattle.terms.specs.declared.value.Kind.{Kind}
use Rattle.terms.specs.declared.value.Kind.TheVariants as kinds
use Rattle.terms.specs.declared.value.Value.{Value}
use Rattle.terms.specs.declared.value.Value.TheVariants.{Int, Text}
use Rattle.terms.specs.Text.{IsTextUpTo, IsPrintable}
use Rattle.terms.specs.Value.{value_cmp, kind_of}
use Rattle.terms.specs.Order.{value_cmp_total}
use Rattle.terms.specs.Cond.{FitsConstant}
use Rattle.terms.specs.TestValues.{least, after, with_after, test_values}
use Rattle.terms.proofs.Floor.{floor, floor_keeps, floor_below, floor_catches, alike_at}
use Rattle.terms.proofs.Successors.{IsValueOf, successor, least_not_above}

-- a constant of a type
pub record IsConstantOf (kind : Kind) (constant : Value) : Type 0 where
  pub of_kind : kind_of constant ≡ kind
  pub fits : FitsConstant constant

-- what holds of each element of two lists, joined
pub all_append : {X : Type 0} (P : X → Type 0) (xs ys : List X) → AllByRecursion P xs → AllByRecursion P ys → AllByRecursion P (xs ++ ys)
all_append P [] ys front back = back
all_append P (x ∷ xs) ys front back = (front.0, all_append P xs ys front.1 back)

pub all_front : {X : Type 0} (P : X → Type 0) (xs ys : List X) → AllByRecursion P (xs ++ ys) → AllByRecursion P xs
all_front P [] ys all = tt
all_front P (x ∷ xs) ys all = (all.0, all_front P xs ys all.1)

pub all_back : {X : Type 0} (P : X → Type 0) (xs ys : List X) → AllByRecursion P (xs ++ ys) → AllByRecursion P ys
all_back P [] ys all = all
all_back P (x ∷ xs) ys all = all_back P xs ys all.1

least_int_fits : FitsSigned w64 (negsuc 9223372036854775807)
least_int_fits = omega (arith, ints)

next_fits : (n : ℤ) → FitsSigned w64 n → int_lt n (pos 9223372036854775807) ≡ true → FitsSigned w64 (n +ℤ pos 1)
next_fits n fits below = grind (arith, ints)

empty_is_text : IsTextUpTo 200 []
empty_is_text = record { short = omega arith; utf8 = IsUtf8-nil; printable = All-same IsPrintable (chars []) [] chars-nil (All-nil IsPrintable) }

space_ascii : IsAscii (32 ∷ [])
space_ascii zero = omega arith
space_ascii (suc i) = omega arith

space_is_printable : IsPrintable 32
space_is_printable = (omega arith, λ same. omega arith)

longer_is_text : (bytes : List ℕ) → IsTextUpTo 100 bytes → IsTextUpTo 200 (bytes ++ 32 ∷ [])
longer_is_text bytes is_text =
    let ascii = chars-IsAscii (32 ∷ []) space_ascii in
    let pushed : chars (bytes ++ 32 ∷ []) ≡ chars bytes ++ 32 ∷ [] = chars-append bytes (32 ∷ []) is_text.utf8 ∙ ap (λ (cs : List ℕ). chars bytes ++ cs) ascii in
    let printable = All-same IsPrintable (chars (bytes ++ 32 ∷ [])) (chars bytes ++ 32 ∷ []) pushed (All-push IsPrintable (chars bytes) 32 is_text.printable space_is_printable) in
    record { short = let short = is_text.short in omega (arith, length-append bytes (32 ∷ [])); utf8 = IsUtf8-append bytes (32 ∷ []) is_text.utf8 (IsUtf8-from_ascii (32 ∷ []) space_ascii); printable = printable }

least_is : (kind : Kind) → IsValueOf kind (least kind)
least_is kinds.Int = record { of_kind = refl; fits = least_int_fits }
least_is kinds.Text = record { of_kind = refl; fits = empty_is_text }

constant_is : (kind : Kind) (constant : Value) → IsConstantOf kind constant → IsValueOf kind constant
constant_is kind (Int n) is = record { of_kind = is.of_kind; fits = is.fits }
constant_is kind (Text bytes) is = record { of_kind = is.of_kind; fits = record { short = let short = is.fits.short in omega arith; utf8 = is.fits.utf8; printable = is.fits.printable } }

after_is : (kind : Kind) (constant : Value) → IsConstantOf kind constant → AllByRecursion (IsValueOf kind) (option_to_list (after constant))
after_is kind (Int n) is =
    let P : Option Value → Type 0 = λ next. AllByRecursion (IsValueOf kind) (option_to_list next) in
    cond_both (int_lt n (pos 9223372036854775807)) (Some (Int (n +ℤ pos 1))) None P (λ below. (record { of_kind = is.of_kind; fits = next_fits n is.fits below }, tt)) (λ _. tt)
after_is kind (Text bytes) is = (record { of_kind = is.of_kind; fits = longer_is_text bytes is.fits }, tt)

others_are : (kind : Kind) (constants : List Value) → AllByRecursion (IsConstantOf kind) constants → AllByRecursion (IsValueOf kind) (flat_map with_after constants)
others_are kind [] all = tt
others_are kind (c ∷ constants) all =
    all_append (IsValueOf kind) (with_after c) (flat_map with_after constants) (constant_is kind c all.0, after_is kind c all.0) (others_are kind constants all.1)

-- the test values of a column fit it
pub tests_are_values : (kind : Kind) (constants : List Value) → AllByRecursion (IsConstantOf kind) constants → AllByRecursion (IsValueOf kind) (test_values kind constants)
tests_are_values kind constants all = (least_is kind, others_are kind constants all)

-- the test value that stands for x
abbrev pub stand_in : Kind → List Value → Value → Value
stand_in kind constants x = floor value_cmp x (least kind) (flat_map with_after constants)

pub stand_in_is : (kind : Kind) (constants : List Value) (x : Value) → AllByRecursion (IsConstantOf kind) constants → IsValueOf kind (stand_in kind constants x)
stand_in_is kind constants x all = floor_keeps value_cmp (IsValueOf kind) x (least kind) (flat_map with_after constants) (least_is kind) (others_are kind constants all)

pub stand_in_is_test : (kind : Kind) (constants : List Value) (x : Value) → Contains (test_values kind constants) (stand_in kind constants x)
stand_in_is_test kind constants x =
    let tests = test_values kind constants in
    let all = recursion_from_All (Contains tests) tests (All-contains_itself tests) in
    floor_keeps value_cmp (Contains tests) x (least kind) (flat_map with_after constants) all.0 all.1

-- that t is not below s, where x is not
abbrev Catches : Value → Value → Value → Type 0
Catches x t s = is_gt (value_cmp s x) ≡ false → is_gt (value_cmp s t) ≡ false

alike_each : (kind : Kind) (x t : Value) → IsValueOf kind x → is_gt (value_cmp t x) ≡ false → (constants : List Value) → AllByRecursion (IsConstantOf kind) constants → AllByRecursion (Catches x t) (flat_map with_after constants) → AllByRecursion (λ c. value_cmp t c ≡ value_cmp x c) constants
alike_each kind x t is below [] all caught = tt
alike_each kind x t is below (c ∷ constants) all caught =
    let own = all_front (Catches x t) (with_after c) (flat_map with_after constants) caught in
    let P : Option Value → Type 0 = λ next. AllByRecursion (Catches x t) (option_to_list next) in (
      alike_at value_cmp_total t x c below own.0 (λ less.
          let next = successor kind c x (all.0).of_kind is less in
          (next.0, next.2, (subst P next.1 own.1).0 next.3)),
      alike_each kind x t is below constants all.1 (all_back (Catches x t) (with_after c) (flat_map with_after constants) caught),
    )

-- it compares with every constant as x does
pub stand_in_alike : (kind : Kind) (constants : List Value) (x : Value) → AllByRecursion (IsConstantOf kind) constants → IsValueOf kind x → AllByRecursion (λ c. value_cmp (stand_in kind constants x) c ≡ value_cmp x c) constants
stand_in_alike kind constants x all is =
    let rest = flat_map with_after constants in
    alike_each kind x (stand_in kind constants x) is (floor_below value_cmp x (least kind) rest (least_not_above kind x is)) constants all (floor_catches value_cmp_total x (least kind) rest)
