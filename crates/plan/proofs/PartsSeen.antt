-- What a leaf's part of a row shows: the row's values in the leaf's columns, and of them the conditions that were carried.
use Rattle.std.proofs.Common.{◌≡◌, ℕ, zero, suc, ◌<◌, Bool, true, false, cond, ◌||◌, ◌==◌, List, [], ◌∷◌, length, Option, Some, None, option_map, option_and_then, refl, ap, sym, ◌∙◌, subst, arith}
use Rattle.std.specs.List.{AllByRecursion, cons_option, slice_get}
use Rattle.std.proofs.Math.Path.{fun_ext}
use Rattle.std.proofs.lemmas.Bool.Decides.{nat_tests}
use Rattle.terms.specs.declared.cond.Cond.{Cond}
use Rattle.terms.specs.declared.value.Kind.{Kind}
use Rattle.terms.specs.declared.value.Value.{Value}
use Rattle.terms.specs.Cond.{cond_holds, conds_hold, holds_of}
use Rattle.terms.specs.Row.{FitsKinds}
use Rattle.meaning.specs.Listed.{listed}
use Rattle.catalog.specs.Counts.{has}
use Rattle.plan.specs.Fetch.{place_in, placed}
use Rattle.plan.specs.Need.{on_column}
use Rattle.plan.specs.Rows.{seen_of, seen_part}
use Rattle.plan.proofs.CarriedConds.{and_true, both}

-- a row has a value in a column
abbrev pub IsThere : List Value → ℕ → Type 0
IsThere row col = (value : Value) × (slice_get row col ≡ Some value)

pub there_within : (kinds : List Kind) (row : List Value) (col : ℕ) → FitsKinds kinds row → col < length kinds → IsThere row col
there_within [] row col fits within = absurd (omega arith)
there_within (kind ∷ kinds) [] col fits within = absurd fits
there_within (kind ∷ kinds) (value ∷ row) zero fits within = (value, refl)
there_within (kind ∷ kinds) (value ∷ row) (suc col) fits within = there_within kinds row col fits.2 (omega arith)

pub all_there : (kinds : List Kind) (row : List Value) (columns : List ℕ) → FitsKinds kinds row → AllByRecursion (λ col. col < length kinds) columns → AllByRecursion (IsThere row) columns
all_there kinds row [] fits all = tt
all_there kinds row (col ∷ columns) fits all = (there_within kinds row col fits all.0, all_there kinds row columns fits all.1)

-- the values of a list of columns, of which the first is there
listed_first : (col : ℕ) (columns : List ℕ) (row : List Value) (value : Value) → slice_get row col ≡ Some value → listed (col ∷ columns) row ≡ value ∷ listed columns row
listed_first col columns row value there = ap (λ (o : Option Value). cons_option o (listed columns row)) there

part_later : (place : Option ℕ) (value : Value) (part : List Value) → option_and_then (slice_get (value ∷ part)) (option_map suc place) ≡ option_and_then (slice_get part) place
part_later None value part = refl
part_later (Some place) value part = refl

part_step : (first col : ℕ) (row part : List Value) (value : Value) (place : Option ℕ) (t rest : Bool) → (first == col) ≡ t → slice_get row first ≡ Some value →
    option_and_then (slice_get part) place ≡ cond rest (slice_get row col) None → option_and_then (slice_get (value ∷ part)) (cond t (Some 0) (option_map suc place)) ≡ cond (t || rest) (slice_get row col) None
part_step first col row part value place true rest is there more = let same : first ≡ col = grind (arith, nat_tests) in sym there ∙ ap (slice_get row) same
part_step first col row part value place false rest is there more = part_later place value part ∙ more

-- what a part shows of a column is the row's value, if the column is among the part's
pub part_seen : (columns : List ℕ) (row : List Value) (col : ℕ) → AllByRecursion (IsThere row) columns → seen_part columns (listed columns row) col ≡ cond (has columns col) (slice_get row col) None
part_seen [] row col all = refl
part_seen (first ∷ columns) row col all =
    let parts : listed (first ∷ columns) row ≡ all.0.0 ∷ listed columns row = listed_first first columns row all.0.0 all.0.1 in
    ap (λ (part : List Value). option_and_then (slice_get part) (place_in col (first ∷ columns))) parts
    ∙ part_step first col row (listed columns row) all.0.0 (place_in col columns) (first == col) (has columns col) refl all.0.1 (part_seen columns row col all.1)

-- a leaf has the key
key_seen : (zero_is here rest : Bool) → (zero_is ≡ true → here ≡ true) → (here || rest) ≡ (zero_is || (here || rest))
key_seen true here rest is = let h : here ≡ true = is refl in rw h refl
key_seen false here rest is = refl

pub part_is : (columns : List ℕ) (row : List Value) → AllByRecursion (IsThere row) (0 ∷ columns) → seen_part (0 ∷ columns) (listed (0 ∷ columns) row) ≡ seen_of (0 ∷ columns) row
part_is columns row all =
    fun_ext (λ col. part_seen (0 ∷ columns) row col all ∙ ap (λ (t : Bool). cond t (slice_get row col) None) (key_seen (col == 0) (0 == col) (has columns col) (λ h. turned col h)))
  where
    turned : (col : ℕ) → (col == 0) ≡ true → (0 == col) ≡ true
    turned col h = grind (arith, nat_tests)

among_step : (t rest : Bool) (o : Option ℕ) (place : ℕ) → ((later : ℕ) → o ≡ Some later → rest ≡ true) → cond t (Some 0) (option_map suc o) ≡ Some place → (t || rest) ≡ true
among_step true rest o place more h = refl
among_step false rest None place more h = absurd (cc)
among_step false rest (Some later) place more h = more later refl

among : (col : ℕ) (columns : List ℕ) (place : ℕ) → place_in col columns ≡ Some place → has columns col ≡ true
among col [] place is = absurd (cc)
among col (first ∷ columns) place is = among_step (first == col) (has columns col) (place_in col columns) place (among col columns) is

-- the place of a column among a part's has the row's value
pub at_place : (columns : List ℕ) (row : List Value) (col place : ℕ) → AllByRecursion (IsThere row) columns → place_in col columns ≡ Some place → slice_get (listed columns row) place ≡ slice_get row col
at_place columns row col place all is =
    let P : Option ℕ → Type 0 = λ o. option_and_then (slice_get (listed columns row)) o ≡ cond (has columns col) (slice_get row col) None in
    let seen = subst P is (part_seen columns row col all) in
    seen ∙ ap (λ (t : Bool). cond t (slice_get row col) None) (among col columns place is)

-- conditions that hold of a row hold of its part, on the places of their columns
placed_step : (columns : List ℕ) (c : Cond) (rest : List Cond) (row : List Value) (o : Option ℕ) → AllByRecursion (IsThere row) columns → place_in c.col columns ≡ o → cond_holds c row ≡ true → conds_hold rest (listed columns row) ≡ true →
    conds_hold (cons_option (option_map (λ place. on_column place c) o) rest) (listed columns row) ≡ true
placed_step columns c rest row None all is here more = more
placed_step columns c rest row (Some place) all is here more =
    and_true (cond_holds (on_column place c) (listed columns row)) (conds_hold rest (listed columns row)) (ap (holds_of c) (at_place columns row c.col place all is) ∙ here) more

pub placed_holds : (columns : List ℕ) (conds : List Cond) (row : List Value) → AllByRecursion (IsThere row) columns → conds_hold conds row ≡ true → conds_hold (placed columns conds) (listed columns row) ≡ true
placed_holds columns [] row all h = refl
placed_holds columns (c ∷ conds) row all h =
    let here = both (cond_holds c row) (conds_hold conds row) h in
    placed_step columns c (placed columns conds) row (place_in c.col columns) all refl here.0 (placed_holds columns conds row all here.1)
