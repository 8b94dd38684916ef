-- Conditions of a joined relation, put on the columns of both: they hold of a row of both exactly where they hold of the joined row.
use Rattle.std.proofs.Common.{◌≡◌, ℕ, zero, suc, ℤ, ◌+◌, ◌-◌, ◌==◌, ◌&&◌, Bool, false, if◌then◌else◌, List, [], ◌∷◌, ◌++◌, length, Some, refl, ap, ap₂, sym, ◌∙◌, subst, arith}
use Rattle.std.proofs.lemmas.Bool.Decides.{nat_tests}
use Rattle.std.proofs.lemmas.Option.{slice_get_within}
use Rattle.std.specs.List.{AllByRecursion, slice_get}
use Rattle.terms.specs.declared.cond.Cond.{Cond}
use Rattle.terms.specs.declared.value.Kind.{Kind}
use Rattle.terms.specs.declared.value.Kind.TheVariants as kinds
use Rattle.terms.specs.declared.value.Value.{Value}
use Rattle.terms.specs.declared.value.Value.TheVariants.{Int}
use Rattle.terms.specs.Cond.{IsCondOf, conds_hold, holds_of}
use Rattle.terms.specs.Row.{FitsKinds, key_of}
use Rattle.terms.specs.Value.{kind_of}
use Rattle.plan.specs.declared.stated.Places.{Places}
use Rattle.plan.specs.Need.{on_column}
use Rattle.plan.specs.Picked.{AreJoined, joined_places, own_places, place_of, put_on}
use Rattle.plan.proofs.Columns.{fits_at, fits_set}
use Rattle.plan.proofs.JoinFound.{fits_long}
use Rattle.plan.proofs.Meeting.{first_of, integer, rest_of}
use Rattle.plan.proofs.NeedsFit.{get_front, get_past}

-- what a list of both has at the place of a joined column
tail_at : {A : Type 0} (second : List A) (place : ℕ) → slice_get second (suc place) ≡ slice_get (rest_of second) place
tail_at [] place = refl
tail_at (first ∷ rest) place = refl

placed_past : (places : Places) (place : ℕ) → place_of places (suc place) ≡ places.past + suc place
placed_past places place = let later : (suc place == 0) ≡ false = grind (arith, nat_tests) in ap (λ (first : Bool). if first then places.key else places.past + suc place) later

get_placed : {A : Type 0} (first second : List A) (value : A) (col place : ℕ) → slice_get first col ≡ Some value → slice_get (first ++ second) (place_of (joined_places col (length first)) place) ≡ slice_get (value ∷ rest_of second) place
get_placed first second value col zero at = get_front first second col (slice_get_within first col value at) ∙ at
get_placed first second value col (suc place) at =
    let past : length first + suc place - length first ≡ suc place = omega arith in
    ap (slice_get (first ++ second)) (placed_past (joined_places col (length first)) place) ∙ get_past first second (length first + suc place) (omega arith) ∙ ap (slice_get second) past ∙ tail_at second place

-- conditions put on places ask of one row what they ask of another
pub placed_holds : (places : Places) (row other : List Value) → ((place : ℕ) → slice_get row (place_of places place) ≡ slice_get other place) → (conds : List Cond) → conds_hold (put_on places conds) row ≡ conds_hold conds other
placed_holds places row other same [] = refl
placed_holds places row other same (c ∷ conds) = ap₂ (λ one all. one && all) (ap (holds_of c) (same c.col)) (placed_holds places row other same conds)

placed_fit : (types others : List Kind) (places : Places) → ((place : ℕ) → slice_get types (place_of places place) ≡ slice_get others place) → (conds : List Cond) → AllByRecursion (IsCondOf others) conds → AllByRecursion (IsCondOf types) (put_on places conds)
placed_fit types others places same [] fit = tt
placed_fit types others places same (c ∷ conds) fit = (record { column = same c.col ∙ fit.0.column; constant = fit.0.constant }, placed_fit types others places same conds fit.1)

-- on their own places they are themselves
own_place : (place : ℕ) → place_of own_places place ≡ place
own_place zero = refl
own_place (suc place) = placed_past own_places place ∙ omega arith

pub put_own : (conds : List Cond) → put_on own_places conds ≡ conds
put_own [] = refl
put_own (c ∷ conds) = ap₂ (λ (col : ℕ) (rest : List Cond). on_column col c ∷ rest) (own_place c.col) (put_own conds)

-- conditions that fit the columns of one relation fit those of both
pub front_fit : (types others : List Kind) (conds : List Cond) → AllByRecursion (IsCondOf types) conds → AllByRecursion (IsCondOf (types ++ others)) conds
front_fit types others [] fit = tt
front_fit types others (c ∷ conds) fit =
    (record { column = get_front types others c.col (slice_get_within types c.col (kind_of c.value) fit.0.column) ∙ fit.0.column; constant = fit.0.constant }, front_fit types others conds fit.1)

front_holds : (types : List Kind) (row other : List Value) (conds : List Cond) → length row ≡ length types → AllByRecursion (IsCondOf types) conds → conds_hold conds (row ++ other) ≡ conds_hold conds row
front_holds types row other [] long fit = refl
front_holds types row other (c ∷ conds) long fit =
    let within = slice_get_within types c.col (kind_of c.value) fit.0.column in
    ap₂ (λ one all. one && all) (ap (holds_of c) (get_front row other c.col (omega (arith, within, long)))) (front_holds types row other conds long fit.1)

-- a joined relation's columns are of the same types on their places
kinds_placed : (types others : List Kind) (col : ℕ) → AreJoined types others col → (place : ℕ) → slice_get (types ++ others) (place_of (joined_places col (length types)) place) ≡ slice_get others place
kinds_placed types others col joined place =
    let At : List Kind → Type 0 = λ all. slice_get (types ++ others) (place_of (joined_places col (length types)) place) ≡ slice_get all place in
    subst At (sym (first_kind others joined.key)) (get_placed types others kinds.Int col place joined.column)
  where
    first_kind : (all : List Kind) → slice_get all 0 ≡ Some kinds.Int → all ≡ kinds.Int ∷ rest_of all
    first_kind [] key = absurd (cc)
    first_kind (kind ∷ rest) key = let same : kind ≡ kinds.Int = cc in ap (λ k. k ∷ rest) same

pub joined_put : (types others : List Kind) (col : ℕ) (conds : List Cond) → AreJoined types others col → AllByRecursion (IsCondOf others) conds → AllByRecursion (IsCondOf (types ++ others)) (put_on (joined_places col (length types)) conds)
joined_put types others col conds joined fit = placed_fit (types ++ others) others (joined_places col (length types)) (kinds_placed types others col joined) conds fit

-- a row of both relations, which tells of conditions what a row of each tells, where their columns of ON agree
pub record IsPair (types others : List Kind) (col : ℕ) (pair row other : List Value) : Type 0 where
  pub fits : FitsKinds types row
  pub fits_other : FitsKinds others other
  pub joined : slice_get row col ≡ Some (Int (key_of other))
  pub own : (conds : List Cond) → AllByRecursion (IsCondOf types) conds → conds_hold conds pair ≡ conds_hold conds row
  pub placed : (conds : List Cond) → conds_hold (put_on (joined_places col (length types)) conds) pair ≡ conds_hold conds other

-- such rows, one behind the other
pub fits_both : (types others : List Kind) (row other : List Value) → FitsKinds types row → FitsKinds others other → FitsKinds (types ++ others) (row ++ other)
fits_both [] others [] other fits fits_other = fits_other
fits_both [] others (value ∷ row) other fits fits_other = absurd fits
fits_both (kind ∷ types) others [] other fits fits_other = absurd fits
fits_both (kind ∷ types) others (value ∷ row) other fits fits_other = (fits.0, fits.1, fits_both types others row other fits.2 fits_other)

get_behind : (types : List Kind) (row back other : List Value) (n : ℤ) (col : ℕ) → length row ≡ length types → slice_get row col ≡ Some (Int n) → other ≡ Int n ∷ rest_of back → (place : ℕ) → slice_get (row ++ back) (place_of (joined_places col (length types)) place) ≡ slice_get other place
get_behind types row back other n col long at is place =
    ap (λ (width : ℕ). slice_get (row ++ back) (place_of (joined_places col width) place)) (sym long) ∙ get_placed row back (Int n) col place at ∙ ap (λ (r : List Value). slice_get r place) (sym is)

pub pair_of : (types others : List Kind) (col : ℕ) (row other : List Value) → AreJoined types others col → FitsKinds types row → FitsKinds others other → slice_get row col ≡ Some (Int (key_of other)) → IsPair types others col (row ++ other) row other
pair_of types others col row other joins fits fits_other joined =
    let long = fits_long types row fits in
    let key = integer other 0 (fits_at others other 0 kinds.Int fits_other joins.key) in
    let split : other ≡ Int key.0 ∷ rest_of other = first_of other (Int key.0) key.1 in
    let same : key_of other ≡ key.0 = ap key_of split in
    let is : other ≡ Int (key_of other) ∷ rest_of other = split ∙ ap (λ (n : ℤ). Int n ∷ rest_of other) (sym same) in
    record {
      fits = fits;
      fits_other = fits_other;
      joined = joined;
      own = λ conds fit. front_holds types row other conds long fit;
      placed = λ conds. placed_holds (joined_places col (length types)) (row ++ other) other (get_behind types row other other (key_of other) col long joined is) conds;
    }

-- a row of both relations, cut at the width
record Cut (types others : List Kind) (pair : List Value) : Type 0 where
  row : List Value
  back : List Value
  both : pair ≡ row ++ back
  fits : FitsKinds types row
  fits_back : FitsKinds others back

cut : (types others : List Kind) (pair : List Value) → FitsKinds (types ++ others) pair → Cut types others pair
cut [] others pair fits = record { row = []; back = pair; both = refl; fits = tt; fits_back = fits }
cut (kind ∷ types) others [] fits = absurd fits
cut (kind ∷ types) others (value ∷ pair) fits =
    let rest = cut types others pair fits.2 in
    record { row = value ∷ rest.row; back = rest.back; both = ap (λ (r : List Value). value ∷ r) rest.both; fits = (fits.0, fits.1, rest.fits); fits_back = rest.fits_back }

-- and its second part given the value in the column of ON as its key
pub pair_cut : (types others : List Kind) (col : ℕ) (pair : List Value) → AreJoined types others col → FitsKinds (types ++ others) pair → (row : List Value) × (other : List Value) × IsPair types others col pair row other
pair_cut types others col pair joins fits =
    let parts = cut types others pair fits in
    let long = fits_long types parts.row parts.fits in
    let value = integer parts.row col (fits_at types parts.row col kinds.Int parts.fits joins.column) in
    let old = integer parts.back 0 (fits_at others parts.back 0 kinds.Int parts.fits_back joins.key) in
    let split : parts.back ≡ Int old.0 ∷ rest_of parts.back = first_of parts.back (Int old.0) old.1 in
    let other = Int value.0 ∷ rest_of parts.back in
    let Fit : List Value → Type 0 = λ r. FitsKinds others r in
    let fits_split = subst Fit split parts.fits_back in
    let holds : (conds : List Cond) → conds_hold conds pair ≡ conds_hold conds (parts.row ++ parts.back) = λ conds. ap (conds_hold conds) parts.both in (
      parts.row,
      other,
      record {
        fits = parts.fits;
        fits_other = fits_set others (Int old.0 ∷ rest_of parts.back) 0 kinds.Int (Int value.0) fits_split joins.key refl value.2;
        joined = value.1;
        own = λ conds fit. holds conds ∙ front_holds types parts.row parts.back conds long fit;
        placed = λ conds. holds (put_on (joined_places col (length types)) conds) ∙ placed_holds (joined_places col (length types)) (parts.row ++ parts.back) other (get_behind types parts.row parts.back other value.0 col long value.1 refl) conds;
      },
    )
