-- Rows that fit, put together and cut.
use Rattle.std.proofs.Common.{◌≡◌, ℕ, ℤ, ◌<ℤ◌, List, [], ◌∷◌, Bool, true, false, cond, ◌||◌, int_lt, insert, filter, subst, refl, ap, sym, ◌∙◌}
use Rattle.std.specs.List.{AllByRecursion}
use Rattle.std.proofs.lemmas.Bool.{false≢true}
use Rattle.std.specs.Ordering.{int_eq}
use Rattle.terms.specs.declared.value.Value.{Value}
use Rattle.terms.specs.Row.{key_of}
use Rattle.meaning.specs.Relation.{Ascends, has_key, insert_row, GoesAt}
use Rattle.meaning.proofs.Keys.{lt_below, below_other, below_trans}

-- what holds of a row and of each of some rows holds of each of all together
pub All-insert_row : (P : List Value → Type 0) (row : List Value) (rows : List (List Value)) → P row → AllByRecursion P rows → AllByRecursion P (insert_row row rows)
All-insert_row P row [] here all = (here, tt)
All-insert_row P row (other ∷ rows) here all =
    elim (int_lt (key_of row) (key_of other)) as (λ t. AllByRecursion P (cond t (row ∷ other ∷ rows) (other ∷ insert_row row rows))) [
      | true ↦ (here, all)
      | false ↦ (all.0, All-insert_row P row rows here all.1)
    ]

-- what is below a row is below all rows after that row
pub below_all : (key : ℤ) (row : List Value) (rows : List (List Value)) → key <ℤ key_of row → AllByRecursion (λ later. key_of row <ℤ key_of later) rows → AllByRecursion (λ later. key <ℤ key_of later) rows
below_all key row [] below all = tt
below_all key row (other ∷ rows) below all = (below_trans key (key_of row) (key_of other) below all.0, below_all key row rows below all.1)

pub or_false : (a b : Bool) → (a || b) ≡ false → (a ≡ false) × (b ≡ false)
or_false true b h = absurd (false≢true (sym h))
or_false false b h = (refl, h)

-- a row whose key is not there keeps the order
pub Ascends-insert_row : (row : List Value) (rows : List (List Value)) → has_key (key_of row) rows ≡ false → Ascends rows → Ascends (insert_row row rows)
Ascends-insert_row row [] absent order = (tt, tt)
Ascends-insert_row row (other ∷ rows) absent order =
    let apart = or_false (int_eq (key_of other) (key_of row)) (has_key (key_of row) rows) absent in
    elim (int_lt (key_of row) (key_of other)) as (λ t. int_lt (key_of row) (key_of other) ≡ t → Ascends (cond t (row ∷ other ∷ rows) (other ∷ insert_row row rows))) [
      | true ↦ λ is.
          let below = lt_below (key_of row) (key_of other) is in
          ((below, below_all (key_of row) other rows below order.0), order)
      | false ↦ λ is.
          (All-insert_row (λ later. key_of other <ℤ key_of later) row rows (below_other (key_of other) (key_of row) apart.0 is) order.0, Ascends-insert_row row rows apart.1 order.1)
    ] refl

-- an insertion at the row's place keeps the order
pub Ascends-insert : (found rows new : List (List Value)) (row : List Value) (place : ℕ) → found ≡ rows → has_key (key_of row) found ≡ false → GoesAt found row place → new ≡ insert rows place row → Ascends rows → Ascends new
Ascends-insert found rows new row place same absent goes is order =
    let whole : new ≡ insert_row row rows = is ∙ ap (λ xs. insert xs place row) (sym same) ∙ goes.inserted ∙ ap (insert_row row) same in
    let P : List (List Value) → Type 0 = Ascends in
    subst P (sym whole) (Ascends-insert_row row rows (ap (has_key (key_of row)) (sym same) ∙ absent) order)

-- what holds of each row holds of each row that passes a test
pub All-passed : (P : List Value → Type 0) (test : List Value → Bool) (rows : List (List Value)) → AllByRecursion P rows → AllByRecursion P (filter test rows)
All-passed P test [] all = tt
All-passed P test (row ∷ rows) all =
    elim (test row) as (λ t. AllByRecursion P (cond t (row ∷ filter test rows) (filter test rows))) [
      | true ↦ (all.0, All-passed P test rows all.1)
      | false ↦ All-passed P test rows all.1
    ]

-- the rows that pass a test keep their order
pub Ascends-passed : (test : List Value → Bool) (rows : List (List Value)) → Ascends rows → Ascends (filter test rows)
Ascends-passed test [] order = tt
Ascends-passed test (row ∷ rows) order =
    elim (test row) as (λ t. Ascends (cond t (row ∷ filter test rows) (filter test rows))) [
      | true ↦ (All-passed (λ later. key_of row <ℤ key_of later) test rows order.0, Ascends-passed test rows order.1)
      | false ↦ Ascends-passed test rows order.1
    ]
