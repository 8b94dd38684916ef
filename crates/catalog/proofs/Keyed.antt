-- Rows by their keys: what a content has at a key, and that rows with the same at each key are the same.
use Rattle.std.proofs.Common.{◌≡◌, ℕ, ℤ, ◌<ℤ◌, true, false, cond, List, [], ◌∷◌, map, filter, Some, None, option_and_then, refl, ap, ap₂, sym, ◌∙◌, arith}
use Rattle.std.specs.List.{AllByRecursion}
use Rattle.std.specs.Ordering.{int_cmp, int_eq}
use Rattle.std.specs.declared.cmp.Ordering.TheVariants.{Less, Equal, Greater}
use Rattle.std.proofs.lemmas.Int.{ints}
use Rattle.terms.specs.declared.cond.Cond.{Cond}
use Rattle.terms.specs.declared.value.Value.{Value}
use Rattle.terms.specs.declared.value.Value.TheVariants.{Int, Text}
use Rattle.terms.specs.Cond.{conds_hold}
use Rattle.terms.specs.Row.{key_of}
use Rattle.meaning.specs.Listed.{listed}
use Rattle.meaning.specs.Relation.{Ascends}
use Rattle.meaning.proofs.Keys.{below_from_less, above_from_greater}
use Rattle.meaning.proofs.Rows.{below_all}
use Rattle.catalog.specs.Fragment.{part, content}
use Rattle.catalog.specs.Keyed.{row_at}

-- keys against a key that the first of two has

apart : (a b key : ℤ) → a <ℤ b → int_eq a key ≡ true → int_eq b key ≡ false
apart a b key below same = grind (arith, ints)

above : (a key : ℤ) → key <ℤ a → int_eq a key ≡ false
above a key below = grind (arith, ints)

itself : (key : ℤ) → int_eq key key ≡ true
itself key = grind (arith, ints)

-- after a row of a key no row has it
none_after : (key : ℤ) (row : List Value) (rows : List (List Value)) → int_eq (key_of row) key ≡ true → AllByRecursion (λ later. key_of row <ℤ key_of later) rows → row_at key rows ≡ None
none_after key row [] same later = refl
none_after key row (other ∷ rows) same later = rw (apart (key_of row) (key_of other) key later.0 same) (none_after key row rows same later.1)

-- where all keys are above one, no row has it
none_above : (key : ℤ) (rows : List (List Value)) → AllByRecursion (λ later. key <ℤ key_of later) rows → row_at key rows ≡ None
none_above key [] later = refl
none_above key (other ∷ rows) later = rw (above (key_of other) key later.0) (none_above key rows later.1)

listed_of_none : (places : List ℕ) → listed {A = Value} places [] ≡ []
listed_of_none [] = refl
listed_of_none (place ∷ places) = listed_of_none places

-- the values in the columns of a leaf have the key of the row
key-listed : (columns : List ℕ) (row : List Value) → key_of (listed (0 ∷ columns) row) ≡ key_of row
key-listed columns [] = ap key_of (listed_of_none columns)
key-listed columns (Int n ∷ values) = refl
key-listed columns (Text bytes ∷ values) = refl

-- what a leaf's content has at a key is the part of the row that the relation has there
pub content-at : (conds : List Cond) (columns : List ℕ) (key : ℤ) (rows : List (List Value)) → Ascends rows →
    row_at key (content (record { conds = conds; columns = 0 ∷ columns }) rows) ≡ option_and_then (part (record { conds = conds; columns = 0 ∷ columns })) (row_at key rows)
content-at conds columns key [] order = refl
content-at conds columns key (row ∷ rows) order =
    let rest = content-at conds columns key rows order.1 in
    let place = key-listed columns row in
    elim (conds_hold conds row) as (λ h. conds_hold conds row ≡ h →
    row_at key (map (listed (0 ∷ columns)) (cond h (row ∷ filter (conds_hold conds) rows) (filter (conds_hold conds) rows)))
    ≡ option_and_then (part (record { conds = conds; columns = 0 ∷ columns })) (row_at key (row ∷ rows))) [
      | true ↦ λ holds. rw place (
          elim (int_eq (key_of row) key) as (λ t. cond t (Some (listed (0 ∷ columns) row)) (row_at key (map (listed (0 ∷ columns)) (filter (conds_hold conds) rows)))
          ≡ option_and_then (part (record { conds = conds; columns = 0 ∷ columns })) (cond t (Some row) (row_at key rows))) [
            | true ↦ rw holds refl
            | false ↦ rest
          ])
      | false ↦ λ fails.
          elim (int_eq (key_of row) key) as (λ t. int_eq (key_of row) key ≡ t → row_at key (map (listed (0 ∷ columns)) (filter (conds_hold conds) rows))
          ≡ option_and_then (part (record { conds = conds; columns = 0 ∷ columns })) (cond t (Some row) (row_at key rows))) [
            | true ↦ λ here. rw fails (rest ∙ ap (option_and_then (part (record { conds = conds; columns = 0 ∷ columns }))) (none_after key row rows here order.0))
            | false ↦ λ other. rest
          ] refl
    ] refl

equal_key : (a b : ℤ) → int_cmp a b ≡ Equal → int_eq b a ≡ true
equal_key a b is = grind (arith, ints)

-- what rows have at each key after a first row that is the same
same_after : (row other : List Value) (rows others : List (List Value)) → AllByRecursion (λ later. key_of row <ℤ key_of later) rows → AllByRecursion (λ later. key_of other <ℤ key_of later) others → row ≡ other →
    ((key : ℤ) → row_at key (row ∷ rows) ≡ row_at key (other ∷ others)) → (key : ℤ) → row_at key rows ≡ row_at key others
same_after row other rows others order order_other first same key =
    let key_same : int_eq (key_of other) key ≡ int_eq (key_of row) key = ap (λ (r : List Value). int_eq (key_of r) key) (sym first) in
    elim (int_eq (key_of row) key) as (λ t. int_eq (key_of row) key ≡ t → row_at key rows ≡ row_at key others) [
      | true ↦ λ here. none_after key row rows here order ∙ sym (none_after key other others (key_same ∙ here) order_other)
      | false ↦ λ is.
          let one : row_at key (row ∷ rows) ≡ row_at key rows = rw is refl in
          let two : row_at key (other ∷ others) ≡ row_at key others = rw (key_same ∙ is) refl in
          sym one ∙ same key ∙ two
    ] refl

-- ascending rows that have the same at each key are the same
pub same_listing : (one other : List (List Value)) → Ascends one → Ascends other → ((key : ℤ) → row_at key one ≡ row_at key other) → one ≡ other
same_listing [] [] order order_other same = refl
same_listing [] (row ∷ rows) order order_other same =
    let there : row_at (key_of row) (row ∷ rows) ≡ Some row = rw (itself (key_of row)) refl in
    let none = same (key_of row) in cc
same_listing (row ∷ rows) [] order order_other same =
    let there : row_at (key_of row) (row ∷ rows) ≡ Some row = rw (itself (key_of row)) refl in
    let none = same (key_of row) in cc
same_listing (row ∷ rows) (other ∷ others) order order_other same =
    let here : row_at (key_of row) (row ∷ rows) ≡ Some row = rw (itself (key_of row)) refl in
    let there : row_at (key_of other) (other ∷ others) ≡ Some other = rw (itself (key_of other)) refl in
    elim (int_cmp (key_of row) (key_of other)) as (λ o. int_cmp (key_of row) (key_of other) ≡ o → ◌≡◌ {A = List (List Value)} (row ∷ rows) (other ∷ others)) [
      | Less ↦ λ is.
          let below = below_from_less (key_of row) (key_of other) is in
          let none = none_above (key_of row) (other ∷ others) (below, below_all (key_of row) other others below order_other.0) in
          let given = same (key_of row) in cc
      | Equal ↦ λ is.
          let at_other : row_at (key_of row) (other ∷ others) ≡ Some other = rw (equal_key (key_of row) (key_of other) is) refl in
          let given = same (key_of row) in
          let first : row ≡ other = cc in
          ap₂ (λ (r : List Value) (rs : List (List Value)). r ∷ rs) first (same_listing rows others order.1 order_other.1 (same_after row other rows others order.0 order_other.0 first same))
      | Greater ↦ λ is.
          let below = above_from_greater (key_of row) (key_of other) is in
          let none = none_above (key_of other) (row ∷ rows) (below, below_all (key_of other) row rows below order.0) in
          let given = same (key_of other) in cc
    ] refl
