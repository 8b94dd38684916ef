-- Rows that show at each key what the rows of a whole database show there are, shown, the same list.
use Rattle.std.proofs.Common.{◌≡◌, ℕ, ℤ, ◌<ℤ◌, Bool, true, false, cond, ◌==◌, List, [], ◌∷◌, filter, map, Option, Some, None, option_map, option_and_then, refl, ap, ap₂, sym, ◌∙◌, arith}
use Rattle.std.specs.List.{AllByRecursion, cons_option, filter_map, slice_get}
use Rattle.std.specs.Ordering.{int_cmp, int_eq}
use Rattle.std.specs.declared.cmp.Ordering.TheVariants.{Less, Equal, Greater}
use Rattle.std.proofs.lemmas.Bool.Decides.{nat_tests}
use Rattle.std.proofs.lemmas.Int.{ints}
use Rattle.terms.specs.declared.cond.Cond.{Cond}
use Rattle.terms.specs.declared.value.Value.{Value}
use Rattle.terms.specs.Cond.{conds_hold}
use Rattle.terms.specs.Row.{key_of}
use Rattle.meaning.specs.Listed.{listed}
use Rattle.meaning.specs.Relation.{Ascends}
use Rattle.meaning.specs.Selected.{joined, paired}
use Rattle.meaning.proofs.Keys.{above_from_greater, below_from_less}
use Rattle.meaning.proofs.Rows.{Ascends-passed, below_all}
use Rattle.catalog.specs.Counts.{has}
use Rattle.catalog.specs.Keyed.{row_at}
use Rattle.plan.specs.Found.{found_of}
use Rattle.plan.specs.Rows.{is_seen, seen_of, seen_part}
use Rattle.plan.proofs.AtKey.{none_after}
use Rattle.plan.proofs.Covered.{or_second}
use Rattle.plan.proofs.JoinFound.{pair_keeps}
use Rattle.answers.specs.Outcome.{shown}
use Rattle.answers.specs.Table.{seen_rows}
use Rattle.answers.proofs.Mapped.{KeepsKeyOf, ascends_kept, at_kept, each, filter_is, passing, passing_keys}
use Rattle.answers.proofs.Merged.{none_above}

itself : (key : ℤ) → int_eq key key ≡ true
itself key = grind (arith, ints)

first_at : (row : List Value) (rows : List (List Value)) → row_at (key_of row) (row ∷ rows) ≡ Some row
first_at row rows = rw (itself (key_of row)) refl

equal_keys : (one other : ℤ) → int_cmp one other ≡ Equal → one ≡ other
equal_keys one other is = grind (arith, ints)

-- what two lists show after first rows of one key
same_after : {B : Type 0} (s r : List Value → B) (row other : List Value) (rows others : List (List Value)) → AllByRecursion (λ later. key_of row <ℤ key_of later) rows → AllByRecursion (λ later. key_of other <ℤ key_of later) others → key_of row ≡ key_of other →
    ((key : ℤ) → option_map s (row_at key (row ∷ rows)) ≡ option_map r (row_at key (other ∷ others))) → (key : ℤ) → option_map s (row_at key rows) ≡ option_map r (row_at key others)
same_after s r row other rows others order order_other first same key =
    let alike : int_eq (key_of other) key ≡ int_eq (key_of row) key = ap (λ k. int_eq k key) (sym first) in
    elim (int_eq (key_of row) key) as (λ t. int_eq (key_of row) key ≡ t → option_map s (row_at key rows) ≡ option_map r (row_at key others)) [
      | true ↦ λ here. ap (option_map s) (none_after key row rows here order) ∙ sym (ap (option_map r) (none_after key other others (alike ∙ here) order_other))
      | false ↦ λ is.
          let one : row_at key (row ∷ rows) ≡ row_at key rows = rw is refl in
          let two : row_at key (other ∷ others) ≡ row_at key others = rw (alike ∙ is) refl in
          ap (option_map s) (sym one) ∙ same key ∙ ap (option_map r) two
    ] refl

-- lists with ascending keys that show the same at each key show the same list
pub same_shown : {B : Type 0} (s r : List Value → B) (rows others : List (List Value)) → Ascends rows → Ascends others → ((key : ℤ) → option_map s (row_at key rows) ≡ option_map r (row_at key others)) → map s rows ≡ map r others
same_shown s r [] [] order order_other same = refl
same_shown {B} s r [] (other ∷ others) order order_other same =
    let e : ◌≡◌ {A = Option B} None (Some (r other)) = same (key_of other) ∙ ap (option_map r) (first_at other others) in absurd (cc)
same_shown {B} s r (row ∷ rows) [] order order_other same =
    let e : ◌≡◌ {A = Option B} (Some (s row)) None = sym (ap (option_map s) (first_at row rows)) ∙ same (key_of row) in absurd (cc)
same_shown {B} s r (row ∷ rows) (other ∷ others) order order_other same =
    elim (int_cmp (key_of row) (key_of other)) as (λ o. int_cmp (key_of row) (key_of other) ≡ o → ◌≡◌ {A = List B} (s row ∷ map s rows) (r other ∷ map r others)) [
      | Less ↦ λ is.
          let below = below_from_less (key_of row) (key_of other) is in
          let none = none_above (key_of row) (other ∷ others) (below, below_all (key_of row) other others below order_other.0) in
          let e : ◌≡◌ {A = Option B} (Some (s row)) None = sym (ap (option_map s) (first_at row rows)) ∙ same (key_of row) ∙ ap (option_map r) none in absurd (cc)
      | Equal ↦ λ is.
          let key = equal_keys (key_of row) (key_of other) is in
          let there : row_at (key_of row) (other ∷ others) ≡ Some other = ap (λ (k : ℤ). row_at k (other ∷ others)) key ∙ first_at other others in
          let e : ◌≡◌ {A = Option B} (Some (s row)) (Some (r other)) = sym (ap (option_map s) (first_at row rows)) ∙ same (key_of row) ∙ ap (option_map r) there in
          let first : s row ≡ r other = cc in
          ap₂ (λ (b : B) (bs : List B). b ∷ bs) first (same_shown s r rows others order.1 order_other.1 (same_after s r row other rows others order.0 order_other.0 key same))
      | Greater ↦ λ is.
          let below = above_from_greater (key_of row) (key_of other) is in
          let none = none_above (key_of other) (row ∷ rows) (below, below_all (key_of other) row rows below order.0) in
          let e : ◌≡◌ {A = Option B} None (Some (r other)) = sym (ap (option_map s) none) ∙ same (key_of other) ∙ ap (option_map r) (first_at other others) in absurd (cc)
    ] refl

-- the values of a row in columns that are seen
values_shown : (asked places : List ℕ) (row : List Value) → AllByRecursion (λ col. is_seen asked col ≡ true) places → filter_map (seen_of asked row) places ≡ listed places row
values_shown asked [] row all = refl
values_shown asked (col ∷ places) row all =
    let here : seen_of asked row col ≡ slice_get row col = ap (λ (t : Bool). cond t (slice_get row col) None) all.0 in
    ap₂ (λ (o : Option Value) (rest : List Value). cons_option o rest) here (values_shown asked places row all.1)

map_after : {A B C : Type 0} (f : A → B) (g : B → C) (o : Option A) → option_map (λ a. g (f a)) o ≡ option_map g (option_map f o)
map_after f g None = refl
map_after f g (Some a) = refl

one_found : (conds : List Cond) (asked places : List ℕ) (o : Option (List Value)) → AllByRecursion (λ col. is_seen asked col ≡ true) places →
    option_map (λ seen. filter_map seen places) (option_and_then (found_of conds asked) o) ≡ option_map (listed places) (option_and_then (passing (conds_hold conds)) o)
one_found conds asked places None all = refl
one_found conds asked places (Some row) all =
    elim (conds_hold conds row) as (λ t. option_map (λ seen. filter_map seen places) (cond t (Some (seen_of asked row)) None) ≡ option_map (listed places) (cond t (Some row) None)) [
      | true ↦ ap (λ (values : List Value). Some values) (values_shown asked places row all)
      | false ↦ refl
    ]

-- a table that has at each key what is to be found there shows the rows that meet the conditions
pub shown_found : (conds : List Cond) (asked places columns : List ℕ) (rows all : List (List Value)) → Ascends rows → Ascends all → AllByRecursion (λ col. is_seen asked col ≡ true) places →
    ((key : ℤ) → seen_rows columns rows key ≡ option_and_then (found_of conds asked) (row_at key all)) → shown places columns rows ≡ map (listed places) (filter (conds_hold conds) all)
shown_found conds asked places columns rows all order order_all seen same =
    same_shown (λ row. filter_map (seen_part columns row) places) (listed places) rows (filter (conds_hold conds) all) order (Ascends-passed (conds_hold conds) all order_all)
    (λ key.
    map_after (seen_part columns) (λ s. filter_map s places) (row_at key rows)
    ∙ ap (option_map (λ s. filter_map s places)) (same key)
    ∙ one_found conds asked places (row_at key all) seen
    ∙ ap (option_map (listed places))
    (sym (ap (row_at key) (filter_is (conds_hold conds) all) ∙ at_kept (passing (conds_hold conds)) key all (each (KeepsKeyOf (passing (conds_hold conds))) all (passing_keys (conds_hold conds))) order_all)))

-- columns are seen in a list that has them
pub all_seen : (asked places : List ℕ) → ((col : ℕ) → has places col ≡ true → is_seen asked col ≡ true) → AllByRecursion (λ col. is_seen asked col ≡ true) places
all_seen asked [] more = tt
all_seen asked (col ∷ places) more =
    (more col (own col places), all_seen asked places (λ other h. more other (or_second (col == other) (has places other) h)))
  where
    own : (first : ℕ) (rest : List ℕ) → has (first ∷ rest) first ≡ true
    own first rest = let same : (first == first) ≡ true = grind (arith, nat_tests) in rw same refl

-- joined rows ascend by the keys of the first relation
pub joined_ascends : (col : ℕ) (others rows : List (List Value)) → Ascends rows → Ascends (joined col others rows)
joined_ascends col others rows order = ascends_kept (paired col others) rows (each (KeepsKeyOf (paired col others)) rows (pair_keeps col others)) order
