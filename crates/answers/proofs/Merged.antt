-- Rows of two lists with ascending keys, merged by their keys.
use Rattle.std.proofs.Common.{◌≡◌, ℕ, ℤ, ◌<ℤ◌, int_lt, Bool, true, false, cond, not, List, [], ◌∷◌, ◌++◌, filter, Option, Some, None, option_map, refl, ap, ap₂, sym, ◌∙◌, append_assoc, arith}
use Rattle.std.specs.List.{AllByRecursion, cons_option}
use Rattle.std.specs.Option.{option_or}
use Rattle.std.specs.Ordering.{int_eq}
use Rattle.std.proofs.lemmas.Int.{ints}
use Rattle.terms.specs.declared.value.Value.{Value}
use Rattle.terms.specs.Row.{key_of}
use Rattle.meaning.specs.Relation.{Ascends}
use Rattle.meaning.proofs.Keys.{below_trans, eq_above, lt_below, lt_false, lt_true}
use Rattle.meaning.proofs.Rows.{All-passed, Ascends-passed, below_all}
use Rattle.catalog.specs.Keyed.{row_at}
use Rattle.answers.specs.Evaluated.{key_pairs, pair}
use Rattle.answers.specs.Merged.{merged_rows, rows_above, rows_below}
use Rattle.answers.proofs.Picked.{never, or_none, passed_by, taken}

-- a filter by the key, at a key

same_test : (test : ℤ → Bool) (one key : ℤ) (t : Bool) → test one ≡ t → int_eq one key ≡ true → test key ≡ t
same_test test one key t is same = let e : one ≡ key = grind (arith, ints) in ap test (sym e) ∙ is

pub at_filtered : (test : ℤ → Bool) (key : ℤ) (rows : List (List Value)) → row_at key (filter (λ row. test (key_of row)) rows) ≡ cond (test key) (row_at key rows) None
at_filtered test key [] = never (test key)
at_filtered test key (row ∷ rows) =
    let rest = at_filtered test key rows in
    elim (test (key_of row)) as (λ t. test (key_of row) ≡ t →
    row_at key (cond t (row ∷ filter (λ r. test (key_of r)) rows) (filter (λ r. test (key_of r)) rows)) ≡ cond (test key) (cond (int_eq (key_of row) key) (Some row) (row_at key rows)) None) [
      | true ↦ λ is.
          ap (λ (o : Option (List Value)). cond (int_eq (key_of row) key) (Some row) o) rest ∙ taken (int_eq (key_of row) key) (test key) (Some row) (row_at key rows) (same_test test (key_of row) key true is)
      | false ↦ λ is. rest ∙ passed_by (int_eq (key_of row) key) (test key) (Some row) (row_at key rows) (same_test test (key_of row) key false is)
    ] refl

or_first : (t : Bool) (row : List Value) (one other : Option (List Value)) → cond t (Some row) (option_or one other) ≡ option_or (cond t (Some row) one) other
or_first true row one other = refl
or_first false row one other = refl

pub at_append : (key : ℤ) (rows others : List (List Value)) → row_at key (rows ++ others) ≡ option_or (row_at key rows) (row_at key others)
at_append key [] others = refl
at_append key (row ∷ rows) others =
    ap (λ (o : Option (List Value)). cond (int_eq (key_of row) key) (Some row) o) (at_append key rows others) ∙ or_first (int_eq (key_of row) key) row (row_at key rows) (row_at key others)

-- where all keys are above one, no row has it
pub none_above : (key : ℤ) (rows : List (List Value)) → AllByRecursion (λ later. key <ℤ key_of later) rows → row_at key rows ≡ None
none_above key [] later = refl
none_above key (other ∷ rows) later = rw (eq_above (key_of other) key later.0) (none_above key rows later.1)

none_from : (bound key : ℤ) (rows : List (List Value)) → int_lt key bound ≡ true → AllByRecursion (λ later. bound <ℤ key_of later) rows → row_at key rows ≡ None
none_from bound key rows below all = none_above key rows (further rows all)
  where
    further : (rest : List (List Value)) → AllByRecursion (λ later. bound <ℤ key_of later) rest → AllByRecursion (λ later. key <ℤ key_of later) rest
    further [] all = tt
    further (row ∷ rest) all = (below_trans key bound (key_of row) (lt_below key bound below) all.0, further rest all.1)

merged_step : (e a b : Bool) (row : List Value) (mine other : Option (List Value)) → (e ≡ true → a ≡ false) → (e ≡ false → a ≡ not b) → (a ≡ true → mine ≡ None) →
    option_or (cond a other None) (cond e (Some row) (option_or mine (cond b other None))) ≡ option_or (cond e (Some row) mine) other
merged_step true a b row mine other same apart none = let h : a ≡ false = same refl in rw h refl
merged_step false true true row mine other same apart none = absurd (let h : true ≡ false = apart refl in cc)
merged_step false true false row mine other same apart none = let h : mine ≡ None = none refl in rw h (or_none other)
merged_step false false true row mine other same apart none = refl
merged_step false false false row mine other same apart none = absurd (let h : false ≡ true = apart refl in cc)

not_below : (one key : ℤ) → int_eq one key ≡ true → int_lt key one ≡ false
not_below one key h = grind (arith, ints)

one_side : (one key : ℤ) → int_eq one key ≡ false → int_lt key one ≡ not (int_lt one key)
one_side one key h =
    elim (int_lt one key) as (λ t. int_lt one key ≡ t → int_lt key one ≡ not t) [
      | true ↦ λ is. grind (arith, ints)
      | false ↦ λ is. grind (arith, ints)
    ] refl

-- merged rows have at each key what the first have there, and else the others
pub merged_at : (key : ℤ) (rows others : List (List Value)) → Ascends rows → row_at key (merged_rows rows others) ≡ option_or (row_at key rows) (row_at key others)
merged_at key [] others order = refl
merged_at key (row ∷ rows) others order =
    let mine = key_of row in
    at_append key (rows_below row others) (row ∷ merged_rows rows (rows_above row others))
    ∙ ap₂ (λ (one two : Option (List Value)). option_or one (cond (int_eq mine key) (Some row) two)) (at_filtered (λ k. int_lt k mine) key others)
    (merged_at key rows (rows_above row others) order.1 ∙ ap (λ (o : Option (List Value)). option_or (row_at key rows) o) (at_filtered (λ k. int_lt mine k) key others))
    ∙ merged_step (int_eq mine key) (int_lt key mine) (int_lt mine key) row (row_at key rows) (row_at key others) (not_below mine key) (one_side mine key) (λ below. none_from mine key rows below order.0)

-- what holds of all rows of both holds of the merged ones
All-append : (P : List Value → Type 0) (rows others : List (List Value)) → AllByRecursion P rows → AllByRecursion P others → AllByRecursion P (rows ++ others)
All-append P [] others all more = more
All-append P (row ∷ rows) others all more = (all.0, All-append P rows others all.1 more)

pub merged_all : (P : List Value → Type 0) (rows others : List (List Value)) → AllByRecursion P rows → AllByRecursion P others → AllByRecursion P (merged_rows rows others)
merged_all P [] others all more = more
merged_all P (row ∷ rows) others all more =
    All-append P (rows_below row others) (row ∷ merged_rows rows (rows_above row others)) (All-passed P (λ other. int_lt (key_of other) (key_of row)) others more)
    (all.0, merged_all P rows (rows_above row others) all.1 (All-passed P (λ other. int_lt (key_of row) (key_of other)) others more))

-- rows that pass a test meet what follows from it
passed : (P : List Value → Type 0) (test : List Value → Bool) (rows : List (List Value)) → ((row : List Value) → test row ≡ true → P row) → AllByRecursion P (filter test rows)
passed P test [] more = tt
passed P test (row ∷ rows) more =
    elim (test row) as (λ t. test row ≡ t → AllByRecursion P (cond t (row ∷ filter test rows) (filter test rows))) [
      | true ↦ λ is. (more row is, passed P test rows more)
      | false ↦ λ is. passed P test rows more
    ] refl

ascends_append : (rows others : List (List Value)) → Ascends rows → Ascends others → AllByRecursion (λ row. AllByRecursion (λ later. key_of row <ℤ key_of later) others) rows → Ascends (rows ++ others)
ascends_append [] others order order_others apart = order_others
ascends_append (row ∷ rows) others order order_others apart = (All-append (λ later. key_of row <ℤ key_of later) rows others order.0 apart.0, ascends_append rows others order.1 order_others apart.1)

pub merged_ascends : (rows others : List (List Value)) → Ascends rows → Ascends others → Ascends (merged_rows rows others)
merged_ascends [] others order order_others = order_others
merged_ascends (row ∷ rows) others order order_others =
    let rest = merged_rows rows (rows_above row others) in
    let above : AllByRecursion (λ later. key_of row <ℤ key_of later) rest =
    merged_all (λ later. key_of row <ℤ key_of later) rows (rows_above row others) order.0
    (passed (λ later. key_of row <ℤ key_of later) (λ other. int_lt (key_of row) (key_of other)) others (λ other h. lt_below (key_of row) (key_of other) h)) in
    ascends_append (rows_below row others) (row ∷ rest) (Ascends-passed (λ other. int_lt (key_of other) (key_of row)) others order_others)
    (above, merged_ascends rows (rows_above row others) order.1 (Ascends-passed (λ other. int_lt (key_of row) (key_of other)) others order_others))
    (passed (λ other. AllByRecursion (λ later. key_of other <ℤ key_of later) (row ∷ rest)) (λ other. int_lt (key_of other) (key_of row)) others
    (λ other h. let below = lt_below (key_of other) (key_of row) h in (below, below_all (key_of other) row rest below above)))

-- rows with keys above one are paired with those above it alone
pub key_pairs_above : (columns columns_other : List ℕ) (row : List Value) (rows others : List (List Value)) → AllByRecursion (λ later. key_of row <ℤ key_of later) rows →
    key_pairs columns columns_other rows (rows_above row others) ≡ key_pairs columns columns_other rows others
key_pairs_above columns columns_other row [] others later = refl
key_pairs_above columns columns_other row (first ∷ rows) others later =
    let same : row_at (key_of first) (rows_above row others) ≡ row_at (key_of first) others =
    at_filtered (λ k. int_lt (key_of row) k) (key_of first) others ∙ ap (λ (t : Bool). cond t (row_at (key_of first) others) None) (lt_true (key_of row) (key_of first) later.0) in
    ap₂ (λ (o : Option (List Value)) (rest : List (List Value)). cons_option (option_map (pair columns columns_other first) o) rest) same (key_pairs_above columns columns_other row rows others later.1)

-- rows cut at a key

-- where all rows are above a key
pub record AreAbove (row : List Value) (rows : List (List Value)) : Type 0 where
  pub below : rows_below row rows ≡ []
  pub same : row_at (key_of row) rows ≡ None
  pub above : rows_above row rows ≡ rows

pub all_above : (row : List Value) (rows : List (List Value)) → AllByRecursion (λ later. key_of row <ℤ key_of later) rows → AreAbove row rows
all_above row [] later = record { below = refl; same = refl; above = refl }
all_above row (first ∷ rows) later =
    let rest = all_above row rows later.1 in
    record {
      below = rw (lt_false (key_of first) (key_of row) later.0) rest.below;
      same = none_above (key_of row) (first ∷ rows) later;
      above = rw (lt_true (key_of row) (key_of first) later.0) (ap (λ (more : List (List Value)). first ∷ more) rest.above);
    }

pub pushed : (found more : List (List Value)) (row : List Value) → (found ++ row ∷ []) ++ more ≡ found ++ row ∷ more
pushed found more row = append_assoc found (row ∷ []) more
