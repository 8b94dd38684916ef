-- How many rows a plan has, by a table of them; and how many steps it takes to make it.
use Rattle.std.proofs.Common.{◌≡◌, ℤ, ◌<ℤ◌, Bool, true, false, cond, is_some, List, [], ◌∷◌, filter, length, map, Option, Some, None, option_map, option_and_then, refl, ap, ap₂, sym, ◌∙◌, arith}
use Rattle.std.specs.List.{AllByRecursion}
use Rattle.std.specs.Option.{option_or}
use Rattle.std.specs.Ordering.{int_eq}
use Rattle.std.proofs.lemmas.Int.{ints}
use Rattle.std.proofs.lemmas.List.{length-map}
use Rattle.terms.specs.declared.leaf.Leaf.{Leaf}
use Rattle.terms.specs.declared.value.Value.{Value}
use Rattle.terms.specs.declared.value.Value.TheVariants.{Int}
use Rattle.terms.specs.Cond.{conds_hold}
use Rattle.terms.specs.Row.{key_of}
use Rattle.meaning.specs.Relation.{Ascends}
use Rattle.meaning.proofs.Rows.{Ascends-passed}
use Rattle.catalog.specs.Keyed.{row_at}
use Rattle.catalog.proofs.Keyed.{same_listing}
use Rattle.plan.specs.Rows.{Seen, at_value, kept, merged, restricted, rows, seen_part, shifted}
use Rattle.plan.specs.Shape.{Shape, Empty, Fetch, Filter, Project, Union, KeyJoin, Lookup}
use Rattle.plan.specs.Uniform.{EachRead}
use Rattle.answers.specs.Laid.{Table}
use Rattle.answers.specs.Joined.{parts_read, row_count}
use Rattle.answers.specs.Table.{AreParts, HasRows}
use Rattle.answers.proofs.Merged.{at_filtered, merged_ascends, merged_at}

-- what is given of the reads of a plan
abbrev pub AreGiven : (Leaf → List (List Value)) → Shape → Type 0
AreGiven contents plan = EachRead (λ read. AreParts read.columns (contents read.leaf)) plan

-- the parts that are read ascend
pub parts_ascend : (plan : Shape) (contents : Leaf → List (List Value)) → AreGiven contents plan → Ascends (parts_read plan contents)
parts_ascend Empty contents given = tt
parts_ascend (Fetch read) contents given = given.order
parts_ascend (Filter conds below) contents given = parts_ascend below contents given
parts_ascend (Project columns below) contents given = parts_ascend below contents given
parts_ascend (Union one other) contents given = merged_ascends (parts_read one contents) (parts_read other contents) (parts_ascend one contents given.0) (parts_ascend other contents given.1)
parts_ascend (KeyJoin one other) contents given = parts_ascend one contents given.0
parts_ascend (Lookup col width left right) contents given = parts_ascend left contents given.0

none_step : (t : Bool) (row : List Value) (rest : Option (List Value)) → cond t (Some row) rest ≡ None → (t ≡ false) × (rest ≡ None)
none_step true row rest none = absurd (cc)
none_step false row rest none = (refl, none)

none_passed : (test : List Value → Bool) (key : ℤ) (all : List (List Value)) → row_at key all ≡ None → row_at key (filter test all) ≡ None
none_passed test key [] none = refl
none_passed test key (row ∷ all) none =
    let apart = none_step (int_eq (key_of row) key) row (row_at key all) none in
    at (test row) apart.0 (none_passed test key all apart.1)
  where
    at : (t : Bool) → int_eq (key_of row) key ≡ false → row_at key (filter test all) ≡ None → row_at key (cond t (row ∷ filter test all) (filter test all)) ≡ None
    at true other more = rw other more
    at false other more = more

neither : {A : Type 0} (one other : Option A) → option_or one other ≡ None → (one ≡ None) × (other ≡ None)
neither None other none = (refl, none)
neither (Some a) other none = absurd (cc)

-- where no part has the key, the plan has no row
none_read : (plan : Shape) (contents : Leaf → List (List Value)) (key : ℤ) → AreGiven contents plan → row_at key (parts_read plan contents) ≡ None → rows plan contents key ≡ None
none_read Empty contents key given none = refl
none_read (Fetch read) contents key given none = ap (option_map (seen_part read.columns)) (none_passed (conds_hold read.conds) key (contents read.leaf) none)
none_read (Filter conds below) contents key given none = ap (kept conds) (none_read below contents key given none)
none_read (Project columns below) contents key given none = ap (option_map (restricted columns)) (none_read below contents key given none)
none_read (Union one other) contents key given none =
    let both = neither (row_at key (parts_read one contents)) (row_at key (parts_read other contents)) (sym (merged_at key (parts_read one contents) (parts_read other contents) (parts_ascend one contents given.0)) ∙ none) in
    ap₂ (λ (o p : Option Seen). option_or o p) (none_read one contents key given.0 both.0) (none_read other contents key given.1 both.1)
none_read (KeyJoin one other) contents key given none = ap (option_and_then (λ seen. option_map (merged seen) (rows other contents key))) (none_read one contents key given.0 none)
none_read (Lookup col width left right) contents key given none =
    ap (option_and_then (λ seen. option_map (λ partner. merged seen (shifted width partner)) (at_value (λ at. rows right contents at) (seen col)))) (none_read left contents key given.0 none)

-- rows by their keys alone

abbrev key_row : List Value → List Value
key_row row = Int (key_of row) ∷ []

same_key : (one key : ℤ) → int_eq one key ≡ true → one ≡ key
same_key one key is = grind (arith, ints)

at_keys : (key : ℤ) (all : List (List Value)) → row_at key (map key_row all) ≡ cond (is_some (row_at key all)) (Some (Int key ∷ [])) None
at_keys key [] = refl
at_keys key (row ∷ all) = at (int_eq (key_of row) key) refl (at_keys key all)
  where
    at : (t : Bool) → int_eq (key_of row) key ≡ t → row_at key (map key_row all) ≡ cond (is_some (row_at key all)) (Some (Int key ∷ [])) None →
        cond t (Some (key_row row)) (row_at key (map key_row all)) ≡ cond (is_some (cond t (Some row) (row_at key all))) (Some (Int key ∷ [])) None
    at true is more = ap (λ (k : ℤ). let r : Option (List Value) = Some (Int k ∷ []) in r) (same_key (key_of row) key is)
    at false is more = more

keys_above : (key : ℤ) (all : List (List Value)) → AllByRecursion (λ later. key <ℤ key_of later) all → AllByRecursion (λ later. key <ℤ key_of later) (map key_row all)
keys_above key [] above = tt
keys_above key (row ∷ all) above = (above.0, keys_above key all above.1)

keys_ascend : (all : List (List Value)) → Ascends all → Ascends (map key_row all)
keys_ascend [] order = tt
keys_ascend (row ∷ all) order = (keys_above (key_of row) all order.0, keys_ascend all order.1)

-- ascending rows with the same keys are as many
same_count : (one other : List (List Value)) → Ascends one → Ascends other → ((key : ℤ) → is_some (row_at key one) ≡ is_some (row_at key other)) → length one ≡ length other
same_count one other order order_other same =
    let keys : map key_row one ≡ map key_row other =
    same_listing (map key_row one) (map key_row other) (keys_ascend one order) (keys_ascend other order_other)
    (λ key. at_keys key one ∙ ap (λ (t : Bool). let r : Option (List Value) = cond t (Some (Int key ∷ [])) None in r) (same key) ∙ sym (at_keys key other)) in
    sym (length-map one key_row) ∙ ap (λ (all : List (List Value)). length all) keys ∙ length-map other key_row

-- a table of a plan's rows has as many as the plan

some_mapped : {A B : Type 0} (f : A → B) (o : Option A) → is_some o ≡ is_some (option_map f o)
some_mapped f None = refl
some_mapped f (Some a) = refl

some_left : {A B : Type 0} (o : Option A) (p : Option B) → (p ≡ None → o ≡ None) → is_some o ≡ is_some (cond (is_some o) p None)
some_left None p none = refl
some_left (Some a) None none = absurd (let h = none refl in cc)
some_left (Some a) (Some b) none = refl

pub counted : (plan : Shape) (contents : Leaf → List (List Value)) (table : Table) → AreGiven contents plan → HasRows plan contents table → length table.rows ≡ row_count plan contents
counted plan contents table given has =
    let parts = parts_read plan contents in
    let test : ℤ → Bool = λ key. is_some (rows plan contents key) in
    same_count table.rows (filter (λ part. test (key_of part)) parts) has.order (Ascends-passed (λ part. test (key_of part)) parts (parts_ascend plan contents given))
    (λ key.
    some_mapped (seen_part table.columns) (row_at key table.rows) ∙ ap (λ (o : Option Seen). is_some o) (has.seen key) ∙ some_left (rows plan contents key) (row_at key parts) (none_read plan contents key given)
    ∙ ap (λ (o : Option (List Value)). is_some o) (sym (at_filtered test key parts)))
