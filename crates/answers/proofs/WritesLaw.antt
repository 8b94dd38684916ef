-- The writes to a leaf between two contents are those of the changed rows.
use Rattle.std.proofs.Common.{◌≡◌, ℕ, ℤ, Bool, true, false, cond, List, [], ◌∷◌, filter, map, Option, Some, None, option_map, option_and_then, is_some, refl, ap, ap₂, sym, ◌∙◌, subst}
use Rattle.std.specs.List.{AllByRecursion, cons_option, filter_map}
use Rattle.std.specs.Cmp.{eq_by_cmp_equiv}
use Rattle.std.specs.Option.{option_or}
use Rattle.std.specs.Ordering.{is_eq}
use Rattle.terms.specs.declared.leaf.Leaf.{Leaf}
use Rattle.terms.specs.declared.cond.Cond.{Cond}
use Rattle.terms.specs.declared.value.Value.{Value}
use Rattle.terms.specs.declared.write.Write.{Write}
use Rattle.terms.specs.Order.{value_cmp_total}
use Rattle.terms.specs.Row.{key_of}
use Rattle.terms.specs.Value.{value_cmp}
use Rattle.meaning.specs.Relation.{Ascends}
use Rattle.meaning.proofs.Rows.{Ascends-passed}
use Rattle.catalog.specs.Fragment.{Fragment, content, part}
use Rattle.catalog.specs.Keyed.{row_at}
use Rattle.catalog.proofs.Keyed.{content-at}
use Rattle.plan.proofs.ContentParts.{content_ascends}
use Rattle.answers.specs.declared.change.Change.{Change}
use Rattle.answers.specs.Merged.{merged_rows}
use Rattle.answers.specs.Writes.{leaf_writes, same_part, write_between}
use Rattle.answers.proofs.Listing.{same_shown}
use Rattle.answers.proofs.Mapped.{KeepsKeyOf, at_kept, each, filter_is, found_key, passing, passing_keys}
use Rattle.answers.proofs.Merged.{merged_ascends, merged_at}

-- a part is the same as itself
same_value : (value : Value) → is_eq (value_cmp value value) ≡ true
same_value value = (eq_by_cmp_equiv value_cmp_total).refl value

same_itself : (values : List Value) → same_part values values ≡ true
same_itself [] = refl
same_itself (value ∷ values) = rw (same_value value) (same_itself values)

pub none_between : (leaf : Leaf) (key : ℤ) (o : Option (List Value)) → write_between leaf key o o ≡ None
none_between leaf key None = refl
none_between leaf key (Some values) = rw (same_itself values) refl

-- what two lists make of their rows is the same where it is the same at each key

abbrev gives : {B : Type 0} → (List Value → Option B) → List Value → Bool
gives g row = is_some (g row)

abbrev whole_of : {B : Type 0} → Option B → Option (Option B)
whole_of None = None
whole_of (Some b) = Some (Some b)

abbrev some_of : {B : Type 0} → List (Option B) → List B
some_of [] = []
some_of (o ∷ all) = cons_option o (some_of all)

given_only : {B : Type 0} (g : List Value → Option B) (rows : List (List Value)) → filter_map g rows ≡ some_of (map g (filter (gives g) rows))
given_only g [] = refl
given_only {B} g (row ∷ rows) = at (g row) refl (given_only g rows)
  where
    at : (o : Option B) → g row ≡ o → filter_map g rows ≡ some_of (map g (filter (gives g) rows)) → cons_option (g row) (filter_map g rows) ≡ some_of (map g (cond (is_some (g row)) (row ∷ filter (gives g) rows) (filter (gives g) rows)))
    at None is rest = rw is rest
    at (Some b) is rest = rw is (rw is (ap (λ (all : List B). b ∷ all) rest))

one_given : {B : Type 0} (g : List Value → Option B) (o : Option (List Value)) → option_map g (option_and_then (passing (gives g)) o) ≡ whole_of (option_and_then g o)
one_given g None = refl
one_given {B} g (Some row) = at (g row) refl
  where
    at : (made : Option B) → g row ≡ made → option_map g (cond (is_some (g row)) (Some row) None) ≡ whole_of (g row)
    at None is = rw is refl
    at (Some b) is = rw is (rw is refl)

given_at : {B : Type 0} (g : List Value → Option B) (key : ℤ) (rows : List (List Value)) → Ascends rows → option_map g (row_at key (filter (gives g) rows)) ≡ whole_of (option_and_then g (row_at key rows))
given_at g key rows order =
    ap (option_map g) (ap (row_at key) (filter_is (gives g) rows) ∙ at_kept (passing (gives g)) key rows (each (KeepsKeyOf (passing (gives g))) rows (passing_keys (gives g))) order) ∙ one_given g (row_at key rows)

pub same_made : {B : Type 0} (g h : List Value → Option B) (rows others : List (List Value)) → Ascends rows → Ascends others → ((key : ℤ) → option_and_then g (row_at key rows) ≡ option_and_then h (row_at key others)) → filter_map g rows ≡ filter_map h others
same_made g h rows others order order_other same =
    given_only g rows
    ∙ ap some_of (same_shown g h (filter (gives g) rows) (filter (gives h) others) (Ascends-passed (gives g) rows order) (Ascends-passed (gives h) others order_other)
    (λ key. given_at g key rows order ∙ ap whole_of (same key) ∙ sym (given_at h key others order_other)))
    ∙ sym (given_only h others)

-- changes of rows lead from some rows to others: each row that is changed has its key, and is what is there before and after; at another key nothing is changed
abbrev pub LeadAt : (List Value → Change) → ℤ → Option (List Value) → Option (List Value) → Option (List Value) → Type 0
LeadAt change key None before after = before ≡ after
LeadAt change key (Some row) before after = ((change row).key ≡ key) × ((change row).before ≡ before) × ((change row).after ≡ after)

abbrev pub Lead : (List Value → Change) → List (List Value) → List (List Value) → List (List Value) → Type 0
Lead change changed before after = (key : ℤ) → LeadAt change key (row_at key changed) (row_at key before) (row_at key after)

-- the write of a change to a leaf of these conditions and columns
abbrev pub written : Leaf → Fragment → Change → Option Write
written leaf fragment change = write_between leaf change.key (option_and_then (part fragment) change.before) (option_and_then (part fragment) change.after)

pub between_at : (leaf : Leaf) (before after : List (List Value)) (key : ℤ) (one two : Option (List Value)) → row_at key before ≡ one → row_at key after ≡ two →
    option_and_then (λ row. write_between leaf (key_of row) (row_at (key_of row) before) (row_at (key_of row) after)) (option_or one two) ≡ write_between leaf key (row_at key before) (row_at key after)
between_at leaf before after key None None is is_after = sym (ap₂ (write_between leaf key) is is_after)
between_at leaf before after key None (Some row) is is_after = ap (λ (k : ℤ). write_between leaf k (row_at k before) (row_at k after)) (found_key key after row is_after)
between_at leaf before after key (Some row) two is is_after = ap (λ (k : ℤ). write_between leaf k (row_at k before) (row_at k after)) (found_key key before row is)

lead_write : (leaf : Leaf) (fragment : Fragment) (change : List Value → Change) (key : ℤ) (o before after : Option (List Value)) → LeadAt change key o before after →
    write_between leaf key (option_and_then (part fragment) before) (option_and_then (part fragment) after) ≡ option_and_then (λ row. written leaf fragment (change row)) o
lead_write leaf fragment change key None before after lead =
    ap (λ (o : Option (List Value)). write_between leaf key (option_and_then (part fragment) before) (option_and_then (part fragment) o)) (sym lead) ∙ none_between leaf key (option_and_then (part fragment) before)
lead_write leaf fragment change key (Some row) before after lead =
    ap (λ (k : ℤ). write_between leaf k (option_and_then (part fragment) before) (option_and_then (part fragment) after)) (sym lead.0)
    ∙ ap₂ (λ (b a : Option (List Value)). write_between leaf (change row).key (option_and_then (part fragment) b) (option_and_then (part fragment) a)) (sym lead.1) (sym lead.2)

pub mapped_twice : {B : Type 0} (g : ℤ → Option B) (rows : List (List Value)) → filter_map g (map key_of rows) ≡ filter_map (λ row. g (key_of row)) rows
mapped_twice g [] = refl
mapped_twice {B} g (row ∷ rows) = ap (λ (rest : List B). cons_option (g (key_of row)) rest) (mapped_twice g rows)

-- the writes between the contents of two relations are those of the changes that lead from one to the other
pub leaf_law : (leaf : Leaf) (conds : List Cond) (columns : List ℕ) (change : List Value → Change) (changed before after : List (List Value)) → Ascends changed → Ascends before → Ascends after → Lead change changed before after →
    leaf_writes leaf (content (record { conds = conds; columns = 0 ∷ columns }) before) (content (record { conds = conds; columns = 0 ∷ columns }) after)
    ≡ filter_map (λ row. written leaf (record { conds = conds; columns = 0 ∷ columns }) (change row)) changed
leaf_law leaf conds columns change changed before after order order_before order_after lead =
    let fragment : Fragment = record { conds = conds; columns = 0 ∷ columns } in
    let first = content fragment before in
    let second = content fragment after in
    let ascends_first = content_ascends conds columns before order_before in
    let ascends_second = content_ascends conds columns after order_after in
    mapped_twice (λ key. write_between leaf key (row_at key first) (row_at key second)) (merged_rows first second)
    ∙ same_made (λ row. write_between leaf (key_of row) (row_at (key_of row) first) (row_at (key_of row) second)) (λ row. written leaf fragment (change row)) (merged_rows first second) changed
    (merged_ascends first second ascends_first ascends_second) order
    (λ key.
    ap (option_and_then (λ row. write_between leaf (key_of row) (row_at (key_of row) first) (row_at (key_of row) second))) (merged_at key first second ascends_first)
    ∙ between_at leaf first second key (row_at key first) (row_at key second) refl refl
    ∙ ap₂ (write_between leaf key) (content-at conds columns key before order_before) (content-at conds columns key after order_after)
    ∙ lead_write leaf fragment change key (row_at key changed) (row_at key before) (row_at key after) (lead key))

-- where nothing is changed nothing is written
pub nothing_written : (leaf : Leaf) (conds : List Cond) (columns : List ℕ) (rows : List (List Value)) → Ascends rows →
    leaf_writes leaf (content (record { conds = conds; columns = 0 ∷ columns }) rows) (content (record { conds = conds; columns = 0 ∷ columns }) rows) ≡ []
nothing_written leaf conds columns rows order =
    let change : List Value → Change = λ row. record { key = key_of row; before = None; after = None } in
    leaf_law leaf conds columns change [] rows rows tt order order (λ key. refl)

-- rows that a map changes where they pass a test, and else leaves as they are
pub lead_mapped : (test : List Value → Bool) (f : List Value → Option (List Value)) (change : List Value → Change) (rows : List (List Value)) → Ascends rows → AllByRecursion (KeepsKeyOf f) rows →
    ((row : List Value) → test row ≡ false → f row ≡ Some row) → ((row : List Value) → test row ≡ true → ((change row).key ≡ key_of row) × ((change row).before ≡ Some row) × ((change row).after ≡ f row)) →
    Lead change (filter test rows) rows (filter_map f rows)
lead_mapped test f change rows order keeps stays changes key =
    let passed : row_at key (filter test rows) ≡ option_and_then (passing test) (row_at key rows) =
    ap (row_at key) (filter_is test rows) ∙ at_kept (passing test) key rows (each (KeepsKeyOf (passing test)) rows (passing_keys test)) order in
    let made = at_kept f key rows keeps order in
    let P : Option (List Value) → Type 0 = λ o. LeadAt change key o (row_at key rows) (row_at key (filter_map f rows)) in
    let Q : Option (List Value) → Type 0 = λ o. LeadAt change key (option_and_then (passing test) (row_at key rows)) (row_at key rows) o in
    subst P (sym passed) (subst Q (sym made) (at (row_at key rows) refl))
  where
    at_row : (row : List Value) (t : Bool) → test row ≡ t → key_of row ≡ key → LeadAt change key (cond t (Some row) None) (Some row) (f row)
    at_row row true is own = let one = changes row is in (one.0 ∙ own, one.1, one.2)
    at_row row false is own = sym (stays row is)

    at : (found : Option (List Value)) → row_at key rows ≡ found → LeadAt change key (option_and_then (passing test) found) found (option_and_then f found)
    at None is = refl
    at (Some row) is = at_row row (test row) refl (found_key key rows row is)
