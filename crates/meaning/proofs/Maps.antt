-- Whole databases as the entries of a map.
use Rattle.std.proofs.Common.{◌≡◌, ℕ, List, [], ◌∷◌, Option, Some, None, Bool, true, false, cond, if◌then◌else◌, unwrap_or, is_some, Result, Ok, Err, IfOk, OnErr, refl, ap, sym, ◌∙◌}
use Rattle.std.specs.FinMap.{from_entries, get, insert, find, same_map, get_tied, get-insert, get-from_entries, nat_cmp-IsAntisymmetric, slice_cmp-IsAntisymmetric}
use Rattle.std.specs.BTreeMap.{is_at}
use Rattle.std.specs.Map.{lookup}
use Rattle.std.specs.Cmp.{eq_by_cmp_equiv}
use Rattle.std.specs.Cmp.Lexicographic.{slice_cmp, nat_list_cmp_total}
use Rattle.std.specs.Ordering.{nat_cmp, is_eq}
use Rattle.std.specs.declared.cmp.Ordering.{Ordering}
use Rattle.std.specs.declared.cmp.Ordering.TheVariants.{Less, Equal, Greater}
use Rattle.terms.specs.declared.memory.Memory.{Memory}
use Rattle.terms.specs.declared.value.Value.{Value}
use Rattle.meaning.specs.Relation.{insert_row}
use Rattle.meaning.specs.Whole.{Relations, of_entries, rows_of, replaced}

-- names and their relations, as a map keeps them
abbrev pub Entries : Type 0
Entries = List (List ℕ × List (List Value))

-- the relation that the entries have under a name
abbrev pub rows_at : Entries → List ℕ → Option (List (List Value))
rows_at entries name = lookup (is_at (slice_cmp nat_cmp name)) entries

find_rows : (entries : Entries) (name : List ℕ) → find (slice_cmp nat_cmp) name entries ≡ rows_at entries name
find_rows [] name = refl
find_rows (entry ∷ entries) name = ap (cond (is_eq (slice_cmp nat_cmp name entry.0)) (Some entry.1)) (find_rows entries name)

-- what the map that entries make has under a name
pub get_rows : (entries : Entries) (name : List ℕ) → get (from_entries {R = slice_cmp nat_cmp} entries) name ≡ rows_at entries name
get_rows entries name = get-from_entries nat_list_cmp_total entries name ∙ find_rows entries name

-- entries that differ under one name make maps that differ there
pub one_put : (old new : Entries) (name : List ℕ) (rows : List (List Value)) → ((q : List ℕ) → rows_at new q ≡ cond (is_at (slice_cmp nat_cmp name) q) (Some rows) (rows_at old q)) → from_entries {R = slice_cmp nat_cmp} new ≡ insert (from_entries old) name rows
one_put old new name rows differ =
    same_map nat_list_cmp_total (slice_cmp-IsAntisymmetric nat_cmp-IsAntisymmetric) _ _ (λ q.
    get_rows new q ∙ differ q ∙ ap (λ b. cond b (Some rows) (rows_at old q)) ((eq_by_cmp_equiv nat_list_cmp_total).symm name q)
    ∙ sym (get-insert nat_list_cmp_total (from_entries old) name rows q ∙ ap (cond (is_at (slice_cmp nat_cmp q) name) (Some rows)) (get_rows old q)))

-- a map with what it has already is the same map
insert_same : (entries : Entries) (name : List ℕ) (rows : List (List Value)) → rows_at entries name ≡ Some rows → insert (from_entries {R = slice_cmp nat_cmp} entries) name rows ≡ from_entries entries
insert_same entries name rows there =
    same_map nat_list_cmp_total (slice_cmp-IsAntisymmetric nat_cmp-IsAntisymmetric) _ _ (λ q.
    get-insert nat_list_cmp_total (from_entries entries) name rows q ∙ stays q)
  where
    stays : (q : List ℕ) → cond (is_at (slice_cmp nat_cmp q) name) (Some rows) (get (from_entries {R = slice_cmp nat_cmp} entries) q) ≡ get (from_entries {R = slice_cmp nat_cmp} entries) q
    stays q = elim (slice_cmp nat_cmp q name) as (λ r. slice_cmp nat_cmp q name ≡ r → cond (is_eq r) (Some rows) (get (from_entries {R = slice_cmp nat_cmp} entries) q) ≡ get (from_entries {R = slice_cmp nat_cmp} entries) q) [
      | Less ↦ λ is. refl
      | Equal ↦ λ is. sym (get_rows entries name ∙ there) ∙ get_tied nat_list_cmp_total (from_entries entries) q name is
      | Greater ↦ λ is. refl
    ] refl

-- the rows under a name that the entries have
pub rows_there : (entries : Entries) (whole : Relations) (name : List ℕ) (rows : List (List Value)) → from_entries entries ≡ whole → rows_at entries name ≡ Some rows → rows_of whole name ≡ rows
rows_there entries whole name rows view there =
    ap (λ w. rows_of w name) (sym view) ∙ ap (λ o. unwrap_or o []) (get_rows entries name ∙ there)

-- the rows under a name that the entries lack
pub rows_absent : (entries : Entries) (whole : Relations) (name : List ℕ) → from_entries entries ≡ whole → rows_at entries name ≡ None → rows_of whole name ≡ []
rows_absent entries whole name view absent =
    ap (λ w. rows_of w name) (sym view) ∙ ap (λ o. unwrap_or o []) (get_rows entries name ∙ absent)

-- a row written through the place of its relation
pub row_written : (result : Result Bool Memory) (old new : Entries) (whole : Relations) (name : List ℕ) (row : List Value) (before after : List (List Value)) → from_entries old ≡ whole → rows_at old name ≡ Some before → ((q : List ℕ) → rows_at new q ≡ cond (is_at (slice_cmp nat_cmp name) q) (Some after) (rows_at old q)) → IfOk result (λ added. after ≡ (if added then insert_row row before else before)) → IfOk result (λ added. from_entries new ≡ (if added then insert whole name (insert_row row (rows_of whole name)) else whole))
row_written (Ok true) old new whole name row before after view there differ rows =
    one_put old new name after differ ∙ ap (λ w. insert w name after) view
    ∙ ap (insert whole name) (rows ∙ ap (insert_row row) (sym (rows_there old whole name before view there)))
row_written (Ok false) old new whole name row before after view there differ rows =
    one_put old new name after differ ∙ ap (insert (from_entries old) name) rows ∙ insert_same old name before there ∙ view
row_written (Err e) old new whole name row before after view there differ rows = tt

-- a relation written through its place as it was
pub row_kept : (result : Result Bool Memory) (old new : Entries) (whole : Relations) (name : List ℕ) (before after : List (List Value)) → from_entries old ≡ whole → rows_at old name ≡ Some before → ((q : List ℕ) → rows_at new q ≡ cond (is_at (slice_cmp nat_cmp name) q) (Some after) (rows_at old q)) → OnErr result (after ≡ before) → OnErr result (from_entries new ≡ whole)
row_kept (Ok added) old new whole name before after view there differ same = tt
row_kept (Err e) old new whole name before after view there differ same =
    one_put old new name after differ ∙ ap (insert (from_entries old) name) same ∙ insert_same old name before there ∙ view

-- a relation of one row put under a name that the entries lack
pub row_added : (old new : Entries) (whole : Relations) (name key : List ℕ) (row : List Value) (rows : List (List Value)) → from_entries old ≡ whole → rows_at old name ≡ None → key ≡ name → rows ≡ row ∷ [] → ((q : List ℕ) → rows_at new q ≡ cond (is_at (slice_cmp nat_cmp key) q) (Some rows) (rows_at old q)) → from_entries new ≡ insert whole name (insert_row row (rows_of whole name))
row_added old new whole name key row rows view absent same one differ =
    one_put old new key rows differ ∙ ap (λ k. insert (from_entries old) k rows) same ∙ ap (λ w. insert w name rows) view
    ∙ ap (insert whole name) (one ∙ ap (insert_row row) (sym (rows_absent old whole name view absent)))

-- a relation written through its place
pub rows_replaced : (old new : Entries) (whole : Relations) (name : List ℕ) (rows before : List (List Value)) → from_entries old ≡ whole → rows_at old name ≡ Some before → ((q : List ℕ) → rows_at new q ≡ cond (is_at (slice_cmp nat_cmp name) q) (Some rows) (rows_at old q)) → from_entries new ≡ replaced whole name rows
rows_replaced old new whole name rows before view there differ =
    let here : get whole name ≡ Some before = ap (λ w. get w name) (sym view) ∙ get_rows old name ∙ there in
    one_put old new name rows differ ∙ ap (λ w. insert w name rows) view ∙ ap (λ o. cond (is_some o) (insert whole name rows) whole) (sym here)

-- nothing is written where there is no relation
pub none_replaced : (old : Entries) (whole : Relations) (name : List ℕ) (rows : List (List Value)) → from_entries old ≡ whole → rows_at old name ≡ None → from_entries old ≡ replaced whole name rows
none_replaced old whole name rows view absent =
    let none : get whole name ≡ None = ap (λ w. get w name) (sym view) ∙ get_rows old name ∙ absent in
    view ∙ ap (λ o. cond (is_some o) (insert whole name rows) whole) (sym none)

-- one relation more is copied: what is not left to copy is copied
pub copied_more : (all left rest copies new : Entries) (key name : List ℕ) (rows relation : List (List Value)) → ((q : List ℕ) → rows_at left q ≡ None → rows_at copies q ≡ rows_at all q) → left ≡ (name, relation) ∷ rest → key ≡ name → rows ≡ relation → rows_at all name ≡ Some relation → ((q : List ℕ) → rows_at new q ≡ cond (is_at (slice_cmp nat_cmp key) q) (Some rows) (rows_at copies q)) → (q : List ℕ) → rows_at rest q ≡ None → rows_at new q ≡ rows_at all q
copied_more all left rest copies new key name rows relation so_far step same_key same_rows there updates q none =
    updates q ∙ elim (slice_cmp nat_cmp key q) as (λ r. slice_cmp nat_cmp key q ≡ r → cond (is_eq r) (Some rows) (rows_at copies q) ≡ rows_at all q) [
      | Less ↦ λ is. so_far q (not_left (ap (λ k. slice_cmp nat_cmp k q) (sym same_key) ∙ is) refl)
      | Equal ↦ λ is. ap Some same_rows ∙ sym there ∙ ap (rows_at all) (sym same_key ∙ slice_cmp-IsAntisymmetric nat_cmp-IsAntisymmetric key q is)
      | Greater ↦ λ is. so_far q (not_left (ap (λ k. slice_cmp nat_cmp k q) (sym same_key) ∙ is) refl)
    ] refl
  where
    not_left : {r : Ordering} → slice_cmp nat_cmp name q ≡ r → is_eq r ≡ false → rows_at left q ≡ None
    not_left {r} is apart =
        ap (λ entries. rows_at entries q) step
        ∙ ap (λ b. cond b (Some relation) (rows_at rest q)) (sym ((eq_by_cmp_equiv nat_list_cmp_total).symm name q) ∙ ap is_eq is ∙ apart) ∙ none

-- entries with the same under each name make one map
pub copied_all : (copies all : Entries) → ((q : List ℕ) → rows_at copies q ≡ rows_at all q) → of_entries copies ≡ of_entries all
copied_all copies all same =
    same_map nat_list_cmp_total (slice_cmp-IsAntisymmetric nat_cmp-IsAntisymmetric) _ _ (λ q. get_rows copies q ∙ same q ∙ sym (get_rows all q))
