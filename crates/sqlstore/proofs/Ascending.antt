-- Rows whose keys rise list the parts of a leaf in their order.
use Rattle.std.proofs.Common.{◌≡◌, ◌<◌, ◌+◌, ℕ, suc, ℤ, Bool, true, false, ◌&&◌, cond, T, List, [], ◌∷◌, ◌++◌, length, drop, drop-cons, add-one, get_or, Option, Some, None, IfSome, unwrap_or, refl, sym, ap, ◌∙◌, subst}
use Rattle.std.specs.Prelude.{map as list_map}
use Rattle.std.specs.Cmp.{int_cmp_total}
use Rattle.std.specs.FinMap as map
use Rattle.std.specs.FinMap.Entries.{below_all, find, is_sorted}
use Rattle.std.specs.Ordering.{int_cmp, is_eq, is_lt}
use Rattle.std.specs.declared.cmp.Ordering.{Ordering}
use Rattle.std.specs.declared.cmp.Ordering.TheVariants.{Less, Equal, Greater}
use Rattle.sqlite.specs.Order.{Row}
use Rattle.store.specs.Content.{Changes, made_by, put_at}
use Rattle.store.specs.ContentLaws.{get-made_by, same_content}
use Rattle.store.specs.Slot.{slot_cmp, slot_of}
use Rattle.store.proofs.Scans.{and_left, and_right, find_below}
use Rattle.store.proofs.Views.{sorted_view}
use Rattle.terms.specs.declared.leaf.Leaf.{Leaf}
use Rattle.terms.specs.declared.value.Value.{Value}
use Rattle.terms.specs.Leaf.{leaf_cmp}
use Rattle.terms.specs.Row.{key_of}
use Rattle.sqlstore.specs.Cells.{text_at, int_at, is_int}
use Rattle.sqlstore.specs.Content.{decoded, leaf_named, is_called, is_leaf}
use Rattle.sqlstore.specs.Listed.{entries_in, with_keys, with_row, with_rows}
use Rattle.sqlstore.proofs.Scanning.{get_part}

-- ---- the parts that rows put

or_else : Option (List Value) → Option (List Value) → Option (List Value)
or_else (Some part) before = Some part
or_else None before = before

nothing_else : (found : Option (List Value)) → or_else found None ≡ found
unfolding or_else
nothing_else (Some part) = refl
nothing_else None = refl

tied : (r : Ordering) → is_eq r ≡ true → r ≡ Equal
tied Less e = absurd (subst T (sym e) tt)
tied Equal e = refl
tied Greater e = absurd (subst T (sym e) tt)

unwrap_cond : (b : Bool) (part : List Value) (before : Option (Option (List Value))) → unwrap_or (cond b (Some (Some part)) before) None ≡ cond b (Some part) (unwrap_or before None)
unwrap_cond true part before = refl
unwrap_cond false part before = refl

rest_sorted : (c : Bool) (key : ℤ) (part : List Value) (rest : List (ℤ × List Value)) → T (is_sorted int_cmp (cond c ((key, part) ∷ rest) rest)) → T (is_sorted int_cmp rest)
rest_sorted true key part rest sorted = and_right _ _ sorted
rest_sorted false key part rest sorted = sorted

-- a row's part comes before those behind it, at whose keys it isn't
step : (c b : Bool) (key : ℤ) (part : List Value) (rest : List (ℤ × List Value)) (q : ℤ) (before : Option (List Value)) → is_int q key ≡ b → T (is_sorted int_cmp (cond c ((key, part) ∷ rest) rest))
    → or_else (find int_cmp q rest) (cond (c && b) (Some part) before) ≡ or_else (find int_cmp q (cond c ((key, part) ∷ rest) rest)) before
unfolding or_else
step false b key part rest q before is sorted = refl
step true true key part rest q before is sorted =
    let same : q ≡ key = map.int_cmp-IsAntisymmetric q key (tied (int_cmp q key) is) in
    let none : find int_cmp q rest ≡ None = ap (λ (k : ℤ). find int_cmp k rest) same ∙ find_below key rest (and_left _ _ sorted) in
    ap (λ found. or_else found (Some part)) none ∙ sym (ap (λ t. or_else (cond t (Some part) (find int_cmp q rest)) before) is)
step true false key part rest q before is sorted = sym (ap (λ t. or_else (cond t (Some part) (find int_cmp q rest)) before) is)

module _ (leaves : List Leaf) (leaf : Leaf) where
  put_in : (rows : List Row) (changes : Changes) (q : ℤ) → T (is_sorted int_cmp (entries_in leaves leaf rows)) → put_at (with_rows leaves rows changes) (slot_of leaf q) ≡ or_else (find int_cmp q (entries_in leaves leaf rows)) (put_at changes (slot_of leaf q))
  unfolding or_else
  put_in [] changes q sorted = refl
  put_in (row ∷ rows) changes q sorted =
      let c = is_called leaves leaf (text_at row 1) in
      let key = int_at row 2 in
      let part = decoded (text_at row 3) in
      put_in rows (with_row leaves row changes) q (rest_sorted c key part (entries_in leaves leaf rows) sorted)
      ∙ ap (or_else (find int_cmp q (entries_in leaves leaf rows))) (ap (λ (put : Option (Option (List Value))). unwrap_or put None) (get_part (leaf_named leaves (text_at row 1)) key part changes (slot_of leaf q)) ∙ unwrap_cond (c && is_int q key) part (map.get changes (slot_of leaf q)))
      ∙ step c (is_int q key) key part (entries_in leaves leaf rows) q (put_at changes (slot_of leaf q)) refl sorted

  -- rows whose keys rise make of nothing the parts that they list
  pub listed_in : (rows : List Row) → T (is_sorted int_cmp (entries_in leaves leaf rows)) → map.entries (made_by (with_rows leaves rows map.empty) leaf) ≡ entries_in leaves leaf rows
  listed_in rows sorted =
      let entries = entries_in leaves leaf rows in
      ap map.entries (same_content (made_by (with_rows leaves rows map.empty) leaf) (map.from_entries entries) (λ q.
      get-made_by (with_rows leaves rows map.empty) leaf q
      ∙ put_in rows map.empty q sorted
      ∙ ap (or_else (find int_cmp q entries)) (ap (λ (put : Option (Option (List Value))). unwrap_or put None) (map.get-empty slot_cmp (slot_of leaf q)))
      ∙ nothing_else (find int_cmp q entries)
      ∙ sym (map.get-from_entries int_cmp_total entries q)))
      ∙ sorted_view int_cmp_total map.int_cmp-IsAntisymmetric entries sorted

-- ---- parts with their keys

pub parts_keyed : (parts : List (List Value)) → list_map (λ e. e.1) (with_keys parts) ≡ parts
parts_keyed [] = refl
parts_keyed (part ∷ parts) = ap (λ rest. part ∷ rest) (parts_keyed parts)

-- what was listed is what the rows make of nothing
pub values_in : (leaves : List Leaf) (leaf : Leaf) (rows : List Row) (parts : List (List Value)) → with_keys parts ≡ entries_in leaves leaf rows → T (is_sorted int_cmp (with_keys parts)) → parts ≡ map.values (made_by (with_rows leaves rows map.empty) leaf)
values_in leaves leaf rows parts is sorted =
    sym (parts_keyed parts) ∙ ap (list_map (λ e. e.1)) (is ∙ sym (listed_in leaves leaf rows (subst (λ es. T (is_sorted int_cmp es)) is sorted)))

pushed : (parts : List (List Value)) (part : List Value) (rest : List (ℤ × List Value)) → with_keys (parts ++ part ∷ []) ++ rest ≡ with_keys parts ++ (key_of part, part) ∷ rest
pushed [] part rest = refl
pushed (first ∷ parts) part rest = ap (λ more. (key_of first, first) ∷ more) (pushed parts part rest)

-- a row's part is listed where it is the leaf's
pub part_listed : (leaves : List Leaf) (leaf : Leaf) (rows : List Row) (at : ℕ) (row : Row) (found : Leaf) (part : List Value) (old new : List (List Value)) (total : List (ℤ × List Value)) → at < length rows → row ≡ get_or rows at row
    → leaf_named leaves (text_at row 1) ≡ Some found → decoded (text_at row 3) ≡ part → key_of part ≡ int_at row 2 → is_eq (leaf_cmp leaf found) ≡ true → new ≡ old ++ part ∷ []
    → with_keys old ++ entries_in leaves leaf (drop at rows) ≡ total → with_keys new ++ entries_in leaves leaf (drop (at + 1) rows) ≡ total
part_listed leaves leaf rows at row found part old new total low is named spelled key same made so_far =
    let rest = entries_in leaves leaf (drop (at + 1) rows) in
    let next : drop at rows ≡ row ∷ drop (at + 1) rows = rw add-one (drop-cons rows at row low ∙ ap (λ r. r ∷ drop (suc at) rows) (sym is)) in
    let called : is_called leaves leaf (text_at row 1) ≡ true = ap (λ (o : Option Leaf). is_leaf o leaf) named ∙ same in
    let here : entries_in leaves leaf (drop at rows) ≡ (key_of part, part) ∷ rest =
    ap (entries_in leaves leaf) next ∙ ap (λ b. cond b ((int_at row 2, decoded (text_at row 3)) ∷ rest) rest) called
    ∙ ap (λ p. (int_at row 2, p) ∷ rest) spelled ∙ ap (λ k. (k, part) ∷ rest) (sym key) in
    ap (λ ps. with_keys ps ++ rest) made ∙ pushed old part rest ∙ ap (λ es. with_keys old ++ es) (sym here) ∙ so_far

-- and isn't where it is another's
pub part_passed : (leaves : List Leaf) (leaf : Leaf) (rows : List Row) (at : ℕ) (row : Row) (found : Leaf) (old : List (List Value)) (total : List (ℤ × List Value)) → at < length rows → row ≡ get_or rows at row
    → leaf_named leaves (text_at row 1) ≡ Some found → is_eq (leaf_cmp leaf found) ≡ false
    → with_keys old ++ entries_in leaves leaf (drop at rows) ≡ total → with_keys old ++ entries_in leaves leaf (drop (at + 1) rows) ≡ total
part_passed leaves leaf rows at row found old total low is named differ so_far =
    let rest = entries_in leaves leaf (drop (at + 1) rows) in
    let next : drop at rows ≡ row ∷ drop (at + 1) rows = rw add-one (drop-cons rows at row low ∙ ap (λ r. r ∷ drop (suc at) rows) (sym is)) in
    let off : is_called leaves leaf (text_at row 1) ≡ false = ap (λ (o : Option Leaf). is_leaf o leaf) named ∙ differ in
    let here : entries_in leaves leaf (drop at rows) ≡ rest = ap (entries_in leaves leaf) next ∙ ap (λ b. cond b ((int_at row 2, decoded (text_at row 3)) ∷ rest) rest) off in
    ap (λ es. with_keys old ++ es) (sym here) ∙ so_far

kept : (parts : List (List Value)) (rest : List (ℤ × List Value)) → with_keys (parts ++ []) ++ rest ≡ with_keys parts ++ rest
kept [] rest = refl
kept (first ∷ parts) rest = ap (λ more. (key_of first, first) ∷ more) (kept parts rest)

-- either way the rows so far are listed
pub part_put : (leaves : List Leaf) (leaf : Leaf) (rows : List Row) (at : ℕ) (row : Row) (found : Leaf) (part : List Value) (old new : List (List Value)) (total : List (ℤ × List Value)) → at < length rows → row ≡ get_or rows at row
    → leaf_named leaves (text_at row 1) ≡ Some found → decoded (text_at row 3) ≡ part → key_of part ≡ int_at row 2 → new ≡ old ++ cond (is_eq (leaf_cmp leaf found)) (part ∷ []) []
    → with_keys old ++ entries_in leaves leaf (drop at rows) ≡ total → with_keys new ++ entries_in leaves leaf (drop (at + 1) rows) ≡ total
part_put leaves leaf rows at row found part old new total low is named spelled key made so_far = go (is_eq (leaf_cmp leaf found)) refl made
  where
    go : (b : Bool) → is_eq (leaf_cmp leaf found) ≡ b → new ≡ old ++ cond b (part ∷ []) [] → with_keys new ++ entries_in leaves leaf (drop (at + 1) rows) ≡ total
    go true same pushed_it = part_listed leaves leaf rows at row found part old new total low is named spelled key same pushed_it so_far
    go false differ left =
        let rest = entries_in leaves leaf (drop (at + 1) rows) in
        ap (λ ps. with_keys ps ++ rest) left ∙ kept old rest ∙ part_passed leaves leaf rows at row found old total low is named differ so_far

-- ---- keys that rise

and_both : (one other : Bool) → T one → T other → T (one && other)
and_both true other first second = second
and_both false other first second = absurd first

less : (r : Ordering) → T (is_lt r) → r ≡ Less
less Less is = refl
less Equal is = absurd is
less Greater is = absurd is

chain : (one two three : ℤ) → T (is_lt (int_cmp one two)) → T (is_lt (int_cmp two three)) → T (is_lt (int_cmp one three))
chain one two three low high = subst (λ r. T (is_lt r)) (sym (int_cmp_total.trans one two three (less _ low) (less _ high))) tt

-- whatever is below the least key is below all
abbrev pub IsLeast : Option ℤ → List (List Value) → Type 0
IsLeast least parts = (key : ℤ) → IfSome least (λ above. T (is_lt (int_cmp key above))) → T (below_all int_cmp key (with_keys parts))

below_least : (key part_key : ℤ) (least : Option ℤ) → T (is_lt (int_cmp key part_key)) → IfSome least (λ above. T (is_lt (int_cmp part_key above))) → IfSome least (λ above. T (is_lt (int_cmp key above)))
below_least key part_key None low high = tt
below_least key part_key (Some above) low high = chain key part_key above low high

-- a part before them whose key is below the least
pub rise_more : (all rest : List (List Value)) (part : List Value) (least : Option ℤ) → all ≡ part ∷ rest → T (is_sorted int_cmp (with_keys rest)) → IsLeast least rest → IfSome least (λ above. T (is_lt (int_cmp (key_of part) above))) → T (is_sorted int_cmp (with_keys all))
rise_more all rest part least is sorted below under = subst (λ ps. T (is_sorted int_cmp (with_keys ps))) (sym is) (and_both _ _ (below (key_of part) under) sorted)

pub least_more : (all rest : List (List Value)) (part : List Value) (least : Option ℤ) → all ≡ part ∷ rest → IsLeast least rest → IfSome least (λ above. T (is_lt (int_cmp (key_of part) above))) → IsLeast (Some (key_of part)) all
least_more all rest part least is below under key low = subst (λ ps. T (below_all int_cmp key (with_keys ps))) (sym is) (and_both _ _ low (below key (below_least key (key_of part) least low under)))
