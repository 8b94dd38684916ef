-- The rows of a leaf make its content.
use Rattle.std.proofs.Common.{◌≡◌, ◌⊎◌, ℤ, true, false, ◌&&◌, cond, List, [], ◌∷◌, Option, Some, None, Ok, Err, Result, IfOk, Vec, unwrap_or, refl, sym, ap, ◌∙◌, subst, inl, inr}
use Rattle.std.specs.FinMap as map
use Rattle.std.specs.List.{AllByRecursion}
use Rattle.std.proofs.lemmas.Bool.{and_parts, both_ways, cases_Bool}
use Rattle.sqlite.specs.Effect.{Database, IsDatabase}
use Rattle.sqlite.specs.Order.{Row}
use Rattle.sqlite.specs.declared.types.Value.TheVariants.{Text}
use Rattle.sqlite_rules.specs.Lists.{Has}
use Rattle.sqlite_rules.proofs.ListLemmas.{all_from}
use Rattle.std.specs.Ordering.{int_cmp}
use Rattle.store.specs.declared.slot.Slot.{Slot}
use Rattle.std.specs.declared.alloc.Global.{Global}
use Rattle.terms.specs.declared.cond.Cond.{Cond}
use Rattle.store.specs.declared.fault.StoreFault.{StoreFault}
use Rattle.store.specs.Content.{Changes, made_by, parts}
use Rattle.store.specs.ContentLaws.{get-made_by, same_content}
use Rattle.store.specs.Orders.{slot_cmp_total}
use Rattle.store.specs.Slot.{slot_of, slot_cmp}
use Rattle.terms.specs.declared.leaf.Leaf.{Leaf}
use Rattle.terms.specs.declared.value.Value.{Value}
use Rattle.terms.specs.Leaf.{leaf_text, leaf_cmp}
use Rattle.sqlstore.specs.Cells.{text_at, int_at, is_int}
use Rattle.sqlstore.specs.Content.{decoded, leaf_named, is_leaf, is_called, content_in}
use Rattle.sqlstore.specs.Gathered.{ShowsAll}
use Rattle.sqlstore.specs.Listed.{HasCells, AreRowsOf, part_terms, with_part, with_row, with_rows}
use Rattle.sqlstore.specs.Sound.{IsStored, IsPart}
use Rattle.sqlstore.specs.Tests.{shown}
use Rattle.sqlstore.proofs.Bridge.{of_leaf_of, called_text, int_same, same_text}
use Rattle.sqlstore.proofs.Contents.{LooksUp, at_row, nowhere, look_content, is_part_at, both_eq}
use Rattle.sqlstore.proofs.Typed.{part_typed, part_once}

pub get_part : (found : Option Leaf) (key : ℤ) (part : List Value) (changes : Changes) (slot : Slot) → map.get (with_part found key part changes) slot ≡ cond (is_leaf found slot.leaf && is_int slot.key key) (Some (Some part)) (map.get changes slot)
get_part None key part changes slot = refl
get_part (Some leaf) key part changes slot =
    map.get-insert slot_cmp_total changes (slot_of leaf key) (Some part) slot
    ∙ ap (λ same. cond same (Some (Some part)) (map.get changes slot)) (both_eq (leaf_cmp slot.leaf leaf) (int_cmp slot.key key))

-- what rows put at a slot is what one of them has there, or what was there before them
LooksIn : List Leaf → Slot → List Row → Option (Option (List Value)) → Option (Option (List Value)) → Type 0
LooksIn leaves slot rows before found =
    ((row : Row) × Has rows row × (is_part_at leaves slot.leaf slot.key row ≡ true) × (found ≡ Some (Some (decoded (text_at row 3)))))
    ⊎ (((row : Row) → Has rows row → is_part_at leaves slot.leaf slot.key row ≡ false) × (found ≡ before))

look_rows : (leaves : List Leaf) (slot : Slot) (rows : List Row) (changes : Changes) → LooksIn leaves slot rows (map.get changes slot) (map.get (with_rows leaves rows changes) slot)
unfolding LooksIn
look_rows leaves slot [] changes = inr (λ row none. absurd none, refl)
look_rows leaves slot (row ∷ rows) changes =
    let here = get_part (leaf_named leaves (text_at row 1)) (int_at row 2) (decoded (text_at row 3)) changes slot in
    elim (look_rows leaves slot rows (with_row leaves row changes)) [
      | inl later ↦ inl (later.0, inr later.1, later.2, later.3)
      | inr idle ↦ elim (cases_Bool (is_part_at leaves slot.leaf slot.key row)) [
        | inl at ↦ inl (row, inl refl, at, idle.1 ∙ here ∙ ap (λ b. cond b (Some (Some (decoded (text_at row 3)))) (map.get changes slot)) at)
        | inr off ↦ inr (λ one there. elim there [ inl is ↦ ap (is_part_at leaves slot.leaf slot.key) is ∙ off | inr after ↦ idle.0 one after ], idle.1 ∙ here ∙ ap (λ b. cond b (Some (Some (decoded (text_at row 3)))) (map.get changes slot)) off)
      ]
    ]

-- a leaf has one part at a key
same_part : (leaves : List Leaf) (db : Database) → IsDatabase db → IsStored leaves db → (leaf : Leaf) (key : ℤ) (one other : Row) → Has (db.trees 0) one → Has (db.trees 0) other → is_part_at leaves leaf key one ≡ true → is_part_at leaves leaf key other ≡ true → one ≡ other
same_part leaves db sound stored leaf key one other h k at also =
    let a = and_parts (is_called leaves leaf (text_at one 1)) (is_int key (int_at one 2)) at in
    let b = and_parts (is_called leaves leaf (text_at other 1)) (is_int key (int_at other 2)) also in
    part_once db sound stored.tables one other h k (called_text leaves leaf (text_at one 1) a.0 ∙ sym (called_text leaves leaf (text_at other 1) b.0)) (sym (int_same key (int_at one 2) a.1) ∙ int_same key (int_at other 2) b.1)

module _ (leaves : List Leaf) (db : Database) (sound : IsDatabase db) (stored : IsStored leaves db) (leaf : Leaf) (rows : List Row) (finds : AreRowsOf (leaf_text leaf) (db.trees 0) rows) where
  -- a row that is shown has the cells of a row of the table
  from_table : (it : Row) → Has rows it → (row : Row) × Has (db.trees 0) row × (it ≡ shown part_terms (Text (leaf_text leaf) ∷ []) row)
  from_table it there = let from = finds.sound it there in (from.0, from.1, from.3)

  pub all_cells : AllByRecursion HasCells rows
  all_cells = all_from HasCells rows (λ it there.
      let from = from_table it there in
      let typed = part_typed db sound stored.tables from.0 from.1 in
      subst HasCells (sym from.2) (record { leaf = typed.leaf; key = typed.key; body = typed.body }))

  pub all_parts : AllByRecursion (IsPart leaves) rows
  all_parts = all_from (IsPart leaves) rows (λ it there.
      let from = from_table it there in
      let part = stored.parts from.0 from.1 in
      subst (IsPart leaves) (sym from.2) (record { named = part.named; spells = part.spells }))

  at_shown : (key : ℤ) (row : Row) → Has (db.trees 0) row → is_part_at leaves leaf key row ≡ true → Has rows (shown part_terms (Text (leaf_text leaf) ∷ []) row)
  at_shown key row there at =
      let both = and_parts (is_called leaves leaf (text_at row 1)) (is_int key (int_at row 2)) at in
      finds.all row there (of_leaf_of (leaf_text leaf) row (part_typed db sound stored.tables row there) ∙ same_text (text_at row 1) (leaf_text leaf) (called_text leaves leaf (text_at row 1) both.0))

  go : (key : ℤ) (put : Option (Option (List Value))) (found : Option (List Value)) → LooksIn leaves (slot_of leaf key) rows None put → LooksUp (is_part_at leaves leaf key) (λ row. decoded (text_at row 3)) (db.trees 0) found → unwrap_or put None ≡ found
  unfolding LooksIn
  go key put found (inl shown_row) (at_row row there at shows) =
      let from = from_table shown_row.0 shown_row.1 in
      let also : is_part_at leaves leaf key from.0 ≡ true = subst (λ r. is_part_at leaves leaf key r ≡ true) from.2 shown_row.2 in
      let same = same_part leaves db sound stored leaf key from.0 row from.1 there also at in
      ap (λ p. unwrap_or p None) shown_row.3 ∙ ap (λ r. Some (decoded (text_at r 3))) from.2 ∙ ap (λ r. Some (decoded (text_at r 3))) same ∙ sym shows
  go key put found (inl shown_row) (nowhere idle nothing) =
      let from = from_table shown_row.0 shown_row.1 in
      absurd (both_ways (is_part_at leaves leaf key from.0) (idle from.0 from.1) (subst (λ r. is_part_at leaves leaf key r ≡ true) from.2 shown_row.2))
  go key put found (inr idle) (at_row row there at shows) =
      absurd (both_ways (is_part_at leaves leaf key row) (idle.0 (shown part_terms (Text (leaf_text leaf) ∷ []) row) (at_shown key row there at)) at)
  go key put found (inr idle) (nowhere none nothing) = ap (λ p. unwrap_or p None) idle.1 ∙ sym nothing

  -- what the rows make of nothing is the leaf's content
  pub scanned : made_by (with_rows leaves rows map.empty) leaf ≡ content_in leaves (db.trees 0) leaf
  scanned = same_content _ _ (λ key.
      get-made_by (with_rows leaves rows map.empty) leaf key
      ∙ go key _ _ (subst (λ before. LooksIn leaves (slot_of leaf key) rows before (map.get (with_rows leaves rows map.empty) (slot_of leaf key))) (map.get-empty slot_cmp (slot_of leaf key)) (look_rows leaves (slot_of leaf key) rows map.empty)) (look_content leaves leaf key (db.trees 0)))

  -- so what was listed is the leaf's parts that meet the conditions
  pub listed_as : (conds : List Cond) (result : Result (Vec (List Value) Global) StoreFault) → IfOk result (λ found. found.items ≡ parts conds (made_by (with_rows leaves rows map.empty) leaf)) → IfOk result (λ found. found.items ≡ parts conds (content_in leaves (db.trees 0) leaf))
  listed_as conds (Ok found) is = is ∙ ap (parts conds) scanned
  listed_as conds (Err fault) is = tt

-- what all rows make of nothing is each leaf's content
module _ (leaves : List Leaf) (db : Database) (sound : IsDatabase db) (stored : IsStored leaves db) (rows : List Row) (shows : ShowsAll (db.trees 0) rows) (leaf : Leaf) where
  found_same : (key : ℤ) (put : Option (Option (List Value))) (found : Option (List Value)) → LooksIn leaves (slot_of leaf key) rows None put → LooksUp (is_part_at leaves leaf key) (λ row. decoded (text_at row 3)) (db.trees 0) found → unwrap_or put None ≡ found
  unfolding LooksIn
  found_same key put found (inl shown_row) (at_row row there at is) =
      let same = same_part leaves db sound stored leaf key shown_row.0 row (shows.sound shown_row.0 shown_row.1) there shown_row.2 at in
      ap (λ p. unwrap_or p None) shown_row.3 ∙ ap (λ r. Some (decoded (text_at r 3))) same ∙ sym is
  found_same key put found (inl shown_row) (nowhere idle nothing) = absurd (both_ways (is_part_at leaves leaf key shown_row.0) (idle shown_row.0 (shows.sound shown_row.0 shown_row.1)) shown_row.2)
  found_same key put found (inr idle) (at_row row there at is) = absurd (both_ways (is_part_at leaves leaf key row) (idle.0 row (shows.all row there)) at)
  found_same key put found (inr idle) (nowhere none nothing) = ap (λ p. unwrap_or p None) idle.1 ∙ sym nothing

  pub walked_parts : (parts : Changes) → parts ≡ with_rows leaves rows map.empty → made_by parts leaf ≡ content_in leaves (db.trees 0) leaf
  walked_parts parts put =
      ap (λ (changes : Changes). made_by changes leaf) put
      ∙ same_content _ _ (λ key.
      get-made_by (with_rows leaves rows map.empty) leaf key
      ∙ found_same key _ _ (subst (λ before. LooksIn leaves (slot_of leaf key) rows before (map.get (with_rows leaves rows map.empty) (slot_of leaf key))) (map.get-empty slot_cmp (slot_of leaf key)) (look_rows leaves (slot_of leaf key) rows map.empty)) (look_content leaves leaf key (db.trees 0)))
