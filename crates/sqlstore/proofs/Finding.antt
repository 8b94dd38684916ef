-- What a query by key shows is the part that the content has at the key.
use Rattle.std.proofs.Common.{◌≡◌, ℕ, ℤ, Bool, true, false, cond, List, [], ◌∷◌, Option, Some, None, Ok, Err, Result, IfOk, refl, sym, ap, ◌∙◌, inl}
use Rattle.std.specs.FinMap as map
use Rattle.std.specs.Ordering.{is_eq}
use Rattle.std.proofs.lemmas.Bool.{and_parts, and_from, both_ways, or_left, or_right}
use Rattle.std.proofs.lemmas.Cmp.{tied_itself}
use Rattle.sqlite.specs.Effect.{Database, IsDatabase}
use Rattle.sqlite.specs.Order.{Row, bytes, column}
use Rattle.sqlite.specs.declared.types.Value.TheVariants.{Blob}
use Rattle.sqlite_rules.specs.Lists.{Has}
use Rattle.store.specs.declared.fault.StoreFault.{StoreFault}
use Rattle.store.specs.SiteContent.{IsUnchanged}
use Rattle.store.specs.Orders.{leaf_cmp_total, leaf_cmp-IsAntisymmetric}
use Rattle.terms.specs.declared.leaf.Leaf.{Leaf}
use Rattle.terms.specs.declared.value.Value.{Value}
use Rattle.terms.specs.Leaf.{leaf_text, leaf_cmp}
use Rattle.terms.specs.Stored.{part_from}
use Rattle.sqlstore.specs.Cells.{text_at, int_at, is_int, is_text}
use Rattle.sqlstore.specs.Content.{decoded, leaf_named, is_leaf, is_called, has_leaf, content_in, kept_of, AreNamed}
use Rattle.sqlstore.specs.Query.{AreBodies, key_params, first_part, SpellsFirst}
use Rattle.sqlstore.specs.Sound.{IsStored}
use Rattle.sqlstore.specs.Tests.{passes, at_slot}
use Rattle.sqlstore.proofs.Bridge.{at_key_of, called_text, int_same, same_int, text_same, same_text}
use Rattle.sqlstore.proofs.Contents.{LooksUp, at_row, nowhere, look_content, is_part_at}
use Rattle.sqlstore.proofs.Deleting.{is_equal}
use Rattle.sqlstore.proofs.Typed.{part_typed, part_once}

-- a leaf that a name is of is the site's
named_has : (leaves : List Leaf) (name : List ℕ) (leaf : Leaf) → leaf_named leaves name ≡ Some leaf → has_leaf leaves leaf ≡ true
named_has [] name leaf named = absurd cc
named_has (one ∷ leaves) name leaf named = go (is_text name (leaf_text one)) named (named_has leaves name leaf)
  where
    go : (here : Bool) → cond here (Some one) (leaf_named leaves name) ≡ Some leaf → (leaf_named leaves name ≡ Some leaf → has_leaf leaves leaf ≡ true) → has_leaf (one ∷ leaves) leaf ≡ true
    go true found later = let same : leaf ≡ one = cc in or_left _ _ (ap (λ l. is_eq (leaf_cmp l one)) same ∙ ap is_eq (tied_itself leaf_cmp_total one))
    go false found later = or_right _ _ (later found)

called_has : (leaves : List Leaf) (leaf : Leaf) (name : List ℕ) → is_called leaves leaf name ≡ true → has_leaf leaves leaf ≡ true
called_has leaves leaf name called = go (leaf_named leaves name) refl called
  where
    go : (found : Option Leaf) → leaf_named leaves name ≡ found → is_leaf found leaf ≡ true → has_leaf leaves leaf ≡ true
    go None is here = absurd cc
    go (Some one) is here = named_has leaves name leaf (is ∙ ap Some (sym (leaf_cmp-IsAntisymmetric leaf one (is_equal _ here))))

-- a leaf that isn't the site's has no parts
pub no_leaf : (leaves : List Leaf) (rows : List Row) (leaf : Leaf) (key : ℤ) → has_leaf leaves leaf ≡ false → map.get (content_in leaves rows leaf) key ≡ None
no_leaf leaves rows leaf key none = go _ (look_content leaves leaf key rows)
  where
    go : (found : Option (List Value)) → LooksUp (is_part_at leaves leaf key) (λ row. decoded (text_at row 3)) rows found → found ≡ None
    go found (at_row row there at shows) = absurd (both_ways (has_leaf leaves leaf) none (called_has leaves leaf (text_at row 1) (and_parts (is_called leaves leaf (text_at row 1)) (is_int key (int_at row 2)) at).0))
    go found (nowhere idle nothing) = nothing

module _ (leaves : List Leaf) (named : AreNamed leaves) (db : Database) (sound : IsDatabase db) (stored : IsStored leaves db) (leaf : Leaf) (key : ℤ) (has : has_leaf leaves leaf ≡ true) where
  own_name : is_called leaves leaf (leaf_text leaf) ≡ true
  own_name = ap (λ found. is_leaf found leaf) (named leaf has) ∙ ap is_eq (tied_itself leaf_cmp_total leaf)

  -- a row that the query passes is the part at the key, and the other way about
  passed_at : (row : Row) → Has (db.trees 0) row → passes at_slot (key_params (leaf_text leaf) key) row ≡ true → is_part_at leaves leaf key row ≡ true
  passed_at row there pass =
      let both = and_parts (is_text (text_at row 1) (leaf_text leaf)) (is_int (int_at row 2) key) (sym (at_key_of (leaf_text leaf) key row (part_typed db sound stored.tables row there)) ∙ pass) in
      and_from _ _ (ap (is_called leaves leaf) (text_same (text_at row 1) (leaf_text leaf) both.0) ∙ own_name) (same_int key (int_at row 2) (sym (int_same (int_at row 2) key both.1)))

  at_passed : (row : Row) → Has (db.trees 0) row → is_part_at leaves leaf key row ≡ true → passes at_slot (key_params (leaf_text leaf) key) row ≡ true
  at_passed row there at =
      let both = and_parts (is_called leaves leaf (text_at row 1)) (is_int key (int_at row 2)) at in
      at_key_of (leaf_text leaf) key row (part_typed db sound stored.tables row there) ∙ and_from _ _ (same_text (text_at row 1) (leaf_text leaf) (called_text leaves leaf (text_at row 1) both.0)) (same_int (int_at row 2) key (sym (int_same key (int_at row 2) both.1)))

  one_part : (one other : Row) → Has (db.trees 0) one → Has (db.trees 0) other → is_part_at leaves leaf key one ≡ true → is_part_at leaves leaf key other ≡ true → one ≡ other
  one_part one other h k at also =
      let a = and_parts (is_called leaves leaf (text_at one 1)) (is_int key (int_at one 2)) at in
      let b = and_parts (is_called leaves leaf (text_at other 1)) (is_int key (int_at other 2)) also in
      part_once db sound stored.tables one other h k (called_text leaves leaf (text_at one 1) a.0 ∙ sym (called_text leaves leaf (text_at other 1) b.0)) (sym (int_same key (int_at one 2) a.1) ∙ int_same key (int_at other 2) b.1)

  go : (rows : List Row) → AreBodies (leaf_text leaf) key (db.trees 0) rows → (found : Option (List Value)) → LooksUp (is_part_at leaves leaf key) (λ row. decoded (text_at row 3)) (db.trees 0) found → first_part rows ≡ found
  go [] finds found (at_row row there at shows) = absurd (finds.all row there (at_passed row there at))
  go [] finds found (nowhere idle nothing) = sym nothing
  go (it ∷ rows) finds found (at_row row there at shows) =
      let from = finds.sound it (inl refl) in
      let same : from.0 ≡ row = one_part from.0 row from.1 there (passed_at from.0 from.1 from.2) at in
      ap (λ r. Some (decoded (bytes (column r 0)))) from.3 ∙ ap (λ r. Some (decoded (text_at r 3))) same ∙ sym shows
  go (it ∷ rows) finds found (nowhere idle nothing) =
      let from = finds.sound it (inl refl) in
      absurd (both_ways (is_part_at leaves leaf key from.0) (idle from.0 from.1) (passed_at from.0 from.1 from.2))

  pub found_is : (rows : List Row) → AreBodies (leaf_text leaf) key (db.trees 0) rows → first_part rows ≡ map.get (content_in leaves (db.trees 0) leaf) key
  found_is rows finds = go rows finds _ (look_content leaves leaf key (db.trees 0))

  pub spells_first : (rows : List Row) → AreBodies (leaf_text leaf) key (db.trees 0) rows → SpellsFirst rows
  spells_first [] finds = tt
  spells_first (it ∷ rows) finds =
      let from = finds.sound it (inl refl) in
      let typed = part_typed db sound stored.tables from.0 from.1 in
      let spells = (stored.parts from.0 from.1).spells in
      let cell : column it 0 ≡ column from.0 3 = ap (λ r. column r 0) from.3 in
      record { body = cell ∙ typed.body ∙ ap (λ v. Blob (bytes v)) (sym cell); part = spells.part; spelled = ap (λ v. part_from (bytes v)) cell ∙ spells.spelled }

-- what is committed as it was is unchanged
pub unchanged_by : (leaves : List Leaf) (old new : Database) → new ≡ old → IsUnchanged (kept_of leaves old) (kept_of leaves new)
unchanged_by leaves old new same = record {
  has = λ leaf. refl;
  content = λ leaf. ap (λ (db : Database). (kept_of leaves db).content leaf) same;
  prepared = λ ticket. ap (λ (db : Database). (kept_of leaves db).prepared ticket) same;
  life = ap (λ (db : Database). (kept_of leaves db).life) same;
}

-- what was found is what is there, and no damage is told of a sound store
pub part_found : (leaves : List Leaf) (named : AreNamed leaves) (db : Database) (sound : IsDatabase db) (stored : IsStored leaves db) (leaf : Leaf) (key : ℤ) (has : has_leaf leaves leaf ≡ true) (rows : List Row) (result : Result (Option (List Value)) StoreFault)
    → AreBodies (leaf_text leaf) key (db.trees 0) rows → IfOk result (λ found. found ≡ first_part rows) → IfOk result (λ found. found ≡ map.get ((kept_of leaves db).content leaf) key)
part_found leaves named db sound stored leaf key has rows (Ok found) bodies is = is ∙ found_is leaves named db sound stored leaf key has rows bodies
part_found leaves named db sound stored leaf key has rows (Err fault) bodies is = tt
