-- What each call makes of what a site keeps, and that its rows stay as its store leaves them.
use Rattle.std.proofs.Common.{◌≡◌, ℕ, pos, ◌+◌, ◌≤ℤ◌, true, false, ◌&&◌, cond, List, [], ◌∷◌, drop, Option, Some, None, IsSome, unwrap_or, unsigned_abs, refl, sym, ap, ◌∙◌, subst, inl, inr, arith}
use Rattle.std.specs.FinMap as map
use Rattle.std.specs.Ordering.{is_ne, nat_cmp}
use Rattle.std.specs.Cmp.Lexicographic.{slice_cmp}
use Rattle.std.proofs.lemmas.Bool.{and_parts, both_ways, cases_Bool}
use Rattle.std.proofs.lemmas.Int.{ints}
use Rattle.sqlite.specs.Edit.{id_in}
use Rattle.sqlite.specs.Effect.{Database, IsDatabase}
use Rattle.sqlite.specs.Order.{Row, column}
use Rattle.sqlite.specs.declared.types.Value.TheVariants.{Null, Int}
use Rattle.sqlite_rules.specs.Lists.{Has}
use Rattle.store.specs.declared.name.Ticket.{Ticket}
use Rattle.store.specs.declared.prepared.Prepared.{Prepared}
use Rattle.store.specs.declared.slot.Slot.{Slot}
use Rattle.store.specs.Content.{Changes, changed}
use Rattle.store.specs.ContentLaws.{get-changed, same_content}
use Rattle.store.specs.SiteContent.{IsUnchanged, Applies, Discards, BeginsLife, is_ticket}
use Rattle.store.specs.Slot.{slot_of}
use Rattle.terms.specs.declared.leaf.Leaf.{Leaf}
use Rattle.terms.specs.declared.value.Value.{Value}
use Rattle.sqlstore.specs.declared.visit.Visit.{Visit}
use Rattle.sqlstore.specs.Cells.{text_at, int_at, is_int}
use Rattle.sqlstore.specs.Content.{leaf_named, is_called, content_in, is_of, put_of, changes_in, row_as, prepared_in, life_in, kept_of}
use Rattle.sqlstore.specs.Rows.{AreTables, Loses}
use Rattle.sqlstore.specs.Sound.{IsStored, IsPart, SpellsAt}
use Rattle.sqlstore.specs.Step.{Drops, LivesOn, visit_params, given}
use Rattle.sqlstore.specs.Tests.{passes, of_visit, puts_of_visit}
use Rattle.sqlstore.proofs.Applying.{Applied, applied_at, given_is, parts_stay, prepared_stay, intents_stay, state_stays}
use Rattle.sqlstore.proofs.Bridge.{Stands, puts_of, full_is}
use Rattle.sqlstore.proofs.Contents.{LooksUp, at_row, nowhere, look_changes, look_prepared, is_intent_at}
use Rattle.sqlstore.proofs.Forgetting.{Forgot, forgotten, ticket_same, prepared_left, prepared_gone, intent_left, intent_gone, of_one}
use Rattle.sqlstore.proofs.Typed.{intent_typed, column_drop}

forgot : (numbers : Visit) (old new : Database) → Applied numbers old new → Forgot numbers old new
forgot numbers old new made = record { tables = made.tables; sound = made.sound; prepared = made.prepared; intents = made.intents }

-- ---- making a ticket's changes

-- the changes of a prepared row are those of its intents
changes_are : (changes : Changes) (ticket : Ticket) (rows : List Row) (row : Prepared) → prepared_in rows changes ticket ≡ Some row → row.changes ≡ changes
changes_are changes ticket rows row is = go _ (look_prepared changes ticket rows) is
  where
    go : (found : Option Prepared) → LooksUp (is_of ticket) (λ r. row_as r changes) rows found → found ≡ Some row → row.changes ≡ changes
    go found (at_row r there mine shows) here = let same : row ≡ row_as r changes = cc in ap (λ (p : Prepared). p.changes) same
    go found (nowhere none nothing) here = absurd cc

module _ (leaves : List Leaf) (ticket : Ticket) (numbers : Visit) (stands : Stands numbers ticket) (old new : Database) (was_sound : IsDatabase old) where
  content_made : AreTables old → Applied numbers old new → (leaf : Leaf) → content_in leaves (new.trees 0) leaf ≡ changed leaf (changes_in leaves (old.trees 4) ticket) (content_in leaves (old.trees 0) leaf)
  content_made was_tables made leaf = same_content _ _ (λ key.
      applied_at leaves ticket numbers stands old new was_tables was_sound made leaf key ∙ sym (get-changed leaf (changes_in leaves (old.trees 4) ticket) (content_in leaves (old.trees 0) leaf) key))

  pub applies : AreTables old → Applied numbers old new → (row : Prepared) → (kept_of leaves old).prepared ticket ≡ Some row → Applies ticket row.changes (kept_of leaves old) (kept_of leaves new)
  applies was_tables made row is = record {
    has = λ leaf. refl;
    content = λ leaf. content_made was_tables made leaf ∙ ap (λ (changes : Changes). changed leaf changes (content_in leaves (old.trees 0) leaf)) (sym (changes_are (changes_in leaves (old.trees 4) ticket) ticket (old.trees 2) row is));
    prepared = forgotten leaves ticket numbers stands old new was_tables was_sound (forgot numbers old new made);
    life = ap life_in made.state;
  }

  -- a ticket that has no prepared row has no intents
  pub no_row : (found : Option Prepared) → LooksUp (is_of ticket) (λ r. row_as r (changes_in leaves (old.trees 4) ticket)) (old.trees 2) found → found ≡ None → (row : Row) → Has (old.trees 2) row → is_of ticket row ≡ false
  no_row found (at_row r there mine shows) none = absurd cc
  no_row found (nowhere idle nothing) none = idle

  pub no_intent : IsStored leaves old → (kept_of leaves old).prepared ticket ≡ None → (intent : Row) → Has (old.trees 4) intent → is_of ticket intent ≡ false
  no_intent stored none intent there =
      let its = stored.promised intent there in
      sym (of_one ticket its.0 intent its.2) ∙ no_row _ (look_prepared (changes_in leaves (old.trees 4) ticket) ticket (old.trees 2)) none its.0 its.1

  no_changes : IsStored leaves old → (kept_of leaves old).prepared ticket ≡ None → (slot : Slot) → map.get (changes_in leaves (old.trees 4) ticket) slot ≡ None
  no_changes stored none slot = go _ (look_changes leaves ticket slot (old.trees 4))
    where
      go : (found : Option (Option (List Value))) → LooksUp (is_intent_at leaves ticket slot) (λ row. put_of (text_at row 5)) (old.trees 4) found → found ≡ None
      go found (at_row intent there mine shows) = absurd (both_ways (is_of ticket intent) (no_intent stored none intent there) (and_parts (is_of ticket intent) (is_called leaves slot.leaf (text_at intent 3) && is_int slot.key (int_at intent 4)) mine).0)
      go found (nowhere idle nothing) = nothing

  same_row : (other : Ticket) → (kept_of leaves old).prepared ticket ≡ None → cond (is_ticket ticket other) None ((kept_of leaves old).prepared other) ≡ (kept_of leaves old).prepared other
  same_row other none = elim (cases_Bool (is_ticket ticket other)) [
    | inl mine ↦ ap (λ b. cond b None ((kept_of leaves old).prepared other)) mine ∙ sym (subst (λ t. (kept_of leaves old).prepared t ≡ None) (ticket_same ticket other mine) none)
    | inr differ ↦ ap (λ b. cond b None ((kept_of leaves old).prepared other)) differ
  ]

  pub applies_nothing : IsStored leaves old → Applied numbers old new → (kept_of leaves old).prepared ticket ≡ None → IsUnchanged (kept_of leaves old) (kept_of leaves new)
  applies_nothing stored made none = record {
    has = λ leaf. refl;
    content = λ leaf. same_content _ _ (λ key. applied_at leaves ticket numbers stands old new stored.tables was_sound made leaf key ∙ ap (λ c. unwrap_or c (map.get (content_in leaves (old.trees 0) leaf) key)) (no_changes stored none (slot_of leaf key)));
    prepared = λ other. forgotten leaves ticket numbers stands old new stored.tables was_sound (forgot numbers old new made) other ∙ same_row other none;
    life = ap life_in made.state;
  }

  -- ---- dropping a ticket's rows

  pub dropped : Drops numbers old new → Forgot numbers old new
  dropped made =
      let mid = made.0 in
      let intents-mid : mid.trees 4 ≡ old.trees 4 = intents_stay 2 _ old mid (λ e. absurd (omega (arith, e))) made.1 in
      let prepared-new : new.trees 2 ≡ mid.trees 2 = prepared_stay 4 _ mid new (λ e. absurd (omega (arith, e))) made.2 in
      record {
        tables = made.2.tables;
        sound = made.2.sound;
        prepared = subst (λ rows. Loses (passes of_visit (visit_params numbers)) (old.trees 2) rows) (sym prepared-new) made.1.rows;
        intents = subst (λ rows. Loses (passes of_visit (visit_params numbers)) rows (new.trees 4)) intents-mid made.2.rows;
      }

  drops_parts : Drops numbers old new → new.trees 0 ≡ old.trees 0
  drops_parts made = parts_stay 4 _ made.0 new (λ e. absurd (omega (arith, e))) made.2 ∙ parts_stay 2 _ old made.0 (λ e. absurd (omega (arith, e))) made.1

  drops_state : Drops numbers old new → new.trees 6 ≡ old.trees 6
  drops_state made = state_stays 4 _ made.0 new (λ e. absurd (omega (arith, e))) made.2 ∙ state_stays 2 _ old made.0 (λ e. absurd (omega (arith, e))) made.1

  pub discards : AreTables old → Drops numbers old new → Discards ticket (kept_of leaves old) (kept_of leaves new)
  discards was_tables made = record {
    has = λ leaf. refl;
    content = λ leaf. ap (λ rows. content_in leaves rows leaf) (drops_parts made);
    prepared = forgotten leaves ticket numbers stands old new was_tables was_sound (dropped made);
    life = ap life_in (drops_state made);
  }

  -- ---- rows stay as the store leaves them

  stored_forgot : IsStored leaves old → Forgot numbers old new → ((row : Row) → Has (new.trees 0) row → IsPart leaves row) → new.trees 6 ≡ old.trees 6 → IsStored leaves new
  stored_forgot stored made parts state =
      let gone = prepared_gone leaves ticket numbers stands old new stored.tables was_sound made in
      let left = prepared_left leaves ticket numbers stands old new stored.tables was_sound made in
      let intent-gone = intent_gone leaves ticket numbers stands old new stored.tables was_sound made in
      let intent-left = intent_left leaves ticket numbers stands old new stored.tables was_sound made in
      record {
        tables = made.tables;
        parts = parts;
        intents = λ row there. stored.intents row (intent-gone row there).0;
        prepared = λ row there. stored.prepared row (gone row there).0;
        intended = λ row there.
            let was = gone row there in
            let its = stored.intended row was.0 in
            (its.0, intent-left its.0 its.1 (sym (of_one ticket row its.0 its.2) ∙ was.1), its.2);
        promised = λ intent there.
            let was = intent-gone intent there in
            let its = stored.promised intent was.0 in
            (its.0, left its.0 its.1 (of_one ticket its.0 intent its.2 ∙ was.1), its.2);
        begun = λ row h. stored.begun row (subst (λ rows. Has rows row) state h);
      }

  pub stored_dropped : IsStored leaves old → Drops numbers old new → IsStored leaves new
  stored_dropped stored made = stored_forgot stored (dropped made) (λ row there. stored.parts row (subst (λ rows. Has rows row) (drops_parts made) there)) (drops_state made)

  given_part : IsStored leaves old → (part intent : Row) → Has (old.trees 4) intent → passes puts_of_visit (visit_params numbers) intent ≡ true → drop 1 part ≡ given intent → IsPart leaves part
  given_part stored part intent there puts cells =
      let typed = intent_typed old was_sound stored.tables intent there in
      let is = given_is part intent typed cells in
      let its = stored.intents intent there in
      let p = and_parts (is_int (int_at intent 1) (pos ticket.life)) (is_int (int_at intent 2) (pos ticket.visit) && is_ne (slice_cmp nat_cmp (text_at intent 5) [])) (sym (puts_of numbers ticket intent stands typed) ∙ puts) in
      let full = (and_parts (is_int (int_at intent 2) (pos ticket.visit)) (is_ne (slice_cmp nat_cmp (text_at intent 5) [])) p.1).1 in
      let spells : SpellsAt (text_at intent 5) (int_at intent 4) = elim its.spells [ inl empty ↦ absurd (full_is (text_at intent 5) full empty) | inr spelled ↦ spelled ] in
      record {
        named = subst (λ name. IsSome (leaf_named leaves name)) (sym is.leaf) its.named;
        spells = subst (λ body. SpellsAt body (int_at part 2)) (sym is.body) (subst (λ key. SpellsAt (text_at intent 5) key) (sym is.key) spells);
      }

  pub stored_applied : IsStored leaves old → Applied numbers old new → IsStored leaves new
  stored_applied stored made =
      stored_forgot stored (forgot numbers old new made) (λ row there. elim (made.gains.only row there) [
        | inl stayed ↦ stored.parts row (made.loses.gone row stayed).0
        | inr new_row ↦ given_part stored row new_row.0 new_row.1 new_row.2 new_row.3
      ]) made.state

-- ---- incarnations

module _ (leaves : List Leaf) (life : ℕ) (old new : Database) (made : LivesOn (pos life) old new) where
  life_rows : (row : Row) → Has (new.trees 6) row → drop 1 row ≡ Null ∷ Int (pos life) ∷ []
  life_rows row there = elim (made.2.rows.only row there) [ inl was ↦ let gone = made.1.rows.gone row was in absurd (let never = gone.1 in cc) | inr is ↦ is ]

  life_cell : (row : Row) → Has (new.trees 6) row → int_at row 2 ≡ pos life
  life_cell row there = ap id_in (sym (column_drop row 1) ∙ ap (λ (cells : Row). column cells 1) (life_rows row there))

  life_is : life_in (new.trees 6) ≡ life
  life_is = go (new.trees 6) life_cell (made.2.rows.made (Null ∷ Int (pos life) ∷ []) refl)
    where
      go : (rows : List Row) → ((row : Row) → Has rows row → int_at row 2 ≡ pos life) → ((row : Row) × Has rows row × (drop 1 row ≡ Null ∷ Int (pos life) ∷ [])) → life_in rows ≡ life
      go [] cell there = absurd there.1
      go (row ∷ rows) cell there = ap unsigned_abs (cell row (inl refl))

  lives_parts : new.trees 0 ≡ old.trees 0
  lives_parts = parts_stay 6 _ made.0 new (λ e. absurd (omega (arith, e))) made.2 ∙ parts_stay 6 _ old made.0 (λ e. absurd (omega (arith, e))) made.1

  lives_prepared : new.trees 2 ≡ old.trees 2
  lives_prepared = prepared_stay 6 _ made.0 new (λ e. absurd (omega (arith, e))) made.2 ∙ prepared_stay 6 _ old made.0 (λ e. absurd (omega (arith, e))) made.1

  lives_intents : new.trees 4 ≡ old.trees 4
  lives_intents = intents_stay 6 _ made.0 new (λ e. absurd (omega (arith, e))) made.2 ∙ intents_stay 6 _ old made.0 (λ e. absurd (omega (arith, e))) made.1

  pub begins : life ≡ life_in (old.trees 6) + 1 → BeginsLife (kept_of leaves old) (kept_of leaves new)
  begins next = record {
    has = λ leaf. refl;
    content = λ leaf. ap (λ rows. content_in leaves rows leaf) lives_parts;
    prepared = λ ticket. ap (λ rows. prepared_in (new.trees 2) (changes_in leaves rows ticket) ticket) lives_intents ∙ ap (λ rows. prepared_in rows (changes_in leaves (old.trees 4) ticket) ticket) lives_prepared;
    life = life_is ∙ next;
  }

  pub stored_lives : IsStored leaves old → IsStored leaves new
  stored_lives stored = record {
    tables = made.2.tables;
    parts = λ row there. stored.parts row (subst (λ rows. Has rows row) lives_parts there);
    intents = λ row there. stored.intents row (subst (λ rows. Has rows row) lives_intents there);
    prepared = λ row there. stored.prepared row (subst (λ rows. Has rows row) lives_prepared there);
    intended = λ row there. let its = stored.intended row (subst (λ rows. Has rows row) lives_prepared there) in (its.0, subst (λ rows. Has rows its.0) (sym lives_intents) its.1, its.2);
    promised = λ intent there. let its = stored.promised intent (subst (λ rows. Has rows intent) lives_intents there) in (its.0, subst (λ rows. Has rows its.0) (sym lives_prepared) its.1, its.2);
    begun = λ row there. subst (λ n. pos 0 ≤ℤ n) (sym (life_cell row there)) (omega (arith, ints));
  }
