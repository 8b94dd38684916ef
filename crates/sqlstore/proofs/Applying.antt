-- A ticket's changes are made of the content.
use Rattle.std.proofs.Common.{◌≡◌, ◌⊎◌, ℕ, ℤ, pos, true, false, ◌&&◌, List, [], ◌∷◌, drop, Option, Some, unwrap_or, refl, sym, ap, ◌∙◌, subst, inl, inr, arith}
use Rattle.std.specs.FinMap as map
use Rattle.std.specs.Ordering.{is_ne, nat_cmp}
use Rattle.std.specs.Cmp.Lexicographic.{slice_cmp}
use Rattle.std.proofs.lemmas.Bool.{and_parts, and_from, both_ways, false_from_ne_true}
use Rattle.sqlite.specs.Cast.{cast}
use Rattle.sqlite.specs.Edit.{id_in}
use Rattle.sqlite.specs.Effect.{Database, IsDatabase}
use Rattle.sqlite.specs.Kind.TheVariants as kinds
use Rattle.sqlite.specs.Order.{Row, column, bytes}
use Rattle.sqlite_rules.specs.Lists.{Has}
use Rattle.sqlite_rules.proofs.ListLemmas.{some_from, some_has}
use Rattle.store.specs.declared.name.Ticket.{Ticket}
use Rattle.store.specs.Slot.{slot_of}
use Rattle.terms.specs.declared.leaf.Leaf.{Leaf}
use Rattle.terms.specs.declared.value.Value.{Value}
use Rattle.sqlstore.specs.declared.visit.Visit.{Visit}
use Rattle.sqlstore.specs.Cells.{text_at, int_at, is_int, is_text}
use Rattle.sqlstore.specs.Content.{decoded, is_called, content_in, is_of, put_of, changes_in}
use Rattle.sqlstore.specs.Query.{AreSlots, Makes, slot_terms}
use Rattle.sqlstore.specs.Rows.{AreTables, Rewrites, Loses, Gains}
use Rattle.sqlstore.specs.Step.{visit_params, slot_params, is_at_some, given}
use Rattle.sqlstore.specs.Tests.{passes, shown, at_slot, of_visit, puts_of_visit}
use Rattle.sqlstore.proofs.Bridge.{Stands, intent_of, puts_of, at_slot_of, full_is, is_full, called_text, int_same, same_int, text_same, same_text}
use Rattle.sqlstore.proofs.Contents.{LooksUp, at_row, nowhere, look_content, look_changes, is_part_at, is_intent_at}
use Rattle.sqlstore.proofs.Stepping.{cast_int}
use Rattle.sqlstore.proofs.Typed.{TypedIntent, part_typed, intent_typed, part_once, intent_once, column_drop}

-- what a call that makes a ticket's changes leaves, table by table
pub record Applied (numbers : Visit) (old new : Database) : Type 0 where
  pub tables : AreTables new
  pub sound : IsDatabase new
  pub slots : List Row
  pub found : AreSlots numbers (old.trees 4) slots
  pub mid : List Row
  pub loses : Loses (is_at_some slots) (old.trees 0) mid
  pub gains : Gains (λ cells. (intent : Row) × Has (old.trees 4) intent × (passes puts_of_visit (visit_params numbers) intent ≡ true) × (cells ≡ given intent)) mid (new.trees 0)
  pub prepared : Loses (passes of_visit (visit_params numbers)) (old.trees 2) (new.trees 2)
  pub intents : Loses (passes of_visit (visit_params numbers)) (old.trees 4) (new.trees 4)
  pub state : new.trees 6 ≡ old.trees 6

-- a statement on another table leaves these rows
pub parts_stay : (tree : ℕ) (Changes : List Row → List Row → Type 0) (a b : Database) → (0 ≡ tree → ⊥) → Rewrites tree Changes a b → b.trees 0 ≡ a.trees 0
parts_stay tree Changes a b apart step = step.others _ (inl refl) apart

pub prepared_stay : (tree : ℕ) (Changes : List Row → List Row → Type 0) (a b : Database) → (2 ≡ tree → ⊥) → Rewrites tree Changes a b → b.trees 2 ≡ a.trees 2
prepared_stay tree Changes a b apart step = step.others _ (inr (inl refl)) apart

pub intents_stay : (tree : ℕ) (Changes : List Row → List Row → Type 0) (a b : Database) → (4 ≡ tree → ⊥) → Rewrites tree Changes a b → b.trees 4 ≡ a.trees 4
intents_stay tree Changes a b apart step = step.others _ (inr (inr (inl refl))) apart

pub state_stays : (tree : ℕ) (Changes : List Row → List Row → Type 0) (a b : Database) → (6 ≡ tree → ⊥) → Rewrites tree Changes a b → b.trees 6 ≡ a.trees 6
state_stays tree Changes a b apart step = step.others _ (inr (inr (inr (inl refl)))) apart

pub applied : (numbers : Visit) (old new : Database) → Makes numbers old new → Applied numbers old new
applied numbers old new made =
    let empties = made.2.1 in
    let fills = made.2.2 in
    let a = empties.0 in
    let b = made.2.0 in
    let c = fills.0 in
    let forgets = empties.1 in
    let takes = empties.2 in
    let gives = fills.1 in
    let clears = fills.2 in
    let parts-a : a.trees 0 ≡ old.trees 0 = parts_stay 2 _ old a (λ e. absurd (omega (arith, e))) forgets in
    let intents-a : a.trees 4 ≡ old.trees 4 = intents_stay 2 _ old a (λ e. absurd (omega (arith, e))) forgets in
    let intents-b : b.trees 4 ≡ old.trees 4 = intents_stay 0 _ a b (λ e. absurd (omega (arith, e))) takes ∙ intents-a in
    let intents-c : c.trees 4 ≡ old.trees 4 = intents_stay 0 _ b c (λ e. absurd (omega (arith, e))) gives ∙ intents-b in
    let parts-new : new.trees 0 ≡ c.trees 0 = parts_stay 4 _ c new (λ e. absurd (omega (arith, e))) clears in
    let prepared-new : new.trees 2 ≡ a.trees 2 = prepared_stay 4 _ c new (λ e. absurd (omega (arith, e))) clears ∙ prepared_stay 0 _ b c (λ e. absurd (omega (arith, e))) gives ∙ prepared_stay 0 _ a b (λ e. absurd (omega (arith, e))) takes in
    let state-new : new.trees 6 ≡ old.trees 6 = state_stays 4 _ c new (λ e. absurd (omega (arith, e))) clears ∙ state_stays 0 _ b c (λ e. absurd (omega (arith, e))) gives ∙ state_stays 0 _ a b (λ e. absurd (omega (arith, e))) takes ∙ state_stays 2 _ old a (λ e. absurd (omega (arith, e))) forgets in
    let Cells = λ (intents : List Row) (cells : Row). (intent : Row) × Has intents intent × (passes puts_of_visit (visit_params numbers) intent ≡ true) × (cells ≡ given intent) in
    record {
      tables = clears.tables;
      sound = clears.sound;
      slots = made.0;
      found = made.1;
      mid = b.trees 0;
      loses = subst (λ rows. Loses (is_at_some made.0) rows (b.trees 0)) parts-a takes.rows;
      gains = subst (λ rows. Gains (Cells (old.trees 4)) (b.trees 0) rows) (sym parts-new) (subst (λ intents. Gains (Cells intents) (b.trees 0) (c.trees 0)) intents-b gives.rows);
      prepared = subst (λ rows. Loses (passes of_visit (visit_params numbers)) (old.trees 2) rows) (sym prepared-new) forgets.rows;
      intents = subst (λ rows. Loses (passes of_visit (visit_params numbers)) rows (new.trees 4)) intents-c clears.rows;
      state = state-new;
    }

-- ---- what an intent gives

pub record IsGiven (part intent : Row) : Type 0 where
  pub leaf : text_at part 1 ≡ text_at intent 3
  pub key : int_at part 2 ≡ int_at intent 4
  pub body : text_at part 3 ≡ text_at intent 5

pub given_is : (part intent : Row) → TypedIntent intent → drop 1 part ≡ given intent → IsGiven part intent
given_is part intent typed cells =
    let at = λ (k : ℕ). sym (column_drop part k) ∙ ap (λ (row : Row). column row k) cells in
    record {
      leaf = ap bytes (at 0 ∙ ap (cast kinds.Text) typed.leaf);
      key = ap id_in (at 1 ∙ ap (cast kinds.Integer) typed.key ∙ cast_int (int_at intent 4));
      body = ap bytes (at 2);
    }

put_full : (body : List ℕ) → is_ne (slice_cmp nat_cmp body []) ≡ true → put_of body ≡ Some (decoded body)
put_full [] full = absurd (full_is [] full refl)
put_full (byte ∷ bytes) full = refl

empty_or_full : (body : List ℕ) → (body ≡ []) ⊎ (is_ne (slice_cmp nat_cmp body []) ≡ true)
empty_or_full [] = inl refl
empty_or_full (byte ∷ bytes) = inr (is_full byte bytes)

-- ---- key by key

module _ (leaves : List Leaf) (ticket : Ticket) (numbers : Visit) (stands : Stands numbers ticket) (old new : Database) (was_tables : AreTables old) (was_sound : IsDatabase old) (made : Applied numbers old new) (leaf : Leaf) (key : ℤ) where
  -- a part where the ticket intends something goes
  hit : (part intent : Row) → Has (old.trees 0) part → is_part_at leaves leaf key part ≡ true → Has (old.trees 4) intent → is_intent_at leaves ticket (slot_of leaf key) intent ≡ true → is_at_some made.slots part ≡ true
  hit part intent h at k mine =
      let a = and_parts (is_called leaves leaf (text_at part 1)) (is_int key (int_at part 2)) at in
      let b = and_parts (is_of ticket intent) (is_called leaves leaf (text_at intent 3) && is_int key (int_at intent 4)) mine in
      let c = and_parts (is_called leaves leaf (text_at intent 3)) (is_int key (int_at intent 4)) b.1 in
      let typed = intent_typed old was_sound was_tables intent k in
      let slot = shown slot_terms (visit_params numbers) intent in
      let listed : Has made.slots slot = made.found.all intent k (intent_of numbers ticket intent stands typed ∙ b.0) in
      let same : (is_text (text_at part 1) (text_at intent 3) && is_int (int_at part 2) (int_at intent 4)) ≡ true =
      and_from _ _ (same_text (text_at part 1) (text_at intent 3) (called_text leaves leaf (text_at part 1) a.0 ∙ sym (called_text leaves leaf (text_at intent 3) c.0)))
      (same_int (int_at part 2) (int_at intent 4) (sym (int_same key (int_at part 2) a.1) ∙ int_same key (int_at intent 4) c.1)) in
      some_from (λ s. passes at_slot (slot_params s) part) made.slots slot listed (at_slot_of (visit_params numbers) part intent (part_typed old was_sound was_tables part h) typed ∙ same)

  -- a part stays where the ticket intends nothing
  missed : (part : Row) → Has (old.trees 0) part → is_part_at leaves leaf key part ≡ true → ((intent : Row) → Has (old.trees 4) intent → is_intent_at leaves ticket (slot_of leaf key) intent ≡ false) → is_at_some made.slots part ≡ false
  missed part h at none = false_from_ne_true (is_at_some made.slots part) (λ some.
      let slot = some_has (λ s. passes at_slot (slot_params s) part) made.slots some in
      let from = made.found.sound slot.0 slot.1 in
      let intent = from.0 in
      let typed = intent_typed old was_sound was_tables intent from.1 in
      let tests : (is_text (text_at part 1) (text_at intent 3) && is_int (int_at part 2) (int_at intent 4)) ≡ true =
      sym (at_slot_of (visit_params numbers) part intent (part_typed old was_sound was_tables part h) typed) ∙ subst (λ s. passes at_slot (slot_params s) part ≡ true) from.3 slot.2 in
      let same = and_parts (is_text (text_at part 1) (text_at intent 3)) (is_int (int_at part 2) (int_at intent 4)) tests in
      let a = and_parts (is_called leaves leaf (text_at part 1)) (is_int key (int_at part 2)) at in
      let called : is_called leaves leaf (text_at intent 3) ≡ true = subst (λ name. is_called leaves leaf name ≡ true) (text_same (text_at part 1) (text_at intent 3) same.0) a.0 in
      let keyed : is_int key (int_at intent 4) ≡ true = subst (λ n. is_int key n ≡ true) (int_same (int_at part 2) (int_at intent 4) same.1) a.1 in
      both_ways (is_intent_at leaves ticket (slot_of leaf key) intent) (none intent from.1) (and_from _ _ (sym (intent_of numbers ticket intent stands typed) ∙ from.2) (and_from _ _ called keyed)))

  -- a part that an intent gave stands where the ticket intends something
  gave : (part intent : Row) → is_part_at leaves leaf key part ≡ true → Has (old.trees 4) intent → passes puts_of_visit (visit_params numbers) intent ≡ true → drop 1 part ≡ given intent
      → (is_intent_at leaves ticket (slot_of leaf key) intent ≡ true) × (is_ne (slice_cmp nat_cmp (text_at intent 5) []) ≡ true) × IsGiven part intent
  gave part intent at k puts cells =
      let typed = intent_typed old was_sound was_tables intent k in
      let is = given_is part intent typed cells in
      let a = and_parts (is_called leaves leaf (text_at part 1)) (is_int key (int_at part 2)) at in
      let p = and_parts (is_int (int_at intent 1) (pos ticket.life)) (is_int (int_at intent 2) (pos ticket.visit) && is_ne (slice_cmp nat_cmp (text_at intent 5) [])) (sym (puts_of numbers ticket intent stands typed) ∙ puts) in
      let q = and_parts (is_int (int_at intent 2) (pos ticket.visit)) (is_ne (slice_cmp nat_cmp (text_at intent 5) [])) p.1 in
      let called : is_called leaves leaf (text_at intent 3) ≡ true = subst (λ name. is_called leaves leaf name ≡ true) is.leaf a.0 in
      let keyed : is_int key (int_at intent 4) ≡ true = subst (λ n. is_int key n ≡ true) is.key a.1 in
      (and_from _ _ (and_from _ _ p.0 q.0) (and_from _ _ called keyed), q.1, is)

  -- two intents of the ticket at one slot are one
  one_intent : (one other : Row) → Has (old.trees 4) one → Has (old.trees 4) other → is_intent_at leaves ticket (slot_of leaf key) one ≡ true → is_intent_at leaves ticket (slot_of leaf key) other ≡ true → one ≡ other
  one_intent one other h k mine its =
      let a = and_parts (is_of ticket one) (is_called leaves leaf (text_at one 3) && is_int key (int_at one 4)) mine in
      let b = and_parts (is_of ticket other) (is_called leaves leaf (text_at other 3) && is_int key (int_at other 4)) its in
      let ta = and_parts (is_int (int_at one 1) (pos ticket.life)) (is_int (int_at one 2) (pos ticket.visit)) a.0 in
      let tb = and_parts (is_int (int_at other 1) (pos ticket.life)) (is_int (int_at other 2) (pos ticket.visit)) b.0 in
      let sa = and_parts (is_called leaves leaf (text_at one 3)) (is_int key (int_at one 4)) a.1 in
      let sb = and_parts (is_called leaves leaf (text_at other 3)) (is_int key (int_at other 4)) b.1 in
      intent_once old was_sound was_tables one other h k (int_same _ _ ta.0 ∙ sym (int_same _ _ tb.0)) (int_same _ _ ta.1 ∙ sym (int_same _ _ tb.1))
      (called_text leaves leaf (text_at one 3) sa.0 ∙ sym (called_text leaves leaf (text_at other 3) sb.0)) (sym (int_same key (int_at one 4) sa.1) ∙ int_same key (int_at other 4) sb.1)

  -- an intent that puts a part puts it at its slot
  put : (intent : Row) → Has (old.trees 4) intent → is_intent_at leaves ticket (slot_of leaf key) intent ≡ true → is_ne (slice_cmp nat_cmp (text_at intent 5) []) ≡ true → (part : Row) × Has (new.trees 0) part × (is_part_at leaves leaf key part ≡ true)
  put intent k mine full =
      let typed = intent_typed old was_sound was_tables intent k in
      let b = and_parts (is_of ticket intent) (is_called leaves leaf (text_at intent 3) && is_int key (int_at intent 4)) mine in
      let t = and_parts (is_int (int_at intent 1) (pos ticket.life)) (is_int (int_at intent 2) (pos ticket.visit)) b.0 in
      let c = and_parts (is_called leaves leaf (text_at intent 3)) (is_int key (int_at intent 4)) b.1 in
      let puts = puts_of numbers ticket intent stands typed ∙ and_from _ _ t.0 (and_from _ _ t.1 full) in
      let new_row = made.gains.made (given intent) (intent, k, puts, refl) in
      let is = given_is new_row.0 intent typed new_row.2 in
      (new_row.0, new_row.1, and_from _ _ (subst (λ name. is_called leaves leaf name ≡ true) (sym is.leaf) c.0) (subst (λ n. is_int key n ≡ true) (sym is.key) c.1))

  go : (intended : Option (Option (List Value))) (was now : Option (List Value)) → LooksUp (is_intent_at leaves ticket (slot_of leaf key)) (λ row. put_of (text_at row 5)) (old.trees 4) intended
      → LooksUp (is_part_at leaves leaf key) (λ row. decoded (text_at row 3)) (old.trees 0) was → LooksUp (is_part_at leaves leaf key) (λ row. decoded (text_at row 3)) (new.trees 0) now → now ≡ unwrap_or intended was
  go intended was now (at_row intent k mine puts) before (at_row part h at shows) =
      elim (made.gains.only part h) [
        | inl stayed ↦ let old_row = made.loses.gone part stayed in absurd (both_ways (is_at_some made.slots part) old_row.1 (hit part intent old_row.0 at k mine))
        | inr new_row ↦
            let its = gave part new_row.0 at new_row.1 new_row.2 new_row.3 in
            let same : new_row.0 ≡ intent = one_intent new_row.0 intent new_row.1 k its.0 mine in
            let body : text_at part 3 ≡ text_at intent 5 = its.2.body ∙ ap (λ row. text_at row 5) same in
            let full : is_ne (slice_cmp nat_cmp (text_at intent 5) []) ≡ true = subst (λ row. is_ne (slice_cmp nat_cmp (text_at row 5) []) ≡ true) same its.1 in
            shows ∙ ap (λ b. Some (decoded b)) body ∙ sym (ap (λ i. unwrap_or i was) puts ∙ put_full (text_at intent 5) full)
      ]
  go intended was now (at_row intent k mine puts) before (nowhere none nothing) =
      elim (empty_or_full (text_at intent 5)) [
        | inl empty ↦ nothing ∙ sym (ap (λ i. unwrap_or i was) puts ∙ ap put_of empty)
        | inr full ↦ let there = put intent k mine full in absurd (both_ways (is_part_at leaves leaf key there.0) (none there.0 there.1) there.2)
      ]
  go intended was now (nowhere idle nothing) (at_row part h at shows) (at_row other k there says) =
      let stays = made.gains.kept part (made.loses.left part h (missed part h at idle)) in
      let a = and_parts (is_called leaves leaf (text_at part 1)) (is_int key (int_at part 2)) at in
      let b = and_parts (is_called leaves leaf (text_at other 1)) (is_int key (int_at other 2)) there in
      let same : other ≡ part = part_once new made.sound made.tables other part k stays (called_text leaves leaf (text_at other 1) b.0 ∙ sym (called_text leaves leaf (text_at part 1) a.0)) (sym (int_same key (int_at other 2) b.1) ∙ int_same key (int_at part 2) a.1) in
      says ∙ ap (λ row. Some (decoded (text_at row 3))) same ∙ sym (ap (λ i. unwrap_or i was) nothing ∙ shows)
  go intended was now (nowhere idle nothing) (at_row part h at shows) (nowhere none gone) =
      absurd (both_ways (is_part_at leaves leaf key part) (none part (made.gains.kept part (made.loses.left part h (missed part h at idle)))) at)
  go intended was now (nowhere idle nothing) (nowhere empty before) (at_row part h at shows) =
      elim (made.gains.only part h) [
        | inl stayed ↦ absurd (both_ways (is_part_at leaves leaf key part) (empty part (made.loses.gone part stayed).0) at)
        | inr new_row ↦ absurd (both_ways (is_intent_at leaves ticket (slot_of leaf key) new_row.0) (idle new_row.0 new_row.1) (gave part new_row.0 at new_row.1 new_row.2 new_row.3).0)
      ]
  go intended was now (nowhere idle nothing) (nowhere empty before) (nowhere none gone) = gone ∙ sym (ap (λ i. unwrap_or i was) nothing ∙ before)

  pub applied_at : map.get (content_in leaves (new.trees 0) leaf) key ≡ unwrap_or (map.get (changes_in leaves (old.trees 4) ticket) (slot_of leaf key)) (map.get (content_in leaves (old.trees 0) leaf) key)
  applied_at = go _ _ _ (look_changes leaves ticket (slot_of leaf key) (old.trees 4)) (look_content leaves leaf key (old.trees 0)) (look_content leaves leaf key (new.trees 0))
