-- A ticket is prepared with its changes.
use Rattle.std.proofs.Common.{◌≡◌, ◌≢◌, ◌⊎◌, ℕ, ℤ, pos, ◌≤ℤ◌, Bool, true, false, ◌&&◌, T, cond, List, [], ◌∷◌, length, drop, Option, Some, None, IsSome, IfSome, string_bytes, unsigned_abs, refl, sym, ap, ◌∙◌, subst, inl, inr, arith, Equal}
use Rattle.std.specs.FinMap as map
use Rattle.std.specs.List.{list_any}
use Rattle.std.specs.Ordering.{is_eq, is_lt}
use Rattle.std.proofs.lemmas.Bool.{and_parts, and_from, both_ways, cases_Bool, false_from_ne_true}
use Rattle.std.proofs.lemmas.Cmp.{tied_itself}
use Rattle.std.proofs.lemmas.Int.{ints}
use Rattle.sqlite.specs.Edit.{id_in}
use Rattle.sqlite.specs.Effect.{Database, IsDatabase}
use Rattle.sqlite.specs.Order.{Row, column, bytes}
use Rattle.sqlite_rules.specs.Lists.{Has}
use Rattle.sqlite_rules.proofs.ListLemmas.{all_has, test_has, some_has, some_from}
use Rattle.store.specs.declared.name.Ticket.{Ticket}
use Rattle.store.specs.declared.name.Txn.{Txn}
use Rattle.store.specs.declared.prepared.Prepared.{Prepared}
use Rattle.store.specs.declared.slot.Slot.{Slot}
use Rattle.store.specs.Content.{Changes, AreKeyed, are_within, is_of as is_its}
use Rattle.terms.proofs.Spelled.{spelled_is_read}
use Rattle.sqlstore.specs.declared.promise.Promise.{Promise}
use Rattle.store.specs.Orders.{slot_cmp_total, slot_cmp-IsAntisymmetric, leaf_cmp_total, leaf_cmp-IsAntisymmetric}
use Rattle.store.specs.SiteContent.{Prepares, is_ticket}
use Rattle.store.specs.Slot.{slot_cmp}
use Rattle.terms.specs.declared.leaf.Leaf.{Leaf}
use Rattle.terms.specs.declared.value.Value.{Value}
use Rattle.terms.specs.Leaf.{leaf_text, leaf_cmp}
use Rattle.terms.specs.Row.{key_of}
use Rattle.terms.specs.Stored.{IsStorable, part_from, SpelledIsRead}
use Rattle.sqlstore.specs.declared.intent.Intent.{Intent}
use Rattle.sqlstore.specs.declared.visit.Visit.{Visit}
use Rattle.sqlstore.specs.Cells.{text_at, int_at, is_int}
use Rattle.sqlstore.specs.Content.{part_or_none, leaf_named, is_leaf, is_called, content_in, is_of, put_of, changes_in, row_as, prepared_in, life_in, has_leaf, kept_of, AreNamed}
use Rattle.sqlstore.specs.Intents.{AreIntents, IsPromiseOf, HasBody, body_of, seen, wanted}
use Rattle.sqlstore.specs.Rows.{AreTables}
use Rattle.sqlstore.specs.Sound.{IsStored, SpellsAt, AreOfOne}
use Rattle.sqlstore.specs.Step.{Keeps, promise_params, intend_params}
use Rattle.sqlstore.proofs.Applying.{parts_stay, prepared_stay, intents_stay, state_stays}
use Rattle.sqlstore.proofs.Bridge.{Stands, called_text, int_same, same_int}
use Rattle.sqlstore.proofs.Contents.{LooksUp, at_row, nowhere, look_changes, look_prepared, is_intent_at}
use Rattle.sqlstore.proofs.Deleting.{is_equal}
use Rattle.sqlstore.proofs.Forgetting.{looks_same, of_parts, one_ticket, ticket_same}
use Rattle.sqlstore.proofs.Querying.{mapped_has, has_mapped}
use Rattle.sqlstore.proofs.Sites.{no_intent, no_row}
use Rattle.sqlstore.proofs.Typed.{column_drop, prepared_once, intent_once}

abbrev Entry : Type 0
Entry = Slot × Option (List Value)

-- ---- entries of changes

found_has : (slot : Slot) (entries : List Entry) (p : Option (List Value)) → map.find slot_cmp slot entries ≡ Some p → Has entries (slot, p)
found_has slot [] p found = absurd cc
found_has slot (entry ∷ entries) p found = go (is_eq (slot_cmp slot entry.0)) refl found (found_has slot entries p)
  where
    go : (here : Bool) → is_eq (slot_cmp slot entry.0) ≡ here → cond here (Some entry.1) (map.find slot_cmp slot entries) ≡ Some p → (map.find slot_cmp slot entries ≡ Some p → Has entries (slot, p)) → Has (entry ∷ entries) (slot, p)
    go true same is later =
        let one : slot ≡ entry.0 = slot_cmp-IsAntisymmetric slot entry.0 (is_equal _ same) in
        let other : p ≡ entry.1 = cc in
        inl (λ i. (one i, other i))
    go false differ is later = inr (later is)

both_T : (a b : Bool) → T (a && b) → T a × T b
both_T true b h = (tt, h)
both_T false b h = absurd h

-- a key below all others is none of them
below_apart : (slot : Slot) (entries : List Entry) (entry : Entry) → T (map.Entries.below_all slot_cmp slot entries) → Has entries entry → is_eq (slot_cmp entry.0 slot) ≡ true → ⊥
below_apart slot [] entry below there same = there
below_apart slot (e ∷ entries) entry below (inl is) same =
    let less = (both_T (is_lt (slot_cmp slot e.0)) _ below).0 in
    let one : entry.0 ≡ slot = slot_cmp-IsAntisymmetric entry.0 slot (is_equal _ same) in
    let tied : slot_cmp slot e.0 ≡ Equal = ap (slot_cmp slot) (sym (ap (λ (x : Entry). x.0) is) ∙ one) ∙ tied_itself slot_cmp_total slot in
    subst (λ o. T (is_lt o)) tied less
below_apart slot (e ∷ entries) entry below (inr later) same = below_apart slot entries entry (both_T (is_lt (slot_cmp slot e.0)) _ below).1 later same

has_found : (entries : List Entry) → T (map.is_sorted slot_cmp entries) → (entry : Entry) → Has entries entry → map.find slot_cmp entry.0 entries ≡ Some entry.1
has_found [] sorted entry there = absurd there
has_found (e ∷ entries) sorted entry (inl is) = subst (λ (x : Entry). map.find slot_cmp x.0 (e ∷ entries) ≡ Some x.1) (sym is) (ap (λ b. cond b (Some e.1) (map.find slot_cmp e.0 entries)) (ap is_eq (tied_itself slot_cmp_total e.0)))
has_found (e ∷ entries) sorted entry (inr later) =
    let parts = both_T (map.Entries.below_all slot_cmp e.0 entries) (map.is_sorted slot_cmp entries) sorted in
    let differ : is_eq (slot_cmp entry.0 e.0) ≡ false = false_from_ne_true _ (λ same. below_apart e.0 entries entry parts.0 later same) in
    ap (λ b. cond b (Some e.1) (map.find slot_cmp entry.0 entries)) differ ∙ has_found entries parts.1 entry later

-- a slot that is changed is an entry, and each entry is a slot that is changed
pub changed_has : (changes : Changes) (slot : Slot) (p : Option (List Value)) → map.get changes slot ≡ Some p → Has (map.entries changes) (slot, p)
changed_has changes slot p is = found_has slot (map.entries changes) p (sym (map.get-entries changes slot) ∙ is)

pub has_changed : (changes : Changes) (entry : Entry) → Has (map.entries changes) entry → map.get changes entry.0 ≡ Some entry.1
has_changed changes entry there = map.get-entries changes entry.0 ∙ has_found (map.entries changes) (map.entries_sorted changes) entry there

-- changes that are some have an entry
some_entry : (changes : Changes) → changes ≢ map.empty → (entry : Entry) × Has (map.entries changes) entry
some_entry changes some = go (map.entries changes) refl
  where
    go : (entries : List Entry) → map.entries changes ≡ entries → (entry : Entry) × Has entries entry
    go [] none = absurd (some (map.empty_of_len changes (map.len-entries changes ∙ ap length none)))
    go (entry ∷ entries) is = (entry, inl refl)

-- two intents of a ticket at one slot are one
intent_of_slot : (leaves : List Leaf) (db : Database) (sound : IsDatabase db) (tables : AreTables db) (ticket : Ticket) (slot : Slot) (one two : Row) → Has (db.trees 4) one → Has (db.trees 4) two → is_intent_at leaves ticket slot one ≡ true → is_intent_at leaves ticket slot two ≡ true → one ≡ two
intent_of_slot leaves db sound tables ticket slot one two h k mine its =
    let a = and_parts (is_of ticket one) (is_called leaves slot.leaf (text_at one 3) && is_int slot.key (int_at one 4)) mine in
    let b = and_parts (is_of ticket two) (is_called leaves slot.leaf (text_at two 3) && is_int slot.key (int_at two 4)) its in
    let ta = of_parts ticket one a.0 in
    let tb = of_parts ticket two b.0 in
    let sa = and_parts (is_called leaves slot.leaf (text_at one 3)) (is_int slot.key (int_at one 4)) a.1 in
    let sb = and_parts (is_called leaves slot.leaf (text_at two 3)) (is_int slot.key (int_at two 4)) b.1 in
    intent_once db sound tables one two h k (ta.0 ∙ sym tb.0) (ta.1 ∙ sym tb.1) (called_text leaves slot.leaf (text_at one 3) sa.0 ∙ sym (called_text leaves slot.leaf (text_at two 3) sb.0))
    (sym (int_same slot.key (int_at one 4) sa.1) ∙ int_same slot.key (int_at two 4) sb.1)

-- ---- rows that were put

-- what an intent's cells say
pub record IsCells (row : Row) (numbers : Visit) (leaf : List ℕ) (key : ℤ) (body : List ℕ) : Type 0 where
  pub life : int_at row 1 ≡ numbers.life
  pub visit : int_at row 2 ≡ numbers.visit
  pub leaf_is : text_at row 3 ≡ leaf
  pub key_is : int_at row 4 ≡ key
  pub body_is : text_at row 5 ≡ body

cells_are : (row : Row) (numbers : Visit) (leaf : List ℕ) (key : ℤ) (body : List ℕ) → drop 1 row ≡ intend_params numbers leaf key body → IsCells row numbers leaf key body
cells_are row numbers leaf key body cells =
    let at = λ (k : ℕ). sym (column_drop row k) ∙ ap (λ (r : Row). column r k) cells in
    record { life = ap id_in (at 0); visit = ap id_in (at 1); leaf_is = ap bytes (at 2); key_is = ap id_in (at 3); body_is = ap bytes (at 4) }

-- what a prepared row's cells say
pub record IsPromised (row : Row) (numbers txn : Visit) : Type 0 where
  pub life : int_at row 1 ≡ numbers.life
  pub visit : int_at row 2 ≡ numbers.visit
  pub txn_life : int_at row 3 ≡ txn.life
  pub txn_number : int_at row 4 ≡ txn.visit

promised_are : (row : Row) (numbers txn : Visit) → drop 1 row ≡ promise_params numbers txn → IsPromised row numbers txn
promised_are row numbers txn cells =
    let at = λ (k : ℕ). sym (column_drop row k) ∙ ap (λ (r : Row). column r k) cells in
    record { life = ap id_in (at 0); visit = ap id_in (at 1); txn_life = ap id_in (at 2); txn_number = ap id_in (at 3) }

-- what a body puts is what it was made of
put_again : (again : SpelledIsRead) (p : Option (List Value)) → IfSome p IsStorable → put_of (body_of p) ≡ p
put_again again None stored = refl
put_again again (Some part) stored = ap (λ read. Some (part_or_none read)) (again part stored)

-- which numbers stand for a transaction
pub record StandsFor (numbers : Visit) (txn : Txn) : Type 0 where
  pub life : numbers.life ≡ pos txn.life
  pub number : numbers.visit ≡ pos txn.number

module _ (again : SpelledIsRead) (leaves : List Leaf) (named : AreNamed leaves) (ticket : Ticket) (numbers : Visit) (stands : Stands numbers ticket) (txn : Txn) (txn_numbers : Visit) (stand : StandsFor txn_numbers txn) (intents : List Intent) (changes : Changes)
    (are : AreIntents intents changes) (old new : Database) (was_sound : IsDatabase old) (stored : IsStored leaves old) (within : (slot : Slot) → IsSome (map.get changes slot) → has_leaf leaves slot.leaf ≡ true) (made : Keeps numbers txn_numbers intents old new) where
  mid : Database
  mid = made.0

  keeps_parts : new.trees 0 ≡ old.trees 0
  unfolding mid
  keeps_parts = parts_stay 4 _ mid new (λ e. absurd (omega (arith, e))) made.2 ∙ parts_stay 2 _ old mid (λ e. absurd (omega (arith, e))) made.1

  keeps_state : new.trees 6 ≡ old.trees 6
  unfolding mid
  keeps_state = state_stays 4 _ mid new (λ e. absurd (omega (arith, e))) made.2 ∙ state_stays 2 _ old mid (λ e. absurd (omega (arith, e))) made.1

  prepared_mid : new.trees 2 ≡ mid.trees 2
  unfolding mid
  prepared_mid = prepared_stay 4 _ mid new (λ e. absurd (omega (arith, e))) made.2

  intents_mid : mid.trees 4 ≡ old.trees 4
  unfolding mid
  intents_mid = intents_stay 2 _ old mid (λ e. absurd (omega (arith, e))) made.1

  -- a prepared row was there, or is the new one
  prepared_from : (row : Row) → Has (new.trees 2) row → Has (old.trees 2) row ⊎ IsPromised row numbers txn_numbers
  unfolding mid
  prepared_from row there = elim (made.1.rows.only row (subst (λ rows. Has rows row) prepared_mid there)) [ inl was ↦ inl was | inr is ↦ inr (promised_are row numbers txn_numbers is) ]

  prepared_kept : (row : Row) → Has (old.trees 2) row → Has (new.trees 2) row
  unfolding mid
  prepared_kept row there = subst (λ rows. Has rows row) (sym prepared_mid) (made.1.rows.kept row there)

  the_row : (row : Row) × Has (new.trees 2) row × IsPromised row numbers txn_numbers
  unfolding mid
  the_row =
      let put = made.1.rows.made (promise_params numbers txn_numbers) refl in
      (put.0, subst (λ rows. Has rows put.0) (sym prepared_mid) put.1, promised_are put.0 numbers txn_numbers put.2)

  -- an intent was there, or is of a slot that is changed
  intent_from : (row : Row) → Has (new.trees 4) row → Has (old.trees 4) row ⊎ ((entry : Entry) × Has (map.entries changes) entry × IsCells row numbers (leaf_text entry.0.leaf) entry.0.key (body_of entry.1))
  unfolding mid
  intent_from row there = elim (made.2.rows.only row there) [
    | inl was ↦ inl (subst (λ rows. Has rows row) intents_mid was)
    | inr new_row ↦
        let listed = subst (λ all. Has all (seen new_row.0)) are.0 (has_mapped seen intents new_row.0 new_row.1) in
        let entry = mapped_has wanted (map.entries changes) (seen new_row.0) listed in
        inr (entry.0, entry.1, cells_are row numbers (leaf_text entry.0.0.leaf) entry.0.0.key (body_of entry.0.1) (new_row.2 ∙ ap (λ (it : _). intend_params numbers it.0 it.1.0 it.1.1) entry.2))
  ]

  intent_kept : (row : Row) → Has (old.trees 4) row → Has (new.trees 4) row
  unfolding mid
  intent_kept row there = made.2.rows.kept row (subst (λ rows. Has rows row) (sym intents_mid) there)

  intent_made : (entry : Entry) → Has (map.entries changes) entry → (row : Row) × Has (new.trees 4) row × IsCells row numbers (leaf_text entry.0.leaf) entry.0.key (body_of entry.1)
  unfolding mid
  intent_made entry there =
      let listed = subst (λ all. Has all (wanted entry)) (sym are.0) (has_mapped wanted (map.entries changes) entry there) in
      let intent = mapped_has seen intents (wanted entry) listed in
      let put = made.2.rows.made (intend_params numbers (string_bytes intent.0.leaf) intent.0.key intent.0.body.items) (intent.0, intent.1, refl) in
      (put.0, put.1, cells_are put.0 numbers (leaf_text entry.0.leaf) entry.0.key (body_of entry.1) (put.2 ∙ ap (λ (it : _). intend_params numbers it.0 it.1.0 it.1.1) (sym intent.2)))

  entry_within : (entry : Entry) → Has (map.entries changes) entry → leaf_named leaves (leaf_text entry.0.leaf) ≡ Some entry.0.leaf
  entry_within entry there = named entry.0.leaf (within entry.0 (subst IsSome (sym (has_changed changes entry there)) refl))

  of_cells : (row : Row) (leaf : List ℕ) (key : ℤ) (body : List ℕ) → IsCells row numbers leaf key body → is_of ticket row ≡ true
  of_cells row leaf key body cells = and_from _ _ (same_int _ _ (cells.life ∙ stands.life)) (same_int _ _ (cells.visit ∙ stands.visit))

  of_promised : (row : Row) → IsPromised row numbers txn_numbers → is_of ticket row ≡ true
  of_promised row cells = and_from _ _ (same_int _ _ (cells.life ∙ stands.life)) (same_int _ _ (cells.visit ∙ stands.visit))

  -- an intent of a slot stands there
  stands_at : (row : Row) (entry : Entry) → Has (map.entries changes) entry → IsCells row numbers (leaf_text entry.0.leaf) entry.0.key (body_of entry.1) → is_intent_at leaves ticket entry.0 row ≡ true
  stands_at row entry there cells =
      let name : is_called leaves entry.0.leaf (text_at row 3) ≡ true = ap (is_called leaves entry.0.leaf) cells.leaf_is ∙ ap (λ found. is_leaf found entry.0.leaf) (entry_within entry there) ∙ ap is_eq (tied_itself leaf_cmp_total entry.0.leaf) in
      and_from _ _ (of_cells row _ _ _ cells) (and_from _ _ name (same_int entry.0.key (int_at row 4) (sym cells.key_is)))

  -- and at no other
  only_at : (slot : Slot) (row : Row) (entry : Entry) → Has (map.entries changes) entry → IsCells row numbers (leaf_text entry.0.leaf) entry.0.key (body_of entry.1) → is_intent_at leaves ticket slot row ≡ true → slot ≡ entry.0
  only_at slot row entry there cells mine =
      let a = and_parts (is_of ticket row) (is_called leaves slot.leaf (text_at row 3) && is_int slot.key (int_at row 4)) mine in
      let b = and_parts (is_called leaves slot.leaf (text_at row 3)) (is_int slot.key (int_at row 4)) a.1 in
      let alike : is_leaf (Some entry.0.leaf) slot.leaf ≡ true = ap (λ found. is_leaf found slot.leaf) (sym (entry_within entry there)) ∙ ap (is_called leaves slot.leaf) (sym cells.leaf_is) ∙ b.0 in
      let leaf : slot.leaf ≡ entry.0.leaf = leaf_cmp-IsAntisymmetric slot.leaf entry.0.leaf (is_equal _ alike) in
      let key : slot.key ≡ entry.0.key = int_same slot.key (int_at row 4) b.1 ∙ cells.key_is in
      λ i. record { leaf = leaf i; key = key i }

  module _ (none : (kept_of leaves old).prepared ticket ≡ None) where
    changes_kept : changes_in leaves (new.trees 4) ticket ≡ changes
    changes_kept = map.same_map slot_cmp_total slot_cmp-IsAntisymmetric _ _ (λ slot. go slot _ (look_changes leaves ticket slot (new.trees 4)))
      where
        unchanged : (slot : Slot) → ((row : Row) → Has (new.trees 4) row → is_intent_at leaves ticket slot row ≡ false) → (p : Option (Option (List Value))) → map.get changes slot ≡ p → None ≡ p
        unchanged slot idle None is = refl
        unchanged slot idle (Some p) is =
            let there = changed_has changes slot p is in
            let row = intent_made (slot, p) there in
            absurd (both_ways (is_intent_at leaves ticket slot row.0) (idle row.0 row.1) (stands_at row.0 (slot, p) there row.2))

        go : (slot : Slot) (found : Option (Option (List Value))) → LooksUp (is_intent_at leaves ticket slot) (λ row. put_of (text_at row 5)) (new.trees 4) found → found ≡ map.get changes slot
        go slot found (at_row row there mine shows) =
            elim (intent_from row there) [
              | inl was ↦ absurd (both_ways (is_of ticket row) (no_intent leaves ticket numbers stands old new was_sound stored none row was) (and_parts (is_of ticket row) (is_called leaves slot.leaf (text_at row 3) && is_int slot.key (int_at row 4)) mine).0)
              | inr put ↦
                  let entry = put.0 in
                  let same = only_at slot row entry put.1 put.2 mine in
                  let body = put_again again entry.1 (all_has HasBody (map.entries changes) entry are.1 put.1) in
                  shows ∙ ap (λ b. Some (put_of b)) put.2.body_is ∙ ap Some body ∙ sym (has_changed changes entry put.1) ∙ ap (map.get changes) (sym same)
            ]
        go slot found (nowhere idle nothing) = nothing ∙ unchanged slot idle (map.get changes slot) refl

    the_prepared : Prepared
    the_prepared = record { txn = txn; changes = changes }

    row_is : (row : Row) (its : Changes) → IsPromised row numbers txn_numbers → its ≡ changes → row_as row its ≡ record { txn = txn; changes = changes }
    row_is row its cells same =
        let life : unsigned_abs (int_at row 3) ≡ txn.life = ap unsigned_abs (cells.txn_life ∙ stand.life) in
        let number : unsigned_abs (int_at row 4) ≡ txn.number = ap unsigned_abs (cells.txn_number ∙ stand.number) in
        λ i. record { txn = record { life = life i; number = number i }; changes = same i }

    mine_kept : (found : Option Prepared) → LooksUp (is_of ticket) (λ row. row_as row (changes_in leaves (new.trees 4) ticket)) (new.trees 2) found → found ≡ Some (record { txn = txn; changes = changes })
    mine_kept found (at_row row there mine shows) =
        elim (prepared_from row there) [
          | inl was ↦ absurd (both_ways (is_of ticket row) (no_row leaves ticket numbers stands old new was_sound _ (look_prepared (changes_in leaves (old.trees 4) ticket) ticket (old.trees 2)) none row was) mine)
          | inr cells ↦ shows ∙ ap Some (row_is row (changes_in leaves (new.trees 4) ticket) cells changes_kept)
        ]
    mine_kept found (nowhere idle nothing) = absurd (both_ways (is_of ticket the_row.0) (idle the_row.0 the_row.1) (of_promised the_row.0 the_row.2))

  -- other tickets have what they had
  module _ (other : Ticket) (differ : is_ticket ticket other ≡ false) where
    not_both : (row : Row) → is_of ticket row ≡ true → is_of other row ≡ true → ⊥
    not_both row mine its = both_ways (is_ticket ticket other) differ (one_ticket ticket other row mine its)

    others_changes : changes_in leaves (new.trees 4) other ≡ changes_in leaves (old.trees 4) other
    others_changes = map.same_map slot_cmp_total slot_cmp-IsAntisymmetric _ _ (λ slot.
        looks_same (is_intent_at leaves other slot) (λ row. put_of (text_at row 5)) (new.trees 4) (old.trees 4) _ _
        (λ row there its. elim (intent_from row there) [
          | inl was ↦ was
          | inr put ↦ absurd (not_both row (of_cells row _ _ _ put.2) (and_parts (is_of other row) (is_called leaves slot.leaf (text_at row 3) && is_int slot.key (int_at row 4)) its).0)
        ])
        (λ row there its. intent_kept row there)
        (λ one two h k mine its. intent_of_slot leaves old was_sound stored.tables other slot one two h k mine its)
        (look_changes leaves other slot (new.trees 4)) (look_changes leaves other slot (old.trees 4)))

    others_kept : (kept_of leaves new).prepared other ≡ (kept_of leaves old).prepared other
    others_kept =
        ap (λ (its : Changes). prepared_in (new.trees 2) its other) others_changes
        ∙ looks_same (is_of other) (λ row. row_as row (changes_in leaves (old.trees 4) other)) (new.trees 2) (old.trees 2) _ _
        (λ row there its. elim (prepared_from row there) [ inl was ↦ was | inr cells ↦ absurd (not_both row (of_promised row cells) its) ])
        (λ row there its. prepared_kept row there)
        (λ one two h k mine its.
        let a = of_parts other one mine in
        let b = of_parts other two its in
        prepared_once old was_sound stored.tables one two h k (a.0 ∙ sym b.0) (a.1 ∙ sym b.1))
        (look_prepared (changes_in leaves (old.trees 4) other) other (new.trees 2)) (look_prepared (changes_in leaves (old.trees 4) other) other (old.trees 2))

  pub prepares : (kept_of leaves old).prepared ticket ≡ None → Prepares ticket (record { txn = txn; changes = changes }) (kept_of leaves old) (kept_of leaves new)
  prepares none = record {
    has = λ leaf. refl;
    content = λ leaf. ap (λ rows. content_in leaves rows leaf) keeps_parts;
    prepared = λ other. elim (cases_Bool (is_ticket ticket other)) [
      | inl mine ↦
          subst (λ t. (kept_of leaves new).prepared t ≡ Some (record { txn = txn; changes = changes })) (ticket_same ticket other mine) (mine_kept none _ (look_prepared (changes_in leaves (new.trees 4) ticket) ticket (new.trees 2)))
          ∙ sym (ap (λ b. cond b (Some (record { txn = txn; changes = changes })) ((kept_of leaves old).prepared other)) mine)
      | inr differ ↦ others_kept other differ ∙ sym (ap (λ b. cond b (Some (record { txn = txn; changes = changes })) ((kept_of leaves old).prepared other)) differ)
    ];
    life = ap life_in keeps_state;
  }

  -- ---- rows stay as the store leaves them

  body_spells : AreKeyed changes → (row : Row) (entry : Entry) → Has (map.entries changes) entry → IsCells row numbers (leaf_text entry.0.leaf) entry.0.key (body_of entry.1) → (p : Option (List Value)) → entry.1 ≡ p → (text_at row 5 ≡ []) ⊎ SpellsAt (text_at row 5) (int_at row 4)
  body_spells keyed row entry there cells None is = inl (cells.body_is ∙ ap body_of is)
  body_spells keyed row entry there cells (Some part) is =
      let storable : IsStorable part = subst (λ p. IfSome p IsStorable) is (all_has HasBody (map.entries changes) entry are.1 there) in
      let key : key_of part ≡ entry.0.key = keyed entry.0 part (has_changed changes entry there ∙ ap Some is) in
      inr (record { part = part; spelled = ap part_from (cells.body_is ∙ ap body_of is) ∙ again part storable; keyed = key ∙ sym cells.key_is })

  same_visit : (row intent : Row) → is_of ticket row ≡ true → is_of ticket intent ≡ true → AreOfOne row intent
  same_visit row intent mine its =
      let a = of_parts ticket row mine in
      let b = of_parts ticket intent its in
      record { life = a.0 ∙ sym b.0; visit = a.1 ∙ sym b.1 }

  pub stored_kept : AreKeyed changes → changes ≢ map.empty → IsStored leaves new
  unfolding mid
  stored_kept keyed some =
      let entry = some_entry changes some in
      let intent = intent_made entry.0 entry.1 in
      record {
        tables = made.2.tables;
        parts = λ row there. stored.parts row (subst (λ rows. Has rows row) keeps_parts there);
        intents = λ row there. elim (intent_from row there) [
          | inl was ↦ stored.intents row was
          | inr put ↦ record {
            named = subst (λ name. IsSome (leaf_named leaves name)) (sym put.2.leaf_is) (subst IsSome (sym (entry_within put.0 put.1)) refl);
            spells = body_spells keyed row put.0 put.1 put.2 put.0.1 refl;
          }
        ];
        prepared = λ row there. elim (prepared_from row there) [
          | inl was ↦ stored.prepared row was
          | inr cells ↦ record {
            life = subst (λ n. pos 0 ≤ℤ n) (sym (cells.life ∙ stands.life)) (omega (arith, ints));
            visit = subst (λ n. pos 0 ≤ℤ n) (sym (cells.visit ∙ stands.visit)) (omega (arith, ints));
            txn_life = subst (λ n. pos 0 ≤ℤ n) (sym (cells.txn_life ∙ stand.life)) (omega (arith, ints));
            txn_number = subst (λ n. pos 0 ≤ℤ n) (sym (cells.txn_number ∙ stand.number)) (omega (arith, ints));
          }
        ];
        intended = λ row there. elim (prepared_from row there) [
          | inl was ↦ let its = stored.intended row was in (its.0, intent_kept its.0 its.1, its.2)
          | inr cells ↦ (intent.0, intent.1, same_visit row intent.0 (of_promised row cells) (of_cells intent.0 _ _ _ intent.2))
        ];
        promised = λ row there. elim (intent_from row there) [
          | inl was ↦ let its = stored.promised row was in (its.0, prepared_kept its.0 its.1, its.2)
          | inr put ↦ (the_row.0, the_row.1, same_visit the_row.0 row (of_promised the_row.0 the_row.2) (of_cells row _ _ _ put.2))
        ];
        begun = λ row there. stored.begun row (subst (λ rows. Has rows row) keeps_state there);
      }

-- ---- what is put into the tables

-- a site has each leaf that is changed
within_has : (leaves : List Leaf) (changes : Changes) → are_within leaves changes ≡ true → (slot : Slot) → IsSome (map.get changes slot) → has_leaf leaves slot.leaf ≡ true
within_has leaves changes within slot some = go (map.get changes slot) refl some
  where
    turned : (one : List Leaf) → list_any (λ leaf. is_its leaf slot) one ≡ true → has_leaf one slot.leaf ≡ true
    turned one any =
        let found = some_has (λ leaf. is_its leaf slot) one any in
        let same : slot.leaf ≡ found.0 = sym (leaf_cmp-IsAntisymmetric found.0 slot.leaf (is_equal _ found.2)) in
        some_from (λ leaf. is_eq (leaf_cmp slot.leaf leaf)) one found.0 found.1 (ap (λ leaf. is_eq (leaf_cmp leaf found.0)) same ∙ ap is_eq (tied_itself leaf_cmp_total found.0))

    go : (p : Option (Option (List Value))) → map.get changes slot ≡ p → IsSome p → has_leaf leaves slot.leaf ≡ true
    go None is some = absurd cc
    go (Some p) is some =
        let key : Has (map.keys changes) slot = has_mapped (λ (entry : Entry). entry.0) (map.entries changes) (slot, p) (changed_has changes slot p is) in
        turned leaves (test_has (λ (s : Slot). list_any (λ leaf. is_its leaf s) leaves) (map.keys changes) slot within key)

module _ (leaves : List Leaf) (named : AreNamed leaves) (ticket : Ticket) (txn : Txn) (changes : Changes) (promise : Promise) (is : IsPromiseOf leaves txn ticket changes promise) (old new : Database) (was_sound : IsDatabase old) (stored : IsStored leaves old)
    (made : Keeps promise.visit promise.txn promise.intents.items old new) where
  ticket_stands : Stands promise.visit ticket
  ticket_stands = record { life = is.life; visit = is.visit }

  txn_stands : StandsFor promise.txn txn
  txn_stands = record { life = is.txn_life; number = is.txn_number }

  pub promise_prepares : (kept_of leaves old).prepared ticket ≡ None → Prepares ticket (record { txn = txn; changes = changes }) (kept_of leaves old) (kept_of leaves new)
  promise_prepares = prepares spelled_is_read leaves named ticket promise.visit ticket_stands txn promise.txn txn_stands promise.intents.items changes is.intents old new was_sound stored (within_has leaves changes is.within) made

  pub promise_stored : AreKeyed changes → IsStored leaves new
  promise_stored keyed = stored_kept spelled_is_read leaves named ticket promise.visit ticket_stands txn promise.txn txn_stands promise.intents.items changes is.intents old new was_sound stored (within_has leaves changes is.within) made keyed is.some
