-- A ticket's rows go, and those of others stay.
use Rattle.std.proofs.Common.{◌≡◌, ℕ, pos, Bool, true, false, ◌&&◌, cond, List, Option, Some, None, sym, ap, ◌∙◌, subst, inl, inr}
use Rattle.std.specs.FinMap as map
use Rattle.std.specs.Ordering.{is_eq}
use Rattle.std.proofs.lemmas.Bool.{and_parts, both_ways, false_from_ne_true, cases_Bool}
use Rattle.std.proofs.lemmas.Cmp.{tied_itself}
use Rattle.sqlite.specs.Effect.{Database, IsDatabase}
use Rattle.sqlite.specs.Order.{Row}
use Rattle.sqlite_rules.specs.Lists.{Has}
use Rattle.store.specs.declared.name.Ticket.{Ticket}
use Rattle.store.specs.declared.prepared.Prepared.{Prepared}
use Rattle.store.specs.Content.{Changes}
use Rattle.store.specs.Name.{ticket_cmp}
use Rattle.store.specs.Orders.{ticket_cmp_total, ticket_cmp-IsAntisymmetric, slot_cmp_total, slot_cmp-IsAntisymmetric}
use Rattle.store.specs.SiteContent.{is_ticket}
use Rattle.terms.specs.declared.leaf.Leaf.{Leaf}
use Rattle.sqlstore.specs.declared.visit.Visit.{Visit}
use Rattle.sqlstore.specs.Cells.{text_at, int_at, is_int}
use Rattle.sqlstore.specs.Content.{is_called, is_of, put_of, changes_in, row_as, prepared_in}
use Rattle.sqlstore.specs.Rows.{AreTables, Loses}
use Rattle.sqlstore.specs.Sound.{AreOfOne}
use Rattle.sqlstore.specs.Step.{visit_params}
use Rattle.sqlstore.specs.Tests.{passes, of_visit}
use Rattle.sqlstore.proofs.Bridge.{Stands, prepared_of, intent_of, called_text, int_same}
use Rattle.sqlstore.proofs.Contents.{LooksUp, at_row, nowhere, look_changes, look_prepared, is_intent_at}
use Rattle.sqlstore.proofs.Deleting.{is_equal}
use Rattle.sqlstore.proofs.Typed.{prepared_typed, intent_typed, prepared_once, intent_once}

-- the rows that pass are the same, and one at most
pub looks_same : {X : Type 0} (test : Row → Bool) (shows : Row → X) (one other : List Row) (here there : Option X) → ((row : Row) → Has one row → test row ≡ true → Has other row) → ((row : Row) → Has other row → test row ≡ true → Has one row)
    → ((a b : Row) → Has other a → Has other b → test a ≡ true → test b ≡ true → a ≡ b) → LooksUp test shows one here → LooksUp test shows other there → here ≡ there
looks_same test shows one other here there to from once (at_row a h pass is) (at_row b k also says) = is ∙ ap (λ row. Some (shows row)) (once a b (to a h pass) k pass also) ∙ sym says
looks_same test shows one other here there to from once (at_row a h pass is) (nowhere none nothing) = absurd (both_ways (test a) (none a (to a h pass)) pass)
looks_same test shows one other here there to from once (nowhere none nothing) (at_row b k also says) = absurd (both_ways (test b) (none b (from b k also)) also)
looks_same test shows one other here there to from once (nowhere none nothing) (nowhere empty gone) = nothing ∙ sym gone

-- ---- tickets

pub of_parts : (ticket : Ticket) (row : Row) → is_of ticket row ≡ true → (int_at row 1 ≡ pos ticket.life) × (int_at row 2 ≡ pos ticket.visit)
of_parts ticket row mine =
    let parts = and_parts (is_int (int_at row 1) (pos ticket.life)) (is_int (int_at row 2) (pos ticket.visit)) mine in
    (int_same (int_at row 1) (pos ticket.life) parts.0, int_same (int_at row 2) (pos ticket.visit) parts.1)

pos_same : (m n : ℕ) → pos m ≡ pos n → m ≡ n
pos_same m n e = cc

-- a row is of one ticket alone
pub one_ticket : (one other : Ticket) (row : Row) → is_of one row ≡ true → is_of other row ≡ true → is_ticket one other ≡ true
one_ticket one other row mine its =
    let a = of_parts one row mine in
    let b = of_parts other row its in
    let life : one.life ≡ other.life = pos_same one.life other.life (sym a.0 ∙ b.0) in
    let visit : one.visit ≡ other.visit = pos_same one.visit other.visit (sym a.1 ∙ b.1) in
    let same : one ≡ other = λ i. record { life = life i; visit = visit i } in
    ap (λ ticket. is_eq (ticket_cmp ticket other)) same ∙ ap is_eq (tied_itself ticket_cmp_total other)

pub ticket_same : (one other : Ticket) → is_ticket one other ≡ true → one ≡ other
ticket_same one other same = ticket_cmp-IsAntisymmetric one other (is_equal _ same)

-- rows of one ticket are of the same tickets
pub of_one : (ticket : Ticket) (one other : Row) → AreOfOne one other → is_of ticket one ≡ is_of ticket other
of_one ticket one other same = ap (λ n. is_int n (pos ticket.life) && is_int (int_at one 2) (pos ticket.visit)) same.life ∙ ap (λ n. is_int (int_at other 1) (pos ticket.life) && is_int n (pos ticket.visit)) same.visit

-- a call that drops a ticket's rows
pub record Forgot (numbers : Visit) (old new : Database) : Type 0 where
  pub tables : AreTables new
  pub sound : IsDatabase new
  pub prepared : Loses (passes of_visit (visit_params numbers)) (old.trees 2) (new.trees 2)
  pub intents : Loses (passes of_visit (visit_params numbers)) (old.trees 4) (new.trees 4)

module _ (leaves : List Leaf) (ticket : Ticket) (numbers : Visit) (stands : Stands numbers ticket) (old new : Database) (was_tables : AreTables old) (was_sound : IsDatabase old) (made : Forgot numbers old new) where
  -- rows of another ticket stay
  pub prepared_left : (row : Row) → Has (old.trees 2) row → is_of ticket row ≡ false → Has (new.trees 2) row
  prepared_left row there other = made.prepared.left row there (prepared_of numbers ticket row stands (prepared_typed old was_sound was_tables row there) ∙ other)

  pub intent_left : (row : Row) → Has (old.trees 4) row → is_of ticket row ≡ false → Has (new.trees 4) row
  intent_left row there other = made.intents.left row there (intent_of numbers ticket row stands (intent_typed old was_sound was_tables row there) ∙ other)

  -- and rows that stay are of others
  pub prepared_gone : (row : Row) → Has (new.trees 2) row → Has (old.trees 2) row × (is_of ticket row ≡ false)
  prepared_gone row there =
      let was = made.prepared.gone row there in
      (was.0, sym (prepared_of numbers ticket row stands (prepared_typed old was_sound was_tables row was.0)) ∙ was.1)

  pub intent_gone : (row : Row) → Has (new.trees 4) row → Has (old.trees 4) row × (is_of ticket row ≡ false)
  intent_gone row there =
      let was = made.intents.gone row there in
      (was.0, sym (intent_of numbers ticket row stands (intent_typed old was_sound was_tables row was.0)) ∙ was.1)

  apart : (other : Ticket) → is_ticket ticket other ≡ false → (row : Row) → is_of other row ≡ true → is_of ticket row ≡ false
  apart other differ row its = false_from_ne_true (is_of ticket row) (λ mine. both_ways (is_ticket ticket other) differ (one_ticket ticket other row mine its))

  changes_stay : (other : Ticket) → is_ticket ticket other ≡ false → changes_in leaves (new.trees 4) other ≡ changes_in leaves (old.trees 4) other
  changes_stay other differ = map.same_map slot_cmp_total slot_cmp-IsAntisymmetric _ _ (λ slot.
      looks_same (is_intent_at leaves other slot) (λ row. put_of (text_at row 5)) (new.trees 4) (old.trees 4) _ _
      (λ row there its. (intent_gone row there).0)
      (λ row there its. intent_left row there (apart other differ row (and_parts (is_of other row) (is_called leaves slot.leaf (text_at row 3) && is_int slot.key (int_at row 4)) its).0))
      (λ one two h k mine its.
      let a = and_parts (is_of other one) (is_called leaves slot.leaf (text_at one 3) && is_int slot.key (int_at one 4)) mine in
      let b = and_parts (is_of other two) (is_called leaves slot.leaf (text_at two 3) && is_int slot.key (int_at two 4)) its in
      let ta = of_parts other one a.0 in
      let tb = of_parts other two b.0 in
      let sa = and_parts (is_called leaves slot.leaf (text_at one 3)) (is_int slot.key (int_at one 4)) a.1 in
      let sb = and_parts (is_called leaves slot.leaf (text_at two 3)) (is_int slot.key (int_at two 4)) b.1 in
      intent_once old was_sound was_tables one two h k (ta.0 ∙ sym tb.0) (ta.1 ∙ sym tb.1) (called_text leaves slot.leaf (text_at one 3) sa.0 ∙ sym (called_text leaves slot.leaf (text_at two 3) sb.0))
      (sym (int_same slot.key (int_at one 4) sa.1) ∙ int_same slot.key (int_at two 4) sb.1))
      (look_changes leaves other slot (new.trees 4)) (look_changes leaves other slot (old.trees 4)))

  abbrev prepared_by : Database → Ticket → Option Prepared
  prepared_by db other = prepared_in (db.trees 2) (changes_in leaves (db.trees 4) other) other

  others_stay : (other : Ticket) → is_ticket ticket other ≡ false → prepared_by new other ≡ prepared_by old other
  others_stay other differ =
      ap (λ (changes : Changes). prepared_in (new.trees 2) changes other) (changes_stay other differ)
      ∙ looks_same (is_of other) (λ row. row_as row (changes_in leaves (old.trees 4) other)) (new.trees 2) (old.trees 2) _ _
      (λ row there its. (prepared_gone row there).0)
      (λ row there its. prepared_left row there (apart other differ row its))
      (λ one two h k mine its.
      let a = of_parts other one mine in
      let b = of_parts other two its in
      prepared_once old was_sound was_tables one two h k (a.0 ∙ sym b.0) (a.1 ∙ sym b.1))
      (look_prepared (changes_in leaves (old.trees 4) other) other (new.trees 2)) (look_prepared (changes_in leaves (old.trees 4) other) other (old.trees 2))

  none_left : {X : Type 0} (shows : Row → X) (found : Option X) → LooksUp (is_of ticket) shows (new.trees 2) found → found ≡ None
  none_left shows found (at_row row there mine is) = absurd (both_ways (is_of ticket row) (prepared_gone row there).1 mine)
  none_left shows found (nowhere none nothing) = nothing

  -- the ticket's row is gone, and others have theirs
  pub forgotten : (other : Ticket) → prepared_by new other ≡ cond (is_ticket ticket other) None (prepared_by old other)
  forgotten other =
      elim (cases_Bool (is_ticket ticket other)) [
        | inl mine ↦
            let same = ticket_same ticket other mine in
            subst (λ t. prepared_by new t ≡ None) same (none_left _ _ (look_prepared (changes_in leaves (new.trees 4) ticket) ticket (new.trees 2))) ∙ sym (ap (λ b. cond b None (prepared_by old other)) mine)
        | inr differ ↦ others_stay other differ ∙ sym (ap (λ b. cond b None (prepared_by old other)) differ)
      ]
