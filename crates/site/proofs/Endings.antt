-- What becomes of the state where a visit is prepared, or ends.
use Rattle.std.proofs.Common.{◌≡◌, refl, sym, ap, ◌∙◌, ℕ, Bool, true, false, not, map, Option, Some, None, filter, if◌then◌else◌}
use Rattle.terms.specs.declared.leaf.Leaf.{Leaf}
use Rattle.store.specs.declared.name.Ticket.{Ticket}
use Rattle.store.specs.declared.name.Txn.{Txn}
use Rattle.store.specs.declared.prepared.Prepared.{Prepared as Row}
use Rattle.store.specs.Content.{Content, Changes}
use Rattle.store.specs.SiteContent.{SiteContent, is_ticket}
use Rattle.protocol.specs.Language.{Name, same, put}
use Rattle.protocol.specs.Parts.{In}
use Rattle.protocol.specs.Site.{SiteState, Status, Dead, Active, Prepared, Ends, is_dead, site_after, with_status}
use Rattle.protocol.specs.Site as acts
use Rattle.protocol.proofs.Basics.{if_true, if_false}
use Rattle.site.specs.declared.tickets.TicketState.TheVariants as standing
use Rattle.protocol.specs.Local.{local}
use Rattle.protocol.specs.Letters.{name_of, ticket_of, txn_name}
use Rattle.site.specs.Locks.{stops, stops_reading}
use Rattle.site.specs.State.{VolatileState, Fits, state_of, stands, visiting}
use Rattle.site.specs.Moves.{gone, prepared}
use Rattle.site.proofs.Listed.{filter_names, lives_listed}
use Rattle.site.proofs.LockLaws.{foreign-stops, foreign-stops_reading, others-stops_reading, reads-stops_writing}
use Rattle.site.proofs.Steps.{let_go_at, known_all}
use Rattle.site.proofs.TicketOrder.{same_is, ticket_self, ticket_sym}

module _ (kept : SiteContent) (table : VolatileState) (fits : Fits kept table) (k : Ticket) where
  abbrev s : SiteState local
  s = state_of kept table

  abbrev status : Status local → Name → Status local
  status at = put same (name_of k) at s.status

  gone_at : (after : SiteContent) (active : ℕ) → ((j : Ticket) → after.prepared j ≡ (if is_ticket k j then None else kept.prepared j)) → (j : Ticket) → stands (gone k active table) j (after.prepared j) ≡ status Dead (name_of j)
  gone_at after active rows =
      let_go_at kept table fits k None (stops k table.number) None Dead
      (λ j l apart. reads-stops_writing j k table.number (stops_reading k table.number l) ∙ others-stops_reading j k table.number l apart)
      (λ j l apart before. foreign-stops j k table.number apart before l)
      (gone k active table) refl refl after rows
      (ap (visiting (λ h. stops k table.number (table.locks h)) k) (if_true (is_ticket k k) None (table.standing k) (ticket_self k)))

  left_names : map name_of (filter (λ j. not (is_ticket k j)) table.tickets) ≡ filter (λ j. not (is_dead (status Dead j))) (map name_of table.tickets)
  left_names = sym (filter_names (λ j. not (is_dead (status Dead j))) (λ j. not (is_ticket k j)) table.tickets (λ x here. go x here (is_ticket k x) refl))
    where
      go : (x : Ticket) → In x table.tickets → (b : Bool) → is_ticket k x ≡ b → not (is_dead (if same (name_of x) (name_of k) then Dead else stands table x (kept.prepared x))) ≡ not (is_ticket k x)
      go x here true e = ap (λ st. not (is_dead st)) (if_true (same (name_of x) (name_of k)) Dead _ (same_is x k ∙ ticket_sym x k ∙ e)) ∙ sym (ap not e)
      go x here false e = ap (λ st. not (is_dead st)) (if_false (same (name_of x) (name_of k)) Dead _ (same_is x k ∙ ticket_sym x k ∙ e)) ∙ ap not (lives_listed kept table fits x here) ∙ sym (ap not e)

  -- a visit, or a row, has ended; the contents may be others
  pub ended_state : (after : SiteContent) (active : ℕ) (content : Leaf → Content) → ((j : Ticket) → after.prepared j ≡ (if is_ticket k j then None else kept.prepared j)) → ((g : Leaf) → after.content g ≡ content g) →
      state_of after (gone k active table) ≡ record (with_status s (status Dead) s.known) { kept = content }
  ended_state after active content rows is =
      λ i. record { kept = λ g. is g i; status = λ name. gone_at after active rows (ticket_of name) i; known = left_names i; life = table.life; number = table.number }

  -- a visit is prepared
  pub prepared_state : (txn : Txn) (changes : Changes) (after : SiteContent) → Fits after (prepared k txn table) →
      ((j : Ticket) → after.prepared j ≡ (if is_ticket k j then Some (record { txn = txn; changes = changes }) else kept.prepared j)) → ((g : Leaf) → after.content g ≡ kept.content g) →
      state_of after (prepared k txn table) ≡ site_after s (acts.Prepares (name_of k) (txn_name txn) changes)
  prepared_state txn changes after new rows is =
      let row : Option Row = Some (record { txn = txn; changes = changes }) in
      let prepared_at = let_go_at kept table fits k (Some (standing.Prepared txn)) (stops_reading k table.number) row (Prepared (txn_name txn) changes)
      (λ j l apart. others-stops_reading j k table.number l apart)
      (λ j l apart before. foreign-stops_reading j k table.number apart before l)
      (prepared k txn table) refl refl after rows refl in
      let known = known_all after (prepared k txn table) new (status (Prepared (txn_name txn) changes)) (λ name. prepared_at (ticket_of name)) in
      λ i. record { kept = λ g. is g i; status = λ name. prepared_at (ticket_of name) i; known = known i; life = table.life; number = table.number }
