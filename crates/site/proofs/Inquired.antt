-- The inquiries are the protocol's.
use Rattle.std.proofs.Common.{◌≡◌, refl, sym, ap, ◌∙◌, ℕ, false, List, [], ◌∷◌, ◌++◌, map, Some, inl, inr, Result, Ok, Err, IfOk}
use Rattle.std.specs.List.{flat_map, AllByRecursion}
use Rattle.std.specs.List.Sorted.{IsStrictlySortedBy}
use Rattle.std.specs.Map.{keys_of}
use Rattle.std.specs.Ordering.{is_eq}
use Rattle.std.specs.declared.cmp.Ordering.TheVariants.{Less}
use Rattle.std.proofs.lemmas.Map.Keys.{sorted_head, sorted_tail}
use Rattle.store.specs.declared.letter.Letter as letters
use Rattle.store.specs.declared.name.Ticket.{Ticket}
use Rattle.store.specs.declared.name.Txn.{Txn}
use Rattle.store.specs.Name.{ticket_cmp}
use Rattle.store.specs.SiteContent.{SiteContent, is_ticket}
use Rattle.protocol.specs.Language.{Name}
use Rattle.protocol.specs.Letter as protocol
use Rattle.protocol.specs.Letter.{Letter}
use Rattle.protocol.specs.Parts.{In}
use Rattle.protocol.specs.Site.{inquiry_of, inquiries}
use Rattle.protocol.proofs.Basics.{if_true, if_false}
use Rattle.site.specs.declared.locks.Locks.{Locks}
use Rattle.site.specs.declared.tickets.TicketState as standings
use Rattle.site.specs.declared.tickets.TicketState.TheVariants as standing
use Rattle.site.specs.Inquiries.{inquiries_of, with_inquiry}
use Rattle.protocol.specs.Letters.{letter_of, name_of, txn_name}
use Rattle.protocol.specs.Local.{local}
use Rattle.site.specs.State.{VolatileState, Fits, state_of, stands, visiting, volatile_from, txn_in}
use Rattle.site.proofs.Listed.{row_none}
use Rattle.site.proofs.TicketStates.{Entries, at_ticket}
use Rattle.site.proofs.TicketOrder.{ticket_self, ticket_sym}
use Rattle.site.proofs.Verdicts.{stands_prepared}

head_below : (k : Ticket) (e : Ticket × standings.TicketState) (entries : Entries) → AllByRecursion (λ j. ticket_cmp k j ≡ Less) (keys_of entries) → In e entries → is_ticket k e.0 ≡ false
head_below k e [] below here = absurd here
head_below k e (x ∷ entries) below (inl is) = ap (λ (y : Ticket × standings.TicketState). is_ticket k y.0) is ∙ ap is_eq below.0
head_below k e (x ∷ entries) below (inr here) = head_below k e entries below.1 here

-- what stands there is what is listed
entry_there : (entries : Entries) → IsStrictlySortedBy ticket_cmp (keys_of entries) → (e : Ticket × standings.TicketState) → In e entries → at_ticket entries e.0 ≡ Some e.1
entry_there [] sorted e here = absurd here
entry_there (x ∷ entries) sorted e (inl is) = ap (λ (y : Ticket × standings.TicketState). at_ticket (x ∷ entries) y.0) is ∙ if_true (is_ticket x.0 x.0) (Some x.1) (at_ticket entries x.0) (ticket_self x.0) ∙ ap (λ (y : Ticket × standings.TicketState). Some y.1) (sym is)
entry_there (x ∷ entries) sorted e (inr here) =
    if_false (is_ticket e.0 x.0) (Some x.1) (at_ticket entries e.0) (ticket_sym e.0 x.0 ∙ head_below x.0 e entries (sorted_head ticket_cmp x.0 (keys_of entries) sorted) here)
    ∙ entry_there entries (sorted_tail ticket_cmp x.0 (keys_of entries) sorted) e here

module _ (site : List ℕ) (kept : SiteContent) (table : VolatileState) (fits : Fits kept table) where
  abbrev asked : Name → List (Letter local)
  asked name = inquiry_of site name ((state_of kept table).status name)

  -- one inquiry, where a row stands
  one_more : (k : Ticket) (o : standings.TicketState) → table.standing k ≡ Some o → (rest : List letters.Letter) → asked (name_of k) ++ map letter_of rest ≡ map letter_of (with_inquiry site k o rest)
  one_more k (standing.Active v) is rest =
      ap (λ r. inquiry_of site (name_of k) (stands table k r) ++ map letter_of rest) (row_none kept table fits k (ap txn_in is))
      ∙ ap (λ o. inquiry_of site (name_of k) (visiting table.locks k o) ++ map letter_of rest) is
  one_more k (standing.Prepared t) is rest =
      let p = stands_prepared kept table fits k t is in
      ap (λ r. inquiry_of site (name_of k) (stands table k r) ++ map letter_of rest) p.1
      ∙ ap (λ (u : Txn). with_one u) p.2
    where
      with_one : Txn → List (Letter local)
      with_one u = record { site = site; txn = txn_name u; body = protocol.Inquire (name_of k) } ∷ map letter_of rest

  all_asked : (entries : Entries) → ((e : Ticket × standings.TicketState) → In e entries → table.standing e.0 ≡ Some e.1) → flat_map asked (map name_of (keys_of entries)) ≡ map letter_of (inquiries_of site entries)
  all_asked [] there = refl
  all_asked (e ∷ entries) there = ap (λ l. asked (name_of e.0) ++ l) (all_asked entries (λ x here. there x (inr here))) ∙ one_more e.0 e.1 (there e (inl refl)) (inquiries_of site entries)

pub inquires : (site : List ℕ) (kept : SiteContent) (entries : Entries) (ls : List Locks) (active life number : ℕ) → IsStrictlySortedBy ticket_cmp (keys_of entries) → Fits kept (volatile_from entries ls active life number) →
    map letter_of (inquiries_of site entries) ≡ inquiries site (state_of kept (volatile_from entries ls active life number))
inquires site kept entries ls active life number sorted fits = sym (all_asked site kept (volatile_from entries ls active life number) fits entries (entry_there entries sorted))

pub if_inquires : {E : Type 0} {A : Type 0} (items : A → List letters.Letter) (result : Result A E) (all : List letters.Letter) (to : List (Letter local)) → IfOk result (λ a. items a ≡ all) → map letter_of all ≡ to → IfOk result (λ a. map letter_of (items a) ≡ to)
if_inquires items (Ok a) all to are is = ap (map letter_of) are ∙ is
if_inquires items (Err e) all to are is = tt
