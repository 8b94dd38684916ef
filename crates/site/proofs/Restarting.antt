-- The state of a life that begins is the restarted one.
use Rattle.std.proofs.Common.{◌≡◌, refl, sym, ap, ◌∙◌, subst, suc, add-one, Bool, true, false, not, List, map, Option, Some, None, is_some, filter}
use Rattle.std.specs.List.{list_any}
use Rattle.std.specs.List.Sorted.{IsStrictlySortedBy}
use Rattle.std.proofs.lemmas.List.Kept.{IsStrictlySortedBy-filter}
use Rattle.std.proofs.lemmas.Map.Lookups.{btree_set_from_contains}
use Rattle.store.specs.declared.name.Ticket.{Ticket}
use Rattle.store.specs.declared.prepared.Prepared.{Prepared as Row}
use Rattle.store.specs.Name.{ticket_cmp}
use Rattle.store.specs.Orders.{ticket_cmp_total, ticket_cmp-IsAntisymmetric}
use Rattle.store.specs.SiteContent.{SiteContent, BeginsLife, is_ticket}
use Rattle.protocol.specs.Language.{Name}
use Rattle.protocol.specs.Parts.{In}
use Rattle.protocol.specs.Site.{Dead, is_dead, restarted}
use Rattle.protocol.proofs.Basics.{any_in, found, in_filter}
use Rattle.protocol.proofs.Locks.{from_filter}
use Rattle.site.specs.declared.tickets.TicketState as standings
use Rattle.site.specs.declared.tickets.TicketState.TheVariants as standing
use Rattle.protocol.specs.Letters.{name_of, ticket_of}
use Rattle.site.specs.Recovery.{Begins, Restarts, resting}
use Rattle.site.specs.State.{VolatileState, Fits, stands, visiting}
use Rattle.site.proofs.Listed.{filter_names, listed_alive, lives_listed}
use Rattle.site.proofs.TicketOrder.{same_bool, ticket_is, ticket_self}

-- lists in order that have the same tickets are the same
same_tickets : (xs ys : List Ticket) → IsStrictlySortedBy ticket_cmp xs → IsStrictlySortedBy ticket_cmp ys → ((j : Ticket) → In j xs → In j ys) → ((j : Ticket) → In j ys → In j xs) → xs ≡ ys
same_tickets xs ys one other there back =
    btree_set_from_contains ticket_cmp_total (record { keys = xs }) (record { keys = ys }) one other
    (λ j. same_bool (list_any (is_ticket j) xs) (list_any (is_ticket j) ys) (λ e. moved j xs ys e (there j)) (λ e. moved j ys xs e (back j)))
    ticket_cmp-IsAntisymmetric
  where
    moved : (j : Ticket) (from to : List Ticket) → list_any (is_ticket j) from ≡ true → (In j from → In j to) → list_any (is_ticket j) to ≡ true
    moved j from to e go =
        let f = found (is_ticket j) from e in
        any_in (is_ticket j) j to (go (subst (λ k. In k from) (sym (ticket_is j f.0 f.2)) f.1)) (ticket_self j)

rests_dead : (r : Option Row) → is_dead (resting r) ≡ not (is_some r)
rests_dead None = refl
rests_dead (Some row) = refl

some_row : (r : Option Row) → is_dead (resting r) ≡ false → is_some r ≡ true
some_row None e = cc
some_row (Some row) e = refl

row_rests : (r : Option Row) → is_some r ≡ true → is_dead (resting r) ≡ false
row_rests None e = cc
row_rests (Some row) e = refl

row_stands : (table : VolatileState) (j : Ticket) (r : Option Row) → is_some r ≡ true → is_dead (stands table j r) ≡ false
row_stands table j None e = cc
row_stands table j (Some row) e = refl

rested : (table : VolatileState) (j : Ticket) (r : Option Row) → restarted (stands table j r) ≡ resting r
rested table j (Some row) = refl
rested table j None = go (table.standing j)
  where
    go : (o : Option standings.TicketState) → restarted (visiting table.locks j o) ≡ Dead
    go None = refl
    go (Some (standing.Active v)) = refl
    go (Some (standing.Prepared t)) = refl

module _ (old : SiteContent) (before : VolatileState) (fits : Fits old before)
    (new : SiteContent) (after : VolatileState) (begun : Begins new after) (life : BeginsLife old new) where
  abbrev row_kept : Ticket → Bool
  row_kept j = is_some (old.prepared j)

  stands_now : (j : Ticket) → stands after j (new.prepared j) ≡ resting (old.prepared j)
  stands_now j = ap (λ s. s.status (name_of j)) begun.state ∙ ap resting (life.prepared j)

  there : (j : Ticket) → In j after.tickets → In j (filter row_kept before.tickets)
  there j here =
      let row = some_row (old.prepared j) (ap is_dead (sym (stands_now j)) ∙ lives_listed new after begun.fits j here) in
      in_filter row_kept j before.tickets (listed_alive old before fits j (row_stands before j (old.prepared j) row)) row

  back : (j : Ticket) → In j (filter row_kept before.tickets) → In j after.tickets
  back j here = listed_alive new after begun.fits j (ap is_dead (stands_now j) ∙ row_rests (old.prepared j) (from_filter row_kept j before.tickets here).1)

  tickets_are : after.tickets ≡ filter row_kept before.tickets
  tickets_are = same_tickets after.tickets (filter row_kept before.tickets) begun.fits.ascend (IsStrictlySortedBy-filter ticket_cmp row_kept before.tickets fits.ascend) there back

  abbrev live : Name → Bool
  live name = not (is_dead (restarted (stands before (ticket_of name) (old.prepared (ticket_of name)))))

  is_live : (r : Option Row) → not (is_dead (resting r)) ≡ is_some r
  is_live None = refl
  is_live (Some row) = refl

  known_are : map name_of after.tickets ≡ filter live (map name_of before.tickets)
  known_are = ap (map name_of) tickets_are ∙ sym (filter_names live row_kept before.tickets (λ j here. ap (λ s. not (is_dead s)) (rested before j (old.prepared j)) ∙ is_live (old.prepared j)))

  pub restarts : Restarts old before new after
  restarts = record {
    fits = begun.fits;
    state = begun.state ∙ (λ i. record {
      kept = λ g. life.content g i;
      status = λ name. (ap resting (life.prepared (ticket_of name)) ∙ sym (rested before (ticket_of name) (old.prepared (ticket_of name)))) i;
      known = known_are i;
      life = (life.life ∙ add-one old.life ∙ ap suc (sym fits.life)) i;
      number = 0;
    });
  }
