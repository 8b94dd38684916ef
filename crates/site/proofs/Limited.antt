-- A site whose memory fits its store is within the limits.
use Rattle.std.proofs.Common.{◌≡◌, refl, ap, ◌∙◌, ℕ, suc, ◌<◌, ◌≤◌, ◌^◌, nat_lt, nat_le, Bool, true, false, List, [], ◌∷◌, map, filter, length, cond, Option, Some, None, arith}
use Rattle.std.specs.List.{list_all}
use Rattle.store.specs.declared.name.Ticket.{Ticket}
use Rattle.store.specs.declared.prepared.Prepared.{Prepared as Row}
use Rattle.store.specs.SiteContent.{SiteContent}
use Rattle.protocol.specs.Language.{Name}
use Rattle.protocol.specs.Letters.{name_of, ticket_of}
use Rattle.protocol.specs.Local.{local}
use Rattle.protocol.specs.Site.{Status, is_active, is_short, is_within}
use Rattle.protocol.proofs.Basics.{both_true}
use Rattle.site.specs.declared.tickets.TicketState as standings
use Rattle.site.specs.declared.tickets.TicketState.TheVariants as standing
use Rattle.site.specs.State.{Fits, VolatileState, is_visit, stands, state_of, visiting, visits_among}
use Rattle.site.proofs.TicketOrder.{same_bool}
use Rattle.site.proofs.Verdicts.{stands_alive}

below : (n m : ℕ) → n < m → nat_lt n m ≡ true
below n m less = grind (arith)

up_to : (n m : ℕ) → n ≤ m → nat_le n m ≡ true
up_to n m less = grind (arith)

module _ (kept : SiteContent) (table : VolatileState) (fits : Fits kept table) where
  abbrev status : Name → Status local
  status name = stands table (ticket_of name) (kept.prepared (ticket_of name))

  all_short : (tickets : List Ticket) → list_all (λ k. is_short (status k)) (map name_of tickets) ≡ true
  all_short [] = refl
  all_short (t ∷ tickets) = both_true (is_short (status (name_of t))) (list_all (λ k. is_short (status k)) (map name_of tickets)) (fits.short t) (all_short tickets)

  -- who is active is a visit
  alive_visit : (t : Ticket) → is_active (status (name_of t)) ≡ true → is_visit (table.standing t) ≡ true
  alive_visit t active = go (kept.prepared t) active
    where
      at : (o : Option standings.TicketState) → is_active (visiting table.locks t o) ≡ true → is_visit o ≡ true
      at None e = cc
      at (Some (standing.Active v)) e = refl
      at (Some (standing.Prepared x)) e = cc

      go : (r : Option Row) → is_active (stands table t r) ≡ true → is_visit (table.standing t) ≡ true
      go (Some row) e = cc
      go None e = at (table.standing t) e

  -- and a visit is active
  visit_alive : (t : Ticket) → is_visit (table.standing t) ≡ true → is_active (status (name_of t)) ≡ true
  visit_alive t visit = go (table.standing t) refl visit
    where
      go : (o : Option standings.TicketState) → table.standing t ≡ o → is_visit o ≡ true → is_active (status (name_of t)) ≡ true
      go None e v = cc
      go (Some (standing.Active v)) e lives = ap is_active (stands_alive kept table fits t v e)
      go (Some (standing.Prepared x)) e v = cc

  -- as many are active as are visits
  pub alive_are : (tickets : List Ticket) → length (filter (λ k. is_active (status k)) (map name_of tickets)) ≡ visits_among table.standing tickets
  alive_are [] = refl
  alive_are (t ∷ tickets) = ap (λ b. length (cond b (name_of t ∷ filter (λ k. is_active (status k)) (map name_of tickets)) (filter (λ k. is_active (status k)) (map name_of tickets)))) (same_bool _ _ (alive_visit t) (visit_alive t)) ∙ go (is_visit (table.standing t)) (alive_are tickets)
    where
      go : (c : Bool) → length (filter (λ k. is_active (status k)) (map name_of tickets)) ≡ visits_among table.standing tickets →
          length (cond c (name_of t ∷ filter (λ k. is_active (status k)) (map name_of tickets)) (filter (λ k. is_active (status k)) (map name_of tickets))) ≡ length (cond c (t ∷ filter (λ x. is_visit (table.standing x)) tickets) (filter (λ x. is_visit (table.standing x)) tickets))
      go true rest = ap suc rest
      go false rest = rest

  pub fits_within : is_within (state_of kept table) ≡ true
  fits_within =
      let few : length (filter (λ k. is_active (status k)) (map name_of table.tickets)) ≡ visits_among table.standing table.tickets = alive_are table.tickets in
      let counted : table.active ≡ visits_among table.standing table.tickets = fits.counted in
      let most : table.active ≤ 1024 = fits.few in
      both_true _ _ (both_true _ _ (both_true _ _ (below table.life (2 ^ 63) fits.low.0) (below table.number (2 ^ 63) fits.low.1)) (all_short table.tickets)) (up_to (length (filter (λ k. is_active (status k)) (map name_of table.tickets))) 1024 (omega (arith, few, counted, most)))
