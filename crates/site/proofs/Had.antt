-- What a visit intends may be kept: the store has the leaves of a site, and a visit writes no others.
use Rattle.std.proofs.Common.{◌≡◌, ◌≢◌, refl, ap, ◌∙◌, subst, ℕ, ◌||◌, Bool, true, false, List, [], ◌∷◌, map, Option, Some, IsSome, if◌then◌else◌, cond, inl, inr}
use Rattle.std.specs.FinMap as fin
use Rattle.std.specs.List.{list_any}
use Rattle.std.specs.Ordering.{int_cmp, is_eq, ordering_then}
use Rattle.std.specs.declared.cmp.Ordering.TheVariants.{Less, Equal, Greater}
use Rattle.terms.specs.declared.leaf.Leaf.{Leaf}
use Rattle.terms.specs.declared.value.Value.{Value}
use Rattle.terms.specs.Leaf.{leaf_cmp}
use Rattle.store.specs.declared.name.Ticket.{Ticket}
use Rattle.store.specs.declared.slot.Slot.{Slot}
use Rattle.store.specs.Content.{is_of, touches}
use Rattle.store.specs.SiteContent.{MayPrepare, SiteContent}
use Rattle.store.specs.Slot.{slot_cmp}
use Rattle.protocol.specs.Parts.{In}
use Rattle.protocol.specs.Site.{has_exclusive}
use Rattle.site.specs.declared.locks.Locks.{Locks}
use Rattle.site.specs.declared.tickets.TicketState.TheVariants as standing
use Rattle.site.specs.declared.tickets.Visit as visits
use Rattle.site.specs.Locks.{leaves_in, locks_in, writes}
use Rattle.site.specs.State.{VolatileState, Fits, volatile_from, stands, txn_in, visiting}
use Rattle.site.proofs.Listed.{row_none}
use Rattle.site.proofs.TicketOrder.{leaf_is}
use Rattle.site.proofs.TicketStates.{Entries, at_ticket}

-- changes touch the leaf of each slot that they change
touched : (slot : Slot) (entries : List (Slot × Option (List Value))) → IsSome (fin.find slot_cmp slot entries) → list_any (is_of slot.leaf) (map (λ e. e.0) entries) ≡ true
touched slot [] some = cc
touched slot (entry ∷ entries) some =
    elim (leaf_cmp slot.leaf entry.0.leaf) as (λ r. IsSome (cond (is_eq (ordering_then r (int_cmp slot.key entry.0.key))) (Some entry.1) (fin.find slot_cmp slot entries)) → (is_eq r || list_any (is_of slot.leaf) (map (λ e. e.0) entries)) ≡ true) [
      | Less ↦ λ later. touched slot entries later
      | Equal ↦ λ here. refl
      | Greater ↦ λ later. touched slot entries later
    ] some

-- a leaf that somebody writes is one of the site's
written : (k : Ticket) (g : Leaf) (ls : List Locks) → writes k (locks_in g ls) ≡ true → In g (leaves_in ls)
written k g [] is = cc
written k g (l ∷ ls) is = go (written k g ls) (is_eq (leaf_cmp g l.leaf)) refl is
  where
    go : (writes k (locks_in g ls) ≡ true → In g (leaves_in ls)) → (b : Bool) → is_eq (leaf_cmp g l.leaf) ≡ b → writes k (if b then l else locks_in g ls) ≡ true → In g (leaves_in (l ∷ ls))
    go rest true e here = inl (leaf_is g l.leaf e)
    go rest false e later = inr (rest later)

module _ (kept : SiteContent) (entries : Entries) (ls : List Locks) (active life number : ℕ) (fits : Fits kept (volatile_from entries ls active life number)) (k : Ticket) where
  abbrev table : VolatileState
  table = volatile_from entries ls active life number

  writes_own : (v : visits.Visit) → at_ticket entries k ≡ Some (standing.Active v) → (g : Leaf) → touches g v.changes ≡ true → writes k (table.locks g) ≡ true
  writes_own v is g touch =
      fits.writers g k
      ∙ ap (λ r. has_exclusive g (stands table k r)) (row_none kept table fits k (ap txn_in is))
      ∙ ap (λ o. has_exclusive g (visiting table.locks k o)) is
      ∙ touch

  -- what a visit intends, if it intends something, may be kept
  pub may_prepare : (one v : visits.Visit) → at_ticket entries k ≡ Some (standing.Active one) → at_ticket entries k ≡ Some (standing.Active v) → one.changes ≢ fin.empty → MayPrepare k v.changes kept
  may_prepare one v here is some = record {
    new = row_none kept table fits k (ap txn_in is);
    some = let same : one ≡ v = cc in subst (λ (visit : visits.Visit). visit.changes ≢ fin.empty) same some;
    within = λ slot there. fits.had slot.leaf (written k slot.leaf ls (writes_own v is slot.leaf (touched slot (fin.entries v.changes) (subst (λ found. IsSome found) (fin.get-entries v.changes slot) there))));
  }
