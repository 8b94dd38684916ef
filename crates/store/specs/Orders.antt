-- The orders of leaves and slots are total, and tie nothing but the same.
use Rattle.std.specs.Prelude.{◌≡◌, refl}
use Rattle.std.specs.Cmp.{IsTotalOrder, int_cmp_total, nat_cmp_total}
use Rattle.std.specs.Cmp.Lexicographic.{nat_list_cmp_total}
use Rattle.std.specs.FinMap.{IsAntisymmetric, nat_cmp-IsAntisymmetric, int_cmp-IsAntisymmetric, slice_cmp-IsAntisymmetric}
use Rattle.std.specs.Ordering.{ordering_then}
use Rattle.std.specs.declared.cmp.Ordering.{Ordering}
use Rattle.std.specs.declared.cmp.Ordering.TheVariants.{Less, Equal, Greater}
use Rattle.std.proofs.lemmas.Cmp.{then_total, on_total}
use Rattle.terms.specs.declared.leaf.Leaf.{Leaf}
use Rattle.terms.specs.Leaf.{leaf_cmp}
use Rattle.store.specs.declared.name.Ticket.{Ticket}
use Rattle.store.specs.declared.name.Txn.{Txn}
use Rattle.store.specs.declared.slot.Slot.{Slot}
use Rattle.store.specs.Name.{ticket_cmp, txn_cmp}
use Rattle.store.specs.Slot.{slot_cmp}

-- two orders in turn tie only what both tie
both_tie : (one other : Ordering) → ordering_then one other ≡ Equal → (one ≡ Equal) × (other ≡ Equal)
both_tie Less other tie = (cc, cc)
both_tie Equal other tie = (refl, tie)
both_tie Greater other tie = (cc, cc)

pub leaf_cmp_total : IsTotalOrder leaf_cmp
leaf_cmp_total = then_total (on_total (λ (leaf : Leaf). leaf.relation) nat_list_cmp_total) (on_total (λ (leaf : Leaf). leaf.number) nat_cmp_total)

pub leaf_cmp-IsAntisymmetric : IsAntisymmetric leaf_cmp
leaf_cmp-IsAntisymmetric one other tie =
    let ties = both_tie _ _ tie in
    λ i. record { relation = slice_cmp-IsAntisymmetric nat_cmp-IsAntisymmetric one.relation other.relation ties.0 i; number = nat_cmp-IsAntisymmetric one.number other.number ties.1 i }

pub slot_cmp_total : IsTotalOrder slot_cmp
slot_cmp_total = then_total (on_total (λ (slot : Slot). slot.leaf) leaf_cmp_total) (on_total (λ (slot : Slot). slot.key) int_cmp_total)

pub slot_cmp-IsAntisymmetric : IsAntisymmetric slot_cmp
slot_cmp-IsAntisymmetric one other tie =
    let ties = both_tie _ _ tie in
    λ i. record { leaf = leaf_cmp-IsAntisymmetric one.leaf other.leaf ties.0 i; key = int_cmp-IsAntisymmetric one.key other.key ties.1 i }

pub ticket_cmp_total : IsTotalOrder ticket_cmp
ticket_cmp_total = then_total (on_total (λ (ticket : Ticket). ticket.life) nat_cmp_total) (on_total (λ (ticket : Ticket). ticket.visit) nat_cmp_total)

pub ticket_cmp-IsAntisymmetric : IsAntisymmetric ticket_cmp
ticket_cmp-IsAntisymmetric one other tie =
    let ties = both_tie _ _ tie in
    λ i. record { life = nat_cmp-IsAntisymmetric one.life other.life ties.0 i; visit = nat_cmp-IsAntisymmetric one.visit other.visit ties.1 i }

pub txn_cmp_total : IsTotalOrder txn_cmp
txn_cmp_total = then_total (on_total (λ (txn : Txn). txn.life) nat_cmp_total) (on_total (λ (txn : Txn). txn.number) nat_cmp_total)

pub txn_cmp-IsAntisymmetric : IsAntisymmetric txn_cmp
txn_cmp-IsAntisymmetric one other tie =
    let ties = both_tie _ _ tie in
    λ i. record { life = nat_cmp-IsAntisymmetric one.life other.life ties.0 i; number = nat_cmp-IsAntisymmetric one.number other.number ties.1 i }
