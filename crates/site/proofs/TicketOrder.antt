-- Tickets are the same by their order where they are the same by their names.
use Rattle.std.proofs.Common.{◌≡◌, refl, sym, ap, subst, Bool, true, false}
use Rattle.std.specs.Cmp.{tied_itself}
use Rattle.std.specs.Ordering.{is_eq}
use Rattle.std.specs.declared.cmp.Ordering.{Ordering}
use Rattle.std.specs.declared.cmp.Ordering.TheVariants.{Less, Equal, Greater}
use Rattle.terms.specs.declared.leaf.Leaf.{Leaf}
use Rattle.terms.specs.Leaf.{leaf_cmp}
use Rattle.store.specs.declared.name.Ticket.{Ticket}
use Rattle.store.specs.SiteContent.{is_ticket}
use Rattle.store.specs.Orders.{ticket_cmp_total, ticket_cmp-IsAntisymmetric, leaf_cmp_total, leaf_cmp-IsAntisymmetric}
use Rattle.protocol.specs.Language.{same}
use Rattle.protocol.proofs.Basics.{same_law}
use Rattle.protocol.specs.Letters.{name_of, ticket_of}

-- tests that follow from each other are the same
pub same_bool : (a b : Bool) → (a ≡ true → b ≡ true) → (b ≡ true → a ≡ true) → a ≡ b
same_bool true b to from = sym (to refl)
same_bool false true to from = from refl
same_bool false false to from = refl

pub is_equal : (r : Ordering) → is_eq r ≡ true → r ≡ Equal
is_equal Less e = cc
is_equal Equal e = refl
is_equal Greater e = cc

pub ticket_is : (a b : Ticket) → is_ticket a b ≡ true → a ≡ b
ticket_is a b e = ticket_cmp-IsAntisymmetric a b (is_equal _ e)

pub ticket_self : (a : Ticket) → is_ticket a a ≡ true
ticket_self a = ap is_eq (tied_itself ticket_cmp_total a)

pub ticket_same : (a b : Ticket) → a ≡ b → is_ticket a b ≡ true
ticket_same a b e = subst (λ c. is_ticket a c ≡ true) e (ticket_self a)

pub ticket_sym : (a b : Ticket) → is_ticket a b ≡ is_ticket b a
ticket_sym a b = same_bool _ _ (λ e. ticket_same b a (sym (ticket_is a b e))) (λ e. ticket_same a b (sym (ticket_is b a e)))

-- by names
pub same_is : (a b : Ticket) → same (name_of a) (name_of b) ≡ is_ticket a b
same_is a b = same_bool _ _ (λ e. ticket_same a b (ap ticket_of ((same_law (name_of a) (name_of b)).0 e))) (λ e. (same_law (name_of a) (name_of b)).1 (ap name_of (ticket_is a b e)))

pub leaf_is : (a b : Leaf) → is_eq (leaf_cmp a b) ≡ true → a ≡ b
leaf_is a b e = leaf_cmp-IsAntisymmetric a b (is_equal _ e)

pub leaf_self : (a : Leaf) → is_eq (leaf_cmp a a) ≡ true
leaf_self a = ap is_eq (tied_itself leaf_cmp_total a)

pub leaf_sym : (a b : Leaf) → is_eq (leaf_cmp a b) ≡ is_eq (leaf_cmp b a)
leaf_sym a b = same_bool _ _ (λ e. subst (λ c. is_eq (leaf_cmp b c) ≡ true) (sym (leaf_is a b e)) (leaf_self b)) (λ e. subst (λ c. is_eq (leaf_cmp a c) ≡ true) (sym (leaf_is b a e)) (leaf_self a))
