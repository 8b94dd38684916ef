-- The language of stores is lawful at a site: what changes do to contents, and what they touch, whatever is stated.
use Rattle.std.proofs.Common.{◌≡◌, ◌↔◌, refl, ap, ◌∙◌, subst, ℕ, Bool, true, false, ◌||◌, if◌then◌else◌, List, Option}
use Rattle.std.specs.Cmp.Lexicographic.{pointwise}
use Rattle.std.specs.FinMap as fin
use Rattle.std.specs.Ordering.{is_eq}
use Rattle.std.specs.Prelude.{nat_eq}
use Rattle.std.proofs.lemmas.Bool.{eqb-true}
use Rattle.std.proofs.lemmas.Slice.Eq.{bytes_eq-Decides}
use Rattle.terms.specs.declared.leaf.Leaf.{Leaf}
use Rattle.terms.specs.Leaf.{leaf_cmp}
use Rattle.terms.specs.declared.value.Value.{Value}
use Rattle.store.specs.Slot.{slot_of, slot_cmp}
use Rattle.store.specs.Content.{Changes, changed, is_of, set_at, touches}
use Rattle.store.proofs.Changing.{changed_none, changed_more, touches_none, touches_more}
use Rattle.protocol.specs.Catalogues.{IsLawfulSite}
use Rattle.protocol.specs.Local.{local}
use Rattle.site.proofs.TicketOrder.{leaf_is, leaf_self, leaf_sym}

bytes_same : (a b : List ℕ) → (pointwise nat_eq a b ≡ true) ↔ (a ≡ b)
bytes_same a b = bytes_eq-Decides a b

-- changes of which there are none are the empty ones
none_only : (changes : Changes) → nat_eq (fin.len changes) 0 ≡ true → changes ≡ fin.empty
none_only changes none = fin.empty_of_len changes (eqb-true (fin.len changes) 0 none)

or_if : (a b : Bool) → (a || b) ≡ (if a then true else b)
or_if true b = refl
or_if false b = refl

pub local_lawful : IsLawfulSite local
local_lawful = record {
  leaves = λ a b. (leaf_is a b, λ same. subst (λ (c : Leaf). is_eq (leaf_cmp a c) ≡ true) same (leaf_self a));
  sites = bytes_same;
  changed_none = changed_none;
  changed_add = λ g h x i content. changed_more g (slot_of h x.0) x.1 i content ∙ ap (λ (b : Bool). if b then set_at x.0 x.1 (changed g i content) else changed g i content) (leaf_sym g h);
  touches_none = touches_none;
  touches_add = λ g h x i. touches_more g (slot_of h x.0) x.1 i ∙ or_if (is_of g (slot_of h x.0)) (touches g i) ∙ ap (λ (b : Bool). if b then true else touches g i) (leaf_sym g h);
  only_none = none_only;
  none_empty = ap (λ n. nat_eq n 0) (fin.len-empty slot_cmp (Option (List Value)));
}
