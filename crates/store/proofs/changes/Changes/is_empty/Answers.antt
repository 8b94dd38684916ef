-- Why `Changes::is_empty` meets its contract.
use Rattle.std.proofs.Common.{◌≡◌, ◌==◌, ◌↔◌, ℕ, zero, suc, Bool, true, false, IsTrue, refl, ap, sym, ◌∙◌, length}
use Rattle.std.proofs.Math.Dec.{eqb-suc-zero}
use Rattle.std.specs.FinMap as fin
use Rattle.store.specs.Slot.{slot_cmp}
use Rattle.store.specs.Orders.{slot_cmp_total, slot_cmp-IsAntisymmetric}
use Rattle.store.proofs.Keyed.{view}
use Rattle.store.proofs.Views.{empty_view, len_view, none_of_length, sorted_from}
use Rattle.store.proofs.changes.Changes.is_empty.Goals as goal

pub returns-clause-empty : goal.returns-clause-empty
returns-clause-empty c = (
  λ none. sym c.self.view_is ∙ ap view (none_of_length c.self.inside.slots.entries (c.is_empty.ensures.0 none)),
  λ is. c.is_empty.ensures.1 (ap length (empty_view slot_cmp_total c.self.inside.slots.entries (c.self.view_is ∙ is))),
)

-- the test of a number for zero
is_zero : (b : Bool) (n : ℕ) → (IsTrue b ↔ (n ≡ 0)) → b ≡ (n == 0)
is_zero true n same = sym (ap (λ m. m == 0) (same.0 refl))
is_zero false zero same = same.1 refl
is_zero false (suc n) same = sym (eqb-suc-zero n)

pub returns-clause-len : goal.returns-clause-len
returns-clause-len c =
    is_zero c.is_empty.result (length c.self.inside.slots.entries) c.is_empty.ensures
    ∙ ap (λ n. n == 0) (sym (len_view slot_cmp_total slot_cmp-IsAntisymmetric c.self.inside.slots.entries (sorted_from slot_cmp c.self.inside.slots.entries c.len-count.ensures.ordered)) ∙ ap fin.len c.self.view_is)
