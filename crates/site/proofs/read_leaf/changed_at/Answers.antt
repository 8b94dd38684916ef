-- Why `changed_at` meets its contract.
use Rattle.std.proofs.Common.{ap, sym, ◌∙◌, unwrap_or}
use Rattle.std.specs.FinMap as fin
use Rattle.store.specs.Slot.{slot_cmp, slot_of}
use Rattle.store.specs.Content.{Changes}
use Rattle.site.proofs.read_leaf.changed_at.Goals as goal

pub returns-then-is_empty-clause-part : goal.returns-then-is_empty-clause-part
returns-then-is_empty-clause-part c =
    let slot = slot_of c.args.leaf.now c.args.key in
    sym (ap (λ (changes : Changes). unwrap_or (fin.get changes slot) c.args.kept) (c.is_empty.ensures.empty.0 c.if-is_empty.true) ∙ ap (λ o. unwrap_or o c.args.kept) (fin.get-empty slot_cmp slot))
