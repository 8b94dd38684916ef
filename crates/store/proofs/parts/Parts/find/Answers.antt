-- Why `Parts::find` meets its contract.
use Rattle.std.proofs.Common.{ap, sym, ◌∙◌}
use Rattle.store.specs.Slot.{slot_of}
use Rattle.store.specs.Content.{put_at}
use Rattle.store.proofs.Flat.{put_place}
use Rattle.store.proofs.parts.Parts.find.Goals as goal

pub returns-clause-part : goal.returns-clause-part
returns-clause-part c =
    let slot = slot_of c.args.leaf.now c.args.key.now in
    c.find_part.ensures.part ∙ sym (put_place c.self.inside.shelves.entries c.find_part.ensures.ordered slot)
    ∙ ap (λ m. put_at m slot) c.self.view_is
