-- Why `put_part` meets its contract.
use Rattle.std.proofs.Common.{IsSome, Some, subst}
use Rattle.std.specs.FinMap as fin
use Rattle.terms.specs.Row.{key_of}
use Rattle.store.specs.Content.{Changes}
use Rattle.store.specs.Slot.{slot_of}
use Rattle.world.proofs.NewStores.{put_more}
use Rattle.world.proofs.SiteSteps.{on_ok}
use Rattle.world.proofs.start.put_part.Goals as goal

pub returns-clause-within : goal.returns-clause-within
returns-clause-within c = λ slot.
    on_ok c.put.result (λ is there. put_more c.args.parts.now c.args.leaf.now.name (slot_of c.in_ok-copy.field-0 (key_of c.in-Some-2.part)) (Some c.in-Some-2.part) slot c.in_ok-copy.ensures (subst (λ (parts : Changes). IsSome (fin.get parts slot)) is there)) c.put.ensures.ok
