use Rattle.std.proofs.Common.{inl, refl}
use Rattle.catalog.proofs.GroupNames.{again_not_apart}
use Rattle.catalog.proofs.groups.missing.Goals as goal

pub returns-in-Some-clause-twice : goal.returns-in-Some-clause-twice
returns-in-Some-clause-twice c = inl (refl, again_not_apart c.args.seen.now c.in-Some.field-0 c.in-Some.ensures.some)
