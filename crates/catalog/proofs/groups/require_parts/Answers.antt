use Rattle.std.proofs.Common.{Option, Some, subst, ap, ◌∙◌}
use Rattle.catalog.specs.declared.parts.PartFault.{PartFault}
use Rattle.catalog.specs.Parts.{IsPartAnswer}
use Rattle.catalog.specs.Parts.{named}
use Rattle.catalog.proofs.GroupNames.{again_not_apart, refuses_twice, refuses_lost}
use Rattle.catalog.proofs.groups.require_parts.Goals as goal

pub returns-in-Some-Twice-clause-none : goal.returns-in-Some-Twice-clause-none
returns-in-Some-Twice-clause-none c =
    let P : Option PartFault → Type 0 = λ answer. IsPartAnswer c.args.within.now c.args.groups.items answer in
    refuses_twice c.args.within.now c.args.groups.items c.in-Some-Twice.field-0-0 (subst P (c.in-Some-Twice.is ∙ ap Some c.in-Some-Twice.field-0-is) (rw (← c.as_slice.ensures.value) c.in_ok-part_fault.ensures))

pub returns-in-Some-Twice-clause-fault : goal.returns-in-Some-Twice-clause-fault
returns-in-Some-Twice-clause-fault c =
    let P : Option PartFault → Type 0 = λ answer. IsPartAnswer c.args.within.now c.args.groups.items answer in
    again_not_apart (named c.args.groups.items) c.in-Some-Twice.field-0-0 (subst P (c.in-Some-Twice.is ∙ ap Some c.in-Some-Twice.field-0-is) (rw (← c.as_slice.ensures.value) c.in_ok-part_fault.ensures))

pub returns-in-Some-Lost-clause-none : goal.returns-in-Some-Lost-clause-none
returns-in-Some-Lost-clause-none c =
    let P : Option PartFault → Type 0 = λ answer. IsPartAnswer c.args.within.now c.args.groups.items answer in
    refuses_lost c.args.within.now c.args.groups.items c.in-Some-Lost.field-0-0 (subst P (c.in-Some-Lost.is ∙ ap Some c.in-Some-Lost.field-0-is) (rw (← c.as_slice.ensures.value) c.in_ok-part_fault.ensures)).0
