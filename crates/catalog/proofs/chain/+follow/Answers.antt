-- Why `chain::follow` meets its contract.
use Rattle.std.proofs.Common.{ap, map, option_map, ◌∙◌}
use Rattle.catalog.specs.Relation.{catalogue_of}
use Rattle.catalog.proofs.Chains.{is_some_mapped, not_next}
use Rattle.catalog.proofs.chain.+follow.Goals as goal

pub returns-else-is_some : goal.returns-else-is_some
returns-else-is_some t c =
    not_next (catalogue_of c.args.catalog.now) (catalogue_of c.in-Some.next.now) (map catalogue_of c.in-Some.others.now) (map catalogue_of c.args.others.now) (option_map (λ name. name.now) c.changed.result) c.is_some.result
    (ap (map catalogue_of) c.in-Some.ensures.cases.0) c.changed.ensures (c.is_some.ensures ∙ is_some_mapped (λ name. name.now) c.changed.result) c.if-is_some.false
