use Rattle.std.proofs.Common.{find, option_map, ap, ◌∙◌}
use Rattle.std.specs.Prelude.{nat_eq}
use Rattle.std.specs.Cmp.Lexicographic.{pointwise}
use Rattle.catalog.specs.Relation.{relation_of}
use Rattle.catalog.proofs.LookUps.{found_relation}
use Rattle.catalog.proofs.catalogue.Catalog.relation.Goals as goal

pub returns : goal.returns
returns c =
    rw (← c.self.view_is)
    (ap (option_map relation_of) c.find_relation.ensures
    ∙ ap (λ relations. option_map relation_of (find (λ relation. pointwise nat_eq relation.schema.name c.args.name.now) relations)) c.as_slice.ensures.value
    ∙ found_relation c.args.name.now c.self.inside.relations.items)
