use Rattle.catalog.specs.Relation.{relation_of}
use Rattle.catalog.proofs.SameTrees.{differ_at}
use Rattle.lines.proofs.same_catalog.same_relations.Goals as goal

pub returns-then-not-same_relation : goal.returns-then-not-same_relation
returns-then-not-same_relation c =
    differ_at relation_of c.args.relations.now c.args.others.now c.loop-place.place _ _ c.index-relations-place.result c.index-others-place.result c.same_relation.result
    c.index-relations-place.is c.index-others-place.is c.loop-place-test.true c.same_relation.ensures c.if-not-same_relation.true
