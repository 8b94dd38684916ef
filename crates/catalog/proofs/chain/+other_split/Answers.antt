-- Why `chain::other_split` meets its contract.
use Rattle.std.specs.Option.{option_copied}
use Rattle.catalog.proofs.Chains.{found_here, goes_on, not_here, other_schema}
use Rattle.catalog.proofs.chain.+other_split.Goals as goal

pub returns-then-not-same : goal.returns-then-not-same
returns-then-not-same t c =
    other_schema c.args.relations.now c.args.others.now c.in_ok-relation.rest.now c.in_ok-other.more.now c.in_ok-relation.relation.now c.in_ok-other.other.now c.same.result
    c.in_ok-relation.ensures.cases c.in_ok-other.ensures.cases c.same.ensures c.if-not-same.true

pub returns-then-same : goal.returns-then-same
returns-then-same t c =
    goes_on c.args.relations.now c.args.others.now c.in_ok-relation.rest.now c.in_ok-other.more.now c.in_ok-relation.relation.now c.in_ok-other.other.now c.same.result c.same-2.result (option_copied c.other_split.result)
    c.in_ok-relation.ensures.cases c.in_ok-other.ensures.cases c.same.ensures c.if-not-same.false c.same-2.ensures c.if-same.true c.other_split.ensures

pub returns-then-same_relations : goal.returns-then-same_relations
returns-then-same_relations t c =
    found_here c.args.relations.now c.args.others.now c.in_ok-relation.rest.now c.in_ok-other.more.now c.in_ok-relation.relation.now c.in_ok-other.other.now c.same.result c.same-2.result c.same_relations.result
    c.in_ok-relation.ensures.cases c.in_ok-other.ensures.cases c.same.ensures c.if-not-same.false c.same-2.ensures c.if-same.false c.same_relations.ensures c.if-same_relations.true

pub returns-else-same_relations : goal.returns-else-same_relations
returns-else-same_relations t c =
    not_here c.args.relations.now c.args.others.now c.in_ok-relation.rest.now c.in_ok-other.more.now c.in_ok-relation.relation.now c.in_ok-other.other.now c.same-2.result c.same_relations.result
    c.in_ok-relation.ensures.cases c.in_ok-other.ensures.cases c.same-2.ensures c.if-same.false c.same_relations.ensures c.if-same_relations.false
