-- Why `outcome_of` meets its contract.
use Rattle.std.proofs.Common.{rules, ◌≡◌, ap, ◌∙◌, map}
use Rattle.catalog.specs.Relation.{catalogue_of}
use Rattle.desk.specs.Planned.{unsent_from}
use Rattle.desk.proofs.statement.outcome_of.Goals as goal

pub returns-clause-answer : goal.returns-clause-answer
returns-clause-answer c = λ is are finds whole fits those. c.in_ok-outcome.ensures.answer is are finds whole fits those

pub returns-clause-writes : goal.returns-clause-writes
returns-clause-writes c = λ is are finds whole fits those.
    let list : c.in_ok-unsent.unsent.items ≡ map (unsent_from (catalogue_of c.args.catalog.now)) c.in_ok-outcome.outcome.writes = search rules in
    list ∙ ap (map (unsent_from (catalogue_of c.args.catalog.now))) (c.in_ok-outcome.ensures.writes is are finds whole fits those)

pub returns-clause-leaves : goal.returns-clause-leaves
returns-clause-leaves c = record { writes = c.in_ok-outcome.outcome.writes; are = search rules; leaves = c.in_ok-outcome.ensures.leaves }
