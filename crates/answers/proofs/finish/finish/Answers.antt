-- Why `finish::finish` meets its contract: each statement's outcome is its meaning.
use Rattle.catalog.specs.Relation.{catalogue_of}
use Rattle.answers.proofs.Finished.{answer_from, writes_from}
use Rattle.catalog.specs.FragmentLeaf.{catalogue_leaves}
use Rattle.answers.proofs.LeavesWritten.{leaves_from}
use Rattle.answers.proofs.finish.finish.Goals as goal

pub returns-clause-answer : goal.returns-clause-answer
returns-clause-answer c = λ of.
    answer_from c.outcome_by.result (catalogue_of c.args.catalog.now) c.leaves.result.now c.args.statement.now c.args.table.now c.relations-relations.ensures.formed c.relations-relations.ensures.valid of c.leaves.ensures.leaves c.outcome_by.ensures

pub returns-clause-writes : goal.returns-clause-writes
returns-clause-writes c = λ of.
    writes_from c.outcome_by.result (catalogue_of c.args.catalog.now) c.leaves.result.now c.args.statement.now c.args.table.now c.relations-relations.ensures.formed c.relations-relations.ensures.valid of c.leaves.ensures.leaves c.outcome_by.ensures

pub returns-clause-leaves : goal.returns-clause-leaves
returns-clause-leaves c = leaves_from c.outcome_by.result c.leaves.result.now (catalogue_leaves (catalogue_of c.args.catalog.now)) c.args.statement.now c.args.table.now c.leaves.ensures.leaves c.outcome_by.ensures
