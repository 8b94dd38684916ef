-- Why `rebuilt` meets its contract.
use Rattle.std.proofs.Common.{rules, ◌≡◌, subst, option_map}
use Rattle.meaning.specs.declared.statement.Statement.TheVariants as statement
use Rattle.meaning.specs.Schema.{relation_named}
use Rattle.catalog.specs.FragmentLeaf.{schemas_of}
use Rattle.catalog.specs.Relation.{catalogue_of}
use Rattle.world.specs.Counted.{counts}
use Rattle.world.specs.Settled.{everything}
use Rattle.world.proofs.Counting.{no_fewer}
use Rattle.world.proofs.Rebuilt.{shows_rows}
use Rattle.world.proofs.Failing.{fails_on}
use Rattle.world.proofs.rebuild.rebuilt.Goals as goal

pub returns-clause-rows : goal.returns-clause-rows
returns-clause-rows g c = λ whole clean sound fit those fits.
    let catalogue = catalogue_of c.args.machines.now.desk.catalog in
    let found = subst (λ x. c.in_ok-statement.field-0 ≡ option_map (λ relation. statement.Select (everything relation)) (relation_named c.args.name.now (schemas_of (catalogue_of x)))) c.catalog.ensures c.in_ok-statement.ensures.statement in
    shows_rows (schemas_of catalogue) whole c.args.name.now c.in_ok-statement.field-0 c.in-Some.statement c.in_ok-answer.answer c.rows_of.result.items fits found c.in-Some.is (c.in_ok-answer.ensures.answer whole clean sound fit those fits) c.rows_of.ensures

pub returns-in_err-statement-clause-leaves : goal.returns-in_err-statement-clause-leaves
returns-in_err-statement-clause-leaves g c = record {
  clean = search rules;
  sound = search rules;
  counts = no_fewer (counts g.D.DeskStore.refused g.S.SiteStore.refused c.args.machines.now);
  catalog = search rules;
  later = search rules;
}

pub returns-in_default-clause-leaves : goal.returns-in_default-clause-leaves
returns-in_default-clause-leaves g c = record {
  clean = search rules;
  sound = search rules;
  counts = no_fewer (counts g.D.DeskStore.refused g.S.SiteStore.refused c.args.machines.now);
  catalog = search rules;
  later = search rules;
}

pub returns-in_err-answer-clause-fails : goal.returns-in_err-answer-clause-fails
returns-in_err-answer-clause-fails g c = λ whole clean sound fit those fits.
    let of = counts g.D.DeskStore.refused g.S.SiteStore.refused in
    fails_on c.from_residual-in_err-answer.result c.in_err-answer.field-0.0 (of c.args.machines.now) (of c.answer_settled.new.machines) c.from_residual-in_err-answer.ensures.1 (c.in_err-answer.ensures.fails whole clean sound fit those fits)
