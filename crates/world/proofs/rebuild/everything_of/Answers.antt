-- Why `everything_of` meets its contract.
use Rattle.std.proofs.Common.{rules, ◌≡◌, sym, subst, Some}
use Rattle.meaning.specs.declared.statement.Select.{Select}
use Rattle.meaning.specs.declared.statement.Statement.TheVariants as statement
use Rattle.meaning.specs.Schema.{relation_named}
use Rattle.meaning.specs.Statement.{IsStatementOf}
use Rattle.catalog.specs.FragmentLeaf.{schemas_of}
use Rattle.catalog.specs.Relation.{catalogue_of}
use Rattle.world.proofs.Rebuilt.{everything_fits}
use Rattle.world.proofs.rebuild.everything_of.Goals as goal

pub returns-in_ok-everything-in-Some-clause-fits : goal.returns-in_ok-everything-in-Some-clause-fits
returns-in_ok-everything-in-Some-clause-fits c =
    let catalogue = catalogue_of c.args.catalog.now in
    let there : relation_named c.args.name.now (schemas_of catalogue) ≡ Some c.in-Some.relation.now = search rules in
    subst (λ (s : Select). IsStatementOf (schemas_of catalogue) (statement.Select s)) (sym c.in_ok-everything-in-Some.ensures)
    (everything_fits catalogue c.relations-relations.ensures.formed c.args.name.now c.in-Some.relation.now there)
