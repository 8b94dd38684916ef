-- Why `ready_to_run` meets its contract.
use Rattle.std.proofs.Common.{sym, ap, ◌∙◌, subst, List}
use Rattle.catalog.specs.FragmentLeaf.{schemas_of}
use Rattle.meaning.specs.declared.schema.RelationSchema.{RelationSchema}
use Rattle.meaning.specs.Statement.{IsStatementOf, is_refragment}
use Rattle.protocol.proofs.Basics.{clash}
use Rattle.desk.proofs.request.ready_to_run.Goals as goal

pub returns-clause-of_plan : goal.returns-clause-of_plan
returns-clause-of_plan c = λ db of same.
    let n = c.args.volatile.now.version in
    let ordinary = sym c.is_refragment.ensures ∙ c.if-is_refragment.false in
    c.in_ok-ready_for.ensures.of_plan db n of same (record {
      of_schemas = subst (λ (ss : List RelationSchema). IsStatementOf ss c.args.statement.now) (sym (of.schemas n ∙ ap schemas_of same)) c.requires;
      next = λ refragment is. clash (ap is_refragment is) ordinary;
    })
