use Rattle.std.proofs.Common.{map}
use Rattle.catalog.specs.Relation.{catalogue_of}
use Rattle.lines.specs.Script.{task_of}
use Rattle.databases.proofs.ClientLemmas.{run_from}
use Rattle.commands.proofs.dump.answer_items.Goals as goal

pub returns-clause-ok : goal.returns-clause-ok
returns-clause-ok g c =
    let works = c.in_ok-run_items.ensures.ok in
    let any_refused = c.in_ok-run_items.field-0 in (
      works.written,
      any_refused,
      works.told,
      run_from g.B.Database.seen g.O.Opens.origin c.args.mode (catalogue_of c.args.catalog.now) (map task_of c.args.items.now) works.written any_refused c.in_ok-database.database c.run_items.new.database c.in_ok-database.ensures.ok c.moves_follow.ensures c.run_items.ensures.clean
          (λ whole past clean h. works.ran (catalogue_of c.args.catalog.now) whole past clean h),
    )
