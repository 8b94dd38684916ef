use Rattle.std.proofs.Common.{List, ap, map, option_map, subst, ◌∙◌}
use Rattle.meaning.specs.declared.schema.RelationSchema.{RelationSchema}
use Rattle.catalog.specs.Relation.{catalogue_of}
use Rattle.commands.specs.Dump.{is_missing, tasks_asked}
use Rattle.lines.specs.Script.{Reading, task_of}
use Rattle.databases.specs.Solo.{IsRun}
use Rattle.databases.proofs.SoloLemmas.{Appends-kept}
use Rattle.commands.proofs.dump.dump_over.Goals as goal

pub returns-clause-ok : goal.returns-clause-ok
returns-clause-ok g c =
    let run = c.in_ok-outcome.ensures.ok in
    let asked = option_map (λ name. name.now) c.args.relation in
    record {
      written = run.0;
      told = Appends-kept (g.W.Write.contents c.args.output.now) (g.W.Write.contents c.answer_items-outcome.new.output) (g.W.Write.contents c.send_out-sent.new.output) run.0 run.2 c.send_out-sent.ensures.same;
      any_refused = run.1;
      ran = subst (λ (tasks : List Reading). IsRun g.B.Database.seen g.O.Opens.origin c.args.mode (catalogue_of c.args.catalog.now) tasks run.0 run.1) (ap (map task_of) c.as_slice-2.ensures.value ∙ c.in_ok-items.ensures ∙ ap (tasks_asked c.args.mode asked) (c.as_slice.ensures.value ∙ c.in_ok-names.ensures ∙ ap (map (λ (relation : RelationSchema). relation.name)) c.schema.ensures.schemas)) run.3;
      lacks = c.is_missing.ensures ∙ ap (is_missing asked) c.schema-2.ensures.schemas;
    }
