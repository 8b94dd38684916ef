use Rattle.std.proofs.Common.{ap, map, ◌∙◌}
use Rattle.catalog.specs.Relation.{catalogue_of}
use Rattle.lines.specs.Script.{lines_of, task_of, tasks_of_lines}
use Rattle.databases.proofs.SoloRunLemmas.{flushed_over}
use Rattle.databases.proofs.solo.run_script.Goals as goal

pub returns : goal.returns
returns g c = (
  record { short = c.requires; readable = c.in_ok-items.ensures.all_read },
  flushed_over g.B.Database.seen g.O.Opens.origin c.args.mode (map catalogue_of c.args.chain.now) (map task_of c.as_slice.result.now) (tasks_of_lines (lines_of c.args.script.now)) (g.W.Write.contents c.args.output.now) (g.W.Write.contents c.run-outcome.new.output) (g.W.Write.contents c.flush-flushed.new.self) c.in_ok-any_refused.any_refused
      (ap (map task_of) c.as_slice.ensures.value ∙ c.in_ok-items.ensures.items) c.flush-flushed.ensures.bytes c.in_ok-any_refused.ensures.ok,
)
