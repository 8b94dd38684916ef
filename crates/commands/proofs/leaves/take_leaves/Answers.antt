use Rattle.forms.specs.declared.mode.Mode.TheVariants.{Tabs}
use Rattle.commands.proofs.ScriptFileLemmas.{stretch_talks}
use Rattle.commands.proofs.leaves.take_leaves.Goals as goal

pub returns-clause-ok : goal.returns-clause-ok
returns-clause-ok g c = stretch_talks g.B.Database.seen Tabs _ (g.W.Write.contents c.args.output.now) (g.W.Write.contents c.count_leaves.new.output) c.args.database.now c.count_leaves.new.database _ c.count_leaves.ensures.clean c.in_ok-count_leaves.ensures.ok
