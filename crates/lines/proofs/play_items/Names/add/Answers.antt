use Rattle.lines.proofs.PlayItemsLemmas.{name_added}
use Rattle.lines.proofs.play_items.Names.add.Goals as goal

pub returns : goal.returns
returns c = λ other. name_added c.args.self.now.lines.entries c.insert.new.self.entries c.args.name c.args.line other (c.in_ok-insert.ensures.updates.0 other)
