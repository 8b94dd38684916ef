-- Why `table::are_parts` meets its contract.
use Rattle.std.proofs.Common.{rules}
use Rattle.answers.proofs.Climbing.{parts_are}
use Rattle.answers.proofs.table.are_parts.Goals as goal

pub returns : goal.returns
returns c = parts_are c.args.columns.now c.args.parts.now c.parts_climb.result (search rules)
