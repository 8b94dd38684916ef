-- Why `take_parts` ends: what stands behind a statement is shorter than the line.
use Rattle.std.proofs.Common.{length}
use Rattle.commands.proofs.session.+take_parts.Given as goal

abbrev pub decreases-take_parts : goal.decreases-take_parts
decreases-take_parts g l = length l.line.now
