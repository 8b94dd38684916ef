-- Why `moves_of` meets its contract.
use Rattle.std.proofs.Common.{ap, ◌∙◌, map}
use Rattle.desk.specs.Planned.{unsent_by}
use Rattle.desk.proofs.statement.moves_of.Goals as goal

pub returns-clause-answer : goal.returns-clause-answer
returns-clause-answer c = λ is are finds whole fits those. c.in_ok-made.ensures.answer is are finds whole fits those

pub returns-clause-moves : goal.returns-clause-moves
returns-clause-moves c = λ is are finds whole fits those. c.in_ok-unsent.ensures ∙ ap (map unsent_by) (c.in_ok-made.ensures.moves is are finds whole fits those)

pub returns-clause-leaves : goal.returns-clause-leaves
returns-clause-leaves c = record { moves = c.in_ok-made.made.moves.items; are = c.in_ok-unsent.ensures; leaves = c.in_ok-made.ensures.leaves }
