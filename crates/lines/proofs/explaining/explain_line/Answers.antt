use Rattle.std.proofs.Common.{◌≡◌, None, Some}
use Rattle.lines.proofs.explaining.explain_line.Goals as goal

pub returns-in-Some-clause-quiet : goal.returns-in-Some-clause-quiet
returns-in-Some-clause-quiet g c = λ command of_text.
    let none : Some c.in-Some.fault ≡ None = c.in-Some.ensures command of_text in
    absurd cc
