use Rattle.std.proofs.Common.{List, map, subst}
use Rattle.runs.specs.Conversations.{AreHeld}
use Rattle.lines.specs.RunScript.{SessionPart, part_of}
use Rattle.runs.proofs.RunLemmas.{all_held, given}
use Rattle.runs.proofs.conversations.converse_at_once.Goals as goal

pub returns-clause-ok : goal.returns-clause-ok
returns-clause-ok g c =
    let parts = map part_of c.args.parts.now in
    let held = subst (λ (of_seats : List SessionPart). AreHeld of_seats c.in_ok-held.held.items) c.in_ok-seats.ensures c.in_ok-held.ensures in
    given c.all_of.result c.all_of.ensures.ok (λ all same. all_held parts all.items (subst (AreHeld parts) same held))

pub returns-clause-end : goal.returns-clause-end
returns-clause-end g c = c.all_of.ensures.end
