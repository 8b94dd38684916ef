-- Why `open_for_asks` meets its contract.
use Rattle.std.proofs.Common.{arith, rules, ◌≡◌, ◌∷◌, ◌++◌, ◌+◌, ◌∙◌, ap, drop}
use Rattle.std.proofs.lemmas.Grind.{common_steps}
use Rattle.desk.specs.Opening.{is_new, opens, visits}
use Rattle.desk.specs.Statement.{ask_sites}
use Rattle.desk.proofs.Opened.{one_opens, one_visited}
use Rattle.desk.proofs.send.open_for_asks.Goals as goal

pub loop-participant-preserved : goal.loop-participant-preserved
loop-participant-preserved c =
    let sites = ask_sites c.args.asks.now in
    let one = c.participant-item.result in
    let rest = drop (c.loop-participant.participant-index + 1) c.args.participants.now in
    let before = c.loop-participant.going in
    let all : one ∷ rest ≡ drop c.loop-participant.participant-index c.args.participants.now = grind (arith, common_steps) in
    let new : c.is_new_to_asks-is_new.result ≡ is_new sites one = search rules in
    record {
      participants = one_visited sites one rest before.participants.items _ _ new c.in_ok-visit.ensures.participants ∙ ap (λ more. before.participants.items ++ visits sites more) all ∙ c.loop-participant.invariant.participants;
      letters = one_opens c.args.txn sites one rest before.letters.items _ _ new c.in_ok-visit.ensures.letters ∙ ap (λ more. before.letters.items ++ opens c.args.txn sites more) all ∙ c.loop-participant.invariant.letters;
    }
