-- Why `writes_out` meets its contract.
use Rattle.std.proofs.Common.{arith, rules, ◌≡◌, [], ◌∷◌, ◌+◌, drop, subst}
use Rattle.std.proofs.lemmas.Grind.{common_steps}
use Rattle.desk.specs.Send.{IsPast, writes_go}
use Rattle.desk.proofs.Short.{first_write}
use Rattle.desk.proofs.send.writes_out.Goals as goal

pub returns-in_err-write_out-clause-full : goal.returns-in_err-write_out-clause-full
returns-in_err-write_out-clause-full c = λ is.
    let participants = c.loop-unsent.participants in
    let one = c.unsent-item.result in
    let rest = drop (c.loop-unsent.unsent-index + 1) c.args.writes.now in
    let past : IsPast (writes_go c.args.txn (one ∷ []) participants).participants = c.write_out.ensures.full (search rules) in
    let all : one ∷ rest ≡ drop c.loop-unsent.unsent-index c.args.writes.now = grind (arith, common_steps) in
    subst IsPast c.loop-unsent.invariant.participants (subst (λ l. IsPast (writes_go c.args.txn l participants).participants) all (first_write c.args.txn one rest participants past))

pub loop-unsent-preserved : goal.loop-unsent-preserved
loop-unsent-preserved c = record {
  letters = grind (arith, common_steps);
  participants = grind (arith, common_steps);
  short = λ old. c.in_ok-write_out.ensures.short (c.loop-unsent.invariant.short old);
}
