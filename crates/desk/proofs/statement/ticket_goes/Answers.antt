-- Why `ticket_goes` meets its contract.
use Rattle.std.proofs.Common.{rules, ◌≡◌, subst, ap, ◌∙◌, sym, map, Some, take, drop, length, ◌++◌}
use Rattle.protocol.specs.Desk.{ticket_goes}
use Rattle.protocol.specs.Letters.{txn_name}
use Rattle.desk.specs.Database.{language}
use Rattle.desk.specs.Does.{IsProgress}
use Rattle.desk.specs.Participants.{changed_at, with_ticket}
use Rattle.desk.specs.Send.{AreShort}
use Rattle.desk.specs.State.{IsIn}
use Rattle.desk.specs.Statement.{staged}
use Rattle.desk.specs.Stepped.{ticketed}
use Rattle.desk.specs.Transaction.{stage_of, undecided_of}
use Rattle.desk.specs.declared.transaction.TxnState.TheVariants as standings
use Rattle.desk.proofs.Operations.{written_back}
use Rattle.desk.proofs.SentLetters.{ticket_turn}
use Rattle.desk.proofs.Short.{ticket_short}
use Rattle.desk.proofs.Within.{ticket_sites}
use Rattle.desk.proofs.statement.ticket_goes.Goals as goal

-- the participants are as they were written
written : (c : goal.After-drop-undecided) → c.stage_goes.new.participants ≡ c.new.result
written c =
    let items = c.in_ok-participants.participants.items in
    let new = c.stage_goes.new.participants in
    let size : c.in_ok-participants.participants.len ≡ length items = search rules in
    let long : length new ≡ length items = search rules in
    sym (c.new.ensures ∙ ap (λ n. take n (new ++ drop (length new) items)) size ∙ written_back new items long)

pub returns-clause-step : goal.returns-clause-step
returns-clause-step c = λ db choice there.
    let u = c.args.undecided.now in
    let participants = c.as_mut_slice.result.now in
    let after = c.stage_goes.new.participants in
    let opened : participants ≡ map (changed_at c.args.site.now (with_ticket (Some c.args.ticket))) u.participants = search rules in
    let went : IsProgress db c.args.txn (staged after c.stage_goes.new.stage u.moves) c.in_ok-step.step (ticket_goes {L = language db} (txn_name c.args.txn) (undecided_of db (staged participants u.stage u.moves)) choice (stage_of db participants u.stage)) = c.in_ok-step.ensures.step db choice u.moves in
    subst (λ l. IsProgress db c.args.txn (staged l c.stage_goes.new.stage u.moves) c.in_ok-step.step (ticket_goes {L = language db} (txn_name c.args.txn) (ticketed db u c.args.site.now c.args.ticket) choice (stage_of db u.participants u.stage))) (written c) (subst (IsProgress db c.args.txn (staged after c.stage_goes.new.stage u.moves) c.in_ok-step.step) (ticket_turn db c.args.txn choice u c.args.site.now c.args.ticket there participants opened) went)

pub returns-clause-within : goal.returns-clause-within
returns-clause-within c = λ db n known.
    let u = c.args.undecided.now in
    let participants = c.as_mut_slice.result.now in
    let opened : participants ≡ map (changed_at c.args.site.now (with_ticket (Some c.args.ticket))) u.participants = search rules in
    let went : IsIn db n (standings.Undecided (staged c.stage_goes.new.participants c.stage_goes.new.stage u.moves)) =
    c.in_ok-step.ensures.within db n u.moves (subst (λ l. IsIn db n (standings.Undecided (staged l u.stage u.moves))) (sym opened) (ticket_sites c.args.site.now (Some c.args.ticket) u.participants ∙ known.0, known.1, known.2)) in
    subst (λ l. IsIn db n (standings.Undecided (staged l c.stage_goes.new.stage u.moves))) (written c) went

pub returns-clause-sends : goal.returns-clause-sends
returns-clause-sends c = record {
  short = λ short.
      let opened : map (changed_at c.args.site.now (with_ticket (Some c.args.ticket))) c.args.undecided.now.participants ≡ c.as_mut_slice.result.now = search rules in
      subst AreShort (written c) (c.in_ok-step.ensures.short (subst AreShort opened (ticket_short c.args.site.now (Some c.args.ticket) c.args.undecided.now.participants short)));
  same = tt;
  full = λ full. cc;
}
