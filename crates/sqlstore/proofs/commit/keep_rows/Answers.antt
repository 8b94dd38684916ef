use Rattle.std.proofs.Common.{◌≡◌, ◌+◌, ◌∙◌, string_bytes, take, subst, []}
use Rattle.std.proofs.lemmas.List.{take_all}
use Rattle.sqlite.specs.Held.{state}
use Rattle.sqlstore.specs.DeskStep.{Decides, MovesTo, Votes}
use Rattle.sqlstore.proofs.Composed.{good}
use Rattle.sqlstore.proofs.Deciding.{decides_more, decides_none}
use Rattle.sqlstore.proofs.Framing.{runs_as, runs_both, runs_err, runs_short}
use Rattle.sqlstore.proofs.commit.keep_rows.Goals as goal

pub votes-init : goal.votes-init
votes-init g c = runs_as g.S.Store (MovesTo c.args.life.now c.args.decision.now.version) (Decides c.args.decision.now.txn [] c.args.life.now c.args.decision.now.version) c.args.tx.now.conn c.move_to.new.tx.conn c.in_ok-move_to.field-0 0 (decides_none c.args.decision.now.txn c.args.life.now c.args.decision.now.version (state g.S.Store c.args.tx.now.conn.now).now (state g.S.Store c.move_to.new.tx.conn.now).now) c.in_ok-move_to.ensures

pub votes-preserved : goal.votes-preserved
votes-preserved g c =
    let decision = c.args.decision.now in
    let votes = c.as_slice-votes.result.now in
    let life = c.args.life.now in
    let i = c.votes.kept-index in
    let start = c.args.tx.now.conn in
    let mid = c.votes.tx.conn in
    let last = c.vote.new.tx.conn in
    runs_both g.S.Store (Decides decision.txn (take i votes) life decision.version) (Votes decision.txn (string_bytes c.kept-item.result.site) c.kept-item.result.ticket) (Decides decision.txn (take (i + 1) votes) life decision.version) start mid last 0 (good 0) (λ p. p.2.tables)
    (λ p q. decides_more decision.txn votes life decision.version i c.kept-item.result (state g.S.Store start.now).now (state g.S.Store mid.now).now (state g.S.Store last.now).now c.votes-test.true c.kept-item.is p q) c.votes.invariant
    (runs_as g.S.Store (Votes decision.txn (string_bytes c.kept-item.result.site) c.kept-item.result.ticket) (Votes decision.txn (string_bytes c.kept-item.result.site) c.kept-item.result.ticket) mid last c.in_ok-vote.field-0 0 (λ p. p) c.in_ok-vote.ensures)

pub returns : goal.returns
returns g c =
    let decision = c.args.decision.now in
    let votes = c.as_slice-votes.result.now in
    let life = c.args.life.now in
    let start = c.args.tx.now.conn in
    let last = c.votes.tx.conn in
    let all : take c.votes.kept-index votes ≡ votes = take_all c.votes.kept-index votes c.votes-test.false in
    runs_as g.S.Store (Decides decision.txn (take c.votes.kept-index votes) life decision.version) (Decides decision.txn decision.votes.items life decision.version) start last 0 tt (λ p. subst (λ s. Decides decision.txn s life decision.version (state g.S.Store start.now).now (state g.S.Store last.now).now) (all ∙ c.as_slice-votes.ensures.value) p) c.votes.invariant

pub returns-in_err-move_to : goal.returns-in_err-move_to
returns-in_err-move_to g c = runs_err g.S.Store (MovesTo c.args.life.now c.args.decision.now.version) _ c.args.tx.now.conn c.move_to.new.tx.conn _ c.from_residual.result c.from_residual.ensures.0 c.in_err-move_to.ensures

pub returns-in_err-vote : goal.returns-in_err-vote
returns-in_err-vote g c =
    let decision = c.args.decision.now in
    let votes = c.as_slice-votes.result.now in
    let life = c.args.life.now in
    runs_short g.S.Store (Decides decision.txn (take c.votes.kept-index votes) life decision.version) (Votes decision.txn (string_bytes c.kept-item.result.site) c.kept-item.result.ticket) _ c.args.tx.now.conn c.votes.tx.conn c.vote.new.tx.conn 0 _ c.from_residual-in_err-vote.result c.from_residual-in_err-vote.ensures.0 c.votes.invariant c.in_err-vote.ensures
