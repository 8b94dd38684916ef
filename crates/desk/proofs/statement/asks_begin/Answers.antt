-- Why `asks_begin` meets its contract.
use Rattle.std.proofs.Common.{rules, ◌≡◌, ◌++◌, ◌∙◌, sym, ap, subst, take, drop, length}
use Rattle.desk.specs.Opening.{opens, visits}
use Rattle.desk.specs.Send.{AreShort, asks_go}
use Rattle.desk.specs.Statement.{ask_sites}
use Rattle.desk.proofs.Operations.{written_back}
use Rattle.desk.proofs.Short.{visits_short}
use Rattle.desk.proofs.statement.asks_begin.Goals as goal

pub returns-clause-letters : goal.returns-clause-letters
returns-clause-letters c =
    let txn = c.args.txn in
    let asks = c.args.asks.now.items in
    let participants = c.args.participants.now in
    let first : c.in_ok-opened.opened.letters.items ≡ opens txn (ask_sites asks) participants = search rules in
    let out : c.in_ok-more.more.items ≡ (asks_go txn asks (visits (ask_sites asks) participants)).letters = search rules in
    let all : c.in_ok-joined.field-0.items ≡ c.in_ok-opened.opened.letters.items ++ c.in_ok-more.more.items = search rules in
    all ∙ (λ i. first i ++ out i)

pub returns-clause-short : goal.returns-clause-short
returns-clause-short c = λ short.
    let items = c.in_ok-opened.opened.participants.items in
    let new = c.asks_step.new.participants in
    let size : c.in_ok-opened.opened.participants.len ≡ length items = search rules in
    let long : length new ≡ length items = search rules in
    subst AreShort (sym (ap (λ n. take n (new ++ drop (length new) items)) size ∙ written_back new items long)) (c.in_ok-more.ensures.short (subst AreShort (search rules) (visits_short (ask_sites c.args.asks.now.items) c.args.participants.now short)))

pub returns-clause-participants : goal.returns-clause-participants
returns-clause-participants c =
    let asks = c.args.asks.now.items in
    let items = c.in_ok-opened.opened.participants.items in
    let new = c.asks_step.new.participants in
    let size : c.in_ok-opened.opened.participants.len ≡ length items = search rules in
    let long : length new ≡ length items = search rules in
    let out : new ≡ (asks_go c.args.txn asks (visits (ask_sites asks) c.args.participants.now)).participants = search rules in
    ap (λ n. take n (new ++ drop (length new) items)) size ∙ written_back new items long ∙ out
