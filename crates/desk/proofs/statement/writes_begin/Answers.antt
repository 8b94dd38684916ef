-- Why `writes_begin` meets its contract.
use Rattle.std.proofs.Common.{rules, ◌≡◌, ◌++◌, ◌∙◌, sym, ap, subst, take, drop, length}
use Rattle.desk.specs.Opening.{opens, visits}
use Rattle.desk.specs.Send.{AreShort, writes_go}
use Rattle.desk.specs.Statement.{write_sites}
use Rattle.desk.proofs.Operations.{written_back}
use Rattle.desk.proofs.Short.{visits_short}
use Rattle.desk.proofs.statement.writes_begin.Goals as goal

pub returns-clause-letters : goal.returns-clause-letters
returns-clause-letters c =
    let txn = c.args.txn in
    let unsent = c.args.unsent.now.items in
    let participants = c.args.participants.now in
    let first : c.in_ok-opened.opened.letters.items ≡ opens txn (write_sites unsent) participants = search rules in
    let out : c.in_ok-more.more.items ≡ (writes_go txn unsent (visits (write_sites unsent) participants)).letters = search rules in
    let all : c.in_ok-joined.field-0.items ≡ c.in_ok-opened.opened.letters.items ++ c.in_ok-more.more.items = search rules in
    all ∙ (λ i. first i ++ out i)

pub returns-clause-short : goal.returns-clause-short
returns-clause-short c = λ short.
    let items = c.in_ok-opened.opened.participants.items in
    let new = c.writes_step.new.participants in
    let size : c.in_ok-opened.opened.participants.len ≡ length items = search rules in
    let long : length new ≡ length items = search rules in
    subst AreShort (sym (ap (λ n. take n (new ++ drop (length new) items)) size ∙ written_back new items long)) (c.in_ok-more.ensures.short (subst AreShort (search rules) (visits_short (write_sites c.args.unsent.now.items) c.args.participants.now short)))

pub returns-clause-participants : goal.returns-clause-participants
returns-clause-participants c =
    let unsent = c.args.unsent.now.items in
    let items = c.in_ok-opened.opened.participants.items in
    let new = c.writes_step.new.participants in
    let size : c.in_ok-opened.opened.participants.len ≡ length items = search rules in
    let long : length new ≡ length items = search rules in
    let out : new ≡ (writes_go c.args.txn unsent (visits (write_sites unsent) c.args.participants.now)).participants = search rules in
    ap (λ n. take n (new ++ drop (length new) items)) size ∙ written_back new items long ∙ out
