-- Why `with` keeps the letters linked.
use Rattle.std.proofs.Common.{◌≡◌, Some, length, subst, arith}
use Rattle.std.specs.BTreeMap.{Updates}
use Rattle.store.specs.Name.{txn_cmp}
use Rattle.history.proofs.Linked.{linked_more}
use Rattle.history.proofs.sent.Sent.with.Goals as goal

pub invariant_of-result : goal.invariant_of-result
invariant_of-result c =
    let links = c.self.inside.links in
    let letter = c.args.letter in
    let count : c.len.result ≡ length links.items = omega (arith, c.len.ensures, links.ok.0) in
    rw c.in_ok-push.ensures.items (linked_more links.items c.self.inside.newest c.insert.new.self letter c.in_ok-earlier.earlier c.self.invariant c.in_ok-earlier.ensures.old
    (subst (λ n. Updates txn_cmp c.self.inside.newest c.insert.new.self letter.now.txn (Some n)) count c.in_ok-earlier.ensures.updates))
