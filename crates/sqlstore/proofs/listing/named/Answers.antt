use Rattle.std.proofs.Common.{sym, ◌∙◌}
use Rattle.sqlstore.specs.Content.{leaf_named}
use Rattle.sqlstore.proofs.Naming.{named_here, named_past}
use Rattle.sqlstore.proofs.listing.named.Goals as goal

pub returns-then-branch-clause-leaf : goal.returns-then-branch-clause-leaf
returns-then-branch-clause-leaf c =
    let name = c.args.name.now in
    named_here c.args.leaves.now c.loop-leaf.leaf-index c.leaf-item.result name (leaf_named c.args.leaves.now name) c.loop-leaf-test.true c.leaf-item.is c.loop-leaf.invariant (sym c.in_ok-has_name.ensures ∙ c.if-branch.true)

pub loop-leaf-preserved : goal.loop-leaf-preserved
loop-leaf-preserved c =
    let name = c.args.name.now in
    named_past c.args.leaves.now c.loop-leaf.leaf-index c.leaf-item.result name (leaf_named c.args.leaves.now name) c.loop-leaf-test.true c.leaf-item.is c.loop-leaf.invariant (sym c.in_ok-has_name.ensures ∙ c.if-branch.false)
