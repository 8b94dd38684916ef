use Rattle.std.proofs.Common.{◌<◌, ◌^◌}
use Rattle.sqlite_rules.proofs.ListLemmas.{all_more}
use Rattle.terms.specs.declared.leaf.Leaf.{Leaf}
use Rattle.sqlstore.proofs.find.read_numbers.Goals as goal

pub loop-leaf-preserved : goal.loop-leaf-preserved
loop-leaf-preserved c = all_more (λ (leaf : Leaf). leaf.number < 2 ^ 64) c.args.leaves.now c.loop-leaf.leaf-index c.leaf-item.result c.loop-leaf-test.true c.leaf-item.is c.loop-leaf.invariant c.read_number.ensures
