-- Why `LockTable::new` meets its contract.
use Rattle.std.proofs.Common.{arith, rules, ◌≡◌, [], map, sym, subst}
use Rattle.std.proofs.lemmas.Grind.{common_steps}
use Rattle.site.specs.Locks.{free}
use Rattle.site.specs.LockTable.{IsHeld}
use Rattle.site.proofs.LockPlaces.{free_held}
use Rattle.site.proofs.lock_table.LockTable.new.Goals as goal

pub invariant_of-result : goal.invariant_of-result
invariant_of-result c =
    let all : c.loop-leaf.locks.items ≡ map free c.args.leaves.now = grind (arith, common_steps) in
    let none : c.new.result.entries ≡ [] = search rules in
    (c.loop-leaf.invariant.1, subst (λ held. IsHeld held c.loop-leaf.locks.items) (sym none) (subst (IsHeld []) (sym all) (free_held c.args.leaves.now)))
