-- Why `shelves::list_leaf` meets its contract.
use Rattle.std.proofs.Common.{subst}
use Rattle.std.specs.List.Sorted.{IsStrictlySortedBy}
use Rattle.std.specs.Map.{keys_of}
use Rattle.std.specs.Ordering.{int_cmp}
use Rattle.store.specs.Shelves.{entries_on}
use Rattle.store.proofs.shelves.list_leaf.Goals as goal

pub returns-in-None-clause-sorted : goal.returns-in-None-clause-sorted
unfolding IsStrictlySortedBy
returns-in-None-clause-sorted c = subst (λ o. IsStrictlySortedBy int_cmp (keys_of (entries_on o))) c.in-None.ensures.value tt
