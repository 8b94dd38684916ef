-- Why `test_values::test_values` meets its contract.
use Rattle.std.specs.Ordering.{eq_by_cmp}
use Rattle.std.proofs.lemmas.List.Filters.{dedup_is}
use Rattle.terms.specs.Value.{value_cmp}
use Rattle.terms.proofs.SortedTests.{ascending, members}
use Rattle.terms.proofs.test_values.test_values.Goals as goal

pub returns-clause-ascending : goal.returns-clause-ascending
returns-clause-ascending c =
    rw (dedup_is (eq_by_cmp value_cmp) _ _ c.dedup.ensures.filtered) (ascending _ c.sort_unstable.ensures.sorted)

pub returns-clause-members : goal.returns-clause-members
returns-clause-members c =
    members _ c.in_ok-values.values.items c.sort_unstable.new.self.items c.dedup.new.self.items c.in_ok-values.ensures c.sort_unstable.ensures.permutation (dedup_is (eq_by_cmp value_cmp) _ _ c.dedup.ensures.filtered)
