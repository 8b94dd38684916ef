-- What each round of `commit_rows::list_commits` keeps.
use Rattle.std.proofs.Common.{◌≡◌, ◌++◌}
use Rattle.store.specs.RowList.{commits_of}
use Rattle.sqlstore.proofs.commit_rows.list_commits.Given as goal

-- what is listed, and what is left to list, are all
abbrev pub invariant-loop-txn : goal.invariant-loop-txn
invariant-loop-txn l = l.rows.items ++ commits_of l.txn-iterator ≡ commits_of l.commits.entries
