-- What each round of `commit_rows::voters_of` keeps.
use Rattle.std.proofs.Common.{◌≡◌, take}
use Rattle.std.specs.BTreeMap as tree
use Rattle.std.specs.List.{AllByRecursion}
use Rattle.store.specs.declared.name.Txn.{Txn}
use Rattle.store.specs.Name.{txn_cmp}
use Rattle.sqlstore.specs.Decided.{voters_by}
use Rattle.sqlstore.specs.DeskRows.{some_voters}
use Rattle.sqlstore.specs.DeskSound.{IsVote}
use Rattle.sqlstore.proofs.commit_rows.voters_of.Given as goal

-- the map has the voters of the rows so far, and each of these is a vote
abbrev pub invariant-loop-row : goal.invariant-loop-row
invariant-loop-row l = ((txn : Txn) → tree.get txn_cmp l.commits txn ≡ some_voters (voters_by (take l.row-index l.rows) txn)) × AllByRecursion IsVote (take l.row-index l.rows)
