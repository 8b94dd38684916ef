-- What each round of `shelves::copy_entries` keeps.
use Rattle.std.proofs.Common.{◌≡◌, ◌++◌}
use Rattle.store.proofs.shelves.copy_entries.Given as goal

-- what is copied, and what is left to copy, are all
abbrev pub invariant-loop-key : goal.invariant-loop-key
invariant-loop-key l = l.copies.items ++ l.key-iterator ≡ l.shelf.entries
