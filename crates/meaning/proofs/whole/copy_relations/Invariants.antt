-- What each round of `whole::copy_relations` keeps.
use Rattle.std.proofs.Common.{◌≡◌, ℕ, List, None}
use Rattle.meaning.proofs.Maps.{rows_at}
use Rattle.meaning.proofs.whole.copy_relations.Given as goal

-- what is not left to copy is copied
abbrev pub invariant-loop-name : goal.invariant-loop-name
invariant-loop-name l = (q : List ℕ) → rows_at l.name-iterator q ≡ None → rows_at l.copies.entries q ≡ rows_at l.relations.entries q
