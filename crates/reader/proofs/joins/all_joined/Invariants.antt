-- What each round of `joins::all_joined` keeps.
use Rattle.std.proofs.Common.{◌≡◌, ◌∷◌, [], drop, length, map}
use Rattle.reader.specs.declared.fault.Rule.{Rule}
use Rattle.reader.specs.Breaks.{OthersBreak}
use Rattle.reader.specs.Names.{joined_of, others_of}
use Rattle.reader.specs.Tree.{join_tree}
use Rattle.reader.proofs.Others.{with_front, names_after}
use Rattle.reader.proofs.joins.all_joined.Given as goal

-- the relations so far, and what the joins that are left add to them, are all; a rule that one of these breaks is broken
abbrev pub invariant-loop-join : goal.invariant-loop-join
invariant-loop-join l = record {
  found : with_front (map joined_of l.all.items) (others_of l.schema.relations (names_after l.from.name l.all.items) l.before (map join_tree (drop l.join-index l.joins))) ≡ others_of l.schema.relations (l.from.name ∷ []) (length l.from.columns) (map join_tree l.joins);
  broken : (rule : Rule) → OthersBreak rule l.schema.relations (names_after l.from.name l.all.items) (map join_tree (drop l.join-index l.joins)) → OthersBreak rule l.schema.relations (l.from.name ∷ []) (map join_tree l.joins);
}
