use Rattle.std.proofs.Common.{◌≡◌, drop}
use Rattle.lines.specs.PlayLoad.{emptied}
use Rattle.lines.proofs.play_load.put_relations.Given as goal

-- what the relations that are left add to those so far is what all add
abbrev pub invariant-loop-relation : goal.invariant-loop-relation
invariant-loop-relation l = emptied (drop l.relation-index l.relations) l.whole ≡ emptied l.relations l.initial.whole
