-- Names of leaves: their text and their order.
use Rattle.std.specs.Prelude.{◌≡◌, ℕ, List, ◌∷◌, ◌++◌}
use Rattle.std.specs.Cmp.Lexicographic.{slice_cmp}
use Rattle.std.specs.Fmt.{decimal}
use Rattle.std.specs.Ordering.{nat_cmp, ordering_then}
use Rattle.std.specs.declared.cmp.Ordering.{Ordering}
use Rattle.terms.specs.contracts.leaf.LeafOrd.TheImpl as leaf_order
use Rattle.terms.specs.declared.leaf.Leaf.{Leaf}

-- the relation's name, a dot (46) and the leaf's number
abbrev pub leaf_text : Leaf → List ℕ
leaf_text leaf = leaf.relation ++ 46 ∷ decimal leaf.number

-- first by the relation's name, then by number
abbrev pub leaf_cmp : Leaf → Leaf → Ordering
leaf_cmp one other = ordering_then (slice_cmp nat_cmp one.relation other.relation) (nat_cmp one.number other.number)

-- leaves are compared by their relations, then by their numbers
abbrev pub LeavesGoByRelation : Type 0
LeavesGoByRelation = (one other : Leaf) → (leaf_order.ghosts).cmp one other ≡ leaf_cmp one other
