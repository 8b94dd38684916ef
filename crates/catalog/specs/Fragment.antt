-- Fragments after Özsu and Valduriez, Principles of Distributed Database Systems, the chapter on
-- distributed design: selections of rows, projections that keep the key, and both, nested.
use Rattle.std.specs.Prelude.{◌≡◌, ℕ, List, Option, Some, None, map, filter, if◌then◌else◌}
use Rattle.terms.specs.declared.cond.Cond.{Cond}
use Rattle.terms.specs.declared.value.Value.{Value}
use Rattle.terms.specs.Cond.{conds_hold}
use Rattle.meaning.specs.Listed.{listed}

-- a leaf of a fragment tree: the conditions on its path, and its columns, the key first
pub record Fragment : Type 0 where
  pub conds : List Cond
  pub columns : List ℕ

-- a row's part in a leaf, if the leaf's conditions hold of the row
abbrev pub part : Fragment → List Value → Option (List Value)
part leaf row = if conds_hold leaf.conds row then Some (listed leaf.columns row) else None

-- the content of a leaf: the parts of the rows of which its conditions hold
abbrev pub content : Fragment → List (List Value) → List (List Value)
content leaf rows = map (listed leaf.columns) (filter (conds_hold leaf.conds) rows)

-- contents rebuild a relation: each leaf's content is what it has of the relation
abbrev pub Rebuilds : List Fragment → List (List (List Value)) → List (List Value) → Type 0
Rebuilds leaves contents rows = contents ≡ map (λ leaf. content leaf rows) leaves
