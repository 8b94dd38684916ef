-- The shape of a plan: the plan without the places where its parts stand in memory.
use Rattle.std.specs.Prelude.{ℕ, List}
use Rattle.terms.specs.declared.cond.Cond.{Cond}
use Rattle.plan.specs.declared.fetch.Fetch as fetch
use Rattle.plan.specs.declared.plan.Plan.{Plan}
use Rattle.plan.specs.declared.plan.Plan.TheVariants as plan

-- no row, a read of a leaf, and what is made of the rows of plans
pub data Shape : Type 0 where
  Empty : Shape
  Fetch : (read : fetch.Fetch) → Shape
  Filter : (conds : List Cond) (below : Shape) → Shape
  Project : (columns : List ℕ) (below : Shape) → Shape
  Union : (one other : Shape) → Shape
  KeyJoin : (one other : Shape) → Shape
  Lookup : (col width : ℕ) (left right : Shape) → Shape

abbrev pub shape : Plan → Shape
shape plan.Empty = Empty
shape (plan.Fetch read) = Fetch read
shape (plan.Filter' conds place below) = Filter conds (shape below)
shape (plan.Project' columns place below) = Project columns (shape below)
shape (plan.Union' place one place_other other) = Union (shape one) (shape other)
shape (plan.KeyJoin' place one place_other other) = KeyJoin (shape one) (shape other)
shape (plan.Lookup' col width place left place_right right) = Lookup col width (shape left) (shape right)
