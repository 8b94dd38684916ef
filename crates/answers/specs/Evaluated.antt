-- A reader may skip this: what each node of a plan makes of the tables below it.
use Rattle.std.specs.Prelude.{◌≡◌, ◌⊎◌, ◌&&◌, ◌==◌, ℕ, ◌+◌, ◌≤◌, ℤ, Bool, true, not, int_lt, if◌then◌else◌, List, [], ◌∷◌, ◌++◌, Option, Some, None, filter, length, map, option_map}
use Rattle.std.specs.List.{filter_map}
use Rattle.terms.specs.declared.cond.Cond.{Cond}
use Rattle.terms.specs.declared.leaf.Leaf.{Leaf}
use Rattle.terms.specs.declared.value.Value.{Value}
use Rattle.terms.specs.Row.{key_of}
use Rattle.meaning.specs.Selected.{partner}
use Rattle.catalog.specs.Counts.{has}
use Rattle.catalog.specs.Keyed.{row_at}
use Rattle.plan.specs.declared.fetch.Fetch as fetch
use Rattle.plan.specs.declared.postfix.Node.{Node}
use Rattle.plan.specs.Postfix.{plan_of, stack_of, top, under}
use Rattle.plan.specs.Rows.{is_seen, met, seen_meets, seen_part}
use Rattle.plan.specs.Shape.{Shape}
use Rattle.plan.specs.Uniform.{beside, columns_had, past}
use Rattle.answers.specs.Laid.{Table}
use Rattle.answers.specs.Joined.{rows_joined}
use Rattle.answers.specs.Merged.{merged_rows}
use Rattle.answers.specs.Table.{HasRows}

-- the values in those columns that pass a test
abbrev pub picked : (ℕ → Bool) → List ℕ → List Value → List Value
picked passes [] values = []
picked passes (col ∷ columns) [] = []
picked passes (col ∷ columns) (value ∷ values) = if passes col then value ∷ picked passes columns values else picked passes columns values

-- a row of columns, and behind it those values of another row whose columns are not among them
abbrev pub pair : List ℕ → List ℕ → List Value → List Value → List Value
pair columns others row other = row ++ picked (λ col. not (has columns col)) others other

-- the rows that meet conditions on columns
abbrev pub meeting : List Cond → List ℕ → List (List Value) → List (List Value)
meeting conds columns rows = filter (λ row. seen_meets conds (seen_part columns row)) rows

-- the rows that have one of the same key among the others, each put together with it
abbrev pub key_pairs : List ℕ → List ℕ → List (List Value) → List (List Value) → List (List Value)
key_pairs columns columns_other rows others = filter_map (λ row. option_map (pair columns columns_other row) (row_at (key_of row) others)) rows

-- the rows that have a partner among the others by the value in a column, each put together with it
abbrev pub partner_pairs : ℕ → List ℕ → List ℕ → List (List Value) → List (List Value) → List (List Value)
partner_pairs col columns columns_other rows others = filter_map (λ row. option_map (pair columns columns_other row) (partner others (seen_part columns row col))) rows

-- what each node makes of tables

abbrev pub filtered : List Cond → Table → Table
filtered conds table = record { columns = table.columns; rows = meeting conds table.columns table.rows }

abbrev pub cut : List ℕ → Table → Table
cut wanted table = record { columns = filter (is_seen wanted) table.columns; rows = map (picked (is_seen wanted) table.columns) table.rows }

abbrev pub table_read : fetch.Fetch → List (List Value) → Table
table_read read parts = record { columns = read.columns; rows = met read.conds parts }

abbrev pub united_with : List (List Value) → List (List Value) → Table → Table → Table
united_with [] others one other = other
united_with (row ∷ rows) [] one other = one
united_with (row ∷ rows) (first ∷ others) one other = record { columns = one.columns; rows = merged_rows one.rows other.rows }

abbrev pub united : Table → Table → Table
united one other = united_with one.rows other.rows one other

abbrev pub no_rows : Table
no_rows = record { columns = 0 ∷ []; rows = [] }

abbrev pub keyed : Table → Table → Table
keyed one other = record { columns = beside one.columns other.columns; rows = key_pairs one.columns other.columns one.rows other.rows }

abbrev pub partnered_with : List (List Value) → ℕ → ℕ → Table → Table → Table
partnered_with [] col width left right = record { columns = left.columns; rows = [] }
partnered_with (first ∷ others) col width left right =
    record { columns = beside left.columns (past width right.columns); rows = partner_pairs col left.columns (past width right.columns) left.rows right.rows }

abbrev pub partnered : ℕ → ℕ → Table → Table → Table
partnered col width left right = partnered_with right.rows col width left right

-- a table as the rows of a plan are made of it
pub record IsMade (plan : Shape) (contents : Leaf → List (List Value)) (table : Table) : Type 0 where
  pub has_rows : HasRows plan contents table
  pub had : (table.rows ≡ []) ⊎ (columns_had plan ≡ Some table.columns)

-- a key above the last one, if there is one
abbrev pub is_above : Option ℤ → ℤ → Bool
is_above None key = true
is_above (Some last) key = int_lt last key

-- parts of so many values, whose keys climb on from the last one
abbrev pub parts_climb : ℕ → Option ℤ → List (List Value) → Bool
parts_climb width last [] = true
parts_climb width last (part ∷ parts) = (length part == width) && (is_above last (key_of part) && parts_climb width (Some (key_of part)) parts)

-- a table is made in these steps of the plan that nodes leave on top, and the nodes before leave what lies under it
pub record IsOnTop (nodes before : List Node) (contents : Leaf → List (List Value)) (table : Table) (old new : ℕ) : Type 0 where
  pub made : IsMade (plan_of nodes) contents table
  pub steps : new ≤ old + rows_joined (plan_of nodes) contents
  pub stack : stack_of before [] ≡ under (stack_of nodes [])
  pub fewer : length before ≤ length nodes

-- so tables of the two plans on top, the upper one first
pub record AreOnTop (nodes before : List Node) (contents : Leaf → List (List Value)) (table others : Table) (old new : ℕ) : Type 0 where
  pub middle : List Node
  pub between : ℕ
  pub upper : IsOnTop nodes middle contents others old between
  pub lower : IsOnTop middle before contents table between new

-- something holds of both plans that nodes leave on top
abbrev pub AreAsked : (Shape → Type 0) → List Node → Type 0
AreAsked P nodes = P (plan_of nodes) × P (top (under (stack_of nodes [])))
