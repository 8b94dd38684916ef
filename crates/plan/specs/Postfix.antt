-- Plans as lists of their nodes, each behind those that it is made of.
use Rattle.std.specs.Prelude.{List, [], ◌∷◌, ◌++◌}
use Rattle.plan.specs.declared.postfix.Node.{Node}
use Rattle.plan.specs.declared.postfix.Node.TheVariants as node
use Rattle.plan.specs.Shape.{Shape, Empty, Fetch, Filter, Project, Union, KeyJoin, Lookup}

-- the nodes of a plan
abbrev pub postfix : Shape → List Node
postfix Empty = node.Empty ∷ []
postfix (Fetch read) = node.Fetch read ∷ []
postfix (Filter conds below) = postfix below ++ node.Filter conds ∷ []
postfix (Project columns below) = postfix below ++ node.Project columns ∷ []
postfix (Union one other) = postfix one ++ (postfix other ++ node.Union ∷ [])
postfix (KeyJoin one other) = postfix one ++ (postfix other ++ node.KeyJoin ∷ [])
postfix (Lookup col width left right) = postfix left ++ (postfix right ++ node.Lookup col width ∷ [])

-- the plan on top of a stack, and what lies under it; an empty stack has a plan without rows on top
abbrev pub top : List Shape → Shape
top [] = Empty
top (plan ∷ stack) = plan

abbrev pub under : List Shape → List Shape
under [] = []
under (plan ∷ stack) = stack

-- a node takes the plans that it is made of from the top of a stack, and puts its own there
abbrev pub after : Node → List Shape → List Shape
after node.Empty stack = Empty ∷ stack
after (node.Fetch read) stack = Fetch read ∷ stack
after (node.Filter conds) stack = Filter conds (top stack) ∷ under stack
after (node.Project columns) stack = Project columns (top stack) ∷ under stack
after node.Union stack = Union (top (under stack)) (top stack) ∷ under (under stack)
after node.KeyJoin stack = KeyJoin (top (under stack)) (top stack) ∷ under (under stack)
after (node.Lookup col width) stack = Lookup col width (top (under stack)) (top stack) ∷ under (under stack)

-- the stack after nodes, one after the other
abbrev pub stack_of : List Node → List Shape → List Shape
stack_of [] stack = stack
stack_of (next ∷ nodes) stack = stack_of nodes (after next stack)

-- the plan that nodes leave on top
abbrev pub plan_of : List Node → Shape
plan_of nodes = top (stack_of nodes [])
