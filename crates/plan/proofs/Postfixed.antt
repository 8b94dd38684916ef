-- The nodes of a plan leave it on top.
use Rattle.std.proofs.Common.{◌≡◌, refl, sym, ap, ◌∙◌, List, [], ◌∷◌, ◌++◌, append_assoc}
use Rattle.plan.specs.declared.postfix.Node.{Node}
use Rattle.plan.specs.declared.postfix.Node.TheVariants as node
use Rattle.plan.specs.Shape.{Shape, Empty, Fetch, Filter, Project, Union, KeyJoin, Lookup}
use Rattle.plan.specs.Postfix.{postfix, plan_of, stack_of, top}

-- one plan's nodes and a node that is made of it
after_one : (one : Shape) (last : Node) (rest : List Node) (stack : List Shape) → ((more : List Node) → stack_of (postfix one ++ more) stack ≡ stack_of more (one ∷ stack)) → stack_of ((postfix one ++ last ∷ []) ++ rest) stack ≡ stack_of (last ∷ rest) (one ∷ stack)
after_one one last rest stack puts = ap (λ nodes. stack_of nodes stack) (append_assoc (postfix one) (last ∷ []) rest) ∙ puts (last ∷ rest)

-- two plans' nodes and a node that is made of them
after_two : (one other : Shape) (last : Node) (rest : List Node) (stack : List Shape) → ((more : List Node) → stack_of (postfix one ++ more) stack ≡ stack_of more (one ∷ stack)) → ((more : List Node) → stack_of (postfix other ++ more) (one ∷ stack) ≡ stack_of more (other ∷ one ∷ stack)) →
    stack_of ((postfix one ++ (postfix other ++ last ∷ [])) ++ rest) stack ≡ stack_of (last ∷ rest) (other ∷ one ∷ stack)
after_two one other last rest stack puts puts_other =
    ap (λ nodes. stack_of nodes stack) (append_assoc (postfix one) (postfix other ++ last ∷ []) rest)
    ∙ puts ((postfix other ++ last ∷ []) ++ rest)
    ∙ ap (λ nodes. stack_of nodes (one ∷ stack)) (append_assoc (postfix other) (last ∷ []) rest)
    ∙ puts_other (last ∷ rest)

-- whatever follows them
pub puts_plan : (plan : Shape) (rest : List Node) (stack : List Shape) → stack_of (postfix plan ++ rest) stack ≡ stack_of rest (plan ∷ stack)
puts_plan Empty rest stack = refl
puts_plan (Fetch read) rest stack = refl
puts_plan (Filter conds below) rest stack = after_one below (node.Filter conds) rest stack (λ more. puts_plan below more stack)
puts_plan (Project columns below) rest stack = after_one below (node.Project columns) rest stack (λ more. puts_plan below more stack)
puts_plan (Union one other) rest stack = after_two one other node.Union rest stack (λ more. puts_plan one more stack) (λ more. puts_plan other more (one ∷ stack))
puts_plan (KeyJoin one other) rest stack = after_two one other node.KeyJoin rest stack (λ more. puts_plan one more stack) (λ more. puts_plan other more (one ∷ stack))
puts_plan (Lookup col width left right) rest stack = after_two left right (node.Lookup col width) rest stack (λ more. puts_plan left more stack) (λ more. puts_plan right more (left ∷ stack))

pub plan_is : (plan : Shape) → plan_of (postfix plan) ≡ plan
plan_is plan = ap (λ nodes. top (stack_of nodes [])) (sym (append_nil (postfix plan))) ∙ ap top (puts_plan plan [] [])
  where
    append_nil : (nodes : List Node) → nodes ++ [] ≡ nodes
    append_nil [] = refl
    append_nil (first ∷ nodes) = ap (λ rest. first ∷ rest) (append_nil nodes)
