-- The table of the plan that nodes leave on top, by the tables of the plans that it is made of.
use Rattle.std.proofs.Common.{◌≡◌, ◌⊎◌, inl, inr, ℕ, Option, Some, None, ◌+◌, ◌≤◌, List, [], ◌∷◌, ◌++◌, length, refl, ap, sym, ◌∙◌, subst, arith}
use Rattle.terms.specs.declared.cond.Cond.{Cond}
use Rattle.terms.specs.declared.leaf.Leaf.{Leaf}
use Rattle.terms.specs.declared.value.Value.{Value}
use Rattle.plan.specs.declared.fetch.Fetch as fetch
use Rattle.plan.specs.declared.postfix.Node.{Node}
use Rattle.plan.specs.declared.postfix.Node.TheVariants as node
use Rattle.plan.specs.Postfix.{after, plan_of, stack_of, top, under}
use Rattle.plan.specs.Shape.{Shape, Empty, Fetch, Filter, Project, Union, KeyJoin, Lookup}
use Rattle.plan.specs.Uniform.{Agree, IsUniform, columns_had}
use Rattle.answers.specs.Laid.{Table}
use Rattle.answers.specs.Evaluated.{IsMade, IsOnTop, cut, filtered, keyed, no_rows, partnered, table_read, united}
use Rattle.answers.specs.Joined.{row_count, rows_joined}
use Rattle.answers.proofs.Counted.{AreGiven, counted}
use Rattle.answers.proofs.Made.{cut_made, fetch_made, filter_made, key_join_made, lookup_made, union_made}

-- the stack after one node more
stack_behind : (nodes : List Node) (last : Node) (stack : List Shape) → stack_of (nodes ++ last ∷ []) stack ≡ after last (stack_of nodes stack)
stack_behind [] last stack = refl
stack_behind (first ∷ nodes) last stack = stack_behind nodes last (after first stack)

stack_is : (nodes below : List Node) (last : Node) → nodes ≡ below ++ last ∷ [] → stack_of nodes [] ≡ after last (stack_of below [])
stack_is nodes below last is = ap (λ (all : List Node). stack_of all []) is ∙ stack_behind below last []

-- what holds of the plan on top holds of the node's plan
pub last_asked : (P : Shape → Type 0) (nodes below : List Node) (last : Node) → nodes ≡ below ++ last ∷ [] → P (plan_of nodes) → P (top (after last (stack_of below [])))
last_asked P nodes below last is holds = subst P (ap top (stack_is nodes below last is)) holds

-- and what holds of the plan under it, of the one that the nodes before leave on top
pub under_asked : (P : Shape → Type 0) (below before : List Node) → stack_of before [] ≡ under (stack_of below []) → P (top (under (stack_of below []))) → P (plan_of before)
under_asked P below before is holds = subst P (ap top (sym is)) holds

-- a table of a plan is one of nodes that leave it on top
on_top : (nodes before : List Node) (plan : Shape) (stack : List Shape) (contents : Leaf → List (List Value)) (table made : Table) (old new : ℕ) → stack_of nodes [] ≡ plan ∷ stack → table ≡ made → IsMade plan contents made → new ≤ old + rows_joined plan contents →
    stack_of before [] ≡ stack → length before ≤ length nodes → IsOnTop nodes before contents table old new
on_top nodes before plan stack contents table made old new stack_is is holds within before_is fewer =
    let same : plan ≡ plan_of nodes = sym (ap top stack_is) in
    let P : Shape → Type 0 = λ p. IsMade p contents table in
    let Q : Table → Type 0 = IsMade plan contents in
    let R : Shape → Type 0 = λ p. new ≤ old + rows_joined p contents in
    record { made = subst P same (subst Q (sym is) holds); steps = subst R same within; stack = before_is ∙ sym (ap under stack_is); fewer = fewer }

no_rows_made : (contents : Leaf → List (List Value)) → IsMade Empty contents no_rows
no_rows_made contents = record { has_rows = record { key = refl; once = (refl, tt); wide = tt; order = tt; seen = λ key. refl }; had = inl refl }

pub none_on_top : (nodes : List Node) (contents : Leaf → List (List Value)) (table : Table) (steps : ℕ) → nodes ≡ [] → table ≡ no_rows → IsOnTop nodes nodes contents table steps steps
none_on_top [] contents table steps none is =
    let P : Table → Type 0 = IsMade Empty contents in
    record { made = subst P (sym is) (no_rows_made contents); steps = omega arith; stack = refl; fewer = omega arith }
none_on_top (first ∷ nodes) contents table steps none is = absurd (cc)

pub empty_on_top : (nodes below : List Node) (contents : Leaf → List (List Value)) (table : Table) (steps : ℕ) → nodes ≡ below ++ node.Empty ∷ [] → length below + 1 ≡ length nodes → table ≡ no_rows → IsOnTop nodes below contents table steps steps
empty_on_top nodes below contents table steps split long is =
    on_top nodes below Empty (stack_of below []) contents table no_rows steps steps (stack_is nodes below node.Empty split) is (no_rows_made contents) (omega arith) refl (omega (arith, long))

pub fetch_on_top : (nodes below : List Node) (read : fetch.Fetch) (contents : Leaf → List (List Value)) (table : Table) (steps : ℕ) → nodes ≡ below ++ node.Fetch read ∷ [] → length below + 1 ≡ length nodes → IsUniform (plan_of nodes) → AreGiven contents (plan_of nodes) →
    table ≡ table_read read (contents read.leaf) → IsOnTop nodes below contents table steps steps
fetch_on_top nodes below read contents table steps split long uniform given is =
    on_top nodes below (Fetch read) (stack_of below []) contents table (table_read read (contents read.leaf)) steps steps (stack_is nodes below (node.Fetch read) split) is
    (fetch_made read contents (last_asked IsUniform nodes below (node.Fetch read) split uniform) (last_asked (AreGiven contents) nodes below (node.Fetch read) split given)) (omega arith) refl (omega (arith, long))

-- nodes of which one plan is the one below

pub filter_on_top : (nodes below before : List Node) (conds : List Cond) (contents : Leaf → List (List Value)) (table made : Table) (old new : ℕ) → nodes ≡ below ++ node.Filter conds ∷ [] → length below + 1 ≡ length nodes → IsOnTop below before contents table old new → made ≡ filtered conds table →
    IsOnTop nodes before contents made old new
filter_on_top nodes below before conds contents table made old new split long on is =
    on_top nodes before (Filter conds (plan_of below)) (under (stack_of below [])) contents made (filtered conds table) old new (stack_is nodes below (node.Filter conds) split) is (filter_made conds (plan_of below) contents table on.made) on.steps on.stack (omega (arith, long, on.fewer))

pub project_on_top : (nodes below before : List Node) (columns : List ℕ) (contents : Leaf → List (List Value)) (table made : Table) (old new : ℕ) → nodes ≡ below ++ node.Project columns ∷ [] → length below + 1 ≡ length nodes → IsOnTop below before contents table old new → made ≡ cut columns table →
    IsOnTop nodes before contents made old new
project_on_top nodes below before columns contents table made old new split long on is =
    on_top nodes before (Project columns (plan_of below)) (under (stack_of below [])) contents made (cut columns table) old new (stack_is nodes below (node.Project columns) split) is (cut_made columns (plan_of below) contents table on.made) on.steps on.stack (omega (arith, long, on.fewer))

-- nodes of two plans: the one on top is made first, and then, of the nodes before, the one under it

-- the stack of the nodes, by what lies under the plan on top
two_is : (f : Shape → Shape → Shape) (below middle : List Node) → stack_of middle [] ≡ under (stack_of below []) → (f (top (under (stack_of below []))) (plan_of below) ∷ under (under (stack_of below []))) ≡ (f (plan_of middle) (plan_of below) ∷ under (stack_of middle []))
two_is f below middle is = ap (λ (stack : List Shape). f (top stack) (plan_of below) ∷ under stack) (sym is)

two_counted : (old between after new sum sum_other rows others count count_other : ℕ) → between ≤ old + sum_other → after ≤ between + sum → new ≤ after + (rows + others) → rows ≡ count → others ≡ count_other → new ≤ old + (sum + sum_other + (count + count_other))
two_counted old between after new sum sum_other rows others count count_other first second most is is_other = omega (arith, first, second, most, is, is_other)

-- a plan of two, and its steps
two_on_top : (f : Shape → Shape → Shape) (nodes below middle before : List Node) (contents : Leaf → List (List Value)) (table others made all : Table) (old between after new : ℕ) → stack_of nodes [] ≡ f (top (under (stack_of below []))) (plan_of below) ∷ under (under (stack_of below [])) →
    length below + 1 ≡ length nodes → AreGiven contents (plan_of middle) → AreGiven contents (plan_of below) →
    rows_joined (f (plan_of middle) (plan_of below)) contents ≡ rows_joined (plan_of middle) contents + rows_joined (plan_of below) contents + (row_count (plan_of middle) contents + row_count (plan_of below) contents) →
    IsOnTop below middle contents others old between → IsOnTop middle before contents table between after → made ≡ all → new ≤ after + (length table.rows + length others.rows) → IsMade (f (plan_of middle) (plan_of below)) contents all → IsOnTop nodes before contents made old new
two_on_top f nodes below middle before contents table others made all old between after new stack long given given_other joined on_other on is most holds =
    let steps : new ≤ old + (rows_joined (plan_of middle) contents + rows_joined (plan_of below) contents + (row_count (plan_of middle) contents + row_count (plan_of below) contents)) =
    two_counted old between after new (rows_joined (plan_of middle) contents) (rows_joined (plan_of below) contents) (length table.rows) (length others.rows) (row_count (plan_of middle) contents) (row_count (plan_of below) contents) on_other.steps on.steps most
    (counted (plan_of middle) contents table given on.made.has_rows) (counted (plan_of below) contents others given_other on_other.made.has_rows) in
    on_top nodes before (f (plan_of middle) (plan_of below)) (under (stack_of middle [])) contents made all old new (stack ∙ two_is f below middle on_other.stack) is holds (omega (arith, steps, joined)) on.stack (omega (arith, long, on.fewer, on_other.fewer))

-- what is asked of both plans of a node
pub both_asked : (f : Shape → Shape → Shape) (P : Shape → Type 0) (nodes below middle : List Node) → stack_of nodes [] ≡ f (top (under (stack_of below []))) (plan_of below) ∷ under (under (stack_of below [])) → stack_of middle [] ≡ under (stack_of below []) → P (plan_of nodes) → P (f (plan_of middle) (plan_of below))
both_asked f P nodes below middle stack is holds = subst P (ap top (stack ∙ two_is f below middle is)) holds

pub union_on_top : (nodes below middle before : List Node) (contents : Leaf → List (List Value)) (table others made : Table) (old between after new : ℕ) → nodes ≡ below ++ node.Union ∷ [] → length below + 1 ≡ length nodes → IsUniform (plan_of nodes) → AreGiven contents (plan_of nodes) →
    IsOnTop below middle contents others old between → IsOnTop middle before contents table between after → made ≡ united table others → new ≤ after + (length table.rows + length others.rows) → IsOnTop nodes before contents made old new
union_on_top nodes below middle before contents table others made old between after new split long uniform given on_other on is most =
    let stack = stack_is nodes below node.Union split in
    let given_both : AreGiven contents (Union (plan_of middle) (plan_of below)) = both_asked Union (AreGiven contents) nodes below middle stack on_other.stack given in
    let uniform_both : IsUniform (Union (plan_of middle) (plan_of below)) = both_asked Union IsUniform nodes below middle stack on_other.stack uniform in
    two_on_top Union nodes below middle before contents table others made (united table others) old between after new stack long given_both.0 given_both.1 refl on_other on is most (union_made (plan_of middle) (plan_of below) contents table others on.made on_other.made uniform_both.2)

pub key_join_on_top : (nodes below middle before : List Node) (contents : Leaf → List (List Value)) (table others made : Table) (old between after new : ℕ) → nodes ≡ below ++ node.KeyJoin ∷ [] → length below + 1 ≡ length nodes → AreGiven contents (plan_of nodes) →
    IsOnTop below middle contents others old between → IsOnTop middle before contents table between after → made ≡ keyed table others → new ≤ after + (length table.rows + length others.rows) → IsOnTop nodes before contents made old new
key_join_on_top nodes below middle before contents table others made old between after new split long given on_other on is most =
    let stack = stack_is nodes below node.KeyJoin split in
    let given_both : AreGiven contents (KeyJoin (plan_of middle) (plan_of below)) = both_asked KeyJoin (AreGiven contents) nodes below middle stack on_other.stack given in
    two_on_top KeyJoin nodes below middle before contents table others made (keyed table others) old between after new stack long given_both.0 given_both.1 refl on_other on is most (key_join_made (plan_of middle) (plan_of below) contents table others on.made on_other.made)

pub look_up_on_top : (nodes below middle before : List Node) (col width : ℕ) (contents : Leaf → List (List Value)) (table others made : Table) (old between after new : ℕ) → nodes ≡ below ++ node.Lookup col width ∷ [] → length below + 1 ≡ length nodes → AreGiven contents (plan_of nodes) →
    IsOnTop below middle contents others old between → IsOnTop middle before contents table between after → made ≡ partnered col width table others → new ≤ after + (length table.rows + length others.rows) → IsOnTop nodes before contents made old new
look_up_on_top nodes below middle before col width contents table others made old between after new split long given on_other on is most =
    let stack = stack_is nodes below (node.Lookup col width) split in
    let given_both : AreGiven contents (Lookup col width (plan_of middle) (plan_of below)) = both_asked (Lookup col width) (AreGiven contents) nodes below middle stack on_other.stack given in
    two_on_top (Lookup col width) nodes below middle before contents table others made (partnered col width table others) old between after new stack long given_both.0 given_both.1 refl on_other on is most
    (lookup_made col width (plan_of middle) (plan_of below) contents table others on.made on_other.made)

-- both sides of a union have one list of columns, unless one of them has no row
agree_columns : (one other : Option (List ℕ)) (table others : Table) → Agree one other → (table.rows ≡ []) ⊎ (one ≡ Some table.columns) → (others.rows ≡ []) ⊎ (other ≡ Some others.columns) → (table.rows ≡ []) ⊎ ((others.rows ≡ []) ⊎ (table.columns ≡ others.columns))
agree_columns one other table others agree (inl none) had_other = inl none
agree_columns one other table others agree (inr had) (inl none) = inr (inl none)
agree_columns None other table others agree (inr had) (inr had_other) = absurd (cc)
agree_columns (Some columns) None table others agree (inr had) (inr had_other) = absurd (cc)
agree_columns (Some columns) (Some columns_other) table others agree (inr had) (inr had_other) =
    let first : columns ≡ table.columns = cc in
    let second : columns_other ≡ others.columns = cc in
    inr (inr (sym first ∙ agree ∙ second))

pub union_columns : (nodes below middle : List Node) (table others : Table) → nodes ≡ below ++ node.Union ∷ [] → IsUniform (plan_of nodes) → stack_of middle [] ≡ under (stack_of below []) → (table.rows ≡ []) ⊎ (columns_had (plan_of middle) ≡ Some table.columns) →
    (others.rows ≡ []) ⊎ (columns_had (plan_of below) ≡ Some others.columns) → (table.rows ≡ []) ⊎ ((others.rows ≡ []) ⊎ (table.columns ≡ others.columns))
union_columns nodes below middle table others split uniform stack had had_other =
    let both : IsUniform (Union (plan_of middle) (plan_of below)) = both_asked Union IsUniform nodes below middle (stack_is nodes below node.Union split) stack uniform in
    agree_columns (columns_had (plan_of middle)) (columns_had (plan_of below)) table others both.2 had had_other
