-- Conditions that were written, one by one.
use Rattle.std.proofs.Common.{◌≡◌, ℕ, suc, ◌<◌, List, [], ◌∷◌, ◌++◌, Some, None, option_and_then, map, take, length, leb, get_or, ap, ◌∙◌}
use Rattle.terms.specs.declared.cond.Cond.{Cond}
use Rattle.reader.specs.declared.scope.Found.{Found}
use Rattle.reader.specs.declared.tree.Condition as code_condition
use Rattle.reader.specs.Names.{all_of, cond_on, cond_of, conds_of}
use Rattle.reader.specs.Scope.{Scope, found_in}
use Rattle.reader.specs.Tree.{column_tree, condition_tree}
use Rattle.reader.specs.Tree as tree
use Rattle.reader.proofs.Chains.{limited}
use Rattle.reader.proofs.Each.{all_of_more, all_of_stop}

-- a condition on a column that was found
on_found : (scope : Scope) (condition : tree.Condition) (found : Found) → found_in scope condition.column ≡ Some found → cond_of scope condition ≡ cond_on found condition
on_found scope condition found is = ap (option_and_then (λ (f : Found). cond_on f condition)) is

-- a column that is not found
pub no_column : (scope : Scope) (conditions : List code_condition.Condition) (i : ℕ) (d : code_condition.Condition) → i < length conditions → found_in scope (column_tree (get_or conditions i d).column) ≡ None → conds_of scope (map condition_tree conditions) ≡ None
no_column scope conditions i d within none =
    limited (leb (length (map condition_tree conditions)) 8) _ (all_of_stop (cond_of scope) condition_tree conditions i d within (ap (option_and_then (λ (f : Found). cond_on f (condition_tree (get_or conditions i d)))) none))

-- a constant that doesn't fit the column
pub no_constant : (scope : Scope) (conditions : List code_condition.Condition) (i : ℕ) (d : code_condition.Condition) (found : Found) → i < length conditions → found_in scope (column_tree (get_or conditions i d).column) ≡ Some found → cond_on found (condition_tree (get_or conditions i d)) ≡ None → conds_of scope (map condition_tree conditions) ≡ None
no_constant scope conditions i d found within there none =
    limited (leb (length (map condition_tree conditions)) 8) _ (all_of_stop (cond_of scope) condition_tree conditions i d within (on_found scope (condition_tree (get_or conditions i d)) found there ∙ none))

-- one condition more
pub one_more : (scope : Scope) (conditions : List code_condition.Condition) (i : ℕ) (d : code_condition.Condition) (found : Found) (conds : List Cond) (cond : Cond) → i < length conditions → all_of (cond_of scope) (map condition_tree (take i conditions)) ≡ Some conds → found_in scope (column_tree (get_or conditions i d).column) ≡ Some found → cond_on found (condition_tree (get_or conditions i d)) ≡ Some cond → all_of (cond_of scope) (map condition_tree (take (suc i) conditions)) ≡ Some (conds ++ cond ∷ [])
one_more scope conditions i d found conds cond within so_far there is =
    all_of_more (cond_of scope) condition_tree conditions i d conds cond within so_far (on_found scope (condition_tree (get_or conditions i d)) found there ∙ is)
