-- Columns that no condition is on.
use Rattle.std.proofs.Common.{◌≡◌, ◌==◌, ◌||◌, ◌&&◌, not, ℕ, Bool, true, List, [], ◌∷◌, refl, ap, ap₂, sym}
use Rattle.std.proofs.lemmas.Bool.{and_parts}
use Rattle.std.specs.List.{list_any}
use Rattle.terms.specs.declared.cond.Cond.{Cond}
use Rattle.terms.specs.declared.value.Value.{Value}
use Rattle.terms.specs.Cond.{compares}
use Rattle.terms.specs.TestValues.{column_holds}
use Rattle.plan.specs.Picked.{is_free}

-- any value meets the conditions on a column that none is on
pub free_holds : (conds : List Cond) (col : ℕ) (value : Value) → is_free conds col ≡ true → column_holds conds col value ≡ true
free_holds [] col value free = refl
free_holds (cond ∷ conds) col value free =
    let parts = and_parts (not (cond.col == col)) (is_free conds col) free in
    ap₂ (λ (here rest : Bool). (here || compares cond.cmp value cond.value) && rest) parts.0 (free_holds conds col value parts.1)

pub free_met : (conds : List Cond) (col : ℕ) (value : Value) (values : List Value) → is_free conds col ≡ true → true ≡ list_any (column_holds conds col) (value ∷ values)
free_met conds col value values free = sym (ap (λ (here : Bool). here || list_any (column_holds conds col) values) (free_holds conds col value free))
