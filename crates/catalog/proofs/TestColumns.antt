-- One more column's test values.
use Rattle.std.proofs.Common.{◌≡◌, ◌+◌, ◌<◌, ℕ, suc, List, [], ◌∷◌, ◌++◌, length, length-take, take, get_or, sym, subst, arith}
use Rattle.std.proofs.lemmas.List.{take_more}
use Rattle.terms.specs.declared.cond.Cond.{Cond}
use Rattle.terms.specs.declared.value.Kind.{Kind}
use Rattle.terms.specs.declared.value.Value.{Value}
use Rattle.catalog.specs.Cells.{IsTestColumn, AreTestColumns}

here_is : (at col : ℕ) → at ≡ col + 0 → at ≡ col
here_is at col h = omega arith

pushed : (conds : List Cond) (col : ℕ) (kinds : List Kind) (lists : List (List Value)) (kind : Kind) (values : List Value) (at : ℕ) → at ≡ col + length kinds → AreTestColumns conds col kinds lists → IsTestColumn kind conds at values → AreTestColumns conds col (kinds ++ kind ∷ []) (lists ++ values ∷ [])
pushed conds col [] [] kind values at is columns here = (subst (λ (k : ℕ). IsTestColumn kind conds k values) (here_is at col is) here, tt)
pushed conds col [] (v ∷ lists) kind values at is columns here = absurd columns
pushed conds col (k ∷ kinds) [] kind values at is columns here = absurd columns
pushed conds col (k ∷ kinds) (v ∷ lists) kind values at is columns here = (columns.0, pushed conds (suc col) kinds lists kind values at (omega arith) columns.1 here)

pub one_column : (conds : List Cond) (kinds : List Kind) (lists more : List (List Value)) (col : ℕ) (d : Kind) (values : List Value) → col < length kinds → more ≡ lists ++ values ∷ [] → IsTestColumn (get_or kinds col d) conds col values → AreTestColumns conds 0 (take col kinds) lists → AreTestColumns conds 0 (take (col + 1) kinds) more
one_column conds kinds lists more col d values within more_is here so_far =
    let longer = pushed conds 0 (take col kinds) lists (get_or kinds col d) values col (omega (arith, length-take col kinds)) so_far here in
    subst (λ (both : List Kind × List (List Value)). AreTestColumns conds 0 both.0 both.1) (λ i. (sym (take_more kinds col d within) i, sym more_is i)) longer
