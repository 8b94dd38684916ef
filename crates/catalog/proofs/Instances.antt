-- The built-in split and the nested one are valid.
use Rattle.std.proofs.Common.{◌≡◌, suc, ◌==◌, ◌||◌, Bool, true, false, cond, pos, [], ◌∷◌, refl, arith}
use Rattle.std.proofs.lemmas.Bool.{eqb-true}
use Rattle.catalog.specs.Valid.{AreParts}
use Rattle.catalog.specs.Item.{item_kinds, ItemIsValid, ItemFragments}
use Rattle.catalog.specs.Emp.{emp_kinds, EmpIsValid, EmpFragments}
use Rattle.catalog.proofs.Halves.{halves_exact}

pub item_is_valid : ItemIsValid
item_is_valid = (halves_exact item_kinds [] 1 (pos 10) refl, (tt, (tt, tt)))

pub item_fragments : ItemFragments
item_fragments = refl

-- whether a column is in one group or in the other, where it is not in both
one_of : (a b c : Bool) → (a ≡ true → b ≡ true → ⊥) → (a ≡ true → c ≡ true → ⊥) →
    cond (a || false) (suc (cond (b || (c || false)) 1 0)) (cond (b || (c || false)) 1 0) ≡ cond (a || (b || (c || false))) 1 0
one_of true true c first second = absurd (first refl refl)
one_of true false true first second = absurd (second refl refl)
one_of true false false first second = refl
one_of false b c first second = refl

emp_parts : AreParts (1 ∷ 2 ∷ 3 ∷ []) ((1 ∷ []) ∷ (2 ∷ 3 ∷ []) ∷ [])
emp_parts = record {
  some = λ none. cc;
  each_once = λ col. one_of (1 == col) (2 == col) (3 == col)
      (λ one two. absurd (omega (arith, eqb-true 1 col one, eqb-true 2 col two)))
      (λ one three. absurd (omega (arith, eqb-true 1 col one, eqb-true 3 col three)));
}

pub emp_is_valid : EmpIsValid
emp_is_valid = (emp_parts, (tt, ((halves_exact emp_kinds [] 2 (pos 10) refl, (tt, (tt, tt))), tt)))

pub emp_fragments : EmpFragments
emp_fragments = refl
