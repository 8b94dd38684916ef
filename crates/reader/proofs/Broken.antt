-- One item of a list that breaks a rule.
use Rattle.std.proofs.Common.{ℕ, zero, suc, ◌<◌, List, [], ◌∷◌, map, length, get_or, inl, inr, arith}
use Rattle.terms.specs.declared.value.Kind.{Kind}
use Rattle.reader.specs.declared.fault.Rule.{Rule}
use Rattle.reader.specs.Breaks.{SomeOf, ConstantBreaks, ValuesBreak}
use Rattle.reader.specs.Tree.{Constant}

-- what is said of one item is said of some
pub some_of : {A B : Type 0} (says : B → Type 0) (view : A → B) (items : List A) (i : ℕ) (d : A) → i < length items → says (view (get_or items i d)) → SomeOf says (map view items)
some_of says view [] i d within said = absurd (omega arith)
some_of says view (item ∷ items) zero d within said = inl said
some_of says view (item ∷ items) (suc i) d within said = inr (some_of says view items i d (omega arith) said)

-- a constant that doesn't fit its column
pub some_value : {A B : Type 0} (rule : Rule) (kind : A → Kind) (view : B → Constant) (columns : List A) (constants : List B) (i : ℕ) (c : A) (d : B) → i < length columns → i < length constants → ConstantBreaks rule (kind (get_or columns i c)) (view (get_or constants i d)) → ValuesBreak rule (map kind columns) (map view constants)
some_value rule kind view [] constants i c d within within' broken = absurd (omega arith)
some_value rule kind view (column ∷ columns) [] i c d within within' broken = absurd (omega arith)
some_value rule kind view (column ∷ columns) (constant ∷ constants) zero c d within within' broken = inl broken
some_value rule kind view (column ∷ columns) (constant ∷ constants) (suc i) c d within within' broken =
    inr (some_value rule kind view columns constants i c d (omega arith) (omega arith) broken)
