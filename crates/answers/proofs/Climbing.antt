-- Parts whose keys climb, each with a value for each column, are parts of the columns.
use Rattle.std.proofs.Common.{◌≡◌, ◌↔◌, ℕ, ℤ, ◌<ℤ◌, Bool, true, ◌&&◌, ◌==◌, int_lt, List, [], ◌∷◌, length, Option, Some, None, IsTrue, refl, sym, ◌∙◌, arith}
use Rattle.std.specs.List.{AllByRecursion}
use Rattle.std.proofs.lemmas.Bool.{eq-eqb, eqb-true}
use Rattle.std.proofs.lemmas.Int.{ints}
use Rattle.terms.specs.declared.value.Value.{Value}
use Rattle.terms.specs.Row.{key_of}
use Rattle.meaning.specs.Relation.{Ascends}
use Rattle.meaning.proofs.Rows.{below_all}
use Rattle.plan.proofs.CarriedConds.{and_true, both}
use Rattle.answers.specs.Evaluated.{is_above, parts_climb}
use Rattle.answers.specs.Table.{AreParts}

below : (a b : ℤ) → int_lt a b ≡ true → a <ℤ b
below a b h = grind (arith, ints)

is_below : (a b : ℤ) → a <ℤ b → int_lt a b ≡ true
is_below a b h = grind (arith, ints)

-- all keys are above the last one, if there is one
abbrev AreAbove : Option ℤ → List (List Value) → Type 0
AreAbove None parts = Unit {0}
AreAbove (Some last) parts = AllByRecursion (λ part. last <ℤ key_of part) parts

record Climb (width : ℕ) (last : Option ℤ) (parts : List (List Value)) : Type 0 where
  wide : AllByRecursion (λ part. length part ≡ width) parts
  order : Ascends parts
  above : AreAbove last parts

first_above : (last : Option ℤ) (part : List Value) (parts : List (List Value)) → is_above last (key_of part) ≡ true → AllByRecursion (λ later. key_of part <ℤ key_of later) parts → AreAbove last (part ∷ parts)
first_above None part parts h later = tt
first_above (Some last) part parts h later = let here = below last (key_of part) h in (here, below_all last part parts here later)

climb : (width : ℕ) (last : Option ℤ) (parts : List (List Value)) → parts_climb width last parts ≡ true → Climb width last parts
climb width None [] h = record { wide = tt; order = tt; above = tt }
climb width (Some last) [] h = record { wide = tt; order = tt; above = tt }
climb width last (part ∷ parts) h =
    let wide = both (length part == width) (is_above last (key_of part) && parts_climb width (Some (key_of part)) parts) h in
    let above = both (is_above last (key_of part)) (parts_climb width (Some (key_of part)) parts) wide.1 in
    let rest = climb width (Some (key_of part)) parts above.1 in
    record { wide = (eqb-true (length part) width wide.0, rest.wide); order = (rest.above, rest.order); above = first_above last part parts above.0 rest.above }

is_first_above : (last : Option ℤ) (part : List Value) (parts : List (List Value)) → AreAbove last (part ∷ parts) → is_above last (key_of part) ≡ true
is_first_above None part parts above = refl
is_first_above (Some last) part parts above = is_below last (key_of part) above.0

climbs : (width : ℕ) (last : Option ℤ) (parts : List (List Value)) → AllByRecursion (λ part. length part ≡ width) parts → Ascends parts → AreAbove last parts → parts_climb width last parts ≡ true
climbs width last [] wide order above = refl
climbs width last (part ∷ parts) wide order above =
    and_true (length part == width) (is_above last (key_of part) && parts_climb width (Some (key_of part)) parts) (eq-eqb (length part) width wide.0)
    (and_true (is_above last (key_of part)) (parts_climb width (Some (key_of part)) parts) (is_first_above last part parts above) (climbs width (Some (key_of part)) parts wide.1 order.1 order.0))

pub parts_are : (columns : List ℕ) (parts : List (List Value)) (result : Bool) → result ≡ parts_climb (length columns) None parts → IsTrue result ↔ AreParts columns parts
parts_are columns parts result is = (
  λ h. let found = climb (length columns) None parts (sym is ∙ h) in record { order = found.order; wide = found.wide },
  λ are. is ∙ climbs (length columns) None parts are.wide are.order tt,
)
