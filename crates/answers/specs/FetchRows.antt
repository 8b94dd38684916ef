-- What a fetch of a leaf brought.
use Rattle.std.specs.Prelude.{List}
use Rattle.terms.specs.declared.leaf.Leaf.{Leaf}
use Rattle.terms.specs.declared.value.Value.{Value}

-- a leaf, and its parts
pub record FetchRows : Type 0 where
  pub leaf : Leaf
  pub parts : List (List Value)
