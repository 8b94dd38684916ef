-- Rows: their keys, and which ones fit the columns.
use Rattle.std.specs.Prelude.{◌≡◌, ℤ, pos, List, [], ◌∷◌}
use Rattle.terms.specs.declared.value.Kind.{Kind}
use Rattle.terms.specs.declared.value.Value.{Value}
use Rattle.terms.specs.declared.value.Value.TheVariants.{Int, Text}
use Rattle.terms.specs.Value.{Fits, kind_of}

-- the key of a row: the integer in its first column
abbrev pub key_of : List Value → ℤ
key_of [] = pos 0
key_of (Int n ∷ values) = n
key_of (Text bytes ∷ values) = pos 0

-- a row fits columns of these types: it has a value for each, of its type, which a database holds
abbrev pub FitsKinds : List Kind → List Value → Type 0
FitsKinds [] [] = Unit {0}
FitsKinds [] (value ∷ values) = ⊥
FitsKinds (kind ∷ kinds) [] = ⊥
FitsKinds (kind ∷ kinds) (value ∷ values) = (kind_of value ≡ kind) × Fits value × FitsKinds kinds values
