-- All rows of a file.
use Rattle.std.specs.Prelude.{◌≡◌, ℕ, List, [], ◌∷◌, Option, Some, None}
use Rattle.terms.specs.declared.value.Value.{Value}
use Rattle.meaning.specs.declared.schema.Column.{Column}
use Rattle.exchange.specs.declared.incoming.Incoming.{Incoming}
use Rattle.exchange.specs.Incoming.{GivesNext, KeepsColumns, Opens}

-- reads one after another give these rows
abbrev pub Brings : {R : Type 0} → (R → Option (List ℕ)) → List (List Value) → Incoming R → Incoming R → Type 0
Brings {R} rem [] first last = last ≡ first
Brings {R} rem (row ∷ rows) first last = (next : Incoming R) × GivesNext rem first next (Some row) × KeepsColumns first next × Brings rem rows next last

-- and then there are no more
pub record BringsAll {R : Type 0} (rem : R → Option (List ℕ)) (rows : List (List Value)) (first : Incoming R) : Type 0 where
  pub last : Incoming R
  pub brings : Brings rem rows first last
  pub end : Incoming R
  pub ends : GivesNext rem last end None

-- the rows of a file: all that its lines give behind the first one
pub record HasRows {R : Type 0} (rem : R → Option (List ℕ)) (columns : List Column) (input : R) (rows : List (List Value)) : Type 0 where
  pub opened : Incoming R
  pub names : List (List ℕ)
  pub opens : Opens rem columns input opened names
  pub brings : BringsAll rem rows opened
