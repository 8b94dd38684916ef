-- What a text is one of: conditions on columns.
use Rattle.std.specs.Prelude.{◌≡◌, ℕ, ◌≤◌, List, Some, length}
use Rattle.std.specs.List.{AllByRecursion}
use Rattle.terms.specs.declared.cond.Cond.{Cond}
use Rattle.terms.specs.Cond.{IsCondOf}
use Rattle.meaning.specs.declared.schema.Column.{Column}
use Rattle.reader.specs.Grammar.{WritesConditions}
use Rattle.reader.specs.Names.{conds_of}
use Rattle.reader.specs.Scope.{columns_alone, types}
use Rattle.reader.specs.Symbol.{Symbol}
use Rattle.reader.specs.Tokens.{AreTokens}
use Rattle.reader.specs.Tree as tree

-- The text is one of the conditions on these columns: at most 4,096 bytes, which are tokens, which write
-- conditions, whose names, types and limits fit.
pub record AreCondsOf (columns : List Column) (text : List ℕ) (conds : List Cond) : Type 0 where
  pub tokens : List Symbol
  pub written : List tree.Condition
  pub short : length text ≤ 4096
  pub spelled : AreTokens text tokens
  pub grammatical : WritesConditions tokens written
  pub meant : conds_of (columns_alone columns) written ≡ Some conds

-- a text is one of one list of conditions at most
abbrev pub OneListOfCondsOfText : Type 0
OneListOfCondsOfText = (columns : List Column) (text : List ℕ) (one other : List Cond) → AreCondsOf columns text one → AreCondsOf columns text other → one ≡ other

-- the conditions of a text fit its columns, and are eight at most
abbrev pub CondsOfTextFit : Type 0
CondsOfTextFit = (columns : List Column) (text : List ℕ) (conds : List Cond) → AreCondsOf columns text conds → AllByRecursion (IsCondOf (types columns)) conds × (length conds ≤ 8)
