-- What a text is one of: a command under a schema.
use Rattle.std.specs.Prelude.{◌≡◌, ℕ, ◌≤◌, List, Some, length}
use Rattle.meaning.specs.declared.schema.RelationSchema.{RelationSchema}
use Rattle.meaning.specs.Statement.{IsStatementOf}
use Rattle.reader.specs.declared.command.Command.{Command}
use Rattle.reader.specs.declared.command.Command.TheVariants.{Run, Begin, Commit, Rollback}
use Rattle.reader.specs.Grammar.{Writes}
use Rattle.reader.specs.Names.{command_of}
use Rattle.reader.specs.Symbol.{Symbol}
use Rattle.reader.specs.Tokens.{AreTokens}
use Rattle.reader.specs.Tree as tree

-- The text is one of the command under the schema: at most 4,096 bytes, which are tokens, which write a
-- command, whose names, types and limits fit.
pub record IsTextOf (schema : List RelationSchema) (text : List ℕ) (command : Command) : Type 0 where
  pub tokens : List Symbol
  pub written : tree.Written
  pub short : length text ≤ 4096
  pub spelled : AreTokens text tokens
  pub grammatical : Writes tokens written
  pub meant : command_of schema written ≡ Some command

-- a command of the schema: its statement is one, if it runs one
abbrev pub IsCommandOf : List RelationSchema → Command → Type 0
IsCommandOf schema (Run statement) = IsStatementOf schema statement
IsCommandOf schema Begin = Unit {0}
IsCommandOf schema Commit = Unit {0}
IsCommandOf schema Rollback = Unit {0}

-- a text is one of one command at most
abbrev pub OneCommandOfText : Type 0
OneCommandOfText = (schema : List RelationSchema) (text : List ℕ) (one other : Command) → IsTextOf schema text one → IsTextOf schema text other → one ≡ other
