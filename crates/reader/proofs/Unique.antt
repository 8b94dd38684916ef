-- A text has one meaning at most.
use Rattle.std.proofs.Common.{◌≡◌, ℕ, List, None, ap, subst}
use Rattle.meaning.specs.declared.schema.RelationSchema.{RelationSchema}
use Rattle.reader.specs.declared.command.Command.{Command}
use Rattle.reader.specs.Command.{IsTextOf, OneCommandOfText}
use Rattle.reader.specs.Grammar.{Writes}
use Rattle.reader.specs.Names.{command_of}
use Rattle.reader.specs.Symbol.{Symbol}
use Rattle.reader.specs.Tokens.{AreTokens}
use Rattle.reader.specs.Tree as tree
use Rattle.reader.proofs.Commands as grammar
use Rattle.reader.proofs.Loop.{one_list}

-- the tree that a text's tokens write
tree_of_tokens : (schema : List RelationSchema) (text : List ℕ) (tokens : List Symbol) (command : Command) → AreTokens text tokens → (is : IsTextOf schema text command) → Writes tokens is.written
tree_of_tokens schema text tokens command spelled is =
    let P : List Symbol → Type 0 = λ symbols. Writes symbols is.written in
    subst P (one_list text is.tokens tokens is.spelled spelled) is.grammatical

-- a text is one of one command at most
pub unique : OneCommandOfText
unique schema text one other a b =
    let same : a.written ≡ b.written = grammar.one_command b.tokens a.written b.written (tree_of_tokens schema text b.tokens one b.spelled a) b.grammatical in
    let meant : command_of schema a.written ≡ command_of schema b.written = ap (command_of schema) same in
    cc (a.meant, b.meant, meant)

-- tokens that write nothing
pub no_grammar : (schema : List RelationSchema) (text : List ℕ) (tokens : List Symbol) → AreTokens text tokens → ((written : tree.Written) → ¬ (Writes tokens written)) → (command : Command) → ¬ (IsTextOf schema text command)
no_grammar schema text tokens spelled nothing command is = nothing is.written (tree_of_tokens schema text tokens command spelled is)

-- names that mean nothing
pub no_names : (schema : List RelationSchema) (text : List ℕ) (tokens : List Symbol) (written : tree.Written) → AreTokens text tokens → Writes tokens written → command_of schema written ≡ None → (command : Command) → ¬ (IsTextOf schema text command)
no_names schema text tokens written spelled grammatical none command is =
    let same : is.written ≡ written = grammar.one_command tokens is.written written (tree_of_tokens schema text tokens command spelled is) grammatical in
    cc (is.meant, none, ap (command_of schema) same)
