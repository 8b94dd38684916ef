-- The grammar of the command line: which commands there are, and what each may be given.
use Rattle.std.specs.Prelude.{◌≡◌, true, false, [], Some, codes}
use Rattle.clap.specs.Words.{App, Rule, Text, new_app, new_rule, with_rule, with_subcommand}
use Rattle.clap.specs.Simple.{app_of, new_shape}
use Rattle.clap.specs.Walk.{rule_of}
use Rattle.clap.specs.declared.builder.arg.Arg.{Arg}
use Rattle.clap.specs.declared.builder.command.Command.{Command}
use Rattle.clap.specs.declared.builder.command.Command.TheViews.{out-Command}
use Rattle.clap.specs.declared.builder.action.ArgAction.TheVariants.{Append, SetTrue}

-- an argument that must be given
abbrev pub argument : Text → Rule
argument name = record (new_rule name) { required = true }

-- a command with one such argument
abbrev pub command_with : Text → Text → App
command_with name argument_name = with_rule (new_app name) (argument argument_name)

-- a command with two such arguments
abbrev pub command_with_two : Text → Text → Text → App
command_with_two name first second = with_rule (command_with name first) (argument second)

-- an argument that may be given behind this word
abbrev pub option_argument : Text → Text → Rule
option_argument name word = record (new_rule name) { long = Some word }

-- an argument that may be given behind this word, once or many times
abbrev pub repeated_argument : Text → Text → Rule
repeated_argument name word = record (option_argument name word) { action = Some Append }

-- a command `NAME [--catalog FILE] SCRIPT`
abbrev pub of_script : Text → App
of_script name = with_rule (with_rule (new_app name) (option_argument (codes "CATALOG") (codes "catalog"))) (argument (codes "SCRIPT"))

-- a command `NAME [--catalog FILE] [SCRIPT]`
abbrev pub of_any_script : Text → App
of_any_script name = with_rule (with_rule (new_app name) (option_argument (codes "CATALOG") (codes "catalog"))) (new_rule (codes "SCRIPT"))

-- a command `NAME [--catalog FILE] [RELATION]`
abbrev pub of_relation : Text → App
of_relation name = with_rule (with_rule (new_app name) (option_argument (codes "CATALOG") (codes "catalog"))) (new_rule (codes "RELATION"))

-- an argument that must be given behind this word
abbrev pub wanted_argument : Text → Text → Rule
wanted_argument name word = record (option_argument name word) { required = true }

-- the command `suggest FILE --key KEY --rows COLUMN [--sites SITES] [--name NAME]`
abbrev pub suggesting : App
suggesting =
    with_rule (with_rule (with_rule (with_rule (command_with (codes "suggest") (codes "FILE")) (wanted_argument (codes "KEY") (codes "key"))) (wanted_argument (codes "COLUMN") (codes "rows"))) (option_argument (codes "SITES") (codes "sites")))
    (option_argument (codes "NAME") (codes "name"))

-- a command `NAME [--catalog FILE] RELATION FILE`
abbrev pub of_file : Text → App
of_file name = with_rule (with_rule (with_rule (new_app name) (option_argument (codes "CATALOG") (codes "catalog"))) (argument (codes "RELATION"))) (argument (codes "FILE"))

-- the command with an option that says how many rows a transaction has
abbrev pub counted : App → App
counted app = with_rule app (option_argument (codes "ROWS") (codes "every"))

-- a flag, which is known by a word
abbrev pub flag : Text → Text → Rule
flag name word = record (option_argument name word) { action = Some SetTrue }

-- the command with a flag that asks for explanations
abbrev pub explained : App → App
explained app = with_rule app (flag (codes "EXPLAIN") (codes "explain"))

-- the command with a flag that asks for a tree
abbrev pub treed : App → App
treed app = with_rule app (flag (codes "TREE") (codes "tree"))

-- the command with flags that say how answers are shown: in columns, or in another way
abbrev pub columned : App → App
columned app = with_rule app (flag (codes "COLUMNS") (codes "columns"))

abbrev pub shown : App → App
shown app = with_rule (with_rule (columned app) (flag (codes "CSV") (codes "csv"))) (flag (codes "JSON") (codes "json"))

-- the command with a flag that asks for a session
abbrev pub held : App → App
held app = with_rule app (flag (codes "INTERACTIVE") (codes "interactive"))

-- the command with a flag that asks for stores in SQLite, and with a folder for them
abbrev pub in_sqlite : App → App
in_sqlite app = with_rule app (flag (codes "SQLITE") (codes "sqlite"))

abbrev pub in_folder : App → App
in_folder app = with_rule app (option_argument (codes "DIR") (codes "dir"))

abbrev pub stored : App → App
stored app = in_folder (in_sqlite app)

-- the command with an option that says how often a statement is run again
abbrev pub retried : App → App
retried app = with_rule app (option_argument (codes "N") (codes "retry"))

-- the command with an option that names the catalogues after the first
abbrev pub chained : App → App
chained app = with_rule app (repeated_argument (codes "NEXT") (codes "next"))

-- the command line's grammar: `fragdb solo`, `fragdb check CATALOG`, both with flags, `fragdb plan CATALOG STATEMENT`, `fragdb play`, `fragdb run`, `fragdb dump`, `fragdb import` and `fragdb suggest`
abbrev pub program : App
program = record {
  top = record (new_shape (codes "fragdb")) { has_version = true; subcommand_required = true };
  subs = [];
}

abbrev pub usage : App
usage =
    with_subcommand (with_subcommand (with_subcommand (with_subcommand (with_subcommand (with_subcommand (with_subcommand (with_subcommand program (chained (stored (shown (held (explained (of_any_script (codes "solo"))))))).top) (treed (explained (command_with (codes "check") (codes "CATALOG")))).top)
    (treed (command_with_two (codes "plan") (codes "CATALOG") (codes "STATEMENT"))).top) (chained (in_sqlite (of_script (codes "play")))).top) (chained (retried (stored (of_script (codes "run"))))).top) (shown (in_folder (of_relation (codes "dump")))).top) (counted (in_folder (of_file (codes "import")))).top) suggesting.top

-- an argument of this rule, of its own command alone
pub record IsRule (rule : Rule) (arg : Arg) : Type 0 where
  pub is : rule_of arg ≡ rule
  pub own : arg.global ≡ false

-- a command of this grammar, each argument of which is its own
pub record IsCommand (app : App) (command : Command) : Type 0 where
  pub is : app_of command ≡ app
  pub own : (out-Command command).has_globals ≡ false
