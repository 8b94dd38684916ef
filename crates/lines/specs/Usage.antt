-- What the words of the command line ask for.
use Rattle.std.specs.Prelude.{◌≡◌, ◌⊎◌, ℕ, Bool, true, false, is_none, List, [], ◌∷◌, Option, Some, None, bytes_eq, codes, if◌then◌else◌, nat_le, option_map, ◌&&◌}
use Rattle.std.specs.Option.{option_and_then}
use Rattle.std.specs.Borrow.{Bor}
use Rattle.std.specs.List.{AllByRecursion}
use Rattle.clap.specs.Words.{Row, Text, first_of, subcommand_of}
use Rattle.clap.specs.Matches.{first_value}
use Rattle.clap.specs.declared.parser.matches.Found.{Found}
use Rattle.clap.specs.declared.error.kind.ErrorKind.{ErrorKind}
use Rattle.clap.specs.declared.error.kind.ErrorKind.TheVariants.{ArgumentConflict, DisplayHelp, DisplayVersion, InvalidValue, MissingRequiredArgument, OutOfMemory}
use Rattle.forms.specs.declared.mode.Mode.{Mode}
use Rattle.forms.specs.declared.mode.Mode.TheVariants.{Columns, Csv, Json, Tabs}
use Rattle.lines.specs.declared.outcome.Status.{Status}
use Rattle.lines.specs.declared.outcome.Status.TheVariants as status
use Rattle.lines.specs.Grammar.{usage}
use Rattle.lines.specs.PlayScript.{number_of}
use Rattle.lines.specs.declared.usage.Asked.{Asked}
use Rattle.lines.specs.declared.usage.Asked.TheVariants.{Alone, Dump as ToDump, Import as ToImport, Sessions as OfSessions, Suggest as ToSuggest}
use Rattle.lines.specs.declared.transfer.Suggest.{Suggest}
use Rattle.lines.specs.declared.transfer.Dump.{Dump}
use Rattle.lines.specs.declared.transfer.Import.{Import}
use Rattle.lines.specs.declared.usage.Sessions.{Sessions}
use Rattle.lines.specs.declared.usage.Request.{Request}
use Rattle.lines.specs.declared.usage.Request.TheVariants.{Solo, Check, Plan, Play}
use Rattle.lines.specs.declared.usage.Stores.{Stores}
use Rattle.lines.specs.declared.usage.Stores.TheVariants.{Folder, InMemory, Lists}

-- whether a flag's value says that it is set
abbrev pub is_set : Option Text → Bool
is_set (Some word) = bytes_eq word (codes "true")
is_set None = false

-- the words name this command, and give it these arguments, each under its name; none stands for one that is not given; and
-- they set just these of its flags
pub record IsGiven (words : List Text) (request : Text × List (Text × Option Text)) (flags : List (Text × Bool)) : Type 0 where
  pub rows : List Row
  pub command : subcommand_of usage words ≡ Some (request.0, rows)
  pub arguments : AllByRecursion (λ a. first_of a.0 rows ≡ a.1) request.1
  pub set : AllByRecursion (λ flag. is_set (first_of flag.0 rows) ≡ flag.1) flags

-- the script that is named; where none is, the standard input, if each line is to be asked for: by the word for it, or at a terminal
abbrev pub script_of : Option Text → (interactive at_terminal : Bool) → Option Text
script_of (Some name) interactive at_terminal = Some name
script_of None true at_terminal = Some (codes "-")
script_of None false true = Some (codes "-")
script_of None false false = None

-- a request in words: the command, and its arguments, each with its name
abbrev pub asked : Request → Text × List (Text × Option Text)
asked (Solo catalog script explain interactive mode sqlite dir) = (codes "solo", (codes "CATALOG", option_map (λ file. file.now) catalog) ∷ (codes "SCRIPT", Some script.now) ∷ (codes "DIR", option_map (λ folder. folder.now) dir) ∷ [])
asked (Check catalog explain as_tree) = (codes "check", (codes "CATALOG", Some catalog.now) ∷ [])
asked (Plan catalog statement as_tree) = (codes "plan", (codes "CATALOG", Some catalog.now) ∷ (codes "STATEMENT", Some statement.now) ∷ [])
asked (Play catalog script sqlite) = (codes "play", (codes "CATALOG", option_map (λ file. file.now) catalog) ∷ (codes "SCRIPT", Some script.now) ∷ [])

-- whether a request is to be explained where it is refused
abbrev pub explains : Request → Bool
explains (Solo catalog script explain interactive mode sqlite dir) = explain
explains (Check catalog explain as_tree) = explain
explains _ = false

-- whether each line is to be asked for, wherever it comes from
abbrev pub is_interactive : Request → Bool
is_interactive (Solo catalog script explain interactive mode sqlite dir) = interactive
is_interactive _ = false

-- where a request's stores are: in lists, in SQLite in memory, or in a folder, whatever else is asked for
abbrev pub stores_in : Bool → Option (Bor (List ℕ)) → Stores
stores_in sqlite (Some folder) = Folder folder
stores_in true None = InMemory
stores_in false None = Lists

abbrev pub stores_of : Request → Stores
stores_of (Solo catalog script explain interactive mode sqlite dir) = stores_in sqlite dir
stores_of (Play catalog script sqlite) = stores_in sqlite None
stores_of _ = Lists

-- whether answers are shown in columns, as CSV, or as JSON
abbrev pub is_columns : Mode → Bool
is_columns Columns = true
is_columns _ = false

abbrev pub is_csv : Mode → Bool
is_csv Csv = true
is_csv _ = false

abbrev pub is_json : Mode → Bool
is_json Json = true
is_json _ = false

-- how answers are shown, by the flags that are set; two together ask for nothing
abbrev pub mode_of_flags : (columns csv json : Bool) → Option Mode
mode_of_flags false false false = Some Tabs
mode_of_flags true false false = Some Columns
mode_of_flags false true false = Some Csv
mode_of_flags false false true = Some Json
mode_of_flags true true json = None
mode_of_flags true false true = None
mode_of_flags false true true = None

-- the flags of a request's command, and whether they are set
abbrev pub flags_of : Request → List (Text × Bool)
flags_of (Solo catalog script explain interactive mode sqlite dir) = (codes "EXPLAIN", explain) ∷ (codes "INTERACTIVE", interactive) ∷ (codes "COLUMNS", is_columns mode) ∷ (codes "CSV", is_csv mode) ∷ (codes "JSON", is_json mode) ∷ (codes "SQLITE", sqlite) ∷ []
flags_of (Check catalog explain as_tree) = (codes "EXPLAIN", explain) ∷ (codes "TREE", as_tree) ∷ []
flags_of (Plan catalog statement as_tree) = (codes "TREE", as_tree) ∷ []
flags_of (Play catalog script sqlite) = (codes "SQLITE", sqlite) ∷ []

-- the words leave the script of `solo` out where each line is to be asked for: it is the standard input
pub record LeavesOut (words : List Text) (at_terminal : Bool) (request : Request) : Type 0 where
  pub catalog : Option Text
  pub dir : Option Text
  pub given : IsGiven words (codes "solo", (codes "CATALOG", catalog) ∷ (codes "SCRIPT", None) ∷ (codes "DIR", dir) ∷ []) (flags_of request)
  pub asks : asked request ≡ (codes "solo", (codes "CATALOG", catalog) ∷ (codes "SCRIPT", script_of None (is_interactive request) at_terminal) ∷ (codes "DIR", dir) ∷ [])

-- what is wrong with the words after `solo`, though each is known: no script is named, and no line is to be asked for, or answers are to be shown in two ways; or memory ran out
pub data IsMisuse (found : Found) (at_terminal : Bool) : ErrorKind → Type 0 where
  no_script : script_of (first_value found (codes "SCRIPT")) (is_set (first_value found (codes "INTERACTIVE"))) at_terminal ≡ None → IsMisuse found at_terminal MissingRequiredArgument
  two_modes : mode_of_flags (is_set (first_value found (codes "COLUMNS"))) (is_set (first_value found (codes "CSV"))) (is_set (first_value found (codes "JSON"))) ≡ None → IsMisuse found at_terminal ArgumentConflict
  no_memory : IsMisuse found at_terminal OutOfMemory

-- the words ask for this: they give its arguments, all or all but the script of a session, and set its flags
abbrev pub Asks : List Text → Bool → Request → Type 0
Asks words at_terminal request = IsGiven words (asked request) (flags_of request) ⊎ LeavesOut words at_terminal request

-- how often a statement is run again, by the word for it: a number up to a million; never, where there is no word
abbrev pub retry_of : Option Text → Option ℕ
retry_of None = Some 0
retry_of (Some word) = option_and_then (λ n. if nat_le n 1000000 then Some n else None) (number_of word)

-- sessions in words: the command, and its arguments, each with its name
abbrev pub asked_sessions : Sessions → Text × List (Text × Option Text)
asked_sessions sessions = (codes "run", (codes "CATALOG", option_map (λ file. file.now) sessions.catalog) ∷ (codes "SCRIPT", Some sessions.script.now) ∷ (codes "DIR", option_map (λ folder. folder.now) sessions.dir) ∷ [])

-- the words ask for these sessions: they give their arguments, set their flag, and say how often a statement is run again
pub record AsksSessions (words : List Text) (sessions : Sessions) : Type 0 where
  pub retry : Option Text
  pub given : IsGiven words (codes "run", (codes "N", retry) ∷ (asked_sessions sessions).1) ((codes "SQLITE", sessions.sqlite) ∷ [])
  pub retries : retry_of retry ≡ Some sessions.retry

-- what is wrong with the words after `run`, though each is known: the word for how often a statement is run again is no such number; or memory ran out
pub data IsNoNumber (found : Found) : ErrorKind → Type 0 where
  no_number : retry_of (first_value found (codes "N")) ≡ None → IsNoNumber found InvalidValue
  no_memory_left : IsNoNumber found OutOfMemory

-- the flags that ask for a way to show rows, each with whether it is set
abbrev pub flags_of_mode : Mode → List (Text × Bool)
flags_of_mode mode = (codes "COLUMNS", is_columns mode) ∷ (codes "CSV", is_csv mode) ∷ (codes "JSON", is_json mode) ∷ []

-- a dump in words: the command, and its arguments, each with its name
abbrev pub asked_dump : Dump → Text × List (Text × Option Text)
asked_dump dump = (codes "dump", (codes "CATALOG", option_map (λ file. file.now) dump.catalog) ∷ (codes "RELATION", option_map (λ name. name.now) dump.relation) ∷ (codes "DIR", option_map (λ folder. folder.now) dump.dir) ∷ [])

-- the words ask for a dump: rows are shown of one relation alone
pub record AsksDump (words : List Text) (dump : Dump) : Type 0 where
  pub given : IsGiven words (asked_dump dump) (flags_of_mode dump.mode)
  pub named : is_none dump.relation ≡ true → dump.mode ≡ Tabs

-- how many rows a transaction has, by the word for it: a number from 1 to a million; all, where there is no word
abbrev pub every_of : Option Text → Option (Option ℕ)
every_of None = Some None
every_of (Some word) = option_map Some (option_and_then (λ n. if nat_le 1 n && nat_le n 1000000 then Some n else None) (number_of word))

-- an import in words: the command, and its arguments, each with its name
abbrev pub asked_import : Import → Text × List (Text × Option Text)
asked_import import = (codes "import", (codes "CATALOG", option_map (λ file. file.now) import.catalog) ∷ (codes "RELATION", Some import.relation.now) ∷ (codes "FILE", Some import.file.now) ∷ (codes "DIR", option_map (λ folder. folder.now) import.dir) ∷ [])

-- the words ask for this import: they give its arguments, and say how many rows a transaction has
pub record AsksImport (words : List Text) (import : Import) : Type 0 where
  pub every : Option Text
  pub given : IsGiven words (codes "import", (codes "ROWS", every) ∷ (asked_import import).1) []
  pub is : every_of every ≡ Some import.every

-- what is wrong with the words after `import`, though each is known: the word for how many rows a transaction has is no such number; or memory ran out
pub data IsNoCount (found : Found) : ErrorKind → Type 0 where
  no_count : every_of (first_value found (codes "ROWS")) ≡ None → IsNoCount found InvalidValue
  no_memory_for_it : IsNoCount found OutOfMemory

-- how many sites a suggested catalogue has, by the word for it: a number from 1 to 16; two, where there is no word
abbrev pub sites_of : Option Text → Option ℕ
sites_of None = Some 2
sites_of (Some word) = option_and_then (λ n. if nat_le 1 n && nat_le n 16 then Some n else None) (number_of word)

-- a suggestion in words: the command, and its arguments, each with its name
abbrev pub asked_suggest : Suggest → Text × List (Text × Option Text)
asked_suggest suggest = (codes "suggest", (codes "FILE", Some suggest.file.now) ∷ (codes "KEY", Some suggest.key.now) ∷ (codes "COLUMN", Some suggest.rows.now) ∷ (codes "NAME", option_map (λ name. name.now) suggest.name) ∷ [])

-- the words ask for this suggestion: they give its arguments, and say how many sites there are to be
pub record AsksSuggest (words : List Text) (suggest : Suggest) : Type 0 where
  pub sites : Option Text
  pub given : IsGiven words (codes "suggest", (codes "SITES", sites) ∷ (asked_suggest suggest).1) []
  pub is : sites_of sites ≡ Some suggest.sites

-- the words ask for this
abbrev pub AsksFor : List Text → Bool → Asked → Type 0
AsksFor words at_terminal (ToSuggest suggest) = AsksSuggest words suggest
AsksFor words at_terminal (ToImport import) = AsksImport words import
AsksFor words at_terminal (Alone request) = Asks words at_terminal request
AsksFor words at_terminal (ToDump dump) = AsksDump words dump
AsksFor words at_terminal (OfSessions sessions) = AsksSessions words sessions

-- what no word asks for: `solo -`, and none of its flags
abbrev pub AsksForInput : Asked → Type 0
AsksForInput (Alone request) =
    (asked request ≡ (codes "solo", (codes "CATALOG", None) ∷ (codes "SCRIPT", Some (codes "-")) ∷ (codes "DIR", None) ∷ []))
    × (flags_of request ≡ (codes "EXPLAIN", false) ∷ (codes "INTERACTIVE", false) ∷ (codes "COLUMNS", false) ∷ (codes "CSV", false) ∷ (codes "JSON", false) ∷ (codes "SQLITE", false) ∷ [])
AsksForInput (OfSessions sessions) = ⊥
AsksForInput (ToDump dump) = ⊥
AsksForInput (ToImport import) = ⊥
AsksForInput (ToSuggest suggest) = ⊥

-- the exit status where clap gives a text in place of a request
abbrev pub usage_status : ErrorKind → Status
usage_status DisplayHelp = status.Done
usage_status DisplayVersion = status.Done
usage_status OutOfMemory = status.Memory
usage_status _ = status.Usage
