-- Lemmas on the words of the command line.
use Rattle.std.proofs.Common.{◌≡◌, ℕ, Bool, Box, Global, List, [], ◌∷◌, inl, inr, Option, Some, None, codes, refl, sym, ◌∙◌, option_map, ap, ap₂, subst, Result, Ok, Err, IfOk, IfErr, IsErrAnd, true, is_none}
use Rattle.clap.specs.Words.{Row, Text, first_of, rows_of, subcommand_name_of, subcommand_of, subcommand_rows, subcommand_rows_of}
use Rattle.clap.specs.Matches.{first_value}
use Rattle.clap.specs.declared.parser.matches.Found.{Found}
use Rattle.clap.proofs.WalkLemmas.{first_value-rows}
use Rattle.std.specs.Box.{box_value}
use Rattle.std.specs.List.{AllByRecursion}
use Rattle.clap.specs.declared.parser.matches.SubCommand.{SubCommand, out-SubCommand}
use Rattle.clap.specs.declared.parser.matches.ArgMatches.{ArgMatches, out-ArgMatches}
use Rattle.lines.specs.declared.usage.Request.{Request}
use Rattle.lines.specs.declared.usage.Sessions.{Sessions}
use Rattle.lines.specs.declared.transfer.Dump.{Dump}
use Rattle.lines.specs.declared.transfer.Import.{Import}
use Rattle.lines.specs.declared.transfer.Suggest.{Suggest}
use Rattle.clap.specs.declared.error.kind.ErrorKind.{ErrorKind}
use Rattle.clap.specs.declared.error.kind.ErrorKind.TheVariants.{ArgumentConflict, InvalidValue, MissingRequiredArgument, OutOfMemory}
use Rattle.clap.specs.declared.error.Error.{Error}
use Rattle.clap.specs.Words.{kind_of}
use Rattle.forms.specs.declared.mode.Mode.{Mode}
use Rattle.forms.specs.declared.mode.Mode.TheVariants.{Tabs}
use Rattle.lines.specs.Usage.{Asks, AsksDump, flags_of_mode, AsksImport, AsksSessions, AsksSuggest, IsGiven, IsNoCount, no_count, no_memory_for_it, IsMisuse, IsNoNumber, mode_of_flags, no_memory, no_memory_left, no_number, no_script, two_modes, asked, asked_dump, asked_import, asked_sessions, asked_suggest, every_of, retry_of, sites_of, flags_of, is_interactive, is_set, script_of}
use Rattle.lines.specs.Grammar.{usage}

pub subcommand_name_of-rows : (m : ArgMatches) → subcommand_name_of m ≡ option_map (λ p. p.0) (subcommand_rows_of m)
subcommand_name_of-rows m = go (out-ArgMatches m).subcommand
  where
    go : (entered : Option (Box SubCommand Global)) → option_map (λ b. (out-SubCommand (box_value b)).name.now) entered ≡ option_map (λ p. p.0) (subcommand_rows entered)
    go None = refl
    go (Some entered) = refl

-- the command that was entered, by its name and its rows
pub command_is : (words : List Text) (entered : Option (Text × List Row)) (name : Text) (rows : List Row) → entered ≡ subcommand_of usage words → Some name ≡ option_map (λ p. p.0) entered → Some rows ≡ option_map (λ p. p.1) entered → subcommand_of usage words ≡ Some (name, rows)
command_is words None name rows e n r = absurd (cc)
command_is words (Some (entered_name, entered_rows)) name rows e n r =
    let name_is : entered_name ≡ name = cc in
    let rows_is : entered_rows ≡ rows = cc in
    sym e ∙ rw (name_is, rows_is) refl

-- a command with one argument and flags, and one with two
pub given_one : (words : List Text) (entered : Option (Text × List Row)) (name : Text) (rows : List Row) (argument value : Text) (flags : List (Text × Bool)) → entered ≡ subcommand_of usage words → Some name ≡ option_map (λ p. p.0) entered → Some rows ≡ option_map (λ p. p.1) entered → Some value ≡ first_of argument rows → AllByRecursion (λ flag. is_set (first_of flag.0 rows) ≡ flag.1) flags → IsGiven words (name, (argument, Some value) ∷ []) flags
given_one words entered name rows argument value flags e n r s f = record { rows = rows; command = command_is words entered name rows e n r; arguments = (sym s, tt); set = f }

pub given_two : (words : List Text) (entered : Option (Text × List Row)) (name : Text) (rows : List Row) (first one second two : Text) (flags : List (Text × Bool)) → entered ≡ subcommand_of usage words → Some name ≡ option_map (λ p. p.0) entered → Some rows ≡ option_map (λ p. p.1) entered →
    Some one ≡ first_of first rows → Some two ≡ first_of second rows → AllByRecursion (λ flag. is_set (first_of flag.0 rows) ≡ flag.1) flags → IsGiven words (name, (first, Some one) ∷ (second, Some two) ∷ []) flags
given_two words entered name rows first one second two flags e n r s t f = record { rows = rows; command = command_is words entered name rows e n r; arguments = (sym s, (sym t, tt)); set = f }

-- a command with an argument that need not be given, and one that must
pub given_perhaps : (words : List Text) (entered : Option (Text × List Row)) (name : Text) (rows : List Row) (first : Text) (one : Option Text) (second two : Text) (flags : List (Text × Bool)) → entered ≡ subcommand_of usage words → Some name ≡ option_map (λ p. p.0) entered → Some rows ≡ option_map (λ p. p.1) entered →
    one ≡ first_of first rows → Some two ≡ first_of second rows → AllByRecursion (λ flag. is_set (first_of flag.0 rows) ≡ flag.1) flags → IsGiven words (name, (first, one) ∷ (second, Some two) ∷ []) flags
given_perhaps words entered name rows first one second two flags e n r s t f = record { rows = rows; command = command_is words entered name rows e n r; arguments = (sym s, (sym t, tt)); set = f }

-- what `solo` asks for: its script is named, or left out where each line is to be asked for
pub solo_asks : (words : List Text) (entered : Option (Text × List Row)) (rows : List Row) (request : Request) (at_terminal : Bool) → entered ≡ subcommand_of usage words → Some (codes "solo") ≡ option_map (λ p. p.0) entered → Some rows ≡ option_map (λ p. p.1) entered →
    asked request ≡ (codes "solo", (codes "CATALOG", first_of (codes "CATALOG") rows) ∷ (codes "SCRIPT", script_of (first_of (codes "SCRIPT") rows) (is_interactive request) at_terminal) ∷ (codes "DIR", first_of (codes "DIR") rows) ∷ []) →
    AllByRecursion (λ flag. is_set (first_of flag.0 rows) ≡ flag.1) (flags_of request) → Asks words at_terminal request
solo_asks words entered rows request at_terminal e n r a f = go (first_of (codes "SCRIPT") rows) refl
  where
    given : (script : Option Text) → first_of (codes "SCRIPT") rows ≡ script → IsGiven words (codes "solo", (codes "CATALOG", first_of (codes "CATALOG") rows) ∷ (codes "SCRIPT", script) ∷ (codes "DIR", first_of (codes "DIR") rows) ∷ []) (flags_of request)
    given script is_script = record { rows = rows; command = command_is words entered (codes "solo") rows e n r; arguments = (refl, (is_script, (refl, tt))); set = f }

    request_of : Option Text → Text × List (Text × Option Text)
    request_of script = (codes "solo", (codes "CATALOG", first_of (codes "CATALOG") rows) ∷ (codes "SCRIPT", script_of script (is_interactive request) at_terminal) ∷ (codes "DIR", first_of (codes "DIR") rows) ∷ [])

    go : (script : Option Text) → first_of (codes "SCRIPT") rows ≡ script → Asks words at_terminal request
    go (Some name) is_script = inl (subst (λ q. IsGiven words q (flags_of request)) (sym (a ∙ ap request_of is_script)) (given (Some name) is_script))
    go None is_script = inr (record { catalog = first_of (codes "CATALOG") rows; dir = first_of (codes "DIR") rows; given = given None is_script; asks = a ∙ ap request_of is_script })

-- flags of rows, where they are set as they were found
pub flags_found : (found : Found) (flags : List (Text × Bool)) → AllByRecursion (λ flag. is_set (first_value found flag.0) ≡ flag.1) flags → AllByRecursion (λ flag. is_set (first_of flag.0 (rows_of found)) ≡ flag.1) flags
flags_found found [] h = tt
flags_found found (flag ∷ flags) (is, rest) = (sym (ap is_set (first_value-rows found flag.0)) ∙ is, flags_found found flags rest)

-- what `solo` asks for, where its arguments were found so
pub solo_answers : {E : Type 0} (words : List Text) (entered : Option (Text × List Row)) (found : Found) (at_terminal : Bool) → entered ≡ subcommand_of usage words → Some (codes "solo") ≡ option_map (λ p. p.0) entered → Some (rows_of found) ≡ option_map (λ p. p.1) entered → (answered : Result Request E) →
    IfOk answered (λ request. asked request ≡ (codes "solo", (codes "CATALOG", first_value found (codes "CATALOG")) ∷ (codes "SCRIPT", script_of (first_value found (codes "SCRIPT")) (is_interactive request) at_terminal) ∷ (codes "DIR", first_value found (codes "DIR")) ∷ [])) →
    IfOk answered (λ request. AllByRecursion (λ flag. is_set (first_value found flag.0) ≡ flag.1) (flags_of request)) → IfOk answered (λ request. Asks words at_terminal request)
solo_answers words entered found at_terminal e n r (Err error) a f = tt
solo_answers words entered found at_terminal e n r (Ok request) a f =
    let given : Option Text → Option Text → Option Text → Text × List (Text × Option Text) = λ catalog script dir. (codes "solo", (codes "CATALOG", catalog) ∷ (codes "SCRIPT", script_of script (is_interactive request) at_terminal) ∷ (codes "DIR", dir) ∷ []) in
    solo_asks words entered (rows_of found) request at_terminal e n r (a ∙ ap₂ (λ catalog script. given catalog script (first_value found (codes "DIR"))) (first_value-rows found (codes "CATALOG")) (first_value-rows found (codes "SCRIPT")) ∙ ap (given (first_of (codes "CATALOG") (rows_of found)) (first_of (codes "SCRIPT") (rows_of found))) (first_value-rows found (codes "DIR"))) (flags_found found (flags_of request) f)

-- what is wrong with the words after `solo`
pub no_script_named : (found : Found) (at_terminal interactive : Bool) (script : Option Text) (kind : ErrorKind) → kind ≡ MissingRequiredArgument → interactive ≡ is_set (first_value found (codes "INTERACTIVE")) → script ≡ script_of (first_value found (codes "SCRIPT")) interactive at_terminal → script ≡ None → IsMisuse found at_terminal kind
no_script_named found at_terminal interactive script kind k i s n = subst (IsMisuse found at_terminal) (sym k) (no_script (subst (λ b. script_of (first_value found (codes "SCRIPT")) b at_terminal ≡ None) i (sym s ∙ n)))

pub two_ways : (found : Found) (at_terminal : Bool) (mode : Option Mode) (kind : ErrorKind) → kind ≡ ArgumentConflict →
    mode ≡ mode_of_flags (is_set (first_value found (codes "COLUMNS"))) (is_set (first_value found (codes "CSV"))) (is_set (first_value found (codes "JSON"))) → mode ≡ None → IsMisuse found at_terminal kind
two_ways found at_terminal mode kind k m n = subst (IsMisuse found at_terminal) (sym k) (two_modes (sym m ∙ n))

pub memory_ran_out : {T : Type 0} (found : Found) (at_terminal : Bool) (answered : Result T Error) → IsErrAnd answered (λ error. kind_of error ≡ OutOfMemory) → IfErr answered (λ error. IsMisuse found at_terminal (kind_of error))
memory_ran_out found at_terminal (Ok request) k = tt
memory_ran_out found at_terminal (Err error) k = subst (IsMisuse found at_terminal) (sym k) no_memory

-- what `run` asks for, where its arguments were found so
pub sessions_asked : (words : List Text) (entered : Option (Text × List Row)) (found : Found) (script : Text) → entered ≡ subcommand_of usage words → Some (codes "run") ≡ option_map (λ p. p.0) entered → Some (rows_of found) ≡ option_map (λ p. p.1) entered → Some script ≡ first_value found (codes "SCRIPT") → (sessions : Sessions) →
    asked_sessions sessions ≡ (codes "run", (codes "CATALOG", first_value found (codes "CATALOG")) ∷ (codes "SCRIPT", Some script) ∷ (codes "DIR", first_value found (codes "DIR")) ∷ []) →
    is_set (first_value found (codes "SQLITE")) ≡ sessions.sqlite → retry_of (first_value found (codes "N")) ≡ Some sessions.retry → AsksSessions words sessions
sessions_asked words entered found script e n r s sessions a sqlite retry =
    let rows : List Row = rows_of found in
    let row_of : (name : Text) → first_of name rows ≡ first_value found name = λ name. sym (first_value-rows found name) in
    let arguments : AllByRecursion (λ argument. first_of argument.0 rows ≡ argument.1) (asked_sessions sessions).1 =
    subst (λ request. AllByRecursion (λ argument. first_of argument.0 rows ≡ argument.1) request.1) (sym a) (row_of (codes "CATALOG"), (row_of (codes "SCRIPT") ∙ sym s, (row_of (codes "DIR"), tt))) in
    record {
      retry = first_value found (codes "N");
      given = record { rows = rows; command = command_is words entered (codes "run") rows e n r; arguments = (row_of (codes "N"), arguments); set = (ap is_set (row_of (codes "SQLITE")) ∙ sqlite, tt) };
      retries = retry;
    }

-- what `dump` asks for, where its arguments were found so
pub dump_asked : (words : List Text) (entered : Option (Text × List Row)) (found : Found) → entered ≡ subcommand_of usage words → Some (codes "dump") ≡ option_map (λ p. p.0) entered → Some (rows_of found) ≡ option_map (λ p. p.1) entered → (dump : Dump) →
    asked_dump dump ≡ (codes "dump", (codes "CATALOG", first_value found (codes "CATALOG")) ∷ (codes "RELATION", first_value found (codes "RELATION")) ∷ (codes "DIR", first_value found (codes "DIR")) ∷ []) →
    AllByRecursion (λ flag. is_set (first_value found flag.0) ≡ flag.1) (flags_of_mode dump.mode) → (is_none dump.relation ≡ true → dump.mode ≡ Tabs) → AsksDump words dump
dump_asked words entered found e n r dump a flags named =
    let rows = rows_of found in
    let row_of : (name : Text) → first_of name rows ≡ first_value found name = λ name. sym (first_value-rows found name) in
    let arguments : AllByRecursion (λ argument. first_of argument.0 rows ≡ argument.1) (asked_dump dump).1 =
    subst (λ (request : Text × List (Text × Option Text)). AllByRecursion (λ argument. first_of argument.0 rows ≡ argument.1) request.1) (sym a) (row_of (codes "CATALOG"), (row_of (codes "RELATION"), (row_of (codes "DIR"), tt))) in
    let set : AllByRecursion (λ flag. is_set (first_of flag.0 rows) ≡ flag.1) (flags_of_mode dump.mode) = (ap is_set (row_of (codes "COLUMNS")) ∙ flags.0, (ap is_set (row_of (codes "CSV")) ∙ flags.1.0, (ap is_set (row_of (codes "JSON")) ∙ flags.1.1.0, tt))) in
    record { given = record { rows = rows; command = command_is words entered (codes "dump") rows e n r; arguments = arguments; set = set }; named = named }

-- what `import` asks for, where its arguments were found so
pub import_asked : (words : List Text) (entered : Option (Text × List Row)) (found : Found) (relation file : Text) → entered ≡ subcommand_of usage words → Some (codes "import") ≡ option_map (λ p. p.0) entered → Some (rows_of found) ≡ option_map (λ p. p.1) entered → Some relation ≡ first_value found (codes "RELATION") → Some file ≡ first_value found (codes "FILE") → (import : Import) →
    asked_import import ≡ (codes "import", (codes "CATALOG", first_value found (codes "CATALOG")) ∷ (codes "RELATION", Some relation) ∷ (codes "FILE", Some file) ∷ (codes "DIR", first_value found (codes "DIR")) ∷ []) →
    every_of (first_value found (codes "ROWS")) ≡ Some import.every → AsksImport words import
import_asked words entered found relation file e n r s t import a every =
    let rows : List Row = rows_of found in
    let row_of : (name : Text) → first_of name rows ≡ first_value found name = λ name. sym (first_value-rows found name) in
    let arguments : AllByRecursion (λ argument. first_of argument.0 rows ≡ argument.1) (asked_import import).1 =
    subst (λ request. AllByRecursion (λ argument. first_of argument.0 rows ≡ argument.1) request.1) (sym a) (row_of (codes "CATALOG"), (row_of (codes "RELATION") ∙ sym s, (row_of (codes "FILE") ∙ sym t, (row_of (codes "DIR"), tt)))) in
    record {
      every = first_value found (codes "ROWS");
      given = record { rows = rows; command = command_is words entered (codes "import") rows e n r; arguments = (row_of (codes "ROWS"), arguments); set = tt };
      is = every;
    }

-- what `suggest` asks for, where its arguments were found so
pub suggest_asked : (words : List Text) (entered : Option (Text × List Row)) (found : Found) (file key column : Text) → entered ≡ subcommand_of usage words → Some (codes "suggest") ≡ option_map (λ p. p.0) entered → Some (rows_of found) ≡ option_map (λ p. p.1) entered → Some file ≡ first_value found (codes "FILE") → Some key ≡ first_value found (codes "KEY") → Some column ≡ first_value found (codes "COLUMN") → (suggest : Suggest) →
    asked_suggest suggest ≡ (codes "suggest", (codes "FILE", Some file) ∷ (codes "KEY", Some key) ∷ (codes "COLUMN", Some column) ∷ (codes "NAME", first_value found (codes "NAME")) ∷ []) →
    sites_of (first_value found (codes "SITES")) ≡ Some suggest.sites → AsksSuggest words suggest
suggest_asked words entered found file key column e n r f k o suggest a sites =
    let rows : List Row = rows_of found in
    let row_of : (name : Text) → first_of name rows ≡ first_value found name = λ name. sym (first_value-rows found name) in
    let arguments : AllByRecursion (λ argument. first_of argument.0 rows ≡ argument.1) (asked_suggest suggest).1 =
    subst (λ request. AllByRecursion (λ argument. first_of argument.0 rows ≡ argument.1) request.1) (sym a) (row_of (codes "FILE") ∙ sym f, (row_of (codes "KEY") ∙ sym k, (row_of (codes "COLUMN") ∙ sym o, (row_of (codes "NAME"), tt)))) in
    record {
      sites = first_value found (codes "SITES");
      given = record { rows = rows; command = command_is words entered (codes "suggest") rows e n r; arguments = (row_of (codes "SITES"), arguments); set = tt };
      is = sites;
    }

-- what is wrong with the words after `import`
pub no_rows_counted : (found : Found) (word : Option Text) (every : Option (Option ℕ)) (kind : ErrorKind) → kind ≡ InvalidValue → word ≡ first_value found (codes "ROWS") → every ≡ every_of word → every ≡ None → IsNoCount found kind
no_rows_counted found word every kind k w r n = subst (IsNoCount found) (sym k) (no_count (ap every_of (sym w) ∙ sym r ∙ n))

pub memory_ran_out_of_import : {T : Type 0} (found : Found) (answered : Result T Error) → IsErrAnd answered (λ error. kind_of error ≡ OutOfMemory) → IfErr answered (λ error. IsNoCount found (kind_of error))
memory_ran_out_of_import found (Ok request) k = tt
memory_ran_out_of_import found (Err error) k = subst (IsNoCount found) (sym k) no_memory_for_it

-- what is wrong with the words after `run`
pub no_retries : (found : Found) (word : Option Text) (retry : Option ℕ) (kind : ErrorKind) → kind ≡ InvalidValue → word ≡ first_value found (codes "N") → retry ≡ retry_of word → retry ≡ None → IsNoNumber found kind
no_retries found word retry kind k w r n = subst (IsNoNumber found) (sym k) (no_number (ap retry_of (sym w) ∙ sym r ∙ n))

pub memory_ran_out_of_run : {T : Type 0} (found : Found) (answered : Result T Error) → IsErrAnd answered (λ error. kind_of error ≡ OutOfMemory) → IfErr answered (λ error. IsNoNumber found (kind_of error))
memory_ran_out_of_run found (Ok request) k = tt
memory_ran_out_of_run found (Err error) k = subst (IsNoNumber found) (sym k) no_memory_left
