-- What a request of the command line names.
use Rattle.std.specs.Prelude.{ℕ, Bool, false, List, Option, None, bytes_eq, codes}
use Rattle.std.specs.Borrow.{Bor}
use Rattle.forms.specs.declared.mode.Mode.{Mode}
use Rattle.forms.specs.declared.mode.Mode.TheVariants.{Columns, Csv, Json, Tabs}
use Rattle.lines.specs.declared.usage.Request.{Request}
use Rattle.lines.specs.declared.usage.Request.TheVariants.{Solo, Check, Plan, Play}

-- the file that a request names
abbrev pub file_of : Request → Bor (List ℕ)
file_of (Solo name file explain interactive mode sqlite dir) = file
file_of (Check file explain as_tree) = file
file_of (Plan file statement as_tree) = file
file_of (Play name file sqlite) = file

-- the file of a catalogue that a request names besides, if it names one
abbrev pub catalog_of : Request → Option (Bor (List ℕ))
catalog_of (Solo name file explain interactive mode sqlite dir) = name
catalog_of (Play name file sqlite) = name
catalog_of _ = None

-- whether a script is read from standard input
abbrev pub is_of_input : Request → Bool
is_of_input (Solo name file explain interactive mode sqlite dir) = bytes_eq file.now (codes "-")
is_of_input (Play name file sqlite) = bytes_eq file.now (codes "-")
is_of_input _ = false

-- whether lines for a database are read from standard input
abbrev pub is_typed : Request → Bool
is_typed (Solo name file explain interactive mode sqlite dir) = bytes_eq file.now (codes "-")
is_typed _ = false

-- how answers are to be shown
abbrev pub mode_of : Request → Mode
mode_of (Solo name file explain interactive mode sqlite dir) = mode
mode_of _ = Tabs

-- how answers are shown in a session at first, where the command line asks for this form: tabs are what nothing asks for
abbrev pub session_mode : Mode → Mode
session_mode Tabs = Columns
session_mode Columns = Columns
session_mode Csv = Csv
session_mode Json = Json
