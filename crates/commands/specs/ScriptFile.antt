-- What comes of the lines of a script that is named in a session.
use Rattle.std.specs.Prelude.{◌≡◌, ℕ, List, Option, None, Some}
use Rattle.forms.specs.declared.mode.Mode.{Mode}
use Rattle.commands.specs.declared.script_file.Answered.{Answered}
use Rattle.commands.specs.declared.script_file.Answered.TheVariants.{All, Malformed}
use Rattle.databases.specs.Client.{Seen}
use Rattle.lines.specs.Script.{first_unreadable, lines_of, tasks_of_lines}
use Rattle.databases.specs.Solo.{Stretches}

-- each line that asks for something is answered, in their order; where one can't be read none is, and nothing has changed
abbrev pub AnswersScript : {B : Type 0} → Seen B → Mode → List ℕ → Option (List ℕ) → Option (List ℕ) → B → B → Answered → Type 0
AnswersScript seen mode script before after old new (All any_refused) = (first_unreadable (lines_of script) ≡ None) × Stretches seen mode (tasks_of_lines (lines_of script)) before after old new any_refused
AnswersScript seen mode script before after old new (Malformed line) = (first_unreadable (lines_of script) ≡ Some line) × (new ≡ old) × (after ≡ before)
