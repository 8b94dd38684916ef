-- What a script of many sessions says, line by line, and what each session is to do.
use Rattle.std.specs.Prelude.{ℕ, ◌==◌, ◌&&◌, Bool, true, false, not, if◌then◌else◌, List, [], ◌∷◌, length, map, filter, flat_map, bytes_eq, Option, Some, None}
use Rattle.std.specs.Borrow.{Bor}
use Rattle.std.specs.List.{position_from, slice_get}
use Rattle.std.specs.Str.{is_utf8}
use Rattle.std.specs.Global.{Vec}
use Rattle.lines.specs.Cut.{cut}
use Rattle.lines.specs.PlayScript.{is_name}
use Rattle.lines.specs.declared.run_script.Part.{Part}
use Rattle.lines.specs.declared.run_script.Line.{Line}
use Rattle.lines.specs.declared.run_script.Line.TheVariants as line

-- what one line says: nothing, a command of the session of this name, or nothing that can be read
pub data Reading : Type 0 where
  Nothing : Reading
  Gives : (session command : List ℕ) → Reading
  Unreadable : Reading

-- the name of a session, a blank (32) and a command of at least one byte
abbrev pub reading_of_words : Option (List ℕ × List ℕ) → Reading
reading_of_words None = Unreadable
reading_of_words (Some words) = if is_name words.0 && not (length words.1 == 0) then Gives words.0 words.1 else Unreadable

-- a line of text: an empty one and a comment (35 is '#') say nothing
abbrev pub reading_by_first : Option ℕ → List ℕ → Reading
reading_by_first None text = Nothing
reading_by_first (Some byte) text = if byte == 35 then Nothing else reading_of_words (cut 32 text)

-- a line of any bytes
abbrev pub reading_of : List ℕ → Reading
reading_of text = if is_utf8 text then reading_by_first (slice_get text 0) text else Unreadable

abbrev pub is_unreadable : Reading → Bool
is_unreadable Unreadable = true
is_unreadable _ = false

-- the number of the first line that can't be read; lines are counted from 1, and all of them count
abbrev pub first_malformed : List (List ℕ) → Option ℕ
first_malformed lines = position_from (λ text. is_unreadable (reading_of text)) 1 lines

-- a command, behind the name of its session
abbrev pub Given : Type 0
Given = List ℕ × List ℕ

-- what a line gives a session to do
abbrev pub given_by : Reading → List Given
given_by (Gives session command) = (session, command) ∷ []
given_by _ = []

-- what the lines give, in their order
abbrev pub given_in : List (List ℕ) → List Given
given_in lines = flat_map (λ text. given_by (reading_of text)) lines

-- each name once, where it stands first
abbrev pub once : List (List ℕ) → List (List ℕ)
once [] = []
once (name ∷ names) = name ∷ filter (λ other. not (bytes_eq name other)) (once names)

-- the commands that are given to the session of this name
abbrev pub commands_of : List Given → List ℕ → List (List ℕ)
commands_of given session = map (λ g. g.1) (filter (λ g. bytes_eq session g.0) given)

-- one session of a script: its name, and its commands in the order of its lines
pub record SessionPart : Type 0 where
  pub session : List ℕ
  pub commands : List (List ℕ)

-- the session of this name
abbrev pub session_of : List Given → List ℕ → SessionPart
session_of given session = record { session = session; commands = commands_of given session }

-- the sessions that something is given to, in the order in which they first appear
abbrev pub sessions_given : List Given → List SessionPart
sessions_given given = map (session_of given) (once (map (λ g. g.0) given))

-- the sessions of a script's lines
abbrev pub sessions_of : List (List ℕ) → List SessionPart
sessions_of lines = sessions_given (given_in lines)

-- the session that a part stands for
abbrev pub part_of : Part → SessionPart
part_of part = record { session = part.session.now; commands = map (λ command. command.now) part.commands.items }

-- the same of a session's name and its commands
abbrev pub session_in : Bor (List ℕ) × Vec (Bor (List ℕ)) → SessionPart
session_in entry = record { session = entry.0.now; commands = map (λ command. command.now) entry.1.items }

-- what a line that was read stands for
abbrev pub reading_of_line : Line → Reading
reading_of_line line.PassedOver = Nothing
reading_of_line (line.Gives session command) = Gives session.now command.now
reading_of_line line.Malformed = Unreadable
