-- What a script says, line by line.
use Rattle.std.specs.Prelude.{ℕ, ◌+◌, ◌==◌, ◌&&◌, Bool, true, false, not, if◌then◌else◌, List, [], ◌∷◌, length, drop, codes, flat_map, nat_eq, Option, Some, None}
use Rattle.std.specs.List.{list_any, slice_split, starts_with}
use Rattle.std.specs.Str.{is_utf8}
use Rattle.reader.specs.declared.class.Class.TheVariants.{Blank}
use Rattle.reader.specs.Class.{is_in}
use Rattle.lines.specs.declared.script.Item.{Item}
use Rattle.lines.specs.declared.script.Item.TheVariants.{Statement, Show, Leaf, Dump, Count}
use Rattle.lines.specs.declared.script.Line.{Line}
use Rattle.lines.specs.declared.script.Line.TheVariants.{PassedOver, Asks, Malformed}

-- what is asked for: nothing, to execute a command, to show a relation or a leaf, to write a relation as statements, or to tell of a leaf and how many rows it has; or nothing that can be read
pub data Reading : Type 0 where
  Nothing : Reading
  Runs : (command : List ℕ) → Reading
  ShowsRelation : (name : List ℕ) → Reading
  ShowsLeaf : (name : List ℕ) → Reading
  DumpsRelation : (name : List ℕ) → Reading
  CountsLeaf : (name : List ℕ) → Reading
  Unreadable : Reading

-- a line ends at its line feed, which is no part of it; what follows the last line feed is a line too
abbrev pub lines_of : List ℕ → List (List ℕ)
lines_of script = slice_split (λ byte. byte == 10) script

-- one or more bytes, none of them a blank
abbrev pub is_word : List ℕ → Bool
is_word word = not (length word == 0) && not (list_any (is_in Blank) word)

-- the word after a command and its one space, where the line is that command with a word
abbrev pub argument_of : List ℕ → List ℕ → Option (List ℕ)
argument_of line command =
    if starts_with nat_eq line command && is_word (drop (length command) line) then Some (drop (length command) line) else None

-- what is read of a word, or else of its lack
abbrev pub reading_of_argument : Option (List ℕ) → (List ℕ → Reading) → Reading → Reading
reading_of_argument (Some word) reads lacking = reads word
reading_of_argument None reads lacking = lacking

-- a line that begins with a dot
abbrev pub reading_of_command : List ℕ → Reading
reading_of_command line =
    reading_of_argument (argument_of line (codes ".show ")) ShowsRelation
    (reading_of_argument (argument_of line (codes ".leaf ")) ShowsLeaf Unreadable)

-- a line of text: an empty one and a comment (35 is '#') say nothing, and 46 is the dot of a command
abbrev pub reading_of_text : List ℕ → Reading
reading_of_text [] = Nothing
reading_of_text (byte ∷ bytes) =
    if byte == 35 then Nothing else (if byte == 46 then reading_of_command (byte ∷ bytes) else Runs (byte ∷ bytes))

-- a line of any bytes
abbrev pub reading_of : List ℕ → Reading
reading_of line = if is_utf8 line then reading_of_text line else Unreadable

abbrev pub is_unreadable : Reading → Bool
is_unreadable Unreadable = true
is_unreadable _ = false

-- what there is to do for a line
abbrev pub tasks_of : Reading → List Reading
tasks_of (Runs statement) = Runs statement ∷ []
tasks_of (ShowsRelation name) = ShowsRelation name ∷ []
tasks_of (ShowsLeaf name) = ShowsLeaf name ∷ []
tasks_of (DumpsRelation name) = DumpsRelation name ∷ []
tasks_of (CountsLeaf name) = CountsLeaf name ∷ []
tasks_of _ = []

-- what there is to do, in the order of the lines
abbrev pub tasks_of_lines : List (List ℕ) → List Reading
tasks_of_lines lines = flat_map (λ line. tasks_of (reading_of line)) lines

-- the number of the first line that can't be read, where the first of these lines is number n
abbrev pub first_unreadable_from : ℕ → List (List ℕ) → Option ℕ
first_unreadable_from n [] = None
first_unreadable_from n (line ∷ lines) =
    if is_unreadable (reading_of line) then Some n else first_unreadable_from (n + 1) lines

-- lines are counted from 1, and all of them count
abbrev pub first_unreadable : List (List ℕ) → Option ℕ
first_unreadable lines = first_unreadable_from 1 lines

-- what an item stands for
abbrev pub task_of : Item → Reading
task_of (Statement text) = Runs text.now
task_of (Show name) = ShowsRelation name.now
task_of (Leaf name) = ShowsLeaf name.now
task_of (Dump name) = DumpsRelation name.now
task_of (Count name) = CountsLeaf name.now

-- what a line that was read stands for
abbrev pub reading_of_line : Line → Reading
reading_of_line PassedOver = Nothing
reading_of_line (Asks item) = task_of item
reading_of_line Malformed = Unreadable
