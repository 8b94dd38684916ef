-- The shell's own commands: lines that begin with a dot.
use Rattle.std.specs.Prelude.{ℕ, Bool, true, false, if◌then◌else◌, List, [], bytes_eq, codes, Option, Some, None}
use Rattle.forms.specs.declared.mode.Mode.{Mode}
use Rattle.forms.specs.declared.mode.Mode.TheVariants as mode
use Rattle.lines.specs.Cut.{cut}
use Rattle.lines.specs.declared.dot.Word.{Word}
use Rattle.lines.specs.declared.dot.Word.TheVariants as word

-- the words that answer a file's lines, insert its rows, or write what makes one
abbrev pub filing_word : List ℕ → Option Word
filing_word text =
    if bytes_eq text (codes ".dump") then Some word.Dump
    else (if bytes_eq text (codes ".read") then Some word.Read
    else (if bytes_eq text (codes ".import") then Some word.Import
    else None))

-- the words that show something by its name, or a plan
abbrev pub showing_word : List ℕ → Option Word
showing_word text =
    if bytes_eq text (codes ".show") then Some word.Show
    else (if bytes_eq text (codes ".leaf") then Some word.Leaf
    else (if bytes_eq text (codes ".plan") then Some word.Plan
    else filing_word text))

-- the words that tell of the database
abbrev pub telling_word : List ℕ → Option Word
telling_word text =
    if bytes_eq text (codes ".tables") then Some word.Tables
    else (if bytes_eq text (codes ".schema") then Some word.Schema
    else (if bytes_eq text (codes ".leaves") then Some word.Leaves
    else (if bytes_eq text (codes ".catalog") then Some word.Catalog
    else (if bytes_eq text (codes ".stats") then Some word.Stats
    else showing_word text))))

-- each word
abbrev pub word_of : List ℕ → Option Word
word_of text =
    if bytes_eq text (codes ".help") then Some word.Help
    else (if bytes_eq text (codes ".quit") then Some word.Quit
    else (if bytes_eq text (codes ".timer") then Some word.Timer
    else (if bytes_eq text (codes ".mode") then Some word.Mode
    else telling_word text)))

-- a word alone has nothing behind it
abbrev pub parts_of : Option (List ℕ × List ℕ) → List ℕ → Option Word × List ℕ
parts_of (Some parts) line = (word_of parts.0, parts.1)
parts_of None line = (word_of line, [])

-- the word of a line, if it is one, and what stands behind it and its space
abbrev pub read : List ℕ → Option Word × List ℕ
read line = parts_of (cut 32 line) line

-- the mode of a name
abbrev pub mode_named : List ℕ → Option Mode
mode_named name =
    if bytes_eq name (codes "tabs") then Some mode.Tabs
    else (if bytes_eq name (codes "columns") then Some mode.Columns
    else (if bytes_eq name (codes "csv") then Some mode.Csv
    else (if bytes_eq name (codes "json") then Some mode.Json
    else None)))

-- on or off
abbrev pub switch_named : List ℕ → Option Bool
switch_named name = if bytes_eq name (codes "on") then Some true else (if bytes_eq name (codes "off") then Some false else None)
