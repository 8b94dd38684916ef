-- What `.import` asks for in a session.
use Rattle.std.specs.Prelude.{ℕ, ◌-◌, ◌==◌, ◌||◌, if◌then◌else◌, nat_lt, List, drop, length, take, Option, None, Some, option_and_then, option_map}
use Rattle.std.specs.Char.{is_ascii_whitespace}
use Rattle.std.specs.List.{prefix_len, suffix_len}
use Rattle.commands.specs.declared.import_word.Asked.{Asked}
use Rattle.lines.specs.Cut.{cut}
use Rattle.lines.specs.PlayScript.{number_of}

-- a text without the blanks at its ends
abbrev pub trimmed_end : List ℕ → List ℕ
trimmed_end text = take (length text - suffix_len is_ascii_whitespace text) text

abbrev pub trimmed : List ℕ → List ℕ
trimmed text = trimmed_end (drop (prefix_len is_ascii_whitespace text) text)

-- how many rows a transaction may have
abbrev pub within : ℕ → Option ℕ
within number = if number == 0 || nat_lt 1_000_000 number then None else Some number

-- the number of rows that a word says
abbrev pub rows_in : List ℕ → Option ℕ
rows_in word = option_and_then within (number_of word)

-- a relation, and behind a space perhaps the number of rows that a transaction has; all where nothing is said
abbrev pub parted : List ℕ → Option (List ℕ × List ℕ) → Option (List ℕ × Option ℕ)
parted text None = Some (text, None)
parted text (Some parts) = option_map (λ many. (parts.0, Some many)) (rows_in (trimmed parts.1))

abbrev pub relation_in : List ℕ → Option (List ℕ × Option ℕ)
relation_in text = parted text (cut 32 text)

-- of that a file, where the relation has a name
abbrev pub filed : List ℕ → List ℕ × Option ℕ → Option (List ℕ × List ℕ × Option ℕ)
filed file parts = if length parts.0 == 0 then None else Some (file, parts.0, parts.1)

-- a file, and behind a space that relation and number
abbrev pub asked_in : List ℕ → Option (List ℕ × List ℕ × Option ℕ)
asked_in words = option_and_then (λ parts. option_and_then (filed parts.0) (relation_in (trimmed parts.1))) (cut 32 words)

abbrev pub asked_of : Asked → List ℕ × List ℕ × Option ℕ
asked_of asked = (asked.file.now, asked.relation.now, asked.many)
