-- A keyword that is all of a text.
use Rattle.std.specs.Prelude.{ℕ, ◌==◌, ◌&&◌, Bool, true, false, if◌then◌else◌, List, [], ◌∷◌, Option, None}
use Rattle.reader.specs.declared.class.Class.TheVariants.{Blank, WordByte}
use Rattle.reader.specs.declared.keyword.Keyword.{Keyword}
use Rattle.reader.specs.Class.{is_in}
use Rattle.reader.specs.Reading.{front, after, keyword_of}

-- nothing
abbrev pub is_empty : List ℕ → Bool
is_empty [] = true
is_empty (byte ∷ bytes) = false

-- nothing but blanks
abbrev pub is_blank : List ℕ → Bool
is_blank bytes = is_empty (after (is_in Blank) bytes)

-- nothing, or one semicolon (59) with blanks after it
abbrev pub is_semicolon_or_nothing : List ℕ → Bool
is_semicolon_or_nothing [] = true
is_semicolon_or_nothing (byte ∷ bytes) = byte == 59 && is_blank bytes

-- an end of a command: perhaps one semicolon, with blanks around
abbrev pub is_end : List ℕ → Bool
is_end bytes = is_semicolon_or_nothing (after (is_in Blank) bytes)

-- the keyword that is all of a text without blanks before it, up to its end
abbrev pub keyword_here : List ℕ → Option Keyword
keyword_here text = if is_end (after (is_in WordByte) text) then keyword_of (front (is_in WordByte) text) else None

-- the keyword that is all of a text, with blanks around and perhaps a semicolon
abbrev pub keyword_alone : List ℕ → Option Keyword
keyword_alone text = keyword_here (after (is_in Blank) text)
