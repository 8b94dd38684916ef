-- The lexer's own words, which a reader may skip: tokens read from left to right, as functions on lists.
use Rattle.std.specs.Prelude.{◌≡◌, ℕ, Bool, ◌==◌, nat_lt, if◌then◌else◌, List, [], ◌∷◌, length, drop, Option, Some, None, Result, Ok, Err, option_map, slice_index}
use Rattle.std.specs.Char.{is_ascii_uppercase, is_ascii_control}
use Rattle.std.specs.List.{find, list_any, starts_with}
use Rattle.std.specs.Bool.{nat_eq}
use Rattle.std.specs.Str.{is_utf8, str_eq_ignore_ascii_case}
use Rattle.reader.specs.declared.class.Class.TheVariants.{Letter, WordByte, Digit}
use Rattle.reader.specs.declared.fault.Rule.{Rule}
use Rattle.reader.specs.declared.fault.Rule.TheVariants as rules
use Rattle.reader.specs.declared.fault.ReadFault.{ReadFault}
use Rattle.reader.specs.declared.keyword.Keyword.{Keyword}
use Rattle.reader.specs.declared.keyword.TheConstants.{KEYWORDS}
use Rattle.reader.specs.declared.sign.Sign.{Sign}
use Rattle.reader.specs.declared.sign.TheConstants.{SIGNS}
use Rattle.reader.specs.Class.{is_in}
use Rattle.reader.specs.Keyword.{keyword_text}
use Rattle.reader.specs.Sign.{sign_text}
use Rattle.reader.specs.Symbol.{Symbol, key, sign, name, number, text}
use Rattle.reader.specs.Tokens.{quote, magnitude_of_digits}

-- the elements from the front on that pass
abbrev pub front : (ℕ → Bool) → List ℕ → List ℕ
front passes [] = []
front passes (b ∷ bs) = if passes b then b ∷ front passes bs else []

-- and what follows those
abbrev pub after : (ℕ → Bool) → List ℕ → List ℕ
after passes [] = []
after passes (b ∷ bs) = if passes b then after passes bs else b ∷ bs

-- A fault says that nothing is read; only that memory ran out says nothing.
abbrev pub Fails : {Y : Type 0} → Rule → Option Y → Type 0
Fails rules.Memory read = Unit {0}
Fails _ read = read ≡ None

-- What a function returned, seen by view, is what is read.
abbrev pub Gives : {X Y : Type 0} → (X → Y) → Result X ReadFault → Option Y → Type 0
Gives view (Ok x) read = read ≡ Some (view x)
Gives view (Err fault) read = Fails fault.rule read

-- the keyword that a word is
unfoldable pub keyword_of : List ℕ → Option Keyword
keyword_of word = find (λ k. str_eq_ignore_ascii_case word (keyword_text k)) KEYWORDS

-- the longest sign at the front
unfoldable pub sign_of : List ℕ → Option Sign
sign_of bytes = find (λ s. starts_with nat_eq bytes (sign_text s)) SIGNS

-- the name that a word is
unfoldable pub name_of : List ℕ → Option Symbol
name_of word = if list_any is_ascii_uppercase word then None else if nat_lt 24 (length word) then None else Some (name word)

-- the keyword that was found, or else the other token
abbrev pub keyword_or : Option Keyword → Option Symbol → Option Symbol
keyword_or (Some word) other = Some (key word)
keyword_or None other = other

-- the keyword or the name that a word is
unfoldable pub word_of : List ℕ → Option Symbol
word_of word = keyword_or (keyword_of word) (name_of word)

-- with the byte in front of the value
abbrev pub with_byte : ℕ → Option (List ℕ × List ℕ) → Option (List ℕ × List ℕ)
with_byte b read = option_map (λ x. (b ∷ x.0, x.1)) read

-- after the opening quote: the value up to the closing one, and what follows
unfoldable pub unquoted : List ℕ → Option (List ℕ × List ℕ)
unquoted [] = None
unquoted (b ∷ []) = if b == quote then Some ([], []) else None
unquoted (b ∷ c ∷ rest) =
    if b == quote
    then (if c == quote then with_byte quote (unquoted rest) else Some ([], c ∷ rest))
    else with_byte b (unquoted (c ∷ rest))

-- the text that a value is
unfoldable pub text_of : List ℕ → Option Symbol
text_of value =
    if nat_lt 200 (length value) then None
    else if is_utf8 value then (if list_any is_ascii_control value then None else Some (text value))
    else None

-- a token and what follows it
abbrev pub with_rest : List ℕ → Option Symbol → Option (Symbol × List ℕ)
with_rest rest read = option_map (λ t. (t, rest)) read

-- the text that was found between quotes, and what follows it
abbrev pub text_from : Option (List ℕ × List ℕ) → Option (Symbol × List ℕ)
text_from None = None
text_from (Some x) = with_rest x.1 (text_of x.0)

-- the text after its opening quote, and what follows it
unfoldable pub text_at : List ℕ → Option (Symbol × List ℕ)
text_at bytes = text_from (unquoted bytes)

-- the sign that was found at the front of the bytes, and what follows it
abbrev pub sign_from : List ℕ → Option Sign → Option (Symbol × List ℕ)
sign_from bytes None = None
sign_from bytes (Some s) = Some (sign s, drop (length (sign_text s)) bytes)

-- the token at the front, and what follows it
unfoldable pub token_at : List ℕ → Option (Symbol × List ℕ)
token_at bytes =
    if is_in Letter (slice_index bytes 0) then with_rest (after (is_in WordByte) bytes) (word_of (front (is_in WordByte) bytes))
    else if is_in Digit (slice_index bytes 0) then Some (number (magnitude_of_digits (front (is_in Digit) bytes)), after (is_in Digit) bytes)
    else if slice_index bytes 0 == quote then text_at (drop 1 bytes)
    else sign_from bytes (sign_of bytes)
