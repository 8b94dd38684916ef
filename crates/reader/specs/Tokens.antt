-- Which bytes are which tokens.
use Rattle.std.specs.Prelude.{◌≡◌, ℕ, ◌≤◌, ◌-◌, ◌^◌, min, Bool, true, false, ◌==◌, ◌||◌, if◌then◌else◌, List, [], ◌∷◌, ◌++◌, length, map, IsUtf8, ⊤}
use Rattle.std.specs.Char.{to_ascii_lowercase, is_ascii_uppercase, is_ascii_control}
use Rattle.std.specs.List.{AllByRecursion}
use Rattle.std.specs.Str.{byte}
use Rattle.std.specs.Str.Parse.{IsNumeral, digits_value}
use Rattle.reader.specs.declared.class.Class.TheVariants.{Blank, Letter, WordByte, Digit}
use Rattle.reader.specs.declared.keyword.Keyword.{Keyword}
use Rattle.reader.specs.declared.sign.Sign.{Sign}
use Rattle.reader.specs.declared.sign.Sign.TheVariants.{Comma, Dot, Open, Close, Equal, NotEqual, Less, LessOrEqual, Greater, GreaterOrEqual, Plus, Minus, Star, Semicolon}
use Rattle.reader.specs.Class.{is_in, AreAll}
use Rattle.reader.specs.Keyword.{keyword_text}
use Rattle.reader.specs.Sign.{sign_text}
use Rattle.reader.specs.Symbol.{Symbol, key, sign, name, number, text}

-- a letter, and after it letters, digits and underscores
abbrev pub IsWord : List ℕ → Type 0
IsWord [] = ⊥
IsWord (first ∷ others) = (is_in Letter first ≡ true) × AreAll WordByte others

-- the bytes are the letters of the other text, each in either case
abbrev pub IsInAnyCase : List ℕ → List ℕ → Type 0
IsInAnyCase bytes other = map to_ascii_lowercase bytes ≡ map to_ascii_lowercase other

-- the bytes are a name: a short word without capitals that is no keyword
pub record IsName (bytes : List ℕ) : Type 0 where
  pub is_word : IsWord bytes
  pub has_no_capital : AllByRecursion (λ b. is_ascii_uppercase b ≡ false) bytes
  pub is_no_keyword : (word : Keyword) → ¬ (IsInAnyCase bytes (keyword_text word))
  pub is_short : length bytes ≤ 24

-- the bytes can be what a text says: no control character (below 32, or 127), UTF-8, and not too many
pub record IsTextValue (bytes : List ℕ) : Type 0 where
  pub is_printable : AllByRecursion (λ b. is_ascii_control b ≡ false) bytes
  pub is_utf8 : IsUtf8 bytes
  pub is_short : length bytes ≤ 200

-- the number that digits write, cut at the largest of 64 bits
abbrev pub magnitude_of_digits : List ℕ → ℕ
magnitude_of_digits digits = min (digits_value 10 digits) (2 ^ 64 - 1)

-- the byte that a text begins and ends with: '
abbrev pub quote : ℕ
quote = 39

-- each quote of the value doubled
abbrev pub doubled : List ℕ → List ℕ
doubled [] = []
doubled (b ∷ bs) = if b == quote then quote ∷ quote ∷ doubled bs else b ∷ doubled bs

-- the value as a text writes it, in quotes
abbrev pub quoted : List ℕ → List ℕ
quoted value = quote ∷ doubled value ++ quote ∷ []

-- the bytes write the token
abbrev pub Spells : List ℕ → Symbol → Type 0
Spells bytes (key word) = IsWord bytes × IsInAnyCase bytes (keyword_text word)
Spells bytes (sign mark) = bytes ≡ sign_text mark
Spells bytes (name letters) = (bytes ≡ letters) × IsName letters
Spells bytes (number magnitude) = IsNumeral 10 bytes × (magnitude_of_digits bytes ≡ magnitude)
Spells bytes (text value) = (bytes ≡ quoted value) × IsTextValue value

-- whether a longer sign has the byte after this one
abbrev pub sign_goes_on : Sign → ℕ → Bool
sign_goes_on Less b = b == byte "=" || b == byte ">"
sign_goes_on Greater b = b == byte "="
sign_goes_on Comma b = false
sign_goes_on Dot b = false
sign_goes_on Open b = false
sign_goes_on Close b = false
sign_goes_on Equal b = false
sign_goes_on NotEqual b = false
sign_goes_on LessOrEqual b = false
sign_goes_on GreaterOrEqual b = false
sign_goes_on Plus b = false
sign_goes_on Minus b = false
sign_goes_on Star b = false
sign_goes_on Semicolon b = false

-- whether a byte after the token would make it longer
abbrev pub goes_on : Symbol → ℕ → Bool
goes_on (key word) b = is_in WordByte b
goes_on (sign mark) b = sign_goes_on mark b
goes_on (name letters) b = is_in WordByte b
goes_on (number magnitude) b = is_in Digit b
goes_on (text value) b = b == quote

-- the bytes are at an end, or begin with one that does not go on
abbrev pub Stops : (ℕ → Bool) → List ℕ → Type 0
Stops goes [] = ⊤
Stops goes (b ∷ bs) = goes b ≡ false

-- the bytes begin with the token, in as many of them as can be, and the rest follows
pub record Begins (bytes : List ℕ) (token : Symbol) (rest : List ℕ) : Type 0 where
  pub lexeme : List ℕ
  pub parts : bytes ≡ lexeme ++ rest
  pub spells : Spells lexeme token
  pub ends : Stops (goes_on token) rest

-- the bytes are the tokens, with blanks around
abbrev pub AreTokens : List ℕ → List Symbol → Type 0
AreTokens bytes [] = AreAll Blank bytes
AreTokens bytes (token ∷ others) =
    (blanks middle rest : List ℕ) × (bytes ≡ blanks ++ middle) × AreAll Blank blanks × Begins middle token rest × AreTokens rest others

-- The law: bytes are one list of tokens at most.
abbrev pub OneListOfTokens : Type 0
OneListOfTokens = (bytes : List ℕ) (one other : List Symbol) → AreTokens bytes one → AreTokens bytes other → one ≡ other
