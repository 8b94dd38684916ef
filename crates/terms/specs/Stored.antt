-- Parts as bytes: the one spelling of each, and how bytes are read from the left.
use Rattle.std.specs.Prelude.{◌≡◌, ◌≤◌, ◌<◌, ℕ, All, zero, suc, ◌-◌, nat_lt, nat_le, not, ◌==◌, List, [], ◌∷◌, ◌++◌, length, take, drop, Bool, ◌||◌, ◌&&◌, if◌then◌else◌, Result, Ok, Err, chars}
use Rattle.std.specs.Int.{w64, cast_unsigned, cast_signed, to_be_bytes, from_be_bytes}
use Rattle.std.specs.List.{flat_map, list_all, AllByRecursion}
use Rattle.std.specs.Str.{is_utf8}
use Rattle.terms.specs.declared.part_fault.PartFault.{PartFault}
use Rattle.terms.specs.declared.part_fault.PartFault.TheVariants.{Truncated, BadTag, BadText, Trailing, Memory}
use Rattle.terms.specs.declared.value.Value.{Value}
use Rattle.terms.specs.declared.value.Value.TheVariants.{Int, Text}
use Rattle.terms.specs.Value.{Fits}

-- the first value is an integer
abbrev pub HasKey : List Value → Type 0
HasKey [] = ⊥
HasKey (Int n ∷ values) = Unit {0}
HasKey (Text bytes ∷ values) = ⊥

-- a part that is stored: a key and up to 15 other values, which a database holds
pub record IsStorable (part : List Value) : Type 0 where
  pub key : HasKey part
  pub few : length part ≤ 16
  pub fit : AllByRecursion Fits part

-- of an integer a 1 and its eight bytes in two's complement, the highest first; of a text a 2, its length and its bytes
abbrev pub value_spelling : Value → List ℕ
value_spelling (Int n) = 1 ∷ to_be_bytes w64 (cast_unsigned w64 n)
value_spelling (Text bytes) = 2 ∷ length bytes ∷ bytes

-- how many values there are, and the values
abbrev pub spelling : List Value → List ℕ
spelling part = length part ∷ flat_map value_spelling part

infixl 10 ◌>>=◌
abbrev pub ◌>>=◌ : {A B : Type 0} → Result A PartFault → (A → Result B PartFault) → Result B PartFault
(Ok x) >>= f = f x
(Err fault) >>= f = Err fault

-- whether a character is no control character
abbrev pub is_printable : ℕ → Bool
is_printable char = nat_le 32 char && not (char == 127)

-- the bytes of a text, if they are characters and none is a control character
unfoldable pub printable_from : List ℕ → Result (List ℕ) PartFault
printable_from bytes = if is_utf8 bytes && list_all is_printable (chars bytes) then Ok bytes else Err BadText

-- Each of these reads one thing at the front of the bytes, and gives the bytes after it.
unfoldable pub int_from : List ℕ → Result (Value × List ℕ) PartFault
int_from bytes = if nat_lt (length bytes) 8 then Err Truncated else Ok (Int (cast_signed w64 (from_be_bytes w64 (take 8 bytes))), drop 8 bytes)

-- the text's length comes first: a length over 200 is told before its bytes are missed, and they before what is wrong in them
unfoldable pub text_from : List ℕ → Result (Value × List ℕ) PartFault
text_from [] = Err Truncated
text_from (len ∷ bytes) =
    if nat_lt 200 len then Err BadText
    else (if nat_lt (length bytes) len then Err Truncated
    else (printable_from (take len bytes) >>= λ text. Ok (Text text, drop len bytes)))

unfoldable pub key_from : List ℕ → Result (Value × List ℕ) PartFault
key_from [] = Err Truncated
key_from (tag ∷ bytes) = if tag == 1 then int_from bytes else Err BadTag

unfoldable pub value_from : List ℕ → Result (Value × List ℕ) PartFault
value_from [] = Err Truncated
value_from (tag ∷ bytes) = if tag == 1 then int_from bytes else (if tag == 2 then text_from bytes else Err BadTag)

-- so many values, one after the other
unfoldable pub values_from : ℕ → List ℕ → Result (List Value × List ℕ) PartFault
values_from zero bytes = Ok ([], bytes)
values_from (suc n) bytes = do
  first ← value_from bytes
  others ← values_from n first.1
  Ok (first.0 ∷ others.0, others.1)

-- values that were read already, and those that reading gives
abbrev pub behind : List Value → Result (List Value × List ℕ) PartFault → Result (List Value × List ℕ) PartFault
behind values read = read >>= λ others. Ok (values ++ others.0, others.1)

-- the part that the bytes spell, all of them; else the first fault from the left
unfoldable pub part_from : List ℕ → Result (List Value) PartFault
part_from [] = Err Truncated
part_from (count ∷ bytes) =
    if count == 0 || nat_lt 16 count then Err BadTag
    else (key_from bytes >>= λ key. behind (key.0 ∷ []) (values_from (count - 1) key.1) >>= λ part. if length part.1 == 0 then Ok part.0 else Err Trailing)

-- what a function answers, seen by a view, is what reading gives, unless memory ran out
abbrev pub Fails : {Y : Type 0} → PartFault → Result Y PartFault → Type 0
Fails Truncated read = read ≡ Err Truncated
Fails BadTag read = read ≡ Err BadTag
Fails BadText read = read ≡ Err BadText
Fails Trailing read = read ≡ Err Trailing
Fails Memory read = Unit {0}

abbrev pub Gives : {X Y : Type 0} → (X → Y) → Result X PartFault → Result Y PartFault → Type 0
Gives view (Ok x) read = read ≡ Ok (view x)
Gives view (Err fault) read = Fails fault read

-- a part that is stored is read again from its spelling
abbrev pub SpelledIsRead : Type 0
SpelledIsRead = (part : List Value) → IsStorable part → part_from (spelling part) ≡ Ok part

-- bytes that are read as a part are its spelling, and the part is one that is stored
abbrev pub ReadIsSpelled : Type 0
ReadIsSpelled = (bytes : List ℕ) (part : List Value) → All (λ byte. byte < 256) bytes → part_from bytes ≡ Ok part → IsStorable part × (spelling part ≡ bytes)
