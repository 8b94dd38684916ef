-- The value of a field in a column of a type.
use Rattle.std.specs.Prelude.{◌≡◌, ℕ, ℤ, Bool, ◌&&◌, ◌||◌, ◌==◌, not, nat_lt, nat_le, if◌then◌else◌, List, length, drop, Result, Ok, Err}
use Rattle.std.specs.Char.{is_ascii_control, is_ascii_digit}
use Rattle.std.specs.List.{list_all, list_any}
use Rattle.std.specs.Str.{is_utf8}
use Rattle.std.specs.Str.Parse.{digits_value, starts_with_minus}
use Rattle.terms.specs.declared.value.Kind.{Kind}
use Rattle.terms.specs.declared.value.Kind.TheVariants as kinds
use Rattle.terms.specs.declared.value.Value.{Value}
use Rattle.terms.specs.declared.value.Value.TheVariants as values
use Rattle.reader.specs.Names.{greatest, signed}
use Rattle.exchange.specs.declared.field.FieldFault.{FieldFault}
use Rattle.exchange.specs.declared.field.FieldFault.TheVariants.{NoInteger, TooLarge, TooLong, NoText, Memory}

-- what is answered is what is meant; that memory ran out says nothing
abbrev pub IsAnswer : {X : Type 0} → Result X FieldFault → Result X FieldFault → Type 0
IsAnswer (Err Memory) meant = Unit {0}
IsAnswer answer meant = answer ≡ meant

-- one digit or more, and nothing else
abbrev pub is_numeral : List ℕ → Bool
is_numeral bytes = not (length bytes == 0) && list_all is_ascii_digit bytes

-- what follows a minus, if there is one
abbrev pub digits_of : List ℕ → List ℕ
digits_of field = if starts_with_minus field then drop 1 field else field

-- an integer with its sign, where 64 bits hold it
abbrev pub integer_within : Bool → ℕ → Result ℤ FieldFault
integer_within is_negative magnitude = if nat_le magnitude (greatest is_negative) then Ok (signed is_negative magnitude) else Err TooLarge

-- an integer: a minus or nothing, and then digits
abbrev pub integer_of : List ℕ → Result ℤ FieldFault
integer_of field = if is_numeral (digits_of field) then integer_within (starts_with_minus field) (digits_value 10 (digits_of field)) else Err NoInteger

-- a text: at most 200 bytes of UTF-8 with no control character
abbrev pub text_of : List ℕ → Result (List ℕ) FieldFault
text_of field =
    if nat_lt 200 (length field) then Err TooLong
    else if list_any is_ascii_control field || not (is_utf8 field) then Err NoText
    else Ok field

-- an answer's value, made of its content
abbrev pub made : {X Y : Type 0} → (X → Y) → Result X FieldFault → Result Y FieldFault
made make (Ok x) = Ok (make x)
made make (Err fault) = Err fault

-- the value that a field is in a column of a type
abbrev pub value_of : Kind → List ℕ → Result Value FieldFault
value_of kinds.Int field = made values.Int (integer_of field)
value_of kinds.Text field = made values.Text (text_of field)
