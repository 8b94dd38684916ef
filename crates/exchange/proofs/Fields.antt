-- What bytes are integers and texts.
use Rattle.std.proofs.Common.{◌≡◌, ℕ, ◌<◌, ◌≤◌, ◌==◌, true, false, not, List, [], ◌∷◌, length, drop, get_or, nat_le, Result, Ok, Err, ℤ, Bool, zero, suc, lit<, arith, ap, refl, sym, subst, ◌∙◌, inl, inr, eqb-true, leb-true}
use Rattle.std.specs.Char.{is_ascii_control, is_ascii_digit}
use Rattle.std.specs.Int.{IsInRange, w64}
use Rattle.std.specs.List.{list_all, list_any}
use Rattle.std.specs.Result.{OkIff, result_or}
use Rattle.std.specs.Str.{IsUtf8, IsAscii, is_utf8}
use Rattle.std.specs.Str.Parse.{ParsesSigned, digits_value, starts_with_minus}
use Rattle.std.proofs.lemmas.Bool.{cases_Bool, and_parts, and_from, cases_lt, le-leb, le-ltb, lt-ltb}
use Rattle.std.proofs.lemmas.Str.{IsUtf8-from_ascii, IsUtf8-from_is_utf8, is_utf8-from_IsUtf8}
use Rattle.std.proofs.lemmas.Str.Parse.{IsDigitsTest, IsNumeralModel, numerals_by_value, parse_signed_minus, parse_signed_plain}
use Rattle.terms.specs.Text.{IsTextUpTo}
use Rattle.reader.specs.Names.{greatest, signed}
use Rattle.reader.proofs.Fits.{fits_text}
use Rattle.reader.proofs.Words.{none_passes}
use Rattle.exchange.specs.declared.field.FieldFault.TheVariants.{TooLarge, NoText}
use Rattle.exchange.specs.Field.{is_numeral, digits_of, integer_within, integer_of, text_of}

digit_range : (b : ℕ) → is_ascii_digit b ≡ true → IsInRange 48 57 b
digit_range b h = let p = and_parts _ _ h in (leb-true _ _ p.0, leb-true _ _ p.1)

digit_from_range : (b : ℕ) → IsInRange 48 57 b → is_ascii_digit b ≡ true
digit_from_range b h = and_from _ _ (le-leb _ _ h.0) (le-leb _ _ h.1)

tells_digits : IsDigitsTest (λ digits. list_all is_ascii_digit digits ≡ true)
tells_digits = record {
  empty = refl;
  parts = λ c cs all. (let p = and_parts _ _ all in (digit_range c p.0, p.1));
  more = λ c cs range all. and_from _ _ (digit_from_range c range) all;
}

own : IsNumeralModel (λ digits. list_all is_ascii_digit digits ≡ true) (digits_value 10)
own = numerals_by_value _ tells_digits

-- ---- digits are text

ascii_digits : (digits : List ℕ) → list_all is_ascii_digit digits ≡ true → IsAscii digits
ascii_digits [] all i = lit< tt
ascii_digits (d ∷ digits) all zero = let range = digit_range d (and_parts _ _ all).0 in omega arith
ascii_digits (d ∷ digits) all (suc i) = ascii_digits digits (and_parts _ _ all).1 i

ascii_behind : (field : List ℕ) → starts_with_minus field ≡ true → IsAscii (drop 1 field) → IsAscii field
ascii_behind [] minus ascii i = lit< tt
ascii_behind (b ∷ field) minus ascii zero = let e = eqb-true b 45 minus in omega arith
ascii_behind (b ∷ field) minus ascii (suc i) = ascii i

-- a field whose digits are digits is text
pub numeral_is_text : (field : List ℕ) → is_numeral (digits_of field) ≡ true → IsUtf8 field
numeral_is_text field all = elim (cases_Bool (starts_with_minus field)) [
  | inl minus ↦ IsUtf8-from_ascii field (ascii_behind field minus (ascii_digits (drop 1 field) (and_parts _ _ (rw minus at all)).1))
  | inr plain ↦ IsUtf8-from_ascii field (ascii_digits field (and_parts _ _ (rw plain at all)).1)
]

-- ---- what is parsed

-- a number that is read exactly where it is in bounds
read_within : {E : Type 0} (is_negative : Bool) (magnitude : ℕ) (read : Result ℤ E) (Reads : Type 0) → (magnitude ≤ greatest is_negative → Reads) → (Reads → magnitude ≤ greatest is_negative) → OkIff read Reads (signed is_negative magnitude)
    → result_or read (Err TooLarge) ≡ integer_within is_negative magnitude
read_within is_negative magnitude (Ok number) Reads from to parses = ap Ok parses.1 ∙ sym (rw (le-leb _ _ (to parses.0)) refl)
read_within is_negative magnitude (Err e) Reads from to parses = elim (cases_Bool (nat_le magnitude (greatest is_negative))) [
  | inl within ↦ absurd (parses (from (leb-true _ _ within)))
  | inr beyond ↦ rw beyond refl
]

not_empty : (bytes : List ℕ) → not (length bytes == 0) ≡ true → 0 < length bytes
not_empty [] some = absurd (let h : false ≡ true = some in cc)
not_empty (b ∷ bytes) some = omega arith

first_digit : (field : List ℕ) → is_numeral field ≡ true → IsInRange 48 57 (get_or field 0 0)
first_digit [] all = absurd (let h : false ≡ true = all in cc)
first_digit (b ∷ field) all = digit_range b (and_parts (is_ascii_digit b) (list_all is_ascii_digit field) (and_parts _ _ all).1).0

-- what is read of a field whose digits are digits
pub integer_parsed : {E : Type 0} (field : List ℕ) (read : Result ℤ E) → is_numeral (digits_of field) ≡ true → ParsesSigned w64 10 field read → result_or read (Err TooLarge) ≡ integer_of field
integer_parsed field read all parses = elim (cases_Bool (starts_with_minus field)) [
  | inl minus ↦
      let digits = rw minus at all in
      let parts = and_parts _ _ digits in
      read_within true (digits_value 10 (drop 1 field)) read _ (λ within. (parts.1, not_empty _ parts.0, within)) (λ reads. reads.2) (parse_signed_minus own w64 field read parses (eqb-true _ _ minus)) ∙ sym (rw (minus, digits) refl)
  | inr plain ↦
      let digits = rw plain at all in
      let parts = and_parts _ _ digits in
      let first : IsInRange 48 57 (get_or field 0 0) = first_digit field digits in
      read_within false (digits_value 10 field) read _ (λ within. (parts.1, not_empty _ parts.0, omega (arith, within))) (λ reads. let below = reads.2 in omega arith)
      (parse_signed_plain own w64 field read parses (λ is. omega (arith, is, first)) (λ is. omega (arith, is, first))) ∙ sym (rw (plain, digits) refl)
]

-- ---- texts

pub no_text : (field : List ℕ) → length field ≤ 200 → ¬ (IsUtf8 field) → Err NoText ≡ text_of field
no_text field short not_utf8 = elim (cases_Bool (is_utf8 field)) [
  | inl utf8 ↦ absurd (not_utf8 (IsUtf8-from_is_utf8 field utf8))
  | inr other ↦ elim (cases_Bool (list_any is_ascii_control field)) [
    | inl control ↦ rw (le-ltb _ _ short, control) refl
    | inr printable ↦ rw (le-ltb _ _ short, printable, other) refl
  ]
]

pub text_is : (field : List ℕ) → length field ≤ 200 → IsUtf8 field → list_any is_ascii_control field ≡ false → text_of field ≡ Ok field
text_is field short utf8 printable = rw (le-ltb _ _ short, printable, is_utf8-from_IsUtf8 field utf8) refl

-- what is a text fits a column
pub text_fits : (field bytes : List ℕ) → text_of field ≡ Ok bytes → IsTextUpTo 200 bytes
text_fits field bytes is = elim (cases_lt 200 (length field)) [
  | inl long ↦ absurd (let h = rw (lt-ltb _ _ long) at is in cc)
  | inr short ↦ elim (cases_Bool (list_any is_ascii_control field)) [
    | inl control ↦ absurd (let h = rw (le-ltb _ _ short, control) at is in cc)
    | inr printable ↦ elim (cases_Bool (is_utf8 field)) [
      | inl utf8 ↦
          let same : field ≡ bytes = let h = rw (le-ltb _ _ short, printable, utf8) at is in cc in
          subst (IsTextUpTo 200) same (fits_text field (record { is_printable = none_passes is_ascii_control field printable; is_utf8 = IsUtf8-from_is_utf8 field utf8; is_short = short }))
      | inr other ↦ absurd (let h = rw (le-ltb _ _ short, printable, other) at is in cc)
    ]
  ]
]
