-- Digits, and the number that they write.
use Rattle.std.proofs.Common.{◌≡◌, ℕ, ◌+◌, ◌-◌, ◌*◌, ◌^◌, ◌<◌, min, true, List, [], ◌∷◌, length, get_or, take, arith, leb-true}
use Rattle.std.specs.Int.{IsInRange}
use Rattle.std.specs.Str.Parse.{AllDigits, digits_value}
use Rattle.std.proofs.lemmas.Bool.{and_parts, and_from, le-leb}
use Rattle.std.proofs.lemmas.List.Elements.{All-from_recursion}
use Rattle.std.proofs.lemmas.Int.Digits.{digits_value_more}
use Rattle.std.proofs.lemmas.Str.{digit_value_digit}
use Rattle.std.proofs.lemmas.Str.Parse.{digit_from_value}
use Rattle.reader.specs.declared.class.Class.TheVariants.{Digit}
use Rattle.reader.specs.Class.{is_in, AreAll}
use Rattle.reader.specs.Tokens.{magnitude_of_digits}

pub digit_range : (b : ℕ) → is_in Digit b ≡ true → IsInRange 48 57 b
digit_range b h = let p = and_parts _ _ h in (leb-true _ _ p.0, leb-true _ _ p.1)

digit_in_class : (b : ℕ) → IsInRange 48 57 b → is_in Digit b ≡ true
digit_in_class b h = and_from _ _ (le-leb _ _ h.0) (le-leb _ _ h.1)

pub digit_at : (digits : List ℕ) (i : ℕ) → AreAll Digit digits → i < length digits → IsInRange 48 57 (get_or digits i 0)
digit_at digits i all within = digit_range _ (All-from_recursion (λ b. is_in Digit b ≡ true) digits all i 0 within)

pub AllDigits-from_class : (digits : List ℕ) → AreAll Digit digits → AllDigits 10 digits
AllDigits-from_class [] all = tt
AllDigits-from_class (d ∷ digits) all =
    let range = digit_range d all.0 in
    let value = digit_value_digit d range in
    (omega arith, AllDigits-from_class digits all.1)

pub AreAll-from_digits : (digits : List ℕ) → AllDigits 10 digits → AreAll Digit digits
AreAll-from_digits [] all = tt
AreAll-from_digits (d ∷ digits) all = (digit_in_class d (digit_from_value d all.0), AreAll-from_digits digits all.1)

grown : (value magnitude digit units : ℕ) → magnitude ≡ min value (2 ^ 64 - 1) → units + 48 ≡ digit → min (min (magnitude * 10) (2 ^ 64 - 1) + (digit - 48)) (2 ^ 64 - 1) ≡ min (value * 10 + units) (2 ^ 64 - 1)
grown value magnitude digit units so_far read = omega arith

-- one digit more
pub magnitude_more : (digits : List ℕ) (i magnitude : ℕ) → AreAll Digit digits → i < length digits → magnitude ≡ magnitude_of_digits (take i digits)
    → min (min (magnitude * 10) (2 ^ 64 - 1) + (get_or digits i 0 - 48)) (2 ^ 64 - 1) ≡ magnitude_of_digits (take (i + 1) digits)
magnitude_more digits i magnitude all within so_far =
    rw digits_value_more (grown (digits_value 10 (take i digits)) magnitude (get_or digits i 0) _ so_far (digit_value_digit _ (digit_at digits i all within)))
