-- What the reader accepts fits its column.
use Rattle.std.proofs.Common.{◌≡◌, ℕ, ◌<◌, false, List, [], ◌∷◌, ◌++◌, inl, inr, sym, subst, arith}
use Rattle.std.specs.Char.{is_ascii_control}
use Rattle.std.specs.List.{AllByRecursion}
use Rattle.std.specs.Str.{chars}
use Rattle.std.proofs.Math.Utf8.{encode, encodes}
use Rattle.std.proofs.lemmas.Bool.{cases_lt}
use Rattle.std.proofs.lemmas.Bool.Decides.{nat_tests}
use Rattle.std.proofs.lemmas.List.Elements.{All-from_recursion}
use Rattle.std.proofs.lemmas.Str.{encode_ascii, encodes-chars}
use Rattle.terms.specs.Text.{IsPrintable, IsTextUpTo}
use Rattle.reader.specs.Tokens.{IsTextValue}

pub both_parts : {A : Type 0} (P : A → Type 0) (xs ys : List A) → AllByRecursion P (xs ++ ys) → AllByRecursion P xs × AllByRecursion P ys
both_parts P [] ys all = (tt, all)
both_parts P (x ∷ xs) ys all = let rest = both_parts P xs ys all.1 in ((all.0, rest.0), rest.1)

control_low : (c : ℕ) → c < 32 → is_ascii_control c ≡ false → ⊥
control_low c low h = grind (arith, nat_tests)

control_is : (c : ℕ) → is_ascii_control c ≡ false → IsPrintable c
control_is c h =
    elim (cases_lt c 32) [
      | inl low ↦ absurd (control_low c low h)
      | inr high ↦ (high, λ is. let P : ℕ → Type 0 = λ n. is_ascii_control n ≡ false in cc (subst P is h))
    ]

-- no control byte, no control character
printable_chars : (cs : List ℕ) → AllByRecursion (λ b. is_ascii_control b ≡ false) (encodes cs) → AllByRecursion IsPrintable cs
printable_chars [] all = tt
printable_chars (c ∷ cs) all =
    let parts = both_parts (λ b. is_ascii_control b ≡ false) (encode c) (encodes cs) all in (
      elim (cases_lt c 128) [
        | inl ascii ↦ let P : List ℕ → Type 0 = AllByRecursion (λ b. is_ascii_control b ≡ false) in control_is c (subst P (encode_ascii c ascii) parts.0).0
        | inr above ↦ (omega arith, λ is. omega (arith, is))
      ],
      printable_chars cs parts.1,
    )

-- what a text says fits a column
pub fits_text : (bytes : List ℕ) → IsTextValue bytes → IsTextUpTo 200 bytes
fits_text bytes is = record {
  short = is.is_short;
  utf8 = is.is_utf8;
  printable = All-from_recursion IsPrintable (chars bytes) (printable_chars (chars bytes) (let P : List ℕ → Type 0 = AllByRecursion (λ b. is_ascii_control b ≡ false) in subst P (sym (encodes-chars bytes is.is_utf8)) is.is_printable));
}
