-- The test of a stored text's bytes is what a text is.
use Rattle.std.proofs.Common.{◌≡◌, ◌&&◌, ℕ, Bool, true, false, cond, List, All, Ok, Err, refl, arith, tests}
use Rattle.std.specs.List.{list_all}
use Rattle.std.specs.Str.{chars, IsUtf8, is_utf8}
use Rattle.std.proofs.lemmas.Bool.{and_parts, and_from, false_from_ne_true}
use Rattle.std.proofs.lemmas.List.Sums.{AllPass-from_list_all, list_all-from_AllPass}
use Rattle.std.proofs.lemmas.Str.{IsUtf8-from_is_utf8, is_utf8-from_IsUtf8}
use Rattle.terms.specs.declared.part_fault.PartFault.TheVariants.{BadText}
use Rattle.terms.specs.Text.{IsPrintable}
use Rattle.terms.specs.Stored.{is_printable, printable_from}

printable_char : (char : ℕ) → is_printable char ≡ true → IsPrintable char
printable_char char passes = grind (arith, tests)

char_printable : (char : ℕ) → IsPrintable char → is_printable char ≡ true
char_printable char is = grind (arith, tests)

-- characters that pass the test are no control characters
printable_chars : (text : List ℕ) → list_all is_printable text ≡ true → All IsPrintable text
printable_chars text pass k x below = printable_char _ (AllPass-from_list_all is_printable text pass k x below)

chars_printable : (text : List ℕ) → All IsPrintable text → list_all is_printable text ≡ true
chars_printable text all = list_all-from_AllPass is_printable text (λ k x below. char_printable _ (all k x below))

-- the bytes of a text are read as that text
pub printable_is : (bytes : List ℕ) → IsUtf8 bytes → All IsPrintable (chars bytes) → printable_from bytes ≡ Ok bytes
unfolding printable_from
printable_is bytes utf8 printable =
    let passes = and_from (is_utf8 bytes) (list_all is_printable (chars bytes)) (is_utf8-from_IsUtf8 bytes utf8) (chars_printable (chars bytes) printable) in
    rw passes refl

chosen_ok : (test : Bool) (bytes text : List ℕ) → cond test (Ok bytes) (Err BadText) ≡ Ok text → (test ≡ true) × (bytes ≡ text)
chosen_ok true bytes text e = (refl, cc)
chosen_ok false bytes text e = absurd cc

-- what is read as a text is its bytes
pub printable_ok : (bytes text : List ℕ) → printable_from bytes ≡ Ok text → (bytes ≡ text) × (IsUtf8 bytes × All IsPrintable (chars bytes))
unfolding printable_from
printable_ok bytes text e =
    let chose = chosen_ok (is_utf8 bytes && list_all is_printable (chars bytes)) bytes text e in
    let held = and_parts (is_utf8 bytes) (list_all is_printable (chars bytes)) chose.0 in
    (chose.1, (IsUtf8-from_is_utf8 bytes held.0, printable_chars (chars bytes) held.1))

-- bytes that are none of a text's are told as such
pub printable_not : (bytes : List ℕ) → (IsUtf8 bytes → All IsPrintable (chars bytes) → ⊥) → printable_from bytes ≡ Err BadText
unfolding printable_from
printable_not bytes bad =
    let fails : (is_utf8 bytes && list_all is_printable (chars bytes)) ≡ false = false_from_ne_true _ (λ pass. let held = and_parts (is_utf8 bytes) (list_all is_printable (chars bytes)) pass in bad (IsUtf8-from_is_utf8 bytes held.0) (printable_chars (chars bytes) held.1)) in
    rw fails refl
