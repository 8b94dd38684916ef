-- Lemmas on the lines of a script of schedules.
use Rattle.std.proofs.Common.{◌≡◌, ◌<◌, ◌+◌, ◌++◌, ◌∷◌, [], Bor, ℕ, true, List, length, map, drop, get_or, option_map, Option, Some, None, Result, Ok, Err, slice_get, ap, refl, sym, add-one, drop-cons, append_assoc, ◌∙◌, arith, rules}
use Rattle.std.specs.Char.{is_ascii_digit}
use Rattle.std.specs.List.{list_all}
use Rattle.std.specs.Option.{option_and_then}
use Rattle.std.specs.Result.{result_ok}
use Rattle.std.specs.Str.{IsUtf8, is_utf8}
use Rattle.std.specs.Str.Parse.{ParsesUnsigned, digits_value}
use Rattle.std.proofs.lemmas.Grind.{common_steps}
use Rattle.std.proofs.lemmas.Str.{is_utf8-from_IsUtf8}
use Rattle.std.proofs.lemmas.Str.Parse.{IsNumeralModel, numerals_by_value, parse_digits}
use Rattle.lines.specs.declared.play_script.Line.TheVariants.{Malformed}
use Rattle.lines.specs.PlayScript.{number_of, numbers_of, reading_by_first, reading_of}
use Rattle.lines.proofs.ScriptLemmas.{is_utf8-false}

-- a line of bytes that are no text, and a line of text
pub reading_of-bytes : (line : List ℕ) → ¬ (IsUtf8 line) → reading_of line ≡ Malformed
reading_of-bytes line h = rw (is_utf8-false line (is_utf8 line) refl h) refl

pub reading_of-text : (line : List ℕ) → IsUtf8 line → reading_of line ≡ reading_by_first (slice_get line 0) line
reading_of-text line h = let e = is_utf8-from_IsUtf8 line h in rw e refl

-- the texts of digits, and what they write
own : IsNumeralModel (λ ds. list_all is_ascii_digit ds ≡ true) (digits_value 10)
own = numerals_by_value _ (search rules)

-- what a number is parsed as
pub number_of-parsed : {E : Type 0} (word : List ℕ) (r : Result ℕ E) → ParsesUnsigned 64 10 word r → list_all is_ascii_digit word ≡ true → result_ok r ≡ number_of word
number_of-parsed {E} word (Ok n) h digits = let k = parse_digits own {E = E} 64 word (Ok n) h digits in grind (arith, common_steps, k, digits)
number_of-parsed {E} word (Err e) h digits = let k = parse_digits own {E = E} 64 word (Err e) h digits in grind (arith, common_steps, k, digits)

-- numbers so far, and those of the words that are left
left_over : (done : List ℕ) (number : Option ℕ) (n : ℕ) (more : Option (List ℕ)) → number ≡ Some n → option_map (λ (rest : List ℕ). (done ++ n ∷ []) ++ rest) more ≡ option_map (λ (rest : List ℕ). done ++ rest) (option_and_then (λ m. option_map (λ (rest : List ℕ). m ∷ rest) more) number)
left_over done number n None is = rw is refl
left_over done number n (Some more) is = rw (is, append_assoc) refl

no_more : (done : List ℕ) (number : Option ℕ) (more : Option (List ℕ)) → number ≡ None → option_map (λ (rest : List ℕ). done ++ rest) (option_and_then (λ m. option_map (λ (rest : List ℕ). m ∷ rest) more) number) ≡ None
no_more done number more is = rw is refl

pub numbers_of-next : (done : List ℕ) (words : List (Bor (List ℕ))) (i : ℕ) (d : Bor (List ℕ)) (n : ℕ) (all : Option (List ℕ)) → i < length words → Some n ≡ number_of (get_or words i d).now → option_map (λ more. done ++ more) (numbers_of (map (λ word. word.now) (drop i words))) ≡ all → option_map (λ more. (done ++ n ∷ []) ++ more) (numbers_of (map (λ word. word.now) (drop (i + 1) words))) ≡ all
numbers_of-next done words i d n all within is so_far =
    let here : drop i words ≡ get_or words i d ∷ drop (i + 1) words = rw (add-one, drop-cons words i d) refl in
    left_over done (number_of (get_or words i d).now) n (numbers_of (map (λ word. word.now) (drop (i + 1) words))) (sym is)
    ∙ ap (λ rest. option_map (λ more. done ++ more) (numbers_of (map (λ word. word.now) rest))) (sym here) ∙ so_far

pub numbers_of-none : (done : List ℕ) (words : List (Bor (List ℕ))) (i : ℕ) (d : Bor (List ℕ)) (all : Option (List ℕ)) → i < length words → None ≡ number_of (get_or words i d).now → option_map (λ more. done ++ more) (numbers_of (map (λ word. word.now) (drop i words))) ≡ all → None ≡ all
numbers_of-none done words i d all within is so_far =
    let here : drop i words ≡ get_or words i d ∷ drop (i + 1) words = rw (add-one, drop-cons words i d) refl in
    sym (no_more done (number_of (get_or words i d).now) (numbers_of (map (λ word. word.now) (drop (i + 1) words))) (sym is))
    ∙ ap (λ rest. option_map (λ more. done ++ more) (numbers_of (map (λ word. word.now) rest))) (sym here) ∙ so_far
