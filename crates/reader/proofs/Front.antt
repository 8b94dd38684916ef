-- The token at the front: what is read is spelled so, and what is spelled so is read.
use Rattle.std.proofs.Common.{◌≡◌, ℕ, ◌<◌, Bool, true, false, cond, ◌||◌, ◌==◌, ◌⊎◌, List, [], ◌∷◌, ◌++◌, length, drop, Option, Some, None, nat_lt, refl, sym, ap, subst, ◌∙◌, append_assoc, arith, inl, inr, ltb-false, le-ltb, length-append, drop_at, eqb-true}
use Rattle.std.specs.Char.{is_ascii_control}
use Rattle.std.specs.Int.{is_in_range}
use Rattle.std.specs.List.{list_any}
use Rattle.std.specs.Str.{is_utf8}
use Rattle.std.specs.Str.Parse.{IsNumeral}
use Rattle.std.proofs.lemmas.Bool.{cases_Bool, or_cases, lt-leb}
use Rattle.std.proofs.lemmas.Option.{some_pair_parts}
use Rattle.std.proofs.lemmas.Str.{is_utf8-from_IsUtf8, IsUtf8-from_is_utf8}
use Rattle.reader.specs.declared.class.Class.TheVariants.{Blank, Letter, WordByte, Digit}
use Rattle.reader.specs.declared.sign.Sign.{Sign}
use Rattle.reader.specs.declared.sign.Sign.TheVariants.{Comma, Dot, Open, Close, Equal, NotEqual, Less, LessOrEqual, Greater, GreaterOrEqual, Plus, Minus, Star, Semicolon}
use Rattle.reader.specs.Class.{is_in, AreAll}
use Rattle.reader.specs.Sign.{sign_text}
use Rattle.reader.specs.Symbol.{Symbol, key, sign, name, number, text}
use Rattle.reader.specs.Tokens.{IsWord, IsTextValue, Spells, Stops, Begins, goes_on, quoted, doubled, magnitude_of_digits}
use Rattle.reader.specs.Reading.{front, after, word_of, sign_of, text_of, text_at, token_at, with_rest, text_from, sign_from, unquoted}
use Rattle.reader.proofs.Runs.{front-after, front_passes, after_stops, front-append, after-append}
use Rattle.reader.proofs.Digits.{digit_range, AllDigits-from_class, AreAll-from_digits}
use Rattle.reader.proofs.Words.{none_passes, list_any-none, word_takes, key_again, name_again}
use Rattle.reader.proofs.Signs.{sign_front, sign_ends, sign_again}
use Rattle.reader.proofs.Quotes.{unquoted_takes, unquoted_again}

-- which way a test went
chosen : {A : Type 0} (b : Bool) (x y z : A) → cond b x y ≡ z → ((b ≡ true) × (x ≡ z)) ⊎ ((b ≡ false) × (y ≡ z))
chosen true x y z e = inl (refl, e)
chosen false x y z e = inr (refl, e)

with_rest_some : (behind : List ℕ) (read : Option Symbol) (t : Symbol) (rest : List ℕ) → with_rest behind read ≡ Some (t, rest) → (read ≡ Some t) × (behind ≡ rest)
with_rest_some behind None t rest e = absurd cc
with_rest_some behind (Some s) t rest e = let p = some_pair_parts s t behind rest e in (ap (λ (x : Symbol). Some x) p.0, p.1)

-- ---- words

widened : (digit upper lower other : Bool) → (upper || lower) ≡ true → (((digit || upper) || lower) || other) ≡ true
widened true upper lower other e = refl
widened false true lower other e = refl
widened false false true other e = refl
widened false false false other e = absurd cc

letter_in_word : (b : ℕ) → is_in Letter b ≡ true → is_in WordByte b ≡ true
letter_in_word b letter = widened (is_in_range 48 57 b) (is_in_range 65 90 b) (is_in_range 97 122 b) (b == 95) letter

IsWord-front : (b : ℕ) (bytes : List ℕ) → is_in Letter b ≡ true → IsWord (front (is_in WordByte) (b ∷ bytes))
IsWord-front b bytes letter = rw (letter_in_word b letter) (letter, front_passes (is_in WordByte) bytes)

word_at_takes : (b : ℕ) (bytes : List ℕ) (t : Symbol) (rest : List ℕ) → is_in Letter b ≡ true
    → with_rest (after (is_in WordByte) (b ∷ bytes)) (word_of (front (is_in WordByte) (b ∷ bytes))) ≡ Some (t, rest) → Begins (b ∷ bytes) t rest
word_at_takes b bytes t rest letter read =
    let p = with_rest_some _ _ t rest read in
    let word = word_takes _ (after (is_in WordByte) (b ∷ bytes)) t (IsWord-front b bytes letter) (after_stops (is_in WordByte) (b ∷ bytes)) p.0 in
    subst (λ (r : List ℕ). Begins (b ∷ bytes) t r) p.1 (record { lexeme = front (is_in WordByte) (b ∷ bytes); parts = front-after (is_in WordByte) (b ∷ bytes); spells = word.0; ends = word.1 })

-- ---- integers

number_at_takes : (b : ℕ) (bytes : List ℕ) (t : Symbol) (rest : List ℕ) → is_in Digit b ≡ true
    → ◌≡◌ {A = Option (Symbol × List ℕ)} (Some (number (magnitude_of_digits (front (is_in Digit) (b ∷ bytes))), after (is_in Digit) (b ∷ bytes))) (Some (t, rest)) → Begins (b ∷ bytes) t rest
number_at_takes b bytes t rest digit read =
    let p = some_pair_parts _ t _ rest read in
    let long : 0 < length (front (is_in Digit) (b ∷ bytes)) = rw digit (omega arith) in
    let made : Begins (b ∷ bytes) (number (magnitude_of_digits (front (is_in Digit) (b ∷ bytes)))) (after (is_in Digit) (b ∷ bytes)) = record {
      lexeme = front (is_in Digit) (b ∷ bytes);
      parts = front-after (is_in Digit) (b ∷ bytes);
      spells = ((long, AllDigits-from_class _ (front_passes (is_in Digit) (b ∷ bytes))), refl);
      ends = after_stops (is_in Digit) (b ∷ bytes);
    } in
    subst (λ (r : List ℕ). Begins (b ∷ bytes) t r) p.1 (subst (λ (s : Symbol). Begins (b ∷ bytes) s (after (is_in Digit) (b ∷ bytes))) p.0 made)

-- ---- texts

text_of_takes : (value : List ℕ) (t : Symbol) → text_of value ≡ Some t → IsTextValue value × (text value ≡ t)
unfolding text_of
text_of_takes value t read = elim (chosen (nat_lt 200 (length value)) _ _ _ read) [
  | inl long ↦ absurd (let h = long.1 in cc)
  | inr short ↦ elim (chosen (is_utf8 value) _ _ _ short.1) [
    | inr bad ↦ absurd (let h = bad.1 in cc)
    | inl good ↦ elim (chosen (list_any is_ascii_control value) _ _ _ good.1) [
      | inl control ↦ absurd (let h = control.1 in cc)
      | inr printable ↦ (record { is_printable = none_passes is_ascii_control value printable.0; is_utf8 = IsUtf8-from_is_utf8 value good.0; is_short = ltb-false _ _ short.0 }, let h = printable.1 in cc)
    ]
  ]
]

text_of_again : (value : List ℕ) → IsTextValue value → text_of value ≡ Some (text value)
unfolding text_of
text_of_again value fits = rw (le-ltb _ _ fits.is_short, is_utf8-from_IsUtf8 value fits.is_utf8, list_any-none is_ascii_control value fits.is_printable) refl

quoted-append : (value rest : List ℕ) → quoted value ++ rest ≡ 39 ∷ (doubled value ++ 39 ∷ rest)
quoted-append value rest = ap (λ (r : List ℕ). 39 ∷ r) (append_assoc (doubled value) (39 ∷ []) rest)

text_by : (bytes : List ℕ) (t : Symbol) (rest : List ℕ) (read : Option (List ℕ × List ℕ)) → unquoted bytes ≡ read → text_from read ≡ Some (t, rest) → Begins (39 ∷ bytes) t rest
text_by bytes t rest None e made = absurd cc
text_by bytes t rest (Some x) e made =
    let p = with_rest_some x.1 (text_of x.0) t rest made in
    let value = text_of_takes x.0 t p.0 in
    let closed = unquoted_takes bytes x.0 x.1 e in
    let here : Begins (39 ∷ bytes) (text x.0) x.1 = record {
      lexeme = quoted x.0;
      parts = ap (λ (r : List ℕ). 39 ∷ r) closed.parts ∙ sym (quoted-append x.0 x.1);
      spells = (refl, value.0);
      ends = closed.ends;
    } in
    subst (λ (r : List ℕ). Begins (39 ∷ bytes) t r) p.1 (subst (λ (s : Symbol). Begins (39 ∷ bytes) s x.1) value.1 here)

text_at_takes : (bytes : List ℕ) (t : Symbol) (rest : List ℕ) → text_at bytes ≡ Some (t, rest) → Begins (39 ∷ bytes) t rest
unfolding text_at
text_at_takes bytes t rest read = text_by bytes t rest (unquoted bytes) refl read

text_at_again : (value rest : List ℕ) → IsTextValue value → Stops (λ b. b == 39) rest → text_at (doubled value ++ 39 ∷ rest) ≡ Some (text value, rest)
unfolding text_at
text_at_again value rest fits stops = rw (unquoted_again value rest stops, text_of_again value fits) refl

-- ---- signs

sign_by : (bytes : List ℕ) (t : Symbol) (rest : List ℕ) (read : Option Sign) → sign_of bytes ≡ read → sign_from bytes read ≡ Some (t, rest) → Begins bytes t rest
sign_by bytes t rest None e made = absurd cc
sign_by bytes t rest (Some s) e made =
    let p = some_pair_parts (sign s) t _ rest made in
    let parts = sign_front bytes s e in
    let again : sign_of (sign_text s ++ drop (length (sign_text s)) bytes) ≡ Some s = ap sign_of (sym parts) ∙ e in
    let here : Begins bytes (sign s) (drop (length (sign_text s)) bytes) = record { lexeme = sign_text s; parts = parts; spells = refl; ends = sign_ends s _ again } in
    subst (λ (r : List ℕ). Begins bytes t r) p.1 (subst (λ (x : Symbol). Begins bytes x (drop (length (sign_text s)) bytes)) p.0 here)

-- ---- the two laws

pub token_none : token_at [] ≡ None
unfolding token_at sign_of
token_none = refl

-- what is read is spelled so
pub token_takes : (bytes : List ℕ) (t : Symbol) (rest : List ℕ) → token_at bytes ≡ Some (t, rest) → Begins bytes t rest
unfolding token_at
token_takes [] t rest read = absurd (let h = token_none in cc)
token_takes (b ∷ bytes) t rest read = elim (chosen (is_in Letter b) _ _ _ read) [
  | inl letter ↦ word_at_takes b bytes t rest letter.0 letter.1
  | inr no_letter ↦ elim (chosen (is_in Digit b) _ _ _ no_letter.1) [
    | inl digit ↦ number_at_takes b bytes t rest digit.0 digit.1
    | inr no_digit ↦ elim (chosen (b == 39) _ _ _ no_digit.1) [
      | inl quote ↦ rw (eqb-true b 39 quote.0) (text_at_takes bytes t rest quote.1)
      | inr no_quote ↦ sign_by (b ∷ bytes) t rest (sign_of (b ∷ bytes)) refl no_quote.1
    ]
  ]
]

digit_no_letter : (b : ℕ) → is_in Digit b ≡ true → is_in Letter b ≡ false
digit_no_letter b digit = let r = digit_range b digit in rw (lt-leb 65 b (omega (arith, r)), lt-leb 97 b (omega (arith, r))) refl

word_at_again : (word : List ℕ) (t : Symbol) (rest : List ℕ) → IsWord word → Stops (is_in WordByte) rest → word_of word ≡ Some t → token_at (word ++ rest) ≡ Some (t, rest)
unfolding token_at
word_at_again [] t rest is_word stops read = absurd is_word
word_at_again (b ∷ word) t rest is_word stops read =
    let all : AreAll WordByte (b ∷ word) = (letter_in_word b is_word.0, is_word.1) in
    rw (is_word.0) (rw (front-append (is_in WordByte) (b ∷ word) rest all stops, after-append (is_in WordByte) (b ∷ word) rest all stops, read) refl)

number_at_again : (digits rest : List ℕ) → IsNumeral 10 digits → Stops (is_in Digit) rest → token_at (digits ++ rest) ≡ Some (number (magnitude_of_digits digits), rest)
unfolding token_at
number_at_again [] rest is_numeral stops = absurd (omega (arith, is_numeral.0))
number_at_again (b ∷ digits) rest is_numeral stops =
    let all = AreAll-from_digits (b ∷ digits) is_numeral.1 in
    rw (digit_no_letter b all.0, all.0) (rw (front-append (is_in Digit) digits rest all.1 stops, after-append (is_in Digit) digits rest all.1 stops) refl)

text_again : (value rest : List ℕ) → IsTextValue value → Stops (λ b. b == 39) rest → token_at (quoted value ++ rest) ≡ Some (text value, rest)
unfolding token_at
text_again value rest fits stops = ap token_at (quoted-append value rest) ∙ text_at_again value rest fits stops

-- no sign begins with a letter, a digit or a quote
sign_apart : (s : Sign) (rest : List ℕ) → token_at (sign_text s ++ rest) ≡ sign_from (sign_text s ++ rest) (sign_of (sign_text s ++ rest))
unfolding token_at
sign_apart Less rest = refl
sign_apart Greater rest = refl
sign_apart Comma rest = refl
sign_apart Dot rest = refl
sign_apart Open rest = refl
sign_apart Close rest = refl
sign_apart Equal rest = refl
sign_apart NotEqual rest = refl
sign_apart LessOrEqual rest = refl
sign_apart GreaterOrEqual rest = refl
sign_apart Plus rest = refl
sign_apart Minus rest = refl
sign_apart Star rest = refl
sign_apart Semicolon rest = refl

sign_at_again : (s : Sign) (rest : List ℕ) → Stops (goes_on (sign s)) rest → token_at (sign_text s ++ rest) ≡ Some (sign s, rest)
sign_at_again s rest stops = sign_apart s rest ∙ ap (sign_from (sign_text s ++ rest)) (sign_again s rest stops) ∙ ap (λ (r : List ℕ). Some (sign s, r)) (drop_at (sign_text s) rest (length (sign_text s)) refl)

-- what is spelled so is read
pub token_again : (lexeme : List ℕ) (t : Symbol) (rest : List ℕ) → Spells lexeme t → Stops (goes_on t) rest → token_at (lexeme ++ rest) ≡ Some (t, rest)
token_again lexeme (key k) rest spells stops = word_at_again lexeme (key k) rest spells.0 stops (key_again lexeme k spells.1)
token_again lexeme (sign s) rest spells stops = ap (λ (w : List ℕ). token_at (w ++ rest)) spells ∙ sign_at_again s rest stops
token_again lexeme (name letters) rest spells stops =
    ap (λ (w : List ℕ). token_at (w ++ rest)) spells.0 ∙ word_at_again letters (name letters) rest spells.1.is_word stops (name_again letters spells.1)
token_again lexeme (number magnitude) rest spells stops = number_at_again lexeme rest spells.0 stops ∙ ap (λ (n : ℕ). Some (number n, rest)) spells.1
token_again lexeme (text value) rest spells stops = ap (λ (w : List ℕ). token_at (w ++ rest)) spells.0 ∙ text_again value rest spells.1 stops

pub begins_again : (bytes : List ℕ) (t : Symbol) (rest : List ℕ) → Begins bytes t rest → token_at bytes ≡ Some (t, rest)
begins_again bytes t rest begins = ap token_at begins.parts ∙ token_again begins.lexeme t rest begins.spells begins.ends

-- ---- what a token leaves

sign_length : (s : Sign) → 0 < length (sign_text s)
sign_length Less = omega arith
sign_length Greater = omega arith
sign_length Comma = omega arith
sign_length Dot = omega arith
sign_length Open = omega arith
sign_length Close = omega arith
sign_length Equal = omega arith
sign_length NotEqual = omega arith
sign_length LessOrEqual = omega arith
sign_length GreaterOrEqual = omega arith
sign_length Plus = omega arith
sign_length Minus = omega arith
sign_length Star = omega arith
sign_length Semicolon = omega arith

word_length : (word : List ℕ) → IsWord word → 0 < length word
word_length [] is_word = absurd is_word
word_length (b ∷ word) is_word = omega arith

spelled_length : (lexeme : List ℕ) (t : Symbol) → Spells lexeme t → 0 < length lexeme
spelled_length lexeme (key k) spells = word_length lexeme spells.0
spelled_length lexeme (sign s) spells = rw spells (sign_length s)
spelled_length lexeme (name letters) spells = rw (spells.0) (word_length letters spells.1.is_word)
spelled_length lexeme (number magnitude) spells = spells.0.0
spelled_length lexeme (text value) spells = rw (spells.0) (omega arith)

-- what follows a token is shorter
pub token_shorter : (bytes : List ℕ) (t : Symbol) (rest : List ℕ) → token_at bytes ≡ Some (t, rest) → length rest < length bytes
token_shorter bytes t rest read =
    let begins = token_takes bytes t rest read in
    let long = spelled_length begins.lexeme t begins.spells in
    omega (arith, ap length begins.parts, length-append begins.lexeme rest)

blank_by : (blank : Bool) (b : ℕ) (bytes : List ℕ) → blank ≡ is_in Blank b → blank ≡ true → token_at (b ∷ bytes) ≡ None
unfolding token_at sign_of
blank_by blank b bytes e is_blank = elim (or_cases ((b == 32 || b == 9) || b == 10) (b == 13) (sym e ∙ is_blank)) [
  | inr return ↦ rw (eqb-true b 13 return) refl
  | inl others ↦ elim (or_cases (b == 32 || b == 9) (b == 10) others) [
    | inr feed ↦ rw (eqb-true b 10 feed) refl
    | inl two ↦ elim (or_cases (b == 32) (b == 9) two) [
      | inl space ↦ rw (eqb-true b 32 space) refl
      | inr tab ↦ rw (eqb-true b 9 tab) refl
    ]
  ]
]

-- no token begins with a blank
pub token_no_blank : (bytes : List ℕ) (x : Symbol × List ℕ) → token_at bytes ≡ Some x → Stops (is_in Blank) bytes
token_no_blank [] x read = tt
token_no_blank (b ∷ bytes) x read = elim (cases_Bool (is_in Blank b)) [
  | inl blank ↦ absurd (let none = blank_by (is_in Blank b) b bytes refl blank in cc)
  | inr other ↦ other
]
