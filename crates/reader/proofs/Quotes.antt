-- Texts between quotes.
use Rattle.std.proofs.Common.{◌≡◌, ℕ, true, false, cond, ◌==◌, List, [], ◌∷◌, ◌++◌, Option, Some, None, option_map, refl, sym, ap, ◌∙◌, append_assoc, arith, ◌≢◌, length, append-nil, ne_eqb, take, drop, nat_eq, eqb, eqb-true, subst, subst₂, inl, inr, IsUtf8, Vec, Global}
use Rattle.std.specs.Prelude.{Result, Ok, Err, IfOk, IsOk, String, string_bytes}
use Rattle.std.specs.Result.{result_ok}
use Rattle.std.specs.Str.{is_utf8}
use Rattle.std.specs.String.{string_vec}
use Rattle.std.proofs.lemmas.Str.{is_utf8-from_IsUtf8, IsUtf8-from_is_utf8, IsUtf8-string_bytes}
use Rattle.std.proofs.lemmas.Option.{some_pair_parts}
use Rattle.std.specs.Cmp.Lexicographic.{pointwise}
use Rattle.std.proofs.lemmas.Bool.{and_parts, both_ways, cases_Bool, false≢true}
use Rattle.reader.specs.Reading.{unquoted, with_byte}
use Rattle.reader.specs.Tokens.{doubled, Stops}

-- what was read before, in front of the value that is still read
abbrev pub with_front : List ℕ → Option (List ℕ × List ℕ) → Option (List ℕ × List ℕ)
with_front front read = option_map (λ x. (front ++ x.0, x.1)) read

regroup : (front : List ℕ) (b : ℕ) (read : Option (List ℕ × List ℕ)) → with_front front (with_byte b read) ≡ with_front (front ++ b ∷ []) read
regroup front b (Some x) = ap (λ (v : List ℕ). Some (v, x.1)) (simp append_assoc)
regroup front b None = refl

unquoted-other : (b : ℕ) (rest : List ℕ) → (b == 39) ≡ false → unquoted (b ∷ rest) ≡ with_byte b (unquoted rest)
unfolding unquoted
unquoted-other b [] other = rw other refl
unquoted-other b (c ∷ rest) other = rw other refl

unquoted-two : (rest : List ℕ) → unquoted (39 ∷ 39 ∷ rest) ≡ with_byte 39 (unquoted rest)
unfolding unquoted
unquoted-two rest = refl

unquoted-end : (rest : List ℕ) → Stops (λ b. b == 39) rest → unquoted (39 ∷ rest) ≡ Some ([], rest)
unfolding unquoted
unquoted-end [] stops = refl
unquoted-end (c ∷ rest) stops = rw stops refl

stops_at : (behind : List ℕ) → ((others : List ℕ) → behind ≢ 39 ∷ others) → Stops (λ b. b == 39) behind
stops_at [] single = tt
stops_at (c ∷ others) single = ne_eqb c 39 (λ e. single others (ap (λ (x : ℕ). x ∷ others) e))

module _ (value rest behind : List ℕ) (b : ℕ) (total : Option (List ℕ × List ℕ)) (starts : rest ≡ b ∷ behind) (so_far : with_front value (unquoted rest) ≡ total) where
  pub goes_on_behind : (b ≡ 39 → ⊥) → with_front (value ++ b ∷ []) (unquoted behind) ≡ total
  goes_on_behind other =
      let step : unquoted rest ≡ with_byte b (unquoted behind) = ap unquoted starts ∙ unquoted-other b behind (ne_eqb _ _ other) in
      sym (regroup value b (unquoted behind)) ∙ ap (with_front value) (sym step) ∙ so_far

  pub goes_on_behind_two : (others : List ℕ) → b ≡ 39 → behind ≡ 39 ∷ others → with_front (value ++ b ∷ []) (unquoted others) ≡ total
  goes_on_behind_two others quote second =
      let step : unquoted rest ≡ with_byte 39 (unquoted others) = ap unquoted (starts ∙ rw (quote, second) refl) ∙ unquoted-two others in
      rw quote (sym (regroup value 39 (unquoted others)) ∙ ap (with_front value) (sym step) ∙ so_far)

  pub ends_at : b ≡ 39 → ((others : List ℕ) → behind ≢ 39 ∷ others) → Some (value, behind) ≡ total
  ends_at quote single =
      let step : unquoted rest ≡ Some ([], behind) = ap unquoted (starts ∙ rw quote refl) ∙ unquoted-end behind (stops_at behind single) in
      ap (λ (v : List ℕ). Some (v, behind)) (sym (append-nil value)) ∙ ap (with_front value) (sym step) ∙ so_far

pub runs_out : (value rest : List ℕ) (total : Option (List ℕ × List ℕ)) → length rest ≡ 0 → with_front value (unquoted rest) ≡ total → None ≡ total
unfolding unquoted
runs_out value [] total none so_far = so_far
runs_out value (b ∷ rest) total none so_far = absurd (omega arith)

-- what `strip_prefix` of a quote says
pub is_second : (behind others : List ℕ) → pointwise nat_eq (take 1 behind) (39 ∷ []) ≡ true → others ≡ drop 1 behind → behind ≡ 39 ∷ others
is_second [] others found rest = absurd (cc)
is_second (c ∷ behind) others found rest = let p = and_parts (eqb c 39) (pointwise nat_eq [] []) found in let quote = eqb-true c 39 p.0 in cc

pub is_single : (behind : List ℕ) → pointwise nat_eq (take 1 behind) (39 ∷ []) ≡ false → (others : List ℕ) → behind ≢ 39 ∷ others
is_single behind missing others e = both_ways _ missing (rw e refl)

-- ---- UTF-8

is_text : (said bytes : List ℕ) → said ≡ bytes → IsUtf8 said → Some said ≡ cond (is_utf8 bytes) (Some bytes) None
is_text said bytes same utf8 =
    let here : IsUtf8 bytes = subst (λ (b : List ℕ). IsUtf8 b) same utf8 in
    rw (is_utf8-from_IsUtf8 bytes here) (ap (λ (b : List ℕ). Some b) same)

is_no_text : (bytes : List ℕ) → (IsUtf8 bytes → ⊥) → None ≡ cond (is_utf8 bytes) (Some bytes) None
is_no_text bytes refused = elim (cases_Bool (is_utf8 bytes)) [
  | inl good ↦ absurd (refused (IsUtf8-from_is_utf8 bytes good))
  | inr bad ↦ rw bad refl
]

-- what `from_utf8` says, with no word on why it fails
pub text_or_none : {E : Type 0} (value : Vec ℕ Global) (read : Result (String Global) E) → IfOk read (λ t. string_vec t ≡ value) → (IsUtf8 value.items → IsOk read)
    → option_map (λ (t : String Global). string_bytes t) (result_ok read) ≡ cond (is_utf8 value.items) (Some value.items) None
text_or_none value (Ok t) same succeeds = is_text (string_bytes t) value.items (ap (λ (v : Vec ℕ Global). v.items) same) (IsUtf8-string_bytes t)
text_or_none value (Err e) same succeeds = is_no_text value.items (λ utf8. false≢true (succeeds utf8))

-- ---- the two laws

with_byte_some : (b : ℕ) (read : Option (List ℕ × List ℕ)) (value rest : List ℕ) → with_byte b read ≡ Some (value, rest) → (shorter : List ℕ) × (read ≡ Some (shorter, rest)) × (value ≡ b ∷ shorter)
with_byte_some b None value rest e = absurd cc
with_byte_some b (Some x) value rest e = let p = some_pair_parts (b ∷ x.0) value x.1 rest e in (x.0, ap (λ (r : List ℕ). Some (x.0, r)) p.1, sym p.0)

doubled-other : (b : ℕ) (value : List ℕ) → (b == 39) ≡ false → doubled (b ∷ value) ≡ b ∷ doubled value
doubled-other b value other = rw other refl

-- What is read stands there with each quote doubled, up to a closing quote.
pub record IsClosed (bytes value rest : List ℕ) : Type 0 where
  pub parts : bytes ≡ doubled value ++ 39 ∷ rest
  pub ends : Stops (λ b. b == 39) rest

closed_here : (b : ℕ) (behind value rest : List ℕ) → (b == 39) ≡ true → Stops (λ b. b == 39) behind → unquoted (b ∷ behind) ≡ Some (value, rest) → IsClosed (b ∷ behind) value rest
closed_here b behind value rest quote stops read =
    let q = eqb-true b 39 quote in
    let p = some_pair_parts [] value behind rest (sym (unquoted-end behind stops) ∙ ap (λ (x : ℕ). unquoted (x ∷ behind)) (sym q) ∙ read) in
    let P : List ℕ → List ℕ → Type 0 = λ v r. IsClosed (b ∷ behind) v r in
    subst₂ P p.0 p.1 (record { parts = ap (λ (x : ℕ). x ∷ behind) q; ends = stops })

pub unquoted_takes : (bytes value rest : List ℕ) → unquoted bytes ≡ Some (value, rest) → IsClosed bytes value rest
unfolding unquoted
unquoted_takes [] value rest read = absurd cc
unquoted_takes (b ∷ []) value rest read = elim (cases_Bool (b == 39)) [
  | inl quote ↦ closed_here b [] value rest quote tt read
  | inr other ↦ let h = rw other at read in absurd cc
]
unquoted_takes (b ∷ c ∷ bytes) value rest read = elim (cases_Bool (b == 39)) [
  | inr other ↦
      let more = with_byte_some b (unquoted (c ∷ bytes)) value rest (sym (unquoted-other b (c ∷ bytes) other) ∙ read) in
      let closed = unquoted_takes (c ∷ bytes) more.0 rest more.1 in
      record { parts = rw (more.2, doubled-other b more.0 other) (ap (λ (r : List ℕ). b ∷ r) closed.parts); ends = closed.ends }
  | inl quote ↦ elim (cases_Bool (c == 39)) [
    | inr single ↦ closed_here b (c ∷ bytes) value rest quote single read
    | inl double ↦
        let q = eqb-true b 39 quote in
        let r = eqb-true c 39 double in
        let two : unquoted (39 ∷ 39 ∷ bytes) ≡ Some (value, rest) = rw (q, r) at read in
        let more = with_byte_some 39 (unquoted bytes) value rest (sym (unquoted-two bytes) ∙ two) in
        let closed = unquoted_takes bytes more.0 rest more.1 in
        record { parts = rw (q, r, more.2) (ap (λ (s : List ℕ). 39 ∷ 39 ∷ s) closed.parts); ends = closed.ends }
  ]
]

pub unquoted_again : (value rest : List ℕ) → Stops (λ b. b == 39) rest → unquoted (doubled value ++ 39 ∷ rest) ≡ Some (value, rest)
unquoted_again [] rest stops = unquoted-end rest stops
unquoted_again (b ∷ value) rest stops = elim (cases_Bool (b == 39)) [
  | inl quote ↦ let q = eqb-true b 39 quote in rw q (unquoted-two (doubled value ++ 39 ∷ rest) ∙ ap (with_byte 39) (unquoted_again value rest stops))
  | inr other ↦ ap (λ (d : List ℕ). unquoted (d ++ 39 ∷ rest)) (doubled-other b value other) ∙ unquoted-other b (doubled value ++ 39 ∷ rest) other ∙ ap (with_byte b) (unquoted_again value rest stops)
]
