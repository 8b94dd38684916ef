-- Quotes doubled, around the first of them.
use Rattle.std.proofs.Common.{◌≡◌, ℕ, suc, ◌+◌, ◌<◌, ◌==◌, List, [], ◌∷◌, ◌++◌, length, take, drop, refl, sym, ap, ◌∙◌, append_assoc, arith, inl, inr}
use Rattle.std.specs.List.{position_or_len, before_first, after_first}
use Rattle.std.proofs.lemmas.Bool.{cases_Bool}
use Rattle.terms.specs.Print.{doubled}

take_more : (n b : ℕ) (s : List ℕ) → take (1 + n) (b ∷ s) ≡ b ∷ take n s
take_more n b s = let e : 1 + n ≡ suc n = omega arith in rw e refl

drop_more : (n b : ℕ) (s : List ℕ) → drop ((1 + n) + 1) (b ∷ s) ≡ drop (n + 1) s
drop_more n b s = let e : (1 + n) + 1 ≡ suc (n + 1) = omega arith in rw e refl

pub doubled_around : (s : List ℕ) → position_or_len (λ b. b == 39) s < length s → doubled s ≡ before_first (λ b. b == 39) s ++ 39 ∷ 39 ∷ doubled (after_first (λ b. b == 39) s)
doubled_around [] h = absurd (omega arith)
doubled_around (b ∷ s) h = elim (cases_Bool (b == 39)) [
  | inl quote ↦ rw quote refl
  | inr other ↦ let there = rw other at h in rw other (rw (take_more, drop_more) (ap (λ (r : List ℕ). b ∷ r) (doubled_around s (omega arith))))
]

pub doubled_plain : (s : List ℕ) → position_or_len (λ b. b == 39) s ≡ length s → doubled s ≡ s
doubled_plain [] h = refl
doubled_plain (b ∷ s) h = elim (cases_Bool (b == 39)) [
  | inl quote ↦ let there = rw quote at h in absurd (omega arith)
  | inr other ↦ let there = rw other at h in rw other (ap (λ (r : List ℕ). b ∷ r) (doubled_plain s (omega arith)))
]

-- One round of a loop over the quotes of a text, and its end: `out` was written, `rest` is left.
module _ (out rest total : List ℕ) (so_far : out ++ doubled rest ≡ total) where
  pub goes_on_doubled : (before behind : List ℕ) → position_or_len (λ b. b == 39) rest < length rest → before ≡ before_first (λ b. b == 39) rest → behind ≡ after_first (λ b. b == 39) rest → ((out ++ before) ++ 39 ∷ 39 ∷ []) ++ doubled behind ≡ total
  goes_on_doubled before behind there is_before is_behind =
      rw (is_before, is_behind) (simp append_assoc (ap (λ (r : List ℕ). out ++ r) (sym (doubled_around rest there)) ∙ so_far))

  pub ends_doubled : position_or_len (λ b. b == 39) rest ≡ length rest → out ++ rest ≡ total
  ends_doubled nowhere = ap (λ (r : List ℕ). out ++ r) (sym (doubled_plain rest nowhere)) ∙ so_far
