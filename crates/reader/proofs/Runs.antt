-- Runs of bytes that pass a test: the longest front of them, and what follows it.
use Rattle.std.proofs.Common.{◌≡◌, ℕ, ◌+◌, ◌<◌, ◌≤◌, Bool, true, false, cond, inl, inr, List, [], ◌∷◌, ◌++◌, length, get_or, take, drop, refl, sym, ap, ◌∙◌, one-add}
use Rattle.std.specs.List.{AllByRecursion, prefix_len}
use Rattle.std.proofs.lemmas.List.Sums.{prefix_len_is}
use Rattle.std.proofs.lemmas.Bool.{cases_Bool}
use Rattle.reader.specs.Reading.{front, after}
use Rattle.reader.specs.Tokens.{Stops}

module _ (passes : ℕ → Bool) where
  front-is : (bs : List ℕ) → take (prefix_len passes bs) bs ≡ front passes bs
  front-is [] = refl
  front-is (b ∷ bs) = elim (passes b) as (λ t. take (cond t (1 + prefix_len passes bs) 0) (b ∷ bs) ≡ cond t (b ∷ front passes bs) []) [
    | true ↦ rw one-add (ap (λ (r : List ℕ). b ∷ r) (front-is bs))
    | false ↦ refl
  ]

  after-is : (bs : List ℕ) → drop (prefix_len passes bs) bs ≡ after passes bs
  after-is [] = refl
  after-is (b ∷ bs) = elim (passes b) as (λ t. drop (cond t (1 + prefix_len passes bs) 0) (b ∷ bs) ≡ cond t (after passes bs) (b ∷ bs)) [
    | true ↦ rw one-add (after-is bs)
    | false ↦ refl
  ]

  -- a place that all before pass, and where the next does not, parts the bytes
  pub parted : (bs : List ℕ) (n : ℕ) → n ≤ length bs → ((k : ℕ) → k < n → passes (get_or bs k 0) ≡ true) → (n < length bs → passes (get_or bs n 0) ≡ false)
      → (take n bs ≡ front passes bs) × (drop n bs ≡ after passes bs)
  parted bs n within before ends =
      let e = prefix_len_is passes bs n 0 within before ends in
      (ap (λ (m : ℕ). take m bs) (sym e) ∙ front-is bs, ap (λ (m : ℕ). drop m bs) (sym e) ∙ after-is bs)

  pub front-after : (bs : List ℕ) → bs ≡ front passes bs ++ after passes bs
  front-after [] = refl
  front-after (b ∷ bs) = elim (passes b) as (λ t. b ∷ bs ≡ cond t (b ∷ front passes bs) [] ++ cond t (after passes bs) (b ∷ bs)) [
    | true ↦ ap (λ (r : List ℕ). b ∷ r) (front-after bs)
    | false ↦ refl
  ]

  pub front_passes : (bs : List ℕ) → AllByRecursion (λ b. passes b ≡ true) (front passes bs)
  front_passes [] = tt
  front_passes (b ∷ bs) = elim (cases_Bool (passes b)) [
    | inl passed ↦ rw passed (passed, front_passes bs)
    | inr failed ↦ rw failed tt
  ]

  pub after_stops : (bs : List ℕ) → Stops passes (after passes bs)
  after_stops [] = tt
  after_stops (b ∷ bs) = elim (cases_Bool (passes b)) [
    | inl passed ↦ rw passed (after_stops bs)
    | inr failed ↦ rw failed failed
  ]

  pub front-append : (run rest : List ℕ) → AllByRecursion (λ b. passes b ≡ true) run → Stops passes rest → front passes (run ++ rest) ≡ run
  front-append [] [] all stops = refl
  front-append [] (b ∷ rest) all stops = rw stops refl
  front-append (b ∷ run) rest all stops = rw (all.0) (ap (λ (r : List ℕ). b ∷ r) (front-append run rest all.1 stops))

  pub after-append : (run rest : List ℕ) → AllByRecursion (λ b. passes b ≡ true) run → Stops passes rest → after passes (run ++ rest) ≡ rest
  after-append [] [] all stops = refl
  after-append [] (b ∷ rest) all stops = rw stops refl
  after-append (b ∷ run) rest all stops = rw (all.0) (after-append run rest all.1 stops)
