-- A word is looked for among the keywords that are as long.
use Rattle.std.proofs.Common.{◌≡◌, ◌∙◌, ℕ, Bool, true, List, [], ◌∷◌, length, find, filter, refl, sym, ap, subst, inl, inr, arith}
use Rattle.std.specs.Bool.{nat_eq}
use Rattle.std.specs.Char.{to_ascii_lowercase}
use Rattle.std.specs.Str.{str_eq_ignore_ascii_case}
use Rattle.std.proofs.lemmas.Bool.{cases_Bool}
use Rattle.std.proofs.lemmas.Bool.Decides.{nat_tests}
use Rattle.std.proofs.lemmas.List.{length-map}
use Rattle.std.proofs.lemmas.Slice.Eq.{bytes_eq-Decides}
use Rattle.reader.specs.declared.keyword.TheConstants.{KEYWORDS}
use Rattle.reader.specs.Keyword.{keyword_text}
use Rattle.reader.specs.Reading.{keyword_of}

-- leaving out what fails a test that each found one passes changes nothing
find_left : {X : Type 0} (test wide : X → Bool) (xs : List X) → ((x : X) → test x ≡ true → wide x ≡ true) → find test xs ≡ find test (filter wide xs)
find_left test wide [] within = refl
find_left test wide (x ∷ xs) within = elim (cases_Bool (test x)) [
  | inl passed ↦ rw (within x passed) (rw passed refl)
  | inr failed ↦ rw failed (elim (cases_Bool (wide x)) [
    | inl kept ↦ rw kept (rw failed (find_left test wide xs within))
    | inr left ↦ rw left (find_left test wide xs within)
  ])
]

-- two words that are the same in any case are of one length
same_length : (word other : List ℕ) → str_eq_ignore_ascii_case word other ≡ true → length word ≡ length other
same_length word other same = sym (length-map word to_ascii_lowercase) ∙ ap length ((bytes_eq-Decides _ _).0 same) ∙ length-map other to_ascii_lowercase

nat_eq_same : (n : ℕ) → nat_eq n n ≡ true
nat_eq_same n = grind (arith, nat_tests)

pub among_as_long : (word : List ℕ) (n : ℕ) → length word ≡ n → keyword_of word ≡ find (λ k. str_eq_ignore_ascii_case word (keyword_text k)) (filter (λ k. nat_eq n (length (keyword_text k))) KEYWORDS)
unfolding keyword_of
among_as_long word n long = find_left _ _ KEYWORDS (λ k same. subst (λ m. nat_eq m (length (keyword_text k)) ≡ true) long (subst (λ m. nat_eq (length word) m ≡ true) (same_length word (keyword_text k) same) (nat_eq_same (length word))))
