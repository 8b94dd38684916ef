-- Words: keywords and names.
use Rattle.std.proofs.Common.{◌≡◌, ℕ, ◌≤◌, Bool, true, false, cond, List, [], ◌∷◌, length, map, Option, Some, None, find, nat_lt, refl, ap, subst, ◌∙◌, inl, inr, ltb-false, le-ltb, bytes_eq}
use Rattle.std.specs.Char.{to_ascii_lowercase, is_ascii_uppercase}
use Rattle.std.specs.List.{AllByRecursion, list_any}
use Rattle.std.specs.Str.{str_eq_ignore_ascii_case}
use Rattle.std.proofs.lemmas.Bool.{cases_Bool}
use Rattle.std.proofs.lemmas.Slice.Eq.{bytes_eq-Decides}
use Rattle.reader.specs.declared.class.Class.TheVariants.{WordByte}
use Rattle.reader.specs.declared.keyword.Keyword.{Keyword}
use Rattle.reader.specs.declared.keyword.Keyword.TheVariants.{Select, From, Join, On, Where, And, Insert, Into, Values, Update, Set, Delete, Begin, Commit, Rollback, Refragment}
use Rattle.reader.specs.declared.keyword.TheConstants.{KEYWORDS}
use Rattle.reader.specs.Class.{is_in}
use Rattle.reader.specs.Keyword.{keyword_text}
use Rattle.reader.specs.Symbol.{Symbol, key, name}
use Rattle.reader.specs.Tokens.{IsWord, IsInAnyCase, IsName, Spells, Stops, goes_on}
use Rattle.reader.specs.Reading.{keyword_of, name_of, word_of, keyword_or}
use Rattle.reader.proofs.Signs.{find_passes}

-- ---- tests over lists

find_fails : {X : Type 0} (test : X → Bool) (xs : List X) → find test xs ≡ None → AllByRecursion (λ x. test x ≡ false) xs
find_fails test [] none = tt
find_fails test (x ∷ xs) none = elim (cases_Bool (test x)) [
  | inl passed ↦ let h = rw passed at none in absurd cc
  | inr failed ↦ (failed, find_fails test xs (rw failed at none))
]

pub none_passes : (test : ℕ → Bool) (bytes : List ℕ) → list_any test bytes ≡ false → AllByRecursion (λ b. test b ≡ false) bytes
none_passes test [] none = tt
none_passes test (b ∷ bytes) none = elim (cases_Bool (test b)) [
  | inl passed ↦ let h = rw passed at none in absurd cc
  | inr failed ↦ (failed, none_passes test bytes (rw failed at none))
]

pub list_any-none : (test : ℕ → Bool) (bytes : List ℕ) → AllByRecursion (λ b. test b ≡ false) bytes → list_any test bytes ≡ false
list_any-none test [] none = refl
list_any-none test (b ∷ bytes) none = rw (none.0) (list_any-none test bytes none.1)

-- ---- keywords

keyword_takes : (word : List ℕ) (k : Keyword) → keyword_of word ≡ Some k → IsInAnyCase word (keyword_text k)
unfolding keyword_of
keyword_takes word k found = (bytes_eq-Decides _ _).0 (find_passes (λ j. str_eq_ignore_ascii_case word (keyword_text j)) KEYWORDS k found)

-- the table finds each of its own
keyword_own : (k : Keyword) → find (λ j. str_eq_ignore_ascii_case (keyword_text k) (keyword_text j)) KEYWORDS ≡ Some k
keyword_own Select = refl
keyword_own From = refl
keyword_own Join = refl
keyword_own On = refl
keyword_own Where = refl
keyword_own And = refl
keyword_own Insert = refl
keyword_own Into = refl
keyword_own Values = refl
keyword_own Update = refl
keyword_own Set = refl
keyword_own Delete = refl
keyword_own Begin = refl
keyword_own Commit = refl
keyword_own Rollback = refl
keyword_own Refragment = refl

keyword_again : (word : List ℕ) (k : Keyword) → IsInAnyCase word (keyword_text k) → keyword_of word ≡ Some k
unfolding keyword_of
keyword_again word k same = ap (λ (lower : List ℕ). find (λ j. bytes_eq lower (map to_ascii_lowercase (keyword_text j))) KEYWORDS) same ∙ keyword_own k

keyword_none : (word : List ℕ) → ((k : Keyword) → ¬ (IsInAnyCase word (keyword_text k))) → (found : Option Keyword) → keyword_of word ≡ found → keyword_of word ≡ None
keyword_none word apart None e = e
keyword_none word apart (Some k) e = absurd (apart k (keyword_takes word k e))

-- ---- names

cond_none : {A : Type 0} (b : Bool) (other : Option A) (x : A) → cond b None other ≡ Some x → (b ≡ false) × (other ≡ Some x)
cond_none true other x e = absurd cc
cond_none false other x e = (refl, e)

word_by : (word rest : List ℕ) (t : Symbol) → IsWord word → Stops (is_in WordByte) rest → (found : Option Keyword) → keyword_of word ≡ found → keyword_or found (name_of word) ≡ Some t → Spells word t × Stops (goes_on t) rest
unfolding name_of
word_by word rest t is_word stops (Some k) e read =
    let same : key k ≡ t = cc in
    subst (λ (s : Symbol). Spells word s × Stops (goes_on s) rest) same ((is_word, keyword_takes word k e), stops)
word_by word rest t is_word stops None e read =
    let small = cond_none (list_any is_ascii_uppercase word) _ t read in
    let short = cond_none (nat_lt 24 (length word)) _ t small.1 in
    let same : name word ≡ t = let h = short.1 in cc in
    subst (λ (s : Symbol). Spells word s × Stops (goes_on s) rest) same (
      (
        refl,
        record {
          is_word = is_word;
          has_no_capital = none_passes is_ascii_uppercase word small.0;
          is_no_keyword = λ k same_letters. absurd (let found = keyword_again word k same_letters in cc);
          is_short = ltb-false _ _ short.0;
        },
      ),
      stops,
    )

-- a word that is read is spelled so, and ends where the word does
pub word_takes : (word rest : List ℕ) (t : Symbol) → IsWord word → Stops (is_in WordByte) rest → word_of word ≡ Some t → Spells word t × Stops (goes_on t) rest
unfolding word_of
word_takes word rest t is_word stops read = word_by word rest t is_word stops (keyword_of word) refl read

pub key_again : (word : List ℕ) (k : Keyword) → IsInAnyCase word (keyword_text k) → word_of word ≡ Some (key k)
unfolding word_of
key_again word k same = rw (keyword_again word k same) refl

pub name_again : (word : List ℕ) → IsName word → word_of word ≡ Some (name word)
unfolding word_of name_of
name_again word is_name = rw (keyword_none word is_name.is_no_keyword (keyword_of word) refl, list_any-none is_ascii_uppercase word is_name.has_no_capital, le-ltb _ _ is_name.is_short) refl

-- ---- whether bytes are a name

pub is_name_so : (word : List ℕ) → IsWord word → list_any is_ascii_uppercase word ≡ false → keyword_of word ≡ None → length word ≤ 24 → IsName word
is_name_so word is_word small no_keyword short = record {
  is_word = is_word;
  has_no_capital = none_passes is_ascii_uppercase word small;
  is_no_keyword = λ k same_letters. absurd (let found = keyword_again word k same_letters in cc);
  is_short = short;
}

pub name_small : (word : List ℕ) → IsName word → list_any is_ascii_uppercase word ≡ false
name_small word is_name = list_any-none is_ascii_uppercase word is_name.has_no_capital

pub name_no_keyword : (word : List ℕ) → IsName word → keyword_of word ≡ None
name_no_keyword word is_name = keyword_none word is_name.is_no_keyword (keyword_of word) refl
