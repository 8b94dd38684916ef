-- Letters by their numbers, and where the letters of entries end.
use Rattle.std.proofs.Common.{◌≡◌, refl, sym, ap, ◌∙◌, ℕ, zero, suc, ◌+◌, ◌-◌, ◌^◌, ◌<◌, ◌≤◌, min, List, [], ◌∷◌, ◌++◌, length, take, drop, Option, Some, unwrap_or, slice_get, arith}
use Rattle.std.proofs.lemmas.List.{length-append}
use Rattle.world.specs.declared.event.Entry.{Entry}
use Rattle.world.specs.Posted.{end_after, end_of, ends_from, letters_in}

-- ---- lists in two parts
get_front : {A : Type 0} (xs ys : List A) (n : ℕ) → n < length xs → slice_get (xs ++ ys) n ≡ slice_get xs n
get_front [] ys n less = absurd (omega arith)
get_front (x ∷ xs) ys zero less = refl
get_front (x ∷ xs) ys (suc n) less = get_front xs ys n (omega arith)

get_behind : {A : Type 0} (xs ys : List A) (n : ℕ) → length xs ≤ n → slice_get (xs ++ ys) n ≡ slice_get ys (n - length xs)
get_behind [] ys n more =
    let same : n ≡ n - 0 = omega arith in
    ap (slice_get ys) same
get_behind (x ∷ xs) ys zero more = absurd (omega arith)
get_behind (x ∷ xs) ys (suc n) more =
    let same : n - length xs ≡ suc n - suc (length xs) = omega arith in
    get_behind xs ys n (omega arith) ∙ ap (slice_get ys) same

appends : {A : Type 0} (xs ys zs : List A) → (xs ++ ys) ++ zs ≡ xs ++ (ys ++ zs)
appends [] ys zs = refl
appends (x ∷ xs) ys zs = ap (λ rest. x ∷ rest) (appends xs ys zs)

-- the letters of entries are those of the first so many and those of the others
letters_parted : (n : ℕ) (entries : List Entry) → letters_in entries ≡ letters_in (take n entries) ++ letters_in (drop n entries)
letters_parted zero entries = refl
letters_parted (suc n) [] = refl
letters_parted (suc n) (entry ∷ rest) = ap (λ letters. entry.out.letters ++ letters) (letters_parted n rest) ∙ sym (appends entry.out.letters (letters_in (take n rest)) (letters_in (drop n rest)))

-- ---- ends
pub ends_more : (before : ℕ) (entries : List Entry) (entry : Entry) → ends_from before (entries ++ entry ∷ []) ≡ ends_from before entries ++ end_after (end_of before entries) entry ∷ []
ends_more before [] entry = refl
ends_more before (first ∷ rest) entry = ap (λ ends. end_after before first ∷ ends) (ends_more (end_after before first) rest entry)

pub ends_taken : (n before : ℕ) (entries : List Entry) → take n (ends_from before entries) ≡ ends_from before (take n entries)
ends_taken zero before entries = refl
ends_taken (suc n) before [] = refl
ends_taken (suc n) before (entry ∷ rest) = ap (λ ends. end_after before entry ∷ ends) (ends_taken n (end_after before entry) rest)

pub ends_dropped : (n before : ℕ) (entries : List Entry) → drop n (ends_from before entries) ≡ ends_from (end_of before (take n entries)) (drop n entries)
ends_dropped zero before entries = refl
ends_dropped (suc n) before [] = refl
ends_dropped (suc n) before (entry ∷ rest) = ends_dropped n (end_after before entry) rest

end_last : (before : ℕ) (entry : Entry) (rest : List Entry) → slice_get (ends_from before (entry ∷ rest)) (length (ends_from before (entry ∷ rest)) - 1) ≡ Some (end_of before (entry ∷ rest))
end_last before entry [] = refl
end_last before entry (next ∷ rest) =
    let later = ends_from (end_after before entry) (next ∷ rest) in
    let place : suc (length later) - 1 ≡ suc (length later - 1) = omega arith in
    ap (slice_get (end_after before entry ∷ later)) place ∙ end_last (end_after before entry) next rest

-- the last end, or else what was before
pub end_is : (before : ℕ) (entries : List Entry) (ends : List ℕ) (found : Option ℕ) → ends ≡ ends_from before entries → found ≡ slice_get ends (length ends - 1) → unwrap_or found before ≡ end_of before entries
end_is before [] ends found same is = ap (λ (o : Option ℕ). unwrap_or o before) (is ∙ ap (λ (es : List ℕ). slice_get es (length es - 1)) same)
end_is before (entry ∷ rest) ends found same is = ap (λ (o : Option ℕ). unwrap_or o before) (is ∙ ap (λ (es : List ℕ). slice_get es (length es - 1)) same ∙ end_last before entry rest)

pub ends_many : (before : ℕ) (entries : List Entry) → length (ends_from before entries) ≡ length entries
ends_many before [] = refl
ends_many before (entry ∷ rest) = ap suc (ends_many (end_after before entry) rest)

min_low : (a b : ℕ) → min a b ≤ a
min_low a b = omega arith

min_strict : (a b : ℕ) → min a b < b → min a b ≡ a
min_strict a b less = omega (arith, less)

-- an end is at most the number of letters, and is it where it is small
end_low : (before : ℕ) (entries : List Entry) → end_of before entries ≤ before + length (letters_in entries)
end_low before [] = omega arith
end_low before (entry ∷ rest) =
    let later = end_low (end_after before entry) rest in
    let least = min_low (before + length entry.out.letters) (2 ^ 128 - 1) in
    let long = length-append entry.out.letters (letters_in rest) in
    omega (arith, later, least, long)

end_exact : (before : ℕ) (entries : List Entry) → end_of before entries < 2 ^ 128 - 1 → end_of before entries ≡ before + length (letters_in entries)
end_exact before [] low = omega arith
end_exact before (entry ∷ rest) low =
    let later = end_exact (end_after before entry) rest low in
    let first = min_strict (before + length entry.out.letters) (2 ^ 128 - 1) (omega (arith, later, low)) in
    let long = length-append entry.out.letters (letters_in rest) in
    omega (arith, later, first, long)

-- ---- a letter is among the first so many entries, or among the others
pub letter_left : (n before number : ℕ) (entries : List Entry) → before ≤ number → number < end_of before (take n entries) → slice_get (letters_in (take n entries)) (number - before) ≡ slice_get (letters_in entries) (number - before)
letter_left n before number entries after less =
    let low = end_low before (take n entries) in
    sym (ap (λ letters. slice_get letters (number - before)) (letters_parted n entries) ∙ get_front (letters_in (take n entries)) (letters_in (drop n entries)) (number - before) (omega (arith, low, less, after)))

pub letter_right : (n before number : ℕ) (entries : List Entry) → before ≤ number → number < 2 ^ 64 → end_of before (take n entries) ≤ number → slice_get (letters_in (drop n entries)) (number - end_of before (take n entries)) ≡ slice_get (letters_in entries) (number - before)
letter_right n before number entries after low more =
    let exact = end_exact before (take n entries) (omega (arith, low, more)) in
    let place : number - end_of before (take n entries) ≡ number - before - length (letters_in (take n entries)) = omega (arith, exact, more, after) in
    ap (slice_get (letters_in (drop n entries))) place
    ∙ sym (ap (λ letters. slice_get letters (number - before)) (letters_parted n entries) ∙ get_behind (letters_in (take n entries)) (letters_in (drop n entries)) (number - before) (omega (arith, exact, more, after)))
