-- Which of some names a word was likely meant to be.
use Rattle.std.specs.Prelude.{◌≡◌, ◌<◌, ◌≤◌, ℕ, List, length, min, nat_eq, chars, All, slice_index_or, Option, Some, None}
use Rattle.std.specs.Borrow.{Bor}
use Rattle.std.specs.List.{AllWithin}
use Rattle.strsim.specs.Edits.{levenshtein_row}

-- how many characters are put in, taken out or replaced on the shortest way from a word to a name
abbrev pub distance : List ℕ → List ℕ → ℕ
distance word name = levenshtein_row nat_eq (chars word) (chars name) (length (chars name))

-- a name that is as far as this is no likely one: at most two edits, and fewer than the word has bytes
abbrev pub too_far : List ℕ → ℕ
too_far word = min (length word) 3

-- the name at a place is likely meant: nearer than those before it, and none behind it is nearer
pub record IsNearest (word : List ℕ) (names : List (Bor (List ℕ))) (name : Bor (List ℕ)) : Type 0 where
  pub place : ℕ
  pub there : place < length names
  pub same : slice_index_or names place name ≡ name
  pub near : distance word name.now < too_far word
  pub first : AllWithin (λ other. distance word name.now < distance word other.now) names 0 place
  pub least : All (λ other. distance word name.now ≤ distance word other.now) names

abbrev pub IsLikely : List ℕ → List (Bor (List ℕ)) → Option (Bor (List ℕ)) → Type 0
IsLikely word names None = All (λ other. too_far word ≤ distance word other.now) names
IsLikely word names (Some name) = IsNearest word names name
