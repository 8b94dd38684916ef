-- The letters that were ever sent, and where the letters of each entry end.
use Rattle.std.specs.Prelude.{ℕ, ◌+◌, ◌-◌, ◌^◌, min, Bool, List, [], ◌∷◌, length}
use Rattle.std.specs.List.{flat_map}
use Rattle.store.specs.declared.letter.Letter.{Letter}
use Rattle.world.specs.declared.event.Entry.{Entry}

-- the letters of entries, oldest first
abbrev pub letters_in : List Entry → List Letter
letters_in entries = flat_map (λ entry. entry.out.letters) entries

-- entries, and whether there is room for one more
pub record Logged : Type 0 where
  pub items : List Entry
  pub has_room : Bool

-- how many letters were sent up to the end of an entry, of so many before it; 128 bits hold it
abbrev pub end_after : ℕ → Entry → ℕ
end_after before entry = min (before + length entry.out.letters) (2 ^ 128 - 1)

-- so up to the end of each of these entries
abbrev pub ends_from : ℕ → List Entry → List ℕ
ends_from before [] = []
ends_from before (entry ∷ rest) = end_after before entry ∷ ends_from (end_after before entry) rest

-- and up to the end of them all
abbrev pub end_of : ℕ → List Entry → ℕ
end_of before [] = before
end_of before (entry ∷ rest) = end_of (end_after before entry) rest
