-- Rows of items that have numbers, put together by these.
use Rattle.std.specs.Prelude.{◌≡◌, ◌≢◌, ◌⊎◌, ◌<◌, ◌≤◌, ◌==◌, ◌++◌, ◌∷◌, ℕ, List, [], unwrap_or, slice_get, if◌then◌else◌}
use Rattle.std.specs.List.{AllPairs}
use Rattle.protocol.specs.Parts.{In}

-- an item, and the place of the row from which it was taken
pub record Act (T : Type 0) : Type 0 where
  pub cell : ℕ
  pub entry : T

-- the items of one row among those that were put together
abbrev pub of_cell : {T : Type 0} → ℕ → List (Act T) → List T
of_cell c [] = []
of_cell c (act ∷ acts) = if act.cell == c then act.entry ∷ of_cell c acts else of_cell c acts

-- the row at a place; beyond the last one there is nothing
abbrev pub row : {T : Type 0} → List (List T) → ℕ → List T
row rows c = unwrap_or (slice_get rows c) []

module _ {T : Type 0} (number : T → ℕ) where
  -- rows are put together: the numbers ascend, and of each row just its items are there, in their order
  pub record IsMerged (rows : List (List T)) (acts : List (Act T)) : Type 0 where
    pub ascends : AllPairs (λ (one other : Act T). number one.entry < number other.entry) acts
    pub whole : (c : ℕ) → of_cell c acts ≡ row rows c

  -- a number stands in a row right after one that isn't below it
  pub record StandsAfter (rows : List (List T)) (k : ℕ) : Type 0 where
    pub cell : ℕ
    pub front : List T
    pub before : T
    pub entry : T
    pub back : List T
    pub is : row rows cell ≡ front ++ before ∷ entry ∷ back
    pub here : number entry ≡ k
    pub high : k ≤ number before

  -- a number stands in two rows
  pub record StandsTwice (rows : List (List T)) (k : ℕ) : Type 0 where
    pub one : ℕ
    pub other : ℕ
    pub apart : one ≢ other
    pub first : T
    pub second : T
    pub in_one : In first (row rows one)
    pub in_other : In second (row rows other)
    pub here : number first ≡ k
    pub there : number second ≡ k

  -- a number for which rows can't be put together
  abbrev pub Breaks : List (List T) → ℕ → Type 0
  Breaks rows k = StandsAfter rows k ⊎ StandsTwice rows k
