-- What the merge picks from its rows.
use Rattle.std.specs.Prelude.{◌≡◌, ⊤, ◌≤◌, ℕ, List, [], ◌∷◌, Option, Some, None, map, nat_le, if◌then◌else◌}
use Rattle.std.specs.Borrow.{Bor}
use Rattle.history.specs.declared.merge.Pick.{Pick}
use Rattle.history.specs.Merge.{Act, row}

-- a pick, with the item itself
abbrev pub act_of : {T : Type 0} → Pick T → Act T
act_of pick = record { cell = pick.cell; entry = pick.item.now }

abbrev pub acts_of : {T : Type 0} → List (Pick T) → List (Act T)
acts_of picks = map act_of picks

-- the rows themselves
abbrev pub rows_of : {T : Type 0} → List (Bor (List T)) → List (List T)
rows_of rows = map (λ items. items.now) rows

module _ {T : Type 0} (number : T → ℕ) where
  -- the one of the lower number, or else the first
  abbrev pub lower_of : Option (Act T) → Act T → Act T
  lower_of None other = other
  lower_of (Some one) other = if nat_le (number one.entry) (number other.entry) then one else other

  -- a row doesn't begin with a lower number
  abbrev pub BeginsFrom : ℕ → List T → Type 0
  BeginsFrom n [] = ⊤
  BeginsFrom n (item ∷ items) = n ≤ number item

  -- the first item of a row, where no row begins with a lower number
  pub record IsLeast (rows : List (List T)) (act : Act T) : Type 0 where
    pub back : List T
    pub here : row rows act.cell ≡ act.entry ∷ back
    pub least : (c : ℕ) → BeginsFrom (number act.entry) (row rows c)

  -- so it is, or all rows are empty
  abbrev pub IsLeastOf : List (List T) → Option (Act T) → Type 0
  IsLeastOf rows None = (c : ℕ) → row rows c ≡ []
  IsLeastOf rows (Some act) = IsLeast rows act
