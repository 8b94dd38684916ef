-- What is told of the catalogue in force.
use Rattle.std.specs.Prelude.{ℕ, ◌-◌, List, [], if◌then◌else◌, length, nat_eq, unwrap_or}
use Rattle.std.specs.List.{slice_get}
use Rattle.lines.specs.Listing.{catalog_text}

-- the name of the catalogue of this number, counted from 1; nothing where there is none
abbrev pub name_at : List (List ℕ) → ℕ → List ℕ
name_at names number = if nat_eq number 0 then [] else unwrap_or (slice_get names (number - 1)) []

-- its number, how many there are, and its name, in a line
abbrev pub in_force_text : List (List ℕ) → ℕ → List ℕ
in_force_text names number = catalog_text number (length names) (name_at names number)
