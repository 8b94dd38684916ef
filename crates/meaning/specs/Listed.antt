-- Items by their places.
use Rattle.std.specs.Prelude.{ℕ, List}
use Rattle.std.specs.List.{filter_map, slice_get}

-- the items at the listed places, in the order of the list
abbrev pub listed : {A : Type 0} → List ℕ → List A → List A
listed places items = filter_map (slice_get items) places
