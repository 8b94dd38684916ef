-- What the check of a row split answers.
use Rattle.std.specs.Prelude.{◌≡◌, ◌≤◌, ℕ, List, Some, None}
use Rattle.terms.specs.declared.cond.Cond.{Cond}
use Rattle.terms.specs.declared.value.Kind.{Kind}
use Rattle.catalog.specs.declared.exact.Exactness.{Exactness}
use Rattle.catalog.specs.declared.exact.Exactness.TheVariants.{Exact, Gap, Overlap, TooMany}
use Rattle.catalog.specs.Valid.{AreExact}
use Rattle.catalog.specs.Cells.{met_by, IsFirstFault, IsFault, HasMoreCells}

-- what the check of a row split answers, where it may have so many cells: it is exact and has no faulty cell,
-- or its first faulty cell meets no branch, or that cell meets two or more, or it has more cells
abbrev pub IsAnswer : List Kind → List Cond → List (List Cond) → ℕ → Exactness → Type 0
IsAnswer kinds way branches limit Exact = IsFirstFault kinds way branches limit None × AreExact kinds way branches
IsAnswer kinds way branches limit (Gap cell) = IsFirstFault kinds way branches limit (Some cell) × IsFault kinds way branches cell × (met_by branches cell ≡ 0)
IsAnswer kinds way branches limit (Overlap cell) = IsFirstFault kinds way branches limit (Some cell) × IsFault kinds way branches cell × (2 ≤ met_by branches cell)
IsAnswer kinds way branches limit TooMany = HasMoreCells kinds way branches limit
