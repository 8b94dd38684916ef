-- Reads of leaves.
use Rattle.std.specs.Prelude.{ℕ, ◌==◌, suc, if◌then◌else◌, List, [], ◌∷◌, Option, Some, None, option_map}
use Rattle.std.specs.List.{filter_map}
use Rattle.terms.specs.declared.cond.Cond.{Cond}
use Rattle.catalog.specs.declared.fragment_leaf.FragmentLeaf.{FragmentLeaf}
use Rattle.plan.specs.declared.fetch.Fetch.{Fetch}
use Rattle.plan.specs.declared.need.Need.{Need}
use Rattle.plan.specs.Need.{on_column}

-- the place of a column among a leaf's columns
abbrev pub place_in : ℕ → List ℕ → Option ℕ
place_in col [] = None
place_in col (first ∷ columns) = if first == col then Some 0 else option_map suc (place_in col columns)

-- those conditions whose columns the leaf has, on the places of its parts
abbrev pub placed : List ℕ → List Cond → List Cond
placed columns conds = filter_map (λ cond. option_map (λ place. on_column place cond) (place_in cond.col columns)) conds

-- the fetch of a leaf carries those conditions of the need whose columns the leaf has
abbrev pub fetch_of : Need → FragmentLeaf → Fetch
fetch_of need leaf = record { leaf = leaf.name; columns = leaf.columns; conds = placed leaf.columns need.conds }
