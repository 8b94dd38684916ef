-- The built-in split: item(id int, zone int, label text), by rows with zone < 10 and zone >= 10.
use Rattle.std.specs.Prelude.{◌≡◌, pos, List, [], ◌∷◌}
use Rattle.terms.specs.declared.cond.Cmp.TheVariants.{Lt, Ge}
use Rattle.terms.specs.declared.cond.Cond.{Cond}
use Rattle.terms.specs.declared.value.Kind.{Kind}
use Rattle.terms.specs.declared.value.Kind.TheVariants as kinds
use Rattle.terms.specs.declared.value.Value.TheVariants.{Int}
use Rattle.catalog.specs.Fragment.{Fragment}
use Rattle.catalog.specs.Split.{Tree, Site, ByRows, Branch, NoBranch}
use Rattle.catalog.specs.Path.{fragments}
use Rattle.catalog.specs.Valid.{IsValid}

abbrev pub item_kinds : List Kind
item_kinds = kinds.Int ∷ kinds.Int ∷ kinds.Text ∷ []

abbrev pub zone_below : Cond
zone_below = record { col = 1; cmp = Lt; value = Int (pos 10) }

abbrev pub zone_from : Cond
zone_from = record { col = 1; cmp = Ge; value = Int (pos 10) }

-- the first site has the rows with zone < 10, the second the others
abbrev pub item_tree : Tree
item_tree = ByRows (Branch (zone_below ∷ []) (Site 0) (Branch (zone_from ∷ []) (Site 1) NoBranch))

-- both leaves have all columns
abbrev pub item_below : Fragment
item_below = record { conds = zone_below ∷ []; columns = 0 ∷ 1 ∷ 2 ∷ [] }

abbrev pub item_from : Fragment
item_from = record { conds = zone_from ∷ []; columns = 0 ∷ 1 ∷ 2 ∷ [] }

-- the built-in split is valid
abbrev pub ItemIsValid : Type 0
ItemIsValid = IsValid item_kinds item_tree

-- and these two are its fragments
abbrev pub ItemFragments : Type 0
ItemFragments = fragments item_kinds item_tree ≡ item_below ∷ item_from ∷ []
