-- Places: a leaf at a site, and where a catalogue has its leaves.
use Rattle.std.specs.Prelude.{ℕ, List, [], Option, option_and_then, unwrap_or}
use Rattle.std.specs.List.{slice_get}
use Rattle.terms.specs.declared.cond.Cond.{Cond}
use Rattle.terms.specs.declared.leaf.Leaf.{Leaf}
use Rattle.terms.specs.declared.write.Write.{Write}
use Rattle.catalog.specs.Catalogue.{Catalogue}
use Rattle.catalog.specs.FragmentLeaf.{catalogue_leaves, leaf_named}
use Rattle.plan.specs.declared.fetch.Fetch.{Fetch}
use Rattle.answers.specs.declared.moves.Move.{Move}
use Rattle.protocol.specs.Letters.{at_key, leaf_of}
use Rattle.protocol.specs.Local.{AtKey}

-- a leaf at a site
abbrev pub Place : Type 0
Place = List ℕ × Leaf

-- the site of a leaf, if the catalogue has the leaf
abbrev pub site_in : Catalogue → Leaf → Option (List ℕ)
site_in catalogue name = option_and_then (λ leaf. slice_get catalogue.sites leaf.site) (leaf_named name (catalogue_leaves catalogue))

-- its name; of a leaf that the catalogue doesn't have an empty one
abbrev pub home_in : Catalogue → Leaf → List ℕ
home_in catalogue name = unwrap_or (site_in catalogue name) []

-- a leaf at its site
abbrev pub placed_in : Catalogue → Leaf → Place
placed_in catalogue name = (home_in catalogue name, name)

-- a fetch, and a write, of a leaf at its site
abbrev pub fetch_in : Catalogue → Fetch → Place × List Cond
fetch_in catalogue fetch = (placed_in catalogue fetch.leaf, fetch.conds)

abbrev pub write_in : Catalogue → Write → Place × AtKey
write_in catalogue write = (placed_in catalogue (leaf_of write), at_key write)

-- a move is to a leaf at the site that it names
abbrev pub move_in : Move → Place × AtKey
move_in move = ((move.site, leaf_of move.write), at_key move.write)
