-- The leaves of a catalogue, each with how many rows it has.
use Rattle.std.specs.Prelude.{ℕ, List, [], ◌∷◌, if◌then◌else◌, flat_map, map}
use Rattle.terms.specs.Leaf.{leaf_text}
use Rattle.catalog.specs.declared.fragment_leaf.FragmentLeaf.{FragmentLeaf}
use Rattle.catalog.specs.Catalogue.{Catalogue}
use Rattle.catalog.specs.FragmentLeaf.{catalogue_leaves}
use Rattle.lines.specs.Listing.{is_asked}
use Rattle.lines.specs.Script.{CountsLeaf, Reading}

-- a leaf's name, where its relation is asked for
abbrev pub names_of : List ℕ → FragmentLeaf → List (List ℕ)
names_of asked leaf = if is_asked asked leaf.name.relation then leaf_text leaf.name ∷ [] else []

-- the names of the leaves that are asked for, in the catalogue's order
abbrev pub leaf_names : List ℕ → Catalogue → List (List ℕ)
leaf_names asked catalogue = flat_map (names_of asked) (catalogue_leaves catalogue)

-- each of them is told, with how many rows it has
abbrev pub counts_asked : List ℕ → Catalogue → List Reading
counts_asked asked catalogue = map CountsLeaf (leaf_names asked catalogue)
