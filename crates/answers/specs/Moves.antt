-- Moves: what leads each place, a leaf number at a site, from its content under one catalogue to its content under the next one, where a relation gets another split.
use Rattle.std.specs.Prelude.{◌≡◌, ℕ, ℤ, nat_eq, ◌==◌, ◌&&◌, ◌||◌, Bool, false, if◌then◌else◌, List, [], Option, Some, None, filter, flat_map, map, option_and_then}
use Rattle.std.specs.Cmp.Lexicographic.{pointwise}
use Rattle.std.specs.List.{list_any, range_with_len, slice_get}
use Rattle.terms.specs.declared.leaf.Leaf.{Leaf}
use Rattle.terms.specs.declared.value.Value.{Value}
use Rattle.terms.specs.declared.write.Write.{Write}
use Rattle.meaning.specs.Whole.{FitsSchema, Relations, rows_of}
use Rattle.catalog.specs.declared.fragment_leaf.FragmentLeaf.{FragmentLeaf}
use Rattle.catalog.specs.Catalogue.{Catalogue}
use Rattle.catalog.specs.Formed.{IsFormed}
use Rattle.catalog.specs.Fragment.{content}
use Rattle.catalog.specs.FragmentLeaf.{catalogue_leaves, leaf_named, schemas_of, unnamed}
use Rattle.catalog.specs.Keyed.{row_at}
use Rattle.answers.specs.declared.moves.Move.{Move}
use Rattle.answers.specs.Writes.{applied, leaf_of, leaf_writes}

-- the numbers that leaves of a relation can have: 1 to 32
unfoldable pub numbers : List ℕ
numbers = range_with_len 1 32

-- the leaf of a relation and a number
abbrev pub leaf_numbered : List ℕ → ℕ → Leaf
leaf_numbered relation number = record { relation = relation; number = number }

-- whether a site, if there is one, has this name
abbrev pub is_site : Option (List ℕ) → List ℕ → Bool
is_site None site = false
is_site (Some home) site = pointwise nat_eq home site

-- whether a catalogue has the leaf of this name at a site
abbrev pub is_there : Catalogue → List ℕ → Leaf → Bool
is_there catalogue site name = is_site (option_and_then (λ leaf. slice_get catalogue.sites leaf.site) (leaf_named name (catalogue_leaves catalogue))) site

-- and the leaf, where it has
abbrev pub leaf_there : Catalogue → List ℕ → Leaf → Option FragmentLeaf
leaf_there catalogue site name = if is_there catalogue site name then leaf_named name (catalogue_leaves catalogue) else None

-- what a leaf has of a relation's rows
abbrev pub content_of : Option FragmentLeaf → List (List Value) → List (List Value)
content_of None rows = []
content_of (Some leaf) rows = content (unnamed leaf) rows

-- what a place has of a relation's rows: nothing where the catalogue has no such leaf there
abbrev pub content_there : Catalogue → List ℕ → Leaf → List (List Value) → List (List Value)
content_there catalogue site name rows = content_of (leaf_there catalogue site name) rows

-- a write at a site
abbrev pub at_site : List ℕ → Write → Move
at_site site write = record { site = site; write = write }

-- the moves at a place: a Del where a part is gone, a Put where it is new or other, else nothing, by ascending keys
abbrev pub place_moves : Catalogue → Catalogue → List (List Value) → List ℕ → Leaf → List Move
place_moves old new rows site name = map (at_site site) (leaf_writes name (content_there old site name rows) (content_there new site name rows))

-- the moves of a relation's rows from one catalogue to the next, which has the same sites: site by site, number by number
abbrev pub moves_between : Catalogue → Catalogue → List ℕ → List (List Value) → List Move
moves_between old new relation rows = flat_map (λ site. flat_map (λ number. place_moves old new rows site (leaf_numbered relation number)) numbers) old.sites

-- whether a move is to a leaf that one of two catalogues has at the move's site
abbrev pub is_to_either : Catalogue → Catalogue → Move → Bool
is_to_either old new move = is_there old move.site (leaf_of move.write) || is_there new move.site (leaf_of move.write)

-- the writes of moves that are at a site, in their order
abbrev pub writes_at : List ℕ → List Move → List Write
writes_at site moves = map (λ move. move.write) (filter (λ move. pointwise nat_eq move.site site) moves)

-- the part that a place has of a relation's rows at a key
abbrev pub part_there : Catalogue → List ℕ → Leaf → List (List Value) → ℤ → Option (List Value)
part_there catalogue site name rows key = row_at key (content_there catalogue site name rows)

-- the moves lead at each site and each leaf number of the relation, whatever they are, at each key, from the part under the one catalogue to the part under the next
abbrev pub MovesLead : Type 0
MovesLead = (old new : Catalogue) (relation site : List ℕ) (number : ℕ) (whole : Relations) (key : ℤ) → IsFormed old → IsFormed new → new.sites ≡ old.sites → FitsSchema (schemas_of old) whole →
    applied (leaf_numbered relation number) (writes_at site (moves_between old new relation (rows_of whole relation))) (part_there old site (leaf_numbered relation number) (rows_of whole relation)) key
    ≡ part_there new site (leaf_numbered relation number) (rows_of whole relation) key

-- whether moves of a relation can be to a place: it is at one of the sites, and has one of the numbers of the relation's leaves
abbrev pub is_moved : Catalogue → List ℕ → List ℕ → Leaf → Bool
is_moved old relation site name = list_any (λ home. pointwise nat_eq home site) old.sites && (pointwise nat_eq name.relation relation && list_any (λ number. number == name.number) numbers)

-- the moves leave every other place as it is
abbrev pub MovesStay : Type 0
MovesStay = (old new : Catalogue) (relation site : List ℕ) (name : Leaf) (rows : List (List Value)) (before : ℤ → Option (List Value)) (key : ℤ) → is_moved old relation site name ≡ false →
    applied name (writes_at site (moves_between old new relation rows)) before key ≡ before key
