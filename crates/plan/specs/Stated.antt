-- Which leaves a statement fetches: exactly those that it may need.
use Rattle.std.specs.Prelude.{◌≡◌, ◌⊎◌, ℕ, suc, ◌==◌, true, if◌then◌else◌, List, [], ◌∷◌, ◌++◌, Option, Some, None, option_map}
use Rattle.std.specs.List.{AllByRecursion, Contains, filter_map, slice_get}
use Rattle.terms.specs.declared.value.Kind.{Kind}
use Rattle.terms.specs.declared.value.Value.{Value}
use Rattle.terms.specs.declared.value.Value.TheVariants.{Int}
use Rattle.terms.specs.Cond.{conds_hold}
use Rattle.terms.specs.Row.{key_of, FitsKinds}
use Rattle.meaning.specs.declared.statement.Statement.{Statement}
use Rattle.meaning.specs.Schema.{kinds_of}
use Rattle.catalog.specs.declared.fragment_leaf.FragmentLeaf.{FragmentLeaf}
use Rattle.catalog.specs.Catalogue.{Catalogue, SplitRelation}
use Rattle.catalog.specs.FragmentLeaf.{leaves_in, relation_named}
use Rattle.catalog.specs.Path.{wanted}
use Rattle.plan.specs.declared.fetch.Fetch.{Fetch}
use Rattle.plan.specs.declared.link.Link.{Link}
use Rattle.plan.specs.declared.need.Need.{Need}
use Rattle.plan.specs.declared.need.Needs.{Needs}
use Rattle.plan.specs.Fetch.{fetch_of}
use Rattle.plan.specs.Need.{needs}

-- the types of the columns of a relation of a catalogue, and its leaves; none where it is not there
abbrev pub kinds_found : Option SplitRelation → List Kind
kinds_found None = []
kinds_found (Some relation) = kinds_of relation.schema

abbrev pub kinds_in : Catalogue → List ℕ → List Kind
kinds_in catalogue name = kinds_found (relation_named name catalogue.relations)

abbrev pub leaves_of : Catalogue → List ℕ → List FragmentLeaf
leaves_of catalogue name = leaves_in (relation_named name catalogue.relations)

-- a leaf may serve a need by a row: it is wanted for the needed columns, and its conditions and those of the need hold of the row
pub record Serves (kinds : List Kind) (need : Need) (leaf : FragmentLeaf) (row : List Value) : Type 0 where
  pub is_wanted : wanted need.columns leaf.steps ≡ true
  pub fits : FitsKinds kinds row
  pub holds : conds_hold (leaf.conds ++ need.conds) row ≡ true

-- some row makes a leaf serve
pub record IsStated (kinds : List Kind) (need : Need) (leaf : FragmentLeaf) : Type 0 where
  pub row : List Value
  pub serves : Serves kinds need leaf row

-- leaves of both sides of a join meet: rows that they serve have the same value in the columns of ON
pub record Meet (kinds others : List Kind) (col : ℕ) (need other_need : Need) (leaf other_leaf : FragmentLeaf) : Type 0 where
  pub row : List Value
  pub other : List Value
  pub serves : Serves kinds need leaf row
  pub serves_other : Serves others other_need other_leaf other
  pub joined : slice_get row col ≡ Some (Int (key_of other))

-- a leaf meets some leaf of the relation whose key is the column of ON, and the other way about
pub record IsStatedFrom (kinds others : List Kind) (col : ℕ) (need other_need : Need) (others_leaves : List FragmentLeaf) (leaf : FragmentLeaf) : Type 0 where
  pub other_leaf : FragmentLeaf
  pub there : Contains others_leaves other_leaf
  pub meet : Meet kinds others col need other_need leaf other_leaf

pub record IsStatedJoined (kinds others : List Kind) (col : ℕ) (need other_need : Need) (leaves : List FragmentLeaf) (other_leaf : FragmentLeaf) : Type 0 where
  pub leaf : FragmentLeaf
  pub there : Contains leaves leaf
  pub meet : Meet kinds others col need other_need leaf other_leaf

-- an ON that a need takes part in, with the need of the other side: by one of its columns, which is the other's key, or by its key, which is a column of the other
pub data Tie : Type 0 where
  ByColumn : (col : ℕ) (other : Need) → Tie
  ByKey : (col : ℕ) (other : Need) → Tie

-- what an ON is to the need of a number
abbrev pub tie_of : List Need → ℕ → Link → Option Tie
tie_of needs number link =
    if link.from == number then option_map (ByColumn link.col) (slice_get needs link.joined) else (if link.joined == number then option_map (ByKey link.col) (slice_get needs link.from) else None)

abbrev pub ties_of : Needs → ℕ → List Tie
ties_of needs number = filter_map (tie_of needs.relations number) needs.links

-- a leaf of a need meets some leaf of the other side of an ON
abbrev pub MeetsBy : Catalogue → Need → FragmentLeaf → Tie → Type 0
MeetsBy catalogue need leaf (ByColumn col other) = IsStatedFrom (kinds_in catalogue need.relation) (kinds_in catalogue other.relation) col need other (leaves_of catalogue other.relation) leaf
MeetsBy catalogue need leaf (ByKey col other) = IsStatedJoined (kinds_in catalogue other.relation) (kinds_in catalogue need.relation) col other need (leaves_of catalogue other.relation) leaf

-- a leaf is stated where some row makes it serve, and by each ON of its relation it meets a leaf of the other side
pub record IsStatedBy (catalogue : Catalogue) (need : Need) (ties : List Tie) (leaf : FragmentLeaf) : Type 0 where
  pub serves : IsStated (kinds_in catalogue need.relation) need leaf
  pub meets : AllByRecursion (MeetsBy catalogue need leaf) ties

-- the fetches of leaves are those of the stated ones, each once, in their order
abbrev pub AreFetches : (FragmentLeaf → Type 0) → Need → List FragmentLeaf → List Fetch → Type 0
AreFetches Stated need [] fetches = fetches ≡ []
AreFetches Stated need (leaf ∷ leaves) fetches =
    (Stated leaf × ((rest : List Fetch) × (fetches ≡ fetch_of need leaf ∷ rest) × AreFetches Stated need leaves rest))
    ⊎ ((Stated leaf → ⊥) × AreFetches Stated need leaves fetches)

-- the fetches of some of the needs, from the one of a number on: those of one relation, and then those of the next
pub record AreBoth (Front Rest : List Fetch → Type 0) (fetches : List Fetch) : Type 0 where
  pub first : List Fetch
  pub second : List Fetch
  pub both : fetches ≡ first ++ second
  pub front : Front first
  pub rest : Rest second

abbrev pub AreFetchesFrom : Catalogue → Needs → ℕ → List Need → List Fetch → Type 0
AreFetchesFrom catalogue needs number [] fetches = fetches ≡ []
AreFetchesFrom catalogue needs number (need ∷ later) fetches =
    AreBoth (AreFetches (IsStatedBy catalogue need (ties_of needs number)) need (leaves_of catalogue need.relation)) (AreFetchesFrom catalogue needs (suc number) later) fetches

-- the fetches of a statement are exactly those that are stated
abbrev pub AreFetchesOf : Catalogue → Statement → List Fetch → Type 0
AreFetchesOf catalogue statement fetches = AreFetchesFrom catalogue (needs statement) 0 (needs statement).relations fetches
