-- A leaf that is fetched is fetched as the need asks.
use Rattle.std.proofs.Common.{◌≡◌, inl, inr, ℕ, zero, suc, ◌<◌, Bool, true, false, cond, ◌==◌, ◌||◌, List, [], ◌∷◌, ◌++◌, length, Some, flat_map, nat_eq, slice_index_or, refl, ap, ap₂, sym, ◌∙◌, subst, arith}
use Rattle.std.specs.Cmp.Lexicographic.{pointwise, same_text}
use Rattle.std.specs.List.{AllByRecursion, Contains}
use Rattle.std.proofs.lemmas.Bool.{eqb-true}
use Rattle.terms.specs.declared.leaf.Leaf.{Leaf}
use Rattle.catalog.specs.declared.fragment_leaf.FragmentLeaf.{FragmentLeaf}
use Rattle.catalog.specs.declared.path.Path.{Path}
use Rattle.catalog.specs.Catalogue.{Catalogue, SplitRelation}
use Rattle.catalog.specs.Formed.{IsFormed}
use Rattle.catalog.specs.FragmentLeaf as catalog
use Rattle.catalog.specs.FragmentLeaf.{catalogue_leaves, leaf_named, leaves_from, leaves_in, relation_named}
use Rattle.catalog.specs.Laws.{LeafNamesAreUnique}
use Rattle.catalog.specs.Path.{columns_beside_key, paths}
use Rattle.meaning.specs.Schema.{kinds_of}
use Rattle.plan.specs.declared.fetch.Fetch.{Fetch}
use Rattle.plan.specs.declared.need.Need.{Need}
use Rattle.plan.specs.Fetch.{fetch_of}
use Rattle.plan.specs.Reduced.{is_fetched, same_leaf}
use Rattle.plan.specs.Stated.{AreFetches, leaves_of}
use Rattle.plan.proofs.CarriedConds.{both}

-- what holds of all holds of each
of_each : {A : Type 0} (P : A → Type 0) (all : List A) (item : A) (place : ℕ) → AllByRecursion P all → place < length all → slice_index_or all place item ≡ item → P item
of_each P [] item place holds within is = absurd (omega (arith, within))
of_each P (first ∷ rest) item zero holds within is = subst P is holds.0
of_each P (first ∷ rest) item (suc place) holds within is = of_each P rest item place holds.1 (omega (arith, within)) is

pub of_all : {A : Type 0} (P : A → Type 0) (all : List A) (item : A) → AllByRecursion P all → Contains all item → P item
of_all P all item holds there = of_each P all item there.0 holds there.1 there.2

pub behind_first : {A : Type 0} (first : A) (all : List A) (item : A) → Contains all item → Contains (first ∷ all) item
behind_first first all item there = (suc there.0, omega (arith, there.1), there.2)

pub in_front : {A : Type 0} (all others : List A) (item : A) → Contains all item → Contains (all ++ others) item
in_front {A} all others item there = at all there.0 there.1 there.2
  where
    at : (items : List A) (place : ℕ) → place < length items → slice_index_or items place item ≡ item → Contains (items ++ others) item
    at [] place within is = absurd (omega (arith, within))
    at (first ∷ items) zero within is = (0, omega arith, is)
    at (first ∷ items) (suc place) within is = behind_first first (items ++ others) item (at items place (omega (arith, within)) is)

pub in_back : {A : Type 0} (all others : List A) (item : A) → Contains others item → Contains (all ++ others) item
in_back [] others item there = there
in_back (first ∷ all) others item there = behind_first first (all ++ others) item (in_back all others item there)

-- two leaves of one name have it
pub one_name : (one other : Leaf) → same_leaf one other ≡ true → one ≡ other
one_name one other same =
    let make = λ (relation : List ℕ) (number : ℕ). let leaf : Leaf = record { relation = relation; number = number } in leaf in
    let parts = both (pointwise nat_eq one.relation other.relation) (one.number == other.number) same in
    ap₂ make (same_text one.relation other.relation (sym parts.0)) (eqb-true one.number other.number parts.1)

-- the leaf of a name that is fetched: it has a property that all leaves have, and its fetch is among the fetches
pub record IsOf (P : FragmentLeaf → Type 0) (need : Need) (fetches : List Fetch) (name : Leaf) : Type 0 where
  pub leaf : FragmentLeaf
  pub good : P leaf
  pub named : leaf.name ≡ name
  pub there : Contains fetches (fetch_of need leaf)

pub fetched_leaf : (P Stated : FragmentLeaf → Type 0) (need : Need) (leaves : List FragmentLeaf) (fetches : List Fetch) (name : Leaf) → AllByRecursion P leaves → AreFetches Stated need leaves fetches → is_fetched fetches name ≡ true → IsOf P need fetches name
fetched_leaf P Stated need [] fetches name good are is = absurd (let none : is_fetched fetches name ≡ false = ap (λ (all : List Fetch). is_fetched all name) are in cc)
fetched_leaf P Stated need (leaf ∷ leaves) fetches name good (inl there) is =
    let rest = there.1.0 in
    let Q : List Fetch → Type 0 = λ all. is_fetched all name ≡ true → IsOf P need all name in
    subst Q (sym there.1.1) (at rest (fetched_leaf P Stated need leaves rest name good.1 there.1.2) (same_leaf leaf.name name) refl) is
  where
    at : (rest : List Fetch) → (is_fetched rest name ≡ true → IsOf P need rest name) → (t : Bool) → same_leaf leaf.name name ≡ t → (t || is_fetched rest name) ≡ true → IsOf P need (fetch_of need leaf ∷ rest) name
    at rest more true same h = record { leaf = leaf; good = good.0; named = one_name leaf.name name same; there = (0, omega arith, refl) }
    at rest more false same h =
        let found = more h in
        record { leaf = found.leaf; good = found.good; named = found.named; there = behind_first (fetch_of need leaf) rest (fetch_of need found.leaf) found.there }
fetched_leaf P Stated need (leaf ∷ leaves) fetches name good (inr none) is = fetched_leaf P Stated need leaves fetches name good.1 none.1 is

-- a leaf of a relation of the catalogue, by its name
pub record IsLeafOf (all : List FragmentLeaf) (relation : List ℕ) (leaf : FragmentLeaf) : Type 0 where
  pub unique : leaf_named leaf.name all ≡ Some leaf
  pub named : leaf.name.relation ≡ relation

apart : {A : Type 0} (P : A → Type 0) (one other : List A) → AllByRecursion P (one ++ other) → AllByRecursion P one × AllByRecursion P other
apart P [] other all = (tt, all)
apart P (item ∷ one) other all = let rest = apart P one other all.1 in ((all.0, rest.0), rest.1)

numbered : (all : List FragmentLeaf) (name relation columns : List ℕ) (number : ℕ) (ways : List Path) → relation ≡ name → AllByRecursion (λ leaf. leaf_named leaf.name all ≡ Some leaf) (leaves_from relation columns number ways) →
    AllByRecursion (IsLeafOf all name) (leaves_from relation columns number ways)
numbered all name relation columns number [] same unique = tt
numbered all name relation columns number (way ∷ ways) same unique = (record { unique = unique.0; named = same }, numbered all name relation columns (suc number) ways same unique.1)

named_leaves : (all : List FragmentLeaf) (name : List ℕ) (relations : List SplitRelation) → AllByRecursion (λ leaf. leaf_named leaf.name all ≡ Some leaf) (flat_map catalog.leaves_of relations) → AllByRecursion (IsLeafOf all name) (leaves_in (relation_named name relations))
named_leaves all name [] unique = tt
named_leaves all name (first ∷ rest) unique =
    let parts = apart (λ leaf. leaf_named leaf.name all ≡ Some leaf) (catalog.leaves_of first) (flat_map catalog.leaves_of rest) unique in
    at parts.0 (named_leaves all name rest parts.1) (pointwise nat_eq first.schema.name name) refl
  where
    at : AllByRecursion (λ leaf. leaf_named leaf.name all ≡ Some leaf) (catalog.leaves_of first) → AllByRecursion (IsLeafOf all name) (leaves_in (relation_named name rest)) → (t : Bool) → pointwise nat_eq first.schema.name name ≡ t →
        AllByRecursion (IsLeafOf all name) (leaves_in (cond t (Some first) (relation_named name rest)))
    at here more true is = numbered all name first.schema.name (columns_beside_key (kinds_of first.schema)) 1 (paths first.tree) (same_text first.schema.name name (sym is)) here
    at here more false is = more

pub leaves_named : (catalogue : Catalogue) (name : List ℕ) → LeafNamesAreUnique → IsFormed catalogue → AllByRecursion (IsLeafOf (catalogue_leaves catalogue) name) (leaves_of catalogue name)
leaves_named catalogue name unique formed = named_leaves (catalogue_leaves catalogue) name catalogue.relations (unique catalogue formed)

-- the fetches of a need's leaves
abbrev pub IsAmong : Need → List Fetch → FragmentLeaf → Type 0
IsAmong need fetches leaf = is_fetched fetches leaf.name ≡ true → Contains fetches (fetch_of need leaf)

-- of two leaves of one name there is one
pub one_leaf : (all : List FragmentLeaf) (one other : FragmentLeaf) → leaf_named one.name all ≡ Some one → leaf_named other.name all ≡ Some other → one.name ≡ other.name → one ≡ other
one_leaf all one other is is_other same =
    let found : leaf_named one.name all ≡ leaf_named other.name all = ap (λ (name : Leaf). leaf_named name all) same in
    let both_some : Some one ≡ Some other = sym is ∙ found ∙ is_other in cc

pub among : (all : List FragmentLeaf) (relation : List ℕ) (Stated : FragmentLeaf → Type 0) (need : Need) (leaves : List FragmentLeaf) (fetches : List Fetch) (leaf : FragmentLeaf) → AllByRecursion (IsLeafOf all relation) leaves → AreFetches Stated need leaves fetches → IsLeafOf all relation leaf →
    IsAmong need fetches leaf
among all relation Stated need leaves fetches leaf good are here fetched =
    let found = fetched_leaf (IsLeafOf all relation) Stated need leaves fetches leaf.name good are fetched in
    let P : FragmentLeaf → Type 0 = λ one. Contains fetches (fetch_of need one) in
    subst P (one_leaf all found.leaf leaf found.good.unique here.unique found.named) found.there
