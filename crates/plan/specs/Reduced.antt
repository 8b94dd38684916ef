-- A plan without the reads of leaves that are not fetched.
use Rattle.std.specs.Prelude.{◌≡◌, ◌==◌, ◌&&◌, ℤ, Bool, true, if◌then◌else◌, List, nat_eq}
use Rattle.std.specs.Cmp.Lexicographic.{pointwise}
use Rattle.std.specs.List.{AllByRecursion, list_any}
use Rattle.terms.specs.declared.leaf.Leaf.{Leaf}
use Rattle.terms.specs.declared.value.Value.{Value}
use Rattle.meaning.specs.declared.statement.Statement.{Statement}
use Rattle.meaning.specs.Whole.{FitsSchema, Relations, rows_of}
use Rattle.catalog.specs.Catalogue.{Catalogue}
use Rattle.catalog.specs.Fragment.{content}
use Rattle.catalog.specs.FragmentLeaf.{schemas_of, unnamed}
use Rattle.plan.specs.declared.fetch.Fetch as fetch
use Rattle.plan.specs.declared.need.Need.{Need}
use Rattle.plan.specs.Fetch.{fetch_of}
use Rattle.plan.specs.Found.{found}
use Rattle.plan.specs.Need.{needs}
use Rattle.plan.specs.Rows.{met, rows}
use Rattle.plan.specs.Shape.{Shape, Empty, Fetch, Filter, Project, Union, KeyJoin, Lookup}
use Rattle.plan.specs.Stated.{leaves_of}

-- whether two leaves have one name
abbrev pub same_leaf : Leaf → Leaf → Bool
same_leaf one other = pointwise nat_eq one.relation other.relation && (one.number == other.number)

-- whether some of the fetches reads a leaf
abbrev pub is_fetched : List fetch.Fetch → Leaf → Bool
is_fetched fetches leaf = list_any (λ read. same_leaf read.leaf leaf) fetches

-- the reads of leaves that don't pass are empty
abbrev pub reduced : (Leaf → Bool) → Shape → Shape
reduced passes Empty = Empty
reduced passes (Fetch read) = if passes read.leaf then Fetch read else Empty
reduced passes (Filter conds below) = Filter conds (reduced passes below)
reduced passes (Project columns below) = Project columns (reduced passes below)
reduced passes (Union one other) = Union (reduced passes one) (reduced passes other)
reduced passes (KeyJoin one other) = KeyJoin (reduced passes one) (reduced passes other)
reduced passes (Lookup col width left right) = Lookup col width (reduced passes left) (reduced passes right)

-- as far as the reads of a need's fetched leaves look, the contents are those of the whole
abbrev pub GivesNeed : Catalogue → Relations → (Leaf → Bool) → (Leaf → List (List Value)) → Need → Type 0
GivesNeed catalogue whole passes contents need =
    AllByRecursion (λ leaf. passes leaf.name ≡ true → met (fetch_of need leaf).conds (contents leaf.name) ≡ met (fetch_of need leaf).conds (content (unnamed leaf) (rows_of whole need.relation))) (leaves_of catalogue need.relation)

abbrev pub GivesNeeds : Catalogue → Relations → (Leaf → Bool) → (Leaf → List (List Value)) → List Need → Type 0
GivesNeeds catalogue whole passes contents needs = AllByRecursion (GivesNeed catalogue whole passes contents) needs

-- a plan over contents of the fetched leaves has at each key what its statement is to find in the whole database
abbrev pub FindsAll : Catalogue → Statement → List fetch.Fetch → Shape → Type 0
FindsAll catalogue statement fetches plan =
    (whole : Relations) (contents : Leaf → List (List Value)) (key : ℤ) → FitsSchema (schemas_of catalogue) whole → GivesNeeds catalogue whole (is_fetched fetches) contents (needs statement).relations → rows plan contents key ≡ found statement whole key
