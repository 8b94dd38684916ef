-- When contents give what a statement's reads look for.
use Rattle.std.specs.Prelude.{◌≡◌, ℕ, Bool, true, List, [], Option, Some, None}
use Rattle.std.specs.List.{AllByRecursion}
use Rattle.terms.specs.declared.leaf.Leaf.{Leaf}
use Rattle.terms.specs.declared.value.Value.{Value}
use Rattle.meaning.specs.declared.statement.Statement.{Statement}
use Rattle.meaning.specs.Statement.{IsStatementOf}
use Rattle.meaning.specs.Whole.{Relations, rows_of}
use Rattle.catalog.specs.declared.fragment_leaf.FragmentLeaf.{FragmentLeaf}
use Rattle.catalog.specs.Catalogue.{Catalogue}
use Rattle.catalog.specs.Formed.{IsFormed}
use Rattle.catalog.specs.Fragment.{content}
use Rattle.catalog.specs.FragmentLeaf.{catalogue_leaves, leaf_named, schemas_of, unnamed}
use Rattle.plan.specs.declared.fetch.Fetch.{Fetch}
use Rattle.plan.specs.declared.need.Need.{Need}
use Rattle.plan.specs.Fetch.{fetch_of}
use Rattle.plan.specs.Need.{needs}
use Rattle.plan.specs.Reduced.{GivesNeeds, is_fetched}
use Rattle.plan.specs.Rows.{met}
use Rattle.plan.specs.Stated.{AreFetchesOf, leaves_of}

-- the contents of a whole database
abbrev pub AreContents : Catalogue → Relations → (Leaf → List (List Value)) → Type 0
AreContents catalogue whole contents = (name : List ℕ) → AllByRecursion (λ leaf. contents leaf.name ≡ content (unnamed leaf) (rows_of whole name)) (leaves_of catalogue name)

-- what the reads of a need's fetched leaves leave of them
abbrev pub AreRead : Catalogue → Relations → (Leaf → Bool) → (Leaf → List (List Value)) → Need → Type 0
AreRead catalogue whole passes contents need =
    AllByRecursion (λ leaf. passes leaf.name ≡ true → contents leaf.name ≡ met (fetch_of need leaf).conds (content (unnamed leaf) (rows_of whole need.relation))) (leaves_of catalogue need.relation)

abbrev pub AreReads : Catalogue → Relations → (Leaf → Bool) → (Leaf → List (List Value)) → List Need → Type 0
AreReads catalogue whole passes contents needs = AllByRecursion (AreRead catalogue whole passes contents) needs

-- whole contents give it, and so does what the reads leave of them
abbrev pub ContentsGive : Type 0
ContentsGive = (catalogue : Catalogue) (whole : Relations) (passes : Leaf → Bool) (contents : Leaf → List (List Value)) (needs : List Need) → AreContents catalogue whole contents → GivesNeeds catalogue whole passes contents needs

abbrev pub ReadsGive : Type 0
ReadsGive = (catalogue : Catalogue) (whole : Relations) (passes : Leaf → Bool) (contents : Leaf → List (List Value)) (needs : List Need) → AreReads catalogue whole passes contents needs → GivesNeeds catalogue whole passes contents needs

-- what a read brings of a whole database: those parts of its leaf that meet its conditions
abbrev pub brought : Relations → Fetch → Option FragmentLeaf → List (List Value)
brought whole read None = []
brought whole read (Some leaf) = met read.conds (content (unnamed leaf) (rows_of whole leaf.name.relation))

-- the contents are what reads bring of a whole database
abbrev pub AreBrought : Catalogue → Relations → List Fetch → (Leaf → List (List Value)) → Type 0
AreBrought catalogue whole fetches contents = AllByRecursion (λ read. contents read.leaf ≡ brought whole read (leaf_named read.leaf (catalogue_leaves catalogue))) fetches

-- what the fetches of a statement bring is what the reads of its needs leave
abbrev pub BroughtIsRead : Type 0
BroughtIsRead = (catalogue : Catalogue) (statement : Statement) (fetches : List Fetch) (whole : Relations) (contents : Leaf → List (List Value)) → IsFormed catalogue → IsStatementOf (schemas_of catalogue) statement → AreFetchesOf catalogue statement fetches →
    AreBrought catalogue whole fetches contents → AreReads catalogue whole (is_fetched fetches) contents (needs statement).relations
