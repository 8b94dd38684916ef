-- Each leaf of a statement that is fetched is fetched as its need asks, and what the fetches bring is what the reads leave.
use Rattle.std.proofs.Common.{◌≡◌, ◌≢◌, ◌⊎◌, inl, inr, ℕ, suc, Bool, true, false, ◌||◌, List, [], ◌∷◌, ◌++◌, refl, ap, sym, ◌∙◌, subst}
use Rattle.std.specs.List.{AllByRecursion, Contains}
use Rattle.terms.specs.declared.leaf.Leaf.{Leaf}
use Rattle.terms.specs.declared.value.Value.{Value}
use Rattle.meaning.specs.declared.statement.Statement.{Statement}
use Rattle.meaning.specs.Statement.{IsStatementOf}
use Rattle.meaning.specs.Whole.{Relations, rows_of}
use Rattle.catalog.specs.declared.fragment_leaf.FragmentLeaf.{FragmentLeaf}
use Rattle.catalog.specs.Catalogue.{Catalogue}
use Rattle.catalog.specs.Formed.{IsFormed}
use Rattle.catalog.specs.Fragment.{content}
use Rattle.catalog.specs.FragmentLeaf.{catalogue_leaves, leaf_named, schemas_of, unnamed}
use Rattle.catalog.specs.Laws.{LeafNamesAreUnique}
use Rattle.plan.specs.declared.fetch.Fetch.{Fetch}
use Rattle.plan.specs.declared.need.Need.{Need}
use Rattle.plan.specs.declared.need.Needs.{Needs}
use Rattle.plan.specs.Fetch.{fetch_of, placed}
use Rattle.plan.specs.Given.{AreBrought, AreReads, BroughtIsRead, brought}
use Rattle.plan.specs.Need.{needs}
use Rattle.plan.specs.Reduced.{is_fetched, same_leaf}
use Rattle.plan.specs.Rows.{met}
use Rattle.plan.specs.Stated.{AreFetches, AreFetchesFrom, AreFetchesOf, IsStatedBy, leaves_of, ties_of}
use Rattle.plan.proofs.Joining.{all_more}
use Rattle.plan.proofs.Fetched.{IsAmong, IsLeafOf, among, fetched_leaf, in_back, in_front, leaves_named, of_all}
use Rattle.plan.proofs.StatementFits.{AreApart, needs_apart}

-- each leaf of the needs that is fetched is fetched so
abbrev pub AreAmong : Catalogue → List Fetch → List Need → Type 0
AreAmong catalogue fetches needed = AllByRecursion (λ need. AllByRecursion (IsAmong need fetches) (leaves_of catalogue need.relation)) needed

abbrev AreOthers : Need → List Need → Type 0
AreOthers need later = AllByRecursion (λ other. need.relation ≢ other.relation) later

-- a leaf is fetched among some fetches or among those behind them
on_a_side : (first second : List Fetch) (name : Leaf) → is_fetched (first ++ second) name ≡ true → (is_fetched first name ≡ true) ⊎ (is_fetched second name ≡ true)
on_a_side [] second name h = inr h
on_a_side (read ∷ first) second name h = at (same_leaf read.leaf name) (on_a_side first second name) h
  where
    at : (t : Bool) → (is_fetched (first ++ second) name ≡ true → (is_fetched first name ≡ true) ⊎ (is_fetched second name ≡ true)) → (t || is_fetched (first ++ second) name) ≡ true → ((t || is_fetched first name) ≡ true) ⊎ (is_fetched second name ≡ true)
    at true more h = inl refl
    at false more h = more h

-- no leaf of one relation is fetched among those of another
not_there : (all : List FragmentLeaf) (Stated : FragmentLeaf → Type 0) (name : List ℕ) (other : Need) (leaves : List FragmentLeaf) (fetches : List Fetch) (leaf : FragmentLeaf) → name ≢ other.relation → AllByRecursion (IsLeafOf all other.relation) leaves →
    AreFetches Stated other leaves fetches → IsLeafOf all name leaf → is_fetched fetches leaf.name ≡ true → ⊥
not_there all Stated name other leaves fetches leaf differ good are here fetched =
    let found = fetched_leaf (IsLeafOf all other.relation) Stated other leaves fetches leaf.name good are fetched in
    differ (sym here.named ∙ sym (ap (λ (n : Leaf). n.relation) found.named) ∙ found.good.named)

-- nor among those of others
not_later : (catalogue : Catalogue) (needed : Needs) (number : ℕ) (later : List Need) (fetches : List Fetch) (need : Need) (leaf : FragmentLeaf) → LeafNamesAreUnique → IsFormed catalogue → AreOthers need later → AreFetchesFrom catalogue needed number later fetches →
    IsLeafOf (catalogue_leaves catalogue) need.relation leaf → is_fetched fetches leaf.name ≡ true → ⊥
not_later catalogue needed number [] fetches need leaf unique formed apart are here fetched =
    let none : is_fetched [] leaf.name ≡ true = ap (λ (reads : List Fetch). is_fetched reads leaf.name) (sym are) ∙ fetched in
    absurd (cc)
not_later catalogue needed number (other ∷ later) fetches need leaf unique formed apart are here fetched =
    at (not_later catalogue needed (suc number) later are.second need leaf unique formed apart.1 are.rest here) (on_a_side are.first are.second leaf.name (ap (λ (reads : List Fetch). is_fetched reads leaf.name) (sym are.both) ∙ fetched))
  where
    at : (is_fetched are.second leaf.name ≡ true → ⊥) → (is_fetched are.first leaf.name ≡ true) ⊎ (is_fetched are.second leaf.name ≡ true) → ⊥
    at more (inl is) =
        not_there (catalogue_leaves catalogue) (IsStatedBy catalogue other (ties_of needed number)) need.relation other (leaves_of catalogue other.relation) are.first leaf apart.0 (leaves_named catalogue other.relation unique formed) are.front here is
    at more (inr is) = more is

-- the leaves of the first of some needs
first_among : (catalogue : Catalogue) (needed : Needs) (number : ℕ) (need : Need) (later : List Need) (first second : List Fetch) → LeafNamesAreUnique → IsFormed catalogue → AreOthers need later →
    AreFetches (IsStatedBy catalogue need (ties_of needed number)) need (leaves_of catalogue need.relation) first → AreFetchesFrom catalogue needed (suc number) later second → AllByRecursion (IsAmong need (first ++ second)) (leaves_of catalogue need.relation)
first_among catalogue needed number need later first second unique formed apart front rest = all_more (IsLeafOf (catalogue_leaves catalogue) need.relation) (IsAmong need (first ++ second)) (leaves_of catalogue need.relation) one good
  where
    good : AllByRecursion (IsLeafOf (catalogue_leaves catalogue) need.relation) (leaves_of catalogue need.relation)
    good = leaves_named catalogue need.relation unique formed

    one : (leaf : FragmentLeaf) → IsLeafOf (catalogue_leaves catalogue) need.relation leaf → IsAmong need (first ++ second) leaf
    one leaf here fetched = at (on_a_side first second leaf.name fetched)
      where
        at : (is_fetched first leaf.name ≡ true) ⊎ (is_fetched second leaf.name ≡ true) → Contains (first ++ second) (fetch_of need leaf)
        at (inl is) = in_front first second (fetch_of need leaf) (among (catalogue_leaves catalogue) need.relation (IsStatedBy catalogue need (ties_of needed number)) need (leaves_of catalogue need.relation) first leaf good front here is)
        at (inr is) = absurd (not_later catalogue needed (suc number) later second need leaf unique formed apart rest here is)

-- and those of the later ones
later_among : (catalogue : Catalogue) (needed : Needs) (number : ℕ) (need : Need) (later : List Need) (first second : List Fetch) → LeafNamesAreUnique → IsFormed catalogue → AreOthers need later →
    AreFetches (IsStatedBy catalogue need (ties_of needed number)) need (leaves_of catalogue need.relation) first → AreAmong catalogue second later → AreAmong catalogue (first ++ second) later
later_among catalogue needed number need [] first second unique formed apart front there = tt
later_among catalogue needed number need (other ∷ later) first second unique formed apart front there =
    (leaves_among (leaves_of catalogue other.relation) (leaves_named catalogue other.relation unique formed) there.0, later_among catalogue needed number need later first second unique formed apart.1 front there.1)
  where
    all : List FragmentLeaf
    all = catalogue_leaves catalogue

    one : (leaf : FragmentLeaf) → IsLeafOf all other.relation leaf → IsAmong other second leaf → IsAmong other (first ++ second) leaf
    one leaf here more fetched = at (on_a_side first second leaf.name fetched)
      where
        at : (is_fetched first leaf.name ≡ true) ⊎ (is_fetched second leaf.name ≡ true) → Contains (first ++ second) (fetch_of other leaf)
        at (inl is) = absurd (not_there all (IsStatedBy catalogue need (ties_of needed number)) other.relation need (leaves_of catalogue need.relation) first leaf (λ same. apart.0 (sym same)) (leaves_named catalogue need.relation unique formed) front here is)
        at (inr is) = in_back first second (fetch_of other leaf) (more is)

    leaves_among : (leaves : List FragmentLeaf) → AllByRecursion (IsLeafOf all other.relation) leaves → AllByRecursion (IsAmong other second) leaves → AllByRecursion (IsAmong other (first ++ second)) leaves
    leaves_among [] good there = tt
    leaves_among (leaf ∷ leaves) good there = (one leaf good.0 there.0, leaves_among leaves good.1 there.1)

from_among : (catalogue : Catalogue) (needed : Needs) (number : ℕ) (later : List Need) (fetches : List Fetch) → LeafNamesAreUnique → IsFormed catalogue → AreApart later → AreFetchesFrom catalogue needed number later fetches → AreAmong catalogue fetches later
from_among catalogue needed number [] fetches unique formed apart are = tt
from_among catalogue needed number (need ∷ later) fetches unique formed apart are =
    let rest = from_among catalogue needed (suc number) later are.second unique formed apart.1 are.rest in
    let Among : List Fetch → Type 0 = λ reads. AreAmong catalogue reads (need ∷ later) in
    subst Among (sym are.both) (first_among catalogue needed number need later are.first are.second unique formed apart.0 are.front are.rest, later_among catalogue needed number need later are.first are.second unique formed apart.0 are.front rest)

pub are_among : (catalogue : Catalogue) (statement : Statement) (fetches : List Fetch) → LeafNamesAreUnique → IsFormed catalogue → IsStatementOf (schemas_of catalogue) statement → AreFetchesOf catalogue statement fetches → AreAmong catalogue fetches (needs statement).relations
are_among catalogue statement fetches unique formed of are = from_among catalogue (needs statement) 0 (needs statement).relations fetches unique formed (needs_apart catalogue statement of) are

-- the parts that the fetches bring are those that the reads leave
leaf_read : (catalogue : Catalogue) (whole : Relations) (fetches : List Fetch) (contents : Leaf → List (List Value)) (need : Need) (leaf : FragmentLeaf) → IsLeafOf (catalogue_leaves catalogue) need.relation leaf → IsAmong need fetches leaf →
    AreBrought catalogue whole fetches contents → is_fetched fetches leaf.name ≡ true → contents leaf.name ≡ met (placed leaf.columns need.conds) (content (unnamed leaf) (rows_of whole need.relation))
leaf_read catalogue whole fetches contents need leaf here there given fetched =
    of_all (λ read. contents read.leaf ≡ brought whole read (leaf_named read.leaf (catalogue_leaves catalogue))) fetches (fetch_of need leaf) given (there fetched)
    ∙ ap (brought whole (fetch_of need leaf)) here.unique
    ∙ ap (λ (name : List ℕ). met (placed leaf.columns need.conds) (content (unnamed leaf) (rows_of whole name))) here.named

leaves_read : (catalogue : Catalogue) (whole : Relations) (fetches : List Fetch) (contents : Leaf → List (List Value)) (need : Need) (leaves : List FragmentLeaf) → AllByRecursion (IsLeafOf (catalogue_leaves catalogue) need.relation) leaves → AllByRecursion (IsAmong need fetches) leaves →
    AreBrought catalogue whole fetches contents → AllByRecursion (λ leaf. is_fetched fetches leaf.name ≡ true → contents leaf.name ≡ met (placed leaf.columns need.conds) (content (unnamed leaf) (rows_of whole need.relation))) leaves
leaves_read catalogue whole fetches contents need [] here there given = tt
leaves_read catalogue whole fetches contents need (leaf ∷ leaves) here there given =
    (leaf_read catalogue whole fetches contents need leaf here.0 there.0 given, leaves_read catalogue whole fetches contents need leaves here.1 there.1 given)

reads_are : (catalogue : Catalogue) (whole : Relations) (fetches : List Fetch) (contents : Leaf → List (List Value)) (needed : List Need) → LeafNamesAreUnique → IsFormed catalogue → AreAmong catalogue fetches needed → AreBrought catalogue whole fetches contents →
    AreReads catalogue whole (is_fetched fetches) contents needed
reads_are catalogue whole fetches contents [] unique formed there given = tt
reads_are catalogue whole fetches contents (need ∷ needed) unique formed there given =
    (leaves_read catalogue whole fetches contents need (leaves_of catalogue need.relation) (leaves_named catalogue need.relation unique formed) there.0 given, reads_are catalogue whole fetches contents needed unique formed there.1 given)

pub brought_is_read : LeafNamesAreUnique → BroughtIsRead
brought_is_read unique catalogue statement fetches whole contents formed of are given =
    reads_are catalogue whole fetches contents (needs statement).relations unique formed (are_among catalogue statement fetches unique formed of are) given
