-- The fetches of a statement are of leaves of its catalogue, and of one leaf there is one fetch.
use Rattle.std.proofs.Common.{◌≡◌, ◌≢◌, inl, inr, ℕ, suc, List, [], ◌∷◌, ◌++◌, Some, refl, sym, ap, ◌∙◌, subst}
use Rattle.std.specs.List.{AllByRecursion}
use Rattle.terms.specs.declared.leaf.Leaf.{Leaf}
use Rattle.meaning.specs.declared.statement.Statement.{Statement}
use Rattle.meaning.specs.Statement.{IsStatementOf}
use Rattle.catalog.specs.declared.fragment_leaf.FragmentLeaf.{FragmentLeaf}
use Rattle.catalog.specs.Catalogue.{Catalogue}
use Rattle.catalog.specs.Formed.{IsFormed}
use Rattle.catalog.specs.FragmentLeaf.{catalogue_leaves, leaf_named, schemas_of}
use Rattle.catalog.specs.Laws.{LeafNamesAreUnique}
use Rattle.plan.specs.declared.fetch.Fetch.{Fetch}
use Rattle.plan.specs.declared.need.Need.{Need}
use Rattle.plan.specs.declared.need.Needs.{Needs}
use Rattle.plan.specs.Fetch.{fetch_of}
use Rattle.plan.specs.Need.{needs}
use Rattle.plan.specs.Stated.{AreFetches, AreFetchesFrom, AreFetchesOf, IsStatedBy, leaves_of, ties_of}
use Rattle.plan.proofs.Fetched.{IsLeafOf, leaves_named, one_leaf}
use Rattle.plan.proofs.StatementFits.{AreApart, needs_apart}
use Rattle.protocol.specs.Parts.{In}

-- a fetch of a need's leaf
pub record IsFetchOf (all : List FragmentLeaf) (need : Need) (fetch : Fetch) : Type 0 where
  pub leaf : FragmentLeaf
  pub here : IsLeafOf all need.relation leaf
  pub is : fetch ≡ fetch_of need leaf

-- a fetch of one of the needs
pub record IsOfSome (all : List FragmentLeaf) (needs : List Need) (fetch : Fetch) : Type 0 where
  pub need : Need
  pub there : In need needs
  pub of : IsFetchOf all need fetch

-- what is known of a statement's fetches: no two needs are of one relation
pub record AreOf (all : List FragmentLeaf) (fetches : List Fetch) : Type 0 where
  pub needs : List Need
  pub apart : AreApart needs
  pub each : AllByRecursion (IsOfSome all needs) fetches

fetches_of : (all : List FragmentLeaf) (Stated : FragmentLeaf → Type 0) (need : Need) (leaves : List FragmentLeaf) (fetches : List Fetch) → AllByRecursion (IsLeafOf all need.relation) leaves → AreFetches Stated need leaves fetches → AllByRecursion (IsFetchOf all need) fetches
fetches_of all Stated need [] fetches good are = subst (AllByRecursion (IsFetchOf all need)) (sym are) tt
fetches_of all Stated need (leaf ∷ leaves) fetches good (inl there) =
    subst (AllByRecursion (IsFetchOf all need)) (sym there.1.1) (record { leaf = leaf; here = good.0; is = refl }, fetches_of all Stated need leaves there.1.0 good.1 there.1.2)
fetches_of all Stated need (leaf ∷ leaves) fetches good (inr none) = fetches_of all Stated need leaves fetches good.1 none.1

pub every : {A : Type 0} (P Q : A → Type 0) (items : List A) → ((item : A) → P item → Q item) → AllByRecursion P items → AllByRecursion Q items
every P Q [] more all = tt
every P Q (item ∷ items) more all = (more item all.0, every P Q items more all.1)

both_all : {A : Type 0} (P : A → Type 0) (one other : List A) → AllByRecursion P one → AllByRecursion P other → AllByRecursion P (one ++ other)
both_all P [] other first second = second
both_all P (x ∷ one) other first second = (first.0, both_all P one other first.1 second)

later : (all : List FragmentLeaf) (need : Need) (needs : List Need) (fetch : Fetch) → IsOfSome all needs fetch → IsOfSome all (need ∷ needs) fetch
later all need needs fetch is = record { need = is.need; there = inr is.there; of = is.of }

module _ (catalogue : Catalogue) (unique : LeafNamesAreUnique) (formed : IsFormed catalogue) where
  abbrev all : List FragmentLeaf
  all = catalogue_leaves catalogue

  all_of : (stated : Needs) (number : ℕ) (needs : List Need) (fetches : List Fetch) → AreFetchesFrom catalogue stated number needs fetches → AllByRecursion (IsOfSome all needs) fetches
  all_of stated number [] fetches are = subst (AllByRecursion (IsOfSome all [])) (sym are) tt
  all_of stated number (need ∷ needs) fetches are =
      let Some_of : Fetch → Type 0 = IsOfSome all (need ∷ needs) in
      subst (AllByRecursion Some_of) (sym are.both) (both_all Some_of are.first are.second
      (every (IsFetchOf all need) Some_of are.first (λ fetch is. record { need = need; there = inl refl; of = is })
      (fetches_of all (IsStatedBy catalogue need (ties_of stated number)) need (leaves_of catalogue need.relation) are.first (leaves_named catalogue need.relation unique formed) are.front))
      (every (IsOfSome all needs) Some_of are.second (later all need needs) (all_of stated (suc number) needs are.second are.rest)))

  pub are_of : (stated : Statement) (fetches : List Fetch) → IsStatementOf (schemas_of catalogue) stated → AreFetchesOf catalogue stated fetches → AreOf all fetches
  are_of stated fetches of are = record {
    needs = (needs stated).relations;
    apart = needs_apart catalogue stated of;
    each = all_of (needs stated) 0 (needs stated).relations fetches are;
  }

-- a fetch's leaf is there
pub located : (all : List FragmentLeaf) (needs : List Need) (fetch : Fetch) → IsOfSome all needs fetch → (leaf : FragmentLeaf) × (leaf_named fetch.leaf all ≡ Some leaf)
located all needs fetch is = (is.of.leaf, ap (λ (f : Fetch). leaf_named f.leaf all) is.of.is ∙ is.of.here.unique)

same_of : (all : List FragmentLeaf) (need : Need) (one two : Fetch) → IsFetchOf all need one → IsFetchOf all need two → one.leaf ≡ two.leaf → one ≡ two
same_of all need one two a b same =
    let names : a.leaf.name ≡ b.leaf.name = sym (ap (λ (f : Fetch). f.leaf) a.is) ∙ same ∙ ap (λ (f : Fetch). f.leaf) b.is in
    a.is ∙ ap (fetch_of need) (one_leaf all a.leaf b.leaf a.here.unique b.here.unique names) ∙ sym b.is

relation_of : (all : List FragmentLeaf) (need : Need) (fetch : Fetch) → IsFetchOf all need fetch → fetch.leaf.relation ≡ need.relation
relation_of _ need fetch is = ap (λ (f : Fetch). f.leaf.relation) is.is ∙ is.here.named

-- of one relation there is one need
other_name : (name : List ℕ) (needs : List Need) (other : Need) → AllByRecursion (λ need. name ≢ need.relation) needs → In other needs → name ≢ other.relation
other_name name [] other apart there = absurd there
other_name name (need ∷ needs) other apart (inl is) = subst (λ (n : Need). name ≢ n.relation) (sym is) apart.0
other_name name (need ∷ needs) other apart (inr there) = other_name name needs other apart.1 there

one_need : (needs : List Need) (one other : Need) → AreApart needs → In one needs → In other needs → one.relation ≡ other.relation → one ≡ other
one_need [] one other apart there beyond same = absurd there
one_need (need ∷ needs) one other apart (inl a) (inl b) same = a ∙ sym b
one_need (need ∷ needs) one other apart (inl a) (inr b) same = absurd (other_name need.relation needs other apart.0 b (ap (λ (n : Need). n.relation) (sym a) ∙ same))
one_need (need ∷ needs) one other apart (inr a) (inl b) same = absurd (other_name need.relation needs one apart.0 a (ap (λ (n : Need). n.relation) (sym b) ∙ sym same))
one_need (need ∷ needs) one other apart (inr a) (inr b) same = one_need needs one other apart.1 a b same

-- of one leaf there is one fetch
pub same_fetch : (all : List FragmentLeaf) (needs : List Need) (one two : Fetch) → AreApart needs → IsOfSome all needs one → IsOfSome all needs two → one.leaf ≡ two.leaf → one ≡ two
same_fetch all needs one two apart a b same =
    let is : a.need ≡ b.need = one_need needs a.need b.need apart a.there b.there (sym (relation_of all a.need one a.of) ∙ ap (λ (l : Leaf). l.relation) same ∙ relation_of all b.need two b.of) in
    same_of all b.need one two (subst (λ (n : Need). IsFetchOf all n one) is a.of) b.of same
