-- The leaves that are stated are fetched.
use Rattle.std.proofs.Common.{◌≡◌, inl, inr, ℕ, suc, Bool, true, false, ◌||◌, ◌==◌, List, [], ◌∷◌, ◌++◌, nat_eq, refl, ap, ◌∙◌, arith}
use Rattle.std.specs.Cmp.Lexicographic.{pointwise}
use Rattle.std.proofs.lemmas.Bool.Decides.{nat_tests}
use Rattle.terms.specs.declared.leaf.Leaf.{Leaf}
use Rattle.catalog.specs.declared.fragment_leaf.FragmentLeaf.{FragmentLeaf}
use Rattle.plan.specs.declared.fetch.Fetch.{Fetch}
use Rattle.plan.specs.declared.need.Need.{Need}
use Rattle.plan.specs.declared.need.Needs.{Needs}
use Rattle.catalog.specs.Catalogue.{Catalogue}
use Rattle.plan.specs.Fetch.{fetch_of}
use Rattle.plan.specs.Reduced.{is_fetched, same_leaf}
use Rattle.plan.specs.Stated.{AreFetches, AreFetchesFrom, IsStatedBy, leaves_of, ties_of}
use Rattle.plan.proofs.CarriedConds.{and_true}
use Rattle.plan.proofs.Covered.{or_second}
use Rattle.plan.proofs.OneFound.{AreMarked}

same_number : (n : ℕ) → nat_eq n n ≡ true
same_number n = grind (arith, nat_tests)

same_name : (name : List ℕ) → pointwise nat_eq name name ≡ true
same_name [] = refl
same_name (c ∷ name) = and_true (nat_eq c c) (pointwise nat_eq name name) (same_number c) (same_name name)

itself : (leaf : Leaf) → same_leaf leaf leaf ≡ true
itself leaf = and_true (pointwise nat_eq leaf.relation leaf.relation) (leaf.number == leaf.number) (same_name leaf.relation) (same_number leaf.number)

or_here : (a b : Bool) → a ≡ true → (a || b) ≡ true
or_here true b h = refl
or_here false b h = absurd (cc)

-- leaves that pass a test pass a weaker one
pub marks_more : (Stated : FragmentLeaf → Type 0) (one other : Leaf → Bool) (leaves : List FragmentLeaf) → ((leaf : Leaf) → one leaf ≡ true → other leaf ≡ true) → AreMarked Stated one leaves → AreMarked Stated other leaves
marks_more Stated one other [] more marks = tt
marks_more Stated one other (leaf ∷ leaves) more marks = (λ stated. more leaf.name (marks.0 stated), marks_more Stated one other leaves more marks.1)

pub fetched_marks : (Stated : FragmentLeaf → Type 0) (need : Need) (leaves : List FragmentLeaf) (fetches : List Fetch) → AreFetches Stated need leaves fetches → AreMarked Stated (is_fetched fetches) leaves
fetched_marks Stated need [] fetches h = tt
fetched_marks Stated need (leaf ∷ leaves) fetches (inl there) =
    let rest = there.1.0 in
    let same : (name : Leaf) → is_fetched fetches name ≡ is_fetched (fetch_of need leaf ∷ rest) name = λ name. ap (λ (all : List Fetch). is_fetched all name) there.1.1 in (
      λ stated. same leaf.name ∙ or_here (same_leaf leaf.name leaf.name) (is_fetched rest leaf.name) (itself leaf.name),
      marks_more Stated (is_fetched rest) (is_fetched fetches) leaves (λ name h. same name ∙ or_second (same_leaf leaf.name name) (is_fetched rest name) h) (fetched_marks Stated need leaves rest there.1.2),
    )
fetched_marks Stated need (leaf ∷ leaves) fetches (inr none) = (λ stated. absurd (none.0 stated), fetched_marks Stated need leaves fetches none.1)

-- among the fetches of both sides of a join
in_front : (first second : List Fetch) (leaf : Leaf) → is_fetched first leaf ≡ true → is_fetched (first ++ second) leaf ≡ true
in_front [] second leaf h = absurd (cc)
in_front (read ∷ first) second leaf h = at (same_leaf read.leaf leaf) (in_front first second leaf) h
  where
    at : (t : Bool) → (is_fetched first leaf ≡ true → is_fetched (first ++ second) leaf ≡ true) → (t || is_fetched first leaf) ≡ true → (t || is_fetched (first ++ second) leaf) ≡ true
    at true more h = refl
    at false more h = more h

in_back : (first second : List Fetch) (leaf : Leaf) → is_fetched second leaf ≡ true → is_fetched (first ++ second) leaf ≡ true
in_back [] second leaf h = h
in_back (read ∷ first) second leaf h = or_second (same_leaf read.leaf leaf) (is_fetched (first ++ second) leaf) (in_back first second leaf h)

pub marks_first : (Stated : FragmentLeaf → Type 0) (leaves : List FragmentLeaf) (fetches first second : List Fetch) → fetches ≡ first ++ second → AreMarked Stated (is_fetched first) leaves → AreMarked Stated (is_fetched fetches) leaves
marks_first Stated leaves fetches first second is marks =
    marks_more Stated (is_fetched first) (is_fetched fetches) leaves (λ leaf h. ap (λ (all : List Fetch). is_fetched all leaf) is ∙ in_front first second leaf h) marks

pub marks_second : (Stated : FragmentLeaf → Type 0) (leaves : List FragmentLeaf) (fetches first second : List Fetch) → fetches ≡ first ++ second → AreMarked Stated (is_fetched second) leaves → AreMarked Stated (is_fetched fetches) leaves
marks_second Stated leaves fetches first second is marks =
    marks_more Stated (is_fetched second) (is_fetched fetches) leaves (λ leaf h. ap (λ (all : List Fetch). is_fetched all leaf) is ∙ in_back first second leaf h) marks

abbrev pub AreMarkedFrom : Catalogue → Needs → ℕ → List Need → (Leaf → Bool) → Type 0
AreMarkedFrom catalogue needs number [] passes = Unit {0}
AreMarkedFrom catalogue needs number (need ∷ later) passes = AreMarked (IsStatedBy catalogue need (ties_of needs number)) passes (leaves_of catalogue need.relation) × AreMarkedFrom catalogue needs (suc number) later passes

marked_more : (catalogue : Catalogue) (needs : Needs) (number : ℕ) (later : List Need) (one other : Leaf → Bool) → ((leaf : Leaf) → one leaf ≡ true → other leaf ≡ true) → AreMarkedFrom catalogue needs number later one → AreMarkedFrom catalogue needs number later other
marked_more catalogue needs number [] one other more marks = tt
marked_more catalogue needs number (need ∷ later) one other more marks =
    (marks_more (IsStatedBy catalogue need (ties_of needs number)) one other (leaves_of catalogue need.relation) more marks.0, marked_more catalogue needs (suc number) later one other more marks.1)

pub marked_from : (catalogue : Catalogue) (needs : Needs) (number : ℕ) (later : List Need) (fetches : List Fetch) → AreFetchesFrom catalogue needs number later fetches → AreMarkedFrom catalogue needs number later (is_fetched fetches)
marked_from catalogue needs number [] fetches are = tt
marked_from catalogue needs number (need ∷ later) fetches are =
    let Stated : FragmentLeaf → Type 0 = IsStatedBy catalogue need (ties_of needs number) in
    let leaves = leaves_of catalogue need.relation in (
      marks_first Stated leaves fetches are.first are.second are.both (fetched_marks Stated need leaves are.first are.front),
      marked_more catalogue needs (suc number) later (is_fetched are.second) (is_fetched fetches) (λ leaf h. ap (λ (all : List Fetch). is_fetched all leaf) are.both ∙ in_back are.first are.second leaf h)
          (marked_from catalogue needs (suc number) later are.second are.rest),
    )
