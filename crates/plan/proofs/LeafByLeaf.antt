-- Lemmas on the fetches of leaves, leaf by leaf.
use Rattle.std.proofs.Common.{◌≡◌, Bool, true, false, cond, List, [], ◌∷◌, filter, map, inl, inr, refl, ap, sym, ◌∙◌}
use Rattle.std.specs.List.{AllByRecursion}
use Rattle.std.proofs.lemmas.Bool.{both_ways}
use Rattle.catalog.specs.declared.fragment_leaf.FragmentLeaf.{FragmentLeaf}
use Rattle.plan.specs.declared.fetch.Fetch.{Fetch}
use Rattle.plan.specs.declared.need.Need.{Need}
use Rattle.plan.specs.Fetch.{fetch_of}
use Rattle.plan.specs.Stated.{AreFetches}

-- a test tells whether a leaf is stated
abbrev pub Tells : Bool → Type 0 → Type 0
Tells test Stated = (test ≡ true → Stated) × (Stated → test ≡ true)

-- the fetches of the leaves that such a test picks are those of the stated ones
pub picked_are : (Stated : FragmentLeaf → Type 0) (picks : FragmentLeaf → Bool) (need : Need) (leaves : List FragmentLeaf) → AllByRecursion (λ leaf. Tells (picks leaf) (Stated leaf)) leaves → AreFetches Stated need leaves (map (fetch_of need) (filter picks leaves))
picked_are Stated picks need [] tells = refl
picked_are Stated picks need (leaf ∷ leaves) tells =
    let rest = picked_are Stated picks need leaves tells.1 in
    elim (picks leaf) as (λ t. picks leaf ≡ t → AreFetches Stated need (leaf ∷ leaves) (map (fetch_of need) (cond t (leaf ∷ filter picks leaves) (filter picks leaves)))) [
      | true ↦ λ is. inl (tells.0.0 is, (map (fetch_of need) (filter picks leaves), refl, rest))
      | false ↦ λ is. inr (λ stated. both_ways (picks leaf) is (tells.0.1 stated), rest)
    ] refl

-- leaves have one list of fetches
pub one_list : (Stated : FragmentLeaf → Type 0) (need : Need) (leaves : List FragmentLeaf) (one other : List Fetch) → AreFetches Stated need leaves one → AreFetches Stated need leaves other → one ≡ other
one_list Stated need [] one other first second = first ∙ sym second
one_list Stated need (leaf ∷ leaves) one other (inl first) (inl second) =
    first.1.1 ∙ ap (λ (rest : List Fetch). fetch_of need leaf ∷ rest) (one_list Stated need leaves first.1.0 second.1.0 first.1.2 second.1.2) ∙ sym second.1.1
one_list Stated need (leaf ∷ leaves) one other (inl first) (inr second) = absurd (second.0 first.0)
one_list Stated need (leaf ∷ leaves) one other (inr first) (inl second) = absurd (first.0 second.0)
one_list Stated need (leaf ∷ leaves) one other (inr first) (inr second) = one_list Stated need leaves one other first.1 second.1
