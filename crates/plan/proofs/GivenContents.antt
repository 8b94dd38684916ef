-- Contents, and what reads leave of them, give what a statement's reads look for.
use Rattle.std.proofs.Common.{◌≡◌, Bool, true, false, cond, List, [], ◌∷◌, filter, refl, ap, ◌∙◌}
use Rattle.std.specs.List.{AllByRecursion}
use Rattle.terms.specs.declared.leaf.Leaf.{Leaf}
use Rattle.terms.specs.declared.value.Value.{Value}
use Rattle.terms.specs.Cond.{conds_hold}
use Rattle.meaning.specs.Whole.{rows_of}
use Rattle.catalog.specs.declared.fragment_leaf.FragmentLeaf.{FragmentLeaf}
use Rattle.catalog.specs.Fragment.{content}
use Rattle.catalog.specs.FragmentLeaf.{unnamed}
use Rattle.plan.specs.declared.need.Need.{Need}
use Rattle.plan.specs.Fetch.{placed}
use Rattle.plan.specs.Given.{ContentsGive, ReadsGive}
use Rattle.plan.specs.Rows.{met}
use Rattle.plan.specs.Stated.{leaves_of}
use Rattle.plan.proofs.LeafReads.{GivesLeaf}

-- filtering twice is once
pub twice : (test : List Value → Bool) (parts : List (List Value)) → filter test (filter test parts) ≡ filter test parts
twice test [] = refl
twice test (part ∷ parts) =
    elim (test part) as (λ t. test part ≡ t → filter test (cond t (part ∷ filter test parts) (filter test parts)) ≡ cond t (part ∷ filter test parts) (filter test parts)) [
      | true ↦ λ is. rw is (ap (λ rest. part ∷ rest) (twice test parts))
      | false ↦ λ is. twice test parts
    ] refl

from_contents : (passes : Leaf → Bool) (contents : Leaf → List (List Value)) (need : Need) (all : List (List Value)) (leaves : List FragmentLeaf) → AllByRecursion (λ leaf. contents leaf.name ≡ content (unnamed leaf) all) leaves →
    AllByRecursion (GivesLeaf passes contents need all) leaves
from_contents passes contents need all [] h = tt
from_contents passes contents need all (leaf ∷ leaves) h = (λ fetched. ap (met (placed leaf.columns need.conds)) h.0, from_contents passes contents need all leaves h.1)

from_reads : (passes : Leaf → Bool) (contents : Leaf → List (List Value)) (need : Need) (all : List (List Value)) (leaves : List FragmentLeaf) →
    AllByRecursion (λ leaf. passes leaf.name ≡ true → contents leaf.name ≡ met (placed leaf.columns need.conds) (content (unnamed leaf) all)) leaves → AllByRecursion (GivesLeaf passes contents need all) leaves
from_reads passes contents need all [] h = tt
from_reads passes contents need all (leaf ∷ leaves) h =
    (λ fetched. ap (met (placed leaf.columns need.conds)) (h.0 fetched) ∙ twice (conds_hold (placed leaf.columns need.conds)) (content (unnamed leaf) all), from_reads passes contents need all leaves h.1)

pub contents_give : ContentsGive
contents_give catalogue whole passes contents [] are = tt
contents_give catalogue whole passes contents (need ∷ needs) are =
    (from_contents passes contents need (rows_of whole need.relation) (leaves_of catalogue need.relation) (are need.relation), contents_give catalogue whole passes contents needs are)

pub reads_give : ReadsGive
reads_give catalogue whole passes contents [] are = tt
reads_give catalogue whole passes contents (need ∷ needs) are =
    (from_reads passes contents need (rows_of whole need.relation) (leaves_of catalogue need.relation) are.0, reads_give catalogue whole passes contents needs are.1)
