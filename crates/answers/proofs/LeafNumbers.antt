-- The leaves of a formed catalogue are at its sites, and have numbers from 1 to 32.
use Rattle.std.proofs.Common.{◌≡◌, ℕ, zero, suc, ◌+◌, ◌<◌, ◌≤◌, Bool, true, false, cond, ◌==◌, ◌&&◌, ◌||◌, List, [], ◌∷◌, flat_map, length, nat_eq, Option, Some, None, option_and_then, refl, ap, sym, ◌∙◌, subst, arith}
use Rattle.std.specs.Cmp.Lexicographic.{pointwise}
use Rattle.std.specs.List.{AllByRecursion, list_any, range_with_len, slice_get}
use Rattle.std.proofs.lemmas.Bool.{eqb-true}
use Rattle.std.proofs.lemmas.Bool.Decides.{nat_tests}
use Rattle.terms.specs.declared.leaf.Leaf.{Leaf}
use Rattle.meaning.specs.Schema.{kinds_of}
use Rattle.catalog.specs.declared.fragment_leaf.FragmentLeaf.{FragmentLeaf}
use Rattle.catalog.specs.declared.path.Path.{Path}
use Rattle.catalog.specs.Catalogue.{Catalogue, SplitRelation}
use Rattle.catalog.specs.Formed.{IsFormed, IsFormedRelation}
use Rattle.catalog.specs.FragmentLeaf.{catalogue_leaves, is_name_of, leaf_named, leaves_from, leaves_of}
use Rattle.catalog.specs.Path.{columns_beside_key, paths}
use Rattle.catalog.proofs.FormedTrees.{all_both}
use Rattle.plan.proofs.CarriedConds.{and_true, both}
use Rattle.plan.proofs.Covered.{or_second}
use Rattle.answers.specs.Moves.{is_moved, is_site, is_there, leaf_there, numbers}

-- what holds of all leaves holds of the one of a name, which has the name
pub record IsFound (P : FragmentLeaf → Type 0) (name : Leaf) (leaf : FragmentLeaf) : Type 0 where
  pub good : P leaf
  pub named : is_name_of name leaf ≡ true

pub found_leaf : (P : FragmentLeaf → Type 0) (name : Leaf) (leaves : List FragmentLeaf) (leaf : FragmentLeaf) → AllByRecursion P leaves → leaf_named name leaves ≡ Some leaf → IsFound P name leaf
found_leaf P name [] leaf all is = absurd (cc)
found_leaf P name (first ∷ leaves) leaf all is = at (is_name_of name first) refl (found_leaf P name leaves leaf all.1) is
  where
    at : (t : Bool) → is_name_of name first ≡ t → (leaf_named name leaves ≡ Some leaf → IsFound P name leaf) → cond t (Some first) (leaf_named name leaves) ≡ Some leaf → IsFound P name leaf
    at true here more is = let same : first ≡ leaf = cc in subst (IsFound P name) same (record { good = all.0; named = here })
    at false here more is = more is

-- the numbers

record IsNumbered (last : ℕ) (leaf : FragmentLeaf) : Type 0 where
  from : 1 ≤ leaf.name.number
  below : leaf.name.number < last

numbered : (relation columns : List ℕ) (number last : ℕ) (ways : List Path) → 1 ≤ number → number + length (leaves_from relation columns number ways) ≤ last → AllByRecursion (IsNumbered last) (leaves_from relation columns number ways)
numbered relation columns number last [] from below = tt
numbered relation columns number last (path ∷ ways) from below =
    (record { from = from; below = omega (arith, below) }, numbered relation columns (suc number) last ways (omega arith) (omega (arith, below)))

all_numbered : (sites : List (List ℕ)) (relations : List SplitRelation) → AllByRecursion (IsFormedRelation sites) relations → AllByRecursion (IsNumbered 33) (flat_map leaves_of relations)
all_numbered sites [] formed = tt
all_numbered sites (relation ∷ relations) formed =
    let few = formed.0.few_leaves in
    all_both (IsNumbered 33) (leaves_of relation) (flat_map leaves_of relations)
    (numbered relation.schema.name (columns_beside_key (kinds_of relation.schema)) 1 33 (paths relation.tree) (omega arith) (omega (arith, few))) (all_numbered sites relations formed.1)

above : (a n : ℕ) → a ≤ n → (a == n) ≡ false → a + 1 ≤ n
above a n from other = grind (arith, nat_tests)

same_number : (n : ℕ) → (n == n) ≡ true
same_number n = grind (arith, nat_tests)

in_range : (a count n : ℕ) → a ≤ n → n < a + count → list_any (λ number. number == n) (range_with_len a count) ≡ true
in_range a zero n from below = absurd (omega arith)
in_range a (suc count) n from below =
    elim (a == n) as (λ t. (a == n) ≡ t → (t || list_any (λ number. number == n) (range_with_len (a + 1) count)) ≡ true) [
      | true ↦ λ is. refl
      | false ↦ λ is. in_range (a + 1) count n (above a n from is) (omega arith)
    ] refl

in_numbers : (n : ℕ) → 1 ≤ n → n < 33 → list_any (λ number. number == n) numbers ≡ true
unfolding numbers
in_numbers n from below = in_range 1 32 n from below

-- the sites
some_at : {A : Type 0} (test : A → Bool) (items : List A) (place : ℕ) (item : A) → slice_get items place ≡ Some item → test item ≡ true → list_any test items ≡ true
some_at test [] place item is passes = absurd (cc)
some_at test (first ∷ items) zero item is passes = let same : first ≡ item = cc in ap (λ it. test it || list_any test items) same ∙ ap (λ t. t || list_any test items) passes
some_at test (first ∷ items) (suc place) item is passes = or_second (test first) (list_any test items) (some_at test items place item is passes)

some_site : (sites : List (List ℕ)) (site : List ℕ) (place : ℕ) → is_site (slice_get sites place) site ≡ true → list_any (λ home. pointwise nat_eq home site) sites ≡ true
some_site sites site place is = at (slice_get sites place) refl is
  where
    at : (o : Option (List ℕ)) → slice_get sites place ≡ o → is_site o site ≡ true → list_any (λ home. pointwise nat_eq home site) sites ≡ true
    at None there is = absurd (cc)
    at (Some home) there is = some_at (λ other. pointwise nat_eq other site) sites place home there is

-- a leaf that a catalogue has at a site is one of those that can be moved
place_moved : (catalogue : Catalogue) (relation site : List ℕ) (name : Leaf) (leaf : FragmentLeaf) → IsFormed catalogue → pointwise nat_eq name.relation relation ≡ true → leaf_named name (catalogue_leaves catalogue) ≡ Some leaf →
    is_there catalogue site name ≡ true → is_moved catalogue relation site name ≡ true
place_moved catalogue relation site name leaf formed of is there =
    let found = found_leaf (IsNumbered 33) name (catalogue_leaves catalogue) leaf (all_numbered catalogue.sites catalogue.relations formed.relations) is in
    let parts = both (pointwise nat_eq leaf.name.relation name.relation) (leaf.name.number == name.number) found.named in
    let number : leaf.name.number ≡ name.number = eqb-true leaf.name.number name.number parts.1 in
    let home : is_site (slice_get catalogue.sites leaf.site) site ≡ true = ap (λ (o : Option FragmentLeaf). is_site (option_and_then (λ l. slice_get catalogue.sites l.site) o) site) (sym is) ∙ there in
    and_true (list_any (λ home. pointwise nat_eq home site) catalogue.sites) (pointwise nat_eq name.relation relation && list_any (λ number. number == name.number) numbers)
    (some_site catalogue.sites site leaf.site home)
    (and_true (pointwise nat_eq name.relation relation) (list_any (λ number. number == name.number) numbers) of
    (ap (λ (n : ℕ). list_any (λ number. number == n) numbers) (sym number) ∙ in_numbers leaf.name.number found.good.from found.good.below))

-- at no other place has a catalogue a leaf of the relation
pub nowhere : (catalogue : Catalogue) (relation site : List ℕ) (name : Leaf) → IsFormed catalogue → pointwise nat_eq name.relation relation ≡ true → is_moved catalogue relation site name ≡ false → leaf_there catalogue site name ≡ None
nowhere catalogue relation site name formed of not_moved = at (is_there catalogue site name) refl (leaf_named name (catalogue_leaves catalogue)) refl
  where
    at : (t : Bool) → is_there catalogue site name ≡ t → (o : Option FragmentLeaf) → leaf_named name (catalogue_leaves catalogue) ≡ o → cond t (leaf_named name (catalogue_leaves catalogue)) None ≡ None
    at false there o is = refl
    at true there None is = is
    at true there (Some leaf) is = absurd (let both_ways : true ≡ false = sym (place_moved catalogue relation site name leaf formed of is there) ∙ not_moved in cc)
