-- No two leaves of a catalogue have one name.
use Rattle.std.proofs.Common.{◌≡◌, ◌<◌, ℕ, suc, Bool, true, false, ◌==◌, ◌&&◌, List, [], ◌∷◌, ◌++◌, flat_map, Some, refl, ap, ap₂, sym, ◌∙◌, arith}
use Rattle.std.specs.List.{AllByRecursion}
use Rattle.std.specs.List.Sorted.{IsStrictlySortedBy}
use Rattle.std.specs.Ordering.{nat_cmp, is_eq}
use Rattle.std.specs.Cmp.Lexicographic.{slice_cmp}
use Rattle.std.specs.Str.{bytes_eq}
use Rattle.std.specs.declared.cmp.Ordering.TheVariants.{Less}
use Rattle.std.proofs.lemmas.Bool.{eq-eqb, eqb-true}
use Rattle.std.proofs.lemmas.Map.Text.{is_eq-slice_cmp}
use Rattle.std.proofs.lemmas.Slice.Eq.{bytes_eq-Decides}
use Rattle.catalog.specs.declared.fragment_leaf.FragmentLeaf.{FragmentLeaf}
use Rattle.catalog.specs.declared.path.Path.{Path}
use Rattle.catalog.specs.Catalogue.{SplitRelation}
use Rattle.catalog.specs.Formed.{names_in}
use Rattle.catalog.specs.FragmentLeaf.{catalogue_leaves, is_name_of, leaf_named, leaf_of, leaves_from, leaves_of}
use Rattle.catalog.specs.Laws.{LeafNamesAreUnique}
use Rattle.catalog.specs.Path.{columns_beside_key, paths}
use Rattle.meaning.specs.Schema.{kinds_of}
use Rattle.catalog.proofs.FormedTrees.{all_both}

-- two leaves have names of their own, whichever is asked for
pub record AreOther (one other : FragmentLeaf) : Type 0 where
  pub forth : is_name_of one.name other ≡ false
  pub back : is_name_of other.name one ≡ false

-- each leaf has another name than those after it
abbrev pub HaveOwnNames : List FragmentLeaf → Type 0
HaveOwnNames [] = Unit {0}
HaveOwnNames (leaf ∷ leaves) = AllByRecursion (AreOther leaf) leaves × HaveOwnNames leaves

own_both : (one other : List FragmentLeaf) → HaveOwnNames one → HaveOwnNames other → AllByRecursion (λ leaf. AllByRecursion (AreOther leaf) other) one → HaveOwnNames (one ++ other)
own_both [] other own own_other apart = own_other
own_both (leaf ∷ one) other own own_other apart = (all_both (AreOther leaf) one other own.0 apart.0, own_both one other own.1 own_other apart.1)

itself : (leaf : FragmentLeaf) → is_name_of leaf.name leaf ≡ true
itself leaf = ap₂ (λ a b. a && b) ((bytes_eq-Decides leaf.name.relation leaf.name.relation).1 refl) (eq-eqb leaf.name.number leaf.name.number refl)

-- a leaf in front, of another name, is passed over
passed : (first : FragmentLeaf) (leaves : List FragmentLeaf) (all : List FragmentLeaf) → AllByRecursion (AreOther first) all → AllByRecursion (λ leaf. leaf_named leaf.name leaves ≡ Some leaf) all →
    AllByRecursion (λ leaf. leaf_named leaf.name (first ∷ leaves) ≡ Some leaf) all
passed first leaves [] other found = tt
passed first leaves (leaf ∷ all) other found = (rw (other.0.back) (found.0), passed first leaves all other.1 found.1)

all_found : (leaves : List FragmentLeaf) → HaveOwnNames leaves → AllByRecursion (λ leaf. leaf_named leaf.name leaves ≡ Some leaf) leaves
all_found [] own = tt
all_found (leaf ∷ leaves) own = (rw (itself leaf) refl, passed leaf leaves leaves own.0 (all_found leaves own.1))

-- numbers tell the leaves of a relation from each other

number_apart : (m n : ℕ) → m < n → (m == n) ≡ false
number_apart m n below =
    elim (m == n) as (λ b. (m == n) ≡ b → b ≡ false) [
      | true ↦ λ is. absurd (let same = eqb-true m n is in omega (arith, same, below))
      | false ↦ λ is. refl
    ] refl

number_apart_back : (m n : ℕ) → m < n → (n == m) ≡ false
number_apart_back m n below =
    elim (n == m) as (λ b. (n == m) ≡ b → b ≡ false) [
      | true ↦ λ is. absurd (let same = eqb-true n m is in omega (arith, same, below))
      | false ↦ λ is. refl
    ] refl

and_false : (a b : Bool) → b ≡ false → (a && b) ≡ false
and_false true b h = h
and_false false b h = refl

later_others : (relation columns : List ℕ) (first number : ℕ) (path : Path) (ps : List Path) → first < number → AllByRecursion (AreOther (leaf_of relation columns first path)) (leaves_from relation columns number ps)
later_others relation columns first number path [] below = tt
later_others relation columns first number path (next ∷ ps) below = (
  record { forth = and_false (bytes_eq relation relation) (number == first) (number_apart_back first number below); back = and_false (bytes_eq relation relation) (first == number) (number_apart first number below) },
  later_others relation columns first (suc number) path ps (omega (arith, below)),
)

own_numbers : (relation columns : List ℕ) (number : ℕ) (ps : List Path) → HaveOwnNames (leaves_from relation columns number ps)
own_numbers relation columns number [] = tt
own_numbers relation columns number (path ∷ ps) = (later_others relation columns number (suc number) path ps (omega arith), own_numbers relation columns (suc number) ps)

-- names tell the leaves of relations from each other

name_apart : (one other : List ℕ) → slice_cmp nat_cmp one other ≡ Less → bytes_eq one other ≡ false
name_apart one other less = sym (is_eq-slice_cmp one other) ∙ ap is_eq less

turned : (one other : List ℕ) → bytes_eq one other ≡ false → bytes_eq other one ≡ false
turned one other differ =
    elim (bytes_eq other one) as (λ b. bytes_eq other one ≡ b → b ≡ false) [
      | true ↦ λ is. let same = (bytes_eq-Decides one other).1 (sym ((bytes_eq-Decides other one).0 is)) in cc
      | false ↦ λ is. refl
    ] refl

-- a leaf of one relation and those of another
apart_from : (leaf : FragmentLeaf) (relation columns : List ℕ) (number : ℕ) (ps : List Path) → bytes_eq leaf.name.relation relation ≡ false → AllByRecursion (AreOther leaf) (leaves_from relation columns number ps)
apart_from leaf relation columns number [] differ = tt
apart_from leaf relation columns number (path ∷ ps) differ = (
  record { forth = ap (λ b. b && (number == leaf.name.number)) (turned leaf.name.relation relation differ); back = ap (λ b. b && (leaf.name.number == number)) differ },
  apart_from leaf relation columns (suc number) ps differ,
)

apart_all : (leaf : FragmentLeaf) (relations : List SplitRelation) → AllByRecursion (λ name. slice_cmp nat_cmp leaf.name.relation name ≡ Less) (names_in relations) → AllByRecursion (AreOther leaf) (flat_map leaves_of relations)
apart_all leaf [] less = tt
apart_all leaf (relation ∷ relations) less =
    all_both (AreOther leaf) (leaves_of relation) (flat_map leaves_of relations)
    (apart_from leaf relation.schema.name (columns_beside_key (kinds_of relation.schema)) 1 (paths relation.tree) (name_apart leaf.name.relation relation.schema.name less.0)) (apart_all leaf relations less.1)

each_apart : (relation columns : List ℕ) (number : ℕ) (ps : List Path) (relations : List SplitRelation) → AllByRecursion (λ name. slice_cmp nat_cmp relation name ≡ Less) (names_in relations) →
    AllByRecursion (λ leaf. AllByRecursion (AreOther leaf) (flat_map leaves_of relations)) (leaves_from relation columns number ps)
each_apart relation columns number [] relations less = tt
each_apart relation columns number (path ∷ ps) relations less = (apart_all (leaf_of relation columns number path) relations less, each_apart relation columns (suc number) ps relations less)

pub own_names : (relations : List SplitRelation) → IsStrictlySortedBy (slice_cmp nat_cmp) (names_in relations) → HaveOwnNames (flat_map leaves_of relations)
unfolding IsStrictlySortedBy
own_names [] sorted = tt
own_names (relation ∷ relations) sorted =
    own_both (leaves_of relation) (flat_map leaves_of relations) (own_numbers relation.schema.name (columns_beside_key (kinds_of relation.schema)) 1 (paths relation.tree)) (own_names relations sorted.1)
    (each_apart relation.schema.name (columns_beside_key (kinds_of relation.schema)) 1 (paths relation.tree) relations sorted.0)

pub leaf_names_are_unique : LeafNamesAreUnique
leaf_names_are_unique catalogue formed = all_found (catalogue_leaves catalogue) (own_names catalogue.relations formed.ascending)
