-- The leaves that relations can have, put number by number; and each leaf of a formed catalogue is among them.
use Rattle.std.proofs.Common.{◌≡◌, sym, ap, ◌∙◌, subst, ℕ, zero, suc, ◌+◌, ◌<◌, ◌≤◌, true, List, [], ◌∷◌, ◌++◌, append-nil, append_assoc, flat_map, map, length, get_or, Some, inl, inr, arith}
use Rattle.std.specs.List.{AllByRecursion, list_any, range_with_len}
use Rattle.std.specs.Ordering.{is_eq}
use Rattle.terms.specs.declared.leaf.Leaf.{Leaf}
use Rattle.terms.specs.Leaf.{leaf_cmp}
use Rattle.meaning.specs.Schema.{kinds_of}
use Rattle.catalog.specs.declared.fragment_leaf.FragmentLeaf.{FragmentLeaf}
use Rattle.catalog.specs.declared.path.Path.{Path}
use Rattle.catalog.specs.Catalogue.{Catalogue, SplitRelation}
use Rattle.catalog.specs.Formed.{IsFormed, IsFormedRelation}
use Rattle.catalog.specs.FragmentLeaf.{catalogue_leaves, is_name_of, leaf_named, leaves_from, leaves_of, schemas_of}
use Rattle.catalog.specs.Path.{columns_beside_key, paths}
use Rattle.catalog.proofs.FormedTrees.{all_both}
use Rattle.answers.specs.Moves.{leaf_numbered, numbers}
use Rattle.protocol.specs.Parts.{In}
use Rattle.protocol.proofs.Basics.{any_in, in_left, in_right}
use Rattle.protocol.proofs.Ranks.{in_map}
use Rattle.site.proofs.TicketOrder.{leaf_is, leaf_self}
use Rattle.desk.proofs.AtHomes.{found_so}
use Rattle.world.specs.Leaves.{known_leaves, leaves_numbered}
use Rattle.world.proofs.FilledLeaves.{same_test}

-- ---- as they are put
-- with the leaves of the numbers from one on, so far as they go, all are there
pub record NumbersRest (relation : List ℕ) (all so_far : List Leaf) (number : ℕ) : Type 0 where
  pub rest : (count : ℕ) → number + count ≡ 33 → so_far ++ map (leaf_numbered relation) (range_with_len number count) ≡ all

pub none_put : (relation : List ℕ) (before : List Leaf) → NumbersRest relation (before ++ leaves_numbered relation) before 1
unfolding numbers
none_put relation before = record { rest = λ count is. let all : count ≡ 32 = omega arith in ap (λ (n : ℕ). before ++ map (leaf_numbered relation) (range_with_len 1 n)) all }

pub one_put : (relation copy : List ℕ) (all so_far next : List Leaf) (number : ℕ) → copy ≡ relation → next ≡ so_far ++ leaf_numbered copy number ∷ [] → NumbersRest relation all so_far number → NumbersRest relation all next (number + 1)
one_put relation copy all so_far next number copied is leaves = record {
  rest = λ count sum.
      let one_more : number + suc count ≡ 33 = omega arith in
      let more = map (leaf_numbered relation) (range_with_len (number + 1) count) in
      ap (λ (items : List Leaf). items ++ more) (is ∙ ap (λ (r : List ℕ). so_far ++ leaf_numbered r number ∷ []) copied) ∙ append_assoc so_far (leaf_numbered relation number ∷ []) more ∙ leaves.rest (suc count) one_more;
}

pub all_put : (relation : List ℕ) (all so_far : List Leaf) (number : ℕ) → number ≡ 33 → NumbersRest relation all so_far number → so_far ≡ all
all_put relation all so_far number is leaves =
    let sum : number + 0 ≡ 33 = omega arith in sym (append-nil so_far) ∙ leaves.rest 0 sum

-- ---- each leaf of a catalogue is among them
in_range : (first count more : ℕ) → more < count → In (first + more) (range_with_len first count)
in_range first zero more below = absurd (omega arith)
in_range first (suc count) zero below = inl (omega arith)
in_range first (suc count) (suc more) below =
    let same : first + 1 + more ≡ first + suc more = omega arith in
    inr (subst (λ (n : ℕ). In n (range_with_len (first + 1) count)) same (in_range (first + 1) count more (omega arith)))

in_numbers : (number : ℕ) → 1 ≤ number → number ≤ 32 → In number numbers
unfolding numbers
in_numbers zero from up_to = absurd (omega arith)
in_numbers (suc more) from up_to =
    let same : 1 + more ≡ suc more = omega arith in
    subst (λ (n : ℕ). In n (range_with_len 1 32)) same (in_range 1 32 more (omega arith))

-- the leaves at the ends of paths, numbered on from a first number
all_numbered : (relation columns : List ℕ) (number : ℕ) (ways : List Path) → 1 ≤ number → number + length (leaves_from relation columns number ways) ≤ 33 → AllByRecursion (λ leaf. In leaf.name (leaves_numbered relation)) (leaves_from relation columns number ways)
all_numbered relation columns number [] from few = tt
all_numbered relation columns number (path ∷ ways) from few = (
  in_map (leaf_numbered relation) number numbers (in_numbers number from (omega (arith, few))),
  all_numbered relation columns (suc number) ways (omega arith) (omega (arith, few)),
)

-- what is among leaves is among them with others, in front or behind
all_left : (leaves : List FragmentLeaf) (names more : List Leaf) → AllByRecursion (λ leaf. In leaf.name names) leaves → AllByRecursion (λ leaf. In leaf.name (names ++ more)) leaves
all_left [] names more all = tt
all_left (leaf ∷ leaves) names more all = (in_left leaf.name names more all.0, all_left leaves names more all.1)

all_right : (leaves : List FragmentLeaf) (names more : List Leaf) → AllByRecursion (λ leaf. In leaf.name more) leaves → AllByRecursion (λ leaf. In leaf.name (names ++ more)) leaves
all_right [] names more all = tt
all_right (leaf ∷ leaves) names more all = (in_right leaf.name names more all.0, all_right leaves names more all.1)

all_known : (sites : List (List ℕ)) (relations : List SplitRelation) → AllByRecursion (IsFormedRelation sites) relations → AllByRecursion (λ leaf. In leaf.name (known_leaves (map (λ (relation : SplitRelation). relation.schema) relations))) (flat_map leaves_of relations)
all_known sites [] formed = tt
all_known sites (relation ∷ relations) formed =
    let few = formed.0.few_leaves in
    let own = leaves_numbered relation.schema.name in
    let others = known_leaves (map (λ (relation : SplitRelation). relation.schema) relations) in
    all_both (λ leaf. In leaf.name (own ++ others)) (leaves_of relation) (flat_map leaves_of relations)
    (all_left (leaves_of relation) own others (all_numbered relation.schema.name (columns_beside_key (kinds_of relation.schema)) 1 (paths relation.tree) (omega arith) (omega (arith, few))))
    (all_right (flat_map leaves_of relations) own others (all_known sites relations formed.1))

each_known : (c : Catalogue) → IsFormed c → AllByRecursion (λ leaf. In leaf.name (known_leaves (schemas_of c))) (catalogue_leaves c)
each_known c formed = all_known c.sites c.relations formed.relations

-- what holds of all holds of each
one_of_all : {A : Type 0} (P : A → Type 0) (items : List A) (i : ℕ) (item otherwise : A) → AllByRecursion P items → i < length items → item ≡ get_or items i otherwise → P item
one_of_all P [] i item otherwise all below is = absurd (omega arith)
one_of_all P (first ∷ items) zero item otherwise all below is = subst P (sym is) all.0
one_of_all P (first ∷ items) (suc i) item otherwise all below is = one_of_all P items i item otherwise all.1 (omega arith) is

-- a leaf by its place
pub known_at : (c : Catalogue) (items : List FragmentLeaf) (i : ℕ) (leaf : FragmentLeaf) → IsFormed c → items ≡ catalogue_leaves c → i < length items → leaf ≡ get_or items i leaf → In leaf.name (known_leaves (schemas_of c))
known_at c items i leaf formed same below is = one_of_all (λ l. In l.name (known_leaves (schemas_of c))) items i leaf leaf (subst (AllByRecursion (λ l. In l.name (known_leaves (schemas_of c)))) (sym same) (each_known c formed)) below is

-- a leaf by its name
pub known_named : (c : Catalogue) (name : Leaf) (leaf : FragmentLeaf) → IsFormed c → leaf_named name (catalogue_leaves c) ≡ Some leaf → list_any (λ other. is_eq (leaf_cmp name other)) (known_leaves (schemas_of c)) ≡ true
known_named c name leaf formed there =
    let found = found_so (λ l. In l.name (known_leaves (schemas_of c))) (is_name_of name) (catalogue_leaves c) leaf (each_known c formed) there in
    let named : name ≡ leaf.name = leaf_is name leaf.name (sym (same_test name leaf) ∙ found.1) in
    any_in (λ other. is_eq (leaf_cmp name other)) name (known_leaves (schemas_of c)) (subst (λ (n : Leaf). In n (known_leaves (schemas_of c))) (sym named) found.0) (leaf_self name)
