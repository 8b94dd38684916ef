-- What a look-up by a name finds.
use Rattle.std.proofs.Common.{◌≡◌, ◌≤◌, ◌-◌, get_or, ℕ, suc, true, false, cond, List, [], ◌∷◌, ◌++◌, map, flat_map, take, drop, length, find, Some, option_map, refl, ap, sym, ◌∙◌, arith, length-append}
use Rattle.std.specs.Prelude.{nat_eq}
use Rattle.std.specs.Cmp.Lexicographic.{pointwise}
use Rattle.std.proofs.Math.Seq.{take-append_seam, take-length}
use Rattle.meaning.specs.Schema.{kinds_of}
use Rattle.catalog.specs.declared.fragment_leaf.FragmentLeaf.{FragmentLeaf}
use Rattle.catalog.specs.declared.relation.SplitRelation as code
use Rattle.catalog.specs.Catalogue.{SplitRelation}
use Rattle.catalog.specs.FragmentLeaf.{leaf_counts, leaves_in, leaves_of, relation_named}
use Rattle.catalog.specs.Path.{columns_beside_key, paths}
use Rattle.catalog.specs.Relation.{relation_of}
use Rattle.catalog.proofs.NumberedLeaves.{leaves_length}

-- a relation of the code has the name that it has as the definition sees it
pub found_relation : (name : List ℕ) (relations : List code.SplitRelation) →
    option_map relation_of (find (λ relation. pointwise nat_eq relation.schema.name name) relations) ≡ relation_named name (map relation_of relations)
found_relation name [] = refl
found_relation name (relation ∷ relations) =
    elim (pointwise nat_eq relation.schema.name name) as (λ b. option_map relation_of (cond b (Some relation) (find (λ r. pointwise nat_eq r.schema.name name) relations)) ≡ cond b (Some (relation_of relation)) (relation_named name (map relation_of relations))) [
      | true ↦ refl
      | false ↦ found_relation name relations
    ]

-- a relation has as many leaves as its tree has paths
own_count : (relation : SplitRelation) → length (leaves_of relation) ≡ length (paths relation.tree)
own_count relation = leaves_length relation.schema.name (columns_beside_key (kinds_of relation.schema)) 1 (paths relation.tree)

-- the first relation's leaves stand first, and the others' after them
pub first_leaves : (relation : SplitRelation) (relations : List SplitRelation) (leaves : List FragmentLeaf) (count : ℕ) → leaves ≡ flat_map leaves_of (relation ∷ relations) → count ≡ length (paths relation.tree) →
    take count leaves ≡ leaves_of relation
first_leaves relation relations leaves count listed counted =
    let same : count ≡ length (leaves_of relation) = counted ∙ sym (own_count relation) in
    rw (listed, same) (take-append_seam (leaves_of relation) (flat_map leaves_of relations))

pub other_leaves : (relation : SplitRelation) (relations : List SplitRelation) (leaves : List FragmentLeaf) (count : ℕ) → leaves ≡ flat_map leaves_of (relation ∷ relations) → count ≡ length (paths relation.tree) →
    drop count leaves ≡ flat_map leaves_of relations
other_leaves relation relations leaves count listed counted =
    let same : count ≡ length (leaves_of relation) = counted ∙ sym (own_count relation) in
    rw (listed, same) (drop_front (leaves_of relation) (flat_map leaves_of relations))
  where
    drop_front : (xs ys : List FragmentLeaf) → drop (length xs) (xs ++ ys) ≡ ys
    drop_front [] ys = refl
    drop_front (x ∷ xs) ys = drop_front xs ys

pub enough_leaves : (relation : SplitRelation) (relations : List SplitRelation) (leaves : List FragmentLeaf) (count : ℕ) → leaves ≡ flat_map leaves_of (relation ∷ relations) → count ≡ length (paths relation.tree) → count ≤ length leaves
enough_leaves relation relations leaves count listed counted =
    let all = ap length listed ∙ length-append (leaves_of relation) (flat_map leaves_of relations) in
    let own = own_count relation in
    omega (arith, all, own, counted)

-- the leaves of the relation of a name are the first's, where it has that name, and else those among the others
pub leaves_here : (name : List ℕ) (relation : SplitRelation) (relations : List SplitRelation) → pointwise nat_eq relation.schema.name name ≡ true → leaves_in (relation_named name (relation ∷ relations)) ≡ leaves_of relation
leaves_here name relation relations is = rw is refl

pub leaves_later : (name : List ℕ) (relation : SplitRelation) (relations : List SplitRelation) → pointwise nat_eq relation.schema.name name ≡ false →
    leaves_in (relation_named name (relation ∷ relations)) ≡ leaves_in (relation_named name relations)
leaves_later name relation relations is = rw is refl

-- the counts of the others stand after the first's
pub first_count : (relation : SplitRelation) (relations : List SplitRelation) (counts : List ℕ) → counts ≡ leaf_counts (relation ∷ relations) → get_or counts 0 0 ≡ length (paths relation.tree)
first_count relation relations counts counted = rw counted refl

pub other_counts : (relation : SplitRelation) (relations : List SplitRelation) (counts : List ℕ) → counts ≡ leaf_counts (relation ∷ relations) → take (length counts - 1) (drop 1 counts) ≡ leaf_counts relations
other_counts relation relations counts counted =
    let less : suc (length (leaf_counts relations)) - 1 ≡ length (leaf_counts relations) = omega arith in
    rw (counted, less) (take-length (leaf_counts relations))
