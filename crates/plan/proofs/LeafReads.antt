-- What the read of a leaf has at a key, over contents that are the leaf's as far as the read looks.
use Rattle.std.proofs.Common.{◌≡◌, ℕ, suc, ℤ, Bool, true, false, cond, ◌&&◌, List, [], ◌∷◌, Option, Some, None, option_map, option_and_then, refl, ap, ◌∙◌}
use Rattle.std.specs.List.{AllByRecursion}
use Rattle.terms.specs.declared.leaf.Leaf.{Leaf}
use Rattle.terms.specs.declared.value.Value.{Value}
use Rattle.terms.specs.Cond.{conds_hold}
use Rattle.meaning.specs.Listed.{listed}
use Rattle.meaning.specs.Relation.{Ascends}
use Rattle.catalog.specs.declared.fragment_leaf.FragmentLeaf.{FragmentLeaf}
use Rattle.catalog.specs.declared.path.Path.{Path}
use Rattle.catalog.specs.Fragment.{content}
use Rattle.catalog.specs.FragmentLeaf.{leaf_of, leaves_from, unnamed}
use Rattle.catalog.specs.Keyed.{row_at}
use Rattle.catalog.specs.Path.{path_columns, path_conds}
use Rattle.plan.specs.declared.need.Need.{Need}
use Rattle.plan.specs.Fetch.{fetch_of, placed}
use Rattle.plan.specs.Rows.{Seen, met, rows, seen_of, seen_part}
use Rattle.plan.specs.Shape.{Empty, Fetch}
use Rattle.plan.proofs.AtKey.{at_mapped, parts_keep_keys, parts_passed, passed_part}
use Rattle.plan.proofs.PartsSeen.{IsThere, part_is}
use Rattle.plan.proofs.RowsOf.{Reads, one_seen}

-- through the read of a leaf that is fetched, the contents are those of these rows
abbrev pub GivesLeaf : (Leaf → Bool) → (Leaf → List (List Value)) → Need → List (List Value) → FragmentLeaf → Type 0
GivesLeaf marked contents need all leaf =
    marked leaf.name ≡ true → met (placed leaf.columns need.conds) (contents leaf.name) ≡ met (placed leaf.columns need.conds) (content (unnamed leaf) all)

-- whether a leaf that is fetched gives a row
abbrev pub gives_row : (Leaf → Bool) → Need → List Value → FragmentLeaf → Bool
gives_row marked need row leaf = marked leaf.name && (conds_hold leaf.conds row && conds_hold (placed leaf.columns need.conds) (listed leaf.columns row))

part_or_none : (t : Bool) (columns : List ℕ) (row : List Value) → seen_part columns (listed columns row) ≡ seen_of columns row → option_map (seen_part columns) (cond t (Some (listed columns row)) None) ≡ one_seen t columns row
part_or_none true columns row same = ap (λ (s : Seen). Some s) same
part_or_none false columns row same = refl

-- what the parts of a leaf, as far as the read looks, have at a key
parts_at : (marked : Leaf → Bool) (contents : Leaf → List (List Value)) (key : ℤ) (need : Need) (all : List (List Value)) (relation beside : List ℕ) (number : ℕ) (path : Path) → Ascends all →
    met (placed (0 ∷ path_columns beside path.steps) need.conds) (contents (leaf_of relation beside number path).name) ≡ met (placed (0 ∷ path_columns beside path.steps) need.conds) (content (unnamed (leaf_of relation beside number path)) all) →
    rows (Fetch (fetch_of need (leaf_of relation beside number path))) contents key
    ≡ option_map (seen_part (0 ∷ path_columns beside path.steps)) (option_and_then (passed_part (conds_hold (path_conds path.steps)) (listed (0 ∷ path_columns beside path.steps)) (conds_hold (placed (0 ∷ path_columns beside path.steps) need.conds))) (row_at key all))
parts_at marked contents key need all relation beside number path order given =
    let columns = path_columns beside path.steps in
    let test : List Value → Bool = conds_hold (path_conds path.steps) in
    let passes : List Value → Bool = conds_hold (placed (0 ∷ columns) need.conds) in
    ap (λ (parts : List (List Value)). option_map (seen_part (0 ∷ columns)) (row_at key parts)) (given ∙ parts_passed test (listed (0 ∷ columns)) passes all)
    ∙ ap (option_map (seen_part (0 ∷ columns))) (at_mapped (passed_part test (listed (0 ∷ columns)) passes) key all (parts_keep_keys test columns passes) order)

pub leaf_reads : (marked : Leaf → Bool) (contents : Leaf → List (List Value)) (key : ℤ) (need : Need) (all : List (List Value)) (row : List Value) (relation beside : List ℕ) (number : ℕ) (path : Path) → Ascends all → row_at key all ≡ Some row →
    AllByRecursion (IsThere row) (0 ∷ path_columns beside path.steps) → GivesLeaf marked contents need all (leaf_of relation beside number path) → Reads marked contents key need row (gives_row marked need row) (leaf_of relation beside number path)
leaf_reads marked contents key need all row relation beside number path order at there given =
    let leaf = leaf_of relation beside number path in
    let columns = path_columns beside path.steps in
    let test : List Value → Bool = conds_hold (path_conds path.steps) in
    let passes : List Value → Bool = conds_hold (placed (0 ∷ columns) need.conds) in
    let holds = conds_hold leaf.conds row && conds_hold (placed leaf.columns need.conds) (listed leaf.columns row) in
    elim (marked leaf.name) as (λ t. marked leaf.name ≡ t → rows (cond t (Fetch (fetch_of need leaf)) Empty) contents key ≡ one_seen (t && holds) leaf.columns row) [
      | true ↦ λ is.
          parts_at marked contents key need all relation beside number path order (given is)
          ∙ ap (λ (o : Option (List Value)). option_map (seen_part (0 ∷ columns)) (option_and_then (passed_part test (listed (0 ∷ columns)) passes) o)) at
          ∙ part_or_none holds (0 ∷ columns) row (part_is columns row there)
      | false ↦ λ is. refl
    ] refl

-- where no row has the key, no leaf gives one
pub no_leaf_reads : (marked : Leaf → Bool) (contents : Leaf → List (List Value)) (key : ℤ) (need : Need) (all : List (List Value)) (relation beside : List ℕ) (number : ℕ) (path : Path) → Ascends all → row_at key all ≡ None →
    GivesLeaf marked contents need all (leaf_of relation beside number path) → Reads marked contents key need [] (λ leaf. false) (leaf_of relation beside number path)
no_leaf_reads marked contents key need all relation beside number path order at given =
    let leaf = leaf_of relation beside number path in
    let columns = path_columns beside path.steps in
    let test : List Value → Bool = conds_hold (path_conds path.steps) in
    let passes : List Value → Bool = conds_hold (placed (0 ∷ columns) need.conds) in
    elim (marked leaf.name) as (λ t. marked leaf.name ≡ t → rows (cond t (Fetch (fetch_of need leaf)) Empty) contents key ≡ None) [
      | true ↦ λ is.
          parts_at marked contents key need all relation beside number path order (given is)
          ∙ ap (λ (o : Option (List Value)). option_map (seen_part (0 ∷ columns)) (option_and_then (passed_part test (listed (0 ∷ columns)) passes) o)) at
      | false ↦ λ is. refl
    ] refl

-- of all leaves
pub leaves_read : (marked : Leaf → Bool) (contents : Leaf → List (List Value)) (key : ℤ) (need : Need) (all : List (List Value)) (row : List Value) (relation beside : List ℕ) (number : ℕ) (paths : List Path) → Ascends all → row_at key all ≡ Some row →
    AllByRecursion (λ leaf. AllByRecursion (IsThere row) leaf.columns) (leaves_from relation beside number paths) → AllByRecursion (GivesLeaf marked contents need all) (leaves_from relation beside number paths) →
    AllByRecursion (Reads marked contents key need row (gives_row marked need row)) (leaves_from relation beside number paths)
leaves_read marked contents key need all row relation beside number [] order at there given = tt
leaves_read marked contents key need all row relation beside number (path ∷ paths) order at there given =
    (leaf_reads marked contents key need all row relation beside number path order at there.0 given.0, leaves_read marked contents key need all row relation beside (suc number) paths order at there.1 given.1)

pub no_leaves_read : (marked : Leaf → Bool) (contents : Leaf → List (List Value)) (key : ℤ) (need : Need) (all : List (List Value)) (relation beside : List ℕ) (number : ℕ) (paths : List Path) → Ascends all → row_at key all ≡ None →
    AllByRecursion (GivesLeaf marked contents need all) (leaves_from relation beside number paths) → AllByRecursion (Reads marked contents key need [] (λ leaf. false)) (leaves_from relation beside number paths)
no_leaves_read marked contents key need all relation beside number [] order at given = tt
no_leaves_read marked contents key need all relation beside number (path ∷ paths) order at given =
    (no_leaf_reads marked contents key need all relation beside number path order at given.0, no_leaves_read marked contents key need all relation beside (suc number) paths order at given.1)
