-- The rows of one need at a key: the relation's row, in the needed columns, at the latest where the need's conditions hold of it.
use Rattle.std.proofs.Common.{◌≡◌, ℕ, ℤ, ◌<◌, Bool, true, false, cond, ◌&&◌, List, [], ◌∷◌, length, Option, Some, None, refl, ap, ◌∙◌, subst}
use Rattle.std.specs.List.{AllByRecursion, slice_get}
use Rattle.std.specs.Ordering.{int_eq}
use Rattle.terms.specs.declared.cond.Cond.{Cond}
use Rattle.terms.specs.declared.leaf.Leaf.{Leaf}
use Rattle.terms.specs.declared.value.Kind.{Kind}
use Rattle.terms.specs.declared.value.Value.{Value}
use Rattle.terms.specs.Cond.{cond_holds, conds_hold, holds_of}
use Rattle.terms.specs.Row.{FitsKinds, key_of}
use Rattle.meaning.specs.Relation.{IsRelation}
use Rattle.catalog.specs.declared.fragment_leaf.FragmentLeaf.{FragmentLeaf}
use Rattle.catalog.specs.Counts.{has}
use Rattle.catalog.specs.Cover.{OneServes, SomeServes}
use Rattle.catalog.specs.FragmentLeaf.{leaves_from}
use Rattle.catalog.specs.Keyed.{row_at}
use Rattle.catalog.specs.Path.{columns_beside_key, paths, wanted}
use Rattle.catalog.specs.Split.{Tree}
use Rattle.catalog.specs.Valid.{IsValid}
use Rattle.meaning.specs.Listed.{listed}
use Rattle.plan.specs.declared.need.Need.{Need}
use Rattle.plan.specs.Fetch.{placed}
use Rattle.plan.specs.Located.{IsByColumns, once}
use Rattle.plan.specs.Reduced.{reduced}
use Rattle.plan.specs.Rows.{Seen, is_seen, kept, rows, seen_meets, seen_of}
use Rattle.plan.specs.Shape.{Shape}
use Rattle.plan.proofs.CarriedConds.{and_true}
use Rattle.plan.proofs.Covered.{GivesWanted, covered_columns, each_is_one, none_covered_all}
use Rattle.plan.proofs.LeafReads.{GivesLeaf, gives_row, leaves_read, no_leaves_read}
use Rattle.plan.proofs.Once.{all_once, once_seen}
use Rattle.plan.proofs.PartsSeen.{IsThere, all_there, placed_holds}
use Rattle.plan.proofs.RowsOf.{columns_row, covered_all, one_seen}

-- a need of a relation over columns of these types, split by a tree, of which the whole has these rows; its leaves, of which
-- those that pass are fetched, give contents
pub record IsSide (kinds : List Kind) (tree : Tree) (need : Need) (relation : List ℕ) (marked : Leaf → Bool) (contents : Leaf → List (List Value)) (all : List (List Value)) : Type 0 where
  pub valid : IsValid kinds tree
  pub whole : IsRelation kinds all
  pub needed : AllByRecursion (λ col. col < length kinds) need.columns
  pub columns : AllByRecursion (λ leaf. AllByRecursion (λ col. col < length kinds) leaf.columns) (leaves_from relation (columns_beside_key kinds) 1 (paths tree))
  pub given : AllByRecursion (GivesLeaf marked contents need all) (leaves_from relation (columns_beside_key kinds) 1 (paths tree))

-- its leaves, and its reduced plan
abbrev pub side_leaves : List Kind → Tree → List ℕ → List FragmentLeaf
side_leaves kinds tree relation = leaves_from relation (columns_beside_key kinds) 1 (paths tree)

-- what holds of each row holds of the one at a key
at_step : (P : List Value → Type 0) (t : Bool) (first : List Value) (rest : Option (List Value)) (row : List Value) → P first → (rest ≡ Some row → P row) → cond t (Some first) rest ≡ Some row → P row
at_step P true first rest row here more is = let one : first ≡ row = cc in subst P one here
at_step P false first rest row here more is = more is

pub all_at : (P : List Value → Type 0) (key : ℤ) (all : List (List Value)) (row : List Value) → AllByRecursion P all → row_at key all ≡ Some row → P row
all_at P key [] row each is = absurd (cc)
all_at P key (first ∷ all) row each is = at_step P (int_eq (key_of first) key) first (row_at key all) row each.0 (all_at P key all row each.1) is

leaves_there : (kinds : List Kind) (row : List Value) (leaves : List FragmentLeaf) → FitsKinds kinds row → AllByRecursion (λ leaf. AllByRecursion (λ col. col < length kinds) leaf.columns) leaves → AllByRecursion (λ leaf. AllByRecursion (IsThere row) leaf.columns) leaves
leaves_there kinds row [] fits each = tt
leaves_there kinds row (leaf ∷ leaves) fits each = (all_there kinds row leaf.columns fits each.0, leaves_there kinds row leaves fits each.1)

-- with a row at the key
pub side_row : (kinds : List Kind) (tree : Tree) (need : Need) (relation : List ℕ) (marked : Leaf → Bool) (contents : Leaf → List (List Value)) (all : List (List Value)) (key : ℤ) (row : List Value) (plan : Shape) →
    IsByColumns need (side_leaves kinds tree relation) (once need.columns) plan → IsSide kinds tree need relation marked contents all → row_at key all ≡ Some row →
    rows (reduced marked plan) contents key ≡ one_seen (covered_all need (gives_row marked need row) (side_leaves kinds tree relation) (once need.columns)) need.columns row
side_row kinds tree need relation marked contents all key row plan is s at =
    let fits = all_at (FitsKinds kinds) key all row s.whole.fit at in
    let leaves = side_leaves kinds tree relation in
    columns_row marked contents key need row (gives_row marked need row) leaves (once need.columns) plan is
    (leaves_read marked contents key need all row relation (columns_beside_key kinds) 1 (paths tree) s.whole.ascends at (leaves_there kinds row leaves fits s.columns) s.given)
    ∙ ap (λ (seen : Seen). let o : Option Seen = cond (covered_all need (gives_row marked need row) leaves (once need.columns)) (Some seen) None in o) (once_seen need.columns row)

-- and with none
pub side_none : (kinds : List Kind) (tree : Tree) (need : Need) (relation : List ℕ) (marked : Leaf → Bool) (contents : Leaf → List (List Value)) (all : List (List Value)) (key : ℤ) (plan : Shape) →
    IsByColumns need (side_leaves kinds tree relation) (once need.columns) plan → IsSide kinds tree need relation marked contents all → row_at key all ≡ None → rows (reduced marked plan) contents key ≡ None
side_none kinds tree need relation marked contents all key plan is s at =
    let leaves = side_leaves kinds tree relation in
    columns_row marked contents key need [] (λ leaf. false) leaves (once need.columns) plan is (no_leaves_read marked contents key need all relation (columns_beside_key kinds) 1 (paths tree) s.whole.ascends at s.given)
    ∙ ap (λ (t : Bool). one_seen t (once need.columns) []) (none_covered_all need leaves (once need.columns))

-- a wanted leaf whose conditions hold of the row is fetched
abbrev pub IsMarkedFor : (Leaf → Bool) → Need → List Value → FragmentLeaf → Type 0
IsMarkedFor marked need row leaf = wanted need.columns leaf.steps ≡ true → conds_hold leaf.conds row ≡ true → marked leaf.name ≡ true

given_wanted : (kinds : List Kind) (need : Need) (marked : Leaf → Bool) (row : List Value) (leaves : List FragmentLeaf) → FitsKinds kinds row → conds_hold need.conds row ≡ true →
    AllByRecursion (λ leaf. AllByRecursion (λ col. col < length kinds) leaf.columns) leaves → AllByRecursion (IsMarkedFor marked need row) leaves → AllByRecursion (GivesWanted need row (gives_row marked need row)) leaves
given_wanted kinds need marked row [] fits asked columns marks = tt
given_wanted kinds need marked row (leaf ∷ leaves) fits asked columns marks = (
  λ want holds.
      and_true (marked leaf.name) (conds_hold leaf.conds row && conds_hold (placed leaf.columns need.conds) (listed leaf.columns row)) (marks.0 want holds)
      (and_true (conds_hold leaf.conds row) (conds_hold (placed leaf.columns need.conds) (listed leaf.columns row)) holds
      (placed_holds leaf.columns need.conds row (all_there kinds row leaf.columns fits columns.0) asked)),
  given_wanted kinds need marked row leaves fits asked columns.1 marks.1,
)

-- where the need's conditions hold of the row, it is there
pub side_there : (kinds : List Kind) (tree : Tree) (need : Need) (relation : List ℕ) (marked : Leaf → Bool) (contents : Leaf → List (List Value)) (all : List (List Value)) (key : ℤ) (row : List Value) → SomeServes → OneServes →
    IsSide kinds tree need relation marked contents all → row_at key all ≡ Some row → conds_hold need.conds row ≡ true → AllByRecursion (IsMarkedFor marked need row) (side_leaves kinds tree relation) →
    covered_all need (gives_row marked need row) (side_leaves kinds tree relation) (once need.columns) ≡ true
side_there kinds tree need relation marked contents all key row cover one s at asked marks =
    let fits = all_at (FitsKinds kinds) key all row s.whole.fit at in
    covered_columns kinds tree need row (gives_row marked need row) relation (once need.columns) cover one s.valid fits (all_once (λ col. has need.columns col ≡ true) need.columns (each_is_one need.columns))
    (all_once (λ col. col < length kinds) need.columns s.needed)
    (given_wanted kinds need marked row (side_leaves kinds tree relation) fits asked s.columns marks)

-- conditions on columns that are seen ask the same of what is seen
abbrev pub AreSeen : List ℕ → List Cond → Type 0
AreSeen columns conds = AllByRecursion (λ c. is_seen columns c.col ≡ true) conds

seen_value : (t : Bool) (value : Option Value) → t ≡ true → cond t value None ≡ value
seen_value true value is = refl
seen_value false value is = absurd (cc)

pub seen_conds : (columns : List ℕ) (conds : List Cond) (row : List Value) → AreSeen columns conds → seen_meets conds (seen_of columns row) ≡ conds_hold conds row
seen_conds columns [] row all = refl
seen_conds columns (c ∷ conds) row all =
    ap (λ (o : Option Value). holds_of c o && seen_meets conds (seen_of columns row)) (seen_value (is_seen columns c.col) (slice_get row c.col) all.0)
    ∙ ap (λ (t : Bool). cond_holds c row && t) (seen_conds columns conds row all.1)

-- a filter on top leaves what is found
pub kept_one : (conds : List Cond) (seen : Seen) (there holds : Bool) → seen_meets conds seen ≡ holds → (holds ≡ true → there ≡ true) → kept conds (cond there (Some seen) None) ≡ cond holds (Some seen) None
kept_one conds seen true holds same more = ap (λ (t : Bool). cond t (Some seen) None) same
kept_one conds seen false true same more = let no : false ≡ true = more refl in absurd (cc)
kept_one conds seen false false same more = refl
