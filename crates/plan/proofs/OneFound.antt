-- The plan of one need has at each key what is to be found there.
use Rattle.std.proofs.Common.{◌≡◌, ℕ, zero, suc, ℤ, ◌+◌, ◌<◌, ◌≤◌, ◌≢◌, Bool, true, false, ◌||◌, ◌==◌, List, [], ◌∷◌, ◌++◌, Option, Some, None, option_and_then, refl, ap, ◌∙◌, arith}
use Rattle.std.specs.List.{AllByRecursion, range_with_len}
use Rattle.std.proofs.lemmas.Bool.Decides.{nat_tests}
use Rattle.terms.specs.declared.cond.Cond.{Cond}
use Rattle.terms.specs.declared.leaf.Leaf.{Leaf}
use Rattle.terms.specs.declared.value.Kind.{Kind}
use Rattle.terms.specs.declared.value.Value.{Value}
use Rattle.terms.specs.Cond.{conds_hold}
use Rattle.terms.specs.Row.{FitsKinds}
use Rattle.catalog.specs.declared.fragment_leaf.FragmentLeaf.{FragmentLeaf}
use Rattle.catalog.specs.Counts.{has}
use Rattle.catalog.specs.Cover.{OneServes, SomeServes}
use Rattle.catalog.specs.Keyed.{row_at}
use Rattle.catalog.specs.Split.{Tree}
use Rattle.plan.specs.declared.need.Need.{Need}
use Rattle.plan.specs.Found.{found_of}
use Rattle.plan.specs.Located.{IsByColumns, once}
use Rattle.plan.specs.Need.{columns_of, places_to}
use Rattle.plan.specs.Reduced.{reduced}
use Rattle.plan.specs.Rows.{kept, rows, seen_of}
use Rattle.plan.specs.Shape.{Shape, Filter}
use Rattle.plan.specs.Stated.{IsStated}
use Rattle.plan.proofs.Covered.{or_second}
use Rattle.plan.proofs.LeafReads.{gives_row}
use Rattle.plan.proofs.Meeting.{conds_joined}
use Rattle.plan.proofs.OneSide.{AreSeen, IsMarkedFor, IsSide, all_at, kept_one, seen_conds, side_leaves, side_none, side_row, side_there}
use Rattle.plan.proofs.RowsOf.{covered_all}

-- each stated leaf is fetched
abbrev pub AreMarked : (FragmentLeaf → Type 0) → (Leaf → Bool) → List FragmentLeaf → Type 0
AreMarked Stated marked leaves = AllByRecursion (λ leaf. Stated leaf → marked leaf.name ≡ true) leaves

pub marked_for : (kinds : List Kind) (need : Need) (marked : Leaf → Bool) (row : List Value) (leaves : List FragmentLeaf) → FitsKinds kinds row → conds_hold need.conds row ≡ true →
    AreMarked (IsStated kinds need) marked leaves → AllByRecursion (IsMarkedFor marked need row) leaves
marked_for kinds need marked row [] fits asked marks = tt
marked_for kinds need marked row (leaf ∷ leaves) fits asked marks = (
  λ want holds. marks.0 (record { row = row; serves = record { is_wanted = want; fits = fits; holds = conds_joined leaf.conds need.conds row holds asked } }),
  marked_for kinds need marked row leaves fits asked marks.1,
)

pub one_found : (kinds : List Kind) (tree : Tree) (need : Need) (relation : List ℕ) (marked : Leaf → Bool) (contents : Leaf → List (List Value)) (all : List (List Value)) (key : ℤ) (plan : Shape) → SomeServes → OneServes →
    IsByColumns need (side_leaves kinds tree relation) (once need.columns) plan → IsSide kinds tree need relation marked contents all → AreSeen need.columns need.conds → AreMarked (IsStated kinds need) marked (side_leaves kinds tree relation) →
    rows (reduced marked (Filter need.conds plan)) contents key ≡ option_and_then (found_of need.conds need.columns) (row_at key all)
one_found kinds tree need relation marked contents all key plan cover one is_plan s seen marks = at (row_at key all) refl
  where
    at : (found : Option (List Value)) → row_at key all ≡ found → rows (reduced marked (Filter need.conds plan)) contents key ≡ option_and_then (found_of need.conds need.columns) found
    at None is = ap (kept need.conds) (side_none kinds tree need relation marked contents all key plan is_plan s is)
    at (Some row) is =
        let leaves = side_leaves kinds tree relation in
        let there = covered_all need (gives_row marked need row) leaves (once need.columns) in
        ap (kept need.conds) (side_row kinds tree need relation marked contents all key row plan is_plan s is)
        ∙ kept_one need.conds (seen_of need.columns row) there (conds_hold need.conds row) (seen_conds need.columns need.conds row seen)
        (λ asked. side_there kinds tree need relation marked contents all key row cover one s is asked
        (marked_for kinds need marked row leaves (all_at (FitsKinds kinds) key all row s.whole.fit is) asked marks))

-- which columns are seen
has_behind : (front columns : List ℕ) (col : ℕ) → has columns col ≡ true → has (front ++ columns) col ≡ true
has_behind [] columns col h = h
has_behind (first ∷ front) columns col h = or_second (first == col) (has (front ++ columns) col) (has_behind front columns col h)

own_column : (c : Cond) (rest : List ℕ) → has (c.col ∷ rest) c.col ≡ true
own_column c rest = let same : (c.col == c.col) ≡ true = grind (arith, nat_tests) in rw same refl

-- those of the conditions themselves
seen_among : (columns : List ℕ) (conds : List Cond) → ((col : ℕ) → has (columns_of conds) col ≡ true → has columns col ≡ true) → AreSeen columns conds
seen_among columns [] more = tt
seen_among columns (c ∷ conds) more =
    (or_second (c.col == 0) (has columns c.col) (more c.col (own_column c (columns_of conds))), seen_among columns conds (λ col h. more col (or_second (c.col == col) (has (columns_of conds) col) h)))

pub own_seen : (front : List ℕ) (conds : List Cond) → AreSeen (front ++ columns_of conds) conds
own_seen front conds = seen_among (front ++ columns_of conds) conds (λ col h. has_behind front (columns_of conds) col h)

-- those below a width
range_step : (t rest : Bool) → (t ≡ false → rest ≡ true) → (t || rest) ≡ true
range_step true rest more = refl
range_step false rest more = more refl

in_range : (a n col : ℕ) → a ≤ col → col < a + n → has (range_with_len a n) col ≡ true
in_range a zero col low high = absurd (omega arith)
in_range a (suc n) col low high =
    range_step (a == col) (has (range_with_len (a + 1) n) col) (λ no. let apart : a ≢ col = grind (arith, nat_tests) in in_range (a + 1) n col (omega arith) (omega arith))

pub all_seen : (n : ℕ) (conds : List Cond) → AllByRecursion (λ c. c.col < n) conds → AreSeen (places_to n) conds
all_seen n [] within = tt
all_seen n (c ∷ conds) within = (or_second (c.col == 0) (has (places_to n) c.col) (in_range 0 n c.col (omega arith) (omega (arith, within.0))), all_seen n conds within.1)
