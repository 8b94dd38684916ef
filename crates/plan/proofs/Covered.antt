-- The law of cover on plans: each row that meets a need's conditions is given, in each needed column, by some leaf.
use Rattle.std.proofs.Common.{◌≡◌, ℕ, zero, suc, ◌<◌, Bool, true, false, cond, ◌&&◌, ◌||◌, ◌==◌, List, [], ◌∷◌, length, refl, arith}
use Rattle.std.specs.List.{AllByRecursion, list_all, list_any}
use Rattle.std.proofs.lemmas.Bool.Decides.{nat_tests}
use Rattle.terms.specs.declared.value.Kind.{Kind}
use Rattle.terms.specs.declared.value.Value.{Value}
use Rattle.terms.specs.Cond.{conds_hold}
use Rattle.terms.specs.Row.{FitsKinds}
use Rattle.catalog.specs.declared.fragment_leaf.FragmentLeaf.{FragmentLeaf}
use Rattle.catalog.specs.declared.path.Path.{Path}
use Rattle.catalog.specs.Counts.{has, how_many}
use Rattle.catalog.specs.Cover.{OneServes, SomeServes, leads, serves}
use Rattle.catalog.specs.FragmentLeaf.{leaf_of, leaves_from}
use Rattle.catalog.specs.Path.{columns_beside_key, path_columns, paths, wanted}
use Rattle.catalog.specs.Split.{Tree}
use Rattle.catalog.specs.Valid.{IsValid}
use Rattle.plan.specs.declared.need.Need.{Need}
use Rattle.plan.specs.Located.{reaches}
use Rattle.plan.proofs.CarriedConds.{and_true, both}
use Rattle.plan.proofs.RowsOf.{covered, covered_all}

-- a wanted leaf whose conditions hold gives the row
abbrev pub GivesWanted : Need → List Value → (FragmentLeaf → Bool) → FragmentLeaf → Type 0
GivesWanted need row gives leaf = wanted need.columns leaf.steps ≡ true → conds_hold leaf.conds row ≡ true → gives leaf ≡ true

-- what a path's leaf is to be: wanted, its conditions hold, and it has the columns
abbrev pub IsLeafFor : Need → List Value → List ℕ → List ℕ → Path → Type 0
IsLeafFor need row beside columns path = (wanted need.columns path.steps ≡ true) × (leads row path ≡ true) × (list_all (has (0 ∷ path_columns beside path.steps)) columns ≡ true)

or_first : (a b : Bool) → a ≡ true → (a || b) ≡ true
or_first true b h = refl
or_first false b h = absurd (cc)

pub or_second : (a b : Bool) → b ≡ true → (a || b) ≡ true
or_second true b h = refl
or_second false b h = h

some_step : (need : Need) (row : List Value) (gives : FragmentLeaf → Bool) (relation beside columns : List ℕ) (number : ℕ) (path : Path) (t others rest : Bool) → (t ≡ true → IsLeafFor need row beside columns path) →
    GivesWanted need row gives (leaf_of relation beside number path) → (others ≡ true → rest ≡ true) → (t || others) ≡ true → ((reaches need columns (leaf_of relation beside number path) && gives (leaf_of relation beside number path)) || rest) ≡ true
some_step need row gives relation beside columns number path true others rest is given more h =
    let leaf = leaf_of relation beside number path in
    let for = is refl in
    or_first (reaches need columns leaf && gives leaf) rest
    (and_true (reaches need columns leaf) (gives leaf) (and_true (wanted need.columns leaf.steps) (list_all (has leaf.columns) columns) for.0 for.2) (given for.0 for.1))
some_step need row gives relation beside columns number path false others rest is given more h =
    let leaf = leaf_of relation beside number path in
    or_second (reaches need columns leaf && gives leaf) rest (more h)

pub covered_some : (need : Need) (row : List Value) (gives : FragmentLeaf → Bool) (relation beside columns : List ℕ) (number : ℕ) (test : Path → Bool) (all : List Path) → ((path : Path) → test path ≡ true → IsLeafFor need row beside columns path) →
    AllByRecursion (GivesWanted need row gives) (leaves_from relation beside number all) → list_any test all ≡ true → covered need columns gives (leaves_from relation beside number all) ≡ true
covered_some need row gives relation beside columns number test [] is given some = absurd (cc)
covered_some need row gives relation beside columns number test (path ∷ all) is given some =
    some_step need row gives relation beside columns number path (test path) (list_any test all) (covered need columns gives (leaves_from relation beside (suc number) all)) (is path) given.0
    (covered_some need row gives relation beside columns (suc number) test all is given.1) some

-- what is counted once is there
counted_step : (t others : Bool) (count : ℕ) → (count ≡ 1 → others ≡ true) → cond t (suc count) count ≡ 1 → (t || others) ≡ true
counted_step true others count more h = refl
counted_step false others count more h = more h

counted_one : (test : Path → Bool) (all : List Path) → how_many test all ≡ 1 → list_any test all ≡ true
counted_one test [] one = absurd (omega arith)
counted_one test (path ∷ all) one = counted_step (test path) (list_any test all) (how_many test all) (counted_one test all) one

-- the rows of all wanted leaves
pub covered_base : (kinds : List Kind) (tree : Tree) (need : Need) (row : List Value) (gives : FragmentLeaf → Bool) (relation : List ℕ) → SomeServes → IsValid kinds tree → FitsKinds kinds row →
    AllByRecursion (GivesWanted need row gives) (leaves_from relation (columns_beside_key kinds) 1 (paths tree)) → covered need [] gives (leaves_from relation (columns_beside_key kinds) 1 (paths tree)) ≡ true
covered_base kinds tree need row gives relation cover valid fits given =
    covered_some need row gives relation (columns_beside_key kinds) [] 1 (serves need.columns row) (paths tree)
    (λ path h. let each = both (leads row path) (wanted need.columns path.steps) h in (each.1, each.0, refl)) given (cover kinds tree need.columns row valid fits)

-- and of one column
covered_one : (kinds : List Kind) (tree : Tree) (need : Need) (row : List Value) (gives : FragmentLeaf → Bool) (relation : List ℕ) (col : ℕ) → SomeServes → OneServes → IsValid kinds tree → FitsKinds kinds row →
    has need.columns col ≡ true → col < length kinds → AllByRecursion (GivesWanted need row gives) (leaves_from relation (columns_beside_key kinds) 1 (paths tree)) → covered need (col ∷ []) gives (leaves_from relation (columns_beside_key kinds) 1 (paths tree)) ≡ true
covered_one kinds tree need row gives relation zero cover one valid fits needed within given =
    covered_some need row gives relation (columns_beside_key kinds) (0 ∷ []) 1 (serves need.columns row) (paths tree)
    (λ path h. let each = both (leads row path) (wanted need.columns path.steps) h in (each.1, each.0, refl)) given (cover kinds tree need.columns row valid fits)
covered_one kinds tree need row gives relation (suc col) cover one valid fits needed within given =
    let beside = columns_beside_key kinds in
    let test : Path → Bool = λ path. serves need.columns row path && has (path_columns beside path.steps) (suc col) in
    covered_some need row gives relation beside (suc col ∷ []) 1 test (paths tree)
    (λ path h.
    let there = both (serves need.columns row path) (has (path_columns beside path.steps) (suc col)) h in
    let each = both (leads row path) (wanted need.columns path.steps) there.0 in
    (each.1, each.0, and_true (has (0 ∷ path_columns beside path.steps) (suc col)) true (or_second (0 == suc col) (has (path_columns beside path.steps) (suc col)) there.1) refl)) given
    (counted_one test (paths tree) (one kinds tree need.columns row (suc col) valid fits needed (λ zero_is. absurd (omega arith)) within))

-- and of all needed columns
pub covered_columns : (kinds : List Kind) (tree : Tree) (need : Need) (row : List Value) (gives : FragmentLeaf → Bool) (relation columns : List ℕ) → SomeServes → OneServes → IsValid kinds tree → FitsKinds kinds row →
    AllByRecursion (λ col. has need.columns col ≡ true) columns → AllByRecursion (λ col. col < length kinds) columns → AllByRecursion (GivesWanted need row gives) (leaves_from relation (columns_beside_key kinds) 1 (paths tree)) →
    covered_all need gives (leaves_from relation (columns_beside_key kinds) 1 (paths tree)) columns ≡ true
covered_columns kinds tree need row gives relation [] cover one valid fits needed within given = covered_base kinds tree need row gives relation cover valid fits given
covered_columns kinds tree need row gives relation (col ∷ []) cover one valid fits needed within given = covered_one kinds tree need row gives relation col cover one valid fits needed.0 within.0 given
covered_columns kinds tree need row gives relation (col ∷ next ∷ columns) cover one valid fits needed within given =
    let leaves = leaves_from relation (columns_beside_key kinds) 1 (paths tree) in
    and_true (covered need (col ∷ []) gives leaves) (covered_all need gives leaves (next ∷ columns)) (covered_one kinds tree need row gives relation col cover one valid fits needed.0 within.0 given)
    (covered_columns kinds tree need row gives relation (next ∷ columns) cover one valid fits needed.1 within.1 given)

-- each of some columns is one of them
itself : (col : ℕ) (rest : Bool) → ((col == col) || rest) ≡ true
itself col rest = let same : (col == col) ≡ true = grind (arith, nat_tests) in or_first (col == col) rest same

all_within : (columns all : List ℕ) → ((col : ℕ) → has columns col ≡ true → has all col ≡ true) → AllByRecursion (λ col. has all col ≡ true) columns
all_within [] all more = tt
all_within (first ∷ columns) all more =
    (more first (itself first (has columns first)), all_within columns all (λ col h. more col (or_second (first == col) (has columns col) h)))

pub each_is_one : (columns : List ℕ) → AllByRecursion (λ col. has columns col ≡ true) columns
each_is_one columns = all_within columns columns (λ col h. h)

-- where no leaf gives a row, none is covered
none_step : (a rest : Bool) → rest ≡ false → ((a && false) || rest) ≡ false
none_step true rest h = h
none_step false rest h = h

none_covered : (need : Need) (columns : List ℕ) (leaves : List FragmentLeaf) → covered need columns (λ leaf. false) leaves ≡ false
none_covered need columns [] = refl
none_covered need columns (leaf ∷ leaves) = none_step (reaches need columns leaf) (covered need columns (λ leaf. false) leaves) (none_covered need columns leaves)

pub none_covered_all : (need : Need) (leaves : List FragmentLeaf) (columns : List ℕ) → covered_all need (λ leaf. false) leaves columns ≡ false
none_covered_all need leaves [] = none_covered need [] leaves
none_covered_all need leaves (col ∷ []) = none_covered need (col ∷ []) leaves
none_covered_all need leaves (col ∷ next ∷ columns) = rw (none_covered need (col ∷ []) leaves) refl
