-- The places that a statement reads are places of its relations' columns.
use Rattle.std.proofs.Common.{ℕ, zero, suc, ◌+◌, ◌<◌, ◌≤◌, List, [], ◌∷◌, ◌++◌, length, arith}
use Rattle.std.specs.List.{AllByRecursion, range_with_len}
use Rattle.std.proofs.lemmas.Option.{slice_get_within}
use Rattle.terms.specs.declared.cond.Cond.{Cond}
use Rattle.terms.specs.declared.value.Kind.{Kind}
use Rattle.terms.specs.Cond.{IsCondOf}
use Rattle.terms.specs.Value.{kind_of}
use Rattle.plan.specs.Need.{columns_of, places_to}
use Rattle.plan.proofs.NeedsFit.{all_both}

abbrev pub AreBelow : ℕ → List ℕ → Type 0
AreBelow n places = AllByRecursion (λ place. place < n) places

pub conds_below : (types : List Kind) (conds : List Cond) → AllByRecursion (IsCondOf types) conds → AllByRecursion (λ c. c.col < length types) conds
conds_below types [] all = tt
conds_below types (c ∷ conds) all = (slice_get_within types c.col (kind_of c.value) all.0.column, conds_below types conds all.1)

columns_below : (n : ℕ) (conds : List Cond) → AllByRecursion (λ c. c.col < n) conds → AreBelow n (columns_of conds)
columns_below n [] all = tt
columns_below n (c ∷ conds) all = (all.0, columns_below n conds all.1)

pub read_below : (types : List Kind) (columns : List ℕ) (conds : List Cond) → AreBelow (length types) columns → AllByRecursion (IsCondOf types) conds → AreBelow (length types) (columns ++ columns_of conds)
read_below types columns conds here all = all_both (λ place. place < length types) columns (columns_of conds) here (columns_below (length types) conds (conds_below types conds all))

range_below : (a n limit : ℕ) → a + n ≤ limit → AreBelow limit (range_with_len a n)
range_below a zero limit fits = tt
range_below a (suc n) limit fits = (omega arith, range_below (a + 1) n limit (omega arith))

pub to_below : (n : ℕ) → AreBelow n (places_to n)
to_below n = range_below 0 n n (omega arith)
