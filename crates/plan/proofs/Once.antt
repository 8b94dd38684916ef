-- Columns without repeats and without the key: the same are seen.
use Rattle.std.proofs.Common.{◌≡◌, ℕ, Bool, true, false, cond, ◌||◌, ◌==◌, List, [], ◌∷◌, ◌++◌, Option, None, refl, ap, sym, ◌∙◌, append_assoc, arith}
use Rattle.std.specs.List.{AllByRecursion, slice_get}
use Rattle.std.proofs.Math.Path.{fun_ext}
use Rattle.std.proofs.lemmas.Bool.Decides.{nat_tests}
use Rattle.terms.specs.declared.value.Value.{Value}
use Rattle.catalog.specs.Counts.{has}
use Rattle.plan.specs.Located.{once, once_behind}
use Rattle.plan.specs.Rows.{is_seen, seen_of}

-- what holds of each column
all_behind : (P : ℕ → Type 0) (found columns : List ℕ) → AllByRecursion P columns → AllByRecursion P (once_behind found columns)
all_behind P found [] all = tt
all_behind P found (col ∷ columns) all = at (is_seen found col) (all_behind P found columns all.1) (all_behind P (found ++ col ∷ []) columns all.1)
  where
    at : (t : Bool) → AllByRecursion P (once_behind found columns) → AllByRecursion P (once_behind (found ++ col ∷ []) columns) → AllByRecursion P (cond t (once_behind found columns) (col ∷ once_behind (found ++ col ∷ []) columns))
    at true seen more = seen
    at false seen more = (all.0, more)

pub all_once : (P : ℕ → Type 0) (columns : List ℕ) → AllByRecursion P columns → AllByRecursion P (once columns)
all_once P columns all = all_behind P [] columns all

either : (a b c : Bool) → (a || (b || c)) ≡ ((a || b) || c)
either true b c = refl
either false b c = refl

has_apart : (front columns : List ℕ) (col : ℕ) → has (front ++ columns) col ≡ (has front col || has columns col)
has_apart [] columns col = refl
has_apart (first ∷ front) columns col = ap (λ (t : Bool). (first == col) || t) (has_apart front columns col) ∙ either (first == col) (has front col) (has columns col)

-- a column that is seen already is not seen more
again : (zero front first rest : Bool) → (first ≡ true → (zero || front) ≡ true) → (zero || (front || rest)) ≡ (zero || (front || (first || rest)))
again true front first rest seen = refl
again false true first rest seen = refl
again false false true rest seen = absurd (let h : false ≡ true = seen refl in cc)
again false false false rest seen = refl

seen_same : (found : List ℕ) (first col : ℕ) → is_seen found first ≡ true → (first == col) ≡ true → is_seen found col ≡ true
seen_same found first col seen is = let same : first ≡ col = grind (arith, nat_tests) in ap (is_seen found) (sym same) ∙ seen

seen_behind : (found columns : List ℕ) (col : ℕ) → is_seen (found ++ once_behind found columns) col ≡ is_seen (found ++ columns) col
seen_behind found [] col = refl
seen_behind found (first ∷ columns) col = at (is_seen found first) refl (seen_behind found columns col) (seen_behind (found ++ first ∷ []) columns col)
  where
    at : (t : Bool) → is_seen found first ≡ t → is_seen (found ++ once_behind found columns) col ≡ is_seen (found ++ columns) col →
        is_seen ((found ++ first ∷ []) ++ once_behind (found ++ first ∷ []) columns) col ≡ is_seen ((found ++ first ∷ []) ++ columns) col →
        is_seen (found ++ cond t (once_behind found columns) (first ∷ once_behind (found ++ first ∷ []) columns)) col ≡ is_seen (found ++ first ∷ columns) col
    at true is seen more =
        seen ∙ ap (λ (t : Bool). (col == 0) || t) (has_apart found columns col)
        ∙ again (col == 0) (has found col) (first == col) (has columns col) (λ here. seen_same found first col is here)
        ∙ ap (λ (t : Bool). (col == 0) || t) (sym (has_apart found (first ∷ columns) col))
    at false is seen more =
        ap (λ (all : List ℕ). is_seen all col) (sym (append_assoc found (first ∷ []) (once_behind (found ++ first ∷ []) columns))) ∙ more
        ∙ ap (λ (all : List ℕ). is_seen all col) (append_assoc found (first ∷ []) columns)

pub once_seen : (columns : List ℕ) (row : List Value) → seen_of (once columns) row ≡ seen_of columns row
once_seen columns row = fun_ext (λ col. ap (λ (t : Bool). let value : Option Value = cond t (slice_get row col) None in value) (seen_behind [] columns col))
