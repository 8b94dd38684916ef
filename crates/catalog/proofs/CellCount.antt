-- Counting up to a limit: a product cut off at the greatest number is below the limit exactly where the whole product is.
use Rattle.std.proofs.Common.{◌≡◌, ◌≤◌, ◌↔◌, ◌*◌, ◌+◌, ◌<◌, ℕ, suc, zero, List, length, drop, get_or, min, sym, ap, ◌∙◌, subst, arith}
use Rattle.std.proofs.Math.Nat.{mul-suc, mul-zero, mul_assoc}
use Rattle.std.proofs.Math.Seq.{drop-cons}
use Rattle.catalog.specs.Cells.{cell_count}

-- a product with a number that is not 0 is not less
not_less : (m k : ℕ) → m ≤ m * suc k
not_less m k = omega (arith, mul-suc m k)

-- a product that is cut off, or not
cut_off : (whole cut rest : ℕ) → cut ≡ min whole 18446744073709551615 → (cut * rest ≤ 4096) ↔ (whole * rest ≤ 4096)
cut_off whole cut zero is = let left = mul-zero cut in let right = mul-zero whole in (λ few. omega arith, λ few. omega arith)
cut_off whole cut (suc rest) is = (
  λ few. let small : cut ≤ 4096 = omega (arith, not_less cut rest) in let same : cut ≡ whole = omega arith in let P : ℕ → Type 0 = λ n. n * suc rest ≤ 4096 in subst P same few,
  λ few. let small : whole ≤ 4096 = omega (arith, not_less whole rest) in let same : whole ≡ cut = omega arith in let P : ℕ → Type 0 = λ n. n * suc rest ≤ 4096 in subst P same few,
)

-- one more column
pub one_more : {A : Type 0} (columns : List (List A)) (i : ℕ) (d : List A) (cells cut : ℕ) → i < length columns → cut ≡ min (cells * length (get_or columns i d)) 18446744073709551615 →
    ((cells * cell_count (drop i columns) ≤ 4096) ↔ (cell_count columns ≤ 4096)) → ((cut * cell_count (drop (i + 1) columns) ≤ 4096) ↔ (cell_count columns ≤ 4096))
one_more {A} columns i d cells cut within is so_far =
    let rest = cell_count (drop (suc i) columns) in
    let here : cells * cell_count (drop i columns) ≡ (cells * length (get_or columns i d)) * rest = ap (λ (cs : List (List A)). cells * cell_count cs) (drop-cons columns i d within) ∙ sym (mul_assoc cells (length (get_or columns i d)) rest) in
    let both = cut_off (cells * length (get_or columns i d)) cut rest is in
    let P : ℕ → Type 0 = λ n. (n ≤ 4096) ↔ (cell_count columns ≤ 4096) in
    let whole = subst P here so_far in
    let next : (cut * rest ≤ 4096) ↔ (cell_count columns ≤ 4096) = (λ few. whole.0 (both.0 few), λ few. both.1 (whole.1 few)) in
    let Q : ℕ → Type 0 = λ j. (cut * cell_count (drop j columns) ≤ 4096) ↔ (cell_count columns ≤ 4096) in
    subst Q (suc_is i) next
  where
    suc_is : (j : ℕ) → suc j ≡ j + 1
    suc_is j = omega arith
