-- Rows that each follow the one before it are told apart by their numbers, and the other way about.
use Rattle.std.proofs.Common.{◌≡◌, ◌<◌, ◌<ℤ◌, ◌≤◌, ◌⊎◌, ℕ, ℤ, zero, suc, add-one, true, false, List, [], ◌∷◌, length, Ordering, Less, Equal, Greater, is_lt, Bool, ◌-◌, ◌==◌, MatchBool, refl, sym, ap, ◌∙◌, subst, inl, inr, arith}
use Rattle.std.specs.List.Sorted.{IsSorted}
use Rattle.std.specs.Ordering.{int_cmp, MatchOrdering}
use Rattle.std.proofs.lemmas.Bool.{cases_lt, false_from_ne_true}
use Rattle.std.proofs.lemmas.Bool.Decides.{Decides-eqb}
use Rattle.std.proofs.lemmas.Cmp.{int_ranked}
use Rattle.std.proofs.lemmas.Int.{ints}
use Rattle.sqlite.specs.Edit.{id_in}
use Rattle.sqlite.specs.Order.{Row, column, value_cmp}
use Rattle.sqlite.specs.Tree.{rowid}
use Rattle.sqlite.specs.View.{is_int}
use Rattle.sqlite.specs.declared.types.Value.TheVariants.{Int}
use Rattle.sqlite_rules.specs.Lists.{Has}
use Rattle.sqlite_rules.proofs.TableLemmas.{int_is}
use Rattle.sqlite_value.proofs.OrderLemmas.{value_cmp-Int}
use Rattle.sqlstore.specs.Numbered.{is_real, IsPlainRow, Follows, row_at, AreNumbered}
use Rattle.sqlstore.specs.Rows.{AreKeyed}

-- rows with the same cells are the same
pub rows_same : (one other : Row) → length one ≡ length other → ((k : ℕ) → k < length one → (column one k ≡ column other k) × (is_real (column one k) ≡ false)) → (one ≡ other) × IsPlainRow one
rows_same [] [] len cells = (refl, tt)
rows_same [] (w ∷ other) len cells = absurd (omega (arith, len))
rows_same (v ∷ one) [] len cells = absurd (omega (arith, len))
rows_same (v ∷ one) (w ∷ other) len cells =
    let first = cells 0 (omega arith) in
    let rest = rows_same one other (omega (arith, len)) (λ k lt. cells (suc k) (omega (arith, lt))) in
    (ap (λ u. u ∷ one) first.0 ∙ ap (λ r. w ∷ r) rest.0, (first.1, rest.1))

pub plain_at : (row : Row) (k : ℕ) → k < length row → IsPlainRow row → is_real (column row k) ≡ false
plain_at [] k lt plain = absurd (omega (arith, lt))
plain_at (v ∷ row) zero lt plain = plain.0
plain_at (v ∷ row) (suc k) lt plain = plain_at row k (omega (arith, lt)) plain.1

-- ---- by their places

pub has_at : (rows : List Row) (k : ℕ) → k < length rows → Has rows (row_at rows k)
has_at [] k low = absurd (omega (arith, low))
has_at (row ∷ rows) zero low = inl refl
has_at (row ∷ rows) (suc k) low = inr (has_at rows k (omega (arith, low)))

place_of : (rows : List Row) (row : Row) → Has rows row → (k : ℕ) × (k < length rows) × (row_at rows k ≡ row)
place_of [] row there = absurd there
place_of (first ∷ rows) row (inl is) = (0, omega arith, sym is)
place_of (first ∷ rows) row (inr later) = let at = place_of rows row later in (suc at.0, omega (arith, at.1), at.2)

abbrev IsNext : List Row → ℕ → Bool → Type 0
IsNext rows k first = MatchBool first (is_int (rowid (row_at rows (suc k))) ≡ true) (Follows (row_at rows (suc k - 1)) (row_at rows (suc k)))

pub not_first : (k : ℕ) → (suc k == 0) ≡ false
not_first k = false_from_ne_true (suc k == 0) (λ is. let none : suc k ≡ 0 = (Decides-eqb (suc k) 0).0 is in absurd (omega (arith, none)))

pub less_one : (k : ℕ) → suc k - 1 ≡ k
less_one k = omega arith

module _ (rows : List Row) (numbered : AreNumbered rows) where
  abbrev id_at : ℕ → ℤ
  id_at k = id_in (rowid (row_at rows k))

  follows_at : (k : ℕ) → suc k < length rows → Follows (row_at rows k) (row_at rows (suc k))
  follows_at k low = subst (λ b. Follows (row_at rows b) (row_at rows (suc k))) (less_one k) (subst (IsNext rows k) (not_first k) (numbered (suc k) low))

  number_at : (k : ℕ) → k < length rows → is_int (rowid (row_at rows k)) ≡ true
  number_at zero low = numbered 0 low
  number_at (suc k) low = (follows_at k low).is

  -- an earlier row has a lesser number, or is the same
  rises_to : (j : ℕ) → j < length rows → (i : ℕ) → i ≤ j → (id_at i <ℤ id_at j) ⊎ (row_at rows i ≡ row_at rows j)
  rises_to zero low i within = inr (ap (row_at rows) (omega (arith, within)))
  rises_to (suc j) low i within =
      elim (cases_lt i (suc j)) [
        | inl before ↦ on (rises_to j (omega (arith, low)) i (omega (arith, before))) (follows_at j low).rises
        | inr here ↦ inr (ap (row_at rows) (omega (arith, within, here)))
      ]
    where
      on : (id_at i <ℤ id_at j) ⊎ (row_at rows i ≡ row_at rows j) → (id_at j <ℤ id_at (suc j)) ⊎ ((row_at rows j ≡ row_at rows (suc j)) × IsPlainRow (row_at rows j)) → (id_at i <ℤ id_at (suc j)) ⊎ (row_at rows i ≡ row_at rows (suc j))
      on (inl low) (inl more) = inl (omega (arith, ints, low, more))
      on (inl low) (inr same) = inl (subst (λ r. id_at i <ℤ id_in (rowid r)) same.0 low)
      on (inr same) (inl more) = inl (subst (λ r. id_in (rowid r) <ℤ id_at (suc j)) (sym same) more)
      on (inr same) (inr also) = inr (same ∙ also.0)

  never : (m n : ℤ) → m <ℤ n → m ≡ n → ⊥
  never m n less same = absurd (omega (arith, ints, less, same))

  one_of : (i j : ℕ) → i < length rows → j < length rows → id_at i ≡ id_at j → row_at rows i ≡ row_at rows j
  one_of i j low high same =
      elim (cases_lt i j) [
        | inl before ↦ elim (rises_to j high i (omega (arith, before))) [ inl less ↦ absurd (never (id_at i) (id_at j) less same) | inr is ↦ is ]
        | inr after ↦ elim (rises_to i low j after) [ inl less ↦ absurd (never (id_at j) (id_at i) less (sym same)) | inr is ↦ sym is ]
      ]

  pub keyed_by_numbers : AreKeyed rows
  keyed_by_numbers = record {
    ints = λ row there. let at = place_of rows row there in subst (λ r. is_int (rowid r) ≡ true) at.2 (number_at at.0 at.1);
    apart = λ one other h k same.
        let i = place_of rows one h in
        let j = place_of rows other k in
        sym i.2 ∙ one_of i.0 j.0 i.1 j.1 (ap (λ r. id_in (rowid r)) i.2 ∙ ap id_in same ∙ sym (ap (λ r. id_in (rowid r)) j.2)) ∙ j.2;
  }

-- ---- the other way about

no_less : (m n : ℤ) → is_lt (value_cmp (Int n) (Int m)) ≡ false → (m <ℤ n) ⊎ (m ≡ n)
no_less m n not_less = go (int_cmp n m) (ap is_lt (sym (value_cmp-Int n m)) ∙ not_less) (int_ranked n m (int_cmp n m) refl)
  where
    go : (order : Ordering) → is_lt order ≡ false → MatchOrdering order (n <ℤ m) (n ≡ m) (m <ℤ n) → (m <ℤ n) ⊎ (m ≡ n)
    go Less not_low ranked = absurd cc
    go Equal not_low ranked = inr (sym ranked)
    go Greater not_low ranked = inl ranked

pub numbers_by_key : (rows : List Row) → AreKeyed rows → IsSorted (λ one other. value_cmp (rowid one) (rowid other)) rows → ((row : Row) → Has rows row → IsPlainRow row) → AreNumbered rows
numbers_by_key rows keyed sorted plain zero low = keyed.ints (row_at rows 0) (has_at rows 0 low)
numbers_by_key rows keyed sorted plain (suc at) low =
    let here = has_at rows (suc at) low in
    let before = has_at rows at (omega (arith, low)) in
    let is = keyed.ints (row_at rows (suc at)) here in
    let was = keyed.ints (row_at rows at) before in
    let int = int_is (rowid (row_at rows (suc at))) is in
    let int_before = int_is (rowid (row_at rows at)) was in
    let order : is_lt (value_cmp (rowid (row_at rows (suc at))) (rowid (row_at rows at))) ≡ false = rw add-one at (sorted at [] (omega arith) (omega (arith, low))) in
    let step = no_less (id_in (rowid (row_at rows at))) (id_in (rowid (row_at rows (suc at)))) (ap (λ v. is_lt (value_cmp v (Int (id_in (rowid (row_at rows at)))))) (sym int) ∙ ap (λ v. is_lt (value_cmp (rowid (row_at rows (suc at))) v)) (sym int_before) ∙ order) in
    subst (IsNext rows at) (sym (not_first at)) (subst (λ b. Follows (row_at rows b) (row_at rows (suc at))) (sym (less_one at)) (record {
      was = was;
      is = is;
      rises = elim step [
        | inl less ↦ inl less
        | inr same ↦ inr (keyed.apart (row_at rows at) (row_at rows (suc at)) before here (int_before ∙ ap Int same ∙ sym int), plain (row_at rows at) before)
      ];
    }))
