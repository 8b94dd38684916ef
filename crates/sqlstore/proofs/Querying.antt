-- What a query over one table shows.
use Rattle.std.proofs.Common.{◌≡◌, ◌<◌, ◌+◌, ℕ, zero, suc, Bool, true, false, cond, List, [], ◌∷◌, length, slice_index_or, map, flat_map, Ordering, Less, Equal, Greater, is_lt, refl, sym, ap, ◌∙◌, subst, inl, inr, arith}
use Rattle.std.specs.List.Sorted.{IsPermutation, IsSorted}
use Rattle.std.specs.Ordering.{ordering_then}
use Rattle.std.proofs.lemmas.List.Concat.{flat_map-cons}
use Rattle.std.proofs.lemmas.List.Sorted.{Contains-permutation, IsPermutation-sym}
use Rattle.sqlite.specs.Collation.{Collation}
use Rattle.sqlite.specs.Order.{Row, column, value_cmp}
use Rattle.sqlite.specs.Program.{overlay}
use Rattle.sqlite.specs.Collation.TheVariants.{Binary}
use Rattle.sqlite.specs.Query.{Query, IsAnswerAs, IsSureAnswer, Output, output}
use Rattle.sqlite.specs.Term.{Term, Env, col}
use Rattle.sqlite.specs.Tree.{Trees, rowid}
use Rattle.sqlite_exec.proofs.RowsLemmas.{IsSorted-map}
use Rattle.sqlite_value.specs.declared.keys.Key.{Key}
use Rattle.sqlite_value.specs.Keys.{ascending}
use Rattle.sqlite.specs.declared.types.Value.TheVariants.{Null}
use Rattle.sqlite_rules.specs.Lists.{Has}
use Rattle.sqlite_rules.proofs.ListLemmas.{has_left, has_right, has_either, has_contained, contains_had}
use Rattle.sqlstore.specs.Rows.{Finds}
use Rattle.sqlstore.specs.Tests.{passes, shown}
use Rattle.sqlstore.proofs.Texts.{simple}

-- an item of a mapped list is of an item
pub mapped_has : {X Y : Type 0} (f : X → Y) (xs : List X) (y : Y) → Has (map f xs) y → (x : X) × Has xs x × (y ≡ f x)
mapped_has f [] y h = absurd h
mapped_has f (x ∷ xs) y (inl same) = (x, inl refl, same)
mapped_has f (x ∷ xs) y (inr later) = let found = mapped_has f xs y later in (found.0, inr found.1, found.2)

pub has_mapped : {X Y : Type 0} (f : X → Y) (xs : List X) (x : X) → Has xs x → Has (map f xs) (f x)
has_mapped f [] x h = absurd h
has_mapped f (y ∷ xs) x (inl same) = inl (ap f same)
has_mapped f (y ∷ xs) x (inr later) = inr (has_mapped f xs x later)

-- one item for each that passes
module _ {X Y : Type 0} (test : X → Bool) (give : X → Y) where
  abbrev given : List X → List Y
  given xs = flat_map (λ x. cond (test x) (give x ∷ []) []) xs

  one_has : (passed : Bool) (y z : Y) → Has (cond passed (y ∷ []) []) z → (passed ≡ true) × (z ≡ y)
  one_has true y z (inl same) = (refl, same)
  one_has true y z (inr none) = absurd none
  one_has false y z h = absurd h

  pub given_has : (xs : List X) (y : Y) → Has (given xs) y → (x : X) × Has xs x × (test x ≡ true) × (y ≡ give x)
  given_has [] y h = absurd h
  given_has (x ∷ xs) y h =
      elim (has_either (cond (test x) (give x ∷ []) []) (given xs) y (subst (λ ys. Has ys y) (flat_map-cons (λ x. cond (test x) (give x ∷ []) []) x xs) h)) [
        | inl here ↦ let one = one_has (test x) (give x) y here in (x, inl refl, one.0, one.1)
        | inr later ↦ let found = given_has xs y later in (found.0, inr found.1, found.2, found.3)
      ]

  pub has_given : (xs : List X) (x : X) → Has xs x → test x ≡ true → Has (given xs) (give x)
  has_given [] x h pass = absurd h
  has_given (y ∷ xs) x (inl same) pass =
      subst (λ ys. Has ys (give x)) (sym (flat_map-cons (λ x. cond (test x) (give x ∷ []) []) y xs))
      (has_left (cond (test y) (give y ∷ []) []) (given xs) (give x) (subst (λ z. Has (cond (test z) (give z ∷ []) []) (give x)) same (rw pass (inl refl))))
  has_given (y ∷ xs) x (inr later) pass =
      subst (λ ys. Has ys (give x)) (sym (flat_map-cons (λ x. cond (test x) (give x ∷ []) []) y xs))
      (has_right (cond (test y) (give y ∷ []) []) (given xs) (give x) (has_given xs x later pass))

permuted_has : {X : Type 0} (xs ys : List X) (x : X) → IsPermutation xs ys → Has xs x → Has ys x
permuted_has xs ys x same h = has_contained ys x (Contains-permutation xs ys x same (contains_had xs x h))

-- a query whose rows are put in some order
abbrev pub sorted_by : List (Term × Key) → ℕ → List Term → List Term → List Collation → Query
sorted_by order tree filter project collations = record (simple tree filter project collations) { order = order }

module _ (order : List (Term × Key)) (tree : ℕ) (filter project : List Term) (collations : List Collation) (params : Row) (db : Trees) (rows : List Row) (plain : overlay db [] tree ≡ db tree)
    (sure : IsSureAnswer (sorted_by order tree filter project collations) (overlay db []) params rows) where
  abbrev asked : Query
  asked = sorted_by order tree filter project collations

  abbrev answer : IsAnswerAs Null asked (overlay db []) params rows
  answer = sure Null

  abbrev env : Row → Env
  env row = params ∷ row ∷ []

  abbrev matched : List Env
  matched = given (passes filter params) env (db tree)

  kept : answer.kept ≡ map (output asked) matched
  kept = answer.distinct ∙ ap (map (output asked)) (answer.grouped ∙ ap (given (passes filter params) env) plain)

  pub shows : rows ≡ map (λ (o : Output). o.1) answer.ordered
  shows = answer.shown

  -- what is shown is of a row that passes
  pub ordered_has : (o : Output) → Has answer.ordered o → (row : Row) × Has (db tree) row × (passes filter params row ≡ true) × (o ≡ output asked (env row))
  ordered_has o there =
      let was : Has (map (output asked) matched) o = subst (λ xs. Has xs o) kept (permuted_has answer.ordered answer.kept o (IsPermutation-sym answer.kept answer.ordered answer.same) there) in
      let e = mapped_has (output asked) matched o was in
      let r = given_has (passes filter params) env (db tree) e.0 e.1 in
      (r.0, r.1, r.2, e.2 ∙ ap (output asked) r.3)

  -- what a query answers is what it finds
  pub answered_in : Finds (shown project params) (passes filter params) (db tree) rows
  answered_in = record {
    sound = λ it there.
        let o = mapped_has (λ (o : Output). o.1) answer.ordered it (subst (λ xs. Has xs it) shows there) in
        let r = ordered_has o.0 o.1 in
        (r.0, r.1, r.2, o.2 ∙ ap (λ (p : Output). p.1) r.3);
    all = λ row there pass.
        let one = has_mapped (output asked) matched (env row) (has_given (passes filter params) env (db tree) row there pass) in
        let two = permuted_has answer.kept answer.ordered (output asked (env row)) answer.same (subst (λ xs. Has xs (output asked (env row))) (sym kept) one) in
        subst (λ xs. Has xs (shown project params row)) (sym shows) (has_mapped (λ (o : Output). o.1) answer.ordered (output asked (env row)) two);
  }

pub answered : (tree : ℕ) (filter project : List Term) (collations : List Collation) (params : Row) (db : Trees) (rows : List Row) → overlay db [] tree ≡ db tree
    → IsSureAnswer (simple tree filter project collations) (overlay db []) params rows → Finds (shown project params) (passes filter params) (db tree) rows
answered = answered_in []

-- ---- in the order of the rows' numbers

abbrev pub by_number : List (Term × Key)
by_number = (col 1 0, ascending Binary) ∷ []

pub has_at : {X : Type 0} (xs : List X) (k : ℕ) (d : X) → k < length xs → Has xs (slice_index_or xs k d)
has_at [] k d low = absurd (omega (arith, low))
has_at (x ∷ xs) zero d low = inl refl
has_at (x ∷ xs) (suc k) d low = inr (has_at xs k d (omega (arith, low)))

tie_ends : (first : Ordering) → ordering_then first Equal ≡ first
tie_ends Less = refl
tie_ends Equal = refl
tie_ends Greater = refl

module _ (tree : ℕ) (filter rest : List Term) (params : Row) (db : Trees) (rows : List Row) (plain : overlay db [] tree ≡ db tree)
    (sure : IsSureAnswer (sorted_by by_number tree filter (col 1 0 ∷ rest) []) (overlay db []) params rows) where
  abbrev outputs : List Output
  outputs = (sure Null).ordered

  -- what a row is put in order by is its number
  number_of : (o : Output) → Has outputs o → column o.0 0 ≡ rowid o.1
  number_of o there =
      let from = ordered_has by_number tree filter (col 1 0 ∷ rest) [] params db rows plain sure o there in
      ap (λ (p : Output). column p.0 0) from.3 ∙ sym (ap (λ (p : Output). rowid p.1) from.3)

  pub answer_rises : IsSorted (λ one other. value_cmp (rowid one) (rowid other)) rows
  answer_rises =
      subst (IsSorted (λ one other. value_cmp (rowid one) (rowid other))) (sym (shows by_number tree filter (col 1 0 ∷ rest) [] params db rows plain sure))
      (IsSorted-map (λ one other. value_cmp (rowid one) (rowid other)) (λ (o : Output). o.1) outputs (λ k d low high.
      let one = slice_index_or outputs (k + 1) d in
      let other = slice_index_or outputs k d in
      let first = number_of one (has_at outputs (k + 1) d high) in
      let second = number_of other (has_at outputs k d (omega (arith, high))) in
      ap (λ v. is_lt (value_cmp v (rowid other.1))) (sym first) ∙ ap (λ v. is_lt (value_cmp (column one.0 0) v)) (sym second) ∙ ap is_lt (sym (tie_ends (value_cmp (column one.0 0) (column other.0 0)))) ∙ (sure Null).sorted k d low high))
