-- Rows by their places, and the items of one row among those that were put together.
use Rattle.std.proofs.Common.{◌≡◌, ◌≢◌, ◌⊎◌, ◌<◌, ◌+◌, ◌++◌, ◌∷◌, ◌==◌, ◌∙◌, ℕ, zero, suc, Bool, true, false, List, [], length, drop, set, refl, sym, ap, inl, inr, arith, cond, Bor, Some, None, slice_get, get_or, take}
use Rattle.std.specs.List.{AllByRecursion}
use Rattle.std.proofs.lemmas.List.{get_or-map, length-map, length-take-le, take_more}
use Rattle.protocol.specs.Parts.{In}
use Rattle.history.specs.Merge.{Act, of_cell, row}
use Rattle.history.specs.Picks.{rows_of}

module _ {T : Type 0} where
  -- where something stands in a row, there is such a row
  pub row_within : (rows : List (List T)) (c : ℕ) (item : T) (items : List T) → row rows c ≡ item ∷ items → c < length rows
  row_within [] c item items e = cc
  row_within (first ∷ rows) zero item items e = omega arith
  row_within (first ∷ rows) (suc c) item items e = omega (arith, row_within rows c item items e)

  -- another row behind the others changes none of them
  pub row_kept : (rows : List (List T)) (more : List T) (c : ℕ) (item : T) (items : List T) → row rows c ≡ item ∷ items → row (rows ++ more ∷ []) c ≡ item ∷ items
  row_kept [] more c item items e = cc
  row_kept (first ∷ rows) more zero item items e = e
  row_kept (first ∷ rows) more (suc c) item items e = row_kept rows more c item items e

  -- with another row behind them each place has what it had, or that one
  pub row_more : (rows : List (List T)) (more : List T) (c : ℕ) → (row (rows ++ more ∷ []) c ≡ row rows c) ⊎ (row (rows ++ more ∷ []) c ≡ more)
  row_more [] more zero = inr refl
  row_more [] more (suc c) = inl refl
  row_more (first ∷ rows) more zero = inl refl
  row_more (first ∷ rows) more (suc c) = row_more rows more c

  -- the row behind the others
  pub row_last : (rows : List (List T)) (more : List T) → row (rows ++ more ∷ []) (length rows) ≡ more
  row_last [] more = refl
  row_last (first ∷ rows) more = row_last rows more

  -- a row that is replaced
  pub row_set_same : (rows : List (List T)) (c : ℕ) (items : List T) → c < length rows → row (set rows c items) c ≡ items
  row_set_same [] c items h = absurd (omega (arith, h))
  row_set_same (first ∷ rows) zero items h = refl
  row_set_same (first ∷ rows) (suc c) items h = row_set_same rows c items (omega (arith, h))

  -- the others stay
  pub row_set_other : (rows : List (List T)) (c other : ℕ) (items : List T) → other ≢ c → row (set rows c items) other ≡ row rows other
  row_set_other [] c other items ne = refl
  row_set_other (first ∷ rows) zero zero items ne = absurd (ne refl)
  row_set_other (first ∷ rows) zero (suc other) items ne = refl
  row_set_other (first ∷ rows) (suc c) zero items ne = refl
  row_set_other (first ∷ rows) (suc c) (suc other) items ne = row_set_other rows c other items (λ e. ne (ap (λ n. suc n) e))

  -- one more item of a row
  pub of_cell_more : (c : ℕ) (acts : List (Act T)) (act : Act T) → of_cell c (acts ++ act ∷ []) ≡ of_cell c acts ++ of_cell c (act ∷ [])
  of_cell_more c [] act = refl
  of_cell_more c (first ∷ acts) act = elim (first.cell == c) as (λ b. cond b (first.entry ∷ of_cell c (acts ++ act ∷ [])) (of_cell c (acts ++ act ∷ [])) ≡ cond b (first.entry ∷ of_cell c acts) (of_cell c acts) ++ of_cell c (act ∷ [])) [
    | true ↦ ap (λ items. first.entry ∷ items) (of_cell_more c acts act)
    | false ↦ of_cell_more c acts act
  ]

  -- the row at a place
  pub row_at : (rows : List (Bor (List T))) (c : ℕ) (items : Bor (List T)) → c < length rows → items ≡ get_or rows c items → row (rows_of rows) c ≡ items.now
  row_at [] c items h at = absurd (omega (arith, h))
  row_at (first ∷ rows) zero items h at = ap (λ (items : Bor (List T)). items.now) (sym at)
  row_at (first ∷ rows) (suc c) items h at = row_at rows c items (omega (arith, h)) at

  -- as many rows as references to them
  pub rows_count : (rows : List (Bor (List T))) → length (rows_of rows) ≡ length rows
  rows_count rows = length-map rows (λ (items : Bor (List T)). items.now)

  -- the rows up to a place, and the one there
  pub rows_more : (rows : List (Bor (List T))) (c : ℕ) (items : Bor (List T)) → c < length rows → items ≡ get_or rows c items → take (c + 1) (rows_of rows) ≡ take c (rows_of rows) ++ items.now ∷ []
  rows_more rows c items h at =
      let now : Bor (List T) → List T = λ items. items.now in
      take_more (rows_of rows) c (items.now) (omega (arith, rows_count rows, h)) ∙ ap (λ here. take c (rows_of rows) ++ here ∷ []) (get_or-map now rows c items (items.now) h ∙ ap now (sym at))

  -- how many they are
  pub rows_before : (rows : List (Bor (List T))) (c : ℕ) → c < length rows → length (take c (rows_of rows)) ≡ c
  rows_before rows c h = length-take-le c (rows_of rows) (omega (arith, rows_count rows, h))

  -- a list by its first item
  pub by_first : (items : List T) (item : T) → Some item ≡ slice_get items 0 → items ≡ item ∷ drop 1 items
  by_first [] item e = cc
  by_first (first ∷ items) item e = cc

  pub by_none : (items : List T) → None ≡ slice_get items 0 → items ≡ []
  by_none [] e = refl
  by_none (first ∷ items) e = cc

  -- the first act's item, or a later one's
  of_cell_by : (c : ℕ) (act : Act T) (acts : List (Act T)) (item : T) (b : Bool) → In item (cond b (act.entry ∷ of_cell c acts) (of_cell c acts)) → (In item (of_cell c acts) → (one : Act T) × (In one acts × (one.entry ≡ item)))
      → (one : Act T) × (In one (act ∷ acts) × (one.entry ≡ item))
  of_cell_by c act acts item true here later = elim here [ inl same ↦ (act, (inl refl, sym same)) | inr there ↦ (let found = later there in (found.0, (inr found.1.0, found.1.1))) ]
  of_cell_by c act acts item false there later = let found = later there in (found.0, (inr found.1.0, found.1.1))

  -- an item of one row is that of an act
  pub of_cell_in : (c : ℕ) (acts : List (Act T)) (item : T) → In item (of_cell c acts) → (act : Act T) × (In act acts × (act.entry ≡ item))
  of_cell_in c [] item there = absurd there
  of_cell_in c (act ∷ acts) item there = of_cell_by c act acts item (act.cell == c) there (of_cell_in c acts item)

  -- a row in which something stands is one of the rows
  pub row_in : (rows : List (List T)) (c : ℕ) (item : T) → In item (row rows c) → In (row rows c) rows
  row_in [] c item there = absurd there
  row_in (items ∷ rows) zero item there = inl refl
  row_in (items ∷ rows) (suc c) item there = inr (row_in rows c item there)

  -- what holds of the row at each place holds of each row
  pub by_rows : (P : List T → Type 0) (rows : List (List T)) → ((c : ℕ) → P (row rows c)) → AllByRecursion P rows
  by_rows P [] each = tt
  by_rows P (items ∷ rows) each = (each zero, by_rows P rows (λ c. each (suc c)))

  -- what holds of each item that stands in a list holds of all
  pub all_of : (P : T → Type 0) (items : List T) → ((item : T) → In item items → P item) → AllByRecursion P items
  all_of P [] each = tt
  all_of P (item ∷ items) each = (each item (inl refl), all_of P items (λ other there. each other (inr there)))
