-- The merge of rows: what it keeps so far, and where their order is broken.
use Rattle.std.proofs.Common.{◌≡◌, ◌≢◌, ◌⊎◌, ◌<◌, ◌≤◌, ◌+◌, ◌++◌, ◌∷◌, ◌==◌, ◌∙◌, ℕ, true, false, List, [], Option, Some, None, length, get_or, drop, set, refl, sym, ap, subst, inl, inr, arith, append_assoc, nat_le, Bool}
use Rattle.std.proofs.Common.{Bor, if◌then◌else◌, slice_get, take}
use Rattle.std.specs.List.{All, AllPairs, sum_by}
use Rattle.std.proofs.lemmas.Bool.{eq-eqb, leb-false, leb-true}
use Rattle.std.proofs.lemmas.Bool.Decides.{eqb_tells}
use Rattle.std.proofs.lemmas.List.{append-nil, map-append, map-set}
use Rattle.std.proofs.lemmas.List.Sums.{sum_by-set}
use Rattle.protocol.specs.Parts.{In}
use Rattle.protocol.proofs.Basics.{in_right}
use Rattle.history.specs.declared.merge.Pick.{Pick}
use Rattle.std.proofs.lemmas.List.Elements.{All-push}
use Rattle.std.proofs.lemmas.List.Quantifiers.{all_pairs_push}
use Rattle.history.specs.Merge.{Act, Breaks, of_cell, row}
use Rattle.history.specs.Picks.{act_of, acts_of, rows_of, BeginsFrom, IsLeast, IsLeastOf, lower_of}
use Rattle.history.proofs.RowPlaces.{row_at, of_cell_more, row_kept, row_last, row_more, row_set_other, row_set_same, row_within, rows_before, rows_count, rows_more, by_first, by_none}

module _ {T : Type 0} (number : T → ℕ) where
  -- a row that begins with no lower number than one begins with none lower than a lower one
  begins_lower : (low high : ℕ) (items : List T) → low ≤ high → BeginsFrom number high items → BeginsFrom number low items
  begins_lower low high [] h from = tt
  begins_lower low high (item ∷ items) h from = omega (arith, h, from)

  -- an empty row behind others changes nothing
  pub least_empty : (rows : List (List T)) (found : Option (Act T)) → IsLeastOf number rows found → IsLeastOf number (rows ++ [] ∷ []) found
  least_empty rows None none = λ c. elim (row_more rows [] c) [ inl e ↦ e ∙ none c | inr e ↦ e ]
  least_empty rows (Some act) is = record {
    back = is.back;
    here = row_kept rows [] act.cell act.entry is.back is.here;
    least = λ c. elim (row_more rows [] c) [ inl e ↦ subst (BeginsFrom number (number act.entry)) (sym e) (is.least c) | inr e ↦ subst (BeginsFrom number (number act.entry)) (sym e) tt ];
  }

  -- the lower one of the least of the others and of the first item behind them
  least_of_two : (rows : List (List T)) (act : Act T) (item : T) (items : List T) → IsLeast number rows act → (b : Bool) → nat_le (number act.entry) (number item) ≡ b
      → IsLeast number (rows ++ (item ∷ items) ∷ []) (if b then act else record { cell = length rows; entry = item })
  least_of_two rows act item items is true e = record {
    back = is.back;
    here = row_kept rows (item ∷ items) act.cell act.entry is.back is.here;
    least = λ c. elim (row_more rows (item ∷ items) c) [
      | inl same ↦ subst (BeginsFrom number (number act.entry)) (sym same) (is.least c)
      | inr new ↦ subst (BeginsFrom number (number act.entry)) (sym new) (leb-true (number act.entry) (number item) e)
    ];
  }
  least_of_two rows act item items is false e = record {
    back = items;
    here = row_last rows (item ∷ items);
    least = λ c. elim (row_more rows (item ∷ items) c) [
      | inl same ↦ subst (BeginsFrom number (number item)) (sym same) (begins_lower (number item) (number act.entry) (row rows c) (let lt = leb-false (number act.entry) (number item) e in omega arith) (is.least c))
      | inr new ↦ subst (BeginsFrom number (number item)) (sym new) (omega arith)
    ];
  }

  -- the first item of a row behind others may be lower
  pub least_more : (rows : List (List T)) (found : Option (Act T)) (item : T) (items : List T) → IsLeastOf number rows found → IsLeastOf number (rows ++ (item ∷ items) ∷ []) (Some (lower_of number found (record { cell = length rows; entry = item })))
  least_more rows None item items none = record {
    back = items;
    here = row_last rows (item ∷ items);
    least = λ c. elim (row_more rows (item ∷ items) c) [
      | inl e ↦ subst (BeginsFrom number (number item)) (sym (e ∙ none c)) tt
      | inr e ↦ subst (BeginsFrom number (number item)) (sym e) (omega arith)
    ];
  }
  least_more rows (Some act) item items is = least_of_two rows act item items is (nat_le (number act.entry) (number item)) refl

  -- one row more, which has a first item
  pub found_more : (rows : List (Bor (List T))) (c : ℕ) (items : Bor (List T)) (item : T) (found : Option (Act T)) (new : Act T) → c < length rows → items ≡ get_or rows c items → Some item ≡ slice_get items.now 0
      → IsLeastOf number (take c (rows_of rows)) found → new ≡ lower_of number found (record { cell = c; entry = item }) → IsLeastOf number (take (c + 1) (rows_of rows)) (Some new)
  found_more rows c items item found new h at first least is =
      let before = take c (rows_of rows) in
      let more : take (c + 1) (rows_of rows) ≡ before ++ (item ∷ drop 1 items.now) ∷ [] = rows_more rows c items h at ∙ ap (λ here. before ++ here ∷ []) (by_first items.now item first) in
      let so : IsLeastOf number (before ++ (item ∷ drop 1 items.now) ∷ []) (Some (lower_of number found (record { cell = c; entry = item }))) = subst (λ d. IsLeastOf number (before ++ (item ∷ drop 1 items.now) ∷ []) (Some (lower_of number found (record { cell = d; entry = item })))) (rows_before rows c h) (least_more before found item (drop 1 items.now) least) in
      rw (more, is) so

  -- one row more, which is empty
  pub found_same : (rows : List (Bor (List T))) (c : ℕ) (items : Bor (List T)) (found : Option (Act T)) → c < length rows → items ≡ get_or rows c items → None ≡ slice_get items.now 0 → IsLeastOf number (take c (rows_of rows)) found → IsLeastOf number (take (c + 1) (rows_of rows)) found
  found_same rows c items found h at none least =
      let before = take c (rows_of rows) in
      let more : take (c + 1) (rows_of rows) ≡ before ++ [] ∷ [] = rows_more rows c items h at ∙ ap (λ here. before ++ here ∷ []) (by_none items.now none) in
      subst (λ all. IsLeastOf number all found) (sym more) (least_empty before found least)

  -- what stands when these acts were picked and these rows are left: below this number all were picked, and in order
  pub record EndsWith (rest : List (List T)) (acts : List (Act T)) (low : ℕ) : Type 0 where
    pub front : List (Act T)
    pub last : Act T
    pub are : acts ≡ front ++ last ∷ []
    pub next : low ≡ number last.entry + 1
    pub others : (c : ℕ) → c ≢ last.cell → BeginsFrom number (number last.entry) (row rest c)

  pub record IsUpTo (rows rest : List (List T)) (acts : List (Act T)) (low : ℕ) : Type 0 where
    pub parts : (c : ℕ) → of_cell c acts ++ row rest c ≡ row rows c
    pub ascends : AllPairs (λ (one other : Act T). number one.entry < number other.entry) acts
    pub below : All (λ (act : Act T). number act.entry < low) acts
    pub last : (low ≡ 0) ⊎ EndsWith rest acts low

  -- where the picked item stood, it goes from the row to the acts
  moved_here : (rows rest : List (List T)) (acts : List (Act T)) (act : Act T) (back : List T) → row rest act.cell ≡ act.entry ∷ back → of_cell act.cell acts ++ row rest act.cell ≡ row rows act.cell
      → of_cell act.cell (acts ++ act ∷ []) ++ row (set rest act.cell back) act.cell ≡ row rows act.cell
  moved_here rows rest acts act back here parts =
      let same : (act.cell == act.cell) ≡ true = eq-eqb act.cell act.cell refl in
      let within = row_within rest act.cell act.entry back here in
      rw (of_cell_more act.cell acts act, same, row_set_same rest act.cell back within, append_assoc, ← here) parts

  -- so it is in each row
  moved : (rows rest : List (List T)) (acts : List (Act T)) (act : Act T) (back : List T) → row rest act.cell ≡ act.entry ∷ back → ((c : ℕ) → of_cell c acts ++ row rest c ≡ row rows c)
      → (c : ℕ) → of_cell c (acts ++ act ∷ []) ++ row (set rest act.cell back) c ≡ row rows c
  moved rows rest acts act back here parts c =
      elim (eqb_tells act.cell c) [
        | inl it ↦ subst (λ d. of_cell d (acts ++ act ∷ []) ++ row (set rest act.cell back) d ≡ row rows d) it.1 (moved_here rows rest acts act back here (parts act.cell))
        | inr other ↦ rw (of_cell_more c acts act, other.0, row_set_other rest act.cell c back (λ e. other.1 (sym e)), append-nil) (parts c)
      ]

  -- the next item is picked
  pub up_to_more : (rows rest : List (List T)) (acts : List (Act T)) (low : ℕ) (act : Act T) → IsUpTo rows rest acts low → (least : IsLeast number rest act) → low ≤ number act.entry
      → IsUpTo rows (set rest act.cell least.back) (acts ++ act ∷ []) (number act.entry + 1)
  up_to_more rows rest acts low act so least h = record {
    parts = moved rows rest acts act least.back least.here so.parts;
    ascends = all_pairs_push (λ (one other : Act T). number one.entry < number other.entry) acts act so.ascends (λ k d l. omega (arith, so.below k d l));
    below = All-push (λ (other : Act T). number other.entry < number act.entry + 1) acts act (λ k d l. omega (arith, so.below k d l)) (omega arith);
    last = inr (record {
      front = acts;
      last = act;
      are = refl;
      next = refl;
      others = λ c ne. subst (BeginsFrom number (number act.entry)) (sym (row_set_other rest act.cell c least.back ne)) (least.least c);
    });
  }

  -- the last item that was picked stands in its row before what is left there
  stood : (rows rest : List (List T)) (acts : List (Act T)) (low : ℕ) → IsUpTo rows rest acts low → (ends : EndsWith rest acts low) → row rows ends.last.cell ≡ of_cell ends.last.cell ends.front ++ ends.last.entry ∷ row rest ends.last.cell
  stood rows rest acts low so ends =
      let c = ends.last.cell in
      let same : (c == c) ≡ true = eq-eqb c c refl in
      sym (so.parts c) ∙ rw (ends.are, of_cell_more c ends.front ends.last, same, append_assoc) refl

  -- a lower number is out of order
  pub breaks : (rows rest : List (List T)) (acts : List (Act T)) (low : ℕ) (act : Act T) → IsUpTo rows rest acts low → IsLeast number rest act → number act.entry < low → Breaks number rows (number act.entry)
  breaks rows rest acts low act so least h = elim so.last [
    | inl none ↦ absurd (omega arith)
    | inr ends ↦ elim (eqb_tells act.cell ends.last.cell) [
      | inl it ↦ inl (record {
        cell = act.cell;
        front = of_cell act.cell ends.front;
        before = ends.last.entry;
        entry = act.entry;
        back = least.back;
        is = subst (λ c. row rows c ≡ of_cell c ends.front ++ ends.last.entry ∷ act.entry ∷ least.back) (sym it.1)
            (stood rows rest acts low so ends ∙ ap (λ items. of_cell ends.last.cell ends.front ++ ends.last.entry ∷ items) (subst (λ c. row rest c ≡ act.entry ∷ least.back) it.1 least.here));
        here = refl;
        high = omega (arith, ends.next);
      })
      | inr other ↦ inr (record {
        one = ends.last.cell;
        other = act.cell;
        apart = λ e. other.1 (sym e);
        first = ends.last.entry;
        second = act.entry;
        in_one = subst (In ends.last.entry) (sym (stood rows rest acts low so ends)) (in_right ends.last.entry (of_cell ends.last.cell ends.front) (ends.last.entry ∷ row rest ends.last.cell) (inl refl));
        in_other = subst (In act.entry) (ap (λ items. of_cell act.cell acts ++ items) (sym least.here) ∙ so.parts act.cell) (in_right act.entry (of_cell act.cell acts) (act.entry ∷ least.back) (inl refl));
        here = let from : number ends.last.entry ≤ number act.entry = subst (BeginsFrom number (number ends.last.entry)) least.here (ends.others act.cell other.1) in omega (arith, ends.next);
        there = refl;
      })
    ]
  ]

  -- the row of the picked item is there
  pub least_within : (rows : List (Bor (List T))) (act : Act T) → IsLeast number (rows_of rows) act → act.cell < length rows
  least_within rows act least = omega (arith, row_within (rows_of rows) act.cell act.entry least.back least.here, rows_count rows)

  -- what is left of its row is what stands behind it
  left_behind : (rows : List (Bor (List T))) (act : Act T) (old : Bor (List T)) → (least : IsLeast number (rows_of rows) act) → old ≡ get_or rows act.cell old → old.now ≡ act.entry ∷ least.back
  left_behind rows act old least at = sym (row_at rows act.cell old (least_within rows act least) at) ∙ least.here

  -- one item fewer is left
  pub left_fewer : (rows : List (Bor (List T))) (act : Act T) (old new : Bor (List T)) → (least : IsLeast number (rows_of rows) act) → old ≡ get_or rows act.cell old → new.now ≡ drop 1 old.now
      → sum_by (λ (items : Bor (List T)). length items.now) (set rows act.cell new) < sum_by (λ (items : Bor (List T)). length items.now) rows
  left_fewer rows act old new least at is =
      let count : Bor (List T) → ℕ = λ items. length items.now in
      let behind = left_behind rows act old least at in
      let fewer : length new.now + 1 ≡ length old.now = rw (is, behind) (omega arith) in
      let sums = sum_by-set count rows act.cell new old (least_within rows act least) in
      let was : count (get_or rows act.cell old) ≡ length old.now = ap count (sym at) in
      omega arith

  -- the next item is picked, as the code does it
  pub picked : (rows : List (List T)) (rest : List (Bor (List T))) (picks : List (Pick T)) (low : ℕ) (pick : Pick T) (old new : Bor (List T)) → IsUpTo rows (rows_of rest) (acts_of picks) low → IsLeast number (rows_of rest) (act_of pick) → low ≤ number pick.item.now
      → old ≡ get_or rest pick.cell old → new.now ≡ drop 1 old.now → IsUpTo rows (rows_of (set rest pick.cell new)) (acts_of (picks ++ pick ∷ [])) (number pick.item.now + 1)
  picked rows rest picks low pick old new so least h at is =
      let now : new.now ≡ least.back = is ∙ ap (drop 1) (left_behind rest (act_of pick) old least at) in
      rw (map-append act_of picks (pick ∷ []), map-set (λ (items : Bor (List T)). items.now) rest pick.cell new, now) (up_to_more rows (rows_of rest) (acts_of picks) low (act_of pick) so least h)
