-- Rows are put where they are waited for, and nothing else is touched.
use Rattle.std.proofs.Common.{◌≡◌, refl, sym, ap₂, ℕ, nat_eq, Bool, true, false, ◌||◌, ◌&&◌, List, [], ◌∷◌, map, Option, Some, None, is_none, is_some, if◌then◌else◌}
use Rattle.std.specs.Cmp.Lexicographic.{pointwise}
use Rattle.std.specs.List.{cons_option}
use Rattle.catalog.specs.FragmentLeaf.{catalogue_leaves, leaf_named}
use Rattle.protocol.specs.Desk.{is_numbered}
use Rattle.terms.specs.declared.value.Value.{Value}
use Rattle.catalog.specs.Catalogue.{Catalogue}
use Rattle.desk.specs.declared.fetches.Ask.{Ask}
use Rattle.protocol.proofs.Basics.{left_true, right_true}
use Rattle.desk.specs.Fetches.{are_in, are_in_with, awaits, brought, brought_by, fetched_with, fits_leaf, has_rows_with, own_or, with_rows}
use Rattle.answers.specs.FetchRows.{FetchRows}

module _ (catalogue : Catalogue) (site : List ℕ) (number : ℕ) (rows : List (List Value)) where
  pub in_with : (asks : List Ask) → are_in_with catalogue site number rows asks ≡ are_in (map (with_rows catalogue site number rows) asks)
  in_with [] = refl
  in_with (ask ∷ asks) = ap₂ (λ a b. a && b) (go (awaits catalogue site number rows ask) ask.rows) (in_with asks)
    where
      go : (b : Bool) (came : Option (List (List Value))) → (is_some came || b) ≡ is_some ((if b then record ask { rows = Some rows } else record ask { rows = came }).rows)
      go true (Some had) = refl
      go true None = refl
      go false (Some had) = refl
      go false None = refl

  -- a fetch that waits for these rows, or has its own, has brought just those
  pub one_brought : (ask : Ask) → has_rows_with catalogue site number rows ask ≡ true → brought_by (with_rows catalogue site number rows ask) ≡ Some (fetched_with rows ask)
  one_brought ask has = go (awaits catalogue site number rows ask) ask.rows (λ waits. right_true (pointwise nat_eq ask.site site && is_numbered ask.number number) (is_none ask.rows) (left_true (pointwise nat_eq ask.site site && is_numbered ask.number number && is_none ask.rows) (fits_leaf (leaf_named ask.leaf (catalogue_leaves catalogue)) rows) waits)) has
    where
      go : (b : Bool) (came : Option (List (List Value))) → (b ≡ true → is_none came ≡ true) → (is_some came || b) ≡ true
          → brought_by (if b then record ask { rows = Some rows } else record ask { rows = came }) ≡ Some (record { leaf = ask.leaf; parts = own_or rows came })
      go true None none some = refl
      go true (Some had) none some = let f : false ≡ true = none refl in cc
      go false None none some = cc
      go false (Some had) none some = refl

  -- where all are in once these rows have come, each has brought its own or these
  pub all_brought : (asks : List Ask) → are_in_with catalogue site number rows asks ≡ true → map (fetched_with rows) asks ≡ brought (map (with_rows catalogue site number rows) asks)
  all_brought [] all = refl
  all_brought (ask ∷ asks) all =
      ap₂ (λ (found : Option FetchRows) (rest : List FetchRows). cons_option found rest)
      (sym (one_brought ask (left_true (has_rows_with catalogue site number rows ask) _ all))) (all_brought asks (right_true (has_rows_with catalogue site number rows ask) _ all))
