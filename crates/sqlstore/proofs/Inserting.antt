-- Putting in rows adds them to those that were there.
use Rattle.std.proofs.Common.{◌≡◌, true, false, not, cond, List, [], ◌∷◌, drop, refl, sym, ap, ◌∙◌, inl, inr}
use Rattle.std.specs.Ordering.{is_eq}
use Rattle.std.proofs.lemmas.Bool.{both_ways, and_parts, not-true}
use Rattle.std.proofs.lemmas.Cmp.{tied_itself}
use Rattle.sqlite.specs.Edit.{with_rowid, numbered, put_all, is_taken, are_fresh, have_rowids, is_chosen, at_least, next_rowid}
use Rattle.sqlite.specs.declared.types.Value.TheVariants.{Int}
use Rattle.sqlite.specs.Order.{Row, value_cmp}
use Rattle.sqlite.specs.Rowids.{Rowids}
use Rattle.sqlite.specs.Tree.{rowid, put_row}
use Rattle.sqlite.specs.View.{is_int}
use Rattle.sqlite_rules.specs.Lists.{Has}
use Rattle.sqlite_rules.proofs.ListLemmas.{some_from}
use Rattle.sqlite_rules.proofs.TableLemmas.{put_has, put_all_has, put_all_keeps, put_all_adds}
use Rattle.sqlite_value.proofs.OrderLemmas.{value_cmp_total}
use Rattle.sqlstore.specs.Rows.{AreKeyed, Gains}

-- a number that is free stands in no row
free_apart : (rows : List Row) (new row : Row) → is_taken rows new ≡ false → Has rows row → rowid row ≡ rowid new → ⊥
free_apart rows new row free there same =
    both_ways (is_taken rows new) free (some_from (λ r. is_eq (value_cmp (rowid r) (rowid new))) rows row there (ap (λ v. is_eq (value_cmp v (rowid new))) same ∙ ap is_eq (tied_itself value_cmp_total (rowid new))))

put_keyed : (new : Row) (rows : List Row) → is_int (rowid new) ≡ true → is_taken rows new ≡ false → AreKeyed rows → AreKeyed (put_row new rows)
put_keyed new rows int free keyed = record {
  ints = λ row there. elim (put_has new rows row there) [ inl is ↦ ap (λ r. is_int (rowid r)) is ∙ int | inr was ↦ keyed.ints row was ];
  apart = λ one other h k same.
      elim (put_has new rows one h) [
        | inl first ↦ elim (put_has new rows other k) [ inl second ↦ first ∙ sym second | inr was ↦ absurd (free_apart rows new other free was (sym same ∙ ap rowid first)) ]
        | inr before ↦ elim (put_has new rows other k) [ inl second ↦ absurd (free_apart rows new one free before (same ∙ ap rowid second)) | inr was ↦ keyed.apart one other before was same ]
      ];
}

pub put_all_keyed : (news rows : List Row) → have_rowids news ≡ true → are_fresh rows news ≡ true → AreKeyed rows → AreKeyed (put_all rows news)
put_all_keyed [] rows ints fresh keyed = keyed
put_all_keyed (new ∷ news) rows ints fresh keyed =
    let int = and_parts (is_int (rowid new)) (have_rowids news) ints in
    let free = and_parts (not (is_taken rows new)) (are_fresh (put_row new rows) news) fresh in
    put_all_keyed news (put_row new rows) int.1 free.1 (put_keyed new rows int.0 (not-true (is_taken rows new) free.0) keyed)

-- a row's cells stay as its number is chosen
cells_stay : (rowids : Rowids) (rows : List Row) (row : Row) → drop 1 (with_rowid rowids rows row) ≡ drop 1 row
cells_stay rowids rows row = elim (is_chosen rowids (rowid row)) as (λ chosen. drop 1 (cond chosen (Int (at_least rowids (next_rowid rows)) ∷ drop 1 row) row) ≡ drop 1 row) [ true ↦ refl | false ↦ refl ]

numbered_has : (rowids : Rowids) (rows sources : List Row) (row : Row) → Has (numbered rowids rows sources) row → (source : Row) × Has sources source × (drop 1 row ≡ drop 1 source)
numbered_has rowids rows [] row h = absurd h
numbered_has rowids rows (source ∷ sources) row (inl same) = (source, inl refl, ap (drop 1) same ∙ cells_stay rowids rows source)
numbered_has rowids rows (source ∷ sources) row (inr later) =
    let found = numbered_has rowids (put_row (with_rowid rowids rows source) rows) sources row later in (found.0, inr found.1, found.2)

has_numbered : (rowids : Rowids) (rows sources : List Row) (source : Row) → Has sources source → (row : Row) × Has (numbered rowids rows sources) row × (drop 1 row ≡ drop 1 source)
has_numbered rowids rows [] source h = absurd h
has_numbered rowids rows (first ∷ sources) source (inl same) = (with_rowid rowids rows first, inl refl, cells_stay rowids rows first ∙ ap (drop 1) (sym same))
has_numbered rowids rows (first ∷ sources) source (inr later) =
    let found = has_numbered rowids (put_row (with_rowid rowids rows first) rows) sources source later in (found.0, inr found.1, found.2)

-- numbered rows that are put at free numbers are the rows that are gained
pub inserted : (rowids : Rowids) (rows sources : List Row) → are_fresh rows (numbered rowids rows sources) ≡ true
    → Gains (λ cells. (source : Row) × Has sources source × (cells ≡ drop 1 source)) rows (put_all rows (numbered rowids rows sources))
inserted rowids rows sources fresh =
    let news = numbered rowids rows sources in
    record {
      kept = λ row there. put_all_keeps news rows row fresh there;
      made = λ cells from.
          let put = has_numbered rowids rows sources from.0 from.1 in
          (put.0, put_all_adds news rows put.0 fresh put.1, put.2 ∙ sym from.2);
      only = λ row there.
          elim (put_all_has news rows row there) [
            | inl new ↦ let from = numbered_has rowids rows sources row new in inr (from.0, from.1, from.2)
            | inr was ↦ inl was
          ];
    }
