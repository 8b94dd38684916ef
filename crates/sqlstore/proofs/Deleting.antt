-- Taking out the rows that were found leaves the others.
use Rattle.std.proofs.Common.{◌≡◌, ℤ, Bool, true, false, not, List, [], ◌∷◌, Ordering, Equal, refl, sym, ap, ◌∙◌, subst, inl, inr}
use Rattle.std.specs.FinMap.{int_cmp-IsAntisymmetric}
use Rattle.std.specs.Ordering.{is_eq}
use Rattle.std.proofs.lemmas.Bool.{both_ways, not-true, not_from_false, false_from_ne_true}
use Rattle.std.proofs.lemmas.Cmp.{tied_itself}
use Rattle.sqlite.specs.Edit.{id_in, without_all}
use Rattle.sqlite.specs.Order.{Row, value_cmp}
use Rattle.sqlite.specs.Tree.{rowid, has_rowid, without_rowid}
use Rattle.sqlite.specs.View.{is_int}
use Rattle.sqlite.specs.declared.types.Value.TheVariants.{Int}
use Rattle.sqlite_rules.specs.Calls.{ids_of}
use Rattle.sqlite_rules.specs.Lists.{Has}
use Rattle.sqlite_rules.proofs.ListLemmas.{has_filtered, has_kept}
use Rattle.sqlite_rules.proofs.TableLemmas.{int_is}
use Rattle.sqlite_value.proofs.OrderLemmas.{value_cmp_total, value_cmp-Int}
use Rattle.sqlstore.specs.Rows.{AreKeyed, Loses, Finds}
use Rattle.sqlstore.proofs.Querying.{mapped_has, has_mapped}

pub is_equal : (order : Ordering) → is_eq order ≡ true → order ≡ Equal
is_equal Equal h = refl
is_equal _ h = absurd cc

-- integers that SQL tells alike are the same
pub same_int : (m n : ℤ) → is_eq (value_cmp (Int m) (Int n)) ≡ true → m ≡ n
same_int m n alike = int_cmp-IsAntisymmetric m n (is_equal _ (ap is_eq (sym (value_cmp-Int m n)) ∙ alike))

-- a row has the number that it has, and no other
pub has_own : (row : Row) → is_int (rowid row) ≡ true → has_rowid (id_in (rowid row)) row ≡ true
has_own row int = ap (λ v. is_eq (value_cmp v (Int (id_in (rowid row))))) (int_is (rowid row) int) ∙ ap is_eq (tied_itself value_cmp_total (Int (id_in (rowid row))))

pub own_is : (row : Row) (id : ℤ) → is_int (rowid row) ≡ true → has_rowid id row ≡ true → rowid row ≡ Int id
own_is row id int has =
    let alike : is_eq (value_cmp (Int (id_in (rowid row))) (Int id)) ≡ true = subst (λ v. is_eq (value_cmp v (Int id)) ≡ true) (int_is (rowid row) int) has in
    int_is (rowid row) int ∙ ap Int (same_int (id_in (rowid row)) id alike)

pub left_has : (ids : List ℤ) (rows : List Row) (row : Row) → Has (without_all rows ids) row → Has rows row × ((id : ℤ) → Has ids id → has_rowid id row ≡ false)
left_has [] rows row h = (h, λ id none. absurd none)
left_has (i ∷ ids) rows row h =
    let later = left_has ids (without_rowid i rows) row h in
    let here = has_filtered (λ r. not (has_rowid i r)) rows row later.0 in
    (here.0, λ id there. elim there [ inl same ↦ ap (λ k. has_rowid k row) same ∙ not-true (has_rowid i row) here.1 | inr after ↦ later.1 id after ])

pub has_left_over : (ids : List ℤ) (rows : List Row) (row : Row) → Has rows row → ((id : ℤ) → Has ids id → has_rowid id row ≡ false) → Has (without_all rows ids) row
has_left_over [] rows row h other = h
has_left_over (i ∷ ids) rows row h other =
    has_left_over ids (without_rowid i rows) row (has_kept (λ r. not (has_rowid i r)) rows row h (not_from_false (has_rowid i row) (other i (inl refl)))) (λ id there. other id (inr there))

-- a row by which its number is shown
abbrev pub numbers : Row → Row
numbers row = rowid row ∷ []

pub deleted : (test : Row → Bool) (rows found : List Row) → AreKeyed rows → Finds numbers test rows found → Loses test rows (without_all rows (ids_of found))
deleted test rows found keyed finds = record {
  gone = λ row there.
      let was = left_has (ids_of found) rows row there in (
        was.0,
        false_from_ne_true (test row) (λ pass.
            let shown : Has (ids_of found) (id_in (rowid row)) = has_mapped (λ r. id_in (rowid r)) found (numbers row) (finds.all row was.0 pass) in
            both_ways _ (was.1 (id_in (rowid row)) shown) (has_own row (keyed.ints row was.0))),
      );
  left = λ row there fails.
      has_left_over (ids_of found) rows row there (λ id shown.
      let it = mapped_has (λ r. id_in (rowid r)) found id shown in
      let from = finds.sound it.0 it.1 in
      let id-is : id ≡ id_in (rowid from.0) = it.2 ∙ ap (λ r. id_in (rowid r)) from.3 in
      false_from_ne_true (has_rowid id row) (λ has.
      let here : rowid row ≡ Int id = own_is row id (keyed.ints row there) has in
      let one : rowid row ≡ rowid from.0 = here ∙ ap Int id-is ∙ sym (int_is (rowid from.0) (keyed.ints from.0 from.1)) in
      both_ways (test row) fails (ap test (keyed.apart row from.0 there from.1 one) ∙ from.2)));
}

-- rows that are left keep their numbers
pub fewer_keyed : (rows left : List Row) → ((row : Row) → Has left row → Has rows row) → AreKeyed rows → AreKeyed left
fewer_keyed rows left among keyed = record {
  ints = λ row there. keyed.ints row (among row there);
  apart = λ one other h k same. keyed.apart one other (among one h) (among other k) same;
}
