-- What the code makes of the table of an INSERT is the statement's meaning.
use Rattle.std.proofs.Common.{◌≡◌, ℕ, ℤ, Bool, true, false, cond, ◌&&◌, ◌||◌, int_lt, List, [], ◌∷◌, Option, Some, None, option_map, option_and_then, refl, ap, sym, ◌∙◌, subst, arith}
use Rattle.std.specs.List.{slice_get}
use Rattle.std.specs.Ordering.{int_eq}
use Rattle.std.proofs.lemmas.Int.{ints}
use Rattle.terms.specs.declared.value.Kind.TheVariants as kinds
use Rattle.terms.specs.declared.value.Value.{Value}
use Rattle.terms.specs.declared.value.Value.TheVariants.{Int}
use Rattle.terms.specs.Cond.{conds_hold, holds_of}
use Rattle.terms.specs.Row.{FitsKinds, key_of}
use Rattle.meaning.specs.declared.statement.Insert.{Insert}
use Rattle.meaning.specs.declared.statement.Statement.TheVariants as statement
use Rattle.meaning.specs.Meaning.{after_insert}
use Rattle.meaning.specs.Relation.{IsRelation, has_key, insert_row}
use Rattle.meaning.specs.Schema.{kinds_of}
use Rattle.meaning.specs.Statement.{IsInsertOf}
use Rattle.meaning.specs.Whole.{FitsSchema, Relations, rows_of}
use Rattle.meaning.proofs.Rows.{Ascends-insert_row}
use Rattle.catalog.specs.Catalogue.{Catalogue, IsValidCatalogue}
use Rattle.catalog.specs.Formed.{IsFormed}
use Rattle.catalog.specs.FragmentLeaf.{catalogue_leaves, schemas_of}
use Rattle.catalog.specs.Keyed.{row_at}
use Rattle.plan.specs.Found.{found_of}
use Rattle.plan.specs.Need.{key_is}
use Rattle.plan.specs.Rows.{Seen, seen_of, seen_part}
use Rattle.plan.proofs.CarriedConds.{both}
use Rattle.plan.proofs.InCatalogue.{IsIn, is_in}
use Rattle.plan.proofs.JoinRows.{key_there}
use Rattle.plan.proofs.OneSide.{all_at}
use Rattle.answers.specs.Laid.{Table}
use Rattle.answers.specs.Outcome.{added, insert_outcome}
use Rattle.answers.specs.Table.{IsTableOf, seen_rows}
use Rattle.answers.proofs.LeafByLeaf.{nothing_between, put_change, writes_are}
use Rattle.answers.proofs.Statements.{IsRight}
use Rattle.answers.proofs.WritesLaw.{Lead, LeadAt}

itself : (key : ℤ) → int_eq key key ≡ true
itself key = grind (arith, ints)

same_key : (one other : ℤ) → int_eq one other ≡ true → one ≡ other
same_key one other is = grind (arith, ints)

-- whether a row of this key meets the condition of the INSERT
asked_is : (insert : Insert) (row : List Value) (key : ℤ) → slice_get row 0 ≡ Some (Int key) → conds_hold (key_is insert.row ∷ []) row ≡ (int_eq key (key_of insert.row) && true)
asked_is insert row key there = ap (λ (o : Option Value). holds_of (key_is insert.row) o && true) there

-- a key that is found is there
key_found : (key : ℤ) (rows : List (List Value)) (row : List Value) → row_at key rows ≡ Some row → has_key key rows ≡ true
key_found key [] row is = absurd (cc)
key_found key (first ∷ rows) row is = step (int_eq (key_of first) key) first (row_at key rows) (has_key key rows) is (key_found key rows row)
  where
    step : (t : Bool) (one : List Value) (rest : Option (List Value)) (later : Bool) → cond t (Some one) rest ≡ Some row → (rest ≡ Some row → later ≡ true) → (t || later) ≡ true
    step true one rest later is more = refl
    step false one rest later is more = more is

no_key : (key : ℤ) (rows : List (List Value)) → row_at key rows ≡ None → has_key key rows ≡ false
no_key key [] none = refl
no_key key (first ∷ rows) none = step (int_eq (key_of first) key) first (row_at key rows) (has_key key rows) none (no_key key rows)
  where
    step : (t : Bool) (one : List Value) (rest : Option (List Value)) (later : Bool) → cond t (Some one) rest ≡ None → (rest ≡ None → later ≡ false) → (t || later) ≡ false
    step true one rest later is more = absurd (cc)
    step false one rest later is more = more is

-- a row more

at_inserted : (key : ℤ) (row : List Value) (rows : List (List Value)) → row_at (key_of row) rows ≡ None → row_at key (insert_row row rows) ≡ cond (int_eq (key_of row) key) (Some row) (row_at key rows)
at_inserted key row [] none = refl
at_inserted key row (other ∷ rows) none =
    elim (int_lt (key_of row) (key_of other)) as (λ t. row_at key (cond t (row ∷ other ∷ rows) (other ∷ insert_row row rows)) ≡ cond (int_eq (key_of row) key) (Some row) (row_at key (other ∷ rows))) [
      | true ↦ refl
      | false ↦
          ap (λ (o : Option (List Value)). cond (int_eq (key_of other) key) (Some other) o) (at_inserted key row rows (later (int_eq (key_of other) (key_of row)) (row_at (key_of row) rows) none))
          ∙ swap (int_eq (key_of other) key) (int_eq (key_of row) key) (row_at key rows) (λ one two. apart (int_eq (key_of other) (key_of row)) (row_at (key_of row) rows) none (equal (key_of other) (key_of row) key one two))
    ]
  where
    later : (t : Bool) (rest : Option (List Value)) → cond t (Some other) rest ≡ None → rest ≡ None
    later true rest is = absurd (cc)
    later false rest is = is

    equal : (one two k : ℤ) → int_eq one k ≡ true → int_eq two k ≡ true → int_eq one two ≡ true
    equal one two k is also = grind (arith, ints)

    apart : (t : Bool) (rest : Option (List Value)) → cond t (Some other) rest ≡ None → t ≡ true → ⊥
    apart true rest is same = cc
    apart false rest is same = cc

    swap : (one two : Bool) (rest : Option (List Value)) → (one ≡ true → two ≡ true → ⊥) → cond one (Some other) (cond two (Some row) rest) ≡ cond two (Some row) (cond one (Some other) rest)
    swap true true rest none = absurd (none refl refl)
    swap true false rest none = refl
    swap false two rest none = refl

insert_leads : (row : List Value) (rows : List (List Value)) → row_at (key_of row) rows ≡ None → Lead added (row ∷ []) rows (insert_row row rows)
insert_leads row rows none key =
    let P : Option (List Value) → Type 0 = λ o. LeadAt added key (cond (int_eq (key_of row) key) (Some row) None) (row_at key rows) o in
    subst P (sym (at_inserted key row rows none)) (at (int_eq (key_of row) key) refl)
  where
    at : (t : Bool) → int_eq (key_of row) key ≡ t → LeadAt added key (cond t (Some row) None) (row_at key rows) (cond t (Some row) (row_at key rows))
    at true is = let same = same_key (key_of row) key is in (same, sym none ∙ ap (λ (k : ℤ). row_at k rows) same, refl)
    at false is = refl

pub insert_right : (catalogue : Catalogue) (insert : Insert) (whole : Relations) (table : Table) → IsFormed catalogue → IsValidCatalogue catalogue → IsInsertOf (schemas_of catalogue) insert → FitsSchema (schemas_of catalogue) whole → IsTableOf (statement.Insert insert) whole table →
    IsRight catalogue whole (after_insert insert whole) (insert_outcome (catalogue_leaves catalogue) insert table.rows)
insert_right catalogue insert whole table formed valid of fit is = at table.rows refl
  where
    name : List ℕ
    name = insert.into

    rows : List (List Value)
    rows = rows_of whole name

    key : ℤ
    key = key_of insert.row

    relation : IsRelation (kinds_of of.relation) rows
    relation = fit.fit name of.relation of.there

    found : IsIn catalogue name of.relation
    found = is_in catalogue name of.relation formed valid of.there

    first_kind : slice_get (kinds_of of.relation) 0 ≡ Some kinds.Int
    first_kind = ap (λ schema. slice_get (kinds_of schema) 0) (sym found.same) ∙ found.formed.key

    at_key : (n : ℤ) (row : List Value) → row_at n rows ≡ Some row → conds_hold (key_is insert.row ∷ []) row ≡ (int_eq n key && true)
    at_key n row there = asked_is insert row n (key_there (kinds_of of.relation) n rows row first_kind (all_at (FitsKinds (kinds_of of.relation)) n rows row relation.fit there) there).1

    absent : (there : Option (List Value)) → row_at key rows ≡ there → ◌≡◌ {A = Option Seen} None (option_and_then (found_of (key_is insert.row ∷ []) []) there) → row_at key rows ≡ None
    absent None is_there none = is_there
    absent (Some row) is_there none =
        let holds : conds_hold (key_is insert.row ∷ []) row ≡ true = at_key key row is_there ∙ ap (λ t. t && true) (itself key) in
        let some : ◌≡◌ {A = Option Seen} None (Some (seen_of [] row)) = none ∙ ap (λ (t : Bool). cond t (Some (seen_of [] row)) None) holds in absurd (cc)

    some_seen : (n : ℤ) (there : Option (List Value)) (seen : Seen) → row_at n rows ≡ there → ◌≡◌ {A = Option Seen} (Some seen) (option_and_then (found_of (key_is insert.row ∷ []) []) there) → has_key key rows ≡ true
    some_seen n None seen is_there some = absurd (cc)
    some_seen n (Some row) seen is_there some =
        let holds = when_some (conds_hold (key_is insert.row ∷ []) row) seen (seen_of [] row) some in
        let same = same_key n key (both (int_eq n key) true (sym (at_key n row is_there) ∙ holds)).0 in
        key_found key rows row (ap (λ (k : ℤ). row_at k rows) (sym same) ∙ is_there)
      where
        when_some : (t : Bool) (one two : Seen) → ◌≡◌ {A = Option Seen} (Some one) (cond t (Some two) None) → t ≡ true
        when_some true one two is = refl
        when_some false one two is = absurd (cc)

    at : (there : List (List Value)) → table.rows ≡ there → IsRight catalogue whole (after_insert insert whole) (insert_outcome (catalogue_leaves catalogue) insert there)
    at [] none =
        let gone : row_at key rows ≡ None = absent (row_at key rows) refl (ap (λ (all : List (List Value)). seen_rows table.columns all key) (sym none) ∙ is.seen key) in
        let without : has_key key rows ≡ false = no_key key rows gone in
        rw without (record {
          answered = refl;
          wrote =
              writes_are catalogue name whole _ added (insert.row ∷ []) rows (insert_row insert.row rows) (put_change whole name (insert_row insert.row rows)) (tt, tt) relation.ascends
              (Ascends-insert_row insert.row rows without relation.ascends) (insert_leads insert.row rows gone);
        })
    at (row ∷ rest) some =
        let here : seen_rows table.columns table.rows (key_of row) ≡ Some (seen_part table.columns row) =
        ap (λ (all : List (List Value)). seen_rows table.columns all (key_of row)) some ∙ ap (λ (t : Bool). option_map (seen_part table.columns) (cond t (Some row) (row_at (key_of row) rest))) (itself (key_of row)) in
        let there : has_key key rows ≡ true = some_seen (key_of row) (row_at (key_of row) rows) (seen_part table.columns row) refl (sym here ∙ is.seen (key_of row)) in
        rw there (record { answered = refl; wrote = sym (nothing_between catalogue whole) })
