-- Proofs of the laws.
use Rattle.std.proofs.Common.{◌≡◌, ◌↔◌, ℕ, zero, suc, ◌≤◌, ◌⊎◌, inl, inr, ◌&&◌, int_lt, ℤ, ◌<ℤ◌, List, [], ◌∷◌, Option, Some, None, Bool, true, false, not, cond, map, filter, find, length, is_some, unwrap_or, refl, ap, sym, subst, ◌∙◌, arith}
use Rattle.std.proofs.lemmas.List.{length-map}
use Rattle.std.proofs.lemmas.List.Filters.{length-filter_both}
use Rattle.std.specs.Cmp.{eq_by_cmp_equiv}
use Rattle.std.specs.Cmp.Lexicographic.{nat_list_cmp_total}
use Rattle.std.specs.FinMap as finite
use Rattle.std.specs.List.{AllByRecursion, Contains, cons_option}
use Rattle.std.specs.Ordering.{int_eq}
use Rattle.terms.specs.declared.cond.Cmp.TheVariants.{Eq}
use Rattle.terms.specs.declared.cond.Cond.{Cond}
use Rattle.terms.specs.declared.value.Value.{Value}
use Rattle.terms.specs.declared.value.Value.TheVariants.{Int, Text}
use Rattle.terms.specs.Cond.{conds_hold}
use Rattle.terms.specs.Row.{key_of}
use Rattle.meaning.specs.declared.answer.Answer.{Answer}
use Rattle.meaning.specs.declared.answer.Answer.TheVariants as answer
use Rattle.meaning.specs.declared.statement.Statement.TheVariants as statement
use Rattle.meaning.specs.declared.statement.Join.{Join}
use Rattle.meaning.specs.declared.statement.Select.{Select}
use Rattle.meaning.specs.declared.statement.Insert.{Insert}
use Rattle.meaning.specs.declared.statement.Update.{Update}
use Rattle.meaning.specs.Laws.{IsSelectByKey, InsertedIsSelected, DeletedAreGone, UpdateKeepsKeys, SelectAddsNoRow, PartnerHasKey, RefusalChangesNothing}
use Rattle.meaning.specs.Listed.{listed}
use Rattle.meaning.specs.Meaning.{meaning, select_answer, with_changed}
use Rattle.meaning.specs.Relation.{has_key, insert_row}
use Rattle.meaning.specs.Selected.{paired, joined, rows_joined, rows_read, selected, names_read}
use Rattle.meaning.specs.Updated.{updated}
use Rattle.meaning.specs.Whole.{Relations, rows_of, replaced}
use Rattle.meaning.proofs.Changed.{updated_keeps_keys}
use Rattle.meaning.proofs.Kept.{put_keeps}
use Rattle.meaning.proofs.Keys.{eq_below, eq_same}
use Rattle.meaning.proofs.ListedLemmas.{listed_all}
use Rattle.meaning.proofs.Places.{each_at}
use Rattle.meaning.proofs.Rows.{or_false}

-- members of a list with one more item in front

contains_here : (row : List Value) (rows : List (List Value)) → Contains (row ∷ rows) row
contains_here row rows = (zero, omega arith, refl)

contains_later : (first row : List Value) (rows : List (List Value)) → Contains rows row → Contains (first ∷ rows) row
contains_later first row rows there = (suc there.0, omega arith, there.2)

contains_cases : (first row : List Value) (rows : List (List Value)) → Contains (first ∷ rows) row → (first ≡ row) ⊎ Contains rows row
contains_cases first row rows (zero, within, is) = inl is
contains_cases first row rows (suc k, within, is) = inr (k, omega arith, is)

-- the members that pass a test
passed_contains : (test : List Value → Bool) (rows : List (List Value)) (row : List Value) → Contains (filter test rows) row → Contains rows row × (test row ≡ true)
passed_contains test [] row there = absurd (omega (arith, there.1))
passed_contains test (first ∷ rows) row there =
    elim (test first) as (λ t. test first ≡ t → Contains (cond t (first ∷ filter test rows) (filter test rows)) row → Contains (first ∷ rows) row × (test row ≡ true)) [
      | true ↦ λ passes among.
          elim (contains_cases first row (filter test rows) among) [
            | inl same ↦ let P : List Value → Type 0 = λ r. Contains (first ∷ rows) r × (test r ≡ true) in subst P same (contains_here first rows, passes)
            | inr rest ↦ let more = passed_contains test rows row rest in (contains_later first row rows more.0, more.1)
          ]
      | false ↦ λ fails among. let more = passed_contains test rows row among in (contains_later first row rows more.0, more.1)
    ] refl there

contains_passed : (test : List Value → Bool) (rows : List (List Value)) (row : List Value) → Contains rows row → test row ≡ true → Contains (filter test rows) row
contains_passed test [] row there passes = absurd (omega (arith, there.1))
contains_passed test (first ∷ rows) row there passes =
    elim (contains_cases first row rows there) [
      | inl same ↦
          let P : Bool → Type 0 = λ t. Contains (cond t (first ∷ filter test rows) (filter test rows)) row in
          let Q : List Value → Type 0 = λ r. Contains (first ∷ filter test rows) r in
          subst P (sym (ap test same ∙ passes)) (subst Q same (contains_here first (filter test rows)))
      | inr rest ↦
          let more = contains_passed test rows row rest passes in
          elim (test first) as (λ t. Contains (cond t (first ∷ filter test rows) (filter test rows)) row) [
            | true ↦ contains_later first row (filter test rows) more
            | false ↦ more
          ]
    ]

fails_from_not : (b : Bool) → not b ≡ true → b ≡ false
fails_from_not true h = cc
fails_from_not false h = refl

-- what a name has after a relation is put there
rows_put : (whole : Relations) (name : List ℕ) (rows : List (List Value)) → rows_of (finite.insert whole name rows) name ≡ rows
rows_put whole name rows =
    ap (λ o. unwrap_or o []) (finite.get-insert nat_list_cmp_total whole name rows name ∙ ap (λ t. cond t (Some rows) (finite.get whole name)) ((eq_by_cmp_equiv nat_list_cmp_total).refl name))

pub deleted_are_gone : DeletedAreGone
deleted_are_gone delete whole row =
    let test : List Value → Bool = λ r. not (conds_hold delete.conds r) in
    let Says : List (List Value) → List (List Value) → Type 0 = λ after before. Contains after row ↔ (Contains before row × (conds_hold delete.conds row ≡ false)) in
    let filtered : (before : List (List Value)) → Says (filter test before) before =
    λ before. (λ among. let both = passed_contains test before row among in (both.0, fails_from_not (conds_hold delete.conds row) both.1), λ both. contains_passed test before row both.0 (ap not both.1)) in
    elim (finite.get whole delete.relation.name) as (λ o. finite.get whole delete.relation.name ≡ o → Says (rows_of (cond (is_some o) (finite.insert whole delete.relation.name (filter test (unwrap_or o []))) whole) delete.relation.name) (unwrap_or o [])) [
      | None ↦ λ absent.
          let P : List (List Value) → Type 0 = λ rows. Says rows [] in
          subst P (sym (ap (λ o. unwrap_or o []) absent)) (filtered [])
      | Some rows ↦ λ there.
          let P : List (List Value) → Type 0 = λ after. Says after rows in
          subst P (sym (rows_put whole delete.relation.name (filter test rows))) (filtered rows)
    ] refl

keys_kept : (update : Update) (whole : Relations) (name : List ℕ) (new : List (List Value)) → updated update (rows_of whole update.relation.name) ≡ Some new → map key_of (rows_of (replaced whole update.relation.name new) name) ≡ map key_of (rows_of whole name)
keys_kept update whole name new is =
    let own = update.relation.name in
    elim (is_some (finite.get whole own)) as (λ t. map key_of (rows_of (cond t (finite.insert whole own new) whole) name) ≡ map key_of (rows_of whole name)) [
      | true ↦ put_keeps whole own new name (λ o. map key_of (unwrap_or o []) ≡ map key_of (rows_of whole name))
          (λ same. updated_keeps_keys update (rows_of whole own) new is ∙ ap (λ n. map key_of (rows_of whole n)) (sym same)) refl
      | false ↦ refl
    ]

pub update_keeps_keys : UpdateKeepsKeys
update_keeps_keys update whole name =
    elim (updated update (rows_of whole update.relation.name)) as (λ o. updated update (rows_of whole update.relation.name) ≡ o → map key_of (rows_of (with_changed update whole o).1 name) ≡ map key_of (rows_of whole name)) [
      | None ↦ λ none. refl
      | Some new ↦ λ some. keys_kept update whole name new some
    ] refl

joined_adds_no_row : (col : ℕ) (others rows : List (List Value)) → length (joined col others rows) ≤ length rows
joined_adds_no_row col others [] = omega arith
joined_adds_no_row col others (row ∷ rows) =
    let rest = joined_adds_no_row col others rows in
    elim (paired col others row) as (λ o. length (cons_option o (joined col others rows)) ≤ length (row ∷ rows)) [
      | None ↦ omega arith
      | Some pair ↦ omega arith
    ]

read_adds_no_row : (whole : Relations) (joins : List Join) (rows : List (List Value)) → length (rows_joined whole joins rows) ≤ length rows
read_adds_no_row whole [] rows = omega arith
read_adds_no_row whole (join ∷ joins) rows =
    let one = joined_adds_no_row join.col (rows_of whole join.relation.name) rows in
    let rest = read_adds_no_row whole joins (joined join.col (rows_of whole join.relation.name) rows) in
    omega arith

pub select_adds_no_row : SelectAddsNoRow
select_adds_no_row select whole header rows is =
    let read = rows_read select.from select.joins whole in
    let same : selected select read ≡ rows = cc in
    let cut = length-map (filter (conds_hold select.conds) read) (listed select.columns) in
    let few = read_adds_no_row whole select.joins (rows_of whole select.from.name) in
    let passed = length-filter_both (conds_hold select.conds) (λ r. not (conds_hold select.conds r)) (λ r. refl) read in
    omega (arith, ap length same)

below_member : (key : ℤ) (rows : List (List Value)) (row : List Value) → AllByRecursion (λ later. key <ℤ key_of later) rows → Contains rows row → key <ℤ key_of row
below_member key rows row all there =
    let P : List Value → Type 0 = λ r. key <ℤ key_of r in
    subst P there.2 (each_at P rows there.0 row all there.1)

pub partner_has_key : PartnerHasKey
partner_has_key [] row order there = absurd (omega (arith, there.1))
partner_has_key (first ∷ rows) row order there =
    elim (contains_cases first row rows there) [
      | inl same ↦
          let alike : int_eq (key_of first) (key_of row) ≡ true = eq_same (key_of first) (key_of row) (ap key_of same) in
          ap (λ t. cond t (Some first) (find (λ r. int_eq (key_of r) (key_of row)) rows)) alike ∙ ap (λ r. Some r) same
      | inr rest ↦
          let apart : int_eq (key_of first) (key_of row) ≡ false = eq_below (key_of first) (key_of row) (below_member (key_of first) rows row order.0 rest) in
          ap (λ t. cond t (Some first) (find (λ r. int_eq (key_of r) (key_of row)) rows)) apart ∙ partner_has_key rows row order.1 rest
    ]

refused_insert : (insert : Insert) (whole : Relations) → (((meaning (statement.Insert insert) whole).0 ≡ answer.Exists) ⊎ ((meaning (statement.Insert insert) whole).0 ≡ answer.Overflow)) → (meaning (statement.Insert insert) whole).1 ≡ whole
refused_insert insert whole refused =
    let new = finite.insert whole insert.into (insert_row insert.row (rows_of whole insert.into)) in
    elim (has_key (key_of insert.row) (rows_of whole insert.into)) as (λ t. let after = cond {A = Answer × Relations} t (answer.Exists, whole) (answer.Changed 1, new) in (after.0 ≡ answer.Exists) ⊎ (after.0 ≡ answer.Overflow) → after.1 ≡ whole) [
      | true ↦ λ refused. refl
      | false ↦ λ refused. elim refused [ inl is ↦ cc | inr is ↦ cc ]
    ] refused

refused_update : (update : Update) (whole : Relations) (o : Option (List (List Value))) → ((with_changed update whole o).0 ≡ answer.Exists) ⊎ ((with_changed update whole o).0 ≡ answer.Overflow) → (with_changed update whole o).1 ≡ whole
refused_update update whole None refused = refl
refused_update update whole (Some changed) (inl is) = cc
refused_update update whole (Some changed) (inr is) = cc

pub refusal_changes_nothing : RefusalChangesNothing
refusal_changes_nothing (statement.Select select) whole refused = refl
refusal_changes_nothing (statement.Insert insert) whole refused = refused_insert insert whole refused
refusal_changes_nothing (statement.Update update) whole refused = refused_update update whole (updated update (rows_of whole update.relation.name)) refused
refusal_changes_nothing (statement.Delete delete) whole (inl is) = cc
refusal_changes_nothing (statement.Delete delete) whole (inr is) = cc
refusal_changes_nothing (statement.Refragment refragment) whole refused = refl

abbrev key_is : ℤ → List Cond
key_is key = record { col = 0; cmp = Eq; value = Int key } ∷ []

other_key : (key : ℤ) (row : List Value) → int_eq (key_of row) key ≡ false → conds_hold (key_is key) row ≡ false
other_key key [] apart = refl
other_key key (Int n ∷ values) apart = ap (λ t. t && true) apart
other_key key (Text bytes ∷ values) apart = refl

own_key : (key : ℤ) (values : List Value) → conds_hold (key_is key) (Int key ∷ values) ≡ true
own_key key values = ap (λ t. t && true) (eq_same key key refl)

-- a key that is not there selects nothing
none_selected : (key : ℤ) (rows : List (List Value)) → has_key key rows ≡ false → filter (conds_hold (key_is key)) rows ≡ []
none_selected key [] absent = refl
none_selected key (row ∷ rows) absent =
    let apart = or_false (int_eq (key_of row) key) (has_key key rows) absent in
    ap (λ t. cond t (row ∷ filter (conds_hold (key_is key)) rows) (filter (conds_hold (key_is key)) rows)) (other_key key row apart.0) ∙ none_selected key rows apart.1

-- put in among rows without its key, a row is the one that its key selects
one_selected : (key : ℤ) (row : List Value) (rows : List (List Value)) → conds_hold (key_is key) row ≡ true → has_key key rows ≡ false → filter (conds_hold (key_is key)) (insert_row row rows) ≡ row ∷ []
one_selected key row [] own absent = ap (λ t. cond t (row ∷ []) []) own
one_selected key row (other ∷ rows) own absent =
    let test : List Value → Bool = conds_hold (key_is key) in
    let apart = or_false (int_eq (key_of other) key) (has_key key rows) absent in
    elim (int_lt (key_of row) (key_of other)) as (λ t. filter test (cond t (row ∷ other ∷ rows) (other ∷ insert_row row rows)) ≡ row ∷ []) [
      | true ↦ ap (λ t. cond t (row ∷ filter test (other ∷ rows)) (filter test (other ∷ rows))) own ∙ ap (λ others. row ∷ others) (none_selected key (other ∷ rows) absent)
      | false ↦ ap (λ t. cond t (other ∷ filter test (insert_row row rows)) (filter test (insert_row row rows))) (other_key key other apart.0) ∙ one_selected key row rows own apart.1
    ]

selected_by_key : (select : Select) (name : List ℕ) (key : ℤ) (row : List Value) (rows : List (List Value)) → IsSelectByKey select name (length row) key → conds_hold (key_is key) row ≡ true → has_key key rows ≡ false → selected select (insert_row row rows) ≡ row ∷ []
selected_by_key select name key row rows is own absent =
    ap (λ cs. map (listed select.columns) (filter (conds_hold cs) (insert_row row rows))) is.cond
    ∙ ap (map (listed select.columns)) (one_selected key row rows own absent)
    ∙ ap (λ one. one ∷ []) (ap (λ places. listed places row) is.columns ∙ listed_all row)

pub inserted_is_selected : InsertedIsSelected
inserted_is_selected insert select whole key values row_is absent is =
    let rows = rows_of whole insert.into in
    let new = insert_row insert.row rows in
    let after : Relations = finite.insert whole insert.into new in
    let gone : has_key (key_of insert.row) rows ≡ false = ap (λ r. has_key (key_of r) rows) row_is ∙ absent in
    let own : conds_hold (key_is key) insert.row ≡ true = ap (conds_hold (key_is key)) row_is ∙ own_key key values in
    let stored = ap (λ t. (cond {A = Answer × Relations} t (answer.Exists, whole) (answer.Changed 1, after)).1) gone in
    let read : rows_read select.from select.joins after ≡ new = ap (λ j. rows_read select.from j after) is.alone ∙ ap (rows_of after) is.relation ∙ rows_put whole insert.into new in
    let names = ap (λ j. listed select.columns (names_read select.from j)) is.alone in
    let found : selected select (rows_read select.from select.joins after) ≡ insert.row ∷ [] = ap (selected select) read ∙ selected_by_key select insert.into key insert.row rows is own absent in
    ap (select_answer select) stored ∙ ap (λ header. answer.Rows header (selected select (rows_read select.from select.joins after))) names ∙ ap (answer.Rows (listed select.columns select.from.columns)) found
