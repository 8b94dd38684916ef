-- What the code makes of the table of a SELECT, a DELETE or an UPDATE is the statement's meaning.
use Rattle.std.proofs.Common.{◌≡◌, ℕ, Bool, true, false, cond, not, ◌||◌, ◌==◌, List, [], ◌∷◌, ◌++◌, length, filter, map, Option, Some, None, option_map, option_and_then, refl, ap, ap₂, sym, ◌∙◌, subst}
use Rattle.std.specs.List.{AllByRecursion, cons_option, filter_map, range_with_len}
use Rattle.std.proofs.lemmas.List.{length-map}
use Rattle.std.proofs.lemmas.List.Sums.{length-filter}
use Rattle.terms.specs.declared.value.Kind.{Kind}
use Rattle.terms.specs.declared.value.Value.{Value}
use Rattle.terms.specs.Cond.{conds_hold}
use Rattle.terms.specs.Row.{FitsKinds, key_of}
use Rattle.meaning.specs.declared.answer.Answer.{Answer}
use Rattle.meaning.specs.declared.answer.Answer.TheVariants as answer
use Rattle.meaning.specs.declared.schema.RelationSchema.{RelationSchema}
use Rattle.meaning.specs.declared.statement.Delete.{Delete}
use Rattle.meaning.specs.declared.statement.Refragment.{Refragment}
use Rattle.meaning.specs.declared.statement.Join.{Join}
use Rattle.meaning.specs.declared.statement.Select.{Select}
use Rattle.meaning.specs.declared.statement.Source.{Source}
use Rattle.meaning.specs.declared.statement.Statement.TheVariants as statement
use Rattle.meaning.specs.declared.statement.Update.{Update}
use Rattle.meaning.specs.Listed.{listed}
use Rattle.meaning.specs.Matched.{unmatched}
use Rattle.meaning.specs.Meaning.{after_delete, after_refragment, after_update, select_answer, with_changed}
use Rattle.meaning.specs.Relation.{Ascends, IsRelation}
use Rattle.meaning.specs.Schema.{kinds_of, names_of}
use Rattle.meaning.specs.Selected.{joined, names_read, rows_joined, rows_read}
use Rattle.meaning.specs.Statement.{IsDeleteOf, IsRefragmentOf, IsSelectOf, IsUpdateOf}
use Rattle.meaning.specs.Updated.{assign, updated, updated_row}
use Rattle.meaning.specs.Whole.{FitsSchema, Relations, rows_of}
use Rattle.meaning.proofs.Changed.{Ascends-updated, updated_keeps_keys, updated_parts}
use Rattle.meaning.proofs.ListedLemmas.{listed_all}
use Rattle.meaning.proofs.Rows.{All-passed, Ascends-passed}
use Rattle.catalog.specs.Catalogue.{Catalogue}
use Rattle.catalog.specs.Counts.{has}
use Rattle.catalog.specs.FragmentLeaf.{catalogue_leaves, schemas_of}
use Rattle.plan.specs.declared.link.Link.{Link}
use Rattle.plan.specs.Need.{columns_of, columns_read, links_of, places_on, places_to}
use Rattle.plan.specs.Rows.{is_seen, seen_part}
use Rattle.plan.proofs.Covered.{or_second}
use Rattle.plan.proofs.JoinFound.{fits_long}
use Rattle.answers.specs.declared.change.Change.{Change}
use Rattle.answers.specs.declared.finish.Outcome.{Outcome}
use Rattle.answers.specs.Laid.{Table}
use Rattle.answers.specs.Outcome as spec
use Rattle.answers.specs.Outcome.{changes_of, delete_outcome, refragment_outcome, removed, rows_changed, select_outcome, update_outcome, with_changes}
use Rattle.answers.specs.Table.{IsTableOf}
use Rattle.answers.specs.Writes.{writes_between}
use Rattle.answers.proofs.LeafByLeaf.{nothing_between, replaced_change, writes_are}
use Rattle.answers.proofs.Listing.{all_seen, joined_ascends, shown_found}
use Rattle.answers.proofs.Mapped.{KeepsKeyOf, each, filter_is, passing, passing_keys}
use Rattle.answers.proofs.WritesLaw.{Lead, lead_mapped}

-- an outcome is that of a meaning
pub record IsRight (catalogue : Catalogue) (whole : Relations) (meant : Answer × Relations) (outcome : Outcome) : Type 0 where
  pub answered : outcome.answer ≡ meant.0
  pub wrote : outcome.writes ≡ writes_between catalogue whole meant.1

-- SELECT

has_front : (front more : List ℕ) (col : ℕ) → has front col ≡ true → has (front ++ more) col ≡ true
has_front [] more col h = absurd (cc)
has_front (first ∷ front) more col h = step (first == col) (has front col) (has (front ++ more) col) (has_front front more col) h
  where
    step : (t rest longer : Bool) → (rest ≡ true → longer ≡ true) → (t || rest) ≡ true → (t || longer) ≡ true
    step true rest longer more h = refl
    step false rest longer more h = more h

has_back : (front more : List ℕ) (col : ℕ) → has more col ≡ true → has (front ++ more) col ≡ true
has_back [] more col h = h
has_back (first ∷ front) more col h = or_second (first == col) (has (front ++ more) col) (has_back front more col h)

seen_listed : (links : List Link) (select : Select) (col : ℕ) → has select.columns col ≡ true → is_seen (columns_read links select) col ≡ true
seen_listed links select col h =
    let front = places_on links ++ select.columns in
    or_second (col == 0) (has (columns_read links select) col) (has_front front (columns_of select.conds) col (has_back (places_on links) select.columns col h))

read_ascends : (whole : Relations) (joins : List Join) (rows : List (List Value)) → Ascends rows → Ascends (rows_joined whole joins rows)
read_ascends whole [] rows order = order
read_ascends whole (join ∷ joins) rows order =
    let others = rows_of whole join.relation.name in
    read_ascends whole joins (joined join.col others rows) (joined_ascends join.col others rows order)

pub select_right : (catalogue : Catalogue) (select : Select) (whole : Relations) (table : Table) → IsSelectOf (schemas_of catalogue) select → FitsSchema (schemas_of catalogue) whole → IsTableOf (statement.Select select) whole table →
    IsRight catalogue whole (select_answer select whole, whole) (select_outcome select table)
select_right catalogue select whole table of fit is =
    let links = links_of select in
    let asked = columns_read links select in
    let order = (fit.fit select.from.name of.relation of.there).ascends in
    record {
      answered =
          ap (answer.Rows (listed select.columns (names_read select.from select.joins)))
          (shown_found select.conds asked select.columns table.columns table.rows (rows_read select.from select.joins whole) is.order (read_ascends whole select.joins (rows_of whole select.from.name) order) (all_seen asked select.columns (seen_listed links select)) is.seen);
      wrote = sym (nothing_between catalogue whole);
    }

-- the rows that a DELETE or an UPDATE changes are those that meet its conditions

whole_rows : (width : ℕ) (rows : List (List Value)) → AllByRecursion (λ row. length row ≡ width) rows → map (listed (places_to width)) rows ≡ rows
whole_rows width [] wide = refl
whole_rows width (row ∷ rows) wide =
    let one : listed (places_to width) row ≡ row = ap (λ (n : ℕ). listed (range_with_len 0 n) row) (sym wide.0) ∙ listed_all row in
    ap₂ (λ (first : List Value) (rest : List (List Value)). first ∷ rest) one (whole_rows width rows wide.1)

all_wide : (types : List Kind) (width : ℕ) (rows : List (List Value)) → length types ≡ width → AllByRecursion (FitsKinds types) rows → AllByRecursion (λ row. length row ≡ width) rows
all_wide types width [] same fit = tt
all_wide types width (row ∷ rows) same fit = (fits_long types row fit.0 ∙ same, all_wide types width rows same fit.1)

named_wide : (source : Source) (relation : RelationSchema) → source.columns ≡ names_of relation → length (kinds_of relation) ≡ length source.columns
named_wide source relation names = length-map relation.columns (λ c. c.kind) ∙ sym (length-map relation.columns (λ c. c.name)) ∙ sym (ap length names)

-- DELETE

passes_not : (test : List Value → Bool) (row : List Value) (t : Bool) → test row ≡ t → passing (λ r. not (test r)) row ≡ cond t None (Some row)
passes_not test row true is = rw is refl
passes_not test row false is = rw is refl

delete_leads : (test : List Value → Bool) (rows : List (List Value)) → Ascends rows → Lead removed (filter test rows) rows (filter (λ row. not (test row)) rows)
delete_leads test rows order =
    let P : List (List Value) → Type 0 = Lead removed (filter test rows) rows in
    subst P (sym (filter_is (λ row. not (test row)) rows))
    (lead_mapped test (passing (λ row. not (test row))) removed rows order (each (KeepsKeyOf (passing (λ row. not (test row)))) rows (passing_keys (λ row. not (test row))))
    (λ row is. passes_not test row false is) (λ row is. (refl, refl, sym (passes_not test row true is))))

pub delete_right : (catalogue : Catalogue) (delete : Delete) (whole : Relations) (table : Table) → IsDeleteOf (schemas_of catalogue) delete → FitsSchema (schemas_of catalogue) whole → IsTableOf (statement.Delete delete) whole table →
    IsRight catalogue whole (after_delete delete whole) (delete_outcome (catalogue_leaves catalogue) delete (rows_changed (length delete.relation.columns) table))
delete_right catalogue delete whole table of fit is =
    let name = delete.relation.name in
    let width = length delete.relation.columns in
    let before = rows_of whole name in
    let test : List Value → Bool = conds_hold delete.conds in
    let changed = filter test before in
    let relation = fit.fit name of.relation of.there in
    let wide = all_wide (kinds_of of.relation) width before (named_wide delete.relation of.relation of.names) relation.fit in
    let rows : rows_changed width table ≡ changed =
    shown_found delete.conds (places_to width) (places_to width) table.columns table.rows before is.order relation.ascends (all_seen (places_to width) (places_to width) (λ col h. or_second (col == 0) (has (places_to width) col) h)) is.seen
    ∙ whole_rows width changed (All-passed (λ row. length row ≡ width) test before wide) in
    let P : List (List Value) → Type 0 = λ all. IsRight catalogue whole (after_delete delete whole) (delete_outcome (catalogue_leaves catalogue) delete all) in
    subst P (sym rows) (record {
      answered = ap answer.Changed (length-filter test before);
      wrote =
          writes_are catalogue name whole (after_delete delete whole).1 removed changed before (unmatched delete.conds before) (replaced_change whole name (unmatched delete.conds before) (fit.there name of.relation of.there))
          (Ascends-passed test before relation.ascends) relation.ascends (Ascends-passed (λ row. not (test row)) before relation.ascends) (delete_leads test before relation.ascends);
    })

-- REFRAGMENT

no_conds : (rows : List (List Value)) → filter (conds_hold []) rows ≡ rows
no_conds [] = refl
no_conds (row ∷ rows) = ap (λ rest. row ∷ rest) (no_conds rows)

-- the table of a REFRAGMENT has all rows of the relation, whole
pub refragment_rows : (schema : List RelationSchema) (refragment : Refragment) (whole : Relations) (table : Table) → IsRefragmentOf schema refragment → FitsSchema schema whole → IsTableOf (statement.Refragment refragment) whole table →
    rows_changed (length refragment.relation.columns) table ≡ rows_of whole refragment.relation.name
refragment_rows schema refragment whole table of fit is =
    let name = refragment.relation.name in
    let width = length refragment.relation.columns in
    let before = rows_of whole name in
    let relation = fit.fit name of.relation of.there in
    let wide = all_wide (kinds_of of.relation) width before (named_wide refragment.relation of.relation of.names) relation.fit in
    shown_found [] (places_to width) (places_to width) table.columns table.rows before is.order relation.ascends (all_seen (places_to width) (places_to width) (λ col h. or_second (col == 0) (has (places_to width) col) h)) is.seen
    ∙ ap (map (listed (places_to width))) (no_conds before) ∙ whole_rows width before wide

pub refragment_right : (catalogue : Catalogue) (refragment : Refragment) (whole : Relations) (table : Table) → IsRefragmentOf (schemas_of catalogue) refragment → FitsSchema (schemas_of catalogue) whole → IsTableOf (statement.Refragment refragment) whole table →
    IsRight catalogue whole (after_refragment refragment whole) (refragment_outcome table)
refragment_right catalogue refragment whole table of fit is =
    let width = length refragment.relation.columns in
    record {
      answered = ap answer.Changed (sym (length-map table.rows (λ row. filter_map (seen_part table.columns row) (places_to width))) ∙ ap length (refragment_rows (schemas_of catalogue) refragment whole table of fit is));
      wrote = sym (nothing_between catalogue whole);
    }

-- UPDATE

row_keeps : (update : Update) (row : List Value) → KeepsKeyOf (updated_row update) row
row_keeps update row made is =
    let one : updated update (row ∷ []) ≡ Some (made ∷ []) = ap (option_and_then (λ first. option_map (λ others. first ∷ others) (Some []))) is in
    let keys = updated_keeps_keys update (row ∷ []) (made ∷ []) one in cc

-- the rows after an UPDATE, row by row
updated_mapped : (update : Update) (rows new : List (List Value)) → updated update rows ≡ Some new → new ≡ filter_map (updated_row update) rows
updated_mapped update [] new is = cc
updated_mapped update (row ∷ rows) new is =
    let parts = updated_parts update row rows new is in
    parts.4 ∙ ap₂ (λ (o : Option (List Value)) (rest : List (List Value)). cons_option o rest) (sym parts.2) (updated_mapped update rows parts.1 parts.3)

-- a change of a matched row
abbrev assigned : Update → List Value → Change
assigned update row = record { key = key_of row; before = Some row; after = assign row update.sets row }

no_change : (update : Update) (row : List Value) (rest : List Change) (o : Option (List (List Value))) (changes : Option (List Change)) (more : List (List Value) → List (List Value)) → changes ≡ option_map (λ new. rest) o → changes ≡ option_map (λ new. rest) (option_map more o)
no_change update row rest None changes more is = is
no_change update row rest (Some new) changes more is = is

one_change : (update : Update) (row : List Value) (rest : List Change) (made : Option (List Value)) (o : Option (List (List Value))) → assign row update.sets row ≡ made →
    option_and_then (λ new. option_map (λ more. spec.replaced row new ∷ more) (option_map (λ new. rest) o)) made ≡ option_map (λ new. assigned update row ∷ rest) (option_and_then (λ first. option_map (λ others. first ∷ others) o) made)
one_change update row rest None o is = refl
one_change update row rest (Some made) None is = refl
one_change update row rest (Some made) (Some new) is =
    let change = λ (after : Option (List Value)). let c : Change = record { key = key_of row; before = Some row; after = after } in c in
    ap (λ (after : Option (List Value)). Some (change after ∷ rest)) (sym is)

-- the changes of the matched rows, or none where a row has none
pub changes_are : (update : Update) (rows : List (List Value)) →
    changes_of update.sets (filter (conds_hold update.conds) rows) ≡ option_map (λ new. map (assigned update) (filter (conds_hold update.conds) rows)) (updated update rows)
changes_are update [] = refl
changes_are update (row ∷ rows) =
    let test : List Value → Bool = conds_hold update.conds in
    let rest = map (assigned update) (filter test rows) in
    let so_far = changes_are update rows in
    elim (test row) as (λ t.
    changes_of update.sets (cond t (row ∷ filter test rows) (filter test rows))
    ≡ option_map (λ new. map (assigned update) (cond t (row ∷ filter test rows) (filter test rows))) (option_and_then (λ first. option_map (λ others. first ∷ others) (updated update rows)) (cond t (assign row update.sets row) (Some row)))) [
      | true ↦
          ap (λ (changes : Option (List Change)). option_and_then (λ new. option_map (λ more. spec.replaced row new ∷ more) changes) (assign row update.sets row)) so_far
          ∙ one_change update row rest (assign row update.sets row) (updated update rows) refl
      | false ↦ no_change update row rest (updated update rows) (changes_of update.sets (filter test rows)) (λ others. row ∷ others) so_far
    ]

row_stays : (update : Update) (row : List Value) → conds_hold update.conds row ≡ false → updated_row update row ≡ Some row
row_stays update row is = rw is refl

row_assigned : (update : Update) (row : List Value) → conds_hold update.conds row ≡ true → assign row update.sets row ≡ updated_row update row
row_assigned update row is = rw is refl

update_leads : (update : Update) (rows new : List (List Value)) → updated update rows ≡ Some new → Ascends rows → Lead (assigned update) (filter (conds_hold update.conds) rows) rows new
update_leads update rows new is order =
    let P : List (List Value) → Type 0 = Lead (assigned update) (filter (conds_hold update.conds) rows) rows in
    subst P (sym (updated_mapped update rows new is))
    (lead_mapped (conds_hold update.conds) (updated_row update) (assigned update) rows order (each (KeepsKeyOf (updated_row update)) rows (row_keeps update)) (row_stays update)
    (λ row holds. (refl, refl, row_assigned update row holds)))

pub update_right : (catalogue : Catalogue) (update : Update) (whole : Relations) (table : Table) → IsUpdateOf (schemas_of catalogue) update → FitsSchema (schemas_of catalogue) whole → IsTableOf (statement.Update update) whole table →
    IsRight catalogue whole (after_update update whole) (update_outcome (catalogue_leaves catalogue) update (rows_changed (length update.relation.columns) table))
update_right catalogue update whole table of fit is =
    let P : List (List Value) → Type 0 = λ all. IsRight catalogue whole (after_update update whole) (update_outcome (catalogue_leaves catalogue) update all) in
    let Q : Option (List Change) → Type 0 = λ changes. IsRight catalogue whole (after_update update whole) (with_changes (catalogue_leaves catalogue) name (length changed) changes) in
    subst P (sym rows) (subst Q (sym (changes_are update before)) (at (updated update before) refl))
  where
    name : List ℕ
    name = update.relation.name

    width : ℕ
    width = length update.relation.columns

    before : List (List Value)
    before = rows_of whole name

    changed : List (List Value)
    changed = filter (conds_hold update.conds) before

    relation : IsRelation (kinds_of of.relation) before
    relation = fit.fit name of.relation of.there

    rows : rows_changed width table ≡ changed
    rows =
        shown_found update.conds (places_to width) (places_to width) table.columns table.rows before is.order relation.ascends (all_seen (places_to width) (places_to width) (λ col h. or_second (col == 0) (has (places_to width) col) h)) is.seen
        ∙ whole_rows width changed (All-passed (λ row. length row ≡ width) (conds_hold update.conds) before (all_wide (kinds_of of.relation) width before (named_wide update.relation of.relation of.names) relation.fit))

    at : (made : Option (List (List Value))) → updated update before ≡ made →
        IsRight catalogue whole (with_changed update whole made) (with_changes (catalogue_leaves catalogue) name (length changed) (option_map (λ new. map (assigned update) changed) made))
    at None none = record { answered = refl; wrote = sym (nothing_between catalogue whole) }
    at (Some new) made = record {
      answered = ap answer.Changed (length-filter (conds_hold update.conds) before);
      wrote =
          writes_are catalogue name whole (with_changed update whole (Some new)).1 (assigned update) changed before new (replaced_change whole name new (fit.there name of.relation of.there))
          (Ascends-passed (conds_hold update.conds) before relation.ascends) relation.ascends (Ascends-updated update before new made relation.ascends) (update_leads update before new made relation.ascends);
    }
