-- The reduced plan of a statement has at each key what the statement is to find there.
use Rattle.std.proofs.Common.{◌≡◌, ℕ, ℤ, ◌<◌, ◌&&◌, Bool, true, false, cond, List, [], ◌∷◌, length, Option, Some, None, option_and_then, refl, ap, sym, ◌∙◌, subst}
use Rattle.std.specs.List.{AllByRecursion}
use Rattle.terms.specs.declared.cond.Cond.{Cond}
use Rattle.terms.specs.declared.leaf.Leaf.{Leaf}
use Rattle.terms.specs.declared.value.Value.{Value}
use Rattle.terms.specs.Cond.{IsCondOf}
use Rattle.terms.specs.Row.{FitsKinds}
use Rattle.meaning.specs.declared.schema.RelationSchema.{RelationSchema}
use Rattle.meaning.specs.declared.statement.Select.{Select}
use Rattle.meaning.specs.declared.statement.Source.{Source}
use Rattle.meaning.specs.declared.statement.Statement.{Statement}
use Rattle.meaning.specs.declared.statement.Statement.TheVariants as statement
use Rattle.meaning.specs.Schema as meaning
use Rattle.meaning.specs.Schema.{kinds_of, names_of}
use Rattle.meaning.specs.Selected.{rows_joined, rows_read}
use Rattle.meaning.specs.Statement.{IsSelectOf, IsStatementOf}
use Rattle.meaning.specs.Whole.{FitsSchema, Relations, rows_of}
use Rattle.catalog.specs.Catalogue.{Catalogue, IsValidCatalogue}
use Rattle.catalog.specs.Cover.{OneServes, SomeServes}
use Rattle.catalog.specs.Formed.{IsFormed}
use Rattle.catalog.specs.FragmentLeaf.{schemas_of}
use Rattle.catalog.specs.Keyed.{row_at}
use Rattle.plan.specs.declared.fetch.Fetch.{Fetch}
use Rattle.plan.specs.declared.need.Need.{Need}
use Rattle.plan.specs.Found.{asked, found_of}
use Rattle.plan.specs.Located.{IsLocated, IsOfNeeds}
use Rattle.plan.specs.Need.{alone, columns_read, key_is, links_of, need_of, needs, needs_behind, needs_of_select, places_to}
use Rattle.plan.specs.Reduced.{FindsAll, GivesNeed, GivesNeeds, is_fetched, reduced}
use Rattle.plan.specs.Rows.{Seen, kept, rows, seen_of}
use Rattle.plan.specs.Shape.{Shape, Filter}
use Rattle.plan.specs.Stated.{AreFetchesOf}
use Rattle.plan.proofs.InCatalogue.{is_in}
use Rattle.plan.proofs.JoinFound.{fits_long}
use Rattle.plan.proofs.JoinMarks.{IsGiven, IsPart, is_there, part_fits, part_none, part_row}
use Rattle.plan.proofs.JoinRows.{joined_rows, nothing_joined, nothing_looked}
use Rattle.plan.proofs.Joining.{append_none}
use Rattle.plan.proofs.JoinSeen.{first_seen}
use Rattle.plan.proofs.Marks.{AreMarkedFrom, marked_from}
use Rattle.plan.proofs.OneFound.{all_seen}
use Rattle.plan.proofs.PlacesFit.{conds_below, to_below}
use Rattle.plan.proofs.SideOf.{one_need, side_of}
use Rattle.plan.proofs.StatementFits.{IsNeedOf, needs_fit, wide_as}

-- needs over a whole database that fits the schema
given_all : (catalogue : Catalogue) (whole : Relations) (passes : Leaf → Bool) (contents : Leaf → List (List Value)) (all : List Need) → FitsSchema (schemas_of catalogue) whole → AllByRecursion (IsNeedOf catalogue) all → GivesNeeds catalogue whole passes contents all →
    AllByRecursion (IsGiven catalogue whole passes contents) all
given_all catalogue whole passes contents [] fit of given = tt
given_all catalogue whole passes contents (need ∷ all) fit of given = (
  record { of = of.0; side = side_of catalogue of.0.schema need of.0.found passes contents whole fit of.0.there of.0.needed given.0 },
  given_all catalogue whole passes contents all fit of.1 given.1,
)

-- a SELECT
select_found : (catalogue : Catalogue) (select : Select) (passes : Leaf → Bool) (contents : Leaf → List (List Value)) (whole : Relations) (key : ℤ) (plan : Shape) → SomeServes → OneServes → (of : IsSelectOf (schemas_of catalogue) select) →
    AllByRecursion (IsGiven catalogue whole passes contents) (needs_of_select select (links_of select)).relations → AreMarkedFrom catalogue (needs_of_select select (links_of select)) 0 (needs_of_select select (links_of select)).relations passes →
    IsOfNeeds catalogue (links_of select) (needs_of_select select (links_of select)).relations plan →
    rows (reduced passes (Filter select.conds plan)) contents key ≡ option_and_then (found_of select.conds (columns_read (links_of select) select)) (row_at key (rows_read select.from select.joins whole))
select_found catalogue select passes contents whole key plan cover one of given marks (left, is_left, is_plan) = at (row_at key (rows_of whole select.from.name)) refl
  where
    read : List ℕ
    read = columns_read (links_of select) select

    need : Need
    need = need_of select (links_of select) 0 select.from

    all : List (List Value)
    all = rows_of whole select.from.name

    later : List Need
    later = needs_behind select (links_of select) (length select.from.columns) select.joins

    and_none : (t : Bool) (row : List Value) → cond {A = Option Seen} t (Some (seen_of read row)) None ≡ cond {A = Option Seen} (t && true) (Some (seen_of read row)) None
    and_none true row = refl
    and_none false row = refl

    schema_is : given.0.of.schema ≡ of.relation
    schema_is = let same : Some given.0.of.schema ≡ Some of.relation = sym given.0.of.there ∙ of.there in cc

    at : (found : Option (List Value)) → row_at key all ≡ found → rows (reduced passes (Filter select.conds plan)) contents key ≡ option_and_then (found_of select.conds read) (row_at key (rows_joined whole select.joins all))
    at None is =
        ap (λ (o : Option Seen). kept select.conds o) (nothing_looked catalogue passes contents key (links_of select) later left plan is_plan (part_none catalogue whole passes contents need key left is_left given.0 is))
        ∙ ap (option_and_then (found_of select.conds read)) (sym (nothing_joined whole select.joins all key given.0.side.whole.ascends is))
    at (Some row) is =
        let part : IsPart catalogue whole passes contents need row = record { given = given.0; key = key; at = is } in
        let fits : FitsKinds (kinds_of of.relation) row = subst (λ s. FitsKinds (kinds_of s) row) schema_is (part_fits catalogue whole passes contents need row part) in
        let wide : length select.from.columns ≡ length (kinds_of of.relation) = wide_as select.from of.relation of.names in
        let long : length select.from.columns ≡ length row = wide ∙ sym (fits_long (kinds_of of.relation) row fits) in
        joined_rows catalogue whole passes contents select (of.relation.name ∷ []) (kinds_of of.relation) of.types (need ∷ []) [] row [] row [] select.joins (length select.from.columns ∷ []) (length select.from.columns) all key left plan
        (record { cover = cover; one = one; marks = marks })
        (record {
          is_row = record { are = (part, tt); is = sym (append_none row); fits = fits; holds = tt; ones = tt };
          all_links = refl;
          all_needs = refl;
          all_joins = refl;
          widths_are = ap (λ (n : ℕ). n ∷ []) long;
          width_is = long;
          first_wide = long;
          wide = tt;
        }) of.joins given.1 given.0.side.whole.ascends is
        (part_row catalogue whole passes contents need row key left is_left given.0 is
        ∙ ap (λ (seen : Seen). let o : Option Seen = cond (is_there catalogue passes need row) (Some seen) None in o) (first_seen read (length select.from.columns) row (sym long)) ∙ and_none (is_there catalogue passes need row) row)
        is_plan

-- all rows of a relation that meet conditions, in all columns
all_found : (catalogue : Catalogue) (schema : RelationSchema) (source : Source) (conds : List Cond) (passes : Leaf → Bool) (contents : Leaf → List (List Value)) (whole : Relations) (key : ℤ) (plan : Shape) → SomeServes → OneServes → IsFormed catalogue → IsValidCatalogue catalogue →
    IsOfNeeds catalogue [] (record { relation = source.name; columns = places_to (length source.columns); conds = conds } ∷ []) plan → meaning.relation_named source.name (schemas_of catalogue) ≡ Some schema → source.columns ≡ names_of schema → AllByRecursion (IsCondOf (kinds_of schema)) conds → FitsSchema (schemas_of catalogue) whole →
    AreMarkedFrom catalogue (alone (record { relation = source.name; columns = places_to (length source.columns); conds = conds })) 0 (record { relation = source.name; columns = places_to (length source.columns); conds = conds } ∷ []) passes →
    GivesNeed catalogue whole passes contents (record { relation = source.name; columns = places_to (length source.columns); conds = conds }) →
    rows (reduced passes (Filter conds plan)) contents key
    ≡ option_and_then (found_of conds (places_to (length source.columns))) (row_at key (rows_of whole source.name))
all_found catalogue schema source conds passes contents whole key plan cover one formed valid (left, is_left, is_plan) there names fit_conds fit marks given =
    let need : Need = record { relation = source.name; columns = places_to (length source.columns); conds = conds } in
    let wide = wide_as source schema names in
    let Needed : ℕ → Type 0 = λ n. AllByRecursion (λ col. col < n) (places_to (length source.columns)) in
    let Below : ℕ → Type 0 = λ n. AllByRecursion (λ c. c.col < n) conds in
    ap (λ (p : Shape). rows (reduced passes (Filter conds p)) contents key) is_plan
    ∙ one_need catalogue schema need (is_in catalogue source.name schema formed valid there) passes contents whole key left cover one is_left fit there (subst Needed wide (to_below (length source.columns)))
    (all_seen (length source.columns) conds (subst Below (sym wide) (conds_below (kinds_of schema) conds fit_conds))) marks.0 given

-- a plan of the needs
needs_found : (catalogue : Catalogue) (statement : Statement) (fetches : List Fetch) (below : Shape) → SomeServes → OneServes → IsFormed catalogue → IsValidCatalogue catalogue → IsStatementOf (schemas_of catalogue) statement → AreFetchesOf catalogue statement fetches →
    IsOfNeeds catalogue (needs statement).links (needs statement).relations below → FindsAll catalogue statement fetches (reduced (is_fetched fetches) (Filter (asked statement) below))
needs_found catalogue (statement.Select select) fetches below cover one formed valid of are is_below whole contents key fit given =
    let wanted = needs_of_select select (links_of select) in
    select_found catalogue select (is_fetched fetches) contents whole key below cover one of
    (given_all catalogue whole (is_fetched fetches) contents wanted.relations fit (needs_fit catalogue (statement.Select select) formed valid of) given) (marked_from catalogue wanted 0 wanted.relations fetches are) is_below
needs_found catalogue (statement.Insert insert) fetches below cover one formed valid of are (left, is_left, is_plan) whole contents key fit given =
    let need : Need = record { relation = insert.into; columns = []; conds = key_is insert.row ∷ [] } in
    ap (λ (p : Shape). rows (reduced (is_fetched fetches) (Filter need.conds p)) contents key) is_plan
    ∙ one_need catalogue of.relation need (is_in catalogue insert.into of.relation formed valid of.there) (is_fetched fetches) contents whole key left cover one is_left fit of.there tt (refl, tt) (marked_from catalogue (alone need) 0 (need ∷ []) fetches are).0 given.0
needs_found catalogue (statement.Update update) fetches below cover one formed valid of are is_below whole contents key fit given =
    all_found catalogue of.relation update.relation update.conds (is_fetched fetches) contents whole key below cover one formed valid is_below of.there of.names of.conds fit (marked_from catalogue (needs (statement.Update update)) 0 (needs (statement.Update update)).relations fetches are) given.0
needs_found catalogue (statement.Delete delete) fetches below cover one formed valid of are is_below whole contents key fit given =
    all_found catalogue of.relation delete.relation delete.conds (is_fetched fetches) contents whole key below cover one formed valid is_below of.there of.names of.conds fit (marked_from catalogue (needs (statement.Delete delete)) 0 (needs (statement.Delete delete)).relations fetches are) given.0
needs_found catalogue (statement.Refragment refragment) fetches below cover one formed valid of are is_below whole contents key fit given =
    all_found catalogue of.relation refragment.relation [] (is_fetched fetches) contents whole key below cover one formed valid is_below of.there of.names tt fit (marked_from catalogue (needs (statement.Refragment refragment)) 0 (needs (statement.Refragment refragment)).relations fetches are) given.0

pub plan_finds : (catalogue : Catalogue) (statement : Statement) (fetches : List Fetch) (plan : Shape) → SomeServes → OneServes → IsFormed catalogue → IsValidCatalogue catalogue → IsStatementOf (schemas_of catalogue) statement →
    AreFetchesOf catalogue statement fetches → IsLocated catalogue statement plan → FindsAll catalogue statement fetches (reduced (is_fetched fetches) plan)
plan_finds catalogue statement fetches plan cover one formed valid of are (below, is, is_below) whole contents key fit given =
    ap (λ (p : Shape). rows (reduced (is_fetched fetches) p) contents key) is ∙ needs_found catalogue statement fetches below cover one formed valid of are is_below whole contents key fit given
