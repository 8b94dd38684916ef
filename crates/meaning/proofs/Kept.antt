-- What fits a schema fits it after a statement.
use Rattle.std.proofs.Common.{◌≡◌, ℕ, List, [], Option, Some, None, true, false, cond, unwrap_or, IsSome, is_some, not, Result, Ok, Err, OnOk, OnErr, refl, ap, sym, subst, ◌∙◌}
use Rattle.std.specs.FinMap as map
use Rattle.std.specs.FinMap.{nat_cmp-IsAntisymmetric, slice_cmp-IsAntisymmetric}
use Rattle.std.specs.Cmp.Lexicographic.{slice_cmp, nat_list_cmp_total}
use Rattle.std.specs.Ordering.{nat_cmp, is_eq, eq_by_cmp}
use Rattle.std.specs.declared.cmp.Ordering.TheVariants.{Less, Equal, Greater}
use Rattle.terms.specs.declared.memory.Memory.{Memory}
use Rattle.terms.specs.declared.value.Value.{Value}
use Rattle.std.specs.List.{AllByRecursion}
use Rattle.terms.specs.Cond.{conds_hold}
use Rattle.terms.specs.Row.{key_of, FitsKinds}
use Rattle.meaning.specs.declared.answer.Answer.{Answer}
use Rattle.meaning.specs.declared.answer.Answer.TheVariants as answer
use Rattle.meaning.specs.declared.schema.RelationSchema.{RelationSchema}
use Rattle.meaning.specs.declared.statement.Statement.{Statement}
use Rattle.meaning.specs.declared.statement.Statement.TheVariants as statement
use Rattle.meaning.specs.declared.statement.Insert.{Insert}
use Rattle.meaning.specs.declared.statement.Update.{Update}
use Rattle.meaning.specs.declared.statement.Delete.{Delete}
use Rattle.meaning.specs.Schema.{relation_named, kinds_of}
use Rattle.meaning.specs.Relation.{IsRelation, has_key, insert_row}
use Rattle.meaning.specs.Whole.{Relations, rows_of, replaced, FitsSchema}
use Rattle.meaning.specs.Statement.{IsInsertOf, IsUpdateOf, IsAssignmentOf, IsStatementOf}
use Rattle.meaning.specs.Matched.{unmatched}
use Rattle.meaning.specs.Updated.{updated}
use Rattle.meaning.specs.Meaning.{after_update, after_delete, with_changed, meaning}
use Rattle.meaning.proofs.Rows.{All-insert_row, Ascends-insert_row, All-passed, Ascends-passed}
use Rattle.meaning.proofs.Changed.{updated_fits, Ascends-updated}

-- a row that fits, with a key that is not there, keeps a relation one
pub IsRelation-insert_row : {kinds : _} (row : List Value) (rows : List (List Value)) → FitsKinds kinds row → has_key (key_of row) rows ≡ false → IsRelation kinds rows → IsRelation kinds (insert_row row rows)
IsRelation-insert_row {kinds} row rows fits absent is = record {
  fit = All-insert_row (FitsKinds kinds) row rows fits is.fit;
  ascends = Ascends-insert_row row rows absent is.ascends;
}

-- what a name has after a relation is put under another name, or under the same
abbrev put_at : Relations → List ℕ → List (List Value) → List ℕ → Option (List (List Value))
put_at whole name rows other = cond (eq_by_cmp (slice_cmp nat_cmp) other name) (Some rows) (map.get whole other)

get_put : (whole : Relations) (name : List ℕ) (rows : List (List Value)) (other : List ℕ) → map.get (map.insert whole name rows) other ≡ put_at whole name rows other
get_put whole name rows other = map.get-insert nat_list_cmp_total whole name rows other

-- a fact of what every name has is kept where it holds of the relation that is put
pub put_keeps : (whole : Relations) (name : List ℕ) (rows : List (List Value)) (other : List ℕ) (P : Option (List (List Value)) → Type 0) → (other ≡ name → P (Some rows)) → P (map.get whole other) → P (map.get (map.insert whole name rows) other)
put_keeps whole name rows other P here there =
    subst P (sym (get_put whole name rows other)) (
    elim (slice_cmp nat_cmp other name) as (λ r. slice_cmp nat_cmp other name ≡ r → P (cond (is_eq r) (Some rows) (map.get whole other))) [
      | Less ↦ λ is. there
      | Equal ↦ λ is. here (slice_cmp-IsAntisymmetric nat_cmp-IsAntisymmetric other name is)
      | Greater ↦ λ is. there
    ] refl)

inserted_fits : (schema : List RelationSchema) (insert : Insert) (whole : Relations) → IsInsertOf schema insert → FitsSchema schema whole → has_key (key_of insert.row) (rows_of whole insert.into) ≡ false → FitsSchema schema (map.insert whole insert.into (insert_row insert.row (rows_of whole insert.into)))
inserted_fits schema insert whole is fits absent = record {
  there = λ name relation found. put_keeps whole insert.into (insert_row insert.row (rows_of whole insert.into)) name IsSome (λ same. refl) (fits.there name relation found);
  fit = λ name relation found. put_keeps whole insert.into (insert_row insert.row (rows_of whole insert.into)) name (λ o. IsRelation (kinds_of relation) (unwrap_or o []))
      (λ same. let found' : relation_named insert.into schema ≡ Some relation = ap (λ n. relation_named n schema) (sym same) ∙ found in
      let one : is.relation ≡ relation = cc (is.there, found') in
      IsRelation-insert_row insert.row (rows_of whole insert.into) (subst (λ (r : RelationSchema). FitsKinds (kinds_of r) insert.row) one is.fits) absent (fits.fit insert.into relation found'))
      (fits.fit name relation found);
}

-- other rows that make a relation over the columns of each relation of the name keep a whole database fit
replaced_fits : (schema : List RelationSchema) (whole : Relations) (name : List ℕ) (rows : List (List Value)) → FitsSchema schema whole → ((relation : RelationSchema) → relation_named name schema ≡ Some relation → IsRelation (kinds_of relation) rows) → FitsSchema schema (replaced whole name rows)
replaced_fits schema whole name rows fits is =
    elim (is_some (map.get whole name)) as (λ t. FitsSchema schema (cond t (map.insert whole name rows) whole)) [
      | true ↦ record {
        there = λ other relation found. put_keeps whole name rows other IsSome (λ same. refl) (fits.there other relation found);
        fit = λ other relation found. put_keeps whole name rows other (λ o. IsRelation (kinds_of relation) (unwrap_or o []))
            (λ same. is relation (ap (λ n. relation_named n schema) (sym same) ∙ found)) (fits.fit other relation found);
      }
      | false ↦ fits
    ]

-- the schema has one relation of a name
one_named : (schema : List RelationSchema) (name : List ℕ) (P : RelationSchema → Type 0) (first second : RelationSchema) → relation_named name schema ≡ Some first → relation_named name schema ≡ Some second → P first → P second
one_named schema name P first second there found holds =
    let one : first ≡ second = cc in subst P one holds

changed_fits : (schema : List RelationSchema) (update : Update) (whole : Relations) (new : List (List Value)) → IsUpdateOf schema update → FitsSchema schema whole → updated update (rows_of whole update.relation.name) ≡ Some new → FitsSchema schema (replaced whole update.relation.name new)
changed_fits schema update whole new is fits changed =
    let rows = rows_of whole update.relation.name in
    replaced_fits schema whole update.relation.name new fits (λ relation found.
    let old = fits.fit update.relation.name relation found in
    record {
      fit = updated_fits (kinds_of relation) update rows new (one_named schema update.relation.name (λ r. AllByRecursion (IsAssignmentOf (kinds_of r)) update.sets) is.relation relation is.there found is.sets) old.fit changed;
      ascends = Ascends-updated update rows new changed old.ascends;
    })

update_fits : (schema : List RelationSchema) (update : Update) (whole : Relations) → IsUpdateOf schema update → FitsSchema schema whole → FitsSchema schema (after_update update whole).1
update_fits schema update whole is fits =
    elim (updated update (rows_of whole update.relation.name)) as (λ o. updated update (rows_of whole update.relation.name) ≡ o → FitsSchema schema (with_changed update whole o).1) [
      | None ↦ λ none. fits
      | Some new ↦ λ some. changed_fits schema update whole new is fits some
    ] refl

delete_fits : (schema : List RelationSchema) (delete : Delete) (whole : Relations) → FitsSchema schema whole → FitsSchema schema (after_delete delete whole).1
delete_fits schema delete whole fits =
    let rows = rows_of whole delete.relation.name in
    replaced_fits schema whole delete.relation.name (unmatched delete.conds rows) fits (λ relation found.
    let old = fits.fit delete.relation.name relation found in
    record {
      fit = All-passed (FitsKinds (kinds_of relation)) (λ row. not (conds_hold delete.conds row)) rows old.fit;
      ascends = Ascends-passed (λ row. not (conds_hold delete.conds row)) rows old.ascends;
    })

-- a statement of the schema leaves a whole database that fits the schema
pub meaning_fits : (schema : List RelationSchema) (s : Statement) (whole : Relations) → IsStatementOf schema s → FitsSchema schema whole → FitsSchema schema (meaning s whole).1
meaning_fits schema (statement.Select select) whole is fits = fits
meaning_fits schema (statement.Insert insert) whole is fits =
    elim (has_key (key_of insert.row) (rows_of whole insert.into)) as (λ t. has_key (key_of insert.row) (rows_of whole insert.into) ≡ t → FitsSchema schema (cond {A = Answer × Relations} t (answer.Exists, whole) (answer.Changed 1, map.insert whole insert.into (insert_row insert.row (rows_of whole insert.into)))).1) [
      | true ↦ λ there. fits
      | false ↦ λ absent. inserted_fits schema insert whole is fits absent
    ] refl
meaning_fits schema (statement.Update update) whole is fits = update_fits schema update whole is fits
meaning_fits schema (statement.Delete delete) whole is fits = delete_fits schema delete whole fits
meaning_fits schema (statement.Refragment refragment) whole is fits = fits

-- whether the statement ran or memory ran out
pub run_fits : (result : Result Answer Memory) (s : Statement) (old new : Relations) → OnOk result (new ≡ (meaning s old).1) → OnErr result (new ≡ old) → (schema : List RelationSchema) → IsStatementOf schema s → FitsSchema schema old → FitsSchema schema new
run_fits (Ok a) s old new ran kept schema is fits =
    let P : Relations → Type 0 = FitsSchema schema in subst P (sym ran) (meaning_fits schema s old is fits)
run_fits (Err e) s old new ran kept schema is fits =
    let P : Relations → Type 0 = FitsSchema schema in subst P (sym kept) fits
