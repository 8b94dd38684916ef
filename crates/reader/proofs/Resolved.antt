-- The tree that a printable statement is written as means the statement, and is writable and spellable.
use Rattle.std.proofs.Common.{◌≡◌, ◌≢◌, ℕ, ◌<◌, ◌≤◌, List, [], ◌∷◌, ◌++◌, Some, option_map, length, map, refl, ap, sym, subst, ◌∙◌, arith}
use Rattle.std.specs.List.{AllByRecursion, slice_get}
use Rattle.std.proofs.lemmas.List.{append-nil, length-map}
use Rattle.terms.specs.declared.cond.Cond.{Cond}
use Rattle.terms.specs.declared.value.Kind.{Kind}
use Rattle.terms.specs.declared.value.Value.{Value}
use Rattle.terms.specs.Cond.{IsCondOf}
use Rattle.terms.specs.Row.{FitsKinds}
use Rattle.meaning.specs.declared.schema.RelationSchema.{RelationSchema}
use Rattle.meaning.specs.declared.statement.Statement.{Statement}
use Rattle.meaning.specs.declared.statement.Statement.TheVariants as statements
use Rattle.meaning.specs.declared.statement.Source.{Source}
use Rattle.meaning.specs.declared.statement.Join.{Join}
use Rattle.meaning.specs.declared.statement.Select.{Select}
use Rattle.meaning.specs.declared.statement.Insert.{Insert}
use Rattle.meaning.specs.declared.statement.Update.{Update}
use Rattle.meaning.specs.declared.statement.Delete.{Delete}
use Rattle.meaning.specs.declared.statement.Refragment.{Refragment}
use Rattle.meaning.specs.Schema.{relation_named, kinds_of, names_of}
use Rattle.meaning.specs.Statement.{IsSelectOf, IsInsertOf, IsUpdateOf, IsDeleteOf, IsRefragmentOf}
use Rattle.reader.specs.declared.command.Command.TheVariants as commands
use Rattle.reader.specs.Grammar.{IsFilled, IsWritable}
use Rattle.reader.specs.Names.{Joined, all_of, places_of, conds_of, source_of, join_of, others_of, select_from, select_of, row_of, insert_of, sets_of, update_of, delete_of, refragment_of, command_of}
use Rattle.reader.specs.Printable.{IsNamed, AreNamed, IsPrintable}
use Rattle.reader.specs.Scope.{Scope, relation_table, one_relation, types_in}
use Rattle.reader.specs.Tokens.{IsName}
use Rattle.reader.specs.Tree as tree
use Rattle.reader.specs.Written.{plain_column, column_in, constant_as, conditions_as, join_as, select_as, insert_as, assignment_as, update_as, delete_as, written_as}
use Rattle.reader.proofs.FitsCommand.{found_by_name, named_itself}
use Rattle.reader.proofs.Others.{selected_in}
use Rattle.reader.proofs.ResolvedColumns.{next_step, one_found}
use Rattle.reader.proofs.ResolvedConds.{row_again, places_again, conds_again, sets_again}
use Rattle.reader.proofs.ResolvedJoins.{AreUnlike, tables, width, relation_is_named, placed, relations_of, tables_of, is_source, are_sources, are_types, are_unlike, others_again, joins_again, are_named, have_distinct, select_found}
use Rattle.reader.proofs.Spellable.{IsColumn, IsSelect, IsInsert, IsUpdate, IsDelete, IsSpellable}
use Rattle.reader.proofs.Spellings.{one_spelled, select_spelled, joins_spelled, places_spelled, conds_spelled, row_spelled, sets_spelled}

-- ---- selects

-- what a select that was printed is read as
record ReadsSelect (schema : List RelationSchema) (select : Select) : Type 0 where
  means : select_of schema (select_as select) ≡ Some select
  spells : IsSelect (select_as select)

-- a select whose columns, joins and conditions are read
selected_again : (relation : RelationSchema) (written : tree.Select) (scope : Scope) (joined : List Joined) (joins : List Join) (columns : List ℕ) (conds : List Cond) → places_of scope written.listed ≡ Some columns → all_of (join_of scope) joined ≡ Some joins → conds_of scope written.conditions ≡ Some conds → selected_in relation written scope joined ≡ Some (record { from = source_of relation; joins = joins; columns = columns; conds = conds })
selected_again relation written scope joined joins columns conds are_places are_joins are_conds =
    let select : Select = record { from = source_of relation; joins = joins; columns = columns; conds = conds } in
    next_step _ (places_of scope written.listed) columns (Some select) are_places
    (next_step _ (all_of (join_of scope) joined) joins (Some select) are_joins (next_step _ (conds_of scope written.conditions) conds (Some select) are_conds refl))

select_again : (schema : List RelationSchema) → AreNamed schema → (from : Source) (joins : List Join) (columns : List ℕ) (conds : List Cond) → IsSelectOf schema (record { from = from; joins = joins; columns = columns; conds = conds }) → ReadsSelect schema (record { from = from; joins = joins; columns = columns; conds = conds })
select_again schema named from joins columns conds is =
    let relation = is.relation in
    let select : Select = record { from = from; joins = joins; columns = columns; conds = conds } in
    let source = is_source from relation (found_by_name schema from.name relation is.there) is.names in
    let write : ℕ → tree.Column = column_in from joins in
    let earlier = relation.name ∷ [] in
    let count = length relation.columns in
    let joined = placed schema earlier (kinds_of relation) joins is.types is.joins count write in
    let whole = relation ∷ relations_of joined in
    let all_named : AllByRecursion IsNamed whole = (relation_is_named schema from.name relation named is.there, are_named schema named earlier (kinds_of relation) joins is.types is.joins count write) in
    let distinct = have_distinct whole all_named in
    let unlike : AreUnlike whole = are_unlike schema earlier (kinds_of relation) joins is.types is.joins count write (relation ∷ []) refl (tt, tt) in
    let sources = are_sources schema earlier (kinds_of relation) joins is.types is.joins count write in
    let found = select_found relation (relations_of joined) from joins source sources unlike distinct in
    let spelled = select_spelled relation (relations_of joined) from joins source sources all_named in
    let all_types : is.types ≡ types_in (tables whole) = are_types schema earlier (kinds_of relation) joins is.types is.joins count write in
    let Q : List Kind → Type 0 = λ ks. AllByRecursion (λ column. column < length ks) columns in
    let R : List Kind → Type 0 = λ ks. AllByRecursion (IsCondOf ks) conds in
    let S : List Kind → Type 0 = λ ks. (place : ℕ) (kind : Kind) → slice_get ks place ≡ Some kind → IsColumn (write place) in
    let columns_fit = subst Q all_types is.columns in
    let conds_are = subst R all_types is.conds in
    let one_type : kinds_of relation ≡ types_in (tables (relation ∷ [])) = sym (append-nil (kinds_of relation)) in
    let counted : count ≡ width (relation ∷ []) = sym (ap length (append-nil (kinds_of relation)) ∙ length-map relation.columns (λ c. c.kind)) in
    let are_joins = joins_again schema earlier (kinds_of relation) joins is.types is.joins count write (relation ∷ []) whole one_type counted refl unlike distinct found in
    let N : Source → Type 0 = λ s. IsName s.name in
    let scoped : selected_in relation (select_as select) (tables whole) joined ≡ Some (record { from = source_of relation; joins = joins; columns = columns; conds = conds }) =
    selected_again relation (select_as select) (tables whole) joined joins columns conds (places_again (tables whole) write found columns is.few_columns columns_fit) are_joins (conds_again (tables whole) write found conds is.few_conds conds_are) in
    let F : Source → Type 0 = λ s. selected_in relation (select_as select) (tables whole) joined ≡ Some (record { from = s; joins = joins; columns = columns; conds = conds }) in
    let T : Scope → Type 0 = λ others. selected_in relation (select_as select) (relation_table relation ∷ others) joined ≡ Some select in
    let made : select_from relation joined (select_as select) ≡ Some select = subst T (sym (tables_of joined)) (subst F source scoped) in
    record {
      means =
          next_step _ (relation_named from.name schema) relation (Some select) is.there
          (next_step _ (others_of schema earlier count (map (join_as write) joins)) joined (Some select) (others_again schema earlier (kinds_of relation) joins is.types is.joins count write) made);
      spells = record {
        listed = places_spelled (tables whole) write spelled columns columns_fit;
        relation = subst N source all_named.0.name;
        joins = joins_spelled schema named earlier (kinds_of relation) joins is.types is.joins write (subst S (sym all_types) spelled);
        conditions = conds_spelled (tables whole) write spelled conds conds_are;
      };
    }

-- ---- inserts

record ReadsInsert (schema : List RelationSchema) (insert : Insert) : Type 0 where
  means : insert_of schema (insert_as insert) ≡ Some insert
  writes : IsFilled (insert_as insert).values
  spells : IsInsert (insert_as insert)

-- a relation with a column has a value in each row
row_filled : (kinds : List Kind) (row : List Value) → kinds ≢ [] → FitsKinds kinds row → IsFilled (map constant_as row)
row_filled [] row some fits = absurd (some refl)
row_filled (kind ∷ kinds) [] some fits = absurd fits
row_filled (kind ∷ kinds) (value ∷ row) some fits = tt

-- as many types as columns
nothing_mapped : {A B : Type 0} (f : A → B) (xs : List A) → map f xs ≡ [] → xs ≡ []
nothing_mapped f [] none = refl
nothing_mapped f (x ∷ xs) none = absurd cc

insert_again : (schema : List RelationSchema) → AreNamed schema → (insert : Insert) → IsInsertOf schema insert → ReadsInsert schema insert
insert_again schema named insert is =
    let name = found_by_name schema insert.into is.relation is.there in
    let names = relation_is_named schema insert.into is.relation named is.there in
    let P : List ℕ → Type 0 = λ into. ReadsInsert schema (record { into = into; row = insert.row }) in
    let there = named_itself schema insert.into is.relation is.there in
    let canonical : Insert = record { into = is.relation.name; row = insert.row } in
    subst P name (record {
      means =
          next_step _ (relation_named is.relation.name schema) is.relation (Some canonical) there
          (next_step _ (row_of (kinds_of is.relation) (map constant_as insert.row)) insert.row (Some canonical) (row_again (kinds_of is.relation) insert.row is.fits) refl);
      writes = row_filled (kinds_of is.relation) insert.row (λ none. names.filled (nothing_mapped (λ c. c.kind) is.relation.columns none)) is.fits;
      spells = record { relation = names.name; values = row_spelled (kinds_of is.relation) insert.row is.fits };
    })

-- ---- updates and deletes

-- where nothing is joined the types are those of the relation alone
pub with_none : (types_of : List Kind) (conds : List Cond) → AllByRecursion (IsCondOf types_of) conds → AllByRecursion (IsCondOf (types_of ++ [])) conds
with_none types_of conds fit = let P : List Kind → Type 0 = λ ks. AllByRecursion (IsCondOf ks) conds in subst P (sym (append-nil types_of)) fit

record ReadsUpdate (schema : List RelationSchema) (update : Update) : Type 0 where
  means : update_of schema (update_as update) ≡ Some update
  writes : IsFilled (update_as update).sets
  spells : IsUpdate (update_as update)

-- as it is written, some list has something
pub filled_again : {A B : Type 0} (write : A → B) (xs : List A) → xs ≢ [] → IsFilled (map write xs)
filled_again write [] some = absurd (some refl)
filled_again write (x ∷ xs) some = tt

update_again : (schema : List RelationSchema) → AreNamed schema → (update : Update) → IsUpdateOf schema update → ReadsUpdate schema update
update_again schema named update is =
    let name = found_by_name schema update.relation.name is.relation is.there in
    let names = relation_is_named schema update.relation.name is.relation named is.there in
    let there = named_itself schema update.relation.name is.relation is.there in
    let P : Source → Type 0 = λ s. ReadsUpdate schema (record { relation = s; sets = update.sets; conds = update.conds }) in
    let canonical : Update = record { relation = source_of is.relation; sets = update.sets; conds = update.conds } in
    let write : ℕ → tree.Column = plain_column (names_of is.relation) in
    let conds_fit = with_none (kinds_of is.relation) update.conds is.conds in
    subst P (is_source update.relation is.relation name is.names) (record {
      means =
          next_step _ (relation_named is.relation.name schema) is.relation (Some canonical) there
          (next_step _ (sets_of is.relation.columns (map (assignment_as (names_of is.relation)) update.sets)) update.sets (Some canonical) (sets_again is.relation.columns names.distinct update.sets is.apart is.sets)
          (next_step _ (conds_of (one_relation is.relation) (conditions_as write update.conds)) update.conds (Some canonical) (conds_again (one_relation is.relation) write (one_found is.relation names.distinct) update.conds is.few_conds conds_fit) refl));
      writes = filled_again (assignment_as (names_of is.relation)) update.sets is.some_set;
      spells = record {
        relation = names.name;
        sets = sets_spelled is.relation.columns names.columns update.sets is.sets;
        conditions = conds_spelled (one_relation is.relation) write (one_spelled is.relation names.columns) update.conds conds_fit;
      };
    })

record ReadsDelete (schema : List RelationSchema) (delete : Delete) : Type 0 where
  means : delete_of schema (delete_as delete) ≡ Some delete
  spells : IsDelete (delete_as delete)

delete_again : (schema : List RelationSchema) → AreNamed schema → (delete : Delete) → IsDeleteOf schema delete → ReadsDelete schema delete
delete_again schema named delete is =
    let name = found_by_name schema delete.relation.name is.relation is.there in
    let names = relation_is_named schema delete.relation.name is.relation named is.there in
    let there = named_itself schema delete.relation.name is.relation is.there in
    let P : Source → Type 0 = λ s. ReadsDelete schema (record { relation = s; conds = delete.conds }) in
    let canonical : Delete = record { relation = source_of is.relation; conds = delete.conds } in
    let write : ℕ → tree.Column = plain_column (names_of is.relation) in
    let conds_fit = with_none (kinds_of is.relation) delete.conds is.conds in
    subst P (is_source delete.relation is.relation name is.names) (record {
      means =
          next_step _ (relation_named is.relation.name schema) is.relation (Some canonical) there
          (next_step _ (conds_of (one_relation is.relation) (conditions_as write delete.conds)) delete.conds (Some canonical) (conds_again (one_relation is.relation) write (one_found is.relation names.distinct) delete.conds is.few_conds conds_fit) refl);
      spells = record {
        relation = names.name;
        conditions = conds_spelled (one_relation is.relation) write (one_spelled is.relation names.columns) delete.conds conds_fit;
      };
    })

record ReadsRefragment (schema : List RelationSchema) (refragment : Refragment) : Type 0 where
  means : refragment_of schema refragment.relation.name ≡ Some refragment
  spells : IsName refragment.relation.name

refragment_again : (schema : List RelationSchema) → AreNamed schema → (refragment : Refragment) → IsRefragmentOf schema refragment → ReadsRefragment schema refragment
refragment_again schema named refragment is =
    let name = found_by_name schema refragment.relation.name is.relation is.there in
    let names = relation_is_named schema refragment.relation.name is.relation named is.there in
    let there = named_itself schema refragment.relation.name is.relation is.there in
    let P : Source → Type 0 = λ s. ReadsRefragment schema (record { relation = s }) in
    subst P (is_source refragment.relation is.relation name is.names) (record {
      means = ap (option_map (λ (r : RelationSchema). record { relation = source_of r })) there;
      spells = names.name;
    })

-- ---- statements

-- the tree that a printable statement is written as means the statement
pub resolves : (schema : List RelationSchema) (statement : Statement) → IsPrintable schema statement → command_of schema (written_as statement) ≡ Some (commands.Run statement)
resolves schema (statements.Select select) is =
    ap (option_map (λ (s : Select). commands.Run (statements.Select s))) (select_again schema is.named select.from select.joins select.columns select.conds is.fits).means
resolves schema (statements.Insert insert) is = ap (option_map (λ (s : Insert). commands.Run (statements.Insert s))) (insert_again schema is.named insert is.fits).means
resolves schema (statements.Update update) is = ap (option_map (λ (s : Update). commands.Run (statements.Update s))) (update_again schema is.named update is.fits).means
resolves schema (statements.Delete delete) is = ap (option_map (λ (s : Delete). commands.Run (statements.Delete s))) (delete_again schema is.named delete is.fits).means
resolves schema (statements.Refragment refragment) is = ap (option_map (λ (s : Refragment). commands.Run (statements.Refragment s))) (refragment_again schema is.named refragment is.fits).means

-- it has no empty list but for the conditions
pub writable : (schema : List RelationSchema) (statement : Statement) → IsPrintable schema statement → IsWritable (written_as statement)
writable schema (statements.Select select) is =
    let few : length select.joins ≤ 2 = is.fits.few_joins in
    (filled_again _ select.columns is.lists, omega (arith, few, length-map select.joins (join_as (column_in select.from select.joins))))
writable schema (statements.Insert insert) is = (insert_again schema is.named insert is.fits).writes
writable schema (statements.Update update) is = (update_again schema is.named update is.fits).writes
writable schema (statements.Delete delete) is = tt
writable schema (statements.Refragment refragment) is = tt

-- and its names are names, its texts texts, and its integers not too large
pub spellable : (schema : List RelationSchema) (statement : Statement) → IsPrintable schema statement → IsSpellable (written_as statement)
spellable schema (statements.Select select) is = (select_again schema is.named select.from select.joins select.columns select.conds is.fits).spells
spellable schema (statements.Insert insert) is = (insert_again schema is.named insert is.fits).spells
spellable schema (statements.Update update) is = (update_again schema is.named update is.fits).spells
spellable schema (statements.Delete delete) is = (delete_again schema is.named delete is.fits).spells
spellable schema (statements.Refragment refragment) is = (refragment_again schema is.named refragment is.fits).spells
