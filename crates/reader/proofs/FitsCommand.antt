-- What a text means fits the schema: statements and commands.
use Rattle.std.proofs.Common.{◌≡◌, ◌≢◌, ℕ, suc, ◌+◌, ◌<◌, ◌≤◌, Bool, true, false, ◌&&◌, cond, List, [], ◌∷◌, ◌++◌, Some, None, option_map, length, length-append, map, append_assoc, find, nat_eq, nat_lt, inl, inr, ◌⊎◌, refl, ap, sym, subst, ◌∙◌, arith}
use Rattle.std.specs.Cmp.Lexicographic.{pointwise}
use Rattle.std.specs.List.{AllByRecursion, list_any, slice_get}
use Rattle.std.proofs.lemmas.Bool.{and_parts, or_parts, eqb-true, eqb-false, ltb-true}
use Rattle.std.proofs.lemmas.List.{append-nil, length-map}
use Rattle.std.proofs.lemmas.Slice.Eq.{bytes_eq-Decides}
use Rattle.terms.specs.declared.cond.Cond.{Cond}
use Rattle.terms.specs.declared.value.Kind.{Kind}
use Rattle.terms.specs.declared.value.Kind.TheVariants as kinds
use Rattle.terms.specs.Cond.{IsCondOf}
use Rattle.meaning.specs.declared.schema.Column as schema
use Rattle.meaning.specs.declared.schema.RelationSchema.{RelationSchema}
use Rattle.meaning.specs.declared.statement.Statement.TheVariants as statements
use Rattle.meaning.specs.declared.statement.Join.{Join}
use Rattle.meaning.specs.declared.statement.Select.{Select}
use Rattle.meaning.specs.declared.statement.Insert.{Insert}
use Rattle.meaning.specs.declared.statement.Assigned.{Assigned}
use Rattle.meaning.specs.declared.statement.Assigned.TheVariants as assigned
use Rattle.meaning.specs.declared.statement.Assignment.{Assignment}
use Rattle.meaning.specs.declared.statement.Update.{Update}
use Rattle.meaning.specs.declared.statement.Delete.{Delete}
use Rattle.meaning.specs.declared.statement.Refragment.{Refragment}
use Rattle.meaning.specs.Schema.{relation_named, kinds_of}
use Rattle.meaning.specs.Statement.{IsJoinOf, AreJoinsOf, IsSelectOf, IsInsertOf, IsAssignable, IsAssignmentOf, IsUpdateOf, IsDeleteOf, IsRefragmentOf}
use Rattle.reader.specs.declared.command.Command.{Command}
use Rattle.reader.specs.declared.command.Command.TheVariants as commands
use Rattle.reader.specs.declared.keyword.Keyword.TheVariants as word
use Rattle.reader.specs.declared.scope.Found.{Found}
use Rattle.reader.specs.declared.sign.Sign.TheVariants as mark
use Rattle.reader.specs.Command.{IsTextOf, IsCommandOf}
use Rattle.reader.specs.Grammar.{separated, constant_text, listed_text, joins_text, where_text, assigned_text, assignment_text, select_text, insert_text, update_text, written_text, IsFilled, IsWritable}
use Rattle.reader.specs.Names.{Joined, all_of, value_of, number_of, places_of, conds_of, source_of, is_integer, is_key, other_than_key, joined_by, join_of, other_of, others_of, joined_relations, select_from, select_of, row_of, insert_of, settable, addend, sum_of, assigned_of, assignment_of, are_apart, sets_of, update_of, delete_of, refragment_of, command_of}
use Rattle.reader.specs.Scope.{Scope, relation_table, one_relation, types, types_in, column_named, found_in}
use Rattle.reader.specs.Symbol.{Symbol, key, sign, name}
use Rattle.reader.specs.Tree as tree
use Rattle.reader.proofs.Chains.{chosen, refused, first_step, mapped_step}
use Rattle.reader.proofs.Fits.{both_parts}
use Rattle.reader.proofs.FitsSchema.{IsSound, IsSoundConstant, IsSoundCondition, all_sound, sound_constant, sound_separated, sound_where, value_fits, number_within, row_fits, all_answers, any_items, places_fit, conds_fit}
use Rattle.reader.proofs.Places.{slice_get-within_front, slice_get-behind, named_there, there_in}
use Rattle.reader.proofs.WrittenAssignments.{are_apart_fits}

-- ---- relations

-- what is found passes the test
found_passes : {A : Type 0} (test : A → Bool) (xs : List A) (x : A) → find test xs ≡ Some x → test x ≡ true
found_passes test [] x is = cc
found_passes test (y ∷ xs) x is =
    elim (test y) as (λ t. test y ≡ t → cond t (Some y) (find test xs) ≡ Some x → test x ≡ true) [
      | true ↦ λ passes here. let same : y ≡ x = cc in ap test (sym same) ∙ passes
      | false ↦ λ fails later. found_passes test xs x later
    ] refl is

-- a relation that was found has the name
pub found_by_name : (schema : List RelationSchema) (asked : List ℕ) (relation : RelationSchema) → relation_named asked schema ≡ Some relation → relation.name ≡ asked
found_by_name schema asked relation is = (bytes_eq-Decides relation.name asked).0 (found_passes (λ r. pointwise nat_eq r.name asked) schema relation is)

-- a relation is found under its own name
pub named_itself : (schema : List RelationSchema) (asked : List ℕ) (relation : RelationSchema) → relation_named asked schema ≡ Some relation → relation_named relation.name schema ≡ Some relation
named_itself schema asked relation is = ap (λ n. relation_named n schema) (found_by_name schema asked relation is) ∙ is

-- ---- selects

sound_select : (select : tree.Select) → AllByRecursion IsSound (select_text select) → AllByRecursion IsSoundCondition select.conditions
sound_select select all =
    let tail = both_parts IsSound (listed_text select.listed) (key word.From ∷ name select.relation ∷ (joins_text select.joins ++ where_text select.conditions)) all.1 in
    let conditions = both_parts IsSound (joins_text select.joins) (where_text select.conditions) tail.1.1.1 in
    sound_where select.conditions conditions.1

integer_is : (kind : Kind) → is_integer kind ≡ true → kind ≡ kinds.Int
integer_is kinds.Int is = refl
integer_is kinds.Text is = cc

-- the column that is compared with the key
key_cases : (joined : Joined) (left right column : ℕ) → other_than_key joined left right ≡ Some column → ((is_key joined left ≡ true) × (right < joined.before) × (right ≡ column)) ⊎ ((is_key joined right ≡ true) × (left < joined.before) × (left ≡ column))
key_cases joined left right column is =
    elim (is_key joined left && nat_lt right joined.before) as (λ t. is_key joined left && nat_lt right joined.before ≡ t → cond t (Some right) (cond (is_key joined right && nat_lt left joined.before) (Some left) None) ≡ Some column → ((is_key joined left ≡ true) × (right < joined.before) × (right ≡ column)) ⊎ ((is_key joined right ≡ true) × (left < joined.before) × (left ≡ column))) [
      | true ↦ λ both here.
          let parts = and_parts (is_key joined left) (nat_lt right joined.before) both in
          inl (parts.0, ltb-true right joined.before parts.1, cc here)
      | false ↦ λ other later.
          let one = chosen (is_key joined right && nat_lt left joined.before) (Some left) column later in
          let parts = and_parts (is_key joined right) (nat_lt left joined.before) one.0 in
          inr (parts.0, ltb-true left joined.before parts.1, cc one.1)
    ] refl is

-- the key behind the columns before is an integer
key_there : (joined : Joined) (before others : List Kind) (place : ℕ) (kind : Kind) → joined.before ≡ length before → is_key joined place ≡ true → slice_get (before ++ (kinds_of joined.relation ++ others)) place ≡ Some kind → is_integer kind ≡ true → slice_get (kinds_of joined.relation) 0 ≡ Some kinds.Int
key_there joined before others place kind counted first there integer =
    let parts = and_parts (nat_eq place joined.before) (nat_lt 0 (length joined.relation.columns)) first in
    let at : place ≡ joined.before = eqb-true place joined.before parts.0 in
    let some : 0 < length joined.relation.columns = ltb-true 0 (length joined.relation.columns) parts.1 in
    sym (slice_get-within_front (kinds_of joined.relation) others 0 (omega (arith, some, length-map joined.relation.columns (λ c. c.kind))))
    ∙ sym (slice_get-behind before (kinds_of joined.relation ++ others) 0 place (omega (arith, at, counted))) ∙ there ∙ ap Some (integer_is kind integer)

-- a column before is an integer
column_there : (count : ℕ) (before others : List Kind) (place col : ℕ) (kind : Kind) → count ≡ length before → place < count → place ≡ col → slice_get (before ++ others) place ≡ Some kind → is_integer kind ≡ true → slice_get before col ≡ Some kinds.Int
column_there count before others place col kind counted within same there integer =
    ap (slice_get before) (sym same) ∙ sym (slice_get-within_front before others place (omega (arith, counted, within))) ∙ there ∙ ap Some (integer_is kind integer)

-- what a relation is joined by are its key and an integer column before it
joined_fits : (scope : Scope) (joined : Joined) (before others : List Kind) (col : ℕ) → joined.before ≡ length before → types_in scope ≡ before ++ (kinds_of joined.relation ++ others) → joined_by scope joined ≡ Some col → (slice_get (kinds_of joined.relation) 0 ≡ Some kinds.Int) × (slice_get before col ≡ Some kinds.Int)
joined_fits scope joined before others col counted all is =
    let left = first_step _ (found_in scope joined.written.left) col is in
    let right = first_step _ (found_in scope joined.written.right) col left.2 in
    let column = first_step _ (other_than_key joined left.0.place right.0.place) col right.2 in
    let one = chosen (is_integer left.0.kind && is_integer right.0.kind) (Some column.0) col column.2 in
    let integers = and_parts (is_integer left.0.kind) (is_integer right.0.kind) one.0 in
    let same : column.0 ≡ col = cc one.1 in
    let left_there : slice_get (before ++ (kinds_of joined.relation ++ others)) left.0.place ≡ Some left.0.kind = ap (λ ks. slice_get ks left.0.place) (sym all) ∙ there_in scope joined.written.left left.0 left.1 in
    let right_there : slice_get (before ++ (kinds_of joined.relation ++ others)) right.0.place ≡ Some right.0.kind = ap (λ ks. slice_get ks right.0.place) (sym all) ∙ there_in scope joined.written.right right.0 right.1 in
    elim (key_cases joined left.0.place right.0.place column.0 column.1) [
      | inl met ↦ (
        key_there joined before others left.0.place left.0.kind counted met.0 left_there integers.0,
        column_there joined.before before (kinds_of joined.relation ++ others) right.0.place col right.0.kind counted met.1 (met.2 ∙ same) right_there integers.1,
      )
      | inr met ↦ (
        key_there joined before others right.0.place right.0.kind counted met.0 right_there integers.1,
        column_there joined.before before (kinds_of joined.relation ++ others) left.0.place col left.0.kind counted met.1 (met.2 ∙ same) left_there integers.0,
      )
    ]

-- a name that is none of these
none_named : (earlier : List (List ℕ)) (other : List ℕ) → list_any (λ name. pointwise nat_eq name other) earlier ≡ false → AllByRecursion (λ name. other ≢ name) earlier
none_named [] other none = tt
none_named (one ∷ earlier) other none =
    let parts = or_parts (pointwise nat_eq one other) (list_any (λ n. pointwise nat_eq n other) earlier) none in (
      λ equal. let both : true ≡ false = sym ((bytes_eq-Decides one other).1 (sym equal)) ∙ parts.0 in cc,
      none_named earlier other parts.1,
    )

-- a relation that is joined is another one, under its own name
other_fits : (schema : List RelationSchema) (earlier : List (List ℕ)) (other : RelationSchema) (written : tree.Join) → other_of schema earlier written ≡ Some other → (relation_named other.name schema ≡ Some other) × AllByRecursion (λ name. other.name ≢ name) earlier
other_fits schema earlier other written is =
    let found = first_step (λ (o : RelationSchema). cond (list_any (λ name. pointwise nat_eq name o.name) earlier) None (Some o)) (relation_named written.relation schema) other is in
    let one = refused (list_any (λ name. pointwise nat_eq name found.0.name) earlier) (Some found.0) other found.2 in
    let same : found.0 ≡ other = cc one.1 in
    let P : RelationSchema → Type 0 = λ o. (relation_named o.name schema ≡ Some o) × AllByRecursion (λ name. o.name ≢ name) earlier in
    subst P same (named_itself schema written.relation found.0 found.1, none_named earlier found.0.name one.0)

join_fits : (schema : List RelationSchema) (earlier : List (List ℕ)) (scope : Scope) (joined : Joined) (before others : List Kind) (join : Join) → other_of schema earlier joined.written ≡ Some joined.relation → joined.before ≡ length before → types_in scope ≡ before ++ (kinds_of joined.relation ++ others) → join_of scope joined ≡ Some join → IsJoinOf schema earlier before join joined.relation
join_fits schema earlier scope joined before others join there counted all is =
    let col = mapped_step (λ (column : ℕ). record { relation = source_of joined.relation; col = column }) (joined_by scope joined) join is in
    let another = other_fits schema earlier joined.relation joined.written there in
    let fits = joined_fits scope joined before others col.0 counted all col.1 in
    let P : Join → Type 0 = λ j. IsJoinOf schema earlier before j joined.relation in
    subst P col.2 (record {
      there = another.0;
      another = another.1;
      names = refl;
      key = fits.0;
      column = fits.1;
    })

-- the types of all columns of joined relations
abbrev joined_types : List Joined → List Kind
joined_types joined = types_in (map (λ j. relation_table j.relation) joined)

-- what is joined with one relation more
more_fit : (schema : List RelationSchema) (earlier : List (List ℕ)) (scope : Scope) (before : List Kind) (count : ℕ) (first : Joined) (written : List tree.Join) (others : List Joined) (joins : List Join) → other_of schema earlier first.written ≡ Some first.relation → first.before ≡ count → count ≡ length before → types_in scope ≡ before ++ (kinds_of first.relation ++ joined_types others) → others_of schema (earlier ++ first.relation.name ∷ []) (count + length first.relation.columns) written ≡ Some others → all_of (join_of scope) (first ∷ others) ≡ Some joins
    → ((rest : List Join) → all_of (join_of scope) others ≡ Some rest → AreJoinsOf schema (earlier ++ first.relation.name ∷ []) (before ++ kinds_of first.relation) rest ((before ++ kinds_of first.relation) ++ joined_types others))
    → AreJoinsOf schema earlier before joins (before ++ (kinds_of first.relation ++ joined_types others))
more_fit schema earlier scope before count first written others joins there at counted all others_there are behind =
    let one = first_step (λ y. option_map (λ rest. y ∷ rest) (all_of (join_of scope) others)) (join_of scope first) joins are in
    let rest = mapped_step (λ rest. one.0 ∷ rest) (all_of (join_of scope) others) joins one.2 in
    let P : List Join → Type 0 = λ js. AreJoinsOf schema earlier before js (before ++ (kinds_of first.relation ++ joined_types others)) in
    let Q : List Kind → Type 0 = λ ks. AreJoinsOf schema (earlier ++ first.relation.name ∷ []) (before ++ kinds_of first.relation) rest.0 ks in
    subst P rest.2 (
      first.relation,
      join_fits schema earlier scope first before (joined_types others) one.0 there (at ∙ counted) all one.1,
      subst Q (append_assoc before (kinds_of first.relation) (joined_types others)) (behind rest.0 rest.1),
    )

-- what is joined fits the schema, one after another
joins_fit : (schema : List RelationSchema) (earlier : List (List ℕ)) (scope : Scope) (before : List Kind) (count : ℕ) (written : List tree.Join) (joined : List Joined) (joins : List Join) → count ≡ length before → types_in scope ≡ before ++ joined_types joined → others_of schema earlier count written ≡ Some joined → all_of (join_of scope) joined ≡ Some joins
    → AreJoinsOf schema earlier before joins (before ++ joined_types joined)
joins_fit schema earlier scope before count [] joined joins counted all there are =
    let none : [] ≡ joined = cc there in
    let Q : List Joined → Type 0 = λ js. all_of (join_of scope) js ≡ Some joins in
    let empty : Some [] ≡ Some joins = subst Q (sym none) are in
    let no_joins : [] ≡ joins = cc empty in
    let P : List Joined → Type 0 = λ js. AreJoinsOf schema earlier before [] (before ++ joined_types js) in
    let R : List Join → Type 0 = λ js. AreJoinsOf schema earlier before js (before ++ joined_types joined) in
    subst R no_joins (subst P none (append-nil before))
joins_fit schema earlier scope before count (join ∷ written) joined joins counted all there are =
    let other = first_step _ (other_of schema earlier join) joined there in
    let others = first_step _ (others_of schema (earlier ++ other.0.name ∷ []) (count + length other.0.columns) written) joined other.2 in
    let first : Joined = record { relation = other.0; before = count; written = join } in
    let same : first ∷ others.0 ≡ joined = cc others.2 in
    let P : List Joined → Type 0 = λ js. types_in scope ≡ before ++ joined_types js → all_of (join_of scope) js ≡ Some joins → AreJoinsOf schema earlier before joins (before ++ joined_types js) in
    subst P same (λ all_types are_all. more_fit schema earlier scope before count first written others.0 joins other.1 refl counted all_types others.1 are_all
    (λ rest is. joins_fit schema (earlier ++ other.0.name ∷ []) scope (before ++ kinds_of other.0) (count + length other.0.columns) written others.0 rest
    (omega (arith, counted, length-append before (kinds_of other.0), length-map other.0.columns (λ c. c.kind)))
    (all_types ∙ sym (append_assoc before (kinds_of other.0) (joined_types others.0))) others.1 is)) all are

-- as many joins as relations, and these as many as are written
as_many_others : (schema : List RelationSchema) (earlier : List (List ℕ)) (count : ℕ) (written : List tree.Join) (joined : List Joined) → others_of schema earlier count written ≡ Some joined → length joined ≡ length written
as_many_others schema earlier count [] joined is = let none : [] ≡ joined = cc is in ap length (sym none)
as_many_others schema earlier count (join ∷ written) joined is =
    let other = first_step _ (other_of schema earlier join) joined is in
    let others = first_step _ (others_of schema (earlier ++ other.0.name ∷ []) (count + length other.0.columns) written) joined other.2 in
    let same : record { relation = other.0; before = count; written = join } ∷ others.0 ≡ joined = cc others.2 in
    ap length (sym same) ∙ ap suc (as_many_others schema (earlier ++ other.0.name ∷ []) (count + length other.0.columns) written others.0 others.1)

select_from_fits : (schema : List RelationSchema) (relation : RelationSchema) (joined : List Joined) (written : tree.Select) (select : Select) → relation_named relation.name schema ≡ Some relation → others_of schema (relation.name ∷ []) (length relation.columns) written.joins ≡ Some joined → length written.joins ≤ 2 → AllByRecursion IsSoundCondition written.conditions → select_from relation joined written ≡ Some select → IsSelectOf schema select
select_from_fits schema relation joined written select there others few are_sound is =
    let scope = joined_relations relation joined in
    let places = first_step _ (places_of scope written.listed) select is in
    let joins = first_step _ (all_of (join_of scope) joined) select places.2 in
    let conds = first_step _ (conds_of scope written.conditions) select joins.2 in
    let same : record { from = source_of relation; joins = joins.0; columns = places.0; conds = conds.0 } ≡ select = cc conds.2 in
    let fit = places_fit scope written.listed places.0 places.1 in
    let conds_are = conds_fit scope written.conditions conds.0 are_sound conds.1 in
    let as_many : length joins.0 ≡ length joined = (all_answers (join_of scope) (λ j. Unit {0}) (λ j. Unit {0}) (λ j join any one. tt) joined joins.0 (any_items joined) joins.1).1 in
    let P : Select → Type 0 = IsSelectOf schema in
    subst P same (record {
      relation = relation;
      types = types_in scope;
      there = there;
      names = refl;
      few_joins = omega (arith, as_many, as_many_others schema (relation.name ∷ []) (length relation.columns) written.joins joined others, few);
      joins = joins_fit schema (relation.name ∷ []) scope (kinds_of relation) (length relation.columns) written.joins joined joins.0 (sym (length-map relation.columns (λ c. c.kind))) refl others joins.1;
      few_columns = fit.1;
      columns = fit.0;
      few_conds = conds_are.1;
      conds = conds_are.0;
    })

select_fits : (schema : List RelationSchema) (written : tree.Select) (select : Select) → length written.joins ≤ 2 → AllByRecursion IsSoundCondition written.conditions → select_of schema written ≡ Some select → IsSelectOf schema select
select_fits schema written select few are_sound is =
    let relation = first_step _ (relation_named written.relation schema) select is in
    let joined = first_step _ (others_of schema (relation.0.name ∷ []) (length relation.0.columns) written.joins) select relation.2 in
    select_from_fits schema relation.0 joined.0 written select (named_itself schema written.relation relation.0 relation.1) joined.1 few are_sound joined.2

-- ---- inserts

sound_insert : (insert : tree.Insert) → AllByRecursion IsSound (insert_text insert) → AllByRecursion IsSoundConstant insert.values
sound_insert insert all =
    let values = both_parts IsSound (separated constant_text (sign mark.Comma) insert.values) (sign mark.Close ∷ []) all.1.1.1.1.1 in
    sound_separated constant_text (sign mark.Comma) IsSoundConstant sound_constant insert.values values.0

insert_fits : (schema : List RelationSchema) (written : tree.Insert) (insert : Insert) → AllByRecursion IsSoundConstant written.values → insert_of schema written ≡ Some insert → IsInsertOf schema insert
insert_fits schema written insert are_sound is =
    let relation = first_step _ (relation_named written.relation schema) insert is in
    let row = first_step _ (row_of (kinds_of relation.0) written.values) insert relation.2 in
    let same : record { into = relation.0.name; row = row.0 } ≡ insert = cc in
    let P : Insert → Type 0 = IsInsertOf schema in
    subst P same (record {
      relation = relation.0;
      there = named_itself schema written.relation relation.0 relation.1;
      fits = row_fits (kinds_of relation.0) written.values row.0 are_sound row.1;
    })

-- ---- updates and deletes

-- an assignment whose constant, if it has one, is one that a text can say
abbrev IsSoundAssigned : tree.Assigned → Type 0
IsSoundAssigned (tree.constant constant) = IsSoundConstant constant
IsSoundAssigned (tree.sum column is_negative magnitude) = Unit {0}

abbrev IsSoundAssignment : tree.Assignment → Type 0
IsSoundAssignment assignment = IsSoundAssigned assignment.value

sound_assigned : (value : tree.Assigned) → AllByRecursion IsSound (assigned_text value) → IsSoundAssigned value
sound_assigned (tree.constant constant) all = sound_constant constant all
sound_assigned (tree.sum column is_negative magnitude) all = tt

sound_update : (update : tree.Update) → AllByRecursion IsSound (update_text update) → AllByRecursion IsSoundAssignment update.sets × AllByRecursion IsSoundCondition update.conditions
sound_update update all =
    let parts = both_parts IsSound (separated assignment_text (sign mark.Comma) update.sets) (where_text update.conditions) all.1.1.1 in
    (sound_separated assignment_text (sign mark.Comma) IsSoundAssignment (λ assignment sounds. sound_assigned assignment.value sounds.1.1) update.sets parts.0, sound_where update.conditions parts.1)

-- the column that is set is there, and is not the key
settable_fits : (columns : List schema.Column) (asked : List ℕ) (found : Found) → settable columns asked ≡ Some found → (found.place ≢ 0) × (slice_get (types columns) found.place ≡ Some found.kind)
settable_fits columns asked found is =
    let one = first_step (λ (f : Found). cond (nat_eq f.place 0) None (Some f)) (column_named columns asked) found is in
    let other = refused (nat_eq one.0.place 0) (Some one.0) found one.2 in
    let same : one.0 ≡ found = cc other.1 in
    let P : Found → Type 0 = λ f. (f.place ≢ 0) × (slice_get (types columns) f.place ≡ Some f.kind) in
    subst P same (eqb-false one.0.place 0 other.0, named_there columns asked one.0 one.1)

-- a sum is of two integer columns
sum_fits : (columns : List schema.Column) (kind : Kind) (asked : List ℕ) (is_negative : Bool) (magnitude : ℕ) (value : Assigned) → sum_of columns kind asked is_negative magnitude ≡ Some value → IsAssignable (types columns) kind value
sum_fits columns kind asked is_negative magnitude value is =
    let added = first_step _ (addend columns kind asked) value is in
    let n = first_step _ (number_of is_negative magnitude) value added.2 in
    let found = first_step (λ (f : Found). cond (is_integer kind && is_integer f.kind) (Some f) None) (column_named columns asked) added.0 added.1 in
    let one = chosen (is_integer kind && is_integer found.0.kind) (Some found.0) added.0 found.2 in
    let integers = and_parts (is_integer kind) (is_integer found.0.kind) one.0 in
    let equal : found.0 ≡ added.0 = cc one.1 in
    let place : found.0.place ≡ added.0.place = ap (λ (f : Found). f.place) equal in
    let there = named_there columns asked found.0 found.1 in
    let bounds = number_within is_negative magnitude n.0 n.1 in
    let same : assigned.Sum added.0.place n.0 ≡ value = cc n.2 in
    let P : Assigned → Type 0 = IsAssignable (types columns) kind in
    subst P same (integer_is kind integers.0, ap (slice_get (types columns)) (sym place) ∙ there ∙ ap Some (integer_is found.0.kind integers.1), bounds.0, bounds.1)

assigned_fits : (columns : List schema.Column) (kind : Kind) (written : tree.Assigned) (value : Assigned) → IsSoundAssigned written → assigned_of columns kind written ≡ Some value → IsAssignable (types columns) kind value
assigned_fits columns kind (tree.constant constant) value is_sound is =
    let one = mapped_step assigned.Constant (value_of kind constant) value is in
    let P : Assigned → Type 0 = IsAssignable (types columns) kind in
    subst P one.2 (value_fits kind constant one.0 is_sound one.1)
assigned_fits columns kind (tree.sum asked is_negative magnitude) value is_sound is = sum_fits columns kind asked is_negative magnitude value is

assignment_fits : (columns : List schema.Column) (written : tree.Assignment) (assignment : Assignment) → IsSoundAssignment written → assignment_of columns written ≡ Some assignment → IsAssignmentOf (types columns) assignment
assignment_fits columns written assignment is_sound is =
    let found = first_step _ (settable columns written.column) assignment is in
    let value = first_step _ (assigned_of columns found.0.kind written.value) assignment found.2 in
    let same : record { col = found.0.place; value = value.0 } ≡ assignment = cc value.2 in
    let fits = settable_fits columns written.column found.0 found.1 in
    let P : Assignment → Type 0 = IsAssignmentOf (types columns) in
    subst P same (record {
      kind = found.0.kind;
      not_key = fits.0;
      column = fits.1;
      value = assigned_fits columns found.0.kind written.value value.0 is_sound value.1;
    })

-- as many answers as items, so some where there are some
pub some_answers : {A B : Type 0} (xs : List A) (ys : List B) → IsFilled xs → length ys ≡ length xs → ys ≢ []
some_answers [] ys filled same none = absurd filled
some_answers (x ∷ xs) [] filled same none = absurd (omega arith)
some_answers (x ∷ xs) (y ∷ ys) filled same none = cc

-- where nothing is joined the types are those of the relation alone
alone : (types_of : List Kind) (conds : List Cond) → AllByRecursion (IsCondOf (types_of ++ [])) conds → AllByRecursion (IsCondOf types_of) conds
alone types_of conds fit = let P : List Kind → Type 0 = λ ks. AllByRecursion (IsCondOf ks) conds in subst P (append-nil types_of) fit

update_fits : (schema : List RelationSchema) (written : tree.Update) (update : Update) → IsFilled written.sets → AllByRecursion IsSoundAssignment written.sets → AllByRecursion IsSoundCondition written.conditions → update_of schema written ≡ Some update → IsUpdateOf schema update
update_fits schema written update filled sets_sound conditions_sound is =
    let relation = first_step _ (relation_named written.relation schema) update is in
    let sets = first_step _ (sets_of relation.0.columns written.sets) update relation.2 in
    let conds = first_step _ (conds_of (one_relation relation.0) written.conditions) update sets.2 in
    let same : record { relation = source_of relation.0; sets = sets.0; conds = conds.0 } ≡ update = cc conds.2 in
    let listed = first_step (λ (s : List Assignment). cond (are_apart s) (Some s) None) (all_of (assignment_of relation.0.columns) written.sets) sets.0 sets.1 in
    let one = chosen (are_apart listed.0) (Some listed.0) sets.0 listed.2 in
    let equal : listed.0 ≡ sets.0 = cc one.1 in
    let apart : are_apart sets.0 ≡ true = ap are_apart (sym equal) ∙ one.0 in
    let answers = all_answers (assignment_of relation.0.columns) IsSoundAssignment (IsAssignmentOf (kinds_of relation.0)) (assignment_fits relation.0.columns) written.sets sets.0 sets_sound (listed.1 ∙ one.1) in
    let conds_are = conds_fit (one_relation relation.0) written.conditions conds.0 conditions_sound conds.1 in
    let P : Update → Type 0 = IsUpdateOf schema in
    subst P same (record {
      relation = relation.0;
      there = named_itself schema written.relation relation.0 relation.1;
      names = refl;
      some_set = some_answers written.sets sets.0 filled answers.1;
      apart = are_apart_fits sets.0 apart;
      sets = answers.0;
      few_conds = conds_are.1;
      conds = alone (kinds_of relation.0) conds.0 conds_are.0;
    })

delete_fits : (schema : List RelationSchema) (written : tree.Delete) (delete : Delete) → AllByRecursion IsSoundCondition written.conditions → delete_of schema written ≡ Some delete → IsDeleteOf schema delete
delete_fits schema written delete are_sound is =
    let relation = first_step _ (relation_named written.relation schema) delete is in
    let conds = first_step _ (conds_of (one_relation relation.0) written.conditions) delete relation.2 in
    let same : record { relation = source_of relation.0; conds = conds.0 } ≡ delete = cc conds.2 in
    let conds_are = conds_fit (one_relation relation.0) written.conditions conds.0 are_sound conds.1 in
    let P : Delete → Type 0 = IsDeleteOf schema in
    subst P same (record {
      relation = relation.0;
      there = named_itself schema written.relation relation.0 relation.1;
      names = refl;
      few_conds = conds_are.1;
      conds = alone (kinds_of relation.0) conds.0 conds_are.0;
    })

refragment_fits : (schema : List RelationSchema) (written : List ℕ) (refragment : Refragment) → refragment_of schema written ≡ Some refragment → IsRefragmentOf schema refragment
refragment_fits schema written refragment is =
    let one = mapped_step (λ (r : RelationSchema). record { relation = source_of r }) (relation_named written schema) refragment is in
    let P : Refragment → Type 0 = IsRefragmentOf schema in
    subst P one.2 (record { relation = one.0; there = named_itself schema written one.0 one.1; names = refl })

-- ---- commands

command_fits : (schema : List RelationSchema) (written : tree.Written) (command : Command) → IsWritable written → AllByRecursion IsSound (written_text written) → command_of schema written ≡ Some command → IsCommandOf schema command
command_fits schema (tree.select written) command filled all is =
    let one = mapped_step (λ (s : Select). commands.Run (statements.Select s)) (select_of schema written) command is in
    let P : Command → Type 0 = IsCommandOf schema in
    subst P one.2 (select_fits schema written one.0 filled.1 (sound_select written all) one.1)
command_fits schema (tree.insert written) command filled all is =
    let one = mapped_step (λ (s : Insert). commands.Run (statements.Insert s)) (insert_of schema written) command is in
    let P : Command → Type 0 = IsCommandOf schema in
    subst P one.2 (insert_fits schema written one.0 (sound_insert written all) one.1)
command_fits schema (tree.update written) command filled all is =
    let one = mapped_step (λ (s : Update). commands.Run (statements.Update s)) (update_of schema written) command is in
    let sounds = sound_update written all in
    let P : Command → Type 0 = IsCommandOf schema in
    subst P one.2 (update_fits schema written one.0 filled sounds.0 sounds.1 one.1)
command_fits schema (tree.delete written) command filled all is =
    let one = mapped_step (λ (s : Delete). commands.Run (statements.Delete s)) (delete_of schema written) command is in
    let P : Command → Type 0 = IsCommandOf schema in
    subst P one.2 (delete_fits schema written one.0 (sound_where written.conditions all.1.1.1) one.1)
command_fits schema (tree.refragment written) command filled all is =
    let one = mapped_step (λ (s : Refragment). commands.Run (statements.Refragment s)) (refragment_of schema written) command is in
    let P : Command → Type 0 = IsCommandOf schema in
    subst P one.2 (refragment_fits schema written one.0 one.1)
command_fits schema tree.begin command filled all is =
    let same : commands.Begin ≡ command = cc is in
    let P : Command → Type 0 = IsCommandOf schema in
    subst P same tt
command_fits schema tree.commit command filled all is =
    let same : commands.Commit ≡ command = cc is in
    let P : Command → Type 0 = IsCommandOf schema in
    subst P same tt
command_fits schema tree.rollback command filled all is =
    let same : commands.Rollback ≡ command = cc is in
    let P : Command → Type 0 = IsCommandOf schema in
    subst P same tt

-- the command of a text fits the schema
pub text_fits : (schema : List RelationSchema) (text : List ℕ) (command : Command) → IsTextOf schema text command → IsCommandOf schema command
text_fits schema text command is =
    let Sound : List Symbol → Type 0 = AllByRecursion IsSound in
    let all = subst Sound is.grammatical.2 (all_sound text is.tokens is.spelled) in
    let parts = both_parts IsSound (written_text is.written) is.grammatical.1 all in
    command_fits schema is.written command is.grammatical.0 parts.0 is.meant
