-- Names: what a command means whose names, types and limits fit a schema.
use Rattle.std.specs.Prelude.{ℕ, ◌+◌, ℤ, pos, neg_ℤ, ◌^◌, ◌-◌, Bool, true, false, not, ◌&&◌, List, [], ◌∷◌, ◌++◌, Option, Some, None, length, map, option_and_then, option_map, nat_eq, nat_lt, nat_le, if◌then◌else◌}
use Rattle.std.specs.Cmp.Lexicographic.{pointwise}
use Rattle.std.specs.List.{list_any, range_with_len}
use Rattle.terms.specs.declared.cond.Cond.{Cond}
use Rattle.terms.specs.declared.value.Kind.{Kind}
use Rattle.terms.specs.declared.value.Kind.TheVariants as kinds
use Rattle.terms.specs.declared.value.Value.{Value}
use Rattle.terms.specs.declared.value.Value.TheVariants as values
use Rattle.meaning.specs.declared.schema.Column as schema
use Rattle.meaning.specs.declared.schema.RelationSchema.{RelationSchema}
use Rattle.meaning.specs.declared.statement.Statement.TheVariants as statements
use Rattle.meaning.specs.declared.statement.Source.{Source}
use Rattle.meaning.specs.declared.statement.Join.{Join}
use Rattle.meaning.specs.declared.statement.Select.{Select}
use Rattle.meaning.specs.declared.statement.Insert.{Insert}
use Rattle.meaning.specs.declared.statement.Assigned.{Assigned}
use Rattle.meaning.specs.declared.statement.Assigned.TheVariants as assigned
use Rattle.meaning.specs.declared.statement.Assignment.{Assignment}
use Rattle.meaning.specs.declared.statement.Update.{Update}
use Rattle.meaning.specs.declared.statement.Delete.{Delete}
use Rattle.meaning.specs.declared.statement.Refragment.{Refragment}
use Rattle.meaning.specs.Schema.{relation_named, kinds_of, names_of}
use Rattle.reader.specs.declared.command.Command.{Command}
use Rattle.reader.specs.declared.command.Command.TheVariants as commands
use Rattle.reader.specs.declared.joins.Joined as code_joined
use Rattle.reader.specs.declared.scope.Found.{Found}
use Rattle.reader.specs.Scope.{◌>>=◌, Scope, relation_table, one_relation, types_in, column_named, found_in}
use Rattle.reader.specs.Tree as tree

-- each item's answer, if every item has one
abbrev pub all_of : {A B : Type 0} → (A → Option B) → List A → Option (List B)
all_of answer [] = Some []
all_of answer (x ∷ xs) = option_and_then (λ y. option_map (λ ys. y ∷ ys) (all_of answer xs)) (answer x)

-- ---- constants

-- an integer with its sign, where it fits 64 bits
abbrev pub signed : Bool → ℕ → ℤ
signed true magnitude = neg_ℤ (pos magnitude)
signed false magnitude = pos magnitude

abbrev pub greatest : Bool → ℕ
greatest true = 2 ^ 63
greatest false = 2 ^ 63 - 1

abbrev pub integer_of : Bool → ℕ → Option Value
integer_of is_negative magnitude = if nat_le magnitude (greatest is_negative) then Some (values.Int (signed is_negative magnitude)) else None

-- the value of a constant in a column of a type
abbrev pub value_of : Kind → tree.Constant → Option Value
value_of kinds.Int (tree.integer is_negative magnitude) = integer_of is_negative magnitude
value_of kinds.Int (tree.text bytes) = None
value_of kinds.Text (tree.integer is_negative magnitude) = None
value_of kinds.Text (tree.text bytes) = Some (values.Text bytes)

-- the value that a condition compares with: a text of at most 100 bytes
abbrev pub compared_of : Kind → tree.Constant → Option Value
compared_of kinds.Int constant = value_of kinds.Int constant
compared_of kinds.Text (tree.integer is_negative magnitude) = None
compared_of kinds.Text (tree.text bytes) = if nat_le (length bytes) 100 then Some (values.Text bytes) else None

-- the number that a sum adds: the same bound whether it is added or taken away
abbrev pub number_of : Bool → ℕ → Option ℤ
number_of is_negative magnitude = if nat_le magnitude (2 ^ 63 - 1) then Some (signed is_negative magnitude) else None

-- ---- columns and conditions

-- the place of a column
abbrev pub place_in : Scope → tree.Column → Option ℕ
place_in scope column = option_map (λ found. found.place) (found_in scope column)

-- the places of the listed columns, at most 32; `*` lists all
abbrev pub places_of : Scope → tree.Listed → Option (List ℕ)
places_of scope tree.all = if nat_le (length (types_in scope)) 32 then Some (range_with_len 0 (length (types_in scope))) else None
places_of scope (tree.columns columns) = if nat_le (length columns) 32 then all_of (place_in scope) columns else None

-- a condition on a column
abbrev pub cond_on : Found → tree.Condition → Option Cond
cond_on found condition = option_map (λ value. record { col = found.place; cmp = condition.comparison; value = value }) (compared_of found.kind condition.constant)

abbrev pub cond_of : Scope → tree.Condition → Option Cond
cond_of scope condition = do
  found ← found_in scope condition.column
  cond_on found condition

-- conditions, at most 8
abbrev pub conds_of : Scope → List tree.Condition → Option (List Cond)
conds_of scope conditions = if nat_le (length conditions) 8 then all_of (cond_of scope) conditions else None

-- ---- selects

-- what a statement is printed with: a relation's name and those of its columns
abbrev pub source_of : RelationSchema → Source
source_of relation = record { name = relation.name; columns = names_of relation }

abbrev pub is_integer : Kind → Bool
is_integer kinds.Int = true
is_integer kinds.Text = false

-- A relation that is joined, the number of all columns before its own, and how its join is written.
pub record Joined : Type 0 where
  pub relation : RelationSchema
  pub before : ℕ
  pub written : tree.Join

-- what is joined, as the code has it
abbrev pub joined_of : code_joined.Joined → Joined
joined_of j = record { relation = j.relation.now; before = j.before; written = tree.join_tree j.written }

-- whether a place among all columns is that of a joined relation's key
abbrev pub is_key : Joined → ℕ → Bool
is_key joined place = nat_eq place joined.before && nat_lt 0 (length joined.relation.columns)

-- the column before a joined relation that is compared with its key: one of these two
abbrev pub other_than_key : Joined → ℕ → ℕ → Option ℕ
other_than_key joined left right =
    if is_key joined left && nat_lt right joined.before then Some right else (if is_key joined right && nat_lt left joined.before then Some left else None)

-- the column with which the key of a joined relation is compared: both are integers
abbrev pub joined_by : Scope → Joined → Option ℕ
joined_by scope joined = do
  left ← found_in scope joined.written.left
  right ← found_in scope joined.written.right
  column ← other_than_key joined left.place right.place
  if is_integer left.kind && is_integer right.kind then Some column else None

-- the join of a relation by that column
abbrev pub join_of : Scope → Joined → Option Join
join_of scope joined = option_map (λ column. record { relation = source_of joined.relation; col = column }) (joined_by scope joined)

-- the relation of a join behind those of these names: another one
abbrev pub other_of : List RelationSchema → List (List ℕ) → tree.Join → Option RelationSchema
other_of schema earlier join = do
  other ← relation_named join.relation schema
  if list_any (λ name. pointwise nat_eq name other.name) earlier then None else Some other

-- the relations that are joined, one after another, behind those of these names and as many columns
abbrev pub others_of : List RelationSchema → List (List ℕ) → ℕ → List tree.Join → Option (List Joined)
others_of schema earlier before [] = Some []
others_of schema earlier before (join ∷ joins) = do
  other ← other_of schema earlier join
  others ← others_of schema (earlier ++ other.name ∷ []) (before + length other.columns) joins
  Some (record { relation = other; before = before; written = join } ∷ others)

-- the scope of a select: the relation after FROM and those that are joined
abbrev pub joined_relations : RelationSchema → List Joined → Scope
joined_relations relation joined = relation_table relation ∷ map (λ j. relation_table j.relation) joined

-- a select whose relations are there
abbrev pub select_from : RelationSchema → List Joined → tree.Select → Option Select
select_from relation joined select = do
  places ← places_of (joined_relations relation joined) select.listed
  joins ← all_of (join_of (joined_relations relation joined)) joined
  conds ← conds_of (joined_relations relation joined) select.conditions
  Some (record { from = source_of relation; joins = joins; columns = places; conds = conds })

abbrev pub select_of : List RelationSchema → tree.Select → Option Select
select_of schema select = do
  relation ← relation_named select.relation schema
  joined ← others_of schema (relation.name ∷ []) (length relation.columns) select.joins
  select_from relation joined select

-- ---- inserts

-- the values of a row: a constant for each column
abbrev pub row_of : List Kind → List tree.Constant → Option (List Value)
row_of [] [] = Some []
row_of [] (constant ∷ constants) = None
row_of (kind ∷ kinds) [] = None
row_of (kind ∷ kinds) (constant ∷ constants) = option_and_then (λ value. option_map (λ row. value ∷ row) (row_of kinds constants)) (value_of kind constant)

abbrev pub insert_of : List RelationSchema → tree.Insert → Option Insert
insert_of schema insert = do
  relation ← relation_named insert.relation schema
  row ← row_of (kinds_of relation) insert.values
  Some (record { into = relation.name; row = row })

-- ---- updates and deletes

-- a column that is not the key
abbrev pub settable : List schema.Column → List ℕ → Option Found
settable columns name = do
  found ← column_named columns name
  if nat_eq found.place 0 then None else Some found

-- the integer column to which a sum for an integer column adds
abbrev pub addend : List schema.Column → Kind → List ℕ → Option Found
addend columns kind name = do
  found ← column_named columns name
  if is_integer kind && is_integer found.kind then Some found else None

abbrev pub sum_of : List schema.Column → Kind → List ℕ → Bool → ℕ → Option Assigned
sum_of columns kind name is_negative magnitude = do
  found ← addend columns kind name
  number ← number_of is_negative magnitude
  Some (assigned.Sum found.place number)

-- what a column of a type is set to
abbrev pub assigned_of : List schema.Column → Kind → tree.Assigned → Option Assigned
assigned_of columns kind (tree.constant constant) = option_map assigned.Constant (value_of kind constant)
assigned_of columns kind (tree.sum name is_negative magnitude) = sum_of columns kind name is_negative magnitude

abbrev pub assignment_of : List schema.Column → tree.Assignment → Option Assignment
assignment_of columns assignment = do
  found ← settable columns assignment.column
  value ← assigned_of columns found.kind assignment.value
  Some (record { col = found.place; value = value })

-- whether a column is set
abbrev pub is_set : ℕ → List Assignment → Bool
is_set column sets = list_any (λ set. nat_eq set.col column) sets

-- whether no column is set twice
abbrev pub are_apart : List Assignment → Bool
are_apart [] = true
are_apart (first ∷ others) = not (is_set first.col others) && are_apart others

-- the assignments of an update, no two of them to one column
abbrev pub sets_of : List schema.Column → List tree.Assignment → Option (List Assignment)
sets_of columns assignments = do
  sets ← all_of (assignment_of columns) assignments
  if are_apart sets then Some sets else None

abbrev pub update_of : List RelationSchema → tree.Update → Option Update
update_of schema update = do
  relation ← relation_named update.relation schema
  sets ← sets_of relation.columns update.sets
  conds ← conds_of (one_relation relation) update.conditions
  Some (record { relation = source_of relation; sets = sets; conds = conds })

abbrev pub delete_of : List RelationSchema → tree.Delete → Option Delete
delete_of schema delete = do
  relation ← relation_named delete.relation schema
  conds ← conds_of (one_relation relation) delete.conditions
  Some (record { relation = source_of relation; conds = conds })

-- a REFRAGMENT of a relation that is there
abbrev pub refragment_of : List RelationSchema → List ℕ → Option Refragment
refragment_of schema name = option_map (λ relation. record { relation = source_of relation }) (relation_named name schema)

-- ---- commands

-- the command that a written one is under a schema, if its names, types and limits fit
abbrev pub command_of : List RelationSchema → tree.Written → Option Command
command_of schema (tree.select select) = option_map (λ statement. commands.Run (statements.Select statement)) (select_of schema select)
command_of schema (tree.insert insert) = option_map (λ statement. commands.Run (statements.Insert statement)) (insert_of schema insert)
command_of schema (tree.update update) = option_map (λ statement. commands.Run (statements.Update statement)) (update_of schema update)
command_of schema (tree.delete delete) = option_map (λ statement. commands.Run (statements.Delete statement)) (delete_of schema delete)
command_of schema (tree.refragment relation) = option_map (λ statement. commands.Run (statements.Refragment statement)) (refragment_of schema relation)
command_of schema tree.begin = Some commands.Begin
command_of schema tree.commit = Some commands.Commit
command_of schema tree.rollback = Some commands.Rollback
