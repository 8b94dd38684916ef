-- How a statement is written: the tree whose text it is printed as.
use Rattle.std.specs.Prelude.{ℕ, suc, pos, negsuc, ◌-◌, nat_lt, if◌then◌else◌, true, false, List, [], ◌∷◌, Option, Some, None, length, map}
use Rattle.std.specs.List.{slice_get}
use Rattle.terms.specs.declared.cond.Cond.{Cond}
use Rattle.terms.specs.declared.value.Value.{Value}
use Rattle.terms.specs.declared.value.Value.TheVariants as values
use Rattle.meaning.specs.declared.statement.Statement.{Statement}
use Rattle.meaning.specs.declared.statement.Statement.TheVariants as statements
use Rattle.meaning.specs.declared.statement.Source.{Source}
use Rattle.meaning.specs.declared.statement.Join.{Join}
use Rattle.meaning.specs.declared.statement.Select.{Select}
use Rattle.meaning.specs.declared.statement.Insert.{Insert}
use Rattle.meaning.specs.declared.statement.Assigned.{Assigned}
use Rattle.meaning.specs.declared.statement.Assigned.TheVariants as assigned
use Rattle.meaning.specs.declared.statement.Assignment.{Assignment}
use Rattle.meaning.specs.declared.statement.Update.{Update}
use Rattle.meaning.specs.declared.statement.Delete.{Delete}
use Rattle.reader.specs.Tree as tree

-- the name at a place, nothing where there is none
abbrev pub or_nothing : Option (List ℕ) → List ℕ
or_nothing None = []
or_nothing (Some name) = name

abbrev pub name_in : List (List ℕ) → ℕ → List ℕ
name_in names place = or_nothing (slice_get names place)

-- a column by its plain name
abbrev pub plain_column : List (List ℕ) → ℕ → tree.Column
plain_column names place = record { relation = None; name = name_in names place }

-- a column with its relation
abbrev pub qualified_column : Source → ℕ → tree.Column
qualified_column source place = record { relation = Some source.name; name = name_in source.columns place }

-- a column of a relation and of those that are joined: those of each are counted on from all before them
abbrev pub column_of_joined : Source → List Join → ℕ → tree.Column
column_of_joined from [] place = qualified_column from place
column_of_joined from (join ∷ joins) place =
    if nat_lt place (length from.columns) then qualified_column from place else column_of_joined join.relation joins (place - length from.columns)

-- a column of a select: qualified exactly in a join
abbrev pub column_in : Source → List Join → ℕ → tree.Column
column_in from [] place = plain_column from.columns place
column_in from (join ∷ joins) place = column_of_joined from (join ∷ joins) place

abbrev pub constant_as : Value → tree.Constant
constant_as (values.Int (pos n)) = tree.integer false n
constant_as (values.Int (negsuc n)) = tree.integer true (suc n)
constant_as (values.Text bytes) = tree.text bytes

abbrev pub condition_as : (ℕ → tree.Column) → Cond → tree.Condition
condition_as column cond = record { column = column cond.col; comparison = cond.cmp; constant = constant_as cond.value }

abbrev pub conditions_as : (ℕ → tree.Column) → List Cond → List tree.Condition
conditions_as column conds = map (condition_as column) conds

-- a join: the column of the relations before it first, then the key of the joined one
abbrev pub join_as : (ℕ → tree.Column) → Join → tree.Join
join_as column join = record { relation = join.relation.name; left = column join.col; right = qualified_column join.relation 0 }

abbrev pub select_as : Select → tree.Select
select_as select = record {
  listed = tree.columns (map (column_in select.from select.joins) select.columns);
  relation = select.from.name;
  joins = map (join_as (column_in select.from select.joins)) select.joins;
  conditions = conditions_as (column_in select.from select.joins) select.conds;
}

abbrev pub insert_as : Insert → tree.Insert
insert_as insert = record { relation = insert.into; values = map constant_as insert.row }

-- what a column is set to: a sum with a negative number takes its magnitude away
abbrev pub assigned_as : List (List ℕ) → Assigned → tree.Assigned
assigned_as columns (assigned.Constant value) = tree.constant (constant_as value)
assigned_as columns (assigned.Sum col (pos n)) = tree.sum (name_in columns col) false n
assigned_as columns (assigned.Sum col (negsuc n)) = tree.sum (name_in columns col) true (suc n)

abbrev pub assignment_as : List (List ℕ) → Assignment → tree.Assignment
assignment_as columns assignment = record { column = name_in columns assignment.col; value = assigned_as columns assignment.value }

abbrev pub update_as : Update → tree.Update
update_as update = record {
  relation = update.relation.name;
  sets = map (assignment_as update.relation.columns) update.sets;
  conditions = conditions_as (plain_column update.relation.columns) update.conds;
}

abbrev pub delete_as : Delete → tree.Delete
delete_as delete = record { relation = delete.relation.name; conditions = conditions_as (plain_column delete.relation.columns) delete.conds }

-- the tree that a statement is written as
abbrev pub written_as : Statement → tree.Written
written_as (statements.Select select) = tree.select (select_as select)
written_as (statements.Insert insert) = tree.insert (insert_as insert)
written_as (statements.Update update) = tree.update (update_as update)
written_as (statements.Delete delete) = tree.delete (delete_as delete)
written_as (statements.Refragment refragment) = tree.refragment refragment.relation.name
