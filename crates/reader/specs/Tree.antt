-- The tree of a command as it is written.
use Rattle.std.specs.Prelude.{ℕ, Bool, List, Option, map}
use Rattle.std.specs.Option.{option_copied}
use Rattle.std.specs.Global.{Vec}
use Rattle.reader.specs.declared.tree.Column as code_column
use Rattle.reader.specs.declared.tree.Constant as code_constant
use Rattle.reader.specs.declared.tree.Constant.TheVariants as constants
use Rattle.reader.specs.declared.tree.Listed as code_listed
use Rattle.reader.specs.declared.tree.Listed.TheVariants as lists
use Rattle.reader.specs.declared.tree.Condition as code_condition
use Rattle.reader.specs.declared.tree.Join as code_join
use Rattle.reader.specs.declared.tree.Select as code_select
use Rattle.reader.specs.declared.tree.Insert as code_insert
use Rattle.reader.specs.declared.tree.Assigned as code_assigned
use Rattle.reader.specs.declared.tree.Assigned.TheVariants as assigned
use Rattle.reader.specs.declared.tree.Assignment as code_assignment
use Rattle.reader.specs.declared.tree.Update as code_update
use Rattle.reader.specs.declared.tree.Delete as code_delete
use Rattle.reader.specs.declared.tree.Written as code_written
use Rattle.reader.specs.declared.tree.Written.TheVariants as commands
use Rattle.terms.specs.declared.cond.Cmp.{Cmp}

-- A column as it is written, with or without its relation.
pub record Column : Type 0 where
  pub relation : Option (List ℕ)
  pub name : List ℕ

-- A constant: the magnitude of an integer stands beside its sign.
pub data Constant : Type 0 where
  integer : (is_negative : Bool) (magnitude : ℕ) → Constant
  text : (bytes : List ℕ) → Constant

-- What a select lists: all columns, or these.
pub data Listed : Type 0 where
  all : Listed
  columns : (cs : List Column) → Listed

-- How the value in a column compares with a constant.
pub record Condition : Type 0 where
  pub column : Column
  pub comparison : Cmp
  pub constant : Constant

-- A further relation, and the columns on both sides of the sign after its ON.
pub record Join : Type 0 where
  pub relation : List ℕ
  pub left : Column
  pub right : Column

-- Where there is no WHERE, there is no condition.
pub record Select : Type 0 where
  pub listed : Listed
  pub relation : List ℕ
  pub joins : List Join
  pub conditions : List Condition

pub record Insert : Type 0 where
  pub relation : List ℕ
  pub values : List Constant

-- What a column is set to: a constant, or the value of a column and a number added or taken away.
pub data Assigned : Type 0 where
  constant : (value : Constant) → Assigned
  sum : (column : List ℕ) (is_negative : Bool) (magnitude : ℕ) → Assigned

pub record Assignment : Type 0 where
  pub column : List ℕ
  pub value : Assigned

pub record Update : Type 0 where
  pub relation : List ℕ
  pub sets : List Assignment
  pub conditions : List Condition

pub record Delete : Type 0 where
  pub relation : List ℕ
  pub conditions : List Condition

-- A command as it is written, before its names mean anything.
pub data Written : Type 0 where
  select : (selected : Select) → Written
  insert : (inserted : Insert) → Written
  update : (updated : Update) → Written
  delete : (deleted : Delete) → Written
  refragment : (relation : List ℕ) → Written
  begin : Written
  commit : Written
  rollback : Written

-- The tree of the code without offsets.

abbrev pub column_tree : code_column.Column → Column
column_tree c = record { relation = option_copied c.relation; name = c.name.now }

abbrev pub constant_tree : code_constant.Constant → Constant
constant_tree (constants.Integer is_negative magnitude _ _) = integer is_negative magnitude
constant_tree (constants.Text bytes _) = text bytes.now

abbrev pub columns_tree : Vec code_column.Column → List Column
columns_tree cs = map column_tree cs.items

abbrev pub constants_tree : Vec code_constant.Constant → List Constant
constants_tree values = map constant_tree values.items

abbrev pub listed_tree : code_listed.Listed → Listed
listed_tree (lists.All _) = all
listed_tree (lists.Columns cs) = columns (columns_tree cs)

abbrev pub condition_tree : code_condition.Condition → Condition
condition_tree c = record { column = column_tree c.column; comparison = c.comparison; constant = constant_tree c.constant }

abbrev pub conditions_tree : Vec code_condition.Condition → List Condition
conditions_tree cs = map condition_tree cs.items

abbrev pub join_tree : code_join.Join → Join
join_tree j = record { relation = j.relation.name.now; left = column_tree j.left; right = column_tree j.right }

abbrev pub joins_tree : Vec code_join.Join → List Join
joins_tree js = map join_tree js.items

abbrev pub select_tree : code_select.Select → Select
select_tree s = record { listed = listed_tree s.listed; relation = s.relation.name.now; joins = joins_tree s.joins; conditions = conditions_tree s.conditions }

abbrev pub insert_tree : code_insert.Insert → Insert
insert_tree i = record { relation = i.relation.name.now; values = constants_tree i.values }

abbrev pub assigned_tree : code_assigned.Assigned → Assigned
assigned_tree (assigned.Constant value) = constant (constant_tree value)
assigned_tree (assigned.Sum column is_negative magnitude _) = sum column.name.now is_negative magnitude

abbrev pub assignment_tree : code_assignment.Assignment → Assignment
assignment_tree a = record { column = a.column.name.now; value = assigned_tree a.value }

abbrev pub assignments_tree : Vec code_assignment.Assignment → List Assignment
assignments_tree sets = map assignment_tree sets.items

abbrev pub update_tree : code_update.Update → Update
update_tree u = record { relation = u.relation.name.now; sets = assignments_tree u.sets; conditions = conditions_tree u.conditions }

abbrev pub delete_tree : code_delete.Delete → Delete
delete_tree d = record { relation = d.relation.name.now; conditions = conditions_tree d.conditions }

abbrev pub written_tree : code_written.Written → Written
written_tree (commands.Select s) = select (select_tree s)
written_tree (commands.Insert i) = insert (insert_tree i)
written_tree (commands.Update u) = update (update_tree u)
written_tree (commands.Delete d) = delete (delete_tree d)
written_tree (commands.Refragment relation) = refragment relation.name.now
written_tree commands.Begin = begin
written_tree commands.Commit = commit
written_tree commands.Rollback = rollback
