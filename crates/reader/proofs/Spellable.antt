-- Trees whose names are names, whose texts are texts, and whose integers the lexer does not cut.
use Rattle.std.proofs.Common.{ℕ, ◌^◌, ◌<◌, List, Option, Some, None}
use Rattle.std.specs.List.{AllByRecursion}
use Rattle.reader.specs.Tokens.{IsName, IsTextValue}
use Rattle.reader.specs.Tree as tree

abbrev pub IsQualifier : Option (List ℕ) → Type 0
IsQualifier None = Unit {0}
IsQualifier (Some name) = IsName name

pub record IsColumn (column : tree.Column) : Type 0 where
  pub qualifier : IsQualifier column.relation
  pub name : IsName column.name

abbrev pub IsConstant : tree.Constant → Type 0
IsConstant (tree.integer is_negative magnitude) = magnitude < 2 ^ 64
IsConstant (tree.text bytes) = IsTextValue bytes

pub record IsCondition (condition : tree.Condition) : Type 0 where
  pub column : IsColumn condition.column
  pub constant : IsConstant condition.constant

abbrev pub IsListed : tree.Listed → Type 0
IsListed tree.all = Unit {0}
IsListed (tree.columns columns) = AllByRecursion IsColumn columns

pub record IsJoin (join : tree.Join) : Type 0 where
  pub relation : IsName join.relation
  pub left : IsColumn join.left
  pub right : IsColumn join.right

pub record IsSelect (select : tree.Select) : Type 0 where
  pub listed : IsListed select.listed
  pub relation : IsName select.relation
  pub joins : AllByRecursion IsJoin select.joins
  pub conditions : AllByRecursion IsCondition select.conditions

pub record IsInsert (insert : tree.Insert) : Type 0 where
  pub relation : IsName insert.relation
  pub values : AllByRecursion IsConstant insert.values

abbrev pub IsAssigned : tree.Assigned → Type 0
IsAssigned (tree.constant value) = IsConstant value
IsAssigned (tree.sum column is_negative magnitude) = IsName column × (magnitude < 2 ^ 64)

pub record IsAssignment (assignment : tree.Assignment) : Type 0 where
  pub column : IsName assignment.column
  pub value : IsAssigned assignment.value

pub record IsUpdate (update : tree.Update) : Type 0 where
  pub relation : IsName update.relation
  pub sets : AllByRecursion IsAssignment update.sets
  pub conditions : AllByRecursion IsCondition update.conditions

pub record IsDelete (delete : tree.Delete) : Type 0 where
  pub relation : IsName delete.relation
  pub conditions : AllByRecursion IsCondition delete.conditions

abbrev pub IsSpellable : tree.Written → Type 0
IsSpellable (tree.select s) = IsSelect s
IsSpellable (tree.insert i) = IsInsert i
IsSpellable (tree.update u) = IsUpdate u
IsSpellable (tree.delete d) = IsDelete d
IsSpellable (tree.refragment relation) = IsName relation
IsSpellable tree.begin = Unit {0}
IsSpellable tree.commit = Unit {0}
IsSpellable tree.rollback = Unit {0}
