-- The text that a statement is printed as: keywords in capitals, one blank between words, around operators
-- and after commas.
use Rattle.std.specs.Prelude.{ℕ, Bool, true, false, List, [], ◌∷◌, ◌++◌, Option, Some, None, map, codes}
use Rattle.std.specs.Fmt.{decimal}
use Rattle.std.specs.List.{flat_map}
use Rattle.terms.specs.declared.cond.Cond.{Cond}
use Rattle.terms.specs.declared.value.Value.{Value}
use Rattle.meaning.specs.declared.statement.Statement.{Statement}
use Rattle.reader.specs.Grammar.{comparison_sign, sum_sign}
use Rattle.reader.specs.Sign.{sign_text}
use Rattle.reader.specs.Tokens.{quoted}
use Rattle.reader.specs.Tree as tree
use Rattle.reader.specs.Written.{plain_column, constant_as, conditions_as, written_as}

-- items, with a separator before each but the first
abbrev pub separated_bytes : {A : Type 0} → (A → List ℕ) → List ℕ → List A → List ℕ
separated_bytes write separator [] = []
separated_bytes write separator (x ∷ xs) = write x ++ flat_map (λ y. separator ++ write y) xs

abbrev pub qualifier_bytes : Option (List ℕ) → List ℕ
qualifier_bytes None = []
qualifier_bytes (Some relation) = relation ++ codes "."

abbrev pub column_bytes : tree.Column → List ℕ
column_bytes column = qualifier_bytes column.relation ++ column.name

abbrev pub minus_bytes : Bool → List ℕ
minus_bytes true = codes "-"
minus_bytes false = []

-- a constant: an integer in decimal, a text in quotes
abbrev pub constant_bytes : tree.Constant → List ℕ
constant_bytes (tree.integer is_negative magnitude) = minus_bytes is_negative ++ decimal magnitude
constant_bytes (tree.text bytes) = quoted bytes

abbrev pub constants_bytes : List tree.Constant → List ℕ
constants_bytes constants = separated_bytes constant_bytes (codes ", ") constants

abbrev pub condition_bytes : tree.Condition → List ℕ
condition_bytes c = column_bytes c.column ++ codes " " ++ sign_text (comparison_sign c.comparison) ++ codes " " ++ constant_bytes c.constant

abbrev pub conditions_bytes : List tree.Condition → List ℕ
conditions_bytes conditions = separated_bytes condition_bytes (codes " AND ") conditions

abbrev pub where_bytes : List tree.Condition → List ℕ
where_bytes [] = []
where_bytes (c ∷ cs) = codes " WHERE " ++ conditions_bytes (c ∷ cs)

abbrev pub listed_bytes : tree.Listed → List ℕ
listed_bytes tree.all = codes "*"
listed_bytes (tree.columns columns) = separated_bytes column_bytes (codes ", ") columns

abbrev pub join_bytes : tree.Join → List ℕ
join_bytes j = codes " JOIN " ++ j.relation ++ codes " ON " ++ column_bytes j.left ++ codes " = " ++ column_bytes j.right

abbrev pub select_bytes : tree.Select → List ℕ
select_bytes s = codes "SELECT " ++ listed_bytes s.listed ++ codes " FROM " ++ s.relation ++ flat_map join_bytes s.joins ++ where_bytes s.conditions

abbrev pub insert_bytes : tree.Insert → List ℕ
insert_bytes i = codes "INSERT INTO " ++ i.relation ++ codes " VALUES (" ++ constants_bytes i.values ++ codes ")"

abbrev pub assigned_bytes : tree.Assigned → List ℕ
assigned_bytes (tree.constant value) = constant_bytes value
assigned_bytes (tree.sum column is_negative magnitude) = column ++ codes " " ++ sign_text (sum_sign is_negative) ++ codes " " ++ decimal magnitude

abbrev pub assignment_bytes : tree.Assignment → List ℕ
assignment_bytes a = a.column ++ codes " = " ++ assigned_bytes a.value

abbrev pub update_bytes : tree.Update → List ℕ
update_bytes u = codes "UPDATE " ++ u.relation ++ codes " SET " ++ separated_bytes assignment_bytes (codes ", ") u.sets ++ where_bytes u.conditions

abbrev pub delete_bytes : tree.Delete → List ℕ
delete_bytes d = codes "DELETE FROM " ++ d.relation ++ where_bytes d.conditions

abbrev pub refragment_bytes : List ℕ → List ℕ
refragment_bytes relation = codes "REFRAGMENT " ++ relation

abbrev pub written_bytes : tree.Written → List ℕ
written_bytes (tree.select s) = select_bytes s
written_bytes (tree.insert i) = insert_bytes i
written_bytes (tree.update u) = update_bytes u
written_bytes (tree.delete d) = delete_bytes d
written_bytes (tree.refragment relation) = refragment_bytes relation
written_bytes tree.begin = codes "BEGIN"
written_bytes tree.commit = codes "COMMIT"
written_bytes tree.rollback = codes "ROLLBACK"

-- a statement's text
abbrev pub statement_bytes : Statement → List ℕ
statement_bytes statement = written_bytes (written_as statement)

-- the text of conditions on columns of these names
abbrev pub conds_bytes : List (List ℕ) → List Cond → List ℕ
conds_bytes names conds = conditions_bytes (conditions_as (plain_column names) conds)

-- the values of a part, as constants
abbrev pub part_bytes : List Value → List ℕ
part_bytes values = constants_bytes (map constant_as values)
