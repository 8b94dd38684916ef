-- What a refusal says of what it refuses, by its rule.
use Rattle.std.specs.Prelude.{◌≡◌, ◌≢◌, ◌⊎◌, ◌<◌, ◌-◌, ◌^◌, ℕ, true, false, List, [], ◌∷◌, ◌++◌, Some, None, Result, IfErr, length, nat_eq}
use Rattle.std.specs.Char.{is_ascii_uppercase, is_ascii_control}
use Rattle.std.specs.Cmp.Lexicographic.{pointwise}
use Rattle.std.specs.List.{list_any}
use Rattle.std.specs.Str.{is_utf8}
use Rattle.terms.specs.declared.value.Kind.{Kind}
use Rattle.terms.specs.declared.value.Kind.TheVariants as kinds
use Rattle.meaning.specs.declared.schema.Column as schema
use Rattle.meaning.specs.declared.schema.RelationSchema.{RelationSchema}
use Rattle.meaning.specs.Schema.{relation_named, kinds_of}
use Rattle.reader.specs.declared.fault.ReadFault.{ReadFault}
use Rattle.reader.specs.declared.fault.Rule.{Rule}
use Rattle.reader.specs.declared.fault.Rule.TheVariants as rules
use Rattle.reader.specs.declared.scope.Found.{Found}
use Rattle.meaning.specs.declared.statement.Assignment.{Assignment}
use Rattle.reader.specs.Grammar.{Writes, WritesConditions}
use Rattle.reader.specs.Names.{Joined, all_of, greatest, other_than_key, other_of, others_of, joined_relations, settable, assignment_of, are_apart}
use Rattle.reader.specs.Scope.{Scope, one_relation, columns_alone, types_in, column_named, all_found, found_in}
use Rattle.reader.specs.Symbol.{Symbol}
use Rattle.reader.specs.Tokens.{AreTokens}
use Rattle.reader.specs.Tree as tree

-- what is said of a refusal's rule, unless memory ran out
abbrev pub Refuses : {X : Type 0} → Result X ReadFault → (Rule → Type 0) → Type 0
Refuses result says = IfErr result (λ fault. fault.rule ≢ rules.Memory → says fault.rule)

-- what is said of some item of a list
abbrev pub SomeOf : {A : Type 0} → (A → Type 0) → List A → Type 0
SomeOf says [] = ⊥
SomeOf says (x ∷ xs) = says x ⊎ SomeOf says xs

-- no relation has the name
abbrev pub RelationBreaks : Rule → List RelationSchema → List ℕ → Type 0
RelationBreaks rules.NoRelation schema name = relation_named name schema ≡ None
RelationBreaks rule schema name = ⊥

-- a column is in none of the tables, or in more than one
abbrev pub ColumnBreaks : Rule → Scope → tree.Column → Type 0
ColumnBreaks rules.NoColumn scope column = all_found 0 scope column ≡ []
ColumnBreaks rules.Ambiguous scope column = 1 < length (all_found 0 scope column)
ColumnBreaks rule scope column = ⊥

-- the type of a constant
abbrev pub constant_kind : tree.Constant → Kind
constant_kind (tree.integer is_negative magnitude) = kinds.Int
constant_kind (tree.text bytes) = kinds.Text

-- an integer that 64 bits don't hold
abbrev pub IsTooLarge : tree.Constant → Type 0
IsTooLarge (tree.integer is_negative magnitude) = greatest is_negative < magnitude
IsTooLarge (tree.text bytes) = ⊥

-- a constant is of another type than its column, or too large
abbrev pub ConstantBreaks : Rule → Kind → tree.Constant → Type 0
ConstantBreaks rules.WrongType kind constant = constant_kind constant ≢ kind
ConstantBreaks rules.Limit kind constant = IsTooLarge constant
ConstantBreaks rule kind constant = ⊥

-- a text of more bytes than a condition compares with
abbrev pub IsTooLong : tree.Constant → Type 0
IsTooLong (tree.integer is_negative magnitude) = ⊥
IsTooLong (tree.text bytes) = 100 < length bytes

-- what a condition compares with is of another type than its column, too large or too long
abbrev pub ComparedBreaks : Rule → Kind → tree.Constant → Type 0
ComparedBreaks rules.WrongType kind constant = constant_kind constant ≢ kind
ComparedBreaks rules.Limit kind constant = IsTooLarge constant ⊎ IsTooLong constant
ComparedBreaks rule kind constant = ⊥

-- a condition's column is not to be found, or its constant does not fit the column
abbrev pub ConditionBreaks : Rule → Scope → tree.Condition → Type 0
ConditionBreaks rule scope condition =
    ColumnBreaks rule scope condition.column
    ⊎ ((found : Found) × (found_in scope condition.column ≡ Some found) × ComparedBreaks rule found.kind condition.constant)

-- one of the conditions breaks the rule, or there are more than 8
abbrev pub ConditionsBreak : Rule → Scope → List tree.Condition → Type 0
ConditionsBreak rule scope conditions = SomeOf (ConditionBreaks rule scope) conditions ⊎ ((rule ≡ rules.Limit) × (8 < length conditions))

-- no column has the name
abbrev pub NameBreaks : Rule → List schema.Column → List ℕ → Type 0
NameBreaks rules.NoColumn columns name = column_named columns name ≡ None
NameBreaks rule columns name = ⊥

-- a column that is set is not there, or is the key
abbrev pub SettableBreaks : Rule → List schema.Column → List ℕ → Type 0
SettableBreaks rules.NoColumn columns name = column_named columns name ≡ None
SettableBreaks rules.KeyColumn columns name = (found : Found) × (column_named columns name ≡ Some found) × (found.place ≡ 0)
SettableBreaks rule columns name = ⊥

-- the column of a sum is not there, or it or the one that is set is no integer
abbrev pub AddendBreaks : Rule → List schema.Column → Kind → List ℕ → Type 0
AddendBreaks rules.NoColumn columns kind name = column_named columns name ≡ None
AddendBreaks rules.WrongType columns kind name =
    (found : Found) × (column_named columns name ≡ Some found) × ((kind ≢ kinds.Int) ⊎ (found.kind ≢ kinds.Int))
AddendBreaks rule columns kind name = ⊥

-- what a column is set to does not fit it
abbrev pub AssignedBreaks : Rule → List schema.Column → Kind → tree.Assigned → Type 0
AssignedBreaks rule columns kind (tree.constant constant) = ConstantBreaks rule kind constant
AssignedBreaks rule columns kind (tree.sum name is_negative magnitude) = AddendBreaks rule columns kind name ⊎ ((rule ≡ rules.Limit) × (2 ^ 63 - 1 < magnitude))

-- an assignment's column cannot be set, or not to this
abbrev pub AssignmentBreaks : Rule → List schema.Column → tree.Assignment → Type 0
AssignmentBreaks rule columns assignment =
    SettableBreaks rule columns assignment.column
    ⊎ ((found : Found) × (settable columns assignment.column ≡ Some found) × AssignedBreaks rule columns found.kind assignment.value)

-- one of the assignments breaks the rule, or two are to one column
abbrev pub AssignmentsBreak : Rule → List schema.Column → List tree.Assignment → Type 0
AssignmentsBreak rule columns assignments =
    SomeOf (AssignmentBreaks rule columns) assignments
    ⊎ ((rule ≡ rules.Limit) × ((sets : List Assignment) → all_of (assignment_of columns) assignments ≡ Some sets → are_apart sets ≡ false))

-- one of the listed columns is not to be found, or there are more than 32
abbrev pub ListedBreaks : Rule → Scope → tree.Listed → Type 0
ListedBreaks rule scope tree.all = (rule ≡ rules.Limit) × (32 < length (types_in scope))
ListedBreaks rule scope (tree.columns columns) = SomeOf (ColumnBreaks rule scope) columns ⊎ ((rule ≡ rules.Limit) × (32 < length columns))

-- the columns on both sides of ON are not the key and a column before it, or one is no integer
abbrev pub SidesBreak : Rule → Joined → Found → Found → Type 0
SidesBreak rules.JoinNotKey joined left right = other_than_key joined left.place right.place ≡ None
SidesBreak rules.WrongType joined left right = (left.kind ≢ kinds.Int) ⊎ (right.kind ≢ kinds.Int)
SidesBreak rule joined left right = ⊥

-- a column of ON is not to be found, or the two join nothing
abbrev pub OnBreaks : Rule → Scope → Joined → Type 0
OnBreaks rule scope joined =
    (ColumnBreaks rule scope joined.written.left ⊎ ColumnBreaks rule scope joined.written.right)
    ⊎ ((left right : Found) × (found_in scope joined.written.left ≡ Some left) × (found_in scope joined.written.right ≡ Some right) × SidesBreak rule joined left right)

-- the relation after JOIN is not there, or is one of those before it
abbrev pub OtherBreaks : Rule → List RelationSchema → List (List ℕ) → tree.Join → Type 0
OtherBreaks rule schema earlier join =
    RelationBreaks rule schema join.relation
    ⊎ ((rule ≡ rules.JoinNotKey) × (other : RelationSchema) × (relation_named join.relation schema ≡ Some other) × (list_any (λ name. pointwise nat_eq name other.name) earlier ≡ true))

-- one of the relations after JOIN breaks the rule, where those before it are there
abbrev pub OthersBreak : Rule → List RelationSchema → List (List ℕ) → List tree.Join → Type 0
OthersBreak rule schema earlier [] = ⊥
OthersBreak rule schema earlier (join ∷ joins) =
    OtherBreaks rule schema earlier join
    ⊎ ((other : RelationSchema) × (other_of schema earlier join ≡ Some other) × OthersBreak rule schema (earlier ++ other.name ∷ []) joins)

-- a constant does not fit the column at its place
abbrev pub ValuesBreak : Rule → List Kind → List tree.Constant → Type 0
ValuesBreak rule [] constants = ⊥
ValuesBreak rule (kind ∷ kinds) [] = ⊥
ValuesBreak rule (kind ∷ kinds) (constant ∷ constants) = ConstantBreaks rule kind constant ⊎ ValuesBreak rule kinds constants

-- there are not as many constants as columns, or one of them does not fit
abbrev pub RowBreaks : Rule → List Kind → List tree.Constant → Type 0
RowBreaks rule kinds constants = ((rule ≡ rules.Count) × (length constants ≢ length kinds)) ⊎ ValuesBreak rule kinds constants

-- what a select lists, one of its ONs or its conditions
abbrev pub SelectFromBreaks : Rule → Scope → List Joined → tree.Select → Type 0
SelectFromBreaks rule scope joined select =
    (ListedBreaks rule scope select.listed ⊎ SomeOf (OnBreaks rule scope) joined)
    ⊎ ConditionsBreak rule scope select.conditions

-- a relation of a select, or what it says of them
abbrev pub SelectBreaks : Rule → List RelationSchema → tree.Select → Type 0
SelectBreaks rule schema select =
    RelationBreaks rule schema select.relation
    ⊎ ((relation : RelationSchema) × (relation_named select.relation schema ≡ Some relation)
    × (OthersBreak rule schema (relation.name ∷ []) select.joins
    ⊎ ((joined : List Joined) × (others_of schema (relation.name ∷ []) (length relation.columns) select.joins ≡ Some joined)
    × SelectFromBreaks rule (joined_relations relation joined) joined select)))

abbrev pub InsertBreaks : Rule → List RelationSchema → tree.Insert → Type 0
InsertBreaks rule schema insert =
    RelationBreaks rule schema insert.relation
    ⊎ ((relation : RelationSchema) × (relation_named insert.relation schema ≡ Some relation) × RowBreaks rule (kinds_of relation) insert.values)

abbrev pub UpdateBreaks : Rule → List RelationSchema → tree.Update → Type 0
UpdateBreaks rule schema update =
    RelationBreaks rule schema update.relation
    ⊎ ((relation : RelationSchema) × (relation_named update.relation schema ≡ Some relation)
    × (AssignmentsBreak rule relation.columns update.sets ⊎ ConditionsBreak rule (one_relation relation) update.conditions))

abbrev pub DeleteBreaks : Rule → List RelationSchema → tree.Delete → Type 0
DeleteBreaks rule schema delete =
    RelationBreaks rule schema delete.relation
    ⊎ ((relation : RelationSchema) × (relation_named delete.relation schema ≡ Some relation) × ConditionsBreak rule (one_relation relation) delete.conditions)

-- a name, a type or a limit of a written command breaks the rule
abbrev pub WrittenBreaks : Rule → List RelationSchema → tree.Written → Type 0
WrittenBreaks rule schema (tree.select select) = SelectBreaks rule schema select
WrittenBreaks rule schema (tree.insert insert) = InsertBreaks rule schema insert
WrittenBreaks rule schema (tree.update update) = UpdateBreaks rule schema update
WrittenBreaks rule schema (tree.delete delete) = DeleteBreaks rule schema delete
WrittenBreaks rule schema (tree.refragment relation) = RelationBreaks rule schema relation
WrittenBreaks rule schema tree.begin = ⊥
WrittenBreaks rule schema tree.commit = ⊥
WrittenBreaks rule schema tree.rollback = ⊥

-- a word that is no keyword is no name: it has a capital, or more than 24 bytes
abbrev pub WordBreaks : Rule → List ℕ → Type 0
WordBreaks rule word = ((rule ≡ rules.Character) × (list_any is_ascii_uppercase word ≡ true)) ⊎ ((rule ≡ rules.Limit) × (24 < length word))

-- what stands between quotes has a control character or is no UTF-8, or has more than 200 bytes
abbrev pub QuotedBreaks : Rule → List ℕ → Type 0
QuotedBreaks rule value =
    ((rule ≡ rules.Character) × ((list_any is_ascii_control value ≡ true) ⊎ (is_utf8 value ≡ false)))
    ⊎ ((rule ≡ rules.Limit) × (200 < length value))

-- the rules by which bytes are no tokens
abbrev pub IsTokenRule : Rule → Type 0
IsTokenRule rule = (rule ≡ rules.Character) ⊎ (rule ≡ rules.Limit)

-- the text is too long, or has no tokens, or they write no command, or what is written breaks the rule
abbrev pub TextBreaks : Rule → List RelationSchema → List ℕ → Type 0
TextBreaks rule schema text =
    (((rule ≡ rules.TooLong) × (4096 < length text))
    ⊎ (IsTokenRule rule × ((symbols : List Symbol) → ¬ (AreTokens text symbols))))
    ⊎ (((rule ≡ rules.Syntax) × (symbols : List Symbol) × AreTokens text symbols × ((written : tree.Written) → ¬ (Writes symbols written)))
    ⊎ ((symbols : List Symbol) × (written : tree.Written) × AreTokens text symbols × Writes symbols written × WrittenBreaks rule schema written))

-- the same of the text of conditions
abbrev pub CondsTextBreaks : Rule → List schema.Column → List ℕ → Type 0
CondsTextBreaks rule columns text =
    (((rule ≡ rules.TooLong) × (4096 < length text))
    ⊎ (IsTokenRule rule × ((symbols : List Symbol) → ¬ (AreTokens text symbols))))
    ⊎ (((rule ≡ rules.Syntax) × (symbols : List Symbol) × AreTokens text symbols × ((written : List tree.Condition) → ¬ (WritesConditions symbols written)))
    ⊎ ((symbols : List Symbol) × (written : List tree.Condition) × AreTokens text symbols × WritesConditions symbols written × ConditionsBreak rule (columns_alone columns) written))
