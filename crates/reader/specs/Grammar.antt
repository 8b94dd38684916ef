-- The grammar: how the tokens of a command are made.
use Rattle.std.specs.Prelude.{◌≡◌, ℕ, ◌≤◌, Bool, true, false, List, [], ◌∷◌, ◌++◌, length, Option, Some, None, ◌⊎◌}
use Rattle.reader.specs.declared.keyword.Keyword.TheVariants as word
use Rattle.reader.specs.declared.sign.Sign.{Sign}
use Rattle.reader.specs.declared.sign.Sign.TheVariants as mark
use Rattle.reader.specs.Symbol.{Symbol, key, sign, name, number, text}
use Rattle.reader.specs.Tree as tree
use Rattle.terms.specs.declared.cond.Cmp.{Cmp}
use Rattle.terms.specs.declared.cond.Cmp.TheVariants as comparison

-- items, with a separator before each but the first
abbrev pub continued : {A : Type 0} → (A → List Symbol) → Symbol → List A → List Symbol
continued write separator [] = []
continued write separator (x ∷ xs) = separator ∷ (write x ++ continued write separator xs)

abbrev pub separated : {A : Type 0} → (A → List Symbol) → Symbol → List A → List Symbol
separated write separator [] = []
separated write separator (x ∷ xs) = write x ++ continued write separator xs

-- column = name [ "." name ]
abbrev pub qualifier_text : Option (List ℕ) → List Symbol
qualifier_text None = []
qualifier_text (Some relation) = name relation ∷ sign mark.Dot ∷ []

abbrev pub column_text : tree.Column → List Symbol
column_text c = qualifier_text c.relation ++ name c.name ∷ []

-- constant = [ "-" ] integer | text
abbrev pub minus_text : Bool → List Symbol
minus_text true = sign mark.Minus ∷ []
minus_text false = []

abbrev pub constant_text : tree.Constant → List Symbol
constant_text (tree.integer is_negative magnitude) = minus_text is_negative ++ number magnitude ∷ []
constant_text (tree.text bytes) = text bytes ∷ []

-- list = "*" | column { "," column }
abbrev pub listed_text : tree.Listed → List Symbol
listed_text tree.all = sign mark.Star ∷ []
listed_text (tree.columns cs) = separated column_text (sign mark.Comma) cs

-- comparison = "=" | "<>" | "<" | "<=" | ">" | ">="
abbrev pub comparison_sign : Cmp → Sign
comparison_sign comparison.Eq = mark.Equal
comparison_sign comparison.Ne = mark.NotEqual
comparison_sign comparison.Lt = mark.Less
comparison_sign comparison.Le = mark.LessOrEqual
comparison_sign comparison.Gt = mark.Greater
comparison_sign comparison.Ge = mark.GreaterOrEqual

-- condition = column comparison constant
abbrev pub condition_text : tree.Condition → List Symbol
condition_text c = column_text c.column ++ sign (comparison_sign c.comparison) ∷ constant_text c.constant

-- conditions = condition { AND condition }
abbrev pub conditions_text : List tree.Condition → List Symbol
conditions_text cs = separated condition_text (key word.And) cs

-- [ WHERE conditions ]: without conditions, no WHERE
abbrev pub where_text : List tree.Condition → List Symbol
where_text [] = []
where_text (c ∷ cs) = key word.Where ∷ conditions_text (c ∷ cs)

-- join = JOIN name ON column "=" column
abbrev pub join_text : tree.Join → List Symbol
join_text j = key word.Join ∷ name j.relation ∷ key word.On ∷ (column_text j.left ++ sign mark.Equal ∷ column_text j.right)

-- { join }
abbrev pub joins_text : List tree.Join → List Symbol
joins_text [] = []
joins_text (j ∷ js) = join_text j ++ joins_text js

-- select = SELECT list FROM name [ join [ join ] ] [ WHERE conditions ]
abbrev pub select_text : tree.Select → List Symbol
select_text s = key word.Select ∷ (listed_text s.listed ++ key word.From ∷ name s.relation ∷ (joins_text s.joins ++ where_text s.conditions))

-- insert = INSERT INTO name VALUES "(" constant { "," constant } ")"
abbrev pub insert_text : tree.Insert → List Symbol
insert_text i = key word.Insert ∷ key word.Into ∷ name i.relation ∷ key word.Values ∷ sign mark.Open ∷ (separated constant_text (sign mark.Comma) i.values ++ sign mark.Close ∷ [])

-- what is assigned = constant | name ( "+" | "-" ) integer
abbrev pub sum_sign : Bool → Sign
sum_sign true = mark.Minus
sum_sign false = mark.Plus

abbrev pub assigned_text : tree.Assigned → List Symbol
assigned_text (tree.constant value) = constant_text value
assigned_text (tree.sum column is_negative magnitude) = name column ∷ sign (sum_sign is_negative) ∷ number magnitude ∷ []

-- assignment = name "=" what is assigned
abbrev pub assignment_text : tree.Assignment → List Symbol
assignment_text a = name a.column ∷ sign mark.Equal ∷ assigned_text a.value

-- update = UPDATE name SET assignment { "," assignment } [ WHERE conditions ]
abbrev pub update_text : tree.Update → List Symbol
update_text u = key word.Update ∷ name u.relation ∷ key word.Set ∷ (separated assignment_text (sign mark.Comma) u.sets ++ where_text u.conditions)

-- delete = DELETE FROM name [ WHERE conditions ]
abbrev pub delete_text : tree.Delete → List Symbol
delete_text d = key word.Delete ∷ key word.From ∷ name d.relation ∷ where_text d.conditions

-- refragment = REFRAGMENT name
abbrev pub refragment_text : List ℕ → List Symbol
refragment_text relation = key word.Refragment ∷ name relation ∷ []

-- a statement, or BEGIN, COMMIT or ROLLBACK
abbrev pub written_text : tree.Written → List Symbol
written_text (tree.select s) = select_text s
written_text (tree.insert i) = insert_text i
written_text (tree.update u) = update_text u
written_text (tree.delete d) = delete_text d
written_text (tree.refragment relation) = refragment_text relation
written_text tree.begin = key word.Begin ∷ []
written_text tree.commit = key word.Commit ∷ []
written_text tree.rollback = key word.Rollback ∷ []

-- at least one
abbrev pub IsFilled : {A : Type 0} → List A → Type 0
IsFilled [] = ⊥
IsFilled (x ∷ xs) = Unit {0}

abbrev pub IsListable : tree.Listed → Type 0
IsListable tree.all = Unit {0}
IsListable (tree.columns cs) = IsFilled cs

-- no list of it is empty but those of joins, at most two, and of conditions
abbrev pub IsWritable : tree.Written → Type 0
IsWritable (tree.select s) = IsListable s.listed × (length s.joins ≤ 2)
IsWritable (tree.insert i) = IsFilled i.values
IsWritable (tree.update u) = IsFilled u.sets
IsWritable (tree.delete d) = Unit {0}
IsWritable (tree.refragment relation) = Unit {0}
IsWritable tree.begin = Unit {0}
IsWritable tree.commit = Unit {0}
IsWritable tree.rollback = Unit {0}

-- nothing, or one semicolon
abbrev pub IsEnd : List Symbol → Type 0
IsEnd rest = (rest ≡ []) ⊎ (rest ≡ sign mark.Semicolon ∷ [])

-- the tokens write the command: all of them, with or without a semicolon after
abbrev pub Writes : List Symbol → tree.Written → Type 0
Writes symbols written = IsWritable written × (rest : List Symbol) × (symbols ≡ written_text written ++ rest) × IsEnd rest

-- tokens write one command at most
abbrev pub WriteOneCommand : Type 0
WriteOneCommand = (symbols : List Symbol) (one other : tree.Written) → Writes symbols one → Writes symbols other → one ≡ other

-- the tokens write the conditions: all of them, with no WHERE before and no semicolon after
abbrev pub WritesConditions : List Symbol → List tree.Condition → Type 0
WritesConditions symbols conditions = IsFilled conditions × (symbols ≡ conditions_text conditions)

-- tokens write one list of conditions at most
abbrev pub WriteOneListOfConditions : Type 0
WriteOneListOfConditions = (symbols : List Symbol) (one other : List tree.Condition) → WritesConditions symbols one → WritesConditions symbols other → one ≡ other
