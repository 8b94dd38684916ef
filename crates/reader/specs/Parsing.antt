-- The parser's own words, which a reader may skip: the grammar read from left to right, as functions on lists of tokens.
use Rattle.std.specs.Prelude.{◌≡◌, ℕ, zero, suc, Bool, true, false, List, [], ◌∷◌, length, Option, Some, None, Result, Ok, Err, ◌==◌, if◌then◌else◌}
use Rattle.reader.specs.declared.fault.Rule.{Rule}
use Rattle.reader.specs.declared.fault.Rule.TheVariants as rules
use Rattle.reader.specs.declared.fault.ReadFault.{ReadFault}
use Rattle.reader.specs.declared.keyword.Keyword.{Keyword}
use Rattle.reader.specs.declared.keyword.Keyword.TheVariants as word
use Rattle.reader.specs.declared.sign.Sign.{Sign}
use Rattle.reader.specs.declared.sign.Sign.TheVariants as mark
use Rattle.reader.specs.Symbol.{Symbol, key, sign, name, number, text}
use Rattle.reader.specs.Tree as tree
use Rattle.terms.specs.declared.cond.Cmp.{Cmp}
use Rattle.terms.specs.declared.cond.Cmp.TheVariants as comparison

unfoldable pub and_then : {A B : Type 0} → Option A → (A → Option B) → Option B
and_then None f = None
and_then (Some x) f = f x

infixl 10 ◌>>=◌
abbrev pub ◌>>=◌ : {A B : Type 0} → Option A → (A → Option B) → Option B
o >>= f = and_then o f

-- Which fault answers where nothing was read: that memory ran out says nothing of the text.
abbrev pub Fails : {Y : Type 0} → Rule → Option Y → Type 0
Fails rules.Memory read = Unit {0}
Fails rules.Syntax read = read ≡ None
Fails _ read = ⊥

-- What a function returned, seen by view, and the tokens that it left, are what was to be read.
abbrev pub Reads : {X Y : Type 0} → (X → Y) → Result X ReadFault → List Symbol → Option (Y × List Symbol) → Type 0
Reads view (Ok x) rest read = read ≡ Some (view x, rest)
Reads view (Err fault) rest read = Fails fault.rule read

abbrev pub Gives : {X Y : Type 0} → (X → Y) → Result X ReadFault → Option Y → Type 0
Gives view (Ok x) read = read ≡ Some (view x)
Gives view (Err fault) read = Fails fault.rule read

-- ---- one token

abbrev pub keyword_number : Keyword → ℕ
keyword_number word.Select = 0
keyword_number word.From = 1
keyword_number word.Join = 2
keyword_number word.On = 3
keyword_number word.Where = 4
keyword_number word.And = 5
keyword_number word.Insert = 6
keyword_number word.Into = 7
keyword_number word.Values = 8
keyword_number word.Update = 9
keyword_number word.Set = 10
keyword_number word.Delete = 11
keyword_number word.Begin = 12
keyword_number word.Commit = 13
keyword_number word.Rollback = 14
keyword_number word.Refragment = 15

abbrev pub sign_number : Sign → ℕ
sign_number mark.Comma = 0
sign_number mark.Dot = 1
sign_number mark.Open = 2
sign_number mark.Close = 3
sign_number mark.Equal = 4
sign_number mark.NotEqual = 5
sign_number mark.Less = 6
sign_number mark.LessOrEqual = 7
sign_number mark.Greater = 8
sign_number mark.GreaterOrEqual = 9
sign_number mark.Plus = 10
sign_number mark.Minus = 11
sign_number mark.Star = 12
sign_number mark.Semicolon = 13

-- the same keyword or the same sign
abbrev pub is_same : Symbol → Symbol → Bool
is_same (key a) (key b) = keyword_number a == keyword_number b
is_same (sign a) (sign b) = sign_number a == sign_number b
is_same _ _ = false

-- whether the front token is this keyword or sign, and what is left without it
unfoldable pub eat : Symbol → List Symbol → Bool × List Symbol
eat t [] = (false, [])
eat t (s ∷ rest) = if is_same t s then (true, rest) else (false, s ∷ rest)

unfoldable pub given : {A : Type 0} → Symbol → List Symbol → (List Symbol → Option A) → (List Symbol → Option A) → Option A
given t symbols found other = if (eat t symbols).0 then found (eat t symbols).1 else other (eat t symbols).1

unfoldable pub expect : Symbol → List Symbol → Option (Unit {0} × List Symbol)
expect t symbols = given t symbols (λ rest. Some (tt, rest)) (λ _. None)

unfoldable pub name_at : List Symbol → Option (List ℕ × List Symbol)
name_at (name bytes ∷ rest) = Some (bytes, rest)
name_at _ = None

unfoldable pub number_at : List Symbol → Option (ℕ × List Symbol)
number_at (number magnitude ∷ rest) = Some (magnitude, rest)
number_at _ = None

-- whether a name is next
unfoldable pub is_name : List Symbol → Bool
is_name (name bytes ∷ rest) = true
is_name _ = false

-- the comparison that a sign is
unfoldable pub comparison_of : Sign → Option Cmp
comparison_of mark.Equal = Some comparison.Eq
comparison_of mark.NotEqual = Some comparison.Ne
comparison_of mark.Less = Some comparison.Lt
comparison_of mark.LessOrEqual = Some comparison.Le
comparison_of mark.Greater = Some comparison.Gt
comparison_of mark.GreaterOrEqual = Some comparison.Ge
comparison_of _ = None

unfoldable pub comparison_at : List Symbol → Option (Cmp × List Symbol)
comparison_at (sign s ∷ rest) = comparison_of s >>= λ c. Some (c, rest)
comparison_at _ = None

-- ---- productions

-- one item, and others as long as a separator follows, at most as many as the fuel allows
unfoldable pub list_at : {A : Type 0} → (List Symbol → Option (A × List Symbol)) → Symbol → ℕ → List Symbol → Option (List A × List Symbol)
list_at item separator zero symbols = None
list_at item separator (suc fuel) symbols = do
  first ← item symbols
  given separator first.1
      (λ rest. list_at item separator fuel rest >>= λ others. Some (first.0 ∷ others.0, others.1))
      (λ rest. Some (first.0 ∷ [], rest))

unfoldable pub items_at : {A : Type 0} → (List Symbol → Option (A × List Symbol)) → Symbol → List Symbol → Option (List A × List Symbol)
items_at item separator symbols = list_at item separator (suc (length symbols)) symbols

unfoldable pub column_at : List Symbol → Option (tree.Column × List Symbol)
column_at symbols = do
  first ← name_at symbols
  given (sign mark.Dot) first.1
      (λ rest. name_at rest >>= λ second. Some (record { relation = Some first.0; name = second.0 }, second.1))
      (λ rest. Some (record { relation = None; name = first.0 }, rest))

-- a text, or a number with no sign
unfoldable pub plain_at : List Symbol → Option (tree.Constant × List Symbol)
plain_at (number magnitude ∷ rest) = Some (tree.integer false magnitude, rest)
plain_at (text bytes ∷ rest) = Some (tree.text bytes, rest)
plain_at _ = None

unfoldable pub constant_at : List Symbol → Option (tree.Constant × List Symbol)
constant_at symbols =
    given (sign mark.Minus) symbols
    (λ rest. number_at rest >>= λ magnitude. Some (tree.integer true magnitude.0, magnitude.1))
    plain_at

unfoldable pub listed_at : List Symbol → Option (tree.Listed × List Symbol)
listed_at symbols =
    given (sign mark.Star) symbols
    (λ rest. Some (tree.all, rest))
    (λ rest. items_at column_at (sign mark.Comma) rest >>= λ columns. Some (tree.columns columns.0, columns.1))

unfoldable pub condition_at : List Symbol → Option (tree.Condition × List Symbol)
condition_at symbols = do
  column ← column_at symbols
  comparison ← comparison_at column.1
  constant ← constant_at comparison.1
  Some (record { column = column.0; comparison = comparison.0; constant = constant.0 }, constant.1)

unfoldable pub where_at : List Symbol → Option (List tree.Condition × List Symbol)
where_at symbols =
    given (key word.Where) symbols
    (items_at condition_at (key word.And))
    (λ rest. Some ([], rest))

-- what follows JOIN
unfoldable pub joined_at : List Symbol → Option (tree.Join × List Symbol)
joined_at symbols = do
  relation ← name_at symbols
  on ← expect (key word.On) relation.1
  left ← column_at on.1
  equal ← expect (sign mark.Equal) left.1
  right ← column_at equal.1
  Some (record { relation = relation.0; left = left.0; right = right.0 }, right.1)

-- one join, or another after it
unfoldable pub joins_from : List Symbol → Option (List tree.Join × List Symbol)
joins_from symbols = do
  first ← joined_at symbols
  given (key word.Join) first.1
      (λ rest. joined_at rest >>= λ second. Some (first.0 ∷ second.0 ∷ [], second.1))
      (λ rest. Some (first.0 ∷ [], rest))

unfoldable pub joins_at : List Symbol → Option (List tree.Join × List Symbol)
joins_at symbols =
    given (key word.Join) symbols
    joins_from
    (λ rest. Some ([], rest))

-- what follows SELECT
unfoldable pub select_at : List Symbol → Option (tree.Select × List Symbol)
select_at symbols = do
  listed ← listed_at symbols
  from ← expect (key word.From) listed.1
  relation ← name_at from.1
  joins ← joins_at relation.1
  conditions ← where_at joins.1
  Some (record { listed = listed.0; relation = relation.0; joins = joins.0; conditions = conditions.0 }, conditions.1)

-- what follows INSERT
unfoldable pub insert_at : List Symbol → Option (tree.Insert × List Symbol)
insert_at symbols = do
  into ← expect (key word.Into) symbols
  relation ← name_at into.1
  those ← expect (key word.Values) relation.1
  opened ← expect (sign mark.Open) those.1
  values ← items_at constant_at (sign mark.Comma) opened.1
  closed ← expect (sign mark.Close) values.1
  Some (record { relation = relation.0; values = values.0 }, closed.1)

-- a column and a number
unfoldable pub sum_at : List Symbol → Option (tree.Assigned × List Symbol)
sum_at symbols = do
  column ← name_at symbols
  given (sign mark.Minus) column.1
      (λ rest. number_at rest >>= λ magnitude. Some (tree.sum column.0 true magnitude.0, magnitude.1))
      (λ rest. expect (sign mark.Plus) rest >>= λ plus. number_at plus.1 >>= λ magnitude. Some (tree.sum column.0 false magnitude.0, magnitude.1))

unfoldable pub assigned_at : List Symbol → Option (tree.Assigned × List Symbol)
assigned_at symbols =
    if is_name symbols then sum_at symbols
    else (constant_at symbols >>= λ value. Some (tree.constant value.0, value.1))

unfoldable pub assignment_at : List Symbol → Option (tree.Assignment × List Symbol)
assignment_at symbols = do
  column ← name_at symbols
  equal ← expect (sign mark.Equal) column.1
  value ← assigned_at equal.1
  Some (record { column = column.0; value = value.0 }, value.1)

-- what follows UPDATE
unfoldable pub update_at : List Symbol → Option (tree.Update × List Symbol)
update_at symbols = do
  relation ← name_at symbols
  set ← expect (key word.Set) relation.1
  sets ← items_at assignment_at (sign mark.Comma) set.1
  conditions ← where_at sets.1
  Some (record { relation = relation.0; sets = sets.0; conditions = conditions.0 }, conditions.1)

-- what follows DELETE
unfoldable pub delete_at : List Symbol → Option (tree.Delete × List Symbol)
delete_at symbols = do
  from ← expect (key word.From) symbols
  relation ← name_at from.1
  conditions ← where_at relation.1
  Some (record { relation = relation.0; conditions = conditions.0 }, conditions.1)

-- BEGIN, COMMIT or ROLLBACK
unfoldable pub bare_at : List Symbol → Option (tree.Written × List Symbol)
bare_at symbols =
    given (key word.Begin) symbols
    (λ rest. Some (tree.begin, rest))
    (λ rest. given (key word.Commit) rest
    (λ rest. Some (tree.commit, rest))
    (λ rest. given (key word.Rollback) rest
    (λ rest. Some (tree.rollback, rest))
    (λ _. None)))

unfoldable pub written_at : List Symbol → Option (tree.Written × List Symbol)
written_at symbols =
    given (key word.Select) symbols
    (λ rest. select_at rest >>= λ s. Some (tree.select s.0, s.1))
    (λ rest. given (key word.Insert) rest
    (λ rest. insert_at rest >>= λ i. Some (tree.insert i.0, i.1))
    (λ rest. given (key word.Update) rest
    (λ rest. update_at rest >>= λ u. Some (tree.update u.0, u.1))
    (λ rest. given (key word.Delete) rest
    (λ rest. delete_at rest >>= λ d. Some (tree.delete d.0, d.1))
    (λ rest. given (key word.Refragment) rest
    (λ rest. name_at rest >>= λ relation. Some (tree.refragment relation.0, relation.1))
    bare_at))))

abbrev pub ended : {A : Type 0} → A → List Symbol → Option A
ended x [] = Some x
ended x (_ ∷ _) = None

-- all of the tokens
unfoldable pub command_at : List Symbol → Option tree.Written
command_at symbols = do
  written ← written_at symbols
  ended written.0 (eat (sign mark.Semicolon) written.1).1

unfoldable pub conditions_alone_at : List Symbol → Option (List tree.Condition)
conditions_alone_at symbols = do
  conditions ← items_at condition_at (key word.And) symbols
  ended conditions.0 conditions.1
