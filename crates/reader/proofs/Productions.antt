-- The two laws of each production: what it reads is written so, and what is written so is read again.
use Rattle.std.proofs.Common.{◌≡◌, ◌≤◌, ℕ, true, false, cond, List, [], ◌∷◌, ◌++◌, length, Option, Some, None, refl, ap, ◌∙◌, append_assoc, append-nil, inl, inr, arith}
use Rattle.terms.specs.declared.cond.Cmp.{Cmp}
use Rattle.terms.specs.declared.cond.Cmp.TheVariants as comparison
use Rattle.reader.specs.declared.keyword.Keyword.TheVariants as word
use Rattle.reader.specs.declared.sign.Sign.{Sign}
use Rattle.reader.specs.declared.sign.Sign.TheVariants as mark
use Rattle.reader.specs.Symbol.{Symbol, key, sign, name, number, text}
use Rattle.reader.specs.Tree as tree
use Rattle.reader.specs.Grammar.{separated, qualifier_text, column_text, constant_text, listed_text, comparison_sign, condition_text, conditions_text, where_text, join_text, joins_text, assigned_text, assignment_text, IsFilled, IsListable}
use Rattle.reader.specs.Parsing.{and_then, ◌>>=◌, is_same, eat, given, expect, name_at, number_at, is_name, comparison_of, comparison_at, plain_at, items_at, column_at, constant_at, listed_at, condition_at, where_at, joined_at, joins_from, joins_at, sum_at, assigned_at, assignment_at}
use Rattle.reader.proofs.Steps.{Cut, eat_again, ◌then◌, Takes, TakesWith, written, written_with, bind, way, taken, pair, expect_takes, name_takes, number_takes}
use Rattle.reader.proofs.Lists.{Again, items_takes, items_again}

-- ---- columns

pub column_takes : Takes column_at column_text
unfolding column_at
column_takes symbols y h =
    let first = bind h in
    let front = name_takes _ _ first.1 in
    elim (taken _ _ _ _ first.2) [
      | inl dot ↦
          let second = bind dot.2 in
          written column_text second.2 (front then dot.1 then name_takes _ _ second.1)
      | inr plain ↦ written column_text plain front
    ]

-- the token is not next
abbrev pub Lacks : Symbol → List Symbol → Type 0
Lacks t rest = eat t rest ≡ pair false rest

-- another one is
pub another : (t s : Symbol) (rest : List Symbol) → is_same t s ≡ false → Lacks t (s ∷ rest)
unfolding eat
another t s rest other = ap (λ b. cond b (pair true rest) (pair false (s ∷ rest))) other

column_again_by : (relation : Option (List ℕ)) (column : List ℕ) (rest : List Symbol) → Lacks (sign mark.Dot) rest → column_at ((qualifier_text relation ++ name column ∷ []) ++ rest) ≡ Some (record { relation = relation; name = column }, rest)
unfolding column_at and_then given name_at
column_again_by None column rest lacks = rw lacks refl
column_again_by (Some relation) column rest lacks = rw (eat_again (sign mark.Dot) (name column ∷ rest) refl) refl

pub column_again : Again column_at column_text (Lacks (sign mark.Dot))
column_again c rest lacks = column_again_by c.relation c.name rest lacks

-- ---- constants

plain_takes : Takes plain_at constant_text
unfolding plain_at
plain_takes (number magnitude ∷ rest) y h = written constant_text h (record { parts = refl })
plain_takes (text bytes ∷ rest) y h = written constant_text h (record { parts = refl })
plain_takes _ y h = absurd cc

pub constant_takes : Takes constant_at constant_text
unfolding constant_at
constant_takes symbols y h =
    elim (taken _ _ _ _ h) [
      | inl minus ↦
          let magnitude = bind minus.2 in
          written constant_text magnitude.2 (minus.1 then number_takes _ _ magnitude.1)
      | inr plain ↦ plain_takes _ _ plain
    ]

pub constant_again : Again constant_at constant_text (λ _. Unit {0})
unfolding constant_at and_then given eat number_at plain_at
constant_again (tree.integer true magnitude) rest _ = refl
constant_again (tree.integer false magnitude) rest _ = refl
constant_again (tree.text bytes) rest _ = refl

-- ---- the list of a select

pub listed_takes : TakesWith listed_at listed_text IsListable
unfolding listed_at
listed_takes symbols y h =
    elim (taken _ _ _ _ h) [
      | inl star ↦ written_with listed_text IsListable star.2 star.1 tt
      | inr plain ↦
          let columns = bind plain in
          let front = items_takes column_at column_text (sign mark.Comma) column_takes _ _ columns.1 in
          written_with listed_text IsListable columns.2 front.0 front.1
    ]

no_star_by : (relation : Option (List ℕ)) (column : List ℕ) (others rest : List Symbol) → Lacks (sign mark.Star) (((qualifier_text relation ++ name column ∷ []) ++ others) ++ rest)
unfolding eat
no_star_by None column others rest = refl
no_star_by (Some relation) column others rest = refl

no_star : (cs : List tree.Column) → IsFilled cs → (rest : List Symbol) → Lacks (sign mark.Star) (separated column_text (sign mark.Comma) cs ++ rest)
no_star [] filled rest = absurd filled
no_star (c ∷ cs) filled rest = no_star_by c.relation c.name _ rest

comma_no_dot : (rest : List Symbol) → Lacks (sign mark.Dot) (sign mark.Comma ∷ rest)
unfolding eat
comma_no_dot rest = refl

pub listed_again : (l : tree.Listed) → IsListable l → (rest : List Symbol) → Lacks (sign mark.Dot) rest → Lacks (sign mark.Comma) rest → listed_at (listed_text l ++ rest) ≡ Some (l, rest)
unfolding listed_at and_then given
listed_again tree.all fine rest no_dot no_comma = rw (eat_again (sign mark.Star) rest refl) refl
listed_again (tree.columns cs) fine rest no_dot no_comma =
    rw (no_star cs fine rest, items_again column_at column_text (sign mark.Comma) (Lacks (sign mark.Dot)) column_again comma_no_dot refl cs fine rest no_dot no_comma) refl

-- ---- conditions

sign_is : (s : Sign) (c : Cmp) → comparison_of s ≡ Some c → s ≡ comparison_sign c
unfolding comparison_of
sign_is mark.Equal c h = let is : comparison.Eq ≡ c = cc in ap comparison_sign is
sign_is mark.NotEqual c h = let is : comparison.Ne ≡ c = cc in ap comparison_sign is
sign_is mark.Less c h = let is : comparison.Lt ≡ c = cc in ap comparison_sign is
sign_is mark.LessOrEqual c h = let is : comparison.Le ≡ c = cc in ap comparison_sign is
sign_is mark.Greater c h = let is : comparison.Gt ≡ c = cc in ap comparison_sign is
sign_is mark.GreaterOrEqual c h = let is : comparison.Ge ≡ c = cc in ap comparison_sign is
sign_is _ c h = absurd cc

abbrev comparison_text : Cmp → List Symbol
comparison_text c = sign (comparison_sign c) ∷ []

comparison_takes : Takes comparison_at comparison_text
unfolding comparison_at
comparison_takes (sign s ∷ rest) y h =
    let found = bind h in
    written comparison_text found.2 (record { parts = ap (λ m. sign m ∷ rest) (sign_is s found.0 found.1) })
comparison_takes _ y h = absurd cc

comparison_again : Again comparison_at comparison_text (λ _. Unit {0})
unfolding comparison_at and_then comparison_of
comparison_again comparison.Eq rest _ = refl
comparison_again comparison.Ne rest _ = refl
comparison_again comparison.Lt rest _ = refl
comparison_again comparison.Le rest _ = refl
comparison_again comparison.Gt rest _ = refl
comparison_again comparison.Ge rest _ = refl

comparison_no_dot : (c : Cmp) (rest : List Symbol) → Lacks (sign mark.Dot) (sign (comparison_sign c) ∷ rest)
unfolding eat
comparison_no_dot comparison.Eq rest = refl
comparison_no_dot comparison.Ne rest = refl
comparison_no_dot comparison.Lt rest = refl
comparison_no_dot comparison.Le rest = refl
comparison_no_dot comparison.Gt rest = refl
comparison_no_dot comparison.Ge rest = refl

pub condition_takes : Takes condition_at condition_text
unfolding condition_at
condition_takes symbols y h =
    let column = bind h in
    let comparison = bind column.2 in
    let constant = bind comparison.2 in
    written condition_text constant.2 (column_takes _ _ column.1 then comparison_takes _ _ comparison.1 then constant_takes _ _ constant.1)

condition_again : Again condition_at condition_text (λ _. Unit {0})
unfolding condition_at and_then
condition_again c rest _ =
    rw (
      append_assoc (column_text c.column) (comparison_text c.comparison ++ constant_text c.constant) rest,
      column_again c.column (comparison_text c.comparison ++ (constant_text c.constant ++ rest)) (comparison_no_dot c.comparison _),
      comparison_again c.comparison (constant_text c.constant ++ rest) tt,
      constant_again c.constant rest tt,
    ) refl

pub conditions_takes : TakesWith (items_at condition_at (key word.And)) conditions_text IsFilled
conditions_takes symbols y h = items_takes condition_at condition_text (key word.And) condition_takes symbols y h

pub conditions_again : (cs : List tree.Condition) → IsFilled cs → (rest : List Symbol) → Lacks (key word.And) rest → items_at condition_at (key word.And) (conditions_text cs ++ rest) ≡ Some (cs, rest)
conditions_again cs filled rest no_and = items_again condition_at condition_text (key word.And) (λ _. Unit {0}) condition_again (λ _. tt) refl cs filled rest tt no_and

-- ---- WHERE

where_filled : (cs : List tree.Condition) → IsFilled cs → where_text cs ≡ key word.Where ∷ conditions_text cs
where_filled [] filled = absurd filled
where_filled (c ∷ cs) filled = refl

pub where_takes : Takes where_at where_text
unfolding where_at
where_takes symbols y h =
    elim (taken _ _ _ _ h) [
      | inl there ↦
          let behind = conditions_takes _ _ there.2 in
          let cut : Cut symbols (key word.Where ∷ conditions_text y.0) y.1 = there.1 then behind.0 in
          rw (where_filled y.0 behind.1) cut
      | inr none ↦ written where_text none (record { parts = refl })
    ]

pub where_again : (cs : List tree.Condition) (rest : List Symbol) → Lacks (key word.Where) rest → Lacks (key word.And) rest → where_at (where_text cs ++ rest) ≡ Some (cs, rest)
unfolding where_at given
where_again [] rest no_where no_and = rw no_where refl
where_again (c ∷ cs) rest no_where no_and = rw (eat_again (key word.Where) (conditions_text (c ∷ cs) ++ rest) refl, conditions_again (c ∷ cs) tt rest no_and) refl

-- what is not next behind it is not next before it
pub where_lacks : (t : Symbol) → is_same t (key word.Where) ≡ false → (cs : List tree.Condition) (rest : List Symbol) → Lacks t rest → Lacks t (where_text cs ++ rest)
where_lacks t other [] rest lacks = lacks
where_lacks t other (c ∷ cs) rest lacks = another t (key word.Where) (conditions_text (c ∷ cs) ++ rest) other

-- ---- JOIN

-- what follows JOIN
abbrev joined_text : tree.Join → List Symbol
joined_text j = name j.relation ∷ key word.On ∷ (column_text j.left ++ sign mark.Equal ∷ column_text j.right)

joined_takes : Takes joined_at joined_text
unfolding joined_at
joined_takes symbols y h =
    let relation = bind h in
    let on = bind relation.2 in
    let left = bind on.2 in
    let equal = bind left.2 in
    let right = bind equal.2 in
    written joined_text right.2
    (name_takes _ _ relation.1 then expect_takes _ _ _ on.1 then column_takes _ _ left.1 then expect_takes _ _ _ equal.1 then column_takes _ _ right.1)

joined_again : Again joined_at joined_text (Lacks (sign mark.Dot))
unfolding joined_at and_then expect given eat name_at
joined_again j rest no_dot =
    rw (append_assoc (column_text j.left) (sign mark.Equal ∷ column_text j.right) rest, column_again j.left (sign mark.Equal ∷ (column_text j.right ++ rest)) refl, column_again j.right rest no_dot) refl

-- what follows the first JOIN
abbrev joins_rest : List tree.Join → List Symbol
joins_rest [] = []
joins_rest (j ∷ js) = joined_text j ++ joins_text js

abbrev IsOneOrTwo : List tree.Join → Type 0
IsOneOrTwo [] = ⊥
IsOneOrTwo (j ∷ js) = length js ≤ 1

joins_from_takes : TakesWith joins_from joins_rest IsOneOrTwo
unfolding joins_from
joins_from_takes symbols y h =
    let first = bind h in
    let front = joined_takes _ _ first.1 in
    elim (taken _ _ _ _ first.2) [
      | inl more ↦
          let second = bind more.2 in
          written_with joins_rest IsOneOrTwo second.2 (front then more.1 then joined_takes _ _ second.1 then (record { parts = refl })) (omega arith)
      | inr end ↦ written_with joins_rest IsOneOrTwo end (front then (record { parts = refl })) (omega arith)
    ]

joins_filled : (js : List tree.Join) → IsOneOrTwo js → joins_text js ≡ key word.Join ∷ joins_rest js
joins_filled [] some = absurd some
joins_filled (j ∷ js) some = refl

two_at_most : (js : List tree.Join) → IsOneOrTwo js → length js ≤ 2
two_at_most [] some = absurd some
two_at_most (j ∷ js) some = omega arith

pub joins_takes : TakesWith joins_at joins_text (λ js. length js ≤ 2)
unfolding joins_at
joins_takes symbols y h =
    elim (taken _ _ _ _ h) [
      | inl there ↦
          let behind = joins_from_takes _ _ there.2 in
          let cut : Cut symbols (key word.Join ∷ joins_rest y.0) y.1 = there.1 then behind.0 in
          (rw (joins_filled y.0 behind.1) cut, two_at_most y.0 behind.1)
      | inr none ↦ written_with joins_text (λ js. length js ≤ 2) none (record { parts = refl }) (omega arith)
    ]

one_again : (j : tree.Join) (rest : List Symbol) → Lacks (key word.Join) rest → Lacks (sign mark.Dot) rest → joins_at (join_text j ++ rest) ≡ Some (j ∷ [], rest)
unfolding joins_at joins_from and_then given
one_again j rest no_join no_dot = rw (eat_again (key word.Join) (joined_text j ++ rest) refl, joined_again j rest no_dot, no_join) refl

two_again : (j k : tree.Join) (rest : List Symbol) → Lacks (sign mark.Dot) rest → joins_at (join_text j ++ (join_text k ++ rest)) ≡ Some (j ∷ k ∷ [], rest)
unfolding joins_at joins_from and_then given
two_again j k rest no_dot =
    rw (
      eat_again (key word.Join) (joined_text j ++ (join_text k ++ rest)) refl,
      joined_again j (join_text k ++ rest) (another (sign mark.Dot) (key word.Join) (joined_text k ++ rest) refl),
      eat_again (key word.Join) (joined_text k ++ rest) refl,
      joined_again k rest no_dot,
    ) refl

pub joins_again : (js : List tree.Join) → length js ≤ 2 → (rest : List Symbol) → Lacks (key word.Join) rest → Lacks (sign mark.Dot) rest → joins_at (joins_text js ++ rest) ≡ Some (js, rest)
unfolding joins_at given
joins_again [] few rest no_join no_dot = rw no_join refl
joins_again (j ∷ []) few rest no_join no_dot = ap (λ text. joins_at (text ++ rest)) (append-nil (join_text j)) ∙ one_again j rest no_join no_dot
joins_again (j ∷ k ∷ []) few rest no_join no_dot =
    ap joins_at (append_assoc (join_text j) (join_text k ++ []) rest ∙ ap (λ text. join_text j ++ (text ++ rest)) (append-nil (join_text k))) ∙ two_again j k rest no_dot
joins_again (j ∷ k ∷ l ∷ js) few rest no_join no_dot = absurd (omega arith)

-- ---- what an update sets

sum_takes : Takes sum_at assigned_text
unfolding sum_at
sum_takes symbols y h =
    let column = bind h in
    let front = name_takes _ _ column.1 in
    elim (taken _ _ _ _ column.2) [
      | inl minus ↦
          let magnitude = bind minus.2 in
          written assigned_text magnitude.2 (front then minus.1 then number_takes _ _ magnitude.1)
      | inr other ↦
          let plus = bind other in
          let magnitude = bind plus.2 in
          written assigned_text magnitude.2 (front then expect_takes _ _ _ plus.1 then number_takes _ _ magnitude.1)
    ]

assigned_takes : Takes assigned_at assigned_text
unfolding assigned_at
assigned_takes symbols y h =
    elim (way (is_name symbols) (sum_at symbols) (constant_at symbols >>= λ value. Some (tree.constant value.0, value.1)) h) [
      | inl sum ↦ sum_takes _ _ sum
      | inr plain ↦
          let value = bind plain in
          written assigned_text value.2 (constant_takes _ _ value.1)
    ]

assigned_again : Again assigned_at assigned_text (λ _. Unit {0})
unfolding assigned_at and_then is_name sum_at expect given eat name_at number_at constant_at plain_at
assigned_again (tree.constant (tree.integer true magnitude)) rest _ = refl
assigned_again (tree.constant (tree.integer false magnitude)) rest _ = refl
assigned_again (tree.constant (tree.text bytes)) rest _ = refl
assigned_again (tree.sum column true magnitude) rest _ = refl
assigned_again (tree.sum column false magnitude) rest _ = refl

pub assignment_takes : Takes assignment_at assignment_text
unfolding assignment_at
assignment_takes symbols y h =
    let column = bind h in
    let equal = bind column.2 in
    let value = bind equal.2 in
    written assignment_text value.2 (name_takes _ _ column.1 then expect_takes _ _ _ equal.1 then assigned_takes _ _ value.1)

pub assignment_again : Again assignment_at assignment_text (λ _. Unit {0})
unfolding assignment_at and_then expect given eat name_at
assignment_again a rest _ = rw (assigned_again a.value rest tt) refl
