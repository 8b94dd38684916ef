-- What a tree is printed as is its tokens, production by production.
use Rattle.std.proofs.Common.{◌≡◌, ℕ, true, false, List, [], ◌∷◌, ◌++◌, Option, Some, None, refl, subst, append_assoc, codes}
use Rattle.std.specs.List.{AllByRecursion, flat_map}
use Rattle.reader.specs.declared.keyword.Keyword.TheVariants as word
use Rattle.reader.specs.declared.sign.Sign.TheVariants as mark
use Rattle.reader.specs.Symbol.{Symbol, key, sign, name}
use Rattle.reader.specs.Tree as tree
use Rattle.reader.specs.Tokens.{Stops, AreTokens}
use Rattle.reader.specs.Grammar.{continued, separated, qualifier_text, column_text, constant_text, listed_text, comparison_sign, condition_text, conditions_text, where_text, join_text, joins_text, select_text, insert_text, sum_sign, assigned_text, assignment_text, update_text, delete_text, written_text, IsFilled, IsWritable}
use Rattle.reader.specs.PrintStatement.{separated_bytes, qualifier_bytes, column_bytes, constant_bytes, condition_bytes, conditions_bytes, where_bytes, listed_bytes, join_bytes, select_bytes, insert_bytes, assigned_bytes, assignment_bytes, update_bytes, delete_bytes, written_bytes}
use Rattle.reader.proofs.Printing.{Prints, joins, prints_nothing, prints_blank, prints_both, prints_open, prints_whole, prints_key, prints_sign, prints_name, prints_text, prints_number}
use Rattle.reader.proofs.Spellable.{IsQualifier, IsColumn, IsConstant, IsCondition, IsListed, IsJoin, IsSelect, IsInsert, IsAssigned, IsAssignment, IsUpdate, IsDelete, IsSpellable}

-- the same bytes, grouped in another way
regrouped : {bytes others : List ℕ} {ts : List Symbol} → bytes ≡ others → Prints bytes ts → Prints others ts
regrouped {bytes} {others} {ts} same prints = subst (λ (b : List ℕ). Prints b ts) same prints

-- one after the other, with a blank between
spaced : {first second : List ℕ} {ts us : List Symbol} → Prints first ts → Prints second us → Prints (first ++ 32 ∷ second) (ts ++ us)
spaced one two = prints_both one (prints_blank two) refl

-- ---- lists

-- A separator begins with a byte that joins no token, and is its token before whatever is printed.
record Separates (first : ℕ) (others : List ℕ) (t : Symbol) : Type 0 where
  calm : joins first ≡ false
  before : {bytes : List ℕ} {ts : List Symbol} → Prints bytes ts → Prints (first ∷ (others ++ bytes)) (t ∷ ts)

module _ {A : Type 0} (P : A → Type 0) (write : A → List ℕ) (spell : A → List Symbol) (item : (x : A) → P x → Prints (write x) (spell x)) (first : ℕ) (others : List ℕ) (t : Symbol) (separates : Separates first others t) where
  abbrev continued_bytes : List A → List ℕ
  continued_bytes xs = flat_map (λ y. (first ∷ others) ++ write y) xs

  continued_calm : (xs : List A) → Stops joins (continued_bytes xs)
  continued_calm [] = tt
  continued_calm (x ∷ xs) = separates.calm

  prints_continued : (xs : List A) → AllByRecursion P xs → Prints (continued_bytes xs) (continued spell t xs)
  prints_continued [] are = prints_nothing
  prints_continued (x ∷ xs) are = prints_both (separates.before (item x are.0)) (prints_continued xs are.1) (continued_calm xs)

  prints_separated : (xs : List A) → AllByRecursion P xs → Prints (separated_bytes write (first ∷ others) xs) (separated spell t xs)
  prints_separated [] are = prints_nothing
  prints_separated (x ∷ xs) are = prints_both (item x are.0) (prints_continued xs are.1) (continued_calm xs)

comma : Separates 44 (32 ∷ []) (sign mark.Comma)
comma = record { calm = refl; before = λ prints. prints_open mark.Comma (λ b. refl) (prints_blank prints) }

and : Separates 32 (65 ∷ 78 ∷ 68 ∷ 32 ∷ []) (key word.And)
and = record { calm = refl; before = λ prints. prints_blank (spaced (prints_key word.And) prints) }

-- ---- columns and constants

prints_column : (c : tree.Column) → IsColumn c → Prints (column_bytes c) (column_text c)
prints_column c is = by c.relation is.qualifier
  where
    by : (relation : Option (List ℕ)) → IsQualifier relation → Prints (qualifier_bytes relation ++ c.name) (qualifier_text relation ++ name c.name ∷ [])
    by None qualifies = prints_name is.name
    by (Some relation) qualifies = regrouped (simp append_assoc) (prints_both (prints_name qualifies) (prints_open mark.Dot (λ b. refl) (prints_name is.name)) refl)

prints_constant : (c : tree.Constant) → IsConstant c → Prints (constant_bytes c) (constant_text c)
prints_constant (tree.integer true magnitude) fits = prints_open mark.Minus (λ b. refl) (prints_number magnitude fits)
prints_constant (tree.integer false magnitude) fits = prints_number magnitude fits
prints_constant (tree.text bytes) is = prints_text is

-- ---- conditions

prints_condition : (c : tree.Condition) → IsCondition c → Prints (condition_bytes c) (condition_text c)
prints_condition c is =
    regrouped (simp append_assoc) (spaced (prints_column c.column is.column) (spaced (prints_sign (comparison_sign c.comparison)) (prints_constant c.constant is.constant)))

prints_conditions : (cs : List tree.Condition) → AllByRecursion IsCondition cs → Prints (conditions_bytes cs) (conditions_text cs)
prints_conditions cs are = prints_separated IsCondition condition_bytes condition_text prints_condition _ _ _ and cs are

prints_where : (cs : List tree.Condition) → AllByRecursion IsCondition cs → Prints (where_bytes cs) (where_text cs)
prints_where [] are = prints_nothing
prints_where (c ∷ cs) are = prints_blank (spaced (prints_key word.Where) (prints_conditions (c ∷ cs) are))

where_calm : (cs : List tree.Condition) → Stops joins (where_bytes cs)
where_calm [] = tt
where_calm (c ∷ cs) = refl

-- ---- statements

prints_listed : (l : tree.Listed) → IsListed l → Prints (listed_bytes l) (listed_text l)
prints_listed tree.all is = prints_sign mark.Star
prints_listed (tree.columns cs) are = prints_separated IsColumn column_bytes column_text prints_column _ _ _ comma cs are

six : (a b c d e f : List ℕ) → a ++ (b ++ (c ++ (d ++ (e ++ f)))) ≡ a ++ b ++ c ++ d ++ e ++ f
six a b c d e f = simp append_assoc

prints_join : (j : tree.Join) → IsJoin j → Prints (join_bytes j) (join_text j)
prints_join j is =
    let columns = spaced (prints_column j.left is.left) (spaced (prints_sign mark.Equal) (prints_column j.right is.right)) in
    regrouped (six (codes " JOIN ") j.relation (codes " ON ") (column_bytes j.left) (codes " = ") (column_bytes j.right)) (prints_blank (spaced (prints_key word.Join) (spaced (prints_name is.relation) (spaced (prints_key word.On) columns))))

joins_calm : (js : List tree.Join) → Stops joins (flat_map join_bytes js)
joins_calm [] = tt
joins_calm (j ∷ js) = refl

prints_joins : (js : List tree.Join) → AllByRecursion IsJoin js → Prints (flat_map join_bytes js) (joins_text js)
prints_joins [] are = prints_nothing
prints_joins (j ∷ js) are = prints_both (prints_join j are.0) (prints_joins js are.1) (joins_calm js)

behind_calm : (js : List tree.Join) (cs : List tree.Condition) → Stops joins (flat_map join_bytes js ++ where_bytes cs)
behind_calm [] cs = where_calm cs
behind_calm (j ∷ js) cs = refl

prints_select : (s : tree.Select) → IsSelect s → Prints (select_bytes s) (select_text s)
prints_select s is =
    let behind = prints_both (prints_joins s.joins is.joins) (prints_where s.conditions is.conditions) (where_calm s.conditions) in
    let from = spaced (prints_key word.From) (prints_both (prints_name is.relation) behind (behind_calm s.joins s.conditions)) in
    regrouped (simp append_assoc) (spaced (prints_key word.Select) (spaced (prints_listed s.listed is.listed) from))

prints_insert : (i : tree.Insert) → IsInsert i → Prints (insert_bytes i) (insert_text i)
prints_insert i is =
    let values = prints_both (prints_separated IsConstant constant_bytes constant_text prints_constant _ _ _ comma i.values is.values) (prints_sign mark.Close) refl in
    let row = spaced (prints_key word.Values) (prints_open mark.Open (λ b. refl) values) in
    regrouped (simp append_assoc) (spaced (prints_key word.Insert) (spaced (prints_key word.Into) (spaced (prints_name is.relation) row)))

prints_assigned : (a : tree.Assigned) → IsAssigned a → Prints (assigned_bytes a) (assigned_text a)
prints_assigned (tree.constant value) is = prints_constant value is
prints_assigned (tree.sum column is_negative magnitude) is =
    regrouped (simp append_assoc) (spaced (prints_name is.0) (spaced (prints_sign (sum_sign is_negative)) (prints_number magnitude is.1)))

prints_assignment : (a : tree.Assignment) → IsAssignment a → Prints (assignment_bytes a) (assignment_text a)
prints_assignment a is = regrouped (simp append_assoc) (spaced (prints_name is.column) (spaced (prints_sign mark.Equal) (prints_assigned a.value is.value)))

prints_update : (u : tree.Update) → IsUpdate u → Prints (update_bytes u) (update_text u)
prints_update u is =
    let sets = prints_separated IsAssignment assignment_bytes assignment_text prints_assignment _ _ _ comma u.sets is.sets in
    let behind = prints_both sets (prints_where u.conditions is.conditions) (where_calm u.conditions) in
    regrouped (simp append_assoc) (spaced (prints_key word.Update) (spaced (prints_name is.relation) (spaced (prints_key word.Set) behind)))

prints_delete : (d : tree.Delete) → IsDelete d → Prints (delete_bytes d) (delete_text d)
prints_delete d is =
    let from = prints_both (prints_name is.relation) (prints_where d.conditions is.conditions) (where_calm d.conditions) in
    regrouped (simp append_assoc) (spaced (prints_key word.Delete) (spaced (prints_key word.From) from))

prints_written : (t : tree.Written) → IsSpellable t → Prints (written_bytes t) (written_text t)
prints_written (tree.select s) is = prints_select s is
prints_written (tree.insert i) is = prints_insert i is
prints_written (tree.update u) is = prints_update u is
prints_written (tree.delete d) is = prints_delete d is
prints_written (tree.refragment relation) is = spaced (prints_key word.Refragment) (prints_name is)
prints_written tree.begin is = prints_key word.Begin
prints_written tree.commit is = prints_key word.Commit
prints_written tree.rollback is = prints_key word.Rollback

-- ---- the laws

-- what a command is printed as is its tokens
pub spells_command : (t : tree.Written) → IsWritable t → IsSpellable t → AreTokens (written_bytes t) (written_text t)
spells_command t writable is = prints_whole (prints_written t is)

-- and what conditions are printed as, theirs
pub spells_conditions : (cs : List tree.Condition) → IsFilled cs → AllByRecursion IsCondition cs → AreTokens (conditions_bytes cs) (conditions_text cs)
spells_conditions cs filled are = prints_whole (prints_conditions cs are)
