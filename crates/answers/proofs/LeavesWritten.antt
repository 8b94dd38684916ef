-- Each write is to a leaf of the catalogue.
use Rattle.std.proofs.Common.{◌≡◌, ℕ, ℤ, Bool, true, false, cond, ◌||◌, ◌==◌, List, [], ◌∷◌, ◌++◌, length, map, Option, Some, None, Result, Ok, Err, IfOk, nat_eq, refl, ap, sym, ◌∙◌, subst, arith}
use Rattle.std.specs.Cmp.Lexicographic.{nat_list_eq_equiv, pointwise}
use Rattle.std.specs.List.{AllByRecursion, cons_option}
use Rattle.std.proofs.lemmas.Bool.Decides.{nat_tests}
use Rattle.terms.specs.declared.leaf.Leaf.{Leaf}
use Rattle.terms.specs.declared.memory.Memory.{Memory}
use Rattle.terms.specs.declared.value.Value.{Value}
use Rattle.terms.specs.declared.write.Write.{Write}
use Rattle.terms.specs.declared.write.Write.TheVariants.{Put, Del}
use Rattle.meaning.specs.declared.statement.Statement.{Statement}
use Rattle.meaning.specs.declared.statement.Statement.TheVariants as statement
use Rattle.catalog.specs.declared.fragment_leaf.FragmentLeaf.{FragmentLeaf}
use Rattle.plan.specs.Reduced.{same_leaf}
use Rattle.plan.proofs.Covered.{or_second}
use Rattle.answers.specs.declared.change.Change.{Change}
use Rattle.answers.specs.declared.finish.Outcome.{Outcome}
use Rattle.answers.specs.Laid.{Table}
use Rattle.answers.specs.Outcome.{added, change_write, changes_of, insert_outcome, leaf_changes, outcome_of, part_of, removed, rows_changed, with_changes, writes_of}
use Rattle.answers.specs.Writes.{is_leaf_in, leaf_of, same_part, write_between}

pub one_leaf : (leaf : Leaf) (key : ℤ) (before after : Option (List Value)) (write : Write) → write_between leaf key before after ≡ Some write → leaf_of write ≡ leaf
one_leaf leaf key None None write is = absurd (cc)
one_leaf leaf key (Some before) None write is = let one : Del leaf key ≡ write = cc in ap leaf_of (sym one)
one_leaf leaf key None (Some after) write is = let one : Put leaf after ≡ write = cc in ap leaf_of (sym one)
one_leaf leaf key (Some before) (Some after) write is = at (same_part before after) is
  where
    at : (t : Bool) → cond t None (Some (Put leaf after)) ≡ Some write → leaf_of write ≡ leaf
    at true none = absurd (cc)
    at false some = let one : Put leaf after ≡ write = cc in ap leaf_of (sym one)

each_change : (Q : Leaf → Type 0) (leaf : FragmentLeaf) (changes : List Change) → Q leaf.name → AllByRecursion (λ write. Q (leaf_of write)) (leaf_changes leaf changes)
each_change Q leaf [] here = tt
each_change Q leaf (change ∷ changes) here =
    one (change_write leaf change) (one_leaf leaf.name change.key (part_of leaf change.before) (part_of leaf change.after)) (each_change Q leaf changes here)
  where
    one : (o : Option Write) → ((write : Write) → o ≡ Some write → leaf_of write ≡ leaf.name) → AllByRecursion (λ write. Q (leaf_of write)) (leaf_changes leaf changes) → AllByRecursion (λ write. Q (leaf_of write)) (cons_option o (leaf_changes leaf changes))
    one None same rest = rest
    one (Some write) same rest = (subst Q (sym (same write refl)) here, rest)

both_written : (Q : Write → Type 0) (writes others : List Write) → AllByRecursion Q writes → AllByRecursion Q others → AllByRecursion Q (writes ++ others)
both_written Q [] others all more = more
both_written Q (write ∷ writes) others all more = (all.0, both_written Q writes others all.1 more)

each_write : (Q : Leaf → Type 0) (name : List ℕ) (changes : List Change) (leaves : List FragmentLeaf) → AllByRecursion (λ leaf. Q leaf.name) leaves → AllByRecursion (λ write. Q (leaf_of write)) (writes_of name changes leaves)
each_write Q name changes [] all = tt
each_write Q name changes (leaf ∷ leaves) all =
    both_written (λ write. Q (leaf_of write)) (cond (pointwise nat_eq leaf.name.relation name) (leaf_changes leaf changes) []) (writes_of name changes leaves)
    (own (pointwise nat_eq leaf.name.relation name)) (each_write Q name changes leaves all.1)
  where
    own : (t : Bool) → AllByRecursion (λ write. Q (leaf_of write)) (cond t (leaf_changes leaf changes) [])
    own true = each_change Q leaf changes all.0
    own false = tt

pub same_itself : (leaf : Leaf) → same_leaf leaf leaf ≡ true
same_itself leaf = rw (nat_list_eq_equiv.refl leaf.relation) (number leaf.number)
  where
    number : (n : ℕ) → (n == n) ≡ true
    number n = grind (arith, nat_tests)

there_in : (all leaves : List FragmentLeaf) → ((leaf : Leaf) → is_leaf_in leaves leaf ≡ true → is_leaf_in all leaf ≡ true) → AllByRecursion (λ leaf. is_leaf_in all leaf.name ≡ true) leaves
there_in all [] more = tt
there_in all (leaf ∷ leaves) more = (
  more leaf.name (ap (λ (t : Bool). t || is_leaf_in leaves leaf.name) (same_itself leaf.name)),
  there_in all leaves (λ other h. more other (or_second (same_leaf leaf.name other) (is_leaf_in leaves other) h)),
)

in_all : (leaves : List FragmentLeaf) (name : List ℕ) (changes : List Change) → AllByRecursion (λ write. is_leaf_in leaves (leaf_of write) ≡ true) (writes_of name changes leaves)
in_all leaves name changes = each_write (λ leaf. is_leaf_in leaves leaf ≡ true) name changes leaves (there_in leaves leaves (λ leaf h. h))

with_in : (leaves : List FragmentLeaf) (name : List ℕ) (count : ℕ) (changes : Option (List Change)) → AllByRecursion (λ write. is_leaf_in leaves (leaf_of write) ≡ true) (with_changes leaves name count changes).writes
with_in leaves name count None = tt
with_in leaves name count (Some changes) = in_all leaves name changes

outcome_in : (leaves : List FragmentLeaf) (s : Statement) (table : Table) → AllByRecursion (λ write. is_leaf_in leaves (leaf_of write) ≡ true) (outcome_of leaves s table).writes
outcome_in leaves (statement.Select select) table = tt
outcome_in leaves (statement.Insert insert) table = at table.rows
  where
    at : (rows : List (List Value)) → AllByRecursion (λ write. is_leaf_in leaves (leaf_of write) ≡ true) (insert_outcome leaves insert rows).writes
    at [] = in_all leaves insert.into (added insert.row ∷ [])
    at (row ∷ rows) = tt
outcome_in leaves (statement.Update update) table =
    let rows = rows_changed (length update.relation.columns) table in with_in leaves update.relation.name (length rows) (changes_of update.sets rows)
outcome_in leaves (statement.Delete delete) table =
    let rows = rows_changed (length delete.relation.columns) table in with_in leaves delete.relation.name (length rows) (Some (map removed rows))
outcome_in leaves (statement.Refragment refragment) table = tt

pub leaves_from : (result : Result Outcome Memory) (leaves all : List FragmentLeaf) (s : Statement) (table : Table) → leaves ≡ all → IfOk result (λ made. made ≡ outcome_of leaves s table) →
    IfOk result (λ outcome. AllByRecursion (λ write. is_leaf_in all (leaf_of write) ≡ true) outcome.writes)
leaves_from (Ok outcome) leaves all s table same is =
    let P : Outcome → Type 0 = λ made. AllByRecursion (λ write. is_leaf_in all (leaf_of write) ≡ true) made.writes in
    subst P (sym (is ∙ ap (λ (ls : List FragmentLeaf). outcome_of ls s table) same)) (outcome_in all s table)
leaves_from (Err error) leaves all s table same is = tt
