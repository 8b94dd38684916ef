-- Why `joins::other` meets its contract.
use Rattle.std.proofs.Common.{◌≡◌, true, nat_eq, sym, ◌∙◌, inr}
use Rattle.std.specs.Cmp.Lexicographic.{pointwise}
use Rattle.std.specs.List.{list_any}
use Rattle.reader.specs.Tree.{join_tree}
use Rattle.reader.proofs.Others.{names_after, is_first, is_later, is_neither, is_none, is_some}
use Rattle.reader.proofs.joins.other.Goals as goal
use Rattle.reader.proofs.joins.other.Goals.{then-have_same_name-via-then-have_same_name, then-have_same_name-via-else-have_same_name+then-is_joined}

-- the relation is one of those before it
is_before : (c : goal.After-new) → list_any (λ name. pointwise nat_eq name c.in_ok-other.other.now.name) (names_after c.args.from.now.name c.args.before.now) ≡ true
is_before c =
    elim c.then-have_same_name.branch [
      | then-have_same_name-via-then-have_same_name w ↦ is_first c.args.from.now.name c.args.before.now c.in_ok-other.other.now.name (sym c.have_same_name.ensures ∙ w.if-have_same_name.true)
      | then-have_same_name-via-else-have_same_name+then-is_joined w ↦ is_later c.args.from.now.name c.args.before.now c.in_ok-other.other.now.name (sym w.is_joined.ensures ∙ w.if-is_joined.true)
    ]

pub returns-then-have_same_name-clause-exact : goal.returns-then-have_same_name-clause-exact
returns-then-have_same_name-clause-exact c =
    rw c.new.ensures.rule (is_none c.args.schema.now.relations (names_after c.args.from.now.name c.args.before.now) (join_tree c.args.join.now) c.in_ok-other.other.now c.in_ok-other.ensures.exact (is_before c))

pub returns-then-have_same_name-clause-rule : goal.returns-then-have_same_name-clause-rule
returns-then-have_same_name-clause-rule c = λ other. inr (c.new.ensures.rule, c.in_ok-other.other.now, c.in_ok-other.ensures.exact, is_before c)

pub returns-clause-exact : goal.returns-clause-exact
returns-clause-exact c =
    is_some c.args.schema.now.relations (names_after c.args.from.now.name c.args.before.now) (join_tree c.args.join.now) c.in_ok-other.other.now c.in_ok-other.ensures.exact
    (is_neither c.args.from.now.name c.args.before.now c.in_ok-other.other.now.name (sym c.have_same_name.ensures ∙ c.if-have_same_name.false) (sym c.is_joined.ensures ∙ c.if-is_joined.false))
