-- Why `needed_nodes::put_by_columns` meets its contract.
use Rattle.std.proofs.Common.{rules, ◌≡◌, ℕ, ◌++◌, true, false, List, [], ◌∷◌, ap, sym, ◌∙◌, subst, arith}
use Rattle.std.specs.List.{list_all}
use Rattle.plan.specs.declared.postfix.Node.TheVariants as node
use Rattle.plan.specs.Located.{IsByColumns, apart, covers, together, united}
use Rattle.plan.specs.Shape.{Shape, KeyJoin}
use Rattle.plan.proofs.GroupedColumns.{all_one_group, fewer, more_groups, others_left}
use Rattle.plan.proofs.Putting.{ok_as, puts_key_join}
use Rattle.plan.proofs.needed_nodes.+put_by_columns.Goals as goal

pub returns-then-all_together : goal.returns-then-all_together
returns-then-all_together t c =
    let need = c.args.need.now in
    let leaves = c.args.leaves.now in
    let first = c.in-Some.first.now in
    let rest = c.in-Some.rest.now in
    let all : list_all (together need leaves first) rest ≡ true = search rules in
    ok_as (λ plan. united plan ≡ covers need c.args.columns.now leaves) (IsByColumns need leaves c.args.columns.now) c.args.fetches.now c.args.out.now.items c.put_cover-then-all_together.new.out.items c.put_cover-then-all_together.result
    (λ plan is. all_one_group need leaves first rest c.args.columns.now plan c.in-Some.ensures.cases.0 all is) c.put_cover-then-all_together.ensures

pub put_by_columns-requires : goal.put_by_columns-requires
put_by_columns-requires t c =
    let less =
    fewer (apart c.args.need.now c.args.leaves.now c.in-Some.first.now) c.args.columns.now c.in-Some.rest.now c.as_slice-2.result.now c.in-Some.first.now c.in-Some.ensures.cases.0 (c.as_slice-2.ensures.value ∙ c.in_ok-others.ensures) in
    let measure = c.decreases in
    (omega (arith, less, measure), tt)

pub returns : goal.returns
returns t c =
    let need = c.args.need.now in
    let leaves = c.args.leaves.now in
    let first = c.in-Some.first.now in
    let rest = c.in-Some.rest.now in
    let group = c.as_slice.result.now in
    let others = c.in_ok-others.others.items in
    let some : list_all (together need leaves first) rest ≡ false = search rules in
    let put : c.push.new.self.items ≡ c.put_by_columns.new.out.items ++ node.KeyJoin ∷ [] = search rules in
    let Columns : Shape → List ℕ → Type 0 = λ plan columns. IsByColumns need leaves columns plan in
    puts_key_join (λ one. united one ≡ covers need group leaves) (IsByColumns need leaves c.as_slice-2.result.now) (IsByColumns need leaves c.args.columns.now) c.args.fetches.now c.args.out.now.items c.put_cover-2.new.out.items c.put_by_columns.new.out.items c.push.new.self.items
    (λ one other here beyond. subst (Columns (KeyJoin one other)) (sym c.in-Some.ensures.cases.0)
    (more_groups need leaves first rest others one other c.in_ok-others.ensures (others_left need leaves first rest others c.in_ok-others.ensures some) (here ∙ ap (λ (columns : List ℕ). covers need columns leaves) (c.as_slice.ensures.value ∙ c.in_ok-group.ensures))
    (subst (Columns other) c.as_slice-2.ensures.value beyond)))
    c.in_ok-put_cover.ensures c.in_ok-put_by_columns.ensures put
