use Rattle.std.proofs.Common.{rules, ◌≡◌, ◌⊎◌, ◌<◌, ◌-◌, suc, true, List, [], map, length, get_or, inl, inr, refl, sym, ap, ◌∙◌, subst, arith}
use Rattle.std.specs.Prelude.{codes}
use Rattle.std.proofs.lemmas.Result.{err_from_is_err_and}
use Rattle.std.proofs.lemmas.List.{get_or-map, length-map}
use Rattle.std.specs.List.{AllByRecursion}
use Rattle.toml.specs.View.{view}
use Rattle.terms.specs.declared.cond.Cond.{Cond}
use Rattle.terms.specs.Cond.{IsCondOf}
use Rattle.catalog.specs.Below.{branches_seen, groups_seen, RefusesRows, RefusesBranches, RefusesCols, RefusesGroups}
use Rattle.catalog.specs.Describes.{kinds_in, in_order, named_in, IsWhere, Describes, AreBranches, AreGroups}
use Rattle.catalog.specs.Frame.{frame_of}
use Rattle.catalog.specs.declared.fault.Rule.TheVariants.{Field}
use Rattle.catalog.specs.Node.{Form, AtSite, SplitByRows, SplitByCols, form_of}
use Rattle.catalog.specs.NodeBreaks.{NodeBreaks, BranchesBreak, BelowBreak, IsLeafTooMany}
use Rattle.catalog.specs.Path.{group_columns}
use Rattle.catalog.specs.Refuses.{RefusesSplit, is_of_text}
use Rattle.catalog.specs.Split.{Tree, ByCols, tree_branch, tree_group}
use Rattle.catalog.specs.Valid.{AreExact, IsValidWithin, AreValidGroups}
use Rattle.catalog.proofs.Below.{IsBranch, IsGroup, each_length, each_pushed, are_branches, are_valid_branches, are_groups, are_valid_groups, conds_pushed, columns_pushed, rows_pushed, cols_pushed, is_branch, is_group, all_taken, map-take}
use Rattle.catalog.proofs.Children.{branches_refused, groups_refused}
use Rattle.catalog.proofs.NodeBreaks.{branches_break, groups_break, cells_break, rows_break, rows_below_break, cols_break, cols_below_break, site_breaks}
use Rattle.catalog.proofs.Ordered.{cols_valid, all_length}
use Rattle.catalog.proofs.Splits.{err_is, if_err, if_ok_both, rows_no_conds, rows_no_split, rows_below, cols_no_names, cols_below, cols_described, site_refused, rows_refused, cols_refused, none_ill}
use Rattle.catalog.proofs.Trees.{tree_of-ByRows, tree_of-ByCols}
use Rattle.catalog.proofs.tree.Place.+nodes.Goals as goal

pub branches-returns-in_err-next-clause-none : goal.branches-returns-in_err-next-clause-none
branches-returns-in_err-next-clause-none t c =
    let p = err_from_is_err_and c.from_residual.result c.from_residual.ensures.1 in
    rw (p.1, p.2) (branches_refused c.one_list_of_conds.ensures (frame_of c.args.self.now.frame.now) c.args.self.now.splits c.args.self.now.way.now c.args.self.now.within.now view c.args.nodes.now c.loop-i.i c.index-nodes-i.result c.index-nodes-i.result
    c.args.conds.now c.index-conds-i.result c.index-conds-i.result (map tree_branch c.loop-i.branches.items) c.args.leaves.now c.loop-i.leaves c.in_err-next.field-0.0
    c.index-nodes-i.is c.index-conds-i.is c.loop-i-test.true c.loop-i.invariant.each c.loop-i.invariant.conds c.loop-i.invariant.counted c.in_err-next.ensures.none)

pub branches-loop-i-preserved : goal.branches-loop-i-preserved
branches-loop-i-preserved t c =
    let frame = frame_of c.args.self.now.frame.now in
    let found = c.in_ok-next.ensures in
    let inside : c.loop-i.i < length c.args.conds.now = omega (arith, c.requires.same_length, c.loop-i-test.true) in
    record {
      each = each_pushed (IsBranch frame c.args.self.now.splits c.args.self.now.way.now c.args.self.now.within.now) view tree_branch c.args.nodes.now c.loop-i.i c.index-nodes-i.result c.index-nodes-i.result
          c.loop-i.branches.items c.push.new.self.items c.in_ok-next.next c.in_ok-push.ensures.items c.index-nodes-i.is c.loop-i-test.true c.loop-i.invariant.each
          (is_branch frame c.args.self.now.splits c.args.self.now.way.now c.args.self.now.within.now (view c.index-nodes-i.result) (tree_branch c.in_ok-next.next) c.index-conds-i.result found.conds found.found found.valid);
      conds = conds_pushed tree_branch c.args.conds.now c.loop-i.i c.index-conds-i.result c.index-conds-i.result c.loop-i.branches.items c.push.new.self.items c.in_ok-next.next
          c.in_ok-push.ensures.items c.index-conds-i.is inside c.loop-i.invariant.conds found.conds;
      counted = rows_pushed tree_branch c.loop-i.branches.items c.push.new.self.items c.in_ok-next.next c.args.leaves.now c.loop-i.leaves c.branch-self.new.leaves
          c.in_ok-push.ensures.items c.loop-i.invariant.counted found.counted;
      few = found.few;
    }

pub branches-returns-clause-found : goal.branches-returns-clause-found
branches-returns-clause-found t c =
    let frame = frame_of c.args.self.now.frame.now in
    let P = λ (nodes : List _). AreBranches frame c.args.self.now.splits c.args.self.now.way.now c.args.self.now.within.now (map view nodes) (branches_seen c.loop-i.branches.items) in
    subst P (all_taken c.args.nodes.now c.loop-i.i c.loop-i-test.false)
    (are_branches frame c.args.self.now.splits c.args.self.now.way.now c.args.self.now.within.now _ (map tree_branch c.loop-i.branches.items) c.loop-i.invariant.each)

pub branches-returns-clause-valid : goal.branches-returns-clause-valid
branches-returns-clause-valid t c =
    are_valid_branches (frame_of c.args.self.now.frame.now) c.args.self.now.splits c.args.self.now.way.now c.args.self.now.within.now _ (map tree_branch c.loop-i.branches.items) c.loop-i.invariant.each

pub by_rows-returns-in_err-conds-clause-none : goal.by_rows-returns-in_err-conds-clause-none
by_rows-returns-in_err-conds-clause-none t c =
    let frame = frame_of c.args.self.now.frame.now in
    err_is c.from_residual.result (λ rule. RefusesRows frame c.args.self.now.splits c.args.self.now.way.now c.args.self.now.within.now (map view c.args.nodes.now) c.args.leaves.now rule) c.in_err-conds.field-0.0 c.from_residual.ensures.1
    (rows_no_conds frame c.args.self.now.splits c.args.self.now.way.now c.args.self.now.within.now (map view c.args.nodes.now) c.args.leaves.now c.in_err-conds.field-0.0 c.in_err-conds.ensures.none)

pub by_rows-returns-in_err-require_exact-clause-none : goal.by_rows-returns-in_err-require_exact-clause-none
by_rows-returns-in_err-require_exact-clause-none t c =
    let frame = frame_of c.args.self.now.frame.now in
    err_is c.from_residual-in_err-require_exact.result (λ rule. RefusesRows frame c.args.self.now.splits c.args.self.now.way.now c.args.self.now.within.now (map view c.args.nodes.now) c.args.leaves.now rule) c.in_err-require_exact.field-0.0
    c.from_residual-in_err-require_exact.ensures.1 (rows_no_split c.one_list_of_conds.ensures (frame_of c.args.self.now.frame.now) c.args.self.now.splits c.args.self.now.way.now c.args.self.now.within.now (map view c.args.nodes.now) c.args.leaves.now
    c.as_slice.result.now c.in_ok-conds.conds.items c.in_err-require_exact.field-0.0 c.as_slice.ensures.value c.in_ok-conds.ensures.found c.in_err-require_exact.ensures.none)

pub by_rows-returns-clause-none : goal.by_rows-returns-clause-none
by_rows-returns-clause-none t c =
    let frame = frame_of c.args.self.now.frame.now in
    let P : List (List Cond) → Type 0 = λ conds. AreExact (kinds_in frame) c.args.self.now.way.now conds in
    let more : c.args.self.now.splits ≡ suc (c.args.self.now.splits - 1) = omega (arith, c.if-self-eq0.false) in
    if_err (λ rule. RefusesBranches frame (c.args.self.now.splits - 1) c.args.self.now.way.now c.args.self.now.within.now (map view c.args.nodes.now) c.as_slice-2.result.now c.args.leaves.now rule)
    (λ rule. RefusesRows frame c.args.self.now.splits c.args.self.now.way.now c.args.self.now.within.now (map view c.args.nodes.now) c.args.leaves.now rule)
    c.branches.result
    (rows_below c.one_list_of_conds.ensures frame c.args.self.now.splits (c.args.self.now.splits - 1) c.args.self.now.way.now c.args.self.now.within.now (map view c.args.nodes.now) c.args.leaves.now c.as_slice-2.result.now c.in_ok-conds.conds.items
    more c.as_slice-2.ensures.value c.in_ok-conds.ensures.found (subst P (c.as_slice.ensures.value ∙ sym c.as_slice-2.ensures.value) c.in_ok-require_exact.ensures.exact))
    c.branches.ensures.none

pub by_rows-branches-requires : goal.by_rows-branches-requires
by_rows-branches-requires t c =
    let frame = frame_of c.args.self.now.frame.now in
    let P : List (List Cond) → Type 0 = λ all. AllByRecursion (λ cs. AllByRecursion (IsCondOf (kinds_in frame)) cs) all in (
      search rules,
      (
        c.requires.way_fits,
        (
          subst P (sym c.as_slice-2.ensures.value) c.in_ok-conds.ensures.fit,
          (ap length c.as_slice-2.ensures.value ∙ each_length (IsWhere frame c.args.self.now.within.now) view c.args.nodes.now c.in_ok-conds.conds.items c.in_ok-conds.ensures.found, c.requires.few_leaves),
        ),
      ),
    )

pub by_cols-groups-requires : goal.by_cols-groups-requires
by_cols-groups-requires t c = (
  search rules,
  (
    c.requires.way_fits,
    (
      ap length c.as_slice.ensures.value
          ∙ all_length (named_in (frame_of c.args.self.now.frame.now) c.args.self.now.within.now) (map view c.args.nodes.now) c.in_ok-named.named.items c.in_ok-named.ensures.found.names
          ∙ length-map c.args.nodes.now view,
      c.requires.few_leaves,
    ),
  ),
)

pub by_cols-returns-in_err-named-clause-none : goal.by_cols-returns-in_err-named-clause-none
by_cols-returns-in_err-named-clause-none t c =
    let p = err_from_is_err_and c.from_residual.result c.from_residual.ensures.1 in
    rw (p.1, p.2) (cols_no_names (frame_of c.args.self.now.frame.now) c.args.self.now.splits c.args.self.now.way.now c.args.self.now.within.now (map view c.args.nodes.now) c.args.leaves.now c.in_err-named.field-0.0 c.in_err-named.ensures.none)

pub by_cols-returns-clause-none : goal.by_cols-returns-clause-none
by_cols-returns-clause-none t c =
    let frame = frame_of c.args.self.now.frame.now in
    let more : c.args.self.now.splits ≡ suc (c.args.self.now.splits - 1) = omega (arith, c.if-self-eq0.false) in
    if_err (λ rule. RefusesGroups frame (c.args.self.now.splits - 1) c.args.self.now.way.now (map view c.args.nodes.now) (map (in_order c.args.self.now.within.now) c.as_slice.result.now) c.args.leaves.now rule)
    (λ rule. RefusesCols frame c.args.self.now.splits c.args.self.now.way.now c.args.self.now.within.now (map view c.args.nodes.now) c.args.leaves.now rule)
    c.groups.result
    (cols_below frame c.args.self.now.splits (c.args.self.now.splits - 1) c.args.self.now.way.now c.args.self.now.within.now (map view c.args.nodes.now) c.args.leaves.now c.as_slice.result.now c.in_ok-named.named.items
    more c.as_slice.ensures.value c.in_ok-named.ensures.found)
    c.groups.ensures.none

pub by_cols-returns-clause-valid : goal.by_cols-returns-clause-valid
by_cols-returns-clause-valid t c =
    let kinds = kinds_in (frame_of c.args.self.now.frame.now) in
    if_ok_both (λ groups. group_columns (groups_seen groups.items) ≡ map (in_order c.args.self.now.within.now) c.as_slice.result.now)
    (λ groups. AreValidGroups kinds c.args.self.now.way.now (groups_seen groups.items))
    (λ groups. IsValidWithin kinds c.args.self.now.way.now c.args.self.now.within.now (ByCols (groups_seen groups.items)))
    c.groups.result
    (λ groups columns valid. cols_valid kinds c.args.self.now.way.now c.args.self.now.within.now c.as_slice.result.now c.in_ok-named.named.items (groups_seen groups.items)
    c.as_slice.ensures.value c.in_ok-named.ensures.found.parts columns valid)
    c.groups.ensures.columns c.groups.ensures.valid

pub groups-returns-in_err-next-clause-none : goal.groups-returns-in_err-next-clause-none
groups-returns-in_err-next-clause-none t c =
    let p = err_from_is_err_and c.from_residual-in_err-next.result c.from_residual-in_err-next.ensures.1 in
    let order = in_order c.args.self.now.within.now in
    let inside : c.loop-i.i < length c.args.named.now = omega (arith, c.requires.same_length, c.loop-i-test.true) in
    let here : c.in_ok-columns.columns.items ≡ get_or (map order c.args.named.now) c.loop-i.i [] =
    c.in_ok-columns.ensures ∙ ap order (c.as_slice.ensures ∙ c.index-named-i.is) ∙ sym (get_or-map order c.args.named.now c.loop-i.i c.index-named-i.result [] inside) in
    let taken = c.loop-i.invariant.columns ∙ map-take order c.loop-i.i c.args.named.now in
    rw (p.1, p.2) (groups_refused c.one_list_of_conds.ensures (frame_of c.args.self.now.frame.now) c.args.self.now.splits c.args.self.now.way.now view c.args.nodes.now c.loop-i.i c.index-nodes-i.result c.index-nodes-i.result
    order c.args.named.now [] c.in_ok-columns.columns.items (map tree_group c.loop-i.groups.items) c.args.leaves.now c.loop-i.leaves c.in_err-next.field-0.0
    c.index-nodes-i.is here c.loop-i-test.true c.loop-i.invariant.each taken c.loop-i.invariant.counted c.in_err-next.ensures.none)

pub groups-loop-i-preserved : goal.groups-loop-i-preserved
groups-loop-i-preserved t c =
    let frame = frame_of c.args.self.now.frame.now in
    let found = c.in_ok-next.ensures in
    let order = in_order c.args.self.now.within.now in
    let inside : c.loop-i.i < length c.args.named.now = omega (arith, c.requires.same_length, c.loop-i-test.true) in
    record {
      each = each_pushed (IsGroup frame c.args.self.now.splits c.args.self.now.way.now) view tree_group c.args.nodes.now c.loop-i.i c.index-nodes-i.result c.index-nodes-i.result
          c.loop-i.groups.items c.push.new.self.items c.in_ok-next.next c.in_ok-push.ensures.items c.index-nodes-i.is c.loop-i-test.true c.loop-i.invariant.each
          (is_group frame c.args.self.now.splits c.args.self.now.way.now (view c.index-nodes-i.result) (tree_group c.in_ok-next.next) c.in_ok-columns.columns.items found.columns found.found found.valid);
      columns = columns_pushed tree_group order c.args.named.now c.loop-i.i c.index-named-i.result c.index-named-i.result c.loop-i.groups.items c.push.new.self.items c.in_ok-next.next
          c.in_ok-push.ensures.items c.index-named-i.is inside c.loop-i.invariant.columns (found.columns ∙ c.in_ok-columns.ensures ∙ ap order c.as_slice.ensures);
      counted = cols_pushed tree_group c.loop-i.groups.items c.push.new.self.items c.in_ok-next.next c.args.leaves.now c.loop-i.leaves c.group.new.leaves
          c.in_ok-push.ensures.items c.loop-i.invariant.counted found.counted;
      few = found.few;
    }

pub groups-returns-clause-found : goal.groups-returns-clause-found
groups-returns-clause-found t c =
    let frame = frame_of c.args.self.now.frame.now in
    let P = λ (nodes : List _). AreGroups frame c.args.self.now.splits c.args.self.now.way.now (map view nodes) (groups_seen c.loop-i.groups.items) in
    subst P (all_taken c.args.nodes.now c.loop-i.i c.loop-i-test.false)
    (are_groups frame c.args.self.now.splits c.args.self.now.way.now _ (map tree_group c.loop-i.groups.items) c.loop-i.invariant.each)

pub groups-returns-clause-valid : goal.groups-returns-clause-valid
groups-returns-clause-valid t c =
    are_valid_groups (frame_of c.args.self.now.frame.now) c.args.self.now.splits c.args.self.now.way.now _ (map tree_group c.loop-i.groups.items) c.loop-i.invariant.each

pub tree-returns-in_err-site-in-AtSite-clause-none : goal.tree-returns-in_err-site-in-AtSite-clause-none
tree-returns-in_err-site-in-AtSite-clause-none t c =
    let p = err_from_is_err_and c.from_residual.result c.from_residual.ensures.1 in
    let form : form_of c.args.beside.now (view c.args.node.now) ≡ AtSite c.in-AtSite.name.now = sym c.in-AtSite.ensures in
    rw (p.1, p.2) (site_refused (frame_of c.args.self.now.frame.now) c.args.self.now.splits c.args.self.now.way.now c.args.self.now.within.now c.args.beside.now (view c.args.node.now) c.args.leaves.now c.in-AtSite.name.now form
    c.in_err-site-in-AtSite.field-0.0 c.in_err-site-in-AtSite.ensures.none)

pub tree-returns-in_err-branches-in-ByRows-clause-none : goal.tree-returns-in_err-branches-in-ByRows-clause-none
tree-returns-in_err-branches-in-ByRows-clause-none t c =
    let p = err_from_is_err_and c.from_residual-in_err-branches-in-ByRows.result c.from_residual-in_err-branches-in-ByRows.ensures.1 in
    let form : form_of c.args.beside.now (view c.args.node.now) ≡ SplitByRows (map view c.in-ByRows.nodes.now) = sym c.in-ByRows.ensures in
    rw (p.1, p.2) (rows_refused (frame_of c.args.self.now.frame.now) c.args.self.now.splits c.args.self.now.way.now c.args.self.now.within.now c.args.beside.now (view c.args.node.now) c.args.leaves.now (map view c.in-ByRows.nodes.now) form
    c.in_err-branches-in-ByRows.field-0.0 c.in_err-branches-in-ByRows.ensures.none)

pub tree-returns-in_err-groups-in-ByCols-clause-none : goal.tree-returns-in_err-groups-in-ByCols-clause-none
tree-returns-in_err-groups-in-ByCols-clause-none t c =
    let p = err_from_is_err_and c.from_residual-in_err-groups-in-ByCols.result c.from_residual-in_err-groups-in-ByCols.ensures.1 in
    let form : form_of c.args.beside.now (view c.args.node.now) ≡ SplitByCols (map view c.in-ByCols.nodes.now) = sym c.in-ByCols.ensures in
    rw (p.1, p.2) (cols_refused (frame_of c.args.self.now.frame.now) c.args.self.now.splits c.args.self.now.way.now c.args.self.now.within.now c.args.beside.now (view c.args.node.now) c.args.leaves.now (map view c.in-ByCols.nodes.now) form
    c.in_err-groups-in-ByCols.field-0.0 c.in_err-groups-in-ByCols.ensures.none)

pub tree-returns-in_ok-branches-in-ByRows-clause-valid : goal.tree-returns-in_ok-branches-in-ByRows-clause-valid
tree-returns-in_ok-branches-in-ByRows-clause-valid t c =
    let P : Tree → Type 0 = λ tree. IsValidWithin (kinds_in (frame_of c.args.self.now.frame.now)) c.args.self.now.way.now c.args.self.now.within.now tree in
    subst P (sym (tree_of-ByRows c.in_ok-branches-in-ByRows.branches)) c.in_ok-branches-in-ByRows.ensures.valid

pub tree-returns-in_ok-groups-in-ByCols-clause-found : goal.tree-returns-in_ok-groups-in-ByCols-clause-found
tree-returns-in_ok-groups-in-ByCols-clause-found t c =
    let frame = frame_of c.args.self.now.frame.now in
    let form : form_of c.args.beside.now (view c.args.node.now) ≡ SplitByCols (map view c.in-ByCols.nodes.now) = sym c.in-ByCols.ensures in
    let groups = c.in_ok-groups-in-ByCols.groups in
    let P : Tree → Type 0 = λ tree. Describes frame c.args.self.now.splits c.args.self.now.way.now c.args.self.now.within.now c.args.beside.now (view c.args.node.now) tree in
    subst P (sym (tree_of-ByCols groups))
    (cols_described frame c.args.self.now.splits c.args.self.now.way.now c.args.self.now.within.now c.args.beside.now (view c.args.node.now) (map view c.in-ByCols.nodes.now) (groups_seen groups.items) form c.in_ok-groups-in-ByCols.ensures.found)

pub tree-returns-in_ok-groups-in-ByCols-clause-valid : goal.tree-returns-in_ok-groups-in-ByCols-clause-valid
tree-returns-in_ok-groups-in-ByCols-clause-valid t c =
    let P : Tree → Type 0 = λ tree. IsValidWithin (kinds_in (frame_of c.args.self.now.frame.now)) c.args.self.now.way.now c.args.self.now.within.now tree in
    subst P (sym (tree_of-ByCols c.in_ok-groups-in-ByCols.groups)) c.in_ok-groups-in-ByCols.ensures.valid

pub tree-returns-in-Ill-clause-none : goal.tree-returns-in-Ill-clause-none
tree-returns-in-Ill-clause-none t c =
    λ tree described few. none_ill (frame_of c.args.self.now.frame.now) c.args.self.now.splits c.args.self.now.way.now c.args.self.now.within.now c.args.beside.now (view c.args.node.now) (sym c.in-Ill.ensures) tree described

-- ---- what a refusal says of the document, by its rule

pub branches-returns-in_err-next-clause-breaks : goal.branches-returns-in_err-next-clause-breaks
branches-returns-in_err-next-clause-breaks t c =
    let p = err_from_is_err_and c.from_residual.result c.from_residual.ensures.1 in
    let inside : c.loop-i.i < length c.args.conds.now = omega (arith, c.requires.same_length, c.loop-i-test.true) in
    rw (p.1, p.2) (λ of_text. branches_break (frame_of c.args.self.now.frame.now) c.args.self.now.splits c.args.self.now.way.now c.args.self.now.within.now view c.args.nodes.now c.loop-i.i c.index-nodes-i.result c.index-nodes-i.result
    c.args.conds.now c.index-conds-i.result c.index-conds-i.result (map tree_branch c.loop-i.branches.items) c.args.leaves.now c.loop-i.leaves c.in_err-next.field-0.0
    c.index-nodes-i.is c.index-conds-i.is c.loop-i-test.true inside c.loop-i.invariant.each c.loop-i.invariant.counted (c.in_err-next.ensures.breaks of_text))

pub groups-returns-in_err-next-clause-breaks : goal.groups-returns-in_err-next-clause-breaks
groups-returns-in_err-next-clause-breaks t c =
    let p = err_from_is_err_and c.from_residual-in_err-next.result c.from_residual-in_err-next.ensures.1 in
    let order = in_order c.args.self.now.within.now in
    let inside : c.loop-i.i < length c.args.named.now = omega (arith, c.requires.same_length, c.loop-i-test.true) in
    let few : c.loop-i.i < length (map order c.args.named.now) = rw (length-map c.args.named.now order) inside in
    let here : c.in_ok-columns.columns.items ≡ get_or (map order c.args.named.now) c.loop-i.i [] =
    c.in_ok-columns.ensures ∙ ap order (c.as_slice.ensures ∙ c.index-named-i.is) ∙ sym (get_or-map order c.args.named.now c.loop-i.i c.index-named-i.result [] inside) in
    rw (p.1, p.2) (λ of_text. groups_break (frame_of c.args.self.now.frame.now) c.args.self.now.splits c.args.self.now.way.now view c.args.nodes.now c.loop-i.i c.index-nodes-i.result c.index-nodes-i.result
    (map order c.args.named.now) [] c.in_ok-columns.columns.items (map tree_group c.loop-i.groups.items) c.args.leaves.now c.loop-i.leaves c.in_err-next.field-0.0
    c.index-nodes-i.is here c.loop-i-test.true few c.loop-i.invariant.each c.loop-i.invariant.counted (c.in_err-next.ensures.breaks of_text))

pub by_rows-returns-in_err-conds-clause-breaks : goal.by_rows-returns-in_err-conds-clause-breaks
by_rows-returns-in_err-conds-clause-breaks t c =
    let p = err_from_is_err_and c.from_residual.result c.from_residual.ensures.1 in
    let frame = frame_of c.args.self.now.frame.now in
    let more : c.args.self.now.splits ≡ suc (c.args.self.now.splits - 1) = omega (arith, c.if-self-eq0.false) in
    rw (p.1, p.2) (λ of_text. rows_break c.in_err-conds.field-0.0 frame c.args.self.now.splits (c.args.self.now.splits - 1) c.args.self.now.way.now c.args.self.now.within.now (map view c.args.nodes.now) c.args.leaves.now
    more (inl (c.in_err-conds.ensures.breaks of_text)))

pub by_rows-returns-in_err-require_exact-clause-breaks : goal.by_rows-returns-in_err-require_exact-clause-breaks
by_rows-returns-in_err-require_exact-clause-breaks t c =
    let p = err_from_is_err_and c.from_residual-in_err-require_exact.result c.from_residual-in_err-require_exact.ensures.1 in
    let frame = frame_of c.args.self.now.frame.now in
    let more : c.args.self.now.splits ≡ suc (c.args.self.now.splits - 1) = omega (arith, c.if-self-eq0.false) in
    let P : List (List Cond) → Type 0 = λ conds. RefusesSplit frame c.args.self.now.way.now conds c.in_err-require_exact.field-0.0 in
    rw (p.1, p.2) (λ of_text. rows_break c.in_err-require_exact.field-0.0 frame c.args.self.now.splits (c.args.self.now.splits - 1) c.args.self.now.way.now c.args.self.now.within.now (map view c.args.nodes.now) c.args.leaves.now
    more (inr (inl (cells_break frame c.args.self.now.way.now c.args.self.now.within.now (map view c.args.nodes.now) c.in_ok-conds.conds.items c.in_err-require_exact.field-0.0 c.in_ok-conds.ensures.found
    (subst P c.as_slice.ensures.value c.in_err-require_exact.ensures.none) of_text))))

pub by_rows-returns-clause-breaks : goal.by_rows-returns-clause-breaks
by_rows-returns-clause-breaks t c =
    let frame = frame_of c.args.self.now.frame.now in
    let nodes = map view c.args.nodes.now in
    let less = c.args.self.now.splits - 1 in
    let more : c.args.self.now.splits ≡ suc less = omega (arith, c.if-self-eq0.false) in
    if_err (λ rule. is_of_text rule ≡ true → BranchesBreak less rule frame c.args.self.now.way.now c.args.self.now.within.now nodes c.as_slice-2.result.now ⊎ IsLeafTooMany rule less (codes "where") nodes c.args.leaves.now)
    (λ rule. is_of_text rule ≡ true → NodeBreaks rule frame c.args.self.now.splits c.args.self.now.way.now c.args.self.now.within.now (SplitByRows nodes) c.args.leaves.now)
    c.branches.result
    (λ rule broken of_text. rows_below_break rule frame c.args.self.now.splits less c.args.self.now.way.now c.args.self.now.within.now nodes c.as_slice-2.result.now c.in_ok-conds.conds.items c.args.leaves.now
    more c.as_slice-2.ensures.value c.in_ok-conds.ensures.found (broken of_text))
    c.branches.ensures.breaks

pub by_cols-returns-in_err-named-clause-breaks : goal.by_cols-returns-in_err-named-clause-breaks
by_cols-returns-in_err-named-clause-breaks t c =
    let p = err_from_is_err_and c.from_residual.result c.from_residual.ensures.1 in
    let frame = frame_of c.args.self.now.frame.now in
    let more : c.args.self.now.splits ≡ suc (c.args.self.now.splits - 1) = omega (arith, c.if-self-eq0.false) in
    rw (p.1, p.2) (λ of_text. cols_break c.in_err-named.field-0.0 frame c.args.self.now.splits (c.args.self.now.splits - 1) c.args.self.now.way.now c.args.self.now.within.now (map view c.args.nodes.now) c.args.leaves.now
    more (c.in_err-named.ensures.breaks of_text))

pub by_cols-returns-clause-breaks : goal.by_cols-returns-clause-breaks
by_cols-returns-clause-breaks t c =
    let frame = frame_of c.args.self.now.frame.now in
    let nodes = map view c.args.nodes.now in
    let less = c.args.self.now.splits - 1 in
    let order = in_order c.args.self.now.within.now in
    let more : c.args.self.now.splits ≡ suc less = omega (arith, c.if-self-eq0.false) in
    if_err (λ rule. is_of_text rule ≡ true → BelowBreak less rule frame c.args.self.now.way.now nodes (map order c.as_slice.result.now) ⊎ IsLeafTooMany rule less (codes "of") nodes c.args.leaves.now)
    (λ rule. is_of_text rule ≡ true → NodeBreaks rule frame c.args.self.now.splits c.args.self.now.way.now c.args.self.now.within.now (SplitByCols nodes) c.args.leaves.now)
    c.groups.result
    (λ rule broken of_text. cols_below_break rule frame c.args.self.now.splits less c.args.self.now.way.now c.args.self.now.within.now nodes c.as_slice.result.now c.in_ok-named.named.items c.args.leaves.now
    more c.as_slice.ensures.value c.in_ok-named.ensures.found.names (broken of_text))
    c.groups.ensures.breaks

pub tree-returns-in_err-site-in-AtSite-clause-breaks : goal.tree-returns-in_err-site-in-AtSite-clause-breaks
tree-returns-in_err-site-in-AtSite-clause-breaks t c =
    let p = err_from_is_err_and c.from_residual.result c.from_residual.ensures.1 in
    rw (p.1, p.2) (λ of_text. site_breaks c.in_err-site-in-AtSite.field-0.0 (frame_of c.args.self.now.frame.now) c.args.self.now.splits c.args.self.now.way.now c.args.self.now.within.now (form_of c.args.beside.now (view c.args.node.now))
    c.in-AtSite.name.now c.args.leaves.now (sym c.in-AtSite.ensures) c.in_err-site-in-AtSite.ensures.fault)

pub tree-returns-in_err-branches-in-ByRows-clause-breaks : goal.tree-returns-in_err-branches-in-ByRows-clause-breaks
tree-returns-in_err-branches-in-ByRows-clause-breaks t c =
    let p = err_from_is_err_and c.from_residual-in_err-branches-in-ByRows.result c.from_residual-in_err-branches-in-ByRows.ensures.1 in
    let P : Form → Type 0 = λ form. NodeBreaks c.in_err-branches-in-ByRows.field-0.0 (frame_of c.args.self.now.frame.now) c.args.self.now.splits c.args.self.now.way.now c.args.self.now.within.now form c.args.leaves.now in
    rw (p.1, p.2) (λ of_text. subst P c.in-ByRows.ensures (c.in_err-branches-in-ByRows.ensures.breaks of_text))

pub tree-returns-in_err-groups-in-ByCols-clause-breaks : goal.tree-returns-in_err-groups-in-ByCols-clause-breaks
tree-returns-in_err-groups-in-ByCols-clause-breaks t c =
    let p = err_from_is_err_and c.from_residual-in_err-groups-in-ByCols.result c.from_residual-in_err-groups-in-ByCols.ensures.1 in
    let P : Form → Type 0 = λ form. NodeBreaks c.in_err-groups-in-ByCols.field-0.0 (frame_of c.args.self.now.frame.now) c.args.self.now.splits c.args.self.now.way.now c.args.self.now.within.now form c.args.leaves.now in
    rw (p.1, p.2) (λ of_text. subst P c.in-ByCols.ensures (c.in_err-groups-in-ByCols.ensures.breaks of_text))

pub tree-returns-in-Ill-clause-breaks : goal.tree-returns-in-Ill-clause-breaks
tree-returns-in-Ill-clause-breaks t c of_text =
    let P : Form → Type 0 = λ form. NodeBreaks Field (frame_of c.args.self.now.frame.now) c.args.self.now.splits c.args.self.now.way.now c.args.self.now.within.now form c.args.leaves.now in
    subst P c.in-Ill.ensures (inl refl)
