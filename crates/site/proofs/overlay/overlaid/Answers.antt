-- Why `overlay::overlaid` meets its contract.
use Rattle.std.proofs.Common.{◌≡◌, List, nat_eq, length, true, map, ap, sym, ◌∙◌, subst, rules}
use Rattle.std.proofs.lemmas.Result.{IfOk-weaker}
use Rattle.std.specs.List.Sorted.{IsStrictlySortedBy}
use Rattle.std.specs.Ordering.{int_cmp}
use Rattle.terms.specs.declared.value.Value.{Value}
use Rattle.terms.specs.Row.{key_of}
use Rattle.store.specs.Change.{change_of, changes_of}
use Rattle.store.specs.Content.{parts}
use Rattle.site.specs.Overlay.{overlaid}
use Rattle.site.proofs.Merging.{none_counted}
use Rattle.site.proofs.Overlaid.{overlaid_is, parts_ascend}
use Rattle.site.proofs.overlay.overlaid.Goals as goal

pub returns-then-is_empty : goal.returns-then-is_empty
returns-then-is_empty c = λ content keyed is.
    let conds = c.args.conds.now in
    let zero : nat_eq (length c.in_ok-changes.changes.items) 0 ≡ true = search rules in
    let none = none_counted c.in_ok-changes.changes.items zero in
    is
    ∙ ap (overlaid conds (parts conds content)) (sym (ap (map change_of) none) ∙ c.in_ok-changes.ensures)
    ∙ overlaid_is conds c.args.leaf.now c.args.changes.now content keyed

pub returns : goal.returns
returns c = λ content keyed is.
    let conds = c.args.conds.now in
    let leaf = c.args.leaf.now in
    let changes = c.args.changes.now in
    IfOk-weaker c.merged.result _ _ (λ rows merged.
    merged
    ∙ ap (overlaid conds c.args.kept.items) c.in_ok-changes.ensures
    ∙ ap (λ (kept : List (List Value)). overlaid conds kept (changes_of leaf changes)) is
    ∙ overlaid_is conds leaf changes content keyed)
    (c.merged.ensures (subst (λ (kept : List (List Value)). IsStrictlySortedBy int_cmp (map key_of kept)) (sym is) (parts_ascend conds content keyed)))
