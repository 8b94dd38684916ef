-- Why `shelves::pack_shelf` meets its contract.
use Rattle.std.proofs.Common.{IfOk, length, refl, ap, ◌∙◌, subst}
use Rattle.std.proofs.lemmas.Iterator.Adapters.{fact_from_collect, YieldsList-from_vec}
use Rattle.std.proofs.lemmas.Map.Keys.{IsDistinct-from_sorted}
use Rattle.std.proofs.lemmas.Map.Made.{update_all_none}
use Rattle.std.specs.BTreeMap.{IsFromIterResult}
use Rattle.std.specs.Cmp.{int_cmp_total, eq_by_cmp_equiv}
use Rattle.std.specs.Map.{keys_of}
use Rattle.std.specs.Ordering.{int_cmp, eq_by_cmp}
use Rattle.store.proofs.shelves.pack_shelf.Goals as goal

pub returns : goal.returns
returns c =
    let entries = c.args.shelf.now.entries in
    let copies = c.in_ok-copy_entries.field-0 in
    let same = c.in_ok-copy_entries.ensures.copies in
    let all = YieldsList-from_vec {s = c.into_iter.result} entries (c.into_iter.ensures.rest ∙ same) (c.into_iter.ensures.len ∙ copies.ok.0 ∙ ap length same) in
    let made = subst (λ r. IfOk r (IsFromIterResult int_cmp entries)) c.in_ok-packed.was (fact_from_collect (IsFromIterResult int_cmp) c.collect.result c.collect.ensures.ran all) in
    λ q. made.0 q ∙ update_all_none (eq_by_cmp_equiv int_cmp_total) (eq_by_cmp int_cmp) (λ _ _. refl) entries q (IsDistinct-from_sorted int_cmp (keys_of entries) c.copy_entries.ensures.ordered)
