-- Why `slots::near` meets its contract.
use Rattle.std.proofs.Common.{◌≡◌, ap, ◌∙◌, rules}
use Rattle.std.specs.BTreeMap.Range.{entries_between}
use Rattle.std.specs.declared.ops.Bound.TheVariants.{Included, Excluded, Unbounded}
use Rattle.store.specs.Slot.{slot_cmp}
use Rattle.store.specs.Entries.{entries_of}
use Rattle.store.proofs.Near.{all_within, ends_in_order, entries_within}
use Rattle.store.proofs.slots.near.Goals as goal

pub range-requires : goal.range-requires
range-requires c = ends_in_order c.args.leaf.now c.in-Some.from c.in-Some.to c.in-Some.ensures

pub returns-in-Some-clause-near : goal.returns-in-Some-clause-near
returns-in-Some-clause-near c =
    let between : c.range.result ≡ entries_between slot_cmp (Included c.in-Some.from) (Excluded c.in-Some.to) c.args.slots.now.entries = search rules in
    ap (entries_of c.args.leaf.now) between ∙ entries_within c.args.leaf.now c.in-Some.from c.in-Some.to c.in-Some.ensures c.args.slots.now.entries

pub returns-in-None-clause-near : goal.returns-in-None-clause-near
returns-in-None-clause-near c =
    let between : c.range-in-None.result ≡ entries_between slot_cmp Unbounded Unbounded c.args.slots.now.entries = search rules in
    ap (entries_of c.args.leaf.now) (between ∙ all_within c.args.slots.now.entries)
