use Rattle.std.proofs.Common.{List, inr, subst}
use Rattle.meaning.specs.Whole.{Relations}
use Rattle.lines.specs.PlayLoad.{LoadsAll}
use Rattle.lines.specs.declared.play_items.Placed.{Placed}
use Rattle.lines.proofs.play_load.loaded.Goals as goal

pub returns-in-Some-malformed-clause-malformed : goal.returns-in-Some-malformed-clause-malformed
returns-in-Some-malformed-clause-malformed c = λ line same.
    let schema = c.args.schema.now.relations in
    let items = c.args.script.now.items.items in
    let all = c.in_ok-line.ensures.all c.in-None.is in
    let at_items = subst (λ (xs : List Placed). LoadsAll schema xs c.in_ok-whole.whole c.load_all.new.whole) c.as_slice.ensures.value all in
    let at_start = subst (λ (w : Relations). LoadsAll schema items w c.load_all.new.whole) c.in_ok-whole.ensures at_items in
    inr ((c.load_all.new.whole, at_start), cc)
