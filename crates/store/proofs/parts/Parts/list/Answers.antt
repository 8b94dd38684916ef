-- Why `Parts::list` meets its contract.
use Rattle.std.proofs.Common.{ap, sym, ◌∙◌, filter}
use Rattle.std.proofs.lemmas.Result.{IfOk-weaker}
use Rattle.std.specs.FinMap as fin
use Rattle.terms.specs.Cond.{conds_hold}
use Rattle.store.specs.Content.{made_by}
use Rattle.store.proofs.Flat.{leaf_listed}
use Rattle.store.proofs.parts.Parts.list.Goals as goal

pub returns : goal.returns
returns c =
    let all = sym (leaf_listed c.self.inside.shelves.entries c.args.leaf.now c.list_leaf.ensures.ordered c.list_leaf.ensures.sorted) ∙ ap (λ m. fin.values (made_by m c.args.leaf.now)) c.self.view_is in
    IfOk-weaker c.list_leaf.result _ _ (λ found listed. listed ∙ ap (filter (conds_hold c.args.conds.now)) all) c.list_leaf.ensures.parts
