-- Why `whole::Whole::relation` meets its contract.
use Rattle.std.proofs.Common.{◌∙◌, ap, sym}
use Rattle.std.specs.FinMap as map
use Rattle.meaning.proofs.Maps.{get_rows}
use Rattle.meaning.proofs.whole.Whole.relation.Goals as goal

pub returns : goal.returns
returns c =
    c.get.ensures.value ∙ sym (get_rows c.self.inside.relations.entries c.args.name.now) ∙ ap (λ m. map.get m c.args.name.now) c.self.view_is
