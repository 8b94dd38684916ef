-- Why `whole::Whole::put` meets its contract.
use Rattle.std.proofs.Common.{◌∙◌, ap}
use Rattle.std.specs.FinMap as map
use Rattle.meaning.proofs.Maps.{one_put}
use Rattle.meaning.proofs.whole.Whole.put.Goals as goal

pub returns-clause-ok : goal.returns-clause-ok
returns-clause-ok c =
    one_put c.self.inside.relations.entries c.insert.new.self.entries c.args.name c.args.relation c.in_ok-insert.ensures.updates.0
    ∙ ap (λ m. map.insert m c.args.name c.args.relation) c.self.view_is
