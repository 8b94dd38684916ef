use Rattle.std.proofs.Common.{ap, ◌∙◌, inl, inr}
use Rattle.sqlite.specs.Effect.{Database}
use Rattle.sqlstore.proofs.desk.SqlDesk.hold.Goals as goal

pub returns-in-Ok : goal.returns-in-Ok
returns-in-Ok g c clean is_open = elim (c.in-Ok.ensures.founds (clean, is_open)) [ inl ours ↦ ap (λ (db : Database). db.schema) ours.0 ∙ ours.1 | inr fresh ↦ fresh.1.schema ]
