use Rattle.std.proofs.Common.{string_bytes, not, ap, ◌∙◌}
use Rattle.sqlite.specs.Held.{state}
use Rattle.sqlstore.specs.Query.{AreBodies}
use Rattle.sqlstore.proofs.Framing.{asks_outside}
use Rattle.sqlstore.proofs.reading.committed_at.Goals as goal

pub returns : goal.returns
returns g c =
    asks_outside (λ db rows. AreBodies (string_bytes c.args.name.now) c.args.key.now (db.trees 0) rows.items) (state g.S.Store c.args.conn.now) (state g.S.Store c.bodies_at.new.conn) c.bodies_at.result
    (c.is_autocommit-settled.ensures.settled (c.is_autocommit-settled.ensures.value ∙ ap not c.requires)) c.requires c.bodies_at.ensures
