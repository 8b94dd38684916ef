use Rattle.std.proofs.Common.{string_bytes, not, ap, ◌∙◌}
use Rattle.sqlite.specs.Held.{state}
use Rattle.sqlstore.specs.Listed.{AreRowsOf}
use Rattle.sqlstore.proofs.Framing.{asks_outside}
use Rattle.sqlstore.proofs.reading.committed_of.Goals as goal

pub returns : goal.returns
returns g c =
    asks_outside (λ db rows. AreRowsOf (string_bytes c.args.name.now) (db.trees 0) rows.items) (state g.S.Store c.args.conn.now) (state g.S.Store c.rows_of.new.conn) c.rows_of.result
    (c.is_autocommit-settled.ensures.settled (c.is_autocommit-settled.ensures.value ∙ ap not c.requires)) c.requires c.rows_of.ensures
