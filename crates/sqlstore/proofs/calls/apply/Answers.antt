use Rattle.std.proofs.Common.{not, ap, ◌∙◌}
use Rattle.sqlite.specs.Held.{state}
use Rattle.sqlstore.specs.Query.{AreSlots, Makes}
use Rattle.sqlstore.specs.Rows.{AreTables}
use Rattle.sqlstore.specs.Step.{Follows, Empties, Fills}
use Rattle.sqlstore.specs.Tables.{site_schema}
use Rattle.sqlstore.proofs.Framing.{asks_nothing, asks_then}
use Rattle.sqlstore.proofs.calls.apply.Goals as goal

pub returns : goal.returns
returns g c =
    let visit = c.args.visit.now in
    asks_then site_schema AreTables (λ db tables. tables) (λ db slots. AreSlots visit (db.trees 4) slots.items) (Makes visit) (state g.S.Store c.args.conn.now) (state g.S.Store c.slots_of.new.conn)
    (c.is_autocommit-settled.ensures.settled (c.is_autocommit-settled.ensures.value ∙ ap not c.requires)) (Follows (Empties visit c.in_ok-slots.slots.items) (Fills visit)) (state g.S.Store c.make_at.new.conn) c.in_ok-slots.slots c.make_at.result
    (λ db after shows made. (c.in_ok-slots.slots.items, shows, made)) c.in_ok-slots.ensures (rw c.deref.ensures.value at c.make_at.ensures)

pub returns-in_err-slots : goal.returns-in_err-slots
returns-in_err-slots g c =
    asks_nothing site_schema AreTables (λ db tables. tables) (λ db slots. AreSlots c.args.visit.now (db.trees 4) slots.items) (Makes c.args.visit.now) (state g.S.Store c.args.conn.now) (state g.S.Store c.slots_of.new.conn)
    (c.is_autocommit-settled.ensures.settled (c.is_autocommit-settled.ensures.value ∙ ap not c.requires)) c.slots_of.result c.from_residual.result c.from_residual.ensures.0 c.requires c.slots_of.ensures
