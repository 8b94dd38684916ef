use Rattle.std.proofs.Common.{◌≡◌, to_z, of_z, not, ap, ◌∙◌, sym, subst}
use Rattle.std.specs.Int.{w64}
use Rattle.std.proofs.lemmas.Int.{to_z-of_z}
use Rattle.sqlite.specs.Held.{state}
use Rattle.sqlstore.specs.DeskQuery.{HasDeskSchema, AreEpochs, DecidesNow}
use Rattle.sqlstore.specs.DeskStep.{Decides}
use Rattle.sqlstore.specs.DeskTables.{desk_schema}
use Rattle.sqlstore.specs.Query.{first_life}
use Rattle.sqlstore.proofs.Framing.{asks_nothing, asks_then}
use Rattle.sqlstore.proofs.commit.decide.Goals as goal

pub returns : goal.returns
returns g c =
    let decision = c.args.decision.now in
    let rows = c.in_ok-rows.rows in
    let life = c.in_ok-life.life in
    let stays : to_z w64 (of_z w64 life) ≡ first_life rows.items = to_z-of_z w64 life c.in_ok-life.ensures.1 ∙ sym (ap first_life (sym c.deref.ensures.value) ∙ c.in_ok-life.ensures.0) in
    asks_then desk_schema HasDeskSchema (λ db tables. tables.schema) (λ db rows. AreEpochs (db.trees 2) rows.items) (DecidesNow decision) (state g.S.Store c.args.conn.now) (state g.S.Store c.epochs.new.conn)
    (c.is_autocommit-settled.ensures.settled (c.is_autocommit-settled.ensures.value ∙ ap not c.requires)) (Decides decision.txn decision.votes.items (to_z w64 (of_z w64 life)) decision.version) (state g.S.Store c.decide_in.new.conn) rows c.decide_in.result
    (λ db after shows made. (rows.items, shows, subst (λ n. Decides decision.txn decision.votes.items n decision.version db after) stays made)) c.in_ok-rows.ensures c.decide_in.ensures

pub returns-in_err-rows : goal.returns-in_err-rows
returns-in_err-rows g c =
    asks_nothing desk_schema HasDeskSchema (λ db tables. tables.schema) (λ db rows. AreEpochs (db.trees 2) rows.items) (DecidesNow c.args.decision.now) (state g.S.Store c.args.conn.now) (state g.S.Store c.epochs.new.conn)
    (c.is_autocommit-settled.ensures.settled (c.is_autocommit-settled.ensures.value ∙ ap not c.requires)) c.epochs.result c.from_residual.result c.from_residual.ensures.0 c.requires c.epochs.ensures

pub returns-in_err-life : goal.returns-in_err-life
returns-in_err-life g c =
    asks_nothing desk_schema HasDeskSchema (λ db tables. tables.schema) (λ db rows. AreEpochs (db.trees 2) rows.items) (DecidesNow c.args.decision.now) (state g.S.Store c.args.conn.now) (state g.S.Store c.epochs.new.conn)
    (c.is_autocommit-settled.ensures.settled (c.is_autocommit-settled.ensures.value ∙ ap not c.requires)) c.epochs.result c.from_residual-in_err-life.result c.from_residual-in_err-life.ensures.0 c.requires c.epochs.ensures
