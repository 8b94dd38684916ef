use Rattle.std.proofs.Common.{◌≡◌, ◌+◌, pos, to_z, of_z, not, ap, refl, ◌∙◌, sym, subst₂, Ok, Err}
use Rattle.std.specs.Int.{w64}
use Rattle.std.proofs.lemmas.Int.{to_z-of_z}
use Rattle.sqlite.specs.Effect.{Database}
use Rattle.sqlite.specs.Held.{state}
use Rattle.sqlstore.specs.DeskQuery.{HasDeskSchema, AreEpochs, BeginsIf, BeginsNext, BeginsSome, first_version}
use Rattle.sqlstore.specs.DeskStep.{MovesTo}
use Rattle.sqlstore.specs.DeskTables.{desk_schema}
use Rattle.sqlstore.specs.Query.{first_life}
use Rattle.sqlstore.proofs.Framing.{if_never, looked, looked_and, on_err_of}
use Rattle.sqlstore.proofs.epoch.begin_next.Goals as goal

pub returns : goal.returns
returns g c =
    let life = c.in_ok-life.life in
    let version = c.in_ok-version.version in
    let rows = c.in_ok-rows.rows in
    let Moved = MovesTo (to_z w64 (of_z w64 c.in-Some.next)) (to_z w64 (of_z w64 version)) in
    let number : to_z w64 (of_z w64 c.in-Some.next) ≡ pos (life + 1) = to_z-of_z w64 c.in-Some.next c.in-Some.ensures.1 ∙ c.in-Some.ensures.0 in
    let first : first_life rows.items ≡ pos life = ap first_life (sym c.deref.ensures.value) ∙ c.in_ok-life.ensures in
    let stays : to_z w64 (of_z w64 version) ≡ first_version rows.items = to_z-of_z w64 version c.in_ok-version.ensures.1 ∙ sym (ap first_version (sym c.deref-2.ensures.value) ∙ c.in_ok-version.ensures.0) in
    let next : (db after : Database) → AreEpochs (db.trees 2) rows.items → Moved db after → BeginsNext (life + 1) db after = λ db after shows moved. (rows.items, shows, life, first, refl, subst₂ (λ n v. MovesTo n v db after) number stays moved) in
    looked_and desk_schema HasDeskSchema (λ db tables. tables.schema) (λ db rows. AreEpochs (db.trees 2) rows.items) BeginsIf BeginsSome (state g.S.Store c.args.conn.now) (state g.S.Store c.epochs.new.conn)
    (c.is_autocommit-settled.ensures.settled (c.is_autocommit-settled.ensures.value ∙ ap not c.requires)) Moved (state g.S.Store c.keep_epoch.new.conn) rows (Ok c.in_ok-keep_epoch.field-0) _ (λ X holds. tt) (λ db after shows moved. (life + 1, next db after shows moved))
    (λ shows moved. next (state g.S.Store c.args.conn.now).committed (state g.S.Store c.keep_epoch.new.conn).committed shows moved) c.in_ok-rows.ensures c.in_ok-keep_epoch.ensures

pub returns-in_err-keep_epoch : goal.returns-in_err-keep_epoch
returns-in_err-keep_epoch g c =
    let life = c.in_ok-life.life in
    let version = c.in_ok-version.version in
    let rows = c.in_ok-rows.rows in
    let Moved = MovesTo (to_z w64 (of_z w64 c.in-Some.next)) (to_z w64 (of_z w64 version)) in
    let number : to_z w64 (of_z w64 c.in-Some.next) ≡ pos (life + 1) = to_z-of_z w64 c.in-Some.next c.in-Some.ensures.1 ∙ c.in-Some.ensures.0 in
    let first : first_life rows.items ≡ pos life = ap first_life (sym c.deref.ensures.value) ∙ c.in_ok-life.ensures in
    let stays : to_z w64 (of_z w64 version) ≡ first_version rows.items = to_z-of_z w64 version c.in_ok-version.ensures.1 ∙ sym (ap first_version (sym c.deref-2.ensures.value) ∙ c.in_ok-version.ensures.0) in
    let next : (db after : Database) → AreEpochs (db.trees 2) rows.items → Moved db after → BeginsNext (life + 1) db after = λ db after shows moved. (rows.items, shows, life, first, refl, subst₂ (λ n v. MovesTo n v db after) number stays moved) in
    looked_and desk_schema HasDeskSchema (λ db tables. tables.schema) (λ db rows. AreEpochs (db.trees 2) rows.items) BeginsIf BeginsSome (state g.S.Store c.args.conn.now) (state g.S.Store c.epochs.new.conn)
    (c.is_autocommit-settled.ensures.settled (c.is_autocommit-settled.ensures.value ∙ ap not c.requires)) Moved (state g.S.Store c.keep_epoch.new.conn) rows (Err c.in_err-keep_epoch.field-0.0) c.from_residual-in_err-keep_epoch.result (λ X holds. on_err_of c.from_residual-in_err-keep_epoch.result holds) (λ db after shows moved. (life + 1, next db after shows moved))
    (λ shows moved. if_never _ c.from_residual-in_err-keep_epoch.result c.from_residual-in_err-keep_epoch.ensures.0) c.in_ok-rows.ensures c.in_err-keep_epoch.ensures

pub returns-in_default : goal.returns-in_default
returns-in_default g c =
    looked desk_schema HasDeskSchema (λ db tables. tables.schema) (λ db rows. AreEpochs (db.trees 2) rows.items) BeginsIf BeginsSome (state g.S.Store c.args.conn.now) (state g.S.Store c.epochs.new.conn)
    (c.is_autocommit-settled.ensures.settled (c.is_autocommit-settled.ensures.value ∙ ap not c.requires)) c.epochs.result _ c.requires c.epochs.ensures (λ same. same)

pub returns-in_err-rows : goal.returns-in_err-rows
returns-in_err-rows g c =
    looked desk_schema HasDeskSchema (λ db tables. tables.schema) (λ db rows. AreEpochs (db.trees 2) rows.items) BeginsIf BeginsSome (state g.S.Store c.args.conn.now) (state g.S.Store c.epochs.new.conn)
    (c.is_autocommit-settled.ensures.settled (c.is_autocommit-settled.ensures.value ∙ ap not c.requires)) c.epochs.result c.from_residual.result c.requires c.epochs.ensures (λ _. if_never _ c.from_residual.result c.from_residual.ensures.0)

pub returns-in_err-life : goal.returns-in_err-life
returns-in_err-life g c =
    looked desk_schema HasDeskSchema (λ db tables. tables.schema) (λ db rows. AreEpochs (db.trees 2) rows.items) BeginsIf BeginsSome (state g.S.Store c.args.conn.now) (state g.S.Store c.epochs.new.conn)
    (c.is_autocommit-settled.ensures.settled (c.is_autocommit-settled.ensures.value ∙ ap not c.requires)) c.epochs.result c.from_residual-in_err-life.result c.requires c.epochs.ensures (λ _. if_never _ c.from_residual-in_err-life.result c.from_residual-in_err-life.ensures.0)

pub returns-in_err-version : goal.returns-in_err-version
returns-in_err-version g c =
    looked desk_schema HasDeskSchema (λ db tables. tables.schema) (λ db rows. AreEpochs (db.trees 2) rows.items) BeginsIf BeginsSome (state g.S.Store c.args.conn.now) (state g.S.Store c.epochs.new.conn)
    (c.is_autocommit-settled.ensures.settled (c.is_autocommit-settled.ensures.value ∙ ap not c.requires)) c.epochs.result c.from_residual-in_err-version.result c.requires c.epochs.ensures (λ _. if_never _ c.from_residual-in_err-version.result c.from_residual-in_err-version.ensures.0)
