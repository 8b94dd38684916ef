use Rattle.std.proofs.Common.{◌≡◌, ◌+◌, pos, to_z, of_z, not, ap, refl, ◌∙◌, sym, subst, Ok, Err}
use Rattle.std.specs.Int.{w64}
use Rattle.std.proofs.lemmas.Int.{to_z-of_z}
use Rattle.sqlite.specs.Effect.{Database}
use Rattle.sqlite.specs.Held.{state}
use Rattle.sqlstore.specs.Query.{AreLives, LivesIf, LivesNext, LivesSome, first_life}
use Rattle.sqlstore.specs.Rows.{AreTables}
use Rattle.sqlstore.specs.Step.{LivesOn}
use Rattle.sqlstore.specs.Tables.{site_schema}
use Rattle.sqlstore.proofs.Framing.{if_never, looked, looked_and, on_err_of}
use Rattle.sqlstore.proofs.life.live_next.Goals as goal

pub returns : goal.returns
returns g c =
    let life = c.in_ok-life.life in
    let rows = c.in_ok-rows.rows in
    let number : to_z w64 (of_z w64 c.in-Some.next) ≡ pos (life + 1) = to_z-of_z w64 c.in-Some.next c.in-Some.ensures.1 ∙ c.in-Some.ensures.0 in
    let first : first_life rows.items ≡ pos life = ap first_life (sym c.deref.ensures.value) ∙ c.in_ok-life.ensures in
    let next : (db after : Database) → AreLives (db.trees 6) rows.items → LivesOn (to_z w64 (of_z w64 c.in-Some.next)) db after → LivesNext (life + 1) db after = λ db after shows lives. (rows.items, shows, life, first, refl, subst (λ n. LivesOn n db after) number lives) in
    looked_and site_schema AreTables (λ db tables. tables) (λ db rows. AreLives (db.trees 6) rows.items) LivesIf LivesSome (state g.S.Store c.args.conn.now) (state g.S.Store c.lives.new.conn)
    (c.is_autocommit-settled.ensures.settled (c.is_autocommit-settled.ensures.value ∙ ap not c.requires)) (LivesOn (to_z w64 (of_z w64 c.in-Some.next))) (state g.S.Store c.live.new.conn) rows (Ok c.in_ok-live.field-0) _ (λ X holds. tt) (λ db after shows lives. (life + 1, next db after shows lives))
    (λ shows lives. next (state g.S.Store c.args.conn.now).committed (state g.S.Store c.live.new.conn).committed shows lives) c.in_ok-rows.ensures c.in_ok-live.ensures

pub returns-in_err-live : goal.returns-in_err-live
returns-in_err-live g c =
    let life = c.in_ok-life.life in
    let rows = c.in_ok-rows.rows in
    let number : to_z w64 (of_z w64 c.in-Some.next) ≡ pos (life + 1) = to_z-of_z w64 c.in-Some.next c.in-Some.ensures.1 ∙ c.in-Some.ensures.0 in
    let first : first_life rows.items ≡ pos life = ap first_life (sym c.deref.ensures.value) ∙ c.in_ok-life.ensures in
    let next : (db after : Database) → AreLives (db.trees 6) rows.items → LivesOn (to_z w64 (of_z w64 c.in-Some.next)) db after → LivesNext (life + 1) db after = λ db after shows lives. (rows.items, shows, life, first, refl, subst (λ n. LivesOn n db after) number lives) in
    looked_and site_schema AreTables (λ db tables. tables) (λ db rows. AreLives (db.trees 6) rows.items) LivesIf LivesSome (state g.S.Store c.args.conn.now) (state g.S.Store c.lives.new.conn)
    (c.is_autocommit-settled.ensures.settled (c.is_autocommit-settled.ensures.value ∙ ap not c.requires)) (LivesOn (to_z w64 (of_z w64 c.in-Some.next))) (state g.S.Store c.live.new.conn) rows (Err c.in_err-live.field-0.0) c.from_residual-in_err-live.result (λ X holds. on_err_of c.from_residual-in_err-live.result holds) (λ db after shows lives. (life + 1, next db after shows lives))
    (λ shows lives. if_never _ c.from_residual-in_err-live.result c.from_residual-in_err-live.ensures.0) c.in_ok-rows.ensures c.in_err-live.ensures

pub returns-in_default : goal.returns-in_default
returns-in_default g c =
    looked site_schema AreTables (λ db tables. tables) (λ db rows. AreLives (db.trees 6) rows.items) LivesIf LivesSome (state g.S.Store c.args.conn.now) (state g.S.Store c.lives.new.conn)
    (c.is_autocommit-settled.ensures.settled (c.is_autocommit-settled.ensures.value ∙ ap not c.requires)) c.lives.result _ c.requires c.lives.ensures (λ same. same)

pub returns-in_err-rows : goal.returns-in_err-rows
returns-in_err-rows g c =
    looked site_schema AreTables (λ db tables. tables) (λ db rows. AreLives (db.trees 6) rows.items) LivesIf LivesSome (state g.S.Store c.args.conn.now) (state g.S.Store c.lives.new.conn)
    (c.is_autocommit-settled.ensures.settled (c.is_autocommit-settled.ensures.value ∙ ap not c.requires)) c.lives.result c.from_residual.result c.requires c.lives.ensures (λ _. if_never _ c.from_residual.result c.from_residual.ensures.0)

pub returns-in_err-life : goal.returns-in_err-life
returns-in_err-life g c =
    looked site_schema AreTables (λ db tables. tables) (λ db rows. AreLives (db.trees 6) rows.items) LivesIf LivesSome (state g.S.Store c.args.conn.now) (state g.S.Store c.lives.new.conn)
    (c.is_autocommit-settled.ensures.settled (c.is_autocommit-settled.ensures.value ∙ ap not c.requires)) c.lives.result c.from_residual-in_err-life.result c.requires c.lives.ensures (λ _. if_never _ c.from_residual-in_err-life.result c.from_residual-in_err-life.ensures.0)
