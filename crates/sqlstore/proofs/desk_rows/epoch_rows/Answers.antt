use Rattle.std.proofs.Common.{refl, not, ap, ◌∙◌, arith, []}
use Rattle.std.specs.Prelude.{◌∷◌}
use Rattle.sqlite.specs.Held.{state}
use Rattle.sqlite.specs.Term.{lit, col}
use Rattle.sqlite.specs.declared.types.Value.TheVariants.{Null}
use Rattle.sqlstore.specs.DeskTables.{desk_schema}
use Rattle.sqlstore.proofs.DeskTexts.{state_text, state_names, state_is, state_plain, state_unlisted}
use Rattle.sqlstore.proofs.DeskWhole.{epoch_whole}
use Rattle.sqlstore.proofs.Looking.{looks_of}
use Rattle.sqlstore.proofs.desk_rows.epoch_rows.Goals as goal

pub returns : goal.returns
returns g c =
    looks_of desk_schema state_text 2 (lit Null ∷ col 1 2 ∷ col 1 3 ∷ []) state_names state_is state_plain state_unlisted (λ _. refl) epoch_whole (state g.S.Store c.args.conn.now) (state g.S.Store c.query_all.new.self) (λ rows. rows.items) c.query_all.result
    (c.is_autocommit-settled.ensures.settled (c.is_autocommit-settled.ensures.value ∙ ap not c.requires)) c.schema-live.ensures.live (λ clean. omega (arith, clean, c.query_all.ensures.survives.clean)) (c.query_all.ensures.mode c.requires) c.query_all.ensures.ok c.query_all.ensures.err
