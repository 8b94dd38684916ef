use Rattle.std.proofs.Common.{refl, not, ap, ◌∙◌, arith, []}
use Rattle.std.specs.Prelude.{◌∷◌}
use Rattle.sqlite.specs.Held.{state}
use Rattle.sqlite.specs.Term.{col}
use Rattle.sqlstore.proofs.Looking.{looks_by}
use Rattle.sqlstore.proofs.Texts.{prepared_text, prepared_names, prepared_is, prepared_plain, prepared_unlisted}
use Rattle.sqlstore.proofs.Whole.{prepared_whole}
use Rattle.sqlstore.proofs.gathered.prepared_rows.Goals as goal

pub returns : goal.returns
returns g c =
    looks_by prepared_text 2 (col 1 1 ∷ col 1 2 ∷ col 1 3 ∷ col 1 4 ∷ []) prepared_names prepared_is prepared_plain prepared_unlisted (λ _. refl) prepared_whole (state g.S.Store c.args.conn.now) (state g.S.Store c.query_all.new.self) (λ rows. rows.items) c.query_all.result
    (c.is_autocommit-settled.ensures.settled (c.is_autocommit-settled.ensures.value ∙ ap not c.requires)) c.schema-live.ensures.live (λ clean. omega (arith, clean, c.query_all.ensures.survives.clean)) (c.query_all.ensures.mode c.requires) c.query_all.ensures.ok c.query_all.ensures.err
