use Rattle.std.proofs.Common.{refl, not, ap, ◌∙◌, arith, []}
use Rattle.std.specs.Prelude.{◌∷◌}
use Rattle.sqlite.specs.Held.{state}
use Rattle.sqlite.specs.Term.{col}
use Rattle.sqlstore.specs.DeskTables.{desk_schema}
use Rattle.sqlstore.proofs.DeskTexts.{votes_text, votes_names, votes_is, votes_plain, votes_unlisted}
use Rattle.sqlstore.proofs.DeskWhole.{vote_whole}
use Rattle.sqlstore.proofs.Looking.{looks_of}
use Rattle.sqlstore.proofs.desk_rows.vote_rows.Goals as goal

pub returns : goal.returns
returns g c =
    looks_of desk_schema votes_text 0 (col 1 1 ∷ col 1 2 ∷ col 1 3 ∷ col 1 4 ∷ col 1 5 ∷ []) votes_names votes_is votes_plain votes_unlisted (λ _. refl) vote_whole (state g.S.Store c.args.conn.now) (state g.S.Store c.query_all.new.self) (λ rows. rows.items) c.query_all.result
    (c.is_autocommit-settled.ensures.settled (c.is_autocommit-settled.ensures.value ∙ ap not c.requires)) c.schema-live.ensures.live (λ clean. omega (arith, clean, c.query_all.ensures.survives.clean)) (c.query_all.ensures.mode c.requires) c.query_all.ensures.ok c.query_all.ensures.err
