use Rattle.std.proofs.Common.{refl, arith, []}
use Rattle.std.specs.Prelude.{codes, ◌∷◌}
use Rattle.sqlite.specs.Held.{state}
use Rattle.sqlstore.specs.DeskQuery.{HasDeskSchema, AreEpochs, epoch_terms}
use Rattle.sqlstore.specs.DeskTables.{desk_schema}
use Rattle.sqlstore.proofs.Crashing.{leaves_none}
use Rattle.sqlstore.proofs.Showing.{queries_of}
use Rattle.sqlstore.proofs.DeskTexts.{epochs_text, epochs_is, epochs_plain, epochs_unlisted}
use Rattle.sqlstore.proofs.epoch.epochs.Goals as goal

pub returns : goal.returns
returns g c = record {
  does = λ clean. queries_of desk_schema HasDeskSchema (λ db known. known) epochs_text 2 [] epoch_terms (codes "life" ∷ codes "version" ∷ []) epochs_is epochs_plain epochs_unlisted (λ _. refl) [] (state g.S.Store c.args.conn.now) (state g.S.Store c.query_all.new.self) (λ db rows. AreEpochs (db.trees 2) rows.items) (λ rows. rows.items) c.query_all.result (λ rows found. found) (c.query_all.ensures.ok clean) (c.query_all.ensures.err clean);
  clean = λ clean. omega (arith, clean, c.query_all.ensures.survives.clean);
  mode = c.query_all.ensures.mode;
  survives = leaves_none desk_schema HasDeskSchema (λ db known. known) epochs_text [] (state g.S.Store c.args.conn.now) (state g.S.Store c.query_all.new.self) epochs_plain c.query_all.ensures.survives;
}
