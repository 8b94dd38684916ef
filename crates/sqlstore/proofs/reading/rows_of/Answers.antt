use Rattle.std.proofs.Common.{refl, arith, [], string_bytes}
use Rattle.std.specs.Prelude.{codes, ◌∷◌}
use Rattle.sqlite.specs.Held.{state}
use Rattle.sqlite.specs.declared.types.Value.TheVariants.{Text}
use Rattle.sqlstore.specs.Listed.{AreRowsOf, part_terms}
use Rattle.sqlstore.specs.Tests.{of_leaf}
use Rattle.sqlstore.proofs.Crashing.{leaves_nothing}
use Rattle.sqlstore.proofs.Showing.{queries_by}
use Rattle.sqlstore.proofs.Texts.{rows_text, rows_is, rows_plain, rows_unlisted}
use Rattle.sqlstore.proofs.reading.rows_of.Goals as goal

pub returns : goal.returns
returns g c = record {
  does = λ clean. let name = string_bytes c.args.name.now in queries_by rows_text 0 of_leaf part_terms (codes "rowid" ∷ codes "leaf" ∷ codes "id" ∷ codes "body" ∷ []) rows_is rows_plain rows_unlisted (λ _. refl) (Text name ∷ []) (state g.S.Store c.args.conn.now) (state g.S.Store c.query_all.new.self) (λ db rows. AreRowsOf name (db.trees 0) rows.items) (λ rows. rows.items) c.query_all.result (λ rows found. found) (rw (c.text.ensures) at (c.query_all.ensures.ok clean)) (rw (c.text.ensures) at (c.query_all.ensures.err clean));
  clean = λ clean. omega (arith, clean, c.query_all.ensures.survives.clean);
  mode = c.query_all.ensures.mode;
  survives = leaves_nothing rows_text (Text (string_bytes c.args.name.now) ∷ []) (state g.S.Store c.args.conn.now) (state g.S.Store c.query_all.new.self) rows_plain (rw (c.text.ensures) at c.query_all.ensures.survives);
}
