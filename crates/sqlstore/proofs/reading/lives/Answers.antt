use Rattle.std.proofs.Common.{refl, arith, []}
use Rattle.std.specs.Prelude.{codes, ◌∷◌}
use Rattle.sqlite.specs.Held.{state}
use Rattle.sqlstore.specs.Query.{AreLives, life_terms}
use Rattle.sqlstore.proofs.Crashing.{leaves_nothing}
use Rattle.sqlstore.proofs.Showing.{queries_by}
use Rattle.sqlstore.proofs.Texts.{life_text, life_is, life_plain, life_unlisted}
use Rattle.sqlstore.proofs.reading.lives.Goals as goal

pub returns : goal.returns
returns g c = record {
  does = λ clean. queries_by life_text 6 [] life_terms (codes "life" ∷ []) life_is life_plain life_unlisted (λ _. refl) [] (state g.S.Store c.args.conn.now) (state g.S.Store c.query_all.new.self) (λ db rows. AreLives (db.trees 6) rows.items) (λ rows. rows.items) c.query_all.result (λ rows found. found) (c.query_all.ensures.ok clean) (c.query_all.ensures.err clean);
  clean = λ clean. omega (arith, clean, c.query_all.ensures.survives.clean);
  mode = c.query_all.ensures.mode;
  survives = leaves_nothing life_text [] (state g.S.Store c.args.conn.now) (state g.S.Store c.query_all.new.self) life_plain c.query_all.ensures.survives;
}
