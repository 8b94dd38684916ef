use Rattle.std.proofs.Common.{refl, arith, [], string_bytes}
use Rattle.std.specs.Prelude.{codes, ◌∷◌}
use Rattle.sqlite.specs.Held.{state}
use Rattle.sqlstore.specs.Query.{AreBodies, key_params, body_terms}
use Rattle.sqlstore.specs.Tests.{at_slot}
use Rattle.sqlstore.proofs.Crashing.{leaves_nothing}
use Rattle.sqlstore.proofs.Showing.{queries_by}
use Rattle.sqlstore.proofs.Texts.{bodies_text, bodies_is, bodies_plain, bodies_unlisted}
use Rattle.sqlstore.proofs.reading.bodies_at.Goals as goal

pub returns : goal.returns
returns g c = record {
  does = λ clean. let name = string_bytes c.args.name.now in let key = c.args.key.now in queries_by bodies_text 0 at_slot body_terms (codes "body" ∷ []) bodies_is bodies_plain bodies_unlisted (λ _. refl) (key_params name key) (state g.S.Store c.args.conn.now) (state g.S.Store c.query_all.new.self) (λ db rows. AreBodies name key (db.trees 0) rows.items) (λ rows. rows.items) c.query_all.result (λ rows found. found) (rw (c.text.ensures, c.number.ensures) at (c.query_all.ensures.ok clean)) (rw (c.text.ensures, c.number.ensures) at (c.query_all.ensures.err clean));
  clean = λ clean. omega (arith, clean, c.query_all.ensures.survives.clean);
  mode = c.query_all.ensures.mode;
  survives = leaves_nothing bodies_text (key_params (string_bytes c.args.name.now) c.args.key.now) (state g.S.Store c.args.conn.now) (state g.S.Store c.query_all.new.self) bodies_plain (rw (c.text.ensures, c.number.ensures) at c.query_all.ensures.survives);
}
