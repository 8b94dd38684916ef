use Rattle.std.proofs.Common.{refl, arith, []}
use Rattle.std.specs.Prelude.{codes, ◌∷◌}
use Rattle.sqlite.specs.Held.{state}
use Rattle.sqlstore.specs.Query.{AreSlots, slot_terms}
use Rattle.sqlstore.specs.Step.{visit_params}
use Rattle.sqlstore.specs.Tests.{of_visit}
use Rattle.sqlstore.proofs.Crashing.{leaves_nothing}
use Rattle.sqlstore.proofs.Showing.{queries_by}
use Rattle.sqlstore.proofs.Texts.{slots_text, slots_is, slots_plain, slots_unlisted}
use Rattle.sqlstore.proofs.reading.slots_of.Goals as goal

pub returns : goal.returns
returns g c = record {
  does = λ clean. queries_by slots_text 4 of_visit slot_terms (codes "leaf" ∷ codes "id" ∷ []) slots_is slots_plain slots_unlisted (λ _. refl) (visit_params c.args.visit.now) (state g.S.Store c.args.conn.now) (state g.S.Store c.query_all.new.self) (λ db rows. AreSlots c.args.visit.now (db.trees 4) rows.items) (λ rows. rows.items) c.query_all.result (λ rows found. found) (rw (c.number.ensures, c.number-2.ensures) at (c.query_all.ensures.ok clean)) (rw (c.number.ensures, c.number-2.ensures) at (c.query_all.ensures.err clean));
  clean = λ clean. omega (arith, clean, c.query_all.ensures.survives.clean);
  mode = c.query_all.ensures.mode;
  survives = leaves_nothing slots_text (visit_params c.args.visit.now) (state g.S.Store c.args.conn.now) (state g.S.Store c.query_all.new.self) slots_plain (rw (c.number.ensures, c.number-2.ensures) at c.query_all.ensures.survives);
}
