use Rattle.std.proofs.Common.{Some, sym, ap, ◌∙◌, subst, arith, inl, inr}
use Rattle.sqlite.specs.Given.{Advances}
use Rattle.sqlstore.proofs.Framing.{reads_none, reads_some}
use Rattle.sqlstore.proofs.Stepping.{unchanged_keeps, undone_keeps}
use Rattle.sqlstore.proofs.walk.next_row.Goals as goal

pub returns-in-Err-clause-reads : goal.returns-in-Err-clause-reads
returns-in-Err-clause-reads g c =
    let moved = c.in-Err.ensures in
    record {
      same_reference = moved.same_reference;
      mode = moved.mode;
      clean = λ clean. omega (arith, clean, moved.survives.clean);
      kept = λ clean. elim (moved.kept clean) [ inl failed ↦ undone_keeps _ _ failed.3 | inr same ↦ unchanged_keeps _ _ same ];
      same = λ clean. tt;
      gives = λ clean. tt;
    }

pub returns-in_default-get-clause-reads : goal.returns-in_default-get-clause-reads
returns-in_default-get-clause-reads g c =
    let moved = c.in_default.ensures in
    reads_some g.S.Store c.args.rows.now.conn c.advance.new.self.conn _ moved.same_reference moved.mode (λ clean. omega (arith, clean, moved.survives.clean)) moved.same
    (λ clean. subst (Advances g.S.Store c.args.rows.now.conn.now c.advance.new.self.conn.now) (sym c.in_default-get.ensures) (moved.ok clean))

pub returns-in-Ok-clause-reads : goal.returns-in-Ok-clause-reads
returns-in-Ok-clause-reads g c =
    let moved = c.in_default.ensures in
    reads_some g.S.Store c.args.rows.now.conn c.advance.new.self.conn _ moved.same_reference moved.mode (λ clean. omega (arith, clean, moved.survives.clean)) moved.same
    (λ clean. subst (Advances g.S.Store c.args.rows.now.conn.now c.advance.new.self.conn.now) (sym c.in-Some.ensures ∙ ap Some (sym c.in-Ok.ensures)) (moved.ok clean))

pub returns-in-Err-copy-clause-reads : goal.returns-in-Err-copy-clause-reads
returns-in-Err-copy-clause-reads g c =
    let moved = c.in_default.ensures in
    reads_none g.S.Store c.args.rows.now.conn c.advance.new.self.conn _ moved.same_reference moved.mode (λ clean. omega (arith, clean, moved.survives.clean)) moved.same
