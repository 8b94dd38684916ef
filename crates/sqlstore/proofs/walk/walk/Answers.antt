use Rattle.std.proofs.Common.{◌≡◌, not, [], Err, ap, ◌∙◌, refl, arith, rules}
use Rattle.std.specs.Prelude.{◌∷◌}
use Rattle.sqlite.specs.Effect.{Database}
use Rattle.sqlite.specs.Held.{state}
use Rattle.sqlite.specs.Term.{col}
use Rattle.sqlstore.specs.Frame.{WalksParts}
use Rattle.store.specs.declared.fault.StoreFault.TheVariants.{Memory}
use Rattle.sqlstore.specs.Tables.{site_schema}
use Rattle.sqlstore.specs.Walk.{parts_text, HasWalked}
use Rattle.sqlstore.proofs.Looking.{looks_err}
use Rattle.sqlstore.proofs.Texts.{parts_names, parts_is, parts_plain, parts_unlisted}
use Rattle.sqlstore.proofs.Walking.{begins, begun_open, finished, goes_on, kept_self, memory_intact, next_fine_is, walks_on, walks_short, walks_to}
use Rattle.sqlstore.proofs.Whole.{part_whole}
use Rattle.sqlstore.proofs.walk.walk.Goals as goal

pub returns-in-Err-clause-walks : goal.returns-in-Err-clause-walks
returns-in-Err-clause-walks g c =
    let last = rw c.in-Err.is at c.query.follows.holds-at-none in
    let looks = looks_err site_schema parts_text 0 (col 1 1 ∷ col 1 2 ∷ col 1 3 ∷ []) parts_names parts_is parts_plain parts_unlisted (λ _. refl) part_whole (state g.S.Store c.args.conn.now) (state g.S.Store c.query.follows.lender-at-none) _ c.blame.result c.in-Err.error
    (c.is_autocommit-settled.ensures.settled (c.is_autocommit-settled.ensures.value ∙ ap not c.requires)) (λ clean. omega (arith, clean, last.survives.clean)) (last.mode c.requires) last.err in
    let intact = c.blame.ensures.intact in
    record { looks = looks; intact = λ clean is_open schema parts damaged. intact (let same = damaged in cc) }

pub rows-init : goal.rows-init
rows-init g c =
    let made = c.in-Ok.ensures in (
      refl,
      made.mode c.requires,
      omega arith,
      λ clean. (omega (arith, clean, made.survives.clean), begun_open g.S.Store c.args.leaves.now c.args.conn.now c.in-Ok.rows.conn.now (made.begun clean), λ schema. begins g.S.Store c.args.leaves.now c.args.conn.now c.in-Ok.rows.conn.now c.args.keeps c.args.changes.now schema (made.begun clean)),
    )

pub rows-preserved : goal.rows-preserved
rows-preserved g c =
    let step = c.next_row.ensures.reads in
    let kept = c.rows.invariant in (
      step.same_reference ∙ kept.0,
      step.mode kept.1,
      omega (arith, kept.2, c.next_row.ensures.counted.counts),
      λ clean.
          let was = kept.3 (step.clean clean) in (
            was.0,
            λ is_open. was.1 ((step.kept clean).was_open is_open),
            λ schema. goes_on g.S.Store c.args.leaves.now c.args.conn.now c.rows.rows.conn.now c.next_row.new.rows.conn.now c.rows.before c.in-Some.row c.args.keeps c.args.changes.now c.rows.changes _ (was.2 schema) (c.in_ok-row.ensures.reads.same clean)
                (rw c.in-Some.is at (c.in_ok-row.ensures.reads.gives clean)) c.in_ok-meet_row.ensures.ok,
          ),
    )

pub returns-in_default-clause-walks : goal.returns-in_default-clause-walks
returns-in_default-clause-walks g c =
    let step = c.next_row.ensures.reads in
    let end = c.next_row.new.rows.conn.now in
    let looks = finished g.S.Store c.args.leaves.now c.args.conn.now c.rows.rows.conn.now end c.rows.before c.args.keeps c.args.changes.now c.rows.changes
    (c.is_autocommit-settled.ensures.settled (c.is_autocommit-settled.ensures.value ∙ ap not c.requires)) c.rows.invariant.3 step.clean step.kept (step.mode c.rows.invariant.1) c.schema-live.ensures.live (λ clean. rw c.in_default.is at (c.in_ok-row.ensures.reads.gives clean)) in
    search (rules, walks_on c.args.leaves.now _ (state g.S.Store c.args.conn.now) (state g.S.Store end) tt looks)

pub returns-in_err-row-clause-walks : goal.returns-in_err-row-clause-walks
returns-in_err-row-clause-walks g c =
    let step = c.next_row.ensures.reads in
    let intact = c.in_err-row.ensures.intact in
    let walks = walks_short g.S.Store c.args.leaves.now c.args.conn.now c.rows.rows.conn.now c.next_row.new.rows.conn.now c.rows.before c.args.keeps c.args.changes.now c.rows.changes
    (c.is_autocommit-settled.ensures.settled (c.is_autocommit-settled.ensures.value ∙ ap not c.requires)) c.rows.invariant.3 step.clean step.kept (λ db x. HasWalked c.args.leaves.now (db.trees 0) c.args.keeps c.args.changes.now c.rows.changes) c.from_residual.result c.from_residual.ensures.0 (step.mode c.rows.invariant.1) (λ clean is_open schema parts. search (rules, intact)) in
    search (rules, walks)

pub returns-in_err-meet_row-clause-walks : goal.returns-in_err-meet_row-clause-walks
returns-in_err-meet_row-clause-walks g c =
    let step = c.next_row.ensures.reads in
    let end = c.next_row.new.rows.conn.now in
    let walks : (P : Database → Unit {0} → Type 0) → WalksParts c.args.leaves.now P (state g.S.Store c.args.conn.now) (state g.S.Store end) c.from_residual-in_err-meet_row.result = λ P. walks_short g.S.Store c.args.leaves.now c.args.conn.now c.rows.rows.conn.now end c.rows.before c.args.keeps c.args.changes.now c.rows.changes
    (c.is_autocommit-settled.ensures.settled (c.is_autocommit-settled.ensures.value ∙ ap not c.requires)) c.rows.invariant.3 step.clean step.kept P c.from_residual-in_err-meet_row.result c.from_residual-in_err-meet_row.ensures.0 (step.mode c.rows.invariant.1)
    (λ clean is_open schema parts.
    let fine = next_fine_is g.S.Store c.args.leaves.now c.args.conn.now c.rows.rows.conn.now end c.rows.before c.args.keeps c.args.changes.now c.rows.changes
    (c.is_autocommit-settled.ensures.settled (c.is_autocommit-settled.ensures.value ∙ ap not c.requires)) c.rows.invariant.3 step.clean step.kept c.in-Some.row c.schema-live.ensures.live clean is_open schema parts (c.in_ok-row.ensures.reads.same clean) (rw c.in-Some.is at (c.in_ok-row.ensures.reads.gives clean)) in
    search (rules, c.meet_row.ensures.fails.intact fine)) in
    let same : end ≡ c.conn-in_err-meet_row-1.given.0 = search rules in
    walks_to g.S.Store c.args.leaves.now _ c.args.conn.now end c.conn-in_err-meet_row-1.given.0 c.from_residual-in_err-meet_row.result same (walks _)

pub returns-clause-walks : goal.returns-clause-walks
returns-clause-walks g c =
    let here = c.rows.rows.conn.now in
    let walks = walks_short g.S.Store c.args.leaves.now c.args.conn.now here here c.rows.before c.args.keeps c.args.changes.now c.rows.changes
    (c.is_autocommit-settled.ensures.settled (c.is_autocommit-settled.ensures.value ∙ ap not c.requires)) c.rows.invariant.3 (λ clean. clean) (λ clean. kept_self (state g.S.Store here)) {A = Unit {0}} (λ db x. HasWalked c.args.leaves.now (db.trees 0) c.args.keeps c.args.changes.now c.rows.changes) (Err Memory) refl c.rows.invariant.1 (λ clean is_open schema parts. memory_intact) in
    search (rules, walks)
