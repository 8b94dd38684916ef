-- What calls leave, from what the calls that they make leave.
use Rattle.std.proofs.Common.{◌≡◌, false, true, [], Ok, Err, Option, Result, IfOk, IfErr, OnOk, OnErr, IsTrue, refl, sym, ◌∙◌, subst, arith, inl, inr}
use Rattle.std.specs.Borrow.{MutBor}
use Rattle.std.specs.Result.{IsErr}
use Rattle.sqlite.specs.Effect.{Database}
use Rattle.sqlite.specs.Given.{Advances}
use Rattle.sqlite.specs.Held.{Held, state}
use Rattle.sqlite.specs.Order.{Row}
use Rattle.sqlite.specs.Schema.{Schema}
use Rattle.sqlite.specs.State.{State, HasCleanDisk, IsUnchanged, KeepsCommit, KeepsCounts, IsRolledBack, Shows, Survives}
use Rattle.sqlite.specs.Steps.{FailsToCommit}
use Rattle.sqlite.specs.Store.{Ghosts}
use Rattle.sqlite.specs.declared.error.Error.{Error}
use Rattle.sqlite.proofs.Callers.{survives_begin}
use Rattle.sqlite.proofs.InsideLemmas.{keeps_then}
use Rattle.sqlite.proofs.StateLemmas.{survives_then, survives_weaker}
use Rattle.sqlstore.specs.Frame.{RunsWithin, Asks, StaysOutside, Commits, LooksAndCommits, CreatesTables, LooksAt, ReadsOn}
use Rattle.sqlstore.specs.Rows.{AreTablesOf, HasSchema}
use Rattle.sqlstore.specs.Step.{StepsOn, Follows}
use Rattle.sqlstore.specs.Tables.{no_schema}
use Rattle.sqlstore.proofs.Composed.{then_step}
use Rattle.sqlstore.proofs.Committing.{settled_query}
use Rattle.sqlstore.proofs.Crashing.{crash_idle, crash_after}
use Rattle.sqlstore.proofs.Stepping.{unchanged_keeps, undone_keeps}

-- ---- what follows of an answer, and of a fault

pub on_ok : {T E P Q : Type 0} (result : Result T E) → (P → Q) → OnOk result P → OnOk result Q
on_ok (Ok value) means holds = means holds
on_ok (Err e) means holds = tt

on_err : {T E P Q : Type 0} (result : Result T E) → (P → Q) → OnErr result P → OnErr result Q
on_err (Ok value) means holds = tt
on_err (Err e) means holds = means holds

module _ {S : Type 0} (g : Ghosts S) where
  -- ---- statements within a transaction

  -- of two statements, what both make
  pub runs_both : {Known Between : Database → Type 0} {A B : Type 0} (P Q R : Database → Database → Type 0) (old mid new : MutBor (Held S)) (value : A) (result : Result B Error) → (P (state g old.now).now (state g mid.now).now → Between (state g mid.now).now)
      → (P (state g old.now).now (state g mid.now).now → Q (state g mid.now).now (state g new.now).now → R (state g old.now).now (state g new.now).now)
      → RunsWithin g Known P old mid (Ok value) → RunsWithin g Between Q mid new result → RunsWithin g Known R old new result
  runs_both P Q R old mid new value result known both first second = record {
    same_reference = second.same_reference ∙ first.same_reference;
    does = λ clean inside.
        let early = first.does (omega (arith, second.survives.clean, clean)) inside in
        then_step P Q R (state g old.now) (state g mid.now) (state g new.now) value result known both early (second.does clean early.shows.mode);
    survives = survives_then (state g old.now) (state g mid.now) (state g new.now) _ _ _ (λ _ db none. none) (λ _ db none. none) first.survives second.survives;
  }

  pub runs_then : {Known Between : Database → Type 0} {A B : Type 0} (P Q : Database → Database → Type 0) (old mid new : MutBor (Held S)) (value : A) (result : Result B Error) → (P (state g old.now).now (state g mid.now).now → Between (state g mid.now).now)
      → RunsWithin g Known P old mid (Ok value) → RunsWithin g Between Q mid new result → RunsWithin g Known (Follows P Q) old new result
  runs_then P Q old mid new value result known = runs_both P Q (Follows P Q) old mid new value result known (λ p q. ((state g mid.now).now, p, q))

  -- a statement that answered, whatever it answered
  pub runs_as : {Known : Database → Type 0} {A B : Type 0} (P R : Database → Database → Type 0) (old new : MutBor (Held S)) (value : A) (other : B) → (P (state g old.now).now (state g new.now).now → R (state g old.now).now (state g new.now).now)
      → RunsWithin g Known P old new (Ok value) → RunsWithin g Known R old new (Ok other)
  runs_as P R old new value other weaker ran = record {
    same_reference = ran.same_reference;
    does = λ clean inside. let step = ran.does clean inside in record { kept = step.kept; shows = step.shows; does = λ were. weaker (step.does were) };
    survives = ran.survives;
  }

  -- one that failed
  pub runs_err : {Known : Database → Type 0} {A B : Type 0} (P R : Database → Database → Type 0) (old new : MutBor (Held S)) (e : Error) (result : Result B Error) → IsErr result → RunsWithin {A = A} g Known P old new (Err e) → RunsWithin g Known R old new result
  runs_err P R old new e (Ok value) failed ran = absurd (let e = failed in cc)
  runs_err P R old new e (Err other) failed ran = record {
    same_reference = ran.same_reference;
    does = λ clean inside. record { kept = (ran.does clean inside).kept; shows = tt; does = λ _. tt };
    survives = ran.survives;
  }

  -- and one that failed after others that answered
  pub runs_short : {Known Between : Database → Type 0} {A B C : Type 0} (P Q R : Database → Database → Type 0) (old mid new : MutBor (Held S)) (value : A) (e : Error) (result : Result C Error) → IsErr result → RunsWithin g Known P old mid (Ok value) → RunsWithin {A = B} g Between Q mid new (Err e)
      → RunsWithin g Known R old new result
  runs_short P Q R old mid new value e (Ok other) failed first second = absurd (let e = failed in cc)
  runs_short P Q R old mid new value e (Err other) failed first second = record {
    same_reference = second.same_reference ∙ first.same_reference;
    does = λ clean inside.
        let early = first.does (omega (arith, second.survives.clean, clean)) inside in
        record { kept = keeps_then (state g old.now) (state g mid.now) (state g new.now) early.kept (second.does clean early.shows.mode).kept; shows = tt; does = λ _. tt };
    survives = survives_then (state g old.now) (state g mid.now) (state g new.now) _ _ _ (λ _ db none. none) (λ _ db none. none) first.survives second.survives;
  }

  -- ---- transactions

  -- a commit that failed has committed nothing
  fails_keeps : (old new : State) (e : Error) → FailsToCommit old new e → KeepsCommit old new
  fails_keeps old new e (inl failed) = undone_keeps old new failed.3
  fails_keeps old new e (inr late) = unchanged_keeps old new late.2

  -- what `commit` says where it answers
  abbrev EndsWell : State → State → Type 0
  EndsWell last new = IsTrue last.in_transaction × Shows last new last.now last.now false × KeepsCounts last new × (new.marks ≡ [])

  -- what a commit leaves of the last state of its transaction
  ends_keeps : (last new : State) (result : Result (Unit {0}) Error) → OnOk result (EndsWell last new) → IfErr result (FailsToCommit last new)
      → (IsTrue new.is_open → IsTrue last.is_open) × OnErr result (KeepsCommit last new) × OnOk result (Shows last new last.now last.now false)
  ends_keeps last new (Ok done) ok err = (λ _. ok.1.was_open, tt, ok.1)
  ends_keeps last new (Err e) ok err = let kept = fails_keeps last new e err in (kept.was_open, kept, tt)

  module _ (old : Held S) (start last : MutBor (Held S)) (settled : IsTrue (state g old).is_open → (state g old).now ≡ (state g old).committed) (begun : start.now ≡ record old { in_transaction = true }) where
    begins_inside : IsTrue (state g start.now).in_transaction
    begins_inside = subst (λ h. IsTrue (state g h).in_transaction) (sym begun) refl

    -- the transaction's steps, as steps of the connection
    steps_from : {Known : Database → Type 0} {A : Type 0} (P : Database → Database → Type 0) (result : Result A Error) → RunsWithin g Known P start last result → HasCleanDisk (state g last.now) → StepsOn Known P (state g (record old { in_transaction = true })) (state g last.now) result
    steps_from {Known} P result ran clean = subst (λ h. StepsOn Known P (state g h) (state g last.now) result) begun (ran.does clean begins_inside)

    inside : {Known : Database → Type 0} {A : Type 0} (P : Database → Database → Type 0) (result : Result A Error) → RunsWithin g Known P start last result → Survives (state g (record old { in_transaction = true })) (state g last.now) (λ _. ⊥)
    inside P result ran = subst (λ h. Survives (state g h) (state g last.now) (λ _. ⊥)) begun ran.survives

    module _ {Known : Database → Type 0} {A : Type 0} (P : Database → Database → Type 0) (value : A) (ran : RunsWithin g Known P start last (Ok value)) (new : Held S) (result : Result (Unit {0}) Error) (ended : new.in_transaction ≡ false)
        (ok : HasCleanDisk (state g new) → OnOk result (EndsWell (state g last.now) (state g new)))
        (err : HasCleanDisk (state g new) → IfErr result (FailsToCommit (state g last.now) (state g new))) (survives : Survives (state g last.now) (state g new) (λ db. db ≡ (state g last.now).now.trees)) where
      last_clean : HasCleanDisk (state g new) → HasCleanDisk (state g last.now)
      last_clean clean = omega (arith, survives.clean, clean)

      -- the connection stays outside
      outside_of : StaysOutside (state g old) (state g new)
      outside_of = record {
        clean = λ clean. omega (arith, (inside P (Ok value) ran).clean, last_clean clean);
        was_open = λ clean is_open. (steps_from P (Ok value) ran (last_clean clean)).kept.was_open ((ends_keeps (state g last.now) (state g new) result (ok clean) (err clean)).0 is_open);
        mode = ended;
      }

      -- where the commit fails, nothing has changed
      unchanged_by : HasCleanDisk (state g new) → IsTrue (state g new).is_open → OnErr result ((state g new).committed ≡ (state g old).committed)
      unchanged_by clean is_open =
          let kept = (steps_from P (Ok value) ran (last_clean clean)).kept in
          on_err result (λ (k : KeepsCommit (state g last.now) (state g new)). k.committed is_open ∙ kept.committed (k.was_open is_open)) (ends_keeps (state g last.now) (state g new) result (ok clean) (err clean)).1

      -- what was made of what was committed is committed
      done_by : (clean : HasCleanDisk (state g new)) → Known (state g old).committed → OnOk result (P (state g old).committed (state g new).committed)
      done_by clean known =
          let step = steps_from P (Ok value) ran (last_clean clean) in
          let now : (state g old).now ≡ (state g old).committed = settled step.shows.was_open in
          let made = subst (λ db. P db (state g last.now).now) now (step.does (subst Known (sym now) known)) in
          on_ok result (λ (s : Shows (state g last.now) (state g new) (state g last.now).now (state g last.now).now false). subst (P (state g old).committed) (sym s.committed_is) made)
          (ends_keeps (state g last.now) (state g new) result (ok clean) (err clean)).2

      -- and a crash finds that, or what was committed before
      crash_by : Survives (state g old) (state g new) (λ db. IsTrue (state g old).is_open → Known (state g old).committed → (after : Database) × P (state g old).committed after × (db ≡ after.trees))
      crash_by = survives_then (state g old) (state g last.now) (state g new) _ _ _ (λ _ db none. absurd none)
          (λ clean db is was_open known.
          let step = steps_from P (Ok value) ran (last_clean clean) in
          let now = settled was_open in
          ((state g last.now).now, subst (λ was. P was (state g last.now).now) now (step.does (subst Known (sym now) known)), is))
          (survives_begin g old (state g last.now) _ (inside P (Ok value) ran)) survives

    -- a transaction that is committed
    pub commits : {own : Schema} {A : Type 0} (P : Database → Database → Type 0) (value : A) → RunsWithin g (AreTablesOf own) P start last (Ok value) → (new : Held S) (result : Result (Unit {0}) Error) → new.in_transaction ≡ false
        → (HasCleanDisk (state g new) → OnOk result (EndsWell (state g last.now) (state g new)))
        → (HasCleanDisk (state g new) → IfErr result (FailsToCommit (state g last.now) (state g new))) → Survives (state g last.now) (state g new) (λ db. db ≡ (state g last.now).now.trees) → Commits own P (state g old) (state g new) result
    commits P value ran new result ended ok err survives = record {
      done = done_by P value ran new result ended ok err survives;
      answers = λ clean. on_ok result (λ (s : Shows (state g last.now) (state g new) (state g last.now).now (state g last.now).now false). s.is_open) (ends_keeps (state g last.now) (state g new) result (ok clean) (err clean)).2;
      unchanged = λ clean is_open _. unchanged_by P value ran new result ended ok err survives clean is_open;
      outside = outside_of P value ran new result ended ok err survives;
      crash = crash_by P value ran new result ended ok err survives;
    }

    -- so where it makes tables
    pub creates : {A : Type 0} (P : Database → Database → Type 0) (IsNew : Database → Type 0) → ((was now : Database) → P was now → IsNew now) → (value : A) → RunsWithin g (HasSchema no_schema) P start last (Ok value) → (new : Held S) (result : Result (Unit {0}) Error)
        → new.in_transaction ≡ false
        → (HasCleanDisk (state g new) → OnOk result (EndsWell (state g last.now) (state g new)))
        → (HasCleanDisk (state g new) → IfErr result (FailsToCommit (state g last.now) (state g new))) → Survives (state g last.now) (state g new) (λ db. db ≡ (state g last.now).now.trees) → CreatesTables IsNew (state g old) (state g new) result
    creates P IsNew fresh value ran new result ended ok err survives = record {
      done = λ clean empty. on_ok result (fresh (state g old).committed (state g new).committed) (done_by P value ran new result ended ok err survives clean empty);
      unchanged = unchanged_by P value ran new result ended ok err survives;
      outside = outside_of P value ran new result ended ok err survives;
      crash = survives_weaker (state g old) (state g new) _ _ (λ _ db left was_open empty. let it = left was_open empty in (it.0, fresh (state g old).committed it.0 it.1, it.2)) (crash_by P value ran new result ended ok err survives);
    }

    -- a transaction that is rolled back, since a statement failed
    module _ {Known : Database → Type 0} {A : Type 0} (P : Database → Database → Type 0) (e : Error) (ran : RunsWithin {A = A} g Known P start last (Err e)) (new : Held S) (ended : new.in_transaction ≡ false)
        (undone : HasCleanDisk (state g new) → IsRolledBack (state g last.now) (state g new)) (survives : Survives (state g last.now) (state g new) (λ _. ⊥)) where
      outside_undone : StaysOutside (state g old) (state g new)
      outside_undone = record {
        clean = λ clean. omega (arith, (inside P (Err e) ran).clean, survives.clean, clean);
        was_open = λ clean is_open. (steps_from P (Err e) ran (omega (arith, survives.clean, clean))).kept.was_open ((undone clean).was_open is_open);
        mode = ended;
      }

      unchanged_undone : HasCleanDisk (state g new) → IsTrue (state g new).is_open → (state g new).committed ≡ (state g old).committed
      unchanged_undone clean is_open =
          let back = undone clean in
          (back.undone is_open).1 ∙ (steps_from P (Err e) ran (omega (arith, survives.clean, clean))).kept.committed (back.was_open is_open)

      nothing_undone : Survives (state g old) (state g new) (λ _. ⊥)
      nothing_undone = survives_then (state g old) (state g last.now) (state g new) _ _ _ (λ _ db none. none) (λ _ db none. none) (survives_begin g old (state g last.now) _ (inside P (Err e) ran)) survives

      pub commits_nothing : {own : Schema} {B : Type 0} (R : Database → Database → Type 0) (result : Result B Error) → IsErr result → Commits own R (state g old) (state g new) result
      commits_nothing R (Ok value) failed = absurd (let e = failed in cc)
      commits_nothing R (Err other) failed = record {
        done = λ clean tables. tt;
        answers = λ clean. tt;
        unchanged = λ clean is_open tables. unchanged_undone clean is_open;
        outside = outside_undone;
        crash = survives_weaker (state g old) (state g new) _ _ (λ _ db none. absurd none) nothing_undone;
      }

      pub creates_nothing : {B : Type 0} (IsNew : Database → Type 0) (result : Result B Error) → IsErr result → CreatesTables IsNew (state g old) (state g new) result
      creates_nothing IsNew (Ok value) failed = absurd (let e = failed in cc)
      creates_nothing IsNew (Err other) failed = record {
        done = λ clean empty. tt;
        unchanged = unchanged_undone;
        outside = outside_undone;
        crash = survives_weaker (state g old) (state g new) _ _ (λ _ db none. absurd none) nothing_undone;
      }

-- ---- rows that are read one at a time

module _ {S E : Type 0} (g : Ghosts S) (old new : MutBor (Held S)) where
  -- the next row, or that there is none
  pub reads_some : (row : Option Row) → new.ghost_name ≡ old.ghost_name → (old.now.in_transaction ≡ false → new.now.in_transaction ≡ false) → (HasCleanDisk (state g new.now) → HasCleanDisk (state g old.now)) → (HasCleanDisk (state g new.now) → IsUnchanged (state g old.now) (state g new.now))
      → (HasCleanDisk (state g new.now) → Advances g old.now new.now row) → ReadsOn {E = E} g old new (Ok row)
  reads_some row reference mode clean same gives = record { same_reference = reference; mode = mode; clean = clean; kept = λ c. unchanged_keeps (state g old.now) (state g new.now) (same c); same = same; gives = gives }

  -- want of memory for a row that was read
  pub reads_none : (e : E) → new.ghost_name ≡ old.ghost_name → (old.now.in_transaction ≡ false → new.now.in_transaction ≡ false) → (HasCleanDisk (state g new.now) → HasCleanDisk (state g old.now)) → (HasCleanDisk (state g new.now) → IsUnchanged (state g old.now) (state g new.now))
      → ReadsOn g old new (Err e)
  reads_none e reference mode clean same = record { same_reference = reference; mode = mode; clean = clean; kept = λ c. unchanged_keeps (state g old.now) (state g new.now) (same c); same = λ c. tt; gives = λ c. tt }

-- ---- calls that look first

-- a query of what is committed
pub asks_outside : {Known : Database → Type 0} {A : Type 0} (P : Database → A → Type 0) (old new : State) (result : Result A Error) → (IsTrue old.is_open → old.now ≡ old.committed) → old.in_transaction ≡ false → Asks Known P old new result → LooksAt Known P old new result
asks_outside P old new result settled mode asks = record {
  outside = record { clean = asks.clean; was_open = λ clean is_open. (asks.does clean).was_open is_open; mode = asks.mode mode };
  same = λ clean is_open known. (settled_query P old new result settled (asks.does clean) is_open known).1;
  shows = λ clean is_open known. (settled_query P old new result settled (asks.does clean) is_open known).0;
}

pub on_err_of : {T E P : Type 0} (result : Result T E) → P → OnErr result P
on_err_of (Ok value) holds = tt
on_err_of (Err e) holds = holds

-- what follows where a call answered
on_yes : {T E P : Type 0} (Q : Type 0) (result : Result T E) → (P → OnOk result Q) → OnOk result P → OnOk result Q
on_yes Q (Ok value) means holds = means holds
on_yes Q (Err e) means holds = tt

pub on_never : {T E : Type 0} (P : Type 0) (result : Result T E) → IsErr result → OnOk result P
on_never P (Ok value) failed = absurd (let e = failed in cc)
on_never P (Err e) failed = tt

-- what is said of an answer holds where there is none
pub if_never : {T E : Type 0} (P : T → Type 0) (result : Result T E) → IsErr result → IfOk result P
if_never P (Ok value) failed = absurd (let e = failed in cc)
if_never P (Err e) failed = tt

-- a transaction that makes something of what a query showed
module _ (own : Schema) (Known : Database → Type 0) (says : (db : Database) → AreTablesOf own db → Known db) {V B : Type 0} (P : Database → V → Type 0) (R : Database → Database → Type 0) (old asked : State) (settled : IsTrue old.is_open → old.now ≡ old.committed) where
  -- where the query failed
  pub asks_nothing : (query : Result V Error) (result : Result B Error) → IsErr result → old.in_transaction ≡ false → Asks Known P old asked query → Commits own R old asked result
  asks_nothing query result failed mode asks = record {
    done = λ clean tables. on_never _ result failed;
    answers = λ clean. on_never _ result failed;
    unchanged = λ clean is_open tables.
        let does = asks.does clean in
        on_err_of result ((does.kept (says old.now (subst (AreTablesOf own) (sym (settled (does.was_open is_open))) tables))).committed is_open);
    outside = record { clean = asks.clean; was_open = λ clean is_open. (asks.does clean).was_open is_open; mode = asks.mode mode };
    crash = crash_idle own Known says R old asked settled asks.survives;
  }

  -- and where it answered
  pub asks_then : (Q : Database → Database → Type 0) (new : State) (found : V) (result : Result B Error) → ((db after : Database) → P db found → Q db after → R db after) → Asks Known P old asked (Ok found) → Commits own Q asked new result → Commits own R old new result
  asks_then Q new found result both asks commits = record {
    done = λ clean tables. on_yes (R old.committed new.committed) result (λ (is_open : IsTrue new.is_open).
        let does = asks.does (commits.outside.clean clean) in
        let now = settled (does.was_open (commits.outside.was_open clean is_open)) in
        let known = says old.now (subst (AreTablesOf own) (sym now) tables) in
        let same = (does.same known).committed_is in
        on_ok result (both old.committed new.committed (subst (λ db. P db found) now (does.shows known))) (subst (λ db. OnOk result (Q db new.committed)) same (commits.done clean (subst (AreTablesOf own) (sym same) tables)))) (commits.answers clean);
    answers = commits.answers;
    unchanged = λ clean is_open tables.
        let does = asks.does (commits.outside.clean clean) in
        let now = settled (does.was_open (commits.outside.was_open clean is_open)) in
        let same = (does.same (says old.now (subst (AreTablesOf own) (sym now) tables))).committed_is in
        subst (λ db. OnErr result (new.committed ≡ db)) same (commits.unchanged clean is_open (subst (AreTablesOf own) (sym same) tables));
    outside = record {
      clean = λ clean. asks.clean (commits.outside.clean clean);
      was_open = λ clean is_open. (asks.does (commits.outside.clean clean)).was_open (commits.outside.was_open clean is_open);
      mode = commits.outside.mode;
    };
    crash = crash_after own Known says P Q R old asked new found both settled asks.survives asks.does commits.crash;
  }

module _ (own : Schema) (Known : Database → Type 0) (says : (db : Database) → AreTablesOf own db → Known db) {V B : Type 0} (P : Database → V → Type 0) (R : B → Database → Database → Type 0) (May : Database → Database → Type 0) (old asked : State)
    (settled : IsTrue old.is_open → old.now ≡ old.committed) where
  -- a call that only looked
  pub looked : (query : Result V Error) (result : Result B Error) → old.in_transaction ≡ false → Asks Known P old asked query → (asked.committed ≡ old.committed → IfOk result (λ answer. R answer old.committed asked.committed))
      → LooksAndCommits own R May old asked result
  looked query result mode asks answers = record {
    done = λ clean is_open tables. answers (same clean is_open tables);
    unchanged = λ clean is_open tables. on_err_of result (same clean is_open tables);
    outside = record { clean = asks.clean; was_open = λ clean is_open. (asks.does clean).was_open is_open; mode = asks.mode mode };
    crash = crash_idle own Known says May old asked settled asks.survives;
  }
    where
      same : HasCleanDisk asked → IsTrue asked.is_open → AreTablesOf own old.committed → asked.committed ≡ old.committed
      same clean is_open tables =
          let does = asks.does clean in
          (does.kept (says old.now (subst (AreTablesOf own) (sym (settled (does.was_open is_open))) tables))).committed is_open

  -- and one that then made something of it
  pub looked_and : (Q : Database → Database → Type 0) {A : Type 0} (new : State) (found : V) (inner : Result A Error) (result : Result B Error) → ((X : Type 0) → OnErr inner X → OnErr result X) → ((db after : Database) → P db found → Q db after → May db after)
      → (P old.committed found → OnOk inner (Q old.committed new.committed) → IfOk result (λ answer. R answer old.committed new.committed)) → Asks Known P old asked (Ok found) → Commits own Q asked new inner
      → LooksAndCommits own R May old new result
  looked_and Q new found inner result errs both answers asks commits = record {
    done = λ clean is_open tables.
        let does = asks.does (commits.outside.clean clean) in
        let now = settled (does.was_open (commits.outside.was_open clean is_open)) in
        let known = says old.now (subst (AreTablesOf own) (sym now) tables) in
        let same = (does.same known).committed_is in
        answers (subst (λ db. P db found) now (does.shows known)) (subst (λ db. OnOk inner (Q db new.committed)) same (commits.done clean (subst (AreTablesOf own) (sym same) tables)));
    unchanged = λ clean is_open tables.
        let does = asks.does (commits.outside.clean clean) in
        let now = settled (does.was_open (commits.outside.was_open clean is_open)) in
        let same = (does.same (says old.now (subst (AreTablesOf own) (sym now) tables))).committed_is in
        errs _ (subst (λ db. OnErr inner (new.committed ≡ db)) same (commits.unchanged clean is_open (subst (AreTablesOf own) (sym same) tables)));
    outside = record {
      clean = λ clean. asks.clean (commits.outside.clean clean);
      was_open = λ clean is_open. (asks.does (commits.outside.clean clean)).was_open (commits.outside.was_open clean is_open);
      mode = commits.outside.mode;
    };
    crash = crash_after own Known says P Q May old asked new found both settled asks.survives asks.does commits.crash;
  }
