-- A crash around a call that asks first leaves what was committed before it, or what it commits.
use Rattle.std.proofs.Common.{◌≡◌, Ok, IsTrue, sym, subst, arith}
use Rattle.sqlite.specs.Effect.{Database}
use Rattle.sqlite.specs.Listing.{understood}
use Rattle.sqlite.specs.Order.{Row}
use Rattle.sqlite.specs.Schema.{Schema}
use Rattle.sqlite.specs.State.{State, HasCleanDisk, Survives, CommitsShowing}
use Rattle.sqlite.proofs.Callers.{IsPlain, never_commits}
use Rattle.sqlite.proofs.StateLemmas.{survives_then, survives_weaker}
use Rattle.std.specs.Prelude.{ℕ, List}
use Rattle.sqlstore.specs.Query.{LeavesNothingOf, LeavesNothing, QueriesOf}
use Rattle.sqlstore.specs.Rows.{AreTables, AreTablesOf}
use Rattle.sqlstore.specs.Step.{MayLeaveOf}
use Rattle.sqlstore.specs.Tables.{site_schema}

-- a query commits nothing
pub leaves_none : (own : Schema) (Known : Database → Type 0) (says : (db : Database) → Known db → db.schema ≡ own) (sql : List ℕ) (params : Row) (old new : State) → IsPlain (understood own sql) → Survives old new (CommitsShowing sql params old)
    → Survives old new (LeavesNothingOf Known old)
leaves_none own Known says sql params old new plain = survives_weaker old new _ _ (λ _ db shown known. never_commits sql params old db (subst (λ s. IsPlain (understood s sql)) (sym (says old.now known)) plain) shown)

pub leaves_nothing : (sql : List ℕ) (params : Row) (old new : State) → IsPlain (understood site_schema sql) → Survives old new (CommitsShowing sql params old) → Survives old new (LeavesNothing old)
leaves_nothing = leaves_none site_schema AreTables (λ db tables. tables.schema)

-- a call that asked, and committed nothing
pub crash_idle : (own : Schema) (Known : Database → Type 0) (says : (db : Database) → AreTablesOf own db → Known db) (R : Database → Database → Type 0) (old asked : State) → (IsTrue old.is_open → old.now ≡ old.committed) → Survives old asked (LeavesNothingOf Known old)
    → Survives old asked (MayLeaveOf own R old)
crash_idle own Known says R old asked settled = survives_weaker old asked _ _ (λ _ db never was_open tables. absurd (never (says old.now (subst (AreTablesOf own) (sym (settled was_open)) tables))))

-- a call that committed, after a query
pub crash_after : (own : Schema) (Known : Database → Type 0) (says : (db : Database) → AreTablesOf own db → Known db) {V : Type 0} (P : Database → V → Type 0) (Q R : Database → Database → Type 0) (old asked new : State) (found : V) → ((db after : Database) → P db found → Q db after → R db after)
    → (IsTrue old.is_open → old.now ≡ old.committed) → Survives old asked (LeavesNothingOf Known old) → (HasCleanDisk asked → QueriesOf Known P old asked (Ok found)) → Survives asked new (MayLeaveOf own Q asked) → Survives old new (MayLeaveOf own R old)
crash_after own Known says P Q R old asked new found both settled first query second =
    survives_then old asked new _ _ (MayLeaveOf own R old) (λ _ db never was_open tables. absurd (never (says old.now (subst (AreTablesOf own) (sym (settled was_open)) tables))))
    (λ clean db may was_open tables.
    let now = settled was_open in
    let known : Known old.now = says old.now (subst (AreTablesOf own) (sym now) tables) in
    let asks = query (omega (arith, second.clean, clean)) in
    let same = asks.same known in
    let shown : P old.committed found = subst (λ d. P d found) now (asks.shows known) in
    let left = may same.is_open (subst (AreTablesOf own) (sym same.committed_is) tables) in
    (left.0, both old.committed left.0 shown (subst (λ d. Q d left.0) same.committed_is left.1), left.2))
    first second
