-- Queries on a connection.
use Rattle.std.proofs.Common.{◌≡◌, ℕ, false, List, [], Ok, Err, Result, IfOk, IfErr, IsTrue, sym, subst, inl, inr, None, Some, Option}
use Rattle.sqlite.specs.Effect.{Database}
use Rattle.sqlite.specs.Clock.{timed}
use Rattle.sqlite.specs.Listing.{understood, reads_listing}
use Rattle.sqlite.specs.Order.{Row}
use Rattle.sqlite.specs.Program.{overlay}
use Rattle.sqlite.specs.Schema.{Schema}
use Rattle.sqlite.specs.State.{State, IsUnchanged, IsNotRun, KeepsCommit, ShowsRows, Shown, FailsToQuery, FailsToShow}
use Rattle.sqlite.specs.Term.{Term}
use Rattle.sqlite.specs.Tree.{Trees}
use Rattle.sqlite.specs.declared.error.Error.{Error}
use Rattle.sqlite.proofs.Callers.{IsPlain, command_of, reads_as}
use Rattle.sqlite_resolve.specs.declared.compiled.Compiled.{Compiled}
use Rattle.sqlite_schema.specs.declared.command.Returning.{Returning}
use Rattle.sqlstore.specs.Query.{QueriesOf, Queries}
use Rattle.sqlstore.specs.Rows.{AreTables, Finds}
use Rattle.sqlstore.specs.Tables.{site_schema}
use Rattle.sqlstore.specs.Tests.{passes, shown}
use Rattle.sqlstore.proofs.Querying.{answered}
use Rattle.sqlstore.proofs.Stepping.{unchanged_keeps, undone_keeps}
use Rattle.sqlstore.proofs.Texts.{selects}

-- ---- whatever the text is, a connection that is open was open

shows_open : (old new : State) (sql : List ℕ) (c : Compiled) (params : Row) (rows : List Row) (what : Option Returning) → ShowsRows old new sql c params rows what → IsTrue new.is_open → IsTrue old.is_open
shows_open old new sql c params rows None h is_open = h.3.0.was_open
shows_open old new sql c params rows (Some what) h is_open = h.1.shown.was_open

not_run_open : (old new : State) (sql : List ℕ) (params : Row) (e : Error) → IsNotRun old new sql params e → IsTrue new.is_open → IsTrue old.is_open
unfolding IsNotRun
not_run_open old new sql params e (inl same) is_open = same.1.0.was_open
not_run_open old new sql params e (inr failed) is_open = failed.3.was_open is_open

fails_open : (old new : State) (sql : List ℕ) (c : Compiled) (params : Row) (e : Error) (what : Option Returning) → FailsToShow old new sql c params e what → IsTrue new.is_open → IsTrue old.is_open
fails_open old new sql c params e None h is_open = h.3.0.was_open
fails_open old new sql c params e (Some what) (inl refused) is_open = refused.1.0.was_open
fails_open old new sql c params e (Some what) (inr failed) is_open = failed.3.was_open is_open

pub query_open : (old new : State) (sql : List ℕ) (params : Row) (e : Error) → FailsToQuery sql params old new e → IsTrue new.is_open → IsTrue old.is_open
unfolding FailsToQuery
query_open old new sql params e (inl idle) is_open = not_run_open old new sql params e idle is_open
query_open old new sql params e (inr shown) is_open = fails_open old new sql shown.0 (timed params shown.0.formats shown.1.now) e shown.0.returning shown.2 is_open

pub shown_open : (old new : State) (sql : List ℕ) (params : Row) (rows : List Row) → Shown sql params old new rows → IsTrue new.is_open → IsTrue old.is_open
unfolding Shown
shown_open old new sql params rows h is_open = shows_open old new sql h.0 (timed params h.0.formats h.1.now) rows h.0.returning h.2 is_open

-- ---- a query proper changes nothing

module _ (sql : List ℕ) (params : Row) (old new : State) (plain : IsPlain (understood old.now.schema sql)) where
  pub shown_same : (rows : List Row) → Shown sql params old new rows → IsUnchanged old new
  unfolding Shown
  shown_same rows h =
      let none = (subst IsPlain h.1.is plain).0 in
      (subst (ShowsRows old new sql h.0 (timed params h.0.formats h.1.now) rows) none h.2).3

  pub query_keeps : (e : Error) → FailsToQuery sql params old new e → KeepsCommit old new
  unfolding FailsToQuery IsNotRun
  query_keeps e (inl (inl same)) = unchanged_keeps old new same.1
  query_keeps e (inl (inr failed)) = undone_keeps old new failed.3
  query_keeps e (inr shown) =
      let none = (subst IsPlain shown.1.is plain).0 in
      unchanged_keeps old new (subst (FailsToShow old new sql shown.0 (timed params shown.0.formats shown.1.now) e) none shown.2).3

-- a query over one table, where the schema is known
module _ (own : Schema) (Known : Database → Type 0) (says : (db : Database) → Known db → db.schema ≡ own) (sql : List ℕ) (tree : ℕ) (filter project : List Term) (names : List (List ℕ)) (is : command_of (understood own sql) ≡ selects tree filter project names) (plain : IsPlain (understood own sql))
    (unlisted : reads_listing own sql ≡ false) (bare : (db : Trees) → overlay db [] tree ≡ db tree) (params : Row) (old new : State) where
  under : Known old.now → IsPlain (understood old.now.schema sql)
  under tables = subst (λ schema. IsPlain (understood schema sql)) (sym (says old.now tables)) plain

  found : Known old.now → (rows : List Row) → Shown sql params old new rows → Finds (shown project params) (passes filter params) (old.now.trees tree) rows
  found tables rows h =
      answered tree filter project [] params old.now.trees rows (bare old.now.trees) (reads_as sql params old new own (says old.now tables) (selects tree filter project names) is plain unlisted rows h).answer

  pub queries_ok : {A : Type 0} (P : Database → A → Type 0) (value : A) (rows : List Row) → (Finds (shown project params) (passes filter params) (old.now.trees tree) rows → P old.now value) → Shown sql params old new rows → QueriesOf Known P old new (Ok value)
  queries_ok P value rows means h = record {
    was_open = shown_open old new sql params rows h;
    kept = λ tables. unchanged_keeps old new (shown_same sql params old new (under tables) rows h);
    same = λ tables. (shown_same sql params old new (under tables) rows h).0;
    shows = λ tables. means (found tables rows h);
  }

  pub queries_err : {A : Type 0} (P : Database → A → Type 0) (e : Error) → FailsToQuery sql params old new e → QueriesOf {A = A} Known P old new (Err e)
  queries_err P e h = record {
    was_open = query_open old new sql params e h;
    kept = λ tables. query_keeps sql params old new (under tables) e h;
    same = λ _. tt;
    shows = λ _. tt;
  }

  pub queries_of : {A : Type 0} (P : Database → A → Type 0) (items : A → List Row) (result : Result A Error) → ((value : A) → Finds (shown project params) (passes filter params) (old.now.trees tree) (items value) → P old.now value)
      → IfOk result (λ value. Shown sql params old new (items value)) → IfErr result (FailsToQuery sql params old new) → QueriesOf Known P old new result
  queries_of P items (Ok value) means ok err = queries_ok P value (items value) (means value) ok
  queries_of P items (Err e) means ok err = queries_err P e err

-- a query over one table of a site
module _ (sql : List ℕ) (tree : ℕ) (filter project : List Term) (names : List (List ℕ)) (is : command_of (understood site_schema sql) ≡ selects tree filter project names) (plain : IsPlain (understood site_schema sql))
    (unlisted : reads_listing site_schema sql ≡ false) (bare : (db : Trees) → overlay db [] tree ≡ db tree) (params : Row) (old new : State) where
  pub queries_by : {A : Type 0} (P : Database → A → Type 0) (items : A → List Row) (result : Result A Error) → ((value : A) → Finds (shown project params) (passes filter params) (old.now.trees tree) (items value) → P old.now value)
      → IfOk result (λ value. Shown sql params old new (items value)) → IfErr result (FailsToQuery sql params old new) → Queries P old new result
  queries_by = queries_of site_schema AreTables (λ db tables. tables.schema) sql tree filter project names is plain unlisted bare params old new
