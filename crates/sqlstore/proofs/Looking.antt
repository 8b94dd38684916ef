-- Queries that show all rows of a table, outside of a transaction.
use Rattle.std.proofs.Common.{◌≡◌, ℕ, false, List, [], ◌∷◌, Ok, Err, Result, IfOk, IfErr, IsTrue, refl, sym, ap, ◌∙◌, subst}
use Rattle.sqlite.specs.Effect.{Database, IsDatabase}
use Rattle.sqlite.specs.Listing.{understood, reads_listing}
use Rattle.sqlite.specs.Order.{Row}
use Rattle.sqlite.specs.Program.{overlay}
use Rattle.sqlite.specs.Schema.{Schema}
use Rattle.sqlite.specs.State.{State, HasCleanDisk, IsLive, Shown, FailsToQuery}
use Rattle.sqlite.specs.Term.{Term, col}
use Rattle.sqlite.specs.Tree.{Trees}
use Rattle.sqlite.specs.declared.error.Error.{Error}
use Rattle.sqlite.proofs.Callers.{IsPlain, command_of, reads_as}
use Rattle.sqlite_rules.specs.Lists.{Has}
use Rattle.sqlstore.specs.Frame.{LooksAt}
use Rattle.sqlstore.specs.Gathered.{ShowsAll}
use Rattle.sqlstore.specs.Rows.{HasSchema}
use Rattle.sqlstore.specs.Tables.{site_schema}
use Rattle.sqlstore.specs.Tests.{shown}
use Rattle.sqlstore.proofs.Querying.{by_number, answered_in, answer_rises}
use Rattle.sqlstore.proofs.Showing.{query_open, shown_open, shown_same, query_keeps}
use Rattle.sqlstore.proofs.Texts.{lists}

module _ (own : Schema) (sql : List ℕ) (tree : ℕ) (rest : List Term) (names : List (List ℕ)) (is : command_of (understood own sql) ≡ lists tree (col 1 0 ∷ rest) names) (plain : IsPlain (understood own sql))
    (unlisted : reads_listing own sql ≡ false) (bare : (db : Trees) → overlay db [] tree ≡ db tree)
    (whole : (db : Database) → IsDatabase db → db.schema ≡ own → (row : Row) → Has (db.trees tree) row → shown (col 1 0 ∷ rest) [] row ≡ row) (old new : State) where
  pub shows_all : IsDatabase old.now → old.now.schema ≡ own → (rows : List Row) → Shown sql [] old new rows → ShowsAll (old.now.trees tree) rows
  shows_all sound schema rows h =
      let sure = (reads_as sql [] old new own schema (lists tree (col 1 0 ∷ rest) names) is plain unlisted rows h).answer in
      let finds = answered_in by_number tree [] (col 1 0 ∷ rest) [] [] old.now.trees rows (bare old.now.trees) sure in
      record {
        sound = λ row there.
            let from = finds.sound row there in
            subst (λ r. Has (old.now.trees tree) r) (sym (from.3 ∙ whole old.now sound schema from.0 from.1)) from.1;
        all = λ row there. subst (λ r. Has rows r) (whole old.now sound schema row there) (finds.all row there refl);
        rises = answer_rises tree [] rest [] old.now.trees rows (bare old.now.trees) sure;
      }

  -- the schema of what is committed is that which the query reads under
  under : (old.now ≡ old.committed) → old.committed.schema ≡ own → IsPlain (understood old.now.schema sql)
  under now schema = subst (λ s. IsPlain (understood s sql)) (sym (ap (λ (db : Database). db.schema) now ∙ schema)) plain

  pub looks_err : {A E : Type 0} (P : Database → A → Type 0) (fault : E) (e : Error) → (IsTrue old.is_open → old.now ≡ old.committed) → (HasCleanDisk new → HasCleanDisk old) → new.in_transaction ≡ false → (HasCleanDisk new → FailsToQuery sql [] old new e) → LooksAt (HasSchema own) P old new (Err fault)
  looks_err P fault e settled clean mode err = record {
    outside = record { clean = clean; was_open = λ c is_open. query_open old new sql [] e (err c) is_open; mode = mode };
    same = λ c is_open schema.
        let now = settled (query_open old new sql [] e (err c) is_open) in
        (query_keeps sql [] old new (under now schema) e (err c)).committed is_open;
    shows = λ c is_open schema. tt;
  }

  pub looks_of : {A : Type 0} (items : A → List Row) (result : Result A Error) → (IsTrue old.is_open → old.now ≡ old.committed) → IsLive old → (HasCleanDisk new → HasCleanDisk old) → new.in_transaction ≡ false
      → (HasCleanDisk new → IfOk result (λ value. Shown sql [] old new (items value))) → (HasCleanDisk new → IfErr result (FailsToQuery sql [] old new)) → LooksAt (HasSchema own) (λ db value. ShowsAll (db.trees tree) (items value)) old new result
  looks_of items (Ok value) settled live clean mode ok err = record {
    outside = record { clean = clean; was_open = λ c is_open. shown_open old new sql [] (items value) (ok c) is_open; mode = mode };
    same = λ c is_open schema.
        let now = settled (shown_open old new sql [] (items value) (ok c) is_open) in
        (shown_same sql [] old new (under now schema) (items value) (ok c)).0.committed_is;
    shows = λ c is_open schema.
        let was_open = shown_open old new sql [] (items value) (ok c) is_open in
        let now = settled was_open in
        subst (λ (db : Database). ShowsAll (db.trees tree) (items value)) now (shows_all (live was_open).0 (ap (λ (db : Database). db.schema) now ∙ schema) (items value) (ok c));
  }
  looks_of items (Err e) settled live clean mode ok err = looks_err _ e e settled clean mode err

-- so over a site's tables
module _ (sql : List ℕ) (tree : ℕ) (rest : List Term) (names : List (List ℕ)) (is : command_of (understood site_schema sql) ≡ lists tree (col 1 0 ∷ rest) names) (plain : IsPlain (understood site_schema sql))
    (unlisted : reads_listing site_schema sql ≡ false) (bare : (db : Trees) → overlay db [] tree ≡ db tree)
    (whole : (db : Database) → IsDatabase db → db.schema ≡ site_schema → (row : Row) → Has (db.trees tree) row → shown (col 1 0 ∷ rest) [] row ≡ row) (old new : State) where
  pub looks_by : {A : Type 0} (items : A → List Row) (result : Result A Error) → (IsTrue old.is_open → old.now ≡ old.committed) → IsLive old → (HasCleanDisk new → HasCleanDisk old) → new.in_transaction ≡ false
      → (HasCleanDisk new → IfOk result (λ value. Shown sql [] old new (items value))) → (HasCleanDisk new → IfErr result (FailsToQuery sql [] old new)) → LooksAt (HasSchema site_schema) (λ db value. ShowsAll (db.trees tree) (items value)) old new result
  looks_by = looks_of site_schema sql tree rest names is plain unlisted bare whole old new
