-- What a DELETE and an INSERT make of the rows of their table.
use Rattle.std.proofs.Common.{◌≡◌, ◌≢◌, ◌⊎◌, ℕ, false, List, [], ◌∷◌, drop, map, None, Some, Option, Ok, Err, Result, slice_get, refl, sym, ap, ◌∙◌, subst, inl, inr}
use Rattle.std.proofs.lemmas.Bool.{cases_eq, MatchBool-at_false, cond-false}
use Rattle.sqlite.specs.Edit.{Edit, edit_of, edited, numbered, taken_by}
use Rattle.sqlite.specs.Cast.{cast_row, cast_all}
use Rattle.sqlite.specs.Command.{Command}
use Rattle.sqlite.specs.Command.TheVariants.{Insert}
use Rattle.sqlite.specs.Does.{Does, Tally, AtPlace, OnRows}
use Rattle.sqlite.specs.Effect.{Database, IsDatabase, IsSource}
use Rattle.sqlite.specs.Listing.{understood}
use Rattle.sqlite.specs.Order.{Row}
use Rattle.sqlite.specs.Program.{overlay}
use Rattle.sqlite.specs.Rowids.TheVariants.{Given}
use Rattle.sqlite.specs.Rows.{Task, Written, stamped, rowids_for, count_of}
use Rattle.sqlite.specs.Schema.{Schema}
use Rattle.sqlite.specs.Source.{Source}
use Rattle.sqlite.specs.State.{State, Executes, mode_of}
use Rattle.sqlite.specs.Table.{Table}
use Rattle.sqlite.specs.Term.{Term, col}
use Rattle.sqlite.specs.Tree.{Trees}
use Rattle.sqlite.proofs.Callers.{IsPlain, command_of, statement_of, runs_as, one_step}
use Rattle.sqlite_rules.specs.Action.{works}
use Rattle.sqlite_rules.specs.Calls.{ids_of}
use Rattle.sqlite_rules.specs.Lists.{Has}
use Rattle.sqlite_rules.proofs.ListLemmas.{all_has}
use Rattle.sqlite_schema.specs.declared.schema.Keys.TheVariants.{Enforced}
use Rattle.sqlstore.specs.Rows.{AreKeyed, AreTablesOf, Loses, Gains, RewritesOf}
use Rattle.sqlstore.specs.Tests.{passes}
use Rattle.sqlstore.proofs.Deleting.{deleted, fewer_keyed}
use Rattle.sqlstore.proofs.Inserting.{inserted, put_all_keyed}
use Rattle.sqlstore.proofs.Querying.{answered, mapped_has, has_mapped}
use Rattle.sqlstore.proofs.Texts.{deletes_from}

-- a part of a statement that gave a value was not refused
passed : {B E R : Type 0} {b : B} {Stops : E → Type 0} → ((stop : E) × Stops stop × (Ok b ≡ Err stop)) ⊎ R → R
passed (inl stopped) = absurd (let e = stopped.2 in cc)
passed (inr on) = on

ok_value : {B E : Type 0} {a b : B} → ◌≡◌ {A = Result B E} (Ok a) (Ok b) → a ≡ b
ok_value e = cc

-- one table has other rows, whose numbers differ, and the others have theirs
rewritten : (own : Schema) (tree : ℕ) (Changes : List Row → List Row → Type 0) (old new : Database) → AreTablesOf own old → IsDatabase new → new.schema ≡ own → AreKeyed (new.trees tree) → Changes (old.trees tree) (new.trees tree)
    → ((table : Table) → Has own.tables table → table.tree ≢ tree → new.trees table.tree ≡ old.trees table.tree) → RewritesOf own tree Changes old new
rewritten own tree Changes old new tables sound schema keyed changes others = record {
  tables = record {
    schema = schema;
    keyed = λ table listed. elim (cases_eq table.tree tree) [
      | inl same ↦ subst (λ t. AreKeyed (new.trees t)) (sym same) keyed
      | inr other ↦ subst AreKeyed (sym (others table listed other)) (tables.keyed table listed)
    ];
  };
  sound = sound;
  rows = changes;
  others = others;
}

module _ (own : Schema) (text : List ℕ) (at : ℕ) (table : Table) (listed : Has own.tables table) (place : slice_get own.tables at ≡ Some table) (params : Row) (old new : State) (tables : AreTablesOf own old.now)
    (plain : IsPlain (understood own text)) where
  abbrev task : Task
  task = record { limit = old.step_limit; keys = Enforced; schema = own; table = table; params = params }

  -- what a statement on the table did, under the schema of a site
  on_table : (command : Command) (tally : Tally) → Does old.step_limit (mode_of old) params old.now (statement_of text (understood own text)) None command (Ok (tally, new.now))
      → ((schema : _) → Does old.step_limit (mode_of old) params (record old.now { schema = schema }) (statement_of text (understood own text)) None command
      ≡ AtPlace (λ t. OnRows (record { limit = old.step_limit; keys = Enforced; schema = schema; table = t; params = params }) (mode_of old) None command old.now.trees) (slice_get schema.tables at))
      → OnRows task (mode_of old) None command old.now.trees (Ok (tally, new.now))
  on_table command tally does is =
      let out = λ (P : Result (Tally × Database) (Option _) → Type 0). P (Ok (tally, new.now)) in
      let under = subst (λ schema. Does old.step_limit (mode_of old) params (record old.now { schema = schema }) (statement_of text (understood own text)) None command (Ok (tally, new.now))) tables.schema does in
      let placed = subst out (is own) under in
      subst (λ found. AtPlace (λ t. OnRows (record { limit = old.step_limit; keys = Enforced; schema = own; table = t; params = params }) (mode_of old) None command old.now.trees) found (Ok (tally, new.now))) place placed

  pub deletes : (filter : List Term) → command_of (understood own text) ≡ deletes_from at table.tree filter → ((taken : List Row) → works own Enforced 0 table.tree taken [] ≡ [])
      → ((db : Trees) → overlay db [] table.tree ≡ db table.tree) → (count : ℕ) → Executes text params old new (Ok count) → RewritesOf own table.tree (Loses (passes filter params)) old.now new.now
  deletes filter is none bare count ran =
      let command = deletes_from at table.tree filter in
      let w = runs_as text params old new own tables.schema command is plain count ran in
      let on = on_table command w.tally w.changed (λ _. refl) in
      let written = passed on in
      let found = passed written.1 in
      let next = passed found.2 in
      let ended = passed (passed written.2).2 in
      let now : new.now ≡ record { schema = own; trees = written.0.trees } = ap (λ (p : Tally × Database). p.1) (ok_value ended.2) in
      let trees : written.0.trees ≡ next.0 = ap (λ (it : Written). it.trees) (ok_value next.2) in
      let edit : Edit = edit_of old.now.trees table (ids_of found.0) Given 0 [] in
      let applies = one_step own Enforced old.now.trees next.0 edit (none (taken_by old.now.trees edit)) next.1 in
      let finds = answered table.tree filter (col 1 0 ∷ []) [] params old.now.trees found.0 (bare old.now.trees) found.1.answer in
      let loses = deleted (passes filter params) (old.now.trees table.tree) found.0 (tables.keyed table listed) finds in
      let tree-is = λ (t : ℕ). ap (λ (d : Database). d.trees t) now ∙ ap (λ (ts : Trees). ts t) trees in
      let rows : new.now.trees table.tree ≡ edited old.now.trees edit = tree-is table.tree ∙ applies.rows in
      rewritten own table.tree (Loses (passes filter params)) old.now new.now tables w.sound (ap (λ (d : Database). d.schema) now)
      (subst AreKeyed (sym rows) (fewer_keyed (old.now.trees table.tree) (edited old.now.trees edit) (λ row there. (loses.gone row there).0) (tables.keyed table listed)))
      (subst (Loses (passes filter params) (old.now.trees table.tree)) (sym rows) loses)
      (λ other among apart. tree-is other.tree ∙ all_has (λ t. t.tree ≢ table.tree → next.0 t.tree ≡ old.now.trees t.tree) own.tables other applies.tables among apart)

  -- a row more for each that the source gives
  abbrev pub Cells : List Row → Row → Type 0
  Cells sources cells = (source : Row) × Has sources source × (cells ≡ cast_all table.columns (drop 1 source))

  pub inserts : (from : Source) → command_of (understood own text) ≡ Insert at from → ((news : List Row) → works own Enforced 0 table.tree [] news ≡ []) → table.is_counted ≡ false → stamped table params ≡ params
      → (count : ℕ) → Executes text params old new (Ok count)
      → (sources : List Row) × IsSource (record { schema = own; trees = old.now.trees }) params from sources × RewritesOf own table.tree (Gains (Cells sources)) old.now new.now
  inserts from is none uncounted unstamped count ran =
      let command = Insert at from in
      let w = runs_as text params old new own tables.schema command is plain count ran in
      let on = on_table command w.tally w.changed (λ _. refl) in
      let written = passed on in
      let given = passed written.1 in
      let counter = passed given.2 in
      let mid = passed counter.2 in
      let next = passed mid.2 in
      let ended = passed (passed written.2).2 in
      let now : new.now ≡ record { schema = own; trees = written.0.trees } = ap (λ (p : Tally × Database). p.1) (ok_value ended.2) in
      let uncounting = MatchBool-at_false _ _ (cond-false table.is_counted _ false uncounted) next.1 in
      let trees : written.0.trees ≡ mid.0 = ap (λ (it : Written). it.trees) (ok_value next.2) ∙ ok_value uncounting in
      let rowids = rowids_for table (count_of counter.0) in
      let rows_were = old.now.trees table.tree in
      let sources = map (λ s. cast_row table (drop 0 s)) given.0 in
      let edit : Edit = edit_of old.now.trees table [] rowids 0 given.0 in
      let applies = one_step own Enforced old.now.trees mid.0 edit (none (numbered rowids rows_were sources)) mid.1 in
      let gains = inserted rowids rows_were sources applies.fresh in
      let tree-is = λ (t : ℕ). ap (λ (d : Database). d.trees t) now ∙ ap (λ (ts : Trees). ts t) trees in
      let rows : new.now.trees table.tree ≡ edited old.now.trees edit = tree-is table.tree ∙ applies.rows in
      let cells : Gains (Cells given.0) rows_were (edited old.now.trees edit) = record {
        kept = gains.kept;
        made = λ cell from. gains.made cell (cast_row table (drop 0 from.0), has_mapped (λ s. cast_row table (drop 0 s)) given.0 from.0 from.1, from.2);
        only = λ row there. elim (gains.only row there) [
          | inl was ↦ inl was
          | inr new ↦ let source = mapped_has (λ s. cast_row table (drop 0 s)) given.0 new.0 new.1 in inr (source.0, source.1, new.2 ∙ ap (drop 1) source.2)
        ];
      } in (
        given.0,
        subst (λ ps. IsSource (record { schema = own; trees = old.now.trees }) ps from given.0) unstamped given.1,
        rewritten own table.tree (Gains (Cells given.0)) old.now new.now tables w.sound (ap (λ (d : Database). d.schema) now)
            (subst AreKeyed (sym rows) (put_all_keyed (numbered rowids rows_were sources) rows_were applies.keyed applies.fresh (tables.keyed table listed)))
            (subst (Gains (Cells given.0) rows_were) (sym rows) cells)
            (λ other among apart. tree-is other.tree ∙ all_has (λ t. t.tree ≢ table.tree → mid.0 t.tree ≡ old.now.trees t.tree) own.tables other applies.tables among apart),
      )
