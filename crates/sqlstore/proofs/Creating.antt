-- The tables of a site are made.
use Rattle.std.proofs.Common.{◌≡◌, ◌⊎◌, ℕ, false, List, [], None, Ok, Err, Result, refl, sym, ap, ◌∙◌, subst, inl, inr}
use Rattle.sqlite.specs.Change.{created, next_tree, KeepsRows}
use Rattle.sqlite.specs.Command.TheVariants.{CreateTable}
use Rattle.sqlite.specs.Compile.{table_defined_by}
use Rattle.sqlite.specs.Does.{Tally, lacks_sequence}
use Rattle.sqlite.specs.Effect.{Database}
use Rattle.sqlite.specs.Listing.{understood}
use Rattle.sqlite.specs.Schema.{Schema}
use Rattle.sqlite.specs.State.{State, Executes, ExecutesInside, Writes}
use Rattle.sqlite.specs.declared.error.Error.{Error}
use Rattle.sqlite.specs.Table.{Table}
use Rattle.sqlite.proofs.Callers.{IsPlain, command_of, statement_of, runs_as}
use Rattle.sqlite_tied.specs.Compute.{everything}
use Rattle.sqlstore.specs.Fresh.{AreFresh, MakesTable, Builds, MakesAll, one_table, two_tables, three_tables}
use Rattle.sqlstore.proofs.Stepping.{steps_by}
use Rattle.sqlstore.specs.Tables.{no_schema, part_table, prepared_table, intent_table, state_table, create_part, create_prepared, create_intent, create_state}

passed : {B E R : Type 0} {b : B} {Stops : E → Type 0} → ((stop : E) × Stops stop × (Ok b ≡ Err stop)) ⊎ R → R
passed (inl stopped) = absurd (let e = stopped.2 in cc)
passed (inr on) = on

ok_value : {B E : Type 0} {a b : B} → ◌≡◌ {A = Result B E} (Ok a) (Ok b) → a ≡ b
ok_value e = cc

pub creates : (text : List ℕ) (before : Schema) (table : Table) → table_defined_by text ≡ Ok table → command_of (understood before text) ≡ CreateTable → statement_of text (understood before text) ≡ text → IsPlain (understood before text) → lacks_sequence (created before table) ≡ false
    → (old new : State) → old.now.schema ≡ before → (count : ℕ) → Executes text [] old new (Ok count) → MakesTable before table old.now new.now
creates text before table defined is whole plain lacks old new has count ran =
    let w = subst (λ t. Writes old new None CreateTable t [] count) whole (runs_as text [] old new before has CreateTable is plain count ran) in
    let all = passed w.changed in
    let first = passed all.1 in
    let made = first.1 in
    let both : Ok made.table ≡ Ok table = sym made.defined ∙ defined in
    let same : made.table ≡ table = cc in
    let schema : first.0.schema ≡ created before table = made.is ∙ ap (λ s. created s made.table) has ∙ ap (created before) same in
    let bare : lacks_sequence first.0.schema ≡ false = ap lacks_sequence schema ∙ lacks in
    let now : new.now ≡ first.0 = ap (λ (p : Tally × Database). p.1) (ok_value all.2) ∙ ok_value (rw bare at first.2) in
    record {
      schema = ap (λ (d : Database). d.schema) now ∙ schema;
      empty = ap (λ (d : Database). d.trees (next_tree before)) now ∙ subst (λ s. first.0.trees (next_tree s) ≡ []) has made.empty;
      kept = subst (λ (d : Database). KeepsRows before.tables old.now.trees d.trees) (sym now) (subst (λ (s : Schema). KeepsRows s.tables old.now.trees first.0.trees) has made.others);
    }

pub builds_part : (old new : State) (result : Result ℕ Error) → ExecutesInside 0 create_part [] old new result → Builds no_schema (MakesTable no_schema part_table) old new result
unfolding understood everything
builds_part old new result = steps_by (MakesTable no_schema part_table) create_part [] old new result (creates create_part no_schema part_table refl refl refl (refl, refl) refl old new)

pub builds_prepared : (old new : State) (result : Result ℕ Error) → ExecutesInside 0 create_prepared [] old new result → Builds one_table (MakesTable one_table prepared_table) old new result
unfolding understood everything
builds_prepared old new result = steps_by (MakesTable one_table prepared_table) create_prepared [] old new result (creates create_prepared one_table prepared_table refl refl refl (refl, refl) refl old new)

pub builds_intent : (old new : State) (result : Result ℕ Error) → ExecutesInside 0 create_intent [] old new result → Builds two_tables (MakesTable two_tables intent_table) old new result
unfolding understood everything
builds_intent old new result = steps_by (MakesTable two_tables intent_table) create_intent [] old new result (creates create_intent two_tables intent_table refl refl refl (refl, refl) refl old new)

pub builds_state : (old new : State) (result : Result ℕ Error) → ExecutesInside 0 create_state [] old new result → Builds three_tables (MakesTable three_tables state_table) old new result
unfolding understood everything
builds_state old new result = steps_by (MakesTable three_tables state_table) create_state [] old new result (creates create_state three_tables state_table refl refl refl (refl, refl) refl old new)

-- all four
pub makes_all : (old new : Database) → MakesAll old new → AreFresh new
makes_all old new all =
    let one = all.1.1 in
    let two = all.1.2 in
    let three = all.2.1 in
    let four = all.2.2 in
    record {
      schema = four.schema;
      parts = four.kept.0 ∙ three.kept.0 ∙ two.kept.0 ∙ one.empty;
      prepared = four.kept.1.0 ∙ three.kept.1.0 ∙ two.empty;
      intents = four.kept.1.1.0 ∙ three.empty;
      state = four.empty;
    }
