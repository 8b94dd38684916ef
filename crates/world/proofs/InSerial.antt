-- The relations that a serial run makes, and what is shown of them.
use Rattle.std.proofs.Common.{◌≡◌, ℕ, List, [], ◌∷◌, map, Option, Result, Ok, Err, IfOk}
use Rattle.std.specs.List.{AllByRecursion}
use Rattle.terms.specs.declared.value.Value.{Value}
use Rattle.meaning.specs.declared.statement.Statement.{Statement}
use Rattle.meaning.specs.Statement.{IsStatementOf}
use Rattle.meaning.specs.Whole.{FitsSchema, Relations}
use Rattle.reader.specs.declared.command.Command.TheVariants as command
use Rattle.reader.proofs.FitsCommand.{text_fits}
use Rattle.store.specs.declared.name.Txn.{Txn}
use Rattle.protocol.specs.Catalogues.{IsLawfulList, whole_then}
use Rattle.protocol.specs.Local.{local}
use Rattle.desk.specs.Database.{Database, statements}
use Rattle.world.specs.declared.event.Entry.{Entry}
use Rattle.world.specs.Machines.{Machines}
use Rattle.world.specs.Runs.{AreTexts, IsSerialRun, relations_after}
use Rattle.world.specs.Settled.{AreThoseOf, ShowsSerial, rows_shown}
use Rattle.world.specs.Replies.{committed_in, texts_of}
use Rattle.meaning.proofs.Kept.{meaning_fits}

module _ (db : Database) (lawful : IsLawfulList local (statements db)) where
  -- what texts say are statements of the schema
  statements_fit : (texts : List (List ℕ)) (given : List Statement) → AreTexts db texts given → AllByRecursion (IsStatementOf db.schemas) given
  statements_fit [] [] spelled = tt
  statements_fit [] (s ∷ rest) spelled = absurd spelled
  statements_fit (text ∷ texts) [] spelled = absurd spelled
  statements_fit (text ∷ texts) (s ∷ rest) spelled = (text_fits db.schemas text (command.Run s) spelled.0, statements_fit texts rest spelled.1)

  -- they lead from whole relations to whole relations, one after another
  after_fits : (given : List Statement) (whole : Relations) → AllByRecursion (IsStatementOf db.schemas) given → FitsSchema db.schemas whole → FitsSchema db.schemas (whole_then local (statements db) given whole)
  after_fits [] whole all fits = fits
  after_fits (s ∷ rest) whole all fits = after_fits rest _ all.1 (meaning_fits db.schemas s whole all.0 fits)

  serial_fits : (txns : List Txn) (texts : Txn → List (List ℕ)) (given : Txn → List Statement) (whole : Relations) → ((txn : Txn) → AreTexts db (texts txn) (given txn)) → FitsSchema db.schemas whole →
      FitsSchema db.schemas (relations_after db (map given txns) whole)
  serial_fits [] texts given whole spelled fits = fits
  serial_fits (txn ∷ txns) texts given whole spelled fits = serial_fits txns texts given _ spelled (after_fits (given txn) whole (statements_fit (texts txn) (given txn) (spelled txn)) fits)

  -- what is shown of each whole database that the fragments come to is shown of that of the serial run
  pub shows_serial : (whole : Relations) (machines : Machines) (entries : List Entry) (name : List ℕ) (shown : Option (List (List Value))) → IsSerialRun db whole machines entries → FitsSchema db.schemas whole →
      ((after : Relations) → AreThoseOf db machines after → FitsSchema db.schemas after → shown ≡ rows_shown db after name) → ShowsSerial db whole entries name shown
  shows_serial whole machines entries name shown so fits shows = record {
    statements = so.statements;
    spelled = so.spelled;
    rows = shows (relations_after db (map so.statements (committed_in entries)) whole) so.rebuilt (serial_fits (committed_in entries) (texts_of entries) so.statements whole so.spelled fits);
  }

  -- so of what a call shows, where it shows something
  pub serial_shown : {T E : Type 0} (result : Result T E) (items : T → Option (List (List Value))) (whole : Relations) (machines : Machines) (entries : List Entry) (name : List ℕ) → IsSerialRun db whole machines entries → FitsSchema db.schemas whole →
      ((after : Relations) → AreThoseOf db machines after → FitsSchema db.schemas after → IfOk result (λ shown. items shown ≡ rows_shown db after name)) → IfOk result (λ shown. ShowsSerial db whole entries name (items shown))
  serial_shown (Ok shown) items whole machines entries name so fits shows = shows_serial whole machines entries name (items shown) so fits shows
  serial_shown (Err fault) items whole machines entries name so fits shows = tt

  -- what holds of each whole database that the fragments may come to holds after a run: they come to that of the serial run
  pub serial_gives : (P : Type 0) (whole : Relations) (machines : Machines) (entries : List Entry) → IsSerialRun db whole machines entries → FitsSchema db.schemas whole →
      ((after : Relations) → AreThoseOf db machines after → FitsSchema db.schemas after → P) → P
  serial_gives P whole machines entries so fits gives = gives (relations_after db (map so.statements (committed_in entries)) whole) so.rebuilt (serial_fits (committed_in entries) (texts_of entries) so.statements whole so.spelled fits)
