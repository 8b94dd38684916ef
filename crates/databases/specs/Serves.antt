-- What a call for one client comes to, whatever has happened before: over one catalogue, and over each list of catalogues.
use Rattle.std.specs.Prelude.{ℕ, IfErr, IfOk, List, Result}
use Rattle.terms.specs.declared.leaf.Leaf.{Leaf}
use Rattle.meaning.specs.Whole.{Relations}
use Rattle.catalog.specs.Catalogue.{Catalogue}
use Rattle.protocol.specs.Desk.{Deed}
use Rattle.desk.specs.CatalogueDatabase.{database}
use Rattle.desk.specs.Database.{Database, language}
use Rattle.world.specs.Listed.{IsListed}
use Rattle.forms.specs.declared.mode.Mode.{Mode}
use Rattle.lines.specs.declared.fault.ProgramFault.{ProgramFault}
use Rattle.lines.specs.Reply.{Told}
use Rattle.lines.specs.Script.{Reading}
use Rattle.databases.specs.Client.{CountsPartsOf, GoesOn, IsAnswered, IsOfClient, Seen, ShowsPartsOf, standing_of}
use Rattle.databases.specs.ListClient.{GoesOnOver, Happened, IsAnsweredOver, TellsPartsOver, list_standing_of}
use Rattle.databases.specs.Shown.{counted_text, parts_text}

-- whatever has happened before, a task is answered by what a call gives, or a fault stops the database; told_of: what is told by that. It is so where the stores are clean as the
-- call ends; then they were clean before
pub record Serves {B T : Type 0} (seen : Seen B) (mode : Mode) (task : Reading) (told_of : T → Told) (old new : B) (result : Result T ProgramFault) : Type 0 where
  pub clean : seen.is_clean new → seen.is_clean old
  pub answers : (catalogue : Catalogue) (whole : Relations) (past : List (Deed (language (database catalogue)))) → seen.is_clean new → GoesOn seen catalogue whole past old → IfOk result (λ given. IsAnswered seen mode catalogue whole task past old new (told_of given))
  pub over : (db : Database) (whole : Relations) (happened : Happened db) → IsListed db → seen.is_clean new → GoesOnOver seen db whole happened old → IfOk result (λ given. IsAnsweredOver seen mode db whole task happened old new (told_of given))
  pub err : IfErr result IsOfClient

-- a leaf is told with how many parts it keeps, and the database goes on; name: how it was asked for, bytes_of: what is told by what a call gives
pub record CountsParts {B T : Type 0} (seen : Seen B) (mode : Mode) (name : List ℕ) (leaf : Leaf) (bytes_of : T → List ℕ) (old new : B) (result : Result T ProgramFault) : Type 0 where
  pub clean : seen.is_clean new → seen.is_clean old
  pub counted : (catalogue : Catalogue) (whole : Relations) (past : List (Deed (language (database catalogue)))) → seen.is_clean new → GoesOn seen catalogue whole past old →
      IfOk result (λ given. GoesOn seen catalogue whole past new × CountsPartsOf mode catalogue name leaf (standing_of seen catalogue old past) (standing_of seen catalogue new past) (bytes_of given))
  pub over : (db : Database) (whole : Relations) (happened : Happened db) → IsListed db → seen.is_clean new → GoesOnOver seen db whole happened old →
      IfOk result (λ given. GoesOnOver seen db whole happened new × TellsPartsOver db (λ catalogue. counted_text mode catalogue name) leaf (list_standing_of seen old happened) (list_standing_of seen new happened) (bytes_of given))
  pub err : IfErr result IsOfClient

-- a leaf is shown, and the database goes on; name: how it was asked for, bytes_of: what is told by what a call gives
pub record ShowsParts {B T : Type 0} (seen : Seen B) (mode : Mode) (name : List ℕ) (leaf : Leaf) (bytes_of : T → List ℕ) (old new : B) (result : Result T ProgramFault) : Type 0 where
  pub clean : seen.is_clean new → seen.is_clean old
  pub shown : (catalogue : Catalogue) (whole : Relations) (past : List (Deed (language (database catalogue)))) → seen.is_clean new → GoesOn seen catalogue whole past old →
      IfOk result (λ given. GoesOn seen catalogue whole past new × ShowsPartsOf mode catalogue name leaf (standing_of seen catalogue old past) (standing_of seen catalogue new past) (bytes_of given))
  pub over : (db : Database) (whole : Relations) (happened : Happened db) → IsListed db → seen.is_clean new → GoesOnOver seen db whole happened old →
      IfOk result (λ given. GoesOnOver seen db whole happened new × TellsPartsOver db (λ catalogue. parts_text mode catalogue name) leaf (list_standing_of seen old happened) (list_standing_of seen new happened) (bytes_of given))
  pub err : IfErr result IsOfClient
