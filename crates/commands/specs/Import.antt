-- What inserts the rows of a file, transaction by transaction.
use Rattle.std.specs.Prelude.{◌≡◌, ◌≢◌, ◌⊎◌, ℕ, ◌%◌, ◌+◌, ◌==◌, Bool, true, false, if◌then◌else◌, List, [], ◌∷◌, ◌++◌, codes, is_some, length, map}
use Rattle.std.specs.Fmt.{decimal}
use Rattle.terms.specs.declared.value.Value.{Value}
use Rattle.meaning.specs.Whole.{Relations}
use Rattle.catalog.specs.Catalogue.{Catalogue}
use Rattle.protocol.specs.Desk.{Deed}
use Rattle.reader.specs.PrintStatement.{statement_bytes}
use Rattle.desk.specs.Database.{Database, language}
use Rattle.desk.specs.CatalogueDatabase.{database}
use Rattle.world.specs.Listed.{IsListed}
use Rattle.exchange.specs.Insert.{insert_of}
use Rattle.forms.specs.declared.mode.Mode.TheVariants.{Tabs}
use Rattle.databases.specs.Client.{GoesOn, Seen, standing_of}
use Rattle.databases.specs.ListClient.{AnswersTaskOver, GoesOnOver, Happened, list_standing_of}
use Rattle.lines.specs.Reply.{Answered, Told}
use Rattle.lines.specs.Script.{Reading, Runs}
use Rattle.databases.specs.Solo.{AnswersInTurn, AnswersTasks}

-- how many rows were imported
abbrev pub imported_text : ℕ → List ℕ
imported_text count = if count == 1 then codes "imported 1 row\n" else codes "imported " ++ decimal count ++ codes " rows\n"

-- a command, and its answer
abbrev pub says : List ℕ → List ℕ → Reading × Told
says command answer = (Runs command, Answered answer)

-- a transaction begins, and is committed
abbrev pub begins : Reading × Told
begins = says (codes "BEGIN") (codes "begun\n")

abbrev pub commits : Reading × Told
commits = says (codes "COMMIT") (codes "committed\n")

-- the INSERT of a row into the relation of this name, which changes one row
abbrev pub insert_says : List ℕ → List Value → Reading × Told
insert_says name row = says (statement_bytes (insert_of name row)) (codes "changed 1\n")

-- what ends the transaction before the row of this number; before the first row there is none
abbrev pub ending : ℕ → List (Reading × Told)
ending number = if number == 0 then [] else commits ∷ []

-- what comes before a row: where as many rows as a transaction has, or none, stand before it, that transaction ends and another one begins
abbrev pub before_row : ℕ → ℕ → List (Reading × Told)
before_row many number = if number % many == 0 then ending number ++ begins ∷ [] else []

-- a row's INSERT with what comes before it
abbrev pub row_says : ℕ → List ℕ → ℕ → List Value → List (Reading × Told)
row_says many name number row = before_row many number ++ insert_says name row ∷ []

-- those of rows, which are counted on from a number
abbrev pub inserts_from : ℕ → List ℕ → ℕ → List (List Value) → List (Reading × Told)
inserts_from many name number [] = []
inserts_from many name number (row ∷ rows) = row_says many name number row ++ inserts_from many name (number + 1) rows

-- all rows are inserted and committed, so many in a transaction
abbrev pub import_of : ℕ → List ℕ → List (List Value) → List (Reading × Told)
import_of many name rows = inserts_from many name 0 rows ++ ending (length rows)

-- what came of a transaction, if it began: its BEGIN, and the INSERTs of rows
abbrev pub transaction_of : Bool → List ℕ → List (List Value) → List (Reading × Told)
transaction_of false name rows = []
transaction_of true name rows = begins ∷ map (insert_says name) rows

-- So much had come of an import: the first rows were inserted and committed, so many, as an import of them alone; then a transaction began, perhaps, and some more rows were inserted.
pub record IsCommitted (many : ℕ) (name : List ℕ) (rows : List (List Value)) (count : ℕ) (made : List (Reading × Told)) : Type 0 where
  pub done : List (List Value)
  pub more : List (List Value)
  pub others : List (List Value)
  pub begun : Bool
  pub split : rows ≡ done ++ (more ++ others)
  pub counted : count ≡ length done
  pub is : made ≡ import_of many name done ++ transaction_of begun name more

-- one command was answered otherwise than was wanted. made: what came before it, as it was wanted
pub record Differs (made wanted : List (Reading × Told)) (command : List ℕ) (reply : Told) : Type 0 where
  pub answer : List ℕ
  pub rest : List (Reading × Told)
  pub place : wanted ≡ made ++ ((Runs command, Answered answer) ∷ rest)
  pub other : reply ≢ Answered answer

-- a transaction that is open is rolled back; without one nothing comes
abbrev pub IsRolledBack : Bool → List (Reading × Told) → Type 0
IsRolledBack true answers = (told : Told) × (answers ≡ (Runs (codes "ROLLBACK"), told) ∷ [])
IsRolledBack false answers = answers ≡ []

-- an import that was cut short: what was wanted came up to one command, and then what was open was rolled back. So many rows are committed
pub record IsCut (many : ℕ) (name : List ℕ) (rows : List (List Value)) (answers : List (Reading × Told)) (count : ℕ) : Type 0 where
  pub made : List (Reading × Told)
  pub command : List ℕ
  pub reply : Told
  pub differs : Differs made (import_of many name rows) command reply
  pub committed : IsCommitted many name rows count made
  pub is_open : Bool
  pub last : List (Reading × Told)
  pub ends : IsRolledBack is_open last
  pub all : answers ≡ made ++ ((Runs command, reply) ∷ last)

-- the commands of an import with their answers, and how many rows are committed: all of them, or it was cut short
abbrev pub IsImport : (is_cut : Bool) (many : ℕ) (name : List ℕ) (rows : List (List Value)) (answers : List (Reading × Told)) (count : ℕ) → Type 0
IsImport false many name rows answers count = (answers ≡ import_of many name rows) × (count ≡ length rows)
IsImport true many name rows answers count = IsCut many name rows answers count

-- an import of rows into the relation of this name, so many in a transaction
pub record ImportMade : Type 0 where
  pub many : ℕ
  pub name : List ℕ
  pub rows : List (List Value)
  pub is_cut : Bool
  pub answers : List (Reading × Told)
  pub count : ℕ
  pub is : IsImport is_cut many name rows answers count

-- these tasks are answered so, over a database that goes on
pub record HasCome {B : Type 0} (seen : Seen B) (catalogue : Catalogue) (whole : Relations) (answers : List (Reading × Told)) (past : List (Deed (language (database catalogue)))) (old new : B) : Type 0 where
  pub later : List (Deed (language (database catalogue)))
  pub goes_on : GoesOn seen catalogue whole later new
  pub answered : AnswersTasks Tabs catalogue answers (standing_of seen catalogue old past) (standing_of seen catalogue new later)

-- so over a list of catalogues
pub record HasComeOver {B : Type 0} (seen : Seen B) (db : Database) (whole : Relations) (answers : List (Reading × Told)) (happened : Happened db) (old new : B) : Type 0 where
  pub later : Happened db
  pub goes_on : GoesOnOver seen db whole later new
  pub answered : AnswersInTurn (AnswersTaskOver Tabs db whole) answers (list_standing_of seen old happened) (list_standing_of seen new later)

-- so whatever has happened before, over one catalogue and over each list of catalogues, where the stores are clean at the end
pub record Comes {B : Type 0} (seen : Seen B) (answers : List (Reading × Told)) (old new : B) : Type 0 where
  pub clean : seen.is_clean new → seen.is_clean old
  pub come : (catalogue : Catalogue) (whole : Relations) (past : List (Deed (language (database catalogue)))) → seen.is_clean new → GoesOn seen catalogue whole past old → HasCome seen catalogue whole answers past old new
  pub over : (db : Database) (whole : Relations) (happened : Happened db) → IsListed db → seen.is_clean new → GoesOnOver seen db whole happened old → HasComeOver seen db whole answers happened old new

-- What was wanted came up to one command, which was answered otherwise. made: what came before it
pub record StopsAt {B : Type 0} (seen : Seen B) (made wanted : List (Reading × Told)) (old new : B) (reply : Told) : Type 0 where
  pub command : List ℕ
  pub differs : Differs made wanted command reply
  pub come : Comes seen (made ++ ((Runs command, reply) ∷ [])) old new

-- What comes before the row of this number stops at its COMMIT, and so many rows are committed as were before; or it stops behind that, and those before the row are committed.
abbrev pub StopsBefore : {B : Type 0} → Seen B → (many number was committed : ℕ) → B → B → Told → Type 0
StopsBefore seen many number was committed old new reply =
    ((committed ≡ was) × StopsAt seen [] (before_row many number) old new reply)
    ⊎ ((committed ≡ number) × ((number % many == 0) ≡ true) × StopsAt seen (ending number) (before_row many number) old new reply)

-- what is open is rolled back
abbrev pub RollsBack : {B : Type 0} → Seen B → B → B → Type 0
RollsBack seen old new = (last : List (Reading × Told)) × IsRolledBack (is_some (seen.current old)) last × Comes seen last old new

-- So it ended: what was wanted came up to one command, and then what was open was rolled back. So many rows were committed before, in whole transactions, and stay.
pub record IsCutShort {B : Type 0} (seen : Seen B) (many : ℕ) (name : List ℕ) (rows : List (List Value)) (old new : B) (count : ℕ) (reply : Told) : Type 0 where
  pub made : List (Reading × Told)
  pub middle : B
  pub stops : StopsAt seen made (import_of many name rows) old middle reply
  pub committed : IsCommitted many name rows count made
  pub ends : RollsBack seen middle new
