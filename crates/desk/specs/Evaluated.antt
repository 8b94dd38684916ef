-- What it comes to where a statement is evaluated.
use Rattle.std.specs.Prelude.{◌≡◌, ℕ, List, map, Option, Result, IfOk}
use Rattle.terms.specs.declared.memory.Memory.{Memory}
use Rattle.meaning.specs.declared.statement.Statement.{Statement}
use Rattle.catalog.specs.declared.relation.SplitRelation.{SplitRelation}
use Rattle.answers.specs.FetchRows.{FetchRows}
use Rattle.protocol.specs.Desk.{Worked as WorkedDeed}
use Rattle.protocol.specs.Language.{Name}
use Rattle.protocol.specs.Serial.{Explained}
use Rattle.desk.specs.declared.fetches.Ask.{Ask}
use Rattle.desk.specs.declared.participant.Participant.{Participant}
use Rattle.desk.specs.declared.statement.Worked.{Worked}
use Rattle.desk.specs.Database.{Database, language}
use Rattle.desk.specs.Fetches.{brought}
use Rattle.desk.specs.OfCatalogue.{InForce, IsNextOf, IsOfCatalogue}
use Rattle.desk.specs.Opening.{HaveParticipants}
use Rattle.desk.specs.Participants.{sites_of}
use Rattle.desk.specs.Planned.{IsOfPlan}
use Rattle.desk.specs.ReducedPlan.{ReducedPlan}
use Rattle.desk.specs.Send.{UnsentAtHome}
use Rattle.desk.specs.Statement.{write_sites}
use Rattle.desk.specs.Transaction.{ask_of, write_of}

-- a statement that was planned under a catalogue comes to what it means of the rows that its fetches brought, and its writes are for the sites of their leaves
pub record ComesTo (catalog : List (List ℕ) × List SplitRelation) (next : Option (List (List ℕ) × List SplitRelation)) (statement : Statement) (plan : ReducedPlan) (fetched : List FetchRows) (result : Result Worked Memory) : Type 0 where
  pub home : (db : Database) (n : ℕ) → IsOfCatalogue db → InForce db n catalog → IsNextOf db n next → IfOk result (λ worked. UnsentAtHome db worked.unsent.items)
  pub participants : (db : Database) (n : ℕ) (participants : List Participant) → IsOfCatalogue db → InForce db n catalog → IsNextOf db n next → sites_of participants ≡ db.sites → IfOk result (λ worked. HaveParticipants participants (write_sites worked.unsent.items))
  pub explained : (db : Database) (n : ℕ) (t : Name) (asks : List Ask) → fetched ≡ brought asks → IsOfCatalogue db → InForce db n catalog → IsNextOf db n next → IsOfPlan db n statement plan asks
      → IfOk result (λ worked. Explained {L = language db} (WorkedDeed t (n, statement) (map (ask_of db) asks) (worked.answer, map write_of worked.unsent.items)))
