-- What is known of a transaction while its statement goes on.
use Rattle.std.proofs.Common.{◌≡◌, refl, sym, ap, ◌∙◌, subst, ℕ, List, [], ◌∷◌, map, Option}
use Rattle.std.specs.Option.{option_map}
use Rattle.meaning.specs.declared.statement.Statement.{Statement}
use Rattle.store.specs.declared.name.Ticket.{Ticket}
use Rattle.store.specs.declared.name.Txn.{Txn}
use Rattle.protocol.specs.Letters.{name_of}
use Rattle.desk.specs.declared.fetches.Ask.{Ask}
use Rattle.desk.specs.declared.participant.Participant.{Participant}
use Rattle.desk.specs.declared.transaction.TxnState.TheVariants as standing
use Rattle.desk.specs.declared.transaction.Reading.{Reading}
use Rattle.desk.specs.declared.transaction.Stage.{Stage}
use Rattle.desk.specs.declared.transaction.Stage.TheVariants as stage
use Rattle.desk.specs.declared.transaction.Undecided.{Undecided}
use Rattle.desk.specs.declared.transaction.Unsent.{Unsent}
use Rattle.desk.specs.declared.transaction.Writing.{Writing}
use Rattle.desk.specs.Database.{Database}
use Rattle.desk.specs.Opening.{visited, visits}
use Rattle.desk.specs.Planned.{IsOfPlan, IsPlanned, asked}
use Rattle.desk.specs.ReducedPlan.{ReducedPlan}
use Rattle.desk.specs.Send.{AsksAtHome, UnsentAtHome, asks_go, writes_go}
use Rattle.desk.specs.Participants.{changed_at, sites_of, participant_in, with_ticket}
use Rattle.desk.specs.State.{IsIn}
use Rattle.desk.specs.Stepped.{IsAtHome}
use Rattle.desk.proofs.Asked.{left_home, left_order, unsent_home}
use Rattle.desk.proofs.Changed.{changed_site, same_sites}
use Rattle.desk.proofs.Operations.{asks_same, writes_same}

-- the sites stay where some are opened, and where a ticket comes
pub visits_sites : (sites : List (List ℕ)) (participants : List Participant) → sites_of (visits sites participants) ≡ sites_of participants
visits_sites sites participants = same_sites (visited sites) (λ s. refl) participants

pub ticket_sites : (site : List ℕ) (ticket : Option Ticket) (participants : List Participant) → sites_of (map (changed_at site (with_ticket ticket)) participants) ≡ sites_of participants
ticket_sites site ticket participants = same_sites (changed_at site (with_ticket ticket)) (changed_site (with_ticket ticket) (λ s. refl) site) participants

-- a plan whose asks are the same in order
pub same_plan : (db : Database) (n : ℕ) (stated : Statement) (plan : ReducedPlan) (asks others : List Ask) → map asked others ≡ map asked asks → IsOfPlan db n stated plan asks → IsOfPlan db n stated plan others
same_plan db n stated plan asks others same planned = record { statement = planned.statement; fetches = planned.fetches; finds = planned.finds; in_order = same ∙ planned.in_order }

module _ (db : Database) (n : ℕ) (txn : Txn) (opened : List Participant) (those : sites_of opened ≡ db.sites) (new : Undecided) where
  -- it is known of a stage
  in_stage : (st : Stage) → new.stage ≡ st → sites_of new.participants ≡ db.sites → IsAtHome db st → IsPlanned db n st → IsIn db n (standing.Undecided new)
  in_stage st is sites home planned = (sites, subst (IsAtHome db) (sym is) home, subst (IsPlanned db n) (sym is) planned)

  pub reads_in : (asks : List Ask) (stated : Statement) (plan : ReducedPlan) (reading : Reading) → AsksAtHome db asks → IsOfPlan db n stated plan asks → reading.version ≡ n → reading.statement ≡ stated → reading.plan ≡ plan → reading.asks.items ≡ (asks_go txn asks opened).left →
      new.participants ≡ (asks_go txn asks opened).participants → new.stage ≡ stage.Reading reading → IsIn db n (standing.Undecided new)
  reads_in asks stated plan reading home planned version same_statement plan_is left participants now =
      in_stage (stage.Reading reading) now
      (ap sites_of participants ∙ (asks_same db txn (λ j. option_map name_of (participant_in j opened).ticket) asks opened (λ j. refl)).same.sites ∙ those)
      (subst (AsksAtHome db) (sym left) (left_home db txn asks opened home))
      (version, subst (λ s. IsOfPlan db n s reading.plan reading.asks.items) (sym same_statement) (subst (λ p. IsOfPlan db n stated p reading.asks.items) (sym plan_is) (same_plan db n stated plan asks reading.asks.items (ap (map asked) left ∙ left_order db txn asks opened) planned)))

  pub works_in : (ws left : List Unsent) (after : Writing) → UnsentAtHome db ws → new.participants ≡ (writes_go txn ws opened).participants → after.unsent.items ≡ left → left ≡ (writes_go txn ws opened).left →
      (left ≡ [] → new.stage ≡ stage.Idle) → ((first : Unsent) (rest : List Unsent) → left ≡ first ∷ rest → new.stage ≡ stage.Writing after) → IsIn db n (standing.Undecided new)
  works_in ws left after home participants items left_is answered waits = go left items left_is answered waits
    where
      sites : sites_of new.participants ≡ db.sites
      sites = ap sites_of participants ∙ (writes_same db txn (λ j. option_map name_of (participant_in j opened).ticket) ws opened (λ j. refl)).same.sites ∙ those

      go : (left : List Unsent) → after.unsent.items ≡ left → left ≡ (writes_go txn ws opened).left → (left ≡ [] → new.stage ≡ stage.Idle) → ((first : Unsent) (rest : List Unsent) → left ≡ first ∷ rest → new.stage ≡ stage.Writing after) → IsIn db n (standing.Undecided new)
      go [] items left_is answered waits = in_stage stage.Idle (answered refl) sites tt tt
      go (first ∷ rest) items left_is answered waits = in_stage (stage.Writing after) (waits first rest refl) sites (subst (UnsentAtHome db) (sym (items ∙ left_is)) (unsent_home db txn ws opened home)) tt

  -- nothing goes out
  pub stays_in : (old : Undecided) → IsIn db n (standing.Undecided old) → new.stage ≡ old.stage → new.participants ≡ opened → IsIn db n (standing.Undecided new)
  stays_in old known is participants = in_stage old.stage is (ap sites_of participants ∙ those) known.1 known.2
