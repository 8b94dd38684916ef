-- A call that is refused as Full would have led past the protocol's limits.
use Rattle.std.proofs.Common.{◌≡◌, sym, ap, ◌∙◌, subst, ℕ, nat_eq, length, if◌then◌else◌, Bool, true, false, List, [], ◌∷◌, map, Option, Some, None, is_some}
use Rattle.std.specs.List.{list_any}
use Rattle.std.specs.Option.{option_map}
use Rattle.meaning.specs.declared.answer.Answer.{Answer}
use Rattle.meaning.specs.declared.answer.Answer.TheVariants as answer
use Rattle.meaning.specs.declared.statement.Statement.{Statement}
use Rattle.catalog.specs.Laws.{LeafNamesAreUnique}
use Rattle.store.specs.DeskContent.{DeskContent}
use Rattle.store.specs.declared.name.Ticket.{Ticket}
use Rattle.store.specs.declared.name.Txn.{Txn}
use Rattle.store.specs.declared.reply.Reply.TheVariants as replies
use Rattle.store.specs.declared.reply.Rows.{Rows}
use Rattle.protocol.specs.Desk as desk
use Rattle.protocol.specs.Language.{Lang}
use Rattle.protocol.specs.Letters.{name_of, txn_name}
use Rattle.protocol.specs.Serial.{AllExplained, Explained}
use Rattle.desk.specs.declared.fetches.Ask.{Ask}
use Rattle.desk.specs.declared.volatile.Volatile.{Volatile}
use Rattle.desk.specs.declared.transaction.TxnState.TheVariants as standing
use Rattle.desk.specs.declared.transaction.Reading.{Reading}
use Rattle.desk.specs.declared.transaction.Stage.TheVariants as stage
use Rattle.desk.specs.declared.transaction.Undecided.{Undecided}
use Rattle.desk.specs.declared.transaction.Unsent.{Unsent}
use Rattle.desk.specs.Commit.{is_first}
use Rattle.desk.specs.Fetches.{are_in, with_rows}
use Rattle.desk.specs.Database.{Database, language, replied}
use Rattle.desk.specs.Does.{IsLong, IsPastLimits}
use Rattle.desk.specs.OfCatalogue.{IsOfCatalogue}
use Rattle.desk.specs.Planned.{IsOfPlan, ask_from}
use Rattle.desk.specs.ReducedPlan.{ReducedPlan}
use Rattle.desk.specs.Send.{IsPast}
use Rattle.desk.specs.Participants.{changed_at, is_at, participant_in, with_ticket}
use Rattle.desk.specs.Transaction.{ask_of, stage_of, txn_of, undecided_of, write_of}
use Rattle.desk.specs.State.{Fits, IsIn, volatile_of}
use Rattle.desk.specs.Stepped.{goes_to, ticketed}
use Rattle.desk.proofs.Doing.{ticket_explained, turn_is, wanted_is, writes_explained}
use Rattle.desk.proofs.PastLimit.{ticket_past}
use Rattle.desk.proofs.Rowed.{all_in}
use Rattle.desk.proofs.Short.{past_limit}

-- a turn that is another is as long
long_as : {L : Lang} (one other : desk.Transition L) → one ≡ other → desk.is_short_txn other.txn ≡ false → desk.is_short_txn one.txn ≡ false
long_as one other same long = ap (λ turn. desk.is_short_txn turn.txn) same ∙ long

-- and as explained
explained_as : {L : Lang} (one other : desk.Transition L) → one ≡ other → AllExplained other.deeds → AllExplained one.deeds
explained_as one other same why = subst (λ turn. AllExplained turn.deeds) (sym same) why

-- ---- a statement is stated
module _ (db : Database) (of : IsOfCatalogue db) (n : ℕ) (txn : Txn) (u : Undecided) (idle : u.stage ≡ stage.Idle) (stated : Statement) (plan : ReducedPlan) (list : List Ask) (of_plan : IsOfPlan db n stated plan list) (same : list ≡ map (ask_from (db.catalogue n)) plan.fetches) where
  abbrev stating : desk.Choice (language db) → desk.Transition (language db)
  stating choice = desk.on_request (txn_name txn) choice (desk.State (n, stated)) (desk.Known (undecided_of db u))

  abbrev begun : desk.Choice (language db) → List (desk.Ask (language db)) → desk.Transition (language db)
  begun choice asks = desk.after_deed (desk.Stated (txn_name txn) (n, stated)) (desk.states (txn_name txn) (undecided_of db u) (n, stated) asks choice)

  stating_is : (choice : desk.Choice (language db)) (asks : List Ask) → list ≡ asks → stating choice ≡ begun choice (map (ask_of db) asks)
  stating_is choice asks is =
      wanted_is db of n txn u idle stated plan (subst (IsOfPlan db n stated plan) same of_plan) choice ∙ ap (λ (asks : List Ask). begun choice (map (ask_of db) asks)) (sym same ∙ is)

  -- without fetches
  pub once_long : list ≡ [] → (told : Answer) (unsent : List Unsent) → Explained {L = language db} (desk.Worked (txn_name txn) (n, stated) (map (ask_of db) list) (told, map write_of unsent)) →
      ((others : List (desk.Ask (language db))) → desk.is_short_txn (desk.works (txn_name txn) (undecided_of db u) (n, stated) others (told, map write_of unsent)).txn ≡ false) → IsLong db stating
  once_long none told unsent why long =
      let choice : desk.Choice (language db) = (told, map write_of unsent) in
      let turn = stating_is choice [] none in
      record {
        choice = choice;
        explained = explained_as (stating choice) (begun choice []) turn
            (tt, (subst (λ (asks : List Ask). Explained {L = language db} (desk.Worked (txn_name txn) (n, stated) (map (ask_of db) asks) choice)) none why, writes_explained (language db) (txn_name txn) (desk.visits (undecided_of db u) (map (λ w. w.0) choice.1)) told choice.1));
        long = long_as (stating choice) (begun choice []) turn (long []);
      }

  -- with fetches
  pub reads_long : nat_eq (length list) 0 ≡ false → ((choice : desk.Choice (language db)) (first : Ask) (rest : List Ask) → list ≡ first ∷ rest → desk.is_short_txn (desk.states (txn_name txn) (undecided_of db u) (n, stated) (map (ask_of db) list) choice).txn ≡ false) → IsLong db stating
  reads_long some long = at list (λ i. list)
    where
      choice : desk.Choice (language db)
      choice = (answer.Changed 0, [])

      at : (asks : List Ask) → list ≡ asks → IsLong db stating
      at [] e = let f : true ≡ false = sym (ap (λ (asks : List Ask). nat_eq (length asks) 0) e) ∙ some in cc
      at (first ∷ rest) e =
          let turn = stating_is choice (first ∷ rest) e in
          record {
            choice = choice;
            explained = explained_as (stating choice) (begun choice (map (ask_of db) (first ∷ rest))) turn (tt, tt);
            long = long_as (stating choice) (begun choice (map (ask_of db) (first ∷ rest))) turn (subst (λ (asks : List Ask). desk.is_short_txn (desk.states (txn_name txn) (undecided_of db u) (n, stated) (map (ask_of db) asks) choice).txn ≡ false) e (long choice first rest e));
          }

-- ---- a first ticket comes
pub ticket_long : (db : Database) (n : ℕ) (txn : Txn) (u : Undecided) (site : List ℕ) (ticket : Ticket) → (participant_in site u.participants).ticket ≡ None → list_any (is_at site) u.participants ≡ true → IsIn db n (standing.Undecided u) →
    IsPast (goes_to txn (map (changed_at site (with_ticket (Some ticket))) u.participants) u.stage) → IsLong db (λ choice. desk.on_known {L = language db} (txn_name txn) (undecided_of db u) site true choice (replied db site (replies.Ticket ticket)))
ticket_long db n txn u site ticket none there known past =
    let choice : desk.Choice (language db) = (answer.Changed 0, []) in
    let came = desk.on_known {L = language db} (txn_name txn) (undecided_of db u) site true choice (replied db site (replies.Ticket ticket)) in
    let goes = desk.ticket_goes {L = language db} (txn_name txn) (ticketed db u site ticket) choice (stage_of db u.participants u.stage) in
    let turn : came ≡ goes = ap (λ (o : Option Ticket). desk.on_ticket {L = language db} (txn_name txn) (undecided_of db u) site (name_of ticket) choice (option_map name_of o)) none in
    record {
      choice = choice;
      explained = explained_as came goes turn (ticket_explained (language db) (txn_name txn) (ticketed db u site ticket) choice (stage_of db u.participants u.stage));
      long = long_as came goes turn (ticket_past db txn u site ticket there known.0 past choice);
    }

-- ---- rows come that complete a statement
pub rows_long : (db : Database) (n : ℕ) (txn : Txn) (u : Undecided) (site : List ℕ) (rows : Rows) (of : IsOfCatalogue db) (unique : LeafNamesAreUnique) (reading : Reading) (here : u.stage ≡ stage.Reading reading) (first : is_first rows.ticket (participant_in site u.participants).ticket ≡ true) (known_in : IsIn db n (standing.Undecided u)) →
    (list : List Ask) → list ≡ map (with_rows (db.catalogue n) site rows.op rows.parts) reading.asks.items → are_in list ≡ true → (told : Answer) (unsent : List Unsent) → Explained {L = language db} (desk.Worked (txn_name txn) (n, reading.statement) (map (ask_of db) list) (told, map write_of unsent)) →
    desk.is_short_txn (desk.works (txn_name txn) (undecided_of db u) (n, reading.statement) (map (ask_of db) list) (told, map write_of unsent)).txn ≡ false →
    IsLong db (λ choice. desk.on_known {L = language db} (txn_name txn) (undecided_of db u) site true choice (replied db site (replies.Rows rows)))
rows_long db n txn u site rows of unique reading here first known_in list same all told unsent why long =
    let choice : desk.Choice (language db) = (told, map write_of unsent) in
    let given = map (with_rows (db.catalogue n) site rows.op rows.parts) reading.asks.items in
    let came = desk.on_known {L = language db} (txn_name txn) (undecided_of db u) site true choice (replied db site (replies.Rows rows)) in
    let works = desk.works {L = language db} (txn_name txn) (undecided_of db u) (n, reading.statement) (map (ask_of db) list) choice in
    let go : Bool → desk.Transition (language db) = λ b. if b then desk.works {L = language db} (txn_name txn) (undecided_of db u) (n, reading.statement) (map (ask_of db) given) choice else desk.stays (desk.Known (record (undecided_of db u) { stage = desk.Reading (n, reading.statement) (map (ask_of db) given) })) in
    let turn : came ≡ works =
    turn_is db n txn u site rows of unique reading here first known_in choice ∙ ap go (all_in db given ∙ sym (ap are_in same) ∙ all)
    ∙ ap (λ (asks : List Ask). desk.works {L = language db} (txn_name txn) (undecided_of db u) (n, reading.statement) (map (ask_of db) asks) choice) (sym same) in
    record {
      choice = choice;
      explained = explained_as came works turn (why, writes_explained (language db) (txn_name txn) (desk.visits (undecided_of db u) (map (λ w. w.0) choice.1)) told choice.1);
      long = long_as came works turn long;
    }

-- ---- the state in memory
pub long_in : (db : Database) (old : Volatile) (txn : Txn) (u : Undecided) → (volatile_of old).standing txn ≡ Some (standing.Undecided u) → (turn : desk.Choice (language db) → desk.Txn (language db) → desk.Transition (language db)) →
    IsLong db (λ choice. turn choice (desk.Known (undecided_of db u))) → IsLong db (λ choice. turn choice (txn_of db ((volatile_of old).standing txn)))
long_in db old txn u here turn long = subst (λ o. IsLong db (λ choice. turn choice (txn_of db o))) (sym here) long

pub past_limits : (db : Database) (kept : DeskContent) (old : Volatile) → Fits db kept (volatile_of old) → (txn : Txn) (u : Undecided) → (volatile_of old).standing txn ≡ Some (standing.Undecided u) → (wanted : desk.Choice (language db) → desk.Transition (language db)) → IsLong db wanted → IsPastLimits db (volatile_of old) txn wanted
past_limits db kept old fits txn u here wanted long = record {
  choice = long.choice;
  explained = long.explained;
  past = past_limit db kept (volatile_of old) fits txn (ap is_some here) (wanted long.choice).txn (known (wanted long.choice).txn long.long) long.long;
}
  where
    known : (x : desk.Txn (language db)) → desk.is_short_txn x ≡ false → desk.is_unknown x ≡ false
    known desk.Unknown e = cc
    known (desk.Known v) e = λ i. false
    known (desk.Row voters acked) e = λ i. false
