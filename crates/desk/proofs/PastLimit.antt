-- A statement that would send more operations than the limit allows is past the protocol's limit.
use Rattle.std.proofs.Common.{◌≡◌, refl, sym, ap, ◌∙◌, subst, ℕ, nat_lt, ◌^◌, Bool, true, false, List, [], ◌∷◌, map, Option, Some}
use Rattle.std.specs.List.{list_all, list_any}
use Rattle.std.specs.Option.{option_map}
use Rattle.meaning.specs.declared.answer.Answer.{Answer}
use Rattle.meaning.specs.declared.statement.Statement.{Statement}
use Rattle.store.specs.declared.name.Ticket.{Ticket}
use Rattle.store.specs.declared.name.Txn.{Txn}
use Rattle.protocol.specs.Desk as desk
use Rattle.protocol.specs.Language.{Name}
use Rattle.protocol.specs.Letter as letter
use Rattle.protocol.specs.Letters.{name_of, txn_name}
use Rattle.protocol.specs.Local.{AtKey}
use Rattle.desk.specs.declared.fetches.Ask.{Ask}
use Rattle.desk.specs.declared.participant.Participant.{Participant}
use Rattle.desk.specs.declared.transaction.Stage.{Stage}
use Rattle.desk.specs.declared.transaction.Stage.TheVariants as stage
use Rattle.desk.specs.declared.transaction.Undecided.{Undecided}
use Rattle.desk.specs.declared.transaction.Unsent.{Unsent}
use Rattle.desk.specs.Database.{Database, language}
use Rattle.desk.specs.Opening.{visits}
use Rattle.desk.specs.Place.{Place}
use Rattle.desk.specs.Send.{IsPast, asks_go, writes_go}
use Rattle.desk.specs.Participants.{changed_at, is_at, sites_of, participant_in, with_ticket}
use Rattle.desk.specs.Transaction.{ask_of, stage_of, undecided_of, write_of}
use Rattle.desk.specs.Stepped.{goes_to, ticketed}
use Rattle.desk.proofs.SentLetters.{ticketed_is}
use Rattle.desk.proofs.Opened.{kept_by_visits}
use Rattle.desk.proofs.Operations.{asks_same, writes_same}
use Rattle.desk.proofs.Short.{past_short}
use Rattle.desk.proofs.Within.{ticket_sites, visits_sites}

-- whether no site was sent more operations than the limit allows
abbrev AllShort : Database → (List ℕ → ℕ) → Bool
AllShort db sent = list_all (λ a. nat_lt (sent a) (2 ^ 63)) db.sites

long : (db : Database) (participants : List Participant) → sites_of participants ≡ db.sites → IsPast participants → (sent : List ℕ → ℕ) → (λ (j : List ℕ). (participant_in j participants).sent) ≡ sent → AllShort db sent ≡ false
long db participants there past sent is = ap (AllShort db) (sym is) ∙ ap (list_all (λ a. nat_lt (participant_in a participants).sent (2 ^ 63))) (sym there) ∙ past_short participants past

-- writes that went out leave the counts that they leave, whether others wait or not
written : (db : Database) (txn : Txn) (v : desk.Undecided (language db)) (told : Answer) (sent : List ℕ → ℕ) (left : List (Place × AtKey)) (letters : List (letter.Letter (language db))) →
    desk.is_short_txn (desk.writing {L = language db} (txn_name txn) v told sent left letters).txn ≡ AllShort db sent
written db txn v told sent [] letters = refl
written db txn v told sent (x ∷ left) letters = refl

module _ (db : Database) (txn : Txn) (u : Undecided) (those : sites_of u.participants ≡ db.sites) (sites : List (List ℕ)) where
  abbrev opened : List Participant
  opened = visits sites u.participants

  abbrev tickets : List ℕ → Option Name
  tickets j = option_map name_of (participant_in j u.participants).ticket

  abbrev counts : List ℕ → ℕ
  counts j = (participant_in j u.participants).sent

  same_counts : (λ (j : List ℕ). (participant_in j opened).sent) ≡ counts
  same_counts = λ i j. kept_by_visits sites u.participants (λ s. s.sent) (λ s. refl) j i

  same_ticket : (j : List ℕ) → tickets j ≡ option_map name_of (participant_in j opened).ticket
  same_ticket j = ap (option_map name_of) (sym (kept_by_visits sites u.participants (λ s. s.ticket) (λ s. refl) j))

  -- fetches
  pub asks_past : (stated : ℕ × Statement) (choice : desk.Choice (language db)) (asks : List Ask) (first : Ask) (rest : List Ask) → asks ≡ first ∷ rest → IsPast (asks_go txn asks opened).participants →
      desk.is_short_txn (desk.states (txn_name txn) (undecided_of db u) stated (map (ask_of db) asks) choice).txn ≡ false
  asks_past stated choice asks first rest some past =
      let out = asks_same db txn tickets asks opened same_ticket in
      let sent = out.counts ∙ ap (λ (c : List ℕ → ℕ). (desk.asks_out {L = language db} (txn_name txn) tickets (map (ask_of db) asks) c).sent) same_counts in
      subst (λ (l : List Ask). AllShort db (desk.asks_out {L = language db} (txn_name txn) tickets (map (ask_of db) l) counts).sent ≡ false → desk.is_short_txn (desk.states (txn_name txn) (undecided_of db u) stated (map (ask_of db) l) choice).txn ≡ false) (sym some) (λ e. e)
      (long db (asks_go txn asks opened).participants (out.same.sites ∙ visits_sites sites u.participants ∙ those) past _ sent)

  -- writes
  pub writes_past : (stated : ℕ × Statement) (list : List (desk.Ask (language db))) (told : Answer) (unsent : List Unsent) → IsPast (writes_go txn unsent opened).participants →
      desk.is_short_txn (desk.works (txn_name txn) (undecided_of db u) stated list (told, map write_of unsent)).txn ≡ false
  writes_past stated list told unsent past =
      let out = writes_same db txn tickets unsent opened same_ticket in
      let sent = out.counts ∙ ap (λ (c : List ℕ → ℕ). (desk.writes_out {L = language db} (txn_name txn) tickets (map write_of unsent) c).sent) same_counts in
      let wanted = desk.writes_out {L = language db} (txn_name txn) tickets (map write_of unsent) counts in
      written db txn (desk.visits (undecided_of db u) (map (λ w. w.0) (map write_of unsent))) told wanted.sent wanted.left wanted.letters ∙ long db (writes_go txn unsent opened).participants (out.same.sites ∙ visits_sites sites u.participants ∙ those) past _ sent

-- ---- a ticket comes
module _ (db : Database) (txn : Txn) (moves : Bool) (participants : List Participant) (those : sites_of participants ≡ db.sites) where
  abbrev now : (st : Stage) → desk.Undecided (language db)
  now st = undecided_of db (record { participants = participants; stage = st; moves = moves })

  -- what waited for it would lead past the limit
  pub goes_past : (choice : desk.Choice (language db)) (st : Stage) → IsPast (goes_to txn participants st) → desk.is_short_txn (desk.ticket_goes {L = language db} (txn_name txn) (now st) choice (stage_of db participants st)).txn ≡ false
  goes_past choice stage.Idle past = long db participants those past _ refl
  goes_past choice (stage.Reading reading) past =
      let out = asks_same db txn (λ j. option_map name_of (participant_in j participants).ticket) reading.asks.items participants (λ j. refl) in
      long db (asks_go txn reading.asks.items participants).participants (out.same.sites ∙ those) past _ out.counts
  goes_past choice (stage.Writing writing) past =
      let out = writes_same db txn (λ j. option_map name_of (participant_in j participants).ticket) writing.unsent.items participants (λ j. refl) in
      let wanted = desk.writes_out {L = language db} (txn_name txn) (λ j. option_map name_of (participant_in j participants).ticket) (map write_of writing.unsent.items) (λ j. (participant_in j participants).sent) in
      written db txn (now (stage.Writing writing)) writing.answer wanted.sent wanted.left wanted.letters ∙ long db (writes_go txn writing.unsent.items participants).participants (out.same.sites ∙ those) past _ out.counts
  goes_past choice stage.Voting past = long db participants those past _ refl

-- where a site has given its first ticket
pub ticket_past : (db : Database) (txn : Txn) (u : Undecided) (site : List ℕ) (ticket : Ticket) → list_any (is_at site) u.participants ≡ true → sites_of u.participants ≡ db.sites → IsPast (goes_to txn (map (changed_at site (with_ticket (Some ticket))) u.participants) u.stage) → (choice : desk.Choice (language db)) →
    desk.is_short_txn (desk.ticket_goes {L = language db} (txn_name txn) (ticketed db u site ticket) choice (stage_of db u.participants u.stage)).txn ≡ false
ticket_past db txn u site ticket there those past choice =
    let participants = map (changed_at site (with_ticket (Some ticket))) u.participants in
    stage_alike u.stage (ticketed db u site ticket)
    ∙ ap (λ (v : desk.Undecided (language db)). desk.is_short_txn (desk.ticket_goes {L = language db} (txn_name txn) v choice (stage_of db participants u.stage)).txn) (sym (ticketed_is db u site ticket there))
    ∙ goes_past db txn u.moves participants (ticket_sites site (Some ticket) u.participants ∙ those) choice u.stage past
  where
    stage_alike : (st : Stage) (v : desk.Undecided (language db)) → desk.is_short_txn (desk.ticket_goes {L = language db} (txn_name txn) v choice (stage_of db u.participants st)).txn ≡ desk.is_short_txn (desk.ticket_goes {L = language db} (txn_name txn) v choice (stage_of db (map (changed_at site (with_ticket (Some ticket))) u.participants) st)).txn
    stage_alike stage.Idle v = refl
    stage_alike (stage.Reading reading) v = refl
    stage_alike (stage.Writing writing) v = refl
    stage_alike stage.Voting v = refl
