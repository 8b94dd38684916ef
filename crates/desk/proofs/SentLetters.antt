-- A step of a statement is the protocol's.
use Rattle.std.proofs.Common.{◌≡◌, refl, sym, ap, ◌∙◌, subst, ℕ, Bool, true, List, [], ◌∷◌, map, ◌⊎◌, inl, inr, Some, None}
use Rattle.std.specs.List.{list_any, filter_map}
use Rattle.std.specs.Option.{option_map}
use Rattle.store.specs.declared.letter.Letter.{Letter}
use Rattle.store.specs.declared.name.Ticket.{Ticket}
use Rattle.store.specs.declared.name.Txn.{Txn}
use Rattle.protocol.specs.Desk as desk
use Rattle.protocol.specs.Language.{Name}
use Rattle.protocol.specs.Letters.{name_of, txn_name}
use Rattle.desk.specs.declared.participant.Participant.{Participant}
use Rattle.desk.specs.declared.transaction.Reading.{Reading}
use Rattle.desk.specs.declared.transaction.Stage.{Stage}
use Rattle.desk.specs.declared.transaction.Stage.TheVariants as stage
use Rattle.desk.specs.declared.transaction.Undecided.{Undecided}
use Rattle.desk.specs.declared.transaction.Unsent.{Unsent}
use Rattle.desk.specs.declared.transaction.Writing.{Writing}
use Rattle.desk.specs.Database.{Database, language, sent}
use Rattle.desk.specs.Send.{asks_go, writes_go}
use Rattle.desk.specs.Participants.{is_at, participant_in, changed_at, with_ticket}
use Rattle.desk.specs.Transaction.{ask_of, write_of, stage_of, undecided_of}
use Rattle.desk.specs.declared.reply.Reply.TheVariants as reply
use Rattle.desk.specs.declared.statement.Progress.{Progress}
use Rattle.desk.specs.Does.{IsProgress}
use Rattle.desk.specs.Statement.{answer_of, staged}
use Rattle.desk.specs.Stepped.{ticketed}
use Rattle.desk.specs.Transition.{told}
use Rattle.desk.proofs.Changed.{ticket_put}
use Rattle.desk.proofs.Operations.{SameBut, asks_same, writes_same}

-- the participants after a ticket, in the protocol
pub ticketed_is : (db : Database) (u : Undecided) (site : List ℕ) (ticket : Ticket) → list_any (is_at site) u.participants ≡ true → undecided_of db (record { participants = map (changed_at site (with_ticket (Some ticket))) u.participants; stage = u.stage; moves = u.moves }) ≡ ticketed db u site ticket
ticketed_is db u site ticket there = ticket_put db u.participants site there u.moves ticket u.stage

module _ (db : Database) (txn : Txn) (moves : Bool) (participants after : List Participant) (letters : List Letter) where
  -- participants that differ in their counts alone are those of the protocol's transaction with other counts
  counts_are : (counts : List ℕ → ℕ) (old new : Stage) → SameBut participants after → (λ (j : List ℕ). (participant_in j after).sent) ≡ counts → (st : desk.Stage (language db)) → stage_of db after new ≡ st →
      undecided_of db (record { participants = after; stage = new; moves = moves }) ≡ record (undecided_of db (record { participants = participants; stage = old; moves = moves })) { sent = counts; stage = st }
  counts_are counts old new same sent st is = λ i. record {
    visited = λ j. same.visited j i;
    ticket = λ j. option_map name_of (same.ticket j i);
    sent = sent i;
    stage = is i;
    moves = moves;
  }

  -- fetches went out
  pub reading_is : (reading new : Reading) → new.version ≡ reading.version → new.statement ≡ reading.statement → new.asks.items ≡ (asks_go txn reading.asks.items participants).left → after ≡ (asks_go txn reading.asks.items participants).participants → letters ≡ (asks_go txn reading.asks.items participants).letters →
      let wanted = desk.asks_go {L = language db} (txn_name txn) (undecided_of db (record { participants = participants; stage = stage.Reading reading; moves = moves })) (reading.version, reading.statement) (map (ask_of db) reading.asks.items) in
      (desk.Known (undecided_of db (record { participants = after; stage = stage.Reading new; moves = moves })) ≡ wanted.txn) × (map (sent db) letters ≡ wanted.letters)
  reading_is reading new version statement left participants_are letters_are =
      let out = asks_same db txn (λ j. option_map name_of (participant_in j participants).ticket) reading.asks.items participants (λ j. refl) in
      let is = subst (λ x. SameBut participants x) (sym participants_are) out.same in (
        ap desk.Known (counts_are _ (stage.Reading reading) (stage.Reading new) is (ap (λ x. λ (j : List ℕ). (participant_in j x).sent) participants_are ∙ out.counts) _ (λ i. desk.Reading (version i, statement i) ((ap (map (ask_of db)) left ∙ out.left) i))),
        ap (map (sent db)) letters_are ∙ out.letters,
      )

  -- writes went out, and some wait
  module _ (writing : Writing) (participants_are : after ≡ (writes_go txn writing.unsent.items participants).participants) (letters_are : letters ≡ (writes_go txn writing.unsent.items participants).letters) where
    abbrev wanted : desk.Transition (language db)
    wanted = desk.writes_go {L = language db} (txn_name txn) (undecided_of db (record { participants = participants; stage = stage.Writing writing; moves = moves })) writing.answer (map write_of writing.unsent.items)

    pub waiting_is : (new : Writing) → new.answer ≡ writing.answer → (first : Unsent) (rest : List Unsent) → new.unsent.items ≡ first ∷ rest → new.unsent.items ≡ (writes_go txn writing.unsent.items participants).left →
        (desk.Known (undecided_of db (record { participants = after; stage = stage.Writing new; moves = moves })) ≡ wanted.txn) × (map (sent db) letters ≡ wanted.letters) × (wanted.deeds ≡ [])
    waiting_is new answer first rest some left =
        let out = writes_same db txn (λ j. option_map name_of (participant_in j participants).ticket) writing.unsent.items participants (λ j. refl) in
        let is = subst (λ x. SameBut participants x) (sym participants_are) out.same in
        let waits = sym (sym (ap (map write_of) some) ∙ ap (map write_of) left ∙ out.left) in
        let turn = ap (λ l. desk.writing {L = language db} (txn_name txn) (undecided_of db (record { participants = participants; stage = stage.Writing writing; moves = moves })) writing.answer (desk.writes_out {L = language db} (txn_name txn) (λ j. option_map name_of (participant_in j participants).ticket) (map write_of writing.unsent.items) (λ j. (participant_in j participants).sent)).sent l (desk.writes_out {L = language db} (txn_name txn) (λ j. option_map name_of (participant_in j participants).ticket) (map write_of writing.unsent.items) (λ j. (participant_in j participants).sent)).letters) waits in (
          ap desk.Known (counts_are _ (stage.Writing writing) (stage.Writing new) is (ap (λ x. λ (j : List ℕ). (participant_in j x).sent) participants_are ∙ out.counts) _ (λ i. desk.Writing (answer i) (map write_of (some i)))) ∙ ap (λ turn. turn.txn) (sym turn),
          ap (map (sent db)) letters_are ∙ out.letters ∙ ap (λ turn. turn.letters) (sym turn),
          ap (λ turn. turn.deeds) turn,
        )

    pub answered_is : [] ≡ (writes_go txn writing.unsent.items participants).left →
        (desk.Known (undecided_of db (record { participants = after; stage = stage.Idle; moves = moves })) ≡ wanted.txn) × (map (sent db) letters ≡ wanted.letters) × (wanted.deeds ≡ desk.Answered (txn_name txn) writing.answer ∷ [])
    answered_is none =
        let out = writes_same db txn (λ j. option_map name_of (participant_in j participants).ticket) writing.unsent.items participants (λ j. refl) in
        let is = subst (λ x. SameBut participants x) (sym participants_are) out.same in
        let waits = sym (ap (map write_of) none ∙ out.left) in
        let turn = ap (λ l. desk.writing {L = language db} (txn_name txn) (undecided_of db (record { participants = participants; stage = stage.Writing writing; moves = moves })) writing.answer (desk.writes_out {L = language db} (txn_name txn) (λ j. option_map name_of (participant_in j participants).ticket) (map write_of writing.unsent.items) (λ j. (participant_in j participants).sent)).sent l (desk.writes_out {L = language db} (txn_name txn) (λ j. option_map name_of (participant_in j participants).ticket) (map write_of writing.unsent.items) (λ j. (participant_in j participants).sent)).letters) waits in (
          ap desk.Known (counts_are _ (stage.Writing writing) stage.Idle is (ap (λ x. λ (j : List ℕ). (participant_in j x).sent) participants_are ∙ out.counts) _ refl) ∙ ap (λ turn. turn.txn) (sym turn),
          ap (map (sent db)) letters_are ∙ out.letters ∙ ap (λ turn. turn.letters) (sym turn),
          ap (λ turn. turn.deeds) turn,
        )

-- ---- what waits for tickets goes out
-- the votes say nothing of what goes out
votes_apart : (db : Database) (t : Name) (choice : desk.Choice (language db)) (participants others : List Participant) (st : Stage) (v : desk.Undecided (language db)) → desk.ticket_goes {L = language db} t v choice (stage_of db participants st) ≡ desk.ticket_goes {L = language db} t v choice (stage_of db others st)
votes_apart db t choice participants others stage.Idle v = refl
votes_apart db t choice participants others (stage.Reading reading) v = refl
votes_apart db t choice participants others (stage.Writing writing) v = refl
votes_apart db t choice participants others stage.Voting v = refl

-- so it does where a ticket has come
pub ticket_turn : (db : Database) (txn : Txn) (choice : desk.Choice (language db)) (u : Undecided) (site : List ℕ) (ticket : Ticket) → list_any (is_at site) u.participants ≡ true → (participants : List Participant) → participants ≡ map (changed_at site (with_ticket (Some ticket))) u.participants →
    desk.ticket_goes {L = language db} (txn_name txn) (undecided_of db (staged participants u.stage u.moves)) choice (stage_of db participants u.stage) ≡ desk.ticket_goes {L = language db} (txn_name txn) (ticketed db u site ticket) choice (stage_of db u.participants u.stage)
ticket_turn db txn choice u site ticket there participants are =
    ap (λ v. desk.ticket_goes {L = language db} (txn_name txn) v choice (stage_of db participants u.stage)) (ap (λ x. undecided_of db (staged x u.stage u.moves)) are ∙ ticketed_is db u site ticket there)
    ∙ votes_apart db (txn_name txn) choice participants u.participants u.stage (ticketed db u site ticket)

module _ (db : Database) (txn : Txn) (choice : desk.Choice (language db)) (participants after : List Participant) (old new : Stage) (moves : Bool) (step : Progress) where
  -- the protocol's turn
  abbrev turn : Stage → desk.Transition (language db)
  turn st = desk.ticket_goes {L = language db} (txn_name txn) (undecided_of db (staged participants st moves)) choice (stage_of db participants st)

  is_step : (st next : Stage) → old ≡ st → new ≡ next → IsProgress db txn (staged after next moves) step (turn st) → IsProgress db txn (staged after new moves) step (turn old)
  is_step st next was is made = subst (λ x. IsProgress db txn (staged after x moves) step (turn old)) (sym is) (subst (λ x. IsProgress db txn (staged after next moves) step (turn x)) (sym was) made)

  pub goes_idle : (stage.Idle ≡ old) ⊎ (stage.Voting ≡ old) → new ≡ old → after ≡ participants → step.letters.items ≡ [] → step.replies.items ≡ [] → IsProgress db txn (staged after new moves) step (turn old)
  goes_idle (inl is) same now none quiet = is_step stage.Idle stage.Idle (sym is) (same ∙ sym is) (record { stands = ap (λ x. desk.Known (undecided_of db (staged x stage.Idle moves))) now; letters = ap (map (sent db)) none; reply = None; heard = quiet; replies = refl })
  goes_idle (inr is) same now none quiet = is_step stage.Voting stage.Voting (sym is) (same ∙ sym is) (record { stands = ap (λ x. desk.Known (undecided_of db (staged x stage.Voting moves))) now; letters = ap (map (sent db)) none; reply = None; heard = quiet; replies = refl })

  pub goes_reading : (reading rest : Reading) → old ≡ stage.Reading reading → new ≡ stage.Reading rest → rest.version ≡ reading.version → rest.statement ≡ reading.statement → rest.asks.items ≡ (asks_go txn reading.asks.items participants).left → after ≡ (asks_go txn reading.asks.items participants).participants →
      step.letters.items ≡ (asks_go txn reading.asks.items participants).letters → step.replies.items ≡ [] → IsProgress db txn (staged after new moves) step (turn old)
  goes_reading reading rest was is version statement left now letters quiet =
      let both = reading_is db txn moves participants after step.letters.items reading rest version statement left now letters in
      is_step (stage.Reading reading) (stage.Reading rest) was is (record { stands = both.0; letters = both.1; reply = None; heard = quiet; replies = refl })

  pub goes_wrote : (writing rest : Writing) → old ≡ stage.Writing writing → rest.unsent.items ≡ (writes_go txn writing.unsent.items participants).left → after ≡ (writes_go txn writing.unsent.items participants).participants → step.letters.items ≡ (writes_go txn writing.unsent.items participants).letters → rest.answer ≡ writing.answer →
      (rest.unsent.items ≡ [] → new ≡ stage.Idle) → ((first : Unsent) (others : List Unsent) → rest.unsent.items ≡ first ∷ others → new ≡ stage.Writing rest) → step.replies.items ≡ answer_of txn writing.answer rest.unsent.items → IsProgress db txn (staged after new moves) step (turn old)
  goes_wrote writing rest was left now letters same answered waits replies = go rest.unsent.items refl
    where
      go : (items : List Unsent) → rest.unsent.items ≡ items → IsProgress db txn (staged after new moves) step (turn old)
      go [] e =
          let all = answered_is db txn moves participants after step.letters.items writing now letters (sym e ∙ left) in
          is_step (stage.Writing writing) stage.Idle was (answered e) (record { stands = all.0; letters = all.1; reply = Some (reply.Answer writing.answer); heard = replies ∙ ap (answer_of txn writing.answer) e; replies = sym (ap (filter_map (told db)) all.2) })
      go (first ∷ others) e =
          let all = waiting_is db txn moves participants after step.letters.items writing now letters rest same first others e left in
          is_step (stage.Writing writing) (stage.Writing rest) was (waits first others e) (record { stands = all.0; letters = all.1; reply = None; heard = replies ∙ ap (answer_of txn writing.answer) e; replies = sym (ap (filter_map (told db)) all.2) })
