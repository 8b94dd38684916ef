-- A transaction ends without a commit: who hears Abort.
use Rattle.std.proofs.Common.{◌≡◌, refl, sym, ap, ◌∙◌, ℕ, Bool, true, false, ◌&&◌, List, map, Option, Some, None, if◌then◌else◌}
use Rattle.std.specs.Option.{option_map}
use Rattle.store.specs.declared.name.Ticket.{Ticket}
use Rattle.store.specs.declared.name.Txn.{Txn}
use Rattle.store.specs.declared.reply.Vote.{Vote}
use Rattle.store.specs.declared.reply.Vote.TheVariants.{Yes, No, Read}
use Rattle.protocol.specs.Letter as protocol
use Rattle.protocol.specs.Letters.{name_of, txn_name, vote_of}
use Rattle.protocol.specs.Desk.{Deed, ends_by, when, to_abort, to_prepare, vote_at}
use Rattle.protocol.specs.Desk as desk
use Rattle.desk.specs.declared.send.Broadcast.{Broadcast}
use Rattle.desk.specs.declared.send.Broadcast.TheVariants as word
use Rattle.desk.specs.declared.participant.Participant.{Participant}
use Rattle.desk.specs.declared.transaction.Stage.{Stage}
use Rattle.desk.specs.declared.transaction.Stage.TheVariants as stage
use Rattle.desk.specs.declared.transaction.Undecided.{Undecided}
use Rattle.desk.specs.Database.{Database, language, sent}
use Rattle.desk.specs.Orders.{abort_broadcast, broadcast_letters, may_hold, order_at, order_of}
use Rattle.desk.specs.Participants.{participant_in}
use Rattle.desk.specs.Transaction.{stage_of, undecided_of}
use Rattle.desk.specs.Transition.{AreParticipants}
use Rattle.desk.proofs.Participants.{at_home, letters_all, said}

-- who may hold locks
hold_is : (vote : Option Vote) → desk.may_hold (option_map vote_of vote) ≡ may_hold vote
hold_is None = refl
hold_is (Some Yes) = refl
hold_is (Some No) = refl
hold_is (Some Read) = refl

module _ (db : Database) where
  -- an Abort to the ticket of a site
  abort_is : (w : Broadcast) (site : List ℕ) → ((n : ℕ) (k : Ticket) → said db site (order_of w n k) ≡ protocol.Abort (name_of k)) → (b : Bool) (n : ℕ) (ticket : Option Ticket) →
      when {L = language db} b (to_abort (option_map name_of ticket)) ≡ option_map (said db site) (if b then option_map (order_of w n) ticket else None)
  abort_is w site is false n ticket = refl
  abort_is w site is true n None = refl
  abort_is w site is true n (Some k) = ap Some (sym (is n k))

  and_true : (b : Bool) → (b && true) ≡ b
  and_true true = refl
  and_true false = refl

  abbrev hears : Stage → List Participant → Participant → Option (protocol.Body (language db))
  hears st participants participant = when {L = language db} (participant.visited && desk.may_hold (vote_at (stage_of db participants st) participant.site)) (to_abort (option_map name_of participant.ticket))

  early : (participant : Participant) → when {L = language db} (participant.visited && true) (to_abort (option_map name_of participant.ticket)) ≡ option_map (said db participant.site) (order_at word.Abort participant)
  early participant = ap (λ b. when {L = language db} b (to_abort (option_map name_of participant.ticket))) (and_true participant.visited) ∙ abort_is word.Abort participant.site (λ n k. refl) participant.visited participant.sent participant.ticket

  hears_is : (st : Stage) (participants : List Participant) (participant : Participant) → participant_in participant.site participants ≡ participant → hears st participants participant ≡ option_map (said db participant.site) (order_at (abort_broadcast st) participant)
  hears_is stage.Idle participants participant at = early participant
  hears_is (stage.Reading r) participants participant at = early participant
  hears_is (stage.Writing w) participants participant at = early participant
  hears_is stage.Voting participants participant at =
      ap (λ b. when {L = language db} (participant.visited && b) (to_abort (option_map name_of participant.ticket))) (ap (λ x. desk.may_hold (option_map vote_of x.vote)) at ∙ hold_is participant.vote)
      ∙ abort_is word.AbortVoting participant.site (λ n k. refl) (participant.visited && may_hold participant.vote) participant.sent participant.ticket

  pub ends_letters : (txn : Txn) (u : Undecided) (deed : Deed (language db)) → AreParticipants db u.participants → map (sent db) (broadcast_letters txn (abort_broadcast u.stage) u.participants) ≡ (ends_by (txn_name txn) (undecided_of db u) deed).letters
  ends_letters txn u deed are =
      let v = undecided_of db u in
      let says : List ℕ → Option (protocol.Body (language db)) = λ a. when {L = language db} (v.visited a && desk.may_hold (vote_at v.stage a)) (to_abort (v.ticket a)) in
      letters_all db txn (abort_broadcast u.stage) says u.participants
      (λ participant at. let here = at_home u.participants are.distinct participant at in
      ap (λ x. when {L = language db} (x.visited && desk.may_hold (vote_at v.stage participant.site)) (to_abort (option_map name_of x.ticket))) here ∙ hears_is u.stage u.participants participant here)
      ∙ ap (λ sites. protocol.letters_to {L = language db} (txn_name txn) says sites) are.sites

  -- ---- the first phase
  prepare_is : (u : desk.Undecided (language db)) (participant : Participant) → u.sent participant.site ≡ participant.sent → when {L = language db} participant.visited (to_prepare u participant.site (option_map name_of participant.ticket)) ≡ option_map (said db participant.site) (order_at word.Prepare participant)
  prepare_is u participant sent = go participant.visited participant.ticket
    where
      go : (b : Bool) (ticket : Option Ticket) → when {L = language db} b (to_prepare u participant.site (option_map name_of ticket)) ≡ option_map (said db participant.site) (if b then option_map (order_of word.Prepare participant.sent) ticket else None)
      go false ticket = refl
      go true None = refl
      go true (Some k) = ap (λ n. Some (protocol.Prepare (name_of k) n)) sent

  pub prepare_letters : (txn : Txn) (u : Undecided) → AreParticipants db u.participants →
      map (sent db) (broadcast_letters txn word.Prepare u.participants) ≡ protocol.letters_to {L = language db} (txn_name txn) (λ a. when {L = language db} ((undecided_of db u).visited a) (to_prepare (undecided_of db u) a ((undecided_of db u).ticket a))) db.sites
  prepare_letters txn u are =
      let v = undecided_of db u in
      let says : List ℕ → Option (protocol.Body (language db)) = λ a. when {L = language db} (v.visited a) (to_prepare v a (v.ticket a)) in
      letters_all db txn word.Prepare says u.participants
      (λ participant at. let here = at_home u.participants are.distinct participant at in
      ap (λ x. when {L = language db} x.visited (to_prepare v participant.site (option_map name_of x.ticket))) here ∙ prepare_is v participant (ap (λ x. x.sent) here))
      ∙ ap (λ sites. protocol.letters_to {L = language db} (txn_name txn) says sites) are.sites
