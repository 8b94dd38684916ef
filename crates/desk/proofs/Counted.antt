-- Votes and tickets that come, as the protocol has them.
use Rattle.std.proofs.Common.{◌≡◌, ◌≢◌, refl, sym, ap, ◌∙◌, subst, ℕ, nat_eq, Bool, true, false, ◌&&◌, ◌||◌, List, [], ◌∷◌, map, find, Option, Some, None, is_none, if◌then◌else◌, Result, Ok, Err, IfOk}
use Rattle.std.specs.Cmp.Lexicographic.{pointwise}
use Rattle.std.specs.List.{list_any}
use Rattle.std.specs.Option.{option_map}
use Rattle.store.specs.declared.name.Ticket.{Ticket}
use Rattle.store.specs.declared.name.Txn.{Txn}
use Rattle.store.specs.declared.reply.Refusal.{Refusal}
use Rattle.store.specs.declared.reply.Reply.TheVariants as reply
use Rattle.store.specs.declared.reply.Vote.{Vote}
use Rattle.store.specs.declared.reply.Vote.TheVariants.{Yes, No, Read}
use Rattle.protocol.specs.Desk as desk
use Rattle.protocol.specs.Language.{Name, put, same}
use Rattle.protocol.specs.Letter as letter
use Rattle.protocol.specs.Letters.{is_no, name_of, txn_name, vote_of}
use Rattle.protocol.proofs.Basics.{if_true, if_false, left_true, right_true}
use Rattle.desk.specs.declared.participant.Participant.{Participant}
use Rattle.desk.specs.declared.transaction.TxnState.{TxnState}
use Rattle.desk.specs.declared.transition.Transition.{Transition}
use Rattle.desk.specs.declared.transaction.Stage.{Stage}
use Rattle.desk.specs.declared.transaction.Stage.TheVariants as stage
use Rattle.desk.specs.declared.transaction.Undecided.{Undecided}
use Rattle.desk.specs.Commit.{counts_vote, is_first}
use Rattle.desk.specs.Database.{Database, language, replied}
use Rattle.desk.specs.Orders.{is_voting}
use Rattle.desk.specs.Participants.{changed_at, is_at, nowhere, sites_of, participant_in, with_vote}
use Rattle.desk.specs.Transaction.{stage_of, undecided_of, votes_of}
use Rattle.desk.specs.Transition.{AreParticipants, AtSites, IsTransition, voting}
use Rattle.desk.proofs.Acknowledged.{ticket_same, turn_as}
use Rattle.desk.proofs.Changed.{are_still, changed_site, same_sites, vote_counted, votes_put}

-- ---- the participant that is found
pub participant_found : (a : List ℕ) (participants : List Participant) (s : Participant) → find (is_at a) participants ≡ Some s → participant_in a participants ≡ s
participant_found a [] s e = cc
participant_found a (x ∷ participants) s e = go (is_at a x) e (participant_found a participants s)
  where
    go : (b : Bool) → (if b then Some x else find (is_at a) participants) ≡ Some s → (find (is_at a) participants ≡ Some s → participant_in a participants ≡ s) → (if b then x else participant_in a participants) ≡ s
    go true e rest = cc
    go false e rest = rest e

pub participant_missing : (a : List ℕ) (participants : List Participant) → find (is_at a) participants ≡ None → participant_in a participants ≡ nowhere a
participant_missing a [] e = refl
participant_missing a (x ∷ participants) e = go (is_at a x) e (participant_missing a participants)
  where
    go : (b : Bool) → (if b then Some x else find (is_at a) participants) ≡ None → (find (is_at a) participants ≡ None → participant_in a participants ≡ nowhere a) → (if b then x else participant_in a participants) ≡ nowhere a
    go true e rest = cc
    go false e rest = rest e

-- who has given a ticket is there
pub ticket_there : (a : List ℕ) (k : Ticket) (participants : List Participant) → is_first k (participant_in a participants).ticket ≡ true → list_any (is_at a) participants ≡ true
ticket_there a k [] e = cc
ticket_there a k (x ∷ participants) e = go (is_at a x) e (ticket_there a k participants)
  where
    go : (b : Bool) → is_first k (if b then x else participant_in a participants).ticket ≡ true → (is_first k (participant_in a participants).ticket ≡ true → list_any (is_at a) participants ≡ true) → (b || list_any (is_at a) participants) ≡ true
    go true e rest = refl
    go false e rest = rest e

-- a site's first ticket
pub named_is : (k : Ticket) (o : Option Ticket) → desk.is_named (option_map name_of o) (name_of k) ≡ is_first k o
named_is k None = refl
named_is k (Some j) = ticket_same j k

pub none_vote : (o : Option Vote) → is_none (option_map vote_of o) ≡ is_none o
none_vote None = refl
none_vote (Some vote) = refl

-- ---- a vote
module _ (db : Database) (t : Name) (u : Undecided) (a : List ℕ) (k : Ticket) (vote : Vote) (choice : desk.Choice (language db)) where
  abbrev v : desk.Undecided (language db)
  v = undecided_of db u

  abbrev participant : Participant
  participant = participant_in a u.participants

  abbrev turned : Bool → desk.Transition (language db)
  turned kept = desk.on_known {L = language db} t v a kept choice (replied db a (reply.Voted (record { ticket = k; vote = vote })))

  abbrev after : Bool → Bool → Stage → desk.Transition (language db)
  after kept first st = if first then desk.on_vote {L = language db} t v a kept (vote_of vote) (stage_of db u.participants st) else desk.stays (desk.Known v)

  turned_is : (kept : Bool) → turned kept ≡ after kept (is_first k participant.ticket) u.stage
  turned_is kept = ap (λ b. after kept b u.stage) (named_is k participant.ticket)

  lost : (kept first : Bool) (st : Stage) → (is_voting st && (first && is_none participant.vote)) ≡ false → after kept first st ≡ desk.stays (desk.Known v)
  lost kept false st e = refl
  lost kept true stage.Idle e = refl
  lost kept true (stage.Reading r) e = refl
  lost kept true (stage.Writing w) e = refl
  lost kept true stage.Voting e = if_false (is_none (votes_of u.participants a)) _ _ (none_vote participant.vote ∙ e)

  counted : (kept first : Bool) (st : Stage) → (is_voting st && (first && is_none participant.vote)) ≡ true → after kept first st ≡ desk.counts {L = language db} t v a (votes_of u.participants) kept (vote_of vote)
  counted kept false st e = let f : false ≡ true = right_true (is_voting st) false e in cc
  counted kept true stage.Idle e = cc
  counted kept true (stage.Reading r) e = cc
  counted kept true (stage.Writing w) e = cc
  counted kept true stage.Voting e = if_true (is_none (votes_of u.participants a)) _ _ (none_vote participant.vote ∙ e)

  -- one that doesn't count
  pub vote_lost : (kept : Bool) → counts_vote u a k ≡ false → turned kept ≡ desk.stays (desk.Known v)
  vote_lost kept e = turned_is kept ∙ lost kept (is_first k participant.ticket) u.stage e

  module _ (e : counts_vote u a k ≡ true) where
    pub at_site : list_any (is_at a) u.participants ≡ true
    at_site = ticket_there a k u.participants (left_true (is_first k participant.ticket) _ (right_true (is_voting u.stage) _ e))

    abbrev now : List Participant
    now = map (changed_at a (with_vote (Some vote))) u.participants

    -- a NO aborts
    ends_no : (kept : Bool) (w : Vote) → is_no w ≡ true → desk.counts {L = language db} t v a (votes_of u.participants) kept (vote_of w) ≡ desk.ends_by t (record v { stage = desk.Voting (put (pointwise nat_eq) a (Some (vote_of w)) (votes_of u.participants)) }) (desk.Aborted t desk.By_vote)
    ends_no kept Yes e = cc
    ends_no kept No e = refl
    ends_no kept Read e = cc

    goes_on : (kept : Bool) (w : Vote) → is_no w ≡ false → desk.counts {L = language db} t v a (votes_of u.participants) kept (vote_of w) ≡ desk.votes_go t v (put (pointwise nat_eq) a (Some (vote_of w)) (votes_of u.participants)) kept
    goes_on kept Yes e = refl
    goes_on kept No e = cc
    goes_on kept Read e = refl

    pub vote_no : (kept : Bool) → is_no vote ≡ true → turned kept ≡ desk.ends_by t (undecided_of db (voting u.moves now)) (desk.Aborted t desk.By_vote)
    vote_no kept against = turned_is kept ∙ counted kept (is_first k participant.ticket) u.stage e ∙ ends_no kept vote against ∙ ap (λ x. desk.ends_by t x (desk.Aborted t desk.By_vote)) (sym (vote_counted db u.participants a at_site u.moves vote u.stage))

    pub vote_goes : (kept : Bool) → is_no vote ≡ false → turned kept ≡ desk.votes_go t (undecided_of db (voting u.moves now)) (votes_of now) kept
    vote_goes kept other =
        turned_is kept ∙ counted kept (is_first k participant.ticket) u.stage e ∙ goes_on kept vote other
        ∙ ap (λ x. desk.votes_go t x (put (pointwise nat_eq) a (Some (vote_of vote)) (votes_of u.participants)) kept) (sym (vote_counted db u.participants a at_site u.moves vote u.stage))
        ∙ ap (λ vs. desk.votes_go t (undecided_of db (voting u.moves now)) vs kept) (sym (votes_put db u.participants a at_site vote))

-- a step is one that is the same, whatever was kept
pub turns_as : (db : Database) (txn : Txn) (old : Option TxnState) (one other : Transition → desk.Transition (language db)) → ((turn : Transition) → one turn ≡ other turn) → {E : Type 0} (result : Result Transition E) →
    IfOk result (λ turn. IsTransition db txn old turn (other turn)) → IfOk result (λ turn. IsTransition db txn old turn (one turn))
turns_as db txn old one other same (Ok turn) is = turn_as db txn old turn (one turn) (other turn) (same turn) is
turns_as db txn old one other same (Err e) is = tt

-- the participants with a vote are the sites still
pub voted_are : (db : Database) (participants : List Participant) (a : List ℕ) (vote : Vote) → AreParticipants db participants → (given : List Participant) → given ≡ map (changed_at a (with_vote (Some vote))) participants → AreParticipants db given
voted_are db participants a vote are given same = subst (AreParticipants db) (sym same) (are_still db (changed_at a (with_vote (Some vote))) (changed_site (with_vote (Some vote)) (λ s. refl) a) participants are)

-- the steps of a vote that counts; given are the participants with it
module _ (db : Database) (txn : Txn) (u : Undecided) (a : List ℕ) (k : Ticket) (vote : Vote) (choice : desk.Choice (language db)) (are : AreParticipants db u.participants) (e : counts_vote u a k ≡ true)
    (given : List Participant) (same : given ≡ map (changed_at a (with_vote (Some vote))) u.participants) (old : Option TxnState) where
  abbrev wanted : Transition → desk.Transition (language db)
  wanted turn = desk.on_known {L = language db} (txn_name txn) (undecided_of db u) a turn.kept choice (replied db a (reply.Voted (record { ticket = k; vote = vote })))

  pub no_turn : {E : Type 0} (result : Result Transition E) → is_no vote ≡ true →
      IfOk result (λ turn. IsTransition db txn old turn (desk.ends_by (txn_name txn) (undecided_of db (voting u.moves given)) (desk.Aborted (txn_name txn) desk.By_vote))) → IfOk result (λ turn. IsTransition db txn old turn (wanted turn))
  no_turn result against is =
      turns_as db txn old wanted (λ turn. desk.ends_by (txn_name txn) (undecided_of db (voting u.moves given)) (desk.Aborted (txn_name txn) desk.By_vote))
      (λ turn. vote_no db (txn_name txn) u a k vote choice e turn.kept against ∙ ap (λ ss. desk.ends_by (txn_name txn) (undecided_of db (voting u.moves ss)) (desk.Aborted (txn_name txn) desk.By_vote)) (sym same))
      result is

  pub vote_turn : {E : Type 0} (result : Result Transition E) → is_no vote ≡ false →
      IfOk result (λ turn. IsTransition db txn old turn (desk.votes_go (txn_name txn) (undecided_of db (voting u.moves given)) (votes_of given) turn.kept)) → IfOk result (λ turn. IsTransition db txn old turn (wanted turn))
  vote_turn result other is =
      turns_as db txn old wanted (λ turn. desk.votes_go (txn_name txn) (undecided_of db (voting u.moves given)) (votes_of given) turn.kept)
      (λ turn. vote_goes db (txn_name txn) u a k vote choice e turn.kept other ∙ ap (λ ss. desk.votes_go (txn_name txn) (undecided_of db (voting u.moves ss)) (votes_of ss) turn.kept) (sym same))
      result is

-- ---- a refusal
module _ (db : Database) (t : Name) (u : Undecided) (a : List ℕ) (refusal : Refusal) (choice : desk.Choice (language db)) where
  abbrev refusing : Bool → desk.Transition (language db)
  refusing kept = desk.on_known {L = language db} t (undecided_of db u) a kept choice (replied db a (reply.Refused refusal))

  abbrev refusing_if : Bool → desk.Transition (language db)
  refusing_if b = if b then desk.on_refused {L = language db} t (undecided_of db u) (stage_of db u.participants u.stage) else desk.stays (desk.Known (undecided_of db u))

  -- under another ticket than the first
  pub refusal_lost : (kept : Bool) → is_first refusal.ticket (participant_in a u.participants).ticket ≡ false → refusing kept ≡ desk.stays (desk.Known (undecided_of db u))
  refusal_lost kept e = ap refusing_if (named_is refusal.ticket (participant_in a u.participants).ticket ∙ e)

  -- under the first
  pub refusal_counts : (kept : Bool) → is_first refusal.ticket (participant_in a u.participants).ticket ≡ true → refusing kept ≡ desk.on_refused {L = language db} t (undecided_of db u) (stage_of db u.participants u.stage)
  refusal_counts kept e = ap refusing_if (named_is refusal.ticket (participant_in a u.participants).ticket ∙ e)

-- ---- the sites stay
pub voted_sites : (a : List ℕ) (vote : Vote) (participants given : List Participant) → given ≡ map (changed_at a (with_vote (Some vote))) participants → sites_of given ≡ sites_of participants
voted_sites a vote participants given same = ap sites_of same ∙ same_sites (changed_at a (with_vote (Some vote))) (changed_site (with_vote (Some vote)) (λ s. refl) a) participants

-- a step is at the same sites
pub at_same : {E : Type 0} (result : Result Transition E) (one other : List (List ℕ)) → one ≡ other → IfOk result (λ turn. AtSites one turn.after) → IfOk result (λ turn. AtSites other turn.after)
at_same result one other same is = subst (λ sites. IfOk result (λ turn. AtSites sites turn.after)) same is

-- ---- a further ticket
module _ (db : Database) (t : Name) (u : Undecided) (a : List ℕ) (k : Ticket) (choice : desk.Choice (language db)) where
  abbrev given : Option Ticket → desk.Transition (language db)
  given first = desk.on_ticket {L = language db} t (undecided_of db u) a (name_of k) choice (option_map name_of first)

  -- it is the first one again
  pub same_ticket : (first : Option Ticket) → is_first k first ≡ true → given first ≡ desk.stays (desk.Known (undecided_of db u))
  same_ticket None e = cc
  same_ticket (Some j) e = if_true (same (name_of j) (name_of k)) _ _ (ticket_same j k ∙ e)

  -- it is another
  pub other_ticket : (first : Option Ticket) → first ≢ None → is_first k first ≡ false → given first ≡ record { txn = desk.Known (undecided_of db u); letters = record { site = a; txn = t; body = letter.Abort (name_of k) } ∷ []; deeds = [] }
  other_ticket None some e = absurd (some refl)
  other_ticket (Some j) some e = if_false (same (name_of j) (name_of k)) _ _ (ticket_same j k ∙ e)

pub some_first : (first : Option Ticket) → is_none first ≡ false → first ≢ None
some_first None e = cc
some_first (Some k) e = λ none. (let f : Some k ≡ None = none in cc)

-- the participants with a vote, through the code's copies
pub copied_vote : (a : List ℕ) (vote : Vote) (given copies slice participants : List Participant) → given ≡ copies → copies ≡ map (changed_at a (with_vote (Some vote))) slice → slice ≡ participants → given ≡ map (changed_at a (with_vote (Some vote))) participants
copied_vote a vote given copies slice participants one two three = one ∙ two ∙ ap (map (changed_at a (with_vote (Some vote)))) three
