-- Which steps call the store.
use Rattle.std.proofs.Common.{◌≡◌, ◌<◌, ◌⊎◌, ⊎_elim, inl, inr, refl, sym, ap, ◌∙◌, subst, ℕ, nat_eq, Bool, true, false, not, List, [], ◌∷◌, ◌++◌, map, length, Option, Some, is_none, Result, Ok, Err, IfOk, OnErr, arith}
use Rattle.std.proofs.lemmas.List.{map-append}
use Rattle.std.specs.Cmp.Lexicographic.{pointwise}
use Rattle.std.specs.List.{list_all}
use Rattle.store.specs.declared.commit.Voter.{Voter}
use Rattle.store.specs.declared.name.Ticket.{Ticket}
use Rattle.store.specs.declared.reply.Reply.TheVariants as reply
use Rattle.store.specs.declared.reply.Vote.{Vote}
use Rattle.store.specs.declared.reply.Vote.TheVariants.{Yes, No, Read}
use Rattle.store.specs.DeskContent.{DeskContent, IsUnchanged}
use Rattle.protocol.specs.Desk as desk
use Rattle.protocol.specs.Language.{put}
use Rattle.protocol.specs.Letters.{is_no, name_of, vote_of}
use Rattle.protocol.proofs.Basics.{left_true, right_true}
use Rattle.desk.specs.declared.participant.Participant.{Participant}
use Rattle.desk.specs.declared.transaction.Committed.{Committed}
use Rattle.desk.specs.declared.transaction.Stage.{Stage}
use Rattle.desk.specs.declared.transaction.Stage.TheVariants as stage
use Rattle.desk.specs.declared.transaction.Undecided.{Undecided}
use Rattle.desk.specs.Commit.{counts_vote, is_first}
use Rattle.desk.specs.Called.{CallsStore, Decides, DecidesAt, DecidesWith, IsLastAck}
use Rattle.desk.specs.Database.{Database, language, replied}
use Rattle.desk.specs.Frame.{StepsStore}
use Rattle.desk.specs.Orders.{is_voting}
use Rattle.desk.specs.Participants.{changed_at, is_in, participant_in, with_vote}
use Rattle.desk.specs.Transaction.{stage_of, undecided_of, voter_of, votes_of}
use Rattle.desk.specs.Transition.{AreParticipants, voting}
use Rattle.desk.specs.Acknowledge.{are_acked, has_voter, is_new_ack, voter_with, voters_among, with_ack}
use Rattle.desk.proofs.Acknowledged.{acked_is, has_is, unchanged}
use Rattle.desk.proofs.Changed.{vote_counted, votes_put}
use Rattle.desk.proofs.Counted.{named_is, none_vote, ticket_there}
use Rattle.desk.proofs.Decisions.{all_in_is, voters_is}

-- ---- what the store is called for
no_voters : (voters : List Voter) → 0 < length voters → map voter_of voters ≡ [] → ⊥
no_voters [] some none = omega arith
no_voters (v ∷ voters) some none = cc

-- all votes are in, and there are voters, or a relation gets another split
pub decides_all : (db : Database) (moves : Bool) (participants : List Participant) → AreParticipants db participants → (voters : List Voter) → list_all is_in participants ≡ true → voters ≡ voters_among participants → (0 < length voters) ⊎ (moves ≡ true) → Decides {L = language db} (undecided_of db (voting moves participants)) (votes_of participants)
decides_all db moves participants are voters all same some = record {
  all_in = all_in_is db moves participants are ∙ all;
  keeps = ⊎_elim (λ few. inl (λ none. no_voters voters few (ap (map voter_of) same ∙ sym (voters_is db moves participants are) ∙ none))) inr some;
}

-- a vote decides
module _ (db : Database) (u : Undecided) (a : List ℕ) (k : Ticket) (vote : Vote) (counts : counts_vote u a k ≡ true) (other : is_no vote ≡ false) where
  abbrev v : desk.Undecided (language db)
  v = undecided_of db u

  abbrev participant : Participant
  participant = participant_in a u.participants

  abbrev now : List Participant
  now = map (changed_at a (with_vote (Some vote))) u.participants

  abbrev votes : List ℕ → Option Rattle.protocol.specs.Letter.Vote
  votes = put (pointwise nat_eq) a (Some (vote_of vote)) (votes_of u.participants)

  first : is_first k participant.ticket ≡ true
  first = left_true (is_first k participant.ticket) (is_none participant.vote) (right_true (is_voting u.stage) _ counts)

  none : is_none (votes_of u.participants a) ≡ true
  none = none_vote participant.vote ∙ right_true (is_first k participant.ticket) (is_none participant.vote) (right_true (is_voting u.stage) _ counts)

  -- so it does in the protocol
  counted : Decides {L = language db} (undecided_of db (voting u.moves now)) (votes_of now) → Decides {L = language db} v votes
  counted decides =
      let there = ticket_there a k u.participants first in
      let same = subst (λ x. Decides {L = language db} x (votes_of now)) (vote_counted db u.participants a there u.moves vote u.stage) decides in
      let put = subst (λ vs. desk.are_all_in {L = language db} v vs ≡ true) (votes_put db u.participants a there vote) same.all_in in
      record { all_in = put; keeps = ⊎_elim (λ some. inl (λ nobody. some (ap (λ vs. desk.voters_of {L = language db} v vs) (votes_put db u.participants a there vote) ∙ nobody))) inr same.keeps }

  by_vote : (w : Vote) → is_no w ≡ false → Decides {L = language db} v (put (pointwise nat_eq) a (Some (vote_of w)) (votes_of u.participants)) → DecidesWith {L = language db} v a (votes_of u.participants) (vote_of w)
  by_vote Yes e decides = (none, decides)
  by_vote No e decides = cc
  by_vote Read e decides = (none, decides)

  at_stage : (st : Stage) → is_voting st ≡ true → Decides {L = language db} v votes → DecidesAt {L = language db} v a (vote_of vote) (stage_of db u.participants st)
  at_stage stage.Idle e decides = cc
  at_stage (stage.Reading r) e decides = cc
  at_stage (stage.Writing w) e decides = cc
  at_stage stage.Voting e decides = by_vote vote other decides

  pub vote_calls : (given : List Participant) → given ≡ now → Decides {L = language db} (undecided_of db (voting u.moves given)) (votes_of given) → CallsStore {L = language db} a (replied db a (reply.Voted (record { ticket = k; vote = vote }))) (desk.Known v)
  vote_calls given same decides =
      (named_is k participant.ticket ∙ first, at_stage u.stage (left_true (is_voting u.stage) _ counts) (counted (subst (λ ss. Decides {L = language db} (undecided_of db (voting u.moves ss)) (votes_of ss)) same decides)))

not_so : (b : Bool) → not b ≡ true → b ≡ false
not_so true e = cc
not_so false e = refl

-- the last acknowledgement comes
pub ack_calls : (db : Database) (c : Committed) (site : List ℕ) (k : Ticket) (m : Committed) → m ≡ with_ack c site k → is_new_ack c.voters c.acked site k ≡ true → are_acked m.voters m.acked ≡ true → IsLastAck (language db) (map voter_of c.voters) (map voter_of c.acked) (site, name_of k)
ack_calls db c site k m same new all = record {
  voter = has_is db c.voters site k ∙ left_true (has_voter c.voters site k) _ new;
  first = has_is db c.acked site k ∙ not_so (has_voter c.acked site k) (right_true (has_voter c.voters site k) _ new);
  last =
      ap (desk.are_acked (language db) (map voter_of c.voters)) (sym (map-append voter_of c.acked (voter_with site k ∷ [])))
      ∙ acked_is db c.voters (c.acked ++ voter_with site k ∷ []) ∙ ap (λ x. are_acked x.voters x.acked) (sym same) ∙ all;
}

-- ---- steps
told_as : {T E : Type 0} (was : T → Bool) (one other : Type 0) → (one → other) → (r : Result T E) → IfOk r (λ out. was out ≡ false → one) → IfOk r (λ out. was out ≡ false → other)
told_as was one other more (Ok out) told = λ unkept. more (told unkept)
told_as was one other more (Err e) told = tt

never : {T E : Type 0} (was : T → Bool) (P : T → Type 0) (r : Result T E) → IfOk r (λ out. was out ≡ true) → IfOk r (λ out. was out ≡ false → P out)
never was P (Ok out) so = λ unkept. (let e : true ≡ false = sym so ∙ unkept in cc)
never was P (Err e) so = tt

still : {T E : Type 0} (kept : DeskContent) (r : Result T E) → OnErr r (IsUnchanged kept kept)
still kept (Ok out) = tt
still kept (Err e) = unchanged kept

module _ {S T E : Type 0} {is_clean is_sound : S → Type 0} {kept : S → DeskContent} {refused : S → ℕ} {may : Bool} {result : Result T E} {was : T → Bool} where
  -- what a step calls the store for, in other words
  pub steps_as : {old new : S} {one other : Type 0} → (one → other) → StepsStore is_clean is_sound kept refused old new may result was one → StepsStore is_clean is_sound kept refused old new may result was other
  steps_as {old} {new} {one} {other} more s = record { leaves = s.leaves; uncalled = s.uncalled; same = s.same; called = told_as was one other more result s.called; refusal = s.refusal }

  -- a step that doesn't call it
  pub no_call : (store : S) (calls : Type 0) → IfOk result (λ out. was out ≡ true) → StepsStore is_clean is_sound kept refused store store may result was calls
  no_call store calls so = record {
    leaves = record { clean = λ clean. clean; counts = omega arith; sound = λ clean sound. sound };
    uncalled = λ not_so. refl;
    same = λ clean sound. still (kept store) result;
    called = never was (λ out. calls) result so;
    refusal = never was _ result so;
  }

-- a step's result is that of the call
module _ {S T U E F : Type 0} {is_clean is_sound : S → Type 0} {kept : S → DeskContent} {refused : S → ℕ} {may : Bool} {old new : S} {was : T → Bool} {was_told : U → Bool} {one other : Type 0} where
  pub steps_made : (turn : T) (out : U) → was_told out ≡ was turn → (one → other) → StepsStore {E = E} is_clean is_sound kept refused old new may (Ok turn) was one → StepsStore {E = F} is_clean is_sound kept refused old new may (Ok out) was_told other
  steps_made turn out same more s = record {
    leaves = s.leaves;
    uncalled = s.uncalled;
    same = λ clean sound. tt;
    called = λ unkept. more (s.called (sym same ∙ unkept));
    refusal = λ unkept. s.refusal (sym same ∙ unkept);
  }

  pub steps_failed : (e : E) (f : F) → StepsStore is_clean is_sound kept refused old new may (Err e) was one → StepsStore is_clean is_sound kept refused old new may (Err f) was_told other
  steps_failed e f s = record { leaves = s.leaves; uncalled = s.uncalled; same = λ clean sound. s.same clean sound; called = tt; refusal = tt }
