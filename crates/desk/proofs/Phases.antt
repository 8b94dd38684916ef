-- The first phase begins.
use Rattle.std.proofs.Common.{◌≡◌, refl, sym, ap, ◌∙◌, subst, ℕ, Bool, true, false, ◌&&◌, List, [], ◌∷◌, map, Option, Some, None, if◌then◌else◌, Vec, Global}
use Rattle.std.specs.List.{cons_option, list_all}
use Rattle.std.specs.Option.{option_map}
use Rattle.store.specs.declared.letter.Letter.{Letter}
use Rattle.store.specs.declared.name.Txn.{Txn}
use Rattle.protocol.specs.Desk as desk
use Rattle.protocol.specs.Language.{Name}
use Rattle.protocol.specs.Letter as protocol
use Rattle.protocol.specs.Letters.{txn_name}
use Rattle.desk.specs.declared.send.Broadcast.TheVariants as word
use Rattle.desk.specs.declared.participant.Participant.{Participant}
use Rattle.desk.specs.declared.transaction.TxnState.{TxnState}
use Rattle.desk.specs.declared.transaction.TxnState.TheVariants as standing
use Rattle.desk.specs.declared.transition.After.TheVariants as after
use Rattle.desk.specs.declared.transition.Transition.{Transition}
use Rattle.desk.specs.declared.transaction.Stage.{Stage}
use Rattle.desk.specs.declared.transaction.Stage.TheVariants as stage
use Rattle.desk.specs.declared.transaction.Undecided.{Undecided}
use Rattle.desk.specs.Commit.{is_idle}
use Rattle.desk.specs.Database.{Database, language, sent}
use Rattle.desk.specs.Orders.{broadcast_letters, order_at, ordered}
use Rattle.desk.specs.Participants.{is_in, with_vote}
use Rattle.desk.specs.Transaction.{stage_of, undecided_of, votes_of}
use Rattle.desk.specs.Transition.{AreParticipants, IsTransition, commits_now, voting}
use Rattle.desk.specs.Acknowledge.{voter_with, voters_among}
use Rattle.desk.proofs.Acknowledged.{turn_as}
use Rattle.desk.proofs.Changed.{are_still, participant_mapped, votes_gone}
use Rattle.desk.proofs.Decisions.{votes_decide, votes_wait}
use Rattle.desk.proofs.Endings.{prepare_letters}

-- ---- nobody has voted
abbrev pub unvoted : List Participant → List Participant
unvoted participants = map (with_vote None) participants

no_voters : (participants : List Participant) → voters_among (unvoted participants) ≡ []
no_voters [] = refl
no_voters (s ∷ participants) = ap (λ o. cons_option o (voters_among (unvoted participants))) (none s.visited) ∙ no_voters participants
  where
    none : (b : Bool) → (if b && false then option_map (voter_with s.site) s.ticket else None) ≡ None
    none true = refl
    none false = refl

-- so where each visited site has, none is visited, and none is asked
no_letters : (txn : Txn) (participants : List Participant) → list_all is_in (unvoted participants) ≡ true → broadcast_letters txn word.Prepare participants ≡ []
no_letters txn [] all = refl
no_letters txn (s ∷ participants) all = go s.visited all (no_letters txn participants)
  where
    go : (b : Bool) → (is_in (record s { visited = b; vote = None }) && list_all is_in (unvoted participants)) ≡ true → (list_all is_in (unvoted participants) ≡ true → broadcast_letters txn word.Prepare participants ≡ []) →
        cons_option (option_map (ordered txn s.site) (order_at word.Prepare (record s { visited = b }))) (broadcast_letters txn word.Prepare participants) ≡ []
    go true all rest = cc
    go false all rest = rest all

-- ---- a commit that is asked for
module _ (db : Database) (txn : Txn) (u : Undecided) (are : AreParticipants db u.participants) where
  abbrev t : Name
  t = txn_name txn

  abbrev v : desk.Undecided (language db)
  v = undecided_of db u

  abbrev now : List Participant
  now = unvoted u.participants

  abbrev here : Option TxnState
  here = Some (standing.Undecided u)

  abbrev called : desk.Transition (language db)
  called = desk.on_commit_call {L = language db} t v (stage_of db u.participants u.stage)

  late : (st : Stage) → is_idle st ≡ false → desk.on_commit_call {L = language db} t v (stage_of db u.participants st) ≡ desk.stays (desk.Known v)
  late stage.Idle e = cc
  late (stage.Reading r) e = refl
  late (stage.Writing w) e = refl
  late stage.Voting e = refl

  -- a statement is open, or the first phase has begun
  pub commit_refused : (turn : Transition) → is_idle u.stage ≡ false → IsTransition db txn here turn (desk.stays (desk.Known v)) → IsTransition db txn here turn called
  commit_refused turn e is = turn_as db txn here turn _ _ (late u.stage e) is

  begins : (st : Stage) → is_idle st ≡ true → desk.on_commit_call {L = language db} t v (stage_of db u.participants st) ≡ desk.phases t v
  begins stage.Idle e = refl
  begins (stage.Reading r) e = cc
  begins (stage.Writing w) e = cc
  begins stage.Voting e = cc

  now_are : AreParticipants db now
  now_are = are_still db (with_vote None) (λ s. refl) u.participants are

  none_there : (λ (site : List ℕ). None) ≡ votes_of now
  none_there = λ i j. (sym (ap (λ s. option_map Rattle.protocol.specs.Letters.vote_of s.vote) (participant_mapped (with_vote None) (λ s. refl) (λ site. refl) j u.participants))) i

  abbrev phase : desk.Transition (language db) → desk.Transition (language db)
  phase turn = record turn { letters = protocol.letters_to {L = language db} t (λ a. desk.when {L = language db} (v.visited a) (desk.to_prepare v a (v.ticket a))) db.sites; deeds = desk.Phased t ∷ turn.deeds }

  goes : desk.phases t v ≡ phase (desk.votes_go {L = language db} t (undecided_of db (voting u.moves now)) (votes_of now) true)
  goes =
      ap (λ x. phase (desk.votes_go {L = language db} t x (λ a. None) true)) (sym (votes_gone db u.moves u.participants u.stage))
      ∙ ap (λ vs. phase (desk.votes_go {L = language db} t (undecided_of db (voting u.moves now)) vs true)) none_there

  -- no site was visited
  pub commit_alone : (turn : Transition) (given : List Participant) → given ≡ now → is_idle u.stage ≡ true → list_all is_in given ≡ true → IsTransition db txn here turn (commits_now db t) → IsTransition db txn here turn called
  commit_alone turn given same idle all is =
      let every : list_all is_in now ≡ true = subst (λ ss. list_all is_in ss ≡ true) same all in
      turn_as db txn here turn called (phase (commits_now db t))
      (begins u.stage idle ∙ goes ∙ ap phase (votes_decide db u.moves now now_are t true [] every (sym (no_voters u.participants))))
      (record {
        stands = is.stands;
        letters = is.letters ∙ sym (ap (map (sent db)) (no_letters txn u.participants every)) ∙ prepare_letters db txn u are;
        replies = is.replies;
      })

  -- each visited one is asked
  pub commit_asks : (letters : Vec Letter Global) (given : List Participant) (asked : Undecided) → given ≡ now → asked ≡ voting u.moves given → is_idle u.stage ≡ true → list_all is_in given ≡ false → letters.items ≡ broadcast_letters txn word.Prepare u.participants →
      IsTransition db txn here (record { after = after.Becomes (standing.Undecided asked); letters = letters; reply = None; kept = true }) called
  commit_asks letters given asked same is idle some put =
      let not_all : list_all is_in now ≡ false = subst (λ ss. list_all is_in ss ≡ false) same some in
      turn_as db txn here _ called (phase (desk.stays (desk.Known (undecided_of db (voting u.moves now)))))
      (begins u.stage idle ∙ goes ∙ ap phase (votes_wait db u.moves now now_are t true not_all))
      (record {
        stands = ap (λ x. desk.Known (undecided_of db x)) (is ∙ ap (voting u.moves) same);
        letters = ap (map (sent db)) put ∙ prepare_letters db txn u are;
        replies = refl;
      })
