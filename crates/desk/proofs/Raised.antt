-- Which step brings the next catalogue into force: the one by which a transaction that gives a relation another split is committed.
use Rattle.std.proofs.Common.{◌≡◌, refl, sym, ap, ◌∙◌, ℕ, ◌+◌, ◌^◌, ◌<◌, Bool, true, false, not, ◌&&◌, ◌||◌, List, [], ◌∷◌, Option, Some, None, ⊎_elim, Result, Ok, Err, IfOk, OnOk}
use Rattle.std.specs.List.{filter_map, list_any}
use Rattle.store.specs.declared.name.Txn.{Txn}
use Rattle.protocol.specs.Desk as desk
use Rattle.protocol.specs.Language.{Lang, Name, same}
use Rattle.protocol.specs.Letter.{Vote, Letter}
use Rattle.protocol.specs.Letters.{txn_name}
use Rattle.protocol.proofs.Basics.{by_test, clash, either, left_true, right_true, same_refl}
use Rattle.protocol.proofs.DeskTable as table
use Rattle.protocol.proofs.Saying.{states_live, turn_speaks}
use Rattle.protocol.proofs.Versions.{moving_is as who_moves}
use Rattle.desk.specs.declared.reply.Reply.{Reply}
use Rattle.desk.specs.declared.reply.Reply.TheVariants as reply
use Rattle.desk.specs.declared.transaction.TxnState.{TxnState}
use Rattle.desk.specs.declared.transaction.TxnState.TheVariants as standing
use Rattle.desk.specs.declared.transition.Transition.{Transition}
use Rattle.desk.specs.Database.{Database, language}
use Rattle.desk.specs.State.{is_open}
use Rattle.desk.specs.Transaction.{txn_of}
use Rattle.desk.specs.Transition.{IsTransition, is_moving, raises, says_committed, told, told_to}

-- nobody moves by a turn that didn't move before, and who is committed is no longer undecided
pub record TurnKeeps (L : Lang) (t : Name) (x : desk.Txn L) (turn : desk.Transition L) : Type 0 where
  pub moves : desk.is_moving turn.txn ≡ true → desk.is_moving x ≡ true
  pub ends : desk.is_committed turn.deeds t ≡ true → desk.is_undecided turn.txn ≡ false

module _ {L : Lang} where
  abbrev Ends : Name → desk.Transition L → Type 0
  Ends t turn = desk.is_committed turn.deeds t ≡ true → desk.is_undecided turn.txn ≡ false

  -- writes that go out commit nobody
  writing_mute : (t : Name) (u : desk.Undecided L) (answer : L.Answer) (sent : L.Site → ℕ) (left : List (L.Leaf × L.Write)) (letters : List (Letter L)) → desk.is_committed (desk.writing t u answer sent left letters).deeds t ≡ false
  writing_mute t u answer sent [] letters = refl
  writing_mute t u answer sent (x ∷ left) letters = refl

  writes_mute : (t : Name) (u : desk.Undecided L) (answer : L.Answer) (ws : List (L.Leaf × L.Write)) → desk.is_committed (desk.writes_go t u answer ws).deeds t ≡ false
  writes_mute t u answer ws = let out = desk.writes_out {L = L} t u.ticket ws u.sent in writing_mute t u answer out.sent out.left out.letters

  decides_end : (t : Name) (u : desk.Undecided L) (kept : Bool) (voters : List (L.Site × Name)) → Ends t (desk.decides t u kept voters)
  decides_end t u kept [] = either (Ends t) (kept || not u.moves) _ _ (λ e. refl) (λ e. refl)
  decides_end t u kept (v ∷ vs) = either (Ends t) kept _ _ (λ e. refl) (λ e. refl)

  votes_end : (t : Name) (u : desk.Undecided L) (votes : L.Site → Option Vote) (kept : Bool) → Ends t (desk.votes_go t u votes kept)
  votes_end t u votes kept = either (Ends t) (desk.are_all_in u votes) _ _ (decides_end t (record u { stage = desk.Voting votes }) kept (desk.voters_of u votes)) (λ e. cc)

  turn_ends : (t : Name) (choice : desk.Choice L) (c : table.Cause L) (x : desk.Txn L) (turn : desk.Transition L) → table.Turned t choice c x turn → Ends t turn
  turn_ends t choice c x turn (table.rests d y) = λ e. cc
  turn_ends t choice c x turn (table.accepts u s idle) = λ e. clash e ((states_live t u s _ choice).mute.commits t)
  turn_ends t choice c x turn (table.begins_phase u idle) = votes_end t u (λ a. None) true
  turn_ends t choice c x turn (table.rolls_back u calm) = λ e. refl
  turn_ends t choice c x turn (table.is_given_up u) = λ e. refl
  turn_ends t choice c x turn (table.takes_ticket u a kept k free) = λ e. cc
  turn_ends t choice c x turn (table.fetches u a kept k s asks free stage) = λ e. cc
  turn_ends t choice c x turn (table.writes u a kept k answer ws free stage) = λ e. clash e (writes_mute t (table.ticketed u a k) answer ws)
  turn_ends t choice c x turn (table.turns_away u a kept k j own other) = λ e. cc
  turn_ends t choice c x turn (table.takes_rows u a kept k n rows s asks own stage) = λ e. cc
  turn_ends t choice c x turn (table.evaluates u a kept k n rows s asks own stage all) = λ e. clash e (writes_mute t (desk.visits u _) choice.0 choice.1)
  turn_ends t choice c x turn (table.is_refused u a kept k reason own calm) = λ e. refl
  turn_ends t choice c x turn (table.counts_no u a kept k votes own stage) = λ e. refl
  turn_ends t choice c x turn (table.counts_vote u a kept k v votes own stage not_no) = votes_end t u _ kept
  turn_ends t choice c x turn (table.presumes_abort a kept k) = λ e. cc
  turn_ends t choice c x turn (table.tells_abort a kept k) = λ e. cc
  turn_ends t choice c x turn (table.tells_commit voters acked a kept k) = λ e. cc
  turn_ends t choice c x turn (table.counts_ack voters acked a kept k) = λ e. cc
  turn_ends t choice c x turn (table.lets_row_go voters acked a kept k all) = λ e. cc

  keeps_so : (t : Name) (choice : desk.Choice L) (c : table.Cause L) (x : desk.Txn L) (turn : desk.Transition L) → table.Turned t choice c x turn → TurnKeeps L t x turn
  keeps_so t choice c x turn turned = record {
    moves = λ moves.
        let v = who_moves turn.txn moves in
        let u = (turn_speaks t choice c x turn turned).moves v.0 v.1 in
        ap desk.is_moving u.1 ∙ sym u.2 ∙ v.2;
    ends = turn_ends t choice c x turn turned;
  }

  -- what clients ask for
  pub request_keeps : (t : Name) (choice : desk.Choice L) (request : desk.Request L) (x : desk.Txn L) → TurnKeeps L t x (desk.on_request t choice request x)
  request_keeps t choice request x = keeps_so t choice _ x _ (table.request_turned t choice request x)

  -- what sites say
  pub letter_keeps : (t : Name) (choice : desk.Choice L) (a : L.Site) (kept : Bool) (b : Rattle.protocol.specs.Letter.Body L) (x : desk.Txn L) → TurnKeeps L t x (desk.on_desk_letter t a kept choice b x)
  letter_keeps t choice a kept b x = keeps_so t choice _ x _ (table.letter_turned t choice a kept b x)

-- ---- as clients hear it
pub moving_is : (db : Database) (o : Option TxnState) → desk.is_moving (txn_of db o) ≡ is_moving o
moving_is db None = refl
moving_is db (Some (standing.Undecided u)) = refl
moving_is db (Some (standing.Committed c)) = refl

pub moving_open : (o : Option TxnState) → is_moving o ≡ true → is_open o ≡ true
moving_open None e = cc
moving_open (Some (standing.Undecided u)) e = refl
moving_open (Some (standing.Committed c)) e = cc

abbrev says_so : Name → Name × Reply → Bool
says_so t heard = says_committed (Some heard.1) && same heard.0 t

committed_told : (db : Database) (t : Name) (deeds : List (desk.Deed (language db))) → desk.is_committed deeds t ≡ list_any (says_so t) (filter_map (told db) deeds)
committed_told db t [] = refl
committed_told db t (desk.Began u ∷ deeds) = committed_told db t deeds
committed_told db t (desk.Stated u s ∷ deeds) = committed_told db t deeds
committed_told db t (desk.Worked u s asks choice ∷ deeds) = committed_told db t deeds
committed_told db t (desk.Answered u answer ∷ deeds) = committed_told db t deeds
committed_told db t (desk.Phased u ∷ deeds) = committed_told db t deeds
committed_told db t (desk.Committed u ∷ deeds) = ap (λ b. same u t || b) (committed_told db t deeds)
committed_told db t (desk.Aborted u why ∷ deeds) = committed_told db t deeds
committed_told db t (desk.Rolled_back u ∷ deeds) = committed_told db t deeds

heard_is : (t : Name) (heard : Option Reply) → list_any (says_so t) (told_to t heard) ≡ says_committed heard
heard_is t None = refl
heard_is t (Some reply.Begun) = refl
heard_is t (Some (reply.Answer answer)) = refl
heard_is t (Some reply.Committed) = ap (λ b. b || false) (same_refl t)
heard_is t (Some reply.RolledBack) = refl
heard_is t (Some (reply.Aborted why)) = refl

-- whether the next catalogue comes into force by a step
pub raised_is : (db : Database) (k : Txn) (old : Option TxnState) (turn : Transition) (wanted : desk.Transition (language db)) → IsTransition db k old turn wanted → raises old turn.reply ≡ (desk.is_moving (txn_of db old) && desk.is_committed wanted.deeds (txn_name k))
raised_is db k old turn wanted is = λ i. sym (moving_is db old) i && (sym (heard_is (txn_name k) turn.reply) ∙ ap (list_any (says_so (txn_name k))) is.replies ∙ sym (committed_told db (txn_name k) wanted.deeds)) i

-- where it does, the transaction moved, and is undecided no longer
pub raised_ends : (db : Database) (k : Txn) (old : Option TxnState) (turn : Transition) (wanted : desk.Transition (language db)) → IsTransition db k old turn wanted → TurnKeeps (language db) (txn_name k) (txn_of db old) wanted → raises old turn.reply ≡ true → (is_moving old ≡ true) × (desk.is_undecided wanted.txn ≡ false)
raised_ends db k old turn wanted is keeps raised =
    let both = sym (raised_is db k old turn wanted is) ∙ raised in
    (left_true _ _ raised, keeps.ends (right_true _ _ both))

pub never : (b : Bool) → (b && false) ≡ false
never true = refl
never false = refl

-- a client that hears no word of a commit
pub quiet_is : (old : Option TxnState) (heard : Option Reply) → says_committed heard ≡ false → raises old heard ≡ false
quiet_is old heard quiet = ap (λ b. is_moving old && b) quiet ∙ never (is_moving old)

-- no turn after which the transaction is undecided commits it
pub open_quiet : (L : Lang) (t : Name) (x : desk.Txn L) (turn : desk.Transition L) → TurnKeeps L t x turn → desk.is_undecided turn.txn ≡ true → desk.is_committed turn.deeds t ≡ false
open_quiet L t x turn keeps undecided = ⊎_elim (λ done. clash undecided (keeps.ends done)) (λ none. none) (by_test (desk.is_committed turn.deeds t))

-- where a step may bring it, and where none does
pub below_so : {E : Type 0} (old : Option TxnState) (n : ℕ) (result : Result Transition E) → OnOk result (n + 1 < 2 ^ 64) → IfOk result (λ turn. raises old turn.reply ≡ true → n + 1 < 2 ^ 64)
below_so old n (Ok turn) below = λ up. below
below_so old n (Err e) below = tt

pub low_so : {E : Type 0} (old : Option TxnState) (n : ℕ) (result : Result Transition E) → ((heard : Option Reply) → raises old heard ≡ false) → IfOk result (λ turn. raises old turn.reply ≡ true → n + 1 < 2 ^ 64)
low_so old n (Ok turn) low = λ up. clash up (low turn.reply)
low_so old n (Err e) low = tt

-- so where all are told the same word, which is none of a commit
pub quiet_by : {E : Type 0} (old : Option TxnState) (said : Option Reply) (result : Result Transition E) → says_committed said ≡ false → IfOk result (λ turn. turn.reply ≡ said) → IfOk result (λ turn. raises old turn.reply ≡ false)
quiet_by old said (Ok turn) quiet is = quiet_is old turn.reply (ap says_committed is ∙ quiet)
quiet_by old said (Err e) quiet is = tt

pub low_by : {E : Type 0} (old : Option TxnState) (n : ℕ) (result : Result Transition E) → IfOk result (λ turn. raises old turn.reply ≡ false) → IfOk result (λ turn. raises old turn.reply ≡ true → n + 1 < 2 ^ 64)
low_by old n (Ok turn) low = λ up. clash up low
low_by old n (Err e) low = tt

pub quiet_all : {E : Type 0} (old : Option TxnState) (result : Result Transition E) → IfOk result (λ turn. says_committed turn.reply ≡ false) → IfOk result (λ turn. raises old turn.reply ≡ false)
quiet_all old (Ok turn) quiet = quiet_is old turn.reply quiet
quiet_all old (Err e) quiet = tt
