-- A vote is counted by which its transaction isn't decided yet.
use Rattle.std.proofs.Common.{◌≡◌, refl, sym, ap, ◌∙◌, subst, ℕ, suc, ◌-◌, Bool, true, false, not, ◌&&◌, ◌||◌, List, [], ◌∷◌, map, Option, Some, None, is_some, Ok, if◌then◌else◌, inl, Vec, Global}
use Rattle.std.specs.BTreeMap.{is_at as is_key}
use Rattle.std.specs.List.{list_all}
use Rattle.std.specs.List.Sorted.{IsStrictlySortedBy}
use Rattle.std.specs.Map.{keys_of, set_value}
use Rattle.terms.specs.declared.memory.Memory.{Memory}
use Rattle.reader.specs.Printable.{AreDistinct}
use Rattle.store.specs.declared.letter.Letter.{Letter}
use Rattle.store.specs.declared.name.Txn.{Txn}
use Rattle.store.specs.declared.reply.Reply.TheVariants as reply
use Rattle.store.specs.declared.reply.Vote.{Vote}
use Rattle.store.specs.declared.reply.Voted.{Voted}
use Rattle.store.specs.DeskContent.{DeskContent}
use Rattle.store.specs.Name.{txn_cmp}
use Rattle.protocol.specs.Desk as desk
use Rattle.protocol.specs.Letters.{is_no, txn_name}
use Rattle.protocol.proofs.Basics.{clash, if_false, left_true, right_true}
use Rattle.desk.specs.declared.participant.Participant.{Participant}
use Rattle.desk.specs.declared.reply.Notice.{Notice}
use Rattle.desk.specs.declared.transaction.Stage.{Stage}
use Rattle.desk.specs.declared.transaction.Stage.TheVariants as stage
use Rattle.desk.specs.declared.transaction.TxnState.{TxnState}
use Rattle.desk.specs.declared.transaction.TxnState.TheVariants as standing
use Rattle.desk.specs.declared.transaction.Undecided.{Undecided}
use Rattle.desk.specs.declared.transition.After.TheVariants.{Becomes}
use Rattle.desk.specs.declared.transition.Transition.{Transition}
use Rattle.desk.specs.declared.volatile.Volatile.{Volatile}
use Rattle.desk.specs.Acknowledge.{kept_voters}
use Rattle.desk.specs.Commit.{counts_vote, is_early, leaves_open, with_counted}
use Rattle.desk.specs.Database.{Database, language, replied, sent}
use Rattle.desk.specs.Orders.{is_voting}
use Rattle.desk.specs.Participants.{changed_at, is_at, is_in, is_in_beside, with_vote}
use Rattle.desk.specs.Receive.{may_send}
use Rattle.desk.specs.Request.{IsAt}
use Rattle.desk.specs.State.{Fits, Steps, VolatileState, is_open, volatile_from, volatile_of}
use Rattle.desk.specs.Transaction.{txn_of}
use Rattle.desk.specs.Transition.{AreParticipants, IsTransition, is_moving, raises, voting}
use Rattle.desk.proofs.Acknowledged.{keeps_same, turn_as, unchanged}
use Rattle.desk.proofs.Counted.{vote_turn, voted_are, voted_sites}
use Rattle.desk.proofs.Decisions.{votes_wait}
use Rattle.desk.proofs.Making.{takes}
use Rattle.desk.proofs.Raised.{never}

-- with a vote each site has voted, if each other one has
all_beside : (site : List ℕ) (vote : Vote) (participants : List Participant) → list_all is_in (map (changed_at site (with_vote (Some vote))) participants) ≡ list_all (is_in_beside site) participants
all_beside site vote [] = refl
all_beside site vote (p ∷ participants) = λ i. go (is_at site p) i && all_beside site vote participants i
  where
    voted : (b : Bool) → (not b || true) ≡ true
    voted true = refl
    voted false = refl

    go : (b : Bool) → is_in (if b then with_vote (Some vote) p else p) ≡ (b || is_in p)
    go true = voted p.visited
    go false = refl

not_so : (b : Bool) → not b ≡ true → b ≡ false
not_so true e = cc
not_so false e = refl

voting_is : (st : Stage) → is_voting st ≡ true → st ≡ stage.Voting
voting_is stage.Idle e = cc
voting_is (stage.Reading reading) e = cc
voting_is (stage.Writing writing) e = cc
voting_is stage.Voting e = refl

early_there : (o : Option TxnState) (site : List ℕ) (voted : Voted) → is_early o site voted ≡ true → (u : Undecided) × (o ≡ Some (standing.Undecided u)) × (leaves_open u site voted ≡ true)
early_there None site voted e = cc
early_there (Some (standing.Undecided u)) site voted e = (u, refl, e)
early_there (Some (standing.Committed c)) site voted e = cc

module _ (db : Database) (kept : DeskContent) (volatile : Volatile) (sorted : IsStrictlySortedBy txn_cmp (keys_of volatile.standings.entries)) (fits : Fits db kept (volatile_of volatile)) (distinct : AreDistinct db.sites)
    (k : Txn) (choice : desk.Choice (language db)) (site : List ℕ) (voted : Voted) where
  abbrev stood : Option TxnState
  stood = (volatile_of volatile).standing k

  abbrev coming : Option TxnState → desk.Transition (language db)
  coming o = desk.on_desk_letter {L = language db} (txn_name k) site true choice (replied db site (reply.Voted voted)) (txn_of db o)

  module _ (u : Undecided) (here : stood ≡ Some (standing.Undecided u)) (opens : leaves_open u site voted ≡ true) (letters : Vec Letter Global) (none : letters.items ≡ []) where
    abbrev now : List Participant
    now = map (changed_at site (with_vote (Some voted.vote))) u.participants

    abbrev turn : Transition
    turn = record { after = Becomes (standing.Undecided (voting u.moves now)); letters = letters; reply = None; kept = true }

    counts : counts_vote u site voted.ticket ≡ true
    counts = left_true (counts_vote u site voted.ticket) _ opens

    others : (not (is_no voted.vote) && not (list_all (is_in_beside site) u.participants)) ≡ true
    others = right_true (counts_vote u site voted.ticket) _ opens

    other : is_no voted.vote ≡ false
    other = not_so (is_no voted.vote) (left_true (not (is_no voted.vote)) _ others)

    waits : list_all is_in now ≡ false
    waits = all_beside site voted.vote u.participants ∙ not_so (list_all (is_in_beside site) u.participants) (right_true (not (is_no voted.vote)) _ others)

    is_turn : AreParticipants db u.participants → IsTransition db k (Some (standing.Undecided u)) turn (coming (Some (standing.Undecided u)))
    is_turn are =
        vote_turn db k u site voted.ticket voted.vote choice are counts now refl (Some (standing.Undecided u)) {E = Memory} (Ok turn) other
        (turn_as db k (Some (standing.Undecided u)) turn _ _ (votes_wait db u.moves now (voted_are db u.participants site voted.vote are now refl) (txn_name k) true waits) (record { stands = refl; letters = ap (map (sent db)) none; replies = refl }))

    counted_is : with_counted site voted.vote u ≡ voting u.moves now
    counted_is = ap (λ st. record { participants = now; stage = st; moves = u.moves }) (voting_is u.stage (left_true (is_voting u.stage) _ counts))

    steps : (table : VolatileState) → table ≡ volatile_from (set_value (is_key (txn_cmp k)) volatile.standings.entries (standing.Undecided (with_counted site voted.vote u))) volatile.undecided volatile.life volatile.number volatile.version → (written : List Letter) (heard : List Notice) → written ≡ letters.items → heard ≡ [] →
        Steps db (volatile_of volatile) kept table k (coming stood) written heard
    steps table table_is written heard written_is heard_is =
        takes db kept kept volatile sorted fits distinct k choice site (reply.Voted voted) turn (ap (λ o. may_send o site (reply.Voted voted)) here)
        (λ at. subst (λ o. IsTransition db k o turn (coming o)) (sym here) (is_turn (subst (IsAt db) here at)))
        (λ at. (voted_sites site voted.vote u.participants now refl ∙ (subst (IsAt db) here at).sites, refl))
        (λ at rows. keeps_same k None (raises stood None) kept kept (never (is_moving stood)) (rows ∙ ap kept_voters here) (unchanged kept))
        (λ up. clash up (never (is_moving stood))) (inl (ap is_some here)) table
        (record {
          moved = λ before at below. table_is ∙ ap (λ v. volatile_from (set_value (is_key (txn_cmp k)) volatile.standings.entries (standing.Undecided v)) volatile.undecided volatile.life volatile.number volatile.version) counted_is
              ∙ (λ i. volatile_from (set_value (is_key (txn_cmp k)) volatile.standings.entries (standing.Undecided (voting u.moves now))) (sym (if_false (is_open (Some before) && false) (volatile.undecided - 1) volatile.undecided (never (is_open (Some before)))) i) volatile.life volatile.number
              (sym (if_false (raises (Some before) None) (suc volatile.version) volatile.version (never (is_moving (Some before)))) i));
          still = λ stays low. cc;
        }) written heard true written_is heard_is refl

  -- the step that it makes
  pub counts_early : is_early stood site voted ≡ true → (table : VolatileState) →
      ((u : Undecided) → stood ≡ Some (standing.Undecided u) → table ≡ volatile_from (set_value (is_key (txn_cmp k)) volatile.standings.entries (standing.Undecided (with_counted site voted.vote u))) volatile.undecided volatile.life volatile.number volatile.version) →
      (letters : Vec Letter Global) → letters.items ≡ [] → (written : List Letter) (heard : List Notice) → written ≡ letters.items → heard ≡ [] → Steps db (volatile_of volatile) kept table k (coming stood) written heard
  counts_early early table moved letters none written heard written_is heard_is =
      let there = early_there stood site voted early in
      steps there.0 there.1 there.2 letters none table (moved there.0 there.1) written heard written_is heard_is
