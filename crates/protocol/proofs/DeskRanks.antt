-- What the coordinator puts out ranks below what it was told.
use Rattle.std.proofs.Common.{◌≡◌, refl, sym, subst, suc, ◌≤◌, ◌&&◌, Bool, true, false, List, [], ◌∷◌, ◌++◌, map, Option, Some, None, arith, ◌||◌, not}
use Rattle.protocol.specs.Language.{Lang, Name, put}
use Rattle.protocol.specs.Letter.{Vote, No, Body, Abort, Ticket, Rows}
use Rattle.protocol.specs.Desk.{Choice, Stage, Idle, Reading, Writing, Voting, Undecided, Txn, Unknown, Known, Row, Deed, Aborted, Rolled_back, By_refusal, By_vote, By_store, Transition, when, to_prepare, ends_by, commits, decides, voters_of, are_all_in, votes_go, on_commit_call, on_rollback, to_abort, may_hold, vote_at, with_rows, on_desk_letter}
use Rattle.protocol.proofs.Basics.{Every, every_map, either, some_is}
use Rattle.protocol.proofs.DeskTable.{Cause, asked, came, Turned, ticketed, rests, accepts, begins_phase, rolls_back, is_given_up, takes_ticket, fetches, writes, turns_away, takes_rows, evaluates, is_refused, counts_no, counts_vote, presumes_abort, tells_abort, tells_commit, counts_ack, lets_row_go, letter_turned}
use Rattle.protocol.proofs.Turns.{every_letter}
use Rattle.protocol.proofs.Ranks.{is_stage_reading, is_reading, rank, Lower, stays_low, ends_low, asks_low, writes_low, works_low}

module _ (L : Lang) where
  module _ (t : Name) where
    commits_low : (voters : List (L.Site × Name)) → Every (λ l. (l.txn ≡ t) × (suc (rank false l.body) ≤ 3)) (commits {L = L} t voters)
    commits_low voters = every_map (λ l. (l.txn ≡ t) × (suc (rank false l.body) ≤ 3)) _ voters (λ v. (refl, omega arith))

    decides_low : (r : Bool) (u : Undecided L) (kept : Bool) (voters : List (L.Site × Name)) → Lower t r 3 (decides t u kept voters)
    decides_low r u kept [] = either (Lower t r 3) (kept || not u.moves) _ _ (record { falls = λ is. cc; under = tt }) (ends_low t r 3 u (Aborted t By_store) (omega arith))
    decides_low r u kept (v ∷ vs) = either (Lower t r 3) kept _ _ (record { falls = λ is. cc; under = commits_low (v ∷ vs) }) (ends_low t r 3 u (Aborted t By_store) (omega arith))

    votes_low : (r : Bool) (u : Undecided L) (votes : L.Site → Option Vote) (kept : Bool) → Lower t r 3 (votes_go t u votes kept)
    votes_low r u votes kept = either (Lower t r 3) (are_all_in u votes) _ _ (decides_low r (record u { stage = Voting votes }) kept (voters_of u votes)) (record { falls = λ is. cc; under = tt })

  -- ---- what the coordinator makes of a letter
  abort_low : (r : Bool) (k : Name) → suc (rank {L = L} r (Abort k)) ≤ rank {L = L} r (Ticket k)
  abort_low true k = omega arith
  abort_low false k = omega arith

  module _ (t : Name) (choice : Choice L) where
    -- a turn after a letter; a request has no rank
    abbrev Falls : Cause L → Txn L → Transition L → Type 0
    Falls (asked request) x turn = Unit {0}
    Falls (came a kept b) x turn = Lower t (is_reading x) (rank (is_reading x) b) turn

    of_stage : (u : Undecided L) (stage : Stage L) (b : Body L) (turn : Transition L) → u.stage ≡ stage → Lower t (is_stage_reading stage) (rank (is_stage_reading stage) b) turn → Lower t (is_stage_reading u.stage) (rank (is_stage_reading u.stage) b) turn
    of_stage u stage b turn e low = subst (λ s. Lower t (is_stage_reading s) (rank (is_stage_reading s) b) turn) (sym e) low

    turned_low : (c : Cause L) (x : Txn L) (turn : Transition L) → Turned t choice c x turn → Falls c x turn
    turned_low c x turn (rests (asked request) y) = tt
    turned_low c x turn (rests (came a kept b) y) = stays_low t (is_reading y) _ y refl
    turned_low c x turn (accepts u s idle) = tt
    turned_low c x turn (begins_phase u idle) = tt
    turned_low c x turn (rolls_back u calm) = tt
    turned_low c x turn (is_given_up u) = tt
    turned_low c x turn (takes_ticket u a kept k free) = stays_low t (is_stage_reading u.stage) _ (Known (ticketed u a k)) refl
    turned_low c x turn (fetches u a kept k s asks free stage) = of_stage u (Reading s asks) (Ticket k) _ stage (asks_low t (ticketed u a k) s asks)
    turned_low c x turn (writes u a kept k answer ws free stage) = of_stage u (Writing answer ws) (Ticket k) _ stage (writes_low t false 4 (ticketed u a k) answer ws (omega arith))
    turned_low c x turn (turns_away u a kept k j own other) = record { falls = λ is. is; under = ((refl, abort_low (is_stage_reading u.stage) k), tt) }
    turned_low c x turn (takes_rows u a kept k n rows s asks own stage) = of_stage u (Reading s asks) (Rows k n rows) _ stage (stays_low t true 6 (Known (record u { stage = Reading s (map (with_rows s a n rows) asks) })) refl)
    turned_low c x turn (evaluates u a kept k n rows s asks own stage all) = of_stage u (Reading s asks) (Rows k n rows) _ stage (works_low t true 6 u s (map (with_rows s a n rows) asks) choice (omega arith))
    turned_low c x turn (is_refused u a kept k reason own calm) = ends_low t _ 2 u (Aborted t By_refusal) (omega arith)
    turned_low c x turn (counts_no u a kept k votes own stage) = ends_low t _ 3 (record u { stage = Voting (put L.same_site a (Some No) votes) }) (Aborted t By_vote) (omega arith)
    turned_low c x turn (counts_vote u a kept k v votes own stage not_no) = votes_low t (is_stage_reading u.stage) u (put L.same_site a (Some v) votes) kept
    turned_low c x turn (presumes_abort a kept k) = record { falls = λ is. is; under = ((refl, omega arith), tt) }
    turned_low c x turn (tells_abort a kept k) = record { falls = λ is. is; under = ((refl, omega arith), tt) }
    turned_low c x turn (tells_commit voters acked a kept k) = record { falls = λ is. is; under = ((refl, omega arith), tt) }
    turned_low c x turn (counts_ack voters acked a kept k) = stays_low t false 1 (Row voters (acked ++ (a, k) ∷ [])) refl
    turned_low c x turn (lets_row_go voters acked a kept k all) = stays_low t false 1 Unknown refl

  pub desk_low : (t : Name) (a : L.Site) (kept : Bool) (choice : Choice L) (b : Body L) (x : Txn L) → Lower t (is_reading x) (rank (is_reading x) b) (on_desk_letter t a kept choice b x)
  desk_low t a kept choice b x = turned_low t choice (came a kept b) x _ (letter_turned t choice a kept b x)

  -- ---- what a request makes of a transaction
  module _ (t : Name) (choice : Choice L) where
    pub commit_asked : (u : Undecided L) (stage : Stage L) → Every (λ l. (b : Bool) → rank b l.body ≤ 4) (on_commit_call t u stage).letters
    commit_asked u Idle = every_letter (λ l. (b : Bool) → rank b l.body ≤ 4) t _ L.sites (λ a b here f. prepare_only (u.visited a) a b (u.ticket a) f)
      where
        prepare_only : (x : Bool) (a : L.Site) (b : Body L) (k : Option Name) → when x (to_prepare u a k) ≡ Some b → (r : Bool) → rank r b ≤ 4
        prepare_only true a b None f r = cc
        prepare_only true a b (Some k) f r = subst (λ c. rank r c ≤ 4) (some_is f) (omega arith)
        prepare_only false a b k f r = cc
    commit_asked u (Reading s asks) = tt
    commit_asked u (Writing answer ws) = tt
    commit_asked u (Voting votes) = tt

    pub ended_letters : (u : Undecided L) (d : Deed L) → Every (λ l. (b : Bool) → rank b l.body ≤ 1) (ends_by t u d).letters
    ended_letters u d = every_letter (λ l. (b : Bool) → rank b l.body ≤ 1) t _ L.sites (λ a b here e. abort_only (u.visited a && may_hold (vote_at u.stage a)) (u.ticket a) b e)
      where
        abort_only : (x : Bool) (k : Option Name) (c : Body L) → when x (to_abort k) ≡ Some c → (r : Bool) → rank r c ≤ 1
        abort_only true None c e r = cc
        abort_only true (Some k) c e r = subst (λ x. rank r x ≤ 1) (some_is e) (omega arith)
        abort_only false k c e r = cc

    pub rollback_asked : (u : Undecided L) (stage : Stage L) → Every (λ l. (b : Bool) → rank b l.body ≤ 1) (on_rollback t u stage).letters
    rollback_asked u Idle = ended_letters u (Rolled_back t)
    rollback_asked u (Reading s asks) = ended_letters u (Rolled_back t)
    rollback_asked u (Writing answer ws) = ended_letters u (Rolled_back t)
    rollback_asked u (Voting votes) = tt
