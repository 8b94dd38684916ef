-- What a turn of the coordinator says of its transaction's statements: it accepts one or none, and by one that it accepts nobody begins a first phase or is committed.
use Rattle.std.proofs.Common.{◌≡◌, refl, sym, ap, ◌∙◌, Bool, true, false, ◌||◌, not, List, [], ◌∷◌, ◌++◌, map, if◌then◌else◌, append-nil, ℕ, Option, Some, None}
use Rattle.protocol.specs.Language.{Lang, Name, same, put}
use Rattle.protocol.specs.Letter.{Letter, No, Vote}
use Rattle.protocol.specs.Desk.{Ask, Idle, Writing, Voting, Undecided, Txn, Unknown, Known, Row, Choice, Deed, Stated, State, Transition, is_unknown, is_committed, asks_go, writing, writes_go, works, states, visits, writes_out, after_deed, votes_go, decides, voters_of, are_all_in, phases, ends_by, with_rows, ask_of}
use Rattle.protocol.specs.Serial.{phases_of, statements_of}
use Rattle.protocol.proofs.Basics.{either}
use Rattle.protocol.proofs.Turns.{known_is}
use Rattle.protocol.proofs.DeskTable.{Cause, asked, Turned, ticketed, rests, accepts, begins_phase, rolls_back, is_given_up, takes_ticket, fetches, writes, turns_away, takes_rows, evaluates, is_refused, counts_no, counts_vote, presumes_abort, tells_abort, tells_commit, counts_ack, lets_row_go}

module _ {L : Lang} where
  -- deeds that accept no statement, begin no first phase and commit nobody
  pub record Mute (deeds : List (Deed L)) : Type 0 where
    pub statements : (j : Name) → statements_of deeds j ≡ []
    pub phases : phases_of deeds ≡ []
    pub commits : (j : Name) → is_committed deeds j ≡ false

  -- a turn after which the transaction is undecided still, a refragmentation or not as before
  pub record Lives (u : Undecided L) (turn : Transition L) : Type 0 where
    pub new : Undecided L
    pub is : turn.txn ≡ Known new
    pub moves : new.moves ≡ u.moves
    pub mute : Mute turn.deeds

  none_said : Mute []
  none_said = record { statements = λ j. refl; phases = refl; commits = λ j. refl }

  asks_live : (t : Name) (u : Undecided L) (s : L.Statement) (asks : List (Ask L)) → Lives u (asks_go t u s asks)
  asks_live t u s asks = record { new = _; is = refl; moves = refl; mute = none_said }

  writing_lives : (t : Name) (u : Undecided L) (answer : L.Answer) (sent : L.Site → ℕ) (left : List (L.Leaf × L.Write)) (letters : List (Letter L)) → Lives u (writing t u answer sent left letters)
  writing_lives t u answer sent [] letters = record { new = record u { sent = sent; stage = Idle }; is = refl; moves = refl; mute = record { statements = λ j. refl; phases = refl; commits = λ j. refl } }
  writing_lives t u answer sent (x ∷ ws) letters = record { new = record u { sent = sent; stage = Writing answer (x ∷ ws) }; is = refl; moves = refl; mute = none_said }

  writes_live : (t : Name) (u : Undecided L) (answer : L.Answer) (ws : List (L.Leaf × L.Write)) → Lives u (writes_go t u answer ws)
  writes_live t u answer ws = let out = writes_out {L = L} t u.ticket ws u.sent in writing_lives t u answer out.sent out.left out.letters

  works_live : (t : Name) (u : Undecided L) (s : L.Statement) (asks : List (Ask L)) (choice : Choice L) → Lives u (works t u s asks choice)
  works_live t u s asks choice =
      let leaves = map (λ (x : L.Leaf × L.Write). x.0) choice.1 in
      let all = writes_live t (visits u leaves) choice.0 choice.1 in
      record { new = all.new; is = all.is; moves = all.moves; mute = record { statements = all.mute.statements; phases = all.mute.phases; commits = all.mute.commits } }

  pub states_live : (t : Name) (u : Undecided L) (s : L.Statement) (asks : List (Ask L)) (choice : Choice L) → Lives u (states t u s asks choice)
  states_live t u s [] choice = works_live t u s [] choice
  states_live t u s (q ∷ qs) choice =
      let leaves = map (λ (x : Ask L). x.leaf) (q ∷ qs) in
      let all = asks_live t (visits u leaves) s (q ∷ qs) in
      record { new = all.new; is = all.is; moves = all.moves; mute = all.mute }

  -- ---- every turn
  -- what a turn says of statements
  pub data Says (t : Name) (c : Cause L) (x : Txn L) (deeds : List (Deed L)) : Type 0 where
    says_none : ((j : Name) → statements_of deeds j ≡ []) → Says t c x deeds
    says_one : (s : L.Statement) (u : Undecided L) → c ≡ asked (State s) → x ≡ Known u → u.stage ≡ Idle → ((j : Name) → statements_of deeds j ≡ (if same t j then s ∷ [] else [])) → phases_of deeds ≡ [] → ((j : Name) → is_committed deeds j ≡ false) → Says t c x deeds

  pub record Speaks (t : Name) (c : Cause L) (x : Txn L) (turn : Transition L) : Type 0 where
    -- no transaction comes of nothing
    pub unknown : is_unknown x ≡ true → is_unknown turn.txn ≡ true
    pub moves : (v : Undecided L) → turn.txn ≡ Known v → (u : Undecided L) × (x ≡ Known u) × (v.moves ≡ u.moves)
    pub says : Says t c x turn.deeds

  module _ (t : Name) (c : Cause L) where
    lives_speaks : (u v : Undecided L) (turn : Transition L) → v.moves ≡ u.moves → Lives v turn → Speaks t c (Known u) turn
    lives_speaks u v turn alike lives = record {
      unknown = λ is. let f : false ≡ true = is in cc;
      moves = λ y e. (u, refl, ap (λ z. z.moves) (sym (known_is lives.new y (sym lives.is ∙ e))) ∙ lives.moves ∙ alike);
      says = says_none lives.mute.statements;
    }

    -- a turn after which the transaction isn't undecided
    gone_speaks : (x y : Txn L) (letters : List (Letter L)) (deeds : List (Deed L)) → (is_unknown x ≡ true → is_unknown y ≡ true) → ((v : Undecided L) → y ≡ Known v → ⊥) → ((j : Name) → statements_of deeds j ≡ []) → Speaks t c x (record { txn = y; letters = letters; deeds = deeds })
    gone_speaks x y letters deeds unknown none mute = record { unknown = unknown; moves = λ v e. absurd (none v e); says = says_none mute }

    ends_speaks : (u v : Undecided L) (d : Deed L) → ((j : Name) → statements_of (d ∷ []) j ≡ []) → Speaks t c (Known u) (ends_by t v d)
    ends_speaks u v d mute = gone_speaks (Known u) Unknown _ (d ∷ []) (λ is. refl) (λ y e. cc) mute

    -- a decision, or a vote more
    pub record Decides (u : Undecided L) (turn : Transition L) : Type 0 where
      pub moves : (v : Undecided L) → turn.txn ≡ Known v → v.moves ≡ u.moves
      pub mute : (j : Name) → statements_of turn.deeds j ≡ []

    decides_plainly : (u v : Undecided L) (kept : Bool) (voters : List (L.Site × Name)) → Decides u (decides t v kept voters)
    decides_plainly u v kept [] = either (Decides u) (kept || not v.moves) _ _ (record { moves = λ y e. cc; mute = λ j. refl }) (record { moves = λ y e. cc; mute = λ j. refl })
    decides_plainly u v kept (y ∷ ys) = either (Decides u) kept _ _ (record { moves = λ y e. cc; mute = λ j. refl }) (record { moves = λ y e. cc; mute = λ j. refl })

    votes_plainly : (u : Undecided L) (votes : L.Site → Option Vote) (kept : Bool) → Decides u (votes_go t u votes kept)
    votes_plainly u votes kept = either (Decides u) (are_all_in u votes) _ _ (decides_plainly u (record u { stage = Voting votes }) kept (voters_of u votes))
        (record { moves = λ y e. ap (λ z. z.moves) (sym (known_is (record u { stage = Voting votes }) y e)); mute = λ j. refl })

    decided_speaks : (u : Undecided L) (turn : Transition L) → Decides u turn → Speaks t c (Known u) turn
    decided_speaks u turn decided = record { unknown = λ is. let f : false ≡ true = is in cc; moves = λ v e. (u, refl, decided.moves v e); says = says_none decided.mute }

    phases_speaks : (u : Undecided L) → Speaks t c (Known u) (phases t u)
    phases_speaks u = let all = votes_plainly u (λ a. None) true in decided_speaks u (phases t u) (record { moves = all.moves; mute = all.mute })

    accepts_speaks : (u : Undecided L) (s : L.Statement) (choice : Choice L) → c ≡ asked (State s) → u.stage ≡ Idle → Speaks t c (Known u) (after_deed (Stated t s) (states t u s (map ask_of (L.fetches s)) choice))
    accepts_speaks u s choice is idle =
        let all = states_live t u s (map ask_of (L.fetches s)) choice in
        let plain = lives_speaks u u (states t u s (map ask_of (L.fetches s)) choice) refl all in
        record {
          unknown = plain.unknown;
          moves = plain.moves;
          says = says_one s u is refl idle (λ j. ap (λ l. (if same t j then s ∷ [] else []) ++ l) (all.mute.statements j) ∙ append-nil (if same t j then s ∷ [] else [])) all.mute.phases all.mute.commits;
        }

  pub turn_speaks : (t : Name) (choice : Choice L) (c : Cause L) (x : Txn L) (turn : Transition L) → Turned t choice c x turn → Speaks t c x turn
  turn_speaks t choice c x turn (rests d y) = record { unknown = λ is. is; moves = λ v e. (v, e, refl); says = says_none (λ j. refl) }
  turn_speaks t choice c x turn (accepts u s idle) = accepts_speaks t c u s choice refl idle
  turn_speaks t choice c x turn (begins_phase u idle) = phases_speaks t c u
  turn_speaks t choice c x turn (rolls_back u calm) = ends_speaks t c u u _ (λ j. refl)
  turn_speaks t choice c x turn (is_given_up u) = ends_speaks t c u u _ (λ j. refl)
  turn_speaks t choice c x turn (takes_ticket u a kept k free) = lives_speaks t c u (ticketed u a k) _ refl (record { new = ticketed u a k; is = refl; moves = refl; mute = none_said })
  turn_speaks t choice c x turn (fetches u a kept k s asks free stage) = lives_speaks t c u (ticketed u a k) _ refl (asks_live t (ticketed u a k) s asks)
  turn_speaks t choice c x turn (writes u a kept k answer ws free stage) = lives_speaks t c u (ticketed u a k) _ refl (writes_live t (ticketed u a k) answer ws)
  turn_speaks t choice c x turn (turns_away u a kept k j own other) = lives_speaks t c u u _ refl (record { new = u; is = refl; moves = refl; mute = none_said })
  turn_speaks t choice c x turn (takes_rows u a kept k n rows s asks own stage) = lives_speaks t c u u _ refl (record { new = _; is = refl; moves = refl; mute = none_said })
  turn_speaks t choice c x turn (evaluates u a kept k n rows s asks own stage all) = lives_speaks t c u u _ refl (works_live t u s (map (with_rows s a n rows) asks) choice)
  turn_speaks t choice c x turn (is_refused u a kept k reason own calm) = ends_speaks t c u u _ (λ j. refl)
  turn_speaks t choice c x turn (counts_no u a kept k votes own stage) = ends_speaks t c u (record u { stage = Voting (put L.same_site a (Some No) votes) }) _ (λ j. refl)
  turn_speaks t choice c x turn (counts_vote u a kept k v votes own stage not_no) = decided_speaks t c u _ (votes_plainly t c u _ kept)
  turn_speaks t choice c x turn (presumes_abort a kept k) = gone_speaks t c Unknown Unknown _ [] (λ is. is) (λ v e. cc) (λ j. refl)
  turn_speaks t choice c x turn (tells_abort a kept k) = gone_speaks t c Unknown Unknown _ [] (λ is. is) (λ v e. cc) (λ j. refl)
  turn_speaks t choice c x turn (tells_commit voters acked a kept k) = gone_speaks t c (Row voters acked) (Row voters acked) _ [] (λ is. is) (λ v e. cc) (λ j. refl)
  turn_speaks t choice c x turn (counts_ack voters acked a kept k) = gone_speaks t c (Row voters acked) _ _ [] (λ is. is) (λ v e. cc) (λ j. refl)
  turn_speaks t choice c x turn (lets_row_go voters acked a kept k all) = gone_speaks t c (Row voters acked) Unknown _ [] (λ is. refl) (λ v e. cc) (λ j. refl)
