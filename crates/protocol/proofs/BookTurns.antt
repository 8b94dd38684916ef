-- The book after each request and each letter at the coordinator.
use Rattle.std.proofs.Common.{◌≡◌, refl, sym, ap, ◌∙◌, subst, ℕ, Bool, true, false, ◌&&◌, List, [], ◌∷◌, ◌++◌, map, inl, inr, Option, Some, None, is_some, append_assoc, append-nil, not, ◌||◌}
use Rattle.std.specs.List.{list_any, list_all}
use Rattle.protocol.specs.Parts.{op_of, Untouched}
use Rattle.protocol.specs.Language.{Lang, IsLawful, Name, put}
use Rattle.protocol.specs.Letter.{No, Vote, Body, Commit, Abort, Rows, Letter, is_for_desk}
use Rattle.protocol.specs.Desk.{Ask, Stage, Idle, Reading, Writing, Voting, Undecided, Txn, Unknown, Known, Row, Choice, Deed, Stated, Worked, Phased, Committed, Aborted, Rolled_back, By_vote, By_refusal, By_store, Given_up, Why, Transition, Request, State, Commit_call, Rollback, Give_up, stays, is_named, ask_of, opens, visits, states, ends_by, phases, votes_go, decides, commits, voters_of, are_all_in, when, to_prepare, may_hold, vote_at, to_abort, on_state, on_commit_call, on_rollback, on_request, ticket_goes, on_ticket, with_rows, on_rows, on_refused, counts, on_vote, on_known, on_unknown, is_pair, are_acked, on_row, on_desk_letter}
use Rattle.protocol.specs.World.{World}
use Rattle.protocol.proofs.DeskTable.{Cause, asked, came, Turned, ticketed, rests, accepts, begins_phase, rolls_back, is_given_up, takes_ticket, fetches, writes, turns_away, takes_rows, evaluates, is_refused, counts_no, counts_vote, presumes_abort, tells_abort, tells_commit, counts_ack, lets_row_go, request_turned, letter_turned}
use Rattle.protocol.proofs.Basics.{Every, In, either, either_if, put_all, some_is, left_true, right_true}
use Rattle.protocol.proofs.Fits.{Drawn, is_voting, FitsBody, Own, Fit}
use Rattle.protocol.proofs.Turns.{known_is, every_letter}
use Rattle.protocol.proofs.Deciding.{aborts_to}
use Rattle.protocol.proofs.DeskSteps.{prepares_to}
use Rattle.protocol.proofs.Ops.{Op}
use Rattle.protocol.proofs.Data.{TellsBody}
use Rattle.protocol.proofs.Works.{works, own_of, view_plain}
use Rattle.protocol.proofs.Book.{AskAt, Told, BookAt, pending, owed, unsent_of, asks_of}
use Rattle.protocol.proofs.Booking.{book_stage, book_stated, book_worked}
use Rattle.protocol.proofs.BookSteps.{book_ticket, rows_came}
use Rattle.protocol.proofs.Booked.{Plain, Booked, goes_on, starts, gone_phase, still_phase, quiet_phase, told_idle, plain_booked, no_first, opens_first, asks_booked, writes_booked}

module _ {L : Lang} (law : IsLawful L) (o : L.Site → Name → Name) (ops : L.Site → Name → List (Op L)) (w : World L) (t : Name) (fit : Fit o w) where
  mine_of : (u : Undecided L) → w.desk.txn t ≡ Known u → (a : L.Site) (k : Name) → u.ticket a ≡ Some k → Drawn (w.sites a) k × (o a k ≡ t)
  mine_of u e a k own = let ticket = (fit.known t u e).tickets a k own in (ticket.0, ticket.1)

  still_booked : (x : Txn L) (letters : List (Letter L)) → w.desk.txn t ≡ x → ((u : Undecided L) → w.desk.txn t ≡ Known u → BookAt o ops w.sites w.letters w.past t u) → Every (Plain ops w.sites) letters → Booked o ops w t (record { txn = x; letters = letters; deeds = [] })
  still_booked x letters e book tells = plain_booked o ops w t (record { txn = x; letters = letters; deeds = [] }) refl refl refl tt (still_phase w t x letters e) (λ v f. (book v (e ∙ f), mine_of v (e ∙ f))) (λ done. cc) tells

  -- a turn after which the transaction isn't undecided
  gone_booked : (x : Txn L) → ((v : Undecided L) → x ≡ Known v → ⊥) → Booked o ops w t (record { txn = x; letters = []; deeds = [] })
  gone_booked x none = plain_booked o ops w t (record { txn = x; letters = []; deeds = [] }) refl refl refl tt (gone_phase w t (record { txn = x; letters = []; deeds = [] }) refl none) (λ v f. absurd (none v f)) (λ done. cc) tt

  aborts_tell : (v : Undecided L) (d : Deed L) → Every (Plain ops w.sites) (ends_by t v d).letters
  aborts_tell v d = every_letter (Plain ops w.sites) t (λ a. when (v.visited a && may_hold (vote_at v.stage a)) (to_abort (v.ticket a))) L.sites
      (λ a b here said. subst (λ y. (TellsBody (ops a) (w.sites a) y × (is_for_desk y ≡ false)) × ((x : L.Site) (j : Name) → op_of x j a y ≡ [])) (sym (aborts_to law v a b (v.visited a && may_hold (vote_at v.stage a)) (v.ticket a) refl said).2) ((tt, refl), (λ x j. refl)))

  module _ (u : Undecided L) (e : w.desk.txn t ≡ Known u) (book : BookAt o ops w.sites w.letters w.past t u) where
    books : (v : Undecided L) → w.desk.txn t ≡ Known v → BookAt o ops w.sites w.letters w.past t v
    books v f = subst (BookAt o ops w.sites w.letters w.past t) (known_is u v (sym e ∙ f)) book

    same_booked : Booked o ops w t (stays (Known u))
    same_booked = still_booked (Known u) [] e books tt

    rolled_booked : (v : Undecided L) → Booked o ops w t (ends_by t v (Rolled_back t))
    rolled_booked v = plain_booked o ops w t (ends_by t v (Rolled_back t)) refl refl refl (refl, tt) (gone_phase w t (ends_by t v (Rolled_back t)) refl (λ x f. cc)) (λ x f. absurd (let g : Unknown ≡ Known x = f in cc)) (λ done. cc) (aborts_tell v (Rolled_back t))

    aborted_booked : (v : Undecided L) (why : Why) → Booked o ops w t (ends_by t v (Aborted t why))
    aborted_booked v why = plain_booked o ops w t (ends_by t v (Aborted t why)) refl refl refl (refl, tt) (gone_phase w t (ends_by t v (Aborted t why)) refl (λ x f. cc)) (λ x f. absurd (let g : Unknown ≡ Known x = f in cc)) (λ done. cc) (aborts_tell v (Aborted t why))

    module _ (none : pending u.stage ≡ []) (nothing : owed u.stage ≡ []) (sent_all : unsent_of u.stage ≡ []) where
      told_now : Told w.past t Idle
      told_now = told_idle w.past t u.stage none nothing book.told

      voting_book : (votes : L.Site → Option Vote) (v : Undecided L) → (let x : Txn L = Known (record u { stage = Voting votes }) in x ≡ Known v) → BookAt o ops w.sites w.letters w.past t v × ((a : L.Site) (k : Name) → v.ticket a ≡ Some k → Drawn (w.sites a) k × (o a k ≡ t))
      voting_book votes v f = subst (λ v. BookAt o ops w.sites w.letters w.past t v × ((a : L.Site) (k : Name) → v.ticket a ≡ Some k → Drawn (w.sites a) k × (o a k ≡ t))) (known_is (record u { stage = Voting votes }) v f)
          (book_stage o w.sites t ops w.letters w.past u (record u { stage = Voting votes }) refl refl (sym sent_all) tt (record { statements = told_now.statements; answers = told_now.answers }) book, mine_of u e)

      no_row : (vs acked : List (L.Site × Name)) (v : Undecided L) → (let x : Txn L = Row vs acked in x ≡ Known v) → ⊥
      no_row vs acked v f = cc

      no_unknown : (v : Undecided L) → (let x : Txn L = Unknown in x ≡ Known v) → ⊥
      no_unknown v f = cc

      decided_booked : ((y : Undecided L) → w.desk.txn t ≡ Known y → is_voting y.stage ≡ true) → (v : Undecided L) (kept : Bool) (xs : List (L.Site × Name)) → Booked o ops w t (decides t v kept xs)
      decided_booked already v kept [] = either (Booked o ops w t) (kept || not v.moves) _ _
          (plain_booked o ops w t (record { txn = Unknown; letters = []; deeds = Committed t ∷ [] }) refl refl refl (refl, tt) (gone_phase w t (record { txn = Unknown; letters = []; deeds = Committed t ∷ [] }) refl no_unknown) (λ y f. absurd (no_unknown y f)) (λ done. (told_now, λ y f. inl (already y f))) tt)
          (aborted_booked v By_store)
      decided_booked already v true (x ∷ xs) = plain_booked o ops w t (decides t v true (x ∷ xs)) refl refl refl (refl, tt) (gone_phase w t (decides t v true (x ∷ xs)) refl (no_row (x ∷ xs) [])) (λ y f. absurd (no_row (x ∷ xs) [] y f)) (λ done. (told_now, λ y f. inl (already y f))) (commits_tell (x ∷ xs))
        where
          commits_tell : (ys : List (L.Site × Name)) → Every (Plain ops w.sites) (commits t ys)
          commits_tell [] = tt
          commits_tell (y ∷ ys) = (((tt, refl), (λ x j. refl)), commits_tell ys)
      decided_booked already v false (x ∷ xs) = aborted_booked v By_store

      -- the phase goes on, or the transaction is decided
      votes_booked : is_voting u.stage ≡ true → (votes : L.Site → Option Vote) (kept : Bool) → Booked o ops w t (votes_go t u votes kept)
      votes_booked votes_already votes kept = either (Booked o ops w t) (are_all_in u votes) _ _ (decided_booked (λ y f. subst (λ z. is_voting z.stage ≡ true) (known_is u y (sym e ∙ f)) votes_already) (record u { stage = Voting votes }) kept (voters_of u votes))
          (plain_booked o ops w t (stays (Known (record u { stage = Voting votes }))) refl refl refl tt (goes_on refl (λ v f voting. (u, e, votes_already))) (voting_book votes) (λ done. cc) tt)

      prepares_tell : Every (Plain ops w.sites) (phases t u).letters
      prepares_tell = every_letter (Plain ops w.sites) t (λ a. when (u.visited a) (to_prepare u a (u.ticket a))) L.sites
          (λ a b here said. let k = prepares_to u a b (u.visited a) (u.ticket a) refl said in subst (λ y. (TellsBody (ops a) (w.sites a) y × (is_for_desk y ≡ false)) × ((x : L.Site) (j : Name) → op_of x j a y ≡ [])) (sym k.2) ((book.sent a k.0 k.1, refl), (λ x j. refl)))

      -- where all votes are in before one was given, nobody is visited
      untouched_is : u.stage ≡ Idle → are_all_in u (λ a. None) ≡ true → (y : Undecided L) → w.desk.txn t ≡ Known y → Untouched y
      untouched_is idle all y f = subst Untouched (known_is u y (sym e ∙ f)) (idle, go L.sites all)
        where
          go : (sites : List L.Site) → list_all (λ a. not (u.visited a) || false) sites ≡ true → list_any u.visited sites ≡ false
          go [] all = refl
          go (a ∷ sites) all = one (u.visited a) (left_true (not (u.visited a) || false) (list_all (λ b. not (u.visited b) || false) sites) all) (go sites (right_true (not (u.visited a) || false) (list_all (λ b. not (u.visited b) || false) sites) all))
            where
              one : (x : Bool) {y : Bool} → (not x || false) ≡ true → y ≡ false → (x || y) ≡ false
              one true is rest = cc
              one false is rest = rest

      phase_decided : u.stage ≡ Idle → are_all_in u (λ a. None) ≡ true → (xs : List (L.Site × Name)) → Booked o ops w t (record { txn = (decides t (record u { stage = Voting (λ a. None) }) true xs).txn; letters = (phases t u).letters; deeds = Phased t ∷ (decides t (record u { stage = Voting (λ a. None) }) true xs).deeds })
      phase_decided idle all [] = plain_booked o ops w t (record { txn = Unknown; letters = (phases t u).letters; deeds = Phased t ∷ Committed t ∷ [] }) refl refl refl (refl, (refl, tt)) (starts refl (view_plain w.past (Phased t ∷ Committed t ∷ []) t refl refl refl) u e idle (λ v f. absurd (no_unknown v f))) (λ y f. absurd (no_unknown y f)) (λ done. (told_now, λ y f. inr (refl, untouched_is idle all y f))) prepares_tell
      phase_decided idle all (x ∷ xs) = plain_booked o ops w t (record { txn = Row (x ∷ xs) []; letters = (phases t u).letters; deeds = Phased t ∷ Committed t ∷ [] }) refl refl refl (refl, (refl, tt)) (starts refl (view_plain w.past (Phased t ∷ Committed t ∷ []) t refl refl refl) u e idle (λ v f. absurd (no_row (x ∷ xs) [] v f))) (λ y f. absurd (no_row (x ∷ xs) [] y f)) (λ done. (told_now, λ y f. inr (refl, untouched_is idle all y f))) prepares_tell

      phases_booked : u.stage ≡ Idle → Booked o ops w t (phases t u)
      phases_booked idle = either_if (λ (turn : Transition L). Booked o ops w t (record { txn = turn.txn; letters = (phases t u).letters; deeds = Phased t ∷ turn.deeds })) (are_all_in u (λ a. None)) _ _ (λ all. phase_decided idle all (voters_of u (λ a. None)))
          (λ waits. plain_booked o ops w t (record { txn = Known (record u { stage = Voting (λ a. None) }); letters = (phases t u).letters; deeds = Phased t ∷ [] }) refl refl refl (refl, tt) (starts refl (view_plain w.past (Phased t ∷ []) t refl refl refl) u e idle (λ v f. subst (λ z. (z.ticket ≡ u.ticket) × (is_voting z.stage ≡ true)) (known_is (record u { stage = Voting (λ a. None) }) v f) (refl, refl))) (voting_book (λ a. None)) (λ done. cc) prepares_tell)

    state_booked : (s : L.Statement) (choice : Choice L) → u.stage ≡ Idle → (fs : List (L.Leaf × L.Query)) → Booked o ops w t (record { txn = (states t u s (map ask_of fs) choice).txn; letters = (states t u s (map ask_of fs) choice).letters; deeds = Stated t s ∷ (states t u s (map ask_of fs) choice).deeds })
    state_booked s choice idle [] =
        let stated = book_stated o w.sites t ops w.letters w.past u s [] idle book in
        let worked = book_worked o w.sites t ops w.letters (w.past ++ Stated t s ∷ []) (record u { stage = Reading s [] }) s [] choice refl refl stated in
        let leaves = map (λ (x : L.Leaf × L.Write). x.0) choice.1 in writes_booked o ops w t law u e (ap is_voting idle) u (mine_of u e) (visits u leaves).visited (opens t u leaves) (opens_first o ops w t u leaves) choice.0 choice.1 (Stated t s ∷ Worked t s [] choice ∷ []) (refl, (refl, tt)) (λ ds n. n) (λ ds no_ done. no_ done)
        (subst (λ p. BookAt o ops w.sites w.letters p t (record u { stage = Writing choice.0 choice.1 })) (append_assoc w.past (Stated t s ∷ []) (Worked t s [] choice ∷ [])) worked)
    state_booked s choice idle (f ∷ fs) = let leaves = map (λ (q : Ask L). q.leaf) (map ask_of (f ∷ fs)) in asks_booked o ops w t law u e (ap is_voting idle) u (mine_of u e) (visits u leaves).visited (opens t u leaves) (opens_first o ops w t u leaves) s (map ask_of (f ∷ fs)) (Stated t s ∷ []) (refl, tt) refl (λ done. cc) (book_stated o w.sites t ops w.letters w.past u s (f ∷ fs) idle book)

    module _ (a : L.Site) where
      -- with a first ticket
      mine_ticketed : (k : Name) → Drawn (w.sites a) k → o a k ≡ t → (b : L.Site) (j : Name) → (ticketed u a k).ticket b ≡ Some j → Drawn (w.sites b) j × (o b j ≡ t)
      mine_ticketed k drawn owner b j = put_all L.same_site law.sites a (Some k) u.ticket (λ b m. m ≡ Some j → Drawn (w.sites b) j × (o b j ≡ t)) (λ is. subst (λ n. Drawn (w.sites a) n × (o a n ≡ t)) (some_is is) (drawn, owner)) (λ b other is. mine_of u e b j is) b

      book_ticketed : (k : Name) → u.ticket a ≡ None → Drawn (w.sites a) k → o a k ≡ t → BookAt o ops w.sites w.letters w.past t (ticketed u a k)
      book_ticketed k free drawn owner = book_ticket law o w.sites t ops w.letters w.past u a k free drawn owner book

      in_past : (k : Name) (stage : Stage L) → u.stage ≡ stage → BookAt o ops w.sites w.letters w.past t (ticketed u a k) → BookAt o ops w.sites w.letters (w.past ++ []) t (record (ticketed u a k) { stage = stage })
      in_past k stage f now = subst (λ p. BookAt o ops w.sites w.letters p t (record (ticketed u a k) { stage = stage })) (sym (append-nil w.past)) (subst (λ x. BookAt o ops w.sites w.letters w.past t (record (ticketed u a k) { stage = x })) f now)

      takes_booked : (k : Name) → u.ticket a ≡ None → Drawn (w.sites a) k → o a k ≡ t → Booked o ops w t (stays (Known (ticketed u a k)))
      takes_booked k free drawn owner = plain_booked o ops w t (stays (Known (ticketed u a k))) refl refl refl tt (goes_on refl (λ x g voting. (u, e, ap (λ z. is_voting z.stage) (known_is (ticketed u a k) x g) ∙ voting)))
          (λ x g. subst (λ z. BookAt o ops w.sites w.letters w.past t z × ((b : L.Site) (j : Name) → z.ticket b ≡ Some j → Drawn (w.sites b) j × (o b j ≡ t))) (known_is (ticketed u a k) x g) (book_ticketed k free drawn owner, mine_ticketed k drawn owner)) (λ done. cc) tt

      -- with the rows of a fetch
      module _ (k : Name) (n : ℕ) (rows : L.Rows) (s : L.Statement) (asks : List (Ask L)) (own : Own a k u) (f : u.stage ≡ Reading s asks) (here : In (record { site = a; txn = t; body = Rows k n rows }) w.letters) where
        abbrev with_these : Undecided L
        with_these = record u { stage = Reading s (map (with_rows s a n rows) asks) }

        book_rows : BookAt o ops w.sites w.letters w.past t with_these
        book_rows =
            let told = subst (Told w.past t) f book.told in
            book_stage o w.sites t ops w.letters w.past u with_these refl refl (ap unsent_of (sym f))
            (rows_came law o w.sites t s ops w.letters (own_of (works w.past t)) u.ticket a k n rows own here asks (subst (λ x. Every (AskAt t u.ticket ops w.letters (own_of (works w.past t))) (asks_of x)) f book.asks))
            (record { statements = told.statements; answers = told.answers }) book

        evaluates_booked : (choice : Choice L) → list_all (λ (q : Ask L). is_some q.rows) (map (with_rows s a n rows) asks) ≡ true → Booked o ops w t (Rattle.protocol.specs.Desk.works t u s (map (with_rows s a n rows) asks) choice)
        evaluates_booked choice all =
            let leaves = map (λ (x : L.Leaf × L.Write). x.0) choice.1 in
            writes_booked o ops w t law u e (ap is_voting f) u (mine_of u e) (visits u leaves).visited (opens t u leaves) (opens_first o ops w t u leaves) choice.0 choice.1 (Worked t s (map (with_rows s a n rows) asks) choice ∷ []) (refl, tt) (λ ds n. n) (λ ds no_ done. no_ done)
            (book_worked o w.sites t ops w.letters w.past with_these s (map (with_rows s a n rows) asks) choice refl all book_rows)

        waits_booked : Booked o ops w t (stays (Known with_these))
        waits_booked = plain_booked o ops w t (stays (Known with_these)) refl refl refl tt (quiet_phase w t with_these [] [] refl refl)
            (λ x g. subst (λ z. BookAt o ops w.sites w.letters w.past t z × ((b : L.Site) (j : Name) → z.ticket b ≡ Some j → Drawn (w.sites b) j × (o b j ≡ t))) (known_is with_these x g) (book_rows, mine_of u e)) (λ done. cc) tt

  module _ (books : (u : Undecided L) → w.desk.txn t ≡ Known u → BookAt o ops w.sites w.letters w.past t u) where
    -- what is known of what a turn comes of
    abbrev Comes : Cause L → Type 0
    Comes (asked request) = Unit {0}
    Comes (came a kept b) = FitsBody o w.desk w.past a (w.sites a) t b × In (record { site = a; txn = t; body = b }) w.letters

    turned_booked : (choice : Choice L) (c : Cause L) (x : Txn L) (turn : Transition L) → w.desk.txn t ≡ x → Comes c → Turned t choice c x turn → Booked o ops w t turn
    turned_booked choice c x turn e comes (rests d y) = still_booked y [] e books tt
    turned_booked choice c x turn e comes (accepts u s idle) = state_booked u e (books u e) s choice idle (L.fetches s)
    turned_booked choice c x turn e comes (begins_phase u idle) = phases_booked u e (books u e) (ap pending idle) (ap owed idle) (ap unsent_of idle) idle
    turned_booked choice c x turn e comes (rolls_back u calm) = rolled_booked u e (books u e) u
    turned_booked choice c x turn e comes (is_given_up u) = aborted_booked u e (books u e) u Given_up
    turned_booked choice c x turn e comes (takes_ticket u a kept k free) = takes_booked u e (books u e) a k free comes.0.0 comes.0.1
    turned_booked choice c x turn e comes (fetches u a kept k s asks free stage) =
        asks_booked o ops w t law u e (ap is_voting stage) (ticketed u a k) (mine_ticketed u e (books u e) a k comes.0.0 comes.0.1) u.visited [] (no_first o ops w t) s asks [] tt refl (λ done. cc)
        (in_past u e (books u e) a k (Reading s asks) stage (book_ticketed u e (books u e) a k free comes.0.0 comes.0.1))
    turned_booked choice c x turn e comes (writes u a kept k answer ws free stage) =
        writes_booked o ops w t law u e (ap is_voting stage) (ticketed u a k) (mine_ticketed u e (books u e) a k comes.0.0 comes.0.1) u.visited [] (no_first o ops w t) answer ws [] tt (λ ds n. n) (λ ds no_ done. no_ done)
        (in_past u e (books u e) a k (Writing answer ws) stage (book_ticketed u e (books u e) a k free comes.0.0 comes.0.1))
    turned_booked choice c x turn e comes (turns_away u a kept k j own other) = still_booked (Known u) (record { site = a; txn = t; body = Abort k } ∷ []) e books (((tt, refl), (λ x j. refl)), tt)
    turned_booked choice c x turn e comes (takes_rows u a kept k n rows s asks own stage) = waits_booked u e (books u e) a k n rows s asks own stage comes.1
    turned_booked choice c x turn e comes (evaluates u a kept k n rows s asks own stage all) = evaluates_booked u e (books u e) a k n rows s asks own stage comes.1 choice all
    turned_booked choice c x turn e comes (is_refused u a kept k reason own calm) = aborted_booked u e (books u e) u By_refusal
    turned_booked choice c x turn e comes (counts_no u a kept k votes own stage) = aborted_booked u e (books u e) (record u { stage = Voting (put L.same_site a (Some No) votes) }) By_vote
    turned_booked choice c x turn e comes (counts_vote u a kept k v votes own stage not_no) = votes_booked u e (books u e) (ap pending stage) (ap owed stage) (ap unsent_of stage) (ap is_voting stage) (put L.same_site a (Some v) votes) kept
    turned_booked choice c x turn e comes (presumes_abort a kept k) = still_booked Unknown (record { site = a; txn = t; body = Abort k } ∷ []) e books (((tt, refl), (λ x j. refl)), tt)
    turned_booked choice c x turn e comes (tells_abort a kept k) = still_booked Unknown (record { site = a; txn = t; body = Abort k } ∷ []) e books (((tt, refl), (λ x j. refl)), tt)
    turned_booked choice c x turn e comes (tells_commit vs acked a kept k) = still_booked (Row vs acked) (record { site = a; txn = t; body = Commit k } ∷ []) e books (((tt, refl), (λ x j. refl)), tt)
    turned_booked choice c x turn e comes (counts_ack vs acked a kept k) = gone_booked (Row vs (acked ++ (a, k) ∷ [])) (λ v f. cc)
    turned_booked choice c x turn e comes (lets_row_go vs acked a kept k all) = gone_booked Unknown (λ v f. cc)

    -- a request
    pub request_booked : (choice : Choice L) (request : Request L) (x : Txn L) → w.desk.txn t ≡ x → Booked o ops w t (on_request t choice request x)
    request_booked choice request x e = turned_booked choice (asked request) x _ e tt (request_turned t choice request x)

    -- a letter from a site
    pub letter_booked : (a : L.Site) (kept : Bool) (choice : Choice L) (b : Body L) (x : Txn L) → w.desk.txn t ≡ x → FitsBody o w.desk w.past a (w.sites a) t b → In (record { site = a; txn = t; body = b }) w.letters → Booked o ops w t (on_desk_letter t a kept choice b x)
    letter_booked a kept choice b x e fits here = turned_booked choice (came a kept b) x _ e (fits, here) (letter_turned t choice a kept b x)
