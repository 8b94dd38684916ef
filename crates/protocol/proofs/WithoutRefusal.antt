-- A transaction of one client whose letters come smoothly: what its statements write is at the sites and keeps contents fitting, since it is what they mean.
use Rattle.std.proofs.Common.{◌≡◌, refl, sym, ap, ◌∙◌, subst, ℕ, ◌||◌, ◌⊎◌, Bool, true, false, List, [], ◌∷◌, map, if◌then◌else◌, inl, inr, ⊎_elim, Option, Some, None, is_some}
use Rattle.std.specs.List.{list_all}
use Rattle.protocol.specs.Language.{Lang, IsLawful, Name, same, put}
use Rattle.protocol.specs.Letter.{Body, Letter, Open, Fetch, Write, Prepare, Commit, Abort, Ticket, Rows, Refused, Voted, Ack, Inquire, is_for_desk}
use Rattle.protocol.specs.Site.{Visit, Status, Dead, Active, Prepared, SiteState, is_within, on_letter, said, site_after}
use Rattle.protocol.specs.Desk.{Ask, Choice, Stage, Idle, Reading, Writing, Voting, Undecided, Known, Unknown, Row, Txn, Transition, Deed, Stated, Worked, State, after_deed, desk_after, is_desk_within, is_named, is_undecided, on_desk_letter, on_known, on_request, on_rows, on_state, on_ticket, states, ticket_goes, visits, with_rows, works, writing, next_txn, fresh_as}
use Rattle.protocol.specs.World.{World, addressed, with_site, called, comes_to, turned, turns, begun}
use Rattle.protocol.specs.Client.{IsQuiet, IsReached, first, next}
use Rattle.protocol.specs.VisitPlaces.{VisitPlace, Unlocked, at, away, asked, offered, works as is_working}
use Rattle.protocol.specs.StatementCourse.{AtSites, InStatement, Room, RoomOr, Stands, passes, passes_to, Far, reads, writes, is_answered, Steady}
use Rattle.protocol.specs.AfterAbort.{Within}
use Rattle.protocol.specs.Parts.{Work, In, work_in}
use Rattle.protocol.specs.Fitting.{Fitting, StatusFits, Suits, TxnFits}
use Rattle.protocol.specs.WithoutRefusal.{InCourse, IsHoused, Smooth, SmoothLaw}
use Rattle.protocol.proofs.Basics.{Every, every_in, in_left, in_right, if_true, put_all, put_here, same_law, same_refl, some_is, clash, either}
use Rattle.protocol.proofs.Locks.{Once}
use Rattle.protocol.proofs.Data.{untouched}
use Rattle.protocol.proofs.Works as deeds
use Rattle.protocol.proofs.OneClient.{quiet_rebuilt}
use Rattle.protocol.proofs.ForgottenLetters.{reached_serial}
use Rattle.protocol.proofs.SerialLaw.{serial_law}
use Rattle.protocol.proofs.Meant.{IsMeant, now_whole, reached_deep, works_meant}
use Rattle.protocol.proofs.Overflow.{went_on}
use Rattle.protocol.proofs.OneStatement.{statement_starts, statement_ends}
use Rattle.protocol.proofs.StatementCourse.{begins_steady, moves_called, moves_steady}
use Rattle.protocol.proofs.DeskRanks.{desk_low}
use Rattle.protocol.specs.Rounds.{is_reading, is_stage_reading}
use Rattle.protocol.proofs.Committing.{commit_starts, commit_goes_on, commit_ends}
use Rattle.protocol.proofs.Transaction.{kept_commit}
use Rattle.protocol.proofs.Fitting.{fitting_law}

-- the same answer, and no writes
abbrev bare : (L : Lang) → Choice L → Choice L
bare L c = (c.0, [])

-- no lock is no exclusive one
none_touched : (a b : Bool) → (a || b) ≡ false → b ≡ false
none_touched true b e = cc
none_touched false b e = e

module _ {L : Lang} where
  -- whether a turn evaluates its statement, y, with a choice: else it is the turn without writes
  data Uses (y : L.Statement) (t : Name) (u : Undecided L) (c : Choice L) (turn other : Transition L) : Type 0 where
    uses_none : turn ≡ other → Uses y t u c turn other
    uses_it : (asks : List (Ask L)) (v : Undecided L) → turn.txn ≡ Known v → v.ticket ≡ u.ticket → is_stage_reading v.stage ≡ false → In (Worked t y asks c) turn.deeds → Uses y t u c turn other

  of_stage : (r s : L.Statement) (xs ys : List (Ask L)) → (let x : Stage L = Reading r xs in x ≡ Reading s ys) → r ≡ s
  of_stage r s xs ys e = cc

  writing_known : (t : Name) (u : Undecided L) (answer : L.Answer) (sent : L.Site → ℕ) (left : List (L.Leaf × L.Write)) (letters : List (Letter L)) → (v : Undecided L) × (((writing t u answer sent left letters).txn ≡ Known v) × ((v.ticket ≡ u.ticket) × (is_stage_reading v.stage ≡ false)))
  writing_known t u answer sent [] letters = (_, (refl, (refl, refl)))
  writing_known t u answer sent (x ∷ left) letters = (_, (refl, (refl, refl)))

  works_use : (t : Name) (u : Undecided L) (y : L.Statement) (asks : List (Ask L)) (c : Choice L) (other : Transition L) → Uses y t u c (works t u y asks c) other
  works_use t u y asks c other = let known = writing_known t (visits u (map (λ w. w.0) c.1)) c.0 _ _ _ in uses_it asks known.0 known.1.0 known.1.1.0 known.1.1.1 (inl refl)

  module _ (t : Name) (u : Undecided L) (c : Choice L) where
    states_use : (y : L.Statement) (asks : List (Ask L)) → Uses y t u c (after_deed (Stated t y) (states t u y asks c)) (after_deed (Stated t y) (states t u y asks (bare L c)))
    states_use y [] = go (works_use t u y [] c (works t u y [] (bare L c)))
      where
        go : Uses y t u c (works t u y [] c) (works t u y [] (bare L c)) → Uses y t u c (after_deed (Stated t y) (works t u y [] c)) (after_deed (Stated t y) (works t u y [] (bare L c)))
        go (uses_none is) = uses_none (ap (after_deed (Stated t y)) is)
        go (uses_it asks v is ticket read here) = uses_it asks v is ticket read (inr here)
    states_use y (q ∷ qs) = uses_none refl

    state_uses : (y : L.Statement) (stage : Stage L) → Uses y t u c (on_state t u y c stage) (on_state t u y (bare L c) stage)
    state_uses y Idle = states_use y _
    state_uses y (Reading r asks) = uses_none refl
    state_uses y (Writing answer ws) = uses_none refl
    state_uses y (Voting votes) = uses_none refl

    ticket_uses : (v : Undecided L) (stage : Stage L) → ticket_goes t v c stage ≡ ticket_goes t v (bare L c) stage
    ticket_uses v Idle = refl
    ticket_uses v (Reading r asks) = refl
    ticket_uses v (Writing answer ws) = refl
    ticket_uses v (Voting votes) = refl

    first_ticket_uses : (a : L.Site) (k : Name) (tk : Option Name) → on_ticket t u a k c tk ≡ on_ticket t u a k (bare L c) tk
    first_ticket_uses a k None = ticket_uses _ u.stage
    first_ticket_uses a k (Some j) = refl

    rows_use : (b : Bool) (y : L.Statement) (asks : List (Ask L)) (none : Transition L) → Uses y t u c (if b then works t u y asks c else none) (if b then works t u y asks (bare L c) else none)
    rows_use true y asks none = works_use t u y asks c _
    rows_use false y asks none = uses_none refl

    reads_use : (y : L.Statement) (a : L.Site) (n : ℕ) (rows : L.Rows) (stage : Stage L) → ((r : L.Statement) (asks : List (Ask L)) → stage ≡ Reading r asks → r ≡ y) → Uses y t u c (on_rows t u a n rows c stage) (on_rows t u a n rows (bare L c) stage)
    reads_use y a n rows (Reading s asks) of = subst (λ z. Uses z t u c (on_rows t u a n rows c (Reading s asks)) (on_rows t u a n rows (bare L c) (Reading s asks))) (of s asks refl) (rows_use (list_all (λ q. is_some q.rows) (map (with_rows s a n rows) asks)) s (map (with_rows s a n rows) asks) _)
    reads_use y a n rows Idle of = uses_none refl
    reads_use y a n rows (Writing answer ws) of = uses_none refl
    reads_use y a n rows (Voting votes) of = uses_none refl

    named_use : (y : L.Statement) (b : Bool) (turn other none : Transition L) → Uses y t u c turn other → Uses y t u c (if b then turn else none) (if b then other else none)
    named_use y true turn other none uses = uses
    named_use y false turn other none uses = uses_none refl

    letter_uses : (y : L.Statement) → ((r : L.Statement) (asks : List (Ask L)) → u.stage ≡ Reading r asks → r ≡ y) → (a : L.Site) (kept : Bool) (body : Body L) → Uses y t u c (on_known t u a kept c body) (on_known t u a kept (bare L c) body)
    letter_uses y of a kept (Ticket k) = uses_none (first_ticket_uses a k (u.ticket a))
    letter_uses y of a kept (Rows k n rows) = named_use y (is_named (u.ticket a) k) _ _ _ (reads_use y a n rows u.stage of)
    letter_uses y of a kept (Refused k reason) = uses_none refl
    letter_uses y of a kept (Voted k vote) = uses_none refl
    letter_uses y of a kept (Inquire k) = uses_none refl
    letter_uses y of a kept (Ack k) = uses_none refl
    letter_uses y of a kept Open = uses_none refl
    letter_uses y of a kept (Fetch k op g q) = uses_none refl
    letter_uses y of a kept (Write k op g x) = uses_none refl
    letter_uses y of a kept (Prepare k n) = uses_none refl
    letter_uses y of a kept (Commit k) = uses_none refl
    letter_uses y of a kept (Abort k) = uses_none refl

  -- a deed that shows a work
  in_works : (t : Name) (s : L.Statement) (asks : List (Ask L)) (c : Choice L) (past : List (Deed L)) → In (Worked t s asks c) past → In (record { statement = s; asks = asks; choice = c }) (deeds.works past t)
  in_works t s asks c [] here = absurd here
  in_works t s asks c (d ∷ past) (inl e) =
      let x : Work L = record { statement = s; asks = asks; choice = c } in
      in_left x (work_in t d) (deeds.works past t) (subst (λ d. In x (work_in t d)) e (subst (In x) (sym (if_true (same t t) (x ∷ []) [] (same_refl t))) (inl refl)))
  in_works t s asks c (d ∷ past) (inr below) =
      let x : Work L = record { statement = s; asks = asks; choice = c } in
      in_right x (work_in t d) (deeds.works past t) (in_works t s asks c past below)

  -- behind a ticket of a transaction that works stands its visit
  spot_alive : (f : Name → Status L) (b : Bool) (tk : Option Name) (n : ℕ) (bs : List (Body L)) (k : Name) → VisitPlace f b tk n bs → tk ≡ Some k → (v : Visit L) × (f k ≡ Active v)
  spot_alive f b tk n bs k (away x) is = let none = sym x.no_ticket ∙ is in cc
  spot_alive f b tk n bs k (asked x) is = let none = sym x.no_ticket ∙ is in cc
  spot_alive f b tk n bs k (offered j x) is = let none = sym x.no_ticket ∙ is in cc
  spot_alive f b tk n bs k (is_working j x) is = (x.visit, ap f (some_is (sym is ∙ x.ticket)) ∙ x.active)

  room_or : (s : SiteState L) (body : Body L) → Room s body → RoomOr ⊥ s body
  room_or s (Write k op g x) room = λ v is. inl (room v is)
  room_or s Open room = tt
  room_or s (Fetch k op g q) room = tt
  room_or s (Prepare k n) room = tt
  room_or s (Commit k) room = tt
  room_or s (Abort k) room = tt
  room_or s (Ticket k) room = tt
  room_or s (Rows k n rows) room = tt
  room_or s (Refused k reason) room = tt
  room_or s (Voted k vote) room = tt
  room_or s (Ack k) room = tt
  room_or s (Inquire k) room = tt

module _ {L : Lang} (law : IsLawful L) (once : Once L.sites) (n : ℕ) (fits : L.Leaf → L.Content → Bool) (housed : IsHoused L n fits) where
  -- what statement y writes is at the sites, and keeps contents fitting unless it brings another catalogue
  abbrev AreHoused : L.Statement → Choice L → Type 0
  AreHoused y c = AtSites L (map (λ x. x.0) c.1) × (L.raises y ≡ false → Every (Suits L fits) c.1)

  none_housed : (y : L.Statement) (c : Choice L) → AreHoused y (bare L c)
  none_housed y c = (λ g here. absurd here, λ low. tt)

  meant_housed : (x : Work L) → L.tag x.statement ≡ n → IsMeant law x → AreHoused x.statement x.choice
  meant_housed x tag is = (
    subst (λ ws. AtSites L (map (λ y. y.0) ws)) (sym is.writes) (housed.written x.statement is.whole is.is_statement is.is_whole is.in_force),
    λ low. subst (Every (Suits L fits)) (sym is.writes) (housed.suits x.statement is.whole is.is_statement is.is_whole is.in_force (sym is.in_force ∙ tag) low),
  )

  module _ (whole : L.Whole) where
    -- a turn is that without writes, or its choice is housed and its transaction has read what it reads
    turn_housed : (y : L.Statement) → L.tag y ≡ n → (w : World L) (t : Name) (u : Undecided L) (c : Choice L) (turn other : Transition L) → ((a : L.Site) (k : Name) → u.ticket a ≡ Some k → (v : Visit L) × ((w.sites a).status k ≡ Active v)) →
        is_desk_within (desk_after w.desk t turn.txn) ≡ true → Uses y t u c turn other → IsReached whole (turns w t turn) → (turn ≡ other) ⊎ (AreHoused y c × (is_reading turn.txn ≡ false))
    turn_housed y tag w t u c turn other active within (uses_none is) reached = inl is
    turn_housed y tag w t u c turn other active within (uses_it asks v known ticket read here) reached =
        let there : IsReached whole (turned w t turn) = subst (IsReached whole) (if_true (is_desk_within (desk_after w.desk t turn.txn)) (turned w t turn) w within) reached in
        let x : Work L = record { statement = y; asks = asks; choice = c } in
        let meant = works_meant law whole (turned w t turn) there t v (put_here same same_law t turn.txn w.desk.txn ∙ known) (λ a k own. active a k (ap (λ (f : L.Site → Option Name). f a) (sym ticket) ∙ own)) in
        inr (meant_housed x tag (every_in (IsMeant law) (deeds.works (turned w t turn).past t) x meant (in_works t y asks c (turned w t turn).past (in_right (Worked t y asks c) w.past turn.deeds here))), ap is_reading known ∙ read)

    stands_alive : (t : Name) (u : Undecided L) (w : World L) → Stands t u w → (a : L.Site) (k : Name) → u.ticket a ≡ Some k → (v : Visit L) × ((w.sites a).status k ≡ Active v)
    stands_alive t u w stands a k own = spot_alive (w.sites a).status (u.visited a) (u.ticket a) (u.sent a) (at a w.letters) k (stands.spots a) own

    -- a statement is accepted
    module _ (w : World L) (t : Name) (s : L.Statement) (steady : Steady t w) (fitting : Fitting L fits w) (is : L.IsStatement s) (tag : L.tag s ≡ n) where
      abbrev turn_of : Choice L → Transition L
      turn_of c = on_request t c (State s) (w.desk.txn t)

      with_choice : (c : Choice L) → AreHoused s c → ((L.raises s ≡ false) ⊎ (is_reading ((called w t c (State s)).desk.txn t) ≡ true) → Every (Suits L fits) c.1) → is_desk_within (desk_after w.desk t (turn_of c).txn) ≡ true → InCourse L n fits t s w.past (called w t c (State s))
      with_choice c good suits within = record {
        course = statement_starts law once t s w c steady (housed.fetched s is) good.0 within;
        tag = tag;
        fitting = λ case. (fitting_law law fits).asked w t c (State s) (suits case) fitting;
      }

      stated : (c : Choice L) → is_desk_within (desk_after w.desk t (turn_of c).txn) ≡ true → IsReached whole (called w t c (State s)) → InCourse L n fits t s w.past (called w t c (State s))
      stated c within reached = ⊎_elim
          (λ same_. subst (λ (turn : Transition L). InCourse L n fits t s w.past (turns w t turn)) (sym same_) (with_choice (bare L c) (none_housed s c) (λ case. tt) (subst (λ (turn : Transition L). is_desk_within (desk_after w.desk t turn.txn) ≡ true) same_ within)))
          (λ good. with_choice c good.0 (λ case. ⊎_elim good.0.1 (λ reading. clash (sym (ap (λ (v : World L). is_reading (v.desk.txn t)) (if_true _ (turned w t (turn_of c)) w within) ∙ ap is_reading (put_here same same_law t (turn_of c).txn w.desk.txn)) ∙ reading) good.1) case) within)
          (turn_housed s tag w t steady.u c (turn_of c) (turn_of (bare L c)) (stands_alive t steady.u w steady.stands) within
          (subst (λ (x : Txn L). Uses s t steady.u c (on_request t c (State s) x) (on_request t (bare L c) (State s) x)) (sym steady.known) (state_uses t steady.u c s steady.u.stage)) reached)

    -- a letter of a statement comes
    module _ (w : World L) (t : Name) (s : L.Statement) (before : List (Deed L)) (kept : Bool) (l : Letter L) (q : List (Letter L)) (e : w.letters ≡ l ∷ q) (within : Within w) (here : InCourse L n fits t s before w) where
      abbrev behind_it : World L
      behind_it = record w { letters = q }

      next_is : (c : Choice L) → next w kept c ≡ comes_to (is_for_desk l.body) behind_it kept c l
      next_is c = ap (first w kept c) e

      own : l.txn ≡ t
      own = (subst (Every (λ (x : Letter L). x.txn ≡ t)) e here.course.stands.alone).0

      -- whoever reads after the letter read before it
      reading_was : (c : Choice L) → is_reading ((next w kept c).desk.txn t) ≡ true → is_reading (w.desk.txn t) ≡ true
      reading_was c = subst (λ (v : World L). is_reading (v.desk.txn t) ≡ true → is_reading (w.desk.txn t) ≡ true) (sym (next_is c)) (go (is_for_desk l.body))
        where
          go : (b : Bool) → is_reading ((comes_to b behind_it kept c l).desk.txn t) ≡ true → is_reading (w.desk.txn t) ≡ true
          go false =
              let act = on_letter (w.sites l.site) l.txn kept l.body in
              let new = site_after (w.sites l.site) act in
              either (λ (v : World L). is_reading (v.desk.txn t) ≡ true → is_reading (w.desk.txn t) ≡ true) (is_within new) (with_site behind_it l.site new (addressed l.site l.txn (said (w.sites l.site) act))) behind_it (λ r. r) (λ r. r)
          go true =
              let turn = on_desk_letter l.txn l.site kept c l.body (w.desk.txn l.txn) in
              either (λ (v : World L). is_reading (v.desk.txn t) ≡ true → is_reading (w.desk.txn t) ≡ true) (is_desk_within (desk_after w.desk l.txn turn.txn)) (turned behind_it l.txn turn) behind_it
              (put_all same same_law l.txn turn.txn w.desk.txn (λ j x. is_reading x ≡ true → is_reading (w.desk.txn j) ≡ true) (desk_low L l.txn l.site kept c l.body (w.desk.txn l.txn)).falls (λ j other r. r) t) (λ r. r)

      comes_with : (c : Choice L) → AreHoused s c → ((L.raises s ≡ false) ⊎ (is_reading ((next w kept c).desk.txn t) ≡ true) → Every (Suits L fits) c.1) → Smooth w kept c l → InCourse L n fits t s before (next w kept c)
      comes_with c good suits smooth = record {
        course = ⊎_elim (λ (at_ : InStatement t s before (next w kept c)). at_) (λ none. absurd none.0) (went_on law once ⊥ t s before w within kept c l q e (record {
          is_kept = smooth.is_kept;
          within = smooth.within;
          room = room_or (w.sites l.site) l.body smooth.room;
          fit = λ reading. (fitting_law law fits).rows s w l (housed.rows s here.tag) (here.fitting (inr (subst (λ j. is_reading (w.desk.txn j) ≡ true) own reading)));
          homes = good.0;
        }) (inl here.course));
        tag = here.tag;
        fitting = λ case. (fitting_law law fits).came w kept c (suits case) (here.fitting (⊎_elim (λ low. inl low) (λ reading. inr (reading_was c reading)) case));
      }

      -- where the choice isn't used it may be that without writes
      comes_bare : (c : Choice L) → comes_to (is_for_desk l.body) behind_it kept c l ≡ comes_to (is_for_desk l.body) behind_it kept (bare L c) l → passes w kept (bare L c) l ≡ true → Smooth w kept c l → InCourse L n fits t s before (next w kept c)
      comes_bare c same_ passes_ smooth = subst (InCourse L n fits t s before) (sym (next_is c ∙ same_ ∙ sym (next_is (bare L c)))) (comes_with (bare L c) (none_housed s c) (λ case. tt) (record { is_kept = smooth.is_kept; within = passes_; room = smooth.room }))

      came : (c : Choice L) → Smooth w kept c l → IsReached whole (next w kept c) → InCourse L n fits t s before (next w kept c)
      came c smooth reached = go (is_for_desk l.body) refl (subst (IsReached whole) (next_is c) reached)
        where
          -- a statement that reads is the one in course
          read_is : Far t s before here.course.u w.letters w.past → (r : L.Statement) (asks : List (Ask L)) → here.course.u.stage ≡ Reading r asks → r ≡ s
          read_is (reads asks is missing all deeds) r others e = of_stage r s others asks (sym e ∙ is)
          read_is (writes asks choice x ws is all deeds) r others e = let f : Reading r others ≡ Writing choice.0 (x ∷ ws) = sym e ∙ is in cc
          read_is (is_answered asks choice is deeds) r others e = let f : Reading r others ≡ Idle = sym e ∙ is in cc

          turn_of : Choice L → Transition L
          turn_of d = on_desk_letter l.txn l.site kept d l.body (w.desk.txn l.txn)

          -- the transaction after its letter came to the coordinator
          after_desk : (d : Choice L) → is_desk_within (desk_after w.desk l.txn (turn_of d).txn) ≡ true → is_for_desk l.body ≡ true → is_reading ((next w kept d).desk.txn t) ≡ is_reading (turn_of d).txn
          after_desk d fits_in to_desk = ap (λ (v : World L). is_reading (v.desk.txn t)) (next_is d ∙ ap (λ b. comes_to b behind_it kept d l) to_desk ∙ if_true _ (turned behind_it l.txn (turn_of d)) behind_it fits_in)
              ∙ ap is_reading (ap (put same l.txn (turn_of d).txn w.desk.txn) (sym own) ∙ put_here same same_law l.txn (turn_of d).txn w.desk.txn)

          uses : Uses s l.txn here.course.u c (turn_of c) (turn_of (bare L c))
          uses = subst (λ (x : Txn L). Uses s l.txn here.course.u c (on_desk_letter l.txn l.site kept c l.body x) (on_desk_letter l.txn l.site kept (bare L c) l.body x)) (sym (ap w.desk.txn own ∙ here.course.known)) (letter_uses l.txn here.course.u c s (read_is here.course.far) l.site kept l.body)

          go : (b : Bool) → is_for_desk l.body ≡ b → IsReached whole (comes_to (is_for_desk l.body) behind_it kept c l) → InCourse L n fits t s before (next w kept c)
          go false to_site there = comes_bare c (ap (λ b. comes_to b behind_it kept c l) to_site ∙ sym (ap (λ b. comes_to b behind_it kept (bare L c) l) to_site))
              (ap (λ b. passes_to b w kept (bare L c) l) to_site ∙ sym (ap (λ b. passes_to b w kept c l) to_site) ∙ smooth.within) smooth
          go true to_desk there =
              let fits_in : is_desk_within (desk_after w.desk l.txn (turn_of c).txn) ≡ true = sym (ap (λ b. passes_to b w kept c l) to_desk) ∙ smooth.within in
              ⊎_elim
              (λ (same_ : turn_of c ≡ turn_of (bare L c)). comes_bare c (ap (λ b. comes_to b behind_it kept c l) to_desk ∙ ap (turns behind_it l.txn) same_ ∙ sym (ap (λ b. comes_to b behind_it kept (bare L c) l) to_desk))
              (ap (λ b. passes_to b w kept (bare L c) l) to_desk ∙ ap (λ (x : Transition L). is_desk_within (desk_after w.desk l.txn x.txn)) (sym same_) ∙ fits_in) smooth)
              (λ good. comes_with c good.0 (λ case. ⊎_elim good.0.1 (λ reading. clash (sym (after_desk c fits_in to_desk) ∙ reading) good.1) case) smooth)
              (turn_housed s here.tag behind_it l.txn here.course.u c (turn_of c) (turn_of (bare L c)) (stands_alive t here.course.u w here.course.stands) fits_in uses
              (subst (λ b. IsReached whole (comes_to b behind_it kept c l)) to_desk there))

    -- where all is quiet contents fit
    quiet_fits : (w : World L) → IsReached whole w → IsQuiet w → w.version ≡ n → Fitting L fits w
    quiet_fits w reached quiet version = record {
      sites = λ a. record {
        kept = λ g home. subst (λ b. fits g ((w.sites b).kept g) ≡ true) home (ap (fits g) (quiet_rebuilt law whole w reached quiet g) ∙ housed.contents _ (now_whole law whole w reached) ((reached_serial whole w reached (serial_law law)).in_force ∙ version) g);
        status = λ k. unlocked_fits a k ((w.sites a).status k) refl (quiet.calm a k);
      };
      letters = subst (Every _) (sym quiet.silent) tt;
      txns = λ t. decided_fits (w.desk.txn t) (quiet.decided t);
    }
      where
        unlocked_fits : (a : L.Site) (k : Name) (st : Status L) → (w.sites a).status k ≡ st → Unlocked st → StatusFits L fits st
        unlocked_fits a k Dead is free = tt
        unlocked_fits a k (Prepared t i) is free = absurd free
        unlocked_fits a k (Active v) is free = λ g c fit.
            let deep = reached_deep law whole w reached in
            let visit = (deep.2.base.data_at a).visits k v is in
            ap (fits g) (untouched law visit.past v.changes g c visit.changes (none_touched (v.shared g) (L.touches g v.changes) (free g))) ∙ fit

        decided_fits : (x : Txn L) → is_undecided x ≡ false → TxnFits L fits x
        decided_fits Unknown is = tt
        decided_fits (Known u) is = cc
        decided_fits (Row voters acked) is = tt

  pub smooth_law : SmoothLaw L n fits
  smooth_law = record {
    begun = λ whole w reached quiet version room. record { steady = begins_steady w quiet room; fitting = (fitting_law law fits).begun w (quiet_fits whole w reached quiet version) };
    stated = λ whole w t s choice ready is tag low within reached. stated whole w t s ready.steady ready.fitting is tag choice within reached;
    moved = λ whole w s choice reached quiet version is tag within room there.
        let t = next_txn w.desk in
        let v = begun true w in
        let same_ = moves_called w s choice within room in
        subst (InCourse L n fits t s v.past) (sym same_) (stated whole v t s (moves_steady w quiet) (moves_fit w (quiet_fits whole w reached quiet version)) is tag choice
        (ap (λ x. is_desk_within (desk_after v.desk t (on_request t choice (State s) x).txn)) (put_here same same_law t (Known (fresh_as true)) w.desk.txn) ∙ room) (subst (IsReached whole) same_ there));
    came = λ whole w t s before kept choice l q e within smooth reached here. came whole w t s before kept l q e within here choice smooth reached;
    answered = λ w t s before here silent low. let done = statement_ends law once t s before w here.course silent in (record { steady = done.0; fitting = here.fitting (inl low) }, done.1);
    move_answered = λ w t s before here silent. statement_ends law once t s before w here.course silent;
    asked = λ w t choice steady within. commit_starts law once ⊥ t w.past w steady choice within refl;
    voted = λ w t before kept choice l q e within is committing. commit_goes_on law once ⊥ t before w l q e within kept choice (kept_commit law once kept l.body is) committing;
    committed = λ w t before committing silent. let done = commit_ends law once ⊥ t before w committing silent in (done.0, ⊎_elim (λ is. is) (λ none. absurd none.0) done.1);
  }
    where
      -- contents fit where a refragmentation has begun
      moves_fit : (w : World L) → Fitting L fits w → Fitting L fits (begun true w)
      moves_fit w fit = record {
        sites = fit.sites;
        letters = fit.letters;
        txns = put_all same same_law (next_txn w.desk) (Known (fresh_as true)) w.desk.txn (λ j x. TxnFits L fits x) tt (λ j other. fit.txns j);
      }
