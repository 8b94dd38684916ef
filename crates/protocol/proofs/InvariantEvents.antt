-- Every event keeps the whole invariant, and an opening has it.
use Rattle.std.proofs.Common.{◌≡◌, refl, sym, ap, ◌∙◌, subst, ℕ, Bool, true, false, ◌||◌, ◌&&◌, List, [], ◌∷◌, inl, inr, ⊎_elim, Option, Some, None, slice_get, flat_map}
use Rattle.std.proofs.lemmas.Grind.{flat_map-append}
use Rattle.std.proofs.lemmas.List.Folds.{list_any-append}
use Rattle.std.proofs.Common.{append-nil}
use Rattle.protocol.specs.Language.{Lang, IsLawful, Name, same}
use Rattle.protocol.specs.Letter.{Read, Voted, Letter, is_for_desk}
use Rattle.protocol.specs.Site.{Status, Dead, Active, Prepared, SiteState, inquiries, inquiry_of, on_give_up, site_after, site_restarted}
use Rattle.protocol.specs.Desk.{fresh_as, Known, Choice, Began, Request, State, Transition, on_request, on_desk_letter, desk_after, next_txn, desk_began, txn_restarted, desk_restarted, is_desk_within}
use Rattle.protocol.specs.World.{World, is_site, Event, Begin, Refragment, Call, called, may_begin, may_ask, may_move, first_turn, Deliver, Site_gives_up, Site_inquires, Site_restarts, Desk_restarts, turned, turns, begun, comes_to, delivered, inquires, desk_lives, happens, run}
use Rattle.protocol.specs.Serial.{is_committed, commits_it, phases_of, phased_of, settled, IsOpening}
use Rattle.protocol.proofs.Basics.{Every, every_at, every_in, every_flat, In, in_at, in_append, put_all, put_here, same_law, either, by_test, or_false}
use Rattle.protocol.proofs.Fits.{Born, Fits}
use Rattle.protocol.proofs.FitEvents.{not_born, none_known, no_commits, was_before, lives_before}
use Rattle.protocol.proofs.NothingCommits.{state_commits_none}
use Rattle.protocol.proofs.MayCommit.{turned_before}
use Rattle.protocol.proofs.Going.{Good}
use Rattle.protocol.proofs.DeskSteps.{request_good, letter_good}
use Rattle.protocol.proofs.Ops.{Op}
use Rattle.protocol.proofs.Data.{TellsBody}
use Rattle.protocol.proofs.Works.{works}
use Rattle.protocol.proofs.Booked.{Booked, PhaseTurn, goes_on, starts}
use Rattle.protocol.proofs.BookTurns.{request_booked, letter_booked}
use Rattle.protocol.proofs.Base.{Base}
use Rattle.protocol.proofs.BaseEvents.{inquire_base, began_view, begun_base, lives_phases, lives_view, lives_base, opening_base}
use Rattle.protocol.proofs.Line.{Line, Two}
use Rattle.protocol.proofs.Viable.{Viable}
use Rattle.protocol.proofs.Settled.{changes_it, changes_same, settled_none, settled_same}
use Rattle.protocol.proofs.Invariant.{Counts, Deep, deep_moves}
use Rattle.protocol.proofs.InvariantSites.{IsDeep, Next, no_event, site_commits, restart_viable, give_up_viable, comes_deep, restart_deep, give_up_deep}
use Rattle.protocol.proofs.InvariantTurns.{viable_was, quiet_deep, begun_deep}
use Rattle.protocol.proofs.InvariantCommits.{commits_deep}

module _ {L : Lang} (law : IsLawful L) (whole : L.Whole) where
  module _ (o : L.Site → Name → Name) (ops : L.Site → Name → List (Op L)) (w : World L) (deep : Deep o ops whole w) where
    -- the same sites, the same committed transactions
    settled_past : (v : World L) → Base o ops v → ((a : L.Site) → v.sites a ≡ w.sites a) → ((t : Name) → is_committed v.past t ≡ is_committed w.past t) → (g : L.Leaf) → settled v g ≡ settled w g
    settled_past v base sites alike g =
        let at = sites (L.home g) in
        settled_same law o o ops ops w v deep.base base g (ap (λ (s : SiteState L). s.kept g) at)
        (λ k is. let st = ap (λ (s : SiteState L). s.status k) at in (st, ap (changes_it v.past g) st ∙ changes_same w.past v.past g alike ((w.sites (L.home g)).status k) ∙ is))
        (λ k is. sym (ap (changes_it v.past g) (ap (λ (s : SiteState L). s.status k) at) ∙ changes_same w.past v.past g alike ((w.sites (L.home g)).status k)) ∙ is)

    -- a new transaction, or a new refragmentation
    begun_was : (moves : Bool) (t : Name) → In t (phases_of w.past) → Viable ops (begun moves w) t → Viable ops w t
    begun_was moves t here viable = record {
      u = viable.u;
      voting = viable.voting;
      each = viable.each;
      known = put_all same same_law (next_txn w.desk) (Known (fresh_as moves)) w.desk.txn (λ j x. Born w.desk j → x ≡ Known viable.u → w.desk.txn j ≡ Known viable.u) (λ born f. absurd (not_born w.desk born)) (λ j other born f. f) t (deep.base.phased t here).0 viable.known;
    }

    begun_deep_event : (moves : Bool) → Deep o ops whole (begun moves w)
    begun_deep_event moves =
        let new = next_txn w.desk in
        let alike : (t : Name) → is_committed (begun moves w).past t ≡ is_committed w.past t = λ t. list_any-append (commits_it t) w.past (Began new ∷ []) ∙ or_false (is_committed w.past t) in
        let base = begun_base o ops w deep.base moves in
        deep_moves law o o ops ops whole w (begun moves w) deep base (flat_map-append phased_of w.past (Began new ∷ []) ∙ append-nil (phases_of w.past)) (λ t here. (began_view o ops w deep.base t).works_same) alike (begun_was moves)
        (settled_past (begun moves w) base (λ a. refl) alike)

    -- a restart of the coordinator
    lives_was : (t : Name) → In t (phases_of w.past) → Viable ops (desk_lives w) t → Viable ops w t
    lives_was t here viable = absurd (none_known o w deep.base.fit t (w.desk.txn t) viable.u viable.known)

    lives_deep : Deep o ops whole (desk_lives w)
    lives_deep =
        let deeds = flat_map (λ t. (txn_restarted t (w.desk.txn t)).deeds) w.desk.known in
        let alike : (t : Name) → is_committed (desk_lives w).past t ≡ is_committed w.past t = λ t. list_any-append (commits_it t) w.past deeds ∙ ap (λ b. is_committed w.past t || b) (no_commits o w deep.base.fit t w.desk.known) ∙ or_false (is_committed w.past t) in
        let base = lives_base o ops w deep.base in
        deep_moves law o o ops ops whole w (desk_lives w) deep base (lives_phases o ops w deep.base) (λ t here. (lives_view o ops w deep.base t).works_same) alike lives_was
        (settled_past (desk_lives w) base (λ a. refl) alike)

    -- inquiries
    inquires_was : (a : L.Site) (t : Name) → In t (phases_of w.past) → Viable ops (inquires w a) t → Viable ops w t
    inquires_was a t here viable = record {
      u = viable.u;
      known = viable.known;
      voting = viable.voting;
      each = λ b k own. ⊎_elim (λ now. inl now)
          (λ letter. ⊎_elim (λ was. inr was)
          (λ new. absurd (every_in NoVote (inquiries a (w.sites a)) (record { site = b; txn = t; body = Voted k Read }) (every_flat NoVote (λ j. inquiry_of a j ((w.sites a).status j)) (w.sites a).known (λ j. one j ((w.sites a).status j))) new k refl))
          (in_append (record { site = b; txn = t; body = Voted k Read }) w.letters (inquiries a (w.sites a)) letter))
          (viable.each b k own);
    }
      where
        NoVote : Letter L → Type 0
        NoVote l = (k : Name) → l.body ≡ Voted k Read → ⊥

        one : (j : Name) (st : Status L) → Every NoVote (inquiry_of a j st)
        one j Dead = tt
        one j (Active v) = tt
        one j (Prepared n i) = ((λ k f. cc), tt)

    inquires_deep : (a : L.Site) → Deep o ops whole (inquires w a)
    inquires_deep a = deep_moves law o o ops ops whole w (inquires w a) deep (inquire_base o ops w deep.base law a) refl (λ t here. refl) (λ t. refl) (inquires_was a) (λ g. refl)

    -- a turn of the coordinator
    turned_deep : (t : Name) (turn : Transition L) → Good o w t turn → Booked o ops w t turn → Next law whole ops w (turned w t turn)
    turned_deep t turn good booked = (o, booked.new, go booked.phase, viable_was law o ops whole w t turn deep good booked, turned_before law whole o ops w deep t turn good booked)
      where
        go : PhaseTurn w t turn → Deep o booked.new whole (turned w t turn)
        go (starts one view u e idle votes) = begun_deep law o ops whole w t turn deep good booked one view u e idle votes
        go (goes_on none stay) = ⊎_elim
            (λ done. let c = good.fine.commits done in
            ⊎_elim (λ votes. commits_deep law o ops whole w t turn deep good booked none done c.0 c.1 votes) (λ first. absurd (let f : [] ≡ t ∷ [] = sym none ∙ first.0 in cc)) (booked.votes done c.0 c.1))
            (λ not_. quiet_deep law o ops whole w t turn deep good booked not_ none) (by_test (is_committed turn.deeds t))

    turns_deep : (t : Name) (turn : Transition L) → Good o w t turn → Booked o ops w t turn → Next law whole ops w (turns w t turn)
    turns_deep t turn good booked = either (Next law whole ops w) (is_desk_within (desk_after w.desk t turn.txn)) (turned w t turn) w (turned_deep t turn good booked) (no_event law whole o ops w deep)

    letter_deep : (kept : Bool) (choice : Choice L) (l : Letter L) → Fits o w.desk w.past w.sites l → TellsBody (ops l.site) (w.sites l.site) l.body → In l w.letters → (desk : Bool) → Next law whole ops w (comes_to desk w kept choice l)
    letter_deep kept choice l fits tells here false = comes_deep law whole o ops w l.site deep l.txn kept l.body fits.0 fits.1 tells
    letter_deep kept choice l fits tells here true = turns_deep l.txn (on_desk_letter l.txn l.site kept choice l.body (w.desk.txn l.txn))
        (letter_good law o w l.txn deep.base.fit l.site kept choice l.body (w.desk.txn l.txn) refl fits.0 fits.1 here)
        (letter_booked law o ops w l.txn deep.base.fit (deep.base.book l.txn) l.site kept choice l.body (w.desk.txn l.txn) refl fits.1 here)

    delivered_deep : (kept : Bool) (choice : Choice L) (n : ℕ) (l : Option (Letter L)) → slice_get w.letters n ≡ l → Next law whole ops w (delivered w kept choice l)
    delivered_deep kept choice n None e = no_event law whole o ops w deep
    delivered_deep kept choice n (Some l) e = letter_deep kept choice l (every_at (Fits o w.desk w.past w.sites) w.letters n l deep.base.fit.letters e)
        (every_at (λ l. TellsBody (ops l.site) (w.sites l.site) l.body) w.letters n l deep.base.tells e) (in_at w.letters n l e) (is_for_desk l.body)

  module _ (o : L.Site → Name → Name) (ops : L.Site → Name → List (Op L)) (w : World L) (deep : Deep o ops whole w) where
    same_world : Next law whole ops w w
    same_world = no_event law whole o ops w deep

    -- a request
    asks_deep : (t : Name) (choice : Choice L) (request : Request L) → Next law whole ops w (called w t choice request)
    asks_deep t choice request = turns_deep o ops w deep t (on_request t choice request (w.desk.txn t)) (request_good law o w t deep.base.fit choice request (w.desk.txn t) refl)
        (request_booked law o ops w t deep.base.fit (deep.base.book t) choice request (w.desk.txn t) refl)

    -- a refragmentation begins, and states its statement at once, by which nobody is committed
    moves_deep : (s : L.Statement) (choice : Choice L) → Next law whole ops w (turned (begun true w) (next_txn w.desk) (first_turn w s choice))
    moves_deep s choice =
        let t = next_txn w.desk in
        let v = begun true w in
        let began = begun_deep_event o ops w deep true in
        let known : v.desk.txn t ≡ Known (fresh_as true) = put_here same same_law t (Known (fresh_as true)) w.desk.txn in
        let next = turned_deep o ops v began t (first_turn w s choice) (request_good law o v t began.base.fit choice (State s) (Known (fresh_as true)) known)
        (request_booked law o ops v t began.base.fit (began.base.book t) choice (State s) (Known (fresh_as true)) known) in (
          next.0,
          next.1,
          next.2,
          (λ j here viable. begun_was o ops w deep true j here (next.3 j (subst (In j) (sym (flat_map-append phased_of w.past (Began t ∷ []) ∙ append-nil (phases_of w.past))) here) viable)),
          λ j done. inl (was_before o w deep.base.fit j (sym (or_false (is_committed v.past j)) ∙ ap (λ b. is_committed v.past j || b) (sym (state_commits_none {L = L} t (fresh_as true) s choice j)) ∙ sym (list_any-append (commits_it j) v.past (first_turn w s choice).deeds) ∙ done)),
        )

    -- every event
    pub happens_deep : (e : Event L) → Next law whole ops w (happens w e)
    happens_deep Begin = either (Next law whole ops w) (may_begin w) _ w (either (Next law whole ops w) (is_desk_within (desk_began w.desk)) (begun false w) w (o, ops, begun_deep_event o ops w deep false, begun_was o ops w deep false, λ t done. inl (was_before o w deep.base.fit t done)) same_world) same_world
    happens_deep (Refragment s choice) = either (Next law whole ops w) (may_move w s) _ w (either (Next law whole ops w) (is_desk_within (begun true w).desk && is_desk_within (desk_after (begun true w).desk (next_txn w.desk) (first_turn w s choice).txn)) _ w (moves_deep s choice) same_world) same_world
    happens_deep (Call t request choice) = either (Next law whole ops w) (may_ask w t request) _ w (asks_deep t choice request) same_world
    happens_deep (Deliver n kept choice) = delivered_deep o ops w deep kept choice n (slice_get w.letters n) refl
    happens_deep (Site_gives_up a k) = either (Next law whole ops w) (is_site L a L.sites) _ w (o, ops, give_up_deep law whole o ops w a deep k, (λ t here. give_up_viable law whole o ops w a deep k t), site_commits law whole ops w a (site_after (w.sites a) (on_give_up k ((w.sites a).status k))) []) same_world
    happens_deep (Site_inquires a) = either (Next law whole ops w) (is_site L a L.sites) _ w (o, ops, inquires_deep o ops w deep a, inquires_was o ops w deep a, λ t done. inl done) same_world
    happens_deep (Site_restarts a kept) = either (Next law whole ops w) (is_site L a L.sites) _ w
        (either (Next law whole ops w) kept _ w (o, ops, restart_deep law whole o ops w a deep, (λ t here. restart_viable law whole o ops w a deep t), site_commits law whole ops w a (site_restarted (w.sites a)) []) same_world) same_world
    happens_deep (Desk_restarts kept) = either (Next law whole ops w) kept _ w
        (either (Next law whole ops w) (is_desk_within (desk_restarted w.desk)) (desk_lives w) w (o, ops, lives_deep o ops w deep, lives_was o ops w deep, λ t done. inl (lives_before o w deep.base.fit t done)) same_world) same_world

  pub run_deep : (events : List (Event L)) (w : World L) → IsDeep law whole w → IsDeep law whole (run events w)
  run_deep [] w deep = deep
  run_deep (e ∷ es) w deep = let next = happens_deep deep.0 deep.1 w deep.2 e in run_deep es (happens w e) (next.0, next.1, next.2)

  -- an opening
  pub opening_deep : (w : World L) → IsOpening whole w → IsDeep law whole w
  opening_deep w opening =
      let base = opening_base law whole w opening in (
        λ a k. k,
        λ a k. [],
        record {
          base = base;
          line = subst (λ p. Line (works p) (is_committed p) (Counts (λ a k. []) w) (settled w) (λ g. L.content g whole) (phases_of p)) (sym opening.past)
              (λ g. settled_none law (λ a k. k) (λ a k. []) w base g (λ k. ap (changes_it w.past g) (opening.visits (L.home g) k)) ∙ opening.rebuilt g);
          two = subst (λ p. Two (works p) (is_committed p) (Counts (λ a k. []) w) (Viable (λ a k. []) w) (phases_of p)) (sym opening.past) tt;
        },
      )
