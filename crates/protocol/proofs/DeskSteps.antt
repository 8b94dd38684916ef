-- Each request and each letter at the coordinator keeps what letters, prepared rows and transactions say.
use Rattle.std.proofs.Common.{◌≡◌, refl, sym, ap, ◌∙◌, subst, ℕ, Bool, true, false, List, [], ◌∷◌, ◌++◌, map, inl, ⊎_elim, Option, Some, None}
use Rattle.std.specs.List.{list_any}
use Rattle.protocol.specs.Language.{Lang, IsLawful, Name, same, put}
use Rattle.protocol.specs.Letter.{Yes, No, Read, Vote, Body, Prepare, Commit, Abort, Ticket, Voted, Ack, Letter}
use Rattle.protocol.specs.Site.{is_dead}
use Rattle.protocol.specs.Desk.{Ask, Stage, Idle, Reading, Voting, Undecided, Txn, Unknown, Known, Row, Choice, Deed, Stated, Worked, Phased, Aborted, Rolled_back, By_vote, By_refusal, Given_up, Transition, Request, desk_after, stays, states, works, ends_by, phases, votes_go, decides, voters_of, are_all_in, when, to_prepare, on_request, with_rows, is_pair, are_acked, on_desk_letter}
use Rattle.protocol.specs.World.{World, is_site}
use Rattle.protocol.specs.Serial.{is_committed}
use Rattle.protocol.proofs.DeskTable.{Cause, asked, came, Turned, ticketed, rests, accepts, begins_phase, rolls_back, is_given_up, takes_ticket, fetches, writes, turns_away, takes_rows, evaluates, is_refused, counts_no, counts_vote, presumes_abort, tells_abort, tells_commit, counts_ack, lets_row_go, request_turned, letter_turned}
use Rattle.protocol.proofs.Basics.{every_append, Every, In, put_all, every_in, clash, same_law, either, some_is, found, all_in, left_true, right_true}
use Rattle.protocol.proofs.Fits.{Drawn, Born, is_voting, Own, OwnVoting, IsCommitted, FitsBody, Fits, VoteAt, KnownAt, Gone, Votes, Fit}
use Rattle.protocol.proofs.SiteFits.{not_prepared}
use Rattle.protocol.proofs.DeskFits.{Grows, grows_same, TurnFine, turn_later, letters_desk, split}
use Rattle.protocol.proofs.Turns.{known_is, und_put, still_fine, goes_fine, ends_fine, not_yet, every_letter}
use Rattle.protocol.proofs.Deciding.{voters_is, acked_is, ends_letters, votes_fine, votes_letters}
use Rattle.protocol.proofs.Going.{Good, known_at, grows_to, first_none, first_opens, asks_good, writes_good}

module _ {L : Lang} where
  pub votes_is : (f g : L.Site → Option Vote) → (let s : Stage L = Voting f in s ≡ Voting g) → f ≡ g
  votes_is f g e = cc

  pub prepares_to : (u : Undecided L) (a : L.Site) (b : Body L) (x : Bool) (m : Option Name) → u.ticket a ≡ m → when x (to_prepare u a m) ≡ Some b → (k : Name) × Own a k u × (b ≡ Prepare k (u.sent a))
  prepares_to u a b true None e f = cc
  prepares_to u a b true (Some k) e f = (k, e, sym (some_is f))
  prepares_to u a b false m e f = cc

  -- a transaction that still counts votes is voting
  pub votes_voting : (t : Name) (u : Undecided L) (votes : L.Site → Option Vote) (y : Undecided L) → (votes_go t u votes true).txn ≡ Known y → is_voting y.stage ≡ true
  votes_voting t u votes y = either (λ (turn : Transition L). turn.txn ≡ Known y → is_voting y.stage ≡ true) (are_all_in u votes) _ _
      (go (voters_of u votes)) (λ g. ap (λ z. is_voting z.stage) (sym (known_is (record u { stage = Voting votes }) y g)))
    where
      go : (xs : List (L.Site × Name)) → (decides t (record u { stage = Voting votes }) true xs).txn ≡ Known y → is_voting y.stage ≡ true
      go [] g = cc
      go (x ∷ xs) g = cc

  module _ (law : IsLawful L) (o : L.Site → Name → Name) (w : World L) (t : Name) (fit : Fit o w) where
    pub still_good : (x : Txn L) (letters : List (Letter L)) → w.desk.txn t ≡ x → Every (Fits o w.desk w.past w.sites) letters → Good o w t (record { txn = x; letters = letters; deeds = [] })
    still_good x letters e fits =
        let fine = still_fine o w t fit x letters e in
        record { fine = fine; letters = letters_desk o w (desk_after w.desk t x) (w.past ++ []) fit (turn_later o w t (record { txn = x; letters = letters; deeds = [] }) fit fine) letters fits }

    module _ (u : Undecided L) (e : w.desk.txn t ≡ Known u) where
      pub ends_good : (v : Undecided L) (d : Deed L) → ((a : L.Site) (k : Name) → Own a k v → Own a k u) → ((j : Name) → is_committed (d ∷ []) j ≡ false) → Good o w t (ends_by t v d)
      ends_good v d own none = record { fine = ends_fine o w t fit u (ends_by t v d).letters (d ∷ []) e none; letters = ends_letters law o w t fit u e v d own none }

      same_good : Good o w t (stays (Known u))
      same_good = still_good (Known u) [] e tt

      state_good : (s : L.Statement) (choice : Choice L) (asks : List (Ask L)) → is_voting u.stage ≡ false → Good o w t (record (states t u s asks choice) { deeds = Stated t s ∷ (states t u s asks choice).deeds })
      state_good s choice [] quiet = let own = fit.known t u e in let leaves = map (λ (x : L.Leaf × L.Write). x.0) choice.1 in writes_good law o w t fit u e quiet u (grows_same u) own _ _ (first_opens law o w t fit u e quiet u (grows_same u) own leaves) choice.0 choice.1 (λ deeds. Stated t s ∷ Worked t s [] choice ∷ deeds) (λ j. refl) (λ j. refl)
      state_good s choice (q ∷ qs) quiet = let own = fit.known t u e in let leaves = map (λ (q : Ask L). q.leaf) (q ∷ qs) in asks_good law o w t fit u e quiet u (grows_same u) own _ _ (first_opens law o w t fit u e quiet u (grows_same u) own leaves) s (q ∷ qs) (Stated t s ∷ []) (λ j. refl)

      none_known : KnownAt o w.sites w.letters t (record u { stage = Voting (λ a. None) })
      none_known = record {
        tickets = (fit.known t u e).tickets;
        votes = λ votes is a x counted. absurd (no_vote votes is a x counted);
        none = λ votes is a counted. no_vote votes is a No counted;
        named = λ votes is a x counted. absurd (no_vote votes is a x counted);
        reads = λ votes is a k counted own. absurd (no_vote votes is a Read counted);
      }
        where
          no_vote : (votes : L.Site → Option Vote) → (let s : Stage L = Voting (λ a. None) in s ≡ Voting votes) → (a : L.Site) (x : Vote) → votes a ≡ Some x → ⊥
          no_vote votes is a x counted =
              let f = ap (λ h. h a) (votes_is (λ b. None) votes is) ∙ counted in cc

      phases_good : u.stage ≡ Idle → Good o w t (phases t u)
      phases_good f =
          let v = record u { stage = Voting (λ a. None) } in
          let grows : Grows u v = record { ticket = λ a k is. is; visited = λ a is. is; voting = λ is. refl } in
          let fine : TurnFine o w t (phases t u) = votes_fine law o w t fit u e u (λ a. None) none_known true (phases t u).letters (Phased t ∷ []) (λ j. refl) (λ a k is. is) grows in
          record {
            fine = fine;
            letters = every_letter (Fits o (desk_after w.desk t (phases t u).txn) (w.past ++ (phases t u).deeds) w.sites) t (λ a. when (u.visited a) (to_prepare u a (u.ticket a))) L.sites
                (λ a b here said. let k = prepares_to u a b (u.visited a) (u.ticket a) refl said in
                let ticket = (fit.known t u e).tickets a k.0 k.1 in (
                  fit.born t u e,
                  subst (FitsBody o (desk_after w.desk t (phases t u).txn) (w.past ++ (phases t u).deeds) a (w.sites a) t) (sym k.2) (
                    ticket.0,
                    ticket.1,
                    und_put w.desk t (phases t u).txn (OwnVoting a k.0) (λ y g. (let gr = fine.grows y g in gr.2.ticket a k.0 (subst (Own a k.0) (known_is u gr.0 (sym e ∙ gr.1)) k.1), votes_voting t u (λ a. None) y g)),
                    λ done. ⊎_elim (λ was. absurd (not_yet o w t fit u e was)) (λ now. let c = fine.commits now.1 in c.3 a k.0 (subst (Own a k.0) (known_is u c.0 (sym e ∙ c.1)) k.1)) (split o w t (phases t u) fit fine t done),
                  ),
                ));
          }

    module _ (a : L.Site) where
      module _ (u : Undecided L) (e : w.desk.txn t ≡ Known u) where
        -- with a first ticket
        with_ticket : (k : Name) → u.ticket a ≡ None → FitsBody o w.desk w.past a (w.sites a) t (Ticket k) → Grows u (record u { ticket = put L.same_site a (Some k) u.ticket }) × KnownAt o w.sites w.letters t (record u { ticket = put L.same_site a (Some k) u.ticket })
        with_ticket k free (drawn, owner, site, visited) =
            let known = fit.known t u e in (
              record {
                ticket = λ b j own. put_all L.same_site law.sites a (Some k) u.ticket (λ b m. u.ticket b ≡ Some j → m ≡ Some j) (λ is. let f : None ≡ Some j = sym free ∙ is in cc) (λ b other is. is) b own;
                visited = λ b is. is;
                voting = λ is. is;
              },
              record {
                tickets = λ b j. put_all L.same_site law.sites a (Some k) u.ticket (λ b m. m ≡ Some j → Drawn (w.sites b) j × (o b j ≡ t) × (u.visited b ≡ true) × (is_site L b L.sites ≡ true))
                    (λ is. subst (λ n. Drawn (w.sites a) n × (o a n ≡ t) × (u.visited a ≡ true) × (is_site L a L.sites ≡ true)) (some_is is) (drawn, owner, visited u e, site)) (λ b other is. known.tickets b j is) b;
                votes = λ votes stage b x counted j. put_all L.same_site law.sites a (Some k) u.ticket (λ b m. votes b ≡ Some x → m ≡ Some j → VoteAt (w.sites b) t j x)
                    (λ here is. let n = known.named votes stage a x here in let f : None ≡ Some n.0 = sym free ∙ n.1 in cc) (λ b other there is. known.votes votes stage b x there j is) b counted;
                none = known.none;
                named = λ votes stage b x. put_all L.same_site law.sites a (Some k) u.ticket (λ b m. votes b ≡ Some x → (j : Name) × (m ≡ Some j)) (λ here. (k, refl)) (λ b other there. known.named votes stage b x there) b;
                reads = λ votes stage b j counted. put_all L.same_site law.sites a (Some k) u.ticket (λ b m. votes b ≡ Some Read → m ≡ Some j → In (record { site = b; txn = t; body = Voted j Read }) w.letters)
                    (λ here is. let n = known.named votes stage a Read here in let f : None ≡ Some n.0 = sym free ∙ n.1 in cc) (λ b other there is. known.reads votes stage b j there is) b counted;
              },
            )

        rows_good : (n : ℕ) (rows : L.Rows) (s : L.Statement) (asks : List (Ask L)) → u.stage ≡ Reading s asks → Good o w t (stays (Known (record u { stage = Reading s (map (with_rows s a n rows) asks) })))
        rows_good n rows s asks f =
            let more = map (with_rows s a n rows) asks in
            record {
              fine = goes_fine o w t fit u (record u { stage = Reading s more }) [] [] e (grows_to law o w t fit u e (ap is_voting f) u (grows_same u) (fit.known t u e) u.visited u.sent (Reading s more) (λ b is. is))
                  (known_at law o w t fit u e (ap is_voting f) u (grows_same u) (fit.known t u e) u.visited u.sent (Reading s more) (λ b is. is) refl) (λ j. refl);
              letters = tt;
            }

        works_good : (s : L.Statement) (asks : List (Ask L)) (choice : Choice L) → is_voting u.stage ≡ false → Good o w t (works t u s asks choice)
        works_good s asks choice quiet =
            let own = fit.known t u e in
            let leaves = map (λ (x : L.Leaf × L.Write). x.0) choice.1 in
            writes_good law o w t fit u e quiet u (grows_same u) own _ _ (first_opens law o w t fit u e quiet u (grows_same u) own leaves) choice.0 choice.1 (λ deeds. Worked t s asks choice ∷ deeds) (λ j. refl) (λ j. refl)

        module _ (votes : L.Site → Option Vote) (stage : u.stage ≡ Voting votes) (k : Name) (own : Own a k u) where
          voted_known : (x : Vote) → VoteAt (w.sites a) t k x → ((x ≡ No) → ⊥) → In (record { site = a; txn = t; body = Voted k x }) w.letters → KnownAt o w.sites w.letters t (record u { stage = Voting (put L.same_site a (Some x) votes) })
          voted_known x vote counts_ there_ =
              let known = fit.known t u e in
              let new = put L.same_site a (Some x) votes in
              record {
                tickets = known.tickets;
                votes = λ vs is b y counted j mine. put_all L.same_site law.sites a (Some x) votes (λ b m. m ≡ Some y → Own b j u → VoteAt (w.sites b) t j y)
                    (λ here its. subst (λ n. VoteAt (w.sites a) t n y) (some_is (sym own ∙ its)) (subst (VoteAt (w.sites a) t k) (some_is here) vote)) (λ b other there its. known.votes votes stage b y there j its) b
                    (ap (λ h. h b) (votes_is new vs is) ∙ counted) mine;
                none = λ vs is b counted. put_all L.same_site law.sites a (Some x) votes (λ b m. m ≡ Some No → ⊥) (λ here. counts_ (some_is here)) (λ b other there. known.none votes stage b there) b (ap (λ h. h b) (votes_is new vs is) ∙ counted);
                named = λ vs is b y counted. put_all L.same_site law.sites a (Some x) votes (λ b m. m ≡ Some y → (j : Name) × Own b j u) (λ here. (k, own)) (λ b other there. known.named votes stage b y there) b (ap (λ h. h b) (votes_is new vs is) ∙ counted);
                reads = λ vs is b j counted mine. put_all L.same_site law.sites a (Some x) votes (λ b m. m ≡ Some Read → Own b j u → In (record { site = b; txn = t; body = Voted j Read }) w.letters)
                    (λ here its. subst (λ n. In (record { site = a; txn = t; body = Voted n Read }) w.letters) (some_is (sym own ∙ its)) (subst (λ y. In (record { site = a; txn = t; body = Voted k y }) w.letters) (some_is here) there_))
                    (λ b other there its. known.reads votes stage b j there its) b (ap (λ h. h b) (votes_is new vs is) ∙ counted) mine;
              }

          votes_good : (kept : Bool) (x : Vote) → VoteAt (w.sites a) t k x → ((x ≡ No) → ⊥) → In (record { site = a; txn = t; body = Voted k x }) w.letters → Good o w t (votes_go t u (put L.same_site a (Some x) votes) kept)
          votes_good kept x vote counts_ there_ =
              let known = voted_known x vote counts_ there_ in
              record {
                fine = votes_fine law o w t fit u e u (put L.same_site a (Some x) votes) known kept (votes_go t u (put L.same_site a (Some x) votes) kept).letters [] (λ j. refl) (λ b j is. is) (record { ticket = λ b j is. is; visited = λ b is. is; voting = λ is. refl });
                letters = votes_letters law o w t fit u e u (put L.same_site a (Some x) votes) known kept (λ b j is. is);
              }

      -- an unknown transaction hears Abort; nothing of it is prepared if it was committed
      abort_unknown : (k : Name) → w.desk.txn t ≡ Unknown → Born w.desk t → Drawn (w.sites a) k → o a k ≡ t → Fits o w.desk w.past w.sites (record { site = a; txn = t; body = Abort k })
      abort_unknown k e born drawn owner = (
        born,
        (
          drawn,
          owner,
          (λ u f. let g : Unknown ≡ Known u = sym e ∙ f in cc),
          λ done. not_prepared ((w.sites a).status k) (λ j i row.
              let p = fit.prepared a k j i row in
              let is : j ≡ t = sym p.owner ∙ owner in
              let v = p.voter (subst (IsCommitted w.past) (sym is) done) in
              let g : Unknown ≡ Row v.0 v.1 = sym e ∙ subst (λ n. w.desk.txn n ≡ Row v.0 v.1) is v.2 in cc),
        ),
      )

      module _ (vs acked : List (L.Site × Name)) (e : w.desk.txn t ≡ Row vs acked) where
        row_acks : (new : List (L.Site × Name)) → Every (Gone w.sites) new → TurnFine o w t (stays (Row vs new))
        row_acks new gone = record {
          grows = λ z f. cc;
          known = λ z f. cc;
          rows = λ ws done f. let r = fit.rows t vs acked e in (inl r.0, subst (Every (Gone w.sites)) (sym (acked_is ws done vs new f)) gone, subst (Every (Votes o w.sites t)) (sym (voters_is ws done vs new f)) r.2);
          only = λ j other. refl;
          commits = λ done. cc;
          keeps = λ ws done f b k i here row. (new, ap (λ z. row_of z new) (voters_is vs acked ws done (sym f ∙ e)));
        }
          where
            row_of : List (L.Site × Name) → List (L.Site × Name) → Txn L
            row_of xs ys = Row xs ys

        -- when all voters have acknowledged, none is prepared
        row_goes : (new : List (L.Site × Name)) → Every (Gone w.sites) new → are_acked L vs new ≡ true → TurnFine o w t (stays Unknown)
        row_goes new gone all = record {
          grows = λ z f. cc;
          known = λ z f. cc;
          rows = λ ws done f. cc;
          only = λ j other. refl;
          commits = λ done. cc;
          keeps = λ ws done f b k i here row.
              let at = all_in (λ (v : L.Site × Name). list_any (is_pair L v.0 v.1) new) (b, k) vs all (subst (In (b, k)) (voters_is ws done vs acked (sym e ∙ f)) here) in
              let x = found (is_pair L b k) new at in
              let dead = every_in (Gone w.sites) new x.0 gone x.1 in
              let site : x.0.0 ≡ b = (law.sites x.0.0 b).0 (left_true (L.same_site x.0.0 b) (same x.0.1 k) x.2) in
              let name : x.0.1 ≡ k = (same_law x.0.1 k).0 (right_true (L.same_site x.0.0 b) (same x.0.1 k) x.2) in
              clash (subst (λ n. is_dead ((w.sites b).status n) ≡ true) name (subst (λ c. is_dead ((w.sites c).status x.0.1) ≡ true) site dead.1)) (ap is_dead row);
        }

        more_acked : (k : Name) → FitsBody o w.desk w.past a (w.sites a) t (Ack k) → Every (Gone w.sites) (acked ++ (a, k) ∷ [])
        more_acked k here = every_append (Gone w.sites) acked ((a, k) ∷ []) (fit.rows t vs acked e).1 ((here.0, here.2), tt)

    -- a vote fits a voting transaction's site
    vote_at_site : (a : L.Site) (k : Name) (u : Undecided L) → w.desk.txn t ≡ Known u → (v : Vote) → FitsBody o w.desk w.past a (w.sites a) t (Voted k v) → ((v ≡ No) → ⊥) → VoteAt (w.sites a) t k v
    vote_at_site a k u e Yes here not_no = here.2.1 u e
    vote_at_site a k u e No here not_no = absurd (not_no refl)
    vote_at_site a k u e Read here not_no = here.2.0

    -- what is known of what a turn comes of
    abbrev Comes : Cause L → Type 0
    Comes (asked request) = Unit {0}
    Comes (came a kept b) = Born w.desk t × FitsBody o w.desk w.past a (w.sites a) t b × In (record { site = a; txn = t; body = b }) w.letters

    turned_good : (choice : Choice L) (c : Cause L) (x : Txn L) (turn : Transition L) → w.desk.txn t ≡ x → Comes c → Turned t choice c x turn → Good o w t turn
    turned_good choice c x turn e comes (rests d y) = still_good y [] e tt
    turned_good choice c x turn e comes (accepts u s idle) = state_good u e s choice _ (ap is_voting idle)
    turned_good choice c x turn e comes (begins_phase u idle) = phases_good u e idle
    turned_good choice c x turn e comes (rolls_back u calm) = ends_good u e u (Rolled_back t) (λ a k is. is) (λ j. refl)
    turned_good choice c x turn e comes (is_given_up u) = ends_good u e u (Aborted t Given_up) (λ a k is. is) (λ j. refl)
    turned_good choice c x turn e comes (takes_ticket u a kept k free) = let both = with_ticket a u e k free comes.1 in record { fine = goes_fine o w t fit u (ticketed u a k) [] [] e both.0 both.1 (λ j. refl); letters = tt }
    turned_good choice c x turn e comes (fetches u a kept k s asks free stage) =
        let both = with_ticket a u e k free comes.1 in
        asks_good law o w t fit u e (ap is_voting stage) (ticketed u a k) both.0 both.1 u.visited [] (first_none law o w t fit u e (ap is_voting stage) (ticketed u a k) both.0 both.1) s asks [] (λ j. refl)
    turned_good choice c x turn e comes (writes u a kept k answer ws free stage) =
        let both = with_ticket a u e k free comes.1 in
        writes_good law o w t fit u e (ap is_voting stage) (ticketed u a k) both.0 both.1 u.visited [] (first_none law o w t fit u e (ap is_voting stage) (ticketed u a k) both.0 both.1) answer ws (λ deeds. deeds) (λ j. refl) (λ j. refl)
    turned_good choice c x turn e comes (turns_away u a kept k j own other) = still_good (Known u) (record { site = a; txn = t; body = Abort k } ∷ []) e
        ((fit.born t u e, (comes.1.0, comes.1.1, (λ v g. (j, subst (λ x. x.ticket a ≡ Some j) (known_is u v (sym e ∙ g)) own, other)), λ done. absurd (not_yet o w t fit u e done))), tt)
    turned_good choice c x turn e comes (takes_rows u a kept k n rows s asks own stage) = rows_good a u e n rows s asks stage
    turned_good choice c x turn e comes (evaluates u a kept k n rows s asks own stage all) = works_good a u e s (map (with_rows s a n rows) asks) choice (ap is_voting stage)
    turned_good choice c x turn e comes (is_refused u a kept k reason own calm) = ends_good u e u (Aborted t By_refusal) (λ b k is. is) (λ j. refl)
    turned_good choice c x turn e comes (counts_no u a kept k votes own stage) = ends_good u e (record u { stage = Voting (put L.same_site a (Some No) votes) }) (Aborted t By_vote) (λ b j is. is) (λ j. refl)
    turned_good choice c x turn e comes (counts_vote u a kept k v votes own stage not_no) = votes_good a u e votes stage k own kept v (vote_at_site a k u e v comes.1 not_no) not_no comes.2
    turned_good choice c x turn e comes (presumes_abort a kept k) = still_good Unknown (record { site = a; txn = t; body = Abort k } ∷ []) e (abort_unknown a k e comes.0 comes.1.0 comes.1.1, tt)
    turned_good choice c x turn e comes (tells_abort a kept k) = still_good Unknown (record { site = a; txn = t; body = Abort k } ∷ []) e (abort_unknown a k e comes.0 comes.1.0 comes.1.1, tt)
    turned_good choice c x turn e comes (tells_commit vs acked a kept k) = still_good (Row vs acked) (record { site = a; txn = t; body = Commit k } ∷ []) e ((comes.0, (comes.1.0, comes.1.1, (fit.rows t vs acked e).0, comes.1.2)), tt)
    turned_good choice c x turn e comes (counts_ack vs acked a kept k) = record { fine = row_acks a vs acked e (acked ++ (a, k) ∷ []) (more_acked a vs acked e k comes.1); letters = tt }
    turned_good choice c x turn e comes (lets_row_go vs acked a kept k all) = record { fine = row_goes a vs acked e (acked ++ (a, k) ∷ []) (more_acked a vs acked e k comes.1) all; letters = tt }

    -- a request
    pub request_good : (choice : Choice L) (request : Request L) (x : Txn L) → w.desk.txn t ≡ x → Good o w t (on_request t choice request x)
    request_good choice request x e = turned_good choice (asked request) x _ e tt (request_turned t choice request x)

    -- a letter from a site
    pub letter_good : (a : L.Site) (kept : Bool) (choice : Choice L) (b : Body L) (x : Txn L) → w.desk.txn t ≡ x → Born w.desk t → FitsBody o w.desk w.past a (w.sites a) t b → In (record { site = a; txn = t; body = b }) w.letters → Good o w t (on_desk_letter t a kept choice b x)
    letter_good a kept choice b x e born here there = turned_good choice (came a kept b) x _ e (born, here, there) (letter_turned t choice a kept b x)
