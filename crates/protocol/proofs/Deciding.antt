-- The coordinator decides: who voted Yes is prepared and a voter, who voted Read is gone.
use Rattle.std.proofs.Common.{◌≡◌, refl, sym, ap, ◌∙◌, subst, Bool, true, false, ◌&&◌, ◌||◌, not, List, [], ◌∷◌, ◌++◌, ◌⊎◌, inl, inr, ⊎_elim, Option, Some, None, is_some, if◌then◌else◌}
use Rattle.std.proofs.lemmas.List.Folds.{list_any-append}
use Rattle.protocol.specs.Language.{Lang, IsLawful, Name, same}
use Rattle.protocol.specs.Letter.{Yes, No, Read, Vote, Body, Abort, Voted, Letter}
use Rattle.protocol.specs.Site.{Status, Dead, Active, Prepared, is_dead, is_active}
use Rattle.protocol.specs.Desk.{Voting, Undecided, Txn, Unknown, Known, Row, Deed, Committed, Aborted, By_store, Transition, desk_after, ends_by, voter_at, voters_of, are_all_in, decides, votes_go, commits, may_hold, vote_at, to_abort, when}
use Rattle.protocol.specs.World.{World, is_site}
use Rattle.protocol.specs.Serial.{is_committed, commits_it}
use Rattle.protocol.proofs.Basics.{Every, In, every_more, every_flat, clash, same_law, same_refl, either, either_if, or_cases, or_left, or_right, not_true, by_test, found, all_in, in_flat, some_is, if_true}
use Rattle.protocol.proofs.Fits.{Own, FitsBody, Fits, KnownAt, Gone, Votes, Fit}
use Rattle.protocol.proofs.DeskFits.{Grows, TurnFine, split}
use Rattle.protocol.proofs.Turns.{und_put, goes_fine, ends_fine, not_yet, every_letter}

module _ {L : Lang} where
  pub voters_is : (ws acked vs done : List (L.Site × Name)) → let r : Txn L = Row vs done in r ≡ Row ws acked → ws ≡ vs
  voters_is ws acked vs done g = cc

  pub acked_is : (ws acked vs done : List (L.Site × Name)) → let r : Txn L = Row vs done in r ≡ Row ws acked → acked ≡ done
  acked_is ws acked vs done g = cc

module _ {L : Lang} (law : IsLawful L) where
  pub site_in : (a : L.Site) (sites : List L.Site) → is_site L a sites ≡ true → In a sites
  site_in a sites e = let f = found (λ b. L.same_site b a) sites e in subst (λ b. In b sites) ((law.sites f.0 a).0 f.2) f.1

  -- Aborts go to own tickets
  pub aborts_to : (u : Undecided L) (a : L.Site) (b : Body L) (x : Bool) (m : Option Name) → u.ticket a ≡ m → when x (to_abort m) ≡ Some b → (k : Name) × Own a k u × (b ≡ Abort k)
  aborts_to u a b true None e f = cc
  aborts_to u a b true (Some k) e f = (k, e, sym (some_is f))
  aborts_to u a b false m e f = cc

  module _ (o : L.Site → Name → Name) (w : World L) (t : Name) (fit : Fit o w) (u : Undecided L) (e : w.desk.txn t ≡ Known u) where
    -- the tickets of a transaction that ends hear Abort, which is true from then on
    pub ends_letters : (v : Undecided L) (d : Deed L) → ((a : L.Site) (k : Name) → Own a k v → Own a k u) → ((j : Name) → is_committed (d ∷ []) j ≡ false) →
        Every (Fits o (desk_after w.desk t Unknown) (w.past ++ d ∷ []) w.sites) (ends_by t v d).letters
    ends_letters v d own none = every_letter (Fits o (desk_after w.desk t Unknown) (w.past ++ d ∷ []) w.sites) t (λ a. when (v.visited a && may_hold (vote_at v.stage a)) (to_abort (v.ticket a))) L.sites
        (λ a b here said. let k = aborts_to v a b (v.visited a && may_hold (vote_at v.stage a)) (v.ticket a) refl said in
        let ticket = (fit.known t u e).tickets a k.0 (own a k.0 k.1) in (
          fit.born t u e,
          subst (FitsBody o (desk_after w.desk t Unknown) (w.past ++ d ∷ []) a (w.sites a) t) (sym k.2) (
            ticket.0,
            ticket.1,
            und_put w.desk t Unknown _ (λ x f. cc),
            λ done. absurd (⊎_elim (λ was. not_yet o w t fit u e was) (λ now. clash now.1 (none t)) (split o w t (record { txn = Unknown; letters = []; deeds = d ∷ [] }) fit (ends_fine o w t fit u [] (d ∷ []) e none) t done)),
          ),
        ))

    module _ (v : Undecided L) (votes : L.Site → Option Vote) (known : KnownAt o w.sites w.letters t v) (stage : v.stage ≡ Voting votes) where
      -- a voter voted Yes with its ticket
      abbrev IsVoter : L.Site × Name → Type 0
      IsVoter x = (votes x.0 ≡ Some Yes) × Own x.0 x.1 v

      voter_is : (a : L.Site) (x : Option Vote) (m : Option Name) → votes a ≡ x → v.ticket a ≡ m → Every IsVoter (voter_at a x m)
      voter_is a None m f g = tt
      voter_is a (Some Yes) None f g = tt
      voter_is a (Some Yes) (Some k) f g = ((f, g), tt)
      voter_is a (Some No) m f g = tt
      voter_is a (Some Read) m f g = tt

      pub voters_are : Every IsVoter (voters_of v votes)
      voters_are = every_flat IsVoter (λ a. if v.visited a then voter_at a (votes a) (v.ticket a) else []) L.sites
          (λ a. either (Every IsVoter) (v.visited a) (voter_at a (votes a) (v.ticket a)) [] (voter_is a (votes a) (v.ticket a) refl refl) tt)

      -- with all votes in, each site that has a ticket has voted
      pub has_voted : are_all_in v votes ≡ true → (a : L.Site) (k : Name) → Own a k v → is_some (votes a) ≡ true
      has_voted all a k own =
          let ticket = known.tickets a k own in
          let here = site_in a L.sites ticket.3 in
          ⊎_elim (λ n. clash ticket.2 (not_true (v.visited a) n)) (λ s. s) (or_cases (not (v.visited a)) (is_some (votes a)) (all_in (λ b. not (v.visited b) || is_some (votes b)) a L.sites all here))

      quiet_by : (a : L.Site) (k : Name) → Own a k v → (x : Option Vote) → votes a ≡ x → is_some x ≡ true → is_active ((w.sites a).status k) ≡ false
      quiet_by a k own None f some = cc
      quiet_by a k own (Some Yes) f some = ap is_active (known.votes votes stage a Yes f k own).1
      quiet_by a k own (Some No) f some = absurd (known.none votes stage a f)
      quiet_by a k own (Some Read) f some = dead_quiet ((w.sites a).status k) (known.votes votes stage a Read f k own)
        where
          dead_quiet : (st : Status L) → is_dead st ≡ true → is_active st ≡ false
          dead_quiet Dead d = refl
          dead_quiet (Active x) d = cc
          dead_quiet (Prepared n i) d = refl

      dead_read : (a : L.Site) (k : Name) → Own a k v → (x : Option Vote) → votes a ≡ x → is_some x ≡ true → (is_dead ((w.sites a).status k) ≡ false) ⊎ In (record { site = a; txn = t; body = Voted k Read }) w.letters
      dead_read a k own None f some = cc
      dead_read a k own (Some Yes) f some = inl (ap is_dead (known.votes votes stage a Yes f k own).1)
      dead_read a k own (Some No) f some = absurd (known.none votes stage a f)
      dead_read a k own (Some Read) f some = inr (known.reads votes stage a k f own)

      pub all_quiet : are_all_in v votes ≡ true → (a : L.Site) (k : Name) → Own a k v → is_active ((w.sites a).status k) ≡ false
      all_quiet all a k own = quiet_by a k own (votes a) refl (has_voted all a k own)

      yes_by : (a : L.Site) (k : Name) (i : L.Intentions) → Own a k v → (w.sites a).status k ≡ Prepared t i → (x : Option Vote) → votes a ≡ x → is_some x ≡ true → votes a ≡ Some Yes
      yes_by a k i own row None f some = cc
      yes_by a k i own row (Some Yes) f some = f
      yes_by a k i own row (Some No) f some = absurd (known.none votes stage a f)
      yes_by a k i own row (Some Read) f some = clash (known.votes votes stage a Read f k own) (ap is_dead row)

      -- who is prepared is a voter
      pub prepared_votes : are_all_in v votes ≡ true → (a : L.Site) (k : Name) (i : L.Intentions) → Own a k v → (w.sites a).status k ≡ Prepared t i → In (a, k) (voters_of v votes)
      prepared_votes all a k i own row =
          let ticket = known.tickets a k own in
          let yes = yes_by a k i own row (votes a) refl (has_voted all a k own) in
          in_flat (λ b. if v.visited b then voter_at b (votes b) (v.ticket b) else []) a (a, k) L.sites (site_in a L.sites ticket.3)
          (rw (if_true (v.visited a) (voter_at a (votes a) (v.ticket a)) [] ticket.2, yes, own) (inl refl))

      votes_of_voters : (x : L.Site × Name) → IsVoter x → Votes o w.sites t x
      votes_of_voters x is = let ticket = known.tickets x.0 x.1 is.1 in (ticket.0, ticket.1, ap is_active (known.votes votes stage x.0 Yes is.0 x.1 is.1).1)

      -- the transaction is committed, with its commit row where somebody voted Yes
      commit_fine : (x : Txn L) (letters : List (Letter L)) (before : List (Deed L)) → ((j : Name) → is_committed before j ≡ false) → ((a : L.Site) (k : Name) → Own a k u → Own a k v) → are_all_in v votes ≡ true →
          ((z : Undecided L) → x ≡ Known z → ⊥) → ((ws acked : List (L.Site × Name)) → x ≡ Row ws acked → (ws ≡ voters_of v votes) × (acked ≡ [])) →
          ((y : L.Site × Name) → In y (voters_of v votes) → (ws : List (L.Site × Name)) × (acked : List (L.Site × Name)) × (x ≡ Row ws acked) × In y ws) →
          TurnFine o w t (record { txn = x; letters = letters; deeds = before ++ Committed t ∷ [] })
      commit_fine x letters before none own all unknown row voter = record {
        grows = λ z f. absurd (unknown z f);
        known = λ z f. absurd (unknown z f);
        rows = λ ws acked f. let r = row ws acked f in (
          inr (list_any-append (commits_it t) before (Committed t ∷ []) ∙ or_right (is_committed before t) (same t t || false) (or_left (same t t) false (same_refl t))),
          subst (Every (Gone w.sites)) (sym r.1) tt,
          subst (Every (Votes o w.sites t)) (sym r.0) (every_more IsVoter (Votes o w.sites t) (voters_of v votes) votes_of_voters voters_are),
        );
        only = λ j other. list_any-append (commits_it j) before (Committed t ∷ []) ∙ both_false (is_committed before j) (same t j || false) (none j) (both_false (same t j) false (not_same j other) refl);
        commits = λ done. (u, e, unknown, λ a k mine. all_quiet all a k (own a k mine), λ a k mine. dead_read a k (own a k mine) (votes a) refl (has_voted all a k (own a k mine)), λ a k i mine held. voter (a, k) (prepared_votes all a k i (own a k mine) held));
        keeps = λ ws acked f. let g : Known u ≡ Row ws acked = sym e ∙ f in cc;
      }
        where
          both_false : (a b : Bool) → a ≡ false → b ≡ false → (a || b) ≡ false
          both_false true b f g = f
          both_false false b f g = g

          not_same : (j : Name) → same j t ≡ false → same t j ≡ false
          not_same j other = ⊎_elim (λ is. clash ((same_law j t).1 (sym ((same_law t j).0 is))) other) (λ no_. no_) (by_test (same t j))

      unkept_fine : (letters : List (Letter L)) (before : List (Deed L)) → ((j : Name) → is_committed before j ≡ false) → TurnFine o w t (record { txn = Unknown; letters = letters; deeds = before ++ Aborted t By_store ∷ [] })
      unkept_fine letters before none = ends_fine o w t fit u letters (before ++ Aborted t By_store ∷ []) e (λ j. list_any-append (commits_it j) before (Aborted t By_store ∷ []) ∙ ap (λ b. b || false) (none j))

      commits_or_ends : (kept : Bool) (letters : List (Letter L)) (before : List (Deed L)) → ((j : Name) → is_committed before j ≡ false) → ((a : L.Site) (k : Name) → Own a k u → Own a k v) → are_all_in v votes ≡ true →
          (xs : List (L.Site × Name)) → voters_of v votes ≡ xs → TurnFine o w t (record { txn = (decides t v kept xs).txn; letters = letters; deeds = before ++ (decides t v kept xs).deeds })
      commits_or_ends kept letters before none own all [] f = either (λ (turn : Transition L). TurnFine o w t (record { txn = turn.txn; letters = letters; deeds = before ++ turn.deeds })) (kept || not v.moves) _ _
          (commit_fine Unknown letters before none own all (λ z g. cc) (λ ws acked g. cc) (λ y here. absurd (subst (In y) f here))) (unkept_fine letters before none)
      commits_or_ends true letters before none own all (x ∷ xs) f = commit_fine (Row (x ∷ xs) []) letters before none own all (λ z g. cc)
          (λ ws acked g. (voters_is ws acked (x ∷ xs) [] g ∙ sym f, acked_is ws acked (x ∷ xs) [] g)) (λ y here. (x ∷ xs, [], refl, subst (In y) f here))
      commits_or_ends false letters before none own all (x ∷ xs) f = unkept_fine letters before none

  -- a vote more, or the first phase that begins
  module _ (o : L.Site → Name → Name) (w : World L) (t : Name) (fit : Fit o w) (u : Undecided L) (e : w.desk.txn t ≡ Known u) (v : Undecided L) (votes : L.Site → Option Vote) (known : KnownAt o w.sites w.letters t (record v { stage = Voting votes })) where
    pub votes_fine : (kept : Bool) (letters : List (Letter L)) (before : List (Deed L)) → ((j : Name) → is_committed before j ≡ false) → ((a : L.Site) (k : Name) → Own a k u → Own a k v) → Grows u (record v { stage = Voting votes }) →
        TurnFine o w t (record { txn = (votes_go t v votes kept).txn; letters = letters; deeds = before ++ (votes_go t v votes kept).deeds })
    votes_fine kept letters before none own grows = either_if (λ (turn : Transition L). TurnFine o w t (record { txn = turn.txn; letters = letters; deeds = before ++ turn.deeds })) (are_all_in v votes) _ _
        (λ all. commits_or_ends o w t fit u e (record v { stage = Voting votes }) votes known refl kept letters before none own all (voters_of v votes) refl)
        (λ waits. goes_fine o w t fit u (record v { stage = Voting votes }) letters (before ++ []) e grows known (λ j. list_any-append (commits_it j) before [] ∙ ap (λ b. b || false) (none j)))

    -- the letters of a decision
    decided_letters : (kept : Bool) → are_all_in v votes ≡ true → ((a : L.Site) (k : Name) → Own a k v → Own a k u) → (xs : List (L.Site × Name)) → voters_of v votes ≡ xs →
        Every (Fits o (desk_after w.desk t (decides t (record v { stage = Voting votes }) kept xs).txn) (w.past ++ (decides t (record v { stage = Voting votes }) kept xs).deeds) w.sites) (decides t (record v { stage = Voting votes }) kept xs).letters
    decided_letters kept all own [] f = either (λ (turn : Transition L). Every (Fits o (desk_after w.desk t turn.txn) (w.past ++ turn.deeds) w.sites) turn.letters) (kept || not v.moves) _ _ tt
        (ends_letters o w t fit u e (record v { stage = Voting votes }) (Aborted t By_store) own (λ j. refl))
    decided_letters true all own (x ∷ xs) f =
        let d = desk_after w.desk t (Row (x ∷ xs) []) in
        let are = subst (Every (λ y. (votes y.0 ≡ Some Yes) × Own y.0 y.1 v)) f (voters_are o w t fit u e (record v { stage = Voting votes }) votes known refl) in
        every_commit (x ∷ xs) are
      where
        every_commit : (ys : List (L.Site × Name)) → Every (λ y. (votes y.0 ≡ Some Yes) × Own y.0 y.1 v) ys → Every (Fits o (desk_after w.desk t (Row (x ∷ xs) [])) (w.past ++ Committed t ∷ []) w.sites) (commits t ys)
        every_commit [] are = tt
        every_commit (y ∷ ys) are =
            let is = votes_of_voters o w t fit u e (record v { stage = Voting votes }) votes known refl y are.0 in
            ((fit.born t u e, (is.0, is.1, list_any-append (commits_it t) w.past (Committed t ∷ []) ∙ or_right (is_committed w.past t) (same t t || false) (or_left (same t t) false (same_refl t)), is.2)), every_commit ys are.1)
    decided_letters false all own (x ∷ xs) f = ends_letters o w t fit u e (record v { stage = Voting votes }) (Aborted t By_store) own (λ j. refl)

    pub votes_letters : (kept : Bool) → ((a : L.Site) (k : Name) → Own a k v → Own a k u) →
        Every (Fits o (desk_after w.desk t (votes_go t v votes kept).txn) (w.past ++ (votes_go t v votes kept).deeds) w.sites) (votes_go t v votes kept).letters
    votes_letters kept own = either_if (λ (turn : Transition L). Every (Fits o (desk_after w.desk t turn.txn) (w.past ++ turn.deeds) w.sites) turn.letters) (are_all_in v votes) _ _
        (λ all. decided_letters kept all own (voters_of v votes) refl) (λ waits. tt)
