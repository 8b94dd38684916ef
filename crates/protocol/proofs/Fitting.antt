-- Contents that fit stay so through each step of one client.
use Rattle.std.proofs.Common.{◌≡◌, sym, ap, ◌∙◌, subst, ℕ, suc, ◌&&◌, Bool, true, false, List, [], ◌∷◌, map, Option, Some, None, ◌||◌, not}
use Rattle.protocol.specs.Language.{Lang, IsLawful, Name, same, put}
use Rattle.protocol.specs.Letter.{Vote, No, Body, Open, Fetch, Write, Prepare, Commit, Abort, Ticket, Rows, Refused, Voted, Ack, Inquire, Letter, is_for_desk}
use Rattle.protocol.specs.Site.{on_letter, site_after, said, is_within}
use Rattle.protocol.specs.Desk.{Ask, Choice, Voting, Undecided, Txn, Known, Deed, Rolled_back, Aborted, Given_up, By_refusal, By_vote, By_store, Transition, fresh, stays, ask_of, write_out, writes_out, is_new, opening, opens, visits, asks_go, writing, writes_go, after_letters, works, states, to_prepare, when, vote_at, to_abort, may_hold, ends_by, commits, decides, voters_of, are_all_in, votes_go, phases, on_request, with_rows, on_desk_letter, next_txn, desk_began, desk_after, is_desk_within}
use Rattle.protocol.specs.World.{World, begun, begins, turned, turns, with_site, site_steps, addressed, comes_to}
use Rattle.protocol.specs.Serial.{IsOpening}
use Rattle.protocol.specs.Client.{first, next, rest_of, loses}
use Rattle.protocol.specs.StatementCourse.{RowsFit}
use Rattle.protocol.specs.Fitting.{Suits, StatusFits, BodyFits, StageFits, TxnFits, SiteFitting, Fitting, FittingLaw}
use Rattle.protocol.proofs.DeskTable.{Cause, Turned, ticketed, rests, accepts, begins_phase, rolls_back, is_given_up, takes_ticket, fetches, writes, turns_away, takes_rows, evaluates, is_refused, counts_no, counts_vote, presumes_abort, tells_abort, tells_commit, counts_ack, lets_row_go, request_turned, letter_turned}
use Rattle.protocol.proofs.Basics.{Every, every_append, either, put_all, same_law, some_is}
use Rattle.protocol.proofs.Turns.{every_letter}
use Rattle.protocol.proofs.Going.{asks_each, opening_is}
use Rattle.protocol.proofs.FittingSites.{letter_fits}

module _ {L : Lang} (law : IsLawful L) (fits : L.Leaf → L.Content → Bool) where
  abbrev LetterFits : Letter L → Type 0
  LetterFits l = BodyFits L fits l.body

  -- a turn after which what waits and what goes out fits
  abbrev TurnFits : Transition L → Type 0
  TurnFits turn = TxnFits L fits turn.txn × Every LetterFits turn.letters

  opens_fit : (t : Name) (u : Undecided L) (leaves : List L.Leaf) → Every LetterFits (opens t u leaves)
  opens_fit t u leaves = every_letter LetterFits t (λ a. opening (is_new u leaves a)) L.sites (λ a b here e. subst (BodyFits L fits) (sym (opening_is (is_new u leaves a) b e).1) tt)

  abort_fits : (b : Bool) (tk : Option Name) (c : Body L) → when b (to_abort tk) ≡ Some c → BodyFits L fits c
  abort_fits true (Some k) c e = subst (BodyFits L fits) (some_is e) tt
  abort_fits true None c e = cc
  abort_fits false tk c e = cc

  prepare_fits : (b : Bool) (u : Undecided L) (a : L.Site) (tk : Option Name) (c : Body L) → when b (to_prepare u a tk) ≡ Some c → BodyFits L fits c
  prepare_fits true u a (Some k) c e = subst (BodyFits L fits) (some_is e) tt
  prepare_fits true u a None c e = cc
  prepare_fits false u a tk c e = cc

  ends_fit : (t : Name) (u : Undecided L) (d : Deed L) → TurnFits (ends_by t u d)
  ends_fit t u d = (tt, every_letter LetterFits t (λ a. when (u.visited a && may_hold (vote_at u.stage a)) (to_abort (u.ticket a))) L.sites (λ a c here e. abort_fits _ (u.ticket a) c e))

  stays_fit : (x : Txn L) → TxnFits L fits x → TurnFits (stays x)
  stays_fit x fit = (fit, tt)

  writes_fit : (t : Name) (ticket : L.Site → Option Name) (ws : List (L.Leaf × L.Write)) (sent : L.Site → ℕ) → Every (Suits L fits) ws → Every LetterFits (writes_out {L = L} t ticket ws sent).letters × Every (Suits L fits) (writes_out {L = L} t ticket ws sent).left
  writes_fit t ticket [] sent all = (tt, tt)
  writes_fit t ticket (x ∷ ws) sent all = go (ticket (L.home x.0)) (λ sent. writes_fit t ticket ws sent all.1)
    where
      go : (k : Option Name) → ((sent : L.Site → ℕ) → Every LetterFits (writes_out {L = L} t ticket ws sent).letters × Every (Suits L fits) (writes_out {L = L} t ticket ws sent).left) → Every LetterFits (write_out {L = L} t x k sent (writes_out t ticket ws)).letters × Every (Suits L fits) (write_out {L = L} t x k sent (writes_out t ticket ws)).left
      go None rest = let r = rest sent in (r.0, (all.0, r.1))
      go (Some k) rest = let r = rest (put L.same_site (L.home x.0) (suc (sent (L.home x.0))) sent) in ((all.0, r.0), r.1)

  writing_fit : (t : Name) (u : Undecided L) (answer : L.Answer) (sent : L.Site → ℕ) (left : List (L.Leaf × L.Write)) (letters : List (Letter L)) → Every (Suits L fits) left → Every LetterFits letters → TurnFits (writing t u answer sent left letters)
  writing_fit t u answer sent [] letters all out = (tt, out)
  writing_fit t u answer sent (x ∷ left) letters all out = (all, out)

  writes_go_fit : (t : Name) (u : Undecided L) (answer : L.Answer) (ws : List (L.Leaf × L.Write)) → Every (Suits L fits) ws → TurnFits (writes_go t u answer ws)
  writes_go_fit t u answer ws all = let out = writes_fit t u.ticket ws u.sent all in writing_fit t u answer _ _ _ out.1 out.0

  asks_go_fit : (t : Name) (u : Undecided L) (s : L.Statement) (asks : List (Ask L)) → TurnFits (asks_go t u s asks)
  asks_go_fit t u s asks = (tt, asks_each LetterFits t u.ticket (λ g q k n e. tt) asks u.sent)

  after_opens : (t : Name) (u : Undecided L) (leaves : List L.Leaf) (turn : Transition L) → TurnFits turn → TurnFits (after_letters (opens t u leaves) turn)
  after_opens t u leaves turn fit = (fit.0, every_append LetterFits (opens t u leaves) turn.letters (opens_fit t u leaves) fit.1)

  module _ (t : Name) (choice : Choice L) (suits : Every (Suits L fits) choice.1) where
    works_fit : (u : Undecided L) (s : L.Statement) (asks : List (Ask L)) → TurnFits (works t u s asks choice)
    works_fit u s asks = let leaves = map (λ (x : L.Leaf × L.Write). x.0) choice.1 in after_opens t u leaves (writes_go t (visits u leaves) choice.0 choice.1) (writes_go_fit t (visits u leaves) choice.0 choice.1 suits)

    states_fit : (u : Undecided L) (s : L.Statement) (asks : List (Ask L)) → TurnFits (states t u s asks choice)
    states_fit u s [] = works_fit u s []
    states_fit u s (q ∷ qs) = let leaves = map (λ (q : Ask L). q.leaf) (q ∷ qs) in after_opens t u leaves (asks_go t (visits u leaves) s (q ∷ qs)) (asks_go_fit t (visits u leaves) s (q ∷ qs))

    commits_fit : (voters : List (L.Site × Name)) → Every LetterFits (commits {L = L} t voters)
    commits_fit [] = tt
    commits_fit (v ∷ voters) = (tt, commits_fit voters)

    decides_fit : (u : Undecided L) (kept : Bool) (voters : List (L.Site × Name)) → TurnFits (decides t u kept voters)
    decides_fit u kept [] = either TurnFits (kept || not u.moves) _ _ (tt, tt) (ends_fit t u (Aborted t By_store))
    decides_fit u kept (v ∷ voters) = either TurnFits kept _ _ (tt, commits_fit (v ∷ voters)) (ends_fit t u (Aborted t By_store))

    votes_fit : (u : Undecided L) (votes : L.Site → Option Vote) (kept : Bool) → TurnFits (votes_go t u votes kept)
    votes_fit u votes kept = either TurnFits (are_all_in u votes) _ _ (decides_fit (record u { stage = Voting votes }) kept (voters_of u votes)) (tt, tt)

    phases_fit : (u : Undecided L) → TurnFits (phases t u)
    phases_fit u = ((votes_fit u (λ a. None) true).0, every_letter LetterFits t (λ a. when (u.visited a) (to_prepare u a (u.ticket a))) L.sites (λ a c here e. prepare_fits (u.visited a) u a (u.ticket a) c e))

    turned_fit : (c : Cause L) (x : Txn L) (turn : Transition L) → TxnFits L fits x → Turned t choice c x turn → TurnFits turn
    turned_fit c x turn fit (rests d y) = stays_fit y fit
    turned_fit c x turn fit (accepts u s idle) = states_fit u s (map ask_of (L.fetches s))
    turned_fit c x turn fit (begins_phase u idle) = phases_fit u
    turned_fit c x turn fit (rolls_back u calm) = ends_fit t u (Rolled_back t)
    turned_fit c x turn fit (is_given_up u) = ends_fit t u (Aborted t Given_up)
    turned_fit c x turn fit (takes_ticket u a kept k free) = stays_fit (Known (ticketed u a k)) fit
    turned_fit c x turn fit (fetches u a kept k s asks free stage) = asks_go_fit t (ticketed u a k) s asks
    turned_fit c x turn fit (writes u a kept k answer ws free stage) = writes_go_fit t (ticketed u a k) answer ws (subst (StageFits L fits) stage fit)
    turned_fit c x turn fit (turns_away u a kept k j own other) = (fit, (tt, tt))
    turned_fit c x turn fit (takes_rows u a kept k n rows s asks own stage) = (tt, tt)
    turned_fit c x turn fit (evaluates u a kept k n rows s asks own stage all) = works_fit u s (map (with_rows s a n rows) asks)
    turned_fit c x turn fit (is_refused u a kept k reason own calm) = ends_fit t u (Aborted t By_refusal)
    turned_fit c x turn fit (counts_no u a kept k votes own stage) = ends_fit t (record u { stage = Voting (put L.same_site a (Some No) votes) }) (Aborted t By_vote)
    turned_fit c x turn fit (counts_vote u a kept k v votes own stage not_no) = votes_fit u (put L.same_site a (Some v) votes) kept
    turned_fit c x turn fit (presumes_abort a kept k) = (tt, (tt, tt))
    turned_fit c x turn fit (tells_abort a kept k) = (tt, (tt, tt))
    turned_fit c x turn fit (tells_commit voters acked a kept k) = (tt, (tt, tt))
    turned_fit c x turn fit (counts_ack voters acked a kept k) = (tt, tt)
    turned_fit c x turn fit (lets_row_go voters acked a kept k all) = (tt, tt)

  -- ---- worlds
  turns_fit : (w : World L) (t : Name) (turn : Transition L) → TurnFits turn → Fitting L fits w → Fitting L fits (turns w t turn)
  turns_fit w t turn to fit = either (Fitting L fits) (is_desk_within (desk_after w.desk t turn.txn)) (turned w t turn) w (record {
    sites = fit.sites;
    letters = every_append LetterFits w.letters turn.letters fit.letters to.1;
    txns = put_all same same_law t turn.txn w.desk.txn (λ j x. TxnFits L fits x) to.0 (λ j other. fit.txns j);
  }) fit

  site_step_fits : (w : World L) (l : Letter L) (kept : Bool) → BodyFits L fits l.body → Fitting L fits w →
      let act = on_letter (w.sites l.site) l.txn kept l.body in
      Fitting L fits (site_steps w l.site (site_after (w.sites l.site) act) (addressed l.site l.txn (said (w.sites l.site) act)))
  site_step_fits w l kept suits fit =
      let s = w.sites l.site in
      let act = on_letter s l.txn kept l.body in
      let to = letter_fits law fits l.site s (fit.sites l.site) l.txn kept l.body suits in
      either (Fitting L fits) (is_within (site_after s act)) (with_site w l.site (site_after s act) (addressed l.site l.txn (said s act))) w (record {
        sites = put_all L.same_site law.sites l.site (site_after s act) w.sites (λ a x. SiteFitting L fits a x) to.0 (λ a other. fit.sites a);
        letters = every_append LetterFits w.letters (addressed l.site l.txn (said s act)) fit.letters (says (said s act) to.1);
        txns = fit.txns;
      }) fit
    where
      says : (replies : List (Body L)) → Every (BodyFits L fits) replies → Every LetterFits (addressed l.site l.txn replies)
      says [] all = tt
      says (c ∷ replies) all = (all.0, says replies all.1)

  next_fits : (w : World L) (kept : Bool) (choice : Choice L) → Every (Suits L fits) choice.1 → Fitting L fits w → Fitting L fits (next w kept choice)
  next_fits w kept choice suits fit = go w.letters fit.letters
    where
      at_ : (b : Bool) (l : Letter L) (q : List (Letter L)) → Every LetterFits (l ∷ q) → Fitting L fits (comes_to b (record w { letters = q }) kept choice l)
      at_ true l q all = turns_fit (record w { letters = q }) l.txn (on_desk_letter l.txn l.site kept choice l.body (w.desk.txn l.txn)) (turned_fit l.txn choice suits _ _ _ (fit.txns l.txn) (letter_turned l.txn choice l.site kept l.body (w.desk.txn l.txn))) (record { sites = fit.sites; letters = all.1; txns = fit.txns })
      at_ false l q all = site_step_fits (record w { letters = q }) l kept all.0 (record { sites = fit.sites; letters = all.1; txns = fit.txns })

      go : (letters : List (Letter L)) → Every LetterFits letters → Fitting L fits (first w kept choice letters)
      go [] all = fit
      go (l ∷ q) all = at_ (is_for_desk l.body) l q all

  begins_fits : (w : World L) → Fitting L fits w → Fitting L fits (begins w)
  begins_fits w fit = either (Fitting L fits) (is_desk_within (desk_began w.desk)) (begun false w) w (record {
    sites = fit.sites;
    letters = fit.letters;
    txns = put_all same same_law (next_txn w.desk) (Known fresh) w.desk.txn (λ j x. TxnFits L fits x) tt (λ j other. fit.txns j);
  }) fit

  loses_fits : (w : World L) → Fitting L fits w → Fitting L fits (loses w)
  loses_fits w fit = record { sites = fit.sites; letters = go w.letters fit.letters; txns = fit.txns }
    where
      go : (letters : List (Letter L)) → Every LetterFits letters → Every LetterFits (rest_of letters)
      go [] all = tt
      go (l ∷ q) all = all.1

  opening_fits : (whole : L.Whole) (w : World L) → IsOpening whole w → ((g : L.Leaf) → fits g (L.content g whole) ≡ true) → Fitting L fits w
  opening_fits whole w opening all = record {
    sites = λ a. record {
      kept = λ g home. subst (λ b. fits g ((w.sites b).kept g) ≡ true) home (ap (fits g) (opening.rebuilt g) ∙ all g);
      status = λ k. subst (StatusFits L fits) (sym (opening.visits a k)) tt;
    };
    letters = subst (Every LetterFits) (sym opening.letters) tt;
    txns = λ t. subst (TxnFits L fits) (sym (opening.undecided t)) tt;
  }

  rows_are_fit : (y : L.Statement) (w : World L) (l : Letter L) → ((g : L.Leaf) (q : L.Query) (c : L.Content) → fits g c ≡ true → L.well_formed y g (L.parts q c) ≡ true) → Fitting L fits w → RowsFit y l.site (w.sites l.site) l.body
  rows_are_fit y w l formed fit = go l.body
    where
      go : (c : Body L) → RowsFit y l.site (w.sites l.site) c
      go (Fetch k op g q) = λ home v active. formed g q _ (subst (StatusFits L fits) active ((fit.sites l.site).status k) g ((w.sites l.site).kept g) ((fit.sites l.site).kept g home))
      go Open = tt
      go (Write k op g x) = tt
      go (Prepare k n) = tt
      go (Commit k) = tt
      go (Abort k) = tt
      go (Ticket k) = tt
      go (Rows k n rows) = tt
      go (Refused k reason) = tt
      go (Voted k x) = tt
      go (Ack k) = tt
      go (Inquire k) = tt

  pub fitting_law : FittingLaw L fits
  fitting_law = record {
    opened = opening_fits;
    begun = begins_fits;
    asked = λ w t choice request suits fit. turns_fit w t (on_request t choice request (w.desk.txn t)) (turned_fit t choice suits _ _ _ (fit.txns t) (request_turned t choice request (w.desk.txn t))) fit;
    came = next_fits;
    lost = loses_fits;
    rows = rows_are_fit;
  }
