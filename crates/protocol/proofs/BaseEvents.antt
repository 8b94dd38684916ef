-- A new transaction, a restart of the coordinator, inquiries and the opening: facts of a world but its line.
use Rattle.std.proofs.Common.{◌≡◌, refl, sym, ap, ap₂, ◌∙◌, subst, true, false, List, [], ◌∷◌, ◌++◌, map, None, append-nil, flat_map, Bool}
use Rattle.std.proofs.lemmas.Grind.{flat_map-append}
use Rattle.protocol.specs.Parts.{op_of, operations}
use Rattle.protocol.specs.Language.{Lang, IsLawful, Name, same}
use Rattle.protocol.specs.Letter.{Letter}
use Rattle.protocol.specs.Site.{Status, Dead, Active, Prepared, is_dead, has_exclusive, inquiries, inquiry_of}
use Rattle.protocol.specs.Desk.{Undecided, fresh_as, Txn, Unknown, Known, Row, Deed, Began, commits, next_txn, txn_restarted}
use Rattle.protocol.specs.World.{World, begun, inquires, desk_lives}
use Rattle.protocol.specs.Serial.{is_committed, phases_of, phased_of, statement_in, answer_in, IsOpening}
use Rattle.protocol.proofs.Basics.{Every, every_append, every_flat, In, put_all, clash, same_law}
use Rattle.protocol.proofs.Fits.{Born, Und, is_voting}
use Rattle.protocol.proofs.SiteEvents.{inquire_fit}
use Rattle.protocol.proofs.FitEvents.{not_born, born_next, born_restarted, was_before, begun_fit, none_known, lives_before, lives_fit, opening_fit}
use Rattle.protocol.proofs.Locks.{Once}
use Rattle.protocol.proofs.Ops.{Op, on}
use Rattle.protocol.proofs.Data.{TellsBody}
use Rattle.protocol.proofs.Works.{Work, work_in, own_of, SameView, view_plain}
use Rattle.protocol.proofs.Book.{AskCame, ReadsFrom, BookAt}
use Rattle.protocol.proofs.Booking.{book_same}
use Rattle.protocol.proofs.Booked.{NoOps, none_put, told_view}
use Rattle.protocol.proofs.Sending.{ext_same}
use Rattle.protocol.proofs.Base.{Base}

module _ {L : Lang} (o : L.Site → Name → Name) (ops : L.Site → Name → List (Op L)) (w : World L) (base : Base o ops w) where
  -- the books with more letters and more deeds that say nothing
  books_more : (extra : List (Letter L)) (later : List (Deed L)) (t : Name) (u : Undecided L) → w.desk.txn t ≡ Known u → SameView w.past later t → BookAt o ops w.sites (w.letters ++ extra) later t u
  books_more extra later t u e view = book_same o w.sites t (λ a. None) ops ops w.letters extra w.past later u (ext_same (λ a. None) ops) (λ a k d f. refl)
      (λ a k own. let ticket = (base.fit.known t u e).tickets a k own in (ticket.0, ticket.1)) view (base.book t u e)

  same_view : (past : List (Deed L)) (t : Name) → SameView past past t
  same_view past t = record { works_same = refl; statements_same = refl; answers_same = refl }

  -- inquiries
  pub inquire_base : IsLawful L → (a : L.Site) → Base o ops (inquires w a)
  inquire_base law a = record {
    fit = inquire_fit law o w a base.fit;
    locked = base.locked;
    data_at = base.data_at;
    tells = every_append (λ l. TellsBody (ops l.site) (w.sites l.site) l.body) w.letters (inquiries a (w.sites a)) base.tells
        (every_flat (λ l. TellsBody (ops l.site) (w.sites l.site) l.body) (λ k. inquiry_of a k ((w.sites a).status k)) (w.sites a).known (λ k. one k ((w.sites a).status k)));
    is_sent = λ b k. base.is_sent b k ∙ sym (flat_map-append (λ (l : Letter L). op_of b k l.site l.body) w.letters (inquiries a (w.sites a))
        ∙ ap (λ x. operations w.letters b k ++ x) (none_put (inquiries a (w.sites a)) (every_flat NoOps (λ k. inquiry_of a k ((w.sites a).status k)) (w.sites a).known (λ k. plain k ((w.sites a).status k))) b k) ∙ append-nil (operations w.letters b k));
    book = λ t u e. books_more (inquiries a (w.sites a)) w.past t u e (same_view w.past t);
    told = base.told;
    unborn = base.unborn;
    unowned = base.unowned;
    phased = base.phased;
    voting = base.voting;
    once = base.once;
  }
    where
      plain : (k : Name) (st : Status L) → Every NoOps (inquiry_of a k st)
      plain k Dead = tt
      plain k (Active v) = tt
      plain k (Prepared t i) = ((λ b j. refl), tt)

      one : (k : Name) (st : Status L) → Every (λ l. TellsBody (ops l.site) (w.sites l.site) l.body) (inquiry_of a k st)
      one k Dead = tt
      one k (Active v) = tt
      one k (Prepared t i) = (tt, tt)

  -- a new transaction, or a new refragmentation
  pub began_view : (t : Name) → SameView w.past (w.past ++ Began (next_txn w.desk) ∷ []) t
  began_view t = view_plain w.past (Began (next_txn w.desk) ∷ []) t refl refl refl

  fresh_book : (moves : Bool) (view : SameView [] (begun moves w).past (next_txn w.desk)) → BookAt o ops w.sites w.letters (begun moves w).past (next_txn w.desk) (fresh_as moves)
  fresh_book moves view = record {
    sent = λ a k e. cc;
    unsent = λ a e. refl;
    free = λ a k drawn owner none. base.unowned a k (λ born. not_born w.desk (subst (Born w.desk) owner born));
    did = λ g. ap (λ l. on L g (own_of l)) (sym view.works_same);
    reads = subst (ReadsFrom (AskCame (next_txn w.desk) (λ a. None) ops w.letters) []) (sym view.works_same) tt;
    asks = tt;
    told = record {
      statements = view.statements_same ∙ ap (λ l. map (λ (x : Work L). x.statement) l ++ []) (sym view.works_same);
      answers = ap (λ l. l ++ []) view.answers_same ∙ ap (map (λ (x : Work L). x.choice.0)) (sym view.works_same);
    };
  }

  pub begun_base : (moves : Bool) → Base o ops (begun moves w)
  begun_base moves =
      let new = next_txn w.desk in
      let later = w.past ++ Began new ∷ [] in
      let same_phases : phases_of later ≡ phases_of w.past = flat_map-append phased_of w.past (Began new ∷ []) ∙ append-nil (phases_of w.past) in
      let unborn : (t : Name) → (Born w.desk t → ⊥) → SameView [] later t = λ t not_.
      let was = base.unborn t not_ in let more = began_view t in
      record { works_same = more.works_same ∙ was.works_same; statements_same = more.statements_same ∙ was.statements_same; answers_same = more.answers_same ∙ was.answers_same } in
      record {
        fit = begun_fit o w base.fit moves;
        locked = base.locked;
        data_at = base.data_at;
        tells = base.tells;
        is_sent = base.is_sent;
        book = put_all same same_law new (Known (fresh_as moves)) w.desk.txn (λ j x. (u : Undecided L) → x ≡ Known u → BookAt o ops w.sites w.letters later j u)
            (λ u e. subst (BookAt o ops w.sites w.letters later new) (fresh_is u e) (fresh_book moves (unborn new (not_born w.desk))))
            (λ j other u e. subst (λ l. BookAt o ops w.sites l later j u) (append-nil w.letters) (books_more [] later j u e (began_view j)));
        told = λ t done. told_view w.past later t (began_view t) (base.told t (was_before o w base.fit t done));
        unborn = λ t not_. unborn t (λ born. not_ (born_next moves w.desk t born));
        unowned = λ a k not_. base.unowned a k (λ born. not_ (born_next moves w.desk (o a k) born));
        phased = λ t here. let was = base.phased t (subst (In t) same_phases here) in
            (born_next moves w.desk t was.0, λ u e. put_all same same_law new (Known (fresh_as moves)) w.desk.txn (λ j x. Born w.desk j → Und w.desk j (λ u. is_voting u.stage ≡ true) → x ≡ Known u → is_voting u.stage ≡ true) (λ born votes f. absurd (not_born w.desk born)) (λ j other born votes f. votes u f) t was.0 was.1 e);
        voting = λ t u e votes. subst (In t) (sym same_phases) (put_all same same_law new (Known (fresh_as moves)) w.desk.txn (λ j x. x ≡ Known u → In j (phases_of w.past)) (λ f. clash votes (ap (λ (z : Undecided L). is_voting z.stage) (sym (fresh_is u f)))) (λ j other f. base.voting j u f votes) t e);
        once = subst Once (sym same_phases) base.once;
      }
    where
      fresh_is : (u : Undecided L) → (let x : Txn L = Known (fresh_as moves) in x ≡ Known u) → fresh_as moves ≡ u
      fresh_is u e = cc

  -- a restart of the coordinator
  nothing_said : {B : Type 0} (f : Deed L → List B) → ((t : Name) (x : Txn L) → flat_map f (txn_restarted t x).deeds ≡ []) → (names : List Name) → flat_map f (flat_map (λ t. (txn_restarted t (w.desk.txn t)).deeds) names) ≡ []
  nothing_said f none [] = refl
  nothing_said f none (t ∷ names) = flat_map-append f (txn_restarted t (w.desk.txn t)).deeds (flat_map (λ t. (txn_restarted t (w.desk.txn t)).deeds) names) ∙ ap₂ (λ a b. a ++ b) (none t (w.desk.txn t)) (nothing_said f none names)

  restart_view : (t : Name) → SameView w.past (desk_lives w).past t
  restart_view t = view_plain w.past (flat_map (λ t. (txn_restarted t (w.desk.txn t)).deeds) w.desk.known) t (nothing_said (work_in t) no_work w.desk.known) (nothing_said (statement_in t) no_statement w.desk.known) (nothing_said (answer_in t) no_answer w.desk.known)
    where
      no_work : (j : Name) (x : Txn L) → flat_map (work_in t) (txn_restarted j x).deeds ≡ []
      no_work j Unknown = refl
      no_work j (Known u) = refl
      no_work j (Row vs acked) = refl

      no_statement : (j : Name) (x : Txn L) → flat_map (statement_in t) (txn_restarted j x).deeds ≡ []
      no_statement j Unknown = refl
      no_statement j (Known u) = refl
      no_statement j (Row vs acked) = refl

      no_answer : (j : Name) (x : Txn L) → flat_map (answer_in t) (txn_restarted j x).deeds ≡ []
      no_answer j Unknown = refl
      no_answer j (Known u) = refl
      no_answer j (Row vs acked) = refl

  pub lives_phases : phases_of (desk_lives w).past ≡ phases_of w.past
  lives_phases =
      let deeds = flat_map (λ t. (txn_restarted t (w.desk.txn t)).deeds) w.desk.known in
      flat_map-append phased_of w.past deeds ∙ ap (λ l. phases_of w.past ++ l) (nothing_said phased_of no_phase w.desk.known) ∙ append-nil (phases_of w.past)
    where
      no_phase : (j : Name) (x : Txn L) → flat_map phased_of (txn_restarted j x).deeds ≡ []
      no_phase j Unknown = refl
      no_phase j (Known u) = refl
      no_phase j (Row vs acked) = refl

  pub lives_view : (t : Name) → SameView w.past (desk_lives w).past t
  lives_view = restart_view

  pub lives_base : Base o ops (desk_lives w)
  lives_base = record {
    fit = lives_fit o w base.fit;
    locked = base.locked;
    data_at = base.data_at;
    tells = every_append (λ l. TellsBody (ops l.site) (w.sites l.site) l.body) w.letters (flat_map (λ t. (txn_restarted t (w.desk.txn t)).letters) w.desk.known) base.tells
        (every_flat (λ l. TellsBody (ops l.site) (w.sites l.site) l.body) (λ t. (txn_restarted t (w.desk.txn t)).letters) w.desk.known (λ t. one t (w.desk.txn t)));
    is_sent = λ b k. base.is_sent b k ∙ sym (flat_map-append (λ (l : Letter L). op_of b k l.site l.body) w.letters (flat_map (λ t. (txn_restarted t (w.desk.txn t)).letters) w.desk.known)
        ∙ ap (λ x. operations w.letters b k ++ x) (none_put (flat_map (λ t. (txn_restarted t (w.desk.txn t)).letters) w.desk.known) (every_flat NoOps (λ t. (txn_restarted t (w.desk.txn t)).letters) w.desk.known (λ t. plain t (w.desk.txn t))) b k) ∙ append-nil (operations w.letters b k));
    book = λ t u e. absurd (none_known o w base.fit t (w.desk.txn t) u e);
    told = λ t done. told_view w.past (desk_lives w).past t (restart_view t) (base.told t (lives_before o w base.fit t done));
    unborn = λ t not_. let was = base.unborn t (λ born. not_ (born_restarted w.desk t born)) in let more = restart_view t in
        record { works_same = more.works_same ∙ was.works_same; statements_same = more.statements_same ∙ was.statements_same; answers_same = more.answers_same ∙ was.answers_same };
    unowned = λ a k not_. base.unowned a k (λ born. not_ (born_restarted w.desk (o a k) born));
    phased = λ t here. let was = base.phased t (subst (In t) lives_phases here) in (born_restarted w.desk t was.0, λ u e. absurd (none_known o w base.fit t (w.desk.txn t) u e));
    voting = λ t u e votes. absurd (none_known o w base.fit t (w.desk.txn t) u e);
    once = subst Once (sym lives_phases) base.once;
  }
    where
      commits_tell : (t : Name) (vs : List (L.Site × Name)) → Every (λ l. TellsBody (ops l.site) (w.sites l.site) l.body) (commits t vs)
      commits_tell t [] = tt
      commits_tell t (v ∷ vs) = (tt, commits_tell t vs)

      commits_plain : (t : Name) (vs : List (L.Site × Name)) → Every (NoOps {L = L}) (commits {L = L} t vs)
      commits_plain t [] = tt
      commits_plain t (v ∷ vs) = ((λ b j. refl), commits_plain t vs)

      plain : (t : Name) (x : Txn L) → Every (NoOps {L = L}) (txn_restarted t x).letters
      plain t Unknown = tt
      plain t (Known u) = tt
      plain t (Row vs acked) = commits_plain t vs

      one : (t : Name) (x : Txn L) → Every (λ l. TellsBody (ops l.site) (w.sites l.site) l.body) (txn_restarted t x).letters
      one t Unknown = tt
      one t (Known u) = tt
      one t (Row vs acked) = commits_tell t vs

-- an opening
module _ {L : Lang} (law : IsLawful L) where
  pub opening_base : (whole : L.Whole) (w : World L) → IsOpening whole w → Base (λ a k. k) (λ a k. []) w
  opening_base whole w opening = record {
    fit = opening_fit whole w opening;
    locked = λ a. record {
      known = λ k e. clash (ap is_dead (opening.visits a k)) e;
      lives = λ k here. absurd (subst (In k) (opening.tickets a) here);
      once = subst Once (sym (opening.tickets a)) tt;
      alone = λ j k g apart ex. absurd (nobody g ((w.sites a).status j) (opening.visits a j) ex);
      seen = λ j k v g apart e. let f : Dead ≡ Active v = sym (opening.visits a k) ∙ e in cc;
    };
    data_at = λ a. record {
      visits = λ k v e. absurd (let f : Dead ≡ Active v = sym (opening.visits a k) ∙ e in cc);
      rows = λ k t i e. absurd (let f : Dead ≡ Prepared t i = sym (opening.visits a k) ∙ e in cc);
      fresh = λ k not_. refl;
    };
    tells = subst (Every (λ l. TellsBody (λ k. []) (w.sites l.site) l.body)) (sym opening.letters) tt;
    is_sent = λ a k. ap (λ l. operations l a k) (sym opening.letters);
    book = λ t u e. absurd (let f : Unknown ≡ Known u = sym (opening.undecided t) ∙ e in cc);
    told = λ t done. absurd (let f : false ≡ true = ap (λ p. is_committed p t) (sym opening.past) ∙ done in cc);
    unborn = λ t not_. subst (λ p. SameView [] p t) (sym opening.past) (record { works_same = refl; statements_same = refl; answers_same = refl });
    unowned = λ a k not_. refl;
    phased = λ t here. absurd (subst (λ p. In t (phases_of p)) opening.past here);
    voting = λ t u e. absurd (let f : Unknown ≡ Known u = sym (opening.undecided t) ∙ e in cc);
    once = subst (λ p. Once (phases_of p)) (sym opening.past) tt;
  }
    where
      nobody : (g : L.Leaf) (st : Status L) → st ≡ Dead → has_exclusive g st ≡ true → ⊥
      nobody g Dead e ex = cc
      nobody g (Active v) e ex = cc
      nobody g (Prepared t i) e ex = cc
