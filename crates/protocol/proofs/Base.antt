-- All facts of a world but the line of its transactions, kept by every event.
use Rattle.std.proofs.Common.{◌≡◌, refl, sym, ap, ◌∙◌, subst, suc, ◌≤◌, true, false, List, [], ◌∷◌, ◌++◌, length, ◌⊎◌, inl, inr, ⊎_elim, append_assoc, append-nil}
use Rattle.std.proofs.Math.Decide.{dec_le, ℕ_discrete}
use Rattle.std.proofs.lemmas.Grind.{flat_map-append}
use Rattle.protocol.specs.Parts.{op_of, operations}
use Rattle.protocol.specs.Language.{Lang, IsLawful, Name, same, put}
use Rattle.protocol.specs.Letter.{Yes, No, Read, Body, Open, Fetch, Write, Prepare, Commit, Abort, Ticket, Rows, Refused, Voted, Ack, Inquire, Letter}
use Rattle.protocol.specs.Site.{SiteState}
use Rattle.protocol.specs.Desk.{Idle, Undecided, Known, Transition, desk_after}
use Rattle.protocol.specs.World.{World, with_site, turned}
use Rattle.protocol.specs.Serial.{phases_of, phased_of}
use Rattle.protocol.proofs.Basics.{Every, every_more, every_append, In, in_left, in_right, in_append, put_all, put_here, clash, same_law, by_test}
use Rattle.protocol.proofs.Fits.{Drawn, Born, Und, is_voting, IsCommitted, FitsBody, Fits, Fit}
use Rattle.protocol.proofs.SiteEvents.{Alike}
use Rattle.protocol.proofs.DeskFits.{turn_later, split, turn_moves}
use Rattle.protocol.proofs.Going.{Good}
use Rattle.protocol.proofs.Locks.{Locked, Once, once_more}
use Rattle.protocol.proofs.Ops.{Op, sets, adds}
use Rattle.protocol.proofs.Data.{VisitAt, SiteData, TellsBody, ReadsStay, body_tells, Steps}
use Rattle.protocol.proofs.Works.{txn_of, SameView, view_other}
use Rattle.protocol.proofs.Book.{AskAt, AskCame, Told, BookAt, nth_more, ask_more, came_more, reads_more, asks_of}
use Rattle.protocol.proofs.Booking.{book_same}
use Rattle.protocol.proofs.Booked.{Tells, NoOps, none_put, Booked, PhaseTurn, goes_on, starts, told_view}
use Rattle.protocol.proofs.Sending.{ext_same}

module _ {L : Lang} where
  pub record Base (o : L.Site → Name → Name) (ops : L.Site → Name → List (Op L)) (w : World L) : Type 0 where
    pub fit : Fit o w
    pub locked : (a : L.Site) → Locked (w.sites a)
    pub data_at : (a : L.Site) → SiteData (ops a) (w.sites a)
    pub tells : Every (λ l. TellsBody (ops l.site) (w.sites l.site) l.body) w.letters
    pub is_sent : (a : L.Site) (k : Name) → ops a k ≡ operations w.letters a k
    pub book : (t : Name) (u : Undecided L) → w.desk.txn t ≡ Known u → BookAt o ops w.sites w.letters w.past t u
    pub told : (t : Name) → IsCommitted w.past t → Told w.past t Idle
    pub unborn : (t : Name) → (Born w.desk t → ⊥) → SameView [] w.past t
    pub unowned : (a : L.Site) (k : Name) → (Born w.desk (o a k) → ⊥) → ops a k ≡ []
    pub phased : (t : Name) → In t (phases_of w.past) → Born w.desk t × Und w.desk t (λ u. is_voting u.stage ≡ true)
    pub voting : (t : Name) (u : Undecided L) → w.desk.txn t ≡ Known u → is_voting u.stage ≡ true → In t (phases_of w.past)
    pub once : Once (phases_of w.past)

  -- a ticket was drawn or not
  drawn_or_not : (s : SiteState L) (k : Name) → Drawn s k ⊎ (Drawn s k → ⊥)
  drawn_or_not s k = go (dec_le (suc k.life) s.life) (ℕ_discrete k.life s.life) (dec_le k.number s.number)
    where
      go : Dec (suc k.life ≤ s.life) → Dec (k.life ≡ s.life) → Dec (k.number ≤ s.number) → Drawn s k ⊎ (Drawn s k → ⊥)
      go (yes h) b c = inl (inl h)
      go (no h) (yes e) (yes n) = inl (inr (e, n))
      go (no h) (yes e) (no n) = inr (λ d. ⊎_elim h (λ x. n x.1) d)
      go (no h) (no e) c = inr (λ d. ⊎_elim h (λ x. e x.0) d)

  -- a step of one site
  module _ (law : IsLawful L) (o p : L.Site → Name → Name) (ops : L.Site → Name → List (Op L)) (w : World L) (a : L.Site) (new : SiteState L) (letters : List (Letter L)) where
    book_site : ((b : L.Site) (k : Name) → Drawn (put L.same_site a new w.sites b) k → p b k ≡ o b k ⊎ (ops b k ≡ [])) → ((b : L.Site) (k : Name) → Drawn (put L.same_site a new w.sites b) k → Drawn (w.sites b) k ⊎ (ops b k ≡ [])) →
        (t : Name) (u : Undecided L) → BookAt o ops w.sites w.letters w.past t u → BookAt p ops (put L.same_site a new w.sites) (w.letters ++ letters) w.past t u
    book_site owner drawn t u book = record {
      sent = book.sent;
      unsent = book.unsent;
      free = λ b k d own none. ⊎_elim (λ was. ⊎_elim (λ e. book.free b k was (sym e ∙ own) none) (λ e. e) (owner b k d)) (λ e. e) (drawn b k d);
      did = book.did;
      reads = reads_more (AskCame t u.ticket ops w.letters) (AskCame t u.ticket ops (w.letters ++ letters)) (came_more t u.ticket u.ticket ops ops (ext_same u.ticket ops) w.letters letters) [] _ book.reads;
      asks = every_more (AskAt t u.ticket ops w.letters _) (AskAt t u.ticket ops (w.letters ++ letters) _) (asks_of u.stage) (ask_more t u.ticket u.ticket ops ops (ext_same u.ticket ops) w.letters letters _) book.asks;
      told = book.told;
    }

    pub base_site : Base o ops w → Fit p (with_site w a new letters) → Alike o p w → Locked new → Steps (ops a) (w.sites a) new → Every (λ l. (l.site ≡ a) × TellsBody (ops a) new l.body × NoOps l) letters → Base p ops (with_site w a new letters)
    base_site base fit alike locked steps says =
        let sites = put L.same_site a new w.sites in
        let stay : (b : L.Site) → ReadsStay (ops b) (w.sites b) (sites b) = put_all L.same_site law.sites a new w.sites (λ b s. ReadsStay (ops b) (w.sites b) s) steps.stay (λ b other k v e. inr (v, e, λ g is. (is, refl))) in
        let fresh : (b : L.Site) (k : Name) → (Drawn (w.sites b) k → ⊥) → ops b k ≡ [] = λ b. (base.data_at b).fresh in
        record {
          fit = fit;
          locked = put_all L.same_site law.sites a new w.sites (λ b s. Locked s) locked (λ b other. base.locked b);
          data_at = put_all L.same_site law.sites a new w.sites (λ b s. SiteData (ops b) s) steps.data_after (λ b other. base.data_at b);
          tells = every_append (λ l. TellsBody (ops l.site) (sites l.site) l.body) w.letters letters
              (every_more (λ l. TellsBody (ops l.site) (w.sites l.site) l.body) (λ l. TellsBody (ops l.site) (sites l.site) l.body) w.letters (λ l is. body_tells (ops l.site) (w.sites l.site) (sites l.site) l.body (stay l.site) is) base.tells)
              (every_more (λ l. (l.site ≡ a) × TellsBody (ops a) new l.body × NoOps l) (λ l. TellsBody (ops l.site) (sites l.site) l.body) letters
              (λ l is. subst (λ b. TellsBody (ops b) (sites b) l.body) (sym is.0) (subst (λ s. TellsBody (ops a) s l.body) (sym (put_here L.same_site law.sites a new w.sites)) is.1)) says);
          is_sent = λ b k. base.is_sent b k ∙ sym (flat_map-append (λ (l : Letter L). op_of b k l.site l.body) w.letters letters
              ∙ ap (λ x. operations w.letters b k ++ x) (none_put letters (every_more (λ l. (l.site ≡ a) × TellsBody (ops a) new l.body × NoOps l) NoOps letters (λ l is. is.2) says) b k) ∙ append-nil (operations w.letters b k));
          book = λ t u e. book_site (λ b k d. ⊎_elim (λ was. inl (alike b k was)) (λ not_. inr (fresh b k not_)) (drawn_or_not (w.sites b) k)) (λ b k d. ⊎_elim (λ was. inl was) (λ not_. inr (fresh b k not_)) (drawn_or_not (w.sites b) k)) t u (base.book t u e);
          told = base.told;
          unborn = base.unborn;
          unowned = λ b k not_. ⊎_elim (λ was. base.unowned b k (λ born. not_ (subst (Born w.desk) (sym (alike b k was)) born))) (λ new_. fresh b k new_) (drawn_or_not (w.sites b) k);
          phased = base.phased;
          voting = base.voting;
          once = base.once;
        }

  -- a turn of the coordinator
  module _ (o : L.Site → Name → Name) (ops : L.Site → Name → List (Op L)) (w : World L) (t : Name) (turn : Transition L) (base : Base o ops w) (good : Good o w t turn) (booked : Booked o ops w t turn) where
    -- operations of a visit whose transaction votes don't grow
    pub closed : (a : L.Site) (k j : Name) → o a k ≡ j → Und w.desk j (λ u. is_voting u.stage ≡ true) → booked.new a k ≡ ops a k
    closed a k j owner votes =
        let x = booked.ext a k in
        x.1 ∙ ⊎_elim (λ e. ap (λ l. ops a k ++ l) e ∙ append-nil (ops a k))
        (λ grown. let open_ = booked.open_ a k grown in absurd (clash (votes open_.2.0 (subst (λ n. w.desk.txn n ≡ Known open_.2.0) (sym open_.1 ∙ owner) open_.2.1)) open_.2.2)) x.2

    -- nor do those of others
    pub others : (a : L.Site) (k j : Name) → o a k ≡ j → same j t ≡ false → booked.new a k ≡ ops a k
    others a k j owner apart =
        let x = booked.ext a k in
        x.1 ∙ ⊎_elim (λ e. ap (λ l. ops a k ++ l) e ∙ append-nil (ops a k)) (λ grown. let open_ = booked.open_ a k grown in clash ((same_law j t).1 (sym owner ∙ open_.1)) apart) x.2

    pub visit_grows : (a : L.Site) (k : Name) (v : _) → VisitAt (ops a k) v → VisitAt (booked.new a k) v
    visit_grows a k v at = let x = booked.ext a k in record { past = at.past; rest = at.rest ++ x.0; split = x.1 ∙ ap (λ l. l ++ x.0) at.split ∙ append_assoc at.past at.rest x.0; done = at.done; changes = at.changes; shared = at.shared }

    body_grows : (a : L.Site) (j : Name) (b : Body L) → FitsBody o w.desk w.past a (w.sites a) j b → TellsBody (ops a) (w.sites a) b → TellsBody (booked.new a) (w.sites a) b
    body_grows a j Open fits tells = tt
    body_grows a j (Fetch k n g q) fits tells = let x = booked.ext a k in nth_more (ops a k) x.0 (booked.new a k) n _ x.1 tells
    body_grows a j (Write k n g y) fits tells = let x = booked.ext a k in nth_more (ops a k) x.0 (booked.new a k) n _ x.1 tells
    body_grows a j (Prepare k n) fits tells = tells ∙ ap length (sym (closed a k j fits.1 (λ u e. (fits.2 u e).1)))
    body_grows a j (Commit k) fits tells = tt
    body_grows a j (Abort k) fits tells = tt
    body_grows a j (Ticket k) fits tells = tt
    body_grows a j (Rows k n rows) fits tells = let x = booked.ext a k in record { leaf = tells.leaf; query = tells.query; nth = nth_more (ops a k) x.0 (booked.new a k) n _ x.1 tells.nth; now = tells.now }
    body_grows a j (Refused k reason) fits tells = tt
    body_grows a j (Voted k Yes) fits tells = tt
    body_grows a j (Voted k No) fits tells = tt
    body_grows a j (Voted k Read) fits tells = ap sets (closed a k j fits.1 fits.2.1) ∙ tells
    body_grows a j (Ack k) fits tells = tt
    body_grows a j (Inquire k) fits tells = tt

    deeds_apart : (j : Name) → same j t ≡ false → Every (λ d. same (txn_of d) j ≡ false) turn.deeds
    deeds_apart j apart = every_more (λ d. txn_of d ≡ t) (λ d. same (txn_of d) j ≡ false) turn.deeds (λ d is. apart_from (txn_of d) is) booked.only
      where
        apart_from : (n : Name) → n ≡ t → same n j ≡ false
        apart_from n is = ⊎_elim (λ eq. clash ((same_law j t).1 (sym ((same_law n j).0 eq) ∙ is)) apart) (λ none. none) (by_test (same n j))

    -- what past deeds say of another transaction stays
    pub view_apart : (j : Name) → same j t ≡ false → SameView w.past (w.past ++ turn.deeds) j
    view_apart j apart = view_other w.past turn.deeds j (deeds_apart j apart)

    book_turn : (j : Name) (v : Undecided L) → put same t turn.txn w.desk.txn j ≡ Known v → BookAt o booked.new w.sites (w.letters ++ turn.letters) (w.past ++ turn.deeds) j v
    book_turn = put_all same same_law t turn.txn w.desk.txn (λ j x. (v : Undecided L) → x ≡ Known v → BookAt o booked.new w.sites (w.letters ++ turn.letters) (w.past ++ turn.deeds) j v) booked.book
        (λ j other v e. book_same o w.sites j booked.grow ops booked.new w.letters turn.letters w.past (w.past ++ turn.deeds) v booked.ext (λ a k d owner. others a k j owner other)
        (λ a k own. let ticket = (base.fit.known j v e).tickets a k own in (ticket.0, ticket.1)) (view_apart j other) (base.book j v e))

    told_turn : (j : Name) → IsCommitted (w.past ++ turn.deeds) j → Told (w.past ++ turn.deeds) j Idle
    told_turn j done = ⊎_elim
        (λ was. ⊎_elim
        (λ is. let eq = (same_law j t).0 is in subst (λ n. Told (w.past ++ turn.deeds) n Idle) (sym eq)
        (told_view w.past (w.past ++ turn.deeds) t (booked.view (λ u e. absurd ((base.fit.committed t (subst (IsCommitted w.past) eq was)).1 u e))) (base.told t (subst (IsCommitted w.past) eq was))))
        (λ other. told_view w.past (w.past ++ turn.deeds) j (view_apart j other) (base.told j was))
        (by_test (same j t)))
        (λ now. subst (λ n. Told (w.past ++ turn.deeds) n Idle) (sym now.0) (booked.told now.1))
        (split o w t turn base.fit good.fine j done)

    unborn_turn : (j : Name) → (Born w.desk j → ⊥) → SameView [] (w.past ++ turn.deeds) j
    unborn_turn j not_born =
        let was = base.unborn j not_born in
        let more : SameView w.past (w.past ++ turn.deeds) j = ⊎_elim
        (λ is. let eq = (same_law j t).0 is in subst (λ n. SameView w.past (w.past ++ turn.deeds) n) (sym eq) (booked.view (λ u e. absurd (not_born (subst (Born w.desk) (sym eq) (base.fit.born t u e))))))
        (λ other. view_apart j other) (by_test (same j t)) in
        record { works_same = more.works_same ∙ was.works_same; statements_same = more.statements_same ∙ was.statements_same; answers_same = more.answers_same ∙ was.answers_same }

    pub phases_more : phases_of (w.past ++ turn.deeds) ≡ phases_of w.past ++ phases_of turn.deeds
    phases_more = flat_map-append phased_of w.past turn.deeds

    pub phased_turn : PhaseTurn w t turn →
        ((j : Name) → In j (phases_of (w.past ++ turn.deeds)) → Born w.desk j × Und (desk_after w.desk t turn.txn) j (λ u. is_voting u.stage ≡ true))
        × ((j : Name) (v : Undecided L) → put same t turn.txn w.desk.txn j ≡ Known v → is_voting v.stage ≡ true → In j (phases_of (w.past ++ turn.deeds))) × Once (phases_of (w.past ++ turn.deeds))
    phased_turn (goes_on none stay) =
        let same_phases : phases_of (w.past ++ turn.deeds) ≡ phases_of w.past = phases_more ∙ ap (λ l. phases_of w.past ++ l) none ∙ append-nil (phases_of w.past) in (
          λ j here. let was = base.phased j (subst (In j) same_phases here) in
              (was.0, λ v e. let g = (turn_later o w t turn base.fit good.fine).grown j was.0 v e in g.2.voting (was.1 g.0 g.1)),
          λ j v e voting. subst (In j) (sym same_phases) (put_all same same_law t turn.txn w.desk.txn (λ j x. (v : Undecided L) → x ≡ Known v → is_voting v.stage ≡ true → In j (phases_of w.past))
              (λ v f votes. let u = stay v f votes in base.voting t u.0 u.1 u.2) (λ j other v f votes. base.voting j v f votes) j v e voting),
          subst Once (sym same_phases) base.once,
        )
    phased_turn (starts one view u e idle votes) =
        let more : phases_of (w.past ++ turn.deeds) ≡ phases_of w.past ++ t ∷ [] = phases_more ∙ ap (λ l. phases_of w.past ++ l) one in
        let quiet : In t (phases_of w.past) → ⊥ = λ here. clash ((base.phased t here).1 u e) (ap is_voting idle) in (
          λ j here. ⊎_elim
              (λ was. let p = base.phased j was in (p.0, λ v f. let g = (turn_later o w t turn base.fit good.fine).grown j p.0 v f in g.2.voting (p.1 g.0 g.1)))
              (λ last. ⊎_elim (λ is. (subst (Born w.desk) (sym is) (base.fit.born t u e), λ v f. (votes v (sym (put_here same same_law t turn.txn w.desk.txn) ∙ subst (λ n. put same t turn.txn w.desk.txn n ≡ Known v) is f)).1)) (λ none. absurd none) last)
              (in_append j (phases_of w.past) (t ∷ []) (subst (In j) more here)),
          λ j v f voting. subst (In j) (sym more) (put_all same same_law t turn.txn w.desk.txn (λ j x. (v : Undecided L) → x ≡ Known v → is_voting v.stage ≡ true → In j (phases_of w.past ++ t ∷ []))
              (λ v g votes. in_right t (phases_of w.past) (t ∷ []) (inl refl)) (λ j other v g votes. in_left j (phases_of w.past) (t ∷ []) (base.voting j v g votes)) j v f voting),
          subst Once (sym more) (once_more (phases_of w.past) t base.once quiet),
        )

    pub base_turn : Base o booked.new (turned w t turn)
    base_turn =
        let phase = phased_turn booked.phase in
        record {
          fit = turn_moves o w t turn base.fit good.fine good.letters;
          locked = base.locked;
          data_at = λ a. let at = base.data_at a in record {
            visits = λ k v e. visit_grows a k v (at.visits k v e);
            rows = λ k j i e. at.rows k j i e ∙ ap (λ l. adds L (sets l) L.none) (sym (let p = base.fit.prepared a k j i e in closed a k j p.owner (λ u f. (p.own u f).1)));
            fresh = λ k not_. let x = booked.ext a k in x.1 ∙ ⊎_elim (λ e. ap (λ l. ops a k ++ l) e ∙ append-nil (ops a k)) (λ grown. absurd (not_ (booked.open_ a k grown).0)) x.2 ∙ at.fresh k not_;
          };
          tells = every_append (λ l. TellsBody (booked.new l.site) (w.sites l.site) l.body) w.letters turn.letters (both_more w.letters base.fit.letters base.tells) (every_more (Tells booked.new w.sites) (λ l. TellsBody (booked.new l.site) (w.sites l.site) l.body) turn.letters (λ l is. is.0) booked.tells);
          is_sent = λ a k. booked.put_out a k ∙ ap (λ l. l ++ operations turn.letters a k) (base.is_sent a k) ∙ sym (flat_map-append (λ (l : Letter L). op_of a k l.site l.body) w.letters turn.letters);
          book = book_turn;
          told = told_turn;
          unborn = unborn_turn;
          unowned = λ a k not_. let x = booked.ext a k in x.1 ∙ ⊎_elim (λ e. ap (λ l. ops a k ++ l) e ∙ append-nil (ops a k))
              (λ grown. let open_ = booked.open_ a k grown in absurd (not_ (subst (Born w.desk) (sym open_.1) (base.fit.born t open_.2.0 open_.2.1)))) x.2 ∙ base.unowned a k not_;
          phased = phase.0;
          voting = phase.1;
          once = phase.2;
        }
      where
        both_more : (ls : List (Letter L)) → Every (Fits o w.desk w.past w.sites) ls → Every (λ l. TellsBody (ops l.site) (w.sites l.site) l.body) ls → Every (λ l. TellsBody (booked.new l.site) (w.sites l.site) l.body) ls
        both_more [] fits tells = tt
        both_more (l ∷ ls) fits tells = (body_grows l.site l.txn l.body fits.0.1 tells.0, both_more ls fits.1 tells.1)
