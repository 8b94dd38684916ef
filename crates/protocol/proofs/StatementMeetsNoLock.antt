-- One client's transaction from its beginning through its statements: no step meets a lock, each site stays at one of its places.
use Rattle.std.proofs.Common.{◌≡◌, refl, sym, ap, ◌∙◌, subst, ℕ, Bool, true, false, List, [], ◌∷◌, Some, None, append-nil}
use Rattle.protocol.specs.Language.{Lang, IsLawful, Name, same, put}
use Rattle.protocol.specs.Letter.{Ticket, Rows, Letter}
use Rattle.protocol.specs.Desk.{Stage, Undecided, Known, Transition, fresh_as, next_txn, is_undecided, stays}
use Rattle.protocol.specs.World.{World, begun, turned}
pub use Rattle.protocol.specs.Client.{IsQuiet}
use Rattle.protocol.proofs.Basics.{Every, put_all, same_law, if_true, if_false, clash}
use Rattle.protocol.proofs.Queue.{at, VisitPlace, away, spot_ticket, spot_rows}
use Rattle.protocol.proofs.AtDesk.{Stands, Goes, turn_stands}

module _ {L : Lang} where
  -- a transaction begins, or a refragmentation
  pub begins_stands : (moves : Bool) (w : World L) → IsQuiet w → Stands (next_txn w.desk) (fresh_as moves) (begun moves w)
  begins_stands moves w quiet = record {
    alone = subst (Every (λ l. l.txn ≡ next_txn w.desk)) (sym quiet.silent) tt;
    others = put_all same same_law (next_txn w.desk) (Known (fresh_as moves)) w.desk.txn (λ j x. same j (next_txn w.desk) ≡ false → is_undecided x ≡ false) (λ other. clash ((same_law (next_txn w.desk) (next_txn w.desk)).1 refl) other) (λ j apart other. quiet.decided j);
    among = λ a is. cc;
    spots = λ a. away (record { unvisited = refl; no_ticket = refl; nothing_sent = refl; silent = ap (at a) quiet.silent; free = quiet.calm a });
  }

  -- a turn after which the statement goes on
  pub record GoesTo (t : Name) (u : Undecided L) (turn : Transition L) : Type 0 where
    pub new : Undecided L
    pub is : turn.txn ≡ Known new
    pub goes : Goes t u new turn.letters

  pub turned_stands : (t : Name) (u : Undecided L) (w : World L) (turn : Transition L) → Stands t u w → (to : GoesTo t u turn) → Stands t to.new (turned w t turn)
  turned_stands t u w turn stands to = subst (λ x. Stands t to.new (turned w t (record { txn = x; letters = turn.letters; deeds = turn.deeds }))) (sym to.is) (turn_stands t u to.new w turn.letters turn.deeds stands to.goes)

  -- nothing goes out
  pub stage_goes : (t : Name) (u : Undecided L) (stage : Stage L) → Goes t u (record u { stage = stage }) []
  stage_goes t u stage = record { own = tt; among = λ old. old; spots = λ a f bs spot. subst (VisitPlace f (u.visited a) (u.ticket a) (u.sent a)) (sym (append-nil bs)) spot }

  abbrev pub stays_goes : (t : Name) (u : Undecided L) → GoesTo t u (stays (Known u))
  stays_goes t u = record { new = u; is = refl; goes = stage_goes t u u.stage }

  -- a ticket comes
  abbrev pub with_ticket : Undecided L → L.Site → Name → Undecided L
  with_ticket u a k = record u { ticket = put L.same_site a (Some k) u.ticket }

  module _ (law : IsLawful L) where
    module _ (t : Name) (u : Undecided L) (w : World L) (a : L.Site) (q : List (Letter L)) (stands : Stands t u w) where
      pub ticket_came : (k : Name) → w.letters ≡ record { site = a; txn = t; body = Ticket k } ∷ q → Stands t (with_ticket u a k) (record w { letters = q })
      ticket_came k e = record {
        alone = (subst (Every (λ l. l.txn ≡ t)) e stands.alone).1;
        others = stands.others;
        among = stands.among;
        spots = put_all L.same_site law.sites a (Some k) u.ticket (λ b tk. VisitPlace (w.sites b).status (u.visited b) tk (u.sent b) (at b q))
            (spot_ticket (w.sites a).status (u.visited a) (u.sent a) k (at a q) (u.ticket a) (subst (VisitPlace (w.sites a).status (u.visited a) (u.ticket a) (u.sent a)) (ap (at a) e ∙ if_true (L.same_site a a) (Ticket k ∷ at a q) (at a q) ((law.sites a a).1 refl)) (stands.spots a))).0
            (λ b other. subst (VisitPlace (w.sites b).status (u.visited b) (u.ticket b) (u.sent b)) (ap (at b) e ∙ if_false (L.same_site b a) (Ticket k ∷ at b q) (at b q) other) (stands.spots b));
      }

      -- the site had given none before
      pub first_ticket : (k : Name) → w.letters ≡ record { site = a; txn = t; body = Ticket k } ∷ q → u.ticket a ≡ None
      first_ticket k e = (spot_ticket (w.sites a).status (u.visited a) (u.sent a) k (at a q) (u.ticket a) (subst (VisitPlace (w.sites a).status (u.visited a) (u.ticket a) (u.sent a)) (ap (at a) e ∙ if_true (L.same_site a a) (Ticket k ∷ at a q) (at a q) ((law.sites a a).1 refl)) (stands.spots a))).1

      -- rows come, and are those of the site's ticket
      pub rows_came : (k : Name) (m : ℕ) (rows : L.Rows) → w.letters ≡ record { site = a; txn = t; body = Rows k m rows } ∷ q → Stands t u (record w { letters = q }) × (u.ticket a ≡ Some k)
      rows_came k m rows e =
          let here = spot_rows (w.sites a).status (u.visited a) (u.ticket a) (u.sent a) k m rows (at a q) (subst (VisitPlace (w.sites a).status (u.visited a) (u.ticket a) (u.sent a)) (ap (at a) e ∙ if_true (L.same_site a a) (Rows k m rows ∷ at a q) (at a q) ((law.sites a a).1 refl)) (stands.spots a)) in (
            record {
              alone = (subst (Every (λ l. l.txn ≡ t)) e stands.alone).1;
              others = stands.others;
              among = stands.among;
              spots = λ b. by_site b here.0 (L.same_site b a) refl;
            },
            here.1,
          )
        where
          by_site : (b : L.Site) → VisitPlace (w.sites a).status (u.visited a) (u.ticket a) (u.sent a) (at a q) → (x : Bool) → L.same_site b a ≡ x → VisitPlace (w.sites b).status (u.visited b) (u.ticket b) (u.sent b) (at b q)
          by_site b here true is = subst (λ c. VisitPlace (w.sites c).status (u.visited c) (u.ticket c) (u.sent c) (at c q)) (sym ((law.sites b a).0 is)) here
          by_site b here false other = subst (VisitPlace (w.sites b).status (u.visited b) (u.ticket b) (u.sent b)) (ap (at b) e ∙ if_false (L.same_site b a) (Rows k m rows ∷ at b q) (at b q) other) (stands.spots b)
