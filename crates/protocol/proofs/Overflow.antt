-- A statement that meets a full visit: it fails, else it goes on.
use Rattle.std.proofs.Common.{◌≡◌, refl, sym, ap, ◌∙◌, subst, ℕ, suc, ◌==◌, Bool, true, false, List, [], ◌∷◌, ◌++◌, if◌then◌else◌, Option, ◌⊎◌, inl, inr, ⊎_elim}
use Rattle.std.proofs.lemmas.Bool.{eq-eqb}
use Rattle.protocol.specs.Language.{Lang, IsLawful, Name}
use Rattle.protocol.specs.Letter.{Body, Open, Fetch, Write, Prepare, Commit, Abort, Ticket, Rows, Refused, Voted, Ack, Inquire, Lock, Full, Letter, is_for_desk}
use Rattle.protocol.specs.Site.{Visit, SiteState, Active, Act, Says, Ends, Locks, on_letter, on_write, site_after, said, is_within}
use Rattle.protocol.specs.Desk.{Choice, Undecided, Known, Deed, Stated, Worked, Answered, Ask}
use Rattle.protocol.specs.World.{World, with_site, addressed, comes_to}
use Rattle.protocol.specs.Client.{first, next, IsQuiet}
use Rattle.protocol.specs.VisitPlaces.{at, VisitPlace, Works, away, asked, offered, works}
use Rattle.protocol.specs.StatementCourse.{InStatement, Steady, Room, RoomOr, passes_to, Well}
use Rattle.protocol.specs.AfterAbort.{EndKept, Within, Since, Loose, Failing, doomed, has_ended, Went}
use Rattle.protocol.proofs.Basics.{In, in_right, if_true, if_false, clash}
use Rattle.protocol.proofs.Locks.{Once}
use Rattle.protocol.proofs.Queue.{at_append, at_here}
use Rattle.protocol.proofs.Ended.{kept_end, in_front}
use Rattle.protocol.proofs.Loose.{statement_loose}
use Rattle.protocol.proofs.Failing.{LooseStep, still, over, site_step, failing_goes_on, failing_ends}
use Rattle.protocol.proofs.OneStatement.{statement_step, statement_ends}

module _ {L : Lang} where
  -- a write that is next, of an own leaf, at a full visit
  write_refused : (s : SiteState L) (t k : Name) (b : Bool) (tk : Option Name) (n op : ℕ) (g : L.Leaf) (x : L.Write) (bs : List (Body L)) (p : Works k s.status b tk n (Write k op g x ∷ bs)) → L.is_full g x p.visit.changes ≡ true → said s (on_letter s t true (Write k op g x)) ≡ Refused k Full ∷ []
  write_refused s t k b tk n op g x bs p full =
      let v = p.visit in
      let new = Locks k (record v { done = op; changes = L.add g x v.changes }) g [] in
      ap (said s) (ap (on_write k op g x) p.active
      ∙ if_true (op == suc v.done) (if v.foreign g then Ends k (Refused k Lock ∷ []) else (if L.is_full g x v.changes then Ends k (Refused k Full ∷ []) else new)) (Says []) (eq-eqb op (suc v.done) p.flow.1)
      ∙ if_false (v.foreign g) (Ends k (Refused k Lock ∷ [])) (if L.is_full g x v.changes then Ends k (Refused k Full ∷ []) else new) (p.own g)
      ∙ if_true (L.is_full g x v.changes) (Ends k (Refused k Full ∷ [])) new full)

  module _ (law : IsLawful L) (once : Once L.sites) (E : Type 0) (t : Name) (s : L.Statement) (before : List (Deed L)) (w : World L) where
    module _ (at_ : InStatement t s before w) (kept : Bool) (choice : Choice L) (l : Letter L) (q : List (Letter L)) (e : w.letters ≡ l ∷ q) (well : Well E s w kept choice l) where
      abbrev here : L.Site
      here = l.site

      front : VisitPlace (w.sites here).status (at_.u.visited here) (at_.u.ticket here) (at_.u.sent here) (l.body ∷ at here q)
      front = subst (VisitPlace (w.sites here).status (at_.u.visited here) (at_.u.ticket here) (at_.u.sent here)) (ap (at here) e ∙ in_front law l q) (at_.stands.spots here)

      goes : Room (w.sites here) l.body → Went E t s before (next w kept choice)
      goes room = inl (statement_step law once t s law.touches_none before w at_ kept choice l q e E well room)

      loose : Loose t before w
      loose = statement_loose t s before w at_

      same_known : loose.u ≡ at_.u
      same_known = known_is loose.u at_.u (sym loose.known ∙ at_.known)
        where
          known_is : (u v : Undecided L) → Known u ≡ Known v → u ≡ v
          known_is u v is = cc

      -- the site refuses, and the coordinator will hear of it
      overflows : (k : Name) (op : ℕ) (g : L.Leaf) (x : L.Write) → l.body ≡ Write k op g x → (p : Works k (w.sites here).status (at_.u.visited here) (at_.u.ticket here) (at_.u.sent here) (Write k op g x ∷ at here q)) → L.is_full g x p.visit.changes ≡ true → Failing t before (next w kept choice)
      overflows k op g x is p full = subst (λ letters. Failing t before (first w kept choice letters)) (sym e) (subst (λ b. Failing t before (comes_to b after kept choice l)) (sym to_site)
          (subst (Failing t before) (sym (if_true (is_within (site_after st act)) (with_site after here (site_after st act) out) after (subst (λ b. passes_to b w kept choice l ≡ true) to_site well.within)))
          (go (site_step law once t before w l q e loose kept (subst (EndKept kept) (sym is) tt)))))
        where
          after : World L
          after = record w { letters = q }

          st : SiteState L
          st = w.sites here

          act : Act L
          act = on_letter st l.txn kept l.body

          out : List (Letter L)
          out = addressed here l.txn (said st act)

          to_site : is_for_desk l.body ≡ false
          to_site = ap is_for_desk is

          said_full : said st act ≡ Refused k Full ∷ []
          said_full = ap (λ b. said st (on_letter st l.txn b l.body)) well.is_kept ∙ ap (λ c. said st (on_letter st l.txn true c)) is ∙ write_refused st l.txn k (at_.u.visited here) (at_.u.ticket here) (at_.u.sent here) op g x (at here q) p full

          go : LooseStep t before loose.u.ticket q (with_site after here (site_after st act) out) → Failing t before (with_site after here (site_after st act) out)
          go (still new grows keeps) = doomed (record {
            loose = new;
            site = here;
            ticket = k;
            reason = Full;
            own = grows here k (ap (λ u. u.ticket here) same_known ∙ p.ticket);
            waits = subst (In (Refused k Full)) (sym (at_append here q out)) (in_right (Refused k Full) (at here q) (at here out)
                (subst (In (Refused k Full)) (sym (at_here here here l.txn (said st act) ((law.sites here here).1 refl) ∙ said_full)) (inl refl)));
          })
          go (over deeds since ending) = has_ended deeds since ending

      write_goes : (k : Name) (op : ℕ) (g : L.Leaf) (x : L.Write) → l.body ≡ Write k op g x → Went E t s before (next w kept choice)
      write_goes k op g x is = by_spot (subst (λ c. VisitPlace (w.sites here).status (at_.u.visited here) (at_.u.ticket here) (at_.u.sent here) (c ∷ at here q)) is front)
        where
          room : (v : Visit L) → (w.sites here).status k ≡ Active v → L.is_full g x v.changes ≡ false → Room (w.sites here) (Write k op g x)
          room v active none y other = subst (λ z. L.is_full g x z.changes ≡ false) (visit_is v y (sym active ∙ other)) none
            where
              visit_is : (v y : Visit L) → Active v ≡ Active y → v ≡ y
              visit_is v y f = cc

          by_full : (p : Works k (w.sites here).status (at_.u.visited here) (at_.u.ticket here) (at_.u.sent here) (Write k op g x ∷ at here q)) → (b : Bool) → L.is_full g x p.visit.changes ≡ b → Went E t s before (next w kept choice)
          by_full p false none = goes (subst (Room (w.sites here)) (sym is) (room p.visit p.active none))
          by_full p true full = ⊎_elim (λ none. clash full none) (λ excuse. inr (excuse, overflows k op g x is p full)) (subst (RoomOr E (w.sites here)) is well.room p.visit p.active)

          by_spot : VisitPlace (w.sites here).status (at_.u.visited here) (at_.u.ticket here) (at_.u.sent here) (Write k op g x ∷ at here q) → Went E t s before (next w kept choice)
          by_spot (away p) = let f : Write k op g x ∷ at here q ≡ [] = p.silent in cc
          by_spot (asked p) = let f : Write k op g x ∷ at here q ≡ Open ∷ [] = p.waits in cc
          by_spot (offered j p) = let f : Write k op g x ∷ at here q ≡ Ticket j ∷ [] = p.waits in cc
          by_spot (works j p) = let own : Works k (w.sites here).status (at_.u.visited here) (at_.u.ticket here) (at_.u.sent here) (Write k op g x ∷ at here q) = subst (λ i. Works i (w.sites here).status (at_.u.visited here) (at_.u.ticket here) (at_.u.sent here) (Write k op g x ∷ at here q)) (sym p.flow.0) p in by_full own (L.is_full g x own.visit.changes) refl

      -- a letter comes while the statement works
      works_on : Went E t s before (next w kept choice)
      works_on = go l.body refl
        where
          go : (c : Body L) → l.body ≡ c → Went E t s before (next w kept choice)
          go (Write k op g x) is = write_goes k op g x is
          go Open is = goes (subst (Room (w.sites here)) (sym is) tt)
          go (Fetch k op g y) is = goes (subst (Room (w.sites here)) (sym is) tt)
          go (Prepare k n) is = goes (subst (Room (w.sites here)) (sym is) tt)
          go (Commit k) is = goes (subst (Room (w.sites here)) (sym is) tt)
          go (Abort k) is = goes (subst (Room (w.sites here)) (sym is) tt)
          go (Ticket k) is = goes (subst (Room (w.sites here)) (sym is) tt)
          go (Rows k n rows) is = goes (subst (Room (w.sites here)) (sym is) tt)
          go (Refused k reason) is = goes (subst (Room (w.sites here)) (sym is) tt)
          go (Voted k y) is = goes (subst (Room (w.sites here)) (sym is) tt)
          go (Ack k) is = goes (subst (Room (w.sites here)) (sym is) tt)
          go (Inquire k) is = goes (subst (Room (w.sites here)) (sym is) tt)

    -- a letter comes while the statement works or fails
    pub went_on : Within w → (kept : Bool) (choice : Choice L) (l : Letter L) (q : List (Letter L)) → w.letters ≡ l ∷ q → Well E s w kept choice l → Went E t s before w → Went E t s before (next w kept choice)
    went_on within kept choice l q e well (inl at_) = works_on at_ kept choice l q e well
    went_on within kept choice l q e well (inr failing) = inr (failing.0, failing_goes_on law once t before w l q e within kept choice (kept_end kept l.body well.is_kept) well.homes failing.1)

    -- no letter waits: it is answered, or it failed and all is quiet
    pub went_ends : Went E t s before w → w.letters ≡ [] →
        (Steady t w × ((asks : List (Ask L)) × (choice : Choice L) × (w.past ≡ before ++ Stated t s ∷ Worked t s asks choice ∷ Answered t choice.0 ∷ []))) ⊎ (E × (IsQuiet w × Since t before w.past))
    went_ends (inl at_) silent = inl (statement_ends law once t s before w at_ silent)
    went_ends (inr failing) silent = inr (failing.0, failing_ends law once t before w failing.1 silent)
