-- What visits have done of the operations sent to them, and what their rows say: facts of one site.
use Rattle.std.proofs.Common.{◌≡◌, refl, sym, ap, ◌∙◌, subst, ℕ, suc, true, false, List, [], ◌∷◌, ◌++◌, length, ◌⊎◌, inl, inr, ⊎_elim, arith, append_assoc, append-nil}
use Rattle.std.specs.Prelude.{⊤}
use Rattle.protocol.specs.Parts.{op_of}
use Rattle.protocol.specs.Language.{Lang, IsLawful, Name, same, put, written}
use Rattle.protocol.specs.Letter.{Yes, No, Read, Vote, Body, Open, Fetch, Write, Prepare, Commit, Abort, Ticket, Rows, Refused, Voted, Ack, Inquire}
use Rattle.protocol.specs.Site.{Visit, Status, Dead, Active, Prepared, SiteState, Act, has_exclusive, has_lock, sees, next_ticket, new_visit, site_after, said, restarted, site_restarted, on_give_up}
use Rattle.protocol.proofs.Basics.{Every, In, in_append, put_all, put_here, clash, same_law, either_if, by_test, or_left}
use Rattle.protocol.proofs.Fits.{Drawn}
use Rattle.protocol.proofs.SiteTable.{Acted, says_nothing, says_gone, says_no, says_yes, says_ack, opens, reads, writes, prepares, only_read, votes_no, refuses, applies, ends, discards}
use Rattle.protocol.proofs.SiteEvents.{drawn_next, drawn_restarted}
use Rattle.protocol.proofs.SiteSteps.{not_drawn, sees_prepared}
use Rattle.protocol.proofs.Locks.{Locked, unequal, seen_from}
use Rattle.protocol.proofs.Ops.{Op, Get, Set, get_leaf, get_set, sets, sets_append, adds, adds_append, split_same, none_left, length_of, changed_by, touches_by, written_none, empty_by}

pub nothing : {A : Type 0} (before : List A) (x : A) (after : List A) → [] ≡ before ++ x ∷ after → ⊥
nothing [] x after e = cc
nothing (y ∷ before) x after e = cc

module _ {L : Lang} where
  -- a visit has done a first part of the operations sent to it
  pub record VisitAt (ops : List (Op L)) (v : Visit L) : Type 0 where
    pub past : List (Op L)
    pub rest : List (Op L)
    pub split : ops ≡ past ++ rest
    pub done : v.done ≡ length past
    pub changes : v.changes ≡ adds L (sets past) L.none
    pub shared : (g : L.Leaf) (q : L.Query) → In (Get g q) past → v.shared g ≡ true

  pub record SiteData (ops : Name → List (Op L)) (s : SiteState L) : Type 0 where
    pub visits : (k : Name) (v : Visit L) → s.status k ≡ Active v → VisitAt (ops k) v
    pub rows : (k t : Name) (i : L.Intentions) → s.status k ≡ Prepared t i → i ≡ adds L (sets (ops k)) L.none
    pub fresh : (k : Name) → (Drawn s k → ⊥) → ops k ≡ []

  -- the operation of a number
  pub record NthOp (ops : List (Op L)) (n : ℕ) (op : Op L) : Type 0 where
    pub before : List (Op L)
    pub after : List (Op L)
    pub split : ops ≡ before ++ op ∷ after
    pub number : n ≡ suc (length before)

  -- rows that came: while the visit lives, its leaf is shared and they are the parts of what is kept with the earlier writes
  pub record RowsAt (ops : List (Op L)) (s : SiteState L) (k : Name) (n : ℕ) (rows : L.Rows) : Type 0 where
    pub leaf : L.Leaf
    pub query : L.Query
    pub nth : NthOp ops n (Get leaf query)
    pub now : (v : Visit L) → s.status k ≡ Active v → (v.shared leaf ≡ true) × (rows ≡ L.parts query (written L leaf (sets nth.before) (s.kept leaf)))

  abbrev pub TellsVote : List (Op L) → Vote → Type 0
  TellsVote ops Read = sets ops ≡ []
  TellsVote ops Yes = ⊤
  TellsVote ops No = ⊤

  -- what a letter says of the operations sent
  abbrev pub TellsBody : (Name → List (Op L)) → SiteState L → Body L → Type 0
  TellsBody ops s Open = ⊤
  TellsBody ops s (Fetch k n g q) = NthOp (ops k) n (Get g q)
  TellsBody ops s (Write k n g x) = NthOp (ops k) n (Set g x)
  TellsBody ops s (Prepare k n) = n ≡ length (ops k)
  TellsBody ops s (Rows k n rows) = RowsAt (ops k) s k n rows
  TellsBody ops s (Voted k vote) = TellsVote (ops k) vote
  TellsBody ops s (Commit k) = ⊤
  TellsBody ops s (Abort k) = ⊤
  TellsBody ops s (Ticket k) = ⊤
  TellsBody ops s (Refused k reason) = ⊤
  TellsBody ops s (Ack k) = ⊤
  TellsBody ops s (Inquire k) = ⊤

  -- a visit that lives has what it shared, unchanged
  abbrev pub ReadsStay : (Name → List (Op L)) → SiteState L → SiteState L → Type 0
  ReadsStay ops s new = (k : Name) (v : Visit L) → new.status k ≡ Active v → (ops k ≡ []) ⊎ ((u : Visit L) × (s.status k ≡ Active u) × ((g : L.Leaf) → u.shared g ≡ true → (v.shared g ≡ true) × (new.kept g ≡ s.kept g)))

  pub body_tells : (ops : Name → List (Op L)) (s new : SiteState L) (b : Body L) → ReadsStay ops s new → TellsBody ops s b → TellsBody ops new b
  body_tells ops s new Open stay tells = tt
  body_tells ops s new (Fetch k n g q) stay tells = tells
  body_tells ops s new (Write k n g x) stay tells = tells
  body_tells ops s new (Prepare k n) stay tells = tells
  body_tells ops s new (Commit k) stay tells = tt
  body_tells ops s new (Abort k) stay tells = tt
  body_tells ops s new (Ticket k) stay tells = tt
  body_tells ops s new (Rows k n rows) stay tells = record {
    leaf = tells.leaf;
    query = tells.query;
    nth = tells.nth;
    now = λ v e. ⊎_elim (λ none. absurd (nothing tells.nth.before (Get tells.leaf tells.query) tells.nth.after (sym none ∙ tells.nth.split)))
        (λ was. let old = tells.now was.0 was.1 in let both = was.2 tells.leaf old.0 in
        (both.0, old.1 ∙ ap (λ c. L.parts tells.query (written L tells.leaf (sets tells.nth.before) c)) (sym both.1))) (stay k v e);
  }
  body_tells ops s new (Refused k reason) stay tells = tt
  body_tells ops s new (Voted k vote) stay tells = tells
  body_tells ops s new (Ack k) stay tells = tt
  body_tells ops s new (Inquire k) stay tells = tt

  -- a step that changes one site's data rightly
  pub record Steps (ops : Name → List (Op L)) (s new : SiteState L) : Type 0 where
    pub data_after : SiteData ops new
    pub stay : ReadsStay ops s new

  pub visit_is : (a b : Visit L) → Active a ≡ Active b → a ≡ b
  visit_is a b e = cc

  same_steps : (ops : Name → List (Op L)) (s : SiteState L) → SiteData ops s → Steps ops s s
  same_steps ops s now = record { data_after = now; stay = λ k v e. inr (v, e, λ g is. (is, refl)) }

  -- a ticket that isn't active any more
  put_steps : (ops : Name → List (Op L)) (s : SiteState L) (kept : L.Leaf → L.Content) (k : Name) (st : Status L) (names : List Name) → SiteData ops s → ((v : Visit L) → st ≡ Active v → ⊥) →
      ((t : Name) (i : L.Intentions) → st ≡ Prepared t i → i ≡ adds L (sets (ops k)) L.none) → ((j : Name) (u : Visit L) (g : L.Leaf) → same j k ≡ false → s.status j ≡ Active u → u.shared g ≡ true → kept g ≡ s.kept g) →
      Steps ops s (record s { kept = kept; status = put same k st s.status; known = names })
  put_steps ops s kept k st names now dead row unchanged = record {
    data_after = record {
      visits = λ j v. put_all same same_law k st s.status (λ j x. x ≡ Active v → VisitAt (ops j) v) (λ e. absurd (dead v e)) (λ j other e. now.visits j v e) j;
      rows = λ j t i. put_all same same_law k st s.status (λ j x. x ≡ Prepared t i → i ≡ adds L (sets (ops j)) L.none) (row t i) (λ j other e. now.rows j t i e) j;
      fresh = now.fresh;
    };
    stay = λ j v. put_all same same_law k st s.status (λ j x. x ≡ Active v → (ops j ≡ []) ⊎ ((u : Visit L) × (s.status j ≡ Active u) × ((g : L.Leaf) → u.shared g ≡ true → (v.shared g ≡ true) × (kept g ≡ s.kept g))))
        (λ e. absurd (dead v e)) (λ j other e. inr (v, e, λ g is. (is, unchanged j v g other e is))) j;
  }

  ends_steps : (ops : Name → List (Op L)) (s : SiteState L) (k : Name) (names : List Name) → SiteData ops s → Steps ops s (record s { status = put same k Dead s.status; known = names })
  ends_steps ops s k names now = put_steps ops s s.kept k Dead names now (λ v e. cc) (λ t i e. cc) (λ j u g other e is. refl)

  -- a visit goes on
  locks_steps : (ops : Name → List (Op L)) (s : SiteState L) (k : Name) (v w : Visit L) (h : L.Leaf) (names : List Name) → SiteData ops s → s.status k ≡ Active v → VisitAt (ops k) w → ((g : L.Leaf) → v.shared g ≡ true → w.shared g ≡ true) →
      Steps ops s (record s { status = put same k (Active w) (λ j. sees h (s.status j)); known = names })
  locks_steps ops s k v w h names now e visit more =
      let f : Name → Status L = λ j. sees h (s.status j) in
      record {
        data_after = record {
          visits = λ j x. put_all same same_law k (Active w) f (λ j y. y ≡ Active x → VisitAt (ops j) x) (λ is. subst (VisitAt (ops k)) (visit_is w x is) visit)
              (λ j other is. let from = seen_from h (s.status j) x is in let old = now.visits j from.0 from.1 in
              subst (VisitAt (ops j)) (sym from.2) (record { past = old.past; rest = old.rest; split = old.split; done = old.done; changes = old.changes; shared = old.shared })) j;
          rows = λ j t i. put_all same same_law k (Active w) f (λ j y. y ≡ Prepared t i → i ≡ adds L (sets (ops j)) L.none) (λ is. cc) (λ j other is. now.rows j t i (sees_prepared h (s.status j) t i is)) j;
          fresh = now.fresh;
        };
        stay = λ j x. put_all same same_law k (Active w) f (λ j y. y ≡ Active x → (ops j ≡ []) ⊎ ((u : Visit L) × (s.status j ≡ Active u) × ((g : L.Leaf) → u.shared g ≡ true → (x.shared g ≡ true) × (s.kept g ≡ s.kept g))))
            (λ is. inr (v, e, λ g held. (subst (λ z. z.shared g ≡ true) (visit_is w x is) (more g held), refl)))
            (λ j other is. let from = seen_from h (s.status j) x is in inr (from.0, from.1, λ g held. (subst (λ z. z.shared g ≡ true) (sym from.2) held, refl))) j;
      }

  -- the operation that comes next is the one of this number
  pub next_is : (ops : List (Op L)) (v : Visit L) (n : ℕ) (op : Op L) (at : VisitAt ops v) (nth : NthOp ops n op) → n ≡ suc v.done → (at.past ≡ nth.before) × (at.rest ≡ op ∷ nth.after)
  next_is ops v n op at nth next =
      let d = at.done in let m = nth.number in
      split_same at.past nth.before at.rest (op ∷ nth.after) (sym at.split ∙ nth.split) (omega arith)

  module _ (law : IsLawful L) where
    pub untouched : (ops : List (Op L)) (i : L.Intentions) (g : L.Leaf) (c : L.Content) → i ≡ adds L (sets ops) L.none → L.touches g i ≡ false → L.changed g i c ≡ c
    untouched ops i g c is none = ap (λ j. L.changed g j c) is ∙ changed_by L law g (sets ops) c ∙ written_none L g (sets ops) c (sym (ap (L.touches g) is ∙ touches_by L law g (sets ops)) ∙ none)

    read_visit : (ops : List (Op L)) (v : Visit L) (n : ℕ) (g : L.Leaf) (q : L.Query) → VisitAt ops v → NthOp ops n (Get g q) → n ≡ suc v.done → VisitAt ops (record v { done = n; shared = put L.same_leaf g true v.shared })
    read_visit ops v n g q at nth next =
        let is = next_is ops v n (Get g q) at nth next in
        record {
          past = at.past ++ Get g q ∷ [];
          rest = nth.after;
          split = at.split ∙ ap (λ l. at.past ++ l) is.1 ∙ sym (append_assoc at.past (Get g q ∷ []) nth.after);
          done = let d = at.done in let m = length_of at.past (Get g q ∷ []) in omega arith;
          changes = at.changes ∙ ap (λ l. adds L l L.none) (sym (sets_append at.past (Get g q ∷ []) ∙ append-nil (sets at.past)));
          shared = λ h p here. either_if (λ b. b ≡ true) (L.same_leaf h g) true (v.shared h) (λ same_. refl)
              (λ other. ⊎_elim (λ old. at.shared h p old) (λ last. ⊎_elim (λ e. clash ((law.leaves h g).1 (get_leaf h g p q e)) other) (λ none. absurd none) last) (in_append (Get h p) at.past (Get g q ∷ []) here));
        }

    write_visit : (ops : List (Op L)) (v : Visit L) (n : ℕ) (g : L.Leaf) (x : L.Write) → VisitAt ops v → NthOp ops n (Set g x) → n ≡ suc v.done → VisitAt ops (record v { done = n; changes = L.add g x v.changes })
    write_visit ops v n g x at nth next =
        let is = next_is ops v n (Set g x) at nth next in
        record {
          past = at.past ++ Set g x ∷ [];
          rest = nth.after;
          split = at.split ∙ ap (λ l. at.past ++ l) is.1 ∙ sym (append_assoc at.past (Set g x ∷ []) nth.after);
          done = let d = at.done in let m = length_of at.past (Set g x ∷ []) in omega arith;
          changes = ap (L.add g x) at.changes ∙ sym (adds_append L (sets at.past) ((g, x) ∷ []) L.none) ∙ ap (λ l. adds L l L.none) (sym (sets_append at.past (Set g x ∷ [])));
          shared = λ h p here. ⊎_elim (λ old. at.shared h p old) (λ last. ⊎_elim (λ e. absurd (get_set h g p x e)) (λ none. absurd none) last) (in_append (Get h p) at.past (Set g x ∷ []) here);
        }

    -- a visit that has done all has its intentions from all
    pub all_done : (ops : List (Op L)) (v : Visit L) → VisitAt ops v → v.done ≡ length ops → v.changes ≡ adds L (sets ops) L.none
    all_done ops v at n =
        let none = none_left at.past at.rest (sym at.done ∙ n ∙ ap length at.split) in
        at.changes ∙ ap (λ l. adds L (sets l) L.none) (sym (at.split ∙ ap (λ l. at.past ++ l) none ∙ append-nil at.past))

    -- every row of the table but Open
    pub acted_steps : (ops : Name → List (Op L)) (s : SiteState L) (t : Name) (b : Body L) (act : Act L) → SiteData ops s → Locked s → TellsBody ops s b → Acted s t b act → Steps ops s (site_after s act)
    acted_steps ops s t b act now locked tells (says_nothing c) = same_steps ops s now
    acted_steps ops s t b act now locked tells (says_gone k op g q) = same_steps ops s now
    acted_steps ops s t b act now locked tells (says_no k n) = same_steps ops s now
    acted_steps ops s t b act now locked tells (says_yes k n u i e) = same_steps ops s now
    acted_steps ops s t b act now locked tells (says_ack k e) = same_steps ops s now
    acted_steps ops s t b act now locked tells opens = record {
      data_after = record {
        visits = λ j v. put_all same same_law (next_ticket s) (Active (new_visit s)) s.status (λ j x. x ≡ Active v → VisitAt (ops j) v)
            (λ e. subst (VisitAt (ops (next_ticket s))) (visit_is (new_visit s) v e) (record { past = []; rest = []; split = now.fresh (next_ticket s) (not_drawn s); done = refl; changes = refl; shared = λ g q here. absurd here }))
            (λ j other e. now.visits j v e) j;
        rows = λ j u i. put_all same same_law (next_ticket s) (Active (new_visit s)) s.status (λ j x. x ≡ Prepared u i → i ≡ adds L (sets (ops j)) L.none) (λ e. cc) (λ j other e. now.rows j u i e) j;
        fresh = λ j new. now.fresh j (λ drawn. new (drawn_next s j drawn));
      };
      stay = λ j v. put_all same same_law (next_ticket s) (Active (new_visit s)) s.status (λ j x. x ≡ Active v → (ops j ≡ []) ⊎ ((u : Visit L) × (s.status j ≡ Active u) × ((g : L.Leaf) → u.shared g ≡ true → (v.shared g ≡ true) × (s.kept g ≡ s.kept g))))
          (λ e. inl (now.fresh (next_ticket s) (not_drawn s))) (λ j other e. inr (v, e, λ g is. (is, refl))) j;
    }
    acted_steps ops s t b act now locked tells (reads k op g q v e next free) = locks_steps ops s k v _ g _ now e (read_visit (ops k) v op g q (now.visits k v e) tells next)
        (λ h held. either_if (λ x. x ≡ true) (L.same_leaf h g) true (v.shared h) (λ at. refl) (λ off. held))
    acted_steps ops s t b act now locked tells (writes k op g x v e next free) = locks_steps ops s k v _ g _ now e (write_visit (ops k) v op g x (now.visits k v e) tells next) (λ h held. held)
    acted_steps ops s t b act now locked tells (prepares k n v e done) = put_steps ops s s.kept k (Prepared t v.changes) _ now (λ x f. cc)
        (λ u i f. row_changes t u v.changes i f ∙ all_done (ops k) v (now.visits k v e) (done ∙ tells)) (λ j u g other f is. refl)
      where
        row_changes : (t u : Name) (i j : L.Intentions) → (let r : Status L = Prepared t i in r ≡ Prepared u j) → j ≡ i
        row_changes t u i j f = cc
    acted_steps ops s t b act now locked tells (only_read k n v e done empty) = ends_steps ops s k _ now
    acted_steps ops s t b act now locked tells (votes_no k n v e) = ends_steps ops s k _ now
    acted_steps ops s t b act now locked tells (refuses c k v reason e) = ends_steps ops s k _ now
    acted_steps ops s t b act now locked tells (applies k u i e) = put_steps ops s (λ g. L.changed g i (s.kept g)) k Dead _ now (λ v f. cc) (λ t i f. cc)
        (λ j v g other f held. untouched (ops k) i g (s.kept g) (now.rows k u i e) (free j v g other f held))
      where
        -- what another visit shares isn't touched by the row
        free : (j : Name) (v : Visit L) (g : L.Leaf) → same j k ≡ false → s.status j ≡ Active v → v.shared g ≡ true → L.touches g i ≡ false
        free j v g other f held = ⊎_elim
            (λ is. clash (ap (has_lock g) f ∙ or_left (v.shared g) (L.touches g v.changes) held) (locked.alone k j g (unequal j k other) (ap (has_exclusive g) e ∙ is)))
            (λ none. none) (by_test (L.touches g i))
    acted_steps ops s t b act now locked tells (ends c k v e) = ends_steps ops s k _ now
    acted_steps ops s t b act now locked tells (discards k u i e) = ends_steps ops s k _ now

    -- what the site answers
    pub acted_says : (ops : Name → List (Op L)) (s : SiteState L) (t : Name) (b : Body L) (act : Act L) → SiteData ops s → TellsBody ops s b → Acted s t b act → Every (TellsBody ops (site_after s act)) (said s act)
    acted_says ops s t b act now tells (says_nothing c) = tt
    acted_says ops s t b act now tells (says_gone k op g q) = (tt, tt)
    acted_says ops s t b act now tells (says_no k n) = (tt, tt)
    acted_says ops s t b act now tells (says_yes k n u i e) = (tt, tt)
    acted_says ops s t b act now tells (says_ack k e) = (tt, tt)
    acted_says ops s t b act now tells opens = (tt, tt)
    acted_says ops s t b act now tells (reads k op g q v e next free) =
        let at = now.visits k v e in
        let is = next_is (ops k) v op (Get g q) at tells next in (
          record {
            leaf = g;
            query = q;
            nth = tells;
            now = λ x f. let eq = visit_is _ x (sym (put_here same same_law k (Active (record v { done = op; shared = put L.same_leaf g true v.shared })) (λ j. sees g (s.status j))) ∙ f) in (
              subst (λ z. z.shared g ≡ true) eq (put_here L.same_leaf law.leaves g true v.shared),
              ap (L.parts q) (ap (λ i. L.changed g i (s.kept g)) at.changes ∙ changed_by L law g (sets at.past) (s.kept g) ∙ ap (λ l. written L g (sets l) (s.kept g)) is.0),
            );
          },
          tt,
        )
    acted_says ops s t b act now tells (writes k op g x v e next free) = tt
    acted_says ops s t b act now tells (prepares k n v e done) = (tt, tt)
    acted_says ops s t b act now tells (only_read k n v e done empty) =
        let all = all_done (ops k) v (now.visits k v e) (done ∙ tells) in
        (empty_by L law (sets (ops k)) (ap L.is_empty (sym all) ∙ empty), tt)
    acted_says ops s t b act now tells (votes_no k n v e) = (tt, tt)
    acted_says ops s t b act now tells (refuses c k v reason e) = (tt, tt)
    acted_says ops s t b act now tells (applies k u i e) = (tt, tt)
    acted_says ops s t b act now tells (ends c k v e) = tt
    acted_says ops s t b act now tells (discards k u i e) = tt

    -- no answer of a site is an operation
    pub acted_plain : (s : SiteState L) (t : Name) (b : Body L) (act : Act L) → Acted s t b act → Every (λ x. (a c : L.Site) (j : Name) → op_of a j c x ≡ []) (said s act)
    acted_plain s t b act (says_nothing c) = tt
    acted_plain s t b act (says_gone k op g q) = ((λ a c j. refl), tt)
    acted_plain s t b act (says_no k n) = ((λ a c j. refl), tt)
    acted_plain s t b act (says_yes k n u i e) = ((λ a c j. refl), tt)
    acted_plain s t b act (says_ack k e) = ((λ a c j. refl), tt)
    acted_plain s t b act opens = ((λ a c j. refl), tt)
    acted_plain s t b act (reads k op g q v e next free) = ((λ a c j. refl), tt)
    acted_plain s t b act (writes k op g x v e next free) = tt
    acted_plain s t b act (prepares k n v e done) = ((λ a c j. refl), tt)
    acted_plain s t b act (only_read k n v e done empty) = ((λ a c j. refl), tt)
    acted_plain s t b act (votes_no k n v e) = ((λ a c j. refl), tt)
    acted_plain s t b act (refuses c k v reason e) = ((λ a c j. refl), tt)
    acted_plain s t b act (applies k u i e) = ((λ a c j. refl), tt)
    acted_plain s t b act (ends c k v e) = tt
    acted_plain s t b act (discards k u i e) = tt

    pub restarted_steps : (ops : Name → List (Op L)) (s : SiteState L) → SiteData ops s → Steps ops s (site_restarted s)
    restarted_steps ops s now = record {
      data_after = record {
        visits = λ k v e. absurd (no_visit (s.status k) v e);
        rows = λ k t i e. now.rows k t i (row_is (s.status k) t i e);
        fresh = λ k new. now.fresh k (λ drawn. new (drawn_restarted s k drawn));
      };
      stay = λ k v e. absurd (no_visit (s.status k) v e);
    }
      where
        no_visit : (st : Status L) (v : Visit L) → restarted st ≡ Active v → ⊥
        no_visit Dead v e = cc
        no_visit (Active u) v e = cc
        no_visit (Prepared t i) v e = cc

        row_is : (st : Status L) (t : Name) (i : L.Intentions) → restarted st ≡ Prepared t i → st ≡ Prepared t i
        row_is Dead t i e = cc
        row_is (Active u) t i e = cc
        row_is (Prepared u j) t i e = e

    pub give_up_steps : (ops : Name → List (Op L)) (s : SiteState L) (k : Name) (st : Status L) → SiteData ops s → Steps ops s (site_after s (on_give_up k st))
    give_up_steps ops s k Dead now = same_steps ops s now
    give_up_steps ops s k (Active v) now = ends_steps ops s k _ now
    give_up_steps ops s k (Prepared t i) now = same_steps ops s now
