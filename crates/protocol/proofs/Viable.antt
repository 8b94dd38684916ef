-- Viable transactions: one that can no longer commit never can again.
use Rattle.std.proofs.Common.{◌≡◌, refl, sym, ap, ◌∙◌, subst, ℕ, suc, Bool, true, false, List, [], ◌∷◌, ◌++◌, length, drop, inl, inr, ⊎_elim}
use Rattle.std.proofs.Math.Seq.{drop-append_seam}
pub use Rattle.protocol.specs.Parts.{ViableNow, is_row, may_go_on, Viable}
use Rattle.protocol.specs.Language.{Lang, IsLawful, Name, same, put}
use Rattle.protocol.specs.Letter.{Read, Body, Voted, Letter}
use Rattle.protocol.specs.Site.{Visit, Status, Dead, Active, Prepared, SiteState, Act, has_exclusive, has_lock, sees, next_ticket, new_visit, site_after, said, restarted, site_restarted, on_give_up}
use Rattle.protocol.specs.World.{World, addressed}
use Rattle.protocol.proofs.Basics.{In, put_all, clash, same_law, by_test, or_cases, if_true, if_false, every_in}
use Rattle.protocol.proofs.Fits.{Drawn, Own}
use Rattle.protocol.proofs.SiteTable.{Acted, says_nothing, says_gone, says_no, says_yes, says_ack, opens, reads, writes, prepares, only_read, votes_no, refuses, applies, ends, discards}
use Rattle.protocol.proofs.SiteSteps.{not_drawn, sees_prepared}
use Rattle.protocol.proofs.Locks.{seen_from, unequal}
use Rattle.protocol.proofs.Ops.{Op, Get, Set, sets, sets_append, touches_by, writes_to, writes_append}
use Rattle.protocol.proofs.Data.{VisitAt, SiteData, NthOp, TellsBody, next_is, visit_is}
use Rattle.protocol.proofs.Base.{Base}

module _ {L : Lang} where
  pub rest_is : (ops : List (Op L)) (v : Visit L) (at : VisitAt ops v) → drop v.done ops ≡ at.rest
  rest_is ops v at = ap (λ n. drop n ops) at.done ∙ ap (drop (length at.past)) at.split ∙ drop-append_seam at.past at.rest

  -- a visit that has done all may go on
  all_may_go_on : (ops : List (Op L)) (st : Status L) (v : Visit L) → st ≡ Active v → v.done ≡ length ops → ViableNow ops st
  all_may_go_on ops st v e n = may_go_on v e (λ g is. let f : false ≡ true = sym (ap (λ l. writes_to L g (sets l)) (ap (λ m. drop m ops) n ∙ drop_all ops)) ∙ is in cc)
    where
      drop_all : (xs : List (Op L)) → drop (length xs) xs ≡ []
      drop_all [] = refl
      drop_all (x ∷ xs) = drop_all xs

  -- a ticket that is viable after a step was so before
  abbrev pub Was : (Name → List (Op L)) → SiteState L → SiteState L → Type 0
  Was ops s new = (k : Name) → Drawn s k → ViableNow (ops k) (new.status k) → ViableNow (ops k) (s.status k)

  same_was : (ops : Name → List (Op L)) (s : SiteState L) → Was ops s s
  same_was ops s k drawn now = now

  -- one ticket gets another status
  put_was : (ops : Name → List (Op L)) (s : SiteState L) (k : Name) (st : Status L) (names : List Name) (kept : L.Leaf → L.Content) → (ViableNow (ops k) st → ViableNow (ops k) (s.status k)) → Was ops s (record s { kept = kept; status = put same k st s.status; known = names })
  put_was ops s k st names kept here j drawn = put_all same same_law k st s.status (λ j x. ViableNow (ops j) x → ViableNow (ops j) (s.status j)) here (λ j other now. now) j

  dead_not : (ops : List (Op L)) (st : Status L) → ViableNow ops Dead → ViableNow ops st
  dead_not ops st (is_row t i e) = cc
  dead_not ops st (may_go_on v e free) = cc

  sees_was : (ops : List (Op L)) (h : L.Leaf) (st : Status L) → ViableNow ops (sees h st) → ViableNow ops st
  sees_was ops h st (is_row t i e) = is_row t i (sees_prepared h st t i e)
  sees_was ops h st (may_go_on v e free) =
      let from = seen_from h st v e in
      may_go_on from.0 from.1 (λ g is. before from.0.foreign g (sym (ap (λ (x : Visit L). x.foreign g) from.2) ∙ free g (ap (λ (x : Visit L). writes_to L g (sets (drop x.done ops))) from.2 ∙ is)))
    where
      before : (f : L.Leaf → Bool) (g : L.Leaf) → put L.same_leaf h true f g ≡ false → f g ≡ false
      before f g e = ⊎_elim (λ is. clash (if_true (L.same_leaf g h) true (f g) is) e) (λ other. sym (if_false (L.same_leaf g h) true (f g) other) ∙ e) (by_test (L.same_leaf g h))

  locks_was : (ops : Name → List (Op L)) (s : SiteState L) (k : Name) (w : Visit L) (h : L.Leaf) (names : List Name) → (ViableNow (ops k) (Active w) → ViableNow (ops k) (s.status k)) → Was ops s (record s { status = put same k (Active w) (λ j. sees h (s.status j)); known = names })
  locks_was ops s k w h names here j drawn = put_all same same_law k (Active w) (λ j. sees h (s.status j)) (λ j x. ViableNow (ops j) x → ViableNow (ops j) (s.status j)) here (λ j other now. sees_was (ops j) h (s.status j) now) j

  -- a visit that did its next operation
  next_was : (ops : List (Op L)) (st : Status L) (v w : Visit L) (op : Op L) (at : VisitAt ops v) (nth : NthOp ops (suc v.done) op) → st ≡ Active v → w.done ≡ suc v.done → w.foreign ≡ v.foreign → ((g : L.Leaf) → writes_to L g (sets (op ∷ [])) ≡ true → v.foreign g ≡ false) → ViableNow ops (Active w) → ViableNow ops st
  next_was ops st v w op at nth e done foreign free (is_row t i f) = cc
  next_was ops st v w op at nth e done foreign free (may_go_on x f later) =
      let is = next_is ops v (suc v.done) op at nth refl in
      let same_ = visit_is w x f in
      may_go_on v e (λ g it_writes.
      let split = ap (λ l. writes_to L g (sets l)) (rest_is ops v at ∙ is.1) in
      ⊎_elim
      (λ first. free g first)
      (λ not_. ap (λ h. h g) (sym foreign) ∙ ap (λ (y : Visit L). y.foreign g) same_
      ∙ later g (ap (λ (y : Visit L). writes_to L g (sets (drop y.done ops))) (sym same_)
      ∙ ap (λ n. writes_to L g (sets (drop n ops))) done ∙ ap (λ l. writes_to L g (sets l)) (drop_next ops at.past op nth.after v.done at.done (at.split ∙ ap (λ l. at.past ++ l) is.1))
      ∙ sym (writes_append L g (sets (op ∷ [])) (sets nth.after) not_) ∙ ap (writes_to L g) (sym (sets_append (op ∷ []) nth.after)) ∙ sym split ∙ it_writes))
      (by_test (writes_to L g (sets (op ∷ [])))))
    where
      drop_next : (ops past : List (Op L)) (op : Op L) (after : List (Op L)) (n : ℕ) → n ≡ length past → ops ≡ past ++ op ∷ after → drop (suc n) ops ≡ after
      drop_next ops past op after n e f = ap (λ m. drop (suc m) ops) e ∙ ap (drop (suc (length past))) f ∙ go past
        where
          go : (past : List (Op L)) → drop (suc (length past)) (past ++ op ∷ after) ≡ after
          go [] = refl
          go (x ∷ xs) = go xs

  module _ (law : IsLawful L) where
    -- every row of the table
    pub acted_was : (ops : Name → List (Op L)) (s : SiteState L) (t : Name) (b : Body L) (act : Act L) → SiteData ops s → TellsBody ops s b → Acted s t b act → Was ops s (site_after s act)
    acted_was ops s t b act now tells (says_nothing c) = same_was ops s
    acted_was ops s t b act now tells (says_gone k op g q) = same_was ops s
    acted_was ops s t b act now tells (says_no k n) = same_was ops s
    acted_was ops s t b act now tells (says_yes k n u i e) = same_was ops s
    acted_was ops s t b act now tells (says_ack k e) = same_was ops s
    acted_was ops s t b act now tells opens = λ j drawn. put_all same same_law (next_ticket s) (Active (new_visit s)) s.status (λ j x. Drawn s j → ViableNow (ops j) x → ViableNow (ops j) (s.status j)) (λ d viable. absurd (not_drawn s d)) (λ j other d viable. viable) j drawn
    acted_was ops s t b act now tells (reads k op g q v e next free) = locks_was ops s k _ g s.known (next_was (ops k) (s.status k) v _ (Get g q) (now.visits k v e) (record { before = tells.before; after = tells.after; split = tells.split; number = sym next ∙ tells.number }) e next refl (λ h is. cc))
    acted_was ops s t b act now tells (writes k op g x v e next free) = locks_was ops s k _ g s.known (next_was (ops k) (s.status k) v _ (Set g x) (now.visits k v e) (record { before = tells.before; after = tells.after; split = tells.split; number = sym next ∙ tells.number }) e next refl
        (λ h is. subst (λ n. v.foreign n ≡ false) ((law.leaves g h).0 (⊎_elim (λ f. f) (λ f. cc) (or_cases (L.same_leaf g h) false is))) free))
    acted_was ops s t b act now tells (prepares k n v e done) = put_was ops s k (Prepared t v.changes) s.known s.kept (λ viable. all_may_go_on (ops k) (s.status k) v e (done ∙ tells))
    acted_was ops s t b act now tells (only_read k n v e done empty) = put_was ops s k Dead s.known s.kept (dead_not (ops k) (s.status k))
    acted_was ops s t b act now tells (votes_no k n v e) = put_was ops s k Dead s.known s.kept (dead_not (ops k) (s.status k))
    acted_was ops s t b act now tells (refuses c k v reason e) = put_was ops s k Dead s.known s.kept (dead_not (ops k) (s.status k))
    acted_was ops s t b act now tells (applies k u i e) = put_was ops s k Dead s.known (λ g. L.changed g i (s.kept g)) (dead_not (ops k) (s.status k))
    acted_was ops s t b act now tells (ends c k v e) = put_was ops s k Dead s.known s.kept (dead_not (ops k) (s.status k))
    acted_was ops s t b act now tells (discards k u i e) = put_was ops s k Dead s.known s.kept (dead_not (ops k) (s.status k))

    -- a vote Read is put out by a visit that has done all
    pub read_was : (ops : Name → List (Op L)) (s : SiteState L) (t : Name) (b : Body L) (act : Act L) → TellsBody ops s b → Acted s t b act → (k : Name) → In (Voted k Read) (said s act) → ViableNow (ops k) (s.status k)
    read_was ops s t b act tells (says_nothing c) k here = absurd here
    read_was ops s t b act tells (says_gone j op g q) k here = ⊎_elim (λ e. cc) (λ none. absurd none) here
    read_was ops s t b act tells (says_no j n) k here = ⊎_elim (λ e. cc) (λ none. absurd none) here
    read_was ops s t b act tells (says_yes j n u i e) k here = ⊎_elim (λ e. cc) (λ none. absurd none) here
    read_was ops s t b act tells (says_ack j e) k here = ⊎_elim (λ e. cc) (λ none. absurd none) here
    read_was ops s t b act tells opens k here = ⊎_elim (λ e. cc) (λ none. absurd none) here
    read_was ops s t b act tells (reads j op g q v e next free) k here = ⊎_elim (λ e. cc) (λ none. absurd none) here
    read_was ops s t b act tells (writes j op g x v e next free) k here = absurd here
    read_was ops s t b act tells (prepares j n v e done) k here = ⊎_elim (λ e. cc) (λ none. absurd none) here
    read_was ops s t b act tells (only_read j n v e done empty) k here = ⊎_elim (λ f. let is = voted_is j k (sym f) in subst (λ m. ViableNow (ops m) (s.status m)) is (all_may_go_on (ops j) (s.status j) v e (done ∙ tells))) (λ none. absurd none) here
      where
        voted_is : (j k : Name) → (let x : Body L = Voted j Read in x ≡ Voted k Read) → j ≡ k
        voted_is j k f = cc
    read_was ops s t b act tells (votes_no j n v e) k here = ⊎_elim (λ e. cc) (λ none. absurd none) here
    read_was ops s t b act tells (refuses c j v reason e) k here = ⊎_elim (λ e. cc) (λ none. absurd none) here
    read_was ops s t b act tells (applies j u i e) k here = ⊎_elim (λ e. cc) (λ none. absurd none) here
    read_was ops s t b act tells (ends c j v e) k here = absurd here
    read_was ops s t b act tells (discards j u i e) k here = absurd here

  pub restarted_was : (ops : Name → List (Op L)) (s : SiteState L) → Was ops s (site_restarted s)
  restarted_was ops s k drawn = go (s.status k)
    where
      go : (st : Status L) → ViableNow (ops k) (restarted st) → ViableNow (ops k) st
      go Dead viable = viable
      go (Active v) viable = dead_not (ops k) (Active v) viable
      go (Prepared t i) viable = viable

  pub give_up_was : (ops : Name → List (Op L)) (s : SiteState L) (j : Name) (st : Status L) → Was ops s (site_after s (on_give_up j st))
  give_up_was ops s j Dead = same_was ops s
  give_up_was ops s j (Active v) = put_was ops s j Dead s.known s.kept (dead_not (ops j) (s.status j))
  give_up_was ops s j (Prepared t i) = same_was ops s

  -- a letter among those addressed
  pub in_addressed : (a b : L.Site) (t u : Name) (x : Body L) (bodies : List (Body L)) → In (record { site = b; txn = u; body = x }) (addressed a t bodies) → (b ≡ a) × In x bodies
  in_addressed a b t u x [] here = absurd here
  in_addressed a b t u x (y ∷ bodies) (inl e) = (ap (λ (l : Letter L). l.site) e, inl (ap (λ (l : Letter L). l.body) e))
  in_addressed a b t u x (y ∷ bodies) (inr below) = let r = in_addressed a b t u x bodies below in (r.0, inr r.1)

  -- where a viable transaction writes, nobody else has a lock
  pub alone_at : IsLawful L → (o : L.Site → Name → Name) (ops : L.Site → Name → List (Op L)) (w : World L) (t : Name) → Base o ops w → (viable : Viable ops w t) → (a : L.Site) (k : Name) → Own a k viable.u → (g : L.Leaf) → writes_to L g (sets (ops a k)) ≡ true →
      (j : Name) → same j k ≡ false → has_lock g ((w.sites a).status j) ≡ false
  alone_at law o ops w t base viable a k own g it_writes j apart = ⊎_elim now_case (λ read. let f : sets (ops a k) ≡ [] = every_in (λ l. TellsBody (ops l.site) (w.sites l.site) l.body) w.letters (record { site = a; txn = t; body = Voted k Read }) base.tells read in
      absurd (let z : false ≡ true = sym (ap (writes_to L g) f) ∙ it_writes in cc)) (viable.each a k own)
    where
      now_case : ViableNow (ops a k) ((w.sites a).status k) → has_lock g ((w.sites a).status j) ≡ false
      now_case (is_row u i e) = (base.locked a).alone k j g (unequal j k apart) (ap (has_exclusive g) e ∙ ap (L.touches g) ((base.data_at a).rows k u i e) ∙ touches_by L law g (sets (ops a k)) ∙ it_writes)
      now_case (may_go_on v e free) =
          let at = (base.data_at a).visits k v e in
          let both = ap (writes_to L g) (ap sets at.split ∙ sets_append at.past at.rest) in
          ⊎_elim
          (λ past. (base.locked a).alone k j g (unequal j k apart) (ap (has_exclusive g) e ∙ ap (L.touches g) at.changes ∙ touches_by L law g (sets at.past) ∙ past))
          (λ not_. ⊎_elim (λ held. clash ((base.locked a).seen j k v g apart e held) (free g (ap (λ l. writes_to L g (sets l)) (rest_is (ops a k) v at) ∙ sym (writes_append L g (sets at.past) (sets at.rest) not_) ∙ sym both ∙ it_writes))) (λ none. none) (by_test (has_lock g ((w.sites a).status j))))
          (by_test (writes_to L g (sets at.past)))
