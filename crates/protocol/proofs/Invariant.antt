-- The whole invariant, and the events that change nothing of the line: those of sites.
use Rattle.std.proofs.Common.{◌≡◌, refl, sym, ap, ◌∙◌, subst, Bool, true, false, List, [], ◌∷◌, inl, inr, ⊎_elim}
pub use Rattle.protocol.specs.Parts.{Counts}
use Rattle.protocol.specs.Language.{Lang, IsLawful, Name, put}
use Rattle.protocol.specs.Letter.{Read, Voted, Letter}
use Rattle.protocol.specs.Site.{Status, Dead, Active, Prepared, SiteState}
use Rattle.protocol.specs.World.{World, with_site}
use Rattle.protocol.specs.Serial.{is_committed, phases_of, settled}
use Rattle.protocol.proofs.Basics.{In, in_append, put_all, left_true}
use Rattle.protocol.proofs.Fits.{Drawn, IsCommitted}
use Rattle.protocol.proofs.Ops.{Op, writes_to}
use Rattle.protocol.proofs.Works.{Work, works, own_of}
use Rattle.protocol.proofs.Base.{Base}
use Rattle.protocol.proofs.Line.{Line, Two, Apart, RightFrom, reads_from, after, line_same, two_same, every_here}
use Rattle.protocol.proofs.Viable.{ViableNow, Viable, Was}
use Rattle.protocol.proofs.Settled.{changes_it, settled_same}

module _ {L : Lang} where
  pub record Deep (o : L.Site → Name → Name) (ops : L.Site → Name → List (Op L)) (whole : L.Whole) (w : World L) : Type 0 where
    pub base : Base o ops w
    pub line : Line (works w.past) (is_committed w.past) (Counts ops w) (settled w) (λ g. L.content g whole) (phases_of w.past)
    pub two : Two (works w.past) (is_committed w.past) (Counts ops w) (Viable ops w) (phases_of w.past)

  pub line_works : (W X : Name → List (Work L)) (C : Name → Bool) (V : Name → Type 0) (last c : L.Leaf → L.Content) (ts : List Name) → ((t : Name) → In t ts → X t ≡ W t) → Line W C V last c ts → Line X C V last c ts
  line_works W X C V last c [] alike line = line
  line_works W X C V last c (t ∷ ts) alike line = (
    (λ v. subst (RightFrom c) (sym (alike t (inl refl))) (line.0 v)),
    subst (λ xs. Line X C V last (after (C t) xs c) ts) (sym (alike t (inl refl))) (line_works W X C V last (after (C t) (W t) c) ts (λ x here. alike x (inr here)) line.1),
  )

  pub two_works : (W X : Name → List (Work L)) (C : Name → Bool) (V E : Name → Type 0) (ts : List Name) → ((t : Name) → In t ts → X t ≡ W t) → Two W C V E ts → Two X C V E ts
  two_works W X C V E [] alike two = two
  two_works W X C V E (t ∷ ts) alike two = (
    every_here (Apart W C V E t) (Apart X C V E t) ts (λ u here apart e g writes_.
        let p = apart e g (subst (λ xs. writes_to L g (own_of xs) ≡ true) (alike t (inl refl)) writes_) in
        ((λ v. subst (λ xs. reads_from g xs ≡ false) (sym (alike u (inr here))) (p.0 v)), (λ done. subst (λ xs. writes_to L g (own_of xs) ≡ false) (sym (alike u (inr here))) (p.1 done)))) two.0,
    two_works W X C V E ts (λ x here. alike x (inr here)) two.1,
  )

  -- nothing of the line changes
  pub deep_moves : IsLawful L → (o p : L.Site → Name → Name) (ops opt : L.Site → Name → List (Op L)) (whole : L.Whole) (w v : World L) → Deep o ops whole w → Base p opt v → phases_of v.past ≡ phases_of w.past →
      ((t : Name) → In t (phases_of w.past) → works v.past t ≡ works w.past t) → ((t : Name) → is_committed v.past t ≡ is_committed w.past t) → ((t : Name) → In t (phases_of w.past) → Viable opt v t → Viable ops w t) →
      ((g : L.Leaf) → settled v g ≡ settled w g) → Deep p opt whole v
  deep_moves law o p ops opt whole w v deep base phases alike committed viable final =
      let counts : (t : Name) → In t (phases_of w.past) → Counts opt v t → Counts ops w t = λ t here. ⊎_elim (λ done. inl (sym (committed t) ∙ done)) (λ now. inr (viable t here now)) in
      record {
        base = base;
        line = subst (Line (works v.past) (is_committed v.past) (Counts opt v) (settled v) (λ g. L.content g whole)) (sym phases)
            (line_works (works w.past) (works v.past) (is_committed v.past) (Counts opt v) (settled v) (λ g. L.content g whole) (phases_of w.past) alike
            (line_same law (works w.past) (is_committed w.past) (is_committed v.past) (Counts ops w) (Counts opt v) (settled w) (settled v) (phases_of w.past) (λ g. L.content g whole) (λ g. L.content g whole) (λ t here. committed t) counts final (λ g. refl) deep.line));
        two = subst (Two (works v.past) (is_committed v.past) (Counts opt v) (Viable opt v)) (sym phases)
            (two_works (works w.past) (works v.past) (is_committed v.past) (Counts opt v) (Viable opt v) (phases_of w.past) alike
            (two_same (works w.past) (is_committed w.past) (is_committed v.past) (Counts ops w) (Counts opt v) (Viable ops w) (Viable opt v) (phases_of w.past)
            (λ t u t_in u_in apart e g writes_. let p = apart (viable t t_in e) g writes_ in ((λ c. p.0 (counts u u_in c)), λ done. p.1 (sym (committed u) ∙ done))) deep.two));
      }

  module _ (law : IsLawful L) (o p : L.Site → Name → Name) (ops : L.Site → Name → List (Op L)) (whole : L.Whole) (w : World L) (a : L.Site) (new : SiteState L) (letters : List (Letter L)) where
    -- what is viable after a site's step was so before
    pub viable_site : Base o ops w → Was (ops a) (w.sites a) new → ((b : L.Site) (k t : Name) → In (record { site = b; txn = t; body = Voted k Read }) letters → (b ≡ a) × ViableNow (ops a k) ((w.sites a).status k)) → (t : Name) → Viable ops (with_site w a new letters) t → Viable ops w t
    viable_site base was read t viable = record {
      u = viable.u;
      known = viable.known;
      voting = viable.voting;
      each = λ b k own. ⊎_elim
          (λ now. inl (put_all L.same_site law.sites a new w.sites (λ b s. Drawn (w.sites b) k → ViableNow (ops b k) (s.status k) → ViableNow (ops b k) ((w.sites b).status k)) (was k) (λ b other drawn x. x) b ((base.fit.known t viable.u viable.known).tickets b k own).0 now))
          (λ letter. ⊎_elim (λ before. inr before) (λ last. let r = read b k t last in inl (subst (λ c. ViableNow (ops c k) ((w.sites c).status k)) (sym r.0) r.1)) (in_append (record { site = b; txn = t; body = Voted k Read }) w.letters letters letter))
          (viable.each b k own);
    }

    pub deep_site : Deep o ops whole w → Base p ops (with_site w a new letters) → Was (ops a) (w.sites a) new → ((b : L.Site) (k t : Name) → In (record { site = b; txn = t; body = Voted k Read }) letters → (b ≡ a) × ViableNow (ops a k) ((w.sites a).status k)) →
        ((g : L.Leaf) → settled (with_site w a new letters) g ≡ settled w g) → Deep p ops whole (with_site w a new letters)
    deep_site deep base was read final = deep_moves law o p ops ops whole w (with_site w a new letters) deep base refl (λ t here. refl) (λ t. refl) (λ t here. viable_site deep.base was read t) final

    -- decided rows stay, kept content too
    pub site_settled : Base o ops w → Base p ops (with_site w a new letters) → ((g : L.Leaf) → new.kept g ≡ (w.sites a).kept g) →
        ((k t : Name) (i : L.Intentions) → IsCommitted w.past t → (w.sites a).status k ≡ Prepared t i → new.status k ≡ Prepared t i) → ((k t : Name) (i : L.Intentions) → IsCommitted w.past t → new.status k ≡ Prepared t i → (w.sites a).status k ≡ Prepared t i) →
        (g : L.Leaf) → settled (with_site w a new letters) g ≡ settled w g
    site_settled base after_ kept stays was g =
        let sites = put L.same_site a new w.sites in
        settled_same law o p ops ops w (with_site w a new letters) base after_ g
        (put_all L.same_site law.sites a new w.sites (λ b s. s.kept g ≡ (w.sites b).kept g) (kept g) (λ b other. refl) (L.home g))
        (λ k. put_all L.same_site law.sites a new w.sites (λ b s. changes_it w.past g ((w.sites b).status k) ≡ true → (s.status k ≡ (w.sites b).status k) × (changes_it w.past g (s.status k) ≡ true))
        (there g k ((w.sites a).status k) refl) (λ b other is. (refl, is)) (L.home g))
        (λ k. put_all L.same_site law.sites a new w.sites (λ b s. changes_it w.past g (s.status k) ≡ true → changes_it w.past g ((w.sites b).status k) ≡ true) (back g k (new.status k) refl) (λ b other is. is) (L.home g))
      where
        there : (g : L.Leaf) (k : Name) (st : Status L) → (w.sites a).status k ≡ st → changes_it w.past g st ≡ true → (new.status k ≡ st) × (changes_it w.past g (new.status k) ≡ true)
        there g k Dead e is = cc
        there g k (Active v) e is = cc
        there g k (Prepared t i) e is = let now = stays k t i (left_true (is_committed w.past t) (L.touches g i) is) e in (now, ap (changes_it w.past g) now ∙ is)

        back : (g : L.Leaf) (k : Name) (st : Status L) → new.status k ≡ st → changes_it w.past g st ≡ true → changes_it w.past g ((w.sites a).status k) ≡ true
        back g k Dead e is = cc
        back g k (Active v) e is = cc
        back g k (Prepared t i) e is = ap (changes_it w.past g) (was k t i (left_true (is_committed w.past t) (L.touches g i) is) e) ∙ is
