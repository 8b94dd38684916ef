-- The serial law over a list of catalogues: the language of a lawful list is lawful, and its law says nothing of numbers.
use Rattle.std.proofs.Common.{◌≡◌, refl, sym, ap, ap₂, ◌∙◌, subst, ◌↔◌, ℕ, ◌&&◌, true, false, List, [], ◌∷◌, map, if◌then◌else◌, ⊎_elim}
use Rattle.protocol.specs.Language.{Lang, IsLawful, Name, put, written}
use Rattle.protocol.specs.Desk.{Deed}
use Rattle.protocol.specs.World.{World, run}
use Rattle.protocol.specs.Serial.{IsSerial, committed, statements_of, whole_after, answers_in_turn, serial_whole, serial_answers}
use Rattle.protocol.specs.Catalogues.{Catalogues, Intended_at, Nothing, Some_at, same_place, add_at, is_nothing, touches_at, changed_at, then_in_force, listed, whole_then, answers_then, serial_then, serial_answers_then, stated, IsSerialList, ListLaw, IsLawfulList}
use Rattle.protocol.proofs.Basics.{left_true, right_true, both_true, by_test, put_all, clash}
use Rattle.protocol.proofs.SerialLaw.{serial_law}

-- ---- the serial run, without numbers
module _ (M : Lang) (C : Catalogues M) where
  abbrev plain : List (ℕ × C.Statement) → List C.Statement
  plain ss = map (λ (s : ℕ × C.Statement). s.1) ss

  whole_is : (ss : List (ℕ × C.Statement)) (whole : ℕ × C.Whole) → (whole_after (listed M C) ss whole).1 ≡ whole_then M C (plain ss) whole.1
  whole_is [] whole = refl
  whole_is (s ∷ ss) whole = whole_is ss ((listed M C).meaning s whole).1

  answers_are : (ss : List (ℕ × C.Statement)) (whole : ℕ × C.Whole) → answers_in_turn (listed M C) ss whole ≡ answers_then M C (plain ss) whole.1
  answers_are [] whole = refl
  answers_are (s ∷ ss) whole = ap (λ l. (C.meaning s.1 whole.1).0 ∷ l) (answers_are ss ((listed M C).meaning s whole).1)

  pub serial_whole_is : (past : List (Deed (listed M C))) (ts : List Name) (whole : ℕ × C.Whole) → (serial_whole (listed M C) (map (statements_of past) ts) whole).1 ≡ serial_then M C (map (stated M C past) ts) whole.1
  serial_whole_is past [] whole = refl
  serial_whole_is past (t ∷ ts) whole = serial_whole_is past ts (whole_after (listed M C) (statements_of past t) whole) ∙ ap (serial_then M C (map (stated M C past) ts)) (whole_is (statements_of past t) whole)

  serial_answers_are : (past : List (Deed (listed M C))) (ts : List Name) (whole : ℕ × C.Whole) → serial_answers (listed M C) (map (statements_of past) ts) whole ≡ serial_answers_then M C (map (stated M C past) ts) whole.1
  serial_answers_are past [] whole = refl
  serial_answers_are past (t ∷ ts) whole = ap₂ (λ a l. a ∷ l) (answers_are (statements_of past t) whole)
      (serial_answers_are past ts (whole_after (listed M C) (statements_of past t) whole) ∙ ap (serial_answers_then M C (map (stated M C past) ts)) (whole_is (statements_of past t) whole))

  -- a serial world is so without them
  pub serial_list : (whole : ℕ × C.Whole) (w : World (listed M C)) → IsSerial whole w → IsSerialList M C whole.1 w
  serial_list whole w serial = record {
    answers = serial.answers ∙ serial_answers_are w.past (committed w.past) whole;
    rebuilt = λ p. serial.rebuilt p ∙ ap₂ (λ m x. C.content m p x) serial.in_force (serial_whole_is w.past (committed w.past) whole);
  }

module _ (M : Lang) (C : Catalogues M) (law : IsLawfulList M C) where
  abbrev L : Lang
  L = listed M C

  same_places : (p q : M.Site × M.Leaf) → (same_place M p q ≡ true) ↔ (p ≡ q)
  same_places p q = (
    λ e. λ i. ((law.site.sites p.0 q.0).0 (left_true (M.same_site p.0 q.0) (M.same_leaf p.1 q.1) e) i, (law.site.leaves p.1 q.1).0 (right_true (M.same_site p.0 q.0) (M.same_leaf p.1 q.1) e) i),
    λ e. both_true (M.same_site p.0 q.0) (M.same_leaf p.1 q.1) ((law.site.sites p.0 q.0).1 (ap (λ r. r.0) e)) ((law.site.leaves p.1 q.1).1 (ap (λ r. r.1) e)),
  )

  -- intentions of a visit at each site
  abbrev at_site : Intended_at M → M.Site → M.Intentions
  at_site Nothing a = M.none
  at_site (Some_at at) a = at a

  changed_is : (p : M.Site × M.Leaf) (i : Intended_at M) (content : M.Content) → changed_at M p i content ≡ M.changed p.1 (at_site i p.0) content
  changed_is p Nothing content = sym (law.site.changed_none p.1 content)
  changed_is p (Some_at at) content = refl

  touches_is : (p : M.Site × M.Leaf) (i : Intended_at M) → touches_at M p i ≡ M.touches p.1 (at_site i p.0)
  touches_is p Nothing = sym (law.site.touches_none p.1)
  touches_is p (Some_at at) = refl

  -- one more intention is that of its own site
  added : (p : M.Site × M.Leaf) (x : M.Write) (i : Intended_at M) (a : M.Site) → at_site (add_at M p x i) a ≡ put M.same_site p.0 (M.add p.1 x (at_site i p.0)) (at_site i) a
  added p x Nothing a = refl
  added p x (Some_at at) a = refl

  -- what is read off a site's intentions after one more write of leaf q at its site
  one_more : {A : Type 0} (of : M.Intentions → A) (up : A → A) (l : M.Leaf) (q : M.Site × M.Leaf) (x : M.Write) (i : Intended_at M) →
      ((j : M.Intentions) → of (M.add q.1 x j) ≡ (if M.same_leaf q.1 l then up (of j) else of j)) → (a : M.Site) →
      of (put M.same_site q.0 (M.add q.1 x (at_site i q.0)) (at_site i) a) ≡ (if M.same_site q.0 a && M.same_leaf q.1 l then up (of (at_site i a)) else of (at_site i a))
  one_more of up l q x i more = put_all M.same_site law.site.sites q.0 (M.add q.1 x (at_site i q.0)) (at_site i)
      (λ a j. of j ≡ (if M.same_site q.0 a && M.same_leaf q.1 l then up (of (at_site i a)) else of (at_site i a)))
      (more (at_site i q.0) ∙ ap (λ b. if b && M.same_leaf q.1 l then up (of (at_site i q.0)) else of (at_site i q.0)) (sym ((law.site.sites q.0 q.0).1 refl)))
      (λ a other. ap (λ b. if b && M.same_leaf q.1 l then up (of (at_site i a)) else of (at_site i a)) (sym (elsewhere a q.0 other)))
    where
      elsewhere : (a b : M.Site) → M.same_site a b ≡ false → M.same_site b a ≡ false
      elsewhere a b other = ⊎_elim (λ is. clash ((law.site.sites a b).1 (sym ((law.site.sites b a).0 is))) other) (λ none. none) (by_test (M.same_site b a))

  changed_more : (p q : M.Site × M.Leaf) (x : M.Write) (i : Intended_at M) (content : M.Content) →
      changed_at M p (add_at M q x i) content ≡ (if same_place M q p then M.put_in x (changed_at M p i content) else changed_at M p i content)
  changed_more p q x i content = changed_is p (add_at M q x i) content ∙ ap (λ j. M.changed p.1 j content) (added q x i p.0)
      ∙ one_more (λ j. M.changed p.1 j content) (M.put_in x) p.1 q x i (λ j. law.site.changed_add p.1 q.1 x j content) p.0
      ∙ ap (λ c. if same_place M q p then M.put_in x c else c) (sym (changed_is p i content))

  touches_more : (p q : M.Site × M.Leaf) (x : M.Write) (i : Intended_at M) → touches_at M p (add_at M q x i) ≡ (if same_place M q p then true else touches_at M p i)
  touches_more p q x i = touches_is p (add_at M q x i) ∙ ap (λ j. M.touches p.1 j) (added q x i p.0)
      ∙ one_more (λ j. M.touches p.1 j) (λ b. true) p.1 q x i (λ j. law.site.touches_add p.1 q.1 x j) p.0
      ∙ ap (λ b. if same_place M q p then true else b) (sym (touches_is p i))

  nothing_touches : (p : M.Site × M.Leaf) (i : Intended_at M) → is_nothing M i ≡ true → touches_at M p i ≡ false
  nothing_touches p Nothing e = refl
  nothing_touches p (Some_at at) e = cc

  pub list_lawful : IsLawful (listed M C)
  list_lawful = record {
    leaves = same_places;
    sites = law.site.sites;
    changed_none = λ p content. refl;
    changed_add = changed_more;
    touches_none = λ p. refl;
    touches_add = touches_more;
    empty_touches = nothing_touches;
    keeps_whole = λ s whole is fits tag. law.keeps_whole s.0 s.1 whole.1 is fits;
    writes_right = λ s whole p is fits tag. subst (λ n. written (listed M C) p (C.writes n (then_in_force M C n s.1) whole.1 (C.meaning s.1 whole.1).1) (C.content n p whole.1) ≡ C.content (then_in_force M C n s.1) p (C.meaning s.1 whole.1).1) tag
        (law.writes_right s.0 s.1 whole.1 p is fits);
    counts = λ s whole is fits tag. refl;
  }

  -- the law over the list
  pub list_law : ListLaw M C
  list_law n whole w events opening explained = serial_list M C (n, whole) (run events w) (serial_law list_lawful (n, whole) w events opening explained)
