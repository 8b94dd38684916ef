-- Locks of a site: an exclusive lock stands alone, and what another has is foreign to a visit.
use Rattle.std.proofs.Common.{◌≡◌, refl, sym, ap, ◌∙◌, subst, ℕ, ◌&&◌, ◌||◌, not, Bool, true, false, List, [], ◌∷◌, ◌++◌, inl, inr, ⊎_elim, filter}
use Rattle.std.specs.Prelude.{⊤}
use Rattle.protocol.specs.Language.{Lang, IsLawful, Name, same, put}
use Rattle.protocol.specs.Letter.{Body}
use Rattle.protocol.specs.Site.{Visit, Status, Dead, Active, Prepared, SiteState, Act, Opens, Locks, is_dead, has_exclusive, has_lock, others_exclusive, sees, next_ticket, new_visit, site_after, restarted, site_restarted, on_give_up}
use Rattle.protocol.proofs.Basics.{In, in_left, in_right, in_append, in_filter, any_in, put_all, put_there, clash, same_law, same_refl, either, either_if, if_false, by_test, both_true, or_right, not_true}
use Rattle.protocol.proofs.Fits.{Drawn}
use Rattle.protocol.proofs.SiteTable.{Acted, says_nothing, says_gone, says_no, says_yes, says_ack, opens, reads, writes, prepares, only_read, votes_no, refuses, applies, ends, discards}
use Rattle.protocol.proofs.SiteSteps.{not_drawn, sees_dead}

-- no element stands twice
abbrev pub Once : {A : Type 0} → List A → Type 0
Once [] = ⊤
Once (x ∷ xs) = (In x xs → ⊥) × Once xs

pub from_filter : {A : Type 0} (p : A → Bool) (x : A) (xs : List A) → In x (filter p xs) → In x xs × (p x ≡ true)
from_filter p x [] here = absurd here
from_filter p x (y ∷ xs) here = either_if (λ l. In x l → In x (y ∷ xs) × (p x ≡ true)) (p y) (y ∷ filter p xs) (filter p xs)
    (λ is there. ⊎_elim (λ e. (inl e, subst (λ z. p z ≡ true) (sym e) is)) (λ below. let f = from_filter p x xs below in (inr f.0, f.1)) there)
    (λ other there. let f = from_filter p x xs there in (inr f.0, f.1)) here

pub once_filter : {A : Type 0} (p : A → Bool) (xs : List A) → Once xs → Once (filter p xs)
once_filter p [] once = once
once_filter p (x ∷ xs) once = either Once (p x) (x ∷ filter p xs) (filter p xs) ((λ here. once.0 (from_filter p x xs here).0), once_filter p xs once.1) (once_filter p xs once.1)

pub once_more : {A : Type 0} (xs : List A) (x : A) → Once xs → (In x xs → ⊥) → Once (xs ++ x ∷ [])
once_more [] x once new = ((λ here. here), once)
once_more (y ∷ xs) x once new = ((λ here. ⊎_elim once.0 (λ last. ⊎_elim (λ e. new (inl (sym e))) (λ none. none) last) (in_append y xs (x ∷ []) here)), once_more xs x once.1 (λ here. new (inr here)))

pub unequal : (j k : Name) → same j k ≡ false → same k j ≡ false
unequal j k other = ⊎_elim (λ is. clash ((same_law j k).1 (sym ((same_law k j).0 is))) other) (λ none. none) (by_test (same k j))

module _ {L : Lang} where
  pub record Locked (s : SiteState L) : Type 0 where
    pub known : (k : Name) → is_dead (s.status k) ≡ false → In k s.known
    pub lives : (k : Name) → In k s.known → is_dead (s.status k) ≡ false
    pub once : Once s.known
    pub alone : (j k : Name) (g : L.Leaf) → same j k ≡ false → has_exclusive g (s.status j) ≡ true → has_lock g (s.status k) ≡ false
    pub seen : (j k : Name) (v : Visit L) (g : L.Leaf) → same j k ≡ false → s.status k ≡ Active v → has_lock g (s.status j) ≡ true → v.foreign g ≡ true

  -- the list of those that aren't dead
  listed : (status : Name → Status L) (names : List Name) → ((k : Name) → is_dead (status k) ≡ false → In k names) → (k : Name) → is_dead (status k) ≡ false → In k (filter (λ j. not (is_dead (status j))) names)
  listed status names all k e = in_filter (λ j. not (is_dead (status j))) k names (all k e) (ap not e)

  listed_lives : (status : Name → Status L) (names : List Name) (k : Name) → In k (filter (λ j. not (is_dead (status j))) names) → is_dead (status k) ≡ false
  listed_lives status names k here = not_true (is_dead (status k)) (from_filter (λ j. not (is_dead (status j))) k names here).1

  -- locks only go
  shrinks : (s : SiteState L) (new : SiteState L) → Locked s → new.known ≡ filter (λ j. not (is_dead (new.status j))) s.known →
      ((k : Name) → is_dead (new.status k) ≡ false → is_dead (s.status k) ≡ false) →
      ((k : Name) (g : L.Leaf) → has_exclusive g (new.status k) ≡ true → has_exclusive g (s.status k) ≡ true) →
      ((k : Name) (g : L.Leaf) → has_lock g (new.status k) ≡ true → has_lock g (s.status k) ≡ true) →
      ((k : Name) (v : Visit L) → new.status k ≡ Active v → s.status k ≡ Active v) → Locked new
  shrinks s new locked names live exclusive lock active = record {
    known = λ k e. subst (In k) (sym names) (listed new.status s.known (λ j f. locked.known j (live j f)) k e);
    lives = λ k here. listed_lives new.status s.known k (subst (In k) names here);
    once = subst Once (sym names) (once_filter (λ j. not (is_dead (new.status j))) s.known locked.once);
    alone = λ j k g apart ex. ⊎_elim (λ is. clash (lock k g is) (locked.alone j k g apart (exclusive j g ex))) (λ none. none) (by_test (has_lock g (new.status k)));
    seen = λ j k v g apart e held. locked.seen j k v g apart (active k v e) (lock j g held);
  }

  sees_exclusive : (h g : L.Leaf) (st : Status L) → has_exclusive g (sees h st) ≡ has_exclusive g st
  sees_exclusive h g Dead = refl
  sees_exclusive h g (Active v) = refl
  sees_exclusive h g (Prepared t i) = refl

  pub sees_lock : (h g : L.Leaf) (st : Status L) → has_lock g (sees h st) ≡ has_lock g st
  sees_lock h g Dead = refl
  sees_lock h g (Active v) = refl
  sees_lock h g (Prepared t i) = refl

  -- a visit as it was before it saw a lock
  pub seen_from : (h : L.Leaf) (st : Status L) (v : Visit L) → sees h st ≡ Active v → (u : Visit L) × (st ≡ Active u) × (v ≡ record u { foreign = put L.same_leaf h true u.foreign })
  seen_from h Dead v e = cc
  seen_from h (Active u) v e = (u, refl, visit_is (record u { foreign = put L.same_leaf h true u.foreign }) v e)
    where
      visit_is : (a b : Visit L) → Active a ≡ Active b → b ≡ a
      visit_is a b f = cc
  seen_from h (Prepared t i) v e = cc

  pub exclusive_lock : (g : L.Leaf) (st : Status L) → has_exclusive g st ≡ true → has_lock g st ≡ true
  exclusive_lock g Dead e = e
  exclusive_lock g (Active v) e = or_right (v.shared g) (L.touches g v.changes) e
  exclusive_lock g (Prepared t i) e = e

  module _ (law : IsLawful L) where
    -- a visit gains a lock on a leaf, which the others see
    gains : (s : SiteState L) (k : Name) (v w : Visit L) (h : L.Leaf) → Locked s → s.status k ≡ Active v → w.foreign ≡ v.foreign →
        ((g : L.Leaf) → L.same_leaf h g ≡ false → has_lock g (Active w) ≡ has_lock g (Active v)) → ((g : L.Leaf) → L.same_leaf h g ≡ false → has_exclusive g (Active w) ≡ has_exclusive g (Active v)) →
        ((j : Name) → same j k ≡ false → has_exclusive h (Active w) ≡ true → has_lock h (s.status j) ≡ false) → ((j : Name) → same j k ≡ false → has_exclusive h (s.status j) ≡ true → has_lock h (Active w) ≡ false) →
        Locked (site_after s (Locks k w h []))
    gains s k v w h locked e foreign lock exclusive first second =
        let f : Name → Status L = λ j. sees h (s.status j) in
        let status : Name → Status L = put same k (Active w) f in
        let all : (j : Name) → is_dead (status j) ≡ false → In j s.known =
        put_all same same_law k (Active w) f (λ j x. is_dead x ≡ false → In j s.known) (λ d. locked.known k (ap is_dead e)) (λ j other d. locked.known j (sym (sees_dead h (s.status j)) ∙ d)) in
        record {
          known = listed status s.known all;
          lives = listed_lives status s.known;
          once = once_filter (λ j. not (is_dead (status j))) s.known locked.once;
          alone = λ i j g. put_all same same_law k (Active w) f (λ i x. same i j ≡ false → has_exclusive g x ≡ true → has_lock g (status j) ≡ false)
              (λ apart ex. put_all same same_law k (Active w) f (λ j y. same k j ≡ false → has_lock g y ≡ false) (λ no_. clash (same_refl k) no_) (λ j other no_. sees_lock h g (s.status j) ∙ own g ex j other) j apart)
              (λ i other apart ex. put_all same same_law k (Active w) f (λ j y. same i j ≡ false → has_lock g y ≡ false) (λ no_. theirs g i other (sym (sees_exclusive h g (s.status i)) ∙ ex))
              (λ j not_k no_. sees_lock h g (s.status j) ∙ locked.alone i j g no_ (sym (sees_exclusive h g (s.status i)) ∙ ex)) j apart) i;
          seen = λ i j x g. put_all same same_law k (Active w) f (λ j y. same i j ≡ false → y ≡ Active x → has_lock g (status i) ≡ true → x.foreign g ≡ true)
              (λ apart is held. put_all same same_law k (Active w) f (λ i y. same i k ≡ false → has_lock g y ≡ true → x.foreign g ≡ true) (λ no_. clash (same_refl k) no_)
              (λ i other no_ has. let eq : w ≡ x = visit_same w x is in subst (λ z. z.foreign g ≡ true) eq (ap (λ z. z g) foreign ∙ locked.seen i k v g other e (sym (sees_lock h g (s.status i)) ∙ has))) i apart held)
              (λ j not_k apart is held.
              let from = seen_from h (s.status j) x is in
              subst (λ z. z.foreign g ≡ true) (sym from.2)
              (either_if (λ b. b ≡ true) (L.same_leaf g h) true (from.0.foreign g) (λ at. refl)
              (λ off. put_all same same_law k (Active w) f (λ i y. same i j ≡ false → has_lock g y ≡ true → from.0.foreign g ≡ true)
              (λ no_ has. locked.seen k j from.0 g no_ from.1 (ap (has_lock g) e ∙ sym (lock g (leaf_unequal g off)) ∙ has))
              (λ i other no_ has. locked.seen i j from.0 g no_ from.1 (sym (sees_lock h g (s.status i)) ∙ has)) i apart held))) j;
        }
      where
        leaf_unequal : (g : L.Leaf) → L.same_leaf g h ≡ false → L.same_leaf h g ≡ false
        leaf_unequal g off = ⊎_elim (λ is. clash ((law.leaves g h).1 (sym ((law.leaves h g).0 is))) off) (λ none. none) (by_test (L.same_leaf h g))

        visit_same : (a b : Visit L) → Active a ≡ Active b → a ≡ b
        visit_same a b g = cc

        own : (g : L.Leaf) → has_exclusive g (Active w) ≡ true → (j : Name) → same j k ≡ false → has_lock g (s.status j) ≡ false
        own g ex j other = ⊎_elim
            (λ at. subst (λ n. has_lock n (s.status j) ≡ false) ((law.leaves h g).0 at) (first j other (subst (λ n. has_exclusive n (Active w) ≡ true) (sym ((law.leaves h g).0 at)) ex)))
            (λ off. locked.alone k j g (unequal j k other) (ap (has_exclusive g) e ∙ sym (exclusive g off) ∙ ex))
            (by_test (L.same_leaf h g))

        theirs : (g : L.Leaf) (j : Name) → same j k ≡ false → has_exclusive g (s.status j) ≡ true → has_lock g (Active w) ≡ false
        theirs g j other ex = ⊎_elim
            (λ at. subst (λ n. has_lock n (Active w) ≡ false) ((law.leaves h g).0 at) (second j other (subst (λ n. has_exclusive n (s.status j) ≡ true) (sym ((law.leaves h g).0 at)) ex)))
            (λ off. lock g off ∙ sym (ap (has_lock g) e) ∙ locked.alone j k g other ex)
            (by_test (L.same_leaf h g))

    -- a visit that fetches
    fetch_locked : (s : SiteState L) (k : Name) (n : ℕ) (h : L.Leaf) (v : Visit L) → Locked s → s.status k ≡ Active v → others_exclusive s k h ≡ false →
        Locked (site_after s (Locks k (record v { done = n; shared = put L.same_leaf h true v.shared }) h []))
    fetch_locked s k n h v locked e free = gains s k v (record v { done = n; shared = put L.same_leaf h true v.shared }) h locked e refl
        (λ g off. ap (λ b. b || L.touches g v.changes) (put_there L.same_leaf law.leaves h true v.shared g (off_leaf g off))) (λ g off. refl)
        (λ j other ex. locked.alone k j h (unequal j k other) (ap (has_exclusive h) e ∙ ex))
        (λ j other ex. clash (any_in (λ i. not (same i k) && has_exclusive h (s.status i)) j s.known (locked.known j (not_dead (s.status j) ex)) (both_true (not (same j k)) (has_exclusive h (s.status j)) (ap not other) ex)) free)
      where
        off_leaf : (g : L.Leaf) → L.same_leaf h g ≡ false → L.same_leaf g h ≡ false
        off_leaf g off = ⊎_elim (λ is. clash ((law.leaves h g).1 (sym ((law.leaves g h).0 is))) off) (λ none. none) (by_test (L.same_leaf g h))

        not_dead : (st : Status L) → has_exclusive h st ≡ true → is_dead st ≡ false
        not_dead Dead ex = cc
        not_dead (Active u) ex = refl
        not_dead (Prepared t i) ex = refl

    -- a visit that writes
    write_locked : (s : SiteState L) (k : Name) (n : ℕ) (h : L.Leaf) (x : L.Write) (v : Visit L) → Locked s → s.status k ≡ Active v → v.foreign h ≡ false →
        Locked (site_after s (Locks k (record v { done = n; changes = L.add h x v.changes }) h []))
    write_locked s k n h x v locked e free = gains s k v (record v { done = n; changes = L.add h x v.changes }) h locked e refl
        (λ g off. ap (λ b. v.shared g || b) (touch_off g off)) touch_off
        (λ j other ex. none_has j other) (λ j other ex. clash (exclusive_lock h (s.status j) ex) (none_has j other))
      where
        touch_off : (g : L.Leaf) → L.same_leaf h g ≡ false → L.touches g (L.add h x v.changes) ≡ L.touches g v.changes
        touch_off g off = law.touches_add g h x v.changes ∙ if_false (L.same_leaf h g) true (L.touches g v.changes) off

        none_has : (j : Name) → same j k ≡ false → has_lock h (s.status j) ≡ false
        none_has j other = ⊎_elim (λ is. clash (locked.seen j k v h other e is) free) (λ none. none) (by_test (has_lock h (s.status j)))

    -- a new visit
    open_locked : (s : SiteState L) → ((k : Name) → is_dead (s.status k) ≡ false → Drawn s k) → Locked s → Locked (site_after s Opens)
    open_locked s live locked =
        let k = next_ticket s in
        let status : Name → Status L = put same k (Active (new_visit s)) s.status in
        let all : (j : Name) → is_dead (status j) ≡ false → In j (s.known ++ k ∷ []) =
        put_all same same_law k (Active (new_visit s)) s.status (λ j x. is_dead x ≡ false → In j (s.known ++ k ∷ [])) (λ d. in_right k s.known (k ∷ []) (inl refl)) (λ j other d. in_left j s.known (k ∷ []) (locked.known j d)) in
        let new_is : In k s.known → ⊥ = λ here. not_drawn s (live k (locked.lives k here)) in
        record {
          known = listed status (s.known ++ k ∷ []) all;
          lives = listed_lives status (s.known ++ k ∷ []);
          once = once_filter (λ j. not (is_dead (status j))) (s.known ++ k ∷ []) (once_more s.known k locked.once new_is);
          alone = λ i j g. put_all same same_law k (Active (new_visit s)) s.status (λ i x. same i j ≡ false → has_exclusive g x ≡ true → has_lock g (status j) ≡ false)
              (λ apart ex. clash ex (law.touches_none g))
              (λ i other apart ex. put_all same same_law k (Active (new_visit s)) s.status (λ j y. same i j ≡ false → has_lock g y ≡ false) (λ no_. law.touches_none g) (λ j not_k no_. locked.alone i j g no_ ex) j apart) i;
          seen = λ i j x g. put_all same same_law k (Active (new_visit s)) s.status (λ j y. same i j ≡ false → y ≡ Active x → has_lock g (status i) ≡ true → x.foreign g ≡ true)
              (λ apart is held. put_all same same_law k (Active (new_visit s)) s.status (λ i y. same i k ≡ false → has_lock g y ≡ true → x.foreign g ≡ true) (λ no_. clash (same_refl k) no_)
              (λ i other no_ has. subst (λ z. z.foreign g ≡ true) (visit_same (new_visit s) x is)
              (any_in (λ n. not (same n k) && has_lock g (s.status n)) i s.known (locked.known i (not_dead g (s.status i) has)) (both_true (not (same i k)) (has_lock g (s.status i)) (ap not other) has))) i apart held)
              (λ j not_k apart is held. put_all same same_law k (Active (new_visit s)) s.status (λ i y. same i j ≡ false → has_lock g y ≡ true → x.foreign g ≡ true)
              (λ no_ has. clash has (law.touches_none g)) (λ i other no_ has. locked.seen i j x g no_ is has) i apart held) j;
        }
      where
        visit_same : (a b : Visit L) → Active a ≡ Active b → a ≡ b
        visit_same a b g = cc

        not_dead : (g : L.Leaf) (st : Status L) → has_lock g st ≡ true → is_dead st ≡ false
        not_dead g Dead held = cc
        not_dead g (Active u) held = refl
        not_dead g (Prepared t i) held = refl

    -- a ticket whose locks only go
    put_shrinks : (s : SiteState L) (kept : L.Leaf → L.Content) (k : Name) (st : Status L) → Locked s → (is_dead st ≡ false → is_dead (s.status k) ≡ false) → ((v : Visit L) → st ≡ Active v → ⊥) →
        ((g : L.Leaf) → has_lock g st ≡ true → (has_exclusive g (s.status k) ≡ true)) →
        Locked (record s { kept = kept; status = put same k st s.status; known = filter (λ j. not (is_dead (put same k st s.status j))) s.known })
    put_shrinks s kept k st locked live dead lock = shrinks s (record s { kept = kept; status = put same k st s.status; known = filter (λ j. not (is_dead (put same k st s.status j))) s.known }) locked refl
        (put_all same same_law k st s.status (λ j x. is_dead x ≡ false → is_dead (s.status j) ≡ false) live (λ j other e. e))
        (λ j g. put_all same same_law k st s.status (λ j x. has_exclusive g x ≡ true → has_exclusive g (s.status j) ≡ true) (λ ex. lock g (exclusive_lock g st ex)) (λ j other e. e) j)
        (λ j g. put_all same same_law k st s.status (λ j x. has_lock g x ≡ true → has_lock g (s.status j) ≡ true) (λ held. exclusive_lock g (s.status k) (lock g held)) (λ j other e. e) j)
        (λ j v. put_all same same_law k st s.status (λ j x. x ≡ Active v → s.status j ≡ Active v) (λ e. absurd (dead v e)) (λ j other e. e) j)

    ends_locked : (s : SiteState L) (kept : L.Leaf → L.Content) (k : Name) → Locked s → Locked (record s { kept = kept; status = put same k Dead s.status; known = filter (λ j. not (is_dead (put same k Dead s.status j))) s.known })
    ends_locked s kept k locked = put_shrinks s kept k Dead locked (λ e. cc) (λ v e. cc) (λ g held. cc)

    -- every row of the table
    pub acted_locked : (s : SiteState L) (t : Name) (b : Body L) (act : Act L) → ((k : Name) → is_dead (s.status k) ≡ false → Drawn s k) → Locked s → Acted s t b act → Locked (site_after s act)
    acted_locked s t b act live locked (says_nothing c) = locked
    acted_locked s t b act live locked (says_gone k op g q) = locked
    acted_locked s t b act live locked (says_no k n) = locked
    acted_locked s t b act live locked (says_yes k n u i e) = locked
    acted_locked s t b act live locked (says_ack k e) = locked
    acted_locked s t b act live locked opens = open_locked s live locked
    acted_locked s t b act live locked (reads k op g q v e next free) = fetch_locked s k op g v locked e free
    acted_locked s t b act live locked (writes k op g x v e next free) = write_locked s k op g x v locked e free
    acted_locked s t b act live locked (prepares k n v e done) = put_shrinks s s.kept k (Prepared t v.changes) locked (λ f. ap is_dead e) (λ x f. cc) (λ g held. ap (has_exclusive g) e ∙ held)
    acted_locked s t b act live locked (only_read k n v e done empty) = ends_locked s s.kept k locked
    acted_locked s t b act live locked (votes_no k n v e) = ends_locked s s.kept k locked
    acted_locked s t b act live locked (refuses c k v reason e) = ends_locked s s.kept k locked
    acted_locked s t b act live locked (applies k u i e) = ends_locked s (λ g. L.changed g i (s.kept g)) k locked
    acted_locked s t b act live locked (ends c k v e) = ends_locked s s.kept k locked
    acted_locked s t b act live locked (discards k u i e) = ends_locked s s.kept k locked

    pub restarted_locked : (s : SiteState L) → Locked s → Locked (site_restarted s)
    restarted_locked s locked = shrinks s (site_restarted s) locked refl (λ k. live (s.status k)) (λ k g. exclusive g (s.status k)) (λ k g. lock g (s.status k)) (λ k v. active v (s.status k))
      where
        live : (st : Status L) → is_dead (restarted st) ≡ false → is_dead st ≡ false
        live Dead e = e
        live (Active v) e = refl
        live (Prepared t i) e = e

        exclusive : (g : L.Leaf) (st : Status L) → has_exclusive g (restarted st) ≡ true → has_exclusive g st ≡ true
        exclusive g Dead e = e
        exclusive g (Active v) e = cc
        exclusive g (Prepared t i) e = e

        lock : (g : L.Leaf) (st : Status L) → has_lock g (restarted st) ≡ true → has_lock g st ≡ true
        lock g Dead e = e
        lock g (Active v) e = cc
        lock g (Prepared t i) e = e

        active : (v : Visit L) (st : Status L) → restarted st ≡ Active v → st ≡ Active v
        active v Dead e = e
        active v (Active u) e = cc
        active v (Prepared t i) e = e

    pub gives_up_locked : (s : SiteState L) (k : Name) (st : Status L) → Locked s → Locked (site_after s (on_give_up k st))
    gives_up_locked s k Dead locked = locked
    gives_up_locked s k (Active v) locked = ends_locked s s.kept k locked
    gives_up_locked s k (Prepared t i) locked = locked
