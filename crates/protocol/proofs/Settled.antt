-- Settled fragments: at most one decided row changes a leaf, and most events leave the settled contents alone.
use Rattle.std.proofs.Common.{◌≡◌, refl, sym, ap, ◌∙◌, subst, ◌&&◌, Bool, true, false, List, [], ◌∷◌, ◌⊎◌, inl, inr, ⊎_elim}
use Rattle.std.specs.List.{list_any}
use Rattle.protocol.specs.Language.{Lang, IsLawful, Name, same}
use Rattle.protocol.specs.Site.{Status, Dead, Active, Prepared, is_dead, has_exclusive, has_lock}
use Rattle.protocol.specs.Desk.{Txn, Unknown, Known, Row, Deed, Desk}
use Rattle.protocol.specs.World.{World}
use Rattle.protocol.specs.Serial.{is_committed, with_row, with_decided, with_all_decided, settled}
use Rattle.protocol.proofs.Basics.{In, any_in, found, clash, same_law, by_test, both_true, left_true, right_true}
use Rattle.protocol.proofs.Fits.{IsCommitted}
use Rattle.protocol.proofs.Locks.{Once, exclusive_lock}
use Rattle.protocol.proofs.Ops.{Op}
use Rattle.protocol.proofs.Data.{untouched}
use Rattle.protocol.proofs.Base.{Base}

module _ {L : Lang} where
  -- a prepared row of a committed transaction that touches the leaf
  abbrev pub changes_it : List (Deed L) → L.Leaf → Status L → Bool
  changes_it past g Dead = false
  changes_it past g (Active v) = false
  changes_it past g (Prepared t i) = is_committed past t && L.touches g i

  abbrev pub changed_by_row : L.Leaf → Status L → L.Content → L.Content
  changed_by_row g Dead c = c
  changed_by_row g (Active v) c = c
  changed_by_row g (Prepared t i) c = L.changed g i c

  pub changes_exclusive : (past : List (Deed L)) (g : L.Leaf) (st : Status L) → changes_it past g st ≡ true → has_exclusive g st ≡ true
  changes_exclusive past g Dead e = e
  changes_exclusive past g (Active v) e = cc
  changes_exclusive past g (Prepared t i) e = right_true (is_committed past t) (L.touches g i) e

  lock_lives : (g : L.Leaf) (st : Status L) → has_lock g st ≡ true → is_dead st ≡ false
  lock_lives g Dead e = cc
  lock_lives g (Active v) e = refl
  lock_lives g (Prepared t i) e = refl

  -- the list of those who change it: nobody, or one
  all_neutral : (d : Desk L) (g : L.Leaf) (status : Name → Status L) (ks : List Name) (c : L.Content) → ((k : Name) → In k ks → (b : L.Content) → with_decided d g (status k) b ≡ b) → with_all_decided d g status ks c ≡ c
  all_neutral d g status [] c none = refl
  all_neutral d g status (k ∷ ks) c none = ap (λ b. with_all_decided d g status ks b) (none k (inl refl) c) ∙ all_neutral d g status ks c (λ j here. none j (inr here))

  one_changes : (d : Desk L) (g : L.Leaf) (status : Name → Status L) (k : Name) (ks : List Name) (c : L.Content) → Once ks → In k ks → ((j : Name) → same j k ≡ false → (b : L.Content) → with_decided d g (status j) b ≡ b) →
      with_all_decided d g status ks c ≡ with_decided d g (status k) c
  one_changes d g status k [] c once here none = absurd here
  one_changes d g status k (j ∷ ks) c once (inl e) none = ap (λ n. with_all_decided d g status ks (with_decided d g (status n) c)) (sym e)
      ∙ all_neutral d g status ks (with_decided d g (status k) c) (λ i here. none i (⊎_elim (λ is. absurd (once.0 (subst (λ n. In n ks) ((same_law i k).0 is ∙ e) here))) (λ f. f) (by_test (same i k))))
  one_changes d g status k (j ∷ ks) c once (inr below) none = ap (λ b. with_all_decided d g status ks b) (none j (⊎_elim (λ is. absurd (once.0 (subst (λ n. In n ks) (sym ((same_law j k).0 is)) below))) (λ f. f) (by_test (same j k))) c)
      ∙ one_changes d g status k ks c once.1 below none

  module _ (law : IsLawful L) (o : L.Site → Name → Name) (ops : L.Site → Name → List (Op L)) (w : World L) (base : Base o ops w) (g : L.Leaf) where
    neutral : (k : Name) (st : Status L) → (w.sites (L.home g)).status k ≡ st → changes_it w.past g st ≡ false → (c : L.Content) → with_decided w.desk g st c ≡ c
    neutral k Dead e none c = refl
    neutral k (Active v) e none c = refl
    neutral k (Prepared t i) e none c = go (w.desk.txn t) refl
      where
        go : (x : Txn L) → w.desk.txn t ≡ x → with_row g i x c ≡ c
        go Unknown f = refl
        go (Known u) f = refl
        go (Row vs acked) f = untouched law (ops (L.home g) k) i g c ((base.data_at (L.home g)).rows k t i e)
            (⊎_elim (λ is. clash (both_true (is_committed w.past t) (L.touches g i) (base.fit.rows t vs acked f).0 is) none) (λ not_. not_) (by_test (L.touches g i)))

    decided_row : (k : Name) (st : Status L) → (w.sites (L.home g)).status k ≡ st → changes_it w.past g st ≡ true → (c : L.Content) → with_decided w.desk g st c ≡ changed_by_row g st c
    decided_row k Dead e is c = refl
    decided_row k (Active v) e is c = refl
    decided_row k (Prepared t i) e is c =
        let row = (base.fit.prepared (L.home g) k t i e).voter (left_true (is_committed w.past t) (L.touches g i) is) in
        ap (λ x. with_row g i x c) row.2

    pub settled_none : ((k : Name) → changes_it w.past g ((w.sites (L.home g)).status k) ≡ false) → settled w g ≡ (w.sites (L.home g)).kept g
    settled_none none = all_neutral w.desk g (w.sites (L.home g)).status (w.sites (L.home g)).known ((w.sites (L.home g)).kept g) (λ k here. neutral k ((w.sites (L.home g)).status k) refl (none k))

    pub settled_one : (k : Name) → changes_it w.past g ((w.sites (L.home g)).status k) ≡ true → settled w g ≡ changed_by_row g ((w.sites (L.home g)).status k) ((w.sites (L.home g)).kept g)
    settled_one k is =
        let s = w.sites (L.home g) in
        let locked = base.locked (L.home g) in
        let held = exclusive_lock g (s.status k) (changes_exclusive w.past g (s.status k) is) in
        one_changes w.desk g s.status k s.known (s.kept g) locked.once (locked.known k (lock_lives g (s.status k) held))
        (λ j other. neutral j (s.status j) refl (⊎_elim (λ too. clash held (locked.alone j k g other (changes_exclusive w.past g (s.status j) too))) (λ f. f) (by_test (changes_it w.past g (s.status j)))))
        ∙ decided_row k (s.status k) refl is (s.kept g)

    -- whether some row changes it
    pub some_row : ((k : Name) × (changes_it w.past g ((w.sites (L.home g)).status k) ≡ true)) ⊎ ((k : Name) → changes_it w.past g ((w.sites (L.home g)).status k) ≡ false)
    some_row =
        let s = w.sites (L.home g) in
        ⊎_elim (λ is. let f = found (λ k. changes_it w.past g (s.status k)) s.known is in inl (f.0, f.2))
        (λ none. inr (λ k. ⊎_elim
        (λ is. clash (any_in (λ j. changes_it w.past g (s.status j)) k s.known ((base.locked (L.home g)).known k (lock_lives g (s.status k) (exclusive_lock g (s.status k) (changes_exclusive w.past g (s.status k) is)))) is) none)
        (λ f. f) (by_test (changes_it w.past g (s.status k)))))
        (by_test (list_any (λ k. changes_it w.past g (s.status k)) s.known))

  -- the same decided rows over the same kept content
  pub settled_same : IsLawful L → (o p : L.Site → Name → Name) (ops opt : L.Site → Name → List (Op L)) (w v : World L) → Base o ops w → Base p opt v → (g : L.Leaf) → (v.sites (L.home g)).kept g ≡ (w.sites (L.home g)).kept g →
      ((k : Name) → changes_it w.past g ((w.sites (L.home g)).status k) ≡ true → ((v.sites (L.home g)).status k ≡ (w.sites (L.home g)).status k) × (changes_it v.past g ((v.sites (L.home g)).status k) ≡ true)) →
      ((k : Name) → changes_it v.past g ((v.sites (L.home g)).status k) ≡ true → changes_it w.past g ((w.sites (L.home g)).status k) ≡ true) → settled v g ≡ settled w g
  settled_same law o p ops opt w v bw bv g kept to from = ⊎_elim
      (λ row. let now = to row.0 row.1 in
      settled_one law p opt v bv g row.0 now.1 ∙ ap (λ c. changed_by_row g ((v.sites (L.home g)).status row.0) c) kept ∙ ap (λ st. changed_by_row g st ((w.sites (L.home g)).kept g)) now.0 ∙ sym (settled_one law o ops w bw g row.0 row.1))
      (λ none. settled_none law p opt v bv g (λ k. ⊎_elim (λ is. clash (from k is) (none k)) (λ f. f) (by_test (changes_it v.past g ((v.sites (L.home g)).status k)))) ∙ kept ∙ sym (settled_none law o ops w bw g none))
      (some_row law o ops w bw g)

  -- the same committed transactions
  pub changes_same : (past later : List (Deed L)) (g : L.Leaf) → ((t : Name) → is_committed later t ≡ is_committed past t) → (st : Status L) → changes_it later g st ≡ changes_it past g st
  changes_same past later g alike Dead = refl
  changes_same past later g alike (Active v) = refl
  changes_same past later g alike (Prepared t i) = ap (λ b. b && L.touches g i) (alike t)

  -- a row is applied
  pub settled_applied : IsLawful L → (o p : L.Site → Name → Name) (ops opt : L.Site → Name → List (Op L)) (w v : World L) → Base o ops w → Base p opt v → (g : L.Leaf) (k u : Name) (i : L.Intentions) → (w.sites (L.home g)).status k ≡ Prepared u i → IsCommitted w.past u → v.past ≡ w.past →
      (v.sites (L.home g)).kept g ≡ L.changed g i ((w.sites (L.home g)).kept g) → (v.sites (L.home g)).status k ≡ Dead → ((j : Name) → same j k ≡ false → (v.sites (L.home g)).status j ≡ (w.sites (L.home g)).status j) → settled v g ≡ settled w g
  settled_applied law o p ops opt w v bw bv g k u i e done past kept gone others = ⊎_elim
      (λ touches.
      let is : changes_it w.past g ((w.sites (L.home g)).status k) ≡ true = ap (changes_it w.past g) e ∙ both_true (is_committed w.past u) (L.touches g i) done touches in
      settled_none law p opt v bv g (λ j. ⊎_elim (λ same_. ap (λ n. changes_it v.past g ((v.sites (L.home g)).status n)) ((same_law j k).0 same_) ∙ ap (changes_it v.past g) gone)
      (λ other. ap (changes_it v.past g) (others j other) ∙ ap (λ l. changes_it l g ((w.sites (L.home g)).status j)) past ∙ alone_there j other is) (by_test (same j k)))
      ∙ kept ∙ ap (λ st. changed_by_row g st ((w.sites (L.home g)).kept g)) (sym e) ∙ sym (settled_one law o ops w bw g k is))
      (λ free. settled_same law o p ops opt w v bw bv g (kept ∙ untouched law (ops (L.home g) k) i g ((w.sites (L.home g)).kept g) ((bw.data_at (L.home g)).rows k u i e) free)
      (λ j is. let other = not_k j free is in (others j other, ap (changes_it v.past g) (others j other) ∙ ap (λ l. changes_it l g ((w.sites (L.home g)).status j)) past ∙ is))
      (λ j is. ⊎_elim (λ same_. absurd (dead_no j same_ is)) (λ other. ap (λ l. changes_it l g ((w.sites (L.home g)).status j)) (sym past) ∙ ap (changes_it v.past g) (sym (others j other)) ∙ is) (by_test (same j k))))
      (by_test (L.touches g i))
    where
      alone_there : (j : Name) → same j k ≡ false → changes_it w.past g ((w.sites (L.home g)).status k) ≡ true → changes_it w.past g ((w.sites (L.home g)).status j) ≡ false
      alone_there j other is = ⊎_elim (λ too. clash (exclusive_lock g ((w.sites (L.home g)).status k) (changes_exclusive w.past g ((w.sites (L.home g)).status k) is)) ((bw.locked (L.home g)).alone j k g other (changes_exclusive w.past g ((w.sites (L.home g)).status j) too)))
          (λ f. f) (by_test (changes_it w.past g ((w.sites (L.home g)).status j)))

      not_k : (j : Name) → L.touches g i ≡ false → changes_it w.past g ((w.sites (L.home g)).status j) ≡ true → same j k ≡ false
      not_k j free is = ⊎_elim (λ same_. clash (right_true (is_committed w.past u) (L.touches g i) (sym (ap (changes_it w.past g) (ap (w.sites (L.home g)).status ((same_law j k).0 same_) ∙ e)) ∙ is)) free) (λ f. f) (by_test (same j k))

      dead_no : (j : Name) → same j k ≡ true → changes_it v.past g ((v.sites (L.home g)).status j) ≡ true → ⊥
      dead_no j same_ is = let f : false ≡ true = sym (ap (changes_it v.past g) (ap (v.sites (L.home g)).status ((same_law j k).0 same_) ∙ gone)) ∙ is in cc
