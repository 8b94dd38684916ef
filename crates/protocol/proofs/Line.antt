-- The line of transactions in the order of their first phases: what each has read, and how a late commit goes into its middle.
use Rattle.std.proofs.Common.{◌≡◌, refl, sym, ap, ◌∙◌, subst, Bool, true, false, List, [], ◌∷◌, ◌++◌, inl, inr, ⊎_elim, Some, if◌then◌else◌}
use Rattle.std.specs.List.{list_any}
pub use Rattle.protocol.specs.Parts.{reads_from, RightFrom, after, Line, Apart, Two}
use Rattle.protocol.specs.Language.{Lang, IsLawful, Name, written}
use Rattle.protocol.specs.Desk.{Ask}
use Rattle.protocol.proofs.Basics.{Every, In, every_append, every_in, any_in, by_test, clash, if_true, if_false, or_left, or_right}
use Rattle.protocol.proofs.Ops.{writes_to, written_none}
use Rattle.protocol.proofs.Works.{Work, own_of}
use Rattle.protocol.proofs.Locks.{Once}

pub every_here : {A : Type 0} (P Q : A → Type 0) (xs : List A) → ((x : A) → In x xs → P x → Q x) → Every P xs → Every Q xs
every_here P Q [] to all = tt
every_here P Q (x ∷ xs) to all = (to x (inl refl) all.0, every_here P Q xs (λ y here. to y (inr here)) all.1)

module _ {L : Lang} where
  pub right_same : IsLawful L → (c new : L.Leaf → L.Content) (xs : List (Work L)) → ((g : L.Leaf) → reads_from g xs ≡ true → new g ≡ c g) → RightFrom c xs → RightFrom new xs
  right_same law c new [] alike right = tt
  right_same law c new (x ∷ xs) alike right = (
    every_here (λ q. q.rows ≡ Some (L.parts q.query (c q.leaf))) (λ q. q.rows ≡ Some (L.parts q.query (new q.leaf))) x.asks
        (λ q here is. is ∙ ap (λ d. Some (L.parts q.query d)) (sym (alike q.leaf (or_left (list_any (λ (p : Ask L). L.same_leaf p.leaf q.leaf) x.asks) (reads_from q.leaf xs) (any_in (λ p. L.same_leaf p.leaf q.leaf) q x.asks here ((law.leaves q.leaf q.leaf).1 refl)))))) right.0,
    right_same law (λ g. written L g x.choice.1 (c g)) (λ g. written L g x.choice.1 (new g)) xs (λ g reads. ap (written L g x.choice.1) (alike g (or_right (list_any (λ (p : Ask L). L.same_leaf p.leaf g) x.asks) (reads_from g xs) reads))) right.1,
  )

  module _ (law : IsLawful L) (W : Name → List (Work L)) (C D : Name → Bool) (V U : Name → Type 0) (last new : L.Leaf → L.Content) where
    -- nothing of the line changes
    pub line_same : (ts : List Name) (c b : L.Leaf → L.Content) → ((t : Name) → In t ts → D t ≡ C t) → ((t : Name) → In t ts → U t → V t) → ((g : L.Leaf) → new g ≡ last g) → ((g : L.Leaf) → b g ≡ c g) → Line W C V last c ts → Line W D U new b ts
    line_same [] c b same_ counts final base line = λ g. final g ∙ line g ∙ sym (base g)
    line_same (t ∷ ts) c b same_ counts final base line = (
      (λ u. right_same law c b (W t) (λ g reads. base g) (line.0 (counts t (inl refl) u))),
      line_same ts (after (C t) (W t) c) (after (D t) (W t) b) (λ x here. same_ x (inr here)) (λ x here. counts x (inr here)) final
          (λ g. ap (λ d. after d (W t) b g) (same_ t (inl refl)) ∙ ap (λ x. if C t then written L g (own_of (W t)) x else x) (base g)) line.1,
    )

    -- an earlier transaction's writes come in where nobody later looks
    pub line_shift : (own : List (L.Leaf × L.Write)) (ts : List Name) (c b : L.Leaf → L.Content) → ((t : Name) → In t ts → D t ≡ C t) → ((t : Name) → In t ts → U t → V t) → ((g : L.Leaf) → new g ≡ written L g own (last g)) → ((g : L.Leaf) → b g ≡ written L g own (c g)) →
        ((t : Name) → In t ts → (g : L.Leaf) → writes_to L g own ≡ true → (V t → reads_from g (W t) ≡ false) × (C t ≡ true → writes_to L g (own_of (W t)) ≡ false)) → Line W C V last c ts → Line W D U new b ts
    line_shift own [] c b same_ counts final base apart line = λ g. final g ∙ ap (written L g own) (line g) ∙ sym (base g)
    line_shift own (t ∷ ts) c b same_ counts final base apart line = (
      (λ u. let v = counts t (inl refl) u in
          right_same law c b (W t) (λ g reads. ⊎_elim (λ is. clash reads ((apart t (inl refl) g is).0 v)) (λ none. base g ∙ written_none L g own (c g) none) (by_test (writes_to L g own))) (line.0 v)),
      line_shift own ts (after (C t) (W t) c) (after (D t) (W t) b) (λ x here. same_ x (inr here)) (λ x here. counts x (inr here)) final (λ g. ap (λ d. after d (W t) b g) (same_ t (inl refl)) ∙ step g) (λ x here. apart x (inr here)) line.1,
    )
      where
        step : (g : L.Leaf) → after (C t) (W t) b g ≡ written L g own (after (C t) (W t) c g)
        step g = ⊎_elim
            (λ done. if_true (C t) (written L g (own_of (W t)) (b g)) (b g) done
            ∙ ⊎_elim
            (λ is. let none = (apart t (inl refl) g is).1 done in written_none L g (own_of (W t)) (b g) none ∙ base g ∙ ap (written L g own) (sym (written_none L g (own_of (W t)) (c g) none)))
            (λ none. ap (written L g (own_of (W t))) (base g ∙ written_none L g own (c g) none) ∙ sym (written_none L g own (written L g (own_of (W t)) (c g)) none))
            (by_test (writes_to L g own))
            ∙ ap (written L g own) (sym (if_true (C t) (written L g (own_of (W t)) (c g)) (c g) done)))
            (λ not_. if_false (C t) (written L g (own_of (W t)) (b g)) (b g) not_ ∙ base g ∙ ap (written L g own) (sym (if_false (C t) (written L g (own_of (W t)) (c g)) (c g) not_)))
            (by_test (C t))

  -- a new transaction at the end of the line
  pub line_end : (W : Name → List (Work L)) (C : Name → Bool) (V : Name → Type 0) (last : L.Leaf → L.Content) → IsLawful L → (ts : List Name) (c : L.Leaf → L.Content) (t : Name) → ((g : L.Leaf) (x : L.Content) → (if C t then written L g (own_of (W t)) x else x) ≡ x) → (V t → RightFrom last (W t)) → Line W C V last c ts → Line W C V last c (ts ++ t ∷ [])
  line_end W C V last law [] c t not_ right line = (
    (λ v. right_same law last c (W t) (λ g reads. sym (line g)) (right v)),
    λ g. line g ∙ sym (not_ g (c g)),
  )
  line_end W C V last law (x ∷ ts) c t not_ right line = (line.0, line_end W C V last law ts (after (C x) (W x) c) t not_ right line.1)

  pub two_same : (W : Name → List (Work L)) (C D : Name → Bool) (V U E F : Name → Type 0) (ts : List Name) → ((t u : Name) → In t ts → In u ts → Apart W C V E t u → Apart W D U F t u) → Two W C V E ts → Two W D U F ts
  two_same W C D V U E F [] to two = tt
  two_same W C D V U E F (t ∷ ts) to two = (every_here (Apart W C V E t) (Apart W D U F t) ts (λ u here is. to t u (inl refl) (inr here) is) two.0, two_same W C D V U E F ts (λ x y a b. to x y (inr a) (inr b)) two.1)

  pub two_end : (W : Name → List (Work L)) (C : Name → Bool) (V E : Name → Type 0) (ts : List Name) (u : Name) → ((t : Name) → In t ts → Apart W C V E t u) → Two W C V E ts → Two W C V E (ts ++ u ∷ [])
  two_end W C V E [] u apart two = (tt, tt)
  two_end W C V E (t ∷ ts) u apart two = (every_append (Apart W C V E t) ts (u ∷ []) two.0 (apart t (inl refl), tt), two_end W C V E ts u (λ x here. apart x (inr here)) two.1)

  module _ (law : IsLawful L) (W : Name → List (Work L)) (C D : Name → Bool) (V U E : Name → Type 0) (last new : L.Leaf → L.Content) (t : Name) where
    -- a transaction of the line is committed
    pub line_decided : (ts : List Name) (c b : L.Leaf → L.Content) → Once ts → In t ts → C t ≡ false → D t ≡ true → V t → E t → ((x : Name) → ((x ≡ t) → ⊥) → D x ≡ C x) → ((x : Name) → U x → V x) →
        ((g : L.Leaf) → new g ≡ written L g (own_of (W t)) (last g)) → ((g : L.Leaf) → b g ≡ c g) → Two W C V E ts → Line W C V last c ts → Line W D U new b ts
    line_decided [] c b once here before done v e same_ counts final base two line = absurd here
    line_decided (x ∷ ts) c b once (inl is) before done v e same_ counts final base two line = (
      (λ u. right_same law c b (W x) (λ g reads. base g) (line.0 (counts x u))),
      line_shift law W C D V U last new (own_of (W t)) ts (after (C x) (W x) c) (after (D x) (W x) b)
          (λ y here. same_ y (λ eq. once.0 (subst (λ n. In n ts) (eq ∙ is) here))) (λ y here. counts y) final
          (λ g. ap (λ d. after d (W x) b g) (ap D (sym is) ∙ done) ∙ ap (λ n. written L g (own_of (W n)) (b g)) (sym is) ∙ ap (written L g (own_of (W t))) (base g ∙ sym (ap (λ d. after d (W x) c g) (ap C (sym is) ∙ before))))
          (λ y here g writes. every_in (Apart W C V E x) ts y two.0 here (subst E is e) g (subst (λ n. writes_to L g (own_of (W n)) ≡ true) is writes)) line.1,
    )
    line_decided (x ∷ ts) c b once (inr below) before done v e same_ counts final base two line =
        let other = same_ x (λ eq. once.0 (subst (λ n. In n ts) (sym eq) below)) in (
          (λ u. right_same law c b (W x) (λ g reads. base g) (line.0 (counts x u))),
          line_decided ts (after (C x) (W x) c) (after (D x) (W x) b) once.1 below before done v e same_ counts final
              (λ g. ap (λ d. after d (W x) b g) other ∙ ap (λ y. if C x then written L g (own_of (W x)) y else y) (base g)) two.1 line.1,
        )
