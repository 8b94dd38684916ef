-- Operations of a visit in order, what their writes come to, and what intentions made of them touch.
use Rattle.std.proofs.Common.{◌≡◌, refl, sym, ap, ap₂, ◌∙◌, ◌+◌, Bool, true, false, ◌||◌, List, [], ◌∷◌, ◌++◌, length, ⊎_elim, if◌then◌else◌, arith, filter}
pub use Rattle.protocol.specs.Parts.{Op, Get, Set, sets, writes_to}
use Rattle.protocol.specs.Language.{Lang, IsLawful, written}
use Rattle.protocol.proofs.Basics.{if_true, if_false, by_test, clash, or_left, or_none_left, or_none_right, or_false}

-- ---- lists
pub split_same : {A : Type 0} (xs xs' ys ys' : List A) → xs ++ ys ≡ xs' ++ ys' → length xs ≡ length xs' → (xs ≡ xs') × (ys ≡ ys')
split_same [] [] ys ys' e n = (refl, e)
split_same [] (x ∷ xs') ys ys' e n = absurd (omega arith)
split_same (x ∷ xs) [] ys ys' e n = absurd (omega arith)
split_same (x ∷ xs) (y ∷ xs') ys ys' e n =
    let heads : x ≡ y = cc in
    let tails : xs ++ ys ≡ xs' ++ ys' = cc in
    let rest = split_same xs xs' ys ys' tails (omega arith) in
    (ap₂ (λ a b. a ∷ b) heads rest.0, rest.1)

pub cons_is : {A : Type 0} (x y : A) (xs ys : List A) → x ∷ xs ≡ y ∷ ys → (x ≡ y) × (xs ≡ ys)
cons_is x y xs ys e = (cc, cc)

pub nil_of_length : {A : Type 0} (xs : List A) → length xs ≡ 0 → xs ≡ []
nil_of_length [] n = refl
nil_of_length (x ∷ xs) n = absurd (omega arith)

pub length_of : {A : Type 0} (xs ys : List A) → length (xs ++ ys) ≡ length xs + length ys
length_of [] ys = omega arith
length_of (x ∷ xs) ys = let h = length_of xs ys in omega arith

-- the rest is empty where the part has the whole length
pub none_left : {A : Type 0} (xs ys : List A) → length xs ≡ length (xs ++ ys) → ys ≡ []
none_left xs ys n = let h = length_of xs ys in nil_of_length ys (omega arith)

module _ {L : Lang} where
  pub get_leaf : (h g : L.Leaf) (p q : L.Query) → (let x : Op L = Get h p in x ≡ Get g q) → h ≡ g
  get_leaf h g p q e = cc

  pub get_set : (h g : L.Leaf) (p : L.Query) (x : L.Write) → (let y : Op L = Get h p in y ≡ Set g x) → ⊥
  get_set h g p x e = cc

  pub sets_append : (xs ys : List (Op L)) → sets (xs ++ ys) ≡ sets xs ++ sets ys
  sets_append [] ys = refl
  sets_append (Get g q ∷ xs) ys = sets_append xs ys
  sets_append (Set g x ∷ xs) ys = ap (λ l. (g, x) ∷ l) (sets_append xs ys)

module _ (L : Lang) where
  -- intentions of writes, one after another
  abbrev pub adds : List (L.Leaf × L.Write) → L.Intentions → L.Intentions
  adds [] i = i
  adds (w ∷ ws) i = adds ws (L.add w.0 w.1 i)

  -- the writes to one leaf
  abbrev pub on : L.Leaf → List (L.Leaf × L.Write) → List (L.Leaf × L.Write)
  on g ws = filter (λ w. L.same_leaf w.0 g) ws

  pub adds_append : (ws vs : List (L.Leaf × L.Write)) (i : L.Intentions) → adds (ws ++ vs) i ≡ adds vs (adds ws i)
  adds_append [] vs i = refl
  adds_append (w ∷ ws) vs i = adds_append ws vs (L.add w.0 w.1 i)

  pub written_append : (g : L.Leaf) (ws vs : List (L.Leaf × L.Write)) (c : L.Content) → written L g (ws ++ vs) c ≡ written L g vs (written L g ws c)
  written_append g [] vs c = refl
  written_append g (w ∷ ws) vs c = written_append g ws vs (if L.same_leaf w.0 g then L.put_in w.1 c else c)

  pub written_on : (g : L.Leaf) (ws : List (L.Leaf × L.Write)) (c : L.Content) → written L g (on g ws) c ≡ written L g ws c
  written_on g [] c = refl
  written_on g (w ∷ ws) c = ⊎_elim
      (λ is. ap (λ l. written L g l c) (if_true (L.same_leaf w.0 g) (w ∷ on g ws) (on g ws) is) ∙ written_on g ws (if L.same_leaf w.0 g then L.put_in w.1 c else c))
      (λ other. ap (λ l. written L g l c) (if_false (L.same_leaf w.0 g) (w ∷ on g ws) (on g ws) other) ∙ written_on g ws c ∙ ap (λ d. written L g ws d) (sym (if_false (L.same_leaf w.0 g) (L.put_in w.1 c) c other)))
      (by_test (L.same_leaf w.0 g))

  pub written_none : (g : L.Leaf) (ws : List (L.Leaf × L.Write)) (c : L.Content) → writes_to L g ws ≡ false → written L g ws c ≡ c
  written_none g [] c none = refl
  written_none g (w ∷ ws) c none =
      ap (λ d. written L g ws d) (if_false (L.same_leaf w.0 g) (L.put_in w.1 c) c (or_none_left (L.same_leaf w.0 g) (writes_to L g ws) none)) ∙ written_none g ws c (or_none_right (L.same_leaf w.0 g) (writes_to L g ws) none)

  pub on_append : (g : L.Leaf) (ws vs : List (L.Leaf × L.Write)) → on g (ws ++ vs) ≡ on g ws ++ on g vs
  on_append g [] vs = refl
  on_append g (w ∷ ws) vs = ⊎_elim
      (λ is. if_true (L.same_leaf w.0 g) (w ∷ on g (ws ++ vs)) (on g (ws ++ vs)) is ∙ ap (λ l. w ∷ l) (on_append g ws vs) ∙ ap (λ l. l ++ on g vs) (sym (if_true (L.same_leaf w.0 g) (w ∷ on g ws) (on g ws) is)))
      (λ other. if_false (L.same_leaf w.0 g) (w ∷ on g (ws ++ vs)) (on g (ws ++ vs)) other ∙ on_append g ws vs ∙ ap (λ l. l ++ on g vs) (sym (if_false (L.same_leaf w.0 g) (w ∷ on g ws) (on g ws) other)))
      (by_test (L.same_leaf w.0 g))

  -- whether a list writes to the leaf is seen at its writes to the leaf
  pub writes_on : (g : L.Leaf) (ws : List (L.Leaf × L.Write)) → writes_to L g (on g ws) ≡ writes_to L g ws
  writes_on g [] = refl
  writes_on g (w ∷ ws) = ⊎_elim
      (λ is. ap (λ l. writes_to L g l) (if_true (L.same_leaf w.0 g) (w ∷ on g ws) (on g ws) is) ∙ or_left (L.same_leaf w.0 g) (writes_to L g (on g ws)) is ∙ sym (or_left (L.same_leaf w.0 g) (writes_to L g ws) is))
      (λ other. ap (λ l. writes_to L g l) (if_false (L.same_leaf w.0 g) (w ∷ on g ws) (on g ws) other) ∙ writes_on g ws ∙ sym (ap (λ b. b || writes_to L g ws) other))
      (by_test (L.same_leaf w.0 g))

  pub writes_append : (g : L.Leaf) (ws vs : List (L.Leaf × L.Write)) → writes_to L g ws ≡ false → writes_to L g (ws ++ vs) ≡ writes_to L g vs
  writes_append g [] vs none = refl
  writes_append g (w ∷ ws) vs none = ap (λ b. b || writes_to L g (ws ++ vs)) (or_none_left (L.same_leaf w.0 g) (writes_to L g ws) none) ∙ writes_append g ws vs (or_none_right (L.same_leaf w.0 g) (writes_to L g ws) none)

  module _ (law : IsLawful L) where
    pub changed_adds : (g : L.Leaf) (ws : List (L.Leaf × L.Write)) (i : L.Intentions) (c : L.Content) → L.changed g (adds ws i) c ≡ written L g ws (L.changed g i c)
    changed_adds g [] i c = refl
    changed_adds g (w ∷ ws) i c = changed_adds g ws (L.add w.0 w.1 i) c ∙ ap (λ d. written L g ws d) (law.changed_add g w.0 w.1 i c)

    -- what a visit's intentions come to
    pub changed_by : (g : L.Leaf) (ws : List (L.Leaf × L.Write)) (c : L.Content) → L.changed g (adds ws L.none) c ≡ written L g ws c
    changed_by g ws c = changed_adds g ws L.none c ∙ ap (λ d. written L g ws d) (law.changed_none g c)

    touches_adds : (g : L.Leaf) (ws : List (L.Leaf × L.Write)) (i : L.Intentions) → L.touches g (adds ws i) ≡ (writes_to L g ws || L.touches g i)
    touches_adds g [] i = refl
    touches_adds g (w ∷ ws) i = touches_adds g ws (L.add w.0 w.1 i) ∙ ap (λ b. writes_to L g ws || b) (law.touches_add g w.0 w.1 i) ∙ swapped (writes_to L g ws) (L.same_leaf w.0 g) (L.touches g i)
      where
        swapped : (a b c : Bool) → (a || (if b then true else c)) ≡ ((b || a) || c)
        swapped true true c = refl
        swapped true false c = refl
        swapped false true c = refl
        swapped false false c = refl

    pub touches_by : (g : L.Leaf) (ws : List (L.Leaf × L.Write)) → L.touches g (adds ws L.none) ≡ writes_to L g ws
    touches_by g ws = touches_adds g ws L.none ∙ ap (λ b. writes_to L g ws || b) (law.touches_none g) ∙ or_false (writes_to L g ws)

    -- intentions that are none are those of no write
    pub empty_by : (ws : List (L.Leaf × L.Write)) → L.is_empty (adds ws L.none) ≡ true → ws ≡ []
    empty_by [] e = refl
    empty_by (w ∷ ws) e = clash (or_left (L.same_leaf w.0 w.0) (writes_to L w.0 ws) ((law.leaves w.0 w.0).1 refl)) (sym (touches_by w.0 (w ∷ ws)) ∙ law.empty_touches w.0 (adds (w ∷ ws) L.none) e)
