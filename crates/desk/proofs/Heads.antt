-- What stands before the first that passes.
use Rattle.std.proofs.Common.{◌≡◌, refl, sym, ap, ◌∙◌, subst, ℕ, suc, ◌+◌, Bool, true, false, not, cond, if◌then◌else◌, List, [], ◌∷◌, ◌++◌, length, map, take, drop, arith}
use Rattle.std.specs.List.{position_or_len}

-- what is changed where it passes
abbrev pub changed_if : {X : Type 0} → (X → Bool) → (X → X) → X → X
changed_if p f x = if p x then f x else x

module _ {X : Type 0} (p : X → Bool) (f : X → X) where
  -- the one behind those that don't pass does
  pub head_passes : (xs : List X) (x : X) (rest : List X) → drop (position_or_len p xs) xs ≡ x ∷ rest → p x ≡ true
  head_passes [] x rest e = cc
  head_passes (y ∷ ys) x rest e = go (p y) refl e (head_passes ys x rest)
    where
      go : (b : Bool) → p y ≡ b → drop (cond (not b) (1 + position_or_len p ys) 0) (y ∷ ys) ≡ x ∷ rest → (drop (position_or_len p ys) ys ≡ x ∷ rest → p x ≡ true) → p x ≡ true
      go true passes e below = cc
      go false fails e below =
          let more : 1 + position_or_len p ys ≡ suc (position_or_len p ys) = omega arith in
          below (ap (λ n. drop n (y ∷ ys)) (sym more) ∙ e)

  -- they stay as they are
  changed_behind : (xs : List X) → map (changed_if p f) xs ≡ take (position_or_len p xs) xs ++ map (changed_if p f) (drop (position_or_len p xs) xs)
  changed_behind [] = refl
  changed_behind (y ∷ ys) = go (p y) refl (changed_behind ys)
    where
      go : (b : Bool) → p y ≡ b → map (changed_if p f) ys ≡ take (position_or_len p ys) ys ++ map (changed_if p f) (drop (position_or_len p ys) ys) →
          map (changed_if p f) (y ∷ ys) ≡ take (cond (not b) (1 + position_or_len p ys) 0) (y ∷ ys) ++ map (changed_if p f) (drop (cond (not b) (1 + position_or_len p ys) 0) (y ∷ ys))
      go true passes rest = refl
      go false fails rest =
          let more : suc (position_or_len p ys) ≡ 1 + position_or_len p ys = omega arith in
          subst (λ n. map (changed_if p f) (y ∷ ys) ≡ take n (y ∷ ys) ++ map (changed_if p f) (drop n (y ∷ ys))) more
          ((λ i. (if fails i then f y else y) ∷ map (changed_if p f) ys) ∙ ap (λ all. y ∷ all) rest)

  module _ (xs : List X) (n : ℕ) (front back : List X) (there : n ≡ position_or_len p xs) (first : front ≡ take n xs) (last : back ≡ drop n xs) where
    halves : map (changed_if p f) xs ≡ front ++ map (changed_if p f) back
    halves = changed_behind xs ∙ (λ i. take (sym there i) xs ++ map (changed_if p f) (drop (sym there i) xs)) ∙ (λ i. sym first i ++ map (changed_if p f) (sym last i))

    -- where nothing stands behind them, nothing changes
    pub none_changes : length back ≡ 0 → front ++ back ≡ map (changed_if p f) xs
    none_changes none = ap (λ all. front ++ all) (empty back none) ∙ sym halves
      where
        empty : (ys : List X) → length ys ≡ 0 → ys ≡ map (changed_if p f) ys
        empty [] e = refl
        empty (y ∷ ys) e = cc

    -- else the first behind them changes, and so may the rest
    pub one_changes : (x now : X) (rest more : List X) → back ≡ x ∷ rest → now ≡ f x → more ≡ map (changed_if p f) rest → front ++ now ∷ more ≡ map (changed_if p f) xs
    one_changes x now rest more is new others =
        let passes = head_passes xs x rest (ap (λ m. drop m xs) (sym there) ∙ sym last ∙ is) in
        (λ i. front ++ new i ∷ others i) ∙ (λ i. front ++ (if sym passes i then f x else x) ∷ map (changed_if p f) rest) ∙ ap (λ all. front ++ map (changed_if p f) all) (sym is) ∙ sym halves
