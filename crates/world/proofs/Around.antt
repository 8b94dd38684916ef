-- A list around the first of its elements that passes a test, and what becomes of it where another element comes in its place.
use Rattle.std.proofs.Common.{◌≡◌, ◌<◌, ◌≤◌, ◌+◌, refl, sym, ap, ◌∙◌, subst, ℕ, suc, Bool, true, false, cond, not, List, [], ◌∷◌, ◌++◌, map, length, get_or, arith}
use Rattle.std.specs.List.{AllByRecursion, position_or_len}

-- a list around the first of its elements that passes a test, with so many before it
pub record IsAround {X : Type 0} (p : X → Bool) (list : List X) (place : ℕ) (x : X) : Type 0 where
  pub before : List X
  pub after : List X
  pub is : list ≡ before ++ x ∷ after
  pub none : AllByRecursion (λ y. p y ≡ false) before
  pub passes : p x ≡ true
  pub at : length before ≡ place

around_first : {X : Type 0} (p : X → Bool) (list : List X) (x : X) → position_or_len p list < length list → get_or list (position_or_len p list) x ≡ x → IsAround p list (position_or_len p list) x
around_first p [] x within is = absurd (omega arith)
around_first {X} p (y ∷ list) x within is = go (p y) refl (around_first p list x)
  where
    go : (b : Bool) → p y ≡ b → (position_or_len p list < length list → get_or list (position_or_len p list) x ≡ x → IsAround p list (position_or_len p list) x) → IsAround p (y ∷ list) (position_or_len p (y ∷ list)) x
    go true passes later =
        let here : position_or_len p (y ∷ list) ≡ 0 = ap (λ (b : Bool). cond (not b) (1 + position_or_len p list) 0) passes in
        let same : y ≡ x = subst (λ (n : ℕ). get_or (y ∷ list) n x ≡ x) here is in
        record { before = []; after = list; is = ap (λ (z : X). z ∷ list) same; none = tt; passes = subst (λ (z : X). p z ≡ true) same passes; at = sym here }
    go false fails later =
        let one_more : 1 + position_or_len p list ≡ suc (position_or_len p list) = omega arith in
        let there : position_or_len p (y ∷ list) ≡ suc (position_or_len p list) = ap (λ (b : Bool). cond (not b) (1 + position_or_len p list) 0) fails ∙ one_more in
        let found = later (omega arith) (subst (λ (n : ℕ). get_or (y ∷ list) n x ≡ x) there is) in
        record { before = y ∷ found.before; after = found.after; is = ap (λ (l : List X). y ∷ l) found.is; none = (fails, found.none); passes = found.passes; at = ap suc found.at ∙ sym there }

pub around : {X : Type 0} (p : X → Bool) (list : List X) (place : ℕ) (x : X) → place ≡ position_or_len p list → place < length list → x ≡ get_or list place x → IsAround p list place x
around p list place x first within is =
    subst (λ (n : ℕ). IsAround p list n x) (sym first) (around_first p list x (subst (λ (n : ℕ). n < length list) first within) (subst (λ (n : ℕ). get_or list n x ≡ x) first (sym is)))

-- where none passes, all stand before the first
pub none_before : {X : Type 0} (p : X → Bool) (list : List X) → ((k : ℕ) (d : X) → k < length list → p (get_or list k d) ≡ false) → length list ≡ position_or_len p list
none_before p [] none = refl
none_before p (y ∷ list) none =
    let later = none_before p list (λ k d within. none (suc k) d (omega (arith, within))) in
    let there : position_or_len p (y ∷ list) ≡ 1 + position_or_len p list = ap (λ (b : Bool). cond (not b) (1 + position_or_len p list) 0) (none 0 y (omega arith)) in
    omega arith

-- none of its elements passes
pub none_passes : {X : Type 0} (p : X → Bool) (list : List X) → length list ≤ position_or_len p list → AllByRecursion (λ y. p y ≡ false) list
none_passes p [] past = tt
none_passes p (y ∷ list) past = go (p y) refl (none_passes p list)
  where
    go : (b : Bool) → p y ≡ b → (length list ≤ position_or_len p list → AllByRecursion (λ y. p y ≡ false) list) → AllByRecursion (λ y. p y ≡ false) (y ∷ list)
    go true passes later =
        let here : position_or_len p (y ∷ list) ≡ 0 = ap (λ (b : Bool). cond (not b) (1 + position_or_len p list) 0) passes in
        absurd (omega arith)
    go false fails later =
        let there : position_or_len p (y ∷ list) ≡ 1 + position_or_len p list = ap (λ (b : Bool). cond (not b) (1 + position_or_len p list) 0) fails in
        (fails, later (omega arith))

-- what holds of all of them holds of this one, and goes on to hold of all where it holds of what comes in its place
pub all_at : {X : Type 0} (P : X → Type 0) (before : List X) (x : X) (after : List X) → AllByRecursion P (before ++ x ∷ after) → P x
all_at P [] x after all = all.0
all_at P (y ∷ before) x after all = all_at P before x after all.1

pub all_with : {X : Type 0} (P : X → Type 0) (before : List X) (x new : X) (after : List X) → P new → AllByRecursion P (before ++ x ∷ after) → AllByRecursion P (before ++ new ∷ after)
all_with P [] x new after holds all = (holds, all.1)
all_with P (y ∷ before) x new after holds all = (all.0, all_with P before x new after holds all.1)

pub map_with : {X Y : Type 0} (f : X → Y) (before : List X) (x new : X) (after : List X) → f new ≡ f x → map f (before ++ new ∷ after) ≡ map f (before ++ x ∷ after)
map_with {X} {Y} f [] x new after same = ap (λ (first : Y). first ∷ map f after) same
map_with {X} {Y} f (y ∷ before) x new after same = ap (λ (rest : List Y). f y ∷ rest) (map_with f before x new after same)
