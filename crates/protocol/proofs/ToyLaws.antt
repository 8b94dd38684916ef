-- The toy language is lawful.
use Rattle.std.proofs.Common.{◌≡◌, refl, sym, ⊎_elim, true≢false, ℕ, ◌==◌, Bool, true, false, [], ◌∷◌, ◌++◌, if◌then◌else◌, Option, Some, None, ◌↔◌, ◌&&◌, is_none}
use Rattle.std.proofs.lemmas.Bool.{eqb-true}
use Rattle.protocol.specs.Language.{IsLawful, written}
use Rattle.protocol.specs.Toy.{toy, Pair, Intended, is_same, part_of, intended, adds, applied, is_intended, toy_meaning}
use Rattle.protocol.proofs.Locks.{Once}

same_is : (a b : Bool) → (is_same a b ≡ true) ↔ (a ≡ b)
same_is true true = (λ e. refl, λ e. refl)
same_is true false = (λ e. cc, λ e. cc)
same_is false true = (λ e. cc, λ e. cc)
same_is false false = (λ e. refl, λ e. refl)

change_none : (g : Bool) (content : ℕ) → applied (intended g (record { north = None; south = None })) content ≡ content
change_none true content = refl
change_none false content = refl

change_add : (g h : Bool) (x : ℕ) (i : Intended) (content : ℕ) → applied (intended g (adds h x i)) content ≡ (if is_same h g then x else applied (intended g i) content)
change_add true true x i content = refl
change_add true false x i content = refl
change_add false true x i content = refl
change_add false false x i content = refl

touch_add : (g h : Bool) (x : ℕ) (i : Intended) → is_intended (intended g (adds h x i)) ≡ (if is_same h g then true else is_intended (intended g i))
touch_add true true x i = refl
touch_add true false x i = refl
touch_add false true x i = refl
touch_add false false x i = refl

touch_none : (g : Bool) → is_intended (intended g (record { north = None; south = None })) ≡ false
touch_none true = refl
touch_none false = refl

none_is : (x y : Option ℕ) → (is_none x && is_none y) ≡ true → (is_intended x ≡ false) × (is_intended y ≡ false)
none_is None None e = (refl, refl)
none_is None (Some y) e = cc
none_is (Some x) y e = cc

empty_touch : (g : Bool) (i : Intended) → (is_none i.north && is_none i.south) ≡ true → is_intended (intended g i) ≡ false
empty_touch true i e = (none_is i.north i.south e).1
empty_touch false i e = (none_is i.north i.south e).0

-- writing where the values differ leads to the new values
pub wrote : (g : Bool) (before after : Pair) → written toy g (toy.writes before after) (part_of g before) ≡ part_of g after
wrote g before after = go g (before.north == after.north) (before.south == after.south) (eqb-true before.north after.north) (eqb-true before.south after.south)
  where
    go : (g n s : Bool) → (n ≡ true → before.north ≡ after.north) → (s ≡ true → before.south ≡ after.south) →
        written toy g ((if n then [] else (false, after.north) ∷ []) ++ (if s then [] else (true, after.south) ∷ [])) (part_of g before) ≡ part_of g after
    go true true true north south = south refl
    go true true false north south = refl
    go true false true north south = south refl
    go true false false north south = refl
    go false true true north south = north refl
    go false true false north south = north refl
    go false false true north south = refl
    go false false false north south = refl

pub toy_lawful : IsLawful toy
toy_lawful = record {
  leaves = same_is;
  sites = same_is;
  changed_none = change_none;
  changed_add = change_add;
  touches_none = touch_none;
  touches_add = touch_add;
  empty_touches = empty_touch;
  keeps_whole = λ s before is fits tag. tt;
  writes_right = λ s before g is fits tag. wrote g before (toy_meaning s before).1;
  counts = λ s before is fits tag. refl;
}

pub toy_once : Once toy.sites
toy_once = ((λ here. ⊎_elim (λ e. true≢false (sym e)) (λ none. none) here), ((λ here. here), tt))
