-- The cells of sites that start over their stores, one after another.
use Rattle.std.proofs.Common.{◌≡◌, refl, sym, ap, ◌∙◌, subst, ℕ, suc, ◌+◌, ◌<◌, List, [], ◌∷◌, ◌++◌, drop, length, append-nil, append_assoc, get_or, add-one, arith}
use Rattle.std.proofs.lemmas.List.{length-append}
use Rattle.std.proofs.Math.Seq.{drop-cons, drop-length}
use Rattle.catalog.specs.Catalogue.{Catalogue}
use Rattle.catalog.specs.FragmentLeaf.{schemas_of}
use Rattle.store.specs.SiteContent.{SiteContent}
use Rattle.site.specs.State.{AreHad}
use Rattle.world.specs.Leaves.{known_leaves}
use Rattle.history.specs.SiteHistory.{SiteHistory}
use Rattle.wire.specs.Opening.{AreFresh, HaveLeaves, IsFresh}

-- a list of no items is empty
pub nothing_left : {X : Type 0} (l : List X) → length l ≡ 0 → l ≡ []
nothing_left [] h = refl
nothing_left (x ∷ xs) h = absurd (omega arith)

module _ {S : Type 0} (is_clean : S → Type 0) (kept : S → SiteContent) (catalogue : Catalogue) where
  -- there is a store for each name that is left; and with the cells of these, whatever they are, all are fresh
  pub record GoesOn (names : List (List ℕ)) (rest : List S) (cells : List (SiteHistory S)) : Type 0 where
    pub size : length cells + length rest ≡ length names
    pub leaves : HaveLeaves is_clean kept catalogue rest
    pub fresh : (more : List (SiteHistory S)) → AreFresh catalogue (drop (length cells) names) more → AreFresh catalogue names (cells ++ more)

  -- the next store has the leaves that its site knows
  pub next_has : (names : List (List ℕ)) (was rest : List S) (cells : List (SiteHistory S)) (store : S) → GoesOn names was cells → was ≡ store ∷ rest → is_clean store → AreHad (known_leaves (schemas_of catalogue)) (kept store)
  next_has names was rest cells store goes yields = (subst (HaveLeaves is_clean kept catalogue) yields goes.leaves).0

  -- one more
  pub next_fresh : (names : List (List ℕ)) (was rest : List S) (cells new : List (SiteHistory S)) (d : List ℕ) (name : List ℕ) (store : S) (cell : SiteHistory S) → length cells < length names → GoesOn names was cells → was ≡ store ∷ rest → name ≡ get_or names (length cells) d →
      IsFresh catalogue name cell → new ≡ cells ++ cell ∷ [] → GoesOn names rest new
  next_fresh names was rest cells new d name store cell below goes yields is here more =
      subst (GoesOn names rest) (sym more) (record {
        size = let size = goes.size in let left = ap length yields in let longer : length (cells ++ cell ∷ []) ≡ length cells + 1 = length-append cells (cell ∷ []) in omega (arith, size, left, longer);
        leaves = (subst (HaveLeaves is_clean kept catalogue) yields goes.leaves).1;
        fresh = λ others rest_fresh.
            subst (AreFresh catalogue names) (sym (append_assoc cells (cell ∷ []) others))
            (goes.fresh (cell ∷ others)
            (subst (λ (left : List (List ℕ)). AreFresh catalogue left (cell ∷ others)) (sym (drop-cons names (length cells) d below ∙ ap (λ n. n ∷ drop (suc (length cells)) names) (sym is)))
            (here, subst (λ n. AreFresh catalogue (drop n names) others) (length-append cells (cell ∷ []) ∙ add-one (length cells)) rest_fresh)));
      })

  -- no store is left
  pub all_fresh : (names : List (List ℕ)) (rest : List S) (cells : List (SiteHistory S)) → GoesOn names rest cells → rest ≡ [] → AreFresh catalogue names cells
  all_fresh names rest cells goes none =
      let long : length cells ≡ length names = let size = goes.size in let short : length rest ≡ 0 = ap length none in omega (arith, size, short) in
      subst (AreFresh catalogue names) (append-nil cells)
      (goes.fresh [] (subst (λ (left : List (List ℕ)). AreFresh {S = S} catalogue left []) (sym (ap (λ n. drop n names) long ∙ drop-length names)) tt))
