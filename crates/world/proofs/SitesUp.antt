-- Sites come up over their stores, one after another.
use Rattle.std.proofs.Common.{◌≡◌, refl, sym, ap, ◌∙◌, subst, ℕ, suc, ◌+◌, ◌<◌, List, [], ◌∷◌, ◌++◌, drop, length, append-nil, append_assoc, get_or, add-one, arith}
use Rattle.std.proofs.lemmas.List.{length-append}
use Rattle.std.proofs.Math.Seq.{drop-cons, drop-length}
use Rattle.catalog.specs.Catalogue.{Catalogue}
use Rattle.std.specs.List.{flat_map}
use Rattle.protocol.specs.Letter.{Letter}
use Rattle.protocol.specs.Local.{local}
use Rattle.protocol.specs.Site.{inquiries}
use Rattle.site.specs.declared.site.Site.{Site}
use Rattle.site.specs.State.{state_of}
use Rattle.store.specs.SiteContent.{SiteContent}
use Rattle.world.specs.Recovery.{AreUp, IsUp}
use Rattle.world.specs.Sites.{Seat}

-- a list of no items is empty
pub nothing_left : {X : Type 0} (l : List X) → length l ≡ 0 → l ≡ []
nothing_left [] h = refl
nothing_left (x ∷ xs) h = absurd (omega arith)

module _ {S : Type 0} (is_clean is_sound : S → Type 0) (kept : S → SiteContent) (refused : S → ℕ) (catalogue : Catalogue) where
  -- there is a store for each name that is left; and with the sites of these, whatever they are, all are up
  pub record GoesUp (names : List (List ℕ)) (stores rest : List S) (sites : List (Site S)) : Type 0 where
    pub size : length sites + length rest ≡ length names
    pub up : (more : List (Site S)) → AreUp is_clean is_sound kept refused catalogue (drop (length sites) names) rest more → AreUp is_clean is_sound kept refused catalogue names stores (sites ++ more)

  -- one more
  pub next_up : (names : List (List ℕ)) (stores was rest : List S) (sites new : List (Site S)) (d : List ℕ) (name : List ℕ) (store : S) (site : Site S) → length sites < length names → GoesUp names stores was sites → was ≡ store ∷ rest → name ≡ get_or names (length sites) d →
      IsUp is_clean is_sound kept refused catalogue name store site → new ≡ sites ++ site ∷ [] → GoesUp names stores rest new
  next_up names stores was rest sites new d name store site below goes yields is here more =
      subst (GoesUp names stores rest) (sym more) (record {
        size = let size = goes.size in let left = ap length yields in let longer : length (sites ++ site ∷ []) ≡ length sites + 1 = length-append sites (site ∷ []) in omega (arith, size, left, longer);
        up = λ others rest_up.
            subst (AreUp is_clean is_sound kept refused catalogue names stores) (sym (append_assoc sites (site ∷ []) others))
            (goes.up (site ∷ others) (subst (λ (left : List S). AreUp is_clean is_sound kept refused catalogue (drop (length sites) names) left (site ∷ others)) (sym yields)
            (subst (λ (left : List (List ℕ)). AreUp is_clean is_sound kept refused catalogue left (store ∷ rest) (site ∷ others)) (sym (drop-cons names (length sites) d below ∙ ap (λ n. n ∷ drop (suc (length sites)) names) (sym is)))
            (here, subst (λ n. AreUp is_clean is_sound kept refused catalogue (drop n names) rest others) (length-append sites (site ∷ []) ∙ add-one (length sites)) rest_up))));
      })

  -- no store is left
  pub all_up : (names : List (List ℕ)) (stores rest : List S) (sites : List (Site S)) → GoesUp names stores rest sites → rest ≡ [] → AreUp is_clean is_sound kept refused catalogue names stores sites
  all_up names stores rest sites goes none =
      let long : length sites ≡ length names = let size = goes.size in let short : length rest ≡ 0 = ap length none in omega (arith, size, short) in
      subst (AreUp is_clean is_sound kept refused catalogue names stores) (append-nil sites)
      (goes.up [] (subst (λ (left : List S). AreUp is_clean is_sound kept refused catalogue (drop (length sites) names) left []) (sym none)
      (subst (λ (left : List (List ℕ)). AreUp is_clean is_sound kept refused catalogue left [] []) (sym (ap (λ n. drop n names) long ∙ drop-length names)) tt)))

-- the inquiries of sites
abbrev pub inquiries_in : List Seat → List (Letter local)
inquiries_in seats = flat_map (λ seat. inquiries seat.name (state_of seat.kept seat.table)) seats
