-- The line of transactions by the catalogues that they were made for: who counts is in step, and nobody counts behind an undecided refragmentation.
use Rattle.std.proofs.Common.{◌≡◌, refl, sym, ap, ◌∙◌, subst, ℕ, suc, Bool, true, false, List, [], ◌∷◌, ◌++◌, if◌then◌else◌, inl, inr, ⊎_elim}
use Rattle.std.specs.Prelude.{⊤}
use Rattle.protocol.specs.Language.{Lang, Name, same}
use Rattle.protocol.proofs.Basics.{Every, In, by_test, clash, if_true, if_false, same_law}
use Rattle.protocol.proofs.Line.{every_here}

module _ (L : Lang) where
  -- statements in turn, each for the catalogue in force after those before it
  abbrev pub InStep : ℕ → List L.Statement → Type 0
  InStep n [] = ⊤
  InStep n (s ∷ ss) = (L.tag s ≡ n) × InStep (if L.raises s then suc n else n) ss

  -- the catalogue in force after them
  abbrev pub ends : ℕ → List L.Statement → ℕ
  ends n [] = n
  ends n (s ∷ ss) = ends (if L.raises s then suc n else n) ss

  pub step_more : (n : ℕ) (ss : List L.Statement) (s : L.Statement) → InStep n ss → L.tag s ≡ ends n ss → InStep n (ss ++ s ∷ [])
  step_more n [] s step tag = (tag, tt)
  step_more n (x ∷ ss) s step tag = (step.0, step_more (if L.raises x then suc n else n) ss s step.1 tag)

  pub step_front : (n : ℕ) (xs ys : List L.Statement) → InStep n (xs ++ ys) → InStep n xs
  step_front n [] ys step = tt
  step_front n (x ∷ xs) ys step = (step.0, step_front (if L.raises x then suc n else n) xs ys step.1)

  -- no statement that brings another catalogue, or one alone that does
  abbrev pub Low : List L.Statement → Type 0
  Low ss = Every (λ s. L.raises s ≡ false) ss

  abbrev pub Single : List L.Statement → Type 0
  Single ss = (s : L.Statement) × (ss ≡ s ∷ []) × (L.raises s ≡ true)

  pub ends_low : (ss : List L.Statement) → Low ss → (n : ℕ) → ends n ss ≡ n
  ends_low [] low n = refl
  ends_low (s ∷ ss) low n = ap (λ m. ends m ss) (if_false (L.raises s) (suc n) n low.0) ∙ ends_low ss low.1 n

  pub ends_single : (ss : List L.Statement) → Single ss → (n : ℕ) → ends n ss ≡ suc n
  ends_single ss one n = ap (ends n) one.1 ∙ if_true (L.raises one.0) (suc n) n one.2

  -- S: the statements of each; C: who is committed; V: who counts, committed or undecided; M: who is an undecided refragmentation; last: the catalogue in force after the line
  abbrev pub Order : (Name → List L.Statement) → (Name → Bool) → (Name → Bool) → (Name → Bool) → ℕ → ℕ → List Name → Type 0
  Order S C V M last n [] = n ≡ last
  Order S C V M last n (t ∷ ts) = (V t ≡ true → InStep n (S t)) × (M t ≡ true → Every (λ x. V x ≡ false) ts) × Order S C V M last (if C t then ends n (S t) else n) ts

  still_false : (a b : Bool) → (a ≡ true → b ≡ true) → b ≡ false → a ≡ false
  still_false true b to none = clash (to refl) none
  still_false false b to none = refl

  -- who counts and who moves may be fewer, and whoever is committed more moves nothing
  pub order_still : (S T : Name → List L.Statement) (C D V U M N : Name → Bool) (last n : ℕ) (line : List Name) →
      ((x : Name) → In x line → T x ≡ S x) →
      ((x : Name) → In x line → (m : ℕ) → (if D x then ends m (S x) else m) ≡ (if C x then ends m (S x) else m)) →
      ((x : Name) → In x line → U x ≡ true → V x ≡ true) →
      ((x : Name) → In x line → N x ≡ true → M x ≡ true) →
      Order S C V M last n line → Order T D U N last n line
  order_still S T C D V U M N last n [] alike moved counts moves order = order
  order_still S T C D V U M N last n (t ∷ ts) alike moved counts moves order = (
    (λ v. subst (InStep n) (sym (alike t (inl refl))) (order.0 (counts t (inl refl) v))),
    (λ m. every_here (λ x. V x ≡ false) (λ x. U x ≡ false) ts (λ x here none. still_false (U x) (V x) (counts x (inr here)) none) (order.1 (moves t (inl refl) m))),
    subst (λ m. Order T D U N last m ts) (sym (ap (λ ss. if D t then ends n ss else n) (alike t (inl refl)) ∙ moved t (inl refl) n))
        (order_still S T C D V U M N last (if C t then ends n (S t) else n) ts (λ x here. alike x (inr here)) (λ x here. moved x (inr here)) (λ x here. counts x (inr here)) (λ x here. moves x (inr here)) order.2),
  )

  -- one more at the end
  pub order_end : (S : Name → List L.Statement) (C V M : Name → Bool) (last n : ℕ) (line : List Name) (t : Name) → (V t ≡ true → InStep last (S t)) → ((x : Name) → In x line → M x ≡ true → V t ≡ false) →
      Order S C V M last n line → Order S C V M (if C t then ends last (S t) else last) n (line ++ t ∷ [])
  order_end S C V M last n [] t step none order = (
    (λ v. subst (λ m. InStep m (S t)) (sym order) (step v)),
    (λ m. tt),
    ap (λ m. if C t then ends m (S t) else m) order,
  )
  order_end S C V M last n (x ∷ line) t step none order = (
    order.0,
    (λ m. every_last line (order.1 m) (none x (inl refl) m)),
    order_end S C V M last (if C x then ends n (S x) else n) line t step (λ y here. none y (inr here)) order.2,
  )
    where
      every_last : (ys : List Name) → Every (λ y. V y ≡ false) ys → V t ≡ false → Every (λ y. V y ≡ false) (ys ++ t ∷ [])
      every_last [] all it = (it, tt)
      every_last (y ∷ ys) all it = (all.0, every_last ys all.1 it)

  -- where nobody counts the number stays
  over : (S : Name → List L.Statement) (C V M : Name → Bool) (last n : ℕ) (line : List Name) → ((x : Name) → C x ≡ true → V x ≡ true) → Every (λ x. V x ≡ false) line → Order S C V M last n line → n ≡ last
  over S C V M last n [] within none order = order
  over S C V M last n (t ∷ ts) within none order =
      sym (if_false (C t) (ends n (S t)) n (still_false (C t) (V t) (within t) none.0)) ∙ over S C V M last (if C t then ends n (S t) else n) ts within none.1 order.2

  nobody : (S : Name → List L.Statement) (C V M : Name → Bool) (last n : ℕ) (line : List Name) → ((x : Name) → C x ≡ true → V x ≡ true) → ((x : Name) → M x ≡ false) → Every (λ x. V x ≡ false) line → n ≡ last → Order S C V M last n line
  nobody S C V M last n [] within still none is = is
  nobody S C V M last n (t ∷ ts) within still none is = (
    (λ v. clash v none.0),
    (λ m. clash m (still t)),
    nobody S C V M last (if C t then ends n (S t) else n) ts within still none.1 (if_false (C t) (ends n (S t)) n (still_false (C t) (V t) (within t) none.0) ∙ is),
  )

  -- an undecided refragmentation of the line is committed: nobody counts behind it, and the last number goes up
  pub order_decided : (S : Name → List L.Statement) (C D V U M N : Name → Bool) (last n : ℕ) (line : List Name) (t : Name) → In t line → M t ≡ true → C t ≡ false → D t ≡ true → Single (S t) →
      ((x : Name) → same t x ≡ false → D x ≡ C x) → ((x : Name) → C x ≡ true → V x ≡ true) → ((x : Name) → D x ≡ true → U x ≡ true) → ((x : Name) → U x ≡ true → V x ≡ true) → ((x : Name) → N x ≡ false) →
      Order S C V M last n line → Order S D U N (suc last) n line
  order_decided S C D V U M N last n [] t here moves not_ done one others within within_ fewer still order = absurd here
  order_decided S C D V U M N last n (x ∷ ts) t here moves not_ done one others within within_ fewer still order = ⊎_elim
      (λ is.
      let e : t ≡ x = (same_law t x).0 is in
      let quiet : Every (λ y. V y ≡ false) ts = order.1 (subst (λ y. M y ≡ true) e moves) in
      let stays : n ≡ last = sym (if_false (C x) (ends n (S x)) n (subst (λ y. C y ≡ false) e not_)) ∙ over S C V M last (if C x then ends n (S x) else n) ts within quiet order.2 in (
        (λ v. order.0 (fewer x v)),
        (λ m. clash m (still x)),
        nobody S D U N (suc last) (if D x then ends n (S x) else n) ts within_ still (every_here (λ y. V y ≡ false) (λ y. U y ≡ false) ts (λ y there none. still_false (U y) (V y) (fewer y) none) quiet)
            (if_true (D x) (ends n (S x)) n (subst (λ y. D y ≡ true) e done) ∙ ends_single (S x) (subst (λ y. Single (S y)) e one) n ∙ ap suc stays),
      ))
      (λ other. (
        (λ v. order.0 (fewer x v)),
        (λ m. clash m (still x)),
        order_decided S C D V U M N last (if D x then ends n (S x) else n) ts t (further other here) moves not_ done one others within within_ fewer still
            (subst (λ b. Order S C V M last (if b then ends n (S x) else n) ts) (sym (others x other)) order.2),
      ))
      (by_test (same t x))
    where
      further : same t x ≡ false → In t (x ∷ ts) → In t ts
      further other (inl is) = clash ((same_law t x).1 is) other
      further other (inr below) = below
