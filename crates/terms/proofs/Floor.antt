-- The greatest of some values that is not above a given value, in any total order: it compares with
-- each constant as the given value does.
use Rattle.std.proofs.Common.{◌≡◌, ◌⊎◌, inl, inr, List, [], ◌∷◌, true, false, cond, refl, sym, ap, ◌∙◌}
use Rattle.std.specs.List.{AllByRecursion}
use Rattle.std.specs.Cmp.{IsTotalOrder}
use Rattle.std.specs.Ordering.{is_gt, ordering_reverse}
use Rattle.std.specs.declared.cmp.Ordering.{Ordering}
use Rattle.std.specs.declared.cmp.Ordering.TheVariants.{Less, Equal, Greater}
use Rattle.std.proofs.lemmas.Bool.{cond_both}
use Rattle.std.proofs.lemmas.Cmp.{upto, tied_itself, tied_back, alike_right}

-- the greater of two values, unless the second is above x
abbrev pub nearer : {K : Type 0} → (K → K → Ordering) → K → K → K → K
nearer R x u t = cond (is_gt (R t x)) u (cond (is_gt (R t u)) t u)

-- the greatest value, of u and those of the list, that is not above x
abbrev pub floor : {K : Type 0} → (K → K → Ordering) → K → K → List K → K
floor R x u [] = u
floor R x u (t ∷ ts) = floor R x (nearer R x u t) ts

-- what holds of each value holds of the floor
pub floor_keeps : {K : Type 0} (R : K → K → Ordering) (P : K → Type 0) (x u : K) (ts : List K) → P u → AllByRecursion P ts → P (floor R x u ts)
floor_keeps R P x u [] start all = start
floor_keeps R P x u (t ∷ ts) start all =
    floor_keeps R P x (nearer R x u t) ts (cond_both (is_gt (R t x)) u (cond (is_gt (R t u)) t u) P (λ _. start) (λ _. cond_both (is_gt (R t u)) t u P (λ _. all.0) (λ _. start))) all.1

not_above_itself : {K : Type 0} {R : K → K → Ordering} (o : IsTotalOrder R) (x : K) → is_gt (R x x) ≡ false
not_above_itself {R = R} o x = ap is_gt (tied_itself o x)

is_greater : (order : Ordering) → is_gt order ≡ true → order ≡ Greater
is_greater Less h = cc
is_greater Equal h = cc
is_greater Greater h = refl

-- what is above u has u not above it
not_above_back : {K : Type 0} {R : K → K → Ordering} (o : IsTotalOrder R) (t u : K) → is_gt (R t u) ≡ true → is_gt (R u t) ≡ false
not_above_back {R = R} o t u h = ap is_gt (o.antisymm u t ∙ ap ordering_reverse (is_greater (R t u) h))

pub floor_below : {K : Type 0} (R : K → K → Ordering) (x u : K) (ts : List K) → is_gt (R u x) ≡ false → is_gt (R (floor R x u ts) x) ≡ false
floor_below R x u [] start = start
floor_below {K} R x u (t ∷ ts) start =
    let P : K → Type 0 = λ v. is_gt (R v x) ≡ false in
    floor_below R x (nearer R x u t) ts (cond_both (is_gt (R t x)) u (cond (is_gt (R t u)) t u) P (λ _. start) (λ below. cond_both (is_gt (R t u)) t u P (λ _. below) (λ _. start)))

nearer_above : {K : Type 0} {R : K → K → Ordering} (o : IsTotalOrder R) (x u t : K) → is_gt (R u (nearer R x u t)) ≡ false
nearer_above {K} {R} o x u t =
    let P : K → Type 0 = λ v. is_gt (R u v) ≡ false in
    cond_both (is_gt (R t x)) u (cond (is_gt (R t u)) t u) P (λ _. not_above_itself o u) (λ _. cond_both (is_gt (R t u)) t u P (λ above. not_above_back o t u above) (λ _. not_above_itself o u))

nearer_catches : {K : Type 0} {R : K → K → Ordering} (o : IsTotalOrder R) (x u t : K) → is_gt (R t x) ≡ false → is_gt (R t (nearer R x u t)) ≡ false
nearer_catches {K} {R} o x u t below =
    let P : K → Type 0 = λ v. is_gt (R t v) ≡ false in
    cond_both (is_gt (R t x)) u (cond (is_gt (R t u)) t u) P (λ above. cc) (λ _. cond_both (is_gt (R t u)) t u P (λ _. not_above_itself o t) (λ not_above. not_above))

-- the first value is not above the floor
pub floor_above : {K : Type 0} {R : K → K → Ordering} (o : IsTotalOrder R) (x u : K) (ts : List K) → is_gt (R u (floor R x u ts)) ≡ false
floor_above o x u [] = not_above_itself o u
floor_above {R = R} o x u (t ∷ ts) = upto o u (nearer R x u t) (floor R x (nearer R x u t) ts) (nearer_above o x u t) (floor_above o x (nearer R x u t) ts)

-- nor is any other value that is not above x
pub floor_catches : {K : Type 0} {R : K → K → Ordering} (o : IsTotalOrder R) (x u : K) (ts : List K) → AllByRecursion (λ t. is_gt (R t x) ≡ false → is_gt (R t (floor R x u ts)) ≡ false) ts
floor_catches o x u [] = tt
floor_catches {R = R} o x u (t ∷ ts) = (
  λ below. upto o t (nearer R x u t) (floor R x (nearer R x u t) ts) (nearer_catches o x u t below) (floor_above o x (nearer R x u t) ts),
  floor_catches o x (nearer R x u t) ts,
)

three : (order : Ordering) → (order ≡ Less) ⊎ ((order ≡ Equal) ⊎ (order ≡ Greater))
three Less = inl refl
three Equal = inr (inl refl)
three Greater = inr (inr refl)

-- not above, and then below
not_above_below : {K : Type 0} {R : K → K → Ordering} (o : IsTotalOrder R) (t x c : K) → is_gt (R t x) ≡ false → R x c ≡ Less → R t c ≡ Less
not_above_below {R = R} o t x c below less =
    elim (three (R t x)) as (λ _. R t c ≡ Less) [ inl h ↦ o.trans t x c h less | inr (inl h) ↦ o.congr t x c h ∙ less | inr (inr h) ↦ cc ]

-- below, and then not above
below_not_above : {K : Type 0} {R : K → K → Ordering} (o : IsTotalOrder R) (c s t : K) → R c s ≡ Less → is_gt (R s t) ≡ false → R c t ≡ Less
below_not_above {R = R} o c s t less below =
    elim (three (R s t)) as (λ _. R c t ≡ Less) [ inl h ↦ o.trans c s t less h | inr (inl h) ↦ sym (alike_right o s t c h) ∙ less | inr (inr h) ↦ cc ]

-- neither above the other
tied : {K : Type 0} {R : K → K → Ordering} (o : IsTotalOrder R) (t c : K) → is_gt (R t c) ≡ false → is_gt (R c t) ≡ false → R t c ≡ Equal
tied {R = R} o t c left right =
    let back : R c t ≡ ordering_reverse (R t c) = o.antisymm c t in
    elim (three (R t c)) as (λ _. R t c ≡ Equal) [ inl h ↦ cc (back, ap ordering_reverse h) | inr (inl h) ↦ h | inr (inr h) ↦ cc ]

-- the other way round
turned : {K : Type 0} {R : K → K → Ordering} (o : IsTotalOrder R) (c t : K) (order : Ordering) → R c t ≡ order → R t c ≡ ordering_reverse order
turned o c t order h = o.antisymm t c ∙ ap ordering_reverse h

-- t is not above x, but c is not above t where it is not above x; and where c is below x, it is below some value not above t: then t and x compare alike with c
pub alike_at : {K : Type 0} {R : K → K → Ordering} (o : IsTotalOrder R) (t x c : K) → is_gt (R t x) ≡ false → (is_gt (R c x) ≡ false → is_gt (R c t) ≡ false) → (R c x ≡ Less → (s : K) × (R c s ≡ Less) × (is_gt (R s t) ≡ false)) → R t c ≡ R x c
alike_at {R = R} o t x c below catches beyond =
    elim (three (R c x)) as (λ _. R t c ≡ R x c) [
      | inl h ↦
          let next = beyond h in
          turned o c t Less (below_not_above o c next.0 t next.1 next.2) ∙ sym (turned o c x Less h)
      | inr (inl h) ↦
          let same : R x c ≡ Equal = tied_back o c x h in
          tied o t c (upto o t x c below (ap is_gt same)) (catches (ap is_gt h)) ∙ sym same
      | inr (inr h) ↦
          let less : R x c ≡ Less = turned o c x Greater h in
          not_above_below o t x c below less ∙ sym less
    ]
