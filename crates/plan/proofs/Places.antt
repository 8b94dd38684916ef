-- Lemmas on places of columns.
use Rattle.std.proofs.Common.{◌≡◌, ℕ, zero, suc, ◌+◌, List, ◌++◌, [], ◌∷◌, ap, ◌∙◌, arith}
use Rattle.std.specs.List.{range_with_len}
use Rattle.plan.specs.Need.{width_of}

-- one place more
range_more : (a n : ℕ) → range_with_len a (n + 1) ≡ range_with_len a n ++ (a + n) ∷ []
range_more a zero = let e : a ≡ a + 0 = omega arith in ap (λ place. place ∷ []) e
range_more a (suc n) =
    let s : suc n + 1 ≡ suc (n + 1) = omega arith in
    let e : a + 1 + n ≡ a + suc n = omega arith in
    rw s (ap (λ places. a ∷ places) (range_more (a + 1) n ∙ ap (λ place. range_with_len (a + 1) n ++ place ∷ []) e))

pub places_more : (n : ℕ) → range_with_len 0 (n + 1) ≡ range_with_len 0 n ++ n ∷ []
places_more n = let e : 0 + n ≡ n = omega arith in range_more 0 n ∙ ap (λ place. range_with_len 0 n ++ place ∷ []) e

-- one relation more
pub width_more : (widths : List ℕ) (width : ℕ) → width_of (widths ++ width ∷ []) ≡ width_of widths + width
width_more [] width = omega arith
width_more (first ∷ widths) width = let rest = width_more widths width in omega (arith, rest)
