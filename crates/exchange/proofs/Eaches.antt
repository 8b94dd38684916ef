-- Answers for the items of a list, up to a place.
use Rattle.std.proofs.Common.{◌≡◌, ℕ, ◌+◌, ◌<◌, ◌++◌, List, [], ◌∷◌, length, take, drop, get_or, Result, Ok, Err, arith, ap, refl, sym, subst, ◌∙◌}
use Rattle.std.proofs.lemmas.List.{take_more, take-append-drop}
use Rattle.std.proofs.lemmas.Grind.{common_steps}
use Rattle.exchange.specs.Each.{each_from, onto}
use Rattle.exchange.proofs.Orders.{rest_from}

onto_parts : {B E : Type 0} (first : Result B E) (others : Result (List B) E) (ys : List B) → onto first others ≡ Ok ys → (z : B) × (zs : List B) × (first ≡ Ok z) × (others ≡ Ok zs) × (z ∷ zs ≡ ys)
onto_parts (Err fault) others ys is = absurd cc
onto_parts (Ok z) (Err fault) ys is = absurd cc
onto_parts (Ok z) (Ok zs) ys is = (z, zs, refl, refl, cc)

-- one item more
snoc : {A B E : Type 0} (answer : ℕ → A → Result B E) (from : ℕ) (xs : List A) (x : A) (ys : List B) (y : B) → each_from answer from xs ≡ Ok ys → answer (from + length xs) x ≡ Ok y
    → each_from answer from (xs ++ x ∷ []) ≡ Ok (ys ++ y ∷ [])
snoc {B} {E} answer from [] x ys y before is =
    let here : answer from x ≡ Ok y = subst (λ n. answer n x ≡ Ok y) (omega arith) is in
    let none : [] ≡ ys = cc in
    rw here (ap (λ (zs : List B). Ok (zs ++ y ∷ [])) none)
snoc {B} {E} answer from (first ∷ xs) x ys y before is =
    let parts = onto_parts (answer from first) (each_from answer (from + 1) xs) ys before in
    let there : answer (from + 1 + length xs) x ≡ Ok y = subst (λ n. answer n x ≡ Ok y) (omega arith) is in
    rw (parts.2, snoc answer (from + 1) xs x parts.1 y parts.3 there) (ap (λ (zs : List B). Ok (zs ++ y ∷ [])) parts.4)

-- the first fault
refused : {A B E : Type 0} (answer : ℕ → A → Result B E) (from : ℕ) (xs : List A) (x : A) (rest : List A) (ys : List B) (fault : E) → each_from answer from xs ≡ Ok ys → answer (from + length xs) x ≡ Err fault
    → each_from answer from (xs ++ x ∷ rest) ≡ Err fault
refused {B} {E} answer from [] x rest ys fault before is =
    let here : answer from x ≡ Err fault = subst (λ n. answer n x ≡ Err fault) (omega arith) is in
    rw here refl
refused {B} {E} answer from (first ∷ xs) x rest ys fault before is =
    let parts = onto_parts (answer from first) (each_from answer (from + 1) xs) ys before in
    let there : answer (from + 1 + length xs) x ≡ Err fault = subst (λ n. answer n x ≡ Err fault) (omega arith) is in
    rw (parts.2, refused answer (from + 1) xs x rest parts.1 fault parts.3 there) refl

taken : {A : Type 0} (xs : List A) (i : ℕ) → i < length xs → i ≡ 0 + length (take i xs)
taken xs i within = grind (arith, common_steps)

-- the answers for the items below a place, and for that one
pub each_more : {A B E : Type 0} (answer : ℕ → A → Result B E) (xs : List A) (i : ℕ) (x : A) (ys : List B) (y : B) → i < length xs → each_from answer 0 (take i xs) ≡ Ok ys → answer i (get_or xs i x) ≡ Ok y
    → each_from answer 0 (take (i + 1) xs) ≡ Ok (ys ++ y ∷ [])
each_more answer xs i x ys y within before is =
    rw (take_more xs i x within) (snoc answer 0 (take i xs) (get_or xs i x) ys y before (subst (λ n. answer n (get_or xs i x) ≡ Ok y) (taken xs i within) is))

-- a fault at that place, after them
pub each_refused : {A B E : Type 0} (answer : ℕ → A → Result B E) (xs : List A) (i : ℕ) (x : A) (ys : List B) (fault : E) → i < length xs → each_from answer 0 (take i xs) ≡ Ok ys → answer i (get_or xs i x) ≡ Err fault
    → each_from answer 0 xs ≡ Err fault
each_refused answer xs i x ys fault within before is =
    let all : take i xs ++ get_or xs i x ∷ drop (i + 1) xs ≡ xs = ap (λ rest. take i xs ++ rest) (sym (rest_from xs i x within)) ∙ take-append-drop i xs in
    subst (λ items. each_from answer 0 items ≡ Err fault) all (refused answer 0 (take i xs) (get_or xs i x) (drop (i + 1) xs) ys fault before (subst (λ n. answer n (get_or xs i x) ≡ Err fault) (taken xs i within) is))
