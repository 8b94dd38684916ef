-- Lists put together, and where in them something stands.
use Rattle.std.proofs.Common.{◌≡◌, ℕ, zero, suc, ◌+◌, ◌-◌, ◌<◌, ◌≤◌, Bool, true, false, cond, nat_lt, List, [], ◌∷◌, ◌++◌, length, length-append, map, Some, refl, ap, sym, ◌∙◌, subst, arith}
use Rattle.std.proofs.lemmas.Bool.Decides.{nat_tests}
use Rattle.std.proofs.lemmas.Option.{slice_get_within}
use Rattle.std.specs.List.{AllByRecursion, slice_get}
use Rattle.plan.specs.Need.{column_of, number_of, width_of}
use Rattle.plan.proofs.NeedsFit.{get_front, get_past}

-- lists, one behind another
abbrev pub together : {A : Type 0} → List (List A) → List A
together [] = []
together (part ∷ parts) = part ++ together parts

abbrev pub lengths : {A : Type 0} → List (List A) → List ℕ
lengths parts = map (λ part. length part) parts

pub append_more : {A : Type 0} (one two three : List A) → (one ++ two) ++ three ≡ one ++ (two ++ three)
append_more [] two three = refl
append_more (x ∷ one) two three = ap (λ rest. x ∷ rest) (append_more one two three)

pub append_none : {A : Type 0} (one : List A) → one ++ [] ≡ one
append_none [] = refl
append_none (x ∷ one) = ap (λ rest. x ∷ rest) (append_none one)

pub together_last : {A : Type 0} (parts : List (List A)) (last : List A) → together (parts ++ last ∷ []) ≡ together parts ++ last
together_last [] last = append_none last
together_last (part ∷ parts) last = ap (λ rest. part ++ rest) (together_last parts last) ∙ sym (append_more part (together parts) last)

pub lengths_last : {A : Type 0} (parts : List (List A)) (last : List A) → lengths (parts ++ last ∷ []) ≡ lengths parts ++ length last ∷ []
lengths_last [] last = refl
lengths_last (part ∷ parts) last = ap (λ rest. length part ∷ rest) (lengths_last parts last)

pub width_is : {A : Type 0} (parts : List (List A)) → width_of (lengths parts) ≡ length (together parts)
width_is [] = refl
width_is (part ∷ parts) = ap (λ n. length part + n) (width_is parts) ∙ sym (length-append part (together parts))

pub count_is : {A : Type 0} (parts : List (List A)) → length (lengths parts) ≡ length parts
count_is [] = refl
count_is (part ∷ parts) = ap suc (count_is parts)

-- what stands in a list stands there in a longer one, and the item behind it stands at its length
pub get_still : {A : Type 0} (xs ys : List A) (i : ℕ) (x : A) → slice_get xs i ≡ Some x → slice_get (xs ++ ys) i ≡ Some x
get_still xs ys i x there = get_front xs ys i (slice_get_within xs i x there) ∙ there

pub get_last : {A : Type 0} (xs : List A) (x : A) → slice_get (xs ++ x ∷ []) (length xs) ≡ Some x
get_last [] x = refl
get_last (y ∷ xs) x = get_last xs x

pub get_mapped : {A B : Type 0} (f : A → B) (xs : List A) (i : ℕ) (y : B) → slice_get (map f xs) i ≡ Some y → (x : A) × (slice_get xs i ≡ Some x) × (f x ≡ y)
get_mapped f [] i y there = absurd (cc)
get_mapped f (x ∷ xs) zero y there = (x, refl, cc)
get_mapped f (x ∷ xs) (suc i) y there = get_mapped f xs i y there

-- the part that a place is in, and where in it
pub record IsPlaced {A : Type 0} (parts : List (List A)) (place : ℕ) (value : A) : Type 0 where
  pub part : List A
  pub here : slice_get parts (number_of (lengths parts) place) ≡ Some part
  pub at : slice_get part (column_of (lengths parts) place) ≡ Some value

placed_step : {A : Type 0} (part : List A) (parts : List (List A)) (place : ℕ) (value : A) (t : Bool) → nat_lt place (length part) ≡ t → slice_get (part ++ together parts) place ≡ Some value →
    (slice_get (together parts) (place - length part) ≡ Some value → IsPlaced parts (place - length part) value) →
    (found : List A) × (slice_get (part ∷ parts) (cond t 0 (suc (number_of (lengths parts) (place - length part)))) ≡ Some found) × (slice_get found (cond t place (column_of (lengths parts) (place - length part))) ≡ Some value)
placed_step part parts place value true is there more =
    let within : place < length part = grind (arith, nat_tests) in
    (part, refl, sym (get_front part (together parts) place within) ∙ there)
placed_step part parts place value false is there more =
    let past : length part ≤ place = grind (arith, nat_tests) in
    let rest = more (sym (get_past part (together parts) place past) ∙ there) in
    (rest.part, rest.here, rest.at)

pub placed : {A : Type 0} (parts : List (List A)) (place : ℕ) (value : A) → slice_get (together parts) place ≡ Some value → IsPlaced parts place value
placed [] place value there = absurd (cc)
placed (part ∷ parts) place value there =
    let it = placed_step part parts place value (nat_lt place (length part)) refl there (placed parts (place - length part) value) in
    record { part = it.0; here = it.1; at = it.2 }

-- two lists, item by item
abbrev pub Each : {A B : Type 0} → (A → B → Type 0) → List A → List B → Type 0
Each P [] [] = Unit {0}
Each P [] (y ∷ ys) = ⊥
Each P (x ∷ xs) [] = ⊥
Each P (x ∷ xs) (y ∷ ys) = P x y × Each P xs ys

pub each_at : {A B : Type 0} (P : A → B → Type 0) (xs : List A) (ys : List B) (i : ℕ) (x : A) (y : B) → Each P xs ys → slice_get xs i ≡ Some x → slice_get ys i ≡ Some y → P x y
each_at P [] ys i x y all one other = absurd (cc)
each_at P (a ∷ xs) [] i x y all one other = absurd all
each_at {A} {B} P (a ∷ xs) (b ∷ ys) zero x y all one other =
    let first : a ≡ x = cc in
    let second : b ≡ y = cc in
    subst (λ v. P x v) second (subst (λ u. P u b) first all.0)
each_at P (a ∷ xs) (b ∷ ys) (suc i) x y all one other = each_at P xs ys i x y all.1 one other

pub each_last : {A B : Type 0} (P : A → B → Type 0) (xs : List A) (ys : List B) (x : A) (y : B) → Each P xs ys → P x y → Each P (xs ++ x ∷ []) (ys ++ y ∷ [])
each_last P [] [] x y all here = (here, tt)
each_last P [] (b ∷ ys) x y all here = absurd all
each_last P (a ∷ xs) [] x y all here = absurd all
each_last P (a ∷ xs) (b ∷ ys) x y all here = (all.0, each_last P xs ys x y all.1 here)

-- what holds of all items, and of one behind them
pub all_last : {A : Type 0} (P : A → Type 0) (xs : List A) (x : A) → AllByRecursion P xs → P x → AllByRecursion P (xs ++ x ∷ [])
all_last P [] x all here = (here, tt)
all_last P (y ∷ xs) x all here = (all.0, all_last P xs x all.1 here)

pub all_more : {A : Type 0} (P Q : A → Type 0) (xs : List A) → ((x : A) → P x → Q x) → AllByRecursion P xs → AllByRecursion Q xs
all_more P Q [] more all = tt
all_more P Q (x ∷ xs) more all = (more x all.0, all_more P Q xs more all.1)

-- what holds of all items holds of the one at a place
pub all_at : {A : Type 0} (P : A → Type 0) (list : List A) (place : ℕ) (one : A) → AllByRecursion P list → slice_get list place ≡ Some one → P one
all_at P [] place one all is = absurd (cc)
all_at P (first ∷ list) zero one all is = let same : first ≡ one = cc in subst P same all.0
all_at P (first ∷ list) (suc place) one all is = all_at P list place one all.1 is
