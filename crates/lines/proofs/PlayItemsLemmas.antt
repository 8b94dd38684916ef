-- Lemmas on the items of a script of schedules.
use Rattle.std.proofs.Common.{◌≡◌, ◌<◌, ◌+◌, ◌∷◌, ◌||◌, Bor, ℕ, Bool, true, false, List, length, map, drop, get_or, Option, Some, None, is_some, ap, refl, sym, add-one, drop-cons, ◌∙◌, bytes_eq, cond}
use Rattle.std.specs.BTreeMap.{is_at}
use Rattle.std.specs.Cmp.Lexicographic.{slice_cmp}
use Rattle.std.specs.Map.{lookup}
use Rattle.std.specs.Ordering.{nat_cmp}
use Rattle.std.proofs.lemmas.Map.Text.{is_eq-slice_cmp}
use Rattle.lines.specs.declared.play_items.Placed.{Placed}
use Rattle.lines.specs.PlayItems.{goes_on, read_from, taken}
use Rattle.lines.specs.PlayScript.{reading_of}

-- the lines that are left, after one more that is not malformed
pub read_from-next : (past more : List Placed) (lines : List (Bor (List ℕ))) (i : ℕ) (d : Bor (List ℕ)) (all : List Placed × Option ℕ) → i < length lines → Some more ≡ taken (i + 1) past (reading_of (get_or lines i d).now) →
    read_from (i + 1) past (map (λ line. line.now) (drop i lines)) ≡ all → read_from (i + 1 + 1) more (map (λ line. line.now) (drop (i + 1) lines)) ≡ all
read_from-next past more lines i d all within is so_far =
    let here : drop i lines ≡ get_or lines i d ∷ drop (i + 1) lines = rw (add-one, drop-cons lines i d) refl in
    ap (λ next. goes_on next (i + 1) past (λ items. read_from (i + 1 + 1) items (map (λ line. line.now) (drop (i + 1) lines)))) is
    ∙ ap (λ rest. read_from (i + 1) past (map (λ line. line.now) rest)) (sym here) ∙ so_far

-- a malformed line
pub read_from-end : (past : List Placed) (lines : List (Bor (List ℕ))) (i : ℕ) (d : Bor (List ℕ)) (all : List Placed × Option ℕ) → i < length lines → None ≡ taken (i + 1) past (reading_of (get_or lines i d).now) →
    read_from (i + 1) past (map (λ line. line.now) (drop i lines)) ≡ all → (past, Some (i + 1)) ≡ all
read_from-end past lines i d all within is so_far =
    let here : drop i lines ≡ get_or lines i d ∷ drop (i + 1) lines = rw (add-one, drop-cons lines i d) refl in
    ap (λ next. goes_on next (i + 1) past (λ items. read_from (i + 1 + 1) items (map (λ line. line.now) (drop (i + 1) lines)))) is
    ∙ ap (λ rest. read_from (i + 1) past (map (λ line. line.now) rest)) (sym here) ∙ so_far

-- what is among names after one more
or_some : {A : Type 0} (there : Bool) (value : A) (other : Option A) → is_some (cond there (Some value) other) ≡ (there || is_some other)
or_some true value other = refl
or_some false value other = refl

pub name_added : (old new : List (List ℕ × ℕ)) (name : List ℕ) (line : ℕ) (other : List ℕ) → lookup (is_at (slice_cmp nat_cmp other)) new ≡ cond (is_at (slice_cmp nat_cmp name) other) (Some line) (lookup (is_at (slice_cmp nat_cmp other)) old) →
    is_some (lookup (is_at (slice_cmp nat_cmp other)) new) ≡ (bytes_eq name other || is_some (lookup (is_at (slice_cmp nat_cmp other)) old))
name_added old new name line other updates =
    ap is_some updates ∙ or_some (is_at (slice_cmp nat_cmp name) other) line (lookup (is_at (slice_cmp nat_cmp other)) old)
    ∙ ap (λ there. there || is_some (lookup (is_at (slice_cmp nat_cmp other)) old)) (is_eq-slice_cmp name other)
