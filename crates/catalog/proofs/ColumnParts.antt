-- Groups in which no column is named twice, and which name all columns and no others, share them out.
use Rattle.std.proofs.Common.{◌≡◌, ◌≢◌, ◌+◌, ◌<◌, ◌==◌, ℕ, suc, Bool, true, false, cond, not, ◌||◌, List, [], ◌∷◌, ◌++◌, length, take, drop, get_or, Some, None, refl, sym, ap, ◌∙◌, subst, arith}
use Rattle.std.specs.List.{AllByRecursion, find}
use Rattle.std.proofs.Math.Seq.{drop-cons}
use Rattle.std.proofs.lemmas.Bool.{eqb-true, eq-eqb}
use Rattle.std.proofs.lemmas.List.{take_more, take-append-drop}
use Rattle.std.proofs.lemmas.List.Folds.{list_any-append}
use Rattle.catalog.specs.Counts.{how_many, has}
use Rattle.catalog.specs.Valid.{AreParts}
use Rattle.catalog.specs.Parts.{named, AreApart, IsFirstAgain, first_lost}

pub has-append : (columns more : List ℕ) (col : ℕ) → has (columns ++ more) col ≡ (has columns col || has more col)
has-append columns more col = list_any-append (λ other. other == col) columns more

apart_back : (columns more : List ℕ) → AreApart (columns ++ more) → AreApart more
apart_back [] more apart = apart
apart_back (col ∷ columns) more apart = apart_back columns more apart.1

left_false : (a b : Bool) → (a || b) ≡ false → a ≡ false
left_false true b h = cc
left_false false b h = refl

right_false : (a b : Bool) → (a || b) ≡ false → b ≡ false
right_false true b h = cc
right_false false b h = h

-- what stands in front doesn't stand behind
pub not_behind : (columns more : List ℕ) (col : ℕ) → AreApart (columns ++ more) → has columns col ≡ true → has more col ≡ false
not_behind [] more col apart there = cc
not_behind (first ∷ columns) more col apart there =
    elim (first == col) as (λ b. (first == col) ≡ b → (b || has columns col) ≡ true → has more col ≡ false) [
      | true ↦ λ is later.
          let none : has more first ≡ false = right_false (has columns first) (has more first) (sym (has-append columns more first) ∙ apart.0) in
          subst (λ (c : ℕ). has more c ≡ false) (eqb-true first col is) none
      | false ↦ λ is later. not_behind columns more col apart.1 later
    ] refl there

-- one more group
one_group : (here behind : Bool) (count : ℕ) → (here ≡ true → behind ≡ false) → count ≡ cond behind 1 0 → cond here (suc count) count ≡ cond (here || behind) 1 0
one_group true behind count apart is = let none = apart refl in let zero_is : count ≡ 0 = is ∙ ap (λ b. cond b 1 0) none in omega arith
one_group false behind count apart is = is

-- where no column is named twice, each named one is in one group
pub in_one : (groups : List (List ℕ)) (col : ℕ) → AreApart (named groups) → how_many (λ group. has group col) groups ≡ cond (has (named groups) col) 1 0
in_one [] col apart = refl
in_one (group ∷ groups) col apart =
    one_group (has group col) (has (named groups) col) (how_many (λ other. has other col) groups) (not_behind group (named groups) col apart) (in_one groups col (apart_back group (named groups) apart))
    ∙ ap (λ b. cond b 1 0) (sym (has-append group (named groups) col))

-- a column that stands among some, which all pass
passes_at : (passes : ℕ → Bool) (columns : List ℕ) (col : ℕ) → AllByRecursion (λ own. passes own ≡ true) columns → has columns col ≡ true → passes col ≡ true
passes_at passes [] col all there = cc
passes_at passes (first ∷ columns) col all there =
    elim (first == col) as (λ b. (first == col) ≡ b → (b || has columns col) ≡ true → passes col ≡ true) [
      | true ↦ λ is later. subst (λ (c : ℕ). passes c ≡ true) (eqb-true first col is) all.0
      | false ↦ λ is later. passes_at passes columns col all.1 later
    ] refl there

none_absent : (others columns : List ℕ) → find (λ col. not (has others col)) columns ≡ None → AllByRecursion (λ col. has others col ≡ true) columns
none_absent others [] none = tt
none_absent others (col ∷ columns) none =
    elim (has others col) as (λ b. has others col ≡ b → cond (not b) (Some col) (find (λ own. not (has others own)) columns) ≡ None → AllByRecursion (λ own. has others own ≡ true) (col ∷ columns)) [
      | true ↦ λ is rest. (is, none_absent others columns rest)
      | false ↦ λ is found. cc
    ] refl none

both_or_neither : (a b : Bool) → (a ≡ true → b ≡ true) → (b ≡ true → a ≡ true) → a ≡ b
both_or_neither true b forth back = sym (forth refl)
both_or_neither false true forth back = back refl
both_or_neither false false forth back = refl

pub are_parts : (columns : List ℕ) (groups : List (List ℕ)) → groups ≢ [] → AllByRecursion (λ col. has columns col ≡ true) (named groups) → AreApart (named groups) → first_lost columns groups ≡ None → AreParts columns groups
are_parts columns groups some among apart none = record {
  some = some;
  each_once = λ col. in_one groups col apart ∙ ap (λ b. cond b 1 0)
      (both_or_neither (has (named groups) col) (has columns col) (passes_at (has columns) (named groups) col among) (passes_at (has (named groups)) columns col (none_absent (named groups) columns none)));
}

other_way : (a b : ℕ) → (a == b) ≡ false → (b == a) ≡ false
other_way a b differ =
    elim (b == a) as (λ t. (b == a) ≡ t → t ≡ false) [
      | true ↦ λ is. let same : (a == b) ≡ true = eq-eqb a b (sym (eqb-true b a is)) in cc
      | false ↦ λ is. refl
    ] refl

neither : (a b : Bool) → a ≡ false → b ≡ false → (a || b) ≡ false
neither true b h k = cc
neither false b h k = k

-- one more column that doesn't stand before
apart_more : (columns : List ℕ) (col : ℕ) → AreApart columns → has columns col ≡ false → AreApart (columns ++ col ∷ [])
apart_more [] col apart new = (refl, tt)
apart_more (first ∷ columns) col apart new = (
  has-append columns (col ∷ []) first ∙ neither (has columns first) ((col == first) || false) apart.0 (neither (col == first) false (other_way first col (left_false (first == col) (has columns col) new)) refl),
  apart_more columns col apart.1 (right_false (first == col) (has columns col) new),
)

pub one_apart : (columns : List ℕ) (place d : ℕ) → place < length columns → AreApart (take place columns) → has (take place columns) (get_or columns place d) ≡ false → AreApart (take (place + 1) columns)
one_apart columns place d within apart new =
    subst AreApart (sym (take_more columns place d within)) (apart_more (take place columns) (get_or columns place d) apart new)

-- the column at a place is the first that stands among those before it
pub here_again : (columns : List ℕ) (place d : ℕ) → place < length columns → AreApart (take place columns) → has (take place columns) (get_or columns place d) ≡ true → IsFirstAgain columns (get_or columns place d)
here_again columns place d within apart again = record {
  before = take place columns;
  after = drop (suc place) columns;
  place = sym (take-append-drop place columns) ∙ ap (λ (behind : List ℕ). take place columns ++ behind) (drop-cons columns place d within);
  apart = apart;
  again = again;
}

pub no_fault : (columns : List ℕ) (groups : List (List ℕ)) (all : List ℕ) → groups ≢ [] → AllByRecursion (λ col. has columns col ≡ true) (named groups) → all ≡ named groups → AreApart all → find (λ col. not (has all col)) columns ≡ None → AreParts columns groups × AreApart (named groups)
no_fault columns groups all some among same apart none =
    let named_apart : AreApart (named groups) = subst AreApart same apart in
    let P : List ℕ → Type 0 = λ cols. find (λ col. not (has cols col)) columns ≡ None in
    (are_parts columns groups some among named_apart (subst P same none), named_apart)
