-- The columns that groups name, by the answers of the calls that look for them.
use Rattle.std.proofs.Common.{◌≡◌, ℕ, Bool, true, false, not, ◌==◌, ◌||◌, if◌then◌else◌, List, [], ◌∷◌, ◌++◌, Option, Some, None, option_and_then, option_map, refl, sym, subst, ◌∙◌}
use Rattle.std.specs.List.{AllByRecursion}
use Rattle.std.proofs.lemmas.Bool.{eq-eqb}
use Rattle.catalog.proofs.ColumnParts.{in_one, not_behind}
use Rattle.reader.specs.Names.{all_of}
use Rattle.toml.specs.Data.{Data}
use Rattle.catalog.specs.Counts.{has, how_many}
use Rattle.catalog.specs.Describes.{Frame, AreNamedIn, named_in, place_within, column_numbered, only_if}
use Rattle.catalog.specs.Parts.{named, AreApart, IsFirstAgain, first_lost}
use Rattle.catalog.proofs.Refusals.{refuses_also, refuses_text_rule}
use Rattle.catalog.specs.Refuses.{RefusesGroup, RefusesNames, RefusesNamed, RefusesParts, is_of_text}
use Rattle.catalog.specs.Valid.{AreParts}
use Rattle.catalog.specs.declared.fault.Rule.{Rule}

-- ---- places are among the columns around

among : (is_one : Bool) (place found : ℕ) → only_if is_one place ≡ Some found → (place ≡ found) × (is_one ≡ true)
among true place found is = (cc, refl)
among false place found is = absurd cc

place_among : (within : List ℕ) (o : Option ℕ) (place : ℕ) → option_and_then (λ p. only_if (has within p) p) o ≡ Some place → has within place ≡ true
place_among within None place is = absurd cc
place_among within (Some p) place is =
    let both = among (has within p) p place is in
    let P : ℕ → Type 0 = λ q. has within q ≡ true in subst P both.0 both.1

-- a first answer and the others
pub both_answers : {C : Type 0} (first : Option C) (rest : Option (List C)) (ys : List C) → option_and_then (λ z. option_map (λ zs. z ∷ zs) rest) first ≡ Some ys → (z : C) × (zs : List C) × (first ≡ Some z) × (rest ≡ Some zs) × (ys ≡ z ∷ zs)
both_answers None rest ys is = absurd cc
both_answers (Some z) None ys is = absurd cc
both_answers (Some z) (Some zs) ys is = (z, zs, refl, refl, cc)

places_among : (frame : Frame) (within : List ℕ) (names : List (List ℕ)) (places : List ℕ) → all_of (place_within frame within) names ≡ Some places → AllByRecursion (λ p. has within p ≡ true) places
places_among frame within [] places is = let none : [] ≡ places = cc in let P : List ℕ → Type 0 = AllByRecursion (λ p. has within p ≡ true) in subst P none tt
places_among frame within (name ∷ names) places is =
    let both = both_answers (place_within frame within name) (all_of (place_within frame within) names) places is in
    let P : List ℕ → Type 0 = AllByRecursion (λ p. has within p ≡ true) in
    subst P (sym both.4) (place_among within (column_numbered frame.columns name) both.0 both.2, places_among frame within names both.1 both.3)

group_among : (frame : Frame) (within : List ℕ) (found : Option (List (List ℕ))) (places : List ℕ) → option_and_then (λ names. all_of (place_within frame within) names) found ≡ Some places → AllByRecursion (λ p. has within p ≡ true) places
group_among frame within None places is = absurd cc
group_among frame within (Some names) places is = places_among frame within names places is

all_both : (P : ℕ → Type 0) (xs ys : List ℕ) → AllByRecursion P xs → AllByRecursion P ys → AllByRecursion P (xs ++ ys)
all_both P [] ys front back = back
all_both P (x ∷ xs) ys front back = (front.0, all_both P xs ys front.1 back)

pub groups_among : (frame : Frame) (within : List ℕ) (nodes : List Data) (groups : List (List ℕ)) → all_of (named_in frame within) nodes ≡ Some groups → AllByRecursion (λ p. has within p ≡ true) (named groups)
groups_among frame within [] groups is = let none : [] ≡ groups = cc in let P : List (List ℕ) → Type 0 = λ gs. AllByRecursion (λ p. has within p ≡ true) (named gs) in subst P none tt
groups_among frame within (node ∷ nodes) groups is =
    let both = both_answers (named_in frame within node) (all_of (named_in frame within) nodes) groups is in
    let P : List (List ℕ) → Type 0 = λ gs. AllByRecursion (λ p. has within p ≡ true) (named gs) in
    subst P (sym both.4) (all_both (λ p. has within p ≡ true) both.0 (named both.1) (group_among frame within _ both.0 both.2) (groups_among frame within nodes both.1 both.3))

-- ---- a column that stands twice, or in no group

-- a column before which the same stands
itself : (col : ℕ) (after : List ℕ) → has (col ∷ after) col ≡ false → ⊥
itself col after none = let same : (col == col) ≡ true = eq-eqb col col refl in cc

pub again_not_apart : (columns : List ℕ) (col : ℕ) → IsFirstAgain columns col → AreApart columns → ⊥
again_not_apart columns col first apart =
    let P : List ℕ → Type 0 = AreApart in
    itself col first.after (not_behind first.before (col ∷ first.after) col (subst P first.place apart) first.again)

-- the column that a search finds passes its test and is there
lost_is : (groups : List (List ℕ)) (columns : List ℕ) (col : ℕ) → first_lost columns groups ≡ Some col → (has columns col ≡ true) × (has (named groups) col ≡ false)
lost_is groups [] col found = absurd cc
lost_is groups (first ∷ columns) col found =
    elim (has (named groups) first) as (λ b. has (named groups) first ≡ b → (if not b then Some first else first_lost columns groups) ≡ Some col → (has (first ∷ columns) col ≡ true) × (has (named groups) col ≡ false)) [
      | true ↦ λ is later. let rest = lost_is groups columns col later in (rw rest.0 (or_true (first == col)), rest.1)
      | false ↦ λ is here. let same : first ≡ col = cc in let P : ℕ → Type 0 = λ c. has (named groups) c ≡ false in (rw (eq-eqb first col same) refl, subst P same is)
    ] refl found
  where
    or_true : (b : Bool) → (b || true) ≡ true
    or_true true = refl
    or_true false = refl

lost_not_parts : (within : List ℕ) (groups : List (List ℕ)) (col : ℕ) → first_lost within groups ≡ Some col → AreParts within groups → AreApart (named groups) → ⊥
lost_not_parts within groups col found parts apart =
    let lost = lost_is groups within col found in
    let none = in_one groups col apart in
    let one = parts.each_once col in counts (has (named groups) col) (has within col) (how_many (λ group. has group col) groups) lost.1 lost.0 none one
  where
    counts : (named_there there : Bool) (count : ℕ) → named_there ≡ false → there ≡ true → count ≡ (if named_there then 1 else 0) → count ≡ (if there then 1 else 0) → ⊥
    counts named_there there count lacks has_it zero one = cc

pub refuses_twice : (within : List ℕ) (groups : List (List ℕ)) (col : ℕ) → IsFirstAgain (named groups) col → AreParts within groups → AreApart (named groups) → ⊥
refuses_twice within groups col first parts apart = again_not_apart (named groups) col first apart

pub refuses_lost : (within : List ℕ) (groups : List (List ℕ)) (col : ℕ) → first_lost within groups ≡ Some col → AreParts within groups → AreApart (named groups) → ⊥
refuses_lost within groups col found parts apart = lost_not_parts within groups col found parts apart

-- ---- refusals

-- a group is refused by a rule of the text, where it names no columns among those around
pub refuses_group : (frame : Frame) (within : List ℕ) (node : Data) (rule : Rule) → is_of_text rule ≡ true → named_in frame within node ≡ None → RefusesGroup frame within node rule
refuses_group frame within node rule is none = refuses_text_rule (named_in frame within node ≡ None) rule is none

-- all are refused where one is
pub refuses_groups : (frame : Frame) (within : List ℕ) (nodes : List Data) (node : Data) (rule : Rule) → RefusesGroup frame within node rule →
    (named_in frame within node ≡ None → all_of (named_in frame within) nodes ≡ None) → RefusesNames frame within nodes rule
refuses_groups frame within nodes node rule refused spreads =
    refuses_also ⊥ (named_in frame within node ≡ None) (all_of (named_in frame within) nodes ≡ None) rule spreads refused

-- no names, no columns
unnamed : (frame : Frame) (within : List ℕ) (nodes : List Data) → all_of (named_in frame within) nodes ≡ None → (groups : List (List ℕ)) → AreNamedIn frame within nodes groups → ⊥
unnamed frame within nodes none groups are = let found = are.names in cc

pub refuses_named : (frame : Frame) (within : List ℕ) (nodes : List Data) (rule : Rule) → RefusesNames frame within nodes rule → RefusesNamed frame within nodes rule
refuses_named frame within nodes rule refused =
    refuses_also ⊥ (all_of (named_in frame within) nodes ≡ None) ((groups : List (List ℕ)) → AreNamedIn frame within nodes groups → ⊥) rule (unnamed frame within nodes) refused

-- the groups that were found are no parts
no_parts : (frame : Frame) (within : List ℕ) (nodes : List Data) (found : List (List ℕ)) → all_of (named_in frame within) nodes ≡ Some found → (AreParts within found → AreApart (named found) → ⊥) →
    (groups : List (List ℕ)) → AreNamedIn frame within nodes groups → ⊥
no_parts frame within nodes found names none groups are =
    let same : groups ≡ found = some_same groups found (sym are.names ∙ names) in
    let P : List (List ℕ) → Type 0 = AreParts within in
    let Q : List (List ℕ) → Type 0 = λ gs. AreApart (named gs) in none (subst P same are.parts) (subst Q same are.apart)
  where
    some_same : (s t : List (List ℕ)) → Some s ≡ Some t → s ≡ t
    some_same s t e = cc

pub refuses_parts : (frame : Frame) (within : List ℕ) (nodes : List Data) (found : List (List ℕ)) (rule : Rule) → all_of (named_in frame within) nodes ≡ Some found → RefusesParts within found rule → RefusesNamed frame within nodes rule
refuses_parts frame within nodes found rule names refused =
    refuses_also ⊥ (AreParts within found → AreApart (named found) → ⊥) ((groups : List (List ℕ)) → AreNamedIn frame within nodes groups → ⊥) rule (no_parts frame within nodes found names) refused
