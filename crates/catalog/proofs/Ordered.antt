-- Groups in the order of the columns around them have the columns that the groups name.
use Rattle.std.proofs.Common.{◌≡◌, ◌≢◌, ◌==◌, ◌&&◌, ◌||◌, ℕ, suc, Bool, true, false, cond, List, [], ◌∷◌, Option, Some, None, length, map, option_map, refl, sym, ap, ap₂, ◌∙◌, subst}
use Rattle.std.specs.Prelude.{option_and_then}
use Rattle.std.proofs.lemmas.Bool.{eqb-true}
use Rattle.terms.specs.declared.cond.Cond.{Cond}
use Rattle.terms.specs.declared.value.Kind.{Kind}
use Rattle.catalog.specs.Counts.{has, how_many}
use Rattle.reader.specs.Names.{all_of}
use Rattle.catalog.specs.Describes.{in_order}
use Rattle.catalog.specs.Path.{group_columns}
use Rattle.catalog.specs.Split.{ByCols, Groups}
use Rattle.catalog.specs.Valid.{AreParts, IsValidWithin, AreValidGroups}

kept : (here behind there : Bool) → (here ≡ true → there ≡ true) → (here || (behind && there)) ≡ ((here || behind) && there)
kept true behind there is = sym (is refl)
kept false behind there is = refl

and_false : (a : Bool) → (a && false) ≡ false
and_false true = refl
and_false false = refl

left_out : (here behind there : Bool) → (here ≡ true → there ≡ false) → (behind && there) ≡ ((here || behind) && there)
left_out true behind there is = ap (λ (b : Bool). behind && b) (is refl) ∙ and_false behind ∙ sym (is refl)
left_out false behind there is = refl

has_in_order : (within group : List ℕ) (col : ℕ) → has (in_order within group) col ≡ (has within col && has group col)
has_in_order [] group col = refl
has_in_order (first ∷ within) group col =
    elim (has group first) as (λ b. has group first ≡ b → has (cond b (first ∷ in_order within group) (in_order within group)) col ≡ (((first == col) || has within col) && has group col)) [
      | true ↦ λ is. ap (λ (b : Bool). (first == col) || b) (has_in_order within group col)
          ∙ kept (first == col) (has within col) (has group col) (λ here. subst (λ (c : ℕ). has group c ≡ true) (eqb-true first col here) is)
      | false ↦ λ is. has_in_order within group col
          ∙ left_out (first == col) (has within col) (has group col) (λ here. subst (λ (c : ℕ). has group c ≡ false) (eqb-true first col here) is)
    ] refl

count_inside : (within : List ℕ) (col : ℕ) → has within col ≡ true → (named : List (List ℕ)) →
    how_many (λ group. has group col) (map (in_order within) named) ≡ how_many (λ group. has group col) named
count_inside within col inside [] = refl
count_inside within col inside (group ∷ named) =
    ap₂ (λ (b : Bool) (n : ℕ). cond b (suc n) n) (has_in_order within group col ∙ ap (λ (b : Bool). b && has group col) inside) (count_inside within col inside named)

count_outside : (within : List ℕ) (col : ℕ) → has within col ≡ false → (named : List (List ℕ)) → how_many (λ group. has group col) (map (in_order within) named) ≡ 0
count_outside within col outside [] = refl
count_outside within col outside (group ∷ named) =
    ap₂ (λ (b : Bool) (n : ℕ). cond b (suc n) n) (has_in_order within group col ∙ ap (λ (b : Bool). b && has group col) outside) (count_outside within col outside named)

some_in_order : (within : List ℕ) (named : List (List ℕ)) → named ≢ [] → map (in_order within) named ≢ []
some_in_order within [] some none = some refl
some_in_order within (group ∷ named) some none = cc

parts_in_order : (within : List ℕ) (named : List (List ℕ)) → AreParts within named → AreParts within (map (in_order within) named)
parts_in_order within named parts = record {
  some = some_in_order within named parts.some;
  each_once = λ col.
      elim (has within col) as (λ b. has within col ≡ b → how_many (λ group. has group col) (map (in_order within) named) ≡ cond b 1 0) [
        | true ↦ λ is. count_inside within col is named ∙ parts.each_once col ∙ ap (λ (b : Bool). cond b 1 0) is
        | false ↦ λ is. count_outside within col is named
      ] refl;
}

pub cols_valid : (kinds : List Kind) (way : List Cond) (within : List ℕ) (named found : List (List ℕ)) (groups : Groups) → named ≡ found → AreParts within found →
    group_columns groups ≡ map (in_order within) named → AreValidGroups kinds way groups → IsValidWithin kinds way within (ByCols groups)
cols_valid kinds way within named found groups is parts columns valid =
    let P : List (List ℕ) → Type 0 = λ all. AreParts within all in
    (subst P (sym (columns ∙ ap (map (in_order within)) is)) (parts_in_order within found parts), valid)

-- as many answers as items
pub all_length : {A B : Type 0} (answer : A → Option B) (xs : List A) (ys : List B) → all_of answer xs ≡ Some ys → length ys ≡ length xs
all_length answer [] ys is = ap length (some_same ys [] is)
  where
    some_same : {C : Type 0} (a b : List C) → Some b ≡ Some a → a ≡ b
    some_same a b e = cc
all_length {A} {B} answer (x ∷ xs) ys is =
    elim (answer x) as (λ a. option_and_then (λ y. option_map (λ rest. y ∷ rest) (all_of answer xs)) a ≡ Some ys → length ys ≡ suc (length xs)) [
      | None ↦ λ e. cc
      | Some y ↦ λ e.
          elim (all_of answer xs) as (λ r. all_of answer xs ≡ r → option_map (λ rest. y ∷ rest) r ≡ Some ys → length ys ≡ suc (length xs)) [
            | None ↦ λ h k. cc
            | Some rest ↦ λ h k. let same : ys ≡ y ∷ rest = cc in ap length same ∙ ap suc (all_length answer xs rest h)
          ] refl e
    ] is
