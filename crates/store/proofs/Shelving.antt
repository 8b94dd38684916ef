-- What one leaf's shelf makes of all of them.
use Rattle.std.proofs.Common.{◌≡◌, ℤ, List, true, false, cond, Option, Some, None, IsSome, is_some, unwrap_or, refl, ap, sym, ◌∙◌}
use Rattle.std.specs.BTreeMap.{BTreeMap, is_at}
use Rattle.std.specs.Map.{lookup}
use Rattle.std.specs.Option.{option_map}
use Rattle.std.specs.Ordering.{int_cmp, is_eq, ordering_then}
use Rattle.std.specs.declared.cmp.Ordering.TheVariants.{Less, Equal, Greater}
use Rattle.terms.specs.declared.leaf.Leaf.{Leaf}
use Rattle.terms.specs.declared.value.Value.{Value}
use Rattle.terms.specs.Leaf.{leaf_cmp}
use Rattle.store.specs.declared.slot.Slot.{Slot}
use Rattle.store.specs.Slot.{slot_of, slot_cmp}
use Rattle.store.specs.Orders.{leaf_cmp-IsAntisymmetric}
use Rattle.store.specs.Shelves.{Shelves, entries_on, shelf_at, key_at, place_at, part_on}

-- the part of an entry that stands where a part was put
pub filled_part : (part : Option (List Value)) → unwrap_or (option_map (λ p. Some p) part) None ≡ part
filled_part None = refl
filled_part (Some part) = refl

-- a leaf's shelf is another, and other leaves keep theirs
module _ (old new : Shelves) (leaf : Leaf) (shelf : BTreeMap ℤ (Option (List Value)))
    (updates : (l : Leaf) → lookup (is_at (leaf_cmp l)) new ≡ cond (is_at (leaf_cmp leaf) l) (Some shelf) (lookup (is_at (leaf_cmp l)) old)) where
  shelf_is : (l : Leaf) → shelf_at new l ≡ cond (is_at (leaf_cmp leaf) l) shelf.entries (shelf_at old l)
  shelf_is l = ap entries_on (updates l) ∙ elim (is_at (leaf_cmp leaf) l) as (λ b. entries_on (cond b (Some shelf) (lookup (is_at (leaf_cmp l)) old)) ≡ cond b shelf.entries (shelf_at old l)) [ true ↦ refl | false ↦ refl ]

  -- the parts stay where those of the leaf do
  pub shelf_keeps : ((k : ℤ) → unwrap_or (key_at shelf.entries k) None ≡ unwrap_or (key_at (shelf_at old leaf) k) None) → (q : Slot) → part_on new q ≡ part_on old q
  shelf_keeps same q =
      ap (λ s. unwrap_or (key_at s q.key) None) (shelf_is q.leaf)
      ∙ elim (leaf_cmp leaf q.leaf) as (λ r. leaf_cmp leaf q.leaf ≡ r → unwrap_or (key_at (cond (is_eq r) shelf.entries (shelf_at old q.leaf)) q.key) None ≡ part_on old q) [
        | Less ↦ λ is. refl
        | Equal ↦ λ tie. same q.key ∙ ap (λ l. unwrap_or (key_at (shelf_at old l) q.key) None) (leaf_cmp-IsAntisymmetric leaf q.leaf tie)
        | Greater ↦ λ is. refl
      ] refl

  -- no entry goes where none of the leaf does
  pub shelf_grows : ((k : ℤ) → IsSome (key_at (shelf_at old leaf) k) → IsSome (key_at shelf.entries k)) → (q : Slot) → IsSome (place_at old q) → IsSome (place_at new q)
  shelf_grows grows q there =
      ap (λ s. is_some (key_at s q.key)) (shelf_is q.leaf)
      ∙ elim (leaf_cmp leaf q.leaf) as (λ r. leaf_cmp leaf q.leaf ≡ r → is_some (key_at (cond (is_eq r) shelf.entries (shelf_at old q.leaf)) q.key) ≡ true) [
        | Less ↦ λ is. there
        | Equal ↦ λ tie. grows q.key (ap (λ l. is_some (key_at (shelf_at old l) q.key)) (leaf_cmp-IsAntisymmetric leaf q.leaf tie) ∙ there)
        | Greater ↦ λ is. there
      ] refl

  -- one entry of the leaf is another
  pub shelf_filled : (key : ℤ) (found : Option (Option (List Value))) → ((k : ℤ) → key_at shelf.entries k ≡ cond (is_at (int_cmp key) k) found (key_at (shelf_at old leaf) k)) → (q : Slot) → place_at new q ≡ cond (is_at (slot_cmp (slot_of leaf key)) q) found (place_at old q)
  shelf_filled key found entries q =
      ap (λ s. key_at s q.key) (shelf_is q.leaf)
      ∙ elim (leaf_cmp leaf q.leaf) as (λ r. leaf_cmp leaf q.leaf ≡ r → key_at (cond (is_eq r) shelf.entries (shelf_at old q.leaf)) q.key ≡ cond (is_eq (ordering_then r (int_cmp key q.key))) found (place_at old q)) [
        | Less ↦ λ is. refl
        | Equal ↦ λ tie. entries q.key ∙ ap (λ l. cond (is_at (int_cmp key) q.key) found (key_at (shelf_at old l) q.key)) (leaf_cmp-IsAntisymmetric leaf q.leaf tie)
        | Greater ↦ λ is. refl
      ] refl

-- where a leaf has no shelf, nothing stands at its slots
pub none_there : (shelves : Shelves) (leaf : Leaf) (q : Slot) → lookup (is_at (leaf_cmp leaf)) shelves ≡ None → leaf_cmp leaf q.leaf ≡ Equal → place_at shelves q ≡ None
none_there shelves leaf q none tie = ap (λ l. key_at (shelf_at shelves l) q.key) (sym (leaf_cmp-IsAntisymmetric leaf q.leaf tie)) ∙ ap (λ o. key_at (entries_on o) q.key) none

-- and nothing is to be put there
pub none_filled : (shelves : Shelves) (slot : Slot) (part : Option (List Value)) → lookup (is_at (leaf_cmp slot.leaf)) shelves ≡ None → (IsSome part → IsSome (place_at shelves slot)) → (q : Slot) → place_at shelves q ≡ cond (is_at (slot_cmp slot) q) (option_map (λ p. Some p) part) (place_at shelves q)
none_filled shelves slot None none room q =
    elim (leaf_cmp slot.leaf q.leaf) as (λ r. leaf_cmp slot.leaf q.leaf ≡ r → place_at shelves q ≡ cond (is_eq (ordering_then r (int_cmp slot.key q.key))) None (place_at shelves q)) [
      | Less ↦ λ is. refl
      | Equal ↦ λ tie. elim (is_eq (int_cmp slot.key q.key)) as (λ b. place_at shelves q ≡ cond b None (place_at shelves q)) [ true ↦ none_there shelves slot.leaf q none tie | false ↦ refl ]
      | Greater ↦ λ is. refl
    ] refl
none_filled shelves slot (Some part) none room q =
    let some : is_some (place_at shelves slot) ≡ true = room refl in
    let gone : place_at shelves slot ≡ None = ap (λ o. key_at (entries_on o) slot.key) none in
    let clash : true ≡ false = sym some ∙ ap is_some gone in
    cc

-- one entry more, by the parts and by the other entries
module _ (before after : Shelves) (slot : Slot) (part : Option (List Value))
    (places : (q : Slot) → place_at after q ≡ cond (is_at (slot_cmp slot) q) (option_map (λ p. Some p) part) (place_at before q)) where
  pub filled_parts : (q : Slot) → part_on after q ≡ cond (is_at (slot_cmp slot) q) part (part_on before q)
  filled_parts q =
      ap (λ o. unwrap_or o None) (places q)
      ∙ elim (is_at (slot_cmp slot) q) as (λ b. unwrap_or (cond b (option_map (λ p. Some p) part) (place_at before q)) None ≡ cond b part (part_on before q)) [ true ↦ filled_part part | false ↦ refl ]

  pub filled_others : (q : Slot) → is_at (slot_cmp slot) q ≡ false → place_at after q ≡ place_at before q
  filled_others q apart = places q ∙ ap (λ b. cond b (option_map (λ p. Some p) part) (place_at before q)) apart
