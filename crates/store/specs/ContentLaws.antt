-- What changes make of a content, key by key.
use Rattle.std.specs.Prelude.{◌≡◌, ℤ, List, [], ◌∷◌, true, false, cond, Option, Some, None, IfSome, unwrap_or, refl}
use Rattle.std.proofs.Common.{ap, sym, ◌∙◌, subst}
use Rattle.std.specs.Cmp.{int_cmp_total}
use Rattle.std.specs.FinMap as map
use Rattle.std.specs.Ordering.{eq_by_cmp, int_cmp, is_eq, ordering_then}
use Rattle.std.specs.declared.cmp.Ordering.TheVariants.{Less, Equal, Greater}
use Rattle.terms.specs.declared.leaf.Leaf.{Leaf}
use Rattle.terms.specs.declared.value.Value.{Value}
use Rattle.terms.specs.Leaf.{leaf_cmp}
use Rattle.terms.specs.Row.{key_of}
use Rattle.store.specs.declared.slot.Slot.{Slot}
use Rattle.store.specs.Slot.{slot_of, slot_cmp}
use Rattle.store.specs.Content.{Content, Changes, set_at, with_entries, changed, made_by, put_at, IsKeyed, AreKeyed}

-- what a content that was set at a key has at each
pub get-set_at : (key : ℤ) (part : Option (List Value)) (content : Content) (q : ℤ) → map.get (set_at key part content) q ≡ cond (eq_by_cmp int_cmp q key) part (map.get content q)
get-set_at key None content q = map.get-remove int_cmp_total content key q
get-set_at key (Some part) content q = map.get-insert int_cmp_total content key part q

-- one entry more of the leaf
set_more : (q : ℤ) (entry : Slot × Option (List Value)) (rest content : Content) (found : Option (Option (List Value))) → map.get rest q ≡ unwrap_or found (map.get content q) → map.get (set_at entry.0.key entry.1 rest) q ≡ unwrap_or (cond (is_eq (int_cmp q entry.0.key)) (Some entry.1) found) (map.get content q)
set_more q entry rest content found so_far =
    get-set_at entry.0.key entry.1 rest q
    ∙ elim (is_eq (int_cmp q entry.0.key)) as (λ b. cond b entry.1 (map.get rest q) ≡ unwrap_or (cond b (Some entry.1) found) (map.get content q)) [ true ↦ refl | false ↦ so_far ]

get-with_entries : (leaf : Leaf) (entries : List (Slot × Option (List Value))) (content : Content) (q : ℤ) → map.get (with_entries leaf entries content) q ≡ unwrap_or (map.find slot_cmp (slot_of leaf q) entries) (map.get content q)
get-with_entries leaf [] content q = refl
get-with_entries leaf (entry ∷ entries) content q =
    let rest = with_entries leaf entries content in
    let found = map.find slot_cmp (slot_of leaf q) entries in
    elim (leaf_cmp leaf entry.0.leaf) as (λ r. map.get (cond (is_eq r) (set_at entry.0.key entry.1 rest) rest) q ≡ unwrap_or (cond (is_eq (ordering_then r (int_cmp q entry.0.key))) (Some entry.1) found) (map.get content q)) [
      | Less ↦ get-with_entries leaf entries content q
      | Equal ↦ set_more q entry rest content found (get-with_entries leaf entries content q)
      | Greater ↦ get-with_entries leaf entries content q
    ]

-- at each key there is what the changes say of its slot, else what was there
pub get-changed : (leaf : Leaf) (changes : Changes) (content : Content) (q : ℤ) → map.get (changed leaf changes content) q ≡ unwrap_or (map.get changes (slot_of leaf q)) (map.get content q)
get-changed leaf changes content q =
    get-with_entries leaf (map.entries changes) content q
    ∙ ap (λ found. unwrap_or found (map.get content q)) (sym (map.get-entries changes (slot_of leaf q)))

pub get-made_by : (changes : Changes) (leaf : Leaf) (q : ℤ) → map.get (made_by changes leaf) q ≡ put_at changes (slot_of leaf q)
get-made_by changes leaf q =
    get-changed leaf changes map.empty q
    ∙ ap (λ (none : Option (List Value)). unwrap_or (map.get changes (slot_of leaf q)) none) (map.get-empty int_cmp q)

-- contents with the same at each key are the same
pub same_content : (one other : Content) → ((q : ℤ) → map.get one q ≡ map.get other q) → one ≡ other
same_content one other same = map.same_map int_cmp_total map.int_cmp-IsAntisymmetric one other same

-- changes that put the same parts make the same of nothing
pub same_made : (one other : Changes) → ((slot : Slot) → put_at one slot ≡ put_at other slot) → (leaf : Leaf) → made_by one leaf ≡ made_by other leaf
same_made one other same leaf =
    same_content _ _ (λ q. get-made_by one leaf q ∙ same (slot_of leaf q) ∙ sym (get-made_by other leaf q))

-- changes made over others
pub made_over : (before after changes : Changes) → ((slot : Slot) → put_at after slot ≡ unwrap_or (map.get changes slot) (put_at before slot)) → (leaf : Leaf) → made_by after leaf ≡ changed leaf changes (made_by before leaf)
made_over before after changes over leaf =
    same_content _ _ (λ q.
    get-made_by after leaf q ∙ over (slot_of leaf q)
    ∙ ap (unwrap_or (map.get changes (slot_of leaf q))) (sym (get-made_by before leaf q))
    ∙ sym (get-changed leaf changes (made_by before leaf) q))

keyed_at : (changes : Changes) → AreKeyed changes → (slot : Slot) (found : Option (Option (List Value))) → map.get changes slot ≡ found → IfSome (unwrap_or found None) (λ part. key_of part ≡ slot.key)
keyed_at changes keyed slot None is = tt
keyed_at changes keyed slot (Some None) is = tt
keyed_at changes keyed slot (Some (Some part)) is = keyed slot part is

-- what changes make has each part under its key
pub IsKeyed-made_by : (changes : Changes) → AreKeyed changes → (leaf : Leaf) → IsKeyed (made_by changes leaf)
IsKeyed-made_by changes keyed leaf key =
    subst (λ (found : Option (List Value)). IfSome found (λ part. key_of part ≡ key)) (sym (get-made_by changes leaf key)) (keyed_at changes keyed (slot_of leaf key) _ refl)
