-- Each part that changes put has the key of its slot, and what the lists' words say of changes.
use Rattle.std.proofs.Common.{◌≡◌, List, [], cond, Option, Some, None, unwrap_or, refl, ap, sym, ◌∙◌}
use Rattle.std.specs.BTreeMap.{is_at}
use Rattle.std.specs.FinMap as fin
use Rattle.std.specs.Ordering.{is_eq}
use Rattle.std.specs.declared.cmp.Ordering.TheVariants.{Less, Equal, Greater}
use Rattle.terms.specs.declared.value.Value.{Value}
use Rattle.terms.specs.Row.{key_of}
use Rattle.store.specs.declared.slot.Slot.{Slot}
use Rattle.store.specs.Slot.{slot_cmp}
use Rattle.store.specs.Orders.{slot_cmp_total, slot_cmp-IsAntisymmetric}
use Rattle.store.specs.Content.{Changes, AreKeyed, put_at}
use Rattle.store.specs.Entries.{Entries, entry_at, part_at}
use Rattle.store.proofs.Views.{get_view}

abbrev pub view : Entries → Changes
view entries = fin.from_entries entries

pub get_entry : (entries : Entries) (q : Slot) → fin.get (view entries) q ≡ entry_at entries q
get_entry entries q = get_view slot_cmp_total entries q

-- the part that is put, by the lists' word
pub put_part : (entries : Entries) (q : Slot) → put_at (view entries) q ≡ part_at entries q
put_part entries q = ap (λ found. unwrap_or found None) (get_entry entries q)

-- no changes put no part
pub keyed_none : (entries : Entries) → entries ≡ [] → AreKeyed (view entries)
keyed_none entries none slot part is =
    let gone : Some (Some part) ≡ None = sym is ∙ get_entry entries slot ∙ ap (λ es. entry_at es slot) none in cc

-- one change more, of a part with its slot's key
pub keyed_more : (old new : Entries) (slot : Slot) (part : Option (List Value)) → AreKeyed (view old) → ((p : List Value) → part ≡ Some p → key_of p ≡ slot.key) → ((q : Slot) → entry_at new q ≡ cond (is_at (slot_cmp slot) q) (Some part) (entry_at old q)) → AreKeyed (view new)
keyed_more old new slot part keyed here updates q p is =
    let found : entry_at new q ≡ Some (Some p) = sym (get_entry new q) ∙ is in
    elim (slot_cmp slot q) as (λ r. slot_cmp slot q ≡ r → cond (is_eq r) (Some part) (entry_at old q) ≡ Some (Some p) → key_of p ≡ q.key) [
      | Less ↦ λ apart there. keyed q p (get_entry old q ∙ there)
      | Equal ↦ λ tie there. here p (ap (λ o. unwrap_or o None) there) ∙ ap (λ (s : Slot). s.key) (slot_cmp-IsAntisymmetric slot q tie)
      | Greater ↦ λ apart there. keyed q p (get_entry old q ∙ there)
    ] refl (sym (updates q) ∙ found)

-- parts that are put at the same slots
pub keyed_same : (old new : Entries) → AreKeyed (view old) → ((q : Slot) → part_at new q ≡ part_at old q) → AreKeyed (view new)
keyed_same old new keyed same q p is =
    keyed_found _ (get_entry old q) (sym (same q) ∙ ap (λ found. unwrap_or found None) (sym (get_entry new q) ∙ is))
  where
    keyed_found : (found : Option (Option (List Value))) → fin.get (view old) q ≡ found → unwrap_or found None ≡ Some p → key_of p ≡ q.key
    keyed_found None at is = cc
    keyed_found (Some None) at is = cc
    keyed_found (Some (Some other)) at is = keyed q p (at ∙ ap Some is)

-- parts that are put over others
pub keyed_over : (old changes new : Entries) → AreKeyed (view old) → AreKeyed (view changes) → ((q : Slot) → part_at new q ≡ unwrap_or (entry_at changes q) (part_at old q)) → AreKeyed (view new)
keyed_over old changes new keyed changes_keyed over q p is =
    here _ (get_entry changes q) (sym (over q) ∙ ap (λ found. unwrap_or found None) (sym (get_entry new q) ∙ is))
  where
    before : (found : Option (Option (List Value))) → fin.get (view old) q ≡ found → unwrap_or found None ≡ Some p → key_of p ≡ q.key
    before None at is = cc
    before (Some None) at is = cc
    before (Some (Some other)) at is = keyed q p (at ∙ ap Some is)

    here : (found : Option (Option (List Value))) → fin.get (view changes) q ≡ found → unwrap_or found (part_at old q) ≡ Some p → key_of p ≡ q.key
    here None at is = before _ (get_entry old q) is
    here (Some None) at is = cc
    here (Some (Some other)) at is = changes_keyed q p (at ∙ ap Some is)
