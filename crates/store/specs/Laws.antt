-- What holds of contents and changes, whatever keeps them.
use Rattle.std.specs.Prelude.{◌≡◌, ℤ, true, false, ◌||◌, List, Option, if◌then◌else◌, unwrap_or, option_to_list}
use Rattle.std.specs.FinMap as map
use Rattle.std.specs.List.{filter}
use Rattle.terms.specs.declared.cond.Cond.{Cond}
use Rattle.terms.specs.declared.leaf.Leaf.{Leaf}
use Rattle.terms.specs.declared.value.Value.{Value}
use Rattle.terms.specs.Cond.{conds_hold}
use Rattle.terms.specs.Row.{key_of}
use Rattle.store.specs.declared.slot.Slot.{Slot}
use Rattle.store.specs.Slot.{slot_of}
use Rattle.store.specs.Content.{Content, Changes, AreKeyed, IsKeyed, changed, is_of, parts, set_at, touches}

-- no changes change nothing, and touch no leaf
abbrev pub NothingChanges : Type 0
NothingChanges = (leaf : Leaf) (content : Content) → (changed leaf map.empty content ≡ content) × (touches leaf map.empty ≡ false)

-- one change more changes its leaf alone, and comes last
abbrev pub OneChangeMore : Type 0
OneChangeMore = (leaf : Leaf) (slot : Slot) (part : Option (List Value)) (changes : Changes) (content : Content) →
    changed leaf (map.insert changes slot part) content ≡ (if is_of leaf slot then set_at slot.key part (changed leaf changes content) else changed leaf changes content)

-- and touches its leaf alone
abbrev pub OneTouchMore : Type 0
OneTouchMore = (leaf : Leaf) (slot : Slot) (part : Option (List Value)) (changes : Changes) → touches leaf (map.insert changes slot part) ≡ (is_of leaf slot || touches leaf changes)

-- conditions that hold of no part but one of this key
abbrev pub AskKey : List Cond → ℤ → Type 0
AskKey conds key = (part : List Value) → conds_hold conds part ≡ true → key_of part ≡ key

-- what such conditions find in a changed content is found by the key alone
abbrev pub OneKeySuffices : Type 0
OneKeySuffices = (leaf : Leaf) (changes : Changes) (content : Content) (conds : List Cond) (key : ℤ) → AreKeyed changes → IsKeyed content → AskKey conds key →
    parts conds (changed leaf changes content) ≡ filter (conds_hold conds) (option_to_list (unwrap_or (map.get changes (slot_of leaf key)) (map.get content key)))
