-- What was told, under numbers that ascend.
use Rattle.std.proofs.Common.{◌≡◌, ◌<◌, ◌-◌, ◌+◌, ◌++◌, ℕ, Bool, true, false, nat_le, Some, List, [], ◌∷◌, length, get_or, slice_get, refl, sym, subst, arith}
use Rattle.std.proofs.lemmas.Bool.{leb-false, leb-true}
use Rattle.std.proofs.lemmas.List.Quantifiers.{all_pairs_push}
use Rattle.std.proofs.lemmas.Option.{get_or_from_slice_get}
use Rattle.history.specs.declared.told.Told.{Told}
use Rattle.desk.specs.declared.reply.Reply.{Reply}
use Rattle.wire.specs.Session.{AddsTold, Ascends, IsAbove}

-- a number above the last one is above the one at a place
above_at : (told : List Told) (number : ℕ) (d : Told) (k : ℕ) → Ascends told → k < length told → (get_or told (length told - 1) d).number < number → (b : Bool) → nat_le (length told) (k + 1) ≡ b → (get_or told k d).number < number
above_at told number d k ascends within top true e =
    let here : k ≡ length told - 1 = let le = leb-true (length told) (k + 1) e in omega (arith, le, within) in
    subst (λ n. (get_or told n d).number < number) (sym here) top
above_at told number d k ascends within top false e =
    let lt = leb-false (length told) (k + 1) e in
    let below = ascends k (length told - 1) d (omega (arith, lt)) (omega (arith, lt)) in
    omega (arith, below, top)

-- a number above the last one is above all
pub above_last : (told : List Told) (last : Told) (number : ℕ) → slice_get told (length told - 1) ≡ Some last → last.number < number → Ascends told → IsAbove number told
above_last told last number at below ascends k d within =
    above_at told number d k ascends within (subst (λ (one : Told). one.number < number) (sym (get_or_from_slice_get told (length told - 1) last d at)) below) (nat_le (length told) (k + 1)) refl

-- with one more above all others they ascend
pub ascends_more : (told : List Told) (one : Told) → Ascends told → IsAbove one.number told → Ascends (told ++ one ∷ [])
ascends_more told one ascends above = all_pairs_push (λ (some other : Told). some.number < other.number) told one ascends above

-- one thing more was told
pub adds_told : (old new : List Told) (number : ℕ) (text : List ℕ) (reply given : Reply) → new ≡ old ++ record { number = number; text = text; reply = reply } ∷ [] → given ≡ reply → IsAbove number old → AddsTold old text given new
adds_told old new number text reply given is same above = record { told = record { number = number; text = text; reply = reply }; new_is = is; text_is = refl; reply_is = sym same; above = above }
