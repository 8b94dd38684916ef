-- What a call leaves of a store, and why it fails.
use Rattle.std.specs.Prelude.{◌≡◌, ◌≢◌, ◌≤◌, ℕ, Result, Err, OnErr}
use Rattle.store.specs.declared.fault.StoreFault.{StoreFault}
use Rattle.store.specs.declared.fault.StoreFault.TheVariants.{Refused, Damaged}
use Rattle.store.specs.Fault.{HasRefused}

-- what a call leaves, whatever it answers: a store that is clean now was clean, none of its refusals is forgotten, and a sound one stays sound
pub record LeavesStore {S : Type 0} (is_clean is_sound : S → Type 0) (refused : S → ℕ) (old new : S) : Type 0 where
  pub clean : is_clean new → is_clean old
  pub counts : refused old ≤ refused new
  pub sound : is_clean new → is_sound old → is_sound new

-- something holds where the store is clean as the call ends, and was sound
abbrev pub Soundly : {S : Type 0} → (S → Type 0) → (S → Type 0) → S → S → Type 0 → Type 0
Soundly is_clean is_sound old new P = is_clean new → is_sound old → P

-- a call that reads: nothing has changed; it is refused only where the medium refused, and a sound store has no damaged row
pub record Reads {S C T : Type 0} (is_clean is_sound : S → Type 0) (kept : S → C) (IsUnchanged : C → C → Type 0) (refused : S → ℕ) (old new : S) (result : Result T StoreFault) : Type 0 where
  pub same : is_clean new → is_sound old → IsUnchanged (kept old) (kept new)
  pub refusal : result ≡ Err Refused → HasRefused (refused old) (refused new)
  pub intact : is_clean new → is_sound old → result ≢ Err Damaged

-- a call that changes something, or fails: then nothing has changed; it is refused only where the medium refused, and finds no row damaged
pub record ChangesOrFails {S C T : Type 0} (is_clean is_sound : S → Type 0) (kept : S → C) (IsUnchanged : C → C → Type 0) (refused : S → ℕ) (old new : S) (result : Result T StoreFault) : Type 0 where
  pub err : is_clean new → is_sound old → OnErr result (IsUnchanged (kept old) (kept new))
  pub refusal : result ≡ Err Refused → HasRefused (refused old) (refused new)
  pub intact : result ≢ Err Damaged
