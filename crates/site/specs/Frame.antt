-- What a call leaves of a site, and how it fails.
use Rattle.std.specs.Prelude.{◌≡◌, ◌≢◌, ◌⊎◌, ◌≤◌, ◌+◌, ◌^◌, ℕ, Bool, true, false, List, Option, Result, Err, IfOk, OnOk, OnErr}
use Rattle.terms.specs.declared.leaf.Leaf.{Leaf}
use Rattle.store.specs.declared.fault.StoreFault.{StoreFault}
use Rattle.store.specs.declared.fault.StoreFault.TheVariants as store_faults
use Rattle.store.specs.declared.letter.Letter.{Letter}
use Rattle.store.specs.declared.reply.Reply.{Reply}
use Rattle.store.specs.Fault.{HasRefused}
use Rattle.store.specs.Frame.{LeavesStore}
use Rattle.store.specs.SiteContent.{SiteContent, IsUnchanged, BeginsLife}
use Rattle.protocol.specs.Local.{local}
use Rattle.protocol.specs.Site.{Act}
use Rattle.site.specs.declared.fault.SiteFault.{SiteFault}
use Rattle.site.specs.declared.fault.SiteFault.TheVariants.{Memory, Store, Full, Stranger}
use Rattle.site.specs.declared.volatile.Volatile.{Volatile}
use Rattle.site.specs.Refusals.{AsksElsewhere, AsksBeyond, AsksStore}
use Rattle.site.specs.Locks.{leaves_in}
use Rattle.site.specs.Recovery.{Begins, Restarts, IsStrange}
use Rattle.site.specs.State.{AreHad, Fits, Steps, volatile_of}

-- what a call leaves of what is in memory, whatever it answers: the site's name, and its leaves
pub record LeavesVolatile (old new : Volatile) : Type 0 where
  pub name : new.name ≡ old.name
  pub leaves : leaves_in new.locks.items ≡ leaves_in old.locks.items

-- a call that changes what is in memory, or fails: then nothing has changed there
pub record ChangesVolatile {T E : Type 0} (old new : Volatile) (result : Result T E) : Type 0 where
  pub volatile : LeavesVolatile old new
  pub err : OnErr result (volatile_of new ≡ volatile_of old)

-- which letters a site doesn't take, want of memory aside: one for another site, or for a leaf that it doesn't have, and one that leads past a limit; a fault of the store is told only of one whose step calls the store
pub record TurnsAway {T : Type 0} (before : Volatile) (letter : Letter) (result : Result T SiteFault) : Type 0 where
  pub stranger : letter.site ≢ before.name → result ≡ Err Stranger
  pub turned_away : AsksElsewhere before.locks.items letter.body → result ≡ Err Stranger
  pub elsewhere : result ≡ Err Stranger → (letter.site ≢ before.name) ⊎ AsksElsewhere before.locks.items letter.body
  pub full_at : result ≡ Err Full → AsksBeyond (volatile_of before) letter.body
  pub beyond : AsksBeyond (volatile_of before) letter.body → (result ≡ Err Full) ⊎ ((result ≡ Err Memory) ⊎ (result ≡ Err Stranger))
  pub calls : (fault : StoreFault) → result ≡ Err (Store fault) → AsksStore (volatile_of before) letter.body

module _ {S : Type 0} (is_clean is_sound : S → Type 0) (kept : S → SiteContent) where
  -- where the store is clean and was sound, and what was in memory fitted it, a reply is the protocol's by this act, and so is what it leaves
  abbrev pub StepsBy : S → S → Volatile → Volatile → Result (Option Reply) SiteFault → (Option Reply → Act local) → Type 0
  StepsBy old new before after result act = is_clean new → is_sound old → Fits (kept old) (volatile_of before) → IfOk result (λ reply. Steps (kept old) (volatile_of before) (kept new) (volatile_of after) (act reply) reply)

module _ {S : Type 0} (is_clean is_sound : S → Type 0) (kept : S → SiteContent) (refused : S → ℕ) where
  -- a call that reads the store: nothing has changed; it is refused only where the medium refused, a sound store has no damaged row, and the site itself turns nothing away
  pub record Reads {T : Type 0} (old new : S) (result : Result T SiteFault) : Type 0 where
    pub store : LeavesStore is_clean is_sound refused old new
    pub same : is_clean new → is_sound old → IsUnchanged (kept old) (kept new)
    pub refusal : result ≡ Err (Store store_faults.Refused) → HasRefused (refused old) (refused new)
    pub intact : is_clean new → is_sound old → result ≢ Err (Store store_faults.Damaged)
    pub plain : result ≢ Err (Store store_faults.Memory)
    pub own : result ≢ Err Stranger
    pub within : result ≢ Err Full

  -- a call that changes something, or fails: then nothing has changed. A store that isn't to be called isn't, and counts as having refused; it is refused only so, or where the medium refused, and a sound store has no damaged row
  pub record ChangesOrFails {T : Type 0} (called : Bool) (old new : S) (before after : Volatile) (result : Result T SiteFault) : Type 0 where
    pub store : LeavesStore is_clean is_sound refused old new
    pub memory : ChangesVolatile before after result
    pub uncalled : called ≡ false → new ≡ old
    pub same : is_clean new → is_sound old → OnErr result (IsUnchanged (kept old) (kept new))
    pub refusal : result ≡ Err (Store store_faults.Refused) → (called ≡ false) ⊎ HasRefused (refused old) (refused new)
    pub intact : is_clean new → is_sound old → result ≢ Err (Store store_faults.Damaged)
    pub plain : result ≢ Err (Store store_faults.Memory)

  -- so of a call that the site itself never turns away
  pub record EndsOrFails {T : Type 0} (called : Bool) (old new : S) (before after : Volatile) (result : Result T SiteFault) : Type 0 where
    pub fails : ChangesOrFails called old new before after result
    pub own : result ≢ Err Stranger
    pub within : result ≢ Err Full

  -- a life begins, and the store was sound; or the call fails, and nothing has changed: it is refused only where the medium refused, or the store wasn't to be called, full only where no life is left, and damaged only where the rows can't be this site's
  pub record BeginsOrFails {T : Type 0} (called : Bool) (leaves : List Leaf) (old new : S) (result : Result T SiteFault) : Type 0 where
    pub store : LeavesStore is_clean is_sound refused old new
    pub learnt : is_clean new → OnOk result (is_sound old)
    pub life : is_clean new → OnOk result (BeginsLife (kept old) (kept new))
    pub same : is_clean new → is_sound old → OnErr result (IsUnchanged (kept old) (kept new))
    pub refusal : result ≡ Err (Store store_faults.Refused) → (called ≡ false) ⊎ HasRefused (refused old) (refused new)
    pub full : is_clean new → result ≡ Err Full → 2 ^ 63 ≤ (kept new).life + 1
    pub damaged : is_clean new → is_sound old → result ≡ Err (Store store_faults.Damaged) → IsStrange leaves (kept new)

  -- a site restarts, or fails: then nothing has changed. A store that isn't to be called isn't
  pub record RestartsOrFails {T : Type 0} (called : Bool) (old new : S) (before after : Volatile) (result : Result T SiteFault) : Type 0 where
    pub begins : BeginsOrFails called (leaves_in before.locks.items) old new result
    pub memory : ChangesVolatile before after result
    pub is_called : OnOk result (called ≡ true)
    pub uncalled : called ≡ false → new ≡ old
    pub ok : is_clean new → Fits (kept old) (volatile_of before) → OnOk result (Restarts (kept old) (volatile_of before) (kept new) (volatile_of after))
    pub rests : is_clean new → AreHad (leaves_in before.locks.items) (kept old) → OnOk result (Begins (kept new) (volatile_of after))
    pub own : result ≢ Err Stranger
