-- Lemmas on what is shown of a schedule.
use Rattle.std.proofs.Common.{◌≡◌, ◌++◌, ◌∷◌, [], ℕ, false, IfOk, List, OnOk, Result, Ok, Err, inl, inr, map, refl, ap}
use Rattle.std.specs.List.{flat_map}
use Rattle.store.specs.declared.name.Txn.{Txn}
use Rattle.world.specs.declared.event.Entry.{Entry}
use Rattle.world.specs.declared.fault.Fault.{Fault}
use Rattle.world.specs.Fault.{FailsFor, is_memory}
use Rattle.world.specs.Committed.{committed_of}
use Rattle.databases.specs.PlayText.{Naming}
use Rattle.databases.specs.Shown.{ShownUnlessRefused, failed_text, names_text}

-- the names of committed transactions
pub names_of_committed : (named : Naming) (entries : List Entry) (txns : List Txn) → flat_map (λ one. named one.txn ++ 10 ∷ []) (map (committed_of entries) txns) ≡ names_text named txns
names_of_committed named entries [] = refl
names_of_committed named entries (txn ∷ txns) = ap (λ rest. (named txn ++ 10 ∷ []) ++ rest) (names_of_committed named entries txns)

-- what fails for another reason than memory fails as the medium of a store has refused, and that is told
pub unshown : {T E : Type 0} (bytes_of : T → List ℕ) (before after name : List ℕ) (Shown : List ℕ → Type 0) (fault : Fault) (result : Result T E) → FailsFor before after fault → IfOk result (λ given. bytes_of given ≡ failed_text name fault) → OnOk result (is_memory fault ≡ false) →
    IfOk result (λ given. ShownUnlessRefused before after name Shown (bytes_of given))
unshown bytes_of before after name Shown fault (Ok given) (inl memory) told other = absurd (cc)
unshown bytes_of before after name Shown fault (Ok given) (inr refused) told other = inr (record { why = fault; of_medium = refused.0; refused = refused.1; told = told })
unshown bytes_of before after name Shown fault (Err e) why told other = tt
