-- Deeds by which no transaction is committed.
use Rattle.std.specs.Prelude.{◌≡◌, Bool, true, false, List}
use Rattle.std.specs.List.{AllByRecursion}
use Rattle.protocol.specs.Language.{Lang}
use Rattle.protocol.specs.Desk.{Deed, Committed, Phased}

module _ {L : Lang} where
  -- whether a deed is a commit, or the first phase that leads to one
  abbrev pub is_of_commit : Deed L → Bool
  is_of_commit (Phased t) = true
  is_of_commit (Committed t) = true
  is_of_commit deed = false

  -- no deed is
  abbrev pub AreInVain : List (Deed L) → Type 0
  AreInVain deeds = AllByRecursion (λ d. is_of_commit d ≡ false) deeds
