-- Letters that were put out, linked by their transactions.
use Rattle.std.specs.Prelude.{◌≡◌, ◌≢◌, ◌<◌, ◌≤◌, ◌+◌, ℕ, List, length, map, Option, Some, None, slice_get}
use Rattle.std.specs.BTreeMap.{BTreeMap, get}
use Rattle.store.specs.declared.letter.Letter.{Letter}
use Rattle.store.specs.declared.name.Txn.{Txn}
use Rattle.store.specs.Name.{txn_cmp}
use Rattle.history.specs.declared.sent.Link.{Link}

abbrev pub letters_of : List Link → List Letter
letters_of links = map (λ link. link.letter.now) links

-- the place right behind this one; where there is none, the first
abbrev pub behind : Option ℕ → ℕ
behind None = 0
behind (Some place) = place + 1

-- the newest letter of a transaction among those before a place stands here
pub record IsNewest (letters : List Letter) (bound : ℕ) (txn : Txn) (place : Option ℕ) : Type 0 where
  pub within : behind place ≤ bound
  pub own : (n : ℕ) (letter : Letter) → place ≡ Some n → slice_get letters n ≡ Some letter → letter.txn ≡ txn
  pub above : (n : ℕ) (letter : Letter) → behind place ≤ n → n < bound → slice_get letters n ≡ Some letter → letter.txn ≢ txn

-- each letter has the place of the one before it that is of its transaction
abbrev pub AreLinked : List Link → Type 0
AreLinked links = (n : ℕ) (link : Link) → slice_get links n ≡ Some link → IsNewest (letters_of links) n link.letter.now.txn link.earlier

-- and of each transaction the newest is known
pub record IsLinked (links : List Link) (newest : BTreeMap Txn ℕ) : Type 0 where
  pub linked : AreLinked links
  pub newest_of : (txn : Txn) → IsNewest (letters_of links) (length links) txn (get txn_cmp newest txn)

-- a letter stands at this place, or nowhere
abbrev pub IsPlaceOf : List Letter → Letter → Option ℕ → Type 0
IsPlaceOf letters letter None = (n : ℕ) → slice_get letters n ≡ Some letter → ⊥
IsPlaceOf letters letter (Some n) = slice_get letters n ≡ Some letter
