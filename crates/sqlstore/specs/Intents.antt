-- The intents that changes are kept as.
use Rattle.std.specs.Prelude.{◌≡◌, ◌≢◌, ℕ, ℤ, pos, true, List, [], map, Option, Some, None, IfSome, string_bytes}
use Rattle.std.specs.FinMap as fin
use Rattle.std.specs.List.{AllByRecursion}
use Rattle.store.specs.declared.slot.Slot.{Slot}
use Rattle.store.specs.declared.name.Ticket.{Ticket}
use Rattle.store.specs.declared.name.Txn.{Txn}
use Rattle.store.specs.Content.{Changes, are_within}
use Rattle.terms.specs.declared.leaf.Leaf.{Leaf}
use Rattle.terms.specs.declared.value.Value.{Value}
use Rattle.terms.specs.Leaf.{leaf_text}
use Rattle.terms.specs.Stored.{spelling, IsStorable}
use Rattle.sqlstore.specs.declared.intent.Intent.{Intent}
use Rattle.sqlstore.specs.declared.promise.Promise.{Promise}

-- the body that puts a part, or takes one out
abbrev pub body_of : Option (List Value) → List ℕ
body_of None = []
body_of (Some part) = spelling part

-- a leaf's name, a key and a body
abbrev pub Cells : Type 0
Cells = List ℕ × (ℤ × List ℕ)

abbrev pub seen : Intent → Cells
seen intent = (string_bytes intent.leaf, (intent.key, intent.body.items))

-- those of a slot and what stands there
abbrev pub wanted : Slot × Option (List Value) → Cells
wanted entry = (leaf_text entry.0.leaf, (entry.0.key, body_of entry.1))

-- a part, if there is one, has a spelling
abbrev pub HasBody : Slot × Option (List Value) → Type 0
HasBody entry = IfSome entry.1 IsStorable

abbrev pub SeenAs : List Intent → List (Slot × Option (List Value)) → Type 0
SeenAs intents entries = (map seen intents ≡ map wanted entries) × AllByRecursion HasBody entries

-- an intent for each slot that is changed
abbrev pub AreIntents : List Intent → Changes → Type 0
AreIntents intents changes = SeenAs intents (fin.entries changes)

-- what is put into the tables of a site, where its leaves have all that is changed
pub record IsPromiseOf (leaves : List Leaf) (txn : Txn) (ticket : Ticket) (changes : Changes) (promise : Promise) : Type 0 where
  pub life : promise.visit.life ≡ pos ticket.life
  pub visit : promise.visit.visit ≡ pos ticket.visit
  pub txn_life : promise.txn.life ≡ pos txn.life
  pub txn_number : promise.txn.visit ≡ pos txn.number
  pub intents : AreIntents promise.intents.items changes
  pub some : changes ≢ fin.empty
  pub within : are_within leaves changes ≡ true
