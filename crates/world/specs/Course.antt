-- What a client asks for and what comes of it, call by call.
use Rattle.std.specs.Prelude.{◌≡◌, ◌⊎◌, ⊤, ℕ, true, List, [], ◌∷◌, ◌++◌, Result, Ok, Err}
use Rattle.std.specs.List.{flat_map}
use Rattle.store.specs.declared.name.Txn.{Txn}
use Rattle.protocol.specs.Desk.{Commit_call, Deed, Rollback}
use Rattle.desk.specs.declared.refusal.Refusal.{Refusal}
use Rattle.desk.specs.declared.reply.Notice.{Notice}
use Rattle.desk.specs.Database.{Database, language}
use Rattle.world.specs.declared.event.Call as calls
use Rattle.world.specs.declared.event.Call.TheVariants as call
use Rattle.world.specs.declared.event.Entry.{Entry}
use Rattle.world.specs.declared.event.Event.TheVariants as event
use Rattle.world.specs.Client.{DoesAsk, DoesBegin, DoesState}
use Rattle.world.specs.Machines.{Machines}
use Rattle.world.specs.Mailbox.{IsStill, WasHindered}
use Rattle.world.specs.Refused.{IsRefused}
use Rattle.world.specs.Stopping.{is_stop}

-- A call of a client, and what came of it: it was done, with all letters that it brought about, and the client heard this; or it was refused.
pub data Move : Type 0 where
  Begins : (txn : Txn) (heard : List Notice) → Move
  States : (txn : Txn) (text : List ℕ) (heard : List Notice) → Move
  Commits : (txn : Txn) (heard : List Notice) → Move
  Rolls_back : (txn : Txn) (heard : List Notice) → Move
  Refragments : (text : List ℕ) (came : Result (List Notice) Refusal) → Move
  Refuses : (asked : calls.Call) (told : Refusal) → Move

-- the one move of a call, by what it answers
abbrev pub IsOne : {T : Type 0} → (T → Move) → calls.Call → Result T Refusal → List Move → Type 0
IsOne move asked (Ok x) moves = moves ≡ move x ∷ []
IsOne move asked (Err told) moves = moves ≡ Refuses asked told ∷ []

-- ---- what was asked for and heard, in the form of the entries of a world
abbrev pub said : calls.Call → List Notice → Entry
said asked heard = record { event = event.Call asked; out = record { letters = []; replies = heard; kept = true } }

-- of one move; a call that is refused says nothing
abbrev pub said_of : Move → List Entry
said_of (Begins txn heard) = said call.Begin heard ∷ []
said_of (States txn text heard) = said (call.State txn text) heard ∷ []
said_of (Commits txn heard) = said (call.Commit txn) heard ∷ []
said_of (Rolls_back txn heard) = said (call.Rollback txn) heard ∷ []
said_of (Refragments text (Ok heard)) = said (call.Refragment text) heard ∷ []
said_of (Refragments text (Err told)) = []
said_of (Refuses asked told) = []

-- of all
abbrev pub said_in : List Move → List Entry
said_in moves = flat_map said_of moves

-- no commit is asked for and done by these moves
abbrev pub CommitsNone : List Move → Type 0
CommitsNone [] = ⊤
CommitsNone (Begins txn heard ∷ moves) = CommitsNone moves
CommitsNone (States txn text heard ∷ moves) = CommitsNone moves
CommitsNone (Commits txn heard ∷ moves) = ⊥
CommitsNone (Rolls_back txn heard ∷ moves) = CommitsNone moves
CommitsNone (Refragments text came ∷ moves) = CommitsNone moves
CommitsNone (Refuses asked told ∷ moves) = CommitsNone moves

-- ---- the machines
module _ (db : Database) where
  -- a move leads from one state of the machines to another; where a call is refused nothing has been done. Where no catalogue comes later none is asked to give a relation another split
  abbrev pub Moves : Move → Machines → Machines → Type 0
  Moves (Begins txn heard) before after = DoesBegin db before txn after heard
  Moves (States txn text heard) before after = DoesState db text txn before after heard
  Moves (Commits txn heard) before after = DoesAsk db Commit_call txn before after heard
  Moves (Rolls_back txn heard) before after = DoesAsk db Rollback txn before after heard
  Moves (Refragments text came) before after = ⊥
  Moves (Refuses asked told) before after = IsRefused db before.later before.table asked told × IsStill db before after

  -- a call is refused: memory ran out or a store failed, which stops the database, or as the coordinator refuses it, and then nothing has been done
  abbrev pub IsTurnedDown : calls.Call → Machines → Machines → Refusal → Type 0
  IsTurnedDown asked before after told = (is_stop told ≡ true) ⊎ Moves (Refuses asked told) before after

  -- moves are made one after another
  abbrev pub Made : List Move → Machines → Machines → Type 0
  Made [] before after = after ≡ before
  Made (move ∷ moves) before after = (middle : Machines) × Moves move before middle × Made moves middle after

  -- what has happened to transactions by a move, and by all
  abbrev pub deeds_of : (move : Move) (before after : Machines) → Moves move before after → List (Deed (language db))
  deeds_of (Begins txn heard) before after does = does.serves.deeds
  deeds_of (States txn text heard) before after does = does.asks.serves.deeds
  deeds_of (Commits txn heard) before after does = does.serves.deeds
  deeds_of (Rolls_back txn heard) before after does = does.serves.deeds
  deeds_of (Refragments text came) before after never = []
  deeds_of (Refuses asked told) before after refused = []

  abbrev pub deeds_in : (moves : List Move) (before after : Machines) → Made moves before after → List (Deed (language db))
  deeds_in [] before after same = []
  deeds_in (move ∷ moves) before after made = deeds_of move before made.0 made.1 ++ deeds_in moves made.0 after made.2

  -- something was refused on the way of a move. past: what had happened before it
  abbrev pub IsHindered : (move : Move) (before after : Machines) → List (Deed (language db)) → Moves move before after → Type 0
  IsHindered (Begins txn heard) before after past does = ⊥
  IsHindered (States txn text heard) before after past does = WasHindered past does.asks.serves
  IsHindered (Commits txn heard) before after past does = WasHindered past does.serves
  IsHindered (Rolls_back txn heard) before after past does = WasHindered past does.serves
  IsHindered (Refragments text came) before after past never = ⊥
  IsHindered (Refuses asked told) before after past refused = ⊥

  -- so of one of these moves
  abbrev pub SomeHindered : (moves : List Move) (before after : Machines) → List (Deed (language db)) → Made moves before after → Type 0
  SomeHindered [] before after past same = ⊥
  SomeHindered (move ∷ moves) before after past made = IsHindered move before made.0 past made.1 ⊎ SomeHindered moves made.0 after (past ++ deeds_of move before made.0 made.1) made.2
