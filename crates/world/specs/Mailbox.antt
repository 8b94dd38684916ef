-- The letters of one client's machines come, each once, the oldest first.
use Rattle.std.specs.Prelude.{◌≡◌, ◌≤◌, ◌⊎◌, ⊤, ℕ, List, [], ◌++◌, map}
use Rattle.std.specs.List.{AllZip, filter_map}
use Rattle.store.specs.declared.letter.Letter as letters
pub use Rattle.protocol.specs.Delivery.{AllFounded, AllKept, Ask, Coming, Passed_over, Taken, To_begin, To_do, Turned_away, all_come, asked, come, done_with, first_comes}
use Rattle.protocol.specs.Delivery.{SomeHinder}
use Rattle.protocol.specs.Desk.{Deed}
use Rattle.protocol.specs.Letter.{Letter}
use Rattle.protocol.specs.Serial.{AllExplained}
use Rattle.protocol.specs.World.{World}
use Rattle.desk.specs.declared.reply.Notice.{Notice}
use Rattle.desk.specs.Database.{Database, language, sent}
use Rattle.desk.specs.State.{notice_of}
use Rattle.desk.specs.Transition.{told}
use Rattle.world.specs.Counted.{HaveRefused, KeptUnless, NoFewer}
use Rattle.world.specs.Listed.{FitsList}
use Rattle.world.specs.Machines.{AreFit, AreOfPlaces, IsForNow, Machines, world_of}

-- machines, the letters that wait, oldest first, and what the client has heard
pub record Scene : Type 0 where
  pub machines : Machines
  pub waiting : List letters.Letter
  pub heard : List Notice

-- a step of the machines, after which some letters come, and each store call is kept unless a store refuses: deeds are done, among them no statement that isn't explained, and the client hears of them. Where operations that wait are of leaves at their sites, so they are later, and what becomes of each letter has its reason. The same catalogue is in force
pub record Goes (db : Database) (step : World (language db) → World (language db)) (before after : Scene) : Type 0 where
  pub comings : List (Coming (language db))
  pub deeds : List (Deed (language db))
  pub fit : AreFit db after.machines
  pub is : (past : List (Deed (language db))) → all_come comings (step (world_of db before.machines (map (sent db) before.waiting) past)) ≡ world_of db after.machines (map (sent db) after.waiting) (past ++ deeds)
  pub version : after.machines.table.version ≡ before.machines.table.version
  pub placed : AreOfPlaces db before.waiting → AreOfPlaces db after.waiting
  pub founded : AreOfPlaces db before.waiting → (past : List (Deed (language db))) → AllFounded comings (step (world_of db before.machines (map (sent db) before.waiting) past))
  pub counts : NoFewer before.machines.refused after.machines.refused
  pub kept : KeptUnless comings before.machines.refused after.machines.refused
  pub explained : AllExplained deeds
  pub replies : map notice_of after.heard ≡ map notice_of before.heard ++ filter_map (told db) deeds

-- so where something is refused on the way: letters are left, and of what was heard nothing is said
pub record Breaks (db : Database) (step : World (language db) → World (language db)) (before : Scene) (after : Machines) : Type 0 where
  pub comings : List (Coming (language db))
  pub deeds : List (Deed (language db))
  pub left : List (Letter (language db))
  pub fit : AreFit db after
  pub is : (past : List (Deed (language db))) → all_come comings (step (world_of db before.machines (map (sent db) before.waiting) past)) ≡ world_of db after left (past ++ deeds)
  pub version : after.table.version ≡ before.machines.table.version
  pub explained : AllExplained deeds

-- some letters come over a list of catalogues, of which another one may come into force: deeds are done, among them no statement that isn't explained, and the client hears of them. Where operations that wait are of leaves at their sites, so they are later, and what becomes of each letter has its reason
pub record ListComes (db : Database) (before after : Scene) : Type 0 where
  pub comings : List (Coming (language db))
  pub deeds : List (Deed (language db))
  pub fit : FitsList db after.machines
  pub is : (past : List (Deed (language db))) → all_come comings (world_of db before.machines (map (sent db) before.waiting) past) ≡ world_of db after.machines (map (sent db) after.waiting) (past ++ deeds)
  pub placed : AreOfPlaces db before.waiting → AreOfPlaces db after.waiting
  pub founded : AreOfPlaces db before.waiting → (past : List (Deed (language db))) → AllFounded comings (world_of db before.machines (map (sent db) before.waiting) past)
  pub explained : AllExplained deeds
  pub replies : map notice_of after.heard ≡ map notice_of before.heard ++ filter_map (told db) deeds

-- machines at rest: nothing waits, and nothing was heard
abbrev pub at_rest : Machines → Scene
at_rest machines = record { machines = machines; waiting = []; heard = [] }

-- machines after all letters came, and what the client heard
abbrev pub settled : Machines → List Notice → Scene
settled machines notices = record { machines = machines; waiting = []; heard = notices }

-- a call of the client, after which all letters come, each once, the oldest first, until none waits; each for its reason, and each store call is kept unless a store refuses.
-- Deeds are done, among them no statement that isn't explained, and the client hears of them; the same catalogue is in force
pub record Serves (db : Database) (ask : Ask (language db)) (before after : Machines) (heard : List Notice) : Type 0 where
  pub comings : List (Coming (language db))
  pub deeds : List (Deed (language db))
  pub fit : AreFit db after
  pub is : (past : List (Deed (language db))) → all_come comings (asked ask (world_of db before [] past)) ≡ world_of db after [] (past ++ deeds)
  pub version : after.table.version ≡ before.table.version
  pub founded : (past : List (Deed (language db))) → AllFounded comings (asked ask (world_of db before [] past))
  pub counts : AllZip (λ (count now : ℕ). count ≤ now) before.refused after.refused
  pub kept : AllKept comings ⊎ HaveRefused before.refused after.refused
  pub explained : AllExplained deeds
  pub replies : map notice_of heard ≡ filter_map (told db) deeds

-- something was refused on the way of a call: a letter, since its step led past a limit, a write, by a full visit, or a store call, which isn't kept only where the medium of a store has refused meanwhile. past: what had happened before it
abbrev pub WasHindered : {db : Database} {ask : Ask (language db)} {before after : Machines} {heard : List Notice} → List (Deed (language db)) → Serves db ask before after heard → Type 0
WasHindered {db} {ask} {before} {after} past serves = SomeHinder (HaveRefused before.refused after.refused) serves.comings (asked ask (world_of db before [] past))

-- a statement is asked for under the catalogue of this number
abbrev pub AsksForNow : (db : Database) → ℕ → Ask (language db) → Type 0
AsksForNow db n To_begin = ⊤
AsksForNow db n (To_do txn request choice) = IsForNow db n request

-- a call is refused, and nothing has changed, or something is refused on the way
abbrev pub Fails : Database → Machines → Machines → Type 0
Fails db before after = (after ≡ before) ⊎ ((ask : Ask (language db)) × AsksForNow db before.table.version ask × Breaks db (asked ask) (at_rest before) after)

-- nothing has been done: the machines stand as they stood
pub record IsStill (db : Database) (before after : Machines) : Type 0 where
  pub fit : AreFit db after
  pub same : world_of db after [] [] ≡ world_of db before [] []
  pub counts : NoFewer before.refused after.refused
