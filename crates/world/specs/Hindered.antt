-- What the calls of one client met on their way.
use Rattle.std.specs.Prelude.{◌≡◌, List, [], ◌∷◌, ◌++◌}
use Rattle.protocol.specs.Delivery.{Ask, Coming, SomeHinder, all_come, asked}
use Rattle.protocol.specs.Desk.{Deed}
use Rattle.protocol.specs.Language.{Lang}
use Rattle.protocol.specs.World.{World}
use Rattle.desk.specs.Database.{Database, language}
use Rattle.world.specs.Counted.{HaveRefused}
use Rattle.world.specs.Machines.{Machines, world_of}

-- calls of a client, one after another: each is made, and then its letters come
abbrev pub all_served : {L : Lang} → List (Ask L × List (Coming L)) → World L → World L
all_served [] w = w
all_served (call ∷ calls) w = all_served calls (all_come call.1 (asked call.0 w))

-- Calls led by these deeds from machines to others, and on the way of one of them something was refused: a letter, since its step led past a limit, a write, by a full visit, or a store call, which isn't
-- kept only where the medium of a store has refused meanwhile. past: what had happened before
pub record WereHindered (db : Database) (before after : Machines) (past deeds : List (Deed (language db))) : Type 0 where
  pub front : List (Ask (language db) × List (Coming (language db)))
  pub call : Ask (language db)
  pub comings : List (Coming (language db))
  pub back : List (Ask (language db) × List (Coming (language db)))
  pub led : all_served (front ++ (call, comings) ∷ back) (world_of db before [] past) ≡ world_of db after [] (past ++ deeds)
  pub met : SomeHinder (HaveRefused before.refused after.refused) comings (asked call (all_served front (world_of db before [] past)))
