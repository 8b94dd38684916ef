-- What has happened to a client's database, move by move.
use Rattle.std.proofs.Common.{◌≡◌, refl, sym, ap, ◌∙◌, subst, false, List, [], ◌∷◌, ◌++◌, append_assoc}
use Rattle.std.proofs.lemmas.List.{append-nil}
use Rattle.meaning.specs.Whole.{Relations}
use Rattle.protocol.specs.Client.{IsReached, ReachedLaw}
use Rattle.protocol.specs.Desk.{Commit_call, Deed, Rollback, State}
use Rattle.protocol.specs.Language.{Lang}
use Rattle.protocol.specs.Letter.{Letter}
use Rattle.protocol.specs.Letters.{txn_name}
use Rattle.protocol.specs.NothingCommits.{AreInVain, is_of_commit}
use Rattle.protocol.specs.Serial.{committed}
use Rattle.protocol.specs.World.{World}
use Rattle.protocol.proofs.Basics.{every_append}
use Rattle.protocol.proofs.NothingCommits.{AreCalm, Vainly, begins_vainly, comes_vainly, committed_still, give_up_vainly, rollback_vainly, state_vainly, vainly_none, vainly_then}
use Rattle.desk.specs.declared.reply.Notice.{Notice}
use Rattle.desk.specs.Database.{Database, language}
use Rattle.world.specs.Mailbox.{Ask, Coming, IsStill, Passed_over, Serves, Taken, To_begin, To_do, Turned_away, all_come, asked, come, first_comes}
use Rattle.world.specs.Client.{IsServed}
use Rattle.world.specs.Course.{Begins, Commits, CommitsNone, Made, Move, Moves, Refragments, Refuses, Rolls_back, States, deeds_in, deeds_of}
use Rattle.world.specs.Machines.{AreFit, Machines, world_of}
use Rattle.world.proofs.Reaching.{serves_past}

module _ (db : Database) (whole : Relations) where
  -- machines that stand as they stood are served as they were
  pub still_served : (before after : Machines) (past : List (Deed (language db))) → IsServed db whole before past → IsStill db before after → IsServed db whole after past
  still_served before after past served still = record {
    version = served.version;
    reached = subst (λ (w : World (language db)). IsReached (served.version, whole) (record w { past = past })) (sym still.same) served.reached;
    fit = still.fit;
  }

  -- so they are where nothing more happens
  pub nothing_more : (machines : Machines) (past : List (Deed (language db))) → IsServed db whole machines past → IsServed db whole machines (past ++ [])
  nothing_more machines past served = subst (IsServed db whole machines) (sym (append-nil past)) served

  module _ (law : ReachedLaw (language db)) where
    pub move_served : (move : Move) (before after : Machines) (past : List (Deed (language db))) → IsServed db whole before past → (moves : Moves db move before after) → IsServed db whole after (past ++ deeds_of db move before after moves)
    move_served (Begins txn heard) before after past served does = serves_past db law whole To_begin before after heard past tt served does.serves
    move_served (States txn text heard) before after past served does = serves_past db law whole (To_do (txn_name txn) (State (before.table.version, does.statement)) does.asks.choice) before after heard past (refl, does.fits.stays) served does.asks.serves
    move_served (Commits txn heard) before after past served does = serves_past db law whole (To_do (txn_name txn) Commit_call does.choice) before after heard past tt served does.serves
    move_served (Rolls_back txn heard) before after past served does = serves_past db law whole (To_do (txn_name txn) Rollback does.choice) before after heard past tt served does.serves
    move_served (Refragments text came) before after past served never = absurd never
    move_served (Refuses asked told) before after past served refused = nothing_more after past (still_served before after past served refused.1)

    pub made_served : (moves : List Move) (before after : Machines) (past : List (Deed (language db))) → IsServed db whole before past → (made : Made db moves before after) → IsServed db whole after (past ++ deeds_in db moves before after made)
    made_served [] before after past served same = nothing_more after past (subst (λ (m : Machines). IsServed db whole m past) (sym same) served)
    made_served (move ∷ moves) before after past served made =
        let first = deeds_of db move before made.0 made.1 in
        subst (IsServed db whole after) (append_assoc past first (deeds_in db moves made.0 after made.2))
        (made_served moves made.0 after (past ++ first) (move_served move before made.0 past served made.1) made.2)

-- ---- moves are made one after another
module _ (db : Database) where
  pub made_then : (one more : List Move) (before middle after : Machines) → Made db one before middle → Made db more middle after → Made db (one ++ more) before after
  made_then [] more before middle after same made = subst (λ (m : Machines). Made db more m after) same made
  made_then (move ∷ moves) more before middle after first made = (first.0, first.1, made_then moves more first.0 middle after first.2 made)

  move_fit : (move : Move) (before after : Machines) → Moves db move before after → AreFit db after
  move_fit (Begins txn heard) before after does = does.serves.fit
  move_fit (States txn text heard) before after does = does.asks.serves.fit
  move_fit (Commits txn heard) before after does = does.serves.fit
  move_fit (Rolls_back txn heard) before after does = does.serves.fit
  move_fit (Refragments text came) before after never = absurd never
  move_fit (Refuses asked told) before after refused = refused.1.fit

  pub made_fit : (moves : List Move) (before after : Machines) → AreFit db before → Made db moves before after → AreFit db after
  made_fit [] before after fit same = subst (AreFit db) (sym same) fit
  made_fit (move ∷ moves) before after fit made = made_fit moves made.0 after (move_fit move before made.0 made.1) made.2

-- the same catalogue is in force
module _ (db : Database) where
  move_version : (move : Move) (before after : Machines) → Moves db move before after → after.table.version ≡ before.table.version
  move_version (Begins txn heard) before after does = does.serves.version
  move_version (States txn text heard) before after does = does.asks.serves.version
  move_version (Commits txn heard) before after does = does.serves.version
  move_version (Rolls_back txn heard) before after does = does.serves.version
  move_version (Refragments text came) before after never = absurd never
  move_version (Refuses asked told) before after refused = ap (λ (w : World (language db)). w.version) refused.1.same

  pub made_version : (moves : List Move) (before after : Machines) → Made db moves before after → after.table.version ≡ before.table.version
  made_version [] before after same = ap (λ (m : Machines). m.table.version) same
  made_version (move ∷ moves) before after made = made_version moves made.0 after made.2 ∙ move_version move before made.0 made.1

-- ---- what is refused commits nothing
module _ {L : Lang} where
  comes_first : (w : World L) (c : Coming L) (letters : List (Letter L)) → AreCalm letters → w.letters ≡ letters → Vainly w (first_comes w c letters)
  comes_first w c [] calm e = vainly_none w (subst AreCalm (sym e) calm)
  comes_first w (Taken kept choice) (l ∷ q) calm e = let one = comes_vainly (record w { letters = q }) kept choice l calm.0 calm.1 in record { more = one.more; vain = one.vain; is = one.is; calm = one.calm }
  comes_first w (Turned_away choice) (l ∷ q) calm e = let one = give_up_vainly (record w { letters = q }) calm.1 l.txn choice in record { more = one.more; vain = one.vain; is = one.is; calm = one.calm }
  comes_first w Passed_over (l ∷ q) calm e = let one = vainly_none (record w { letters = q }) calm.1 in record { more = one.more; vain = one.vain; is = one.is; calm = one.calm }

  pub all_vainly : (cs : List (Coming L)) (w : World L) → AreCalm w.letters → Vainly w (all_come cs w)
  all_vainly [] w calm = vainly_none w calm
  all_vainly (c ∷ cs) w calm = let one = comes_first w c w.letters calm refl in vainly_then w (come w c) (all_come cs (come w c)) one (all_vainly cs (come w c) one.calm)

module _ (db : Database) where
  serves_vainly : (ask : Ask (language db)) (before after : Machines) (heard : List Notice) (serves : Serves db ask before after heard) → Vainly (world_of db before [] []) (asked ask (world_of db before [] [])) → AreInVain serves.deeds
  serves_vainly ask before after heard serves first =
      let w = world_of db before [] [] in
      let all = vainly_then w (asked ask w) (all_come serves.comings (asked ask w)) first (all_vainly serves.comings (asked ask w) first.calm) in
      subst AreInVain (sym all.is ∙ ap (λ (v : World (language db)). v.past) (serves.is [])) all.vain

  made_vainly : (moves : List Move) (before after : Machines) (made : Made db moves before after) → CommitsNone moves → AreInVain (deeds_in db moves before after made)
  made_vainly [] before after same none = tt
  made_vainly (Begins txn heard ∷ moves) before after made none =
      every_append (λ d. is_of_commit d ≡ false) made.1.serves.deeds (deeds_in db moves made.0 after made.2)
      (serves_vainly To_begin before made.0 heard made.1.serves (begins_vainly (world_of db before [] []) tt)) (made_vainly moves made.0 after made.2 none)
  made_vainly (States txn text heard ∷ moves) before after made none =
      let asks = made.1.asks in
      every_append (λ d. is_of_commit d ≡ false) asks.serves.deeds (deeds_in db moves made.0 after made.2)
      (serves_vainly (To_do (txn_name txn) (State (before.table.version, made.1.statement)) asks.choice) before made.0 heard asks.serves (state_vainly (world_of db before [] []) tt (txn_name txn) asks.choice (before.table.version, made.1.statement))) (made_vainly moves made.0 after made.2 none)
  made_vainly (Commits txn heard ∷ moves) before after made none = absurd none
  made_vainly (Rolls_back txn heard ∷ moves) before after made none =
      every_append (λ d. is_of_commit d ≡ false) made.1.serves.deeds (deeds_in db moves made.0 after made.2)
      (serves_vainly (To_do (txn_name txn) Rollback made.1.choice) before made.0 heard made.1.serves (rollback_vainly (world_of db before [] []) tt (txn_name txn) made.1.choice)) (made_vainly moves made.0 after made.2 none)
  made_vainly (Refragments text came ∷ moves) before after made none = absurd made.1
  made_vainly (Refuses asked told ∷ moves) before after made none = made_vainly moves made.0 after made.2 none

  pub committed_none : (moves : List Move) (before after : Machines) (made : Made db moves before after) (past : List (Deed (language db))) → CommitsNone moves → committed (past ++ deeds_in db moves before after made) ≡ committed past
  committed_none moves before after made past none = committed_still past (deeds_in db moves before after made) (made_vainly moves before after made none)
