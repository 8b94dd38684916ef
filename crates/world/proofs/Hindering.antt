-- What the calls of one client's moves met on their way.
use Rattle.std.proofs.Common.{◌≡◌, refl, sym, ap, ◌∙◌, subst, true, false, List, [], ◌∷◌, ◌++◌, append_assoc, append-nil, ⊎_elim, inl, inr}
use Rattle.std.specs.List.{AllByRecursion}
use Rattle.meaning.specs.Whole.{Relations}
use Rattle.protocol.specs.Client.{ReachedLaw}
use Rattle.protocol.specs.Delivery.{Ask, Coming, FirstHinders, Passed_over, SomeHinder, Taken, To_begin, To_do, Turned_away, all_come, asked, come}
use Rattle.protocol.specs.Desk.{Commit_call, Deed, Rollback, State}
use Rattle.protocol.specs.Language.{Lang}
use Rattle.protocol.specs.Letter.{Letter}
use Rattle.protocol.specs.Letters.{txn_name}
use Rattle.protocol.specs.World.{World}
use Rattle.desk.specs.Database.{Database, language}
use Rattle.world.specs.Client.{IsServed}
use Rattle.world.specs.Counted.{HaveRefused, NoFewer}
use Rattle.world.specs.Course.{Begins, Commits, IsHindered, Made, Move, Moves, Refragments, Refuses, Rolls_back, SomeHindered, States, deeds_in, deeds_of}
use Rattle.world.specs.Hindered.{WereHindered, all_served}
use Rattle.world.specs.ListServed.{HasItsReason, IsListServed}
use Rattle.world.specs.Mailbox.{Serves}
use Rattle.world.specs.Machines.{Machines, world_of}
use Rattle.world.proofs.Counting.{no_fewer, no_fewer_then, refused_before, refused_since}
use Rattle.world.proofs.Deeds.{move_served}
use Rattle.world.proofs.Machinery.{fits_list}

-- ---- a list of catalogues, of which none comes later
-- machines that one client is served by are so over the list of the one catalogue
pub listed_served : (db : Database) (whole : Relations) (machines : Machines) (past : List (Deed (language db))) → IsServed db whole machines past → IsListServed db whole machines past
listed_served db whole machines past served = record { version = served.version; reached = served.reached; fit = fits_list db machines served.fit }

-- and back
pub served_alone : (db : Database) (whole : Relations) (machines : Machines) (past : List (Deed (language db))) → machines.later ≡ [] → IsListServed db whole machines past → IsServed db whole machines past
served_alone db whole machines past alone served =
    let fit = served.fit in
    record {
      version = served.version;
      reached = served.reached;
      fit = record { names = fit.names; leaves = fit.leaves; desk = fit.desk; within = fit.within; sites = fit.sites; single = alone; still = fit.still alone };
    }

-- ---- calls
module _ {L : Lang} where
  both_served : (front back : List (Ask L × List (Coming L))) (w : World L) → all_served (front ++ back) w ≡ all_served back (all_served front w)
  both_served [] back w = refl
  both_served (call ∷ front) back w = both_served front back (all_come call.1 (asked call.0 w))

  module _ {A B : Type 0} (so : A → B) where
    first_hinders_so : (w : World L) (c : Coming L) (letters : List (Letter L)) → FirstHinders A w c letters → FirstHinders B w c letters
    first_hinders_so w c [] none = absurd none
    first_hinders_so w (Taken true choice) (l ∷ q) full = full
    first_hinders_so w (Taken false choice) (l ∷ q) unkept = (so unkept.0, unkept.1)
    first_hinders_so w (Turned_away choice) (l ∷ q) turned = turned
    first_hinders_so w Passed_over (l ∷ q) none = absurd none

    hinder_so : (cs : List (Coming L)) (w : World L) → SomeHinder A cs w → SomeHinder B cs w
    hinder_so [] w none = absurd none
    hinder_so (c ∷ cs) w some = ⊎_elim (λ first. inl (first_hinders_so w c w.letters first)) (λ later. inr (hinder_so cs (come w c) later)) some

module _ (db : Database) where
  -- calls led from machines to others, by these deeds
  record Led (before after : Machines) (past deeds : List (Deed (language db))) : Type 0 where
    calls : List (Ask (language db) × List (Coming (language db)))
    led : all_served calls (world_of db before [] past) ≡ world_of db after [] (past ++ deeds)
    counts : NoFewer before.refused after.refused

  by_call : (call : Ask (language db)) (before after : Machines) (past : List (Deed (language db))) {heard : _} (serves : Serves db call before after heard) → Led before after past serves.deeds
  by_call call before after past serves = record { calls = (call, serves.comings) ∷ []; led = serves.is past; counts = serves.counts }

  by_none : (before after : Machines) (past : List (Deed (language db))) → world_of db after [] past ≡ world_of db before [] past → NoFewer before.refused after.refused → Led before after past []
  by_none before after past same counts = record { calls = []; led = sym same ∙ ap (λ (deeds : List (Deed (language db))). world_of db after [] deeds) (sym (append-nil past)); counts = counts }

  move_led : (move : Move) (before after : Machines) (past : List (Deed (language db))) → (moves : Moves db move before after) → Led before after past (deeds_of db move before after moves)
  move_led (Begins txn heard) before after past does = by_call To_begin before after past does.serves
  move_led (States txn text heard) before after past does = by_call (To_do (txn_name txn) (State (before.table.version, does.statement)) does.asks.choice) before after past does.asks.serves
  move_led (Commits txn heard) before after past does = by_call (To_do (txn_name txn) Commit_call does.choice) before after past does.serves
  move_led (Rolls_back txn heard) before after past does = by_call (To_do (txn_name txn) Rollback does.choice) before after past does.serves
  move_led (Refragments text came) before after past never = absurd never
  move_led (Refuses asked told) before after past refused = by_none before after past (ap (λ (w : World (language db)). record w { past = past }) refused.1.same) refused.1.counts

  -- the world behind calls and more of them
  then_led : (before middle after : Machines) (past first second : List (Deed (language db))) (calls more : List (Ask (language db) × List (Coming (language db)))) → all_served calls (world_of db before [] past) ≡ world_of db middle [] (past ++ first) →
      all_served more (world_of db middle [] (past ++ first)) ≡ world_of db after [] ((past ++ first) ++ second) → all_served (calls ++ more) (world_of db before [] past) ≡ world_of db after [] (past ++ (first ++ second))
  then_led before middle after past first second calls more one other =
      both_served calls more (world_of db before [] past) ∙ ap (all_served more) one ∙ other ∙ ap (λ (deeds : List (Deed (language db))). world_of db after [] deeds) (append_assoc past first second)

  made_led : (moves : List Move) (before after : Machines) (past : List (Deed (language db))) → (made : Made db moves before after) → Led before after past (deeds_in db moves before after made)
  made_led [] before after past same = by_none before after past (ap (λ (m : Machines). world_of db m [] past) same) (subst (λ (m : Machines). NoFewer before.refused m.refused) (sym same) (no_fewer before.refused))
  made_led (move ∷ moves) before after past made =
      let first = deeds_of db move before made.0 made.1 in
      let one = move_led move before made.0 past made.1 in
      let rest = made_led moves made.0 after (past ++ first) made.2 in
      record {
        calls = one.calls ++ rest.calls;
        led = then_led before made.0 after past first (deeds_in db moves made.0 after made.2) one.calls rest.calls one.led rest.led;
        counts = no_fewer_then before.refused made.0.refused after.refused one.counts rest.counts;
      }

  -- a call on whose way something was refused, and calls behind it
  by_first : (call : Ask (language db)) (before middle after : Machines) (past second : List (Deed (language db))) {heard : _} (serves : Serves db call before middle heard) → SomeHinder (HaveRefused before.refused middle.refused) serves.comings (asked call (world_of db before [] past)) →
      Led middle after (past ++ serves.deeds) second → WereHindered db before after past (serves.deeds ++ second)
  by_first call before middle after past second serves met rest = record {
    front = [];
    call = call;
    comings = serves.comings;
    back = rest.calls;
    led = then_led before middle after past serves.deeds second ((call, serves.comings) ∷ []) rest.calls (serves.is past) rest.led;
    met = hinder_so (λ refused. refused_before before.refused middle.refused after.refused serves.counts refused rest.counts) serves.comings (asked call (world_of db before [] past)) met;
  }

  move_hindered : (move : Move) (before middle after : Machines) (past second : List (Deed (language db))) (moves : Moves db move before middle) → IsHindered db move before middle past moves → Led middle after (past ++ deeds_of db move before middle moves) second →
      WereHindered db before after past (deeds_of db move before middle moves ++ second)
  move_hindered (Begins txn heard) before middle after past second does none rest = absurd none
  move_hindered (States txn text heard) before middle after past second does met rest = by_first (To_do (txn_name txn) (State (before.table.version, does.statement)) does.asks.choice) before middle after past second does.asks.serves met rest
  move_hindered (Commits txn heard) before middle after past second does met rest = by_first (To_do (txn_name txn) Commit_call does.choice) before middle after past second does.serves met rest
  move_hindered (Rolls_back txn heard) before middle after past second does met rest = by_first (To_do (txn_name txn) Rollback does.choice) before middle after past second does.serves met rest
  move_hindered (Refragments text came) before middle after past second never none rest = absurd never
  move_hindered (Refuses asked_for told) before middle after past second refused none rest = absurd none

  -- moves of which one met a refusal
  pub made_hindered : (moves : List Move) (before after : Machines) (past : List (Deed (language db))) (made : Made db moves before after) → SomeHindered db moves before after past made → WereHindered db before after past (deeds_in db moves before after made)
  made_hindered [] before after past same none = absurd none
  made_hindered (move ∷ moves) before after past made some =
      let first = deeds_of db move before made.0 made.1 in
      let second = deeds_in db moves made.0 after made.2 in
      let one = move_led move before made.0 past made.1 in
      ⊎_elim
      (λ here. move_hindered move before made.0 after past second made.1 here (made_led moves made.0 after (past ++ first) made.2))
      (λ there.
      let later = made_hindered moves made.0 after (past ++ first) made.2 there in
      record {
        front = one.calls ++ later.front;
        call = later.call;
        comings = later.comings;
        back = later.back;
        led = subst (λ (calls : List (Ask (language db) × List (Coming (language db)))). all_served calls (world_of db before [] past) ≡ world_of db after [] (past ++ (first ++ second))) (sym (append_assoc one.calls later.front ((later.call, later.comings) ∷ later.back)))
            (then_led before made.0 after past first second one.calls (later.front ++ (later.call, later.comings) ∷ later.back) one.led later.led);
        met = subst (λ (w : World (language db)). SomeHinder (HaveRefused before.refused after.refused) later.comings (asked later.call w)) (sym (both_served one.calls later.front (world_of db before [] past) ∙ ap (all_served later.front) one.led))
            (hinder_so (λ refused. refused_since before.refused made.0.refused after.refused one.counts refused) later.comings (asked later.call (all_served later.front (world_of db made.0 [] (past ++ first)))) later.met);
      })
      some

  -- ---- why moves were refused
  module _ (law : ReachedLaw (language db)) (whole : Relations) (past all : List (Deed (language db))) where
    move_reason : (move : Move) (machines after : Machines) (done left : List (Deed (language db))) → all ≡ done ++ left → IsServed db whole machines (past ++ done) → Moves db move machines after → HasItsReason db whole past all move
    move_reason (Begins txn heard) machines after done left split served does = tt
    move_reason (States txn text heard) machines after done left split served does = tt
    move_reason (Commits txn heard) machines after done left split served does = tt
    move_reason (Rolls_back txn heard) machines after done left split served does = tt
    move_reason (Refragments text came) machines after done left split served never = absurd never
    move_reason (Refuses asked_for told) machines after done left split served refused = inr (record { machines = machines; done = done; left = left; split = split; served = listed_served db whole machines (past ++ done) served; reason = refused.0 })

    pub made_reasons : (moves : List Move) (machines after : Machines) (done : List (Deed (language db))) (made : Made db moves machines after) → all ≡ done ++ deeds_in db moves machines after made → IsServed db whole machines (past ++ done) → AllByRecursion (HasItsReason db whole past all) moves
    made_reasons [] machines after done same split served = tt
    made_reasons (move ∷ moves) machines after done made split served =
        let first = deeds_of db move machines made.0 made.1 in
        let rest = deeds_in db moves made.0 after made.2 in (
          move_reason move machines made.0 done (first ++ rest) split served made.1,
          made_reasons moves made.0 after (done ++ first) made.2 (split ∙ sym (append_assoc done first rest)) (subst (IsServed db whole made.0) (append_assoc past done first) (move_served db whole law move machines made.0 (past ++ done) served made.1)),
        )
