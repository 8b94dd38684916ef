-- What one client does leads from reached worlds to reached worlds.
use Rattle.std.proofs.Common.{◌≡◌, refl, sym, subst, ℕ, Bool, true, false, List, [], ◌∷◌, ◌++◌, append_assoc, if◌then◌else◌, Result, Ok, Err, IfOk, OnErr, inl, inr}
use Rattle.std.proofs.lemmas.List.{append-nil}
use Rattle.meaning.specs.Whole.{Relations}
use Rattle.protocol.specs.Client.{first, rest_of, IsReached, ReachedLaw}
use Rattle.protocol.specs.Desk.{Choice, Deed, Give_up, Transition, desk_after, is_desk_within}
use Rattle.protocol.specs.Language.{Lang, Name}
use Rattle.protocol.specs.Letter.{Letter, is_for_desk}
use Rattle.protocol.specs.Serial.{AllExplained, Explained}
use Rattle.protocol.specs.Site.{SiteState, is_within, on_letter, said, site_after}
use Rattle.protocol.specs.World.{World, addressed, comes_to, site_steps, turned, turns, with_site}
use Rattle.desk.specs.declared.reply.Notice.{Notice}
use Rattle.desk.specs.declared.reply.Out.{Out}
use Rattle.desk.specs.Database.{Database, language}
use Rattle.world.proofs.InForce.{asks_in_force, begins_in_force}
use Rattle.world.specs.Counted.{NoFewer}
use Rattle.world.specs.Mailbox.{Ask, AsksForNow, Breaks, Coming, Fails, Goes, Passed_over, Serves, Taken, To_begin, To_do, Turned_away, all_come, asked, come, first_comes, settled}
use Rattle.world.specs.Machines.{AreFit, Leads, Machines, world_of}
use Rattle.world.specs.Client.{IsServed, IsServedOn}
use Rattle.world.specs.Taking.{put_out_by}
use Rattle.world.proofs.Deliveries.{call_fails, call_serves}
use Rattle.world.proofs.Running.{all_both}

module _ {L : Lang} where
  -- deeds before others are explained where all are
  pub explained_front : (past deeds : List (Deed L)) → AllExplained (past ++ deeds) → AllExplained past
  explained_front [] deeds all = tt
  explained_front (d ∷ past) deeds all = (all.0, explained_front past deeds all.1)

  turns_explained : (w : World L) (t : Name) (turn : Transition L) → AllExplained (turns w t turn).past → AllExplained w.past
  turns_explained w t turn = go (is_desk_within (desk_after w.desk t turn.txn))
    where
      go : (b : Bool) → AllExplained (if b then turned w t turn else w).past → AllExplained w.past
      go true all = explained_front w.past turn.deeds all
      go false all = all

  steps_explained : (w : World L) (a : L.Site) (s : SiteState L) (letters : List (Letter L)) → AllExplained (site_steps w a s letters).past → AllExplained w.past
  steps_explained w a s letters = go (is_within s)
    where
      go : (b : Bool) → AllExplained (if b then with_site w a s letters else w).past → AllExplained w.past
      go true all = all
      go false all = all

  comes_explained : (b : Bool) (w : World L) (kept : Bool) (choice : Choice L) (l : Letter L) → AllExplained (comes_to b w kept choice l).past → AllExplained w.past
  comes_explained true w kept choice l = turns_explained w l.txn _
  comes_explained false w kept choice l = let act = on_letter (w.sites l.site) l.txn kept l.body in steps_explained w l.site (site_after (w.sites l.site) act) (addressed l.site l.txn (said (w.sites l.site) act))

  come_explained : (w : World L) (c : Coming L) (letters : List (Letter L)) → AllExplained (first_comes w c letters).past → AllExplained w.past
  come_explained w c [] all = all
  come_explained w (Taken kept choice) (l ∷ q) all = comes_explained (is_for_desk l.body) (record w { letters = q }) kept choice l all
  come_explained w (Turned_away choice) (l ∷ q) all = turns_explained (record w { letters = q }) l.txn _ all
  come_explained w Passed_over (l ∷ q) all = all

  pub all_explained : (cs : List (Coming L)) (w : World L) → AllExplained (all_come cs w).past → AllExplained w.past
  all_explained [] w all = all
  all_explained (c ∷ cs) w all = come_explained w c w.letters (all_explained cs (come w c) all)

  module _ (law : ReachedLaw L) (whole : L.Whole) where
    lost_first : (w : World L) (l : Letter L) (q : List (Letter L)) → w.letters ≡ l ∷ q → IsReached whole w → IsReached whole (record w { letters = q })
    lost_first w l q e reached = subst (λ (ls : List (Letter L)). IsReached whole (record w { letters = rest_of ls })) e (law.lost whole w reached)

    come_reached : (w : World L) (c : Coming L) → IsReached whole w → AllExplained (come w c).past → IsReached whole (come w c)
    come_reached w c reached = go c w.letters refl
      where
        go : (c : Coming L) (letters : List (Letter L)) → w.letters ≡ letters → AllExplained (first_comes w c letters).past → IsReached whole (first_comes w c letters)
        go c [] e all = reached
        go (Taken kept choice) (l ∷ q) e all = subst (λ (ls : List (Letter L)). AllExplained (first w kept choice ls).past → IsReached whole (first w kept choice ls)) e (law.came whole w kept choice reached) all
        go (Turned_away choice) (l ∷ q) e all = law.asked whole (record w { letters = q }) l.txn choice Give_up (lost_first w l q e reached) refl all
        go Passed_over (l ∷ q) e all = lost_first w l q e reached

    pub all_reached : (cs : List (Coming L)) (w : World L) → IsReached whole w → AllExplained (all_come cs w).past → IsReached whole (all_come cs w)
    all_reached [] w reached all = reached
    all_reached (c ∷ cs) w reached all = all_reached cs (come w c) (come_reached w c reached (all_explained cs (come w c) all)) all

    -- letters that are let go
    pub emptied : (w : World L) (letters : List (Letter L)) → w.letters ≡ letters → IsReached whole w → IsReached whole (record w { letters = [] })
    emptied w [] e reached = subst (λ (ls : List (Letter L)). IsReached whole (record w { letters = ls })) e reached
    emptied w (l ∷ q) e reached = emptied (record w { letters = q }) q refl (lost_first w l q e reached)

-- ---- machines that serve
module _ (db : Database) (law : ReachedLaw (language db)) (whole : Relations) where
  -- n: the number of the catalogue at the opening
  pub asked_reached : (n : ℕ) (machines : Machines) → AreFit db machines → (past : List (Deed (language db))) (ask : Ask (language db)) → AsksForNow db machines.table.version ask → IsReached (n, whole) (world_of db machines [] past) → AllExplained (asked ask (world_of db machines [] past)).past →
      IsReached (n, whole) (asked ask (world_of db machines [] past))
  asked_reached n machines fit past To_begin now reached all = law.begun (n, whole) (world_of db machines [] past) reached (begins_in_force db machines fit.still [] past)
  asked_reached n machines fit past (To_do t request choice) now reached all = law.asked (n, whole) (world_of db machines [] past) t choice request reached (asks_in_force db machines fit.still [] past t request now) all

  -- a call, whatever letters have come since
  pub on_ask : (ask : Ask (language db)) (before after : Machines) (past deeds : List (Deed (language db))) (comings : List (Coming (language db))) (left : List (Letter (language db))) → AsksForNow db before.table.version ask → IsServed db whole before past → AllExplained deeds →
      all_come comings (asked ask (world_of db before [] past)) ≡ world_of db after left (past ++ deeds) → AreFit db after → IsServed db whole after (past ++ deeds)
  on_ask ask before after past deeds comings left now served explained is fit =
      let opened : (language db).Whole = (served.version, whole) in
      let w = world_of db before [] past in
      let all : AllExplained (past ++ deeds) = all_both Explained past deeds served.reached.explained explained in
      let all_here : AllExplained (all_come comings (asked ask w)).past = subst (λ (v : World (language db)). AllExplained v.past) (sym is) all in
      let here : IsReached opened (asked ask w) = asked_reached served.version before served.fit past ask now served.reached (all_explained comings (asked ask w) all_here) in
      record {
        version = served.version;
        reached = emptied law opened (world_of db after left (past ++ deeds)) left refl (subst (IsReached opened) is (all_reached law opened comings (asked ask w) here all_here));
        fit = fit;
      }

  pub serves_past : (ask : Ask (language db)) (before after : Machines) (heard : List Notice) (past : List (Deed (language db))) → AsksForNow db before.table.version ask → IsServed db whole before past → (serves : Serves db ask before after heard) → IsServed db whole after (past ++ serves.deeds)
  serves_past ask before after heard past now served serves = on_ask ask before after past serves.deeds serves.comings [] now served serves.explained (serves.is past) serves.fit

  pub serves_on : (ask : Ask (language db)) (before after : Machines) (heard : List Notice) (past : List (Deed (language db))) → AsksForNow db before.table.version ask → IsServed db whole before past → Serves db ask before after heard → IsServedOn db whole after past
  serves_on ask before after heard past now served goes = record { deeds = goes.deeds; served = serves_past ask before after heard past now served goes }

  pub same_on : (before after : Machines) (past : List (Deed (language db))) → IsServed db whole before past → after ≡ before → IsServedOn db whole after past
  same_on before after past served same = record { deeds = []; served = subst (λ (m : Machines). IsServed db whole m (past ++ [])) (sym same) (subst (IsServed db whole before) (sym (append-nil past)) served) }

  pub fails_on : (before after : Machines) (past : List (Deed (language db))) → IsServed db whole before past → Fails db before after → IsServedOn db whole after past
  fails_on before after past served (inl same) = same_on before after past served same
  fails_on before after past served (inr breaks) = let broke = breaks.2 in record { deeds = broke.deeds; served = on_ask breaks.0 before after past broke.deeds broke.comings broke.left breaks.1 served broke.explained (broke.is past) broke.fit }

  -- one call after another
  pub then_on : (before mid after : Machines) (past : List (Deed (language db))) → IsServedOn db whole mid past → ((more : List (Deed (language db))) → IsServed db whole mid more → IsServedOn db whole after more) → IsServedOn db whole after past
  then_on before mid after past one other =
      let two = other (past ++ one.deeds) one.served in
      record { deeds = one.deeds ++ two.deeds; served = subst (IsServed db whole after) (append_assoc past one.deeds two.deeds) two.served }

  -- a call and its letters, whether they went well or failed
  pub call_served : {T E : Type 0} (ask : Ask (language db)) (before mid after : Machines) (out : Out) (past : List (Deed (language db))) (result : Result T E) (items : T → List Notice) → AsksForNow db before.table.version ask → IsServed db whole before past → Leads db (asked ask) before mid out.letters out.replies → NoFewer before.refused mid.refused →
      IfOk result (λ x. Goes db (λ w. w) (put_out_by mid out) (settled after (items x))) → OnErr result (Breaks db (λ w. w) (put_out_by mid out) after) → IsServedOn db whole after past
  call_served ask before mid after out past (Ok x) items now served leads counts went failed = serves_on ask before after (items x) past now served (call_serves db ask before mid out leads counts after (items x) went)
  call_served ask before mid after out past (Err e) items now served leads counts went failed = fails_on before after past served (call_fails db ask before mid out leads counts now after failed)
