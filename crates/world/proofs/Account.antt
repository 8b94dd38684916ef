-- What a client asked for and heard tells what has happened to its database.
use Rattle.std.proofs.Common.{◌≡◌, refl, sym, ap, ap₂, ◌∙◌, subst, ℕ, Bool, true, false, List, [], ◌∷◌, ◌++◌, append_assoc, map, if◌then◌else◌}
use Rattle.std.proofs.lemmas.List.{append-nil}
use Rattle.std.proofs.lemmas.Grind.{flat_map-append}
use Rattle.store.specs.declared.name.Txn.{Txn}
use Rattle.protocol.specs.Accepted.{stated_by, stated_of}
use Rattle.protocol.specs.Client.{ReachedLaw}
use Rattle.protocol.specs.Desk.{Began, Choice, Commit_call, Deed, Give_up, Rollback, State, Transition, desk_after, is_desk_within, next_txn, on_desk_letter, on_request}
use Rattle.protocol.specs.Language.{Lang, Name}
use Rattle.protocol.specs.Letter.{Letter, is_for_desk}
use Rattle.protocol.specs.Letters.{txn_name}
use Rattle.protocol.specs.Serial.{phased_of, phases_of}
use Rattle.protocol.specs.Site.{is_within, on_letter, said as said_by_site, site_after}
use Rattle.protocol.specs.World.{World, addressed, begun, comes, comes_to, turned, turns, with_site}
use Rattle.protocol.proofs.Basics.{either}
use Rattle.desk.specs.declared.reply.Notice.{Notice}
use Rattle.desk.specs.Request.{txn_in}
use Rattle.desk.specs.Database.{Database, language}
use Rattle.desk.specs.State.{desk_of}
use Rattle.world.specs.declared.event.Call as calls
use Rattle.world.specs.declared.event.Call.TheVariants as call
use Rattle.world.specs.declared.event.Entry.{Entry}
use Rattle.world.specs.declared.event.Event.TheVariants as event
use Rattle.world.specs.Mailbox.{Ask, Coming, Passed_over, Serves, Taken, To_begin, To_do, Turned_away, all_come, asked, come, first_comes}
use Rattle.world.specs.Machines.{Machines, world_of}
use Rattle.world.specs.Client.{DoesAsk, DoesBegin, DoesState, ServedIsSerial}
use Rattle.world.specs.Commands.{MovesFollow}
use Rattle.world.specs.Course.{Begins, Commits, Made, Move, Moves, Refragments, Refuses, Rolls_back, States, deeds_in, deeds_of, said, said_in, said_of}
use Rattle.world.specs.Replies.{AreStated, Shows, Tells, phased_by, text_by}
use Rattle.world.proofs.Deeds.{made_served}
use Rattle.world.proofs.Heard.{serial_run}
use Rattle.world.proofs.Shown.{IsSilent, came_silent, commit_shows, give_up_silent, rollback_silent, state_shows}
use Rattle.world.proofs.Told.{tells_more}

-- ---- letters that come show neither a first phase nor a statement
module _ {L : Lang} where
  pub record Silently (w v : World L) : Type 0 where
    pub more : List (Deed L)
    pub is : v.past ≡ w.past ++ more
    pub silent : IsSilent more

  nothing : (w v : World L) → v.past ≡ w.past → Silently w v
  nothing w v same = record { more = []; is = same ∙ sym (append-nil w.past); silent = (refl, refl) }

  both_silent : (one other : List (Deed L)) → IsSilent one → IsSilent other → IsSilent (one ++ other)
  both_silent one other first second = (flat_map-append phased_of one other ∙ ap₂ (λ a b. a ++ b) first.0 second.0, flat_map-append stated_by one other ∙ ap₂ (λ a b. a ++ b) first.1 second.1)

  then_silently : (w v u : World L) → Silently w v → Silently v u → Silently w u
  then_silently w v u one two = record { more = one.more ++ two.more; is = two.is ∙ ap (λ past. past ++ two.more) one.is ∙ append_assoc w.past one.more two.more; silent = both_silent one.more two.more one.silent two.silent }

  turns_silently : (w : World L) (t : Name) (turn : Transition L) → IsSilent turn.deeds → Silently w (turns w t turn)
  turns_silently w t turn silent = either (Silently w) (is_desk_within (desk_after w.desk t turn.txn)) (turned w t turn) w (record { more = turn.deeds; is = refl; silent = silent }) (nothing w w refl)

  comes_silently : (w : World L) (kept : Bool) (choice : Choice L) (l : Letter L) → Silently w (comes w kept choice l)
  comes_silently w kept choice l = go (is_for_desk l.body)
    where
      go : (b : Bool) → Silently w (comes_to b w kept choice l)
      go true = turns_silently w l.txn (on_desk_letter l.txn l.site kept choice l.body (w.desk.txn l.txn)) (came_silent l.txn l.site kept choice l.body (w.desk.txn l.txn))
      go false =
          let act = on_letter (w.sites l.site) l.txn kept l.body in
          let moved = with_site w l.site (site_after (w.sites l.site) act) (addressed l.site l.txn (said_by_site (w.sites l.site) act)) in
          either (Silently w) (is_within (site_after (w.sites l.site) act)) moved w (nothing w moved refl) (nothing w w refl)

  first_silently : (w : World L) (c : Coming L) (letters : List (Letter L)) → Silently w (first_comes w c letters)
  first_silently w c [] = nothing w w refl
  first_silently w (Taken kept choice) (l ∷ q) = let one = comes_silently (record w { letters = q }) kept choice l in record { more = one.more; is = one.is; silent = one.silent }
  first_silently w (Turned_away choice) (l ∷ q) = let one = turns_silently (record w { letters = q }) l.txn (on_request l.txn choice Give_up (w.desk.txn l.txn)) (give_up_silent l.txn choice (w.desk.txn l.txn)) in record { more = one.more; is = one.is; silent = one.silent }
  first_silently w Passed_over (l ∷ q) = nothing w (record w { letters = q }) refl

  pub all_silently : (cs : List (Coming L)) (w : World L) → Silently w (all_come cs w)
  all_silently [] w = nothing w w refl
  all_silently (c ∷ cs) w = then_silently w (come w c) (all_come cs (come w c)) (first_silently w c w.letters) (all_silently cs (come w c))

-- ---- calls
module _ (db : Database) where
  -- what a call shows that does these deeds, with all letters
  with_letters : (ask : Ask (language db)) (what : calls.Call) (before after : Machines) (heard : List Notice) (serves : Serves db ask before after heard) (first : List (Deed (language db))) →
      (asked ask (world_of db before [] [])).past ≡ first → map txn_name (phased_by (event.Call what)) ≡ phases_of first → AreStated db (text_by (event.Call what) heard) (stated_of first) → Shows db (event.Call what) heard serves.deeds
  with_letters ask what before after heard serves first is phased stated =
      let w = world_of db before [] [] in
      let later = all_silently serves.comings (asked ask w) in
      let deeds : serves.deeds ≡ first ++ later.more = sym (ap (λ (v : World (language db)). v.past) (serves.is [])) ∙ later.is ∙ ap (λ past. past ++ later.more) is in
      subst (Shows db (event.Call what) heard) (sym deeds) (record {
        phased = phased ∙ sym (append-nil (phases_of first)) ∙ ap (λ rest. phases_of first ++ rest) (sym later.silent.0) ∙ sym (flat_map-append phased_of first later.more);
        stated = subst (AreStated db (text_by (event.Call what) heard)) (sym (flat_map-append stated_by first later.more ∙ ap (λ rest. stated_of first ++ rest) later.silent.1 ∙ append-nil (stated_of first))) stated;
      })

  turned_past : (before : Machines) (t : Name) (turn : Transition (language db)) → is_desk_within (desk_after (desk_of db before.table) t turn.txn) ≡ true → (turns (world_of db before [] []) t turn).past ≡ turn.deeds
  turned_past before t turn within = ap (λ (b : Bool). (if b then turned (world_of db before [] []) t turn else world_of db before [] []).past) within

  begin_shows : (before after : Machines) (txn : Txn) (heard : List Notice) (does : DoesBegin db before txn after heard) → Shows db (event.Call call.Begin) heard does.serves.deeds
  begin_shows before after txn heard does =
      with_letters To_begin call.Begin before after heard does.serves (Began (next_txn (desk_of db before.table)) ∷ [])
      (ap (λ (b : Bool). (if b then begun false (world_of db before [] []) else world_of db before [] []).past) does.within) refl tt

  pub commit_shown : (before after : Machines) (txn : Txn) (heard : List Notice) (does : DoesAsk db Commit_call txn before after heard) → Shows db (event.Call (call.Commit txn)) heard does.serves.deeds
  commit_shown before after txn heard does =
      let turn = on_request (txn_name txn) does.choice Commit_call (txn_in db before.table txn) in
      let shown = commit_shows (txn_name txn) does.choice (txn_in db before.table txn) does.accepted in
      with_letters (To_do (txn_name txn) Commit_call does.choice) (call.Commit txn) before after heard does.serves turn.deeds (turned_past before (txn_name txn) turn does.within) (sym shown.0) (subst (AreStated db []) (sym shown.1) tt)

  rollback_shown : (before after : Machines) (txn : Txn) (heard : List Notice) (does : DoesAsk db Rollback txn before after heard) → Shows db (event.Call (call.Rollback txn)) heard does.serves.deeds
  rollback_shown before after txn heard does =
      let turn = on_request (txn_name txn) does.choice Rollback (txn_in db before.table txn) in
      let shown = rollback_silent (txn_name txn) does.choice (txn_in db before.table txn) in
      with_letters (To_do (txn_name txn) Rollback does.choice) (call.Rollback txn) before after heard does.serves turn.deeds (turned_past before (txn_name txn) turn does.within) (sym shown.0) (subst (AreStated db []) (sym shown.1) tt)

  state_shown : (text : List ℕ) (before after : Machines) (txn : Txn) (heard : List Notice) (does : DoesState db text txn before after heard) → Shows db (event.Call (call.State txn text)) heard does.asks.serves.deeds
  state_shown text before after txn heard does =
      let turn = on_request (txn_name txn) does.asks.choice (State (before.table.version, does.statement)) (txn_in db before.table txn) in
      let shown = state_shows (txn_name txn) (before.table.version, does.statement) does.asks.choice (txn_in db before.table txn) does.asks.accepted in
      with_letters (To_do (txn_name txn) (State (before.table.version, does.statement)) does.asks.choice) (call.State txn text) before after heard does.asks.serves turn.deeds (turned_past before (txn_name txn) turn does.asks.within) (sym shown.0)
      (subst (AreStated db ((txn, text) ∷ [])) (sym shown.1) ((refl, does.spelled), tt))

  -- a call more is told
  pub told_more : (entries : List Entry) (past : List (Deed (language db))) → Tells db entries past → (what : calls.Call) (ask : Ask (language db)) (before after : Machines) (heard : List Notice) (serves : Serves db ask before after heard) → Shows db (event.Call what) heard serves.deeds →
      Tells db (entries ++ said what heard ∷ []) (past ++ serves.deeds)
  told_more entries past so what ask before after heard serves shows = tells_more db entries (said what heard) past serves.deeds so shows serves.replies

  none_more : (entries : List Entry) (past : List (Deed (language db))) → Tells db entries past → Tells db (entries ++ []) (past ++ [])
  none_more entries past so = subst (λ es. Tells db es (past ++ [])) (sym (append-nil entries)) (subst (Tells db entries) (sym (append-nil past)) so)

  pub begin_told : (before after : Machines) (txn : Txn) (heard : List Notice) (entries : List Entry) (past : List (Deed (language db))) → Tells db entries past → (does : DoesBegin db before txn after heard) → Tells db (entries ++ said call.Begin heard ∷ []) (past ++ does.serves.deeds)
  begin_told before after txn heard entries past so does = told_more entries past so call.Begin To_begin before after heard does.serves (begin_shows before after txn heard does)

  pub state_told : (text : List ℕ) (before after : Machines) (txn : Txn) (heard : List Notice) (entries : List Entry) (past : List (Deed (language db))) → Tells db entries past → (does : DoesState db text txn before after heard) →
      Tells db (entries ++ said (call.State txn text) heard ∷ []) (past ++ does.asks.serves.deeds)
  state_told text before after txn heard entries past so does =
      told_more entries past so (call.State txn text) (To_do (txn_name txn) (State (before.table.version, does.statement)) does.asks.choice) before after heard does.asks.serves (state_shown text before after txn heard does)

  pub rollback_told : (before after : Machines) (txn : Txn) (heard : List Notice) (entries : List Entry) (past : List (Deed (language db))) → Tells db entries past → (does : DoesAsk db Rollback txn before after heard) →
      Tells db (entries ++ said (call.Rollback txn) heard ∷ []) (past ++ does.serves.deeds)
  rollback_told before after txn heard entries past so does = told_more entries past so (call.Rollback txn) (To_do (txn_name txn) Rollback does.choice) before after heard does.serves (rollback_shown before after txn heard does)

  -- ---- moves
  move_told : (move : Move) (before after : Machines) (entries : List Entry) (past : List (Deed (language db))) → Tells db entries past → (moves : Moves db move before after) → Tells db (entries ++ said_of move) (past ++ deeds_of db move before after moves)
  move_told (Begins txn heard) before after entries past so does = begin_told before after txn heard entries past so does
  move_told (States txn text heard) before after entries past so does = state_told text before after txn heard entries past so does
  move_told (Commits txn heard) before after entries past so does =
      told_more entries past so (call.Commit txn) (To_do (txn_name txn) Commit_call does.choice) before after heard does.serves (commit_shown before after txn heard does)
  move_told (Rolls_back txn heard) before after entries past so does = rollback_told before after txn heard entries past so does
  move_told (Refragments text came) before after entries past so never = absurd never
  move_told (Refuses asked told) before after entries past so refused = none_more entries past so

  pub made_told : (moves : List Move) (before after : Machines) (entries : List Entry) (past : List (Deed (language db))) → Tells db entries past → (made : Made db moves before after) → Tells db (entries ++ said_in moves) (past ++ deeds_in db moves before after made)
  made_told [] before after entries past so same = none_more entries past so
  made_told (move ∷ moves) before after entries past so made =
      let first = deeds_of db move before made.0 made.1 in
      let rest = deeds_in db moves made.0 after made.2 in
      subst (λ es. Tells db es (past ++ (first ++ rest))) (append_assoc entries (said_of move) (said_in moves))
      (subst (Tells db ((entries ++ said_of move) ++ said_in moves)) (append_assoc past first rest)
      (made_told moves made.0 after (entries ++ said_of move) (past ++ first) (move_told move before made.0 entries past so made.1) made.2))

-- ---- the law
pub moves_follow : (db : Database) → ReachedLaw (language db) → ServedIsSerial db → MovesFollow db
moves_follow db reached law = record {
  served = λ whole moves before after past served made. made_served db whole reached moves before after past served made;
  tells = λ moves before after entries past so made. made_told db moves before after entries past so made;
  serial = λ whole machines entries past so served.
      let serial = law whole machines past served in
      serial_run db whole machines entries past so (record { answers = serial.answers; rebuilt = serial.rebuilt });
}
