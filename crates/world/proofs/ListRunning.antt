-- A step of the machines is one event more of a run, whichever catalogue comes into force.
use Rattle.std.proofs.Common.{◌≡◌, refl, sym, ap, ◌∙◌, subst, ℕ, nat_eq, Bool, true, List, [], ◌∷◌, ◌++◌, map, Some, slice_get}
use Rattle.std.specs.Cmp.Lexicographic.{pointwise}
use Rattle.std.specs.List.{filter_map, list_any}
use Rattle.meaning.specs.Whole.{Relations}
use Rattle.meaning.specs.declared.statement.Statement.TheVariants as kinds
use Rattle.store.specs.declared.letter.Letter as letters
use Rattle.store.specs.declared.name.Txn as names
use Rattle.protocol.specs.Accepted.{IsAccepted, stated_of}
use Rattle.protocol.specs.Desk.{Choice, Commit_call, Deed, Give_up, Idle, Known, Request, Rollback, State, fresh_as, next_txn, on_state}
use Rattle.protocol.specs.Language.{Name}
use Rattle.protocol.specs.Letter.{is_for_desk}
use Rattle.protocol.specs.Letters.{name_of, txn_name}
use Rattle.protocol.specs.Serial.{phases_of}
use Rattle.protocol.specs.Site.{on_give_up, site_after, site_restarted}
use Rattle.protocol.specs.World as world
use Rattle.protocol.specs.World.{World, begins, called, comes, delivered, first_turn, gives_up, happens, inquires, may_ask, may_begin, may_move, refragments, restarts}
use Rattle.protocol.proofs.Basics.{if_true}
use Rattle.desk.specs.Database.{Database, language, sent}
use Rattle.desk.specs.Request.{txn_in}
use Rattle.desk.specs.declared.reply.Notice.{Notice}
use Rattle.desk.specs.declared.reply.Out.{Out}
use Rattle.desk.specs.declared.reply.Reply.{Reply}
use Rattle.desk.specs.declared.reply.Reply.TheVariants.{Begun}
use Rattle.desk.specs.State.{desk_of, notice_of}
use Rattle.desk.specs.Transition.{told}
use Rattle.world.specs.declared.sites.SiteAction as doing
use Rattle.world.specs.declared.sites.SiteAction.TheVariants.{GiveUp, Inquire, Restart, Take}
use Rattle.world.specs.declared.event.Call.TheVariants as call
use Rattle.world.specs.declared.event.Entry.{Entry}
use Rattle.world.specs.declared.event.Event as events
use Rattle.world.specs.declared.event.Event.TheVariants as event
use Rattle.world.specs.Events.{IsEvent}
use Rattle.world.specs.EventApplied.{IsAtSite}
use Rattle.world.specs.Listed.{ListAsked, ListBegun, ListCame, ListLeads, ListMoved, ListStated}
use Rattle.world.specs.Machines.{Machines, happens_at, world_of}
use Rattle.world.specs.Posted.{letters_in}
use Rattle.world.specs.Replies.{AreStated, Shows, phased_by, text_by}
use Rattle.world.specs.Runs.{IsRun, StepsOn, entry_of}
use Rattle.world.specs.Seated.{place_of}
use Rattle.world.proofs.Shown.{IsSilent, commit_shows, give_up_silent, rollback_silent, state_shows}
use Rattle.world.proofs.Reasoned.{same_passes}
use Rattle.world.proofs.Running.{goes_by, sent_at}
use Rattle.world.proofs.Told.{at_site_silent, begins_silent, comes_silent, quiet_step}

-- ---- what each event shows
silent_list : (db : Database) (before after : Machines) (out : List letters.Letter) (notices : List Notice) (what : events.Event) (step : World (language db) → World (language db)) (leads : ListLeads db step before after out notices) →
    phased_by what ≡ [] → text_by what notices ≡ [] → IsSilent (step (world_of db before [] [])).past → Shows db what notices leads.deeds
silent_list db before after out notices what step leads no_phase no_text silent = quiet_step db what notices leads.deeds no_phase no_text (subst IsSilent (ap (λ (w : World (language db)). w.past) (leads.is [] [])) silent)

-- ---- events
pub list_runs_on : (db : Database) (whole : Relations) (before after : Machines) (entries : List Entry) (past : List (Deed (language db))) (what : events.Event) (out : Out) (step : World (language db) → World (language db)) (e : world.Event (language db)) →
    IsRun db whole before entries past → (leads : ListLeads db step before after out.letters out.replies) → happens (world_of db before (map (sent db) (letters_in entries)) past) e ≡ step (world_of db before (map (sent db) (letters_in entries)) past) →
    IsEvent db before.table.version what out.kept e → IsAccepted (world_of db before (map (sent db) (letters_in entries)) past) e → Shows db what out.replies leads.deeds → StepsOn db whole before after entries (entries ++ entry_of what out ∷ []) past
list_runs_on db whole before after entries past what out step e so leads event is_event accepted shows =
    goes_by db whole before after entries past what out step e so leads.deeds leads.fit leads.is leads.placed leads.explained leads.replies event is_event accepted shows

pub list_restarts_on : (db : Database) (whole : Relations) (before after : Machines) (entries : List Entry) (past : List (Deed (language db))) (what : events.Event) (out : Out) (step : World (language db) → World (language db)) (e : world.Event (language db)) →
    IsRun db whole before entries past → (leads : ListLeads db step before after out.letters out.replies) → happens (world_of db before (map (sent db) (letters_in entries)) past) e ≡ step (world_of db before (map (sent db) (letters_in entries)) past) →
    IsEvent db before.table.version what out.kept e → IsAccepted (world_of db before (map (sent db) (letters_in entries)) past) e → phased_by what ≡ [] → text_by what out.replies ≡ [] → IsSilent (step (world_of db before [] [])).past → StepsOn db whole before after entries (entries ++ entry_of what out ∷ []) past
list_restarts_on db whole before after entries past what out step e so leads event is_event accepted no_phase no_text silent =
    list_runs_on db whole before after entries past what out step e so leads event is_event accepted (silent_list db before after out.letters out.replies what step leads no_phase no_text silent)

pub list_begins_on : (db : Database) (whole : Relations) (before after : Machines) (entries : List Entry) (past : List (Deed (language db))) (out : Out) → IsRun db whole before entries past → ListBegun db before after out.letters out.replies →
    StepsOn db whole before after entries (entries ++ entry_of (event.Call call.Begin) out ∷ []) past
list_begins_on db whole before after entries past out so begun =
    let w = world_of db before (map (sent db) (letters_in entries)) past in
    list_runs_on db whole before after entries past (event.Call call.Begin) out begins world.Begin so begun.leads (if_true (may_begin w) (begins w) w begun.may) refl (begun.may, begun.within)
    (silent_list db before after out.letters out.replies (event.Call call.Begin) begins begun.leads refl refl (begins_silent (world_of db before [] []) refl))

list_called_on : (db : Database) (whole : Relations) (before after : Machines) (entries : List Entry) (past : List (Deed (language db))) (what : events.Event) (out : Out) (txn : names.Txn) (choice : Choice (language db)) (request : Request (language db)) →
    IsRun db whole before entries past → (asked : ListAsked db txn choice request before after out.letters out.replies) → IsEvent db before.table.version what out.kept (world.Call (txn_name txn) request choice) → Shows db what out.replies asked.leads.deeds → StepsOn db whole before after entries (entries ++ entry_of what out ∷ []) past
list_called_on db whole before after entries past what out txn choice request so asked is shows =
    let w = world_of db before (map (sent db) (letters_in entries)) past in
    let may = same_may request asked.may in
    list_runs_on db whole before after entries past what out (λ w. called w (txn_name txn) choice request) (world.Call (txn_name txn) request choice) so asked.leads
    (if_true (may_ask w (txn_name txn) request) (called w (txn_name txn) choice request) w may) is (may, asked.accepted, asked.within) shows
  where
    -- whatever waits and whatever happened
    same_may : (request : Request (language db)) → may_ask (world_of db before [] []) (txn_name txn) request ≡ true → may_ask (world_of db before (map (sent db) (letters_in entries)) past) (txn_name txn) request ≡ true
    same_may (State s) may = may
    same_may Commit_call may = may
    same_may Rollback may = may
    same_may Give_up may = may

pub list_commits_on : (db : Database) (whole : Relations) (before after : Machines) (entries : List Entry) (past : List (Deed (language db))) (out : Out) (txn : names.Txn) (choice : Choice (language db)) → IsRun db whole before entries past → ListAsked db txn choice Commit_call before after out.letters out.replies →
    StepsOn db whole before after entries (entries ++ entry_of (event.Call (call.Commit txn)) out ∷ []) past
list_commits_on db whole before after entries past out txn choice so asked =
    let shown = commit_shows (txn_name txn) choice (txn_in db before.table txn) asked.accepted in
    list_called_on db whole before after entries past (event.Call (call.Commit txn)) out txn choice Commit_call so asked (choice, refl) (record {
      phased = sym shown.0 ∙ ap phases_of (sym asked.all);
      stated = subst (AreStated db []) (sym (ap stated_of asked.all ∙ shown.1)) tt;
    })

pub list_rolls_on : (db : Database) (whole : Relations) (before after : Machines) (entries : List Entry) (past : List (Deed (language db))) (out : Out) (txn : names.Txn) (choice : Choice (language db)) → IsRun db whole before entries past → ListAsked db txn choice Rollback before after out.letters out.replies →
    StepsOn db whole before after entries (entries ++ entry_of (event.Call (call.Rollback txn)) out ∷ []) past
list_rolls_on db whole before after entries past out txn choice so asked =
    list_called_on db whole before after entries past (event.Call (call.Rollback txn)) out txn choice Rollback so asked (choice, refl)
    (quiet_step db (event.Call (call.Rollback txn)) out.replies asked.leads.deeds refl refl (subst IsSilent (sym asked.all) (rollback_silent (txn_name txn) choice (txn_in db before.table txn))))

pub list_gives_on : (db : Database) (whole : Relations) (before after : Machines) (entries : List Entry) (past : List (Deed (language db))) (out : Out) (txn : names.Txn) (choice : Choice (language db)) → IsRun db whole before entries past → ListAsked db txn choice Give_up before after out.letters out.replies →
    StepsOn db whole before after entries (entries ++ entry_of (event.Call (call.GiveUp txn)) out ∷ []) past
list_gives_on db whole before after entries past out txn choice so asked =
    list_called_on db whole before after entries past (event.Call (call.GiveUp txn)) out txn choice Give_up so asked (choice, refl)
    (quiet_step db (event.Call (call.GiveUp txn)) out.replies asked.leads.deeds refl refl (subst IsSilent (sym asked.all) (give_up_silent (txn_name txn) choice (txn_in db before.table txn))))

pub list_states_on : (db : Database) (whole : Relations) (before after : Machines) (entries : List Entry) (past : List (Deed (language db))) (out : Out) (txn : names.Txn) (text : List ℕ) → IsRun db whole before entries past → ListStated db txn text before after out.letters out.replies →
    StepsOn db whole before after entries (entries ++ entry_of (event.Call (call.State txn text)) out ∷ []) past
list_states_on db whole before after entries past out txn text so stated =
    let asked = stated.asked in
    let shown = state_shows (txn_name txn) (before.table.version, stated.statement) stated.choice (txn_in db before.table txn) asked.accepted in
    list_called_on db whole before after entries past (event.Call (call.State txn text)) out txn stated.choice (State (before.table.version, stated.statement)) so asked (stated.statement, stated.choice, (stated.spelled, refl)) (record {
      phased = sym shown.0 ∙ ap phases_of (sym asked.all);
      stated = subst (AreStated db ((txn, text) ∷ [])) (sym (ap stated_of asked.all ∙ shown.1)) ((refl, stated.spelled), tt);
    })

-- ---- letters
pub list_comes_on : (db : Database) (whole : Relations) (before after : Machines) (entries : List Entry) (past : List (Deed (language db))) (out : Out) (n : ℕ) (letter : letters.Letter) (kept : Bool) →
    IsRun db whole before entries past → slice_get (letters_in entries) n ≡ Some letter → ListCame db letter out.kept before after out.letters out.replies → StepsOn db whole before after entries (entries ++ entry_of (event.Deliver n kept) out ∷ []) past
list_comes_on db whole before after entries past out n letter kept so there came =
    let step : World (language db) → World (language db) = λ w. comes w out.kept came.choice (sent db letter) in
    list_runs_on db whole before after entries past (event.Deliver n kept) out step (world.Deliver n out.kept came.choice) so came.leads
    (ap (delivered (world_of db before (map (sent db) (letters_in entries)) past) out.kept came.choice) (sent_at db (letters_in entries) n letter there)) (came.choice, refl)
    (sent db letter, (sent_at db (letters_in entries) n letter there, same_passes db (is_for_desk (sent db letter).body) before (map (sent db) (letters_in entries)) past out.kept came.choice (sent db letter) ∙ came.within))
    (silent_list db before after out.letters out.replies (event.Deliver n kept) step came.leads refl refl (comes_silent (world_of db before [] []) out.kept came.choice (sent db letter) refl))

-- ---- what happens at a site
pub list_done_on : (db : Database) (whole : Relations) (before after : Machines) (entries : List Entry) (past : List (Deed (language db))) (what : doing.SiteAction) (at : events.Event) (kept : Bool) (out : Out) (choice : Choice (language db)) →
    IsAtSite what kept at → ((site : List ℕ) → what ≡ Restart site → kept ≡ true) → list_any (λ site. pointwise nat_eq site (place_of what)) db.sites ≡ true → IsRun db whole before entries past → ListLeads db (happens_at db what out.kept choice) before after out.letters out.replies →
    StepsOn db whole before after entries (entries ++ entry_of at out ∷ []) past
list_done_on db whole before after entries past (Take letter) at kept out choice is called there so leads = absurd is
list_done_on db whole before after entries past (GiveUp site ticket) at kept out choice is called there so leads =
    let w = world_of db before (map (sent db) (letters_in entries)) past in
    let bare = world_of db before [] [] in
    let step : World (language db) → World (language db) = λ w. gives_up w site (name_of ticket) in
    subst (λ e. StepsOn db whole before after entries (entries ++ entry_of e out ∷ []) past) (sym is)
    (list_runs_on db whole before after entries past (event.SiteGivesUp site ticket) out step (world.Site_gives_up site (name_of ticket)) so leads (if_true (list_any (λ b. pointwise nat_eq b site) db.sites) (step w) w there) refl there
    (silent_list db before after out.letters out.replies (event.SiteGivesUp site ticket) step leads refl refl (at_site_silent bare site (site_after (bare.sites site) (on_give_up (name_of ticket) ((bare.sites site).status (name_of ticket)))) [] refl)))
list_done_on db whole before after entries past (Inquire site) at kept out choice is called there so leads =
    let w = world_of db before (map (sent db) (letters_in entries)) past in
    let step : World (language db) → World (language db) = λ w. inquires w site in
    subst (λ e. StepsOn db whole before after entries (entries ++ entry_of e out ∷ []) past) (sym is)
    (list_runs_on db whole before after entries past (event.SiteInquires site) out step (world.Site_inquires site) so leads (if_true (list_any (λ b. pointwise nat_eq b site) db.sites) (step w) w there) refl there
    (silent_list db before after out.letters out.replies (event.SiteInquires site) step leads refl refl (refl, refl)))
list_done_on db whole before after entries past (Restart site) at kept out choice is called there so leads =
    let w = world_of db before (map (sent db) (letters_in entries)) past in
    let bare = world_of db before [] [] in
    let step : World (language db) → World (language db) = λ w. restarts w site in
    let restarted : at ≡ event.SiteRestarts site true = is ∙ ap (event.SiteRestarts site) (called site refl) in
    subst (λ e. StepsOn db whole before after entries (entries ++ entry_of e out ∷ []) past) (sym restarted)
    (list_runs_on db whole before after entries past (event.SiteRestarts site true) out step (world.Site_restarts site true) so leads (if_true (list_any (λ b. pointwise nat_eq b site) db.sites) (step w) w there) refl (there, refl)
    (silent_list db before after out.letters out.replies (event.SiteRestarts site true) step leads refl refl (at_site_silent bare site (site_restarted (bare.sites site)) [] refl)))

-- ---- a relation gets another split
-- the first turn of who moves: it states its statement, and is in no first phase
moved_shows : (db : Database) (t : Name) (s : (language db).Statement) (choice : Choice (language db)) → (phases_of (on_state {L = language db} t (fresh_as true) s choice Idle).deeds ≡ []) × (stated_of (on_state {L = language db} t (fresh_as true) s choice Idle).deeds ≡ (t, s) ∷ [])
moved_shows db t s choice = state_shows {L = language db} t s choice (Known (fresh_as true)) refl

pub list_moves_on : (db : Database) (whole : Relations) (before after : Machines) (entries : List Entry) (past : List (Deed (language db))) (out : Out) (text : List ℕ) → IsRun db whole before entries past → ListMoved db text before after out.letters out.replies →
    StepsOn db whole before after entries (entries ++ entry_of (event.Call (call.Refragment text)) out ∷ []) past
list_moves_on db whole before after entries past out text so moved =
    let w = world_of db before (map (sent db) (letters_in entries)) past in
    let s : (language db).Statement = (before.table.version, kinds.Refragment moved.refragment) in
    let t = next_txn (desk_of db before.table) in
    let shown = moved_shows db t s moved.choice in
    let what = event.Call (call.Refragment text) in
    let said : map notice_of out.replies ≡ (t, Begun) ∷ filter_map (told db) (first_turn (world_of db before [] []) s moved.choice).deeds = moved.leads.replies ∙ ap (filter_map (told db)) moved.all in
    list_runs_on db whole before after entries past what out (λ w. refragments w s moved.choice) (world.Refragment s moved.choice) so moved.leads (if_true (may_move w s) (refragments w s moved.choice) w moved.may)
    (moved.refragment, moved.choice, (moved.spelled, refl)) (moved.may, moved.begun_within, moved.within) (record {
      phased = sym shown.0 ∙ ap phases_of (sym moved.all);
      stated = subst (AreStated db (text_by what out.replies)) (sym (ap stated_of moved.all ∙ shown.1)) (first_named out.replies said);
    })
  where
    -- the first reply names the transaction that has begun
    first_named : (heard : List Notice) {rest : List (Name × Reply)} → map notice_of heard ≡ (next_txn (desk_of db before.table), Begun) ∷ rest →
        AreStated db (text_by (event.Call (call.Refragment text)) heard) ((next_txn (desk_of db before.table), (before.table.version, kinds.Refragment moved.refragment)) ∷ [])
    first_named [] e = absurd (cc)
    first_named (first ∷ heard) e = ((named, moved.spelled), tt)
      where
        named : txn_name first.txn ≡ next_txn (desk_of db before.table)
        named = let is : (txn_name first.txn, first.reply) ≡ (next_txn (desk_of db before.table), Begun) = cc in ap (λ (pair : Name × Reply). pair.0) is
