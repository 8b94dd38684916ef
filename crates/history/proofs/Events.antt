-- An entry of a history that was accepted is one event more of a run over a list of catalogues; a refused one is none.
use Rattle.std.proofs.Common.{◌≡◌, ◌≢◌, refl, sym, ap, ◌∙◌, subst, ℕ, zero, suc, nat_eq, true, List, [], ◌∷◌, ◌++◌, append-nil, Option, Some, None, slice_get}
use Rattle.std.specs.Cmp.Lexicographic.{pointwise}
use Rattle.std.specs.List.{list_any}
use Rattle.meaning.specs.Whole.{Relations}
use Rattle.store.specs.declared.letter.Letter.{Letter}
use Rattle.store.specs.declared.name.Txn as txns
use Rattle.store.specs.declared.reply.Reply.{Reply}
use Rattle.store.specs.declared.letter.Body.TheVariants as body
use Rattle.protocol.specs.Desk.{Commit_call, Deed, Give_up, Request, Rollback, State, Transition, is_desk_within, on_desk_letter, on_request}
use Rattle.protocol.specs.Home.{AsksHomed}
use Rattle.protocol.specs.Letters.{kept_in, txn_name}
use Rattle.protocol.specs.Serial.{AllExplained}
use Rattle.protocol.specs.World.{Desk_restarts, comes, desk_restarts, may_ask}
use Rattle.protocol.proofs.Basics.{any_in, in_at, some_is}
use Rattle.protocol.proofs.Homed.{turn_homed}
use Rattle.desk.specs.declared.reply.Out.{Out}
use Rattle.desk.specs.Database.{Database, IsPlace, language, replied, sent}
use Rattle.desk.specs.Does.{Takes}
use Rattle.desk.specs.Request.{txn_in}
use Rattle.site.specs.Seat.{Seat}
use Rattle.world.specs.declared.event.Call.TheVariants as call
use Rattle.world.specs.declared.event.Entry as world
use Rattle.world.specs.declared.event.Event as events
use Rattle.world.specs.declared.event.Event.TheVariants as event
use Rattle.world.specs.declared.fault.Fault.{Fault}
use Rattle.world.specs.declared.sites.SiteAction.{SiteAction}
use Rattle.world.specs.declared.sites.SiteAction.TheVariants as action
use Rattle.world.specs.EventApplied.{IsAtSite}
use Rattle.world.specs.Listed.{ListAsked, ListCame}
use Rattle.world.specs.Machines.{Machines, is_for_site, world_of}
use Rattle.world.specs.Posted.{letters_in}
use Rattle.world.specs.Runs.{IsRun, RunsOn, StepsOn, entry_of}
use Rattle.world.specs.Seated.{SeatDoes, SomeSeatDoes, place_of}
use Rattle.world.specs.Sites.{reseated, seat_of}
use Rattle.world.proofs.Ends.{commit_explained, give_up_explained, rollback_explained}
use Rattle.world.proofs.ListRunning.{list_begins_on, list_comes_on, list_commits_on, list_done_on, list_gives_on, list_moves_on, list_restarts_on, list_rolls_on, list_states_on}
use Rattle.world.proofs.Listing.{list_asked, list_begin, list_moved, list_restart, list_turn_leads, may_begin_where, may_state}
use Rattle.world.proofs.Machinery.{comes_is, list_put_out, list_within, placed_after, reply_of}
use Rattle.world.proofs.Placed.{stands_placed}
use Rattle.world.proofs.Reasoned.{no_choice, passes_is}
use Rattle.world.proofs.RunGoesOn.{runs_same}
use Rattle.world.proofs.Seating.{name_self, reseated_same}
use Rattle.world.proofs.Told.{desk_restarts_silent, one_more}
use Rattle.catalog.specs.declared.relation.SplitRelation.{SplitRelation}
use Rattle.history.specs.declared.entry.Entry.{Entry}
use Rattle.history.specs.declared.entry.Input as inputs
use Rattle.history.specs.declared.entry.Input.TheVariants as input
use Rattle.history.specs.Brought.{IsBroughtAt, event_of, happened_as, happened_by, named_event, out_of, site_event}
use Rattle.history.specs.DeskHistory.{Asks, DeskAnswers, DeskDoes, DeskState}
use Rattle.history.specs.SiteHistory.{SiteAnswers, action_of}
use Rattle.history.proofs.Opens.{machines_over}

-- a run goes on by what happened in an act, and the letters that were sent are those from before and the entry's
pub record Goes (db : Database) (whole : Relations) (after : Machines) (entries : List world.Entry) (past : List (Deed (language db))) (entry : Entry) (happened : List world.Entry) : Type 0 where
  pub runs : RunsOn db whole after (entries ++ happened) past
  pub letters : letters_in (entries ++ happened) ≡ letters_in entries ++ entry.letters

module _ (db : Database) (whole : Relations) (before : Machines) (entries : List world.Entry) (past : List (Deed (language db))) (entry : Entry) (so : IsRun db whole before entries past) where
  -- by an event more
  steps : (after : Machines) (what : events.Event) → StepsOn db whole before after entries (entries ++ entry_of what (out_of entry) ∷ []) past → Goes db whole after entries past entry (happened_as entry (Some what))
  steps after what on = record { runs = record { deeds = on.deeds; run_on = on.run_on }; letters = one_more (λ (e : world.Entry). e.out.letters) entries (entry_of what (out_of entry)) }

  -- by none
  stands : (after : Machines) → after ≡ before → entry.letters ≡ [] → Goes db whole after entries past entry []
  stands after same none = record {
    runs = runs_same db whole before after entries (entries ++ []) past so same (append-nil entries);
    letters = ap letters_in (append-nil entries) ∙ sym (append-nil (letters_in entries)) ∙ ap (λ (letters : List Letter). letters_in entries ++ letters) (sym none);
  }

-- ---- the coordinator; later: the same catalogues at each step, of which there is one, so that nobody is asked to stand still
module _ (db : Database) (later : List (List (List ℕ) × List SplitRelation)) (some : later ≢ []) (whole : Relations) (before after : DeskState) (seats : List Seat) (entries : List world.Entry) (past : List (Deed (language db))) (n : ℕ) (entry : Entry) (so : IsRun db whole (machines_over before seats later) entries past) where
  abbrev desk_old : Machines
  desk_old = machines_over before seats later

  abbrev desk_new : Machines
  desk_new = machines_over after seats later

  abbrev out : Out
  out = out_of entry

  -- a client asks for something that is no statement
  asked_for : (txn : txns.Txn) (request : Request (language db)) → Asks db before txn request entry after → AsksHomed (language db) (IsPlace db) request (no_choice db) → AllExplained (on_request (txn_name txn) (no_choice db) request (txn_in db before.table txn)).deeds →
      may_ask (world_of db desk_old [] []) (txn_name txn) request ≡ true → ListAsked db txn (no_choice db) request desk_old desk_new entry.letters entry.replies
  asked_for txn request asks homed explained may = list_asked db desk_old after.content after.table later refl txn (no_choice db) request entry.letters entry.replies so.fit (asks.steps (no_choice db)) homed explained may asks.accepted

  -- a site's reply comes
  came : (letter : Letter) (reply : Reply) → letter.body ≡ body.Reply reply → Takes db before.table after.content after.table letter.txn (λ choice. on_desk_letter (txn_name letter.txn) letter.site entry.kept choice (replied db letter.site reply) (txn_in db before.table letter.txn)) entry.letters entry.replies →
      ListCame db letter entry.kept desk_old desk_new entry.letters entry.replies
  came letter reply is takes =
      let wanted : Transition (language db) = on_desk_letter (txn_name letter.txn) letter.site entry.kept takes.choice (replied db letter.site reply) (txn_in db before.table letter.txn) in
      record {
        choice = takes.choice;
        within = passes_is db desk_old letter reply is entry.kept takes.choice ∙ (ap is_desk_within (sym takes.steps.state) ∙ takes.steps.within);
        leads = list_turn_leads db desk_old after.content after.table later letter.txn wanted entry.letters entry.replies so.fit takes.steps (λ none. absurd (some none))
            (λ w. comes w entry.kept takes.choice (sent db letter)) (λ waiting past. comes_is db letter reply is entry.kept takes.choice (world_of db desk_old waiting past))
            (turn_homed (language db) (IsPlace db) (txn_name letter.txn) takes.choice letter.site entry.kept (replied db letter.site reply) (txn_in db before.table letter.txn) takes.placed (stands_placed db before.content before.table so.fit.desk (txn_name letter.txn))
            (placed_after db before.table after.content after.table letter.txn wanted entry.letters entry.replies takes.steps)) takes.explained;
      }

  -- what the coordinator does is an event
  desk_goes : (asked : inputs.Input) → DeskDoes db asked before entry after → IsBroughtAt db.sites (letters_in entries) n zero asked → Goes db whole desk_new entries past entry (happened_as entry (event_of db.sites n zero asked entry.kept))
  desk_goes (input.Call call.Begin) did brought =
      steps db whole desk_old entries past entry so desk_new (event.Call call.Begin) (list_begins_on db whole desk_old desk_new entries past out so (record {
        leads = list_begin db desk_old after.content after.table later refl entry.letters entry.replies so.fit did.begins;
        may = may_begin_where db desk_old did.still;
        within = ap is_desk_within (sym did.begins.state) ∙ did.begins.within;
      }))
  desk_goes (input.Call (call.State txn text)) did brought =
      let states = did.states in
      steps db whole desk_old entries past entry so desk_new (event.Call (call.State txn text)) (list_states_on db whole desk_old desk_new entries past out txn text so (record {
        statement = states.statement;
        choice = states.runs.choice;
        spelled = states.spelled;
        fits = record { of_schemas = states.fits; stays = states.runs.ordinary };
        asked = list_asked db desk_old after.content after.table later refl txn states.runs.choice (State (before.table.version, states.statement)) entry.letters entry.replies so.fit states.runs.steps states.runs.placed states.runs.explained
            (may_state db desk_old txn states.statement did.still states.runs.ordinary) (did.accepted states.statement);
      }))
  desk_goes (input.Call (call.Commit txn)) did brought =
      steps db whole desk_old entries past entry so desk_new (event.Call (call.Commit txn)) (list_commits_on db whole desk_old desk_new entries past out txn (no_choice db) so
      (asked_for txn Commit_call did tt (commit_explained (txn_name txn) (no_choice db) (txn_in db before.table txn)) refl))
  desk_goes (input.Call (call.Rollback txn)) did brought =
      steps db whole desk_old entries past entry so desk_new (event.Call (call.Rollback txn)) (list_rolls_on db whole desk_old desk_new entries past out txn (no_choice db) so
      (asked_for txn Rollback did tt (rollback_explained (txn_name txn) (no_choice db) (txn_in db before.table txn)) refl))
  desk_goes (input.Call (call.GiveUp txn)) did brought =
      steps db whole desk_old entries past entry so desk_new (event.Call (call.GiveUp txn)) (list_gives_on db whole desk_old desk_new entries past out txn (no_choice db) so
      (asked_for txn Give_up did tt (give_up_explained (txn_name txn) (no_choice db) (txn_in db before.table txn)) refl))
  desk_goes (input.Call (call.Refragment text)) did brought =
      steps db whole desk_old entries past entry so desk_new (event.Call (call.Refragment text)) (list_moves_on db whole desk_old desk_new entries past out text so (list_moved db desk_old after.content after.table later some text entry.letters entry.replies so.fit did))
  desk_goes (input.Take letter) did brought =
      let said = reply_of letter.body brought.0.0 in
      steps db whole desk_old entries past entry so desk_new (event.Deliver n entry.kept) (list_comes_on db whole desk_old desk_new entries past out n letter entry.kept so brought.1 (came letter said.0 said.1 (did.takes said.0 said.1 brought.0.1)))
  desk_goes (input.GiveUp ticket) did brought = absurd did
  desk_goes input.Inquire did brought = absurd did
  desk_goes input.Restart did brought =
      let what = event.DeskRestarts true in
      steps db whole desk_old entries past entry so desk_new what (list_restarts_on db whole desk_old desk_new entries past what out desk_restarts (Desk_restarts true) so (list_restart db desk_old after.content after.table later entry.letters entry.replies so.fit did) refl refl refl refl refl
      (desk_restarts_silent (world_of db desk_old [] []) refl))

  -- a call of the coordinator, accepted or refused
  pub desk_answers : (fault : Option Fault) → DeskAnswers db fault before entry after → IsBroughtAt db.sites (letters_in entries) n zero entry.input → Goes db whole desk_new entries past entry (happened_by fault db.sites n zero entry)
  desk_answers None accepts brought = desk_goes entry.input accepts.does brought
  desk_answers (Some told) refuses brought = stands db whole desk_old entries past entry so desk_new (ap (λ (desk : DeskState). machines_over desk seats later) refuses.same) refuses.letters

-- ---- a site
module _ (db : Database) (later : List (List (List ℕ) × List SplitRelation)) (whole : Relations) (desk : DeskState) (seats : List Seat) (seat new : Seat) (k : ℕ) (entries : List world.Entry) (past : List (Deed (language db))) (n : ℕ) (entry : Entry) (so : IsRun db whole (machines_over desk seats later) entries past)
    (there : seat_of seat.name seats ≡ Some seat) (named : slice_get db.sites k ≡ Some seat.name) where
  abbrev sites_old : Machines
  sites_old = machines_over desk seats later

  abbrev sites_new : Machines
  sites_new = machines_over desk (reseated seat.name new seats) later

  -- it is done at one of the sites
  some_does : (what : SiteAction) → place_of what ≡ seat.name → SeatDoes what seat new entry.letters → SomeSeatDoes what seat seats (reseated seat.name new seats) entry.letters
  some_does what at did = record {
    new = new;
    moves = record {
      there = ap (λ (name : List ℕ). seat_of name seats) at ∙ there;
      is = ap (λ (name : List ℕ). reseated name new seats) (sym at);
      named = did.name ∙ sym at;
      leaves = did.leaves;
      seated = did.fits;
    };
    does = did.does;
  }

  -- what is done there without a letter is an event
  done_there : (what : SiteAction) (at : events.Event) → IsAtSite what true at → is_for_site what ≡ true → place_of what ≡ seat.name → SeatDoes what seat new entry.letters → entry.kept ≡ kept_in entry.letters → entry.replies ≡ [] →
      Goes db whole sites_new entries past entry (happened_as entry (Some at))
  done_there what at is order place did kept replies =
      let some = some_does what place did in
      let of_site : list_any (λ site. pointwise nat_eq site (place_of what)) db.sites ≡ true = subst (λ (name : List ℕ). list_any (λ site. pointwise nat_eq site name) db.sites ≡ true) (sym place) (any_in (λ site. pointwise nat_eq site seat.name) seat.name db.sites (in_at db.sites k seat.name named) (name_self seat.name)) in
      steps db whole sites_old entries past entry so sites_new at (list_done_on db whole sites_old sites_new entries past what at true (out_of entry) (no_choice db) is (λ site restarts. refl) of_site so
      (list_put_out db sites_old seat (reseated seat.name new seats) entry.letters so.fit what (no_choice db) order some entry.kept entry.letters entry.replies kept refl replies))

  -- what the site does is an event
  site_goes : (asked : inputs.Input) (what : SiteAction) → action_of seat.name asked ≡ Some what → SeatDoes what seat new entry.letters → entry.kept ≡ kept_in entry.letters → entry.replies ≡ [] → IsBroughtAt db.sites (letters_in entries) n (suc k) asked →
      Goes db whole sites_new entries past entry (happened_as entry (site_event seat.name n asked entry.kept))
  site_goes (input.Call made) what is did kept replies brought = absurd cc
  site_goes (input.Take letter) what is did kept replies brought =
      let taken = subst (λ (w : SiteAction). SeatDoes w seat new entry.letters) (sym (some_is is)) did in
      let at : letter.site ≡ seat.name = some_is (sym brought.0.1 ∙ named) in
      let some = some_does (action.Take letter) at taken in
      let after = reseated seat.name new seats in
      steps db whole sites_old entries past entry so sites_new (event.Deliver n entry.kept) (list_comes_on db whole sites_old sites_new entries past (out_of entry) n letter entry.kept so brought.1 (record {
        choice = no_choice db;
        within = list_within db sites_old seat after entry.letters so.fit letter (no_choice db) brought.0.0 some entry.kept kept;
        leads = list_put_out db sites_old seat after entry.letters so.fit (action.Take letter) (no_choice db) brought.0.0 some entry.kept entry.letters entry.replies kept refl replies;
      }))
  site_goes (input.GiveUp ticket) what is did kept replies brought =
      done_there (action.GiveUp seat.name ticket) (event.SiteGivesUp seat.name ticket) refl refl refl (subst (λ (w : SiteAction). SeatDoes w seat new entry.letters) (sym (some_is is)) did) kept replies
  site_goes input.Inquire what is did kept replies brought =
      done_there (action.Inquire seat.name) (event.SiteInquires seat.name) refl refl refl (subst (λ (w : SiteAction). SeatDoes w seat new entry.letters) (sym (some_is is)) did) kept replies
  site_goes input.Restart what is did kept replies brought =
      done_there (action.Restart seat.name) (event.SiteRestarts seat.name true) refl refl refl (subst (λ (w : SiteAction). SeatDoes w seat new entry.letters) (sym (some_is is)) did) kept replies

  -- a call of the site, accepted or refused
  pub site_answers : (fault : Option Fault) → SiteAnswers fault seat entry new → IsBroughtAt db.sites (letters_in entries) n (suc k) entry.input → Goes db whole sites_new entries past entry (happened_by fault db.sites n (suc k) entry)
  site_answers None accepts brought =
      subst (λ (name : Option (List ℕ)). Goes db whole sites_new entries past entry (happened_as entry (named_event name n entry.input entry.kept))) (sym named)
      (site_goes entry.input accepts.action accepts.asked accepts.does accepts.kept accepts.replies brought)
  site_answers (Some told) refuses brought = stands db whole sites_old entries past entry so sites_new (ap (λ (seats : List Seat). machines_over desk seats later) (reseated_same seat.name new seats seat refuses.same there)) refuses.letters
