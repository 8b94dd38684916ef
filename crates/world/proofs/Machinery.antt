-- A step of one machine is one of the world.
use Rattle.std.proofs.Common.{◌≡◌, refl, sym, ap, ap₂, ◌∙◌, subst, ℕ, Bool, true, false, List, [], ◌∷◌, ◌++◌, map, None}
use Rattle.std.specs.List.{flat_map}
use Rattle.std.proofs.lemmas.List.{append-nil}
use Rattle.catalog.specs.declared.relation.SplitRelation.{SplitRelation}
use Rattle.store.specs.declared.letter.Body as bodies
use Rattle.store.specs.declared.letter.Body.TheVariants as body
use Rattle.store.specs.declared.reply.Reply as replies
use Rattle.store.specs.declared.reply.Reply.TheVariants as reply_kinds
use Rattle.store.specs.declared.letter.Letter as letters
use Rattle.store.specs.declared.name.Txn as names
use Rattle.store.specs.DeskContent.{DeskContent}
use Rattle.desk.specs.Request.{txn_in}
use Rattle.desk.specs.Does.{Takes}
use Rattle.desk.specs.Recovery.{Restarts}
use Rattle.protocol.specs.Language.{Name, same}
use Rattle.protocol.specs.StatementCourse.{passes, passes_to}
use Rattle.protocol.specs.Desk.{is_moving, Began, Choice, Desk, Known, Row, Txn, Unknown, desk_restarted, next_txn, txn_restarted, Deed, Request, Transition, desk_after, desk_began, is_desk_within, on_desk_letter, on_request, refusal}
use Rattle.protocol.specs.Letter.{Letter}
use Rattle.protocol.specs.Letters.{body_of, kept_in, letter_of, name_of, txn_name}
use Rattle.protocol.specs.Serial.{AllExplained}
use Rattle.protocol.specs.Site.{Act, SiteState, inquiries, is_within, on_give_up, on_letter, said, site_after, site_restarted}
use Rattle.protocol.specs.Catalogues.{body_at, letter_at, site_at}
use Rattle.protocol.specs.Home.{AreHomed, AsksHomed, TxnHomed}
use Rattle.protocol.specs.Local.{local}
use Rattle.protocol.specs.World.{World, addressed, called, desk_lives, desk_restarts, begins, begun, comes, comes_to, gives_up, inquires, restarts, site_steps, turned, turns, with_site}
use Rattle.protocol.proofs.Basics.{if_true, put_here, same_law}
use Rattle.protocol.proofs.Homed.{inquiries_homed, request_homed, restarts_homed, site_homed, turn_homed}
use Rattle.desk.specs.declared.reply.Notice.{Notice}
use Rattle.desk.specs.Database.{Database, IsPlace, language, replied, sent, statements}
use Rattle.desk.specs.State.{Begins, Steps, VolatileState, desk_of}
use Rattle.site.specs.State.{state_of}
use Rattle.site.proofs.Lawful.{local_lawful}
use Rattle.site.proofs.Limited.{fits_within}
use Rattle.world.specs.Listed.{FitsList, ListLeads}
use Rattle.world.specs.Machines.{AreFit, Asked, Came, Leads, Machines, happens_at, is_for_site, is_order, world_of}
use Rattle.world.specs.Seated.{SomeSeatDoes}
use Rattle.world.specs.declared.sites.SiteAction as doing
use Rattle.world.specs.declared.sites.SiteAction.TheVariants.{GiveUp, Inquire, Restart, Take}
use Rattle.world.specs.Sites.{Moves, Seat, state_at, states_of}
use Rattle.desk.proofs.Raised.{TurnKeeps, letter_keeps, request_keeps}
use Rattle.world.proofs.InForce.{nobody_after, nobody_begins, nobody_restarts, stays_in_force}
use Rattle.world.proofs.Placed.{stands_placed}
use Rattle.world.proofs.Reasoned.{order_is, passes_is}
use Rattle.world.proofs.Seating.{leaves_after, letter_said, letter_state, names_after, reseated_same, seat_named, seated_after, state_there, states_after}
use Rattle.protocol.proofs.Placing.{after_same, give_up_same, inquiries_same, restart_same, within_same}

-- the coordinator is another one
abbrev pub with_desk : Machines → DeskContent → VolatileState → List (List (List ℕ) × List SplitRelation) → Machines
with_desk machines desk table later = record { desk = desk; table = table; seats = machines.seats; later = later; refused = machines.refused }

-- a turn of the coordinator
module _ (db : Database) (before : Machines) (kept : DeskContent) (after : VolatileState) (later : List (List (List ℕ) × List SplitRelation)) (none : later ≡ []) (txn : names.Txn) (wanted : Transition (language db)) (out : List letters.Letter) (notices : List Notice) (fit : AreFit db before) (steps : Steps db before.table kept after txn wanted out notices) (keeps : TurnKeeps (language db) (txn_name txn) (txn_in db before.table txn) wanted) where
  same_version : after.version ≡ before.table.version
  same_version = steps.version ∙ stays_in_force db before fit.still [] [] (txn_name txn) wanted

  turn_is : (waiting : List (Letter (language db))) (past : List (Deed (language db))) → turns (world_of db before waiting past) (txn_name txn) wanted ≡ world_of db (with_desk before kept after later) (waiting ++ map (sent db) out) (past ++ wanted.deeds)
  turn_is waiting past =
      let w = world_of db before waiting past in
      if_true (is_desk_within (desk_after w.desk (txn_name txn) wanted.txn)) (turned w (txn_name txn) wanted) w (ap is_desk_within (sym steps.state) ∙ steps.within) ∙
      (λ i. record { desk = sym steps.state i; sites = (world_of db before waiting past).sites; letters = waiting ++ sym steps.letters i; past = past ++ wanted.deeds; version = sym steps.version i })

  still_fit : AreFit db (with_desk before kept after later)
  still_fit = record {
    names = fit.names;
    leaves = fit.leaves;
    desk = steps.fits;
    within = steps.within;
    sites = fit.sites;
    single = none;
    still = λ t. ap (λ (d : Desk (language db)). is_moving (d.txn t)) steps.state ∙ nobody_after db (desk_of db before.table) (txn_name txn) wanted fit.still keeps t;
  }

  pub turn_leads : (step : World (language db) → World (language db)) → ((waiting : List (Letter (language db))) (past : List (Deed (language db))) → step (world_of db before waiting past) ≡ turns (world_of db before waiting past) (txn_name txn) wanted) → AreHomed (language db) (IsPlace db) wanted.letters → AllExplained wanted.deeds →
      Leads db step before (with_desk before kept after later) out notices
  turn_leads step is placed explained = record {
    deeds = wanted.deeds;
    fit = still_fit;
    is = λ waiting past. is waiting past ∙ turn_is waiting past;
    version = same_version;
    placed = subst (AreHomed (language db) (IsPlace db)) (sym steps.letters) placed;
    explained = explained;
    replies = steps.replies;
  }

-- what the transaction still sends after its step is of leaves at their sites
pub placed_after : (db : Database) (before : VolatileState) (kept : DeskContent) (after : VolatileState) (txn : names.Txn) (wanted : Transition (language db)) (out : List letters.Letter) (notices : List Notice) → Steps db before kept after txn wanted out notices → TxnHomed (language db) (IsPlace db) wanted.txn
placed_after db before kept after txn wanted out notices steps =
    subst (TxnHomed (language db) (IsPlace db)) (ap (λ (d : Desk (language db)). d.txn (txn_name txn)) steps.state ∙ put_here same same_law (txn_name txn) wanted.txn (desk_of db before).txn) (stands_placed db kept after steps.fits (txn_name txn))

-- what a client asks for, as the coordinator's turn
pub asked_leads : (db : Database) (before : Machines) (kept : DeskContent) (after : VolatileState) (later : List (List (List ℕ) × List SplitRelation)) → later ≡ [] → (txn : names.Txn) (choice : Choice (language db)) (request : Request (language db)) (out : List letters.Letter) (notices : List Notice) → AreFit db before →
    Steps db before.table kept after txn (on_request (txn_name txn) choice request (txn_in db before.table txn)) out notices → AsksHomed (language db) (IsPlace db) request choice → AllExplained (on_request (txn_name txn) choice request (txn_in db before.table txn)).deeds → refusal request (txn_in db before.table txn) ≡ None →
    Asked db txn choice request before (with_desk before kept after later) out notices
unfolding turn_leads
asked_leads db before kept after later none txn choice request out notices fit steps chosen explained accepted = record {
  leads = turn_leads db before kept after later none txn (on_request (txn_name txn) choice request (txn_in db before.table txn)) out notices fit steps (request_keeps (txn_name txn) choice request (txn_in db before.table txn)) (λ w. called w (txn_name txn) choice request) (λ waiting past. refl)
      (request_homed (language db) (IsPlace db) (txn_name txn) choice request (txn_in db before.table txn) chosen (stands_placed db before.desk before.table fit.desk (txn_name txn))
      (placed_after db before.table kept after txn (on_request (txn_name txn) choice request (txn_in db before.table txn)) out notices steps)) explained;
  accepted = accepted;
  within = ap is_desk_within (sym steps.state) ∙ steps.within;
  all = refl;
}

-- a transaction begins
module _ (db : Database) (before : Machines) (kept : DeskContent) (after : VolatileState) (later : List (List (List ℕ) × List SplitRelation)) (none : later ≡ []) (out : List letters.Letter) (notices : List Notice) (fit : AreFit db before) (begun_so : Begins db false before.table kept after out notices) where
  pub begin_leads : Leads db begins before (with_desk before kept after later) out notices
  begin_leads = record {
    deeds = Began (next_txn (desk_of db before.table)) ∷ [];
    fit = record { names = fit.names; leaves = fit.leaves; desk = begun_so.fits; within = begun_so.within; sites = fit.sites; single = none; still = λ t. ap (λ (d : Desk (language db)). is_moving (d.txn t)) begun_so.state ∙ nobody_begins db (desk_of db before.table) fit.still t };
    is = λ waiting past.
        let w = world_of db before waiting past in
        if_true (is_desk_within (desk_began w.desk)) (begun false w) w (ap is_desk_within (sym begun_so.state) ∙ begun_so.within) ∙
        (λ i. record { desk = sym begun_so.state i; sites = w.sites; letters = (sym (append-nil waiting) ∙ ap (λ (l : List letters.Letter). waiting ++ map (sent db) l) (sym begun_so.letters)) i; past = w.past ++ Began (next_txn w.desk) ∷ []; version = sym begun_so.version i });
    version = begun_so.version;
    placed = subst (λ (ls : List letters.Letter). AreHomed (language db) (IsPlace db) (map (sent db) ls)) (sym begun_so.letters) tt;
    explained = (tt, tt);
    replies = begun_so.replies;
  }

-- the coordinator restarts
pub restarted_explained : (db : Database) (d : Desk (language db)) (names : List Name) → AllExplained (flat_map (λ t. (txn_restarted t (d.txn t)).deeds) names)
restarted_explained db d [] = tt
restarted_explained db d (t ∷ names) = go (d.txn t) (restarted_explained db d names)
  where
    go : (x : Txn (language db)) → AllExplained (flat_map (λ t. (txn_restarted t (d.txn t)).deeds) names) → AllExplained ((txn_restarted t x).deeds ++ flat_map (λ t. (txn_restarted t (d.txn t)).deeds) names)
    go Unknown later = later
    go (Known u) later = (tt, later)
    go (Row voters acked) later = later

module _ (db : Database) (before : Machines) (kept : DeskContent) (after : VolatileState) (later : List (List (List ℕ) × List SplitRelation)) (none : later ≡ []) (out : List letters.Letter) (notices : List Notice) (fit : AreFit db before) (restarted : Restarts db before.table kept after out notices) where
  pub restart_leads : Leads db desk_restarts before (with_desk before kept after later) out notices
  restart_leads =
      let d = desk_of db before.table in
      record {
        deeds = flat_map (λ t. (txn_restarted t (d.txn t)).deeds) d.known;
        fit = record { names = fit.names; leaves = fit.leaves; desk = restarted.fits; within = restarted.within; sites = fit.sites; single = none; still = λ t. ap (λ (d : Desk (language db)). is_moving (d.txn t)) restarted.state ∙ nobody_restarts db (desk_of db before.table) t };
        is = λ waiting past.
            let w = world_of db before waiting past in
            if_true (is_desk_within (desk_restarted w.desk)) (desk_lives w) w (ap is_desk_within (sym restarted.state) ∙ restarted.within) ∙
            (λ i. record { desk = sym restarted.state i; sites = w.sites; letters = waiting ++ sym restarted.letters i; past = past ++ flat_map (λ t. (txn_restarted t (d.txn t)).deeds) d.known; version = sym restarted.version i });
        version = restarted.version;
        placed = subst (AreHomed (language db) (IsPlace db)) (sym restarted.letters) (restarts_homed (language db) (IsPlace db) d.txn d.known);
        explained = restarted_explained db d d.known;
        replies = restarted.replies;
      }

-- a letter of a site
pub reply_of : (said : bodies.Body) → is_order said ≡ false → (reply : replies.Reply) × (said ≡ body.Reply reply)
reply_of (body.Order order) is = absurd cc
reply_of (body.Reply reply) is = (reply, refl)

pub comes_is : (db : Database) (letter : letters.Letter) (reply : replies.Reply) → letter.body ≡ body.Reply reply → (kept : Bool) (choice : Choice (language db)) (w : World (language db)) →
    comes w kept choice (sent db letter) ≡ turns w (txn_name letter.txn) (on_desk_letter (txn_name letter.txn) letter.site kept choice (replied db letter.site reply) (w.desk.txn (txn_name letter.txn)))
comes_is db letter reply is kept choice w = ap (λ said. comes w kept choice (as_sent said)) is ∙ go reply
  where
    as_sent : bodies.Body → Letter (language db)
    as_sent said = record { site = letter.site; txn = txn_name letter.txn; body = body_at local (statements db) letter.site (body_of said) }

    go : (r : replies.Reply) → comes w kept choice (as_sent (body.Reply r)) ≡ turns w (txn_name letter.txn) (on_desk_letter (txn_name letter.txn) letter.site kept choice (replied db letter.site r) (w.desk.txn (txn_name letter.txn)))
    go (reply_kinds.Ticket ticket) = refl
    go (reply_kinds.Rows rows) = refl
    go (reply_kinds.Refused refusal) = refl
    go (reply_kinds.Voted voted) = refl
    go (reply_kinds.Ack ticket) = refl
    go (reply_kinds.Inquire ticket) = refl

pub reply_leads : (db : Database) (before : Machines) (kept : DeskContent) (after : VolatileState) (later : List (List (List ℕ) × List SplitRelation)) → later ≡ [] → (letter : letters.Letter) (reply : replies.Reply) → letter.body ≡ body.Reply reply → (keeps : Bool) (out : List letters.Letter) (notices : List Notice) → AreFit db before →
    Takes db before.table kept after letter.txn (λ choice. on_desk_letter (txn_name letter.txn) letter.site keeps choice (replied db letter.site reply) (txn_in db before.table letter.txn)) out notices → Came db letter keeps before (with_desk before kept after later) out notices
reply_leads db before kept after later none letter reply is keeps out notices fit takes = record {
  choice = takes.choice;
  within = passes_is db before letter reply is keeps takes.choice ∙ (ap is_desk_within (sym takes.steps.state) ∙ takes.steps.within);
  leads = turn_leads db before kept after later none letter.txn (on_desk_letter (txn_name letter.txn) letter.site keeps takes.choice (replied db letter.site reply) (txn_in db before.table letter.txn)) out notices fit takes.steps
      (letter_keeps (txn_name letter.txn) takes.choice letter.site keeps (replied db letter.site reply) (txn_in db before.table letter.txn))
      (λ w. comes w keeps takes.choice (sent db letter)) (λ waiting past. comes_is db letter reply is keeps takes.choice (world_of db before waiting past))
      (turn_homed (language db) (IsPlace db) (txn_name letter.txn) takes.choice letter.site keeps (replied db letter.site reply) (txn_in db before.table letter.txn) takes.placed (stands_placed db before.desk before.table fit.desk (txn_name letter.txn))
      (placed_after db before.table kept after letter.txn (on_desk_letter (txn_name letter.txn) letter.site keeps takes.choice (replied db letter.site reply) (txn_in db before.table letter.txn)) out notices takes.steps)) takes.explained;
}

-- the sites are others
abbrev pub with_seats : Machines → List Seat → Machines
with_seats machines seats = record { desk = machines.desk; table = machines.table; seats = seats; later = machines.later; refused = machines.refused }

-- ---- something is done at a site
module _ (db : Database) (before : Machines) (seat : Seat) (after : List Seat) (out : List letters.Letter) (fit : FitsList db before) where
  module _ (name : List ℕ) (new : Seat) (moves : Moves name seat new before.seats after) where
    stepped : (waiting : List (Letter (language db))) (past : List (Deed (language db))) (put : List (Letter (language db))) → site_steps (world_of db before waiting past) name (state_at (statements db) new) put ≡ world_of db (with_seats before after) (waiting ++ put) (past ++ [])
    stepped waiting past put =
        let S = statements db in
        let w = world_of db before waiting past in
        if_true (is_within (state_at S new)) (with_site w name (state_at S new) put) w (within_same local S local_lawful new.name (state_of new.kept new.table) ∙ fits_within new.kept new.table moves.seated) ∙
        (λ i. record { desk = w.desk; sites = sym (states_after S name seat new before.seats after moves) i; letters = waiting ++ put; past = sym (append-nil past) i; version = before.table.version })

    now_fit : FitsList db (with_seats before after)
    now_fit = record { names = names_after name seat new before.seats after moves ∙ fit.names; leaves = leaves_after db name seat new before.seats after moves fit.leaves; desk = fit.desk; within = fit.within; sites = seated_after name seat new before.seats after moves fit.sites; still = fit.still }

    -- so where the step is such a one
    site_leads : (step : World (language db) → World (language db)) (of : SiteState (language db) → SiteState (language db)) (said_by : SiteState (language db) → List (Letter (language db))) →
        ((waiting : List (Letter (language db))) (past : List (Deed (language db))) → step (world_of db before waiting past) ≡ site_steps (world_of db before waiting past) name (of (states_of (statements db) before.seats name)) (said_by (states_of (statements db) before.seats name))) →
        of (state_at (statements db) seat) ≡ state_at (statements db) new → said_by (state_at (statements db) seat) ≡ map (sent db) out → AreHomed (language db) (IsPlace db) (said_by (state_at (statements db) seat)) → ListLeads db step before (with_seats before after) out []
    site_leads step of said_by is became said placed = record {
      deeds = [];
      fit = now_fit;
      is = λ waiting past.
          let w = world_of db before waiting past in
          is waiting past ∙ ap (λ s. site_steps w name (of s) (said_by s)) (state_there (statements db) name before.seats seat moves.there) ∙ ap₂ (site_steps w name) became said ∙ stepped waiting past (map (sent db) out);
      placed = subst (AreHomed (language db) (IsPlace db)) said placed;
      explained = tt;
      replies = refl;
    }

  put_out : (letters : List letters.Letter) → map (letter_at local (statements db)) (map letter_of letters) ≡ map (sent db) letters
  put_out [] = refl
  put_out (l ∷ ls) = ap (λ rest. sent db l ∷ rest) (put_out ls)

  -- a site keeps its name
  renamed : (site : List ℕ) (new : Seat) → Moves site seat new before.seats after → site_at local (statements db) seat.name (state_of new.kept new.table) ≡ state_at (statements db) new
  renamed site new moves = ap (λ name. site_at local (statements db) name (state_of new.kept new.table)) (seat_named site before.seats seat moves.there ∙ sym moves.named)

  pub list_done : (what : doing.SiteAction) (choice : Choice (language db)) → is_for_site what ≡ true → SomeSeatDoes what seat before.seats after out → ListLeads db (happens_at db what (kept_in out) choice) before (with_seats before after) out []
  list_done (Take letter) choice order did =
      let S = statements db in
      let said_to = body_at local S letter.site (body_of letter.body) in
      let act : SiteState (language db) → Act (language db) = λ s. on_letter s (txn_name letter.txn) (kept_in out) said_to in
      let here = seat_named letter.site before.seats seat did.moves.there in
      site_leads letter.site did.new did.moves (λ w. comes w (kept_in out) choice (sent db letter)) (λ s. site_after s (act s)) (λ s. addressed letter.site (txn_name letter.txn) (said s (act s)))
      (λ waiting past. ap (λ (b : Bool). comes_to b (world_of db before waiting past) (kept_in out) choice (sent db letter)) (order_is db letter.site letter.body order))
      (letter_state S letter out seat did.new here did.moves.named did.does) (letter_said S letter out seat did.new here did.moves.named did.does)
      (site_homed (language db) (IsPlace db) (state_at S seat) letter.site (txn_name letter.txn) (kept_in out) said_to)
  list_done (GiveUp site ticket) choice order did =
      let S = statements db in
      let k = name_of ticket in
      let s = state_of seat.kept seat.table in
      let a = seat.name in
      site_leads site did.new did.moves (λ w. gives_up w site k) (λ s. site_after s (on_give_up k (s.status k))) (λ s. []) (λ waiting past. refl)
      (ap (site_after (site_at local S a s)) (sym (give_up_same local S local_lawful a k (s.status k))) ∙ sym (after_same local S local_lawful a s (on_give_up k (s.status k))) ∙ ap (site_at local S a) (sym did.does.0.state) ∙ renamed site did.new did.moves)
      (ap (map (sent db)) (sym did.does.1)) tt
  list_done (Inquire site) choice order did =
      let S = statements db in
      let s = state_of seat.kept seat.table in
      let same : after ≡ before.seats = did.moves.is ∙ reseated_same site did.new before.seats seat did.does.0 did.moves.there in
      let named = seat_named site before.seats seat did.moves.there in
      let inquired : inquiries site (states_of S before.seats site) ≡ map (sent db) out = ap (inquiries site) (state_there S site before.seats seat did.moves.there) ∙ ap (λ name. inquiries name (state_at S seat)) (sym named)
      ∙ sym (inquiries_same local S local_lawful seat.name s) ∙ ap (map (letter_at local S)) (sym did.does.1) ∙ put_out out in
      subst (λ (seats : List Seat). ListLeads db (λ w. inquires w site) before (with_seats before seats) out []) (sym same) (record {
        deeds = [];
        fit = fit;
        is = λ waiting past i. record {
          desk = desk_of db before.table;
          sites = states_of S before.seats;
          letters = waiting ++ inquired i;
          past = sym (append-nil past) i;
          version = before.table.version;
        };
        placed = subst (AreHomed (language db) (IsPlace db)) inquired (inquiries_homed (language db) (IsPlace db) site (states_of S before.seats site));
        explained = tt;
        replies = refl;
      })
  list_done (Restart site) choice order did =
      let S = statements db in
      let s = state_of seat.kept seat.table in
      site_leads site did.new did.moves (λ w. restarts w site) site_restarted (λ s. []) (λ waiting past. refl)
      (sym (restart_same local S local_lawful seat.name s) ∙ ap (site_at local S seat.name) (sym did.does.0.state) ∙ renamed site did.new did.moves) (ap (map (sent db)) (sym did.does.1)) tt

  -- a letter's step is within the limits
  pub list_within : (letter : letters.Letter) (choice : Choice (language db)) → is_order letter.body ≡ true → SomeSeatDoes (Take letter) seat before.seats after out → (kept : Bool) → kept ≡ kept_in out →
      passes (world_of db before [] []) kept choice (sent db letter) ≡ true
  list_within letter choice order did kept same_kept =
      let S = statements db in
      let w = world_of db before [] [] in
      let said = body_at local S letter.site (body_of letter.body) in
      ap (λ (k : Bool). passes w k choice (sent db letter)) same_kept
      ∙ ap (λ (b : Bool). passes_to b w (kept_in out) choice (sent db letter)) (order_is db letter.site letter.body order)
      ∙ ap (λ s. is_within (site_after s (on_letter s (txn_name letter.txn) (kept_in out) said))) (state_there S letter.site before.seats seat did.moves.there)
      ∙ ap is_within (letter_state S letter out seat did.new (seat_named letter.site before.seats seat did.moves.there) did.moves.named did.does)
      ∙ (within_same local S local_lawful did.new.name (state_of did.new.kept did.new.table) ∙ fits_within did.new.kept did.new.table did.moves.seated)

  -- as the code puts it out
  pub list_put_out : (what : doing.SiteAction) (choice : Choice (language db)) → is_for_site what ≡ true → SomeSeatDoes what seat before.seats after out → (kept : Bool) (put : List letters.Letter) (notices : List Notice) → kept ≡ kept_in out → put ≡ out → notices ≡ [] →
      ListLeads db (happens_at db what kept choice) before (with_seats before after) put notices
  list_put_out what choice for_site did kept put notices same_kept same_put none =
      subst (λ (k : Bool). ListLeads db (happens_at db what k choice) before (with_seats before after) put notices) (sym same_kept)
      (subst (λ (ls : List letters.Letter). ListLeads db (happens_at db what (kept_in out) choice) before (with_seats before after) ls notices) (sym same_put)
      (subst (ListLeads db (happens_at db what (kept_in out) choice) before (with_seats before after) out) (sym none) (list_done what choice for_site did)))

-- ---- so where no catalogue comes later
pub fits_list : (db : Database) (machines : Machines) → AreFit db machines → FitsList db machines
fits_list db machines fit = record { names = fit.names; leaves = fit.leaves; desk = fit.desk; within = fit.within; sites = fit.sites; still = λ none t. fit.still t }

pub leads_list : (db : Database) (step : World (language db) → World (language db)) (before after : Machines) (out : List letters.Letter) (notices : List Notice) → Leads db step before after out notices → ListLeads db step before after out notices
leads_list db step before after out notices leads = record { deeds = leads.deeds; fit = fits_list db after leads.fit; is = leads.is; placed = leads.placed; explained = leads.explained; replies = leads.replies }

at_site_alone : (db : Database) (step : World (language db) → World (language db)) (before : Machines) (after : List Seat) (out : List letters.Letter) (notices : List Notice) → AreFit db before → ListLeads db step before (with_seats before after) out notices → Leads db step before (with_seats before after) out notices
at_site_alone db step before after out notices fit leads = record {
  deeds = leads.deeds;
  fit = record { names = leads.fit.names; leaves = leads.fit.leaves; desk = fit.desk; within = fit.within; sites = leads.fit.sites; single = fit.single; still = fit.still };
  is = leads.is;
  version = refl;
  placed = leads.placed;
  explained = leads.explained;
  replies = leads.replies;
}

pub take_within : (db : Database) (before : Machines) (seat : Seat) (after : List Seat) (out : List letters.Letter) → AreFit db before → (letter : letters.Letter) (choice : Choice (language db)) → is_order letter.body ≡ true → SomeSeatDoes (Take letter) seat before.seats after out → (kept : Bool) → kept ≡ kept_in out →
    passes (world_of db before [] []) kept choice (sent db letter) ≡ true
take_within db before seat after out fit = list_within db before seat after out (fits_list db before fit)

pub put_out_leads : (db : Database) (before : Machines) (seat : Seat) (after : List Seat) (out : List letters.Letter) → AreFit db before → (what : doing.SiteAction) (choice : Choice (language db)) → is_for_site what ≡ true → SomeSeatDoes what seat before.seats after out → (kept : Bool) (put : List letters.Letter) (notices : List Notice) → kept ≡ kept_in out → put ≡ out → notices ≡ [] →
    Leads db (happens_at db what kept choice) before (with_seats before after) put notices
put_out_leads db before seat after out fit what choice for_site did kept put notices same_kept same_put none = at_site_alone db (happens_at db what kept choice) before after put notices fit (list_put_out db before seat after out (fits_list db before fit) what choice for_site did kept put notices same_kept same_put none)
