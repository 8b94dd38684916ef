-- Machines that have come up grow quiet: the coordinator sends its commits again, each site asks about its prepared rows, and all letters come.
use Rattle.std.proofs.Common.{◌≡◌, refl, sym, ap, ◌∙◌, subst, ℕ, nat_eq, Bool, true, false, List, [], ◌∷◌, ◌++◌, map, if◌then◌else◌, Option, Some, None, is_some, inl, inr, ⊎_elim, flat_map, append-nil, append_assoc}
use Rattle.std.proofs.lemmas.List.{map-append}
use Rattle.std.specs.Cmp.Lexicographic.{pointwise}
use Rattle.std.specs.FinMap as keyed
use Rattle.std.specs.List.{AllByRecursion, list_any, cons_option}
use Rattle.std.specs.Option.{option_map}
use Rattle.meaning.specs.Whole.{Relations}
use Rattle.reader.specs.Printable.{AreDistinct}
use Rattle.store.specs.declared.commit.Voter.{Voter}
use Rattle.store.specs.declared.letter.Letter as letters
use Rattle.store.specs.declared.name.Ticket.{Ticket}
use Rattle.store.specs.declared.prepared.Prepared.{Prepared as Kept_row}
use Rattle.store.specs.DeskContent.{Voters}
use Rattle.protocol.specs.AfterAbort.{Within}
use Rattle.protocol.specs.Client.{IsQuiet, IsReached, ReachedLaw}
use Rattle.protocol.specs.Delivery.{all_come}
use Rattle.protocol.specs.Desk.{Deed, Txn, Unknown, Known, Row, commits, desk_restarted, is_desk_within, is_undecided, txn_restarted}
use Rattle.protocol.specs.Home.{AreHomed, IsAtHome}
use Rattle.protocol.specs.Language.{Lang, Name}
use Rattle.protocol.specs.Letter.{Body, Letter, Open, Fetch, Write, Prepare, Commit, Abort, Rows, Refused, Voted, Ack, Inquire}
use Rattle.protocol.specs.Letter as said
use Rattle.protocol.specs.Letters.{letter_of, name_of, ticket_of}
use Rattle.protocol.specs.Local.{local}
use Rattle.protocol.specs.NothingCommits.{AreInVain, is_of_commit}
use Rattle.protocol.specs.Parts.{In}
use Rattle.protocol.specs.Recovery.{AtRest, EndsRow, Hears, OfRecovery, Recovering, RecoveryLaw, all_inquire}
use Rattle.protocol.specs.Serial.{AllExplained, committed, statement_in, statements_of}
use Rattle.protocol.specs.Site.{Status, Dead, SiteState, inquiries, is_active, is_dead, is_prepared}
use Rattle.protocol.specs.Site as site_status
use Rattle.protocol.specs.Catalogues as catalogues
use Rattle.protocol.specs.Catalogues.{Catalogues, letter_at, status_at}
use Rattle.protocol.specs.VisitPlaces.{at}
use Rattle.protocol.specs.World.{World, desk_lives, desk_restarts, inquires, is_site}
use Rattle.protocol.proofs.Basics.{Every, clash, either_if, every_flat, or_left, or_right, or_none_left, or_none_right}
use Rattle.protocol.proofs.NothingCommits.{committed_still}
use Rattle.protocol.proofs.Placing.{inquiries_same}
use Rattle.site.specs.Recovery.{Begins, resting}
use Rattle.site.specs.declared.tickets.TicketState as standings
use Rattle.site.specs.declared.tickets.TicketState.TheVariants as standing
use Rattle.site.specs.State.{state_of, stands, txn_in, visiting}
use Rattle.site.proofs.Listed.{listed_alive}
use Rattle.desk.specs.declared.reply.Notice.{Notice}
use Rattle.desk.specs.Acknowledge.{listed, voter_with}
use Rattle.desk.specs.Database.{Database, IsPlace, language, sent, statements}
use Rattle.desk.specs.Recovery as desk_recovery
use Rattle.desk.specs.State.{desk_of, txn_at}
use Rattle.desk.specs.Transaction.{txn_of, voter_of}
use Rattle.world.specs.Client.{IsServed}
use Rattle.world.specs.Machines.{AreFit, Leads, Machines, world_of}
use Rattle.world.specs.Listed.{FitsList, ListLeads}
use Rattle.world.specs.ListServed.{IsListServed}
use Rattle.world.specs.Mailbox.{Goes, ListComes, Scene, settled}
use Rattle.world.specs.Recovery.{AreUpAgain, GoesOnFrom, HaveNoTicket, ListGoesOnFrom, lost_by}
use Rattle.world.specs.Sites.{IsSeated, Seat, is_called, nobody, state_at, states_of}
use Rattle.site.proofs.Lawful.{local_lawful}
use Rattle.world.proofs.Machinery.{fits_list, leads_list}
use Rattle.world.proofs.Openings.{at_each}
use Rattle.world.proofs.Reaching.{all_reached}
use Rattle.world.proofs.Reasoned.{seats_within}
use Rattle.world.proofs.Running.{all_both}
use Rattle.world.proofs.Seating.{name_is, name_self, state_there}
use Rattle.world.proofs.Waking.{OneEach, one_each, seat_behind}

-- ---- what a site is as it comes up
module _ (S : Catalogues local) where
  -- no visit stands, and what stands is listed
  pub record Rests (s : SiteState (catalogues.listed local S)) : Type 0 where
    pub unvisited : (k : Name) → is_active (s.status k) ≡ false
    pub listed : (k : Name) → is_dead (s.status k) ≡ false → In k s.known

  in_names : (ticket : Ticket) (tickets : List Ticket) → In ticket tickets → In (name_of ticket) (map name_of tickets)
  in_names ticket [] here = absurd here
  in_names ticket (t ∷ tickets) (inl e) = inl (ap name_of e)
  in_names ticket (t ∷ tickets) (inr below) = inr (in_names ticket tickets below)

  rest_unvisited : (a : List ℕ) (r : Option Kept_row) → is_active (status_at local S a (resting r)) ≡ false
  rest_unvisited a None = refl
  rest_unvisited a (Some row) = refl

  dead_same : (a : List ℕ) (st : Status local) → is_dead (status_at local S a st) ≡ is_dead st
  dead_same a Dead = refl
  dead_same a (site_status.Active v) = refl
  dead_same a (site_status.Prepared t i) = refl

  pub seat_rests : (seat : Seat) → Begins seat.kept seat.table → Rests (state_at S seat)
  seat_rests seat begins = record {
    unvisited = λ k. ap (λ (st : Status local). is_active (status_at local S seat.name st)) (ap (λ (s : SiteState local). s.status k) begins.state) ∙ rest_unvisited seat.name (seat.kept.prepared (ticket_of k));
    listed = λ k live. in_names (ticket_of k) seat.table.tickets
        (listed_alive seat.kept seat.table begins.fits (ticket_of k) (sym (dead_same seat.name (stands seat.table (ticket_of k) (seat.kept.prepared (ticket_of k)))) ∙ live));
  }

  all_rest : (seats : List Seat) → AllByRecursion (λ seat. Begins seat.kept seat.table) seats → AllByRecursion (λ seat. Rests (state_at S seat)) seats
  all_rest [] all = tt
  all_rest (seat ∷ seats) all = (seat_rests seat all.0, all_rest seats all.1)

  pub sites_rest : (seats : List Seat) → AllByRecursion (λ seat. Begins seat.kept seat.table) seats → (a : List ℕ) → Rests (states_of S seats a)
  sites_rest seats all = at_each S Rests seats (record { unvisited = λ k. refl; listed = λ k live. (let e : true ≡ false = live in cc) }) (all_rest seats all)

  -- nobody is at a place that is no site
  pub none_there : (seats : List Seat) (a : List ℕ) → list_any (λ b. pointwise nat_eq b a) (map (λ (s : Seat). s.name) seats) ≡ false → states_of S seats a ≡ nobody S
  none_there [] a none = refl
  none_there (seat ∷ seats) a none =
      let apart : pointwise nat_eq seat.name a ≡ false = or_none_left (pointwise nat_eq seat.name a) (list_any (λ b. pointwise nat_eq b a) (map (λ (s : Seat). s.name) seats)) none in
      let later = none_there seats a (or_none_right (pointwise nat_eq seat.name a) (list_any (λ b. pointwise nat_eq b a) (map (λ (s : Seat). s.name) seats)) none) in
      ap (λ (b : Bool). if b then state_at S seat else states_of S seats a) (not_called (is_called a seat) refl apart) ∙ later
    where
      not_called : (b : Bool) → is_called a seat ≡ b → pointwise nat_eq seat.name a ≡ false → is_called a seat ≡ false
      not_called false e apart = e
      not_called true e apart = clash (subst (λ n. pointwise nat_eq n a ≡ true) (name_is a seat.name e) (name_self a)) apart

-- ---- the coordinator
module _ (db : Database) where
  abbrev L : Lang
  L = language db

  rest_decided : (r : Option Voters) → is_undecided (txn_of db (desk_recovery.resting db.sites r)) ≡ false
  rest_decided None = refl
  rest_decided (Some voters) = refl

  restarted_decided : (t : Name) (x : Txn L) → is_undecided (txn_restarted t x).txn ≡ false
  restarted_decided t Unknown = refl
  restarted_decided t (Known u) = refl
  restarted_decided t (Row voters acked) = refl

  restarted_vain : (t : Name) (x : Txn L) → AreInVain (txn_restarted t x).deeds
  restarted_vain t Unknown = tt
  restarted_vain t (Known u) = (refl, tt)
  restarted_vain t (Row voters acked) = tt

  -- nothing is stated by it
  abbrev IsMute : Deed L → Type 0
  IsMute deed = (t : Name) → statement_in t deed ≡ []

  restarted_mute : (t : Name) (x : Txn L) → Every IsMute (txn_restarted t x).deeds
  restarted_mute t Unknown = tt
  restarted_mute t (Known u) = (λ name. refl, tt)
  restarted_mute t (Row voters acked) = tt

  statements_still : (past deeds : List (Deed L)) (t : Name) → Every IsMute deeds → statements_of (past ++ deeds) t ≡ statements_of past t
  statements_still [] [] t mute = refl
  statements_still [] (d ∷ deeds) t mute = ap (λ ss. ss ++ statements_of deeds t) (mute.0 t) ∙ statements_still [] deeds t mute.1
  statements_still (d ∷ past) deeds t mute = ap (λ ss. statement_in t d ++ ss) (statements_still past deeds t mute)

  -- ---- its letters
  abbrev IsThere : Voter → Type 0
  IsThere voter = is_site L voter.site db.sites ≡ true

  among_more : (site : List ℕ) (sites : List (List ℕ)) (voters : List Voter) → Every (λ (v : Voter). is_site L v.site sites ≡ true) voters → Every (λ (v : Voter). is_site L v.site (site ∷ sites) ≡ true) voters
  among_more site sites [] all = tt
  among_more site sites (v ∷ voters) all = (or_right (pointwise nat_eq site v.site) (is_site L v.site sites) all.0, among_more site sites voters all.1)

  listed_there : (sites : List (List ℕ)) (voters : Voters) → Every (λ (v : Voter). is_site L v.site sites ≡ true) (listed sites voters)
  listed_there [] voters = tt
  listed_there (site ∷ sites) voters = go (keyed.get voters site) (among_more site sites (listed sites voters) (listed_there sites voters))
    where
      go : (o : Option Ticket) → Every (λ (v : Voter). is_site L v.site (site ∷ sites) ≡ true) (listed sites voters) → Every (λ (v : Voter). is_site L v.site (site ∷ sites) ≡ true) (cons_option (option_map (voter_with site) o) (listed sites voters))
      go None rest = rest
      go (Some ticket) rest = (or_left (pointwise nat_eq site site) (is_site L site sites) (name_self site), rest)

  commits_end : (t : Name) (voters : List Voter) → Every IsThere voters → Every OfRecovery (commits {L = L} t (map voter_of voters))
  commits_end t [] all = tt
  commits_end t (v ∷ voters) all = ((tt, all.0), commits_end t voters all.1)

  again_end : (t : Name) (r : Option Voters) → Every OfRecovery (txn_restarted t (txn_of db (desk_recovery.resting db.sites r))).letters
  again_end t None = tt
  again_end t (Some voters) = commits_end t (listed db.sites voters) (listed_there db.sites voters)

  -- ---- a letter of recovery is no operation
  homed : (c : Body L) → EndsRow c → IsAtHome L (IsPlace db) c
  homed (Commit k) of = tt
  homed (Abort k) of = tt
  homed (Ack k) of = tt
  homed (Inquire k) of = tt
  homed Open of = absurd of
  homed (Fetch k n g q) of = absurd of
  homed (Write k n g x) of = absurd of
  homed (Prepare k n) of = absurd of
  homed (said.Ticket k) of = absurd of
  homed (Rows k n rows) of = absurd of
  homed (Refused k reason) of = absurd of
  homed (Voted k x) of = absurd of

  all_homed : (letters : List (Letter L)) → Every OfRecovery letters → AreHomed L (IsPlace db) letters
  all_homed [] all = tt
  all_homed (l ∷ letters) all = (homed l.body all.0.0, all_homed letters all.1)

  -- ---- machines that have come up
  module _ (machines : Machines) (fit : FitsList db machines) (up : AreUpAgain db machines) (past : List (Deed L)) where
    abbrev w : World L
    w = world_of db machines [] past

    rests_at : (a : List ℕ) → Rests (statements db) (w.sites a)
    rests_at = sites_rest (statements db) machines.seats up.sites

    stands_decided : (t : Name) → is_undecided (w.desk.txn t) ≡ false
    stands_decided t = ap (λ o. is_undecided (txn_of db o)) (up.desk.stands (txn_at t)) ∙ rest_decided (machines.desk.commits (txn_at t))

    nowhere_else : (a : List ℕ) → is_site L a db.sites ≡ false → (k : Name) → is_dead ((w.sites a).status k) ≡ true
    nowhere_else a none k = ap (λ (s : SiteState L). is_dead (s.status k)) (none_there (statements db) machines.seats a (subst (λ (names : List (List ℕ)). list_any (λ b. pointwise nat_eq b a) names ≡ false) (sym fit.names) none))

    restart_rests : AtRest (desk_restarts w)
    restart_rests = either_if AtRest (is_desk_within (desk_restarted w.desk)) (desk_lives w) w
        (λ within. record {
          decided = λ t. restarted_decided t (w.desk.txn t);
          unvisited = λ a. (rests_at a).unvisited;
          listed = λ a. (rests_at a).listed;
          nowhere = nowhere_else;
          only = every_flat OfRecovery (λ t. (txn_restarted t (w.desk.txn t)).letters) w.desk.known (λ t. subst (λ o. Every OfRecovery (txn_restarted t (txn_of db o)).letters) (sym (up.desk.stands (txn_at t))) (again_end t (machines.desk.commits (txn_at t))));
        })
        (λ full. record { decided = stands_decided; unvisited = λ a. (rests_at a).unvisited; listed = λ a. (rests_at a).listed; nowhere = nowhere_else; only = tt })

    -- nothing is committed by it
    restart_vain : (after : Machines) (out : List letters.Letter) (notices : List Notice) (leads : ListLeads db desk_restarts machines after out notices) → committed (past ++ leads.deeds) ≡ committed past
    restart_vain after out notices leads =
        sym (ap (λ (v : World L). committed v.past) (leads.is [] past))
        ∙ either_if (λ (v : World L). committed v.past ≡ committed past) (is_desk_within (desk_restarted w.desk)) (desk_lives w) w
        (λ within. committed_still past (flat_map (λ t. (txn_restarted t (w.desk.txn t)).deeds) w.desk.known) (every_flat (λ d. is_of_commit d ≡ false) (λ t. (txn_restarted t (w.desk.txn t)).deeds) w.desk.known (λ t. restarted_vain t (w.desk.txn t))))
        (λ full. refl)

    -- and nothing is stated
    restart_mute : (after : Machines) (out : List letters.Letter) (notices : List Notice) (leads : ListLeads db desk_restarts machines after out notices) (t : Name) → statements_of (past ++ leads.deeds) t ≡ statements_of past t
    restart_mute after out notices leads t =
        sym (ap (λ (v : World L). statements_of v.past t) (leads.is [] past))
        ∙ either_if (λ (v : World L). statements_of v.past t ≡ statements_of past t) (is_desk_within (desk_restarted w.desk)) (desk_lives w) w
        (λ within. statements_still past (flat_map (λ t. (txn_restarted t (w.desk.txn t)).deeds) w.desk.known) t (every_flat IsMute (λ t. (txn_restarted t (w.desk.txn t)).deeds) w.desk.known (λ t. restarted_mute t (w.desk.txn t))))
        (λ full. refl)

  -- ---- each site asks
  -- each site stands under its own name
  own_states : (done rest : List Seat) → OneEach done rest → AllByRecursion (λ seat. states_of (statements db) (done ++ rest) seat.name ≡ state_at (statements db) seat) rest
  own_states done [] each = tt
  own_states done (seat ∷ rest) each = (
    state_there (statements db) seat.name (done ++ seat ∷ rest) seat (seat_behind seat.name done seat rest each.0 (name_self seat.name)),
    subst (λ (seats : List Seat). AllByRecursion (λ s. states_of (statements db) seats s.name ≡ state_at (statements db) s) rest) (append_assoc done (seat ∷ []) rest) (own_states (done ++ seat ∷ []) rest each.1),
  )

  module _ (machines : Machines) (past : List (Deed L)) where
    asked_is : (rest : List Seat) (waiting : List (Letter L)) → AllByRecursion (λ seat. states_of (statements db) machines.seats seat.name ≡ state_at (statements db) seat) rest →
        all_inquire (map (λ (s : Seat). s.name) rest) (world_of db machines waiting past) ≡ world_of db machines (waiting ++ flat_map (λ seat. inquiries seat.name (state_at (statements db) seat)) rest) past
    asked_is [] waiting own = λ i. world_of db machines (sym (append-nil waiting) i) past
    asked_is (seat ∷ rest) waiting own =
        let here = inquiries seat.name (state_at (statements db) seat) in
        ap (λ (s : SiteState L). all_inquire (map (λ (s : Seat). s.name) rest) (world_of db machines (waiting ++ inquiries seat.name s) past)) own.0
        ∙ asked_is rest (waiting ++ here) own.1
        ∙ ap (λ ls. world_of db machines ls past) (append_assoc waiting here (flat_map (λ seat. inquiries seat.name (state_at (statements db) seat)) rest))

    module _ (law : ReachedLaw L) (whole : L.Whole) where
      asked_reached : (sites : List (List ℕ)) (v : World L) → ((a : List ℕ) → is_site L a sites ≡ true → is_site L a db.sites ≡ true) → IsReached whole v → IsReached whole (all_inquire sites v)
      asked_reached [] v among reached = reached
      asked_reached (a ∷ sites) v among reached =
          asked_reached sites (inquires v a) (λ b below. among b (or_right (pointwise nat_eq a b) (is_site L b sites) below))
          (law.inquired whole v a reached (among a (or_left (pointwise nat_eq a a) (is_site L a sites) (name_self a))))

  -- the inquiries of the code are those of the protocol
  seats_ask : (seats : List Seat) → map (letter_at local (statements db)) (flat_map (λ seat. inquiries seat.name (state_of seat.kept seat.table)) seats) ≡ flat_map (λ seat. inquiries seat.name (state_at (statements db) seat)) seats
  seats_ask [] = refl
  seats_ask (seat ∷ seats) =
      map-append (letter_at local (statements db)) (inquiries seat.name (state_of seat.kept seat.table)) (flat_map (λ seat. inquiries seat.name (state_of seat.kept seat.table)) seats)
      ∙ (λ i. inquiries_same local (statements db) local_lawful seat.name (state_of seat.kept seat.table) i ++ seats_ask seats i)

  sent_is : (ls : List letters.Letter) → map (sent db) ls ≡ map (letter_at local (statements db)) (map letter_of ls)
  sent_is [] = refl
  sent_is (l ∷ ls) = ap (λ rest. sent db l ∷ rest) (sent_is ls)

  sent_more : (seats : List Seat) (before after : List letters.Letter) → map letter_of after ≡ map letter_of before ++ flat_map (λ seat. inquiries seat.name (state_of seat.kept seat.table)) seats →
      map (sent db) after ≡ map (sent db) before ++ flat_map (λ seat. inquiries seat.name (state_at (statements db) seat)) seats
  sent_more seats before after is =
      sent_is after ∙ ap (map (letter_at local (statements db))) is ∙ map-append (letter_at local (statements db)) (map letter_of before) (flat_map (λ seat. inquiries seat.name (state_of seat.kept seat.table)) seats)
      ∙ (λ i. sym (sent_is before) i ++ seats_ask seats i)

  -- so a world in which all have asked is reached
  pub all_asked : (law : ReachedLaw L) (opened : L.Whole) (distinct : AreDistinct db.sites) (mid : Machines) (now : List (Deed L)) (commits asked : List letters.Letter) → map (λ seat. seat.name) mid.seats ≡ db.sites →
      map letter_of asked ≡ map letter_of commits ++ flat_map (λ seat. inquiries seat.name (state_of seat.kept seat.table)) mid.seats → IsReached opened (world_of db mid (map (sent db) commits) now) → IsReached opened (world_of db mid (map (sent db) asked) now)
  all_asked law opened distinct mid now commits asked named more reached =
      let before = world_of db mid (map (sent db) commits) now in
      let after = world_of db mid (map (sent db) asked) now in
      let each : OneEach [] mid.seats = one_each db.sites distinct [] mid.seats named (λ name here. tt) in
      let all_ask : all_inquire db.sites before ≡ after =
      subst (λ (names : List (List ℕ)). all_inquire names before ≡ after) named
      (asked_is mid now mid.seats (map (sent db) commits) (own_states [] mid.seats each) ∙ ap (λ ls. world_of db mid ls now) (sym (sent_more mid.seats commits asked more))) in
      subst (IsReached opened) all_ask (asked_reached mid now law opened db.sites before (λ a here. here) reached)

  -- ---- at the end
  -- no ticket stands where a database that recovers has no letter left
  all_dead : (deeds : List (Deed L)) (v : World L) → Recovering deeds v → v.letters ≡ [] → (a : List ℕ) (k : Name) → is_dead ((v.sites a).status k) ≡ true
  all_dead deeds v recovering silent a k = go ((v.sites a).status k) (recovering.unvisited a k) (λ is. subst (λ (ls : List (Letter L)). Hears k (at a ls)) silent (recovering.hears a k is))
    where
      go : (st : Status L) → is_active st ≡ false → (is_prepared st ≡ true → Hears {L = L} k []) → is_dead st ≡ true
      go Dead calm hears = refl
      go (site_status.Active v) calm hears = let e : true ≡ false = calm in cc
      go (site_status.Prepared t i) calm hears = ⊎_elim (λ none. absurd none) (λ more. ⊎_elim (λ none. absurd none) (λ none. absurd none) more) (hears refl)

  -- behind whom nothing stands by the protocol, nothing stands in memory
  unknown : (seat : Seat) → IsSeated seat → (ticket : Ticket) → is_dead ((state_at (statements db) seat).status (name_of ticket)) ≡ true → seat.table.standing ticket ≡ None
  unknown seat fits ticket dead = go (seat.kept.prepared ticket) refl (seat.table.standing ticket) refl
    where
      stood : (r : Option Kept_row) → seat.kept.prepared ticket ≡ r → is_dead (stands seat.table ticket r) ≡ true
      stood r e = subst (λ r. is_dead (stands seat.table ticket r) ≡ true) e (sym (dead_same (statements db) seat.name (stands seat.table ticket (seat.kept.prepared ticket))) ∙ dead)

      go : (r : Option Kept_row) → seat.kept.prepared ticket ≡ r → (o : Option standings.TicketState) → seat.table.standing ticket ≡ o → seat.table.standing ticket ≡ None
      go (Some row) e o is = let no : false ≡ true = stood (Some row) e in absurd cc
      go None e None is = is
      go None e (Some (standing.Prepared t)) is = let some : Some t ≡ None = sym (ap txn_in is) ∙ fits.prepared ticket ∙ ap (option_map (λ (row : Kept_row). row.txn)) e in absurd cc
      go None e (Some (standing.Active v)) is = let no : false ≡ true = sym (ap (λ o. is_dead (visiting seat.table.locks ticket o)) is) ∙ stood None e in absurd cc

  none_listed : (seat : Seat) → IsSeated seat → ((k : Name) → is_dead ((state_at (statements db) seat).status k) ≡ true) → seat.table.tickets ≡ []
  none_listed seat fits dead = go seat.table.tickets fits.lives
    where
      go : (tickets : List Ticket) → ((ticket : Ticket) → In ticket tickets → is_some (seat.table.standing ticket) ≡ true) → tickets ≡ []
      go [] lives = refl
      go (t ∷ tickets) lives = let no : false ≡ true = sym (ap is_some (unknown seat fits t (dead (name_of t)))) ∙ lives t (inl refl) in absurd cc

  no_ticket : (seats rest : List Seat) → AllByRecursion (λ seat. states_of (statements db) seats seat.name ≡ state_at (statements db) seat) rest → AllByRecursion IsSeated rest → ((a : List ℕ) (k : Name) → is_dead ((states_of (statements db) seats a).status k) ≡ true) → HaveNoTicket rest
  no_ticket seats [] own fits dead = tt
  no_ticket seats (seat ∷ rest) own fits dead =
      (none_listed seat fits.0 (λ k. subst (λ (s : SiteState L). is_dead (s.status k) ≡ true) own.0 (dead seat.name k)), no_ticket seats rest own.1 fits.1 dead)

  -- ---- all together
  -- what has become of a reached world, all of it quiet
  pub record Recovered (opened : L.Whole) (past : List (Deed L)) (after : Machines) : Type 0 where
    pub more : List (Deed L)
    pub reached : IsReached opened (world_of db after [] (past ++ more))
    pub quiet : IsQuiet (world_of db after [] (past ++ more))
    pub unvisited : HaveNoTicket after.seats
    pub unstated : (txn : Name) → statements_of (past ++ more) txn ≡ statements_of past txn
    pub uncommitted : committed (past ++ more) ≡ committed past

  recovered : (law : ReachedLaw L) (recovery : RecoveryLaw L) (distinct : AreDistinct db.sites) (opened : L.Whole) (past : List (Deed L)) (before mid after : Machines) (commits asked : List letters.Letter) (notices heard : List Notice) (scene : Scene) →
      IsReached opened (world_of db before [] past) → FitsList db before → AreUpAgain db before → ListLeads db desk_restarts before mid commits notices →
      map letter_of asked ≡ map letter_of commits ++ flat_map (λ seat. inquiries seat.name (state_of seat.kept seat.table)) mid.seats →
      scene.waiting ≡ asked → (same : (ls : List (Letter L)) (ds : List (Deed L)) → world_of db scene.machines ls ds ≡ world_of db mid ls ds) → FitsList db scene.machines →
      ListComes db scene (settled after heard) → Recovered opened past after
  recovered law recovery distinct opened past before mid after commits asked notices heard scene was_reached fits up leads more waits same fit goes =
      let now = past ++ leads.deeds in
      let w1 = world_of db before [] past in
      let w2 = world_of db mid (map (sent db) commits) now in
      let w3 = world_of db mid (map (sent db) asked) now in
      let rest : AtRest w2 = subst AtRest (leads.is [] past) (restart_rests before fits up past) in
      let reached2 : IsReached opened w2 = subst (IsReached opened) (leads.is [] past) (law.desk_restarted opened w1 was_reached) in
      let each : OneEach [] mid.seats = one_each db.sites distinct [] mid.seats leads.fit.names (λ name here. tt) in
      let all_ask : all_inquire db.sites w2 ≡ w3 =
      subst (λ (names : List (List ℕ)). all_inquire names w2 ≡ w3) leads.fit.names
      (asked_is mid now mid.seats (map (sent db) commits) (own_states [] mid.seats each) ∙ ap (λ ls. world_of db mid ls now) (sym (sent_more mid.seats commits asked more))) in
      let recovering3 : Recovering now w3 = subst (Recovering now) all_ask (recovery.asked w2 rest) in
      let reached3 : IsReached opened w3 = subst (IsReached opened) all_ask (asked_reached mid now law opened db.sites w2 (λ a here. here) reached2) in
      let begins : world_of db scene.machines (map (sent db) scene.waiting) now ≡ w3 = ap (λ ls. world_of db scene.machines (map (sent db) ls) now) waits ∙ same (map (sent db) asked) now in
      let start = world_of db scene.machines (map (sent db) scene.waiting) now in
      let recovering = subst (Recovering now) (sym begins) recovering3 in
      let reached = subst (IsReached opened) (sym begins) reached3 in
      let within : Within start = record { desk = fit.within; sites = λ name. seats_within db scene.machines.seats name fit.sites } in
      let founded = goes.founded (all_homed (map (sent db) scene.waiting) recovering.only) now in
      let ended : Recovering now (world_of db after [] (now ++ goes.deeds)) = subst (Recovering now) (goes.is now) (recovery.come now goes.comings start within founded recovering) in
      let quiet = recovery.quiet now (world_of db after [] (now ++ goes.deeds)) ended refl in
      let all : AllExplained (now ++ goes.deeds) = all_both Rattle.protocol.specs.Serial.Explained now goes.deeds reached.explained goes.explained in
      let all_here : AllExplained (all_come goes.comings start).past = subst (λ (v : World L). AllExplained v.past) (sym (goes.is now)) all in
      let reached_last : IsReached opened (world_of db after [] (now ++ goes.deeds)) = subst (IsReached opened) (goes.is now) (all_reached law opened goes.comings start reached all_here) in
      record {
        more = leads.deeds;
        reached = subst (λ ds. IsReached opened (world_of db after [] ds)) quiet.1 reached_last;
        quiet = subst (λ ds. IsQuiet (world_of db after [] ds)) quiet.1 quiet.0;
        unvisited = no_ticket after.seats after.seats (own_states [] after.seats (one_each db.sites distinct [] after.seats goes.fit.names (λ name here. tt))) goes.fit.sites (all_dead now (world_of db after [] (now ++ goes.deeds)) ended refl);
        unstated = restart_mute before fits up past mid commits notices leads;
        uncommitted = restart_vain before fits up past mid commits notices leads;
      }

  pub recovers : (law : ReachedLaw L) (recovery : RecoveryLaw L) (distinct : AreDistinct db.sites) (whole : Relations) (past : List (Deed L)) (before mid after : Machines) (commits asked : List letters.Letter) (notices heard : List Notice) (scene : Scene) →
      IsServed db whole before past → AreUpAgain db before → Leads db desk_restarts before mid commits notices →
      map letter_of asked ≡ map letter_of commits ++ flat_map (λ seat. inquiries seat.name (state_of seat.kept seat.table)) mid.seats →
      scene.waiting ≡ asked → (same : (ls : List (Letter L)) (ds : List (Deed L)) → world_of db scene.machines ls ds ≡ world_of db mid ls ds) → AreFit db scene.machines →
      Goes db (λ w. w) scene (settled after heard) → GoesOnFrom db whole past after
  recovers law recovery distinct whole past before mid after commits asked notices heard scene served up leads more waits same fit goes =
      let so = recovered law recovery distinct (served.version, whole) past before mid after commits asked notices heard scene served.reached (fits_list db before served.fit) up (leads_list db desk_restarts before mid commits notices leads) more waits same (fits_list db scene.machines fit)
      (record { comings = goes.comings; deeds = goes.deeds; fit = fits_list db after goes.fit; is = goes.is; placed = goes.placed; founded = goes.founded; explained = goes.explained; replies = goes.replies }) in
      record { more = so.more; served = record { version = served.version; reached = so.reached; fit = goes.fit }; quiet = so.quiet; unvisited = so.unvisited; unstated = so.unstated; uncommitted = so.uncommitted }

  -- so over a list of catalogues
  pub list_recovers : (law : ReachedLaw L) (recovery : RecoveryLaw L) (distinct : AreDistinct db.sites) (whole : Relations) (past : List (Deed L)) (before mid after : Machines) (commits asked : List letters.Letter) (notices heard : List Notice) (scene : Scene) →
      IsListServed db whole before past → AreUpAgain db before → ListLeads db desk_restarts before mid commits notices →
      map letter_of asked ≡ map letter_of commits ++ flat_map (λ seat. inquiries seat.name (state_of seat.kept seat.table)) mid.seats →
      scene.waiting ≡ asked → (same : (ls : List (Letter L)) (ds : List (Deed L)) → world_of db scene.machines ls ds ≡ world_of db mid ls ds) → FitsList db scene.machines →
      ListComes db scene (settled after heard) → ListGoesOnFrom db whole past after
  list_recovers law recovery distinct whole past before mid after commits asked notices heard scene served up leads more waits same fit goes =
      let so = recovered law recovery distinct (served.version, whole) past before mid after commits asked notices heard scene served.reached served.fit up leads more waits same fit goes in
      record { more = so.more; served = record { version = served.version; reached = so.reached; fit = goes.fit }; quiet = so.quiet; unvisited = so.unvisited; unstated = so.unstated; uncommitted = so.uncommitted }

  -- what was lost as machines came up commits nobody, and states nothing
  lost_mute : (past : List (Deed L)) (old : Machines) (t : Name) → statements_of (past ++ lost_by db old) t ≡ statements_of past t
  lost_mute past old t = statements_still past (lost_by db old) t (every_flat IsMute (λ t. (txn_restarted t ((desk_of db old.table).txn t)).deeds) (desk_of db old.table).known (λ t. restarted_mute t ((desk_of db old.table).txn t)))

  lost_vain : (past : List (Deed L)) (old : Machines) → committed (past ++ lost_by db old) ≡ committed past
  lost_vain past old = committed_still past (lost_by db old) (every_flat (λ d. is_of_commit d ≡ false) (λ t. (txn_restarted t ((desk_of db old.table).txn t)).deeds) (desk_of db old.table).known (λ t. restarted_vain t ((desk_of db old.table).txn t)))

  pub goes_further : (whole : Relations) (past : List (Deed L)) (old machines : Machines) → GoesOnFrom db whole (past ++ lost_by db old) machines → GoesOnFrom db whole past machines
  goes_further whole past old machines goes =
      let same = append_assoc past (lost_by db old) goes.more in
      record {
        more = lost_by db old ++ goes.more;
        served = subst (IsServed db whole machines) same goes.served;
        quiet = subst (λ ds. IsQuiet (world_of db machines [] ds)) same goes.quiet;
        unvisited = goes.unvisited;
        unstated = λ t. ap (λ ds. statements_of ds t) (sym same) ∙ goes.unstated t ∙ lost_mute past old t;
        uncommitted = ap committed (sym same) ∙ goes.uncommitted ∙ lost_vain past old;
      }

  pub list_further : (whole : Relations) (past : List (Deed L)) (old machines : Machines) → ListGoesOnFrom db whole (past ++ lost_by db old) machines → ListGoesOnFrom db whole past machines
  list_further whole past old machines goes =
      let same = append_assoc past (lost_by db old) goes.more in
      record {
        more = lost_by db old ++ goes.more;
        served = subst (IsListServed db whole machines) same goes.served;
        quiet = subst (λ ds. IsQuiet (world_of db machines [] ds)) same goes.quiet;
        unvisited = goes.unvisited;
        unstated = λ t. ap (λ ds. statements_of ds t) (sym same) ∙ goes.unstated t ∙ lost_mute past old t;
        uncommitted = ap committed (sym same) ∙ goes.uncommitted ∙ lost_vain past old;
      }
