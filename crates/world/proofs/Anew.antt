-- A database in whose memory nothing stands is an opening again.
use Rattle.std.proofs.Common.{◌≡◌, refl, sym, ap, ◌∙◌, subst, ℕ, true, false, List, [], ◌∷◌, ◌++◌, map, Option, Some, None, is_some, inl}
use Rattle.std.proofs.Math.Path.{fun_ext}
use Rattle.std.specs.List.{AllByRecursion}
use Rattle.std.specs.Option.{option_map}
use Rattle.meaning.specs.declared.statement.Statement.{Statement}
use Rattle.meaning.specs.Whole.{FitsSchema, Relations}
use Rattle.store.specs.declared.name.Ticket.{Ticket}
use Rattle.store.specs.declared.name.Txn as txns
use Rattle.store.specs.declared.prepared.Prepared.{Prepared as Kept_row}
use Rattle.protocol.specs.Client.{IsQuiet, IsReached, ReachedLaw}
use Rattle.protocol.specs.Desk.{Deed, is_undecided}
use Rattle.protocol.specs.Language.{Name}
use Rattle.protocol.specs.Letters.{name_of, ticket_of, txn_name}
use Rattle.protocol.specs.Local.{local}
use Rattle.protocol.specs.Parts.{In}
use Rattle.protocol.specs.Serial.{IsOpening, committed, statements_of, with_all_decided}
use Rattle.protocol.specs.Site.{Dead}
use Rattle.protocol.specs.Catalogues.{Catalogues, stated, status_at}
use Rattle.protocol.proofs.ListLaw.{serial_list, serial_whole_is}
use Rattle.protocol.proofs.StatementCourse.{opening_quiet}
use Rattle.site.specs.State.{stands, txn_in, visiting}
use Rattle.desk.specs.declared.transaction.TxnState.{TxnState}
use Rattle.desk.specs.declared.transaction.TxnState.TheVariants as standing
use Rattle.desk.specs.Acknowledge.{kept_voters}
use Rattle.desk.specs.Database.{Database, language, statements}
use Rattle.desk.specs.State.{desk_of, txn_at}
use Rattle.desk.specs.Transaction.{txn_of}
use Rattle.world.specs.Client.{IsServed}
use Rattle.world.specs.Listed.{FitsList, IsListed}
use Rattle.world.specs.Machines.{Machines, world_of}
use Rattle.world.specs.Recovery.{BeginsAnewLaw, GoesOnFrom, HaveNoTicket, IsBeginning, IsListBeginning, ListBeginsAnewLaw, ListGoesOnFrom, NothingStands}
use Rattle.world.specs.Runs.{relations_after}
use Rattle.world.specs.Settled.{AreDecided, AreThoseOf, after_committed}
use Rattle.world.specs.Sites.{IsSeated, Seat, state_at, states_of}
use Rattle.world.proofs.Counting.{fit_counted, fit_uncounted, with_counts}
use Rattle.world.proofs.ListCalls.{served_with, served_without}
use Rattle.world.proofs.ListSolo.{list_served_fits, list_served_rebuilds}
use Rattle.world.proofs.Machinery.{fits_list}
use Rattle.world.proofs.Openings.{at_each}

-- ---- a site of which no ticket stands
module _ (S : Catalogues local) (seat : Seat) (fits : IsSeated seat) (none : seat.table.tickets ≡ []) where
  nobody_stands : (ticket : Ticket) → seat.table.standing ticket ≡ None
  nobody_stands ticket = go (seat.table.standing ticket) refl
    where
      go : (o : _) → seat.table.standing ticket ≡ o → seat.table.standing ticket ≡ None
      go None is = is
      go (Some st) is = absurd (subst (In ticket) none (fits.listed ticket (ap is_some is)))

  no_row : (ticket : Ticket) → seat.kept.prepared ticket ≡ None
  no_row ticket = go (seat.kept.prepared ticket) refl
    where
      go : (r : Option Kept_row) → seat.kept.prepared ticket ≡ r → seat.kept.prepared ticket ≡ None
      go None is = is
      go (Some row) is = let some : None ≡ Some row.txn = sym (ap txn_in (nobody_stands ticket)) ∙ fits.prepared ticket ∙ ap (option_map (λ (row : Kept_row). row.txn)) is in absurd cc

  is_dead_there : (k : Name) → (state_at S seat).status k ≡ Dead
  is_dead_there k = ap (status_at local S seat.name) (ap (stands seat.table (ticket_of k)) (no_row (ticket_of k)) ∙ ap (visiting seat.table.locks (ticket_of k)) (nobody_stands (ticket_of k)))

  none_known_there : (state_at S seat).known ≡ []
  none_known_there = ap (map name_of) none

module _ (S : Catalogues local) where
  all_dead : (seats : List Seat) → AllByRecursion IsSeated seats → HaveNoTicket seats → AllByRecursion (λ seat. (k : Name) → (state_at S seat).status k ≡ Dead) seats
  all_dead [] fits none = tt
  all_dead (seat ∷ seats) fits none = (is_dead_there S seat fits.0 none.0, all_dead seats fits.1 none.1)

  all_unknown : (seats : List Seat) → AllByRecursion IsSeated seats → HaveNoTicket seats → AllByRecursion (λ seat. (state_at S seat).known ≡ []) seats
  all_unknown [] fits none = tt
  all_unknown (seat ∷ seats) fits none = (none_known_there S seat fits.0 none.0, all_unknown seats fits.1 none.1)

-- ---- what was committed
module _ (db : Database) (law : ReachedLaw (language db)) (whole : Relations) (machines : Machines) (past : List (Deed (language db))) (served : IsServed db whole machines past) where
  abbrev opened : (language db).Whole
  opened = (served.version, whole)

  -- it makes whole relations
  pub served_fits : FitsSchema db.schemas (after_committed db past whole)
  served_fits = subst (FitsSchema db.schemas) (serial_whole_is local (statements db) past (committed past) opened) (law.is_whole opened (world_of db machines [] past) served.reached)

  -- and the settled fragments are those
  pub served_rebuilds : AreThoseOf db machines (after_committed db past whole)
  served_rebuilds = (serial_list local (statements db) opened (world_of db machines [] past) (law.serial opened (world_of db machines [] past) served.reached)).rebuilt

-- ---- the machines together
-- whole: the relations that the settled fragments are of
module _ (db : Database) (whole : Relations) (machines : Machines) (fits : FitsSchema db.schemas whole) (rebuilt : AreThoseOf db machines whole) (fit : FitsList db machines) (still : NothingStands machines) where
  nobody_begun : (txn : txns.Txn) → machines.table.standing txn ≡ None
  nobody_begun txn = go (machines.table.standing txn) refl
    where
      go : (o : Option TxnState) → machines.table.standing txn ≡ o → machines.table.standing txn ≡ None
      go None is = is
      go (Some st) is = absurd (subst (In txn) still.txns (fit.desk.listed txn (ap is_some is)))

  known_is : (a : List ℕ) → (states_of (statements db) machines.seats a).known ≡ []
  known_is = at_each (statements db) (λ s. s.known ≡ []) machines.seats refl (all_unknown (statements db) machines.seats fit.sites still.tickets)

  anew : IsOpening (machines.table.version, whole) (world_of db machines [] [])
  anew = record {
    is_whole = fits;
    letters = refl;
    past = refl;
    visits = at_each (statements db) (λ s. (k : Name) → s.status k ≡ Dead) machines.seats (λ k. refl) (all_dead (statements db) machines.seats fit.sites still.tickets);
    tickets = known_is;
    undecided = λ t. ap (txn_of db) (nobody_begun (txn_at t));
    names = ap (map txn_name) still.txns;
    rebuilt = λ place.
        let s = states_of (statements db) machines.seats place.0 in
        sym (ap (λ names. with_all_decided (desk_of db machines.table) place s.status names (s.kept place)) (known_is place.0))
        ∙ rebuilt place;
    in_force = refl;
  }

  anew_reached : IsReached (machines.table.version, whole) (world_of db machines [] [])
  anew_reached = record { opening = world_of db machines [] []; opens = anew; events = []; gone = []; is = refl; explained = tt }

  anew_quiet : IsQuiet (world_of db machines [] [])
  anew_quiet = opening_quiet (machines.table.version, whole) (world_of db machines [] []) anew

  pub list_anew : IsListBeginning db whole machines
  list_anew = record { fits = fits; served = record { version = machines.table.version; reached = anew_reached; fit = fit }; quiet = anew_quiet }

pub anew_law : (db : Database) → ReachedLaw (language db) → BeginsAnewLaw db
anew_law db law whole machines past served still =
    let whole_now = after_committed db past whole in
    let fits = served_fits db law whole machines past served in
    let rebuilt = served_rebuilds db law whole machines past served in
    let fit = fits_list db machines served.fit in
    record {
      fits = fits;
      served = record { version = machines.table.version; reached = anew_reached db whole_now machines fits rebuilt fit still; fit = served.fit };
      quiet = anew_quiet db whole_now machines fits rebuilt fit still;
    }

-- ---- it doesn't matter how often media have refused
pub going_on : (db : Database) (whole : Relations) (past : List (Deed (language db))) (first second : Machines) (a b : List ℕ) → second ≡ first → GoesOnFrom db whole past (with_counts first a) → GoesOnFrom db whole past (with_counts second b)
going_on db whole past first second a b same goes = subst (λ (machines : Machines). GoesOnFrom db whole past (with_counts machines b)) (sym same) (record {
  more = goes.more;
  served = record { version = goes.served.version; reached = goes.served.reached; fit = fit_counted db first b (fit_uncounted db first a goes.served.fit) };
  quiet = goes.quiet;
  unvisited = goes.unvisited;
  unstated = goes.unstated;
  uncommitted = goes.uncommitted;
})

pub list_going_on : (db : Database) (whole : Relations) (past : List (Deed (language db))) (first second : Machines) (a b : List ℕ) → second ≡ first → ListGoesOnFrom db whole past (with_counts first a) → ListGoesOnFrom db whole past (with_counts second b)
list_going_on db whole past first second a b same goes = subst (λ (machines : Machines). ListGoesOnFrom db whole past (with_counts machines b)) (sym same) (record {
  more = goes.more;
  served = served_with db whole first b (past ++ goes.more) (served_without db whole first a (past ++ goes.more) goes.served);
  quiet = goes.quiet;
  unvisited = goes.unvisited;
  unstated = goes.unstated;
  uncommitted = goes.uncommitted;
})

-- ---- machines that have come up
module _ (db : Database) (machines : Machines) (fit : FitsList db machines) (past : List (Deed (language db))) (quiet : IsQuiet (world_of db machines [] past)) (none : AreDecided machines.table []) where
  -- no transaction stands: none is undecided, and none has a commit row
  none_stands : (txn : txns.Txn) → machines.table.standing txn ≡ None
  none_stands txn = go (machines.table.standing txn) refl
    where
      go : (o : Option TxnState) → machines.table.standing txn ≡ o → machines.table.standing txn ≡ None
      go None is = is
      go (Some (standing.Undecided u)) is = let no : true ≡ false = sym (ap (λ o. is_undecided (txn_of db o)) is) ∙ quiet.decided (txn_name txn) in absurd cc
      go (Some (standing.Committed c)) is = let no : false ≡ true = none txn ∙ ap (λ o. is_some (kept_voters o)) is in absurd cc

  no_txns : machines.table.txns ≡ []
  no_txns = go machines.table.txns fit.desk.lives
    where
      go : (names : List txns.Txn) → ((txn : txns.Txn) → In txn names → is_some (machines.table.standing txn) ≡ true) → names ≡ []
      go [] lives = refl
      go (txn ∷ names) lives = let no : false ≡ true = sym (ap is_some (none_stands txn)) ∙ lives txn (inl refl) in absurd cc

-- where nothing more was stated or committed the relations are the same
same_whole : (db : Database) (whole : Relations) (past more : List (Deed (language db))) → ((t : Name) → statements_of (past ++ more) t ≡ statements_of past t) → committed (past ++ more) ≡ committed past → after_committed db (past ++ more) whole ≡ after_committed db past whole
same_whole db whole past more unstated uncommitted =
    ap (λ ts. relations_after db (map (stated local (statements db) (past ++ more)) ts) whole) uncommitted
    ∙ ap (λ (of : Name → List Statement). relations_after db (map of (committed past)) whole) (fun_ext (λ t. ap (map (λ (s : ℕ × Statement). s.1)) (unstated t)))

pub begins_on : (db : Database) → BeginsAnewLaw db → (whole : Relations) (past : List (Deed (language db))) (machines : Machines) → GoesOnFrom db whole past machines → AreDecided machines.table [] → IsBeginning db (after_committed db past whole) machines
begins_on db law whole past machines goes none =
    let now = past ++ goes.more in
    subst (λ w. IsBeginning db w machines) (same_whole db whole past goes.more goes.unstated goes.uncommitted)
    (law whole machines now goes.served (record { txns = no_txns db machines (fits_list db machines goes.served.fit) now goes.quiet none; tickets = goes.unvisited }))

-- so over a list of catalogues
pub list_begins_on : (db : Database) → ListBeginsAnewLaw db → (whole : Relations) (past : List (Deed (language db))) (machines : Machines) → ListGoesOnFrom db whole past machines → AreDecided machines.table [] → IsListBeginning db (after_committed db past whole) machines
list_begins_on db law whole past machines goes none =
    let now = past ++ goes.more in
    subst (λ w. IsListBeginning db w machines) (same_whole db whole past goes.more goes.unstated goes.uncommitted)
    (law whole machines now goes.served (record { txns = no_txns db machines goes.served.fit now goes.quiet none; tickets = goes.unvisited }))

pub list_anew_law : (db : Database) → IsListed db → ListBeginsAnewLaw db
list_anew_law db listed whole machines past served still =
    list_anew db (after_committed db past whole) machines (list_served_fits db listed whole machines past served) (list_served_rebuilds db listed whole machines past served) served.fit still
