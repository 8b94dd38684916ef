-- The settled fragments of the machines are those of the protocol's world.
use Rattle.std.proofs.Common.{◌≡◌, refl, sym, ap, ◌∙◌, ℕ, Bool, true, false, ◌||◌, List, [], ◌∷◌, map, Option, Some, None, is_some, if◌then◌else◌, option_map}
use Rattle.terms.specs.declared.leaf.Leaf.{Leaf}
use Rattle.store.specs.declared.commit.CommitRow.{CommitRow}
use Rattle.store.specs.declared.commit.DeskKept.{DeskKept}
use Rattle.store.specs.declared.commit.Voter.{Voter}
use Rattle.store.specs.declared.name.Ticket.{Ticket}
use Rattle.store.specs.declared.name.Txn.{Txn}
use Rattle.store.specs.declared.prepared.Prepared.{Prepared}
use Rattle.store.specs.Content.{Content, changed}
use Rattle.store.specs.DeskContent as of_desk
use Rattle.store.specs.SiteContent as of_site
use Rattle.protocol.specs.Letters.{name_of}
use Rattle.protocol.specs.Serial as serial
use Rattle.protocol.specs.Site as protocol_site
use Rattle.protocol.specs.Catalogues.{intended_at, site_at, status_at}
use Rattle.protocol.specs.Local.{local}
use Rattle.protocol.specs.Site.{Status}
use Rattle.protocol.proofs.Basics.{some_is}
use Rattle.protocol.proofs.Placing.{changed_here, kept_here}
use Rattle.site.specs.declared.site.Site.{Site}
use Rattle.site.specs.declared.tickets.TicketState as site_standings
use Rattle.site.specs.declared.tickets.TicketState.TheVariants as at_site
use Rattle.site.specs.Settled.{is_among, with_all, with_some}
use Rattle.site.specs.Locks.{leaves_in}
use Rattle.site.specs.State as site_state
use Rattle.site.proofs.Lawful.{local_lawful}
use Rattle.desk.specs.declared.transaction.TxnState as desk_standings
use Rattle.desk.specs.declared.transaction.TxnState.TheVariants as at_desk
use Rattle.desk.specs.Database.{Database, language, statements}
use Rattle.desk.specs.Place.{Place}
use Rattle.desk.specs.Transaction.{txn_of}
use Rattle.desk.specs.State as desk_state
use Rattle.desk.specs.Acknowledge.{kept_voters}
use Rattle.desk.proofs.Txns.{same_txn, txn_sym}
use Rattle.world.specs.Machines.{Machines, world_of}
use Rattle.world.specs.Seated.{seat_from}
use Rattle.world.specs.Sites.{Seat, seat_of, states_of}
use Rattle.world.specs.Settled.{AreDecided, settled_at, settled_in}
use Rattle.world.proofs.Seating.{seat_named, state_there}
use Rattle.world.proofs.SiteSteps.{seat_same, unchanged}

-- a site whose memory and whose store have not changed
pub seat_stays : {S : Type 0} (content : S → of_site.SiteContent) (old new : Site S) → new.volatile ≡ old.volatile → of_site.IsUnchanged (content old.store) (content new.store) → seat_from content new ≡ seat_from content old
seat_stays content old new memory same = seat_same (seat_from content old) (seat_from content new) (ap (λ p. p.name) memory) (ap (λ p. leaves_in p.locks.items) memory) (ap site_state.volatile_of memory) (unchanged (content old.store) (content new.store) same)

-- ---- the transactions that have a commit row
txns_of : List CommitRow → List Txn
txns_of rows = map (λ row. row.txn) rows

listed_among : (rows : List CommitRow) (txn : Txn) → is_among (map (λ row. row.txn) rows) txn ≡ is_some (of_desk.voters_in txn rows)
listed_among [] txn = refl
listed_among (row ∷ rows) txn =
    ap (λ b. b || is_among (map (λ (r : CommitRow). r.txn) rows) txn) (same_txn row.txn txn ∙ txn_sym row.txn txn)
    ∙ go (of_desk.is_txn txn row.txn) (listed_among rows txn)
  where
    go : (b : Bool) → is_among (map (λ (r : CommitRow). r.txn) rows) txn ≡ is_some (of_desk.voters_in txn rows) → (b || is_among (map (λ (r : CommitRow). r.txn) rows) txn) ≡ is_some (if b then Some row.voters else of_desk.voters_in txn rows)
    go true later = refl
    go false later = later

is_some_list : (found : Option (List Voter)) → is_some (option_map of_desk.by_site found) ≡ is_some found
is_some_list None = refl
is_some_list (Some voters) = refl

pub decided_are : (kept after : of_desk.DeskContent) (table : desk_state.VolatileState) (all : DeskKept) → ((txn : Txn) → kept_voters (table.standing txn) ≡ kept.commits txn) → of_desk.IsUnchanged kept after → of_desk.Lists after all → AreDecided table (map (λ row. row.txn) all.commits)
decided_are kept after table all rows same lists = λ txn. listed_among all.commits txn ∙ sym (is_some_list (of_desk.voters_in txn all.commits)) ∙ ap is_some (lists.rows txn ∙ same.commits txn ∙ sym (rows txn))

-- ---- the settled fragments of a site, at its own leaf
module _ (db : Database) (table : desk_state.VolatileState) (decided : List Txn) (are : AreDecided table decided) (site : List ℕ) (leaf : Leaf) where
  abbrev place : Place
  place = (site, leaf)

  abbrev there : Status local → Status (language db)
  there = status_at local (statements db) site

  row_settled : (txn : Txn) (row : Prepared) (content : Content) (standing : Option desk_standings.TxnState) (b : Bool) → b ≡ is_some (kept_voters standing) →
      serial.with_row {L = language db} place (intended_at local (statements db) site row.changes) (txn_of db standing) content ≡ (if b then changed leaf row.changes content else content)
  row_settled txn row content None b is = sym (ap (λ c. if c then changed leaf row.changes content else content) is)
  row_settled txn row content (Some (at_desk.Undecided undecided)) b is = sym (ap (λ c. if c then changed leaf row.changes content else content) is)
  row_settled txn row content (Some (at_desk.Committed committed)) b is = changed_here local (statements db) local_lawful site leaf row.changes content ∙ sym (ap (λ c. if c then changed leaf row.changes content else content) is)

  some_settled : (memory : site_state.VolatileState) (ticket : Ticket) (row : Option Prepared) (content : Content) →
      serial.with_decided {L = language db} (desk_state.desk_of db table) place (there (site_state.stands memory ticket row)) content ≡ with_some decided leaf row content
  some_settled memory ticket (Some row) content = row_settled row.txn row content (table.standing row.txn) (is_among decided row.txn) (are row.txn)
  some_settled memory ticket None content = go (memory.standing ticket)
    where
      go : (standing : Option site_standings.TicketState) → serial.with_decided {L = language db} (desk_state.desk_of db table) place (there (site_state.visiting memory.locks ticket standing)) content ≡ content
      go None = refl
      go (Some (at_site.Active visit)) = refl
      go (Some (at_site.Prepared txn)) = refl

  all_settled : (kept : of_site.SiteContent) (memory : site_state.VolatileState) (tickets : List Ticket) (content : Content) →
      serial.with_all_decided {L = language db} (desk_state.desk_of db table) place (λ name. there ((site_state.state_of kept memory).status name)) (map name_of tickets) content ≡ with_all decided leaf kept.prepared tickets content
  all_settled kept memory [] content = refl
  all_settled kept memory (ticket ∷ tickets) content =
      ap (serial.with_all_decided {L = language db} (desk_state.desk_of db table) place (λ name. there ((site_state.state_of kept memory).status name)) (map name_of tickets)) (some_settled memory ticket (kept.prepared ticket) content)
      ∙ all_settled kept memory tickets (with_some decided leaf (kept.prepared ticket) content)

-- the state of the site of a name
named_there : (db : Database) (name : List ℕ) (seats : List Seat) (seat : Seat) → seat_of name seats ≡ Some seat → states_of (statements db) seats name ≡ site_at local (statements db) name (site_state.state_of seat.kept seat.table)
named_there db name seats seat there = state_there (statements db) name seats seat there ∙ ap (λ n. site_at local (statements db) n (site_state.state_of seat.kept seat.table)) (seat_named name seats seat there)

-- what is settled at the site of a name
seat_settled : (seats : List Seat) (name : List ℕ) (decided : List Txn) (leaf : Leaf) (content : Content) → settled_at decided leaf seats name ≡ Some content → (seat : Seat) × (seat_of name seats ≡ Some seat) × (settled_in decided leaf seat ≡ content)
seat_settled seats name decided leaf content is = go (seat_of name seats) refl is
  where
    go : (found : Option Seat) → seat_of name seats ≡ found → option_map (settled_in decided leaf) found ≡ Some content → (seat : Seat) × (seat_of name seats ≡ Some seat) × (settled_in decided leaf seat ≡ content)
    go None there is = absurd cc
    go (Some seat) there is = (seat, there, some_is is)

pub settled_there : (db : Database) (machines : Machines) (decided : List Txn) (place : Place) (content : Content) → AreDecided machines.table decided → settled_at decided place.1 machines.seats place.0 ≡ Some content → serial.settled (world_of db machines [] []) place ≡ content
settled_there db machines decided place content are is =
    let one = seat_settled machines.seats place.0 decided place.1 content is in
    let seat = one.0 in
    let state = site_state.state_of seat.kept seat.table in
    let of = serial.with_all_decided {L = language db} (desk_state.desk_of db machines.table) place in
    ap (λ (s : protocol_site.SiteState (language db)). of s.status s.known (s.kept place)) (named_there db place.0 machines.seats seat one.1)
    ∙ ap (of (λ name. status_at local (statements db) place.0 (state.status name)) state.known) (kept_here local (statements db) local_lawful place.0 state place.1)
    ∙ all_settled db machines.table decided are place.0 place.1 seat.kept seat.table seat.table.tickets (seat.kept.content place.1)
    ∙ one.2

-- ---- what is kept
none_decided : (leaf : Leaf) (rows : Ticket → Option Prepared) (tickets : List Ticket) (content : Content) → with_all [] leaf rows tickets content ≡ content
none_decided leaf rows [] content = refl
none_decided leaf rows (ticket ∷ tickets) content = ap (with_all [] leaf rows tickets) (go (rows ticket)) ∙ none_decided leaf rows tickets content
  where
    go : (row : Option Prepared) → with_some [] leaf row content ≡ content
    go None = refl
    go (Some row) = refl

pub kept_there : (db : Database) (machines : Machines) (leaf : Leaf) (name : List ℕ) (content : Content) → settled_at [] leaf machines.seats name ≡ Some content → (states_of (statements db) machines.seats name).kept (name, leaf) ≡ content
kept_there db machines leaf name content is =
    let one = seat_settled machines.seats name [] leaf content is in
    let seat = one.0 in
    ap (λ (s : protocol_site.SiteState (language db)). s.kept (name, leaf)) (named_there db name machines.seats seat one.1)
    ∙ kept_here local (statements db) local_lawful name (site_state.state_of seat.kept seat.table) leaf
    ∙ sym (none_decided leaf seat.kept.prepared seat.table.tickets (seat.kept.content leaf))
    ∙ one.2
