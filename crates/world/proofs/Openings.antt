-- The world of machines that have just started is an opening of the protocol.
use Rattle.std.proofs.Common.{◌≡◌, ◌≢◌, refl, sym, ap, ◌∙◌, subst, ℕ, zero, suc, ◌+◌, ◌==◌, nat_eq, Bool, true, false, List, [], ◌∷◌, map, Option, Some, None, is_some, slice_get, if◌then◌else◌, inl, arith}
use Rattle.std.specs.FinMap as fin
use Rattle.std.specs.Cmp.Lexicographic.{pointwise}
use Rattle.std.specs.List.{AllByRecursion, list_any}
use Rattle.std.specs.Ordering.{is_eq}
use Rattle.std.proofs.lemmas.Bool.{eqb-true}
use Rattle.terms.specs.declared.leaf.Leaf.{Leaf}
use Rattle.terms.specs.Leaf.{leaf_cmp}
use Rattle.meaning.specs.Whole.{FitsSchema, Relations}
use Rattle.reader.specs.Printable.{AreDistinct}
use Rattle.catalog.specs.declared.fragment_leaf.FragmentLeaf.{FragmentLeaf}
use Rattle.catalog.specs.Catalogue.{Catalogue}
use Rattle.catalog.specs.Formed.{IsFormed}
use Rattle.catalog.specs.FragmentLeaf.{catalogue_leaves, leaf_named, schemas_of}
use Rattle.catalog.proofs.LeafNames.{HaveOwnNames, own_names}
use Rattle.store.specs.declared.name.Ticket.{Ticket}
use Rattle.store.specs.declared.name.Txn as txns
use Rattle.protocol.specs.Language.{Name}
use Rattle.protocol.specs.Letters.{name_of, ticket_of, txn_name}
use Rattle.protocol.specs.Local.{local}
use Rattle.protocol.specs.Parts.{In}
use Rattle.protocol.specs.Serial.{IsOpening}
use Rattle.protocol.specs.Site.{Dead, SiteState}
use Rattle.protocol.specs.Catalogues.{Catalogues, listed, site_at, status_at}
use Rattle.protocol.proofs.Basics.{clash, some_is}
use Rattle.protocol.proofs.Placing.{kept_here}
use Rattle.desk.specs.Database.{Database, language, statements}
use Rattle.desk.specs.CatalogueDatabase.{is_site}
use Rattle.desk.specs.Place.{Place, home_in, site_in}
use Rattle.desk.specs.Transaction.{txn_of}
use Rattle.desk.specs.Recovery as desk_starting
use Rattle.desk.specs.State.{txn_at}
use Rattle.site.specs.declared.tickets.TicketState as standings
use Rattle.site.specs.declared.tickets.TicketState.TheVariants as standing
use Rattle.site.specs.Recovery.{resting}
use Rattle.site.specs.State.{stands, state_of, txn_in, visiting}
use Rattle.site.proofs.Lawful.{local_lawful}
use Rattle.world.specs.Listed.{FitsList}
use Rattle.world.specs.Machines.{AreFit, Machines, world_of}
use Rattle.world.specs.Placed.{IsPlaced, ListOpens, ListPlaced, Opens}
use Rattle.world.specs.Start.{AllStarted, IsAtRest, IsStarted}
use Rattle.world.specs.Sites.{Seat, is_called, nobody, seat_of, state_at, states_of}
use Rattle.world.specs.Filling.{filled}
use Rattle.world.specs.Leaves.{known_leaves}
use Rattle.world.proofs.DatabasePlaces.{at_in, home_is, home_there}
use Rattle.world.proofs.FilledLeaves.{leaf_elsewhere, leaf_filled, none_filled}
use Rattle.world.proofs.InForce.{nobody_rises}
use Rattle.world.proofs.KnownLeaves.{known_named}
use Rattle.world.proofs.Seating.{HasItsLeaves, name_is, name_self, seat_named, state_there}

-- what holds of each started site holds of each
started_all : (P : Seat → Type 0) (c : Catalogue) (whole : Relations) (place : ℕ) (names : List (List ℕ)) (seats : List Seat) → ((at : ℕ) (name : List ℕ) (seat : Seat) → IsStarted c whole at name seat → P seat) → AllStarted c whole place names seats → AllByRecursion P seats
started_all P c whole place [] [] each all = tt
started_all P c whole place [] (s ∷ seats) each all = absurd all
started_all P c whole place (n ∷ names) [] each all = absurd all
started_all P c whole place (n ∷ names) (s ∷ seats) each all = (each place n s all.0, started_all P c whole (suc place) names seats each all.1)

started_names : (c : Catalogue) (whole : Relations) (place : ℕ) (names : List (List ℕ)) (seats : List Seat) → AllStarted c whole place names seats → map (λ seat. seat.name) seats ≡ names
started_names c whole place [] [] all = refl
started_names c whole place [] (s ∷ seats) all = absurd all
started_names c whole place (n ∷ names) [] all = absurd all
started_names c whole place (n ∷ names) (s ∷ seats) all = λ i. all.0.called i ∷ started_names c whole (suc place) names seats all.1 i

apart_at : (first : List ℕ) (names : List (List ℕ)) (i : ℕ) (name : List ℕ) → AllByRecursion (λ other. first ≢ other) names → slice_get names i ≡ Some name → first ≢ name
apart_at first [] zero name apart got = cc
apart_at first [] (suc i) name apart got = cc
apart_at first (n ∷ names) zero name apart got = subst (λ m. first ≢ m) (some_is got) apart.0
apart_at first (n ∷ names) (suc i) name apart got = apart_at first names i name apart.1 got

-- a started site, by its name
record Found (c : Catalogue) (whole : Relations) (at : ℕ) (name : List ℕ) (seats : List Seat) : Type 0 where
  seat : Seat
  there : seat_of name seats ≡ Some seat
  started : IsStarted c whole at name seat

found_at : (c : Catalogue) (whole : Relations) (place : ℕ) (names : List (List ℕ)) (seats : List Seat) (i : ℕ) (name : List ℕ) → AllStarted c whole place names seats → AreDistinct names → slice_get names i ≡ Some name → Found c whole (place + i) name seats
found_at c whole place [] seats zero name all distinct got = cc
found_at c whole place [] seats (suc i) name all distinct got = cc
found_at c whole place (n ∷ names) [] i name all distinct got = absurd all
found_at c whole place (n ∷ names) (s ∷ seats) zero name all distinct got =
    let called : is_called name s ≡ true = subst (λ m. is_called m s ≡ true) (all.0.called ∙ some_is got) (name_self s.name) in
    record {
      seat = s;
      there = ap (λ (b : Bool). if b then Some s else seat_of name seats) called;
      started = subst (λ m. IsStarted c whole (place + 0) m s) (some_is got) (subst (λ p. IsStarted c whole p n s) (let e : place ≡ place + 0 = omega arith in e) all.0);
    }
found_at c whole place (n ∷ names) (s ∷ seats) (suc i) name all distinct got =
    let later = found_at c whole (suc place) names seats i name all.1 distinct.1 got in
    let apart : is_called name s ≡ false = no_match (is_called name s) refl in
    record {
      seat = later.seat;
      there = ap (λ (b : Bool). if b then Some s else seat_of name seats) apart ∙ later.there;
      started = subst (λ p. IsStarted c whole p name later.seat) (let e : suc place + i ≡ place + suc i = omega arith in e) later.started;
    }
  where
    no_match : (b : Bool) → is_called name s ≡ b → b ≡ false
    no_match false e = refl
    no_match true e = absurd (apart_at n names i name distinct.0 got (sym all.0.called ∙ sym (name_is name s.name e)))

-- ---- a started site has the leaves that are at home there
-- knowing all that a catalogue's relations can have, a site has those that the database has there
pub has_leaf : (c : Catalogue) (seat : Seat) → IsFormed c → seat.leaves ≡ known_leaves (schemas_of c) → (leaf : Leaf) → site_in c leaf ≡ Some seat.name → list_any (λ other. is_eq (leaf_cmp leaf other)) seat.leaves ≡ true
has_leaf c seat formed own leaf there = subst (λ (leaves : List Leaf). list_any (λ other. is_eq (leaf_cmp leaf other)) leaves ≡ true) (sym own) (go (leaf_named leaf (catalogue_leaves c)) refl)
  where
    go : (found : Option FragmentLeaf) → leaf_named leaf (catalogue_leaves c) ≡ found → list_any (λ other. is_eq (leaf_cmp leaf other)) (known_leaves (schemas_of c)) ≡ true
    go None none = absurd (let no : None ≡ Some seat.name = sym (ap (at_in c) none) ∙ there in cc)
    go (Some of) found = known_named c leaf of formed found

pub has_its : (db : Database) (n : ℕ) (c : Catalogue) (whole : Relations) (seat : Seat) → IsFormed c → IsPlaced db n c whole → seat.leaves ≡ known_leaves (schemas_of c) → HasItsLeaves db seat
has_its db n c whole seat formed places own leaf home = has_leaf c seat formed own leaf (places.places (seat.name, leaf) home)

-- ---- a site at rest has nothing in memory
module _ (S : Catalogues local) (seat : Seat) (rests : IsAtRest seat) where
  stands_dead : (ticket : Ticket) → stands seat.table ticket (seat.kept.prepared ticket) ≡ Dead
  stands_dead ticket = ap (λ (s : SiteState local). s.status (name_of ticket)) rests.begins.state ∙ ap resting (rests.prepared ticket)

  dead : (k : Name) → (state_at S seat).status k ≡ Dead
  dead k = ap (status_at local S seat.name) (stands_dead (ticket_of k))

  nobody_listed : (ticket : Ticket) → In ticket seat.table.tickets → ⊥
  nobody_listed ticket here = go (seat.table.standing ticket) refl (rests.begins.fits.lives ticket here)
    where
      go : (o : Option standings.TicketState) → seat.table.standing ticket ≡ o → is_some (seat.table.standing ticket) ≡ true → ⊥
      go None e some = let no : is_some (seat.table.standing ticket) ≡ false = ap is_some e in absurd cc
      go (Some (standing.Prepared t)) e some = let has : txn_in (seat.table.standing ticket) ≡ Some t = ap txn_in e in let none : txn_in (seat.table.standing ticket) ≡ None = rests.begins.fits.prepared ticket ∙ ap (λ r. Rattle.std.specs.Option.option_map (λ row. row.txn) r) (rests.prepared ticket) in absurd cc
      go (Some (standing.Active v)) e some =
          let is : visiting seat.table.locks ticket (Some (standing.Active v)) ≡ Dead = ap (visiting seat.table.locks ticket) (sym e) ∙ ap (stands seat.table ticket) (sym (rests.prepared ticket)) ∙ stands_dead ticket in absurd cc

  none_known : (state_at S seat).known ≡ []
  none_known = go seat.table.tickets nobody_listed
    where
      go : (tickets : List Ticket) → ((ticket : Ticket) → In ticket tickets → ⊥) → map name_of tickets ≡ []
      go [] none = refl
      go (t ∷ tickets) none = absurd (none t (inl refl))

-- what holds of each site, and of none, holds at each name
pub at_each : (S : Catalogues local) (P : SiteState (listed local S) → Type 0) (seats : List Seat) → P (nobody S) → AllByRecursion (λ seat. P (state_at S seat)) seats → (a : List ℕ) → P (states_of S seats a)
at_each S P [] none all a = none
at_each S P (seat ∷ seats) none all a = go (is_called a seat) (at_each S P seats none all.1 a)
  where
    go : (b : Bool) → P (states_of S seats a) → P (if b then state_at S seat else states_of S seats a)
    go true later = all.0
    go false later = later

-- ---- the whole world, where all sites are at rest
-- map: something of each site, from something of each
pub all_so : {P Q : Seat → Type 0} (seats : List Seat) → ((seat : Seat) → P seat → Q seat) → AllByRecursion P seats → AllByRecursion Q seats
all_so [] so all = tt
all_so (seat ∷ seats) so all = (so seat all.0, all_so seats so all.1)

-- the contents of its sites are those of whole relations
module _ (db : Database) (whole : Relations) (machines : Machines) (is_whole : FitsSchema db.schemas whole) (names : map (λ seat. seat.name) machines.seats ≡ db.sites) (leaves : AllByRecursion (HasItsLeaves db) machines.seats) (rest : AllByRecursion IsAtRest machines.seats)
    (keeps : (place : Place) → (states_of (statements db) machines.seats place.0).kept place ≡ db.content machines.table.version place whole) (rises : desk_starting.Rises db machines.desk machines.table) (none : (txn : txns.Txn) → machines.desk.commits txn ≡ None) where
  abbrev S : Catalogues local
  S = statements db

  rested_list : FitsList db machines
  rested_list = record {
    names = names;
    leaves = leaves;
    desk = rises.fits;
    within = rises.within;
    sites = all_so machines.seats (λ seat rests. rests.begins.fits) rest;
    still = λ single t. nobody_rises db machines.desk machines.table rises (txn_at t);
  }

  rested_fit : machines.later ≡ [] → AreFit db machines
  rested_fit single = record {
    names = names;
    leaves = leaves;
    desk = rises.fits;
    within = rises.within;
    sites = all_so machines.seats (λ seat rests. rests.begins.fits) rest;
    single = single;
    still = λ t. nobody_rises db machines.desk machines.table rises (txn_at t);
  }

  nothing_stands : (txn : txns.Txn) → machines.table.standing txn ≡ None
  nothing_stands txn = rises.stands txn ∙ ap (desk_starting.resting db.sites) (none txn)

  no_names : (names : List txns.Txn) → ((txn : txns.Txn) → In txn names → is_some (machines.table.standing txn) ≡ true) → map txn_name names ≡ []
  no_names [] lives = refl
  no_names (txn ∷ names) lives = let some = lives txn (inl refl) in let no : is_some (machines.table.standing txn) ≡ false = ap is_some (nothing_stands txn) in absurd cc

  rested_world : IsOpening (machines.table.version, whole) (world_of db machines [] [])
  rested_world = record {
    is_whole = is_whole;
    letters = refl;
    past = refl;
    visits = at_each S (λ s. (k : Name) → s.status k ≡ Dead) machines.seats (λ k. refl) (all_so machines.seats (λ seat rests. dead S seat rests) rest);
    tickets = at_each S (λ s. s.known ≡ []) machines.seats refl (all_so machines.seats (λ seat rests. none_known S seat rests) rest);
    undecided = λ t. ap (txn_of db) (nothing_stands (txn_at t));
    names = no_names machines.table.txns rises.fits.lives;
    rebuilt = keeps;
    in_force = refl;
  }

  pub opens_at_rest : machines.later ≡ [] → Opens db whole machines
  opens_at_rest single = record { fit = rested_fit single; opening = rested_world }

  pub list_at_rest : ListOpens db whole machines
  list_at_rest = record { fit = rested_list; opening = rested_world }

-- ---- where all sites have started
module _ (db : Database) (c : Catalogue) (whole : Relations) (machines : Machines) (formed : IsFormed c) (distinct : AreDistinct db.sites) (own : HaveOwnNames (catalogue_leaves c)) (places : ListPlaced db machines.table.version c whole) (its : (seat : Seat) → seat.leaves ≡ known_leaves (schemas_of c) → HasItsLeaves db seat)
    (started : AllStarted c whole 0 db.sites machines.seats) (rises : desk_starting.Rises db machines.desk machines.table) (none : (txn : txns.Txn) → machines.desk.commits txn ≡ None) where
  -- what a site has where it keeps nothing of a leaf
  empty_at : (place : Place) (seat : Seat) → (seat.name ≡ place.0 → seat.kept.content place.1 ≡ fin.empty) → (state_at (statements db) seat).kept place ≡ fin.empty
  empty_at place seat nothing = go (pointwise nat_eq place.0 seat.name) refl
    where
      go : (b : Bool) → pointwise nat_eq place.0 seat.name ≡ b → (if b then seat.kept.content place.1 else fin.empty) ≡ fin.empty
      go true e = nothing (sym (name_is place.0 seat.name e))
      go false e = refl

  -- a site that no leaf of the name is at keeps nothing of it
  keeps_nothing : (place : Place) → ((at : ℕ) → slice_get db.sites at ≡ Some place.0 → filled whole at (catalogue_leaves c) place.1 fin.empty ≡ fin.empty) → (states_of (statements db) machines.seats place.0).kept place ≡ fin.empty
  keeps_nothing place nothing = at_each (statements db) (λ s. s.kept place ≡ fin.empty) machines.seats refl (all 0 db.sites machines.seats started (λ i name got. subst (λ p. slice_get db.sites p ≡ Some name) (let e : i ≡ 0 + i = omega arith in e) got)) place.0
    where
      all : (first : ℕ) (names : List (List ℕ)) (seats : List Seat) → AllStarted c whole first names seats → ((i : ℕ) (name : List ℕ) → slice_get names i ≡ Some name → slice_get db.sites (first + i) ≡ Some name) → AllByRecursion (λ seat. (state_at (statements db) seat).kept place ≡ fin.empty) seats
      all first [] [] is there = tt
      all first [] (s ∷ seats) is there = absurd is
      all first (n ∷ names) [] is there = absurd is
      all first (n ∷ names) (s ∷ seats) is there = (
        empty_at place s (λ here. is.0.content place.1 ∙ nothing first (subst (λ p. slice_get db.sites p ≡ Some place.0) (let e : first + 0 ≡ first = omega arith in e) (there 0 n refl ∙ ap Some (sym is.0.called ∙ here)))),
        all (suc first) names seats is.1 (λ i name got. subst (λ p. slice_get db.sites p ≡ Some name) (let e : first + suc i ≡ suc first + i = omega arith in e) (there (suc i) name got)),
      )

  keeps_its : (place : Place) → (states_of (statements db) machines.seats place.0).kept place ≡ db.content machines.table.version place whole
  keeps_its place = go (leaf_named name (catalogue_leaves c)) refl
    where
      site : List ℕ
      site = place.0

      name : Leaf
      name = place.1

      at_site : (leaf : FragmentLeaf) → leaf_named name (catalogue_leaves c) ≡ Some leaf → (b : Bool) → pointwise nat_eq (home_in c name) site ≡ b → (states_of (statements db) machines.seats place.0).kept place ≡ db.content machines.table.version place whole
      at_site leaf e true here =
          let is : slice_get c.sites leaf.site ≡ Some site = home_there c formed name leaf e ∙ ap Some (name_is (home_in c name) site here) in
          let at = found_at c whole 0 db.sites machines.seats leaf.site site started distinct (ap (λ sites. slice_get sites leaf.site) places.sites ∙ is) in
          let state = state_of at.seat.kept at.seat.table in
          ap (λ (s : SiteState (language db)). s.kept place) (state_there (statements db) site machines.seats at.seat at.there ∙ ap (λ n. site_at local (statements db) n state) (seat_named site machines.seats at.seat at.there))
          ∙ kept_here local (statements db) local_lawful site state name
          ∙ at.started.content name
          ∙ leaf_filled whole (0 + leaf.site) (catalogue_leaves c) name leaf fin.empty own e (let n : leaf.site ≡ 0 + leaf.site = omega arith in n)
          ∙ sym (places.has name leaf site e is)
      at_site leaf e false other =
          keeps_nothing place (λ at there. leaf_elsewhere whole at (catalogue_leaves c) name leaf fin.empty own e (apart at there (leaf.site == at) refl))
          ∙ sym (places.nowhere place (ap (λ (o : Option (List ℕ)). is_site o site) (home_is c formed name leaf e) ∙ other))
        where
          apart : (at : ℕ) → slice_get db.sites at ≡ Some site → (b : Bool) → (leaf.site == at) ≡ b → b ≡ false
          apart at there false e2 = refl
          apart at there true e2 =
              let one : Some (home_in c name) ≡ Some site = sym (home_there c formed name leaf e) ∙ ap (λ i. slice_get c.sites i) (eqb-true leaf.site at e2) ∙ ap (λ sites. slice_get sites at) (sym places.sites) ∙ there in
              clash (subst (λ s. pointwise nat_eq (home_in c name) s ≡ true) (some_is one) (name_self (home_in c name))) other

      go : (o : Option FragmentLeaf) → leaf_named name (catalogue_leaves c) ≡ o → (states_of (statements db) machines.seats place.0).kept place ≡ db.content machines.table.version place whole
      go None e = keeps_nothing place (λ at there. none_filled whole at (catalogue_leaves c) name fin.empty e) ∙ sym (places.nowhere place (ap (λ (o : Option FragmentLeaf). is_site (at_in c o) site) e))
      go (Some leaf) e = at_site leaf e (pointwise nat_eq (home_in c name) site) refl

  pub opens : machines.later ≡ [] → Opens db whole machines
  opens single = opens_at_rest db whole machines places.fits (started_names c whole 0 db.sites machines.seats started)
      (started_all (HasItsLeaves db) c whole 0 db.sites machines.seats (λ at name seat is. its seat is.leaves) started)
      (started_all IsAtRest c whole 0 db.sites machines.seats (λ at name seat is. is.rests) started) keeps_its rises none single

  pub list_opens : ListOpens db whole machines
  list_opens = list_at_rest db whole machines places.fits (started_names c whole 0 db.sites machines.seats started)
      (started_all (HasItsLeaves db) c whole 0 db.sites machines.seats (λ at name seat is. its seat is.leaves) started)
      (started_all IsAtRest c whole 0 db.sites machines.seats (λ at name seat is. is.rests) started) keeps_its rises none

-- of the sites of the code and their catalogue
pub opens_of : (db : Database) (c : Catalogue) (whole : Relations) (machines : Machines) → IsFormed c → IsPlaced db machines.table.version c whole → AllStarted c whole 0 c.sites machines.seats → desk_starting.Rises db machines.desk machines.table → ((txn : txns.Txn) → machines.desk.commits txn ≡ None) → machines.later ≡ [] → Opens db whole machines
opens_of db c whole machines formed places started rises none single =
    opens db c whole machines formed (subst AreDistinct (sym places.sites) formed.distinct) (own_names c.relations formed.ascending) (record { sites = places.sites; fits = places.fits; has = places.has; nowhere = places.nowhere }) (λ seat own. has_its db machines.table.version c whole seat formed places own)
    (subst (λ sites. AllStarted c whole 0 sites machines.seats) (sym places.sites) started) rises none single

pub list_opens_of : (db : Database) (c : Catalogue) (whole : Relations) (machines : Machines) → IsFormed c → ListPlaced db machines.table.version c whole → ((seat : Seat) → seat.leaves ≡ known_leaves (schemas_of c) → HasItsLeaves db seat) → AllStarted c whole 0 c.sites machines.seats → desk_starting.Rises db machines.desk machines.table →
    ((txn : txns.Txn) → machines.desk.commits txn ≡ None) → ListOpens db whole machines
list_opens_of db c whole machines formed places its started rises none =
    list_opens db c whole machines formed (subst AreDistinct (sym places.sites) formed.distinct) (own_names c.relations formed.ascending) places its (subst (λ sites. AllStarted c whole 0 sites machines.seats) (sym places.sites) started) rises none
