-- New stores are those of machines that have never done anything: a database over relations without rows.
use Rattle.std.proofs.Common.{◌≡◌, refl, sym, ap, ◌∙◌, subst, ℕ, suc, ◌+◌, ◌<◌, ◌==◌, ◌^◌, Bool, true, false, List, [], ◌∷◌, map, length, None, if◌then◌else◌, arith}
use Rattle.std.specs.FinMap as fin
use Rattle.std.specs.List.{AllByRecursion}
use Rattle.std.specs.List.Sorted.{IsStrictlySortedBy}
use Rattle.std.specs.declared.cmp.Ordering.{Ordering}
use Rattle.std.specs.Option.{option_map}
use Rattle.terms.specs.declared.leaf.Leaf.{Leaf}
use Rattle.meaning.specs.Whole.{FitsSchema, Relations, rows_of}
use Rattle.catalog.specs.declared.fragment_leaf.FragmentLeaf.{FragmentLeaf}
use Rattle.catalog.specs.Catalogue.{Catalogue}
use Rattle.catalog.specs.Formed.{IsFormed}
use Rattle.catalog.specs.FragmentLeaf.{catalogue_leaves, schemas_of}
use Rattle.store.specs.declared.name.Ticket.{Ticket}
use Rattle.store.specs.declared.name.Txn as txns
use Rattle.store.specs.declared.prepared.Prepared.{Prepared}
use Rattle.store.specs.Content.{Content}
use Rattle.store.specs.DeskContent.{DeskContent}
use Rattle.store.specs.Name.{ticket_cmp, txn_cmp}
use Rattle.store.specs.SiteContent.{SiteContent}
use Rattle.protocol.specs.Letters.{ticket_of}
use Rattle.protocol.specs.Local.{local}
use Rattle.protocol.specs.Parts.{In}
use Rattle.protocol.specs.Site.{Dead, has_exclusive, is_short}
use Rattle.protocol.proofs.Basics.{clash}
use Rattle.site.specs.Locks.{free}
use Rattle.site.specs.Recovery.{resting}
use Rattle.site.specs.State as site_state
use Rattle.site.specs.State.{AreHad, stands}
use Rattle.site.proofs.PreparedRows.{all_leaves, all_write, none_read, none_released}
use Rattle.desk.specs.CatalogueDatabase.{database, databases, numbered}
use Rattle.desk.specs.Database.{Database}
use Rattle.desk.specs.Recovery as desk_recovery
use Rattle.desk.specs.Recovery.{Rises}
use Rattle.desk.specs.State.{Fits, VolatileState, volatile_from}
use Rattle.desk.proofs.Settled.{is_within}
use Rattle.world.specs.Filling.{filled, kept_with}
use Rattle.world.specs.Leaves.{known_leaves}
use Rattle.world.specs.Listed.{IsListed}
use Rattle.world.specs.Machines.{Machines, world_of}
use Rattle.world.specs.Placed.{ListPlaced}
use Rattle.world.specs.Recovery.{HaveLeaves}
use Rattle.world.specs.Sites.{Seat}
use Rattle.world.specs.Start.{AllStarted, HasNoRows, IsAtRest, KeepNothing, KeepsNothing, ListNewStoresLaw, NewStoresLaw, WereServed}
use Rattle.world.proofs.DatabaseIsOpened.{placed}
use Rattle.world.proofs.DatabasePlaces.{content_none, content_there}
use Rattle.world.proofs.Filled.{no_row}
use Rattle.world.proofs.ListSolo.{opens_served}
use Rattle.world.proofs.Openings.{has_leaf, list_opens_of, opens_of}

none_sorted : {K : Type 0} (cmp : K → K → Ordering) → IsStrictlySortedBy cmp []
unfolding IsStrictlySortedBy
none_sorted cmp = tt

-- ---- a site
-- one that has done nothing
abbrev pub unborn : List ℕ → List Leaf → SiteContent → Seat
unborn name leaves kept = record { name = name; leaves = leaves; kept = kept; table = site_state.volatile_from [] (map free leaves) 0 kept.life 0 }

module _ (name : List ℕ) (leaves : List Leaf) (kept : SiteContent) (had : AreHad leaves kept) (nothing : KeepsNothing kept) where
  nobody : (j : Ticket) → stands (unborn name leaves kept).table j (kept.prepared j) ≡ Dead
  nobody j = ap (stands (unborn name leaves kept).table j) (nothing.prepared j)

  pub unborn_rests : IsAtRest (unborn name leaves kept)
  unborn_rests = record {
    begins = record {
      fits = record {
        prepared = λ j. sym (ap (option_map (λ (row : Prepared). row.txn)) (nothing.prepared j));
        life = refl;
        had = λ leaf here. had leaf (subst (In leaf) (all_leaves leaves []) here);
        listed = λ j e. absurd (let no : false ≡ true = e in cc);
        lives = λ j here. absurd here;
        readers = λ leaf j e. clash e (none_read leaf leaves [] j);
        writers = λ leaf j. all_write leaves kept.life [] (none_sorted ticket_cmp) refl leaf j ∙ sym (ap (has_exclusive {L = local} leaf) (nobody j));
        drawn = λ j e. absurd (let no : false ≡ true = e in cc);
        fresh = λ j e. absurd (let no : false ≡ true = e in cc);
        released = λ leaf. let none = none_released leaf leaves [] in omega (arith, none);
        ascend = none_sorted ticket_cmp;
        counted = refl;
        few = omega arith;
        short = λ j. ap (is_short {L = local}) (nobody j);
        low = ((let left = nothing.life in omega arith), omega arith);
      };
      state = λ i. record { kept = kept.content; status = λ k. (nobody (ticket_of k) ∙ sym (ap resting (nothing.prepared (ticket_of k)))) i; known = []; life = kept.life; number = 0 };
      active = refl;
    };
    prepared = nothing.prepared;
  }

-- ---- the coordinator
module _ (db : Database) (kept : DeskContent) (none : (txn : txns.Txn) → kept.commits txn ≡ None) (left : kept.life + 1 < 2 ^ 63) where
  abbrev pub unborn_table : VolatileState
  unborn_table = volatile_from [] 0 kept.life 0 kept.version

  unborn_fits : Fits db kept unborn_table
  unborn_fits = record {
    rows = λ txn. sym (none txn);
    life = refl;
    version = refl;
    listed = λ txn e. absurd (let no : false ≡ true = e in cc);
    lives = λ txn here. absurd here;
    begun = λ txn e. absurd (let no : false ≡ true = e in cc);
    sites = λ txn standing e. absurd cc;
    moving = λ txn e. absurd (let no : false ≡ true = e in cc);
    counted = refl;
    short = λ txn. refl;
    few = omega arith;
    low = (omega arith, omega arith);
  }

  pub unborn_rises : Rises db kept unborn_table
  unborn_rises = record {
    fits = unborn_fits;
    within = is_within db kept unborn_table unborn_fits;
    stands = λ txn. sym (ap (desk_recovery.resting db.sites) (none txn));
    undecided = refl;
    number = refl;
  }

-- ---- relations without rows fill nothing
none_to_fill : (whole : Relations) → HasNoRows whole → (site : ℕ) (leaves : List FragmentLeaf) (name : Leaf) (kept : Content) → filled whole site leaves name kept ≡ kept
none_to_fill whole empty site [] name kept = refl
none_to_fill whole empty site (leaf ∷ leaves) name kept = ap (filled whole site leaves name) (go (leaf.site == site)) ∙ none_to_fill whole empty site leaves name kept
  where
    go : (b : Bool) → (if b then kept_with leaf (rows_of whole leaf.name.relation) name kept else kept) ≡ kept
    go true = ap (λ rows. kept_with leaf rows name kept) (empty leaf.name.relation) ∙ no_row leaf name kept
    go false = refl

-- ---- the machines
module _ (c : Catalogue) (whole : Relations) (empty : HasNoRows whole) where
  abbrev unborn_seats : List (List ℕ) → List SiteContent → List Seat
  unborn_seats [] contents = []
  unborn_seats (name ∷ names) [] = []
  unborn_seats (name ∷ names) (kept ∷ contents) = unborn name (known_leaves (schemas_of c)) kept ∷ unborn_seats names contents

  unborn_kept : (names : List (List ℕ)) (contents : List SiteContent) → length contents ≡ length names → map (λ (seat : Seat). seat.kept) (unborn_seats names contents) ≡ contents
  unborn_kept [] [] size = refl
  unborn_kept [] (kept ∷ contents) size = absurd (omega (arith, size))
  unborn_kept (name ∷ names) [] size = absurd (omega (arith, size))
  unborn_kept (name ∷ names) (kept ∷ contents) size = ap (λ rest. kept ∷ rest) (unborn_kept names contents (omega (arith, size)))

  unborn_started : (place : ℕ) (names : List (List ℕ)) (contents : List SiteContent) → length contents ≡ length names → HaveLeaves c contents → AllByRecursion KeepsNothing contents → AllStarted c whole place names (unborn_seats names contents)
  unborn_started place [] [] size have nothing = tt
  unborn_started place [] (kept ∷ contents) size have nothing = absurd (omega (arith, size))
  unborn_started place (name ∷ names) [] size have nothing = absurd (omega (arith, size))
  unborn_started place (name ∷ names) (kept ∷ contents) size have nothing = (
    record {
      called = refl;
      leaves = refl;
      content = λ leaf. nothing.0.content leaf ∙ sym (none_to_fill whole empty place (catalogue_leaves c) leaf fin.empty);
      rests = unborn_rests name (known_leaves (schemas_of c)) kept have.0 nothing.0;
    },
    unborn_started (suc place) names contents (omega (arith, size)) have.1 nothing.1,
  )

  pub were_served : IsFormed c → (of_desk : DeskContent) (of_sites : List SiteContent) → FitsSchema (schemas_of c) whole → length of_sites ≡ length c.sites → KeepNothing c of_desk of_sites → WereServed c of_desk of_sites whole
  were_served formed of_desk of_sites fits size nothing =
      let seats = unborn_seats c.sites of_sites in
      let machines : Machines = record { desk = of_desk; table = unborn_table (database c) of_desk nothing.commits nothing.life; seats = seats; later = []; refused = [] } in
      let opens = opens_of (database c) c whole machines formed (placed c machines.table.version whole formed fits) (unborn_started 0 c.sites of_sites size nothing.leaves nothing.sites) (unborn_rises (database c) of_desk nothing.commits nothing.life) nothing.commits refl in
      record {
        machines = machines;
        kept = record { desk = refl; sites = unborn_kept c.sites of_sites size };
        memory = record { entries = []; is = refl; ascend = none_sorted txn_cmp };
        served = record { version = machines.table.version; reached = record { opening = world_of (database c) machines [] []; opens = opens.opening; events = []; gone = []; is = refl; explained = tt }; fit = opens.fit };
      }

pub new_stores_law : (c : Catalogue) → IsFormed c → NewStoresLaw c
new_stores_law c formed whole of_desk of_sites fits empty size nothing = were_served c whole empty formed of_desk of_sites fits size nothing

-- ---- over a list of catalogues
-- the one in force has its leaves at its sites
list_placed_at : (first : Catalogue) (rest : List Catalogue) → IsListed (databases first rest) → (n : ℕ) (whole : Relations) → FitsSchema (schemas_of first) whole → ListPlaced (databases first rest) n (numbered first rest n) whole
list_placed_at first rest listed n whole fits = record {
  sites = listed.base.of_catalogue.sites n;
  fits = fits;
  has = λ name leaf site there is. content_there (numbered first rest n) site name whole leaf there is;
  nowhere = λ place none. content_none (numbered first rest n) place.0 place.1 whole none;
}

pub list_new_stores : (first : Catalogue) (rest : List Catalogue) → IsListed (databases first rest) → ListNewStoresLaw first rest
list_new_stores first rest listed whole of_desk of_sites fits empty size nothing =
    let db = databases first rest in
    let of = listed.base.of_catalogue in
    let n = of_desk.version in
    let c = numbered first rest n in
    let have : HaveLeaves c of_sites = subst (λ schemas. AllByRecursion (λ (kept : SiteContent). AreHad (known_leaves schemas) kept) of_sites) (of.schemas n) nothing.leaves in
    let many : length of_sites ≡ length c.sites = size ∙ ap (λ (sites : List (List ℕ)). length sites) (of.sites n) in
    let seats = unborn_seats c whole empty c.sites of_sites in
    let machines : Machines = record { desk = of_desk; table = unborn_table db of_desk nothing.commits nothing.life; seats = seats; later = []; refused = [] } in
    let opens = list_opens_of db c whole machines (of.formed n) (list_placed_at first rest listed n whole fits) (λ seat own leaf home. has_leaf (db.catalogue home.version) seat (of.formed home.version) (own ∙ ap known_leaves (sym (of.schemas n) ∙ of.schemas home.version)) leaf home.there)
    (unborn_started c whole empty 0 c.sites of_sites many have nothing.sites) (unborn_rises db of_desk nothing.commits nothing.life) nothing.commits in
    record {
      machines = machines;
      kept = record { desk = refl; sites = unborn_kept c whole empty c.sites of_sites many };
      memory = record { entries = []; is = refl; ascend = none_sorted txn_cmp };
      served = opens_served db whole machines opens;
    }
