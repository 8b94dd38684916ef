-- A database whose machines have come up over the stores of an earlier run.
use Rattle.std.proofs.Common.{◌≡◌, refl, sym, ap, ◌∙◌, subst, ℕ, List, [], ◌∷◌, map}
use Rattle.std.specs.List.{AllByRecursion}
use Rattle.meaning.specs.Whole.{Relations}
use Rattle.catalog.specs.declared.relation.SplitRelation.{SplitRelation}
use Rattle.catalog.specs.Catalogue.{Catalogue}
use Rattle.catalog.specs.Formed.{IsFormed}
use Rattle.catalog.specs.FragmentLeaf.{schemas_of}
use Rattle.catalog.specs.Relation.{catalogue_of}
use Rattle.store.specs.DeskContent as desk_content
use Rattle.store.specs.SiteContent.{BeginsLife, SiteContent}
use Rattle.site.specs.declared.site.Site.{Site}
use Rattle.site.specs.Recovery.{Begins}
use Rattle.site.specs.Seat.{seat_from}
use Rattle.desk.specs.Database.{Database}
use Rattle.desk.specs.OfCatalogue.{IsOfCatalogue}
use Rattle.desk.specs.Recovery.{Rises}
use Rattle.desk.specs.State.{IsMemory, txn_at}
use Rattle.world.specs.Machines.{AreFit, Machines}
use Rattle.world.specs.Placed.{IsPlaced}
use Rattle.site.specs.State.{AreHad}
use Rattle.world.specs.Chain.{sites_of}
use Rattle.world.specs.Leaves.{known_leaves}
use Rattle.world.specs.Listed.{FitsList}
use Rattle.world.specs.Recovery.{AllWake, AreKept, AreUp, AreUpAgain, ComeUp, HaveLeaves, IsUp, ListComeUp}
use Rattle.world.specs.Seated.{seats_in}
use Rattle.world.specs.Sites.{Seat}
use Rattle.world.proofs.InForce.{nobody_rises}
use Rattle.world.proofs.Openings.{all_so, has_its, has_leaf}
use Rattle.world.proofs.Seating.{HasItsLeaves}

module _ {S : Type 0} (is_clean is_sound : S → Type 0) (kept : S → SiteContent) (refused : S → ℕ) (c : Catalogue) where
  names_up : (names : List (List ℕ)) (stores : List S) (sites : List (Site S)) → AreUp is_clean is_sound kept refused c names stores sites → map (λ (seat : Seat). seat.name) (seats_in kept sites) ≡ names
  names_up [] [] [] up = refl
  names_up [] [] (x ∷ sites) up = absurd up
  names_up [] (s ∷ stores) sites up = absurd up
  names_up (n ∷ names) [] sites up = absurd up
  names_up (n ∷ names) (s ∷ stores) [] up = absurd up
  names_up (n ∷ names) (s ∷ stores) (x ∷ sites) up = λ i. up.0.called i ∷ names_up names stores sites up.1 i

  all_begin : (names : List (List ℕ)) (stores : List S) (sites : List (Site S)) → AreUp is_clean is_sound kept refused c names stores sites → AllByRecursion (λ site. is_clean site.store) sites → HaveLeaves c (map kept stores) →
      AllByRecursion (λ (seat : Seat). Begins seat.kept seat.table) (seats_in kept sites)
  all_begin [] [] [] up clean have = tt
  all_begin [] [] (x ∷ sites) up clean have = absurd up
  all_begin [] (s ∷ stores) sites up clean have = absurd up
  all_begin (n ∷ names) [] sites up clean have = absurd up
  all_begin (n ∷ names) (s ∷ stores) [] up clean have = absurd up
  all_begin (n ∷ names) (s ∷ stores) (x ∷ sites) up clean have = (up.0.begins clean.0 have.0, all_begin names stores sites up.1 clean.1 have.1)

  -- what is learnt as the sites come up
  pub all_sound : (names : List (List ℕ)) (stores : List S) (sites : List (Site S)) → AreUp is_clean is_sound kept refused c names stores sites → AllByRecursion (λ site. is_clean site.store) sites → AllByRecursion (λ site. is_sound site.store) sites
  all_sound [] [] [] up clean = tt
  all_sound [] [] (x ∷ sites) up clean = absurd up
  all_sound [] (s ∷ stores) sites up clean = absurd up
  all_sound (n ∷ names) [] sites up clean = absurd up
  all_sound (n ∷ names) (s ∷ stores) [] up clean = absurd up
  all_sound (n ∷ names) (s ∷ stores) (x ∷ sites) up clean = (up.0.leaves_store.sound clean.0 (up.0.learnt clean.0), all_sound names stores sites up.1 clean.1)

  -- stores that are clean now were so as they were given
  pub stores_were_clean : (names : List (List ℕ)) (stores : List S) (sites : List (Site S)) → AreUp is_clean is_sound kept refused c names stores sites → AllByRecursion (λ site. is_clean site.store) sites → AllByRecursion is_clean stores
  stores_were_clean [] [] [] up clean = tt
  stores_were_clean [] [] (x ∷ sites) up clean = absurd up
  stores_were_clean [] (s ∷ stores) sites up clean = absurd up
  stores_were_clean (n ∷ names) [] sites up clean = absurd up
  stores_were_clean (n ∷ names) (s ∷ stores) [] up clean = absurd up
  stores_were_clean (n ∷ names) (s ∷ stores) (x ∷ sites) up clean = (up.0.leaves_store.clean clean.0, stores_were_clean names stores sites up.1 clean.1)

  first_of : {A : Type 0} (a b : A) (xs ys : List A) → a ∷ xs ≡ b ∷ ys → a ≡ b
  first_of a b xs ys e = cc

  rest_of : {A : Type 0} (a b : A) (xs ys : List A) → a ∷ xs ≡ b ∷ ys → xs ≡ ys
  rest_of a b xs ys e = cc

  -- over what those of an earlier run kept
  all_wake : (names : List (List ℕ)) (stores : List S) (sites : List (Site S)) (olds : List Seat) → AreUp is_clean is_sound kept refused c names stores sites → AllByRecursion (λ site. is_clean site.store) sites → HaveLeaves c (map kept stores) →
      map (λ (seat : Seat). seat.name) olds ≡ names → map (λ (seat : Seat). seat.kept) olds ≡ map kept stores → AllWake olds (seats_in kept sites)
  all_wake [] [] [] [] up clean have named same = tt
  all_wake [] [] [] (o ∷ olds) up clean have named same = cc
  all_wake [] [] (x ∷ sites) olds up clean have named same = absurd up
  all_wake [] (s ∷ stores) sites olds up clean have named same = absurd up
  all_wake (n ∷ names) [] sites olds up clean have named same = absurd up
  all_wake (n ∷ names) (s ∷ stores) [] olds up clean have named same = absurd up
  all_wake (n ∷ names) (s ∷ stores) (x ∷ sites) [] up clean have named same = cc
  all_wake (n ∷ names) (s ∷ stores) (x ∷ sites) (o ∷ olds) up clean have named same = (
    record {
      named = up.0.called ∙ sym (first_of o.name n (map (λ (seat : Seat). seat.name) olds) names named);
      begins = up.0.begins clean.0 have.0;
      life = subst (λ was. BeginsLife was (kept x.store)) (sym (first_of o.kept (kept s) (map (λ (seat : Seat). seat.kept) olds) (map kept stores) same)) (up.0.life clean.0);
    },
    all_wake names stores sites olds up.1 clean.1 have.1 (rest_of o.name n (map (λ (seat : Seat). seat.name) olds) names named) (rest_of o.kept (kept s) (map (λ (seat : Seat). seat.kept) olds) (map kept stores) same),
  )

  module _ (db : Database) (n : ℕ) (whole : Relations) (formed : IsFormed c) (places : IsPlaced db n c whole) where
    all_have : (names : List (List ℕ)) (stores : List S) (sites : List (Site S)) → AreUp is_clean is_sound kept refused c names stores sites → AllByRecursion (HasItsLeaves db) (seats_in kept sites)
    all_have [] [] [] up = tt
    all_have [] [] (x ∷ sites) up = absurd up
    all_have [] (s ∷ stores) sites up = absurd up
    all_have (name ∷ names) [] sites up = absurd up
    all_have (name ∷ names) (s ∷ stores) [] up = absurd up
    all_have (name ∷ names) (s ∷ stores) (x ∷ sites) up = (has_its db n c whole (seat_from kept x) formed places up.0.leaves, all_have names stores sites up.1)

    module _ (stores : List S) (sites : List (Site S)) (up : AreUp is_clean is_sound kept refused c c.sites stores sites) (clean : AllByRecursion (λ site. is_clean site.store) sites) (have : HaveLeaves c (map kept stores))
        (machines : Machines) (seats : machines.seats ≡ seats_in kept sites) (rises : Rises db machines.desk machines.table) (single : machines.later ≡ []) where
      begin_all : AllByRecursion (λ (seat : Seat). Begins seat.kept seat.table) machines.seats
      begin_all = subst (AllByRecursion (λ (seat : Seat). Begins seat.kept seat.table)) (sym seats) (all_begin c.sites stores sites up clean have)

      pub up_fit : AreFit db machines
      up_fit = record {
        names = ap (map (λ (seat : Seat). seat.name)) seats ∙ names_up c.sites stores sites up ∙ sym places.sites;
        leaves = subst (AllByRecursion (HasItsLeaves db)) (sym seats) (all_have c.sites stores sites up);
        desk = rises.fits;
        within = rises.within;
        sites = all_so machines.seats (λ seat begins. begins.fits) begin_all;
        single = single;
        still = λ t. nobody_rises db machines.desk machines.table rises (txn_at t);
      }

      pub up_again : AreUpAgain db machines
      up_again = record { desk = rises; sites = begin_all }

      pub came_up : (old : Machines) → AreFit db old → (of_desk : desk_content.DeskContent) → AreKept old of_desk (map kept stores) → desk_content.BeginsLife of_desk machines.desk → IsMemory machines.table → ComeUp db old machines
      came_up old fit of_desk same life memory = record {
        fit = up_fit;
        sites = subst (AllWake old.seats) (sym seats) (all_wake c.sites stores sites old.seats up clean have (fit.names ∙ places.sites) same.sites);
        rises = rises;
        life = subst (λ was. desk_content.BeginsLife was machines.desk) (sym same.desk) life;
        memory = memory;
      }

-- over a list of catalogues, of which one has the sites and relations of the database
module _ {S : Type 0} (is_clean is_sound : S → Type 0) (kept : S → SiteContent) (refused : S → ℕ) (c : Catalogue) (db : Database) (of : IsOfCatalogue db) (named : c.sites ≡ db.sites) (related : schemas_of c ≡ db.schemas) where
  has_its_own : (seat : Seat) → seat.leaves ≡ known_leaves (schemas_of c) → HasItsLeaves db seat
  has_its_own seat own leaf home = has_leaf (db.catalogue home.version) seat (of.formed home.version) (own ∙ ap known_leaves (related ∙ of.schemas home.version)) leaf home.there

  all_have_own : (names : List (List ℕ)) (stores : List S) (sites : List (Site S)) → AreUp is_clean is_sound kept refused c names stores sites → AllByRecursion (HasItsLeaves db) (seats_in kept sites)
  all_have_own [] [] [] up = tt
  all_have_own [] [] (x ∷ sites) up = absurd up
  all_have_own [] (s ∷ stores) sites up = absurd up
  all_have_own (name ∷ names) [] sites up = absurd up
  all_have_own (name ∷ names) (s ∷ stores) [] up = absurd up
  all_have_own (name ∷ names) (s ∷ stores) (x ∷ sites) up = (has_its_own (seat_from kept x) up.0.leaves, all_have_own names stores sites up.1)

  module _ (stores : List S) (sites : List (Site S)) (up : AreUp is_clean is_sound kept refused c c.sites stores sites) (clean : AllByRecursion (λ site. is_clean site.store) sites) (have : HaveLeaves c (map kept stores)) (machines : Machines) (seats : machines.seats ≡ seats_in kept sites) (rises : Rises db machines.desk machines.table) where
    begin_each : AllByRecursion (λ (seat : Seat). Begins seat.kept seat.table) machines.seats
    begin_each = subst (AllByRecursion (λ (seat : Seat). Begins seat.kept seat.table)) (sym seats) (all_begin is_clean is_sound kept refused c c.sites stores sites up clean have)

    list_up_fit : FitsList db machines
    list_up_fit = record {
      names = ap (map (λ (seat : Seat). seat.name)) seats ∙ names_up is_clean is_sound kept refused c c.sites stores sites up ∙ named;
      leaves = subst (AllByRecursion (HasItsLeaves db)) (sym seats) (all_have_own c.sites stores sites up);
      desk = rises.fits;
      within = rises.within;
      sites = all_so machines.seats (λ seat begins. begins.fits) begin_each;
      still = λ none t. nobody_rises db machines.desk machines.table rises (txn_at t);
    }

    pub list_up_again : AreUpAgain db machines
    list_up_again = record { desk = rises; sites = begin_each }

    pub list_came_up : (old : Machines) → FitsList db old → (of_desk : desk_content.DeskContent) → AreKept old of_desk (map kept stores) → desk_content.BeginsLife of_desk machines.desk → IsMemory machines.table → ListComeUp db old machines
    list_came_up old fit of_desk same life memory = record {
      fit = list_up_fit;
      sites = subst (AllWake old.seats) (sym seats) (all_wake is_clean is_sound kept refused c c.sites stores sites old.seats up clean have (fit.names ∙ sym named) same.sites);
      rises = rises;
      life = subst (λ was. desk_content.BeginsLife was machines.desk) (sym same.desk) life;
      memory = memory;
    }

-- sites that have come up for one catalogue have for another one of the same relations
module _ {S : Type 0} (is_clean is_sound : S → Type 0) (kept : S → SiteContent) (refused : S → ℕ) (one other : Catalogue) (same : schemas_of one ≡ schemas_of other) where
  one_up : (name : List ℕ) (store : S) (site : Site S) → IsUp is_clean is_sound kept refused one name store site → IsUp is_clean is_sound kept refused other name store site
  one_up name store site up = record {
    leaves_store = up.leaves_store;
    learnt = up.learnt;
    called = up.called;
    leaves = up.leaves ∙ ap known_leaves same;
    begins = λ clean had. up.begins clean (subst (λ schemas. AreHad (known_leaves schemas) (kept store)) (sym same) had);
    life = up.life;
  }

  pub all_up : (names : List (List ℕ)) (stores : List S) (sites : List (Site S)) → AreUp is_clean is_sound kept refused one names stores sites → AreUp is_clean is_sound kept refused other names stores sites
  all_up [] [] [] up = tt
  all_up [] [] (x ∷ sites) up = absurd up
  all_up [] (s ∷ stores) sites up = absurd up
  all_up (n ∷ names) [] sites up = absurd up
  all_up (n ∷ names) (s ∷ stores) [] up = absurd up
  all_up (n ∷ names) (s ∷ stores) (x ∷ sites) up = (one_up n s x up.0, all_up names stores sites up.1)

-- so those for the first catalogue of a chain have for the one in force
pub up_in_force : {S : Type 0} (is_clean is_sound : S → Type 0) (kept : S → SiteContent) (refused : S → ℕ) (chain rest : List (List (List ℕ) × List SplitRelation)) (first there catalog : List (List ℕ) × List SplitRelation) (stores : List S) (sites : List (Site S)) →
    chain ≡ first ∷ rest → catalog ≡ there → there.0 ≡ sites_of chain → ((one : Catalogue) (others : List Catalogue) → map catalogue_of chain ≡ one ∷ others → schemas_of (catalogue_of there) ≡ schemas_of one) →
    AreUp is_clean is_sound kept refused (catalogue_of first) first.0 stores sites → AreUp is_clean is_sound kept refused (catalogue_of catalog) catalog.0 stores sites
up_in_force is_clean is_sound kept refused chain rest first there catalog stores sites is same named schemas up =
    let names : first.0 ≡ catalog.0 = sym (ap sites_of is) ∙ sym named ∙ sym (ap (λ (x : List (List ℕ) × List SplitRelation). x.0) same) in
    let relations : schemas_of (catalogue_of first) ≡ schemas_of (catalogue_of catalog) = sym (schemas (catalogue_of first) (map catalogue_of rest) (ap (map catalogue_of) is)) ∙ sym (ap (λ (x : List (List ℕ) × List SplitRelation). schemas_of (catalogue_of x)) same) in
    subst (λ (ns : List (List ℕ)). AreUp is_clean is_sound kept refused (catalogue_of catalog) ns stores sites) names (all_up is_clean is_sound kept refused (catalogue_of first) (catalogue_of catalog) relations first.0 stores sites up)
