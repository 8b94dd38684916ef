-- The database of a chain has what its catalogues say.
use Rattle.std.proofs.Common.{◌≡◌, refl, sym, ap, ◌∙◌, subst, None, ℕ, zero, suc, Bool, List, [], ◌∷◌, map, if◌then◌else◌}
use Rattle.std.specs.List.{AllByRecursion}
use Rattle.meaning.specs.declared.schema.RelationSchema.{RelationSchema}
use Rattle.meaning.specs.Statement.{IsStatementOf}
use Rattle.meaning.specs.Whole.{FitsSchema, Relations}
use Rattle.catalog.specs.declared.relation.SplitRelation as code
use Rattle.catalog.specs.Catalogue.{Catalogue, IsValidCatalogue}
use Rattle.catalog.specs.Chain.{Follow, IsChain}
use Rattle.catalog.specs.Formed.{IsFormed}
use Rattle.catalog.specs.Relation.{catalogue_of}
use Rattle.answers.specs.Writes.{writes_between}
use Rattle.protocol.specs.Accepted.{Holds}
use Rattle.protocol.specs.Catalogues.{IsLawfulList}
use Rattle.protocol.specs.Desk.{Deed}
use Rattle.protocol.specs.Local.{local}
use Rattle.protocol.specs.World.{World}
use Rattle.protocol.proofs.AppliedOnce.{applied_whole_and_once}
use Rattle.protocol.proofs.LineOfCommits.{part_three, parts_one_and_two}
use Rattle.protocol.proofs.ListLaw.{list_lawful}
use Rattle.desk.specs.CatalogueDatabase.{IsBase, all_moves, database, databases, numbered}
use Rattle.desk.specs.Database.{Database, language, sent, statements}
use Rattle.desk.specs.Place.{move_in, write_in}
use Rattle.world.specs.declared.event.Entry.{Entry}
use Rattle.world.specs.Listed.{IsListed, StandsIn}
use Rattle.world.specs.Machines.{Machines, world_of}
use Rattle.world.specs.Posted.{letters_in}
use Rattle.world.specs.Runs.{IsRun}
use Rattle.catalog.specs.FragmentLeaf.{schemas_of}
use Rattle.store.specs.declared.name.Txn as txns
use Rattle.desk.specs.declared.desk.Desk.{Desk}
use Rattle.desk.specs.OfCatalogue.{AreNextOf, InForce, from_number}
use Rattle.desk.specs.Recovery as desk_starting
use Rattle.world.specs.Chain.{StandsAt}
use Rattle.world.specs.Leaves.{known_leaves}
use Rattle.world.specs.Placed.{ListOpens, ListPlaced}
use Rattle.world.specs.Sites.{Seat}
use Rattle.world.specs.Start.{AllStarted}
use Rattle.world.proofs.DatabasePlaces.{content_none, content_there}
use Rattle.world.proofs.Openings.{has_leaf, list_opens_of}
use Rattle.world.proofs.Seating.{HasItsLeaves}
use Rattle.world.proofs.ListIsLawful.{all_of_one, each_formed, formed_all, next_number, same_number, schemas_all}

sites_all : (first : Catalogue) (rest : List Catalogue) → Follow first rest → (n : ℕ) → first.sites ≡ (numbered first rest n).sites
sites_all first [] follow n = refl
sites_all first (next ∷ rest) follow zero = refl
sites_all first (next ∷ rest) follow (suc zero) = refl
sites_all first (next ∷ rest) follow (suc (suc n)) = follow.0.1.sites ∙ sites_all next rest follow.1 (suc n)

module _ (first : Catalogue) (rest : List Catalogue) (follow : Follow first rest) (formed : (n : ℕ) → IsFormed (numbered first rest n)) (base : (n : ℕ) → IsBase (database (numbered first rest n))) where
  pub databases_base : IsBase (databases first rest)
  databases_base = record {
    of_catalogue = record {
      formed = formed;
      schemas = schemas_all first rest follow;
      sites = sites_all first rest follow;
      well_formed = λ n. (base n).of_catalogue.well_formed n;
      content = λ n whole fits. (base n).of_catalogue.content n whole (subst (λ (schemas : List RelationSchema). FitsSchema schemas whole) (schemas_all first rest follow n) fits);
      fetches = λ n statement fetches is are. (base n).of_catalogue.fetches n statement fetches (subst (λ (schemas : List RelationSchema). IsStatementOf schemas statement) (schemas_all first rest follow n) is) are;
      writes = λ n before after. ap (λ (b : Bool). if b then map (write_in (numbered first rest n)) (writes_between (numbered first rest n) before after) else map move_in (all_moves (numbered first rest n) (numbered first rest n) before)) (same_number n);
      moves = λ n name whole next. ap (λ (b : Bool). if b then map (write_in (numbered first rest n)) (writes_between (numbered first rest n) whole whole) else map move_in (all_moves (numbered first rest n) (numbered first rest (suc n)) whole)) (next_number n)
          ∙ ap (map move_in) (all_of_one (numbered first rest n) (numbered first rest (suc n)) name next whole (formed n));
    };
    nowhere = λ n place whole none. (base n).nowhere n place whole none;
  }

pub valid_all : (first : Catalogue) (rest : List Catalogue) → IsValidCatalogue first → AllByRecursion IsValidCatalogue rest → (n : ℕ) → IsValidCatalogue (numbered first rest n)
valid_all first [] valid all n = valid
valid_all first (next ∷ rest) valid all zero = valid
valid_all first (next ∷ rest) valid all (suc zero) = valid
valid_all first (next ∷ rest) valid all (suc (suc n)) = valid_all next rest all.0 all.1 (suc n)

each_valid : (catalogs : List (List (List ℕ) × List code.SplitRelation)) → AllByRecursion (λ catalog. IsValidCatalogue (catalogue_of catalog)) catalogs → AllByRecursion IsValidCatalogue (map catalogue_of catalogs)
each_valid [] all = tt
each_valid (catalog ∷ catalogs) all = (all.0, each_valid catalogs all.1)

-- so, where the catalogues are those that were read
pub listed_chain : ((catalogue : Catalogue) → IsFormed catalogue → IsValidCatalogue catalogue → IsBase (database catalogue)) → (catalogs : List (List (List ℕ) × List code.SplitRelation)) → AllByRecursion (λ catalog. IsFormed (catalogue_of catalog)) catalogs → AllByRecursion (λ catalog. IsValidCatalogue (catalogue_of catalog)) catalogs → IsChain (map catalogue_of catalogs) →
    ((first : Catalogue) (rest : List Catalogue) → map catalogue_of catalogs ≡ first ∷ rest → Follow first rest → IsLawfulList local (statements (databases first rest))) → (first : Catalogue) (rest : List Catalogue) → map catalogue_of catalogs ≡ first ∷ rest → IsListed (databases first rest)
listed_chain base catalogs formed valid chain lawful first rest same =
    let follow : Follow first rest = subst IsChain same chain in
    let formed_so : AllByRecursion IsFormed (first ∷ rest) = subst (AllByRecursion IsFormed) same (each_formed catalogs formed) in
    let valid_so : AllByRecursion IsValidCatalogue (first ∷ rest) = subst (AllByRecursion IsValidCatalogue) same (each_valid catalogs valid) in
    record {
      base = databases_base first rest follow (formed_all first rest formed_so.0 formed_so.1) (λ n. base (numbered first rest n) (formed_all first rest formed_so.0 formed_so.1 n) (valid_all first rest valid_so.0 valid_so.1 n));
      lawful = lawful first rest same follow;
    }

-- the invariant holds of each run
pub list_holds : (db : Database) → IsListed db → (whole : Relations) (machines : Machines) (entries : List Entry) (past : List (Deed (language db))) → (run : IsRun db whole machines entries past) → Holds (run.version, whole) (world_of db machines (map (sent db) (letters_in entries)) past)
list_holds db listed whole machines entries past run =
    let lawful = list_lawful local (statements db) listed.lawful in
    subst (λ (w : World (language db)). Holds (run.version, whole) w) run.is (record {
      apart = parts_one_and_two lawful (run.version, whole) run.opening run.events run.opens;
      line = part_three lawful (run.version, whole) run.opening run.events run.opens;
      applied = applied_whole_and_once lawful (run.version, whole) run.opening run.events run.opens;
    })

-- ---- a list that is opened
-- numbers from one on
abbrev up : ℕ → ℕ → ℕ
up zero k = k
up (suc n) k = up n (suc k)

up_more : (n k : ℕ) → up n (suc k) ≡ suc (up n k)
up_more zero k = refl
up_more (suc n) k = up_more n (suc k)

up_one : (n : ℕ) → up n 1 ≡ suc n
up_one zero = refl
up_one (suc n) = up_more n 1 ∙ ap suc (up_one n)

pub first_numbered : (first : Catalogue) (rest : List Catalogue) → numbered first rest 1 ≡ first
first_numbered first [] = refl
first_numbered first (next ∷ rest) = refl

abbrev Catalogs : Type 0
Catalogs = List (List (List ℕ) × List code.SplitRelation)

pub head_is : (one other : Catalogue) (ones others : List Catalogue) → one ∷ ones ≡ other ∷ others → one ≡ other
head_is one other ones others e = cc

tail_is : (one other : Catalogue) (ones others : List Catalogue) → one ∷ ones ≡ other ∷ others → ones ≡ others
tail_is one other ones others e = cc

-- those that come later stand under the numbers behind it
next_numbered : (db : Database) (first : Catalogue) (rest : List Catalogue) (k : ℕ) (later : Catalogs) → map catalogue_of later ≡ rest → ((n : ℕ) → db.catalogue (up n k) ≡ numbered first rest (suc n)) → AreNextOf db k later
next_numbered db first rest k [] same there = tt
next_numbered db first [] k (catalog ∷ later) same there = absurd (cc)
next_numbered db first (next ∷ rest) k (catalog ∷ later) same there = (
  there 1 ∙ first_numbered next rest ∙ sym (head_is (catalogue_of catalog) next (map catalogue_of later) rest same),
  next_numbered db next rest (suc k) later (tail_is (catalogue_of catalog) next (map catalogue_of later) rest same) (λ n. there (suc n)),
)

pub stands_first : {D : Type 0} (first : Catalogue) (rest : List Catalogue) (desk : Desk D) → desk.volatile.version ≡ 1 → catalogue_of desk.catalog ∷ map catalogue_of desk.later.items ≡ first ∷ rest → StandsIn (databases first rest) desk
stands_first first rest desk one same = record {
  here = ap (numbered first rest) one ∙ first_numbered first rest ∙ sym (head_is (catalogue_of desk.catalog) first (map catalogue_of desk.later.items) rest same);
  next = subst (λ n. AreNextOf (databases first rest) n desk.later.items) (sym one) (next_numbered (databases first rest) first rest 1 desk.later.items (tail_is (catalogue_of desk.catalog) first (map catalogue_of desk.later.items) rest same) (λ n. ap (numbered first rest) (up_one n)));
}

-- so where the one in force has another number in the chain
in_force_numbered : (db : Database) (first : Catalogue) (rest : List Catalogue) (k n : ℕ) (catalog : List (List ℕ) × List code.SplitRelation) (later : Catalogs) → catalogue_of catalog ∷ map catalogue_of later ≡ from_number (suc n) (first ∷ rest) → ((m : ℕ) → db.catalogue (up m k) ≡ numbered first rest (suc m)) →
    InForce db (up n k) catalog × AreNextOf db (up n k) later
in_force_numbered db first rest k zero catalog later same there = (
  there 0 ∙ first_numbered first rest ∙ sym (head_is (catalogue_of catalog) first (map catalogue_of later) rest same),
  next_numbered db first rest k later (tail_is (catalogue_of catalog) first (map catalogue_of later) rest same) there,
)
in_force_numbered db first [] k (suc n) catalog later same there = absurd (cc)
in_force_numbered db first (next ∷ rest) k (suc n) catalog later same there = in_force_numbered db next rest (suc k) n catalog later same (λ m. there (suc m))

pub stands_at : {D : Type 0} (n : ℕ) (first : Catalogue) (rest : List Catalogue) (desk : Desk D) → desk.volatile.version ≡ n → StandsAt n (first ∷ rest) desk → StandsIn (databases first rest) desk
stands_at zero first rest desk is stands = absurd (cc)
stands_at (suc n) first rest desk is stands =
    let db = databases first rest in
    let so = in_force_numbered db first rest 1 n desk.catalog desk.later.items stands (λ m. ap (numbered first rest) (up_one m)) in
    let same : up n 1 ≡ desk.volatile.version = up_one n ∙ sym is in
    record { here = subst (λ v. InForce db v desk.catalog) same so.0; next = subst (λ v. AreNextOf db v desk.later.items) same so.1 }

-- a database of a chain is placed under each of its catalogues
pub list_placed : (first : Catalogue) (rest : List Catalogue) → Follow first rest → (n : ℕ) (whole : Relations) → FitsSchema (schemas_of first) whole → ListPlaced (databases first rest) n (numbered first rest n) whole
list_placed first rest follow n whole fits = record {
  sites = sites_all first rest follow n;
  fits = fits;
  has = λ name leaf site there is. content_there (numbered first rest n) site name whole leaf there is;
  nowhere = λ place none. content_none (numbered first rest n) place.0 place.1 whole none;
}

pub list_its : (first : Catalogue) (rest : List Catalogue) → Follow first rest → ((n : ℕ) → IsFormed (numbered first rest n)) → (n : ℕ) (seat : Seat) → seat.leaves ≡ known_leaves (schemas_of (numbered first rest n)) → HasItsLeaves (databases first rest) seat
list_its first rest follow formed n seat own leaf home =
    has_leaf (numbered first rest home.version) seat (formed home.version) (own ∙ ap known_leaves (sym (schemas_all first rest follow n) ∙ schemas_all first rest follow home.version)) leaf home.there

-- so machines over new lists open under the first catalogue of a chain
pub list_started : {D : Type 0} (first : Catalogue) (rest : List Catalogue) → Follow first rest → ((n : ℕ) → IsFormed (numbered first rest n)) → (whole : Relations) (machines : Machines) (desk : Desk D) → machines.table.version ≡ 1 → desk.volatile.version ≡ 1 → catalogue_of desk.catalog ∷ map catalogue_of desk.later.items ≡ first ∷ rest → FitsSchema (schemas_of first) whole →
    AllStarted (catalogue_of desk.catalog) whole 0 (catalogue_of desk.catalog).sites machines.seats → desk_starting.Rises (databases first rest) machines.desk machines.table → ((txn : txns.Txn) → machines.desk.commits txn ≡ None) → ListOpens (databases first rest) whole machines × StandsIn (databases first rest) desk
list_started first rest follow formed whole machines desk one also same fits started rises none =
    let n = machines.table.version in
    let is : catalogue_of desk.catalog ≡ numbered first rest n = head_is (catalogue_of desk.catalog) first (map catalogue_of desk.later.items) rest same ∙ sym (ap (numbered first rest) one ∙ first_numbered first rest) in (
      list_opens_of (databases first rest) (numbered first rest n) whole machines (formed n) (list_placed first rest follow n whole fits) (list_its first rest follow formed n) (subst (λ (c : Catalogue). AllStarted c whole 0 c.sites machines.seats) is started) rises none,
      stands_first first rest desk also same,
    )

-- nothing has happened yet
pub list_run : (db : Database) (whole : Relations) (machines : Machines) → ListOpens db whole machines → IsRun db whole machines [] []
list_run db whole machines opens = record { version = machines.table.version; opening = world_of db machines [] []; opens = opens.opening; events = []; are = tt; is = refl; placed = tt; explained = tt; tells = record { phased = refl; stated = tt; heard = refl }; fit = opens.fit }
