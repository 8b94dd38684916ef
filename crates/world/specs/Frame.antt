-- What a call leaves of the machines of a database, and of what its clauses speak.
use Rattle.std.specs.Prelude.{◌≡◌, ◌≢◌, ◌≤◌, ◌⊎◌, ◌++◌, ◌∷◌, ℕ, true, List, [], map, Result, Ok, Err, IfErr, IfOk, OnErr}
use Rattle.std.specs.List.{AllByRecursion, AllZip}
use Rattle.meaning.specs.Whole.{Relations}
use Rattle.protocol.specs.Client.{ReachedLaw}
use Rattle.protocol.specs.Desk.{Deed}
use Rattle.catalog.specs.declared.relation.SplitRelation.{SplitRelation}
use Rattle.catalog.specs.FragmentLeaf.{schemas_of}
use Rattle.catalog.specs.Relation.{catalogue_of}
use Rattle.desk.specs.CatalogueDatabase.{database}
use Rattle.desk.specs.Database.{Database, language}
use Rattle.desk.specs.OfCatalogue.{InForce, IsOfCatalogue, first_in, follow}
use Rattle.world.specs.declared.machines.Machines as code
use Rattle.site.specs.declared.site.Site.{Site}
use Rattle.desk.specs.declared.refusal.Refusal.{Refusal}
use Rattle.desk.specs.declared.refusal.Refusal.TheVariants.{NoNext}
use Rattle.desk.specs.Refragmented.{FindsNoNext}
use Rattle.desk.specs.declared.reply.Notice.{Notice}
use Rattle.store.specs.declared.letter.Letter as letters
use Rattle.world.specs.Counted.{NoFewer, counts, counts_of}
use Rattle.world.specs.Contents.{OfStores}
use Rattle.world.specs.Machines.{AreFit, Machines}
use Rattle.world.specs.Client.{IsServed, IsServedOn}
use Rattle.world.specs.Course.{Made, Move}
use Rattle.world.specs.ListServed.{IsListServed, IsListServedOn, IsListWaiting, ListGoes, ListMade}
use Rattle.world.specs.Listed.{FitsList, IsListed, StandsIn}
use Rattle.world.specs.Stopping.{StopsFor, is_stop}

-- a list ends in another one: a front of it has passed
pub record EndsIn {A : Type 0} (whole rest : List A) : Type 0 where
  pub passed : List A
  pub is : passed ++ rest ≡ whole

-- no catalogue is lost: the one in force and those that come after it are what is left of those before. later: those that come after it
abbrev pub KeepsCatalogs : {D S : Type 0} → (code.Machines D S → List (List (List ℕ) × List SplitRelation)) → code.Machines D S → code.Machines D S → Type 0
KeepsCatalogs later old new = EndsIn (old.desk.catalog ∷ later old) (new.desk.catalog ∷ later new)

-- by one event at most one passes: the catalogues are the same or, where the one in force has another number, those that follow
abbrev pub StaysOrFollows : {D S : Type 0} → code.Machines D S → code.Machines D S → Type 0
StaysOrFollows old new = ((new.desk.catalog ≡ old.desk.catalog) × (new.desk.later.items ≡ old.desk.later.items))
    ⊎ ((new.desk.volatile.version ≢ old.desk.volatile.version) × ((new.desk.catalog, new.desk.later.items) ≡ follow old.desk.catalog old.desk.later.items))

-- the same catalogue is in force, and the same ones come later
pub record StaysInForce {D S : Type 0} (old new : code.Machines D S) : Type 0 where
  pub version : new.desk.volatile.version ≡ old.desk.volatile.version
  pub catalog : new.desk.catalog ≡ old.desk.catalog
  pub later : new.desk.later.items ≡ old.desk.later.items

-- what a call leaves of the machines, whatever it answers: stores that are clean now were clean, sound ones stay sound, no refusal is
-- forgotten, and the catalogues are the same
pub record LeavesMachines {D S : Type 0} (desk_is_clean : D → Type 0) (site_is_clean : S → Type 0) (desk_is_sound : D → Type 0) (site_is_sound : S → Type 0) (desk_refused : D → ℕ) (site_refused : S → ℕ) (old new : code.Machines D S) : Type 0 where
  pub clean : OfStores desk_is_clean site_is_clean new → OfStores desk_is_clean site_is_clean old
  pub sound : OfStores desk_is_clean site_is_clean new → OfStores desk_is_sound site_is_sound old → OfStores desk_is_sound site_is_sound new
  pub counts : AllZip (λ (count now : ℕ). count ≤ now) (counts desk_refused site_refused old) (counts desk_refused site_refused new)
  pub catalog : new.desk.catalog ≡ old.desk.catalog
  pub later : new.desk.later.items ≡ old.desk.later.items

-- so a call by which letters may come: catalogues may have passed, and all others are there
pub record LeavesDatabase {D S : Type 0} (desk_is_clean : D → Type 0) (site_is_clean : S → Type 0) (desk_is_sound : D → Type 0) (site_is_sound : S → Type 0) (desk_refused : D → ℕ) (site_refused : S → ℕ) (old new : code.Machines D S) : Type 0 where
  pub clean : OfStores desk_is_clean site_is_clean new → OfStores desk_is_clean site_is_clean old
  pub sound : OfStores desk_is_clean site_is_clean new → OfStores desk_is_sound site_is_sound old → OfStores desk_is_sound site_is_sound new
  pub counts : AllZip (λ (count now : ℕ). count ≤ now) (desk_refused old.desk.store ∷ map (λ site. site_refused site.store) old.sites.items) (desk_refused new.desk.store ∷ map (λ site. site_refused site.store) new.sites.items)
  pub catalogs : EndsIn (old.desk.catalog ∷ old.desk.later.items) (new.desk.catalog ∷ new.desk.later.items)

-- so of the stores of sites
pub record LeavesSites {S : Type 0} (is_clean is_sound : S → Type 0) (refused : S → ℕ) (old new : List (Site S)) : Type 0 where
  pub clean : AllByRecursion (λ site. is_clean site.store) new → AllByRecursion (λ site. is_clean site.store) old
  pub sound : AllByRecursion (λ site. is_clean site.store) new → AllByRecursion (λ site. is_sound site.store) old → AllByRecursion (λ site. is_sound site.store) new
  pub counts : NoFewer (counts_of refused old) (counts_of refused new)

-- no store has been called: each is what it was
pub record CallsNoStore {D S : Type 0} (old new : code.Machines D S) : Type 0 where
  pub desk : new.desk.store ≡ old.desk.store
  pub sites : map (λ site. site.store) new.sites.items ≡ map (λ site. site.store) old.sites.items

-- something holds of each database in which the catalogue is in force, of the machines before a call and after it, where stores are clean now and were sound, and memory fitted them.
-- clean, sound: of the stores; view: the machines as the protocol sees them
abbrev pub OverDatabase : {D S : Type 0} → (code.Machines D S → Type 0) → (code.Machines D S → Type 0) → (code.Machines D S → Machines) → code.Machines D S → code.Machines D S → (Database → Machines → Machines → Type 0) → Type 0
OverDatabase clean sound view old new P = (db : Database) → IsOfCatalogue db → InForce db (view old).table.version old.desk.catalog → clean new → sound old → AreFit db (view old) → P db (view old) (view new)

-- so of the one database of the catalogue in force
abbrev pub OverFit : {D S : Type 0} → (code.Machines D S → Type 0) → (code.Machines D S → Type 0) → (code.Machines D S → Machines) → code.Machines D S → code.Machines D S → (Database → Machines → Machines → Type 0) → Type 0
OverFit clean sound view old new P = clean new → sound old → AreFit (database (catalogue_of old.desk.catalog)) (view old) → P (database (catalogue_of old.desk.catalog)) (view old) (view new)

-- something holds of that database, the whole relations that one client began with, and all that had happened, where the machines had served that client
abbrev pub OverServed : {D S : Type 0} → (code.Machines D S → Type 0) → (code.Machines D S → Type 0) → (code.Machines D S → Machines) → code.Machines D S → code.Machines D S → ((db : Database) → Relations → List (Deed (language db)) → Type 0) → Type 0
OverServed clean sound view old new P = (whole : Relations) (past : List (Deed (language (database (catalogue_of old.desk.catalog))))) → clean new → sound old → IsServed (database (catalogue_of old.desk.catalog)) whole (view old) past → P (database (catalogue_of old.desk.catalog)) whole past

-- machines that one client was served by go on to be such
abbrev pub StaysServed : {D S : Type 0} → (code.Machines D S → Type 0) → (code.Machines D S → Type 0) → (code.Machines D S → Machines) → code.Machines D S → code.Machines D S → Type 0
StaysServed clean sound view old new = (db : Database) (whole : Relations) (past : List (Deed (language db))) → IsOfCatalogue db → ReachedLaw (language db) → InForce db (view old).table.version old.desk.catalog → clean new → sound old
    → IsServed db whole (view old) past → IsServedOn db whole (view new) past

-- a call that stops the database has a reason among its stores, where these are clean now and were sound. refused: how often each has refused
abbrev pub Blames : {D S T : Type 0} → (code.Machines D S → Type 0) → (code.Machines D S → Type 0) → (code.Machines D S → List ℕ) → code.Machines D S → code.Machines D S → Result T Refusal → Type 0
Blames clean sound refused old new result = clean new → sound old → IfErr result (StopsFor (refused old) (refused new))

-- nothing that the stores keep and the machines have in memory has changed, where the stores are clean now and were sound
abbrev pub StaysAsItIs : {D S : Type 0} → (code.Machines D S → Type 0) → (code.Machines D S → Type 0) → (code.Machines D S → Machines) → code.Machines D S → code.Machines D S → Type 0
StaysAsItIs clean sound view old new = clean new → sound old → view new ≡ view old

-- so where the call fails
abbrev pub StaysOnErr : {D S T E : Type 0} → (code.Machines D S → Type 0) → (code.Machines D S → Type 0) → (code.Machines D S → Machines) → code.Machines D S → code.Machines D S → Result T E → Type 0
StaysOnErr clean sound view old new result = clean new → sound old → OnErr result (view new ≡ view old)

-- moves of a client were made, of this kind
pub record HasMade (db : Database) (before after : Machines) (kind : List Move → Type 0) : Type 0 where
  pub moves : List Move
  pub made : Made db moves before after
  pub is : kind moves

-- so by a call that answers this, unless it stops the database
abbrev pub MakesMoves : {T : Type 0} → Database → Machines → Machines → Result T Refusal → (Result T Refusal → List Move → Type 0) → Type 0
MakesMoves db before after (Ok x) kind = HasMade db before after (kind (Ok x))
MakesMoves db before after (Err told) kind = (is_stop told ≡ true) ⊎ HasMade db before after (kind (Err told))

-- ---- over a list of catalogues, of which another one may come into force
-- something holds of each database in whose list the machines stand and that had served one client, with what had happened; and they stand in it after the call
abbrev pub OverLists : {D S : Type 0} → (code.Machines D S → Type 0) → (code.Machines D S → Type 0) → (code.Machines D S → Machines) → code.Machines D S → code.Machines D S → ((db : Database) → Relations → List (Deed (language db)) → Type 0) → Type 0
OverLists clean sound view old new P = (db : Database) (whole : Relations) (past : List (Deed (language db))) → IsListed db → StandsIn db old.desk → clean new → sound old → IsListServed db whole (view old) past → P db whole past × StandsIn db new.desk

-- so of a call by which none comes into force
abbrev pub OverListServed : {D S : Type 0} → (code.Machines D S → Type 0) → (code.Machines D S → Type 0) → (code.Machines D S → Machines) → code.Machines D S → code.Machines D S → ((db : Database) → Relations → List (Deed (language db)) → Type 0) → Type 0
OverListServed clean sound view old new P = (db : Database) (whole : Relations) (past : List (Deed (language db))) → IsListed db → StandsIn db old.desk → clean new → sound old → IsListServed db whole (view old) past → P db whole past

-- something holds of each database in whose list the machines stand, of the machines before a call and after it, where stores are clean now and were sound, and memory fitted them
abbrev pub OverFitting : {D S : Type 0} → (code.Machines D S → Type 0) → (code.Machines D S → Type 0) → (code.Machines D S → Machines) → code.Machines D S → code.Machines D S → (Database → Machines → Machines → Type 0) → Type 0
OverFitting clean sound view old new P = (db : Database) → IsListed db → StandsIn db old.desk → clean new → sound old → FitsList db (view old) → P db (view old) (view new)

-- moves of this kind are made by a call that answers this, unless it stops the database: then more was done, and of what was heard nothing is said
abbrev pub ListMakes : {T : Type 0} → (db : Database) → Relations → Machines → List (Deed (language db)) → Result T Refusal → (Result T Refusal → List Move → Type 0) → Type 0
ListMakes db whole machines past (Ok x) kind = ListMade db whole machines past (kind (Ok x))
ListMakes db whole machines past (Err told) kind = ((is_stop told ≡ true) × IsListServedOn db whole machines past) ⊎ ListMade db whole machines past (kind (Err told))

-- letters come: those that waited before, and left after the call, by what it answers; was, now: what the client had heard before and has heard since. Where the call fails, letters may be let go
abbrev pub ListDelivers : {D S T : Type 0} → (code.Machines D S → Type 0) → (code.Machines D S → Type 0) → (code.Machines D S → Machines) → code.Machines D S → code.Machines D S → Result T Refusal → (waited : List letters.Letter) → (left : T → List letters.Letter) → (was : List Notice) → (now : T → List Notice) → Type 0
ListDelivers clean sound view old new result waited left was now = (db : Database) (whole : Relations) (past : List (Deed (language db))) → IsListed db → StandsIn db old.desk → clean new → sound old → IsListWaiting db whole (view old) waited past
    → IfOk result (λ x. ListGoes db whole (view new) (left x) past was (now x)) × OnErr result (IsListServedOn db whole (view new) past) × StandsIn db new.desk

-- ---- calls of one client
-- What a call makes of the machines that serve one client: what it leaves of their stores, that it stops the database for a reason, that it is served on whatever
-- was refused, and which moves it makes, where no catalogue comes later and over lists. view: the machines as the protocol sees them, with how often media have refused; kind: which moves these are, by what is answered
pub record ComesTo {D S T : Type 0} (IsClean IsSound : code.Machines D S → Type 0) (view : code.Machines D S → Machines) (old new : code.Machines D S) (result : Result T Refusal) (kind : Database → Result T Refusal → List Move → Type 0) : Type 0 where
  pub clean : IsClean new → IsClean old
  pub sound : IsClean new → IsSound old → IsSound new
  pub counts : NoFewer (view old).refused (view new).refused
  pub catalogs : KeepsCatalogs (λ machines. (view machines).later) old new
  pub blames : IsClean new → IsSound old → IfErr result (StopsFor (view old).refused (view new).refused)
  pub served : StaysServed IsClean IsSound view old new
  pub moves : OverDatabase IsClean IsSound view old new (λ db before after. MakesMoves db before after result (kind db))
  pub lists : OverLists IsClean IsSound view old new (λ db whole past. ListMakes db whole (view new) past result (kind db))

-- so a call that is refused only where it stops the database. kind: which moves these are, by its result
pub record RunsTo {D S T : Type 0} (IsClean IsSound : code.Machines D S → Type 0) (view : code.Machines D S → Machines) (old new : code.Machines D S) (result : Result T Refusal) (kind : Database → T → List Move → Type 0) : Type 0 where
  pub comes : ComesTo IsClean IsSound view old new result (λ db done moves. IfOk done (λ x. kind db x moves))
  pub own : IfErr result (λ told. is_stop told ≡ true)

-- a REFRAGMENT of this text is refused by NoNext only where no catalogue comes later, or the first that does is no next one by its relation
abbrev pub FindsNone : {D S T : Type 0} → (code.Machines D S → Type 0) → (code.Machines D S → Type 0) → (code.Machines D S → Machines) → code.Machines D S → code.Machines D S → Result T Refusal → List ℕ → Type 0
FindsNone clean sound view old new result text = OverLists clean sound view old new (λ db whole past. result ≡ Err NoNext → (old.desk.later.items ≡ []) ⊎ FindsNoNext (catalogue_of old.desk.catalog) (schemas_of (catalogue_of old.desk.catalog)) (first_in old.desk.later.items) text)
