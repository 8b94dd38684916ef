-- What calls leave of the coordinator, and why they fail.
use Rattle.std.specs.Prelude.{◌≡◌, ◌⊎◌, ◌+◌, ◌^◌, ◌≤◌, ◌==◌, nat_eq, ℕ, Bool, true, false, List, [], Some, None, is_some, Result, Err, IsOk, IfOk, IfErr, OnOk, OnErr, ◌≢◌, Option, if◌then◌else◌}
use Rattle.std.specs.Cmp.Lexicographic.{pointwise}
use Rattle.std.specs.List.{list_any}
use Rattle.terms.specs.declared.memory.Memory.{Memory}
use Rattle.meaning.specs.declared.statement.Statement.{Statement}
use Rattle.protocol.specs.Desk as protocol
use Rattle.protocol.specs.Desk.{on_desk_letter}
use Rattle.protocol.specs.Letters.{txn_name}
use Rattle.store.specs.declared.fault.StoreFault.TheVariants as store_faults
use Rattle.store.specs.declared.letter.Body.TheVariants as bodies
use Rattle.store.specs.declared.letter.Letter.{Letter}
use Rattle.store.specs.declared.name.Txn.{Txn}
use Rattle.store.specs.declared.reply.Reply.{Reply}
use Rattle.store.specs.DeskContent.{BeginsLife, DeskContent, IsUnchanged}
use Rattle.store.specs.Fault.{HasRefused}
use Rattle.store.specs.Frame.{LeavesStore, Soundly}
use Rattle.desk.specs.declared.desk.Desk.{Desk}
use Rattle.desk.specs.declared.refusal.Refusal.{Refusal}
use Rattle.desk.specs.declared.refusal.Refusal.TheVariants as refusals
use Rattle.desk.specs.declared.participant.Participant.{Participant}
use Rattle.desk.specs.declared.reply.Notice.{Notice}
use Rattle.desk.specs.declared.reply.Out.{Out}
use Rattle.desk.specs.declared.statement.Progress.{Progress}
use Rattle.desk.specs.declared.transaction.TxnState.TheVariants as standing
use Rattle.desk.specs.declared.transaction.Undecided.{Undecided}
use Rattle.desk.specs.declared.transition.After.TheVariants.{Stays}
use Rattle.desk.specs.declared.transition.Transition.{Transition}
use Rattle.desk.specs.declared.volatile.Volatile.{Volatile}
use Rattle.desk.specs.Acknowledge.{kept_voters}
use Rattle.desk.specs.Called.{CallsStore}
use Rattle.desk.specs.Request.{IsAt, IsOver, WhyNotStated, txn_in}
use Rattle.desk.specs.Database.{Database, language, replied}
use Rattle.desk.specs.Does.{IsNoStatement, IsPastLimits, States, StatesPastLimits, Takes}
use Rattle.desk.specs.OfCatalogue.{InForce, IsNextOf, IsOfCatalogue, first_in, follow}
use Rattle.desk.specs.Recovery.{IsStrange, Restarts, Rises}
use Rattle.desk.specs.State.{Fits, desk_of, volatile_of}
use Rattle.desk.specs.Refragmented.{FindsNoNext, IsNoRefragment, RefragmentsBy}
use Rattle.catalog.specs.declared.relation.SplitRelation.{SplitRelation}
use Rattle.catalog.specs.FragmentLeaf.{schemas_of}
use Rattle.catalog.specs.Relation.{catalogue_of}
use Rattle.desk.specs.Participants.{sites_of}
use Rattle.desk.specs.Receive.{is_strange, may_send}
use Rattle.desk.specs.Send.{AreShort, IsPast}
use Rattle.desk.specs.Transition.{AtSites, after_of, is_moving, raises, says_committed}

-- a call puts out these letters and replies, and no store counts as having refused
pub record PutsOut (out : Out) (written : List Letter) (heard : List Notice) : Type 0 where
  pub letters : out.letters ≡ written
  pub replies : out.replies ≡ heard
  pub kept : out.kept ≡ true

-- a step is made in memory alone: no store counts as having refused, and after a refusal nothing has changed
pub record StepsInMemory (old new : Volatile) (result : Result Out Refusal) : Type 0 where
  pub kept : IfOk result (λ out. out.kept ≡ true)
  pub err : OnErr result (volatile_of new ≡ volatile_of old)

-- and it is refused only at a limit, and for want of memory
pub record StepsBelowLimits (old new : Volatile) (result : Result Out Refusal) : Type 0 where
  pub kept : IfOk result (λ out. out.kept ≡ true)
  pub err : OnErr result (volatile_of new ≡ volatile_of old)
  pub own : IfErr result (λ told. (told ≡ refusals.Memory) ⊎ (told ≡ refusals.Full))

-- a statement's step is made in memory alone, of a transaction that may state one
pub record StatesInMemory (old new : Volatile) (txn : Txn) (result : Result Out Refusal) : Type 0 where
  pub still : OnOk result (is_moving ((volatile_of old).standing txn) ≡ false)
  pub kept : IfOk result (λ out. out.kept ≡ true)
  pub err : OnErr result (volatile_of new ≡ volatile_of old)
  pub accepted : (db : Database) (statement : Statement) → OnOk result (protocol.refusal (protocol.State ((volatile_of old).version, statement)) (txn_in db (volatile_of old) txn) ≡ None)

-- the coordinator makes a step in memory alone: its store and its catalogues are as they were
pub record StepsPlainly {S : Type 0} (old new : Desk S) (result : Result Out Refusal) : Type 0 where
  pub kept : IfOk result (λ out. out.kept ≡ true)
  pub err : OnErr result (volatile_of new.volatile ≡ volatile_of old.volatile)
  pub store : new.store ≡ old.store
  pub catalog : new.catalog ≡ old.catalog
  pub later : new.later.items ≡ old.later.items

-- so it makes a statement's, of a transaction that may state one
pub record StatesPlainly {S : Type 0} (old new : Desk S) (txn : Txn) (result : Result Out Refusal) : Type 0 where
  pub still : OnOk result (is_moving ((volatile_of old.volatile).standing txn) ≡ false)
  pub plainly : StepsPlainly old new result
  pub accepted : (db : Database) (statement : Statement) → OnOk result (protocol.refusal (protocol.State ((volatile_of old.volatile).version, statement)) (txn_in db (volatile_of old.volatile) txn) ≡ None)

-- a call states the text of a transaction's statement: what it does, why it is refused, and what it leaves. kept: what a store keeps
pub record StatesDesk {S : Type 0} (kept : S → DeskContent) (old new : Desk S) (txn : Txn) (text : List ℕ) (result : Result Out Refusal) : Type 0 where
  pub ok : (db : Database) → IsOfCatalogue db → InForce db old.volatile.version old.catalog → Fits db (kept old.store) (volatile_of old.volatile)
      → IfOk result (λ out. States db (volatile_of old.volatile) (kept new.store) (volatile_of new.volatile) txn text out.letters out.replies)
  pub states : StatesPlainly old new txn result
  pub told : (db : Database) (statement : Statement) → IfErr result (λ told. (told ≡ refusals.Memory) ⊎ WhyNotStated db (volatile_of old.volatile) txn statement told
      ⊎ ((protocol.refusal (protocol.State (old.volatile.version, statement)) (txn_in db (volatile_of old.volatile) txn) ≡ None) × (IsNoStatement (schemas_of (catalogue_of old.catalog)) text told ⊎ (told ≡ refusals.Full))))
  pub full : (db : Database) → IsOfCatalogue db → InForce db old.volatile.version old.catalog → Fits db (kept old.store) (volatile_of old.volatile) → result ≡ Err refusals.Full
      → StatesPastLimits db (volatile_of old.volatile) txn text

-- a step that calls no store leaves what stands there, and nobody hears that it is committed
pub record LeavesStanding (result : Result Transition Memory) : Type 0 where
  pub after : IfOk result (λ turn. turn.after ≡ Stays)
  pub quiet : IfOk result (λ turn. says_committed turn.reply ≡ false)
  pub kept : IfOk result (λ turn. turn.kept ≡ true)

-- a step of an undecided transaction calls no store: the transaction keeps its sites, and has no commit row, and no next catalogue comes into force by it
pub record LeavesNoRow (old : Undecided) (result : Result Transition Memory) : Type 0 where
  pub quiet : IfOk result (λ turn. raises (Some (standing.Undecided old)) turn.reply ≡ false)
  pub sites : IfOk result (λ turn. AtSites (sites_of old.participants) turn.after)
  pub keeps : IfOk result (λ turn. kept_voters (after_of (Some (standing.Undecided old)) turn.after) ≡ None)
  pub kept : IfOk result (λ turn. turn.kept ≡ true)

-- the step that a client asks for calls no store: a transaction keeps its sites and its commit row, nothing comes to stand where nothing stood, and no next catalogue comes into force
pub record LeavesRows (old : Volatile) (txn : Txn) (result : Result Transition Refusal) : Type 0 where
  pub quiet : IfOk result (λ turn. raises ((volatile_of old).standing txn) turn.reply ≡ false)
  pub sites : (db : Database) → IsAt db ((volatile_of old).standing txn) → IfOk result (λ turn. AtSites db.sites turn.after)
  pub keeps : IfOk result (λ turn. kept_voters (after_of ((volatile_of old).standing txn) turn.after) ≡ kept_voters ((volatile_of old).standing txn))
  pub kept : IfOk result (λ turn. turn.kept ≡ true)
  pub stands : IfOk result (λ turn. (is_some ((volatile_of old).standing txn) ≡ true) ⊎ (turn.after ≡ Stays))

-- a statement goes on, and the counts of operations stay below the limit, or nothing has changed
pub record GoesOnOrStays (old new : Undecided) (result : Result Progress Refusal) : Type 0 where
  pub short : AreShort old.participants → OnOk result (AreShort new.participants)
  pub same : OnErr result (new ≡ old)

-- so where operations go out to these participants; Full only where one of them would pass the limit
pub record SendsOrStays (old new : Undecided) (sent : List Participant) (result : Result Progress Refusal) : Type 0 where
  pub short : AreShort old.participants → OnOk result (AreShort new.participants)
  pub same : OnErr result (new ≡ old)
  pub full : result ≡ Err refusals.Full → IsPast sent

-- a step that may call the store, where `may` is true: a store that isn't called is as it was, and so is what is kept after an error;
-- it counts as not kept only for what the store is called for, and only where it wasn't to be called or refused
pub record StepsStore {S T E : Type 0} (is_clean is_sound : S → Type 0) (kept : S → DeskContent) (refused : S → ℕ) (old new : S) (may : Bool) (result : Result T E) (was_kept : T → Bool) (calls : Type 0) : Type 0 where
  pub leaves : LeavesStore is_clean is_sound refused old new
  pub uncalled : may ≡ false → new ≡ old
  pub same : Soundly is_clean is_sound old new (OnErr result (IsUnchanged (kept old) (kept new)))
  pub called : IfOk result (λ out. was_kept out ≡ false → calls)
  pub refusal : IfOk result (λ out. was_kept out ≡ false → (may ≡ false) ⊎ HasRefused (refused old) (refused new))

-- a life of the coordinator begins, or nothing has changed: Full only at the last life, damage only where a row is of a transaction that was not begun, or has a voter at none of these sites
pub record BeginsOrFails {S T : Type 0} (is_clean is_sound : S → Type 0) (kept : S → DeskContent) (refused : S → ℕ) (sites : List (List ℕ)) (old new : S) (result : Result T Refusal) : Type 0 where
  pub leaves : LeavesStore is_clean is_sound refused old new
  pub learnt : is_clean new → OnOk result (is_sound old)
  pub life : is_clean new → OnOk result (BeginsLife (kept old) (kept new))
  pub same : Soundly is_clean is_sound old new (OnErr result (IsUnchanged (kept old) (kept new)))
  pub full : is_clean new → result ≡ Err refusals.Full → 2 ^ 63 ≤ (kept new).life + 1
  pub damaged : Soundly is_clean is_sound old new (result ≡ Err (refusals.Store store_faults.Damaged) → IsStrange sites (kept new))
  pub own : IfErr result (λ told. (told ≡ refusals.Memory) ⊎ (told ≡ refusals.Full) ⊎ (told ≡ refusals.Store store_faults.Refused) ⊎ (told ≡ refusals.Store store_faults.Damaged))

-- a letter is taken, where `may` is true with the store; next: the catalogue that comes next, if one does; it makes the protocol's step, Full only where that would lead past the limits; a letter of no
-- site of the catalogue, and one that no site sends, are passed over; after a refusal nothing has changed
pub record TakesUnder {S : Type 0} (is_clean is_sound : S → Type 0) (kept : S → DeskContent) (refused : S → ℕ) (old new : Desk S) (letter : Letter) (may : Bool) (next : Option (List (List ℕ) × List SplitRelation)) (result : Result Out Refusal) : Type 0 where
  pub store : StepsStore is_clean is_sound kept refused old.store new.store may result (λ out. out.kept)
      ((db : Database) (reply : Reply) → IsOfCatalogue db → InForce db old.volatile.version old.catalog → IsNextOf db old.volatile.version next → Fits db (kept old.store) (volatile_of old.volatile) → letter.body ≡ bodies.Reply reply
      → CallsStore {L = language db} letter.site (replied db letter.site reply) (txn_in db (volatile_of old.volatile) letter.txn))
  pub ok : (db : Database) (reply : Reply) → IsOfCatalogue db → InForce db old.volatile.version old.catalog → IsNextOf db old.volatile.version next → is_clean new.store → is_sound old.store → Fits db (kept old.store) (volatile_of old.volatile)
      → letter.body ≡ bodies.Reply reply → list_any (λ site. pointwise nat_eq site letter.site) db.sites ≡ true
      → IfOk result (λ out. Takes db (volatile_of old.volatile) (kept new.store) (volatile_of new.volatile) letter.txn
      (λ choice. on_desk_letter (txn_name letter.txn) letter.site out.kept choice (replied db letter.site reply) (txn_in db (volatile_of old.volatile) letter.txn)) out.letters out.replies)
  pub strange : is_strange old.catalog.0 letter ≡ true → IsOk result × ((new.volatile ≡ old.volatile) × (new.store ≡ old.store))
  pub silent : is_strange old.catalog.0 letter ≡ true → IfOk result (λ out. (out.letters ≡ []) × (out.replies ≡ []) × (out.kept ≡ true))
  pub own : IfErr result (λ told. (told ≡ refusals.Memory) ⊎ (told ≡ refusals.Full))
  pub full : (db : Database) (reply : Reply) → IsOfCatalogue db → InForce db old.volatile.version old.catalog → IsNextOf db old.volatile.version next → Fits db (kept old.store) (volatile_of old.volatile)
      → letter.body ≡ bodies.Reply reply → list_any (λ site. pointwise nat_eq site letter.site) db.sites ≡ true → result ≡ Err refusals.Full
      → IsPastLimits db (volatile_of old.volatile) letter.txn (λ choice. on_desk_letter (txn_name letter.txn) letter.site true choice (replied db letter.site reply) (txn_in db (volatile_of old.volatile) letter.txn))
  pub full_at : (reply : Reply) → letter.body ≡ bodies.Reply reply → result ≡ Err refusals.Full → may_send ((volatile_of old.volatile).standing letter.txn) letter.site reply ≡ true
  pub err : OnErr result (volatile_of new.volatile ≡ volatile_of old.volatile)
  pub catalog : new.catalog ≡ old.catalog
  pub later : new.later.items ≡ old.later.items

-- the coordinator with other catalogues, the one in force and those that come after it
abbrev pub under : {S : Type 0} → Desk S → Desk S → Desk S
under old new = record new { catalog = old.catalog; later = old.later }

-- a letter is taken under the catalogue in force, by the one that comes next; with the next version that one is in force
pub record TakesLetter {S : Type 0} (is_clean is_sound : S → Type 0) (kept : S → DeskContent) (refused : S → ℕ) (old new : Desk S) (letter : Letter) (may : Bool) (result : Result Out Refusal) : Type 0 where
  pub takes : TakesUnder is_clean is_sound kept refused old (under old new) letter may (first_in old.later.items) result
  pub catalogs : (new.catalog, new.later.items) ≡ (if new.volatile.version == old.volatile.version then (old.catalog, old.later.items) else follow old.catalog old.later.items)

-- a transaction of its own gives a relation the split that the next catalogue has for it: its first step is the protocol's; Full only past the limits, NotAlone only
-- where something stands, NoNext only where that catalogue is no next one by this relation, and else the text is no REFRAGMENT's; the store and the catalogues are as they were
pub record RefragmentsDesk {S : Type 0} (kept : S → DeskContent) (old new : Desk S) (text : List ℕ) (result : Result Out Refusal) : Type 0 where
  pub plainly : StepsPlainly old new result
  pub ok : (db : Database) → IsOfCatalogue db → InForce db old.volatile.version old.catalog → IsNextOf db old.volatile.version (first_in old.later.items) → Fits db (kept old.store) (volatile_of old.volatile)
      → IfOk result (λ out. RefragmentsBy db (volatile_of old.volatile) (kept new.store) (volatile_of new.volatile) text out.letters out.replies)
  pub next : OnOk result (old.later.items ≢ [])
  pub own : IfErr result (λ told. (told ≡ refusals.Memory) ⊎ (told ≡ refusals.Full) ⊎ (told ≡ refusals.NotAlone) ⊎ (told ≡ refusals.NoNext) ⊎ IsNoRefragment (schemas_of (catalogue_of old.catalog)) text told)
  pub full : (db : Database) → Fits db (kept old.store) (volatile_of old.volatile) → result ≡ Err refusals.Full → protocol.is_desk_within (protocol.began_as true (desk_of db (volatile_of old.volatile))) ≡ false
  pub alone : result ≡ Err refusals.NotAlone → (volatile_of old.volatile).txns ≢ []
  pub none : result ≡ Err refusals.NoNext → FindsNoNext (catalogue_of old.catalog) (schemas_of (catalogue_of old.catalog)) (first_in old.later.items) text

-- a restart of the coordinator: who was undecided is lost, and the rows of the store stand; after a refusal nothing has changed
pub record RestartsDesk {S : Type 0} (is_clean is_sound : S → Type 0) (kept : S → DeskContent) (refused : S → ℕ) (old new : Desk S) (result : Result Out Refusal) : Type 0 where
  pub begins : BeginsOrFails is_clean is_sound kept refused old.catalog.0 old.store new.store result
  pub ok : (db : Database) → IsOver db old.catalog.0 → is_clean new.store → Fits db (kept old.store) (volatile_of old.volatile) → IfOk result (λ out. Restarts db (volatile_of old.volatile) (kept new.store) (volatile_of new.volatile) out.letters out.replies)
  pub rises : (db : Database) → IsOver db old.catalog.0 → is_clean new.store → OnOk result (Rises db (kept new.store) (volatile_of new.volatile))
  pub says_kept : IfOk result (λ out. out.kept ≡ true)
  pub err : OnErr result (volatile_of new.volatile ≡ volatile_of old.volatile)
  pub catalog : new.catalog ≡ old.catalog
  pub later : new.later.items ≡ old.later.items
