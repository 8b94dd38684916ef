-- Why an event is refused: a call of a client by the coordinator, a letter by its machine, a restart by the machine or its store.
pub use Rattle.site.specs.Seat.{SiteRestartTells}
pub use Rattle.desk.specs.Recovery.{DeskRestartTells}
use Rattle.std.specs.Prelude.{◌≡◌, ◌≢◌, ◌⊎◌, ⊤, ℕ, Bool, false, true, List, [], Some, None, IfSome, slice_get}
use Rattle.std.specs.Option.{option_map}
use Rattle.catalog.specs.declared.relation.SplitRelation.{SplitRelation}
use Rattle.store.specs.declared.letter.Letter.{Letter}
use Rattle.site.specs.declared.fault.SiteFault as site_faults
use Rattle.site.specs.declared.fault.SiteFault.TheVariants as site_fault
use Rattle.meaning.specs.declared.statement.Statement.{Statement}
use Rattle.protocol.specs.Desk.{Commit_call, Rollback, State, began_as, desk_began, is_desk_within, is_moving, refusal}
use Rattle.protocol.specs.Language.{Name}
use Rattle.desk.specs.declared.refusal.Refusal as refusals
use Rattle.desk.specs.declared.refusal.Refusal.TheVariants as refusal_of
use Rattle.desk.specs.declared.refusal.Refusal.TheVariants.{Full}
use Rattle.desk.specs.Request.{refused_as, txn_in}
use Rattle.desk.specs.Database.{Database}
use Rattle.desk.specs.Does.{IsNoStatement, StatesPastLimits}
use Rattle.desk.specs.OfCatalogue.{first_in}
use Rattle.desk.specs.Refragmented.{FindsNoNext, IsNoRefragment}
use Rattle.desk.specs.State.{VolatileState, desk_of}
use Rattle.world.specs.declared.sites.SiteAction as doing
use Rattle.world.specs.declared.sites.SiteAction.TheVariants as things
use Rattle.world.specs.declared.event.Call as calls
use Rattle.world.specs.declared.event.Call.TheVariants as call
use Rattle.world.specs.declared.event.Entry.{Entry}
use Rattle.world.specs.declared.event.Event as events
use Rattle.world.specs.declared.event.Event.TheVariants as event
use Rattle.world.specs.declared.fault.Fault as faults
use Rattle.world.specs.declared.fault.Fault.TheVariants as fault
use Rattle.world.specs.Counted.{HaveRefused}
use Rattle.world.specs.Events.{is_unsent}
use Rattle.world.specs.Machines.{Machines}
use Rattle.world.specs.Posted.{letters_in}
use Rattle.world.specs.Reasons.{Tells}
use Rattle.world.specs.Sites.{Seat, seat_of}
use Rattle.world.specs.Stopping.{StopsFor}
use Rattle.world.specs.Taking.{stop_of}

-- want of memory aside: as the protocol refuses it of this coordinator, the limits on beginnings among that, or a statement's text is read as no statement's, or leads past a limit; a transaction gives a relation
-- another split, so that no other begins, and it states nothing more; a REFRAGMENT isn't alone, or no catalogue comes next by its relation. later: the catalogues that come after the one in force
abbrev pub IsRefused : (db : Database) → List (List (List ℕ) × List SplitRelation) → VolatileState → calls.Call → refusals.Refusal → Type 0
IsRefused db later table call.Begin told = ((told ≡ Full) × (is_desk_within (desk_began (desk_of db table)) ≡ false)) ⊎ ((told ≡ refusal_of.NotAlone) × ((t : Name) × (is_moving ((desk_of db table).txn t) ≡ true)))
IsRefused db later table (call.State txn text) told = ((told ≡ refusal_of.Busy) × (is_moving (txn_in db table txn) ≡ true)) ⊎ ((statement : Statement) → (option_map refused_as (refusal (State (table.version, statement)) (txn_in db table txn)) ≡ Some told) ⊎
    ((refusal (State (table.version, statement)) (txn_in db table txn) ≡ None) × (IsNoStatement db.schemas text told ⊎ ((told ≡ Full) × StatesPastLimits db table txn text))))
IsRefused db later table (call.Commit txn) told = option_map refused_as (refusal Commit_call (txn_in db table txn)) ≡ Some told
IsRefused db later table (call.Rollback txn) told = option_map refused_as (refusal Rollback (txn_in db table txn)) ≡ Some told
IsRefused db later table (call.GiveUp txn) told = ⊥
IsRefused db later table (call.Refragment text) told = ((told ≡ refusal_of.NotAlone) × (table.txns ≢ [])) ⊎ ((told ≡ refusal_of.NoNext) × FindsNoNext (db.catalogue table.version) db.schemas (first_in later) text)
    ⊎ ((told ≡ Full) × (is_desk_within (began_as true (desk_of db table)) ≡ false)) ⊎ IsNoRefragment db.schemas text told

-- why something isn't done at a site: giving up a visit never fails, and inquiries need memory alone; of letters nothing is said here
abbrev pub PlaceTells : (Sound Refused : Type 0) → doing.SiteAction → Bool → Seat → site_faults.SiteFault → Type 0
PlaceTells Sound Refused (things.Take letter) kept seat told = ⊤
PlaceTells Sound Refused (things.GiveUp place ticket) kept seat told = ⊥
PlaceTells Sound Refused (things.Inquire place) kept seat told = told ≡ site_fault.Memory
PlaceTells Sound Refused (things.Restart place) kept seat told = SiteRestartTells Sound Refused kept seat told

-- The reason of an event's own kind for its refusal. A letter's machine says why it isn't taken, and names its store only where that refused or wasn't to be called (kept is false)
abbrev pub HasOwnReason : (Sound : Type 0) (db : Database) (before after : Machines) → List Entry → events.Event → faults.Fault → Type 0
HasOwnReason Sound db before after entries (event.Call asked) told = (refused : refusals.Refusal) × ((told ≡ fault.Desk refused) × IsRefused db before.later before.table asked refused)
HasOwnReason Sound db before after entries (event.Deliver number kept) told =
    (letter : Letter) × (slice_get (letters_in entries) number ≡ Some letter) × Tells db before letter told × (Sound → (kept ≡ false) ⊎ IfSome (stop_of told) (StopsFor before.refused after.refused))
HasOwnReason Sound db before after entries (event.SiteGivesUp place ticket) told = ⊥
HasOwnReason Sound db before after entries (event.SiteInquires place) told = told ≡ fault.Site site_fault.Memory
HasOwnReason Sound db before after entries (event.SiteRestarts place kept) told =
    (seat : Seat) × (seat_of place before.seats ≡ Some seat) × (why : site_faults.SiteFault) × (told ≡ fault.Site why) × SiteRestartTells Sound (HaveRefused before.refused after.refused) kept seat why
HasOwnReason Sound db before after entries (event.DeskRestarts kept) told = (why : refusals.Refusal) × ((told ≡ fault.Desk why) × DeskRestartTells Sound (HaveRefused before.refused after.refused) kept db.sites before.desk why)

-- Why an event is refused, by machines that were these, and count refusals now as these do: memory ran out, there is no such letter or site, or the reason is of its kind.
-- Sound: that stores are clean now and were sound
abbrev pub IsRefusedFor : (Sound : Type 0) (db : Database) (before after : Machines) → List Entry → events.Event → faults.Fault → Type 0
IsRefusedFor Sound db before after entries what told =
    (told ≡ fault.Desk refusal_of.Memory) ⊎ (((told ≡ fault.Unsent) × (is_unsent db.sites entries what ≡ true)) ⊎ HasOwnReason Sound db before after entries what told)
