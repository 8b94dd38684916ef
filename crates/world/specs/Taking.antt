-- One letter of one client's machines.
use Rattle.std.specs.Prelude.{◌≡◌, ◌⊎◌, ℕ, Bool, true, false, List, [], map, Option, Some, None}
use Rattle.site.specs.declared.fault.SiteFault.TheVariants as site_faults
use Rattle.store.specs.declared.letter.Letter as letters
use Rattle.protocol.specs.Rounds.{InRound}
use Rattle.protocol.specs.World.{World}
use Rattle.desk.specs.declared.refusal.Refusal.{Refusal}
use Rattle.desk.specs.declared.refusal.Refusal.TheVariants as refusals
use Rattle.desk.specs.declared.reply.Notice.{Notice}
use Rattle.desk.specs.declared.reply.Out.{Out}
use Rattle.desk.specs.Database.{Database, language, sent}
use Rattle.world.specs.declared.mailbox.Post.{Post}
use Rattle.world.specs.declared.fault.Fault.{Fault}
use Rattle.world.specs.declared.fault.Fault.TheVariants.{Desk, Site, Unsent}
use Rattle.world.specs.Mailbox.{Coming, Scene, done_with}
use Rattle.world.specs.Counted.{HaveRefused, NoFewer}
use Rattle.protocol.specs.Delivery.{CallKept, IsKept}
use Rattle.world.specs.Listed.{ListCame, ListLeads}
use Rattle.world.specs.Machines.{Came, Leads, Machines, world_of}
use Rattle.world.specs.Reasons.{HasReason}

-- the refusal that stops one client's machines, if the fault is one that does
abbrev pub stop_of : Fault → Option Refusal
stop_of (Desk refusals.NoTransaction) = None
stop_of (Desk refusals.Busy) = None
stop_of (Desk refusals.Ended) = None
stop_of (Desk refusals.Full) = None
stop_of (Desk (refusals.Read fault)) = None
stop_of (Desk (refusals.Aborted why)) = None
stop_of (Desk refusals.Memory) = Some refusals.Memory
stop_of (Desk (refusals.Store fault)) = Some (refusals.Store fault)
stop_of (Desk refusals.NotAlone) = None
stop_of (Desk refusals.NoNext) = None
stop_of (Desk refusals.Chain) = None
stop_of (Site site_faults.Memory) = Some refusals.Memory
stop_of (Site (site_faults.Store fault)) = Some (refusals.Store fault)
stop_of (Site site_faults.Full) = None
stop_of (Site site_faults.Stranger) = None
stop_of Unsent = None

-- machines, and the post of the code
abbrev pub scene : Machines → Post → Scene
scene machines post = record { machines = machines; waiting = post.waiting.items; heard = post.heard.items }

-- machines that have just put something out
abbrev pub put_out_by : Machines → Out → Scene
put_out_by machines out = record { machines = machines; waiting = out.letters; heard = out.replies }

-- its world; what happened before doesn't matter to ranks
abbrev pub world_at : (db : Database) → Scene → World (language db)
world_at db here = world_of db here.machines (map (sent db) here.waiting) []

-- the first i letters that wait are those of the round, and what they bring about ranks at most n
abbrev pub IsInRound : Database → ℕ → ℕ → Scene → Type 0
IsInRound db n i here = InRound (world_at db here).desk.txn n i (world_at db here).letters

-- whether a letter is turned away: a machine is at a limit, or a site doesn't have the leaf
abbrev pub is_full_desk : Refusal → Bool
is_full_desk refusals.NoTransaction = false
is_full_desk refusals.Busy = false
is_full_desk refusals.Ended = false
is_full_desk refusals.Full = true
is_full_desk (refusals.Read fault) = false
is_full_desk (refusals.Aborted why) = false
is_full_desk refusals.Memory = false
is_full_desk (refusals.Store fault) = false
is_full_desk refusals.NotAlone = false
is_full_desk refusals.NoNext = false
is_full_desk refusals.Chain = false

abbrev pub turns_away : Fault → Bool
turns_away (Desk refusal) = is_full_desk refusal
turns_away (Site site_faults.Memory) = false
turns_away (Site (site_faults.Store fault)) = false
turns_away (Site site_faults.Full) = true
turns_away (Site site_faults.Stranger) = true
turns_away Unsent = false

-- a letter comes so; its store call is kept, and a Fetch's, a Commit's or an Abort's always is, unless this is so. Comes: how, by whether the call is kept
pub record CameUnlessBy (Refused : Type 0) (db : Database) (letter : letters.Letter) (Comes : Bool → Type 0) : Type 0 where
  pub kept : Bool
  pub came : Comes kept
  pub ends : CallKept kept (sent db letter).body
  pub spared : (kept ≡ true) ⊎ Refused

-- it comes to the machine that it is for, and its step is within the limits
abbrev pub CameUnless : Type 0 → (db : Database) → letters.Letter → Machines → Machines → List letters.Letter → List Notice → Type 0
CameUnless Refused db letter before after out notices = CameUnlessBy Refused db letter (λ kept. Came db letter kept before after out notices)

-- so whichever catalogue comes into force
abbrev pub ListCameUnless : Type 0 → (db : Database) → letters.Letter → Machines → Machines → List letters.Letter → List Notice → Type 0
ListCameUnless Refused db letter before after out notices = CameUnlessBy Refused db letter (λ kept. ListCame db letter kept before after out notices)

-- something becomes of a letter, and for a reason; its store call is kept, unless a store has refused
pub record IsDone (db : Database) (letter : letters.Letter) (before after : Machines) (out : List letters.Letter) (notices : List Notice) : Type 0 where
  pub coming : Coming (language db)
  pub reason : HasReason db before letter coming
  pub leads : Leads db (done_with (sent db letter) coming) before after out notices
  pub counts : NoFewer before.refused after.refused
  pub kept : IsKept coming ⊎ HaveRefused before.refused after.refused

-- something becomes of a letter, and for a reason, whichever catalogue comes into force
pub record ListIsDone (db : Database) (letter : letters.Letter) (before after : Machines) (out : List letters.Letter) (notices : List Notice) : Type 0 where
  pub coming : Coming (language db)
  pub reason : HasReason db before letter coming
  pub leads : ListLeads db (done_with (sent db letter) coming) before after out notices
