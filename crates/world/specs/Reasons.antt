-- Why a letter isn't taken: its step leads past a limit, no catalogue has the leaf at its site, or there is no such site.
pub use Rattle.site.specs.Seat.{SiteTells}
use Rattle.std.specs.Prelude.{◌≡◌, ◌⊎◌, true, false, [], Some}
use Rattle.store.specs.declared.letter.Letter as letters
use Rattle.protocol.specs.Delivery.{CallKept, Coming, IsAtLimit, Passed_over, Taken, Turned_away}
use Rattle.protocol.specs.Home.{IsHomed}
use Rattle.protocol.specs.StatementCourse.{passes}
use Rattle.desk.specs.declared.refusal.Refusal.TheVariants as refusal
use Rattle.desk.specs.Database.{Database, IsPlace, language, sent}
use Rattle.world.specs.declared.fault.Fault as faults
use Rattle.world.specs.declared.fault.Fault.TheVariants as fault
use Rattle.world.specs.Machines.{Machines, world_of}
use Rattle.world.specs.Sites.{Seat, has_site, seat_of}

-- ---- what a machine tells
-- why no machine takes a letter: a site's reason; the coordinator's, want of memory or a step that leads past a limit, said of the protocol's world alone; or that there is no such site
abbrev pub Tells : Database → Machines → letters.Letter → faults.Fault → Type 0
Tells db machines letter (fault.Desk told) = (told ≡ refusal.Memory) ⊎ ((told ≡ refusal.Full) × IsAtLimit (world_of db machines [] []) (sent db letter))
Tells db machines letter (fault.Site told) = (seat : Seat) × ((seat_of letter.site machines.seats ≡ Some seat) × SiteTells seat letter told)
Tells db machines letter fault.Unsent = has_site db.sites letter.site ≡ false

-- ---- what becomes of a letter
-- a letter is turned away: its step leads past a limit, or its operation is of a leaf that no catalogue has at its site
abbrev pub TurnsAway : Database → Machines → letters.Letter → Type 0
TurnsAway db machines letter = IsAtLimit (world_of db machines [] []) (sent db letter) ⊎ (IsHomed (language db) (IsPlace db) (sent db letter) → ⊥)

-- what becomes of any letter has its reason
abbrev pub HasReason : (db : Database) → Machines → letters.Letter → Coming (language db) → Type 0
HasReason db machines letter (Taken kept choice) = (passes (world_of db machines [] []) kept choice (sent db letter) ≡ true) × CallKept kept (sent db letter).body
HasReason db machines letter (Turned_away choice) = TurnsAway db machines letter
HasReason db machines letter Passed_over = has_site db.sites letter.site ≡ false
