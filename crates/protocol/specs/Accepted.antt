-- Which statements and events are accepted, and the invariant that holds in each world.
use Rattle.std.specs.Prelude.{◌≡◌, true, List, [], ◌∷◌, None, Some, slice_get}
use Rattle.std.specs.List.{flat_map}
use Rattle.protocol.specs.Applied.{AppliesOnce}
use Rattle.protocol.specs.Desk.{Deed, Stated, desk_after, desk_began, is_desk_within, next_txn, on_request, refusal}
use Rattle.protocol.specs.Language.{Lang, Name}
use Rattle.protocol.specs.Letter.{Letter}
use Rattle.protocol.specs.Parts.{AreApart, Counts, Line, operations, works}
use Rattle.protocol.specs.Serial.{is_committed, phases_of, settled}
use Rattle.protocol.specs.StatementCourse.{passes}
use Rattle.protocol.specs.World as world
use Rattle.protocol.specs.World.{Event, World, begun, first_turn, is_site, may_ask, may_begin, may_move}

-- an event is accepted in a world: a call of a client may be made and isn't refused, and its step is within the limits; a letter was sent, and its step is within them; there is a site of the name; and a restart is kept
abbrev pub IsAccepted : {L : Lang} → World L → Event L → Type 0
IsAccepted w world.Begin = (may_begin w ≡ true) × (is_desk_within (desk_began w.desk) ≡ true)
IsAccepted w (world.Refragment s choice) = (may_move w s ≡ true) × (is_desk_within (begun true w).desk ≡ true) × (is_desk_within (desk_after (begun true w).desk (next_txn w.desk) (first_turn w s choice).txn) ≡ true)
IsAccepted w (world.Call t request choice) = (may_ask w t request ≡ true) × (refusal request (w.desk.txn t) ≡ None) × (is_desk_within (desk_after w.desk t (on_request t choice request (w.desk.txn t)).txn) ≡ true)
IsAccepted {L} w (world.Deliver n kept choice) = (l : Letter L) × ((slice_get w.letters n ≡ Some l) × (passes w kept choice l ≡ true))
IsAccepted {L} w (world.Site_gives_up a k) = is_site L a L.sites ≡ true
IsAccepted {L} w (world.Site_inquires a) = is_site L a L.sites ≡ true
IsAccepted {L} w (world.Site_restarts a kept) = (is_site L a L.sites ≡ true) × (kept ≡ true)
IsAccepted w (world.Desk_restarts kept) = kept ≡ true

-- the line of the commits: each transaction that is committed, or still can be, has read the contents after the committed ones before it, with its own earlier writes, and the settled contents are those after all committed ones
abbrev pub IsInLine : {L : Lang} → L.Whole → World L → Type 0
IsInLine {L} whole w = Line (works w.past) (is_committed w.past) (Counts (operations w.letters) w) (settled w) (λ g. L.content g whole) (phases_of w.past)

-- The invariant of the protocol, in one world. apart: only a transaction that is viable is committed next, what a viable one writes nobody else
-- has a lock on, and no later one that counts reads; line: the line of the commits; applied: the commit row stays until each voter has applied, no Abort
-- goes to one, and a ticket that was acknowledged is gone.
pub record Holds {L : Lang} (whole : L.Whole) (w : World L) : Type 0 where
  pub apart : AreApart w
  pub line : IsInLine whole w
  pub applied : AppliesOnce w

-- the statement that a deed accepts, and the accepted statements, oldest first
abbrev pub stated_by : {L : Lang} → Deed L → List (Name × L.Statement)
stated_by (Stated t s) = (t, s) ∷ []
stated_by deed = []

abbrev pub stated_of : {L : Lang} → List (Deed L) → List (Name × L.Statement)
stated_of past = flat_map stated_by past
