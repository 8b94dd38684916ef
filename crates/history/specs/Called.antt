-- What a call of a machine's cell answers, and what it leaves.
use Rattle.std.specs.Prelude.{Result, Ok, Err}
use Rattle.std.specs.Borrow.{Bor}
use Rattle.terms.specs.declared.memory.Memory.{Memory}
use Rattle.store.specs.DeskContent.{DeskContent}
use Rattle.store.specs.SiteContent.{SiteContent}
use Rattle.history.specs.declared.entry.Entry.{Entry}
use Rattle.history.specs.declared.entry.Input.{Input}
use Rattle.history.specs.DeskHistory.{AddsDesk, DeskHistory, StaysDesk}
use Rattle.history.specs.SiteHistory.{AddsSite, SiteHistory, StaysSite}

-- a site was called for this: its entry is answered, and is the last one; for want of memory there is none, and nothing has changed
abbrev pub SiteCalled : {S : Type 0} → (S → Type 0) → (S → SiteContent) → Input → Result (Bor Entry) Memory → SiteHistory S → SiteHistory S → Type 0
SiteCalled is_clean content asked (Ok entry) old new = AddsSite is_clean content old asked entry.now new
SiteCalled is_clean content asked (Err memory) old new = StaysSite is_clean content old new

-- so where the coordinator was
abbrev pub DeskCalled : {D : Type 0} → (D → Type 0) → (D → DeskContent) → Input → Result (Bor Entry) Memory → DeskHistory D → DeskHistory D → Type 0
DeskCalled is_clean content asked (Ok entry) old new = AddsDesk is_clean content old asked entry.now new
DeskCalled is_clean content asked (Err memory) old new = StaysDesk is_clean content old new
