-- An event as what is done at a site, and a refusal of the coordinator as a world tells it.
use Rattle.std.specs.Prelude.{◌≡◌, Bool, false, Result, Ok, Err}
use Rattle.desk.specs.declared.refusal.Refusal.{Refusal}
use Rattle.desk.specs.declared.reply.Out.{Out}
use Rattle.world.specs.declared.sites.SiteAction as doing
use Rattle.world.specs.declared.sites.SiteAction.TheVariants.{GiveUp, Inquire, Restart, Take}
use Rattle.world.specs.declared.event.Event as events
use Rattle.world.specs.declared.event.Event.TheVariants as event
use Rattle.world.specs.declared.fault.Fault as faults
use Rattle.world.specs.declared.fault.Fault.TheVariants.{Desk}

abbrev pub told_by_desk : Result Out Refusal → Result Out faults.Fault
told_by_desk (Ok out) = Ok out
told_by_desk (Err refusal) = Err (Desk refusal)

-- the event is what is done there, no letter; kept: whether the store call that a restart makes is to be kept
abbrev pub IsAtSite : doing.SiteAction → Bool → events.Event → Type 0
IsAtSite (Take letter) kept at = ⊥
IsAtSite (GiveUp site ticket) kept at = at ≡ event.SiteGivesUp site ticket
IsAtSite (Inquire site) kept at = at ≡ event.SiteInquires site
IsAtSite (Restart site) kept at = at ≡ event.SiteRestarts site kept

-- whether what is done at a site may call its store; kept: whether the call is to be made
abbrev pub may_call_at : doing.SiteAction → Bool → Bool
may_call_at (Take letter) kept = kept
may_call_at (GiveUp site ticket) kept = false
may_call_at (Inquire site) kept = false
may_call_at (Restart site) kept = kept

-- whether an event may call a store: a delivery or a restart whose flag says so
abbrev pub may_call : events.Event → Bool
may_call (event.Call asked) = false
may_call (event.Deliver number kept) = kept
may_call (event.SiteGivesUp site ticket) = false
may_call (event.SiteInquires site) = false
may_call (event.SiteRestarts site kept) = kept
may_call (event.DeskRestarts kept) = kept
