-- What a call of the coordinator leaves behind its lock, and the replies that are handed out.
use Rattle.std.specs.Prelude.{◌≡◌, ◌⊎◌, List, [], Option, All, IfSome}
use Rattle.store.specs.declared.name.Txn.{Txn}
use Rattle.store.specs.DeskContent.{DeskContent}
use Rattle.protocol.specs.Parts.{In}
use Rattle.desk.specs.declared.reply.Notice.{Notice}
use Rattle.world.specs.declared.event.Call.TheVariants as call
use Rattle.world.specs.declared.fault.Fault.{Fault}
use Rattle.history.specs.declared.entry.Entry.{Entry}
use Rattle.history.specs.declared.entry.Input as inputs
use Rattle.history.specs.declared.entry.Input.TheVariants as input
use Rattle.history.specs.DeskHistory.{AddsDesk, DeskHistory, StaysDesk}
use Rattle.wire.specs.declared.front.Done.{Done}
use Rattle.wire.specs.declared.front.Errand as errands
use Rattle.wire.specs.declared.front.Errand.TheVariants as errand
use Rattle.wire.specs.declared.seat.Given.{Given}

-- what the coordinator is called for, as an entry has it
abbrev pub input_of : errands.Errand → inputs.Input
input_of errand.Begin = input.Call call.Begin
input_of (errand.Refragment text) = input.Call (call.Refragment text.now)
input_of (errand.State txn text) = input.Call (call.State txn text.now)
input_of (errand.Commit txn) = input.Call (call.Commit txn)
input_of (errand.Rollback txn) = input.Call (call.Rollback txn)
input_of (errand.GiveUp txn) = input.Call (call.GiveUp txn)
input_of (errand.Take letter) = input.Take letter.now

-- a reply that is handed out is one of an entry's, under its number; there may be no memory for its copy
pub record IsOf (entry : Entry) (given : Given) : Type 0 where
  pub number : given.number ≡ entry.number
  pub notice : Notice
  pub there : In notice entry.replies
  pub txn : given.txn ≡ notice.txn
  pub reply : IfSome given.reply (λ reply. reply ≡ notice.reply)

module _ {D : Type 0} (is_clean : D → Type 0) (content : D → DeskContent) where
  -- the coordinator was called for this: one entry says so, which has this fault or none, and these of its replies are handed out
  pub record IsCalled (asked : inputs.Input) (fault : Option Fault) (old new : DeskHistory D) (given : List Given) : Type 0 where
    pub entry : Entry
    pub adds : AddsDesk is_clean content old asked entry new
    pub fault_is : fault ≡ entry.fault
    pub given_of : All (IsOf entry) given

  -- a transaction is given up, a letter of which was lost; for want of memory it isn't
  abbrev pub IsGivenUp : DeskHistory D → DeskHistory D → List Given → Type 0
  IsGivenUp old new given = ((given ≡ []) × StaysDesk is_clean content old new) ⊎ ((txn : Txn) × (fault : Option Fault) × IsCalled (input.Call (call.GiveUp txn)) fault old new given)

  -- so where a letter was lost; else nothing happens
  abbrev pub MayGiveUp : DeskHistory D → DeskHistory D → List Given → Type 0
  MayGiveUp old new given = ((new ≡ old) × (given ≡ [])) ⊎ IsGivenUp old new given

  -- one entry says that the coordinator was called for this, and another one may say that a transaction was given up
  pub record IsDone (asked : inputs.Input) (done : Done) (old new : DeskHistory D) : Type 0 where
    pub between : DeskHistory D
    pub called : IsCalled asked done.fault old between done.given.items
    pub rest : MayGiveUp between new done.given_up.items
