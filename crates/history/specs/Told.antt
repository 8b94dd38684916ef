-- What clients were told stands in the coordinator's history.
use Rattle.std.specs.Prelude.{◌≡◌, ◌⊎◌, ℕ, suc, List, [], ◌∷◌, Option, Some, None, slice_get, take, if◌then◌else◌}
use Rattle.std.specs.List.{AllByRecursion}
use Rattle.meaning.specs.declared.schema.RelationSchema.{RelationSchema}
use Rattle.reader.specs.declared.command.Command.TheVariants as command
use Rattle.reader.specs.Command.{IsTextOf}
use Rattle.store.specs.declared.name.Txn.{Txn}
use Rattle.protocol.specs.Parts.{In}
use Rattle.desk.specs.declared.reply.Notice.{Notice}
use Rattle.world.specs.declared.event.Call as calls
use Rattle.world.specs.declared.event.Call.TheVariants as call
use Rattle.world.specs.declared.fault.Fault.{Fault}
use Rattle.world.specs.Replies.{is_txn}
use Rattle.history.specs.declared.entry.Entry.{Entry}
use Rattle.history.specs.declared.entry.Input as inputs
use Rattle.history.specs.declared.entry.Input.TheVariants as input
use Rattle.history.specs.declared.told.Told.{Told}
use Rattle.history.specs.Merge.{Act, Breaks, IsMerged}

-- a reply names the transaction that a call began
abbrev pub begun_by : calls.Call → List Notice → Txn → Option calls.Call
begun_by asked [] txn = None
begun_by asked (notice ∷ notices) txn = if is_txn notice.txn txn then Some asked else begun_by asked notices txn

-- the call, where it is this transaction's
abbrev pub call_of : calls.Call → List Notice → Txn → Option calls.Call
call_of call.Begin notices txn = begun_by call.Begin notices txn
call_of (call.State other text) notices txn = if is_txn other txn then Some (call.State other text) else None
call_of (call.Commit other) notices txn = if is_txn other txn then Some (call.Commit other) else None
call_of (call.Rollback other) notices txn = if is_txn other txn then Some (call.Rollback other) else None
call_of (call.Refragment text) notices txn = begun_by (call.Refragment text) notices txn
call_of (call.GiveUp other) notices txn = if is_txn other txn then Some (call.GiveUp other) else None

abbrev pub call_in : inputs.Input → List Notice → Txn → Option calls.Call
call_in (input.Call asked) notices txn = call_of asked notices txn
call_in (input.Take letter) notices txn = None
call_in (input.GiveUp ticket) notices txn = None
call_in input.Inquire notices txn = None
call_in input.Restart notices txn = None

-- a refused call is none
abbrev pub accepted_in : Option Fault → Entry → Txn → Option calls.Call
accepted_in None entry txn = call_in entry.input entry.replies txn
accepted_in (Some told) entry txn = None

-- the later of two calls, where there is one
abbrev pub later : Option calls.Call → Option calls.Call → Option calls.Call
later (Some new) old = Some new
later None old = old

-- the last accepted call of a transaction's client; so_far: the last one before these entries
abbrev pub last_call : Txn → Option calls.Call → List Entry → Option calls.Call
last_call txn so_far [] = so_far
last_call txn so_far (entry ∷ entries) = last_call txn (later (accepted_in entry.fault entry txn) so_far) entries

-- a call is the one that a text asks for
abbrev pub IsAskedFor : List RelationSchema → List ℕ → calls.Call → Type 0
IsAskedFor schema text call.Begin = IsTextOf schema text command.Begin
IsAskedFor schema text (call.State txn stated) = stated ≡ text
IsAskedFor schema text (call.Commit txn) = IsTextOf schema text command.Commit
IsAskedFor schema text (call.Rollback txn) = IsTextOf schema text command.Rollback
IsAskedFor schema text (call.GiveUp txn) = ⊥
IsAskedFor schema text (call.Refragment asked) = asked ≡ text

-- what a client was told stands in the history: the entry of that number put that reply out, to a transaction whose client's last accepted call up to there is the one that the text asks for
pub record StandsAt (schema : List RelationSchema) (entries : List Entry) (told : Told) (place : ℕ) : Type 0 where
  pub entry : Entry
  pub there : slice_get entries place ≡ Some entry
  pub number : entry.number ≡ told.number
  pub txn : Txn
  pub heard : In (record { txn = txn; reply = told.reply }) entry.replies
  pub call : calls.Call
  pub last : last_call txn None (take (suc place) entries) ≡ Some call
  pub asked : IsAskedFor schema told.text call

abbrev pub Stands : List RelationSchema → List Entry → Told → Type 0
Stands schema entries told = (place : ℕ) × StandsAt schema entries told place

-- lists told stand in the history: the numbers of each ascend, none stands twice, and each that was told stands there
pub record AllStand (schema : List RelationSchema) (entries : List Entry) (lists : List (List Told)) : Type 0 where
  pub acts : List (Act Told)
  pub merged : IsMerged (λ (told : Told). told.number) lists acts
  pub each : AllByRecursion (λ (list : List Told). AllByRecursion (Stands schema entries) list) lists

-- what was told under a number doesn't stand in the history, or the numbers are out of order there
pub record IsNotStanding (schema : List RelationSchema) (entries : List Entry) (lists : List (List Told)) (k : ℕ) : Type 0 where
  pub list : List Told
  pub in_lists : In list lists
  pub told : Told
  pub in_list : In told list
  pub number : told.number ≡ k
  pub nowhere : Stands schema entries told → ⊥

abbrev pub IsNotTold : List RelationSchema → List Entry → List (List Told) → ℕ → Type 0
IsNotTold schema entries lists k = Breaks (λ (told : Told). told.number) lists k ⊎ IsNotStanding schema entries lists k
