-- Why calls of a database that stands are refused.
use Rattle.std.proofs.Common.{◌≡◌, ◌≢◌, refl, sym, ap, ◌∙◌, subst, ℕ, Bool, true, List, [], ◌⊎◌, inl, inr, ⊎_elim, Option, Some, None, Result, Ok, Err, IfErr, OnErr, false}
use Rattle.std.specs.Option.{option_map}
use Rattle.meaning.specs.declared.schema.RelationSchema.{RelationSchema}
use Rattle.meaning.specs.declared.statement.Statement.{Statement}
use Rattle.reader.specs.declared.command.Command.{Command}
use Rattle.reader.specs.declared.command.Command.TheVariants.{Begin, Commit, Rollback as Rollback_command, Run}
use Rattle.reader.specs.declared.fault.Rule.TheVariants as rules
use Rattle.reader.specs.Breaks.{TextBreaks}
use Rattle.reader.specs.Fault.{Fault}
use Rattle.reader.specs.Command.{IsTextOf, OneCommandOfText}
use Rattle.store.specs.Content.{Content}
use Rattle.store.specs.declared.name.Txn.{Txn}
use Rattle.protocol.specs.Desk.{Commit_call, Deed, Idle, Request, Rollback, State, desk_began, is_desk_within, refusal, refusal_at}
use Rattle.protocol.proofs.Basics.{clash}
use Rattle.protocol.specs.Letters.{txn_name}
use Rattle.desk.specs.declared.refusal.Refusal as refusals
use Rattle.desk.specs.declared.refusal.Refusal.TheVariants as told_as
use Rattle.desk.specs.Request.{refused_as, txn_in}
use Rattle.desk.specs.Database.{Database, language}
use Rattle.desk.specs.Place.{Place}
use Rattle.desk.specs.Does.{IsRefragment, IsUnread, StatesPastLimits}
use Rattle.desk.specs.State.{desk_of}
use Rattle.world.specs.declared.event.Call as calls
use Rattle.world.specs.declared.event.Call.TheVariants as call
use Rattle.world.specs.Counted.{NoFewer}
use Rattle.world.specs.Mailbox.{IsStill}
use Rattle.world.specs.Commands.{IsUnreadable}
use Rattle.world.specs.Course.{IsTurnedDown}
use Rattle.world.specs.Machines.{AreFit, Machines, world_of}
use Rattle.world.specs.Refused.{IsRefused}
use Rattle.world.specs.Smoothly.{IsReady}
use Rattle.world.specs.Stopping.{is_stop}
use Rattle.world.proofs.Counting.{no_fewer}

-- ---- what stops
pub is_memory : (told : refusals.Refusal) → told ≡ told_as.Memory → is_stop told ≡ true
is_memory told memory = ap is_stop memory

pub memory_stops : {P : Type 0} (told : refusals.Refusal) → (told ≡ told_as.Memory) ⊎ P → (is_stop told ≡ true) ⊎ P
memory_stops told (inl memory) = inl (is_memory told memory)
memory_stops told (inr other) = inr other

-- machines that were left as they were
pub as_before : (db : Database) (before after : Machines) → AreFit db before → after ≡ before → IsStill db before after
as_before db before after fit same = record { fit = subst (AreFit db) (sym same) fit; same = ap (λ (m : Machines). world_of db m [] []) same; counts = subst (λ (m : Machines). NoFewer before.refused m.refused) (sym same) (no_fewer before.refused) }

pub still_denied : (db : Database) (before after : Machines) (asked : calls.Call) (told : refusals.Refusal) → AreFit db before → after ≡ before → (told ≡ told_as.Memory) ⊎ IsRefused db before.later before.table asked told → IsTurnedDown db asked before after told
still_denied db before after asked told fit same (inl memory) = inl (is_memory told memory)
still_denied db before after asked told fit same (inr refused) = inr (refused, as_before db before after fit same)

pub if_errs : {T E : Type 0} {P R : E → Type 0} {Q : Type 0} (result : Result T E) → ((e : E) → P e → Q → R e) → IfErr result P → OnErr result Q → IfErr result R
if_errs (Ok x) to p q = tt
if_errs (Err e) to p q = to e p q

-- ---- a ready transaction is refused nothing
at_rest : (db : Database) (fits : Place → Content → Bool) (txn : Txn) (machines : Machines) (past : List (Deed (language db))) (request : Request (language db)) → refusal_at request Idle ≡ None → IsReady db fits (txn_name txn) machines past →
    refusal request (txn_in db machines.table txn) ≡ None
at_rest db fits txn machines past request none ready = ap (refusal request) ready.steady.known ∙ ap (refusal_at request) ready.steady.idle ∙ none

no_refusal : {A B : Type 0} (f : A → B) (found : Option A) (told : B) → found ≡ None → option_map f found ≡ Some told → ⊥
no_refusal f None told none is = cc
no_refusal f (Some x) told none is = cc

module _ (db : Database) (fits : Place → Content → Bool) (txn : Txn) (machines : Machines) (past : List (Deed (language db))) (told : refusals.Refusal) (ready : IsReady db fits (txn_name txn) machines past) where
  pub no_commit : IsRefused db machines.later machines.table (call.Commit txn) told → ⊥
  no_commit refused = no_refusal refused_as (refusal Commit_call (txn_in db machines.table txn)) told (at_rest db fits txn machines past Commit_call refl ready) refused

  pub no_rollback : IsRefused db machines.later machines.table (call.Rollback txn) told → ⊥
  no_rollback refused = no_refusal refused_as (refusal Rollback (txn_in db machines.table txn)) told (at_rest db fits txn machines past Rollback refl ready) refused

module _ (db : Database) (fits : Place → Content → Bool) (one : OneCommandOfText) (text : List ℕ) where
  -- a statement's text is no other command's
  is_read : (statement : Statement) → IsTextOf db.schemas text (Run statement) → (told : refusals.Refusal) → IsUnread db.schemas text told → ⊥
  is_read statement spelled told unread = ⊎_elim
      (λ none. none.1 (Run statement) spelled)
      (λ says. ⊎_elim (λ begins. not_begin (other Begin begins)) (λ ends. ⊎_elim (λ commits. not_commit (other Commit commits)) (λ rolls_back. not_rollback (other Rollback_command rolls_back)) ends) says.1)
      unread.why
    where
      other : (command : Command) → IsTextOf db.schemas text command → Run statement ≡ command
      other command is = one db.schemas text (Run statement) command spelled is

      not_begin : Run statement ≡ Begin → ⊥
      not_begin e = cc

      not_commit : Run statement ≡ Commit → ⊥
      not_commit e = cc

      not_rollback : Run statement ≡ Rollback_command → ⊥
      not_rollback e = cc

  -- where nobody moves, the statement of a ready transaction meets a limit, or is a REFRAGMENT
  pub is_full : (statement : Statement) → IsTextOf db.schemas text (Run statement) → (txn : Txn) (machines : Machines) (past : List (Deed (language db))) (told : refusals.Refusal) → AreFit db machines → IsReady db fits (txn_name txn) machines past →
      IsRefused db machines.later machines.table (call.State txn text) told → IsRefragment db.schemas text told ⊎ ((told ≡ told_as.Full) × StatesPastLimits db machines.table txn text)
  is_full statement spelled txn machines past told fit ready refused = ⊎_elim
      (λ moves. clash moves.1 (fit.still (txn_name txn)))
      (λ why. ⊎_elim
      (λ stays. absurd (no_refusal refused_as (refusal (State (machines.table.version, statement)) (txn_in db machines.table txn)) told (at_rest db fits txn machines past (State (machines.table.version, statement)) refl ready) stays))
      (λ rest. ⊎_elim (⊎_elim (λ unread. absurd (is_read statement spelled told unread)) (λ refragment. inl refragment)) (λ full. inr full) rest.1)
      (why statement))
      refused

-- where nobody moves, nothing begins only at a limit
pub no_room : (db : Database) (machines : Machines) (told : refusals.Refusal) → AreFit db machines → IsRefused db machines.later machines.table call.Begin told → (told ≡ told_as.Full) × (is_desk_within (desk_began (desk_of db machines.table)) ≡ false)
no_room db machines told fit refused = ⊎_elim (λ full. full) (λ moves. clash moves.1.1 (fit.still moves.1.0)) refused

-- ---- a text that is read as no other command's
pub only_memory : (schema : List RelationSchema) (text : List ℕ) (told : refusals.Refusal) → IsUnreadable schema text told → (given : Command) → IsTextOf schema text given → told ≡ told_as.Memory
only_memory schema text told (inl memory) given spelled = memory
only_memory schema text told (inr none) given spelled = absurd (none.none given spelled)

pub unreadable : (schema : List RelationSchema) (text : List ℕ) (fault : Fault) (told : refusals.Refusal) → ((fault.rule ≡ rules.Memory) × (told ≡ told_as.Memory)) ⊎ ((fault.rule ≢ rules.Memory) × (told ≡ told_as.Read fault)) →
    (fault.rule ≢ rules.Memory → (given : Command) → IsTextOf schema text given → ⊥) → (fault.rule ≢ rules.Memory → TextBreaks fault.rule schema text) → IsUnreadable schema text told
unreadable schema text fault told (inl memory) none breaks = inl memory.1
unreadable schema text fault told (inr read) none breaks = inr (record { fault = fault; is = read.1; breaks = breaks read.0; none = none read.0 })
