-- The work of a transaction ends, before its first phase or in it.
use Rattle.std.proofs.Common.{◌≡◌, refl, sym, subst, true, false, List, Option, Result, IfOk}
use Rattle.store.specs.declared.name.Txn.{Txn}
use Rattle.protocol.specs.Desk as desk
use Rattle.protocol.specs.Language.{Name}
use Rattle.protocol.specs.Letters.{txn_name}
use Rattle.desk.specs.declared.participant.Participant.{Participant}
use Rattle.desk.specs.declared.transaction.TxnState.{TxnState}
use Rattle.desk.specs.declared.transition.Transition.{Transition}
use Rattle.desk.specs.declared.transaction.Stage.{Stage}
use Rattle.desk.specs.declared.transaction.Stage.TheVariants as stage
use Rattle.desk.specs.declared.transaction.Undecided.{Undecided}
use Rattle.desk.specs.Database.{Database, language}
use Rattle.desk.specs.Orders.{is_voting}
use Rattle.desk.specs.Transaction.{stage_of, undecided_of}
use Rattle.desk.specs.Transition.{AreParticipants, IsTransition}

module _ (db : Database) (t : Name) (u : desk.Undecided (language db)) (participants : List Participant) where
  pub late_rollback : (st : Stage) → is_voting st ≡ true → desk.on_rollback {L = language db} t u (stage_of db participants st) ≡ desk.stays (desk.Known u)
  late_rollback stage.Idle e = cc
  late_rollback (stage.Reading r) e = cc
  late_rollback (stage.Writing w) e = cc
  late_rollback stage.Voting e = refl

  pub early_rollback : (st : Stage) → is_voting st ≡ false → desk.on_rollback {L = language db} t u (stage_of db participants st) ≡ desk.ends_by t u (desk.Rolled_back t)
  early_rollback stage.Idle e = refl
  early_rollback (stage.Reading r) e = refl
  early_rollback (stage.Writing w) e = refl
  early_rollback stage.Voting e = cc

  pub late_refusal : (st : Stage) → is_voting st ≡ true → desk.on_refused {L = language db} t u (stage_of db participants st) ≡ desk.stays (desk.Known u)
  late_refusal stage.Idle e = cc
  late_refusal (stage.Reading r) e = cc
  late_refusal (stage.Writing w) e = cc
  late_refusal stage.Voting e = refl

  pub early_refusal : (st : Stage) → is_voting st ≡ false → desk.on_refused {L = language db} t u (stage_of db participants st) ≡ desk.ends_by t u (desk.Aborted t desk.By_refusal)
  early_refusal stage.Idle e = refl
  early_refusal (stage.Reading r) e = refl
  early_refusal (stage.Writing w) e = refl
  early_refusal stage.Voting e = cc

-- a transaction ends, whatever rule ends it
pub ends_as : (db : Database) (txn : Txn) (old : Option TxnState) (u : Undecided) (participants : List Participant) (deed : desk.Deed (language db)) (wanted : desk.Transition (language db)) → {E : Type 0} (result : Result Transition E) → participants ≡ u.participants → AreParticipants db u.participants →
    wanted ≡ desk.ends_by (txn_name txn) (undecided_of db u) deed → (AreParticipants db participants → IfOk result (λ turn. IsTransition db txn old turn (desk.ends_by (txn_name txn) (undecided_of db (record { participants = participants; stage = u.stage; moves = u.moves })) deed))) →
    IfOk result (λ turn. IsTransition db txn old turn wanted)
ends_as db txn old u participants deed wanted result same are is ends =
    subst (λ w. IfOk result (λ turn. IsTransition db txn old turn w)) (sym is)
    (subst (λ ss. (AreParticipants db ss → IfOk result (λ turn. IsTransition db txn old turn (desk.ends_by (txn_name txn) (undecided_of db (record { participants = ss; stage = u.stage; moves = u.moves })) deed)))) same ends are)
