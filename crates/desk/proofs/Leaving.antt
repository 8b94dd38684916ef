-- Steps of an undecided transaction that call no store.
use Rattle.std.proofs.Common.{◌≡◌, sym, ap, ◌∙◌, subst, true, false, Option, Some, None, Result, Ok, Err, IfOk}
use Rattle.terms.specs.declared.memory.Memory.{Memory}
use Rattle.desk.specs.declared.reply.Reply.{Reply}
use Rattle.desk.specs.declared.transaction.TxnState.TheVariants as standing
use Rattle.desk.specs.declared.transaction.Undecided.{Undecided}
use Rattle.desk.specs.declared.transition.After.TheVariants.{Ends, Stays}
use Rattle.desk.specs.declared.transition.Transition.{Transition}
use Rattle.store.specs.declared.name.Txn.{Txn}
use Rattle.store.specs.DeskContent.{DeskContent}
use Rattle.desk.specs.Acknowledge.{Keeps, kept_voters}
use Rattle.desk.specs.Frame.{LeavesNoRow, LeavesStanding}
use Rattle.desk.specs.Participants.{sites_of}
use Rattle.desk.specs.Transition.{AtSites, after_of, raises, says_committed}
use Rattle.desk.proofs.Acknowledged.{keeps_same, unchanged}
use Rattle.desk.proofs.Raised.{quiet_is}

-- one by which it ends
pub leaves_ended : (u : Undecided) (said : Option Reply) (result : Result Transition Memory) → says_committed said ≡ false → IfOk result (λ turn. turn.after ≡ Ends) → IfOk result (λ turn. turn.kept ≡ true) → IfOk result (λ turn. turn.reply ≡ said) → LeavesNoRow u result
leaves_ended u said (Ok turn) quiet ends kept is = record {
  quiet = quiet_is (Some (standing.Undecided u)) turn.reply (ap says_committed is ∙ quiet);
  sites = subst (AtSites (sites_of u.participants)) (sym ends) tt;
  keeps = ap (λ a. kept_voters (after_of (Some (standing.Undecided u)) a)) ends;
  kept = kept;
}
leaves_ended u said (Err e) quiet ends kept is = record { quiet = tt; sites = tt; keeps = tt; kept = tt }

-- one by which nothing happens
pub leaves_still : (u : Undecided) (turn : Transition) → turn.after ≡ Stays → turn.kept ≡ true → turn.reply ≡ None → LeavesNoRow u (Ok turn)
leaves_still u turn stays kept none = record {
  quiet = quiet_is (Some (standing.Undecided u)) turn.reply (ap says_committed none);
  sites = subst (AtSites (sites_of u.participants)) (sym stays) tt;
  keeps = ap (λ a. kept_voters (after_of (Some (standing.Undecided u)) a)) stays;
  kept = kept;
}

-- one that leaves what stands there
pub leaves_standing : (u : Undecided) (result : Result Transition Memory) → LeavesStanding result → LeavesNoRow u result
leaves_standing u (Ok turn) leaves = record {
  quiet = quiet_is (Some (standing.Undecided u)) turn.reply leaves.quiet;
  sites = subst (AtSites (sites_of u.participants)) (sym leaves.after) tt;
  keeps = ap (λ a. kept_voters (after_of (Some (standing.Undecided u)) a)) leaves.after;
  kept = leaves.kept;
}
leaves_standing u (Err e) leaves = record { quiet = tt; sites = tt; keeps = tt; kept = tt }

-- so the store keeps what it kept
pub no_row_keeps : (u : Undecided) (txn : Txn) (kept : DeskContent) → kept.commits txn ≡ None → (result : Result Transition Memory) → LeavesNoRow u result
    → IfOk result (λ turn. Keeps txn (kept_voters (after_of (Some (standing.Undecided u)) turn.after)) (raises (Some (standing.Undecided u)) turn.reply) kept kept)
no_row_keeps u txn kept none (Ok turn) leaves = subst (λ vs. Keeps txn vs (raises (Some (standing.Undecided u)) turn.reply) kept kept) (sym leaves.keeps) (keeps_same txn None _ kept kept leaves.quiet none (unchanged kept))
no_row_keeps u txn kept none (Err e) leaves = tt
