-- What each round of `stated::all_succeed` keeps.
use Rattle.std.proofs.Common.{◌≡◌, drop}
use Rattle.std.specs.List.{list_all}
use Rattle.plan.specs.Picked.{succeeds}
use Rattle.plan.proofs.stated.all_succeed.Given as goal

-- all trials succeed if the rest do
abbrev pub invariant-loop-trial : goal.invariant-loop-trial
invariant-loop-trial l = list_all (succeeds l.leaf) (drop l.trial-index l.trials) ≡ list_all (succeeds l.leaf) l.trials
