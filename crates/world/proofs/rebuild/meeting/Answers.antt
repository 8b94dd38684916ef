-- Why `meeting` meets its contract.
use Rattle.std.proofs.Common.{rules}
use Rattle.std.proofs.lemmas.Fn.{filter_same}
use Rattle.terms.specs.Cond.{conds_hold}
use Rattle.world.proofs.rebuild.meeting.Goals as goal

pub returns : goal.returns
returns c = filter_same _ (conds_hold c.args.conds.now) _ (λ x b f' k. search rules) _ _ c.retain.ensures.filtered
