-- Why `keep_waiting` meets its contract.
use Rattle.std.proofs.Common.{rules}
use Rattle.std.proofs.lemmas.Fn.{filter_same}
use Rattle.desk.specs.Send.{waits_in}
use Rattle.desk.proofs.send.keep_waiting.Goals as goal

pub returns : goal.returns
returns c = filter_same _ (waits_in c.args.participants.now) _ (λ x b f' k. search rules) _ _ c.retain.ensures.filtered
