-- Why `ends` meets its contract.
use Rattle.std.proofs.Common.{rules}
use Rattle.std.proofs.lemmas.Fn.{filter_same}
use Rattle.world.specs.Client.{is_end}
use Rattle.world.proofs.autocommit.ends.Goals as goal

pub returns : goal.returns
returns c = filter_same _ (λ notice. is_end notice.reply) _ (λ x b f' k. search rules) _ _ c.retain.ensures.filtered
