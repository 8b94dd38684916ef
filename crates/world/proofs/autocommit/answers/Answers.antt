-- Why `answers` meets its contract.
use Rattle.std.proofs.Common.{rules}
use Rattle.std.proofs.lemmas.Fn.{filter_same}
use Rattle.world.specs.Client.{is_answer}
use Rattle.world.proofs.autocommit.answers.Goals as goal

pub returns : goal.returns
returns c = filter_same _ (λ notice. is_answer notice.reply) _ (λ x b f' k. search rules) _ _ c.retain.ensures.filtered
