-- Why `pick::columns_cut` meets its contract.
use Rattle.std.proofs.Common.{rules}
use Rattle.std.proofs.lemmas.Fn.{filter_same}
use Rattle.plan.specs.Rows.{is_seen}
use Rattle.answers.specs.declared.joined.Column.{Column}
use Rattle.answers.proofs.pick.columns_cut.Goals as goal

pub returns : goal.returns
returns c = filter_same _ (λ (column : Column). is_seen c.args.wanted.now column.number) _ (λ x b f' k. search rules) _ _ c.retain.ensures.filtered
