-- Why `update::run_update` meets its contract.
use Rattle.std.proofs.Common.{sym, ap, ◌∙◌}
use Rattle.std.specs.Option.{option_map}
use Rattle.meaning.proofs.Changed.{Ascends-updated}
use Rattle.meaning.proofs.update.run_update.Goals as goal

pub of_rows-requires : goal.of_rows-requires
of_rows-requires c =
    let is = sym c.in_ok-changed.ensures ∙ ap (option_map (λ v. v.items)) c.in-Some.is in
    Ascends-updated c.args.update.now c.rows-rows.result.now c.in-Some.changed.items is c.rows-rows.ensures.ascends
