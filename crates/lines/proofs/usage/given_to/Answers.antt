use Rattle.std.proofs.Common.{ap, map, ◌∙◌}
use Rattle.clap.specs.Words.{is_simple, subcommand_of}
use Rattle.lines.proofs.usage.given_to.Goals as goal

pub returns : goal.returns
returns g c = λ usage_is.
    let entered = (c.in_ok-matches.ensures.ok.2 (ap is_simple usage_is)).1 ∙ ap (λ a. subcommand_of a (map g.S.AsStr.text c.args.words.now)) usage_is in
    c.given_in-given.ensures _ entered
