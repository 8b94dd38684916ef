use Rattle.lines.proofs.usage.read_given.Goals as goal

pub returns : goal.returns
returns g c = c.given_to-given.ensures c.in_ok-command.ensures
