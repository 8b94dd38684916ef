use Rattle.commands.proofs.session.take_bytes.Goals as goal

pub returns-in-Ok-clause-malformed : goal.returns-in-Ok-clause-malformed
returns-in-Ok-clause-malformed g c = λ malformed. absurd (malformed c.in-Ok.ensures.cases.1)
