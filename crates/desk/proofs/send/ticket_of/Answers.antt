-- Why `ticket_of` meets its contract.
use Rattle.std.proofs.Common.{sym, ap, ◌∙◌}
use Rattle.std.specs.Option.{option_copied}
use Rattle.desk.proofs.Counted.{participant_found, participant_missing}
use Rattle.desk.proofs.send.ticket_of.Goals as goal

pub returns-in-Some : goal.returns-in-Some
returns-in-Some c = sym (ap (λ s. s.ticket) (participant_found c.args.site.now c.args.participants.now c.in-Some.participant.now (sym c.find_participant.ensures ∙ ap option_copied c.in-Some.is)))

pub returns-in-None : goal.returns-in-None
returns-in-None c = sym (ap (λ s. s.ticket) (participant_missing c.args.site.now c.args.participants.now (sym c.find_participant.ensures ∙ ap option_copied c.in-None.is)))
