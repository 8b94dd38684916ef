use Rattle.std.proofs.Common.{ap, ◌∙◌}
use Rattle.lines.specs.NextFiles.{files_of}
use Rattle.lines.proofs.usage.given_in.Goals as goal

pub returns : goal.returns
returns c = λ words entered. record {
  asked = c.in_ok-asked.ensures words entered;
  next = c.in_ok-next.ensures.files ∙ ap files_of entered;
  few = c.in_ok-next.ensures.few;
}
