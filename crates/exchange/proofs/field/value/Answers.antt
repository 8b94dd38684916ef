-- Why `field::value` meets its contract.
use Rattle.std.proofs.Common.{sym}
use Rattle.exchange.proofs.Fields.{text_fits}
use Rattle.exchange.proofs.field.value.Goals as goal

pub returns-in_ok-text-in-Text-clause-fits : goal.returns-in_ok-text-in-Text-clause-fits
returns-in_ok-text-in-Text-clause-fits c = text_fits c.args.field.now _ (sym c.in_ok-text-in-Text.ensures)
