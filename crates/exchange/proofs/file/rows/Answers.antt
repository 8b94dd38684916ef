use Rattle.std.proofs.lemmas.Result.{IfOk-weaker}
use Rattle.exchange.proofs.file.rows.Goals as goal

pub returns : goal.returns
returns g c = IfOk-weaker c.rows_from.result _ _ (λ rows brings. record { opened = c.in_ok-incoming.incoming; names = c.in_ok-incoming.ensures.opens.0; opens = c.in_ok-incoming.ensures.opens.1; brings = brings c.in_ok-incoming.ensures.opens.1.reads }) c.rows_from.ensures
