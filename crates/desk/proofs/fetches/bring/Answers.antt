-- Why `bring` meets its contract.
use Rattle.std.proofs.Common.{◌∙◌}
use Rattle.std.proofs.lemmas.Result.{on_err_weaker}
use Rattle.desk.proofs.Operations.{written_same}
use Rattle.desk.proofs.fetches.bring.Goals as goal

pub returns-clause-same : goal.returns-clause-same
returns-clause-same c =
    on_err_weaker c.put_rows.result (λ same. written_same c.args.asks.now c.put_rows.new.asks (same ∙ c.as_mut_slice.ensures.value)) c.put_rows.ensures.same
