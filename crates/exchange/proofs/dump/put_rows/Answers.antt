-- Why `dump::put_rows` meets its contract.
use Rattle.std.proofs.Common.{◌++◌, ap, ◌∙◌}
use Rattle.reader.specs.PrintStatement.{statement_bytes}
use Rattle.exchange.specs.Dump.{line}
use Rattle.exchange.specs.Insert.{insert_of}
use Rattle.exchange.proofs.Dumps.{rows_more}
use Rattle.exchange.proofs.dump.put_rows.Goals as goal

pub loop-number-preserved : goal.loop-number-preserved
loop-number-preserved c =
    rows_more c.args.relation.now.name c.args.rows.now c.loop-number.number c.index-rows-number.result _ _ _ c.loop-number-test.true c.index-rows-number.is c.loop-number.invariant
    (c.in_ok-put_row.ensures ∙ ap (λ text. text ++ line (statement_bytes (insert_of c.args.relation.now.name c.index-rows-number.result))) c.in_ok-put_before.ensures)
