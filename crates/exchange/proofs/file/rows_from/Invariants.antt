use Rattle.exchange.specs.Incoming.{IsReading, reader_in}
use Rattle.exchange.specs.File.{Brings}
use Rattle.exchange.proofs.file.rows_from.Given as goal

abbrev pub invariant-loop : goal.invariant-loop
invariant-loop g l = IsReading (reader_in l.fn.incoming) → IsReading (reader_in l.incoming) × Brings g.R.Read.remaining l.rows.items l.fn.incoming l.incoming
