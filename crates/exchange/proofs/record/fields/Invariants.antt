-- What each round of `record::fields` keeps.
use Rattle.std.proofs.Common.{◌≡◌, ◌≤◌, ℕ, List, Bor, map, take, length}
use Rattle.csv.specs.Records.{fields_of}
use Rattle.exchange.proofs.record.fields.Given as goal

abbrev pub invariant-loop-field : goal.invariant-loop-field
invariant-loop-field l = record {
  same : l.field-iterator.row.now ≡ l.current;
  within : l.field-iterator.at ≤ length (fields_of l.current);
  read : map (λ (field : Bor (List ℕ)). field.now) l.fields.items ≡ take l.field-iterator.at (fields_of l.current);
}
