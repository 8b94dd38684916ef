-- What each round of `survey::columns` keeps.
use Rattle.std.proofs.Common.{◌≡◌, map, take}
use Rattle.meaning.specs.declared.schema.Column.{Column}
use Rattle.exchange.specs.Suggestion.{key_first}
use Rattle.exchange.proofs.survey.columns.Given as goal

abbrev pub invariant-loop-place : goal.invariant-loop-place
invariant-loop-place l = map (λ (column : Column). column.name) l.columns.items ≡ key_first l.key (take l.place l.names)
