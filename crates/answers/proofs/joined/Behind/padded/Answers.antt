-- Why `joined::Behind::padded` meets its contract.
use Rattle.std.proofs.Common.{List, ap, length, sym, ◌∙◌, arith}
use Rattle.terms.specs.declared.value.Value.{Value}
use Rattle.answers.specs.Laid.{rows_behind}
use Rattle.answers.proofs.Laid.{pad_all}
use Rattle.answers.proofs.joined.Behind.padded.Goals as goal

pub returns-then-as_slice-count : goal.returns-then-as_slice-count
returns-then-as_slice-count c = pad_all c.args.count (rows_behind c.args.self) (ap (λ (rows : List (List Value)). length rows) (sym c.as_slice.ensures) ∙ omega (arith, c.if-as_slice-count.true))
