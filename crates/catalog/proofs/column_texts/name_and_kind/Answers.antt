use Rattle.std.proofs.Common.{sym}
use Rattle.catalog.proofs.ColumnTexts.{form_parts, no_parts, two_parts}
use Rattle.catalog.proofs.column_texts.name_and_kind.Goals as goal

pub returns-in_err-name-clause-none : goal.returns-in_err-name-clause-none
returns-in_err-name-clause-none c = rw c.from_residual.ensures (no_parts c.args.text.now c.split_once.result c.split_once.ensures.cases c.in_err-name.was)

pub returns-in_err-kind-clause-none : goal.returns-in_err-kind-clause-none
returns-in_err-kind-clause-none c =
    let parted = two_parts c.args.text.now c.split_once.result _ c.split_once.ensures.cases c.in_ok-name.was in
    rw c.from_residual-in_err-kind.ensures (λ name kind none spelled. c.in_err-kind.ensures.none kind (sym (form_parts c.args.text.now name kind c.in_ok-name.name.now c.in_ok-name.word.now none spelled parted).1))
