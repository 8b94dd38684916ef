use Rattle.std.proofs.Common.{◌≡◌, true, false, sym, subst, ◌∙◌}
use Rattle.reader.specs.Tokens.{IsName}
use Rattle.catalog.proofs.ColumnTexts.{named_so, no_column}
use Rattle.catalog.proofs.column_texts.next_column.Goals as goal

pub returns-then-not-is_name-clause-none : goal.returns-then-not-is_name-clause-none
returns-then-not-is_name-clause-none c = λ column next.
    let so = named_so c.args.before.now c.args.text.now c.in-Some.name.now c.in-Some.kind column c.in-Some.ensures.some next in
    let name : IsName c.as_bytes.result.now = subst IsName (sym c.as_bytes.ensures.value) so.0 in
    let both : false ≡ true = sym c.if-not-is_name.true ∙ c.is_name.ensures.1 name in
    cc

pub returns-then-has_column-clause-none : goal.returns-then-has_column-clause-none
returns-then-has_column-clause-none c = λ column next.
    let so = named_so c.args.before.now c.args.text.now c.in-Some.name.now c.in-Some.kind column c.in-Some.ensures.some next in
    let both : true ≡ false = sym c.if-has_column.true ∙ c.has_column.ensures ∙ so.1 in
    cc

pub returns-then-has_column-clause-fault : goal.returns-then-has_column-clause-fault
returns-then-has_column-clause-fault c =
    (record { name = c.in-Some.name.now; kind = c.in-Some.kind }, record { spelled = c.in-Some.ensures.some; name = subst IsName c.as_bytes.ensures.value (c.is_name.ensures.0 c.if-not-is_name.false) }, sym c.has_column.ensures ∙ c.if-has_column.true)

pub returns-in_default-clause-none : goal.returns-in_default-clause-none
returns-in_default-clause-none c = λ column next. no_column c.args.text.now c.in_default.ensures.none column next.says
