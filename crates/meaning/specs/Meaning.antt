-- The serial meaning: what statements answer over whole relations, and what they leave of them.
use Rattle.std.specs.Prelude.{List, [], ◌∷◌, Option, Some, None, if◌then◌else◌, length}
use Rattle.std.specs.FinMap as finite
use Rattle.terms.specs.declared.value.Value.{Value}
use Rattle.terms.specs.Row.{key_of}
use Rattle.meaning.specs.declared.answer.Answer.{Answer}
use Rattle.meaning.specs.declared.answer.Answer.TheVariants as answer
use Rattle.meaning.specs.declared.statement.Statement.{Statement}
use Rattle.meaning.specs.declared.statement.Statement.TheVariants as statement
use Rattle.meaning.specs.declared.statement.Select.{Select}
use Rattle.meaning.specs.declared.statement.Insert.{Insert}
use Rattle.meaning.specs.declared.statement.Update.{Update}
use Rattle.meaning.specs.declared.statement.Delete.{Delete}
use Rattle.meaning.specs.declared.statement.Refragment.{Refragment}
use Rattle.meaning.specs.Relation.{has_key, insert_row}
use Rattle.meaning.specs.Whole.{Relations, rows_of, replaced}
use Rattle.meaning.specs.Listed.{listed}
use Rattle.meaning.specs.Matched.{matched, unmatched}
use Rattle.meaning.specs.Selected.{names_read, rows_read, selected}
use Rattle.meaning.specs.Updated.{updated}

-- the listed columns of the rows read that meet all conditions, under the columns' names
abbrev pub select_answer : Select → Relations → Answer
select_answer select whole =
    answer.Rows (listed select.columns (names_read select.from select.joins)) (selected select (rows_read select.from select.joins whole))

-- one row more, unless its key is there
abbrev pub after_insert : Insert → Relations → Answer × Relations
after_insert insert whole =
    let rows = rows_of whole insert.into in
    if has_key (key_of insert.row) rows then (answer.Exists, whole) else (answer.Changed 1, finite.insert whole insert.into (insert_row insert.row rows))

-- the changed rows in the place of the relation's; where there are none, a sum left 64 bits and nothing changes
abbrev pub with_changed : Update → Relations → Option (List (List Value)) → Answer × Relations
with_changed update whole None = (answer.Overflow, whole)
with_changed update whole (Some changed) =
    (answer.Changed (matched update.conds (rows_of whole update.relation.name)), replaced whole update.relation.name changed)

abbrev pub after_update : Update → Relations → Answer × Relations
after_update update whole = with_changed update whole (updated update (rows_of whole update.relation.name))

-- the rows that don't meet all conditions
abbrev pub after_delete : Delete → Relations → Answer × Relations
after_delete delete whole =
    let rows = rows_of whole delete.relation.name in
    (answer.Changed (matched delete.conds rows), replaced whole delete.relation.name (unmatched delete.conds rows))

-- how many rows there are: that they move to other fragments changes nothing of a whole relation
abbrev pub after_refragment : Refragment → Relations → Answer × Relations
after_refragment refragment whole = (answer.Changed (length (rows_of whole refragment.relation.name)), whole)

-- what a statement answers over a whole database, and the whole database after it
abbrev pub meaning : Statement → Relations → Answer × Relations
meaning (statement.Select select) whole = (select_answer select whole, whole)
meaning (statement.Insert insert) whole = after_insert insert whole
meaning (statement.Update update) whole = after_update update whole
meaning (statement.Delete delete) whole = after_delete delete whole
meaning (statement.Refragment refragment) whole = after_refragment refragment whole

-- the statements of a transaction, one after another: their answers, and the whole database after them
abbrev pub transaction_meaning : List Statement → Relations → List Answer × Relations
transaction_meaning [] whole = ([], whole)
transaction_meaning (first ∷ rest) whole =
    let one = meaning first whole in
    let others = transaction_meaning rest one.1 in
    (one.0 ∷ others.0, others.1)

-- transactions, one after another: the answers of each, and the whole database after all
abbrev pub serial : List (List Statement) → Relations → List (List Answer) × Relations
serial [] whole = ([], whole)
serial (first ∷ rest) whole =
    let one = transaction_meaning first whole in
    let others = serial rest one.1 in
    (one.0 ∷ others.0, others.1)
