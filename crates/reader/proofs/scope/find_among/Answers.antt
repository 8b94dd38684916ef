-- Why `scope::find_among` meets its contract.
use Rattle.std.proofs.Common.{◌≤◌, drop, length, map, sym, subst, arith}
use Rattle.reader.specs.declared.scope.Table as code_table
use Rattle.reader.specs.Scope.{table_of, types_in}
use Rattle.reader.specs.Tree.{column_tree}
use Rattle.reader.proofs.Places.{found_within, columns_left}
use Rattle.reader.proofs.scope.find_among.Goals as goal

pub overflow_add-only : goal.overflow_add-only
overflow_add-only c =
    let within = found_within (table_of c.table-item.result) (column_tree c.args.column.now) c.in-Some.found (sym c.in-Some.ensures) in
    let P : code_table.Table → Type 0 = λ t. length t.columns.now ≤ length (types_in (map table_of (drop c.loop-table.table-index c.args.others.now))) in
    let left = subst P (sym c.table-item.is) (columns_left c.args.others.now c.loop-table.table-index c.table-item.result c.loop-table-test.true) in
    omega (arith, within, left, c.loop-table.invariant.counted, c.requires)
