-- How many rows the unions, key joins and look-ups of a plan put together.
use Rattle.std.specs.Prelude.{ℕ, ◌+◌, List, [], filter, is_some, length}
use Rattle.terms.specs.declared.leaf.Leaf.{Leaf}
use Rattle.terms.specs.declared.value.Value.{Value}
use Rattle.terms.specs.Row.{key_of}
use Rattle.plan.specs.Rows.{rows}
use Rattle.plan.specs.Shape.{Shape, Empty, Fetch, Filter, Project, Union, KeyJoin, Lookup}
use Rattle.answers.specs.Merged.{merged_rows}

-- the parts at whose keys a plan may have a row, one for each key
abbrev pub parts_read : Shape → (Leaf → List (List Value)) → List (List Value)
parts_read Empty contents = []
parts_read (Fetch read) contents = contents read.leaf
parts_read (Filter conds below) contents = parts_read below contents
parts_read (Project columns below) contents = parts_read below contents
parts_read (Union one other) contents = merged_rows (parts_read one contents) (parts_read other contents)
parts_read (KeyJoin one other) contents = parts_read one contents
parts_read (Lookup col width left right) contents = parts_read left contents

-- how many rows a plan has: at how many keys it has one
abbrev pub row_count : Shape → (Leaf → List (List Value)) → ℕ
row_count plan contents = length (filter (λ part. is_some (rows plan contents (key_of part))) (parts_read plan contents))

-- the number of rows of both sides of each union, key join and look-up of a plan, all together
abbrev pub rows_joined : Shape → (Leaf → List (List Value)) → ℕ
rows_joined Empty contents = 0
rows_joined (Fetch read) contents = 0
rows_joined (Filter conds below) contents = rows_joined below contents
rows_joined (Project columns below) contents = rows_joined below contents
rows_joined (Union one other) contents = rows_joined one contents + rows_joined other contents + (row_count one contents + row_count other contents)
rows_joined (KeyJoin one other) contents = rows_joined one contents + rows_joined other contents + (row_count one contents + row_count other contents)
rows_joined (Lookup col width left right) contents = rows_joined left contents + rows_joined right contents + (row_count left contents + row_count right contents)
