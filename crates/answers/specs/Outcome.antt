-- A reader may skip this: what the code makes of a statement and of its table.
use Rattle.std.specs.Prelude.{ℕ, if◌then◌else◌, List, [], ◌∷◌, Option, Some, None, flat_map, length, map, nat_eq, option_and_then, option_map}
use Rattle.std.specs.Cmp.Lexicographic.{pointwise}
use Rattle.std.specs.List.{filter_map}
use Rattle.terms.specs.declared.value.Value.{Value}
use Rattle.terms.specs.declared.leaf.Leaf.{Leaf}
use Rattle.terms.specs.declared.write.Write.{Write}
use Rattle.terms.specs.declared.write.Write.TheVariants.{Put}
use Rattle.terms.specs.Row.{key_of}
use Rattle.meaning.specs.declared.answer.Answer.TheVariants as answer
use Rattle.meaning.specs.declared.statement.Assignment.{Assignment}
use Rattle.meaning.specs.declared.statement.Delete.{Delete}
use Rattle.meaning.specs.declared.statement.Insert.{Insert}
use Rattle.meaning.specs.declared.statement.Select.{Select}
use Rattle.meaning.specs.declared.statement.Statement.{Statement}
use Rattle.meaning.specs.declared.statement.Statement.TheVariants as statement
use Rattle.meaning.specs.declared.statement.Update.{Update}
use Rattle.meaning.specs.Listed.{listed}
use Rattle.meaning.specs.Selected.{names_read}
use Rattle.meaning.specs.Updated.{assign}
use Rattle.catalog.specs.declared.fragment_leaf.FragmentLeaf.{FragmentLeaf}
use Rattle.catalog.specs.Fragment.{part}
use Rattle.catalog.specs.FragmentLeaf.{unnamed}
use Rattle.plan.specs.Need.{places_to}
use Rattle.plan.specs.Rows.{seen_part}
use Rattle.answers.specs.declared.change.Change.{Change}
use Rattle.answers.specs.declared.finish.Outcome.{Outcome}
use Rattle.answers.specs.Laid.{Table}
use Rattle.answers.specs.Writes.{same_part, write_between}

-- the values that a table's rows have in the listed columns
abbrev pub shown : List ℕ → List ℕ → List (List Value) → List (List Value)
shown places columns rows = map (λ row. filter_map (seen_part columns row) places) rows

-- a changed row's part in a leaf, before or after
abbrev pub part_of : FragmentLeaf → Option (List Value) → Option (List Value)
part_of leaf row = option_and_then (part (unnamed leaf)) row

-- a write of a part, unless the part before is the same
abbrev pub put_unless_same : Leaf → Option (List Value) → List Value → Option Write
put_unless_same leaf None after = Some (Put leaf after)
put_unless_same leaf (Some before) after = if same_part before after then None else Some (Put leaf after)

-- the write of a change to a leaf
abbrev pub change_write : FragmentLeaf → Change → Option Write
change_write leaf change = write_between leaf.name change.key (part_of leaf change.before) (part_of leaf change.after)

abbrev pub leaf_changes : FragmentLeaf → List Change → List Write
leaf_changes leaf changes = filter_map (change_write leaf) changes

-- the writes of the changes of a relation, leaf by leaf
abbrev pub writes_of : List ℕ → List Change → List FragmentLeaf → List Write
writes_of relation changes leaves = flat_map (λ leaf. if pointwise nat_eq leaf.name.relation relation then leaf_changes leaf changes else []) leaves

-- a row that is added, one that is removed, and one that is changed
abbrev pub added : List Value → Change
added row = record { key = key_of row; before = None; after = Some row }

abbrev pub removed : List Value → Change
removed row = record { key = key_of row; before = Some row; after = None }

abbrev pub replaced : List Value → List Value → Change
replaced row new = record { key = key_of row; before = Some row; after = Some new }

-- the changes of assignments to rows; none where a sum leaves 64 bits
abbrev pub changes_of : List Assignment → List (List Value) → Option (List Change)
changes_of sets [] = Some []
changes_of sets (row ∷ rows) = option_and_then (λ new. option_map (λ rest. replaced row new ∷ rest) (changes_of sets rows)) (assign row sets row)

abbrev pub select_outcome : Select → Table → Outcome
select_outcome select table =
    record { answer = answer.Rows (listed select.columns (names_read select.from select.joins)) (shown select.columns table.columns table.rows); writes = [] }

abbrev pub insert_outcome : List FragmentLeaf → Insert → List (List Value) → Outcome
insert_outcome leaves insert [] = record { answer = answer.Changed 1; writes = writes_of insert.into (added insert.row ∷ []) leaves }
insert_outcome leaves insert (row ∷ rows) = record { answer = answer.Exists; writes = [] }

abbrev pub with_changes : List FragmentLeaf → List ℕ → ℕ → Option (List Change) → Outcome
with_changes leaves relation count None = record { answer = answer.Overflow; writes = [] }
with_changes leaves relation count (Some changes) = record { answer = answer.Changed count; writes = writes_of relation changes leaves }

-- the whole rows of the table of a change
abbrev pub rows_changed : ℕ → Table → List (List Value)
rows_changed width table = shown (places_to width) table.columns table.rows

abbrev pub update_outcome : List FragmentLeaf → Update → List (List Value) → Outcome
update_outcome leaves update rows = with_changes leaves update.relation.name (length rows) (changes_of update.sets rows)

abbrev pub delete_outcome : List FragmentLeaf → Delete → List (List Value) → Outcome
delete_outcome leaves delete rows = with_changes leaves delete.relation.name (length rows) (Some (map removed rows))

-- a REFRAGMENT tells how many rows there are; that they move is no write between whole databases
abbrev pub refragment_outcome : Table → Outcome
refragment_outcome table = record { answer = answer.Changed (length table.rows); writes = [] }

abbrev pub outcome_of : List FragmentLeaf → Statement → Table → Outcome
outcome_of leaves (statement.Select select) table = select_outcome select table
outcome_of leaves (statement.Insert insert) table = insert_outcome leaves insert table.rows
outcome_of leaves (statement.Update update) table = update_outcome leaves update (rows_changed (length update.relation.columns) table)
outcome_of leaves (statement.Delete delete) table = delete_outcome leaves delete (rows_changed (length delete.relation.columns) table)
outcome_of leaves (statement.Refragment refragment) table = refragment_outcome table
