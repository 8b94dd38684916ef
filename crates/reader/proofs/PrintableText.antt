-- The statement of a text is printable, under a schema of relations that have names.
use Rattle.std.proofs.Common.{◌≡◌, ◌≢◌, ℕ, ◌<◌, List, [], ◌∷◌, ◌++◌, Some, length, map, nat_le, refl, ap, subst, arith}
use Rattle.std.specs.List.{range_with_len}
use Rattle.std.proofs.lemmas.List.FromFn.{length-range_with_len}
use Rattle.terms.specs.declared.value.Kind.{Kind}
use Rattle.meaning.specs.declared.schema.Column as schema
use Rattle.meaning.specs.declared.schema.RelationSchema.{RelationSchema}
use Rattle.meaning.specs.declared.statement.Statement.TheVariants as statements
use Rattle.meaning.specs.declared.statement.Select.{Select}
use Rattle.meaning.specs.declared.statement.Insert.{Insert}
use Rattle.meaning.specs.declared.statement.Update.{Update}
use Rattle.meaning.specs.declared.statement.Delete.{Delete}
use Rattle.meaning.specs.declared.statement.Refragment.{Refragment}
use Rattle.meaning.specs.Schema.{relation_named}
use Rattle.reader.specs.declared.command.Command.{Command}
use Rattle.reader.specs.declared.command.Command.TheVariants as commands
use Rattle.reader.specs.Command.{IsTextOf, IsCommandOf}
use Rattle.reader.specs.Grammar.{IsListable, IsWritable}
use Rattle.reader.specs.Names.{Joined, all_of, place_in, places_of, conds_of, source_of, join_of, others_of, joined_relations, select_from, select_of, insert_of, update_of, delete_of, refragment_of, command_of}
use Rattle.reader.specs.Printable.{AreNamed, ListsSome, IsPrintableCommand}
use Rattle.reader.specs.Scope.{Scope, relation_table, types, types_in}
use Rattle.reader.specs.Tree as tree
use Rattle.reader.proofs.Chains.{chosen, first_step, mapped_step}
use Rattle.reader.proofs.FitsCommand.{some_answers}
use Rattle.reader.proofs.FitsSchema.{all_answers, any_items}
use Rattle.reader.proofs.ResolvedJoins.{relation_is_named}

-- as many numbers as there are columns
some_numbers : (n : ℕ) → 0 < n → range_with_len 0 n ≢ []
some_numbers n some none =
    let count : length (range_with_len 0 n) ≡ 0 = ap length none in
    omega (arith, count, length-range_with_len 0 n)

some_types : (columns : List schema.Column) (others : List Kind) → columns ≢ [] → 0 < length (types columns ++ others)
some_types [] others some = absurd (some refl)
some_types (c ∷ columns) others some = omega arith

-- a list that has something means some places, and `*` does where there is a column
some_places : (scope : Scope) (listed : tree.Listed) (places : List ℕ) → 0 < length (types_in scope) → IsListable listed → places_of scope listed ≡ Some places → places ≢ []
some_places scope tree.all places some filled is =
    let one = chosen (nat_le (length (types_in scope)) 32) (Some (range_with_len 0 (length (types_in scope)))) places is in
    let same : range_with_len 0 (length (types_in scope)) ≡ places = cc one.1 in
    let P : List ℕ → Type 0 = λ ps. ps ≢ [] in
    subst P same (some_numbers (length (types_in scope)) some)
some_places scope (tree.columns columns) places some filled is =
    let one = chosen (nat_le (length columns) 32) (all_of (place_in scope) columns) places is in
    let answers = all_answers (place_in scope) (λ column. Unit {0}) (λ place. Unit {0}) (λ column place any is. tt) columns places (any_items columns) one.1 in
    some_answers columns places filled answers.1

from_lists : (relation : RelationSchema) (joined : List Joined) (written : tree.Select) (select : Select) → relation.columns ≢ [] → IsListable written.listed → select_from relation joined written ≡ Some select → select.columns ≢ []
from_lists relation joined written select some filled is =
    let scope = joined_relations relation joined in
    let places = first_step _ (places_of scope written.listed) select is in
    let joins = first_step _ (all_of (join_of scope) joined) select places.2 in
    let conds = first_step _ (conds_of scope written.conditions) select joins.2 in
    let same : record { from = source_of relation; joins = joins.0; columns = places.0; conds = conds.0 } ≡ select = cc conds.2 in
    let P : Select → Type 0 = λ s. s.columns ≢ [] in
    subst P same (some_places scope written.listed places.0 (some_types relation.columns (types_in (map (λ j. relation_table j.relation) joined)) some) filled places.1)

-- a select that is read lists some column
select_lists : (schema : List RelationSchema) (written : tree.Select) (select : Select) → AreNamed schema → IsListable written.listed → select_of schema written ≡ Some select → select.columns ≢ []
select_lists schema written select named filled is =
    let relation = first_step _ (relation_named written.relation schema) select is in
    let names = relation_is_named schema written.relation relation.0 named relation.1 in
    let joined = first_step _ (others_of schema (relation.0.name ∷ []) (length relation.0.columns) written.joins) select relation.2 in
    from_lists relation.0 joined.0 written select names.filled filled joined.2

-- a command that runs a SELECT lists some column
abbrev CommandLists : Command → Type 0
CommandLists (commands.Run statement) = ListsSome statement
CommandLists commands.Begin = Unit {0}
CommandLists commands.Commit = Unit {0}
CommandLists commands.Rollback = Unit {0}

command_lists : (schema : List RelationSchema) (written : tree.Written) (command : Command) → AreNamed schema → IsWritable written → command_of schema written ≡ Some command → CommandLists command
command_lists schema (tree.select written) command named filled is =
    let one = mapped_step (λ (s : Select). commands.Run (statements.Select s)) (select_of schema written) command is in
    subst CommandLists one.2 (select_lists schema written one.0 named filled.0 one.1)
command_lists schema (tree.insert written) command named filled is =
    let one = mapped_step (λ (s : Insert). commands.Run (statements.Insert s)) (insert_of schema written) command is in
    subst CommandLists one.2 tt
command_lists schema (tree.update written) command named filled is =
    let one = mapped_step (λ (s : Update). commands.Run (statements.Update s)) (update_of schema written) command is in
    subst CommandLists one.2 tt
command_lists schema (tree.delete written) command named filled is =
    let one = mapped_step (λ (s : Delete). commands.Run (statements.Delete s)) (delete_of schema written) command is in
    subst CommandLists one.2 tt
command_lists schema (tree.refragment written) command named filled is =
    let one = mapped_step (λ (s : Refragment). commands.Run (statements.Refragment s)) (refragment_of schema written) command is in
    subst CommandLists one.2 tt
command_lists schema tree.begin command named filled is = let same : commands.Begin ≡ command = cc is in subst CommandLists same tt
command_lists schema tree.commit command named filled is = let same : commands.Commit ≡ command = cc is in subst CommandLists same tt
command_lists schema tree.rollback command named filled is = let same : commands.Rollback ≡ command = cc is in subst CommandLists same tt

printable_command : (schema : List RelationSchema) (command : Command) → AreNamed schema → IsCommandOf schema command → CommandLists command → IsPrintableCommand schema command
printable_command schema (commands.Run statement) named fits lists = record { named = named; fits = fits; lists = lists }
printable_command schema commands.Begin named fits lists = tt
printable_command schema commands.Commit named fits lists = tt
printable_command schema commands.Rollback named fits lists = tt

-- the statement of a text is printable
pub printable_of_text : (schema : List RelationSchema) (text : List ℕ) (command : Command) → AreNamed schema → IsTextOf schema text command → IsCommandOf schema command → IsPrintableCommand schema command
printable_of_text schema text command named is fits = printable_command schema command named fits (command_lists schema is.written command named is.grammatical.0 is.meant)
