-- Why `moves::moves` meets its contract: the moves of ascending rows are those between the contents, and each is to one of the leaves.
use Rattle.std.proofs.Common.{length, ap, ap₂, ◌∙◌}
use Rattle.meaning.specs.Schema.{relation_named}
use Rattle.catalog.specs.Relation.{catalogue_of}
use Rattle.answers.specs.Outcome.{rows_changed}
use Rattle.answers.proofs.EachMoved.{moves_held}
use Rattle.answers.proofs.PlaceMoves.{moves_from}
use Rattle.answers.proofs.moves.moves.Goals as goal

pub returns-clause-moves : goal.returns-clause-moves
returns-clause-moves c = λ schema there.
    moves_from c.moves_by.result (λ moves. moves.items) (catalogue_of c.args.old.now) (catalogue_of c.args.new.now) c.args.relation.now c.args.table.now c.in-Some.schema.now c.as_slice-2.result.now schema
    (c.in-Some.ensures ∙ ap₂ relation_named (c.as_bytes.ensures.value ∙ c.as_str.ensures) c.schema.ensures.schemas)
    (c.as_slice-2.ensures.value ∙ c.in_ok-rows.ensures ∙ ap (λ columns. rows_changed (length columns) c.args.table.now) c.as_slice.ensures) c.moves_by.ensures there

pub returns-clause-leaves : goal.returns-clause-leaves
returns-clause-leaves c = moves_held c.moves_by.result (λ moves. moves.items) (catalogue_of c.args.old.now) (catalogue_of c.args.new.now) c.args.relation.now c.as_slice-2.result.now c.moves_by.ensures
