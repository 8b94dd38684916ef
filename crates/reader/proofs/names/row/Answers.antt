-- Why `names::row` meets its contract.
use Rattle.std.proofs.Common.{length, ap, sym, ◌∙◌}
use Rattle.std.proofs.lemmas.List.{length-map}
use Rattle.meaning.specs.Schema.{kinds_of}
use Rattle.reader.specs.Tree.{constant_tree, constants_tree}
use Rattle.reader.proofs.Each.{row_of_count}
use Rattle.reader.proofs.names.row.Goals as goal

pub returns-then-constants-columns-clause-exact : goal.returns-then-constants-columns-clause-exact
returns-then-constants-columns-clause-exact c =
    rw c.new.ensures.rule (row_of_count (kinds_of c.args.relation.now) (constants_tree c.args.insert.now.values) (λ same. c.if-constants-columns.true
    (ap length c.as_slice-constants.ensures.value ∙ sym (length-map c.args.insert.now.values.items constant_tree) ∙ same ∙ length-map c.args.relation.now.columns (λ column. column.kind) ∙ sym (ap length c.as_slice-columns.ensures))))
