use Rattle.std.proofs.Common.{ap, ap₂, ◌∙◌}
use Rattle.std.proofs.lemmas.Result.{IfOk-weaker}
use Rattle.meaning.specs.Listed.{listed}
use Rattle.catalog.specs.Relation.{catalogue_of}
use Rattle.lines.specs.Check.{columns_of, names_of_columns}
use Rattle.databases.specs.PlayText.{leaf_columns}
use Rattle.databases.proofs.play_text.leaf_columns.Goals as goal

pub returns : goal.returns
returns c =
    let catalogue = catalogue_of c.args.catalog.now in
    let columns_are = c.columns_of-columns.ensures ∙ ap (λ relations. columns_of relations c.in-Some.leaf.now.name.relation) c.schema.ensures.schemas in
    let listed_are = c.as_slice-2.ensures.value ∙ c.in_ok-columns.ensures ∙ ap₂ (λ places columns. listed places columns) c.as_slice.ensures columns_are in
    IfOk-weaker c.column_names.result _ _ (λ names h. h ∙ ap names_of_columns listed_are ∙ ap (leaf_columns catalogue) c.in-Some.ensures) c.column_names.ensures
