use Rattle.std.proofs.Common.{◌≡◌, List, ℕ, [], true, IfErr, ◌∙◌, subst}
use Rattle.std.specs.Prelude.{codes}
use Rattle.toml.specs.View.{view}
use Rattle.catalog.specs.Node.{form_of}
use Rattle.catalog.specs.NodeBreaks.{NodeBreaks}
use Rattle.catalog.specs.Refuses.{is_of_text}
use Rattle.catalog.proofs.relation.split.Goals as goal

pub returns-clause-breaks : goal.returns-clause-breaks
returns-clause-breaks c =
    let P : List ℕ → Type 0 = λ within. IfErr c.tree.result (λ rule. is_of_text rule ≡ true → NodeBreaks rule (record { sites = c.args.sites.now; columns = c.args.columns.now }) 4 [] within (form_of (codes "columns") (view c.args.node.now)) 0) in
    subst P (c.as_slice.ensures.value ∙ c.in_ok-within.ensures) c.tree.ensures.breaks
