use Rattle.std.proofs.Common.{◌++◌, ap, ap₂, arith, string_bytes, ◌∙◌}
use Rattle.catalog.specs.FragmentLeaf.{schemas_of}
use Rattle.catalog.specs.Relation.{catalogue_of}
use Rattle.lines.specs.Check.{leaf_line}
use Rattle.lines.proofs.CheckLemmas.{one_more_line}
use Rattle.lines.proofs.check.put_leaves.Goals as goal

pub loop-leaf-preserved : goal.loop-leaf-preserved
loop-leaf-preserved c =
    let catalogue = catalogue_of c.args.catalog.now in
    let out = string_bytes c.loop-leaf.out in
    one_more_line (leaf_line catalogue.sites (schemas_of catalogue)) c.leaves-leaf-items.result.now c.loop-leaf.leaf-index c.leaf-item.result (string_bytes c.args.out.now) out (string_bytes c.put_leaf.new.out) (omega arith) c.loop-leaf.invariant
    (c.in_ok-put_leaf.ensures ∙ ap₂ (λ sites relations. out ++ leaf_line sites relations c.leaf-item.result) c.sites.ensures c.schema.ensures.schemas ∙ ap (λ leaf. out ++ leaf_line catalogue.sites (schemas_of catalogue) leaf) c.leaf-item.is)
