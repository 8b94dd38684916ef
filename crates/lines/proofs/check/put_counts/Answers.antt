use Rattle.std.proofs.Common.{ap, length, string_bytes, ◌∙◌}
use Rattle.std.proofs.lemmas.List.{length-map}
use Rattle.catalog.specs.FragmentLeaf.{catalogue_leaves}
use Rattle.catalog.specs.Relation.{catalogue_of}
use Rattle.lines.proofs.CheckLemmas.{counts_of}
use Rattle.lines.proofs.check.put_counts.Goals as goal

pub returns : goal.returns
returns c =
    let catalogue = catalogue_of c.args.catalog.now in
    counts_of (string_bytes c.args.out.now) _ (length c.sites.result.now) (length c.as_slice.result.now) (length c.leaves.result.now) (length catalogue.sites) (length catalogue.relations) (length (catalogue_leaves catalogue))
    c.in_ok-writeln.ensures.bytes (ap length c.sites.ensures) (ap length (c.as_slice.ensures ∙ c.schema.ensures.schemas) ∙ length-map _ _) (ap length c.leaves.ensures.leaves)
