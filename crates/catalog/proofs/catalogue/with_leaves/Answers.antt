use Rattle.std.proofs.Common.{ap, ◌∙◌, map, flat_map}
use Rattle.catalog.specs.FragmentLeaf.{leaf_counts, leaves_of}
use Rattle.catalog.specs.Relation.{relation_of}
use Rattle.catalog.proofs.catalogue.with_leaves.Goals as goal

pub invariant_of-result : goal.invariant_of-result
invariant_of-result c = record {
  valid = c.requires.valid;
  formed = c.requires.formed;
  schemas = c.in_ok-schema.ensures ∙ ap (λ relations. map (λ relation. relation.schema) (map relation_of relations)) c.as_slice.ensures.value;
  listed = c.in_ok-leaves.ensures ∙ ap (λ relations. flat_map leaves_of (map relation_of relations)) c.as_slice-2.ensures.value;
  counted = c.in_ok-counts.ensures ∙ ap (λ relations. leaf_counts (map relation_of relations)) c.as_slice-3.ensures.value;
}
