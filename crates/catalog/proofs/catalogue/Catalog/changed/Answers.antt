-- Why `catalogue::Catalog::changed` meets its contract.
use Rattle.std.proofs.Common.{ap, map, sym, ℕ, List, ◌∙◌}
use Rattle.catalog.specs.declared.relation.SplitRelation as code
use Rattle.catalog.specs.Relation.{catalogue_of, relation_of}
use Rattle.catalog.proofs.Chains.{no_next}
use Rattle.catalog.proofs.catalogue.Catalog.changed.Goals as goal

pub returns-in-None : goal.returns-in-None
returns-in-None c =
    no_next (catalogue_of c.args.self.now) (catalogue_of c.args.next.now) (map relation_of c.as_slice-3.result.now) (map relation_of c.as_slice-4.result.now)
    (ap (λ (v : List (List ℕ) × List code.SplitRelation). map relation_of v.1) (sym c.self.view_is) ∙ ap (map relation_of) (sym c.as_slice-3.ensures.value))
    (ap (λ (v : List (List ℕ) × List code.SplitRelation). map relation_of v.1) (sym c.next.view_is) ∙ ap (map relation_of) (sym c.as_slice-4.ensures.value))
    c.in-None.ensures
