use Rattle.std.proofs.Common.{◌≡◌, ◌∷◌, map, flat_map, ap, sym, ◌∙◌, rules}
use Rattle.std.specs.Prelude.{nat_eq}
use Rattle.std.specs.Cmp.Lexicographic.{pointwise}
use Rattle.catalog.specs.FragmentLeaf.{leaf_counts, leaves_in, leaves_of, relation_named}
use Rattle.catalog.specs.Relation.{relation_of}
use Rattle.catalog.proofs.LookUps.{enough_leaves, first_count, first_leaves, other_counts, other_leaves, leaves_here}
use Rattle.catalog.proofs.fragment_leaf.+leaves_among.Goals as goal

pub split_at-requires : goal.split_at-requires
split_at-requires t c =
    let first = relation_of c.in-Some.first.now in
    let others = map relation_of c.in-Some.relations.now in
    let same : map relation_of c.args.relations.now ≡ first ∷ others = ap (map relation_of) c.in-Some.ensures.cases.0 in
    let counted = c.requires.1.1.0 ∙ ap leaf_counts same in
    enough_leaves first others c.args.leaves.now _ (c.requires.1.1.1 ∙ ap (flat_map leaves_of) same) (first_count first others c.args.counts.now counted)

pub returns-then-eq : goal.returns-then-eq
returns-then-eq t c =
    let first = relation_of c.in-Some.first.now in
    let others = map relation_of c.in-Some.relations.now in
    let same : map relation_of c.args.relations.now ≡ first ∷ others = ap (map relation_of) c.in-Some.ensures.cases.0 in
    let counted = c.requires.1.1.0 ∙ ap leaf_counts same in
    c.split_at.ensures.front
    ∙ first_leaves first others c.args.leaves.now _ (c.requires.1.1.1 ∙ ap (flat_map leaves_of) same) (first_count first others c.args.counts.now counted)
    ∙ sym (ap (λ relations. leaves_in (relation_named c.args.name.now relations)) same ∙ leaves_here c.args.name.now first others (ap (λ own. pointwise nat_eq own c.args.name.now) (sym c.as_str.ensures) ∙ sym c.eq.ensures ∙ c.if-eq.true))

pub leaves_among-requires : goal.leaves_among-requires
leaves_among-requires t c =
    let first = relation_of c.in-Some.first.now in
    let others = map relation_of c.in-Some.relations.now in
    let same : map relation_of c.args.relations.now ≡ first ∷ others = ap (map relation_of) c.in-Some.ensures.cases.0 in
    let counted = c.requires.1.1.0 ∙ ap leaf_counts same in (
      search rules,
      (
        other_counts first others c.args.counts.now counted,
        c.split_at.ensures.back ∙ other_leaves first others c.args.leaves.now _ (c.requires.1.1.1 ∙ ap (flat_map leaves_of) same) (first_count first others c.args.counts.now counted),
      ),
    )
