-- Why `needed_nodes::put_joined` meets its contract.
use Rattle.std.proofs.Common.{rules, ◌≡◌, ◌++◌, ◌∙◌, List, [], ◌∷◌, length, refl, sym, subst, arith}
use Rattle.catalog.specs.Relation.{catalogue_of}
use Rattle.plan.specs.declared.need.Need.{Need}
use Rattle.plan.specs.declared.postfix.Node.TheVariants as node
use Rattle.plan.specs.Located.{IsOfNeeds}
use Rattle.plan.specs.Shape.{Empty}
use Rattle.plan.proofs.Putting.{puts_empty}
use Rattle.plan.proofs.needed_nodes.put_joined.Goals as goal

no_need : (needs : List Need) → length needs ≡ 0 → needs ≡ []
no_need [] none = refl
no_need (need ∷ needs) none = absurd (omega (arith, none))

pub returns-in_default : goal.returns-in_default
returns-in_default c =
    let catalogue = catalogue_of c.args.catalog.now in
    let needed = c.args.needs.now in
    let few : length c.as_slice.result.now ≡ 0 = c.in_default.ensures.cases in
    let none : needed.relations ≡ [] = sym c.as_slice.ensures ∙ no_need c.as_slice.result.now few in
    let put : c.push.new.self.items ≡ c.args.out.now.items ++ node.Empty ∷ [] = search rules in
    let Needs : List Need → Type 0 = λ needs. IsOfNeeds catalogue needed.links needs Empty in
    puts_empty (IsOfNeeds catalogue needed.links needed.relations) c.args.fetches.now c.args.out.now.items c.push.new.self.items (subst Needs (sym none) refl) put
