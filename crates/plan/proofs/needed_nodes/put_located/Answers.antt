-- Why `needed_nodes::put_located` meets its contract.
use Rattle.std.proofs.Common.{rules, ◌≡◌, ◌++◌, List, [], ◌∷◌, ap, subst}
use Rattle.terms.specs.declared.cond.Cond.{Cond}
use Rattle.catalog.specs.Relation.{catalogue_of}
use Rattle.plan.specs.declared.need.Needs.{Needs}
use Rattle.plan.specs.declared.postfix.Node.TheVariants as node
use Rattle.plan.specs.Located.{IsLocated, IsOfNeeds}
use Rattle.plan.specs.Shape.{Shape, Filter}
use Rattle.plan.proofs.Putting.{puts_filter}
use Rattle.plan.proofs.needed_nodes.put_located.Goals as goal

pub returns : goal.returns
returns c =
    let catalogue = catalogue_of c.args.catalog.now in
    let needed = c.args.needs.now in
    let conds = c.in_ok-conds.conds in
    let put : c.push.new.self.items ≡ c.put_joined.new.out.items ++ node.Filter conds ∷ [] = search rules in
    let Of : Shape → Needs → Type 0 = λ below ns. IsOfNeeds catalogue ns.links ns.relations below in
    puts_filter (IsOfNeeds catalogue needed.links needed.relations) (IsLocated catalogue c.args.statement.now) c.args.fetches.now conds c.args.out.now.items c.put_joined.new.out.items c.push.new.self.items
    (λ below is. (below, ap (λ (cs : List Cond). Filter cs below) c.in_ok-conds.ensures, subst (Of below) c.requires is))
    c.in_ok-put_joined.ensures put
