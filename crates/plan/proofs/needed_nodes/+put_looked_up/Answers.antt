-- Why `needed_nodes::put_looked_up` meets its contract.
use Rattle.std.proofs.Common.{rules, ◌≡◌, ◌++◌, [], ◌∷◌}
use Rattle.catalog.specs.Relation.{catalogue_of}
use Rattle.plan.specs.declared.postfix.Node.TheVariants as node
use Rattle.plan.proofs.Putting.{puts_looked_up}
use Rattle.plan.proofs.needed_nodes.+put_looked_up.Goals as goal

pub returns : goal.returns
returns t c = λ before left here.
    let arm = c.in-Some-Some in
    let put : c.push.new.self.items ≡ c.put_side.new.out.items ++ node.Lookup arm.link.now.place arm.link.now.key ∷ [] = search rules in
    puts_looked_up (catalogue_of c.args.catalog.now) c.args.links.now arm.links.now c.args.needs.now arm.needs.now arm.link.now arm.need.now left c.args.fetches.now before c.args.out.now.items c.put_side.new.out.items c.push.new.self.items c.put_looked_up.new.out.items c.put_looked_up.result
    arm.ensures.cases.0 arm.ensures'.cases.0 here c.in_ok-put_side.ensures put c.put_looked_up.ensures
