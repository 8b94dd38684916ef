-- Why `reduce::reduce` meets its contract.
use Rattle.std.proofs.Common.{rules, ◌≡◌, sym, subst}
use Rattle.std.specs.List.{Contains}
use Rattle.plan.specs.Reduced.{is_fetched, reduced}
use Rattle.plan.specs.Shape.{Shape, shape}
use Rattle.plan.specs.Uniform.{EachRead}
use Rattle.plan.proofs.reduce.reduce.Goals as goal

pub returns-clause-fetched : goal.returns-clause-fetched
returns-clause-fetched c =
    let fetches = c.in_ok-fetches.fetches.items in
    let is : shape c.in_ok-plan.plan ≡ reduced (is_fetched fetches) (shape c.args.plan) = search rules in
    let P : Shape → Type 0 = EachRead (λ read. Contains fetches read) in
    subst P (sym is) (c.requires.plan fetches c.requires.statement c.in_ok-fetches.ensures).fetched
