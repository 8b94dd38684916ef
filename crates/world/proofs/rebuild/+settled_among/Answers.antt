-- Why `settled_among` meets its contract.
use Rattle.std.proofs.Common.{rules, ◌∷◌, sym, subst}
use Rattle.world.specs.Counted.{NoFewer, counts_of}
use Rattle.world.proofs.Counting.{no_fewer}
use Rattle.world.proofs.rebuild.+settled_among.Goals as goal

pub returns-clause-leaves : goal.returns-clause-leaves
returns-clause-leaves g t c = record {
  clean = search rules;
  sound = search rules;
  counts = let refused = g.S.SiteStore.refused in
      let rest = c.in-Some.rest.now in
      subst (λ all. NoFewer (counts_of refused all) (counts_of refused (c.settled_in.new.site ∷ rest))) (sym c.in-Some.ensures.cases.0) (c.settled_in.ensures.leaves.counts, no_fewer (counts_of refused rest));
}
