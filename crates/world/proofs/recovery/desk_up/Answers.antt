-- Why `desk_up` meets its contract.
use Rattle.std.proofs.Common.{◌≡◌, refl, sym, subst, ⊎_elim, map}
use Rattle.catalog.specs.Relation.{catalogue_of}
use Rattle.desk.specs.declared.refusal.Refusal.{Refusal}
use Rattle.world.specs.declared.fault.Fault.TheVariants.{Desk}
use Rattle.world.specs.Recovery.{StopsOpening}
use Rattle.world.proofs.OfChain.{schemas_are, sites_are}
use Rattle.world.proofs.recovery.desk_up.Goals as goal

pub returns-in-Ok-clause-up : goal.returns-in-Ok-clause-up
returns-in-Ok-clause-up g c = record {
  leaves_store = c.in-Ok.ensures.leaves_store;
  learnt = c.in-Ok.ensures.learnt;
  rises = λ db over. c.in-Ok.ensures.ok db over;
  life = c.in-Ok.ensures.life;
  memory = record { entries = c.in-Ok.desk.volatile.standings.entries; is = refl; ascend = c.in-Ok.ensures.ordered };
}

pub returns-in-Ok-clause-sites : goal.returns-in-Ok-clause-sites
returns-in-Ok-clause-sites g c = sites_are c.args.chain.now c.as_slice-catalogs.ensures.chain c.in-Ok.desk.volatile.version c.in-Ok.desk.catalog (map catalogue_of c.in-Ok.desk.later.items) c.in-Ok.ensures.catalogs

pub returns-in-Ok-clause-schemas : goal.returns-in-Ok-clause-schemas
returns-in-Ok-clause-schemas g c = λ first rest same. schemas_are first rest (map catalogue_of c.args.chain.now) c.as_slice-catalogs.ensures.chain same c.in-Ok.desk.volatile.version (catalogue_of c.in-Ok.desk.catalog) (map catalogue_of c.in-Ok.desk.later.items) c.in-Ok.ensures.catalogs

pub returns-in-Err-clause-own : goal.returns-in-Err-clause-own
returns-in-Err-clause-own g c =
    ⊎_elim (λ is. stops is tt) (λ more. ⊎_elim (λ is. stops is tt) (λ rest. ⊎_elim (λ is. stops is tt) (λ last. ⊎_elim (λ is. stops is tt) (λ is. stops is tt) last) rest) more) c.in-Err.ensures.own
  where
    stops : {refusal : Refusal} → c.in-Err.unstarted.refusal ≡ refusal → StopsOpening (Desk refusal) → StopsOpening (Desk c.in-Err.unstarted.refusal)
    stops is so = subst (λ r. StopsOpening (Desk r)) (sym is) so
