-- Why `settled_parts` meets its contract.
use Rattle.std.proofs.Common.{rules, ◌≡◌, ◌∙◌, ◌∷◌, ap, sym, subst, length, Some, inr}
use Rattle.std.specs.List.{AllByRecursion}
use Rattle.std.specs.Vec.{with_items}
use Rattle.std.proofs.lemmas.List.{with_items_is}
use Rattle.catalog.specs.Relation.{catalogue_of}
use Rattle.desk.specs.Place.{site_in}
use Rattle.world.specs.declared.fault.Fault.TheVariants as fault
use Rattle.world.specs.Counted.{counts, counts_of}
use Rattle.world.specs.Fault.{FailsFor}
use Rattle.world.specs.Contents.{held}
use Rattle.world.specs.Seated.{seats_in}
use Rattle.world.specs.Sites.{seat_of}
use Rattle.world.proofs.Counting.{no_fewer}
use Rattle.world.proofs.Failing.{fails_so}
use Rattle.world.proofs.Rebuilt.{site_seated}
use Rattle.world.proofs.rebuild.settled_parts.Goals as goal

pub returns-in_default-clause-leaves : goal.returns-in_default-clause-leaves
returns-in_default-clause-leaves g c = record {
  clean = search rules;
  sound = search rules;
  counts = no_fewer (counts g.D.DeskStore.refused g.S.SiteStore.refused c.args.machines.now);
  catalog = search rules;
  later = search rules;
}

pub returns-in-Err-clause-fails : goal.returns-in-Err-clause-fails
returns-in-Err-clause-fails g c = λ clean sound fit.
    let start = c.args.machines.now in
    let refused = g.S.SiteStore.refused in
    let desk = g.D.DeskStore.refused start.desk.store in
    let catalogue = catalogue_of start.desk.catalog in
    let there : site_in catalogue c.args.leaf.now ≡ Some c.in-Some.place.now = ap (λ x. site_in (catalogue_of x) c.args.leaf.now) (sym c.catalog.ensures) ∙ sym c.in-Some.ensures in
    let one = site_seated catalogue (held g.D.DeskStore.kept g.S.SiteStore.kept start) c.args.leaf.now c.in-Some.place.now fit there in
    let sites = start.sites.items in
    let new = c.settled_among.new.sites in
    let value = c.as_mut_slice.ensures.value in
    let same : (with_items start.sites new).items ≡ new = with_items_is start.sites new (c.settled_among.auto.sites ∙ ap length value ∙ sym start.sites.ok.0) in
    let sound_there = subst (AllByRecursion (λ site. g.S.SiteStore.is_sound site.store)) (sym value) sound.1 in
    let seat_there = subst (λ all. seat_of c.in-Some.place.now (seats_in g.S.SiteStore.kept all) ≡ Some one.0) (sym value) one.1 in
    let why = c.in-Err.ensures.fails one.0 (subst (AllByRecursion (λ site. g.S.SiteStore.is_clean site.store)) same clean.1) sound_there seat_there in
    subst (λ all. FailsFor (desk ∷ counts_of refused sites) (desk ∷ counts_of refused all) (fault.Site c.in-Err.fault)) (sym same)
    (fails_so (counts_of refused sites) (counts_of refused new) (desk ∷ counts_of refused sites) (desk ∷ counts_of refused new) (λ there. inr there) (fault.Site c.in-Err.fault)
    (subst (λ all. FailsFor (counts_of refused all) (counts_of refused new) (fault.Site c.in-Err.fault)) value why))
