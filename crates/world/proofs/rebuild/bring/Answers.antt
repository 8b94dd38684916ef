-- Why `bring` meets its contract.
use Rattle.std.proofs.Common.{rules, ◌≡◌, ◌∙◌, ℕ, ◌+◌, ◌++◌, ◌∷◌, [], refl, ap, ap₂, sym, subst, List, map, take}
use Rattle.std.proofs.lemmas.List.{map-append, take_all, take_more}
use Rattle.meaning.specs.Whole.{Relations}
use Rattle.catalog.specs.declared.relation.SplitRelation.{SplitRelation}
use Rattle.catalog.specs.Relation.{catalogue_of}
use Rattle.plan.specs.declared.fetch.Fetch.{Fetch}
use Rattle.answers.specs.FetchRows.{FetchRows}
use Rattle.world.specs.Counted.{counts}
use Rattle.world.specs.Contents.{OfStores, held}
use Rattle.world.specs.Machines.{Machines}
use Rattle.world.specs.Settled.{AreDecided, HasSitesOf, SettlesTo, brought_of}
use Rattle.world.proofs.Counting.{no_fewer, no_fewer_then}
use Rattle.world.proofs.Failing.{fails_on, fails_since, fit_still}
use Rattle.world.proofs.rebuild.bring.Goals as goal

pub loop-fetch-init : goal.loop-fetch-init
loop-fetch-init g c = (
  λ clean. clean,
  λ clean sound. sound,
  λ clean sound. refl,
  refl,
  refl,
  λ whole clean sound fit those are. c.new-brought.ensures.items,
  no_fewer (counts g.D.DeskStore.refused g.S.SiteStore.refused c.args.machines.now),
)

pub loop-fetch-preserved : goal.loop-fetch-preserved
loop-fetch-preserved g c =
    let D = g.D.DeskStore in
    let S = g.S.SiteStore in
    let of = held D.kept S.kept in
    let all = c.loop-fetch.invariant in
    let start = c.args.machines.now in
    let mid = c.loop-fetch.machines in
    let now = c.bring_one.new.machines in
    let step = c.in_ok-bring_one.ensures in
    let fetch = c.fetch-item.result in
    let row = c.in_ok-bring_one.field-0 in
    let fetches = c.args.fetches.now in
    let i = c.loop-fetch.fetch-index in
    let Brings : List (List ℕ) × List SplitRelation → Machines → Type 0 = λ x machines. (whole : Relations) → OfStores D.is_clean S.is_clean now → OfStores D.is_sound S.is_sound mid → HasSitesOf (catalogue_of x) machines → SettlesTo (catalogue_of x) machines whole →
    AreDecided machines.table c.args.decided.now → row ≡ brought_of (catalogue_of x) whole fetch in (
      λ clean. all.0 (step.leaves.clean clean),
      λ clean sound. step.leaves.sound clean (all.1 (step.leaves.clean clean) sound),
      λ clean sound. step.same clean (all.1 (step.leaves.clean clean) sound) ∙ all.2 (step.leaves.clean clean) sound,
      step.leaves.catalog ∙ all.3,
      step.leaves.later ∙ all.4,
      λ whole clean sound fit those are.
          let mid_clean = step.leaves.clean clean in
          let mid_sound = all.1 mid_clean sound in
          let brings = subst (Brings start.desk.catalog) (all.2 mid_clean sound) (subst (λ x. Brings x (of mid)) all.3 step.brought) in
          let bring = brought_of (catalogue_of start.desk.catalog) whole in
          let one_more : take (i + 1) fetches ≡ take i fetches ++ fetch ∷ [] = take_more fetches i fetch c.loop-fetch-test.true ∙ ap (λ (f : Fetch). take i fetches ++ f ∷ []) (sym c.fetch-item.is) in
          c.in_ok-push.ensures.items
          ∙ ap₂ (λ (front : List FetchRows) (last : FetchRows). front ++ last ∷ []) (all.5 whole mid_clean sound fit those are) (brings whole clean mid_sound fit those are)
          ∙ sym (ap (map bring) one_more ∙ map-append bring (take i fetches) (fetch ∷ [])),
      no_fewer_then (counts D.refused S.refused start) (counts D.refused S.refused mid) (counts D.refused S.refused now) all.6 step.leaves.counts,
    )

pub returns-clause-brought : goal.returns-clause-brought
returns-clause-brought g c = λ whole clean sound fit those are.
    c.loop-fetch.invariant.5 whole clean sound fit those are ∙ ap (map (brought_of (catalogue_of c.args.machines.now.desk.catalog) whole)) (take_all c.loop-fetch.fetch-index c.args.fetches.now c.loop-fetch-test.false)

pub returns-in_err-bring_one-clause-leaves : goal.returns-in_err-bring_one-clause-leaves
returns-in_err-bring_one-clause-leaves g c = record {
  clean = search rules;
  sound = search rules;
  counts = let of = counts g.D.DeskStore.refused g.S.SiteStore.refused in
      no_fewer_then (of c.args.machines.now) (of c.loop-fetch.machines) (of c.bring_one.new.machines) c.loop-fetch.invariant.6 c.bring_one.ensures.leaves.counts;
  catalog = search rules;
  later = search rules;
}

pub returns-in_err-push-clause-leaves : goal.returns-in_err-push-clause-leaves
returns-in_err-push-clause-leaves g c = record {
  clean = search rules;
  sound = search rules;
  counts = let of = counts g.D.DeskStore.refused g.S.SiteStore.refused in
      no_fewer_then (of c.args.machines.now) (of c.loop-fetch.machines) (of c.bring_one.new.machines) c.loop-fetch.invariant.6 c.bring_one.ensures.leaves.counts;
  catalog = search rules;
  later = search rules;
}

pub returns-in_err-bring_one-clause-fails : goal.returns-in_err-bring_one-clause-fails
returns-in_err-bring_one-clause-fails g c = λ clean sound fit.
    let of = counts g.D.DeskStore.refused g.S.SiteStore.refused in
    let content = held g.D.DeskStore.kept g.S.SiteStore.kept in
    let all = c.loop-fetch.invariant in
    let start = c.args.machines.now in
    let mid = c.loop-fetch.machines in
    let now = c.bring_one.new.machines in
    let mid_clean = c.bring_one.ensures.leaves.clean clean in
    let mid_fit = fit_still start.desk.catalog mid.desk.catalog (content start) (content mid) all.3 (all.2 mid_clean sound) fit in
    let told = c.in_err-bring_one.field-0.0 in
    fails_on c.from_residual.result told (of start) (of now) c.from_residual.ensures.1 (fails_since (of start) (of mid) (of now) all.6 told (c.in_err-bring_one.ensures.fails clean (all.1 mid_clean sound) mid_fit))
