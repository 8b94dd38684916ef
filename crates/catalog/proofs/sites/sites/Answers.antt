use Rattle.std.proofs.Common.{ℕ, List, add-one, map, refl, subst, ◌∙◌}
use Rattle.std.proofs.lemmas.Result.{err_from_is_err_and}
use Rattle.catalog.specs.Catalogue.{IsSiteName}
use Rattle.catalog.specs.Sites.{IsNextSite}
use Rattle.catalog.proofs.BranchConds.{all_more}
use Rattle.catalog.proofs.Distinct.{distinct_more, taken_more}
use Rattle.catalog.proofs.SiteNames.{next_of_sites, refuses_sites}
use Rattle.catalog.proofs.TextBreaks.{site_break}
use Rattle.catalog.proofs.sites.sites.Goals as goal

pub loop-text-preserved : goal.loop-text-preserved
loop-text-preserved c =
    let site = c.in_ok-site.site in
    let P : List (List ℕ) → Type 0 = λ before. IsNextSite before site in
    let next : IsNextSite c.loop-text.sites.items site = subst P c.as_slice.ensures.value c.in_ok-site.ensures.next in
    record {
      found = rw (add-one, c.in_ok-push.ensures.items) (taken_more (λ text. text.now) c.args.texts.now c.loop-text.text-index _ _ c.loop-text.sites.items site refl c.loop-text-test.true c.loop-text.invariant.found c.in_ok-site.ensures.found);
      names = rw c.in_ok-push.ensures.items (all_more IsSiteName c.loop-text.sites.items site c.loop-text.invariant.names next.name);
      distinct = rw c.in_ok-push.ensures.items (distinct_more c.loop-text.sites.items site c.loop-text.invariant.distinct next.new);
    }

pub returns-in_err-site-clause-none : goal.returns-in_err-site-clause-none
returns-in_err-site-clause-none c =
    let p = err_from_is_err_and c.from_residual.result c.from_residual.ensures.1 in
    rw (p.1, p.2) (refuses_sites (map (λ text. text.now) c.args.texts.now) c.as_slice.result.now _ c.in_err-site.field-0.0
    (next_of_sites (λ text. text.now) c.args.texts.now c.loop-text.text-index _ _ c.as_slice.result.now refl c.loop-text-test.true (c.as_slice.ensures.value ∙ c.loop-text.invariant.found))
    c.in_err-site.ensures.none)

pub returns-in_err-site-clause-breaks : goal.returns-in_err-site-clause-breaks
returns-in_err-site-clause-breaks c =
    let p = err_from_is_err_and c.from_residual.result c.from_residual.ensures.1 in
    rw (p.1, p.2) (site_break (λ text. text.now) c.args.texts.now c.loop-text.text-index _ _ c.as_slice.result.now c.in_err-site.field-0.0 refl c.loop-text-test.true (c.as_slice.ensures.value ∙ c.loop-text.invariant.found) c.in_err-site.ensures.fault)
