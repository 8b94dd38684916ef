-- Why `take` meets its contract.
use Rattle.std.proofs.Common.{rules, ◌≡◌, refl, ◌∙◌, sym, ap, subst, true, false, nat_eq, List, ℕ}
use Rattle.std.specs.Cmp.Lexicographic.{pointwise}
use Rattle.std.specs.List.{list_any}
use Rattle.catalog.specs.Catalogue.{Catalogue}
use Rattle.world.specs.Counted.{HaveRefused, counts}
use Rattle.world.specs.Contents.{held}
use Rattle.world.proofs.Counting.{fit_uncounted, no_fewer, spared_so, tells_counted}
use Rattle.world.proofs.Deliveries.{was_taken}
use Rattle.world.proofs.Listing.{stands_single}
use Rattle.world.proofs.Machinery.{fits_list}
use Rattle.world.proofs.SiteSteps.{if_ok}
use Rattle.world.proofs.Refusing.{if_err}
use Rattle.catalog.specs.Relation.{catalogue_of}
use Rattle.world.proofs.ListDelivering.{of_site_of}
use Rattle.world.proofs.Leaves.{ends_same}
use Rattle.world.proofs.mailbox.take.Goals as goal

pub returns-clause-ok : goal.returns-clause-ok
returns-clause-ok g c = λ db of is clean sound fit.
    let named : List (List ℕ) → Type 0 = λ sites. list_any (λ site. pointwise nat_eq site c.args.letter.site) sites ≡ true in
    let there = sym c.has_site.ensures ∙ c.if-not-has_site.false in
    let of_site = subst named (sym (of.sites _ ∙ ap (λ (x : Catalogue). x.sites) is)) (subst (λ x. list_any (λ site. pointwise nat_eq site c.args.letter.site) x.0 ≡ true) c.catalog.ensures there) in
    let before = held g.D.DeskStore.kept g.S.SiteStore.kept c.args.machines.now in
    let after = held g.D.DeskStore.kept g.S.SiteStore.kept c.deliver.new.self in
    let old = counts g.D.DeskStore.refused g.S.SiteStore.refused c.args.machines.now in
    let new = counts g.D.DeskStore.refused g.S.SiteStore.refused c.deliver.new.self in
    if_ok c.deliver.result (λ out taken. was_taken db c.args.letter before after out.letters out.replies old new c.deliver.ensures.leaves.counts (spared_so (HaveRefused old new) db c.args.letter before after out.letters out.replies taken))
    (c.deliver.ensures.spared db of is clean sound (fit_uncounted db before old fit) of_site)

pub returns-then-not-has_site-clause-leaves : goal.returns-then-not-has_site-clause-leaves
returns-then-not-has_site-clause-leaves g c = record {
  clean = search rules;
  sound = search rules;
  counts = no_fewer (counts g.D.DeskStore.refused g.S.SiteStore.refused c.args.machines.now);
  catalogs = ends_same refl;
}

pub returns-then-not-has_site-clause-told : goal.returns-then-not-has_site-clause-told
returns-then-not-has_site-clause-told g c = λ db of is fit.
    let named : List (List ℕ) → Type 0 = λ sites. list_any (λ site. pointwise nat_eq site c.args.letter.site) sites ≡ false in
    let apart = sym c.has_site.ensures ∙ c.if-not-has_site.true in
    subst named (sym (of.sites _ ∙ ap (λ (x : Catalogue). x.sites) is)) (subst (λ x. list_any (λ site. pointwise nat_eq site c.args.letter.site) x.0 ≡ false) c.catalog.ensures apart)

pub returns-clause-told : goal.returns-clause-told
returns-clause-told g c = λ db of is fit.
    let named : List (List ℕ) → Type 0 = λ sites. list_any (λ site. pointwise nat_eq site c.args.letter.site) sites ≡ true in
    let there = sym c.has_site.ensures ∙ c.if-not-has_site.false in
    let of_site = subst named (sym (of.sites _ ∙ ap (λ (x : Catalogue). x.sites) is)) (subst (λ x. list_any (λ site. pointwise nat_eq site c.args.letter.site) x.0 ≡ true) c.catalog.ensures there) in
    let before = held g.D.DeskStore.kept g.S.SiteStore.kept c.args.machines.now in
    let old = counts g.D.DeskStore.refused g.S.SiteStore.refused c.args.machines.now in
    if_err c.deliver.result (λ fault why. tells_counted db before old c.args.letter fault why) (c.deliver.ensures.told db of (stands_single db c.args.machines.now.desk is fit.single) (fits_list db before (fit_uncounted db before old fit)) of_site)

pub returns-clause-blames : goal.returns-clause-blames
returns-clause-blames g c = c.deliver.ensures.blames refl

pub returns-clause-lists : goal.returns-clause-lists
returns-clause-lists g c = λ db listed stands clean sound fits.
    let there = subst (λ x. list_any (λ site. pointwise nat_eq site c.args.letter.site) x.0 ≡ true) c.catalog.ensures (sym c.has_site.ensures ∙ c.if-not-has_site.false) in
    c.deliver.ensures.lists db listed.base.of_catalogue stands clean sound fits (of_site_of db _ (catalogue_of c.args.machines.now.desk.catalog) c.args.letter.site listed.base.of_catalogue stands.here there)

pub returns-then-not-has_site-clause-stays : goal.returns-then-not-has_site-clause-stays
returns-then-not-has_site-clause-stays g c = record { version = refl; catalog = refl; later = refl }

pub returns-clause-keeps : goal.returns-clause-keeps
returns-clause-keeps g c = λ db listed stands clean sound fits.
    let there = subst (λ x. list_any (λ site. pointwise nat_eq site c.args.letter.site) x.0 ≡ true) c.catalog.ensures (sym c.has_site.ensures ∙ c.if-not-has_site.false) in
    c.deliver.ensures.keeps db listed.base.of_catalogue stands.here clean sound fits (of_site_of db _ (catalogue_of c.args.machines.now.desk.catalog) c.args.letter.site listed.base.of_catalogue stands.here there)

pub returns-clause-reasons : goal.returns-clause-reasons
returns-clause-reasons g c = λ db listed stands fits.
    let there = subst (λ x. list_any (λ site. pointwise nat_eq site c.args.letter.site) x.0 ≡ true) c.catalog.ensures (sym c.has_site.ensures ∙ c.if-not-has_site.false) in
    c.deliver.ensures.told db listed.base.of_catalogue stands fits (of_site_of db _ (catalogue_of c.args.machines.now.desk.catalog) c.args.letter.site listed.base.of_catalogue stands.here there)

pub returns-then-not-has_site-clause-reasons : goal.returns-then-not-has_site-clause-reasons
returns-then-not-has_site-clause-reasons g c = λ db listed stands fits.
    let of = listed.base.of_catalogue in
    let named : List (List ℕ) → Type 0 = λ sites. list_any (λ site. pointwise nat_eq site c.args.letter.site) sites ≡ false in
    let apart = sym c.has_site.ensures ∙ c.if-not-has_site.true in
    subst named (sym (of.sites _ ∙ ap (λ (x : Catalogue). x.sites) stands.here)) (subst (λ x. list_any (λ site. pointwise nat_eq site c.args.letter.site) x.0 ≡ false) c.catalog.ensures apart)
