-- Why `deliver` meets its contract.
use Rattle.world.proofs.Leaves.{database_still}
use Rattle.std.proofs.Common.{◌≡◌, ◌∙◌, inl, refl, sym, ap, rules, subst, not, false, true, nat_eq, List, ℕ, Some}
use Rattle.protocol.proofs.Basics.{clash}
use Rattle.world.specs.Events.{is_unsent}
use Rattle.world.specs.Sites.{has_site}
use Rattle.std.specs.Cmp.Lexicographic.{pointwise}
use Rattle.std.specs.List.{list_any}
use Rattle.std.specs.Option.{option_copied, option_map_or}
use Rattle.catalog.specs.Catalogue.{Catalogue}
use Rattle.world.specs.declared.event.Event.TheVariants as event
use Rattle.world.specs.Counted.{HaveRefused, counts}
use Rattle.world.specs.Contents.{OfStores, counted, held}
use Rattle.world.proofs.Counting.{tells_counted, with_counts}
use Rattle.world.proofs.SiteSteps.{if_ok}
use Rattle.world.proofs.Refusals.{letter_refused, unsent_refused}
use Rattle.world.proofs.Refusing.{if_err}
use Rattle.world.proofs.Running.{list_spared_on}
use Rattle.world.proofs.ListRunning.{list_comes_on}
use Rattle.world.proofs.Listing.{desk_stays}
use Rattle.world.proofs.SiteSteps.{on_any_err}
use Rattle.world.proofs.machines.deliver.Goals as goal

pub returns-clause-spared : goal.returns-clause-spared
returns-clause-spared g c = λ db past of stands clean sound fit.
    let before = held g.D.DeskStore.kept g.S.SiteStore.kept c.args.machines.now in
    let after = held g.D.DeskStore.kept g.S.SiteStore.kept c.deliver.new.self in
    let letter = c.in_ok-again.again in
    let same = c.in_ok-again.ensures in
    let there = sym c.letter.ensures ∙ ap option_copied c.in-Some.is ∙ ap Some (sym same) in
    let named : List (List ℕ) → Type 0 = λ sites. list_any (λ site. pointwise nat_eq site letter.site) sites ≡ true in
    let there_too = sym c.has_site.ensures ∙ c.if-not-has_site.false in
    let of_site = subst named (sym (of.sites _ ∙ ap (λ (x : Catalogue). x.sites) stands.here)) (subst (λ l. list_any (λ site. pointwise nat_eq site l.site) c.args.machines.now.desk.catalog.0 ≡ true) (sym same) (subst (λ x. list_any (λ site. pointwise nat_eq site c.in-Some.letter.now.site) x.0 ≡ true) c.catalog.ensures there_too)) in
    if_ok c.deliver.result (λ out taken. list_spared_on (HaveRefused (counts g.D.DeskStore.refused g.S.SiteStore.refused c.args.machines.now) (counts g.D.DeskStore.refused g.S.SiteStore.refused c.deliver.new.self)) db before after c.args.log.now.items past out c.args.number letter c.args.kept there taken)
    (c.deliver.ensures.spared_lists db of stands clean sound fit of_site)

pub returns-in_err-again-clause-nowhere : goal.returns-in_err-again-clause-nowhere
returns-in_err-again-clause-nowhere g c = λ none.
    let there = sym c.letter.ensures ∙ ap option_copied c.in-Some.is in
    let tested = sym c.has_site.ensures ∙ c.if-not-has_site.false in
    let found = subst (λ x. list_any (λ site. pointwise nat_eq site c.in-Some.letter.now.site) x.0 ≡ true) c.catalog.ensures tested in
    clash (subst (λ o. option_map_or (λ letter. not (has_site c.args.machines.now.desk.catalog.0 letter.site)) o true ≡ true) there none) (ap not found)

pub returns-clause-nowhere : goal.returns-clause-nowhere
returns-clause-nowhere g c = λ none.
    let there = sym c.letter.ensures ∙ ap option_copied c.in-Some.is in
    let tested = sym c.has_site.ensures ∙ c.if-not-has_site.false in
    let found = subst (λ x. list_any (λ site. pointwise nat_eq site c.in-Some.letter.now.site) x.0 ≡ true) c.catalog.ensures tested in
    clash (subst (λ o. option_map_or (λ letter. not (has_site c.args.machines.now.desk.catalog.0 letter.site)) o true ≡ true) there none) (ap not found)

pub returns-clause-refused : goal.returns-clause-refused
returns-clause-refused g c = λ db of stands fit.
    let D = g.D.DeskStore in
    let S = g.S.SiteStore in
    let old = c.args.machines.now in
    let new = c.deliver.new.self in
    let before = held D.kept S.kept old in
    let a = counts D.refused S.refused old in
    let letter = c.in_ok-again.again in
    let same = c.in_ok-again.ensures in
    let there = sym c.letter.ensures ∙ ap option_copied c.in-Some.is ∙ ap Some (sym same) in
    let named : List (List ℕ) → Type 0 = λ sites. list_any (λ site. pointwise nat_eq site letter.site) sites ≡ true in
    let there_too = sym c.has_site.ensures ∙ c.if-not-has_site.false in
    let of_site = subst named (sym (of.sites _ ∙ ap (λ (x : Catalogue). x.sites) stands.here)) (subst (λ l. list_any (λ site. pointwise nat_eq site l.site) c.args.machines.now.desk.catalog.0 ≡ true) (sym same) (subst (λ x. list_any (λ site. pointwise nat_eq site c.in-Some.letter.now.site) x.0 ≡ true) c.catalog.ensures there_too)) in
    letter_refused (OfStores D.is_clean S.is_clean new × OfStores D.is_sound S.is_sound old) db (with_counts before a) (with_counts (held D.kept S.kept new) (counts D.refused S.refused new)) c.args.log.now.items c.args.number c.args.kept letter c.deliver.result there
    (if_err c.deliver.result (tells_counted db before a letter) (c.deliver.ensures.told db of stands fit of_site)) (λ made so. c.deliver.ensures.blames made so.0 so.1)

pub returns-in_default-clause-leaves : goal.returns-in_default-clause-leaves
returns-in_default-clause-leaves g c = database_still g.D.DeskStore.is_clean g.S.SiteStore.is_clean g.D.DeskStore.is_sound g.S.SiteStore.is_sound g.D.DeskStore.refused g.S.SiteStore.refused c.args.machines.now

pub returns-then-not-has_site-clause-leaves : goal.returns-then-not-has_site-clause-leaves
returns-then-not-has_site-clause-leaves g c = database_still g.D.DeskStore.is_clean g.S.SiteStore.is_clean g.D.DeskStore.is_sound g.S.SiteStore.is_sound g.D.DeskStore.refused g.S.SiteStore.refused c.args.machines.now

pub returns-in_err-again-clause-leaves : goal.returns-in_err-again-clause-leaves
returns-in_err-again-clause-leaves g c = database_still g.D.DeskStore.is_clean g.S.SiteStore.is_clean g.D.DeskStore.is_sound g.S.SiteStore.is_sound g.D.DeskStore.refused g.S.SiteStore.refused c.args.machines.now

pub returns-in_default-clause-refused : goal.returns-in_default-clause-refused
returns-in_default-clause-refused g c = λ db of stands fit.
    let D = g.D.DeskStore in
    let S = g.S.SiteStore in
    let old = c.args.machines.now in
    let none : is_unsent old.desk.catalog.0 c.args.log.now.items (event.Deliver c.args.number c.args.kept) ≡ true = search rules in
    unsent_refused (OfStores D.is_clean S.is_clean old × OfStores D.is_sound S.is_sound old) db (counted D.kept S.kept D.refused S.refused old) (counted D.kept S.kept D.refused S.refused old) c.args.log.now.items old.desk.catalog.0 (event.Deliver c.args.number c.args.kept)
    (of.sites _ ∙ ap (λ (x : Catalogue). x.sites) stands.here) none

pub returns-then-not-has_site-clause-refused : goal.returns-then-not-has_site-clause-refused
returns-then-not-has_site-clause-refused g c = λ db of stands fit.
    let D = g.D.DeskStore in
    let S = g.S.SiteStore in
    let old = c.args.machines.now in
    let tested = sym c.has_site.ensures ∙ c.if-not-has_site.true in
    let nowhere = subst (λ x. list_any (λ site. pointwise nat_eq site c.in-Some.letter.now.site) x.0 ≡ false) c.catalog.ensures tested in
    let there = sym c.letter.ensures ∙ ap option_copied c.in-Some.is in
    let none : is_unsent old.desk.catalog.0 c.args.log.now.items (event.Deliver c.args.number c.args.kept) ≡ true = ap (λ o. option_map_or (λ letter. not (has_site old.desk.catalog.0 letter.site)) o true) there ∙ ap not nowhere in
    unsent_refused (OfStores D.is_clean S.is_clean old × OfStores D.is_sound S.is_sound old) db (counted D.kept S.kept D.refused S.refused old) (counted D.kept S.kept D.refused S.refused old) c.args.log.now.items old.desk.catalog.0 (event.Deliver c.args.number c.args.kept)
    (of.sites _ ∙ ap (λ (x : Catalogue). x.sites) stands.here) none

pub returns-clause-ok : goal.returns-clause-ok
returns-clause-ok g c = λ db whole past of stands clean sound so.
    let before = held g.D.DeskStore.kept g.S.SiteStore.kept c.args.machines.now in
    let after = held g.D.DeskStore.kept g.S.SiteStore.kept c.deliver.new.self in
    let letter = c.in_ok-again.again in
    let same = c.in_ok-again.ensures in
    let there = sym c.letter.ensures ∙ ap option_copied c.in-Some.is ∙ ap Some (sym same) in
    let named : List (List ℕ) → Type 0 = λ sites. list_any (λ site. pointwise nat_eq site letter.site) sites ≡ true in
    let there_too = sym c.has_site.ensures ∙ c.if-not-has_site.false in
    let of_site = subst named (sym (of.sites _ ∙ ap (λ (x : Catalogue). x.sites) stands.here)) (subst (λ l. list_any (λ site. pointwise nat_eq site l.site) c.args.machines.now.desk.catalog.0 ≡ true) (sym same) (subst (λ x. list_any (λ site. pointwise nat_eq site c.in-Some.letter.now.site) x.0 ≡ true) c.catalog.ensures there_too)) in
    if_ok c.deliver.result (λ out came. (list_comes_on db whole before after c.args.log.now.items past out c.args.number letter c.args.kept so there came.0, came.1)) (c.deliver.ensures.lists db of stands clean sound so.fit of_site)

pub returns-in_default-clause-stays : goal.returns-in_default-clause-stays
returns-in_default-clause-stays g c = desk_stays c.args.machines.now c.args.machines.now refl

pub returns-then-not-has_site-clause-stays : goal.returns-then-not-has_site-clause-stays
returns-then-not-has_site-clause-stays g c = desk_stays c.args.machines.now c.args.machines.now refl

pub returns-in_err-again-clause-stays : goal.returns-in_err-again-clause-stays
returns-in_err-again-clause-stays g c = on_any_err c.from_residual.result (desk_stays c.args.machines.now c.args.machines.now refl)

pub returns-in_default-clause-follows : goal.returns-in_default-clause-follows
returns-in_default-clause-follows g c = inl (refl, refl)

pub returns-then-not-has_site-clause-follows : goal.returns-then-not-has_site-clause-follows
returns-then-not-has_site-clause-follows g c = inl (refl, refl)

pub returns-in_err-again-clause-follows : goal.returns-in_err-again-clause-follows
returns-in_err-again-clause-follows g c = inl (refl, refl)
