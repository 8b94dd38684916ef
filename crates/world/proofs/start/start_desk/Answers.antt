-- Why `start_desk` meets its contract.
use Rattle.std.proofs.Common.{◌≡◌, refl, sym, ap, ◌∙◌, subst, map}
use Rattle.catalog.specs.Formed.{IsFormed}
use Rattle.catalog.specs.Relation.{catalogue_of}
use Rattle.store.specs.PlainDesk.{kept_of as desk_kept}
use Rattle.desk.specs.CatalogueDatabase.{database}
use Rattle.desk.specs.OfCatalogue.{from_number}
use Rattle.desk.specs.declared.refusal.Refusal.{Refusal}
use Rattle.world.specs.declared.fault.Fault.TheVariants.{Desk}
use Rattle.world.specs.Fault.{is_memory}
use Rattle.world.proofs.OfChain.{first_there}
use Rattle.world.proofs.Unstarted.{desk_refusal_is_memory}
use Rattle.world.proofs.start.start_desk.Goals as goal

pub returns-in-Ok-clause-rises : goal.returns-in-Ok-clause-rises
returns-in-Ok-clause-rises c = λ db over. c.in-Ok.ensures.ok db over tt

pub returns-in-Ok-clause-commits : goal.returns-in-Ok-clause-commits
returns-in-Ok-clause-commits c = λ txn. (c.in-Ok.ensures.life tt).commits txn ∙ c.new.ensures.commits txn

pub returns-in-Ok-clause-catalogs : goal.returns-in-Ok-clause-catalogs
returns-in-Ok-clause-catalogs c =
    let desk = c.in-Ok.desk in
    let rises = c.in-Ok.ensures.ok (database (catalogue_of desk.catalog)) (record { sites = refl; distinct = (subst (λ x. IsFormed (catalogue_of x)) c.catalog.ensures c.relations.ensures.formed).distinct }) tt in
    let one : desk.volatile.version ≡ 1 = rises.fits.version ∙ (c.in-Ok.ensures.life tt).version ∙ c.new.ensures.version in
    c.in-Ok.ensures.catalogs ∙ ap (λ n. from_number n (map catalogue_of c.args.chain.now)) one

pub returns-in-Err-clause-err : goal.returns-in-Err-clause-err
returns-in-Err-clause-err c =
    let start = c.in-Err.ensures in
    let same = start.same tt tt in
    let there = first_there c.args.chain.now c.as_slice-catalogs.ensures.chain (desk_kept c.in-Err.unstarted.store).version (same.version ∙ c.new.ensures.version) in
    ap (λ (r : Refusal). is_memory (Desk r))
    (desk_refusal_is_memory there.0.sites (desk_kept c.new.result) (desk_kept c.in-Err.unstarted.store) c.in-Err.unstarted.refusal c.new.ensures.commits c.new.ensures.life same start.refusal (start.full tt)
    (λ is. start.damaged there.0 there.1 tt tt is there.2) (λ is. let none = sym there.2 ∙ start.chain tt tt is in cc) start.own)

pub returns-in-Ok-clause-version : goal.returns-in-Ok-clause-version
returns-in-Ok-clause-version c =
    let desk = c.in-Ok.desk in
    let rises = c.in-Ok.ensures.ok (database (catalogue_of desk.catalog)) (record { sites = refl; distinct = (subst (λ x. IsFormed (catalogue_of x)) c.catalog.ensures c.relations.ensures.formed).distinct }) tt in
    rises.fits.version ∙ (c.in-Ok.ensures.life tt).version ∙ c.new.ensures.version
