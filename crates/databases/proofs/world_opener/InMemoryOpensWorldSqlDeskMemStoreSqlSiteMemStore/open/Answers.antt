use Rattle.std.proofs.Common.{◌≡◌, [], Err, IfErr, Result, ap, rules, subst, ◌∙◌}
use Rattle.std.specs.Bool.{⊤}
use Rattle.catalog.specs.Catalogue.{Catalogue}
use Rattle.desk.specs.OfCatalogue.{from_number}
use Rattle.lines.specs.declared.fault.ProgramFault.{ProgramFault}
use Rattle.databases.specs.Client.{IsOfClient}
use Rattle.databases.specs.SqlStores.{AreNewSites}
use Rattle.databases.specs.WorldOpener.{StopsOpening}
use Rattle.databases.proofs.ChainLemmas.{first_is, sites_there, stops_as_client}
use Rattle.databases.proofs.SqlStoresLemmas.{are_new}
use Rattle.databases.proofs.world_opener.InMemoryOpensWorldSqlDeskMemStoreSqlSiteMemStore.open.Goals as goal

-- so where a fault is passed on
passed_on : {T : Type 0} (result : Result T ProgramFault) (fault : ProgramFault) → result ≡ Err fault → IsOfClient fault → IfErr result (StopsOpening (λ why. ⊤))
passed_on result fault is why = rw is (stops_as_client fault why)

pub open_on-requires : goal.open_on-requires
open_on-requires c = c.in_ok-sites.ensures.all ∙ sites_there c.args.chain.now c.first_of.result.now c.first_of.ensures.0 c.first_of.ensures.1

pub returns-in-Ok-clause-ok : goal.returns-in-Ok-clause-ok
returns-in-Ok-clause-ok c = λ catalogue is.
    let here = first_is c.args.chain.now c.first_of.result.now c.first_of.ensures.0 catalogue [] c.first_of.ensures.1 is in
    let sites = subst (λ (first : Catalogue). AreNewSites first c.in_ok-sites.sites.items) here c.in_ok-sites.ensures.new in
    let new = are_new catalogue c.in_ok-desk.desk c.in_ok-sites.sites.items c.in_ok-desk.ensures.new sites in
    let last = c.in-Ok.ensures.single catalogue is in
    record {
      none = c.in-Ok.ensures.none;
      catalog = last.is;
      single = last.none;
      sound = c.in-Ok.ensures.sound;
      stands = λ clean. (c.in-Ok.ensures.alone catalogue last clean new (c.requires catalogue [] is)).1;
      run = λ clean. (c.in-Ok.ensures.alone catalogue last clean new (c.requires catalogue [] is)).0;
    }

pub returns-in-Ok-clause-lists : goal.returns-in-Ok-clause-lists
returns-in-Ok-clause-lists c = λ first rest is.
    let here = first_is c.args.chain.now c.first_of.result.now c.first_of.ensures.0 first rest c.first_of.ensures.1 is in
    let sites = subst (λ (catalogue : Catalogue). AreNewSites catalogue c.in_ok-sites.sites.items) here c.in_ok-sites.ensures.new in
    let new = are_new first c.in_ok-desk.desk c.in_ok-sites.sites.items c.in_ok-desk.ensures.new sites in
    let opened = c.in-Ok.ensures.ok first rest is (c.requires first rest is) c.in_ok-desk.ensures.new.nothing.version in
    record {
      none = c.in-Ok.ensures.none;
      number = c.in-Ok.world.machines.desk.volatile.version;
      catalogs = c.in-Ok.ensures.catalogs ∙ ap (from_number c.in-Ok.world.machines.desk.volatile.version) is;
      sound = c.in-Ok.ensures.sound;
      stands = λ clean. (opened clean new).1;
      run = λ clean. (opened clean new).0;
    }

pub returns-in_err-sites-clause-err : goal.returns-in_err-sites-clause-err
returns-in_err-sites-clause-err c = passed_on c.from_residual.result c.in_err-sites.field-0.0 (search rules) c.in_err-sites.ensures.err

pub returns-in_err-desk-clause-err : goal.returns-in_err-desk-clause-err
returns-in_err-desk-clause-err c = passed_on c.from_residual-in_err-desk.result c.in_err-desk.field-0.0 (search rules) c.in_err-desk.ensures.err
