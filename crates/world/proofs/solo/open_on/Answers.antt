-- Why `open_on` meets its contract.
use Rattle.std.proofs.Common.{[], None, subst}
use Rattle.meaning.specs.Whole.{FitsSchema}
use Rattle.catalog.specs.FragmentLeaf.{schemas_of}
use Rattle.catalog.specs.Formed.{IsFormed}
use Rattle.catalog.specs.Relation.{catalogue_of}
use Rattle.desk.specs.CatalogueDatabase.{database, fits}
use Rattle.world.specs.Client.{IsServed}
use Rattle.world.specs.Counted.{counts}
use Rattle.world.specs.Contents.{counted, held}
use Rattle.world.specs.Executed.{Stands}
use Rattle.world.specs.Start.{AreNew}
use Rattle.world.proofs.DatabaseIsOpened.{opens_quiet, opens_run, opens_so}
use Rattle.world.proofs.Counting.{fit_counted}
use Rattle.world.proofs.OfChain.{last_of}
use Rattle.desk.specs.CatalogueDatabase.{databases}
use Rattle.world.proofs.ListCalls.{served_with}
use Rattle.world.proofs.ListSolo.{opens_served}
use Rattle.world.proofs.solo.open_on.Goals as goal

pub returns-clause-served : goal.returns-clause-served
returns-clause-served g c = λ catalogue last clean.
    let D = g.D.DeskStore in
    let S = g.S.SiteStore in
    let machines = c.in_ok-machines.machines in
    let here = catalogue_of machines.desk.catalog in
    subst (λ x. AreNew D.is_sound D.kept S.is_sound S.kept x c.args.desk c.args.sites.items → FitsSchema (schemas_of x) c.args.whole.now → IsServed (database x) c.args.whole.now (counted D.kept S.kept D.refused S.refused machines) []) last.is
    (λ new fitting.
    let formed = subst (λ x. IsFormed (catalogue_of x)) c.catalog.ensures (c.database_is_of_catalogue.ensures.of_catalogue.formed 0) in
    let opens = c.in_ok-machines.ensures.opens clean new last.none (database here) in
    let so = opens_run here c.args.whole.now (held D.kept S.kept machines) formed fitting opens in
    record { version = so.version; reached = record { opening = so.opening; opens = so.opens; events = so.events; gone = []; is = so.is; explained = so.explained }; fit = fit_counted (database here) (held D.kept S.kept machines) (counts D.refused S.refused machines) (opens_so here c.args.whole.now (held D.kept S.kept machines) formed fitting opens).fit })

pub returns-clause-stands : goal.returns-clause-stands
returns-clause-stands g c = λ catalogue last clean.
    let D = g.D.DeskStore in
    let S = g.S.SiteStore in
    let machines = c.in_ok-machines.machines in
    let here = catalogue_of machines.desk.catalog in
    subst (λ x. AreNew D.is_sound D.kept S.is_sound S.kept x c.args.desk c.args.sites.items → FitsSchema (schemas_of x) c.args.whole.now → Stands (database x) (fits x) None (counted D.kept S.kept D.refused S.refused machines) []) last.is
    (λ new fitting. opens_quiet here c.args.whole.now (held D.kept S.kept machines) (subst (λ x. IsFormed (catalogue_of x)) c.catalog.ensures (c.database_is_of_catalogue.ensures.of_catalogue.formed 0)) fitting (c.in_ok-machines.ensures.opens clean new last.none (database here)))

pub returns-clause-single : goal.returns-clause-single
returns-clause-single g c = λ catalogue alone. last_of c.in_ok-machines.machines.desk.volatile.version catalogue _ c.in_ok-machines.machines.desk alone c.in_ok-machines.ensures.catalogs

pub returns-clause-lists : goal.returns-clause-lists
returns-clause-lists g c = λ first rest same fits one clean new.
    let D = g.D.DeskStore in
    let S = g.S.SiteStore in
    let machines = c.in_ok-machines.machines in
    let opened = c.in_ok-machines.ensures.lists first rest same fits one clean new in
    (served_with (databases first rest) c.args.whole.now (held D.kept S.kept machines) (counts D.refused S.refused machines) [] (opens_served (databases first rest) c.args.whole.now (held D.kept S.kept machines) opened.0), opened.1)
