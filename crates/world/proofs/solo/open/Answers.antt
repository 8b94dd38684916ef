-- Why `open` meets its contract.
use Rattle.std.proofs.Common.{[], None, subst}
use Rattle.meaning.specs.Whole.{FitsSchema}
use Rattle.catalog.specs.FragmentLeaf.{schemas_of}
use Rattle.catalog.specs.Formed.{IsFormed}
use Rattle.catalog.specs.Relation.{catalogue_of}
use Rattle.store.specs.PlainDesk.{kept_of as desk_kept}
use Rattle.store.specs.PlainSite.{kept_of}
use Rattle.desk.specs.CatalogueDatabase.{database, fits}
use Rattle.world.specs.Client.{IsServed}
use Rattle.world.specs.Counted.{counts}
use Rattle.world.specs.Contents.{held, unrefused}
use Rattle.world.specs.Executed.{Stands}
use Rattle.world.proofs.DatabaseIsOpened.{opens_quiet, opens_run, opens_so}
use Rattle.world.proofs.Counting.{fit_counted}
use Rattle.world.proofs.OfChain.{last_of}
use Rattle.desk.specs.CatalogueDatabase.{databases}
use Rattle.world.proofs.ListCalls.{served_with}
use Rattle.world.proofs.ListSolo.{opens_served}
use Rattle.world.proofs.solo.open.Goals as goal

pub returns-clause-served : goal.returns-clause-served
returns-clause-served c = λ catalogue fitting last.
    let machines = c.in_ok-machines.machines in
    let here = catalogue_of machines.desk.catalog in
    subst (λ x. FitsSchema (schemas_of x) c.args.whole.now → IsServed (database x) c.args.whole.now (unrefused desk_kept kept_of machines) []) last.is
    (λ fitting.
    let formed = subst (λ x. IsFormed (catalogue_of x)) c.catalog.ensures (c.database_is_of_catalogue.ensures.of_catalogue.formed 0) in
    let opens = c.in_ok-machines.ensures.opens last.none (database here) in
    let so = opens_run here c.args.whole.now (held desk_kept kept_of machines) formed fitting opens in
    record { version = so.version; reached = record { opening = so.opening; opens = so.opens; events = so.events; gone = []; is = so.is; explained = so.explained }; fit = fit_counted (database here) (held desk_kept kept_of machines) (counts (λ _. 0) (λ _. 0) machines) (opens_so here c.args.whole.now (held desk_kept kept_of machines) formed fitting opens).fit }) fitting

pub returns-clause-stands : goal.returns-clause-stands
returns-clause-stands c = λ catalogue fitting last.
    let machines = c.in_ok-machines.machines in
    let here = catalogue_of machines.desk.catalog in
    subst (λ x. FitsSchema (schemas_of x) c.args.whole.now → Stands (database x) (fits x) None (unrefused desk_kept kept_of machines) []) last.is
    (λ fitting. opens_quiet here c.args.whole.now (held desk_kept kept_of machines) (subst (λ x. IsFormed (catalogue_of x)) c.catalog.ensures (c.database_is_of_catalogue.ensures.of_catalogue.formed 0)) fitting (c.in_ok-machines.ensures.opens last.none (database here))) fitting

pub returns-clause-single : goal.returns-clause-single
returns-clause-single c = λ catalogue alone. last_of 1 catalogue _ c.in_ok-machines.machines.desk alone c.in_ok-machines.ensures.catalogs

pub returns-clause-lists : goal.returns-clause-lists
returns-clause-lists c = λ first rest same fits.
    let machines = c.in_ok-machines.machines in
    let opened = c.in_ok-machines.ensures.lists first rest same fits in
    (served_with (databases first rest) c.args.whole.now (held desk_kept kept_of machines) (counts (λ _. 0) (λ _. 0) machines) [] (opens_served (databases first rest) c.args.whole.now (held desk_kept kept_of machines) opened.0), opened.1)
