-- Why `open` meets its contract.
use Rattle.std.proofs.Common.{[], subst, sym}
use Rattle.meaning.specs.Whole.{FitsSchema}
use Rattle.catalog.specs.FragmentLeaf.{schemas_of}
use Rattle.catalog.specs.Formed.{IsFormed}
use Rattle.catalog.specs.Relation.{catalogue_of}
use Rattle.store.specs.PlainDesk.{kept_of as desk_kept}
use Rattle.store.specs.PlainSite.{kept_of}
use Rattle.desk.specs.CatalogueDatabase.{database}
use Rattle.world.specs.Contents.{held}
use Rattle.world.specs.Runs.{IsRun}
use Rattle.world.proofs.DatabaseIsOpened.{opens_run}
use Rattle.world.proofs.OfChain.{last_of}
use Rattle.world.proofs.Listing.{stands_single}
use Rattle.desk.specs.CatalogueDatabase.{databases}
use Rattle.world.proofs.ListIsBase.{list_run}
use Rattle.world.proofs.world.open.Goals as goal

pub returns-clause-alone : goal.returns-clause-alone
returns-clause-alone c = λ catalogue fitting last.
    let machines = c.in_ok-machines.machines in
    let here = catalogue_of machines.desk.catalog in (
      subst (λ x. FitsSchema (schemas_of x) c.args.whole.now → IsRun (database x) c.args.whole.now (held desk_kept kept_of machines) [] []) last.is
          (λ fitting. opens_run here c.args.whole.now (held desk_kept kept_of machines) (subst (λ x. IsFormed (catalogue_of x)) c.catalog.ensures (c.database_is_of_catalogue.ensures.of_catalogue.formed 0)) fitting (c.in_ok-machines.ensures.opens last.none (database here))) fitting,
      stands_single (database catalogue) machines.desk (sym last.is) last.none,
    )

pub returns-clause-single : goal.returns-clause-single
returns-clause-single c = λ catalogue alone. last_of 1 catalogue _ c.in_ok-machines.machines.desk alone c.in_ok-machines.ensures.catalogs

pub returns-clause-ok : goal.returns-clause-ok
returns-clause-ok c = λ first rest same fits.
    let opened = c.in_ok-machines.ensures.lists first rest same fits in
    (list_run (databases first rest) c.args.whole.now (held desk_kept kept_of c.in_ok-machines.machines) opened.0, opened.1)
