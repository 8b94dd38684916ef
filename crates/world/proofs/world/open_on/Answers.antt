-- Why `open_on` meets its contract.
use Rattle.std.proofs.Common.{[], subst, sym}
use Rattle.meaning.specs.Whole.{FitsSchema}
use Rattle.catalog.specs.FragmentLeaf.{schemas_of}
use Rattle.catalog.specs.Formed.{IsFormed}
use Rattle.catalog.specs.Relation.{catalogue_of}
use Rattle.desk.specs.CatalogueDatabase.{database}
use Rattle.world.specs.Contents.{held}
use Rattle.world.specs.Runs.{IsRun}
use Rattle.world.specs.Start.{AreNew}
use Rattle.world.proofs.DatabaseIsOpened.{opens_run}
use Rattle.world.proofs.OfChain.{last_of}
use Rattle.world.proofs.Listing.{stands_single}
use Rattle.desk.specs.CatalogueDatabase.{databases}
use Rattle.world.proofs.ListIsBase.{list_run}
use Rattle.world.proofs.world.open_on.Goals as goal

pub returns-clause-alone : goal.returns-clause-alone
returns-clause-alone g c = λ catalogue last clean new fitting.
    let D = g.D.DeskStore in
    let S = g.S.SiteStore in
    let machines = c.in_ok-machines.machines in
    let here = catalogue_of machines.desk.catalog in (
      subst (λ x. AreNew D.is_sound D.kept S.is_sound S.kept x c.args.desk c.args.sites.items → FitsSchema (schemas_of x) c.args.whole.now → IsRun (database x) c.args.whole.now (held D.kept S.kept machines) [] []) last.is
          (λ new fitting. opens_run here c.args.whole.now (held D.kept S.kept machines) (subst (λ x. IsFormed (catalogue_of x)) c.catalog.ensures (c.database_is_of_catalogue.ensures.of_catalogue.formed 0)) fitting (c.in_ok-machines.ensures.opens clean new last.none (database here))) new fitting,
      stands_single (database catalogue) machines.desk (sym last.is) last.none,
    )

pub returns-clause-single : goal.returns-clause-single
returns-clause-single g c = λ catalogue alone. last_of c.in_ok-machines.machines.desk.volatile.version catalogue _ c.in_ok-machines.machines.desk alone c.in_ok-machines.ensures.catalogs

pub returns-clause-ok : goal.returns-clause-ok
returns-clause-ok g c = λ first rest same fits one clean new.
    let opened = c.in_ok-machines.ensures.lists first rest same fits one clean new in
    (list_run (databases first rest) c.args.whole.now (held g.D.DeskStore.kept g.S.SiteStore.kept c.in_ok-machines.machines) opened.0, opened.1)
