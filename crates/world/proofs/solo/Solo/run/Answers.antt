-- Why `run` meets its contract.
use Rattle.world.proofs.Deeds.{nothing_more}
use Rattle.world.proofs.Leaves.{database_still}
use Rattle.std.proofs.Common.{◌≡◌, List, [], ℕ, refl, subst}
use Rattle.catalog.specs.declared.relation.SplitRelation.{SplitRelation}
use Rattle.catalog.specs.Relation.{catalogue_of}
use Rattle.protocol.specs.Client.{ReachedLaw}
use Rattle.desk.specs.Database.{language}
use Rattle.desk.specs.OfCatalogue.{IsOfCatalogue}
use Rattle.world.specs.declared.transaction.Stop.{Stop}
use Rattle.world.specs.Commands.{MovesFollow}
use Rattle.desk.specs.CatalogueDatabase.{database, fits}
use Rattle.world.specs.BatchRuns.{WasStopped}
use Rattle.world.specs.Contents.{counted}
use Rattle.world.specs.Executed.{ObeysUnlessRefused}
use Rattle.world.specs.Client.{ServedIsSerial}
use Rattle.world.specs.Settling.{GrowsQuiet}
use Rattle.world.proofs.BatchRuns.{has_run, was_stopped}
use Rattle.world.specs.Stopping.{StopsFor}
use Rattle.world.specs.Counted.{counts}
use Rattle.world.proofs.ListSolo.{served_still}
use Rattle.world.proofs.solo.Solo.run.Goals as goal

pub returns-in-Ok-clause-ran : goal.returns-in-Ok-clause-ran
returns-in-Ok-clause-ran g c = λ whole entries past clean sound served so.
    let catalogue = catalogue_of c.args.self.now.machines.desk.catalog in
    let before = counted g.D.DeskStore.kept g.S.SiteStore.kept g.D.DeskStore.refused g.S.SiteStore.refused c.args.self.now.machines in
    let after = counted g.D.DeskStore.kept g.S.SiteStore.kept g.D.DeskStore.refused g.S.SiteStore.refused c.run_all.new.machines in
    let of = subst (λ (x : List (List ℕ) × List SplitRelation). IsOfCatalogue (database (catalogue_of x))) c.catalog.ensures c.database_is_of_catalogue.ensures.of_catalogue in
    let reached = subst (λ (x : List (List ℕ) × List SplitRelation). ReachedLaw (language (database (catalogue_of x)))) c.catalog-2.ensures c.one_client_is_a_run.ensures in
    let follow = subst (λ (x : List (List ℕ) × List SplitRelation). MovesFollow (database (catalogue_of x))) c.catalog-3.ensures c.moves_follow.ensures in
    let obeys = subst (λ (x : List (List ℕ) × List SplitRelation). ObeysUnlessRefused (database (catalogue_of x)) (fits (catalogue_of x))) c.catalog-5.ensures c.obeyed_unless_refused.ensures in
    let quiet = subst (λ (x : List (List ℕ) × List SplitRelation). GrowsQuiet (database (catalogue_of x)) (fits (catalogue_of x))) c.catalog-6.ensures c.grows_quiet.ensures in
    let ran = c.in-Ok.ensures.ok (database catalogue) of refl clean sound served.fit in
    has_run (database catalogue) (fits catalogue) reached obeys quiet whole follow c.args.transactions.now c.in-Ok.outcomes.items before after entries past served so ran.moves ran.is ran.made

pub returns-in-Err-clause-broke : goal.returns-in-Err-clause-broke
returns-in-Err-clause-broke g c = λ whole entries past stop clean sound served so is.
    let catalogue = catalogue_of c.args.self.now.machines.desk.catalog in
    let before = counted g.D.DeskStore.kept g.S.SiteStore.kept g.D.DeskStore.refused g.S.SiteStore.refused c.args.self.now.machines in
    let after = counted g.D.DeskStore.kept g.S.SiteStore.kept g.D.DeskStore.refused g.S.SiteStore.refused c.run_all.new.machines in
    let of = subst (λ (x : List (List ℕ) × List SplitRelation). IsOfCatalogue (database (catalogue_of x))) c.catalog.ensures c.database_is_of_catalogue.ensures.of_catalogue in
    let reached = subst (λ (x : List (List ℕ) × List SplitRelation). ReachedLaw (language (database (catalogue_of x)))) c.catalog-2.ensures c.one_client_is_a_run.ensures in
    let follow = subst (λ (x : List (List ℕ) × List SplitRelation). MovesFollow (database (catalogue_of x))) c.catalog-3.ensures c.moves_follow.ensures in
    let serial = subst (λ (x : List (List ℕ) × List SplitRelation). ServedIsSerial (database (catalogue_of x))) c.catalog-4.ensures c.served_is_serial.ensures in
    let obeys = subst (λ (x : List (List ℕ) × List SplitRelation). ObeysUnlessRefused (database (catalogue_of x)) (fits (catalogue_of x))) c.catalog-5.ensures c.obeyed_unless_refused.ensures in
    let quiet = subst (λ (x : List (List ℕ) × List SplitRelation). GrowsQuiet (database (catalogue_of x)) (fits (catalogue_of x))) c.catalog-6.ensures c.grows_quiet.ensures in
    let same : c.in-Err.stop ≡ stop = cc in
    subst (λ (s : Stop). WasStopped (database catalogue) (fits catalogue) whole c.args.transactions.now s.done before after entries past) same
    (was_stopped (database catalogue) (fits catalogue) reached obeys quiet whole follow serial c.args.transactions.now c.in-Err.stop.done before after entries past served so
    (c.in-Err.ensures.stops (database catalogue) of refl clean sound served.fit reached))

pub returns-in-Ok-clause-served : goal.returns-in-Ok-clause-served
returns-in-Ok-clause-served g c = λ whole past clean sound served.
    let on = c.run_all.ensures.served (database (catalogue_of c.args.self.now.machines.desk.catalog)) whole past
    (subst (λ (x : List (List ℕ) × List SplitRelation). IsOfCatalogue (database (catalogue_of x))) c.catalog.ensures c.database_is_of_catalogue.ensures.of_catalogue)
    (subst (λ (x : List (List ℕ) × List SplitRelation). ReachedLaw (language (database (catalogue_of x)))) c.catalog-2.ensures c.one_client_is_a_run.ensures)
    refl clean sound served in
    (on.deeds, on.served)

pub returns-in-Err-clause-served : goal.returns-in-Err-clause-served
returns-in-Err-clause-served g c = λ whole past clean sound served.
    let on = c.run_all.ensures.served (database (catalogue_of c.args.self.now.machines.desk.catalog)) whole past
    (subst (λ (x : List (List ℕ) × List SplitRelation). IsOfCatalogue (database (catalogue_of x))) c.catalog.ensures c.database_is_of_catalogue.ensures.of_catalogue)
    (subst (λ (x : List (List ℕ) × List SplitRelation). ReachedLaw (language (database (catalogue_of x)))) c.catalog-2.ensures c.one_client_is_a_run.ensures)
    refl clean sound served in
    (on.deeds, on.served)

pub returns-in-Err-clause-blames : goal.returns-in-Err-clause-blames
returns-in-Err-clause-blames g c = λ stop clean sound is.
    let same : c.in-Err.stop ≡ stop = cc in
    subst (λ (s : Stop). StopsFor (counts g.D.DeskStore.refused g.S.SiteStore.refused c.args.self.now.machines) (counts g.D.DeskStore.refused g.S.SiteStore.refused c.run_all.new.machines) s.refusal) same (c.in-Err.ensures.blames clean sound)

pub returns-in-Some-clause-leaves : goal.returns-in-Some-clause-leaves
returns-in-Some-clause-leaves g c = database_still g.D.DeskStore.is_clean g.S.SiteStore.is_clean g.D.DeskStore.is_sound g.S.SiteStore.is_sound g.D.DeskStore.refused g.S.SiteStore.refused c.args.self.now.machines

pub returns-then-is_some-clause-leaves : goal.returns-then-is_some-clause-leaves
returns-then-is_some-clause-leaves g c = database_still g.D.DeskStore.is_clean g.S.SiteStore.is_clean g.D.DeskStore.is_sound g.S.SiteStore.is_sound g.D.DeskStore.refused g.S.SiteStore.refused c.args.self.now.machines

pub returns-in-Some-clause-served : goal.returns-in-Some-clause-served
returns-in-Some-clause-served g c = λ whole past clean sound served.
    let db = database (catalogue_of c.args.self.now.machines.desk.catalog) in
    ([], nothing_more db whole (counted g.D.DeskStore.kept g.S.SiteStore.kept g.D.DeskStore.refused g.S.SiteStore.refused c.args.self.now.machines) past served)

pub returns-then-is_some-clause-served : goal.returns-then-is_some-clause-served
returns-then-is_some-clause-served g c = λ whole past clean sound served.
    let db = database (catalogue_of c.args.self.now.machines.desk.catalog) in
    ([], nothing_more db whole (counted g.D.DeskStore.kept g.S.SiteStore.kept g.D.DeskStore.refused g.S.SiteStore.refused c.args.self.now.machines) past served)

pub returns-in-Ok-clause-lists : goal.returns-in-Ok-clause-lists
returns-in-Ok-clause-lists g c = λ db whole past listed stands clean sound served. c.in-Ok.ensures.lists db whole past listed stands clean sound served

pub returns-in-Err-clause-lists : goal.returns-in-Err-clause-lists
returns-in-Err-clause-lists g c = λ db whole past listed stands clean sound served. c.in-Err.ensures.lists db whole past listed stands clean sound served

pub returns-in-Some-clause-lists : goal.returns-in-Some-clause-lists
returns-in-Some-clause-lists g c = λ db whole past listed stands clean sound served. ((tt, served_still db whole (counted g.D.DeskStore.kept g.S.SiteStore.kept g.D.DeskStore.refused g.S.SiteStore.refused c.args.self.now.machines) past served), stands)

pub returns-then-is_some-clause-lists : goal.returns-then-is_some-clause-lists
returns-then-is_some-clause-lists g c = λ db whole past listed stands clean sound served. ((tt, served_still db whole (counted g.D.DeskStore.kept g.S.SiteStore.kept g.D.DeskStore.refused g.S.SiteStore.refused c.args.self.now.machines) past served), stands)
