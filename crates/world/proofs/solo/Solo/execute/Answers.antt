-- Why `execute` meets its contract.
use Rattle.catalog.specs.Relation.{catalogue_of}
use Rattle.catalog.specs.declared.relation.SplitRelation.{SplitRelation}
use Rattle.desk.specs.OfCatalogue.{IsOfCatalogue}
use Rattle.std.proofs.Common.{List, ℕ, refl, subst}
use Rattle.world.proofs.Calls.{leaves_of}
use Rattle.world.proofs.Leaves.{database_still}
use Rattle.world.proofs.Hindering.{served_alone}
use Rattle.world.proofs.Outcomes.{executed, refused_commits_none}
use Rattle.desk.specs.CatalogueDatabase.{database, fits}
use Rattle.world.specs.Commands.{CommandsFollow}
use Rattle.world.specs.Contents.{counted}
use Rattle.world.proofs.ListCalls.{made_as, makes_on, makes_unless}
use Rattle.world.proofs.ListSolo.{served_still}
use Rattle.world.proofs.solo.Solo.execute.Goals as goal

pub returns-clause-leaves : goal.returns-clause-leaves
returns-clause-leaves g c = leaves_of g.D.DeskStore.is_clean g.S.SiteStore.is_clean g.D.DeskStore.is_sound g.S.SiteStore.is_sound g.D.DeskStore.kept g.S.SiteStore.kept g.D.DeskStore.refused g.S.SiteStore.refused c.args.self.now.machines c.command-done.new.self.machines c.command-done.result c.command-done.ensures.comes

pub returns-in-Some-clause-leaves : goal.returns-in-Some-clause-leaves
returns-in-Some-clause-leaves g c = database_still g.D.DeskStore.is_clean g.S.SiteStore.is_clean g.D.DeskStore.is_sound g.S.SiteStore.is_sound g.D.DeskStore.refused g.S.SiteStore.refused c.args.self.now.machines

pub returns-clause-executes : goal.returns-clause-executes
returns-clause-executes g c = λ whole past going clean sound alone listed.
    let catalogue = catalogue_of c.args.self.now.machines.desk.catalog in
    let view = counted g.D.DeskStore.kept g.S.SiteStore.kept g.D.DeskStore.refused g.S.SiteStore.refused in
    let served = served_alone (database catalogue) whole (view c.args.self.now.machines) past alone listed in
    let of = subst (λ (x : List (List ℕ) × List SplitRelation). IsOfCatalogue (database (catalogue_of x))) c.catalog.ensures c.database_is_of_catalogue.ensures.of_catalogue in
    let law = subst (λ (x : List (List ℕ) × List SplitRelation). CommandsFollow (database (catalogue_of x)) (fits (catalogue_of x))) c.catalog-3.ensures c.commands_follow.ensures in
    executed (database catalogue) (fits catalogue) law whole c.args.text.now c.args.self.now.current c.command-done.new.self.current (view c.args.self.now.machines) (view c.command-done.new.self.machines) past (λ heard. heard.items) c.command-done.result served
    (c.command-done.ensures.comes.moves (database catalogue) of refl clean sound served.fit)

pub returns-clause-inside : goal.returns-clause-inside
returns-clause-inside g c = λ txn going some spelled. c.command-done.ensures.inside txn some spelled

pub returns-clause-blames : goal.returns-clause-blames
returns-clause-blames g c = λ going clean sound. c.command-done.ensures.comes.blames clean sound

pub returns-clause-lists : goal.returns-clause-lists
returns-clause-lists g c = λ going db whole past listed stands clean sound served.
    let made = c.command-done.ensures.comes.lists db whole past listed stands clean sound served in (
      λ goes. made_as db whole (counted g.D.DeskStore.kept g.S.SiteStore.kept g.D.DeskStore.refused g.S.SiteStore.refused c.command-done.new.self.machines) past _ _
          (λ moves command. (command, refused_commits_none (λ heard. heard.items) c.command-done.result db.schemas c.args.text.now c.args.self.now.current c.command-done.new.self.current moves command))
          (makes_unless db whole (counted g.D.DeskStore.kept g.S.SiteStore.kept g.D.DeskStore.refused g.S.SiteStore.refused c.command-done.new.self.machines) past c.command-done.result _ made.0 goes),
      made.1,
    )

pub returns-clause-served_lists : goal.returns-clause-served_lists
returns-clause-served_lists g c = λ db whole past listed stands clean sound served.
    let made = c.command-done.ensures.comes.lists db whole past listed stands clean sound served in
    (makes_on db whole (counted g.D.DeskStore.kept g.S.SiteStore.kept g.D.DeskStore.refused g.S.SiteStore.refused c.command-done.new.self.machines) past c.command-done.result _ made.0, made.1)

pub returns-in-Some-clause-served_lists : goal.returns-in-Some-clause-served_lists
returns-in-Some-clause-served_lists g c = λ db whole past listed stands clean sound served. (served_still db whole (counted g.D.DeskStore.kept g.S.SiteStore.kept g.D.DeskStore.refused g.S.SiteStore.refused c.args.self.now.machines) past served, stands)

pub returns-clause-finds_none : goal.returns-clause-finds_none
returns-clause-finds_none g c = λ statement going none spelled moves. c.command-done.ensures.finds_none statement none spelled moves
