-- Why `obey` meets its contract.
use Rattle.catalog.specs.FragmentLeaf.{schemas_of}
use Rattle.catalog.specs.Relation.{catalogue_of}
use Rattle.reader.specs.Command.{IsCommandOf, IsTextOf}
use Rattle.std.proofs.Common.{◌≡◌, ◌∙◌, sym, subst, true}
use Rattle.world.proofs.Calls.{narrowed}
use Rattle.world.specs.Contents.{OfStores, counted}
use Rattle.meaning.specs.declared.statement.Statement.{Statement}
use Rattle.meaning.specs.Statement.{is_refragment}
use Rattle.reader.specs.declared.command.Command.TheVariants.{Begin, Commit, Rollback, Run}
use Rattle.world.proofs.solo.Solo.obey.Goals as goal

pub returns-in-Begin-clause-comes : goal.returns-in-Begin-clause-comes
returns-in-Begin-clause-comes g c =
    let clean = OfStores g.D.DeskStore.is_clean g.S.SiteStore.is_clean in
    let sound = OfStores g.D.DeskStore.is_sound g.S.SiteStore.is_sound in
    let view = counted g.D.DeskStore.kept g.S.SiteStore.kept g.D.DeskStore.refused g.S.SiteStore.refused in
    let old = c.args.self.now.machines in
    narrowed clean sound view old c.begins.new.self.machines c.begins.result (λ db moves so spelled. so c.args.text.now (subst (IsTextOf db.schemas c.args.text.now) c.in-Begin.is spelled)) c.begins.ensures.comes

pub returns-in-Commit-clause-comes : goal.returns-in-Commit-clause-comes
returns-in-Commit-clause-comes g c =
    let clean = OfStores g.D.DeskStore.is_clean g.S.SiteStore.is_clean in
    let sound = OfStores g.D.DeskStore.is_sound g.S.SiteStore.is_sound in
    let view = counted g.D.DeskStore.kept g.S.SiteStore.kept g.D.DeskStore.refused g.S.SiteStore.refused in
    let old = c.args.self.now.machines in
    narrowed clean sound view old c.commits.new.self.machines c.commits.result (λ db moves so spelled. so c.args.text.now (subst (IsTextOf db.schemas c.args.text.now) c.in-Commit.is spelled)) c.commits.ensures.comes

pub returns-in-Rollback-clause-comes : goal.returns-in-Rollback-clause-comes
returns-in-Rollback-clause-comes g c =
    let clean = OfStores g.D.DeskStore.is_clean g.S.SiteStore.is_clean in
    let sound = OfStores g.D.DeskStore.is_sound g.S.SiteStore.is_sound in
    let view = counted g.D.DeskStore.kept g.S.SiteStore.kept g.D.DeskStore.refused g.S.SiteStore.refused in
    let old = c.args.self.now.machines in
    narrowed clean sound view old c.rolls_back.new.self.machines c.rolls_back.result (λ db moves so spelled. so c.args.text.now (subst (IsTextOf db.schemas c.args.text.now) c.in-Rollback.is spelled)) c.rolls_back.ensures.comes

pub returns-in-Run-clause-comes : goal.returns-in-Run-clause-comes
returns-in-Run-clause-comes g c =
    let clean = OfStores g.D.DeskStore.is_clean g.S.SiteStore.is_clean in
    let sound = OfStores g.D.DeskStore.is_sound g.S.SiteStore.is_sound in
    let view = counted g.D.DeskStore.kept g.S.SiteStore.kept g.D.DeskStore.refused g.S.SiteStore.refused in
    let old = c.args.self.now.machines in
    narrowed clean sound view old c.states.new.self.machines c.states.result (λ db moves so spelled. so (subst (IsTextOf db.schemas c.args.text.now) c.in-Run.is spelled)) c.states.ensures.comes

pub returns-in-Begin-clause-finds_none : goal.returns-in-Begin-clause-finds_none
returns-in-Begin-clause-finds_none g c = λ statement none is. (let e : Begin ≡ Run statement = sym c.in-Begin.is ∙ is in absurd (cc))

pub returns-in-Commit-clause-finds_none : goal.returns-in-Commit-clause-finds_none
returns-in-Commit-clause-finds_none g c = λ statement none is. (let e : Commit ≡ Run statement = sym c.in-Commit.is ∙ is in absurd (cc))

pub returns-in-Rollback-clause-finds_none : goal.returns-in-Rollback-clause-finds_none
returns-in-Rollback-clause-finds_none g c = λ statement none is. (let e : Rollback ≡ Run statement = sym c.in-Rollback.is ∙ is in absurd (cc))

pub returns-in-Run-clause-finds_none : goal.returns-in-Run-clause-finds_none
returns-in-Run-clause-finds_none g c = λ statement none is moves. c.states.ensures.finds_none none (subst (λ (s : Statement). is_refragment s ≡ true) (let e : Run statement ≡ Run c.in-Run.statement = sym is ∙ c.in-Run.is in cc) moves)

pub states-requires-clause-spelled : goal.states-requires-clause-spelled
states-requires-clause-spelled g c = subst (IsTextOf (schemas_of (catalogue_of c.args.self.now.machines.desk.catalog)) c.args.text.now) c.in-Run.is c.requires.spelled

pub states-requires-clause-fits : goal.states-requires-clause-fits
states-requires-clause-fits g c = subst (IsCommandOf (schemas_of (catalogue_of c.args.self.now.machines.desk.catalog))) c.in-Run.is c.requires.fits
