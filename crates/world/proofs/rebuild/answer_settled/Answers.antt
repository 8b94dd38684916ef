-- Why `answer_settled` meets its contract.
use Rattle.std.proofs.Common.{rules, ◌≡◌, ◌∙◌, ℕ, ap, sym, subst, List, map, IfOk}
use Rattle.meaning.specs.Meaning.{meaning}
use Rattle.meaning.specs.Statement.{IsStatementOf}
use Rattle.meaning.specs.Whole.{FitsSchema, Relations}
use Rattle.catalog.specs.declared.relation.SplitRelation.{SplitRelation}
use Rattle.catalog.specs.FragmentLeaf.{schemas_of}
use Rattle.catalog.specs.Relation.{catalogue_of}
use Rattle.plan.specs.Given.{AreBrought}
use Rattle.plan.specs.Postfix.{plan_of}
use Rattle.plan.specs.Reduced.{FindsAll}
use Rattle.plan.specs.Stated.{AreFetchesOf}
use Rattle.answers.specs.Table.{given}
use Rattle.desk.specs.CatalogueDatabase.{IsBase, database}
use Rattle.world.specs.Counted.{counts}
use Rattle.world.specs.Contents.{held}
use Rattle.world.specs.Settled.{AreDecided, brought_of}
use Rattle.world.proofs.Counting.{no_fewer, no_fewer_then}
use Rattle.world.proofs.Failing.{came_so, fails_on, fails_since, fit_still, memory_fails, parts_come}
use Rattle.world.proofs.SiteSteps.{if_ok}
use Rattle.world.proofs.Rebuilt.{are_all_brought}
use Rattle.world.proofs.Refusing.{if_err}
use Rattle.world.proofs.rebuild.answer_settled.Goals as goal

pub returns-clause-answer : goal.returns-clause-answer
returns-clause-answer g c = λ whole clean sound fit those fits.
    let D = g.D.DeskStore in
    let S = g.S.SiteStore in
    let of = held D.kept S.kept in
    let start = c.args.machines.now in
    let mid = c.decided.new.machines in
    let catalogue = catalogue_of start.desk.catalog in
    let stated = c.args.statement.now in
    let reduced = c.in_ok-reduced.reduced in
    let rows = c.as_slice-3.result.now in
    let decided = c.as_slice.result.now in
    let fetches = c.as_slice-2.result.now in
    let clean_mid = c.in_ok-brought.ensures.leaves.clean clean in
    let sound_mid = c.in_ok-decided.ensures.leaves.sound clean_mid sound in
    let base = subst (λ x. IsBase (database (catalogue_of x))) c.catalog.ensures c.database_is_of_catalogue.ensures in
    let are = subst (AreDecided (of start).table) (sym c.as_slice.ensures.value) (c.in_ok-decided.ensures.all clean_mid sound fit.rows) in
    let came = c.as_slice-3.ensures.value ∙ came_so start.desk.catalog mid.desk.catalog (of start) (of mid) whole decided c.in_ok-brought.brought.items fetches c.in_ok-decided.ensures.leaves.catalog (c.in_ok-decided.ensures.same clean_mid sound) (c.in_ok-brought.ensures.brought whole clean sound_mid) fit those are ∙ ap (map (brought_of catalogue whole)) c.as_slice-2.ensures.value in
    let stated_fetches = subst (λ x. AreFetchesOf (catalogue_of x) stated reduced.fetches.items) c.catalog-2.ensures c.in_ok-reduced.ensures.fetches in
    let finds = subst (λ x. FindsAll (catalogue_of x) stated reduced.fetches.items (plan_of reduced.nodes.items)) c.catalog-2.ensures c.in_ok-reduced.ensures.rows in
    let brought = are_all_brought catalogue base c.leaf_names_are_unique.ensures stated reduced whole c.requires.fits c.requires.ordinary stated_fetches finds fits rows came in
    let Answers : List (List ℕ) × List SplitRelation → Type 0 = λ x. IsStatementOf (schemas_of (catalogue_of x)) stated → AreFetchesOf (catalogue_of x) stated reduced.fetches.items → FindsAll (catalogue_of x) stated reduced.fetches.items (plan_of reduced.nodes.items) →
    IfOk c.answer.result (λ answer. (whole : Relations) → FitsSchema (schemas_of (catalogue_of x)) whole → AreBrought (catalogue_of x) whole reduced.fetches.items (given rows) → answer ≡ (meaning stated whole).0) in
    let answers = subst Answers (c.catalog-3.ensures ∙ c.in_ok-brought.ensures.leaves.catalog ∙ c.in_ok-decided.ensures.leaves.catalog) c.answer.ensures.answer in
    if_ok c.answer.result (λ answer is. is whole fits brought) (answers c.requires.fits stated_fetches finds)

pub returns-in_err-reduced-clause-leaves : goal.returns-in_err-reduced-clause-leaves
returns-in_err-reduced-clause-leaves g c = record {
  clean = search rules;
  sound = search rules;
  counts = no_fewer (counts g.D.DeskStore.refused g.S.SiteStore.refused c.args.machines.now);
  catalog = search rules;
  later = search rules;
}

pub returns-in_err-brought-clause-leaves : goal.returns-in_err-brought-clause-leaves
returns-in_err-brought-clause-leaves g c = record {
  clean = search rules;
  sound = search rules;
  counts = let of = counts g.D.DeskStore.refused g.S.SiteStore.refused in
      no_fewer_then (of c.args.machines.now) (of c.decided.new.machines) (of c.bring.new.machines) c.decided.ensures.leaves.counts c.bring.ensures.leaves.counts;
  catalog = search rules;
  later = search rules;
}

pub returns-clause-leaves : goal.returns-clause-leaves
returns-clause-leaves g c = record {
  clean = search rules;
  sound = search rules;
  counts = let of = counts g.D.DeskStore.refused g.S.SiteStore.refused in
      no_fewer_then (of c.args.machines.now) (of c.decided.new.machines) (of c.bring.new.machines) c.decided.ensures.leaves.counts c.bring.ensures.leaves.counts;
  catalog = search rules;
  later = search rules;
}

pub returns-in_err-brought-clause-fails : goal.returns-in_err-brought-clause-fails
returns-in_err-brought-clause-fails g c = λ whole clean sound fit those fits.
    let of = counts g.D.DeskStore.refused g.S.SiteStore.refused in
    let content = held g.D.DeskStore.kept g.S.SiteStore.kept in
    let start = c.args.machines.now in
    let mid = c.decided.new.machines in
    let now = c.bring.new.machines in
    let mid_clean = c.bring.ensures.leaves.clean clean in
    let mid_fit = fit_still start.desk.catalog mid.desk.catalog (content start) (content mid) c.decided.ensures.leaves.catalog (c.decided.ensures.same mid_clean sound) fit in
    let told = c.in_err-brought.field-0.0 in
    fails_on c.from_residual-in_err-brought.result told (of start) (of now) c.from_residual-in_err-brought.ensures.1
    (fails_since (of start) (of mid) (of now) c.decided.ensures.leaves.counts told (c.in_err-brought.ensures.fails clean (c.decided.ensures.leaves.sound mid_clean sound) mid_fit))

pub returns-clause-fails : goal.returns-clause-fails
returns-clause-fails g c = λ whole clean sound fit those fits.
    let D = g.D.DeskStore in
    let S = g.S.SiteStore in
    let of = held D.kept S.kept in
    let start = c.args.machines.now in
    let mid = c.decided.new.machines in
    let catalogue = catalogue_of start.desk.catalog in
    let stated = c.args.statement.now in
    let reduced = c.in_ok-reduced.reduced in
    let rows = c.as_slice-3.result.now in
    let decided = c.as_slice.result.now in
    let fetches = c.as_slice-2.result.now in
    let clean_mid = c.in_ok-brought.ensures.leaves.clean clean in
    let sound_mid = c.in_ok-decided.ensures.leaves.sound clean_mid sound in
    let base = subst (λ x. IsBase (database (catalogue_of x))) c.catalog.ensures c.database_is_of_catalogue.ensures in
    let are = subst (AreDecided (of start).table) (sym c.as_slice.ensures.value) (c.in_ok-decided.ensures.all clean_mid sound fit.rows) in
    let came = c.as_slice-3.ensures.value ∙ came_so start.desk.catalog mid.desk.catalog (of start) (of mid) whole decided c.in_ok-brought.brought.items fetches c.in_ok-decided.ensures.leaves.catalog (c.in_ok-decided.ensures.same clean_mid sound) (c.in_ok-brought.ensures.brought whole clean sound_mid) fit those are ∙ ap (map (brought_of catalogue whole)) c.as_slice-2.ensures.value in
    let stated_fetches = subst (λ x. AreFetchesOf (catalogue_of x) stated reduced.fetches.items) c.catalog-2.ensures c.in_ok-reduced.ensures.fetches in
    let finds = subst (λ x. FindsAll (catalogue_of x) stated reduced.fetches.items (plan_of reduced.nodes.items)) c.catalog-2.ensures c.in_ok-reduced.ensures.rows in
    let brought = are_all_brought catalogue base c.leaf_names_are_unique.ensures stated reduced whole c.requires.fits c.requires.ordinary stated_fetches finds fits rows came in
    let before = counts D.refused S.refused start in
    let after = counts D.refused S.refused c.bring.new.machines in
    if_err c.answer.result (memory_fails before after) (c.answer.ensures.fails (parts_come catalogue base c.leaf_names_are_unique.ensures c.contents_ascend.ensures whole fits stated (given rows) reduced.fetches.items c.requires.fits stated_fetches brought))
