-- Why `start` meets its contract.
use Rattle.std.proofs.Common.{sym, ◌∙◌, ap, subst, ℕ, List}
use Rattle.catalog.specs.declared.relation.SplitRelation.{SplitRelation}
use Rattle.desk.specs.Recovery.{Rises}
use Rattle.desk.specs.State.{volatile_of}
use Rattle.desk.proofs.desk.Desk.start.Goals as goal

pub returns-in-Ok-clause-ok : goal.returns-in-Ok-clause-ok
returns-in-Ok-clause-ok g c = λ db over clean.
    let told = c.begun_under.ensures in
    let kept = g.S.DeskStore.kept in
    let rose = c.in-Ok.ensures.rises db (over.sites ∙ ap (λ (catalog : List (List ℕ) × List SplitRelation). catalog.0) told.catalog) (subst g.S.DeskStore.is_clean told.store clean) in
    subst (λ store. Rises db (kept store) (volatile_of c.begun_under.result.volatile)) (sym told.store) (subst (Rises db (kept c.open.new.store)) (sym told.memory) rose)
