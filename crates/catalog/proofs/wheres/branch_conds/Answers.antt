use Rattle.std.proofs.Common.{◌≡◌, true, List, map, subst, ap, ◌∙◌, IfOk, IfErr}
use Rattle.std.specs.List.{AllByRecursion}
use Rattle.terms.specs.Cond.{IsCondOf}
use Rattle.terms.specs.declared.value.Kind.{Kind}
use Rattle.meaning.specs.declared.schema.Column.{Column}
use Rattle.reader.specs.Scope.{types}
use Rattle.toml.specs.View.{view}
use Rattle.reader.specs.Breaks.{SomeOf}
use Rattle.catalog.specs.Describes.{Each, IsWhereOn}
use Rattle.catalog.specs.Frame.{frame_of}
use Rattle.catalog.specs.NodeBreaks.{WhereBreaks}
use Rattle.catalog.specs.Refuses.{is_of_text}
use Rattle.catalog.proofs.BranchConds.{types_visible}
use Rattle.catalog.proofs.wheres.branch_conds.Goals as goal

pub returns-clause-found : goal.returns-clause-found
returns-clause-found c =
    let P : List Column → Type 0 = λ cs. IfOk c.conds_on.result (λ conds. Each (IsWhereOn cs) (map view c.args.nodes.now) conds.items) in
    subst P c.in_ok-columns.ensures (subst P c.as_slice.ensures.value c.conds_on.ensures.found)

pub returns-clause-fit : goal.returns-clause-fit
returns-clause-fit c =
    let P : List Kind → Type 0 = λ kinds. IfOk c.conds_on.result (λ conds. AllByRecursion (λ cs. AllByRecursion (IsCondOf kinds) cs) conds.items) in
    subst P (ap types (c.as_slice.ensures.value ∙ c.in_ok-columns.ensures) ∙ types_visible c.args.within.now 0 (frame_of c.args.frame.now).columns) c.conds_on.ensures.fit

pub returns-clause-breaks : goal.returns-clause-breaks
returns-clause-breaks c =
    let P : List Column → Type 0 = λ cs. IfErr c.conds_on.result (λ rule. is_of_text rule ≡ true → SomeOf (WhereBreaks rule cs) (map view c.args.nodes.now)) in
    subst P c.in_ok-columns.ensures (subst P c.as_slice.ensures.value c.conds_on.ensures.breaks)
