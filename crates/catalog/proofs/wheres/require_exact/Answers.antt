use Rattle.std.proofs.Common.{List, subst, ◌∙◌}
use Rattle.terms.specs.declared.value.Kind.{Kind}
use Rattle.catalog.specs.declared.exact.Exactness.{Exactness}
use Rattle.catalog.specs.Cells.{HasMoreCells}
use Rattle.catalog.specs.Describes.{kinds_in}
use Rattle.catalog.specs.Exactness.{IsAnswer}
use Rattle.catalog.specs.Frame.{frame_of}
use Rattle.catalog.proofs.OneList.{not_few}
use Rattle.catalog.proofs.wheres.require_exact.Goals as goal

pub returns-clause-none : goal.returns-clause-none
returns-clause-none c =
    let way = c.args.way.now in
    let branches = c.args.branches.now in
    let P : Exactness → Type 0 = λ answer. IsAnswer c.as_slice.result.now way branches 4096 answer in
    let Q : List Kind → Type 0 = λ kinds. HasMoreCells kinds way branches 4096 in
    not_few (kinds_in (frame_of c.args.frame.now)) way branches (subst Q (c.as_slice.ensures.value ∙ c.in_ok-kinds.ensures) (subst P c.in-TooMany.is c.in_ok-try_cells.ensures))
