-- Why `delete::run_delete` meets its contract.
use Rattle.std.proofs.Common.{List, not, subst, sym}
use Rattle.terms.specs.declared.value.Value.{Value}
use Rattle.terms.specs.Cond.{conds_hold}
use Rattle.meaning.specs.Relation.{Ascends}
use Rattle.meaning.proofs.Rows.{Ascends-passed}
use Rattle.meaning.proofs.delete.run_delete.Goals as goal

pub of_rows-requires : goal.of_rows-requires
of_rows-requires c =
    let P : List (List Value) → Type 0 = Ascends in
    subst P (sym c.in_ok-left.ensures) (Ascends-passed (λ row. not (conds_hold c.args.delete.now.conds row)) c.rows-rows.result.now c.rows-rows.ensures.ascends)
