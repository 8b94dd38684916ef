-- Why `joined::Joined::beside_copy` meets its contract.
use Rattle.std.proofs.Common.{[], ◌∷◌, ◌++◌, List, ap, ◌∙◌}
use Rattle.terms.specs.declared.value.Value.{Value}
use Rattle.answers.specs.Laid.{rows_behind}
use Rattle.answers.proofs.Laid.{beside_is}
use Rattle.answers.proofs.joined.Joined.beside_copy.Goals as goal

pub returns : goal.returns
returns c =
    let other = c.args.other.now in
    let one = rows_behind c.in_ok-with.field-0 in
    beside_is c.args.count c.args.self.first other.first (rows_behind c.args.self.behind) (rows_behind other.behind) (rows_behind c.in_ok-own.own) one (rows_behind c.in_ok-behind.behind) c.requires c.in_ok-own.ensures (c.in_ok-with.ensures ∙ ap (λ (row : List Value). rows_behind c.in_ok-own.own ++ row ∷ []) c.in_ok-copy.ensures)
    (c.in_ok-behind.ensures ∙ ap (λ (rows : List (List Value)). one ++ rows) c.as_slice.ensures)
