use Rattle.std.proofs.Common.{◌≡◌, ◌+◌, ◌<◌, ◌++◌, ◌∷◌, [], ℕ, List, arith, ap, ap₂, get_or, length, sym, take, ◌∙◌}
use Rattle.std.proofs.lemmas.List.{take_more}
use Rattle.std.proofs.lemmas.Grind.{common_steps}
use Rattle.terms.specs.declared.value.Value.{Value}
use Rattle.forms.specs.Columns.{column_width, widths_from}
use Rattle.forms.proofs.columns.widths.Goals as goal

-- the width of one column more
widths_from-more : (rows : List (List Value)) (place : ℕ) (names : List (List ℕ)) (name : List ℕ) → widths_from rows place (names ++ name ∷ []) ≡ widths_from rows place names ++ column_width rows (place + length names) name ∷ []
widths_from-more rows place [] name = ap (λ at. column_width rows at name ∷ []) (omega arith)
widths_from-more rows place (first ∷ names) name =
    let at : (place + 1) + length names ≡ place + length (first ∷ names) = omega arith in
    ap (λ widths. column_width rows place first ∷ widths) (widths_from-more rows (place + 1) names name ∙ ap (λ at. widths_from rows (place + 1) names ++ column_width rows at name ∷ []) at)

taken : (names : List (List ℕ)) (place : ℕ) → place < length names → length (take place names) ≡ place
taken names place within = grind (arith, common_steps)

from_first : (names : List (List ℕ)) (place : ℕ) → place < length names → place ≡ 0 + length (take place names)
from_first names place within = let e = taken names place within in omega arith

pub loop-place-preserved : goal.loop-place-preserved
loop-place-preserved c =
    let rows = c.args.rows.now in
    let names = c.args.names.now in
    let place = c.loop-place.place in
    let name = c.index-names-place.result in
    let before = take place names in
    let width : c.in_ok-width_at.field-0 ≡ column_width rows (0 + length before) (get_or names place name) =
    c.in_ok-width_at.ensures ∙ ap₂ (λ at named. column_width rows at named) (from_first names place (omega arith)) c.index-names-place.is in
    c.in_ok-push.ensures.items ∙ ap₂ (λ front back. front ++ back ∷ []) c.loop-place.invariant width ∙ sym (widths_from-more rows 0 before (get_or names place name)) ∙ ap (widths_from rows 0) (sym (take_more names place name (omega arith)))
