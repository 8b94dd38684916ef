-- Why `text::are_same` meets its contract.
use Rattle.std.proofs.Common.{◌≡◌, ◌≤◌, length, sym, ◌∙◌, arith}
use Rattle.std.proofs.lemmas.List.{take_all}
use Rattle.std.specs.Cmp.Lexicographic.{bytes_decides}
use Rattle.terms.proofs.text.are_same.Goals as goal

pub returns : goal.returns
returns c =
    let bytes = c.args.bytes.now in
    let others = c.args.others.now in
    let place = c.loop-place.place in
    let long : length bytes ≤ place = omega arith in
    let long_others : length others ≤ place = omega arith in
    let same : bytes ≡ others = sym (take_all place bytes long) ∙ c.loop-place.invariant ∙ take_all place others long_others in
    sym ((bytes_decides bytes others).1 same)
