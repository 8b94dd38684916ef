use Rattle.std.proofs.Common.{◌++◌, ℕ, List, OnOk, ◌≡◌, ap, string_bytes, subst, sym, ◌∙◌}
use Rattle.std.specs.List.{flat_map}
use Rattle.std.proofs.lemmas.Iterator.{YieldsList-from_slice, YieldsList-from_zip}
use Rattle.std.proofs.lemmas.Iterator.Consumers.{YieldsList-at, YieldsList-end}
use Rattle.std.proofs.lemmas.List.Folds.{flat_map-map}
use Rattle.terms.specs.declared.value.Value.{Value}
use Rattle.forms.specs.Columns.{aligned, line_of}
use Rattle.forms.proofs.columns.put_row.Goals as goal

pub returns : goal.returns
returns c =
    let widths = YieldsList-at c.zip-width-items.ensures.first (YieldsList-from_slice c.args.widths.now c.iter.ensures.rest) in
    let values = YieldsList-at c.zip-width-items.ensures.second (YieldsList-from_slice c.args.values.now c.iter-2.ensures.rest) in
    let all = YieldsList-end (YieldsList-at c.into_iter-width-iterator.ensures.into_iter_gives (YieldsList-from_zip widths values)) c.loop-width.yielded c.loop-width.width-iterator c.loop-width.yielded_by c.next.result c.next.new.self c.in-None.is c.next.ensures.steps in
    let put : ℕ × Value → List ℕ = λ p. aligned p.0 p.1 in
    let line = c.as_str.ensures.value ∙ c.loop-width.invariant ∙ sym (flat_map-map put (λ p. (p.0.now, p.1.now)) c.loop-width.yielded) ∙ ap (flat_map put) all.0 in
    subst (λ (text : List ℕ). OnOk c.put_line.result (string_bytes c.put_line.new.out ≡ string_bytes c.args.out.now ++ line_of text)) line c.put_line.ensures
