-- Why `record::fields` meets its contract.
use Rattle.std.proofs.Common.{◌≡◌, ◌++◌, ◌∷◌, [], ℕ, List, Bor, Some, None, map, take, ap, sym, ◌∙◌, arith}
use Rattle.csv.specs.Records.{Row, field_at, fields_of}
use Rattle.std.proofs.lemmas.List.{map-append}
use Rattle.exchange.proofs.Records.{within_fields, fields_more, fields_end}
use Rattle.exchange.proofs.record.fields.Goals as goal

pub loop-field-preserved : goal.loop-field-preserved
loop-field-preserved c =
    let steps = c.in-Some.ensures.steps in
    let all : List (List ℕ) = fields_of c.args.current.now in
    let place = c.loop-field.field-iterator.at in
    let now : Bor (List ℕ) → List ℕ = λ field. field.now in
    let found : field_at all place ≡ Some c.in-Some.field.now = sym (ap (λ (row : Row). field_at (fields_of row) place) c.loop-field.invariant.same) ∙ sym steps.1 in
    let within = within_fields all place c.in-Some.field.now found in
    let put : map now c.push.new.self.items ≡ take place all ++ c.in-Some.field.now ∷ [] =
    ap (map now) c.in_ok-push.ensures.items ∙ map-append now c.loop-field.fields.items (c.in-Some.field ∷ []) ∙ ap (λ (before : List (List ℕ)). before ++ c.in-Some.field.now ∷ []) c.loop-field.invariant.read in
    record {
      same = ap (λ (row : Bor Row). row.now) steps.0 ∙ c.loop-field.invariant.same;
      within = let next = steps.2 in omega arith;
      read = put ∙ sym (fields_more all place c.in-Some.field.now found) ∙ ap (λ at. take at all) (sym steps.2);
    }

pub returns : goal.returns
returns c =
    let steps = c.in-None.ensures.steps in
    let all : List (List ℕ) = fields_of c.args.current.now in
    let place = c.loop-field.field-iterator.at in
    let none : field_at all place ≡ None = sym (ap (λ (row : Row). field_at (fields_of row) place) c.loop-field.invariant.same) ∙ sym steps.1 in
    c.loop-field.invariant.read ∙ fields_end all place c.loop-field.invariant.within none
