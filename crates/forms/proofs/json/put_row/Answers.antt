use Rattle.std.proofs.Common.{◌≡◌, ◌++◌, ◌∷◌, [], List, ℕ, Bor, ap, arith, string_bytes, sym, ◌∙◌}
use Rattle.std.specs.List.{zip}
use Rattle.std.proofs.lemmas.Grind.{common_steps}
use Rattle.std.proofs.lemmas.Iterator.{YieldsList-from_slice, YieldsList-from_zip}
use Rattle.std.proofs.lemmas.Iterator.Consumers.{YieldsList-at, YieldsList-end}
use Rattle.terms.specs.declared.value.Value.{Value}
use Rattle.forms.specs.Json.{json_member}
use Rattle.forms.specs.Separated.{separated}
use Rattle.forms.proofs.SeparatedLemmas.{between-more, enclosed, put_last, separated-map, separated-more}
use Rattle.forms.proofs.json.put_row.Goals as goal

pub loop-name-preserved : goal.loop-name-preserved
loop-name-preserved c =
    let put : Bor (List ℕ) × Bor Value → List ℕ = λ p. json_member (p.0.now, p.1.now) in
    let item : Bor (List ℕ) × Bor Value = (c.in-Some.name, c.in-Some.value) in
    let more = separated-more put 44 c.loop-name.yielded item in
    (grind (arith, common_steps), sym (between-more 44 c.loop-name.yielded item))

pub returns : goal.returns
returns c =
    let names = YieldsList-at c.zip-name-items.ensures.first (YieldsList-from_slice c.args.header.now c.iter.ensures.rest) in
    let values = YieldsList-at c.zip-name-items.ensures.second (YieldsList-from_slice c.args.values.now c.iter-2.ensures.rest) in
    let all = YieldsList-end (YieldsList-at c.into_iter-name-iterator.ensures.into_iter_gives (YieldsList-from_zip names values)) c.loop-name.yielded c.loop-name.name-iterator c.loop-name.yielded_by c.next.result c.next.new.self c.in-None.is c.next.ensures.steps in
    let member : Bor (List ℕ) × Bor Value → List ℕ × Value = λ p. (p.0.now, p.1.now) in
    let members = separated json_member 44 (zip c.args.header.now c.args.values.now) in
    let same = sym (separated-map json_member 44 member c.loop-name.yielded) ∙ ap (separated json_member 44) all.0 in
    let put : string_bytes c.loop-name.out ≡ (string_bytes c.args.out.now ++ 123 ∷ []) ++ members =
    c.loop-name.invariant.0 ∙ ap (λ bytes. string_bytes c.push_str.new.self ++ bytes) same ∙ ap (λ bytes. bytes ++ members) c.in_ok-push_str.ensures.bytes in
    put_last c.push_str-2.result _ _ _ _ c.push_str-2.ensures.bytes (ap (λ bytes. bytes ++ 125 ∷ 10 ∷ []) put ∙ enclosed (string_bytes c.args.out.now) 123 members (125 ∷ 10 ∷ []))
