use Rattle.std.proofs.Common.{◌≡◌, ◌++◌, ◌∷◌, [], ap, chars, string_bytes, sym, ◌∙◌}
use Rattle.std.specs.List.{flat_map}
use Rattle.std.proofs.lemmas.Iterator.{YieldsList-from_chars}
use Rattle.std.proofs.lemmas.Iterator.Consumers.{YieldsList-end}
use Rattle.std.proofs.lemmas.List.Folds.{flat_map-map}
use Rattle.forms.specs.Json.{json_character}
use Rattle.forms.proofs.SeparatedLemmas.{enclosed, put_last}
use Rattle.forms.proofs.json.put_text.Goals as goal

pub returns : goal.returns
returns c =
    let all = YieldsList-end (YieldsList-from_chars c.args.text.now c.utf8.text cc) c.loop-character.yielded _ c.loop-character.yielded_by _ _ c.in-None.is c.next.ensures.steps in
    let inside = flat_map json_character (chars c.args.text.now) in
    let put : string_bytes c.loop-character.out ≡ (string_bytes c.args.out.now ++ 34 ∷ []) ++ inside =
    c.loop-character.invariant ∙ ap (λ bytes. string_bytes c.push_str.new.self ++ bytes) (sym (flat_map-map json_character (λ character. character) c.loop-character.yielded) ∙ ap (flat_map json_character) all.0) ∙ ap (λ bytes. bytes ++ inside) c.in_ok-push_str.ensures.bytes in
    put_last c.push_str-2.result _ _ _ _ c.push_str-2.ensures.bytes (ap (λ bytes. bytes ++ 34 ∷ []) put ∙ enclosed (string_bytes c.args.out.now) 34 inside (34 ∷ []))
