use Rattle.std.proofs.Common.{◌++◌, ap, string_bytes, sym, ◌∙◌}
use Rattle.std.specs.List.{flat_map}
use Rattle.std.proofs.lemmas.Iterator.{YieldsList-from_chars}
use Rattle.std.proofs.lemmas.Iterator.Consumers.{YieldsList-end}
use Rattle.std.proofs.lemmas.List.Folds.{flat_map-map}
use Rattle.forms.specs.Columns.{shown_character}
use Rattle.forms.proofs.columns.put_shown.Goals as goal

pub returns : goal.returns
returns c =
    let all = YieldsList-end (YieldsList-from_chars c.args.text.now c.utf8.text cc) c.loop-character.yielded _ c.loop-character.yielded_by _ _ c.in-None.is c.next.ensures.steps in
    c.loop-character.invariant ∙ ap (λ bytes. string_bytes c.args.out.now ++ bytes) (sym (flat_map-map shown_character (λ character. character) c.loop-character.yielded) ∙ ap (flat_map shown_character) all.0)
