use Rattle.std.proofs.Common.{add-one, ap, sym, ◌∙◌, Some, map, ◌∷◌, []}
use Rattle.std.proofs.lemmas.List.{map-append}
use Rattle.std.specs.Option.{option_copied}
use Rattle.toml.specs.Data.{as_str}
use Rattle.toml.specs.View.{view}
use Rattle.catalog.specs.Form.{texts_of}
use Rattle.catalog.proofs.Answered.{answered_next, answered_not}
use Rattle.catalog.proofs.form.all_texts.Goals as goal

pub returns-in_default : goal.returns-in_default
returns-in_default c = sym (answered_not as_str view c.args.items.now c.loop-item.item-index _ _ c.item-item.is c.loop-item-test.true (sym c.as_str.ensures ∙ ap option_copied c.in_default.is))

pub loop-item-preserved : goal.loop-item-preserved
loop-item-preserved c =
    rw add-one (answered_next as_str view c.args.items.now c.loop-item.item-index _ _ (texts_of c.loop-item.texts) c.in-Some.text.now c.item-item.is c.loop-item-test.true c.loop-item.invariant (sym c.as_str.ensures ∙ ap option_copied c.in-Some.is)
    ∙ ap Some (sym (ap (map (λ text. text.now)) c.in_ok-push.ensures.items ∙ map-append (λ text. text.now) c.loop-item.texts.items (c.in-Some.text ∷ []))))
