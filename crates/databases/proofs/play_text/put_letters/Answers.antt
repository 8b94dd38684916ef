use Rattle.std.proofs.Common.{◌+◌, ◌++◌, ap, string_bytes, ◌∙◌}
use Rattle.catalog.specs.Relation.{catalogue_of}
use Rattle.lines.specs.Cast.{name_of}
use Rattle.databases.specs.PlayText.{letter_line}
use Rattle.databases.proofs.PlayTextLemmas.{letters_text-next}
use Rattle.databases.proofs.play_text.put_letters.Goals as goal

pub loop-place-preserved : goal.loop-place-preserved
loop-place-preserved c =
    let out = string_bytes c.loop-place.out in
    let catalogue = catalogue_of c.args.catalog.now in
    let number = c.args.sent + 1 + c.loop-place.place in
    letters_text-next (name_of c.args.cast.now) catalogue c.args.sent c.args.letters.now c.loop-place.place c.index-letters-place.result out (string_bytes c.put_letter.new.out) _ c.loop-place-test.true
    (c.in_ok-put_letter.ensures ∙ ap (λ name. out ++ letter_line name catalogue number c.index-letters-place.result) c.name.ensures ∙ ap (λ letter. out ++ letter_line (name_of c.args.cast.now letter.txn) catalogue number letter) c.index-letters-place.is)
    c.loop-place.invariant
