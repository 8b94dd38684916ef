use Rattle.std.proofs.Common.{◌≡◌, ◌+◌, ℕ, Some, ap, arith, length, sym, ◌∙◌}
use Rattle.std.specs.Option.{option_copied}
use Rattle.std.proofs.lemmas.Result.{IfOk-weaker}
use Rattle.catalog.specs.Relation.{catalogue_of}
use Rattle.desk.specs.declared.reply.Out.{Out}
use Rattle.world.specs.Posted.{letters_in}
use Rattle.world.specs.Runs.{entry_of}
use Rattle.lines.specs.Cast.{name_of}
use Rattle.databases.specs.PlayText.{out_text}
use Rattle.databases.proofs.CountedLemmas.{letters_more}
use Rattle.databases.proofs.schedule.Schedule.told.Goals as goal

pub returns : goal.returns
returns g c = λ what told past is.
    let named = name_of c.args.self.now.cast in
    let entries = c.args.self.now.world.entries.items in
    let catalogue = catalogue_of c.args.self.now.world.machines.desk.catalog in
    let out = c.in-Some.out.now in
    let last : option_copied c.last_out.result ≡ Some told = c.last_out.ensures past (entry_of what told) (c.entries.ensures ∙ is) in
    let here : Some out ≡ Some told = ap option_copied (sym c.in-Some.is) ∙ last in
    let same : out ≡ told = cc in
    let letters : length (letters_in entries) ≡ length (letters_in past) + length told.letters = ap (λ all. length (letters_in all)) is ∙ letters_more past what told in
    let its : length c.as_slice.result.now ≡ length told.letters = ap length c.as_slice.ensures ∙ ap (λ (o : Out). length o.letters) same in
    let before : c.saturating_sub-before.result ≡ length (letters_in past) = c.saturating_sub-before.ensures ∙ omega (arith, c.len.ensures, c.requires, letters, its) in
    IfOk-weaker c.out_text.result _ _
    (λ text h. h ∙ ap (λ catalog. out_text named (catalogue_of catalog) c.saturating_sub-before.result out) c.catalog.ensures ∙ ap (λ (n : ℕ). out_text named catalogue n out) before ∙ ap (out_text named catalogue (length (letters_in past))) same) c.out_text.ensures
