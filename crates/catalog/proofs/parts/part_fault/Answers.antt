use Rattle.std.proofs.Common.{◌≡◌, List, ℕ, None, not, subst, sym, ap, ◌∙◌}
use Rattle.std.specs.List.{find}
use Rattle.std.specs.Option.{option_copied}
use Rattle.catalog.specs.Counts.{has}
use Rattle.catalog.specs.Parts.{AreApart}
use Rattle.catalog.proofs.ColumnParts.{no_fault}
use Rattle.catalog.proofs.parts.part_fault.Goals as goal

pub returns : goal.returns
returns c =
    let columns = c.args.columns.now in
    let all = c.in_ok-named.named.items in
    let apart : AreApart all = subst AreApart c.as_slice.ensures.value c.in-None.ensures.none in
    let Absent : List ℕ → Type 0 = λ cols. find (λ col. not (has cols col)) columns ≡ None in
    let absent = subst Absent c.as_slice-in-None.ensures.value (sym c.first_absent.ensures ∙ ap option_copied c.in-None-first_absent.is) in
    no_fault columns c.args.groups.now all c.requires.some c.requires.among c.in_ok-named.ensures apart absent
