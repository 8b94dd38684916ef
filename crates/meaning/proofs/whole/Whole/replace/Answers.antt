-- Why `whole::Whole::replace` meets its contract.
use Rattle.std.proofs.Common.{sym, ap, ◌∙◌, refl}
use Rattle.std.specs.FinMap.{from_entries}
use Rattle.std.specs.Option.{option_copied_mut}
use Rattle.meaning.proofs.Maps.{rows_replaced, none_replaced}
use Rattle.meaning.proofs.whole.Whole.replace.Goals as goal
use Rattle.meaning.proofs.whole.Whole.replace.Goals.{in-Some, in_default}

pub returns : goal.returns
returns c =
    elim c.match-get_mut.branch [
      | in-Some w ↦
          let there = sym c.get_mut.ensures.value ∙ ap option_copied_mut w.in-Some.is in
          let writes = c.get_mut.follows.holds c.args.relation in
          ap (λ i. from_entries i.relations.entries) w.self-inside-is
          ∙ rows_replaced c.self.inside.relations.entries (c.get_mut.follows.lender c.args.relation).entries c.args.self.now c.args.name.now c.args.relation w.in-Some.place.now c.self.view_is there (writes.3 (rw there refl)).0
      | in_default w ↦
          let absent = sym c.get_mut.ensures.value ∙ ap option_copied_mut w.in_default.is in
          let same = c.get_mut.follows.holds-at-none in
          ap (λ i. from_entries i.relations.entries) w.self-inside-is ∙ ap (λ m. from_entries m.entries) same
          ∙ none_replaced c.self.inside.relations.entries c.args.self.now c.args.name.now c.args.relation c.self.view_is absent
    ]
