-- Why the coordinator's history replays after a call.
use Rattle.std.proofs.Common.{◌≡◌, ◌∙◌, List, ap, get_or, length, refl, subst, sym}
use Rattle.std.proofs.lemmas.List.{get_or_push}
use Rattle.history.specs.declared.entry.Entry.{Entry}
use Rattle.history.specs.DeskHistory.{AddsDesk, DeskHistory}
use Rattle.history.proofs.DeskCells.{desk_adds, desk_more, desk_stays}
use Rattle.history.proofs.desk_cell.DeskCell.record_call.Goals as goal

pub invariant_of-self-in-Break-branch-2 : goal.invariant_of-self-in-Break-branch-2
invariant_of-self-in-Break-branch-2 g c =
    let D = g.D.DeskStore in
    let had = c.self.inside in
    let told = c.in_err-entry.ensures in
    desk_stays D.is_clean D.is_sound D.refused D.kept had.catalogs.items had.opening had.history.items c.try_reserve.new.self.items had.desk c.called.new.desk
    c.try_reserve.ensures.items told.store c.self.invariant told.still.0 told.still.1 told.err

pub invariant_of-self-2 : goal.invariant_of-self-2
invariant_of-self-2 g c =
    let D = g.D.DeskStore in
    let had = c.self.inside in
    let told = c.in_ok-entry.ensures in
    desk_more D.is_clean D.is_sound D.refused D.kept had.catalogs.items had.opening had.history.items c.try_reserve.new.self.items had.desk c.called.new.desk
    c.try_reserve.ensures.items told.store c.self.invariant c.args.input c.in_ok-entry.entry told.input told.catalogs told.next told.moves c.push_reserved.new.self.items c.push_reserved.ensures.items

pub returns : goal.returns
returns g c =
    let D = g.D.DeskStore in
    let had = c.self.inside in
    let told = c.in_ok-entry.ensures in
    let new : DeskHistory g.row.D.Denot = record { catalogs = had.catalogs.items; opening = had.opening; entries = c.push_reserved.new.self.items; desk = c.called.new.desk } in
    let adds = desk_adds D.is_clean D.is_sound D.refused D.kept had.catalogs.items had.opening had.history.items c.try_reserve.new.self.items had.desk c.called.new.desk
    c.try_reserve.ensures.items told.store c.self.invariant c.args.input c.in_ok-entry.entry told.input told.catalogs told.next told.moves c.push_reserved.new.self.items c.push_reserved.ensures.items in
    let here : c.in_ok-entry.entry ≡ c.index.result.now = sym (c.index.ensures ∙ ap (λ (entries : List Entry). get_or entries c.len-at.result c.index.result.now) c.push_reserved.ensures.items
    ∙ get_or_push c.try_reserve.new.self.items c.in_ok-entry.entry c.index.result.now c.len-at.result (ap length c.try_reserve.ensures.items ∙ sym (c.len-at.ensures ∙ had.history.ok.0))) in
    let since : AddsDesk D.is_clean D.kept c.args.self.now c.args.input c.in_ok-entry.entry new = subst (λ (old : DeskHistory g.row.D.Denot). AddsDesk D.is_clean D.kept old c.args.input c.in_ok-entry.entry new) c.self.view_is adds in
    ((refl, λ _. tt, subst (λ (entry : Entry). AddsDesk D.is_clean D.kept c.args.self.now c.args.input entry new) here since), record { after = tt })
