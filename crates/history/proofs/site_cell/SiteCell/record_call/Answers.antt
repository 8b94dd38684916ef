-- Why a site's history replays after a call.
use Rattle.history.proofs.SiteCells.{site_more, site_stays}
use Rattle.history.proofs.site_cell.SiteCell.record_call.Goals as goal

pub invariant_of-self-in-Break-branch-2 : goal.invariant_of-self-in-Break-branch-2
invariant_of-self-in-Break-branch-2 g c =
    let S = g.S.SiteStore in
    let had = c.self.inside in
    let told = c.in_err-entry.ensures in
    site_stays S.is_clean S.is_sound S.refused S.kept had.opening had.leaves.items had.history.items c.try_reserve.new.self.items had.site c.called.new.site
    c.try_reserve.ensures.items told.store c.self.invariant told.err

pub invariant_of-self-2 : goal.invariant_of-self-2
invariant_of-self-2 g c =
    let S = g.S.SiteStore in
    let had = c.self.inside in
    let told = c.in_ok-entry.ensures in
    site_more S.is_clean S.is_sound S.refused S.kept had.opening had.leaves.items had.history.items c.try_reserve.new.self.items had.site c.called.new.site
    c.try_reserve.ensures.items told.store c.self.invariant c.push_reserved.new.self.items c.in_ok-entry.entry c.push_reserved.ensures.items told.moves
