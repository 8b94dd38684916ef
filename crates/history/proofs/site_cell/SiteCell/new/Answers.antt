-- Why a site's first history replays.
use Rattle.history.proofs.SiteCells.{site_opens}
use Rattle.history.proofs.site_cell.SiteCell.new.Goals as goal

pub invariant_of-result : goal.invariant_of-result
invariant_of-result g c =
    let S = g.S.SiteStore in
    let told = c.in-Ok.ensures in
    site_opens S.is_clean S.is_sound S.refused S.kept c.in-Ok.opening c.args.leaves.items c.new.result.items c.args.site c.kept.new.self
    c.new.ensures.items told.reads.store told.memory told.learnt told.all told.reads.same c.requires.begins c.requires.leaves
