-- Why `PlainSite::load` meets its contract.
use Rattle.store.specs.ContentLaws.{same_made}
use Rattle.store.proofs.plain_site.PlainSiteSiteStore.load.Goals as goal

pub returns-clause-all : goal.returns-clause-all
returns-clause-all c = λ clean. record {
  fragments = same_made c.in_ok-changes.field-0 c.args.self.now.parts c.in_ok-changes.ensures.same;
  rows = c.in_ok-site_rows.ensures;
}
