-- Why `Site::inquire` meets its contract.
use Rattle.protocol.specs.Site.{inquiries}
use Rattle.site.specs.Inquiries.{inquiries_of}
use Rattle.site.specs.State.{state_of, volatile_of}
use Rattle.site.proofs.Inquired.{inquires, if_inquires}
use Rattle.site.proofs.site.Site.inquire.Goals as goal

pub returns : goal.returns
returns g c = λ fits.
    let p = c.args.self.now.volatile in
    let kept = g.S.SiteStore.kept c.args.self.now.store in
    if_inquires (λ letters. letters.items) c.inquire.result (inquiries_of p.name p.standings) (inquiries p.name (state_of kept (volatile_of p)))
    c.inquire.ensures.letters (inquires p.name kept p.standings p.locks.items p.active p.life p.number c.inquire.ensures.ordered fits)
