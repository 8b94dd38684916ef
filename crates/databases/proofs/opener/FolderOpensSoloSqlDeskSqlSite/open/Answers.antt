use Rattle.std.proofs.Common.{ap, length, map, refl, sym, ◌∙◌}
use Rattle.sqlstore.specs.Desk.{desk_kept}
use Rattle.sqlstore.specs.Site.{kept_by}
use Rattle.desk.specs.CatalogueDatabase.{databases}
use Rattle.world.specs.Chain.{sites_of}
use Rattle.world.specs.Settled.{after_committed}
use Rattle.databases.specs.Origin.{Found, Kept}
use Rattle.databases.proofs.ListClientLemmas.{behind_of, nothing_told}
use Rattle.databases.proofs.opener.FolderOpensSoloSqlDeskSqlSite.open.Goals as goal

pub open_stores-requires : goal.open_stores-requires
open_stores-requires g c = c.in_ok-sites.ensures.all ∙ ap (λ chain. length (sites_of chain)) (sym c.first_of-first.ensures.1)

pub returns-in-Ok-clause-ok : goal.returns-in-Ok-clause-ok
returns-in-Ok-clause-ok g c =
    let found : Found = record { desk = desk_kept g.M.Store c.in_ok-sites.field-0.desk.conn; sites = map (λ site. kept_by g.M.Store site.leaves.items site.conn) c.in_ok-sites.field-0.sites.items } in
    record {
      origin = Kept found;
      is_origin = (found, refl);
      last = λ catalogue last. record {
        idle = c.in-Ok.ensures.idle.0;
        goes_on = λ whole left clean.
            let begun = c.in-Ok.ensures.anew catalogue last clean left.first left.machines left.past left.leaves left.served left.memory left.kept in
            record {
              going = c.in-Ok.ensures.idle.1;
              catalog = (c.in-Ok.ensures.last catalogue last clean).is;
              sound = c.in-Ok.ensures.sound clean;
              served = rw (left.is) begun.served;
              stands = rw (c.in-Ok.ensures.idle.0) begun.quiet;
            };
      };
      over = λ first rest chain. record {
        idle = c.in-Ok.ensures.idle.0;
        goes_on = λ whole left clean.
            let begun = c.in-Ok.ensures.lists first rest chain clean left.began left.machines left.past left.leaves left.served left.memory left.kept in
            record {
              going = c.in-Ok.ensures.idle.1;
              number = refl;
              here = begun.2.here;
              next = behind_of (databases first rest) c.in-Ok.database.machines.desk.volatile.version c.in-Ok.database.machines.desk.later.items begun.2.next;
              sound = c.in-Ok.ensures.sound clean;
              told = nothing_told (databases first rest) (after_committed (databases first rest) left.past left.began) whole _ (sym left.is) begun.1.served;
            };
      };
    }
