use Rattle.std.proofs.Common.{map}
use Rattle.catalog.specs.Relation.{catalogue_of}
use Rattle.databases.proofs.OpenerLemmas.{begins_alone}
use Rattle.databases.proofs.opener.open_alone.Goals as goal

pub returns-in-Ok-clause-ok : goal.returns-in-Ok-clause-ok
returns-in-Ok-clause-ok g c =
    begins_alone g.B.Database.seen g.O.Opens.origin (map catalogue_of c.in_ok-chain.chain) (catalogue_of c.args.catalog.now) c.in-Ok.database c.in_ok-chain.ensures.one c.in-Ok.ensures.ok
