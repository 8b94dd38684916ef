use Rattle.std.proofs.Common.{map, subst}
use Rattle.catalog.specs.Catalogue.{Catalogue}
use Rattle.catalog.specs.Relation.{catalogue_of}
use Rattle.desk.specs.CatalogueDatabase.{database}
use Rattle.world.specs.Commands.{MovesFollow}
use Rattle.lines.specs.Script.{task_of}
use Rattle.databases.proofs.SoloRunLemmas.{ran_over}
use Rattle.databases.proofs.solo.run.Goals as goal

pub returns-clause-ok : goal.returns-clause-ok
returns-clause-ok g c =
    ran_over g.B.Database.seen g.O.Opens.origin c.args.mode (g.W.Write.contents c.args.output.now) (g.W.Write.contents c.run_items.new.output) (map catalogue_of c.args.chain.now) (map task_of c.args.items.now) c.in_ok-database.database c.run_items.new.database c.in_ok-run_items.field-0
    c.in_ok-database.ensures.ok (subst (λ (own : Catalogue). MovesFollow (database own)) c.catalog.ensures c.moves_follow.ensures) c.chain_is_listed.ensures c.list_served_is_serial.ensures.heard c.run_items.ensures.clean c.in_ok-run_items.ensures.ok
