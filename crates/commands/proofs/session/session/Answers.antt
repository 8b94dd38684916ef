use Rattle.std.proofs.Common.{map, rules, subst}
use Rattle.catalog.specs.Catalogue.{Catalogue}
use Rattle.catalog.specs.Relation.{catalogue_of}
use Rattle.desk.specs.CatalogueDatabase.{database}
use Rattle.world.specs.Commands.{MovesFollow}
use Rattle.commands.proofs.SessionLemmas.{talked_over, told_unopened}
use Rattle.commands.proofs.session.session.Goals as goal

pub returns-in_err-database : goal.returns-in_err-database
returns-in_err-database g c = told_unopened g.B.Database.seen g.O.Opens.origin c.args.file (g.W.Write.contents c.args.output.now) (map catalogue_of c.args.chain.now) c.in_err-database.field-0.0 _ (search rules) c.in_err-database.ensures.err

pub returns : goal.returns
returns g c = talked_over g.B.Database.seen g.O.Opens.origin (g.W.Write.contents c.args.output.now) (g.W.Write.contents c.talk.new.output) (map catalogue_of c.args.chain.now) c.in_ok-database.database c.talk.new.database c.in_ok-database.ensures.ok
    (subst (λ (own : Catalogue). MovesFollow (database own)) c.catalog.ensures c.moves_follow.ensures) c.chain_is_listed.ensures c.list_served_is_serial.ensures.heard c.in_ok-talk.ensures.ok
