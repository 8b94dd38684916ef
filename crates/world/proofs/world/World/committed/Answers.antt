-- Why `World::committed` meets its contract.
use Rattle.std.proofs.Common.{◌≡◌, IfOk, map, subst}
use Rattle.world.specs.Contents.{held}
use Rattle.world.specs.Committed.{committed_of}
use Rattle.world.specs.Replies.{committed_in}
use Rattle.world.proofs.Heard.{were_decided}
use Rattle.world.proofs.InTurn.{in_turn}
use Rattle.world.proofs.SiteSteps.{if_ok}
use Rattle.world.proofs.DatabaseIsOpened.{runs_serial}
use Rattle.protocol.specs.Local.{local}
use Rattle.protocol.proofs.ListLaw.{list_law}
use Rattle.desk.specs.Database.{statements}
use Rattle.world.proofs.world.World.committed.Goals as goal

pub returns-clause-decided : goal.returns-clause-decided
returns-clause-decided g c = λ db whole past run.
    let entries = c.args.self.now.entries.items in
    if_ok c.committed_in.result (λ all is. were_decided db entries past run.tells all.items is) (subst (λ es. IfOk c.committed_in.result (λ all. all.items ≡ map (committed_of es) (committed_in es))) c.entries.ensures c.committed_in.ensures)

pub returns-clause-serial : goal.returns-clause-serial
returns-clause-serial g c = λ db whole past listed run.
    let machines = held g.D.DeskStore.kept g.S.SiteStore.kept c.args.self.now.machines in
    let entries = c.args.self.now.entries.items in
    let serial = runs_serial db (list_law local (statements db) listed.lawful) whole machines entries past run in
    if_ok c.committed_in.result (λ all is. (in_turn db whole machines entries all.items is serial, serial)) (subst (λ es. IfOk c.committed_in.result (λ all. all.items ≡ map (committed_of es) (committed_in es))) c.entries.ensures c.committed_in.ensures)
