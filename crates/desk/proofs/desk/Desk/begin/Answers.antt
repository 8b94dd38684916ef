-- Why `begin` meets its contract.
use Rattle.std.proofs.Common.{sym, subst}
use Rattle.desk.specs.Request.{IsOver}
use Rattle.desk.proofs.desk.Desk.begin.Goals as goal

pub returns-clause-full : goal.returns-clause-full
returns-clause-full g c = λ db over fits full. c.call_begin.ensures.full db (g.S.DeskStore.kept c.args.self.now.store) (subst (IsOver db) (sym c.sites.ensures) over) fits full
