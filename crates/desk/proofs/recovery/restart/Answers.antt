-- Why `restart` meets its contract.
use Rattle.std.proofs.Common.{sym, subst, ◌∙◌}
use Rattle.desk.specs.Recovery.{Rises, SendsAgain}
use Rattle.desk.specs.State.{volatile_from, volatile_of}
use Rattle.desk.proofs.Restarted.{restarts}
use Rattle.desk.proofs.recovery.restart.Goals as goal

pub returns-in-Ok-clause-ok : goal.returns-in-Ok-clause-ok
returns-in-Ok-clause-ok g c = λ db same clean fits.
    let p = c.args.volatile.now in
    let old = g.S.DeskStore.kept c.args.store.now in
    let new = g.S.DeskStore.kept c.begin.new.store in
    restarts db old new p.standings.entries c.lost.ensures.ordered p.undecided p.life p.number p.version fits (volatile_from c.in-Ok.begun.standings.entries 0 c.in-Ok.begun.life 0 c.in-Ok.begun.version) c.in-Ok.ensures.ordered
    (c.in-Ok.ensures.rises db same clean) (c.in-Ok.ensures.begins.life clean) (volatile_of c.rise.new.volatile) c.rise.result.letters c.rise.result.replies c.rise.ensures.begun
    (subst (SendsAgain db.sites new) (sym c.rise.ensures.puts_out.letters) (subst (λ ss. SendsAgain ss new c.in-Ok.begun.letters.items) (sym same) (c.in-Ok.ensures.letters clean))) (c.rise.ensures.puts_out.replies ∙ c.in_ok-replies.ensures.notices)

pub returns-in-Ok-clause-rises : goal.returns-in-Ok-clause-rises
returns-in-Ok-clause-rises g c = λ db same clean. subst (Rises db (g.S.DeskStore.kept c.begin.new.store)) (sym c.rise.ensures.begun) (c.in-Ok.ensures.rises db same clean)
