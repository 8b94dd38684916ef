-- Why `Tickets::set_change` meets its contract.
use Rattle.std.proofs.Common.{Result, Ok, Err, OnErr, Some, ap, ◌∙◌}
use Rattle.std.proofs.lemmas.Result.{on_ok_weaker}
use Rattle.site.specs.Tickets.{with_done, intends}
use Rattle.site.specs.Youngest.{from_oldest}
use Rattle.site.proofs.OldestFirst.{seen_found, seen_set}
use Rattle.site.proofs.tickets.Tickets.set_change.Goals as goal

on_err : {T E P Q : Type 0} (result : Result T E) → (P → Q) → OnErr result P → OnErr result Q
on_err (Ok x) to holds = tt
on_err (Err e) to holds = to holds

pub returns-clause-ok : goal.returns-clause-ok
returns-clause-ok c = λ now is.
    on_ok_weaker c.set_change.result (seen_set c.args.ticket.now (with_done c.args.op (intends c.args.write now)) c.self.inside.map.entries c.set_change.new.map.entries c.args.self.now c.len-count.ensures.ordered c.self.view_is) (c.set_change.ensures.ok now (seen_found c.args.ticket.now c.self.inside.map.entries c.args.self.now (Some now) c.len-count.ensures.ordered c.self.view_is is))

pub returns-clause-err : goal.returns-clause-err
returns-clause-err c = on_err c.set_change.result (λ same. ap from_oldest same ∙ c.self.view_is) c.set_change.ensures.err
