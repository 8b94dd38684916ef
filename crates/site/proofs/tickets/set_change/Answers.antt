-- Why `set_change` meets its contract.
use Rattle.std.proofs.Common.{Result, Ok, Err, OnErr, ◌∙◌, ap, sym}
use Rattle.std.specs.Map.{set_value}
use Rattle.std.specs.Ordering.{is_eq}
use Rattle.std.specs.declared.cmp.Reverse.{Reverse}
use Rattle.std.proofs.lemmas.Map.Steps.{set_value_same}
use Rattle.store.specs.declared.name.Ticket.{Ticket}
use Rattle.store.specs.Name.{ticket_cmp}
use Rattle.site.proofs.tickets.set_change.Goals as goal

on_err : {T E P Q : Type 0} (result : Result T E) → (P → Q) → OnErr result P → OnErr result Q
on_err (Ok x) to holds = tt
on_err (Err e) to holds = to holds

pub returns-in-Some-clause-err : goal.returns-in-Some-clause-err
returns-in-Some-clause-err c =
    let at = λ (key : Reverse Ticket). is_eq (ticket_cmp key.0 c.args.ticket.now) in
    on_err c.intend.result (λ same. (c.get_mut.follows.holds c.intend.new.self).0 ∙ ap (set_value at c.args.map.now.entries) same ∙ set_value_same at c.args.map.now.entries c.in-Some.standing.now (sym c.in-Some.ensures.value)) c.intend.ensures.err
