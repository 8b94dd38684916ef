-- Why `ensure_no_commit_row` meets its contract.
use Rattle.std.proofs.Common.{◌≡◌, sym, ◌∙◌, subst, List, is_some}
use Rattle.std.proofs.lemmas.Bool.{eqb-true}
use Rattle.std.specs.Vec.{vec_len}
use Rattle.store.specs.declared.name.Txn.{Txn}
use Rattle.site.specs.Settled.{is_among}
use Rattle.desk.specs.Acknowledge.{kept_voters}
use Rattle.world.specs.Contents.{held}
use Rattle.world.proofs.SitesUp.{nothing_left}
use Rattle.world.proofs.recovery.ensure_no_commit_row.Goals as goal

pub returns-then-is_empty-clause-none : goal.returns-then-is_empty-clause-none
returns-then-is_empty-clause-none g c = λ db clean sound fit txn.
    let left = c.in_ok-decided.field-0 in
    let none = nothing_left left.items (sym left.ok.0 ∙ eqb-true (vec_len left) 0 (sym c.is_empty.ensures ∙ c.if-is_empty.true)) in
    subst (λ (txns : List Txn). is_among txns txn ≡ is_some (kept_voters ((held g.D.DeskStore.kept g.S.SiteStore.kept c.args.machines.now).table.standing txn))) none (c.in_ok-decided.ensures.all clean sound fit.desk.rows txn)

-- over lists
pub returns-then-is_empty-clause-lists : goal.returns-then-is_empty-clause-lists
returns-then-is_empty-clause-lists g c = λ db clean sound fit txn.
    let left = c.in_ok-decided.field-0 in
    let none = nothing_left left.items (sym left.ok.0 ∙ eqb-true (vec_len left) 0 (sym c.is_empty.ensures ∙ c.if-is_empty.true)) in
    subst (λ (txns : List Txn). is_among txns txn ≡ is_some (kept_voters ((held g.D.DeskStore.kept g.S.SiteStore.kept c.args.machines.now).table.standing txn))) none (c.in_ok-decided.ensures.all clean sound fit.desk.rows txn)
