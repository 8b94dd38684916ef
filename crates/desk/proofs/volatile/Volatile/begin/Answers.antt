-- Why `begin` meets its contract.
use Rattle.std.proofs.Common.{ap, ◌∙◌, ◌+◌}
use Rattle.std.specs.BTreeMap.{insert_entry}
use Rattle.store.specs.Name.{txn_cmp}
use Rattle.desk.specs.State.{volatile_from}
use Rattle.desk.proofs.volatile.Volatile.begin.Goals as goal

pub returns-clause-ok : goal.returns-clause-ok
returns-clause-ok c =
    let old = c.args.self.now in
    ap (λ es. volatile_from es (old.undecided + 1) old.life (old.number + 1) old.version)
    (c.in_ok-add.ensures.ok ∙ ap (λ txn. insert_entry txn_cmp old.standings.entries txn c.args.standing) c.requires.txn)
