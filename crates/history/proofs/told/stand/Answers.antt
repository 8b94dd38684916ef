-- Why `stand` meets its contract.
use Rattle.std.proofs.Common.{◌≡◌, ◌∙◌, Err, Some, None, slice_get, sym, ap, subst, inl}
use Rattle.std.specs.Option.{option_copied}
use Rattle.std.proofs.lemmas.Option.{slice_get-get_or}
use Rattle.std.proofs.lemmas.Result.{err_from_is_err_and}
use Rattle.store.specs.declared.name.Txn.{Txn}
use Rattle.history.specs.Picks.{acts_of, rows_of}
use Rattle.history.specs.Standing.{known_call, told_under}
use Rattle.history.specs.Told.{IsNotTold, accepted_in, later}
use Rattle.history.proofs.LastCalls.{last_at}
use Rattle.history.proofs.Looking.{all_stand, looking_found, looking_on, not_standing, told_changed, under_empty, untold_is}
use Rattle.history.proofs.told.stand.Goals as goal
use Rattle.history.proofs.told.stand.Goals.{then-branch, else-branch}

pub returns-in_err-picks-clause-why : goal.returns-in_err-picks-clause-why
returns-in_err-picks-clause-why c =
    let p = err_from_is_err_and c.from_residual.result c.from_residual.ensures.1 in
    rw (p.1, p.2) (λ k e. inl (c.in_err-picks.ensures.why k (ap Err (untold_is c.in_err-picks.field-0.0 k cc))))

pub loop-entry-preserved : goal.loop-entry-preserved
loop-entry-preserved c =
    let schema = c.args.schema.now.relations in
    let entries = c.args.entries.now in
    let acts = acts_of c.in_ok-picks.picks.items in
    let i = c.loop-entry.entry-index in
    let entry = c.entry-item.result in
    let known = known_call c.loop-entry.last in
    let now = known_call c.note.new.last in
    let waiting = c.loop-entry.waiting in
    let at : slice_get entries i ≡ Some entry = slice_get-get_or entries i entry c.loop-entry-test.true ∙ ap Some (sym c.entry-item.is) in
    let calls = λ (txn : Txn). c.in_ok-note.ensures txn ∙ (ap (later (accepted_in entry.fault entry txn)) (c.loop-entry.invariant.calls txn) ∙ sym (last_at txn entries i entry c.loop-entry-test.true c.entry-item.is)) in
    elim c.if-branch.branch [
      | then-branch w ↦ rw w.waiting-is (looking_found schema entries acts known now (told_under waiting) (told_under w.remove.new.self) i entry at calls c.loop-entry.invariant (c.in_ok-stands_in.ensures.0 w.if-branch.true) (told_changed waiting w.remove.new.self entry.number None w.remove.ensures.updates))
      | else-branch w ↦ rw w.waiting-is (looking_on schema entries acts known now (told_under waiting) i entry at calls c.loop-entry.invariant (λ found. let yes = c.in_ok-stands_in.ensures.1 found in let no = w.if-branch.false in cc))
    ]

pub returns-in-Some-clause-why : goal.returns-in-Some-clause-why
returns-in-Some-clause-why c = λ k e.
    let schema = c.args.schema.now.relations in
    let entries = c.args.entries.now in
    let lists = rows_of c.args.lists.now in
    let is : c.in-Some.number.now ≡ k = cc in
    subst (IsNotTold schema entries lists) is
    (not_standing schema entries lists (acts_of c.in_ok-picks.picks.items) (known_call c.loop-entry.last) (told_under c.loop-entry.waiting) c.loop-entry.entry-index c.in-Some.number.now c.in-Some.field-0-1.now.now c.in_ok-picks.ensures.ok c.loop-entry-test.false c.loop-entry.invariant (ap option_copied c.in-Some.ensures.value))

pub returns-clause-ok : goal.returns-clause-ok
returns-clause-ok c =
    all_stand c.args.schema.now.relations c.args.entries.now (rows_of c.args.lists.now) (acts_of c.in_ok-picks.picks.items) (known_call c.loop-entry.last) (told_under c.loop-entry.waiting) c.loop-entry.entry-index c.in_ok-picks.ensures.ok c.loop-entry.invariant
    (λ k. under_empty c.loop-entry.waiting k (λ some. let is = c.in-None.ensures.variant.1 some in cc))
