-- Why `class::Class::split` meets its contract.
use Rattle.std.proofs.Common.{◌≡◌, ◌<◌, ◌∙◌, sym, false, length, get_or, arith}
use Rattle.reader.specs.Class.{is_in}
use Rattle.reader.specs.Reading.{front, after}
use Rattle.reader.proofs.Runs.{parted, front_passes}
use Rattle.reader.proofs.class.Class.split.Goals as goal
use Rattle.reader.proofs.class.Class.split.Goals.{then-loop-end-test+else-has, else-loop-end-test}

-- what the place parts the bytes into
parts : (c : goal.After-split_at) → (c.split_at.result.0.now ≡ front (is_in c.args.self) c.args.bytes.now) × (c.split_at.result.1.now ≡ after (is_in c.args.self) c.args.bytes.now)
parts c =
    let ends : c.loop-end.end < length c.args.bytes.now → is_in c.args.self (get_or c.args.bytes.now c.loop-end.end 0) ≡ false = elim c.loop-end-test.branch [
      | then-loop-end-test+else-has w ↦ λ within. sym w.has.ensures ∙ w.if-has.false
      | else-loop-end-test w ↦ λ within. absurd (omega (arith, w.loop-end-test.false))
    ] in
    let p = parted (is_in c.args.self) c.args.bytes.now c.loop-end.end c.loop-end.invariant.0 c.loop-end.invariant.1 ends in
    (c.split_at.ensures.front ∙ p.0, c.split_at.ensures.back ∙ p.1)

pub returns-clause-of_class : goal.returns-clause-of_class
returns-clause-of_class c = rw ((parts c).0) (front_passes (is_in c.args.self) c.args.bytes.now)

pub returns-clause-front : goal.returns-clause-front
returns-clause-front c = (parts c).0

pub returns-clause-rest : goal.returns-clause-rest
returns-clause-rest c = (parts c).1
