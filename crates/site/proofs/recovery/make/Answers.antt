-- Why `make` meets its contract.
use Rattle.site.proofs.SettledRows.{made_more}
use Rattle.site.proofs.recovery.make.Goals as goal

pub returns : goal.returns
returns c = record { ok = λ leaf. made_more c.args.parts.now c.make_rooms.new.self c.make.new.self c.args.changes c.make_rooms.ensures.same c.make.ensures.over leaf }
