-- Why `command_of` meets its contract.
use Rattle.wire.proofs.Reading.{unread_of}
use Rattle.wire.proofs.talk.command_of.Goals as goal

pub returns-in-Err-clause-unread : goal.returns-in-Err-clause-unread
returns-in-Err-clause-unread c = unread_of c.args.schema.now.relations c.args.text.now c.in-Err.fault c.from.result c.from.ensures c.in-Err.ensures.none
