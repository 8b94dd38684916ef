-- Why `command_of` meets its contract.
use Rattle.std.proofs.Common.{List, subst}
use Rattle.meaning.specs.declared.schema.RelationSchema.{RelationSchema}
use Rattle.reader.specs.Command.{IsCommandOf, IsTextOf}
use Rattle.world.specs.Commands.{IsUnreadable}
use Rattle.world.proofs.Denials.{unreadable}
use Rattle.world.proofs.command.command_of.Goals as goal

pub returns-in-Ok-clause-read : goal.returns-in-Ok-clause-read
returns-in-Ok-clause-read c = subst (λ (schemas : List RelationSchema). IsTextOf schemas c.args.text.now c.in-Ok.command) c.schema.ensures.schemas c.in-Ok.ensures.found

pub returns-in-Err-clause-reader_refusal : goal.returns-in-Err-clause-reader_refusal
returns-in-Err-clause-reader_refusal c = subst (λ (schemas : List RelationSchema). IsUnreadable schemas c.args.text.now c.reader_refusal.result) c.schema.ensures.schemas
    (unreadable c.schema.result.now.relations c.args.text.now c.in-Err.fault c.reader_refusal.result c.reader_refusal.ensures c.in-Err.ensures.none c.in-Err.ensures.rule)

pub returns-in-Ok-clause-fits : goal.returns-in-Ok-clause-fits
returns-in-Ok-clause-fits c = subst (λ (schemas : List RelationSchema). IsCommandOf schemas c.in-Ok.command) c.schema.ensures.schemas c.in-Ok.ensures.fits
