-- Why `moves::put_moves` meets its contract where neither leaf is there.
use Rattle.answers.proofs.Numbered.{nothing_put}
use Rattle.answers.proofs.moves.put_moves.Goals as goal

pub returns-then-is_none-2 : goal.returns-then-is_none-2
returns-then-is_none-2 c = nothing_put c.args.site.now c.args.name.now c.args.before c.args.after c.args.rows.now c.args.moves.now.items c.if-is_none.ensures c.if-is_none-2.ensures
