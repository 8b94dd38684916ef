-- Why `moves::put_site_moves` meets its contract: number by number, the moves of all are put.
use Rattle.std.proofs.Common.{arith}
use Rattle.catalog.specs.Relation.{catalogue_of}
use Rattle.answers.proofs.Numbered.{all_put, none_put, number_put, one_put}
use Rattle.answers.proofs.moves.put_site_moves.Goals as goal

pub loop-number-init : goal.loop-number-init
loop-number-init c = none_put _ _

pub loop-number-preserved : goal.loop-number-preserved
loop-number-preserved c =
    one_put _ _ _ _ c.loop-number.number
    (number_put (catalogue_of c.args.old.now) (catalogue_of c.args.new.now) c.args.rows.now c.args.site.now c.args.relation.now c.in_ok-copy.field-0 c.loop-number.number _ _ c.loop-number.moves.items c.put_moves.new.moves.items c.in_ok-copy.ensures
    c.leaf_there-before.ensures c.leaf_there-after.ensures c.in_ok-put_moves.ensures)
    c.loop-number.invariant

pub returns : goal.returns
returns c = all_put _ _ _ c.loop-number.number (omega arith) c.loop-number.invariant
