-- Why `met::some_value_meets` meets its contract.
use Rattle.std.proofs.Common.{◌≡◌, ◌++◌, true, flat_map, sym, ◌∙◌}
use Rattle.terms.specs.TestValues.{constants, least, with_after}
use Rattle.plan.specs.Picked.{is_free, put_on}
use Rattle.plan.proofs.MetColumns.{free_met}
use Rattle.plan.proofs.met.some_value_meets.Goals as goal

pub returns-then-is_free : goal.returns-then-is_free
returns-then-is_free c =
    let conds = put_on c.args.places c.args.of_leaf.now ++ c.args.others.now in
    let free : is_free conds c.args.col ≡ true = sym c.is_free.ensures ∙ c.if-is_free.true in
    free_met conds c.args.col (least c.args.kind) (flat_map with_after (constants conds c.args.col)) free
