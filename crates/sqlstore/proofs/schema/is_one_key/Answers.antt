use Rattle.std.proofs.Common.{subst, arith}
use Rattle.std.specs.Bool.{Decides}
use Rattle.std.proofs.lemmas.Bool.Decides.{Decides-eqb}
use Rattle.std.proofs.lemmas.Slice.Eq.{slice_eq-Decides}
use Rattle.std.specs.Prelude.{◌≡◌}
use Rattle.sqlstore.proofs.Ours.{single, one_key}
use Rattle.sqlstore.proofs.schema.is_one_key.Goals as goal

pub returns-in-len1 : goal.returns-in-len1
returns-in-len1 c =
    one_key c.args.keys.now c.only-item.result c.args.key.now c.eq.result
    (single c.args.keys.now c.only-item.result (omega arith) c.only-item.is)
    (subst (λ only. Decides c.eq.result (only ≡ c.args.key.now)) c.as_slice.ensures (slice_eq-Decides Decides-eqb _ _ _ c.eq.ensures))
