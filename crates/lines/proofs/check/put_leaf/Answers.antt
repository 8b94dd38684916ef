use Rattle.std.proofs.Common.{◌++◌, [], ◌∷◌, ap, arith, string_bytes, ◌∙◌}
use Rattle.lines.proofs.CheckLemmas.{line_of}
use Rattle.lines.proofs.check.put_leaf.Goals as goal

pub returns : goal.returns
returns c = line_of _ _ (10 ∷ []) _ _ c.in_ok-put_leaf_alone.ensures (c.in_ok-push.ensures.bytes ∙ ap (λ mark. string_bytes c.put_leaf_alone.new.out ++ mark) (c.in_ok-push.ensures.ascii (omega arith)))
