use Rattle.std.proofs.Common.{◌++◌, ℕ, List, ap, append_assoc, codes, string_bytes, ◌∙◌}
use Rattle.commands.specs.Stats.{number_line}
use Rattle.commands.proofs.stats.put_broken_off.Goals as goal

pub returns : goal.returns
returns c =
    let restart = number_line (codes "aborted Restart") c.args.aborted.restart in
    let store = number_line (codes "aborted Store") c.args.aborted.store in
    c.in_ok-put_number-2.ensures ∙ ap (λ (text : List ℕ). text ++ store) c.in_ok-put_number.ensures ∙ append_assoc (string_bytes c.args.out.now) restart store
