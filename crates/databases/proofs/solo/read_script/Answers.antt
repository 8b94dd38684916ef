use Rattle.std.proofs.Common.{arith}
use Rattle.lines.proofs.InputLemmas.{all_within, beyond}
use Rattle.databases.proofs.solo.read_script.Goals as goal

pub returns-clause-all : goal.returns-clause-all
returns-clause-all g c =
    all_within (g.R.Read.remaining c.args.input) c.in_ok-script.script.items 1048576 c.in_ok-script.ensures.front (omega arith)

pub returns-then-len-gt-SCRIPT_LIMIT-clause-too_long : goal.returns-then-len-gt-SCRIPT_LIMIT-clause-too_long
returns-then-len-gt-SCRIPT_LIMIT-clause-too_long g c =
    λ _. beyond (g.R.Read.remaining c.args.input) c.in_ok-script.script.items 1048576 c.in_ok-script.ensures.front (omega arith)
