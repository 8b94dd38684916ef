-- What is told of a session's cost.
use Rattle.std.specs.Prelude.{ℕ, ◌+◌, Bool, if◌then◌else◌, List, [], ◌∷◌, ◌++◌, codes, min}
use Rattle.std.specs.Fmt.{decimal}
use Rattle.world.specs.declared.traffic.Aborted.{Aborted}
use Rattle.world.specs.declared.traffic.Traffic.{Traffic}
use Rattle.commands.specs.declared.stats.Stats.{Stats}

abbrev pub no_stats : Stats
no_stats = record { statements = 0; refused = 0 }

-- one more was answered; numbers stop at 2^64 - 1
abbrev pub after_answer : Stats → Bool → Stats
after_answer stats is_refused = record {
  statements = min (stats.statements + 1) 18_446_744_073_709_551_615;
  refused = min (stats.refused + (if is_refused then 1 else 0)) 18_446_744_073_709_551_615;
}

-- a number in a line, behind what it counts
abbrev pub number_line : List ℕ → ℕ → List ℕ
number_line label number = label ++ 32 ∷ decimal number ++ 10 ∷ []

abbrev pub statements_text : Stats → List ℕ
statements_text stats = number_line (codes "statements") stats.statements ++ number_line (codes "refused") stats.refused

-- how many transactions were aborted: since a site voted NO or refused an operation, or their client gave them up
abbrev pub turned_down_text : Aborted → List ℕ
turned_down_text aborted =
    number_line (codes "aborted Vote") aborted.vote ++ number_line (codes "aborted Refused") aborted.refused ++ number_line (codes "aborted GivenUp") aborted.given_up

-- since the coordinator restarted, or its store did not keep the commit row
abbrev pub broken_off_text : Aborted → List ℕ
broken_off_text aborted = number_line (codes "aborted Restart") aborted.restart ++ number_line (codes "aborted Store") aborted.store

-- how transactions ended
abbrev pub ends_text : Traffic → List ℕ
ends_text traffic =
    number_line (codes "committed") traffic.committed ++ turned_down_text traffic.aborted ++ broken_off_text traffic.aborted

abbrev pub cost_text : Traffic → List ℕ
cost_text traffic =
    number_line (codes "letters") traffic.letters ++ number_line (codes "rounds") traffic.rounds ++ number_line (codes "forced writes") traffic.forced

abbrev pub stats_text : Stats → Traffic → List ℕ
stats_text stats traffic = statements_text stats ++ ends_text traffic ++ cost_text traffic
