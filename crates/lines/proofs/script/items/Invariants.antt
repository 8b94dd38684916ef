use Rattle.std.proofs.Common.{◌≡◌, None, map}
use Rattle.lines.specs.Script.{first_unreadable, task_of, tasks_of_lines}
use Rattle.lines.proofs.script.items.Given as goal

abbrev pub invariant-loop-index : goal.invariant-loop-index
invariant-loop-index l = record {
  tasks : map task_of l.items.items ≡ tasks_of_lines (map (λ p. p.1.now) l.yielded);
  readable : first_unreadable (map (λ p. p.1.now) l.yielded) ≡ None;
}
