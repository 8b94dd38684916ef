use Rattle.std.proofs.Common.{◌≡◌, ◌++◌, string_bytes, take}
use Rattle.std.specs.List.{flat_map}
use Rattle.databases.specs.PlayText.{told_line}
use Rattle.databases.proofs.play_text.put_lines.Given as goal

abbrev pub invariant-loop-line : goal.invariant-loop-line
invariant-loop-line l = string_bytes l.out ≡ string_bytes l.initial.out ++ flat_map (λ line. told_line l.name line.now) (take l.line-index l.lines)
