use Rattle.std.proofs.Common.{◌≡◌, ◌+◌, drop, map}
use Rattle.lines.specs.PlayItems.{items_of, read_from, IsKept}
use Rattle.lines.proofs.play_items.read_lines.Given as goal

-- what the lines that are left give behind the items so far is what all lines give
abbrev pub invariant-loop-index : goal.invariant-loop-index
invariant-loop-index l = record {
  rest : read_from (l.index + 1) l.reading.items.items (map (λ line. line.now) (drop l.index l.lines)) ≡ items_of (map (λ line. line.now) l.lines);
  kept : IsKept l.reading;
}
