-- What each round of `link::links_behind` keeps.
use Rattle.std.proofs.Common.{◌≡◌, ◌++◌, drop}
use Rattle.plan.specs.Need.{links_behind, width_of}
use Rattle.plan.proofs.link.links_behind.Given as goal

-- the widths so far are as many columns as stand before, and what was put out, and what the rest gives, is what all give
abbrev pub invariant-loop-join : goal.invariant-loop-join
invariant-loop-join l = record {
  width : l.before ≡ width_of l.widths.items;
  found : l.links.items ++ links_behind l.widths.items (drop l.join-index l.joins) ≡ links_behind l.initial.widths.items l.joins;
}
