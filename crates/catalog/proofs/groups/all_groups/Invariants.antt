use Rattle.std.proofs.Common.{◌≡◌, Some, map, take}
use Rattle.reader.specs.Names.{all_of}
use Rattle.toml.specs.View.{view}
use Rattle.catalog.specs.Describes.{named_in}
use Rattle.catalog.specs.Frame.{frame_of}
use Rattle.catalog.specs.NodeBreaks.{places_said}
use Rattle.catalog.proofs.groups.all_groups.Given as goal

-- the groups so far name the columns of the nodes so far, which are those seen
abbrev pub invariant-loop-node : goal.invariant-loop-node
invariant-loop-node l = record {
  found : all_of (named_in (frame_of l.frame) l.within) (map view (take l.node-index l.nodes)) ≡ Some l.groups.items;
  seen : l.seen.items ≡ places_said (frame_of l.frame) l.within (map view (take l.node-index l.nodes));
}
