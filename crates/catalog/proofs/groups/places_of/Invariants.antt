use Rattle.std.proofs.Common.{◌≡◌, ◌++◌, Some, map, take}
use Rattle.reader.specs.Names.{all_of}
use Rattle.catalog.specs.Describes.{place_within}
use Rattle.catalog.specs.Frame.{frame_of}
use Rattle.catalog.proofs.groups.places_of.Given as goal

-- the places so far are those of the names so far, and stand behind those seen before
abbrev pub invariant-loop-name : goal.invariant-loop-name
invariant-loop-name l = record {
  found : all_of (place_within (frame_of l.frame) l.within) (map (λ name. name.now) (take l.name-index l.names)) ≡ Some l.places.items;
  seen : l.seen.items ≡ l.initial.seen.items ++ l.places.items;
}
