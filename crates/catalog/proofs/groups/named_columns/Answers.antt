use Rattle.toml.specs.View.{view}
use Rattle.std.proofs.Common.{◌≡◌, true, map}
use Rattle.catalog.specs.Frame.{frame_of}
use Rattle.catalog.specs.NodeBreaks.{GroupsBreak}
use Rattle.catalog.specs.Refuses.{IsPartsFault, is_of_text}
use Rattle.catalog.proofs.GroupBreaks.{parts_break}
use Rattle.catalog.proofs.GroupNames.{groups_among}
use Rattle.catalog.proofs.Splits.{if_err}
use Rattle.catalog.proofs.groups.named_columns.Goals as goal

pub require_parts-requires : goal.require_parts-requires
require_parts-requires c = groups_among (frame_of c.args.frame.now) c.args.within.now (map view c.args.nodes.now) c.in_ok-groups.groups.items c.in_ok-groups.ensures.found

pub returns-clause-breaks : goal.returns-clause-breaks
returns-clause-breaks c =
    if_err (λ rule. IsPartsFault c.args.within.now c.in_ok-groups.groups.items rule) (λ rule. is_of_text rule ≡ true → GroupsBreak rule (frame_of c.args.frame.now) c.args.within.now (map view c.args.nodes.now)) c.require_parts.result
    (λ rule fault of_text. parts_break (frame_of c.args.frame.now) c.args.within.now (map view c.args.nodes.now) c.in_ok-groups.groups.items rule c.in_ok-groups.ensures.found fault of_text)
    c.require_parts.ensures.fault
