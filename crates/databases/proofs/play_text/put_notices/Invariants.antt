use Rattle.std.proofs.Common.{◌≡◌, ◌++◌, string_bytes, take}
use Rattle.std.specs.List.{flat_map}
use Rattle.lines.specs.Cast.{name_of}
use Rattle.databases.specs.PlayText.{notice_text}
use Rattle.databases.proofs.play_text.put_notices.Given as goal

abbrev pub invariant-loop-notice : goal.invariant-loop-notice
invariant-loop-notice l = string_bytes l.out ≡ string_bytes l.initial.out ++ flat_map (notice_text (name_of l.cast)) (take l.notice-index l.notices)
