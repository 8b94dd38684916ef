use Rattle.std.proofs.Common.{◌≡◌, string_bytes, take}
use Rattle.databases.specs.Client as client
use Rattle.databases.proofs.client.heard_text.Given as goal

abbrev pub invariant-loop-notice : goal.invariant-loop-notice
invariant-loop-notice l = string_bytes l.text ≡ client.heard_text l.mode (take l.notice-index l.heard)
