-- What sessions at once say and hear, each in its own conversation.
use Rattle.std.specs.Prelude.{◌≡◌, true, List, Result, Ok, Err, string_bytes}
use Rattle.std.specs.List.{AllZip}
use Rattle.wire.specs.declared.fault.CallFault.{CallFault}
use Rattle.runs.specs.declared.conversation.Conversation.{Conversation}
use Rattle.runs.specs.Conversation.{IsConversation, is_end}
use Rattle.lines.specs.RunScript.{SessionPart}

-- a session's conversation had the commands of its part of the script
abbrev pub IsOfPart : SessionPart → Conversation → Type 0
IsOfPart part held = IsConversation part.session part.commands held.told.items (string_bytes held.printed)

-- so where it was held to its end; else a fault ended it
abbrev pub IsHeld : SessionPart → Result Conversation CallFault → Type 0
IsHeld part (Ok held) = IsOfPart part held
IsHeld part (Err fault) = is_end fault ≡ true

-- the conversations of parts, in their order
abbrev pub AreHeld : List SessionPart → List (Result Conversation CallFault) → Type 0
AreHeld parts held = AllZip IsHeld parts held

-- so where all were held to their ends
abbrev pub AreOfParts : List SessionPart → List Conversation → Type 0
AreOfParts parts held = AllZip IsOfPart parts held
