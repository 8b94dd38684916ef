-- What one session of a script says and hears.
use Rattle.std.specs.Prelude.{◌≡◌, ◌⊎◌, ℕ, Bool, true, false, IfErr, List, [], ◌∷◌, ◌++◌, codes, flat_map, map, Result, Ok, Err}
use Rattle.std.specs.List.{AllByRecursion}
use Rattle.history.specs.declared.told.Told.{Told}
use Rattle.wire.specs.declared.fault.CallFault.{CallFault}
use Rattle.wire.specs.declared.fault.CallFault.TheVariants as call
use Rattle.runs.specs.RunText.{denied_lines, replied_lines}

-- a fault after which a script isn't run on
abbrev pub is_end : CallFault → Bool
is_end call.Memory = true
is_end (call.Store fault) = true
is_end call.Closed = true
is_end other = false

-- a call fails only by such a fault
abbrev pub FailsByEnd : {T : Type 0} → Result T CallFault → Type 0
FailsByEnd result = IfErr result (λ fault. is_end fault ≡ true)

-- a command, and what came of it: what was told, or why it wasn't done
pub record Turn : Type 0 where
  pub command : List ℕ
  pub came : Result Told CallFault

-- what was told by it
abbrev pub told_by : Result Told CallFault → List Told
told_by (Ok told) = told ∷ []
told_by (Err fault) = []

-- what is printed of it, in the lines of the session of this name
abbrev pub lines_by : List ℕ → Result Told CallFault → List ℕ
lines_by name (Ok told) = replied_lines name told.reply
lines_by name (Err fault) = denied_lines name fault

-- what was told was told for this command; else it wasn't done, and the script runs on
abbrev pub IsOf : List ℕ → Result Told CallFault → Type 0
IsOf command (Ok told) = told.text ≡ command
IsOf command (Err fault) = is_end fault ≡ false

-- what was told as a session ended: nothing, or, inside BEGIN, of a ROLLBACK
abbrev pub IsEnding : List Told → Type 0
IsEnding told = (told ≡ []) ⊎ ((last : Told) × (told ≡ last ∷ []) × (last.text ≡ codes "ROLLBACK"))

-- commands were said, one after another, each with what came of it: all that was told by them, and all that is printed
pub record AreSaid (name : List ℕ) (commands : List (List ℕ)) (told : List Told) (printed : List ℕ) : Type 0 where
  pub turns : List Turn
  pub in_order : map (λ (turn : Turn). turn.command) turns ≡ commands
  pub each : AllByRecursion (λ (turn : Turn). IsOf turn.command turn.came) turns
  pub told_is : told ≡ flat_map (λ (turn : Turn). told_by turn.came) turns
  pub printed_is : printed ≡ flat_map (λ (turn : Turn). lines_by name turn.came) turns

-- The conversation of a session: its commands, one after another. Where it ended inside BEGIN it was rolled back, and that isn't printed.
pub record IsConversation (name : List ℕ) (commands : List (List ℕ)) (told : List Told) (printed : List ℕ) : Type 0 where
  pub said : List Told
  pub ending : List Told
  pub are_said : AreSaid name commands said printed
  pub ends : IsEnding ending
  pub told_is : told ≡ said ++ ending

-- one command more was said
pub record Says (name command : List ℕ) (old new : List Told) (before after : List ℕ) : Type 0 where
  pub came : Result Told CallFault
  pub of_command : IsOf command came
  pub told_is : new ≡ old ++ told_by came
  pub printed_is : after ≡ before ++ lines_by name came
