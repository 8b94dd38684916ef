-- Lemmas on the conversation of a session.
use Rattle.std.proofs.Common.{◌≡◌, ◌++◌, ◌∷◌, ◌<◌, ◌+◌, ℕ, List, [], IfOk, OnErr, OnOk, Result, Ok, Err, ap, ap₂, append-nil, false, get_or, inl, inr, length, map, refl, sym, take, ◌∙◌, codes}
use Rattle.std.specs.Borrow.{Bor}
use Rattle.std.specs.List.{AllByRecursion}
use Rattle.std.proofs.lemmas.Grind.{flat_map-append}
use Rattle.std.proofs.lemmas.List.{map-append, map_more}
use Rattle.history.specs.declared.told.Told.{Told}
use Rattle.desk.specs.declared.reply.Reply.{Reply}
use Rattle.wire.specs.declared.fault.CallFault.{CallFault}
use Rattle.wire.specs.Session.{AddsTold}
use Rattle.runs.specs.Conversation.{AreSaid, IsConversation, IsEnding, IsOf, Says, Turn, is_end, lines_by, told_by}
use Rattle.runs.specs.RunText.{denied_lines, replied_lines}

-- nothing is said yet
pub said_none : (name : List ℕ) (told : List Told) (printed : List ℕ) → told ≡ [] → printed ≡ [] → AreSaid name [] told printed
said_none name told printed none nothing = record { turns = []; in_order = refl; each = tt; told_is = none; printed_is = nothing }

all_and_one : (P : Turn → Type 0) (turns : List Turn) (turn : Turn) → AllByRecursion P turns → P turn → AllByRecursion P (turns ++ turn ∷ [])
all_and_one P [] turn all one = (one, tt)
all_and_one P (first ∷ turns) turn all one = (all.0, all_and_one P turns turn all.1 one)

-- a command more is said
said_more : (name command : List ℕ) (commands : List (List ℕ)) (old new : List Told) (before after : List ℕ) → AreSaid name commands old before → Says name command old new before after → AreSaid name (commands ++ command ∷ []) new after
said_more name command commands old new before after said says =
    let turn : Turn = record { command = command; came = says.came } in
    record {
      turns = said.turns ++ turn ∷ [];
      in_order = map-append (λ (turn : Turn). turn.command) said.turns (turn ∷ []) ∙ ap (λ front. front ++ command ∷ []) said.in_order;
      each = all_and_one (λ (turn : Turn). IsOf turn.command turn.came) said.turns turn said.each says.of_command;
      told_is = says.told_is ∙ ap₂ (λ front back. front ++ back) said.told_is (sym (append-nil (told_by says.came))) ∙ sym (flat_map-append (λ (turn : Turn). told_by turn.came) said.turns (turn ∷ []));
      printed_is = says.printed_is ∙ ap₂ (λ front back. front ++ back) said.printed_is (sym (append-nil (lines_by name says.came))) ∙ sym (flat_map-append (λ (turn : Turn). lines_by name turn.came) said.turns (turn ∷ []));
    }

-- so of the next of some commands
pub said_next : (name : List ℕ) (commands : List (Bor (List ℕ))) (i : ℕ) (d : Bor (List ℕ)) (old new : List Told) (before after : List ℕ) → i < length commands → AreSaid name (map (λ (command : Bor (List ℕ)). command.now) (take i commands)) old before → Says name (get_or commands i d).now old new before after → AreSaid name (map (λ (command : Bor (List ℕ)). command.now) (take (i + 1) commands)) new after
said_next name commands i d old new before after within said says =
    rw (map_more (λ (command : Bor (List ℕ)). command.now) commands i d within) (said_more name (get_or commands i d).now (map (λ (command : Bor (List ℕ)). command.now) (take i commands)) old new before after said says)

-- what was answered is printed, and told for the command
pub says_reply : (name command : List ℕ) (old new : List Told) (reply : Reply) (before after : List ℕ) → AddsTold old command reply new → after ≡ before ++ replied_lines name reply → Says name command old new before after
says_reply name command old new reply before after adds printed = record {
  came = Ok adds.told;
  of_command = adds.text_is;
  told_is = adds.new_is;
  printed_is = printed ∙ ap (λ (given : Reply). before ++ replied_lines name given) (sym adds.reply_is);
}

-- why a command wasn't done is printed, and nothing is told
pub says_fault : (name command : List ℕ) (old new : List Told) (fault : CallFault) (before after : List ℕ) → new ≡ old → is_end fault ≡ false → after ≡ before ++ denied_lines name fault → Says name command old new before after
says_fault name command old new fault before after same goes_on printed = record {
  came = Err fault;
  of_command = goes_on;
  told_is = same ∙ sym (append-nil old);
  printed_is = printed;
}

-- a session ends with nothing told
pub ends_so : (old new : List Told) → new ≡ old → (ending : List Told) × IsEnding ending × (new ≡ old ++ ending)
ends_so old new same = ([], inl refl, same ∙ sym (append-nil old))

-- a session ends with a ROLLBACK that was told, unless that was refused
pub ends_rolled_back : (old new : List Told) (reply : Result Reply CallFault) → IfOk reply (λ given. AddsTold old (codes "ROLLBACK") given new) → OnErr reply (new ≡ old) → (ending : List Told) × IsEnding ending × (new ≡ old ++ ending)
ends_rolled_back old new (Ok given) adds same = (adds.told ∷ [], inr (adds.told, refl, adds.text_is), adds.new_is)
ends_rolled_back old new (Err fault) adds same = ends_so old new same

-- what holds in any case holds where a call succeeds
pub whatever : {T E P : Type 0} (result : Result T E) → P → OnOk result P
whatever (Ok x) holds = holds
whatever (Err e) holds = tt

-- commands that were said, and what was told at the end, are a conversation
pub converses : (name : List ℕ) (commands : List (List ℕ)) (said told : List Told) (printed : List ℕ) → AreSaid name commands said printed → (ending : List Told) × IsEnding ending × (told ≡ said ++ ending) → IsConversation name commands told printed
converses name commands said told printed are ends = record { said = said; ending = ends.0; are_said = are; ends = ends.1; told_is = ends.2 }
