-- Fetches that stay where they are, before the first that goes out.
use Rattle.std.proofs.Common.{◌≡◌, refl, sym, ap, ◌∙◌, subst, ℕ, suc, ◌+◌, Bool, true, false, ◌&&◌, not, cond, List, [], ◌∷◌, ◌++◌, length, take, drop, Option, Some, None, is_none, is_some, arith}
use Rattle.std.specs.List.{position_or_len}
use Rattle.store.specs.declared.name.Ticket.{Ticket}
use Rattle.store.specs.declared.name.Txn.{Txn}
use Rattle.desk.specs.declared.fetches.Ask.{Ask}
use Rattle.desk.specs.declared.participant.Participant.{Participant}
use Rattle.desk.specs.Send.{Sent, ask_goes, asks_go, goes_now}
use Rattle.desk.specs.Participants.{participant_in}

-- what goes out behind these, which stay
abbrev pub behind : List Ask → Sent Ask → Sent Ask
behind asks sent = record { left = asks ++ sent.left; participants = sent.participants; letters = sent.letters }

stays : (txn : Txn) (ask : Ask) (m : Option ℕ) (k : Option Ticket) (participants : List Participant) (rest : List Participant → Sent Ask) → (is_none m && is_some k) ≡ false → ask_goes txn ask m k participants rest ≡ behind (ask ∷ []) (rest participants)
stays txn ask None (Some k) participants rest e = cc
stays txn ask None None participants rest e = refl
stays txn ask (Some m) None participants rest e = refl
stays txn ask (Some m) (Some k) participants rest e = refl

-- those before the first that goes out now stay
pub passed_over : (txn : Txn) (participants : List Participant) (asks : List Ask) →
    asks_go txn asks participants ≡ behind (take (position_or_len (goes_now participants) asks) asks) (asks_go txn (drop (position_or_len (goes_now participants) asks) asks) participants)
passed_over txn participants [] = refl
passed_over txn participants (ask ∷ asks) = go (goes_now participants ask) refl (passed_over txn participants asks)
  where
    p : Ask → Bool
    p = goes_now participants

    go : (b : Bool) → goes_now participants ask ≡ b → asks_go txn asks participants ≡ behind (take (position_or_len p asks) asks) (asks_go txn (drop (position_or_len p asks) asks) participants) →
        asks_go txn (ask ∷ asks) participants ≡ behind (take (cond (not b) (1 + position_or_len p asks) 0) (ask ∷ asks)) (asks_go txn (drop (cond (not b) (1 + position_or_len p asks) 0) (ask ∷ asks)) participants)
    go true e rest = refl
    go false e rest =
        let more : suc (position_or_len p asks) ≡ 1 + position_or_len p asks = omega arith in
        subst (λ n. asks_go txn (ask ∷ asks) participants ≡ behind (take n (ask ∷ asks)) (asks_go txn (drop n (ask ∷ asks)) participants)) more
        (stays txn ask ask.number (participant_in ask.site participants).ticket participants (asks_go txn asks) e ∙ ap (behind (ask ∷ [])) rest)

-- so where the list is split there
pub passed : (txn : Txn) (participants : List Participant) (asks : List Ask) (n : ℕ) (front back : List Ask) → n ≡ position_or_len (goes_now participants) asks → front ≡ take n asks → back ≡ drop n asks →
    asks_go txn asks participants ≡ behind front (asks_go txn back participants)
passed txn participants asks n front back there first rest =
    passed_over txn participants asks ∙ (λ i. behind (take (sym there i) asks) (asks_go txn (drop (sym there i) asks) participants)) ∙ (λ i. behind (sym first i) (asks_go txn (sym rest i) participants))

-- what is left of all, by what is left of the rest
pub left_so : (front now : List Ask) (going all : Sent Ask) → all ≡ behind front going → now ≡ going.left → front ++ now ≡ all.left
left_so front now going all is same = ap (λ asks. front ++ asks) same ∙ sym (ap (λ s. s.left) is)

-- where nothing is left to look at, all stay
pub none_go : (txn : Txn) (participants : List Participant) (asks : List Ask) → length asks ≡ 0 → asks_go txn asks participants ≡ record { left = asks; participants = participants; letters = [] }
none_go txn participants [] e = refl
none_go txn participants (ask ∷ asks) e = cc

-- the letters of the first, and those of the rest after it
pub letters_first : (txn : Txn) (ask : Ask) (rest : List Ask) (participants : List Participant) →
    (asks_go txn (ask ∷ []) participants).letters ++ (asks_go txn rest (asks_go txn (ask ∷ []) participants).participants).letters ≡ (asks_go txn (ask ∷ rest) participants).letters
letters_first txn ask rest participants = go ask.number (participant_in ask.site participants).ticket
  where
    go : (m : Option ℕ) (k : Option Ticket) → (ask_goes txn ask m k participants (asks_go txn [])).letters ++ (asks_go txn rest (ask_goes txn ask m k participants (asks_go txn [])).participants).letters ≡ (ask_goes txn ask m k participants (asks_go txn rest)).letters
    go None (Some k) = refl
    go None None = refl
    go (Some m) None = refl
    go (Some m) (Some k) = refl
