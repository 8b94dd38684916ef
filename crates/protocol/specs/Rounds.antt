-- Rounds letter by letter: each letter has a rank, and what it brings about ranks lower.
use Rattle.std.specs.Prelude.{◌≡◌, ℕ, zero, suc, ◌≤◌, Bool, true, false, List, [], ◌∷◌, length}
use Rattle.std.specs.List.{AllByRecursion}
use Rattle.protocol.specs.Language.{Lang, Name}
use Rattle.protocol.specs.Letter.{Body, Open, Fetch, Write, Prepare, Commit, Abort, Ticket, Rows, Refused, Voted, Ack, Inquire, Letter}
use Rattle.protocol.specs.Desk.{Choice, Stage, Reading, Txn, Known, Commit_call, Rollback, Give_up}
use Rattle.protocol.specs.World.{World, called}
use Rattle.protocol.specs.Client.{next}

module _ {L : Lang} where
  -- whether a statement waits for its rows
  abbrev pub is_stage_reading : Stage L → Bool
  is_stage_reading (Reading s asks) = true
  is_stage_reading stage = false

  abbrev pub is_reading : Txn L → Bool
  is_reading (Known u) = is_stage_reading u.stage
  is_reading txn = false

  -- the rank of a letter, by whether its transaction reads
  abbrev pub rank : Bool → Body L → ℕ
  rank true Open = 9
  rank false Open = 5
  rank true (Ticket k) = 8
  rank false (Ticket k) = 4
  rank true (Fetch k n g q) = 7
  rank false (Fetch k n g q) = 3
  rank true (Rows k n rows) = 6
  rank false (Rows k n rows) = 1
  rank r (Write k n g x) = 3
  rank r (Refused k reason) = 2
  rank r (Prepare k n) = 4
  rank r (Voted k vote) = 3
  rank r (Commit k) = 2
  rank r (Abort k) = 1
  rank r (Ack k) = 1
  rank r (Inquire k) = 3

  abbrev pub rank_in : (Name → Txn L) → Letter L → ℕ
  rank_in txn l = rank (is_reading (txn l.txn)) l.body

  -- the first i letters rank at most n + 1, the others at most n
  abbrev pub InRound : (Name → Txn L) → ℕ → ℕ → List (Letter L) → Type 0
  InRound txn n zero letters = AllByRecursion (λ l. rank_in txn l ≤ n) letters
  InRound txn n (suc i) [] = AllByRecursion (λ l. rank_in txn l ≤ n) []
  InRound txn n (suc i) (l ∷ q) = (rank_in txn l ≤ suc n) × InRound txn n i q

  -- all letters that wait rank at most n
  abbrev pub RanksUnder : ℕ → World L → Type 0
  RanksUnder n w = AllByRecursion (λ l. rank_in w.desk.txn l ≤ n) w.letters

-- a round of deliveries, letter by letter; n: what the letters rank after it, i: how many of those that waited as it began still do
pub record RoundByLetter (L : Lang) : Type 0 where
  pub nine : (w : World L) → RanksUnder 9 w
  pub four : (w : World L) (t : Name) (choice : Choice L) → w.letters ≡ [] → RanksUnder 4 (called w t choice Commit_call)
  pub one : (w : World L) (t : Name) (choice : Choice L) → w.letters ≡ [] → RanksUnder 1 (called w t choice Rollback)
  -- a round begins with all letters that wait, and each delivery leaves one of them less
  pub starts : (w : World L) (n : ℕ) → RanksUnder (suc n) w → InRound w.desk.txn n (length w.letters) w.letters
  pub goes_on : (w : World L) (n i : ℕ) (kept : Bool) (choice : Choice L) → InRound w.desk.txn n (suc i) w.letters → InRound (next w kept choice).desk.txn n i (next w kept choice).letters
  -- also where the transaction is given up, but in the last round
  pub given_up : (w : World L) (n i : ℕ) (t : Name) (choice : Choice L) → 1 ≤ n → InRound w.desk.txn n i w.letters → InRound (called w t choice Give_up).desk.txn n i (called w t choice Give_up).letters
  -- after the last round no letter waits
  pub over : (w : World L) → RanksUnder 0 w → w.letters ≡ []
