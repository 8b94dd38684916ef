-- Fetches that go out, and those that have rows, are asked as before.
use Rattle.std.proofs.Common.{◌≡◌, refl, sym, ap, ap₂, subst, ℕ, Bool, true, false, List, [], ◌∷◌, map, Option, Some, None, if◌then◌else◌}
use Rattle.terms.specs.declared.value.Value.{Value}
use Rattle.catalog.specs.Catalogue.{Catalogue}
use Rattle.store.specs.declared.name.Ticket.{Ticket}
use Rattle.store.specs.declared.name.Txn.{Txn}
use Rattle.desk.specs.declared.fetches.Ask.{Ask}
use Rattle.desk.specs.declared.participant.Participant.{Participant}
use Rattle.desk.specs.declared.transaction.Unsent.{Unsent}
use Rattle.desk.specs.Fetches.{awaits, with_rows}
use Rattle.desk.specs.Database.{Database, IsPlace}
use Rattle.desk.specs.Planned.{asked}
use Rattle.desk.specs.Send.{ask_goes, asks_go, one_more, write_goes, writes_go, AsksAtHome, UnsentAtHome}
use Rattle.desk.specs.Participants.{participant_in}

-- ---- fetches that go out
module _ (db : Database) (txn : Txn) where
  pub left_home : (asks : List Ask) (participants : List Participant) → AsksAtHome db asks → AsksAtHome db (asks_go txn asks participants).left
  left_home [] participants home = tt
  left_home (ask ∷ asks) participants home = go (λ now. left_home asks now home.1) ask.number (participant_in ask.site participants).ticket
    where
      go : ((now : List Participant) → AsksAtHome db (asks_go txn asks now).left) → (m : Option ℕ) (k : Option Ticket) → AsksAtHome db (ask_goes txn ask m k participants (asks_go txn asks)).left
      go below None (Some k) = (home.0, below (one_more ask.site participants))
      go below None None = (home.0, below participants)
      go below (Some m) None = (home.0, below participants)
      go below (Some m) (Some k) = (home.0, below participants)

  pub left_order : (asks : List Ask) (participants : List Participant) → map asked (asks_go txn asks participants).left ≡ map asked asks
  left_order [] participants = refl
  left_order (ask ∷ asks) participants = go (λ now. left_order asks now) ask.number (participant_in ask.site participants).ticket
    where
      go : ((now : List Participant) → map asked (asks_go txn asks now).left ≡ map asked asks) → (m : Option ℕ) (k : Option Ticket) → map asked (ask_goes txn ask m k participants (asks_go txn asks)).left ≡ map asked (ask ∷ asks)
      go below None (Some k) = ap (λ rest. asked ask ∷ rest) (below (one_more ask.site participants))
      go below None None = ap (λ rest. asked ask ∷ rest) (below participants)
      go below (Some m) None = ap (λ rest. asked ask ∷ rest) (below participants)
      go below (Some m) (Some k) = ap (λ rest. asked ask ∷ rest) (below participants)

  -- ---- writes
  pub unsent_home : (ws : List Unsent) (participants : List Participant) → UnsentAtHome db ws → UnsentAtHome db (writes_go txn ws participants).left
  unsent_home [] participants home = tt
  unsent_home (w ∷ ws) participants home = go (λ now. unsent_home ws now home.1) (participant_in w.site participants).ticket
    where
      go : ((now : List Participant) → UnsentAtHome db (writes_go txn ws now).left) → (k : Option Ticket) → UnsentAtHome db (write_goes txn w k participants (writes_go txn ws)).left
      go below (Some k) = below (one_more w.site participants)
      go below None = (home.0, below participants)

-- ---- fetches that have rows
module _ (catalogue : Catalogue) (site : List ℕ) (number : ℕ) (rows : List (List Value)) where
  abbrev given : Ask → Ask
  given = with_rows catalogue site number rows

  kept_by : {B : Type 0} (f : Ask → B) → ((ask : Ask) → f (record ask { rows = Some rows }) ≡ f ask) → (ask : Ask) → f (given ask) ≡ f ask
  kept_by f same ask = go (awaits catalogue site number rows ask)
    where
      go : (b : Bool) → f (if b then record ask { rows = Some rows } else ask) ≡ f ask
      go true = same ask
      go false = refl

  pub rows_order : (asks : List Ask) → map asked (map given asks) ≡ map asked asks
  rows_order [] = refl
  rows_order (ask ∷ asks) = ap₂ (λ first rest. first ∷ rest) (kept_by asked (λ x. refl) ask) (rows_order asks)

  pub rows_home : (db : Database) (asks : List Ask) → AsksAtHome db asks → AsksAtHome db (map given asks)
  rows_home db [] home = tt
  rows_home db (ask ∷ asks) home = (subst (IsPlace db) (sym (kept_by (λ x. (x.site, x.leaf)) (λ x. refl) ask)) home.0, rows_home db asks home.1)
