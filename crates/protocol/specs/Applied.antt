-- Part four of the invariant as a fact of one world: a committed transaction is applied whole and once.
use Rattle.std.specs.Prelude.{◌≡◌, ⊤, true, false, List}
use Rattle.std.specs.List.{list_any, AllByRecursion}
use Rattle.protocol.specs.Language.{Lang, Name}
use Rattle.protocol.specs.Letter.{Body, Abort, Ack}
use Rattle.protocol.specs.Site.{Dead, Prepared}
use Rattle.protocol.specs.Desk.{Row, is_pair}
use Rattle.protocol.specs.World.{World, Event, run}
use Rattle.protocol.specs.Serial.{is_committed, IsOpening}
use Rattle.protocol.specs.Parts.{In}

module _ {L : Lang} where
  -- a ticket for which an Ack was put out has gone, so it is applied no second time
  abbrev pub AckedOnce : World L → L.Site → Body L → Type 0
  AckedOnce w a (Ack k) = (w.sites a).status k ≡ Dead
  AckedOnce w a body = ⊤

  -- no Abort names a ticket that is prepared for a committed transaction, whichever transaction the letter is about
  abbrev pub AbortsNone : World L → L.Site → Body L → Type 0
  AbortsNone w a (Abort k) = (t : Name) (i : L.Intentions) → (w.sites a).status k ≡ Prepared t i → is_committed w.past t ≡ true → ⊥
  AbortsNone w a body = ⊤

-- in this world each committed transaction is applied at all its voters, at each once
pub record AppliesOnce {L : Lang} (w : World L) : Type 0 where
  pub once : AllByRecursion (λ l. AckedOnce w l.site l.body) w.letters
  -- while a ticket is prepared for it the commit row stays, with this ticket among the voters and not among those that have acknowledged
  pub row_stays : (a : L.Site) (k t : Name) (i : L.Intentions) → (w.sites a).status k ≡ Prepared t i → is_committed w.past t ≡ true →
      (voters : List (L.Site × Name)) × (acked : List (L.Site × Name)) × (w.desk.txn t ≡ Row voters acked) × In (a, k) voters × (list_any (is_pair L a k) acked ≡ false)
  pub no_abort : AllByRecursion (λ l. AbortsNone w l.site l.body) w.letters

-- part four, whatever happens after an opening
abbrev pub AppliedWholeAndOnce : (L : Lang) → Type 0
AppliedWholeAndOnce L = (whole : L.Whole) (w : World L) (events : List (Event L)) → IsOpening whole w → AppliesOnce (run events w)
