-- One transaction at a time: each that commits is the serial run of its statements over the whole database before it, and each other changes nothing.
use Rattle.std.specs.Prelude.{◌≡◌, List, [], ◌∷◌, ◌++◌, map}
use Rattle.protocol.specs.Language.{Lang}
use Rattle.protocol.specs.Desk.{Began, Phased, Committed, next_txn}
use Rattle.protocol.specs.World.{World}
use Rattle.protocol.specs.Serial.{whole_after, answers_in_turn, serial_whole, serial_answers, committed_whole}
use Rattle.protocol.specs.Client.{IsReached, IsQuiet}
use Rattle.protocol.specs.AfterAbort.{Since}
use Rattle.protocol.specs.Parts.{Work}
use Rattle.protocol.specs.ClientLaw.{log}

-- how one transaction went: its entries, and committed; or it ended without a commit
pub data Outcome (L : Lang) : Type 0 where
  Did_commit : (entries : List (Work L)) → Outcome L
  Did_end : Outcome L

module _ {L : Lang} where
  -- the kept fragments are those of a whole database
  abbrev pub Rebuilds : World L → L.Whole → Type 0
  Rebuilds w whole = (g : L.Leaf) → (w.sites (L.home g)).kept g ≡ L.content g whole

  -- the whole database after all that was committed; whole: that of the opening
  abbrev pub now : L.Whole → World L → L.Whole
  now whole w = committed_whole whole w.past

  -- the statements of entries, and their answers
  abbrev pub stated_in : List (Work L) → List L.Statement
  stated_in es = map (λ x. x.statement) es

  abbrev pub answered_in : List (Work L) → List L.Answer
  answered_in es = map (λ x. x.choice.0) es

  -- so between two worlds
  abbrev pub Leads : Outcome L → World L → World L → Type 0
  Leads (Did_commit es) w v = v.past ≡ (w.past ++ Began (next_txn w.desk) ∷ []) ++ log (next_txn w.desk) es ++ (Phased (next_txn w.desk) ∷ Committed (next_txn w.desk) ∷ [])
  Leads Did_end w v = Since (next_txn w.desk) (w.past ++ Began (next_txn w.desk) ∷ []) v.past

  -- transactions one after another, each leaving a reached world
  abbrev pub Follows : L.Whole → List (Outcome L) → World L → World L → Type 0
  Follows whole [] w v = w ≡ v
  Follows whole (x ∷ xs) w v = (mid : World L) × (IsReached whole mid × (Leads x w mid × Follows whole xs mid v))

  -- the entries of those that committed
  abbrev pub done_in : List (Outcome L) → List (List (Work L))
  done_in [] = []
  done_in (Did_commit es ∷ xs) = es ∷ done_in xs
  done_in (Did_end ∷ xs) = done_in xs

-- what one client's transactions show, and what they leave
pub record OneAtATime (L : Lang) : Type 0 where
  -- where all is quiet the fragments are those of the whole database after all that was committed
  pub rebuilt : (whole : L.Whole) (w : World L) → IsReached whole w → IsQuiet w → Rebuilds w (now whole w)
  -- a transaction that commits answers as its statements in turn over that whole database, and makes of it what they make
  pub commits : (whole : L.Whole) (w v : World L) (es : List (Work L)) → IsReached whole w → IsReached whole v → Leads (Did_commit es) w v → (answered_in es ≡ answers_in_turn L (stated_in es) (now whole w)) × (now whole v ≡ whole_after L (stated_in es) (now whole w))
  -- one that ends without a commit leaves it as it was
  pub ends : (whole : L.Whole) (w v : World L) → IsReached whole w → IsReached whole v → Leads Did_end w v → now whole v ≡ now whole w
  -- so for transactions one after another
  pub all : (whole : L.Whole) (xs : List (Outcome L)) (w v : World L) → IsReached whole w → Follows whole xs w v → (map answered_in (done_in xs) ≡ serial_answers L (map stated_in (done_in xs)) (now whole w)) × (now whole v ≡ serial_whole L (map stated_in (done_in xs)) (now whole w))
