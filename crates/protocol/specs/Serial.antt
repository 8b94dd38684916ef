-- The serial law: what was committed, what the stored fragments come to, and that both are those of a serial run.
use Rattle.std.specs.Prelude.{◌≡◌, ⊤, List, [], ◌∷◌, map, if◌then◌else◌, Some}
use Rattle.std.specs.List.{filter, flat_map, AllByRecursion}
use Rattle.protocol.specs.Language.{Lang, Name, same}
use Rattle.protocol.specs.Site.{Status, Dead, Prepared}
pub use Rattle.protocol.specs.Desk.{commits_it, is_committed}
use Rattle.protocol.specs.Desk.{Ask, Txn, Unknown, Row, Deed, Stated, Worked, Answered, Phased, Desk}
use Rattle.protocol.specs.World.{World, Event, run}

module _ {L : Lang} where
  -- the transactions whose first phase began, in this order
  abbrev pub phased_of : Deed L → List Name
  phased_of (Phased t) = t ∷ []
  phased_of deed = []

  -- the first phases, in their order
  abbrev pub phases_of : List (Deed L) → List Name
  phases_of past = flat_map phased_of past

  -- the committed transactions, in the order in which their first phases began
  abbrev pub committed : List (Deed L) → List Name
  committed past = filter (is_committed past) (phases_of past)

  -- the statement that a deed shows of this transaction
  abbrev pub statement_in : Name → Deed L → List L.Statement
  statement_in t (Stated u s) = if same u t then s ∷ [] else []
  statement_in t deed = []

  -- its accepted statements
  abbrev pub statements_of : List (Deed L) → Name → List L.Statement
  statements_of past t = flat_map (statement_in t) past

  -- the answer that a deed shows of this transaction
  abbrev pub answer_in : Name → Deed L → List L.Answer
  answer_in t (Answered u x) = if same u t then x ∷ [] else []
  answer_in t deed = []

  -- the answers that it was given
  abbrev pub answers_of : List (Deed L) → Name → List L.Answer
  answers_of past t = flat_map (answer_in t) past

  -- a leaf's content with the intentions of a prepared row whose transaction has a commit row
  abbrev pub with_row : L.Leaf → L.Intentions → Txn L → L.Content → L.Content
  with_row g i (Row voters acked) content = L.changed g i content
  with_row g i txn content = content

  -- a visit changes nothing, a prepared row may
  abbrev pub with_decided : Desk L → L.Leaf → Status L → L.Content → L.Content
  with_decided d g (Prepared t i) content = with_row g i (d.txn t) content
  with_decided d g status content = content

  -- the rows of all these tickets
  abbrev pub with_all_decided : Desk L → L.Leaf → (Name → Status L) → List Name → L.Content → L.Content
  with_all_decided d g status [] content = content
  with_all_decided d g status (k ∷ ks) content = with_all_decided d g status ks (with_decided d g (status k) content)

  -- a settled fragment: its kept content with the decided intentions
  abbrev pub settled : World L → L.Leaf → L.Content
  settled w g =
      let s = w.sites (L.home g) in
      with_all_decided w.desk g s.status s.known (s.kept g)

  -- a whole database gives each fetch just the rows that came
  abbrev pub Gives : L.Whole → List (Ask L) → Type 0
  Gives whole asks = AllByRecursion (λ q. q.rows ≡ Some (L.parts q.query (L.content q.leaf whole))) asks

  -- it is a statement over these relations, and whatever the whole database was that gave these rows, under the catalogue that the statement was made for, its meaning over it has this answer and makes these writes
  abbrev pub Explained : Deed L → Type 0
  Explained (Worked t s asks choice) = L.IsStatement s × ((whole : L.Whole) → L.IsWhole whole → L.tag s ≡ L.version whole → Gives whole asks → (choice.0 ≡ (L.meaning s whole).0) × (choice.1 ≡ L.writes whole (L.meaning s whole).1))
  Explained deed = ⊤

  -- each evaluated statement was explained
  abbrev pub AllExplained : List (Deed L) → Type 0
  AllExplained past = AllByRecursion Explained past

-- a transaction's statements one after another over whole relations
abbrev pub whole_after : (L : Lang) → List L.Statement → L.Whole → L.Whole
whole_after L [] whole = whole
whole_after L (s ∷ ss) whole = whole_after L ss (L.meaning s whole).1

-- the answers of statements one after another
abbrev pub answers_in_turn : (L : Lang) → List L.Statement → L.Whole → List L.Answer
answers_in_turn L [] whole = []
answers_in_turn L (s ∷ ss) whole = (L.meaning s whole).0 ∷ answers_in_turn L ss (L.meaning s whole).1

-- transactions one after another
abbrev pub serial_whole : (L : Lang) → List (List L.Statement) → L.Whole → L.Whole
serial_whole L [] whole = whole
serial_whole L (ss ∷ rest) whole = serial_whole L rest (whole_after L ss whole)

-- the answers of transactions one after another
abbrev pub serial_answers : (L : Lang) → List (List L.Statement) → L.Whole → List (List L.Answer)
serial_answers L [] whole = []
serial_answers L (ss ∷ rest) whole = answers_in_turn L ss whole ∷ serial_answers L rest (whole_after L ss whole)

-- the whole database after all that was committed, one after another in the order of their first phases; whole: that of the opening
abbrev pub committed_whole : {L : Lang} → L.Whole → List (Deed L) → L.Whole
committed_whole {L} whole past = serial_whole L (map (statements_of past) (committed past)) whole

-- a world before anything happened, whose fragments rebuild a whole database
pub record IsOpening {L : Lang} (whole : L.Whole) (w : World L) : Type 0 where
  pub is_whole : L.IsWhole whole
  pub letters : w.letters ≡ []
  pub past : w.past ≡ []
  pub visits : (a : L.Site) (k : Name) → (w.sites a).status k ≡ Dead
  pub tickets : (a : L.Site) → (w.sites a).known ≡ []
  pub undecided : (t : Name) → w.desk.txn t ≡ Unknown
  pub names : w.desk.known ≡ []
  pub rebuilt : (g : L.Leaf) → (w.sites (L.home g)).kept g ≡ L.content g whole
  -- the catalogue in force is that of the whole database
  pub in_force : w.version ≡ L.version whole

-- the committed transactions, run one after another over whole relations in the order of their first phases, give the answers that were given and what the settled fragments rebuild
pub record IsSerial {L : Lang} (whole : L.Whole) (w : World L) : Type 0 where
  pub answers : map (answers_of w.past) (committed w.past) ≡ serial_answers L (map (statements_of w.past) (committed w.past)) whole
  pub rebuilt : (g : L.Leaf) → settled w g ≡ L.content g (committed_whole whole w.past)
  -- and the catalogue in force is that of the serial run
  pub in_force : L.version (committed_whole whole w.past) ≡ w.version

-- the serial law of a language: whatever happens after an opening
abbrev pub SerialLaw : (L : Lang) → Type 0
SerialLaw L = (whole : L.Whole) (w : World L) (events : List (Event L)) → IsOpening whole w → AllExplained (run events w).past → IsSerial whole (run events w)
