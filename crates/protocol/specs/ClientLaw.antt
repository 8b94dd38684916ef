-- The laws of one client alone: letter by letter, and for a whole transaction.
use Rattle.std.specs.Prelude.{◌≡◌, ◌⊎◌, ⊤, Bool, true, List, [], ◌∷◌, ◌++◌, map}
use Rattle.protocol.specs.Language.{Lang, Name}
use Rattle.protocol.specs.Letter.{Letter}
use Rattle.protocol.specs.Desk.{Ask, Choice, Deed, Began, Stated, Worked, Answered, Phased, Committed, Aborted, Rolled_back, Why, State, Commit_call, Rollback, Give_up, Request, next_txn, desk_began, desk_after, on_request, is_desk_within}
use Rattle.protocol.specs.World as world
use Rattle.protocol.specs.World.{World, begins, called, first_turn, refragments}
use Rattle.protocol.specs.Serial.{IsOpening}
use Rattle.protocol.specs.Parts.{Work}
use Rattle.protocol.specs.Client.{next, IsQuiet}
use Rattle.protocol.specs.StatementCourse.{AtSites, Steady, Well}
use Rattle.protocol.specs.AfterAbort.{EndKept, Within, Since, Ending, Went, Lost}
use Rattle.protocol.specs.Committing.{Committing, CommitKept}

module _ {L : Lang} where
  -- letters come one after another; of each, whether the store call is kept, and the choice
  abbrev pub taken : List (Bool × Choice L) → World L → World L
  taken [] w = w
  taken (x ∷ xs) w = taken xs (next w x.0 x.1)

  -- what is said of the letter in front
  abbrev pub OfFirst : (World L → Bool → Choice L → Letter L → Type 0) → World L → Bool → Choice L → List (Letter L) → Type 0
  OfFirst ok w kept choice [] = ⊤
  OfFirst ok w kept choice (l ∷ q) = ok w kept choice l

  -- each letter comes so, and at last none waits
  abbrev pub AllTaken : (World L → Bool → Choice L → Letter L → Type 0) → List (Bool × Choice L) → World L → Type 0
  AllTaken ok [] w = w.letters ≡ []
  AllTaken ok (x ∷ xs) w = OfFirst ok w x.0 x.1 w.letters × AllTaken ok xs (next w x.0 x.1)

-- a statement as its client has it done: with the choice where it reads nothing, and how its letters come
pub record Doing (L : Lang) : Type 0 where
  pub statement : L.Statement
  pub choice : Choice L
  pub takes : List (Bool × Choice L)

module _ {L : Lang} where
  -- a statement is asked for, and all its letters come
  abbrev pub does_one : Name → World L → Doing L → World L
  does_one t w x = taken x.takes (called w t x.choice (State x.statement))

  -- one statement after another
  abbrev pub does : Name → List (Doing L) → World L → World L
  does t [] w = w
  does t (x ∷ xs) w = does t xs (does_one t w x)

  -- a statement is done as it should be: leaves at the sites, no limit met, each store call kept
  pub record IsDone (t : Name) (w : World L) (x : Doing L) : Type 0 where
    pub fetched : AtSites L (map (λ f. f.0) (L.fetches x.statement))
    pub written : AtSites L (map (λ y. y.0) x.choice.1)
    pub within : is_desk_within (desk_after w.desk t (on_request t x.choice (State x.statement) (w.desk.txn t)).txn) ≡ true
    pub all : AllTaken (Well ⊥ x.statement) x.takes (called w t x.choice (State x.statement))

  -- so are all
  abbrev pub AllDone : Name → World L → List (Doing L) → Type 0
  AllDone t w [] = ⊤
  AllDone t w (x ∷ xs) = IsDone t w x × AllDone t (does_one t w x) xs

  -- the deeds of statements: each is accepted, evaluated, and answered as it was evaluated
  abbrev pub log : Name → List (Work L) → List (Deed L)
  log t [] = []
  log t (x ∷ xs) = Stated t x.statement ∷ Worked t x.statement x.asks x.choice ∷ Answered t x.choice.0 ∷ log t xs

  -- the store call that a letter makes is kept
  abbrev pub Kept : World L → Bool → Choice L → Letter L → Type 0
  Kept w kept choice l = kept ≡ true

-- a whole transaction of one client: from a quiet world to a quiet world, each statement answered, and at last committed, or rolled back
pub record ClientLaw (L : Lang) : Type 0 where
  pub commits : (w : World L) (xs : List (Doing L)) (choice : Choice L) (takes : List (Bool × Choice L)) → IsQuiet w → Within w → is_desk_within (desk_began w.desk) ≡ true → AllDone (next_txn w.desk) (begins w) xs →
      let t = next_txn w.desk in
      let asked = called (does t xs (begins w)) t choice Commit_call in
      AllTaken Kept takes asked →
      IsQuiet (taken takes asked) × ((es : List (Work L)) × (map (λ x. x.statement) es ≡ map (λ x. x.statement) xs) × ((taken takes asked).past ≡ (w.past ++ Began t ∷ []) ++ log t es ++ (Phased t ∷ Committed t ∷ [])))
  pub rolls_back : (w : World L) (xs : List (Doing L)) (choice : Choice L) (takes : List (Bool × Choice L)) → IsQuiet w → Within w → is_desk_within (desk_began w.desk) ≡ true → AllDone (next_txn w.desk) (begins w) xs →
      let t = next_txn w.desk in
      let asked = called (does t xs (begins w)) t choice Rollback in
      AllTaken Kept takes asked →
      IsQuiet (taken takes asked) × ((es : List (Work L)) × (map (λ x. x.statement) es ≡ map (λ x. x.statement) xs) × ((taken takes asked).past ≡ (w.past ++ Began t ∷ []) ++ log t es ++ (Rolled_back t ∷ [])))

-- one client letter by letter. E: an excuse, which each place gives where something is refused; with none, a transaction that asks for it is committed
pub record CourseLaw (L : Lang) (E : Type 0) : Type 0 where
  -- the limits hold on, and an opening is quiet
  pub limits : (w : World L) → Within w → Within (begins w) × ((t : Name) (choice : Choice L) (request : Request L) → Within (called w t choice request)) × ((kept : Bool) (choice : Choice L) → Within (next w kept choice))
  pub opened : (whole : L.Whole) (w : World L) → IsOpening whole w → IsQuiet w
  -- a transaction begins
  pub begun : (w : World L) → IsQuiet w → is_desk_within (desk_began w.desk) ≡ true → Steady (next_txn w.desk) (begins w)
  -- a refragmentation begins as one, and what follows is its one statement
  pub moves_steady : (w : World L) → IsQuiet w → Steady (next_txn w.desk) (world.begun true w)
  pub moves_called : (w : World L) (s : L.Statement) (choice : Choice L) → is_desk_within (world.begun true w).desk ≡ true → is_desk_within (desk_after (world.begun true w).desk (next_txn w.desk) (first_turn w s choice).txn) ≡ true →
      refragments w s choice ≡ called (world.begun true w) (next_txn w.desk) choice (State s)
  -- a statement is accepted, its letters come, and it is answered, or failed
  pub stated : (w : World L) (t : Name) (s : L.Statement) (choice : Choice L) → Steady t w → AtSites L (map (λ f. f.0) (L.fetches s)) → AtSites L (map (λ x. x.0) choice.1) → is_desk_within (desk_after w.desk t (on_request t choice (State s) (w.desk.txn t)).txn) ≡ true → Went E t s w.past (called w t choice (State s))
  pub came : (w : World L) (t : Name) (s : L.Statement) (before : List (Deed L)) (kept : Bool) (choice : Choice L) (l : Letter L) (q : List (Letter L)) → w.letters ≡ l ∷ q → Within w → Well E s w kept choice l → Went E t s before w → Went E t s before (next w kept choice)
  pub answered : (w : World L) (t : Name) (s : L.Statement) (before : List (Deed L)) → Went E t s before w → w.letters ≡ [] →
      (Steady t w × ((asks : List (Ask L)) × (choice : Choice L) × (w.past ≡ before ++ Stated t s ∷ Worked t s asks choice ∷ Answered t choice.0 ∷ []))) ⊎ (E × (IsQuiet w × Since t before w.past))
  -- whatever becomes of a letter of a statement, the transaction can be given up
  pub lost : (w : World L) (t : Name) (s : L.Statement) (before : List (Deed L)) → Went E t s before w → Lost t before w
  pub idle : (w : World L) (t : Name) → Steady t w → Lost t w.past w
  pub lost_still : (w : World L) (t : Name) (before : List (Deed L)) (kept : Bool) (choice : Choice L) (l : Letter L) (q : List (Letter L)) → w.letters ≡ l ∷ q → Within w → EndKept kept l.body → AtSites L (map (λ x. x.0) choice.1) → Lost t before w → Lost t before (next w kept choice)
  pub given_up : (w : World L) (t : Name) (before : List (Deed L)) (choice : Choice L) → Within w → Lost t before w → (deeds : List (Deed L)) × (Since t before deeds × Ending deeds (called w t choice Give_up))
  -- a commit is asked for, its letters come, and it is committed, or there was an excuse
  pub asked : (w : World L) (t : Name) (choice : Choice L) → Steady t w → Within w → Committing E t w.past (called w t choice Commit_call)
  pub voted : (w : World L) (t : Name) (before : List (Deed L)) (kept : Bool) (choice : Choice L) (l : Letter L) (q : List (Letter L)) → w.letters ≡ l ∷ q → Within w → CommitKept E kept l.body → Committing E t before w → Committing E t before (next w kept choice)
  pub committed : (w : World L) (t : Name) (before : List (Deed L)) → Committing E t before w → w.letters ≡ [] →
      IsQuiet w × ((w.past ≡ before ++ Phased t ∷ Committed t ∷ []) ⊎ (E × ((why : Why) × (w.past ≡ before ++ Phased t ∷ Aborted t why ∷ []))))
  -- a transaction is rolled back, and what has ended grows quiet
  pub rolled_back : (w : World L) (t : Name) (choice : Choice L) → Steady t w → Within w → Ending (w.past ++ Rolled_back t ∷ []) (called w t choice Rollback)
  pub left : (w : World L) (deeds : List (Deed L)) (kept : Bool) (choice : Choice L) (l : Letter L) (q : List (Letter L)) → w.letters ≡ l ∷ q → Within w → EndKept kept l.body → Ending deeds w → Ending deeds (next w kept choice)
  pub quiet : (w : World L) (deeds : List (Deed L)) → Ending deeds w → w.letters ≡ [] → IsQuiet w × (w.past ≡ deeds)

-- so whether or not there is an excuse
abbrev pub LetterByLetter : Lang → Type 0
LetterByLetter L = (excused : Bool) → CourseLaw L (excused ≡ true)
