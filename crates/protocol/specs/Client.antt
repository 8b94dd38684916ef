-- One client alone: a world whose letters are those that wait, each delivered once in the order in which they wait.
use Rattle.std.specs.Prelude.{◌≡◌, ℕ, zero, suc, Bool, true, false, List, [], ◌∷◌, ◌++◌, length}
use Rattle.protocol.specs.Language.{Lang, Name}
use Rattle.protocol.specs.Letter.{Letter}
use Rattle.protocol.specs.Desk.{Choice, Request, Commit_call, Rollback, Give_up, is_undecided}
use Rattle.protocol.specs.VisitPlaces.{Unlocked}
use Rattle.protocol.specs.World.{World, Event, begins, called, comes, desk_restarts, inquires, is_site, may_begin, may_ask, may_move, refragments, restarts, run}
use Rattle.protocol.specs.Serial.{AllExplained, IsOpening, IsSerial, committed_whole}

module _ {L : Lang} where
  -- the first of these letters comes, the others wait on
  abbrev pub first : World L → Bool → Choice L → List (Letter L) → World L
  first w kept choice [] = w
  first w kept choice (l ∷ q) = comes (record w { letters = q }) kept choice l

  -- the oldest letter that waits comes
  abbrev pub next : World L → Bool → Choice L → World L
  next w kept choice = first w kept choice w.letters

  -- the letters that wait but for the oldest
  abbrev pub rest_of : List (Letter L) → List (Letter L)
  rest_of [] = []
  rest_of (l ∷ q) = q

  -- the oldest letter that waits is let go
  abbrev pub loses : World L → World L
  loses w = record w { letters = rest_of w.letters }

  -- all letters that wait are let go
  abbrev pub silent : World L → World L
  silent w = record w { letters = [] }

  -- so many deliveries; pick: whether the store call is kept, and the choice, of the delivery in a world
  abbrev pub deliveries : (World L → Bool × Choice L) → ℕ → World L → World L
  deliveries pick zero w = w
  deliveries pick (suc n) w = deliveries pick n (next w (pick w).0 (pick w).1)

  -- a round: all letters that wait as it begins
  abbrev pub round : (World L → Bool × Choice L) → World L → World L
  round pick w = deliveries pick (length w.letters) w

  -- so many rounds
  abbrev pub rounds : (World L → Bool × Choice L) → ℕ → World L → World L
  rounds pick zero w = w
  rounds pick (suc n) w = rounds pick n (round pick w)

  -- a world whose delivered and lost letters are forgotten: with those in front it is that of a run
  pub record IsReached (whole : L.Whole) (w : World L) : Type 0 where
    pub opening : World L
    pub opens : IsOpening whole opening
    pub events : List (Event L)
    pub gone : List (Letter L)
    pub is : run events opening ≡ record w { letters = gone ++ w.letters }
    pub explained : AllExplained w.past

  -- nothing waits, no ticket has a lock or is prepared, nobody is undecided
  pub record IsQuiet (w : World L) : Type 0 where
    pub silent : w.letters ≡ []
    pub calm : (a : L.Site) (k : Name) → Unlocked ((w.sites a).status k)
    pub decided : (t : Name) → is_undecided (w.desk.txn t) ≡ false

-- what one client does with a world leads from reached worlds to reached worlds, and so do restarts; and those worlds are serial
pub record ReachedLaw (L : Lang) : Type 0 where
  pub begun : (whole : L.Whole) (w : World L) → IsReached whole w → may_begin w ≡ true → IsReached whole (begins w)
  pub refragmented : (whole : L.Whole) (w : World L) (s : L.Statement) (choice : Choice L) → IsReached whole w → may_move w s ≡ true → AllExplained (refragments w s choice).past → IsReached whole (refragments w s choice)
  pub asked : (whole : L.Whole) (w : World L) (t : Name) (choice : Choice L) (request : Request L) → IsReached whole w → may_ask w t request ≡ true → AllExplained (called w t choice request).past → IsReached whole (called w t choice request)
  pub came : (whole : L.Whole) (w : World L) (kept : Bool) (choice : Choice L) → IsReached whole w → AllExplained (next w kept choice).past → IsReached whole (next w kept choice)
  pub lost : (whole : L.Whole) (w : World L) → IsReached whole w → IsReached whole (loses w)
  -- a site restarts, or asks about its prepared rows; the coordinator restarts; and all letters that wait are lost
  pub restarted : (whole : L.Whole) (w : World L) (a : L.Site) → IsReached whole w → is_site L a L.sites ≡ true → IsReached whole (restarts w a)
  pub inquired : (whole : L.Whole) (w : World L) (a : L.Site) → IsReached whole w → is_site L a L.sites ≡ true → IsReached whole (inquires w a)
  pub desk_restarted : (whole : L.Whole) (w : World L) → IsReached whole w → IsReached whole (desk_restarts w)
  pub silenced : (whole : L.Whole) (w : World L) → IsReached whole w → IsReached whole (silent w)
  pub serial : (whole : L.Whole) (w : World L) → IsReached whole w → IsSerial whole w
  pub is_whole : (whole : L.Whole) (w : World L) → IsReached whole w → L.IsWhole (committed_whole whole w.past)

-- how many rounds are enough until no letter waits, from any world: nine, four after a commit is asked for, one after a rollback or where a transaction is given up
pub record RoundsLaw (L : Lang) : Type 0 where
  pub nine : (pick : World L → Bool × Choice L) (w : World L) → (rounds pick 9 w).letters ≡ []
  pub four : (pick : World L → Bool × Choice L) (w : World L) (t : Name) (choice : Choice L) → w.letters ≡ [] → (rounds pick 4 (called w t choice Commit_call)).letters ≡ []
  pub rolled_back : (pick : World L → Bool × Choice L) (w : World L) (t : Name) (choice : Choice L) → w.letters ≡ [] → (rounds pick 1 (called w t choice Rollback)).letters ≡ []
  pub given_up : (pick : World L → Bool × Choice L) (w : World L) (t : Name) (choice : Choice L) → w.letters ≡ [] → (rounds pick 1 (called w t choice Give_up)).letters ≡ []
