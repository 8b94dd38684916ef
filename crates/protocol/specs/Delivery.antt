-- What becomes of the letters that one client's call brings about, one after another, and why.
use Rattle.std.specs.Prelude.{◌≡◌, ◌⊎◌, ⊤, Bool, true, false, List, [], ◌∷◌}
use Rattle.protocol.specs.Desk.{Choice, Give_up, Request, on_desk_letter}
use Rattle.protocol.specs.Language.{Lang, Name}
use Rattle.protocol.specs.Letter.{Abort, Body, Commit, Fetch, Letter, Write}
use Rattle.protocol.specs.Serial.{AllExplained}
use Rattle.protocol.specs.Site.{Active, SiteState, Visit}
use Rattle.protocol.specs.StatementCourse.{passes}
use Rattle.protocol.specs.WithoutRefusal.{Smooth}
use Rattle.protocol.specs.World.{World, begins, called, comes, is_site}

-- what becomes of a letter: it is taken, or let go and its transaction given up, or let go as one for no site that there is. kept: whether the store call that it makes is kept
pub data Coming (L : Lang) : Type 0 where
  Taken : (kept : Bool) (choice : Choice L) → Coming L
  Turned_away : (choice : Choice L) → Coming L
  Passed_over : Coming L

module _ {L : Lang} where
  -- so with this letter
  abbrev pub done_with : Letter L → Coming L → World L → World L
  done_with l (Taken kept choice) w = comes w kept choice l
  done_with l (Turned_away choice) w = called w l.txn choice Give_up
  done_with l Passed_over w = w

  -- with the first of these letters, the others wait on
  abbrev pub first_comes : World L → Coming L → List (Letter L) → World L
  first_comes w c [] = w
  first_comes w c (l ∷ q) = done_with l c (record w { letters = q })

  -- with the oldest letter that waits
  abbrev pub come : World L → Coming L → World L
  come w c = first_comes w c w.letters

  -- one letter after another
  abbrev pub all_come : List (Coming L) → World L → World L
  all_come [] w = w
  all_come (c ∷ cs) w = all_come cs (come w c)

-- what the client asks of the coordinator: that a transaction begins, or something of one
pub data Ask (L : Lang) : Type 0 where
  To_begin : Ask L
  To_do : (txn : Name) (request : Request L) (choice : Choice L) → Ask L

module _ {L : Lang} where
  -- so asked
  abbrev pub asked : Ask L → World L → World L
  asked To_begin w = begins w
  asked (To_do txn request choice) w = called w txn choice request

  -- ---- store calls
  -- the store call that a Fetch, a Commit or an Abort makes is kept: a store that refuses one of these stops the database
  abbrev pub CallKept : Bool → Body L → Type 0
  CallKept kept (Fetch ticket op leaf query) = kept ≡ true
  CallKept kept (Commit ticket) = kept ≡ true
  CallKept kept (Abort ticket) = kept ≡ true
  CallKept kept said = ⊤

  -- the store call that a letter makes is kept, and that of each of these letters
  abbrev pub IsKept : Coming L → Type 0
  IsKept (Taken true choice) = ⊤
  IsKept (Taken false choice) = ⊥
  IsKept (Turned_away choice) = ⊤
  IsKept Passed_over = ⊤

  abbrev pub AllKept : List (Coming L) → Type 0
  AllKept [] = ⊤
  AllKept (coming ∷ comings) = IsKept coming × AllKept comings

  -- ---- limits
  -- for one answer and its writes, which are explained, a letter's step leads past a limit of the coordinator or of its site
  pub record IsAtLimit (w : World L) (l : Letter L) : Type 0 where
    pub choice : Choice L
    pub explained : AllExplained (on_desk_letter l.txn l.site true choice l.body (w.desk.txn l.txn)).deeds
    pub past : passes w true choice l ≡ false

  -- What becomes of a letter of one client, whose operations are for the sites that keep their leaves, has its reason: it is taken where its step is within the limits, a
  -- Fetch, a Commit or an Abort with its store call kept; its transaction is given up only where its step leads past a limit; and it is passed over only where
  -- there is no site of the name.
  abbrev pub IsFounded : World L → Coming L → Letter L → Type 0
  IsFounded w (Taken kept choice) l = (passes w kept choice l ≡ true) × CallKept kept l.body
  IsFounded w (Turned_away choice) l = IsAtLimit w l
  IsFounded w Passed_over l = is_site L l.site L.sites ≡ false

  -- so of the first of these letters, if there is one, and of all, one after another
  abbrev pub FirstIsFounded : World L → Coming L → List (Letter L) → Type 0
  FirstIsFounded w coming [] = ⊤
  FirstIsFounded w coming (l ∷ q) = IsFounded w coming l

  abbrev pub AllFounded : List (Coming L) → World L → Type 0
  AllFounded [] w = ⊤
  AllFounded (c ∷ cs) w = FirstIsFounded w c w.letters × AllFounded cs (come w c)

  -- ---- letters that come smoothly
  -- a letter isn't let go, its store call is kept, no limit is met, and a write finds room
  abbrev pub IsSmooth : World L → Coming L → Letter L → Type 0
  IsSmooth w (Taken kept choice) l = Smooth w kept choice l
  IsSmooth w (Turned_away choice) l = ⊥
  IsSmooth w Passed_over l = ⊥

  abbrev pub FirstIsSmooth : World L → Coming L → List (Letter L) → Type 0
  FirstIsSmooth w c [] = ⊤
  FirstIsSmooth w c (l ∷ q) = IsSmooth w c l

  abbrev pub AllSmooth : List (Coming L) → World L → Type 0
  AllSmooth [] w = ⊤
  AllSmooth (c ∷ cs) w = FirstIsSmooth w c w.letters × AllSmooth cs (come w c)

  -- ---- or something is refused
  -- a write finds no room among the intentions of its visit
  abbrev pub FindsNoRoom : SiteState L → Body L → Type 0
  FindsNoRoom s (Write ticket op leaf write) = (visit : Visit L) × ((s.status ticket ≡ Active visit) × (L.is_full leaf write visit.changes ≡ true))
  FindsNoRoom s body = ⊥

  -- a visit is full, a store call isn't kept, or the letter is turned away, for its reason. None is passed over. Unkept: what is the case where a store call isn't kept
  abbrev pub Hinders : Type 0 → World L → Coming L → Letter L → Type 0
  Hinders Unkept w (Taken true choice) l = FindsNoRoom (w.sites l.site) l.body
  Hinders Unkept w (Taken false choice) l = Unkept × IsFounded w (Taken false choice) l
  Hinders Unkept w (Turned_away choice) l = IsFounded w (Turned_away choice) l
  Hinders Unkept w Passed_over l = ⊥

  abbrev pub FirstHinders : Type 0 → World L → Coming L → List (Letter L) → Type 0
  FirstHinders Unkept w c [] = ⊥
  FirstHinders Unkept w c (l ∷ q) = Hinders Unkept w c l

  -- so with one of the letters that come
  abbrev pub SomeHinder : Type 0 → List (Coming L) → World L → Type 0
  SomeHinder Unkept [] w = ⊥
  SomeHinder Unkept (c ∷ cs) w = FirstHinders Unkept w c w.letters ⊎ SomeHinder Unkept cs (come w c)
