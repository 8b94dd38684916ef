-- How a transaction of one client leaves its sites: whatever still has a lock hears of its end.
use Rattle.std.specs.Prelude.{◌≡◌, ◌⊎◌, ⊤, Bool, true, false, List, [], ◌∷◌, ◌++◌, map, Some}
use Rattle.std.specs.List.{AllByRecursion}
use Rattle.protocol.specs.Language.{Lang, Name, same}
use Rattle.protocol.specs.Letter.{Body, Fetch, Write, Prepare, Commit, Abort, Refused, Reason}
use Rattle.protocol.specs.Site.{Status, is_prepared, is_within}
use Rattle.protocol.specs.Desk.{Stage, Idle, Reading, Writing, Voting, Undecided, Known, Deed, Began, Stated, Worked, Answered, Phased, Committed, Aborted, Rolled_back, is_undecided, is_desk_within}
use Rattle.protocol.specs.World.{World}
use Rattle.protocol.specs.Parts.{In, is_voting}
use Rattle.protocol.specs.VisitPlaces.{at, Unlocked}
use Rattle.protocol.specs.StatementCourse.{InStatement}

module _ {L : Lang} where
  -- whoever is to do something for its ticket hears Abort after it, or the ticket is still its transaction's own (O)
  abbrev pub Closed : (Name → Type 0) → List (Body L) → Type 0
  Closed O [] = ⊤
  Closed O (Fetch k op g q ∷ bs) = (O k ⊎ In (Abort k) bs) × Closed O bs
  Closed O (Write k op g x ∷ bs) = (O k ⊎ In (Abort k) bs) × Closed O bs
  Closed O (Prepare k n ∷ bs) = (O k ⊎ In (Abort k) bs) × Closed O bs
  Closed O (b ∷ bs) = Closed O bs

  -- a ticket has no lock, or is still its transaction's own, or its Abort is on the way, or it is prepared and its Commit is
  pub data Leaves (O : Name → Type 0) (k : Name) (st : Status L) (bs : List (Body L)) : Type 0 where
    is_free : Unlocked st → Leaves O k st bs
    is_own : O k → Leaves O k st bs
    hears_abort : In (Abort k) bs → Leaves O k st bs
    hears_commit : is_prepared st ≡ true → In (Commit k) bs → Leaves O k st bs

  -- so of all tickets of a site. f: their statuses, bs: what waits to and from it
  pub record LeavingAt (O : Name → Type 0) (f : Name → Status L) (bs : List (Body L)) : Type 0 where
    pub locks : (k : Name) → Leaves O k (f k) bs
    pub closed : Closed O bs

  -- nobody is undecided, and what was to be done is being left; deeds: all that happened
  pub record Ending (deeds : List (Deed L)) (w : World L) : Type 0 where
    pub decided : (t : Name) → is_undecided (w.desk.txn t) ≡ false
    pub leaving : (a : L.Site) → LeavingAt (λ k. ⊥) (w.sites a).status (at a w.letters)
    pub past : w.past ≡ deeds

  -- the store call that a Commit or an Abort makes is kept
  abbrev pub EndKept : Bool → Body L → Type 0
  EndKept kept (Commit k) = kept ≡ true
  EndKept kept (Abort k) = kept ≡ true
  EndKept kept body = ⊤

  -- the coordinator and the sites are within their limits
  pub record Within (w : World L) : Type 0 where
    pub desk : is_desk_within w.desk ≡ true
    pub sites : (a : L.Site) → is_within (w.sites a) ≡ true

  -- the ticket that the transaction has of a visited site
  abbrev pub Own : Undecided L → L.Site → Name → Type 0
  Own u a k = (u.visited a ≡ true) × (u.ticket a ≡ Some k)

  -- a deed of the transaction, but no commit
  abbrev pub Fruitless : Name → Deed L → Type 0
  Fruitless t (Began j) = ⊥
  Fruitless t (Stated j s) = j ≡ t
  Fruitless t (Worked j s asks choice) = j ≡ t
  Fruitless t (Answered j answer) = j ≡ t
  Fruitless t (Phased j) = j ≡ t
  Fruitless t (Committed j) = ⊥
  Fruitless t (Aborted j why) = j ≡ t
  Fruitless t (Rolled_back j) = j ≡ t

  -- since these deeds the transaction has done others, and has not committed
  pub record Since (t : Name) (before past : List (Deed L)) : Type 0 where
    pub more : List (Deed L)
    pub is : past ≡ before ++ more
    pub fruitless : AllByRecursion (Fruitless t) more

  -- the leaves that a stage still sends to
  abbrev pub leaves_of : Stage L → List L.Leaf
  leaves_of Idle = []
  leaves_of (Reading s asks) = map (λ q. q.leaf) asks
  leaves_of (Writing answer ws) = map (λ x. x.0) ws
  leaves_of (Voting votes) = []

  -- each of these leaves is at a site that is visited
  abbrev pub AreVisited : Undecided L → List L.Leaf → Type 0
  AreVisited u leaves = (g : L.Leaf) → In g leaves → u.visited (L.home g) ≡ true

  -- the world while a transaction may still be given up: before its first phase, whatever letters were let go
  pub record Loose (t : Name) (before : List (Deed L)) (w : World L) : Type 0 where
    pub u : Undecided L
    pub known : w.desk.txn t ≡ Known u
    pub calm : is_voting u.stage ≡ false
    pub seen : AreVisited u (leaves_of u.stage)
    pub alone : AllByRecursion (λ l. l.txn ≡ t) w.letters
    pub others : (j : Name) → same j t ≡ false → is_undecided (w.desk.txn j) ≡ false
    pub among : (a : L.Site) → u.visited a ≡ true → In a L.sites
    pub leaving : (a : L.Site) → LeavingAt (Own u a) (w.sites a).status (at a w.letters)
    pub since : Since t before w.past

  -- the world after a refused operation of which the coordinator will hear
  pub record Doomed (t : Name) (before : List (Deed L)) (w : World L) : Type 0 where
    pub loose : Loose t before w
    pub site : L.Site
    pub ticket : Name
    pub reason : Reason
    pub own : loose.u.ticket site ≡ Some ticket
    pub waits : In (Refused ticket reason) (at site w.letters)

  -- a statement fails: the coordinator will hear of it, or the transaction has ended
  pub data Failing (t : Name) (before : List (Deed L)) (w : World L) : Type 0 where
    doomed : Doomed t before w → Failing t before w
    has_ended : (deeds : List (Deed L)) → Since t before deeds → Ending deeds w → Failing t before w

  -- the world while a statement works, or fails with an excuse E
  abbrev pub Went : (E : Type 0) → Name → L.Statement → List (Deed L) → World L → Type 0
  Went E t s before w = InStatement t s before w ⊎ (E × Failing t before w)

  -- the world after whatever became of a letter: the transaction may still be given up, or it has ended
  pub data Lost (t : Name) (before : List (Deed L)) (w : World L) : Type 0 where
    may_end : Loose t before w → Lost t before w
    has_gone : (deeds : List (Deed L)) → Since t before deeds → Ending deeds w → Lost t before w
