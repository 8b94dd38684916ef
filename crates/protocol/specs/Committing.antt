-- The commit of one client's transaction, letter by letter: each site is asked, votes, and is counted.
use Rattle.std.specs.Prelude.{◌≡◌, ◌⊎◌, ⊤, Bool, true, false, List, [], ◌∷◌, ◌++◌, Option, Some, None}
use Rattle.std.specs.List.{AllByRecursion}
use Rattle.protocol.specs.Language.{Lang, Name, same}
use Rattle.protocol.specs.Letter.{Vote, Yes, No, Read, Body, Prepare, Commit, Abort, Voted}
use Rattle.protocol.specs.Site.{Visit, Status, Active, is_prepared}
use Rattle.protocol.specs.Desk.{Voting, Undecided, Known, Deed, Phased, Committed, Aborted, Why, is_undecided, are_all_in}
use Rattle.protocol.specs.World.{World}
use Rattle.protocol.specs.Parts.{In}
use Rattle.protocol.specs.VisitPlaces.{at, Unlocked}
use Rattle.protocol.specs.AfterAbort.{Ending}

module _ {L : Lang} where
  -- what stands behind ticket k once its site has voted: a prepared row, or no lock; a No has an excuse. f: the statuses of the site
  abbrev pub VotedBy : (E : Type 0) → (Name → Status L) → Name → Vote → Type 0
  VotedBy E f k Yes = (is_prepared (f k) ≡ true) × ((j : Name) → same j k ≡ false → Unlocked (f j))
  VotedBy E f k Read = (j : Name) → Unlocked (f j)
  VotedBy E f k No = E × ((j : Name) → Unlocked (f j))

  -- where a site stands in the first phase. b: whether it is visited, tk: its ticket, vote: that which was counted, bs: what waits to and from it
  pub data Ballot (E : Type 0) (f : Name → Status L) (b : Bool) (tk : Option Name) (vote : Option Vote) (bs : List (Body L)) : Type 0 where
    is_aside : b ≡ false → vote ≡ None → bs ≡ [] → ((j : Name) → Unlocked (f j)) → Ballot E f b tk vote bs
    is_asked : (k : Name) (v : Visit L) → b ≡ true → tk ≡ Some k → vote ≡ None → bs ≡ Prepare k v.done ∷ [] → f k ≡ Active v → ((j : Name) → same j k ≡ false → Unlocked (f j)) → Ballot E f b tk vote bs
    has_voted : (k : Name) (x : Vote) → b ≡ true → tk ≡ Some k → vote ≡ None → bs ≡ Voted k x ∷ [] → VotedBy E f k x → Ballot E f b tk vote bs
    is_counted : (k : Name) (x : Vote) → b ≡ true → tk ≡ Some k → vote ≡ Some x → bs ≡ [] → VotedBy ⊥ f k x → Ballot E f b tk vote bs

  -- the world while votes are awaited
  pub record InVote (E : Type 0) (t : Name) (before : List (Deed L)) (w : World L) : Type 0 where
    pub u : Undecided L
    pub votes : L.Site → Option Vote
    pub known : w.desk.txn t ≡ Known u
    pub stage : u.stage ≡ Voting votes
    pub missing : are_all_in u votes ≡ false
    pub alone : AllByRecursion (λ l. l.txn ≡ t) w.letters
    pub others : (j : Name) → same j t ≡ false → is_undecided (w.desk.txn j) ≡ false
    pub among : (a : L.Site) → u.visited a ≡ true → In a L.sites
    pub ballots : (a : L.Site) → Ballot E (w.sites a).status (u.visited a) (u.ticket a) (votes a) (at a w.letters)
    pub past : w.past ≡ before ++ Phased t ∷ []

  -- the world after a commit was asked for: votes are awaited, or it is committed, or aborted with an excuse E
  pub data Committing (E : Type 0) (t : Name) (before : List (Deed L)) (w : World L) : Type 0 where
    in_vote : InVote E t before w → Committing E t before w
    is_done : Ending (before ++ Phased t ∷ Committed t ∷ []) w → Committing E t before w
    is_undone : E → (why : Why) → Ending (before ++ Phased t ∷ Aborted t why ∷ []) w → Committing E t before w

  -- the store call of a Commit or an Abort is kept, and that of a Prepare or a vote unless there is an excuse
  abbrev pub CommitKept : (E : Type 0) → Bool → Body L → Type 0
  CommitKept E kept (Commit k) = kept ≡ true
  CommitKept E kept (Abort k) = kept ≡ true
  CommitKept E kept (Prepare k n) = (kept ≡ true) ⊎ E
  CommitKept E kept (Voted k vote) = (kept ≡ true) ⊎ E
  CommitKept E kept body = ⊤
