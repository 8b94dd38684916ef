-- Where one client's transaction stands, letter by letter: between its statements, or in one of them.
use Rattle.std.specs.Prelude.{◌≡◌, ◌⊎◌, ⊤, ℕ, map, Bool, true, false, List, [], ◌∷◌, ◌++◌, Some, None, is_some}
use Rattle.std.specs.List.{list_all, AllByRecursion}
use Rattle.protocol.specs.Language.{Lang, Name, same}
use Rattle.protocol.specs.Letter.{Body, Fetch, Write, Rows, Letter, is_for_desk}
use Rattle.protocol.specs.Site.{Visit, Active, SiteState, on_letter, site_after, is_within}
use Rattle.protocol.specs.Desk.{Ask, Choice, Idle, Reading, Writing, Undecided, Known, Deed, Stated, Worked, Answered, is_undecided, on_desk_letter, desk_after, is_desk_within}
use Rattle.protocol.specs.World.{World}
use Rattle.protocol.specs.Parts.{In}
use Rattle.protocol.specs.VisitPlaces.{at, VisitPlace}
use Rattle.protocol.specs.Rounds.{is_reading}

-- each of these leaves is at one of the sites
abbrev pub AtSites : (L : Lang) → List L.Leaf → Type 0
AtSites L leaves = (g : L.Leaf) → In g leaves → In (L.home g) L.sites

module _ {L : Lang} where
  -- the world while a statement of transaction t works: its letters alone, nobody else is undecided, each site at one of its places
  pub record Stands (t : Name) (u : Undecided L) (w : World L) : Type 0 where
    pub alone : AllByRecursion (λ l. l.txn ≡ t) w.letters
    pub others : (j : Name) → same j t ≡ false → is_undecided (w.desk.txn j) ≡ false
    pub among : (a : L.Site) → u.visited a ≡ true → In a L.sites
    pub spots : (a : L.Site) → VisitPlace (w.sites a).status (u.visited a) (u.ticket a) (u.sent a) (at a w.letters)

  -- a fetch has its rows, or waits for the ticket of a visited site, or is on its way, or its rows are
  pub data AskWaits (s : L.Statement) (u : Undecided L) (letters : List (Letter L)) (q : Ask L) : Type 0 where
    came : is_some q.rows ≡ true → AskWaits s u letters q
    unsent : q.number ≡ None → u.visited (L.home q.leaf) ≡ true → u.ticket (L.home q.leaf) ≡ None → AskWaits s u letters q
    sent : (k : Name) (n : ℕ) → q.number ≡ Some n → In (Fetch k n q.leaf q.query) (at (L.home q.leaf) letters) → AskWaits s u letters q
    told : (k : Name) (n : ℕ) (rows : L.Rows) → q.number ≡ Some n → L.well_formed s q.leaf rows ≡ true → In (Rows k n rows) (at (L.home q.leaf) letters) → AskWaits s u letters q

  -- so at a visited site
  pub record AskStands (s : L.Statement) (u : Undecided L) (letters : List (Letter L)) (q : Ask L) : Type 0 where
    pub home : In (L.home q.leaf) L.sites
    pub visited : u.visited (L.home q.leaf) ≡ true
    pub waits : AskWaits s u letters q

  -- a write waits for the ticket of a visited site
  pub record WriteWaits (u : Undecided L) (x : L.Leaf × L.Write) : Type 0 where
    pub home : In (L.home x.0) L.sites
    pub visited : u.visited (L.home x.0) ≡ true
    pub no_ticket : u.ticket (L.home x.0) ≡ None

  -- how far statement s of transaction t has come: some rows are awaited, some writes wait for a ticket, or it is answered. before: the deeds before it
  pub data Far (t : Name) (s : L.Statement) (before : List (Deed L)) (u : Undecided L) (letters : List (Letter L)) (past : List (Deed L)) : Type 0 where
    reads : (asks : List (Ask L)) → u.stage ≡ Reading s asks → list_all (λ q. is_some q.rows) asks ≡ false → AllByRecursion (AskStands s u letters) asks → past ≡ before ++ Stated t s ∷ [] → Far t s before u letters past
    writes : (asks : List (Ask L)) (choice : Choice L) (x : L.Leaf × L.Write) (ws : List (L.Leaf × L.Write)) → u.stage ≡ Writing choice.0 (x ∷ ws) → AllByRecursion (WriteWaits u) (x ∷ ws) → past ≡ before ++ Stated t s ∷ Worked t s asks choice ∷ [] → Far t s before u letters past
    is_answered : (asks : List (Ask L)) (choice : Choice L) → u.stage ≡ Idle → past ≡ before ++ Stated t s ∷ Worked t s asks choice ∷ Answered t choice.0 ∷ [] → Far t s before u letters past

  -- the world while statement s works
  pub record InStatement (t : Name) (s : L.Statement) (before : List (Deed L)) (w : World L) : Type 0 where
    pub u : Undecided L
    pub known : w.desk.txn t ≡ Known u
    pub stands : Stands t u w
    pub far : Far t s before u w.letters w.past

  -- the world between two statements
  pub record Steady (t : Name) (w : World L) : Type 0 where
    pub u : Undecided L
    pub known : w.desk.txn t ≡ Known u
    pub idle : u.stage ≡ Idle
    pub stands : Stands t u w
    pub silent : w.letters ≡ []

  -- the write that waits has room among the intentions of its visit
  abbrev pub Room : SiteState L → Body L → Type 0
  Room s (Write k op g x) = (v : Visit L) → s.status k ≡ Active v → L.is_full g x v.changes ≡ false
  Room s body = ⊤

  -- so, or there is an excuse
  abbrev pub RoomOr : (E : Type 0) → SiteState L → Body L → Type 0
  RoomOr E s (Write k op g x) = (v : Visit L) → s.status k ≡ Active v → (L.is_full g x v.changes ≡ false) ⊎ E
  RoomOr E s body = ⊤

  -- the rows that a fetch of statement y brings of a leaf of site a fit it
  abbrev pub RowsFit : L.Statement → L.Site → SiteState L → Body L → Type 0
  RowsFit y a s (Fetch k op g q) = L.home g ≡ a → (v : Visit L) → s.status k ≡ Active v → L.well_formed y g (L.parts q (L.changed g v.changes (s.kept g))) ≡ true
  RowsFit y a s body = ⊤

  -- the step that a letter makes is within the limits
  abbrev pub passes_to : Bool → World L → Bool → Choice L → Letter L → Bool
  passes_to false w kept choice l = is_within (site_after (w.sites l.site) (on_letter (w.sites l.site) l.txn kept l.body))
  passes_to true w kept choice l = is_desk_within (desk_after w.desk l.txn (on_desk_letter l.txn l.site kept choice l.body (w.desk.txn l.txn)).txn)

  -- so it is where the letter is addressed
  abbrev pub passes : World L → Bool → Choice L → Letter L → Bool
  passes w kept choice l = passes_to (is_for_desk l.body) w kept choice l

  -- a letter of statement s is taken as it should be: the store keeps what it is asked for, no limit is met, rows fit while they are waited for, writes are of leaves at the sites; where a visit has no room there is an excuse E
  pub record Well (E : Type 0) (s : L.Statement) (w : World L) (kept : Bool) (choice : Choice L) (l : Letter L) : Type 0 where
    pub is_kept : kept ≡ true
    pub within : passes w kept choice l ≡ true
    pub room : RoomOr E (w.sites l.site) l.body
    pub fit : is_reading (w.desk.txn l.txn) ≡ true → RowsFit s l.site (w.sites l.site) l.body
    pub homes : AtSites L (map (λ x. x.0) choice.1)
