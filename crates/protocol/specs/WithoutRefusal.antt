-- One client whose letters come smoothly: each is taken, its store call kept, no limit met, no visit full.
use Rattle.std.specs.Prelude.{◌≡◌, ◌⊎◌, ℕ, Bool, true, false, List, [], ◌∷◌, ◌++◌, map}
use Rattle.std.specs.List.{AllByRecursion}
use Rattle.protocol.specs.Language.{Lang, Name}
use Rattle.protocol.specs.Letter.{Letter}
use Rattle.protocol.specs.Desk.{Ask, Choice, Deed, Stated, Worked, Answered, Phased, Committed, State, Commit_call, next_txn, desk_began, desk_after, on_request, is_desk_within}
use Rattle.protocol.specs.World as world
use Rattle.protocol.specs.World.{World, begins, called, first_turn, refragments}
use Rattle.protocol.specs.Client.{IsQuiet, IsReached, next}
use Rattle.protocol.specs.StatementCourse.{AtSites, InStatement, Room, Steady, passes}
use Rattle.protocol.specs.AfterAbort.{Within}
use Rattle.protocol.specs.Rounds.{is_reading}
use Rattle.protocol.specs.Committing.{Committing}
use Rattle.protocol.specs.Fitting.{Fitting, Suits}

-- a letter comes smoothly: its store call is kept, its step is within the limits, and a write finds room
pub record Smooth {L : Lang} (w : World L) (kept : Bool) (choice : Choice L) (l : Letter L) : Type 0 where
  pub is_kept : kept ≡ true
  pub within : passes w kept choice l ≡ true
  pub room : Room (w.sites l.site) l.body

-- what statements read and write is at the sites; and while catalogue n is in force contents fit, the writes of a statement that brings no other keep them fitting, and rows of fitting contents are well formed
pub record IsHoused (L : Lang) (n : ℕ) (fits : L.Leaf → L.Content → Bool) : Type 0 where
  pub fetched : (s : L.Statement) → L.IsStatement s → AtSites L (map (λ f. f.0) (L.fetches s))
  pub written : (s : L.Statement) (whole : L.Whole) → L.IsStatement s → L.IsWhole whole → L.tag s ≡ L.version whole → AtSites L (map (λ x. x.0) (L.writes whole (L.meaning s whole).1))
  pub suits : (s : L.Statement) (whole : L.Whole) → L.IsStatement s → L.IsWhole whole → L.tag s ≡ L.version whole → L.version whole ≡ n → L.raises s ≡ false → AllByRecursion (Suits L fits) (L.writes whole (L.meaning s whole).1)
  pub contents : (whole : L.Whole) → L.IsWhole whole → L.version whole ≡ n → (g : L.Leaf) → fits g (L.content g whole) ≡ true
  pub rows : (y : L.Statement) → L.tag y ≡ n → (g : L.Leaf) (q : L.Query) (c : L.Content) → fits g c ≡ true → L.well_formed y g (L.parts q c) ≡ true

module _ (L : Lang) (n : ℕ) (fits : L.Leaf → L.Content → Bool) where
  -- between two statements, where contents fit
  pub record Ready (t : Name) (w : World L) : Type 0 where
    pub steady : Steady t w
    pub fitting : Fitting L fits w

  -- in a statement, where contents fit; with the moves of a refragmentation they may not, once it has read what it reads
  pub record InCourse (t : Name) (s : L.Statement) (before : List (Deed L)) (w : World L) : Type 0 where
    pub course : InStatement t s before w
    pub tag : L.tag s ≡ n
    pub fitting : (L.raises s ≡ false) ⊎ (is_reading (w.desk.txn t) ≡ true) → Fitting L fits w

-- where all that is evaluated is explained, a transaction under catalogue n, in force as it begins, whose letters come smoothly is answered statement by statement, and committed where it asks for that; so is a refragmentation
pub record SmoothLaw (L : Lang) (n : ℕ) (fits : L.Leaf → L.Content → Bool) : Type 0 where
  pub begun : (whole : L.Whole) (w : World L) → IsReached whole w → IsQuiet w → w.version ≡ n → is_desk_within (desk_began w.desk) ≡ true → Ready L n fits (next_txn w.desk) (begins w)
  pub stated : (whole : L.Whole) (w : World L) (t : Name) (s : L.Statement) (choice : Choice L) → Ready L n fits t w → L.IsStatement s → L.tag s ≡ n → L.raises s ≡ false → is_desk_within (desk_after w.desk t (on_request t choice (State s) (w.desk.txn t)).txn) ≡ true →
      IsReached whole (called w t choice (State s)) → InCourse L n fits t s w.past (called w t choice (State s))
  pub moved : (whole : L.Whole) (w : World L) (s : L.Statement) (choice : Choice L) → IsReached whole w → IsQuiet w → w.version ≡ n → L.IsStatement s → L.tag s ≡ n →
      is_desk_within (world.begun true w).desk ≡ true → is_desk_within (desk_after (world.begun true w).desk (next_txn w.desk) (first_turn w s choice).txn) ≡ true →
      IsReached whole (refragments w s choice) → InCourse L n fits (next_txn w.desk) s (world.begun true w).past (refragments w s choice)
  pub came : (whole : L.Whole) (w : World L) (t : Name) (s : L.Statement) (before : List (Deed L)) (kept : Bool) (choice : Choice L) (l : Letter L) (q : List (Letter L)) → w.letters ≡ l ∷ q → Within w → Smooth w kept choice l →
      IsReached whole (next w kept choice) → InCourse L n fits t s before w → InCourse L n fits t s before (next w kept choice)
  pub answered : (w : World L) (t : Name) (s : L.Statement) (before : List (Deed L)) → InCourse L n fits t s before w → w.letters ≡ [] → L.raises s ≡ false →
      Ready L n fits t w × ((asks : List (Ask L)) × (choice : Choice L) × (w.past ≡ before ++ Stated t s ∷ Worked t s asks choice ∷ Answered t choice.0 ∷ []))
  pub move_answered : (w : World L) (t : Name) (s : L.Statement) (before : List (Deed L)) → InCourse L n fits t s before w → w.letters ≡ [] →
      Steady t w × ((asks : List (Ask L)) × (choice : Choice L) × (w.past ≡ before ++ Stated t s ∷ Worked t s asks choice ∷ Answered t choice.0 ∷ []))
  pub asked : (w : World L) (t : Name) (choice : Choice L) → Steady t w → Within w → Committing ⊥ t w.past (called w t choice Commit_call)
  pub voted : (w : World L) (t : Name) (before : List (Deed L)) (kept : Bool) (choice : Choice L) (l : Letter L) (q : List (Letter L)) → w.letters ≡ l ∷ q → Within w → kept ≡ true → Committing ⊥ t before w → Committing ⊥ t before (next w kept choice)
  pub committed : (w : World L) (t : Name) (before : List (Deed L)) → Committing ⊥ t before w → w.letters ≡ [] → IsQuiet w × (w.past ≡ before ++ Phased t ∷ Committed t ∷ [])
