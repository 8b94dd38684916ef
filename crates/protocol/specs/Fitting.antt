-- Contents that fit their leaves stay so, as long as what statements write keeps them fitting.
use Rattle.std.specs.Prelude.{◌≡◌, ⊤, Bool, true}
use Rattle.std.specs.List.{AllByRecursion}
use Rattle.protocol.specs.Language.{Lang, Name}
use Rattle.protocol.specs.Letter.{Body, Write, Letter}
use Rattle.protocol.specs.Site.{Status, Dead, Active, Prepared, SiteState}
use Rattle.protocol.specs.Desk.{Choice, Stage, Writing, Txn, Known, Request}
use Rattle.protocol.specs.World.{World, begins, called}
use Rattle.protocol.specs.Serial.{IsOpening}
use Rattle.protocol.specs.Client.{next, loses}
use Rattle.protocol.specs.StatementCourse.{RowsFit}

-- fits: whether a content fits a leaf
module _ (L : Lang) (fits : L.Leaf → L.Content → Bool) where
  -- a write keeps a content of its leaf fitting
  abbrev pub Suits : L.Leaf × L.Write → Type 0
  Suits x = (c : L.Content) → fits x.0 c ≡ true → fits x.0 (L.put_in x.1 c) ≡ true

  -- so do intentions
  abbrev pub KeepsFit : L.Intentions → Type 0
  KeepsFit i = (g : L.Leaf) (c : L.Content) → fits g c ≡ true → fits g (L.changed g i c) ≡ true

  -- those of a visit or a prepared row
  abbrev pub StatusFits : Status L → Type 0
  StatusFits Dead = ⊤
  StatusFits (Active v) = KeepsFit v.changes
  StatusFits (Prepared t i) = KeepsFit i

  -- the write of a letter
  abbrev pub BodyFits : Body L → Type 0
  BodyFits (Write k op g x) = Suits (g, x)
  BodyFits body = ⊤

  -- the writes that wait for a ticket
  abbrev pub StageFits : Stage L → Type 0
  StageFits (Writing answer ws) = AllByRecursion Suits ws
  StageFits stage = ⊤

  -- those of a transaction
  abbrev pub TxnFits : Txn L → Type 0
  TxnFits (Known u) = StageFits u.stage
  TxnFits txn = ⊤

  -- a site's own contents fit, and what is to be written there keeps them fitting
  pub record SiteFitting (a : L.Site) (s : SiteState L) : Type 0 where
    pub kept : (g : L.Leaf) → L.home g ≡ a → fits g (s.kept g) ≡ true
    pub status : (k : Name) → StatusFits (s.status k)

  -- so everywhere
  pub record Fitting (w : World L) : Type 0 where
    pub sites : (a : L.Site) → SiteFitting a (w.sites a)
    pub letters : AllByRecursion (λ l. BodyFits l.body) w.letters
    pub txns : (t : Name) → TxnFits (w.desk.txn t)

-- fitting contents stay so through what one client does, and rows of fitting contents are well formed where those of any fitting content are
pub record FittingLaw (L : Lang) (fits : L.Leaf → L.Content → Bool) : Type 0 where
  pub opened : (whole : L.Whole) (w : World L) → IsOpening whole w → ((g : L.Leaf) → fits g (L.content g whole) ≡ true) → Fitting L fits w
  pub begun : (w : World L) → Fitting L fits w → Fitting L fits (begins w)
  pub asked : (w : World L) (t : Name) (choice : Choice L) (request : Request L) → AllByRecursion (Suits L fits) choice.1 → Fitting L fits w → Fitting L fits (called w t choice request)
  pub came : (w : World L) (kept : Bool) (choice : Choice L) → AllByRecursion (Suits L fits) choice.1 → Fitting L fits w → Fitting L fits (next w kept choice)
  pub lost : (w : World L) → Fitting L fits w → Fitting L fits (loses w)
  pub rows : (y : L.Statement) (w : World L) (l : Letter L) → ((g : L.Leaf) (q : L.Query) (c : L.Content) → fits g c ≡ true → L.well_formed y g (L.parts q c) ≡ true) → Fitting L fits w → RowsFit y l.site (w.sites l.site) l.body

-- whatever it is to fit
abbrev pub StaysFitting : Lang → Type 0
StaysFitting L = (fits : L.Leaf → L.Content → Bool) → FittingLaw L fits
