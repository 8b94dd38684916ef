-- A database comes up again over what its stores kept: its machines restart, each site asks about its prepared rows, and the coordinator sends its commits again.
use Rattle.std.specs.Prelude.{◌≡◌, ◌⊎◌, ⊤, true, false, List, [], ◌∷◌}
use Rattle.std.specs.List.{AllByRecursion}
use Rattle.protocol.specs.Language.{Lang, Name}
use Rattle.protocol.specs.Letter.{Body, Commit, Abort, Ack, Inquire, Letter}
use Rattle.protocol.specs.Site.{is_active, is_dead, is_prepared}
use Rattle.protocol.specs.Desk.{Deed, is_undecided}
use Rattle.protocol.specs.World.{World, inquires, is_site}
use Rattle.protocol.specs.Parts.{In}
use Rattle.protocol.specs.AfterAbort.{Within}
use Rattle.protocol.specs.Client.{IsQuiet}
use Rattle.protocol.specs.Delivery.{AllFounded, Coming, all_come}
use Rattle.protocol.specs.VisitPlaces.{at}

module _ {L : Lang} where
  -- a letter by which a prepared row comes to its end
  abbrev pub EndsRow : Body L → Type 0
  EndsRow (Commit k) = ⊤
  EndsRow (Abort k) = ⊤
  EndsRow (Ack k) = ⊤
  EndsRow (Inquire k) = ⊤
  EndsRow body = ⊥

  -- to or from one of the sites, such a letter
  abbrev pub OfRecovery : Letter L → Type 0
  OfRecovery l = EndsRow l.body × (is_site L l.site L.sites ≡ true)

  -- a ticket's site hears how it ends, or has asked
  abbrev pub Hears : Name → List (Body L) → Type 0
  Hears k bodies = In (Commit k) bodies ⊎ In (Abort k) bodies ⊎ In (Inquire k) bodies

  -- as machines come up: nobody is undecided, no visit stands, and there is nothing at a place that is no site
  pub record AtRest (w : World L) : Type 0 where
    pub decided : (t : Name) → is_undecided (w.desk.txn t) ≡ false
    pub unvisited : (a : L.Site) (k : Name) → is_active ((w.sites a).status k) ≡ false
    pub listed : (a : L.Site) (k : Name) → is_dead ((w.sites a).status k) ≡ false → In k (w.sites a).known
    pub nowhere : (a : L.Site) → is_site L a L.sites ≡ false → (k : Name) → is_dead ((w.sites a).status k) ≡ true
    pub only : AllByRecursion OfRecovery w.letters

  -- nobody is undecided, no visit stands, and the site of each prepared row hears how it ends, or has asked. deeds: all that happened
  pub record Recovering (deeds : List (Deed L)) (w : World L) : Type 0 where
    pub decided : (t : Name) → is_undecided (w.desk.txn t) ≡ false
    pub unvisited : (a : L.Site) (k : Name) → is_active ((w.sites a).status k) ≡ false
    pub hears : (a : L.Site) (k : Name) → is_prepared ((w.sites a).status k) ≡ true → Hears k (at a w.letters)
    pub only : AllByRecursion OfRecovery w.letters
    pub past : w.past ≡ deeds

  -- each of these sites asks
  abbrev pub all_inquire : List L.Site → World L → World L
  all_inquire [] w = w
  all_inquire (a ∷ sites) w = all_inquire sites (inquires w a)

-- a database that comes up: once each site has asked, it recovers; whatever becomes of its letters for a reason, it goes on so; and where no letter waits all is quiet, and nothing has happened meanwhile
pub record RecoveryLaw (L : Lang) : Type 0 where
  pub asked : (w : World L) → AtRest w → Recovering w.past (all_inquire L.sites w)
  pub come : (deeds : List (Deed L)) (comings : List (Coming L)) (w : World L) → Within w → AllFounded comings w → Recovering deeds w → Recovering deeds (all_come comings w)
  pub quiet : (deeds : List (Deed L)) (w : World L) → Recovering deeds w → w.letters ≡ [] → IsQuiet w × (w.past ≡ deeds)
