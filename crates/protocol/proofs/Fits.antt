-- What every letter ever sent, every prepared row and every transaction says of the world: the facts behind part four of the invariant.
use Rattle.std.proofs.Common.{◌≡◌, suc, ◌≤◌, true, false, List, ◌++◌, ◌⊎◌, Option, Some}
use Rattle.std.specs.Prelude.{⊤}
use Rattle.protocol.specs.Language.{Lang, Name, same}
use Rattle.protocol.specs.Letter.{Yes, No, Read, Vote, Body, Open, Fetch, Write, Prepare, Commit, Abort, Ticket, Rows, Refused, Voted, Ack, Inquire, Letter}
use Rattle.protocol.specs.Site.{Prepared, SiteState, is_dead, is_active, is_prepared}
use Rattle.protocol.specs.Desk.{Voting, Undecided, Known, Row, Deed, Desk}
use Rattle.protocol.specs.World.{World, is_site}
pub use Rattle.protocol.specs.Parts.{is_voting}
use Rattle.protocol.specs.Serial.{is_committed}
use Rattle.protocol.proofs.Basics.{Every, In, in_left}

module _ {L : Lang} where
  -- a ticket that its site has drawn, a name that the coordinator has given
  abbrev pub Drawn : SiteState L → Name → Type 0
  Drawn s k = (suc k.life ≤ s.life) ⊎ ((k.life ≡ s.life) × (k.number ≤ s.number))

  abbrev pub Born : Desk L → Name → Type 0
  Born d t = (suc t.life ≤ d.life) ⊎ ((t.life ≡ d.life) × (t.number ≤ d.number))

  -- while a transaction is undecided
  abbrev pub Und : Desk L → Name → (Undecided L → Type 0) → Type 0
  Und d t P = (u : Undecided L) → d.txn t ≡ Known u → P u

  abbrev pub Own : L.Site → Name → Undecided L → Type 0
  Own a k u = u.ticket a ≡ Some k

  abbrev pub Other : L.Site → Name → Undecided L → Type 0
  Other a k u = (j : Name) × (u.ticket a ≡ Some j) × (same j k ≡ false)

  abbrev pub OwnVoting : L.Site → Name → Undecided L → Type 0
  OwnVoting a k u = (u.ticket a ≡ Some k) × (is_voting u.stage ≡ true)

  abbrev pub IsCommitted : List (Deed L) → Name → Type 0
  IsCommitted past t = is_committed past t ≡ true

  -- what a vote that was put out says
  abbrev pub FitsVote : Desk L → SiteState L → Name → Name → Vote → Type 0
  FitsVote d s t k Yes = (is_active (s.status k) ≡ false) × Und d t (λ u. (i : L.Intentions) × (s.status k ≡ Prepared t i))
  FitsVote d s t k Read = (is_dead (s.status k) ≡ true) × Und d t (λ u. is_voting u.stage ≡ true)
  FitsVote d s t k No = ⊤

  -- what a letter to or from the site a, whose state is s, says of its ticket
  abbrev pub FitsBody : (L.Site → Name → Name) → Desk L → List (Deed L) → L.Site → SiteState L → Name → Body L → Type 0
  FitsBody o d past a s t Open = (is_site L a L.sites ≡ true) × Und d t (λ u. u.visited a ≡ true)
  FitsBody o d past a s t (Ticket k) = Drawn s k × (o a k ≡ t) × (is_site L a L.sites ≡ true) × Und d t (λ u. u.visited a ≡ true)
  FitsBody o d past a s t (Fetch k op g q) = Drawn s k × (o a k ≡ t) × Und d t (Own a k)
  FitsBody o d past a s t (Write k op g x) = Drawn s k × (o a k ≡ t) × Und d t (Own a k)
  FitsBody o d past a s t (Prepare k count) = Drawn s k × (o a k ≡ t) × Und d t (OwnVoting a k) × (IsCommitted past t → is_active (s.status k) ≡ false)
  FitsBody o d past a s t (Commit k) = Drawn s k × (o a k ≡ t) × IsCommitted past t × (is_active (s.status k) ≡ false)
  FitsBody o d past a s t (Abort k) = Drawn s k × (o a k ≡ t) × Und d t (Other a k) × (IsCommitted past t → is_prepared (s.status k) ≡ false)
  FitsBody o d past a s t (Rows k op rows) = ⊤
  FitsBody o d past a s t (Refused k reason) = ⊤
  FitsBody o d past a s t (Voted k vote) = Drawn s k × (o a k ≡ t) × FitsVote d s t k vote
  FitsBody o d past a s t (Ack k) = Drawn s k × (o a k ≡ t) × (is_dead (s.status k) ≡ true)
  FitsBody o d past a s t (Inquire k) = Drawn s k × (o a k ≡ t) × (is_active (s.status k) ≡ false)

  abbrev pub Fits : (L.Site → Name → Name) → Desk L → List (Deed L) → (L.Site → SiteState L) → Letter L → Type 0
  Fits o d past sites l = Born d l.txn × FitsBody o d past l.site (sites l.site) l.txn l.body

  -- a prepared row: its ticket is its transaction's own while that is undecided, and a voter of its commit row once it is committed
  pub record PreparedAt (o : L.Site → Name → Name) (d : Desk L) (past : List (Deed L)) (a : L.Site) (k t : Name) : Type 0 where
    pub owner : o a k ≡ t
    pub born : Born d t
    pub own : Und d t (OwnVoting a k)
    pub voter : IsCommitted past t → (vs : List (L.Site × Name)) × (acked : List (L.Site × Name)) × (d.txn t ≡ Row vs acked) × In (a, k) vs

  -- what a counted vote says of the ticket
  abbrev pub VoteAt : SiteState L → Name → Name → Vote → Type 0
  VoteAt s t k Yes = (i : L.Intentions) × (s.status k ≡ Prepared t i)
  VoteAt s t k Read = is_dead (s.status k) ≡ true
  VoteAt s t k No = ⊥

  -- an undecided transaction: its tickets, and the votes that it has counted
  pub record KnownAt (o : L.Site → Name → Name) (sites : L.Site → SiteState L) (letters : List (Letter L)) (t : Name) (u : Undecided L) : Type 0 where
    pub tickets : (a : L.Site) (k : Name) → Own a k u → Drawn (sites a) k × (o a k ≡ t) × (u.visited a ≡ true) × (is_site L a L.sites ≡ true)
    pub votes : (votes : L.Site → Option Vote) → u.stage ≡ Voting votes → (a : L.Site) (x : Vote) → votes a ≡ Some x → (k : Name) → Own a k u → VoteAt (sites a) t k x
    pub none : (votes : L.Site → Option Vote) → u.stage ≡ Voting votes → (a : L.Site) → votes a ≡ Some No → ⊥
    pub named : (votes : L.Site → Option Vote) → u.stage ≡ Voting votes → (a : L.Site) (x : Vote) → votes a ≡ Some x → (k : Name) × Own a k u
    pub reads : (votes : L.Site → Option Vote) → u.stage ≡ Voting votes → (a : L.Site) (k : Name) → votes a ≡ Some Read → Own a k u → In (record { site = a; txn = t; body = Voted k Read }) letters

  pub known_more : (o : L.Site → Name → Name) (sites : L.Site → SiteState L) (letters extra : List (Letter L)) (t : Name) (u : Undecided L) → KnownAt o sites letters t u → KnownAt o sites (letters ++ extra) t u
  known_more o sites letters extra t u known = record { tickets = known.tickets; votes = known.votes; none = known.none; named = known.named; reads = λ votes stage a k is own. in_left (record { site = a; txn = t; body = Voted k Read }) letters extra (known.reads votes stage a k is own) }

  abbrev pub Gone : (L.Site → SiteState L) → L.Site × Name → Type 0
  Gone sites v = Drawn (sites v.0) v.1 × (is_dead ((sites v.0).status v.1) ≡ true)

  -- a voter of a commit row
  abbrev pub Votes : (L.Site → Name → Name) → (L.Site → SiteState L) → Name → L.Site × Name → Type 0
  Votes o sites t v = Drawn (sites v.0) v.1 × (o v.0 v.1 ≡ t) × (is_active ((sites v.0).status v.1) ≡ false)

  pub record Fit (o : L.Site → Name → Name) (w : World L) : Type 0 where
    pub live : (a : L.Site) (k : Name) → is_dead ((w.sites a).status k) ≡ false → Drawn (w.sites a) k
    pub prepared : (a : L.Site) (k t : Name) (i : L.Intentions) → (w.sites a).status k ≡ Prepared t i → PreparedAt o w.desk w.past a k t
    pub born : (t : Name) (u : Undecided L) → w.desk.txn t ≡ Known u → Born w.desk t
    pub known : (t : Name) (u : Undecided L) → w.desk.txn t ≡ Known u → KnownAt o w.sites w.letters t u
    pub rows : (t : Name) (vs acked : List (L.Site × Name)) → w.desk.txn t ≡ Row vs acked → IsCommitted w.past t × Every (Gone w.sites) acked × Every (Votes o w.sites t) vs
    pub committed : (t : Name) → IsCommitted w.past t → Born w.desk t × Und w.desk t (λ u. ⊥)
    pub letters : Every (Fits o w.desk w.past w.sites) w.letters
