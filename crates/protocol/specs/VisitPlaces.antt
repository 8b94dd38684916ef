-- What waits to and from a site while one client's transaction works, as a place where the site stands.
use Rattle.std.specs.Prelude.{◌≡◌, ⊤, ℕ, suc, ◌||◌, Bool, true, false, List, [], ◌∷◌, if◌then◌else◌, Option, Some, None}
use Rattle.protocol.specs.Language.{Lang, Name, same}
use Rattle.protocol.specs.Letter.{Body, Open, Fetch, Write, Ticket, Rows, Letter}
use Rattle.protocol.specs.Site.{Visit, Status, Dead, Active, Prepared}

module _ {L : Lang} where
  -- the bodies of the letters to and from a site, in their order
  abbrev pub at : L.Site → List (Letter L) → List (Body L)
  at a [] = []
  at a (l ∷ q) = if L.same_site a l.site then l.body ∷ at a q else at a q

  -- nobody has a lock by this status, and it isn't prepared
  abbrev pub Unlocked : Status L → Type 0
  Unlocked Dead = ⊤
  Unlocked (Active v) = (g : L.Leaf) → (v.shared g || L.touches g v.changes) ≡ false
  Unlocked (Prepared t i) = ⊥

  -- operations of ticket k with the numbers after d, up to n, in order; rows of it anywhere
  abbrev pub Flow : Name → ℕ → ℕ → List (Body L) → Type 0
  Flow k d n [] = d ≡ n
  Flow k d n (Fetch j m g q ∷ bs) = (j ≡ k) × (m ≡ suc d) × Flow k (suc d) n bs
  Flow k d n (Write j m g x ∷ bs) = (j ≡ k) × (m ≡ suc d) × Flow k (suc d) n bs
  Flow k d n (Rows j m rows ∷ bs) = (j ≡ k) × Flow k d n bs
  Flow k d n (b ∷ bs) = ⊥

  -- a site that isn't visited. f: its statuses, b: whether it is visited, tk and n: the coordinator's ticket and count, bs: what waits
  pub record Away (f : Name → Status L) (b : Bool) (tk : Option Name) (n : ℕ) (bs : List (Body L)) : Type 0 where
    pub unvisited : b ≡ false
    pub no_ticket : tk ≡ None
    pub nothing_sent : n ≡ 0
    pub silent : bs ≡ []
    pub free : (j : Name) → Unlocked (f j)

  -- its Open is on the way
  pub record Asked (f : Name → Status L) (b : Bool) (tk : Option Name) (n : ℕ) (bs : List (Body L)) : Type 0 where
    pub visited : b ≡ true
    pub no_ticket : tk ≡ None
    pub nothing_sent : n ≡ 0
    pub waits : bs ≡ Open ∷ []
    pub free : (j : Name) → Unlocked (f j)

  -- its visit waits for operations, and its ticket is on the way
  pub record Offered (k : Name) (f : Name → Status L) (b : Bool) (tk : Option Name) (n : ℕ) (bs : List (Body L)) : Type 0 where
    pub visited : b ≡ true
    pub no_ticket : tk ≡ None
    pub nothing_sent : n ≡ 0
    pub waits : bs ≡ Ticket k ∷ []
    pub visit : Visit L
    pub active : f k ≡ Active visit
    pub nothing_done : visit.done ≡ 0
    pub own : (g : L.Leaf) → visit.foreign g ≡ false
    pub free : (j : Name) → Unlocked (f j)

  -- its visit works: nobody else has a lock, and what was sent and isn't done is on the way
  pub record Works (k : Name) (f : Name → Status L) (b : Bool) (tk : Option Name) (n : ℕ) (bs : List (Body L)) : Type 0 where
    pub visited : b ≡ true
    pub ticket : tk ≡ Some k
    pub visit : Visit L
    pub active : f k ≡ Active visit
    pub own : (g : L.Leaf) → visit.foreign g ≡ false
    pub free : (j : Name) → same j k ≡ false → Unlocked (f j)
    pub flow : Flow k visit.done n bs

  -- where a site stands while a statement works
  pub data VisitPlace (f : Name → Status L) (b : Bool) (tk : Option Name) (n : ℕ) (bs : List (Body L)) : Type 0 where
    away : Away f b tk n bs → VisitPlace f b tk n bs
    asked : Asked f b tk n bs → VisitPlace f b tk n bs
    offered : (k : Name) → Offered k f b tk n bs → VisitPlace f b tk n bs
    works : (k : Name) → Works k f b tk n bs → VisitPlace f b tk n bs
