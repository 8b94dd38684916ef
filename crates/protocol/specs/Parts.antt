-- Parts one to three of the invariant: viable transactions, what they keep others from, and the line of all whose first phase began.
use Rattle.std.specs.Prelude.{◌≡◌, ◌⊎◌, ⊤, ◌&&◌, Bool, true, false, List, [], ◌∷◌, drop, if◌then◌else◌, Some}
use Rattle.std.specs.List.{list_any, flat_map, AllByRecursion}
use Rattle.protocol.specs.Language.{Lang, Name, same, written}
use Rattle.protocol.specs.Letter.{Read, Body, Fetch, Write, Voted, Letter}
use Rattle.protocol.specs.Site.{Visit, Status, Active, Prepared, has_lock}
use Rattle.protocol.specs.Desk.{Ask, Choice, Stage, Idle, Voting, Undecided, Known, Deed, Worked}
use Rattle.protocol.specs.World.{World, Event, happens, run}
use Rattle.protocol.specs.Serial.{is_committed, phases_of, settled, IsOpening}

-- an element stands in a list
abbrev pub In : {A : Type 0} → A → List A → Type 0
In x [] = ⊥
In x (y ∷ ys) = (x ≡ y) ⊎ In x ys

-- an operation that a site is asked for
pub data Op (L : Lang) : Type 0 where
  Get : (leaf : L.Leaf) (query : L.Query) → Op L
  Set : (leaf : L.Leaf) (write : L.Write) → Op L

-- a statement that was evaluated, what came for it, what it answered and wrote
pub record Work (L : Lang) : Type 0 where
  pub statement : L.Statement
  pub asks : List (Ask L)
  pub choice : Choice L

module _ {L : Lang} where
  -- one operation, or none
  abbrev pub op_if : Bool → Op L → List (Op L)
  op_if true op = op ∷ []
  op_if false op = []

  -- the operation that a letter asks of this ticket
  abbrev pub op_of : L.Site → Name → L.Site → Body L → List (Op L)
  op_of a k b (Fetch j n g q) = op_if (L.same_site a b && same k j) (Get g q)
  op_of a k b (Write j n g x) = op_if (L.same_site a b && same k j) (Set g x)
  op_of a k b body = []

  -- the operations sent to a ticket, in order
  abbrev pub operations : List (Letter L) → L.Site → Name → List (Op L)
  operations letters a k = flat_map (λ l. op_of a k l.site l.body) letters

  -- the writes among operations
  abbrev pub sets : List (Op L) → List (L.Leaf × L.Write)
  sets [] = []
  sets (Get g q ∷ ops) = sets ops
  sets (Set g x ∷ ops) = (g, x) ∷ sets ops

  -- the work that a deed shows of this transaction
  abbrev pub work_in : Name → Deed L → List (Work L)
  work_in t (Worked u s asks choice) = if same u t then record { statement = s; asks = asks; choice = choice } ∷ [] else []
  work_in t deed = []

  -- the evaluated statements of a transaction
  abbrev pub works : List (Deed L) → Name → List (Work L)
  works past t = flat_map (work_in t) past

  -- all that they write
  abbrev pub own_of : List (Work L) → List (L.Leaf × L.Write)
  own_of xs = flat_map (λ x. x.choice.1) xs

  -- whether some statement read the leaf
  abbrev pub reads_from : L.Leaf → List (Work L) → Bool
  reads_from g xs = list_any (λ x. list_any (λ q. L.same_leaf q.leaf g) x.asks) xs

  -- whether the first phase has begun
  abbrev pub is_voting : Stage L → Bool
  is_voting (Voting votes) = true
  is_voting stage = false

-- whether some write is to the leaf
abbrev pub writes_to : (L : Lang) → L.Leaf → List (L.Leaf × L.Write) → Bool
writes_to L g ws = list_any (λ w. L.same_leaf w.0 g) ws

module _ {L : Lang} where
  -- a ticket is prepared, or lives and no write sent to it that it hasn't done meets a leaf foreign to it
  pub data ViableNow (ops : List (Op L)) (st : Status L) : Type 0 where
    is_row : (t : Name) (i : L.Intentions) → st ≡ Prepared t i → ViableNow ops st
    may_go_on : (v : Visit L) → st ≡ Active v → ((g : L.Leaf) → writes_to L g (sets (drop v.done ops)) ≡ true → v.foreign g ≡ false) → ViableNow ops st

  -- a transaction in its first phase is viable: each of its tickets is so, or has put out the vote Read
  pub record Viable (ops : L.Site → Name → List (Op L)) (w : World L) (t : Name) : Type 0 where
    pub u : Undecided L
    pub known : w.desk.txn t ≡ Known u
    pub voting : is_voting u.stage ≡ true
    pub each : (a : L.Site) (k : Name) → u.ticket a ≡ Some k → ViableNow (ops a k) ((w.sites a).status k) ⊎ In (record { site = a; txn = t; body = Voted k Read }) w.letters

  -- it counts: it is committed, or can still be
  abbrev pub Counts : (L.Site → Name → List (Op L)) → World L → Name → Type 0
  Counts ops w t = (is_committed w.past t ≡ true) ⊎ Viable ops w t

  -- what a viable transaction writes no later one reads that counts, and none writes that is committed. W: works; C: committed; V: counts; E: viable
  abbrev pub Apart : (Name → List (Work L)) → (Name → Bool) → (Name → Type 0) → (Name → Type 0) → Name → Name → Type 0
  Apart W C V E t u = E t → (g : L.Leaf) → writes_to L g (own_of (W t)) ≡ true → (V u → reads_from g (W u) ≡ false) × (C u ≡ true → writes_to L g (own_of (W u)) ≡ false)

  -- of each two transactions, in the order of their first phases
  abbrev pub Two : (Name → List (Work L)) → (Name → Bool) → (Name → Type 0) → (Name → Type 0) → List Name → Type 0
  Two W C V E [] = ⊤
  Two W C V E (t ∷ ts) = AllByRecursion (Apart W C V E t) ts × Two W C V E ts

  -- each read is of these contents with the transaction's own earlier writes
  abbrev pub RightFrom : (L.Leaf → L.Content) → List (Work L) → Type 0
  RightFrom c [] = ⊤
  RightFrom c (x ∷ xs) = AllByRecursion (λ q. q.rows ≡ Some (L.parts q.query (c q.leaf))) x.asks × RightFrom (λ g. written L g x.choice.1 (c g)) xs

  -- contents after a transaction, where it is committed
  abbrev pub after : Bool → List (Work L) → (L.Leaf → L.Content) → L.Leaf → L.Content
  after done xs c g = if done then written L g (own_of xs) (c g) else c g

  -- the line: each transaction that counts has read the contents after the committed ones before it, and the last contents are the settled ones
  abbrev pub Line : (Name → List (Work L)) → (Name → Bool) → (Name → Type 0) → (L.Leaf → L.Content) → (L.Leaf → L.Content) → List Name → Type 0
  Line W C V last c [] = (g : L.Leaf) → last g ≡ c g
  Line W C V last c (t ∷ ts) = (V t → RightFrom c (W t)) × Line W C V last (after (C t) (W t) c) ts

module _ {L : Lang} where
  -- between statements, and no site is visited: nothing stands in the way of its commit
  abbrev pub Untouched : Undecided L → Type 0
  Untouched u = (u.stage ≡ Idle) × (list_any u.visited L.sites ≡ false)

  -- who can be committed by the next event: a viable transaction, and one that has visited nobody
  abbrev pub MayCommit : World L → Name → Type 0
  MayCommit w t = Viable (operations w.letters) w t ⊎ ((u : Undecided L) × (w.desk.txn t ≡ Known u) × Untouched u)

-- parts one and two, in one world
pub record AreApart {L : Lang} (w : World L) : Type 0 where
  -- one that can no longer commit never can again, whatever happens next
  pub lost : (e : Event L) (t : Name) (u : Undecided L) → w.desk.txn t ≡ Known u → is_voting u.stage ≡ true → Viable (operations (happens w e).letters) (happens w e) t → Viable (operations w.letters) w t
  -- nobody else is committed by what happens next
  pub commits : (e : Event L) (t : Name) → is_committed (happens w e).past t ≡ true → (is_committed w.past t ≡ true) ⊎ MayCommit w t
  -- where a viable one writes nobody else has a lock
  pub alone : (t : Name) (viable : Viable (operations w.letters) w t) (a : L.Site) (k j : Name) (g : L.Leaf) → viable.u.ticket a ≡ Some k → writes_to L g (sets (operations w.letters a k)) ≡ true → same j k ≡ false → has_lock g ((w.sites a).status j) ≡ false
  pub two : Two (works w.past) (is_committed w.past) (Counts (operations w.letters) w) (Viable (operations w.letters) w) (phases_of w.past)

-- parts one and two, whatever happens after an opening
abbrev pub PartsOneAndTwo : (L : Lang) → Type 0
PartsOneAndTwo L = (whole : L.Whole) (w : World L) (events : List (Event L)) → IsOpening whole w → AreApart (run events w)

-- part three, whatever happens after an opening
abbrev pub PartThree : (L : Lang) → Type 0
PartThree L = (whole : L.Whole) (w : World L) (events : List (Event L)) → IsOpening whole w →
    let v = run events w in
    Line (works v.past) (is_committed v.past) (Counts (operations v.letters) v) (settled v) (λ g. L.content g whole) (phases_of v.past)
