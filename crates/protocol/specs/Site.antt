-- The subordinate's machine: visits, locks on whole leaves, prepared rows, and the table of its letters.
use Rattle.std.specs.Prelude.{ℕ, suc, ◌==◌, ◌&&◌, ◌||◌, not, Bool, true, false, List, [], ◌∷◌, ◌++◌, length, if◌then◌else◌, ◌^◌, nat_lt, nat_le}
use Rattle.std.specs.List.{filter, list_any, list_all, flat_map}
use Rattle.protocol.specs.Language.{Lang, Name, same, put}
use Rattle.protocol.specs.Letter.{Yes, No, Read, Lock, Full, Gone, Body, Open, Fetch, Write, Prepare, Commit, Abort, Ticket, Rows, Refused, Voted, Ack, Inquire, Letter}

-- a visit that isn't prepared; a leaf is foreign to it where another had a lock at some moment since its Open
pub record Visit (L : Lang) : Type 0 where
  pub done : ℕ
  pub changes : L.Intentions
  pub shared : L.Leaf → Bool
  pub foreign : L.Leaf → Bool

-- what stands behind a ticket: nothing, a visit, or a prepared row
pub data Status (L : Lang) : Type 0 where
  Dead : Status L
  Active : (visit : Visit L) → Status L
  Prepared : (txn : Name) (changes : L.Intentions) → Status L

-- kept content and prepared rows are stored, visits and locks are not; known: the tickets that aren't dead, oldest first
pub record SiteState (L : Lang) : Type 0 where
  pub kept : L.Leaf → L.Content
  pub status : Name → Status L
  pub known : List Name
  pub life : ℕ
  pub number : ℕ

-- what a step does: only say something; draw a ticket; write a visit back that has locked a leaf; prepare, apply or end a visit
pub data Act (L : Lang) : Type 0 where
  Says : (replies : List (Body L)) → Act L
  Opens : Act L
  Locks : (ticket : Name) (visit : Visit L) (leaf : L.Leaf) (replies : List (Body L)) → Act L
  Prepares : (ticket txn : Name) (changes : L.Intentions) → Act L
  Applies : (ticket : Name) (changes : L.Intentions) → Act L
  Ends : (ticket : Name) (replies : List (Body L)) → Act L

module _ {L : Lang} where
  -- whether nothing stands behind the ticket
  abbrev pub is_dead : Status L → Bool
  is_dead Dead = true
  is_dead _ = false

  -- whether a visit does
  abbrev pub is_active : Status L → Bool
  is_active (Active v) = true
  is_active _ = false

  -- whether a prepared row does
  abbrev pub is_prepared : Status L → Bool
  is_prepared (Prepared t i) = true
  is_prepared _ = false

  -- an exclusive lock stands on each leaf of the intentions
  abbrev pub has_exclusive : L.Leaf → Status L → Bool
  has_exclusive g Dead = false
  has_exclusive g (Active v) = L.touches g v.changes
  has_exclusive g (Prepared t i) = L.touches g i

  -- a lock of either kind
  abbrev pub has_lock : L.Leaf → Status L → Bool
  has_lock g Dead = false
  has_lock g (Active v) = v.shared g || L.touches g v.changes
  has_lock g (Prepared t i) = L.touches g i

  -- whether a ticket but k has an exclusive lock on the leaf
  abbrev pub others_exclusive : SiteState L → Name → L.Leaf → Bool
  others_exclusive s k g = list_any (λ j. not (same j k) && has_exclusive g (s.status j)) s.known

  -- whether a ticket but k has any lock on the leaf
  abbrev pub others_lock : SiteState L → Name → L.Leaf → Bool
  others_lock s k g = list_any (λ j. not (same j k) && has_lock g (s.status j)) s.known

  -- the ticket that the next Open draws
  abbrev pub next_ticket : SiteState L → Name
  next_ticket s = record { life = s.life; number = suc s.number }

  -- a visit as it begins: leaves with standing locks are foreign to it
  abbrev pub new_visit : SiteState L → Visit L
  new_visit s = record { done = 0; changes = L.none; shared = λ g. false; foreign = others_lock s (next_ticket s) }

  -- a fetch does its work where it is the visit's next operation and no other has the leaf exclusively
  abbrev pub on_fetch : SiteState L → Bool → Name → ℕ → L.Leaf → L.Query → Status L → Act L
  on_fetch s kept k op g q Dead = Says (Refused k Gone ∷ [])
  on_fetch s kept k op g q (Prepared t i) = Says []
  on_fetch s kept k op g q (Active v) =
      if op == suc v.done
      then (if others_exclusive s k g
      then Ends k (Refused k Lock ∷ [])
      else (if kept
      then Locks k (record v { done = op; shared = put L.same_leaf g true v.shared }) g (Rows k op (L.parts q (L.changed g v.changes (s.kept g))) ∷ [])
      else Says []))
      else Says []

  -- a write becomes an intention where it is the visit's next operation and the leaf isn't foreign to it
  abbrev pub on_write : Name → ℕ → L.Leaf → L.Write → Status L → Act L
  on_write k op g x Dead = Says []
  on_write k op g x (Prepared t i) = Says []
  on_write k op g x (Active v) =
      if op == suc v.done
      then (if v.foreign g
      then Ends k (Refused k Lock ∷ [])
      else (if L.is_full g x v.changes
      then Ends k (Refused k Full ∷ [])
      else Locks k (record v { done = op; changes = L.add g x v.changes }) g []))
      else Says []

  -- a visit that has done as many operations as were sent is prepared, or was only read
  abbrev pub on_prepare : Bool → Name → Name → ℕ → Status L → Act L
  on_prepare kept t k count Dead = Says (Voted k No ∷ [])
  on_prepare kept t k count (Prepared u i) = Says (Voted k Yes ∷ [])
  on_prepare kept t k count (Active v) =
      if v.done == count
      then (if L.is_empty v.changes
      then Ends k (Voted k Read ∷ [])
      else (if kept then Prepares k t v.changes else Ends k (Voted k No ∷ [])))
      else Ends k (Voted k No ∷ [])

  -- a prepared row is applied, anything else has been
  abbrev pub on_commit : Bool → Name → Status L → Act L
  on_commit kept k Dead = Says (Ack k ∷ [])
  on_commit kept k (Active v) = Says (Ack k ∷ [])
  on_commit kept k (Prepared t i) = if kept then Applies k i else Says []

  -- a visit ends, a prepared row is let go
  abbrev pub on_abort : Bool → Name → Status L → Act L
  on_abort kept k Dead = Says []
  on_abort kept k (Active v) = Ends k []
  on_abort kept k (Prepared t i) = if kept then Ends k [] else Says []

  -- the table: what a letter about the transaction does; kept: whether the step's store call, if it has one, was kept
  abbrev pub on_letter : SiteState L → Name → Bool → Body L → Act L
  on_letter s t kept Open = Opens
  on_letter s t kept (Fetch k op g q) = on_fetch s kept k op g q (s.status k)
  on_letter s t kept (Write k op g x) = on_write k op g x (s.status k)
  on_letter s t kept (Prepare k count) = on_prepare kept t k count (s.status k)
  on_letter s t kept (Commit k) = on_commit kept k (s.status k)
  on_letter s t kept (Abort k) = on_abort kept k (s.status k)
  on_letter s t kept _ = Says []

  -- a leaf that another has locked is foreign to a visit
  abbrev pub sees : L.Leaf → Status L → Status L
  sees g Dead = Dead
  sees g (Active v) = Active (record v { foreign = put L.same_leaf g true v.foreign })
  sees g (Prepared t i) = Prepared t i

  -- other statuses; known are those of these names that aren't dead
  abbrev pub with_status : SiteState L → (Name → Status L) → List Name → SiteState L
  with_status s status names = record s { status = status; known = filter (λ j. not (is_dead (status j))) names }

  -- the state after a step
  abbrev pub site_after : SiteState L → Act L → SiteState L
  site_after s (Says replies) = s
  site_after s Opens = record (with_status s (put same (next_ticket s) (Active (new_visit s)) s.status) (s.known ++ next_ticket s ∷ [])) { number = suc s.number }
  site_after s (Locks k v g replies) = with_status s (put same k (Active v) (λ j. sees g (s.status j))) s.known
  site_after s (Prepares k t i) = with_status s (put same k (Prepared t i) s.status) s.known
  site_after s (Applies k i) = record (with_status s (put same k Dead s.status) s.known) { kept = λ g. L.changed g i (s.kept g) }
  site_after s (Ends k replies) = with_status s (put same k Dead s.status) s.known

  -- what the site answers
  abbrev pub said : SiteState L → Act L → List (Body L)
  said s (Says replies) = replies
  said s Opens = Ticket (next_ticket s) ∷ []
  said s (Locks k v g replies) = replies
  said s (Prepares k t i) = Voted k Yes ∷ []
  said s (Applies k i) = Ack k ∷ []
  said s (Ends k replies) = replies

  -- a visit can be given up, a prepared row can't
  abbrev pub on_give_up : Name → Status L → Act L
  on_give_up k Dead = Says []
  on_give_up k (Active v) = Ends k []
  on_give_up k (Prepared t i) = Says []

  -- an inquiry for each prepared row, by ticket
  abbrev pub inquiry_of : L.Site → Name → Status L → List (Letter L)
  inquiry_of a k Dead = []
  inquiry_of a k (Active v) = []
  inquiry_of a k (Prepared t i) = record { site = a; txn = t; body = Inquire k } ∷ []

  -- the inquiries of all prepared rows
  abbrev pub inquiries : L.Site → SiteState L → List (Letter L)
  inquiries a s = flat_map (λ k. inquiry_of a k (s.status k)) s.known

  -- a restart loses the visits and keeps the prepared rows, whose locks are so taken again
  abbrev pub restarted : Status L → Status L
  restarted Dead = Dead
  restarted (Active v) = Dead
  restarted (Prepared t i) = Prepared t i

  -- a new life, in which tickets are numbered from 1 again
  abbrev pub site_restarted : SiteState L → SiteState L
  site_restarted s = record (with_status s (λ k. restarted (s.status k)) s.known) { life = suc s.life; number = 0 }

  -- a visit's operations are below 2^63
  abbrev pub is_short : Status L → Bool
  is_short Dead = true
  is_short (Active v) = nat_lt v.done (2 ^ 63)
  is_short (Prepared t i) = true

  -- the limits of a site: 1,024 visits that aren't prepared, numbers below 2^63. A step that would lead past them is refused as Full
  abbrev pub is_within : SiteState L → Bool
  is_within s = nat_lt s.life (2 ^ 63) && nat_lt s.number (2 ^ 63) && list_all (λ k. is_short (s.status k)) s.known && nat_le (length (filter (λ k. is_active (s.status k)) s.known)) 1024
