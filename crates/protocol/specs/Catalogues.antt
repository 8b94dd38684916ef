-- A list of catalogues over one set of leaves: a place is a site and a leaf there. A site's machine knows the leaf alone, so it stays as it is.
use Rattle.std.specs.Prelude.{◌≡◌, ◌↔◌, ℕ, suc, ◌&&◌, Bool, true, false, List, [], ◌∷◌, map, if◌then◌else◌}
use Rattle.protocol.specs.Language.{Lang, Name, put, written}
use Rattle.protocol.specs.Letter.{Body, Open, Fetch, Write, Prepare, Commit, Abort, Ticket, Rows, Refused, Voted, Ack, Inquire, Letter}
use Rattle.protocol.specs.Site.{Visit, Status, Dead, Active, Prepared, SiteState, Act, Says, Opens, Locks, Prepares, Applies, Ends}
use Rattle.protocol.specs.Desk.{Deed}
use Rattle.protocol.specs.World.{World, Event, run}
use Rattle.protocol.specs.Serial.{committed, statements_of, answers_of, settled, AllExplained, IsOpening}

-- the statements over a list of catalogues, by the number of one; M: what a site's machine knows of leaves
pub record Catalogues (M : Lang) : Type 1 where
  pub Statement : Type 0
  pub Answer : Type 0
  pub Whole : Type 0
  pub sites : List M.Site
  -- what a leaf has that no catalogue puts at the site
  pub nothing : M.Content
  pub well_formed : ℕ → M.Site × M.Leaf → M.Rows → Bool
  pub IsStatement : ℕ → Statement → Type 0
  pub IsWhole : Whole → Type 0
  -- whether it brings the next catalogue into force
  pub raises : Statement → Bool
  pub meaning : Statement → Whole → Answer × Whole
  pub content : ℕ → M.Site × M.Leaf → Whole → M.Content
  pub fetches : ℕ → Statement → List ((M.Site × M.Leaf) × M.Query)
  -- the writes that lead from the contents under one catalogue to those under another
  pub writes : ℕ → ℕ → Whole → Whole → List ((M.Site × M.Leaf) × M.Write)

module _ (M : Lang) where
  -- intentions of a visit: none, or those of each site
  pub data Intended_at : Type 0 where
    Nothing : Intended_at
    Some_at : (at : M.Site → M.Intentions) → Intended_at

  abbrev pub same_place : M.Site × M.Leaf → M.Site × M.Leaf → Bool
  same_place p q = M.same_site p.0 q.0 && M.same_leaf p.1 q.1

  abbrev pub only_at : M.Site → M.Intentions → M.Site → M.Intentions
  only_at a i = put M.same_site a i (λ b. M.none)

  abbrev pub add_at : M.Site × M.Leaf → M.Write → Intended_at → Intended_at
  add_at p x Nothing = Some_at (only_at p.0 (M.add p.1 x M.none))
  add_at p x (Some_at at) = Some_at (put M.same_site p.0 (M.add p.1 x (at p.0)) at)

  abbrev pub is_nothing : Intended_at → Bool
  is_nothing Nothing = true
  is_nothing (Some_at at) = false

  abbrev pub touches_at : M.Site × M.Leaf → Intended_at → Bool
  touches_at p Nothing = false
  touches_at p (Some_at at) = M.touches p.1 (at p.0)

  abbrev pub changed_at : M.Site × M.Leaf → Intended_at → M.Content → M.Content
  changed_at p Nothing content = content
  changed_at p (Some_at at) content = M.changed p.1 (at p.0) content

  abbrev pub is_full_at : M.Site × M.Leaf → M.Write → Intended_at → Bool
  is_full_at p x Nothing = M.is_full p.1 x M.none
  is_full_at p x (Some_at at) = M.is_full p.1 x (at p.0)

  -- what holds of leaves and intentions at a site, whatever is stated
  pub record IsLawfulSite : Type 0 where
    pub leaves : (a b : M.Leaf) → (M.same_leaf a b ≡ true) ↔ (a ≡ b)
    pub sites : (a b : M.Site) → (M.same_site a b ≡ true) ↔ (a ≡ b)
    pub changed_none : (g : M.Leaf) (content : M.Content) → M.changed g M.none content ≡ content
    pub changed_add : (g h : M.Leaf) (x : M.Write) (i : M.Intentions) (content : M.Content) → M.changed g (M.add h x i) content ≡ (if M.same_leaf h g then M.put_in x (M.changed g i content) else M.changed g i content)
    pub touches_none : (g : M.Leaf) → M.touches g M.none ≡ false
    pub touches_add : (g h : M.Leaf) (x : M.Write) (i : M.Intentions) → M.touches g (M.add h x i) ≡ (if M.same_leaf h g then true else M.touches g i)
    -- intentions that are empty are none
    pub only_none : (i : M.Intentions) → M.is_empty i ≡ true → i ≡ M.none
    pub none_empty : M.is_empty M.none ≡ true

  module _ (C : Catalogues M) where
    -- the catalogue in force after a statement
    abbrev pub then_in_force : ℕ → C.Statement → ℕ
    then_in_force n s = if C.raises s then suc n else n

    -- the language: a statement has the number of the catalogue that it was made for, a whole database that of the one in force
    abbrev pub listed : Lang
    listed = record {
      Leaf = M.Site × M.Leaf;
      Site = M.Site;
      Statement = ℕ × C.Statement;
      Answer = C.Answer;
      Whole = ℕ × C.Whole;
      Content = M.Content;
      Query = M.Query;
      Rows = M.Rows;
      Write = M.Write;
      Intentions = Intended_at;
      same_leaf = same_place;
      same_site = M.same_site;
      sites = C.sites;
      home = λ p. p.0;
      put_in = M.put_in;
      parts = M.parts;
      well_formed = λ s p rows. C.well_formed s.0 p rows;
      none = Nothing;
      add = add_at;
      is_empty = is_nothing;
      touches = touches_at;
      changed = changed_at;
      is_full = is_full_at;
      IsStatement = λ s. C.IsStatement s.0 s.1;
      IsWhole = λ w. C.IsWhole w.1;
      tag = λ s. s.0;
      version = λ w. w.0;
      raises = λ s. C.raises s.1;
      meaning = λ s w. ((C.meaning s.1 w.1).0, (then_in_force w.0 s.1, (C.meaning s.1 w.1).1));
      content = λ p w. C.content w.0 p w.1;
      fetches = λ s. C.fetches s.0 s.1;
      writes = λ before after. C.writes before.0 after.0 before.1 after.1;
    }

    -- what a letter to or from a site says
    abbrev pub body_at : M.Site → Body M → Body listed
    body_at a Open = Open
    body_at a (Fetch k op g q) = Fetch k op (a, g) q
    body_at a (Write k op g x) = Write k op (a, g) x
    body_at a (Prepare k count) = Prepare k count
    body_at a (Commit k) = Commit k
    body_at a (Abort k) = Abort k
    body_at a (Ticket k) = Ticket k
    body_at a (Rows k op rows) = Rows k op rows
    body_at a (Refused k reason) = Refused k reason
    body_at a (Voted k vote) = Voted k vote
    body_at a (Ack k) = Ack k
    body_at a (Inquire k) = Inquire k

    abbrev pub letter_at : Letter M → Letter listed
    letter_at l = record { site = l.site; txn = l.txn; body = body_at l.site l.body }

    -- a site's state
    abbrev pub intended_at : M.Site → M.Intentions → Intended_at
    intended_at a i = if M.is_empty i then Nothing else Some_at (only_at a i)

    abbrev pub visit_at : M.Site → Visit M → Visit listed
    visit_at a v = record { done = v.done; changes = intended_at a v.changes; shared = λ p. M.same_site p.0 a && v.shared p.1; foreign = λ p. M.same_site p.0 a && v.foreign p.1 }

    abbrev pub status_at : M.Site → Status M → Status listed
    status_at a Dead = Dead
    status_at a (Active v) = Active (visit_at a v)
    status_at a (Prepared t i) = Prepared t (intended_at a i)

    abbrev pub site_at : M.Site → SiteState M → SiteState listed
    site_at a s = record { kept = λ p. if M.same_site p.0 a then s.kept p.1 else C.nothing; status = λ k. status_at a (s.status k); known = s.known; life = s.life; number = s.number }

    -- what a step does
    abbrev pub act_at : M.Site → Act M → Act listed
    act_at a (Says replies) = Says (map (body_at a) replies)
    act_at a Opens = Opens
    act_at a (Locks k v g replies) = Locks k (visit_at a v) (a, g) (map (body_at a) replies)
    act_at a (Prepares k t i) = Prepares k t (intended_at a i)
    act_at a (Applies k i) = Applies k (intended_at a i)
    act_at a (Ends k replies) = Ends k (map (body_at a) replies)

    -- statements one after another over whole relations: no catalogue is among them
    abbrev pub whole_then : List C.Statement → C.Whole → C.Whole
    whole_then [] whole = whole
    whole_then (s ∷ ss) whole = whole_then ss (C.meaning s whole).1

    abbrev pub answers_then : List C.Statement → C.Whole → List C.Answer
    answers_then [] whole = []
    answers_then (s ∷ ss) whole = (C.meaning s whole).0 ∷ answers_then ss (C.meaning s whole).1

    abbrev pub serial_then : List (List C.Statement) → C.Whole → C.Whole
    serial_then [] whole = whole
    serial_then (ss ∷ rest) whole = serial_then rest (whole_then ss whole)

    abbrev pub serial_answers_then : List (List C.Statement) → C.Whole → List (List C.Answer)
    serial_answers_then [] whole = []
    serial_answers_then (ss ∷ rest) whole = answers_then ss whole ∷ serial_answers_then rest (whole_then ss whole)

    -- the statements that a transaction stated
    abbrev pub stated : List (Deed listed) → Name → List C.Statement
    stated past t = map (λ (s : ℕ × C.Statement). s.1) (statements_of past t)

    -- the committed transactions, run one after another over whole relations in the order of their first phases, give the answers that were given and, under the catalogue in force, what the settled fragments rebuild
    pub record IsSerialList (whole : C.Whole) (w : World listed) : Type 0 where
      pub answers : map (answers_of w.past) (committed w.past) ≡ serial_answers_then (map (stated w.past) (committed w.past)) whole
      pub rebuilt : (p : M.Site × M.Leaf) → settled w p ≡ C.content w.version p (serial_then (map (stated w.past) (committed w.past)) whole)

    -- the headline over the list: whatever happens after an opening under catalogue n
    abbrev pub ListLaw : Type 0
    ListLaw = (n : ℕ) (whole : C.Whole) (w : World listed) (events : List (Event listed)) → IsOpening (n, whole) w → AllExplained (run events w).past → IsSerialList whole (run events w)

    -- what holds of a lawful list: its sites' part, and that of its statements
    pub record IsLawfulList : Type 0 where
      pub site : IsLawfulSite
      -- a statement makes a whole database of a whole database, and its writes lead from the contents under the catalogue that it was made for to those under the one in force after it
      pub keeps_whole : (n : ℕ) (s : C.Statement) (whole : C.Whole) → C.IsStatement n s → C.IsWhole whole → C.IsWhole (C.meaning s whole).1
      pub writes_right : (n : ℕ) (s : C.Statement) (whole : C.Whole) (p : M.Site × M.Leaf) → C.IsStatement n s → C.IsWhole whole →
          written listed p (C.writes n (then_in_force n s) whole (C.meaning s whole).1) (C.content n p whole) ≡ C.content (then_in_force n s) p (C.meaning s whole).1
