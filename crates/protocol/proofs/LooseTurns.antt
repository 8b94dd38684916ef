-- Turns of a statement after which its transaction may still be given up: operations go to own tickets alone.
use Rattle.std.proofs.Common.{◌≡◌, refl, sym, ap, ◌∙◌, subst, ℕ, suc, ◌||◌, not, Bool, true, false, List, [], ◌∷◌, ◌++◌, map, if◌then◌else◌, Option, Some, None, is_some, inl, inr, ⊎_elim, append_assoc}
use Rattle.std.specs.List.{list_all}
use Rattle.protocol.specs.Language.{Lang, IsLawful, Name, same, put}
use Rattle.protocol.specs.Letter.{Body, Open, Fetch, Write, Prepare, Commit, Abort, Ticket, Rows, Refused, Voted, Ack, Inquire, Letter}
use Rattle.protocol.specs.Desk.{Ask, Choice, Stage, Idle, Reading, Writing, Voting, Undecided, Known, Deed, Transition, stays, is_undecided, ask_out, asks_out, write_out, writes_out, is_new, opening, opens, visits, asks_go, writing, writes_go, after_letters, works, ticket_goes, awaits, with_rows, on_rows}
use Rattle.protocol.specs.World.{World, turned}
use Rattle.protocol.specs.Parts.{is_voting}
use Rattle.protocol.specs.VisitPlaces.{at}
use Rattle.protocol.specs.StatementCourse.{AtSites}
use Rattle.protocol.specs.AfterAbort.{Closed, LeavingAt, Own, Fruitless, Since, AreVisited, leaves_of, Loose}
use Rattle.protocol.proofs.Basics.{Every, In, every_append, every_more, every_self, either, either_if, put_all, put_here, same_law, same_refl, clash, or_left, or_cases, right_true, found, not_false}
use Rattle.protocol.proofs.Turns.{every_letter}
use Rattle.protocol.proofs.Going.{opening_is, first_written}
use Rattle.protocol.proofs.Ranks.{all_visited, in_map}
use Rattle.protocol.proofs.Queue.{at_append}
use Rattle.protocol.proofs.AfterAbort.{closed_append, left}
use Rattle.protocol.proofs.Loose.{leaving_to}

-- what is said of each leaf
at_leaves : (L : Lang) {A : Type 0} (leaf : A → L.Leaf) (visited : L.Site → Bool) (xs : List A) → Every (λ x. visited (L.home (leaf x)) ≡ true) xs → (g : L.Leaf) → In g (map leaf xs) → visited (L.home g) ≡ true
at_leaves L leaf visited [] all g here = absurd here
at_leaves L leaf visited (x ∷ xs) all g (inl e) = subst (λ h. visited (L.home h) ≡ true) (sym e) all.0
at_leaves L leaf visited (x ∷ xs) all g (inr below) = at_leaves L leaf visited xs all.1 g below

module _ {L : Lang} where
  -- an operation goes to an own ticket
  abbrev pub OwnLetter : Undecided L → Letter L → Type 0
  OwnLetter v l = Closed (Own v l.site) (l.body ∷ [])

  pub own_closed : (v : Undecided L) (a : L.Site) (letters : List (Letter L)) → IsLawful L → Every (OwnLetter v) letters → Closed (Own v a) (at a letters)
  own_closed v a [] law all = tt
  own_closed v a (l ∷ letters) law all = either_if (Closed (Own v a)) (L.same_site a l.site) (l.body ∷ at a letters) (at a letters)
      (λ is. closed_append (Own v a) (l.body ∷ []) (at a letters) (subst (λ b. Closed (Own v b) (l.body ∷ [])) (sym ((law.sites a l.site).0 is)) all.0) (own_closed v a letters law all.1))
      (λ other. own_closed v a letters law all.1)

  -- stage and counts say nothing of tickets
  own_still : (v : Undecided L) (counts : L.Site → ℕ) (stage : Stage L) (l : Letter L) → OwnLetter v l → OwnLetter (record v { sent = counts; stage = stage }) l
  own_still v counts stage l own = closed_still l.body own
    where
      closed_still : (c : Body L) → Closed (Own v l.site) (c ∷ []) → Closed (Own (record v { sent = counts; stage = stage }) l.site) (c ∷ [])
      closed_still (Fetch k op g q) own = own
      closed_still (Write k op g x) own = own
      closed_still (Prepare k n) own = own
      closed_still Open own = tt
      closed_still (Commit k) own = tt
      closed_still (Abort k) own = tt
      closed_still (Ticket k) own = tt
      closed_still (Rows k n rows) own = tt
      closed_still (Refused k reason) own = tt
      closed_still (Voted k x) own = tt
      closed_still (Ack k) own = tt
      closed_still (Inquire k) own = tt

  -- a turn after which the transaction may still be given up
  pub record LooseTurn (t : Name) (u : Undecided L) (turn : Transition L) : Type 0 where
    pub new : Undecided L
    pub is : turn.txn ≡ Known new
    pub calm : is_voting new.stage ≡ false
    pub seen : AreVisited new (leaves_of new.stage)
    pub own : Every (λ l. l.txn ≡ t) turn.letters
    pub among : ((a : L.Site) → u.visited a ≡ true → In a L.sites) → (a : L.Site) → new.visited a ≡ true → In a L.sites
    pub visited : (a : L.Site) → u.visited a ≡ true → new.visited a ≡ true
    pub ticket : (a : L.Site) (k : Name) → u.ticket a ≡ Some k → new.ticket a ≡ Some k
    pub sends : Every (OwnLetter new) turn.letters
    pub deeds : Every (Fruitless t) turn.deeds

  pub since_more : (t : Name) (before past deeds : List (Deed L)) → Since t before past → Every (Fruitless t) deeds → Since t before (past ++ deeds)
  since_more t before past deeds since fruitless = record {
    more = since.more ++ deeds;
    is = ap (λ x. x ++ deeds) since.is ∙ append_assoc before since.more deeds;
    fruitless = every_append (Fruitless t) since.more deeds since.fruitless fruitless;
  }

  abbrev pub loose_turned : IsLawful L → (t : Name) (before : List (Deed L)) (w : World L) (turn : Transition L) (loose : Loose t before w) (to : LooseTurn t loose.u turn) → Loose t before (turned w t turn)
  loose_turned law t before w turn loose to = record {
    u = to.new;
    known = put_here same same_law t turn.txn w.desk.txn ∙ to.is;
    calm = to.calm;
    seen = to.seen;
    alone = every_append (λ l. l.txn ≡ t) w.letters turn.letters loose.alone to.own;
    others = put_all same same_law t turn.txn w.desk.txn (λ j x. same j t ≡ false → is_undecided x ≡ false) (λ other. clash (same_refl t) other) (λ j away other. loose.others j other);
    among = to.among loose.among;
    leaving = λ a. subst (LeavingAt (Own to.new a) (w.sites a).status) (sym (at_append a w.letters turn.letters))
        (leaving_to (Own loose.u a) (Own to.new a) (at a turn.letters) (λ k own. inl (to.visited a own.0, to.ticket a k own.1)) (w.sites a).status (at a w.letters) (own_closed to.new a turn.letters law to.sends) (loose.leaving a));
    since = since_more t before w.past turn.deeds loose.since to.deeds;
  }

  pub loose_stays : (t : Name) (u : Undecided L) → is_voting u.stage ≡ false → AreVisited u (leaves_of u.stage) → LooseTurn t u (stays (Known u))
  loose_stays t u calm seen = record { new = u; is = refl; calm = calm; seen = seen; own = tt; among = λ old. old; visited = λ a is. is; ticket = λ a k is. is; sends = tt; deeds = tt }

  -- ---- operations go to own tickets
  asks_seen : (P : Letter L → Type 0) (V : L.Leaf → Type 0) (t : Name) (ticket : L.Site → Option Name) → ((g : L.Leaf) (q : L.Query) (k : Name) (n : ℕ) → V g → ticket (L.home g) ≡ Some k → P (record { site = L.home g; txn = t; body = Fetch k n g q })) →
      (asks : List (Ask L)) (counts : L.Site → ℕ) → Every (λ q. V q.leaf) asks → Every P (asks_out t ticket asks counts).letters × Every (λ q. V q.leaf) (asks_out t ticket asks counts).left
  asks_seen P V t ticket each [] counts all = (tt, tt)
  asks_seen P V t ticket each (q ∷ qs) counts all = go q.number (ticket (L.home q.leaf)) refl (λ counts. asks_seen P V t ticket each qs counts all.1)
    where
      go : (m : Option ℕ) (k : Option Name) → ticket (L.home q.leaf) ≡ k → ((counts : L.Site → ℕ) → Every P (asks_out t ticket qs counts).letters × Every (λ q. V q.leaf) (asks_out t ticket qs counts).left) → Every P (ask_out t q m k counts (asks_out t ticket qs)).letters × Every (λ q. V q.leaf) (ask_out t q m k counts (asks_out t ticket qs)).left
      go None None e rest = let r = rest counts in (r.0, (all.0, r.1))
      go None (Some k) e rest = let r = rest (put L.same_site (L.home q.leaf) (suc (counts (L.home q.leaf))) counts) in ((each q.leaf q.query k (suc (counts (L.home q.leaf))) all.0 e, r.0), (all.0, r.1))
      go (Some n) None e rest = let r = rest counts in (r.0, (all.0, r.1))
      go (Some n) (Some k) e rest = let r = rest counts in (r.0, (all.0, r.1))

  writes_seen : (P : Letter L → Type 0) (V : L.Leaf → Type 0) (t : Name) (ticket : L.Site → Option Name) → ((g : L.Leaf) (x : L.Write) (k : Name) (n : ℕ) → V g → ticket (L.home g) ≡ Some k → P (record { site = L.home g; txn = t; body = Write k n g x })) →
      (ws : List (L.Leaf × L.Write)) (counts : L.Site → ℕ) → Every (λ x. V x.0) ws → Every P (writes_out {L = L} t ticket ws counts).letters × Every (λ x. V x.0) (writes_out {L = L} t ticket ws counts).left
  writes_seen P V t ticket each [] counts all = (tt, tt)
  writes_seen P V t ticket each (x ∷ ws) counts all = go (ticket (L.home x.0)) refl (λ counts. writes_seen P V t ticket each ws counts all.1)
    where
      go : (k : Option Name) → ticket (L.home x.0) ≡ k → ((counts : L.Site → ℕ) → Every P (writes_out {L = L} t ticket ws counts).letters × Every (λ x. V x.0) (writes_out {L = L} t ticket ws counts).left) → Every P (write_out {L = L} t x k counts (writes_out t ticket ws)).letters × Every (λ x. V x.0) (write_out {L = L} t x k counts (writes_out t ticket ws)).left
      go None e rest = let r = rest counts in (r.0, (all.0, r.1))
      go (Some k) e rest = let r = rest (put L.same_site (L.home x.0) (suc (counts (L.home x.0))) counts) in ((each x.0 x.1 k (suc (counts (L.home x.0))) all.0 e, r.0), r.1)

  module _ (law : IsLawful L) (t : Name) (u : Undecided L) where
    -- new sites are those of leaves
    new_among : (leaves : List L.Leaf) → AtSites L leaves → ((a : L.Site) → u.visited a ≡ true → In a L.sites) → (a : L.Site) → (u.visited a || is_new u leaves a) ≡ true → In a L.sites
    new_among leaves homes old a is = ⊎_elim (old a) (λ new. (let g = found (λ g. L.same_site (L.home g) a) leaves (right_true (not (u.visited a)) _ new) in subst (λ b. In b L.sites) ((law.sites (L.home g.0) a).0 g.2) (homes g.0 g.1))) (or_cases (u.visited a) (is_new u leaves a) is)

    -- sites are visited, and letters that ask for nothing go first
    record First (visited : L.Site → Bool) (letters : List (Letter L)) : Type 0 where
      pub more : (a : L.Site) → u.visited a ≡ true → visited a ≡ true
      pub among : ((a : L.Site) → u.visited a ≡ true → In a L.sites) → (a : L.Site) → visited a ≡ true → In a L.sites
      pub letters_own : (v : Undecided L) → Every (λ l. OwnLetter v l × (l.txn ≡ t)) letters

    first_none : First u.visited []
    first_none = record { more = λ a is. is; among = λ old. old; letters_own = λ v. tt }

    first_opens : (leaves : List L.Leaf) → AtSites L leaves → First (visits u leaves).visited (opens t u leaves)
    first_opens leaves homes = record {
      more = λ a is. or_left (u.visited a) (is_new u leaves a) is;
      among = new_among leaves homes;
      letters_own = λ v. every_letter (λ l. OwnLetter v l × (l.txn ≡ t)) t (λ a. opening (is_new u leaves a)) L.sites (λ a b here e. (subst (λ c. Closed (Own v a) (c ∷ [])) (sym (opening_is (is_new u leaves a) b e).1) tt, refl));
    }

    -- each of them is at a visited site
    all_seen : {A : Type 0} (leaf : A → L.Leaf) (visited : L.Site → Bool) (xs : List A) → ((g : L.Leaf) → In g (map leaf xs) → visited (L.home g) ≡ true) → Every (λ x. visited (L.home (leaf x)) ≡ true) xs
    all_seen leaf visited xs seen = every_self (λ x. visited (L.home (leaf x)) ≡ true) xs (λ x here. seen (leaf x) (in_map leaf x xs here))

    asks_loose : (visited : L.Site → Bool) (letters : List (Letter L)) → First visited letters → (s : L.Statement) (asks : List (Ask L)) → ((g : L.Leaf) → In g (map (λ q. q.leaf) asks) → visited (L.home g) ≡ true) → LooseTurn t u (after_letters letters (asks_go t (record u { visited = visited }) s asks))
    asks_loose visited letters first s asks seen =
        let out = asks_out t u.ticket asks u.sent in
        let v : Undecided L = record u { visited = visited; sent = out.sent; stage = Reading s out.left } in
        let sent = asks_seen (λ l. OwnLetter v l × (l.txn ≡ t)) (λ g. visited (L.home g) ≡ true) t u.ticket (λ g q k n is e. ((inl (is, e), tt), refl)) asks u.sent (all_seen (λ (q : Ask L). q.leaf) visited asks seen) in
        let all = every_append (λ l. OwnLetter v l × (l.txn ≡ t)) letters out.letters (first.letters_own v) sent.0 in
        record {
          new = v;
          is = refl;
          calm = refl;
          seen = at_leaves L (λ (q : Ask L). q.leaf) visited out.left sent.1;
          own = every_more (λ l. OwnLetter v l × (l.txn ≡ t)) (λ l. l.txn ≡ t) (letters ++ out.letters) (λ l r. r.1) all;
          among = first.among;
          visited = first.more;
          ticket = λ a k is. is;
          sends = every_more (λ l. OwnLetter v l × (l.txn ≡ t)) (OwnLetter v) (letters ++ out.letters) (λ l r. r.0) all;
          deeds = tt;
        }

    written_loose : (visited : L.Site → Bool) → ((a : L.Site) → u.visited a ≡ true → visited a ≡ true) → (((a : L.Site) → u.visited a ≡ true → In a L.sites) → (a : L.Site) → visited a ≡ true → In a L.sites) → (answer : L.Answer) (counts : L.Site → ℕ) (left : List (L.Leaf × L.Write)) (letters : List (Letter L)) →
        ((g : L.Leaf) → In g (map (λ x. x.0) left) → visited (L.home g) ≡ true) → Every (λ l. OwnLetter (record u { visited = visited }) l × (l.txn ≡ t)) letters → LooseTurn t u (writing t (record u { visited = visited }) answer counts left letters)
    written_loose visited more among answer counts [] letters seen all = record {
      new = record u { visited = visited; sent = counts; stage = Idle };
      is = refl;
      calm = refl;
      seen = λ g here. absurd here;
      own = every_more (λ l. OwnLetter (record u { visited = visited }) l × (l.txn ≡ t)) (λ l. l.txn ≡ t) letters (λ l r. r.1) all;
      among = among;
      visited = more;
      ticket = λ a k is. is;
      sends = every_more (λ l. OwnLetter (record u { visited = visited }) l × (l.txn ≡ t)) (OwnLetter (record u { visited = visited; sent = counts; stage = Idle })) letters (λ l r. own_still (record u { visited = visited }) counts Idle l r.0) all;
      deeds = (refl, tt);
    }
    written_loose visited more among answer counts (x ∷ left) letters seen all = record {
      new = record u { visited = visited; sent = counts; stage = Writing answer (x ∷ left) };
      is = refl;
      calm = refl;
      seen = seen;
      own = every_more (λ l. OwnLetter (record u { visited = visited }) l × (l.txn ≡ t)) (λ l. l.txn ≡ t) letters (λ l r. r.1) all;
      among = among;
      visited = more;
      ticket = λ a k is. is;
      sends = every_more (λ l. OwnLetter (record u { visited = visited }) l × (l.txn ≡ t)) (OwnLetter (record u { visited = visited; sent = counts; stage = Writing answer (x ∷ left) })) letters (λ l r. own_still (record u { visited = visited }) counts (Writing answer (x ∷ left)) l r.0) all;
      deeds = tt;
    }

    writes_loose : (visited : L.Site → Bool) (letters : List (Letter L)) → First visited letters → (answer : L.Answer) (ws : List (L.Leaf × L.Write)) → ((g : L.Leaf) → In g (map (λ x. x.0) ws) → visited (L.home g) ≡ true) → LooseTurn t u (after_letters letters (writes_go t (record u { visited = visited }) answer ws))
    writes_loose visited letters first answer ws seen =
        let v : Undecided L = record u { visited = visited } in
        let out = writes_out {L = L} t u.ticket ws u.sent in
        let sent = writes_seen (λ l. OwnLetter v l × (l.txn ≡ t)) (λ g. visited (L.home g) ≡ true) t u.ticket (λ g x k n is e. ((inl (is, e), tt), refl)) ws u.sent (all_seen (λ (x : L.Leaf × L.Write). x.0) visited ws seen) in
        subst (LooseTurn t u) (sym (first_written t v answer letters out.sent out.left out.letters))
        (written_loose visited first.more first.among answer out.sent out.left (letters ++ out.letters) (at_leaves L (λ (x : L.Leaf × L.Write). x.0) visited out.left sent.1)
        (every_append (λ l. OwnLetter v l × (l.txn ≡ t)) letters out.letters (first.letters_own v) sent.0))

    works_loose : (s : L.Statement) (asks : List (Ask L)) (choice : Choice L) → AtSites L (map (λ x. x.0) choice.1) → LooseTurn t u (works t u s asks choice)
    works_loose s asks choice homes =
        let leaves = map (λ (x : L.Leaf × L.Write). x.0) choice.1 in
        let to = writes_loose (visits u leaves).visited (opens t u leaves) (first_opens leaves homes) choice.0 choice.1 (λ g here. not_false ((visits u leaves).visited (L.home g)) (all_visited law u leaves g here)) in
        record { new = to.new; is = to.is; calm = to.calm; seen = to.seen; own = to.own; among = to.among; visited = to.visited; ticket = to.ticket; sends = to.sends; deeds = (refl, to.deeds) }

    -- the statement goes on
    pub goes_loose : (choice : Choice L) (stage : Stage L) → is_voting u.stage ≡ false → AreVisited u (leaves_of u.stage) → AreVisited u (leaves_of stage) → LooseTurn t u (ticket_goes t u choice stage)
    goes_loose choice Idle calm now seen = loose_stays t u calm now
    goes_loose choice (Reading s asks) calm now seen = asks_loose u.visited [] first_none s asks seen
    goes_loose choice (Writing answer ws) calm now seen = writes_loose u.visited [] first_none answer ws seen
    goes_loose choice (Voting votes) calm now seen = loose_stays t u calm now

    rows_seen : (s : L.Statement) (a : L.Site) (n : ℕ) (rows : L.Rows) (asks : List (Ask L)) → AreVisited u (map (λ q. q.leaf) asks) → AreVisited u (map (λ q. q.leaf) (map (with_rows s a n rows) asks))
    rows_seen s a n rows [] homes g here = absurd here
    rows_seen s a n rows (q ∷ asks) homes g (inl e) = subst (λ h. u.visited (L.home h) ≡ true) (sym (e ∙ same_place (awaits s a n rows q))) (homes q.leaf (inl refl))
      where
        same_place : (b : Bool) → (if b then record q { rows = Some rows } else q).leaf ≡ q.leaf
        same_place true = refl
        same_place false = refl
    rows_seen s a n rows (q ∷ asks) homes g (inr below) = rows_seen s a n rows asks (λ h there. homes h (inr there)) g below

    pub rows_loose : (a : L.Site) (n : ℕ) (rows : L.Rows) (choice : Choice L) (stage : Stage L) → is_voting u.stage ≡ false → AreVisited u (leaves_of u.stage) → AreVisited u (leaves_of stage) → AtSites L (map (λ x. x.0) choice.1) → LooseTurn t u (on_rows t u a n rows choice stage)
    rows_loose a n rows choice Idle calm now homes written = loose_stays t u calm now
    rows_loose a n rows choice (Writing answer ws) calm now homes written = loose_stays t u calm now
    rows_loose a n rows choice (Voting votes) calm now homes written = loose_stays t u calm now
    rows_loose a n rows choice (Reading s asks) calm now homes written =
        let new = map (with_rows s a n rows) asks in
        either (LooseTurn t u) (list_all (λ (q : Ask L). is_some q.rows) new) (works t u s new choice) (stays (Known (record u { stage = Reading s new }))) (works_loose s new choice written)
        (record { new = record u { stage = Reading s new }; is = refl; calm = refl; seen = rows_seen s a n rows asks homes; own = tt; among = λ old. old; visited = λ b is. is; ticket = λ b k is. is; sends = tt; deeds = tt })
