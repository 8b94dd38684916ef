-- The ranks of letters: what a site or the coordinator answers ranks below what it was told.
use Rattle.std.proofs.Common.{◌≡◌, refl, sym, ap, ◌∙◌, subst, ℕ, suc, ◌≤◌, ◌==◌, not, ◌&&◌, ◌||◌, Bool, true, false, List, [], ◌∷◌, ◌++◌, map, Option, Some, None, inl, inr, arith}
use Rattle.protocol.specs.Language.{Lang, IsLawful, Name}
use Rattle.protocol.specs.Letter.{Body, Open, Fetch, Write, Prepare, Commit, Abort, Ticket, Rows, Refused, Voted, Ack, Inquire, Letter}
use Rattle.protocol.specs.Site.{SiteState, Status, Dead, Active, Prepared, Act, on_letter, on_fetch, on_write, on_prepare, on_commit, on_abort, others_exclusive, said}
use Rattle.protocol.specs.Desk.{Ask, Choice, Undecided, Txn, Deed, Transition, writes_out, is_new, opens, visits, asks_go, writing, writes_go, works, stays, when, to_abort, vote_at, may_hold, ends_by}
pub use Rattle.protocol.specs.Rounds.{is_stage_reading, is_reading, rank, rank_in}
use Rattle.protocol.proofs.Basics.{Every, every_append, In, either, any_in, some_is}
use Rattle.protocol.proofs.Turns.{every_letter}
use Rattle.protocol.proofs.Going.{asks_each, writes_each, opening_is, first_written}

pub in_map : {A B : Type 0} (f : A → B) (x : A) (xs : List A) → In x xs → In (f x) (map f xs)
in_map f x [] here = here
in_map f x (y ∷ xs) (inl e) = inl (ap f e)
in_map f x (y ∷ xs) (inr below) = inr (in_map f x xs below)

module _ {L : Lang} where
  -- a transaction that stops reading lowers its letters
  pub rank_less : (r s : Bool) (b : Body L) → (r ≡ true → s ≡ true) → rank r b ≤ rank s b
  rank_less true true b to = omega arith
  rank_less true false b to = let e : false ≡ true = to refl in cc
  rank_less false false b to = omega arith
  rank_less false true Open to = omega arith
  rank_less false true (Ticket k) to = omega arith
  rank_less false true (Fetch k n g q) to = omega arith
  rank_less false true (Rows k n rows) to = omega arith
  rank_less false true (Write k n g x) to = omega arith
  rank_less false true (Refused k reason) to = omega arith
  rank_less false true (Prepare k n) to = omega arith
  rank_less false true (Voted k vote) to = omega arith
  rank_less false true (Commit k) to = omega arith
  rank_less false true (Abort k) to = omega arith
  rank_less false true (Ack k) to = omega arith
  rank_less false true (Inquire k) to = omega arith

  pub rank_some : (r : Bool) (b : Body L) → 1 ≤ rank r b
  rank_some true Open = omega arith
  rank_some false Open = omega arith
  rank_some true (Ticket k) = omega arith
  rank_some false (Ticket k) = omega arith
  rank_some true (Fetch k n g q) = omega arith
  rank_some false (Fetch k n g q) = omega arith
  rank_some true (Rows k n rows) = omega arith
  rank_some false (Rows k n rows) = omega arith
  rank_some r (Write k n g x) = omega arith
  rank_some r (Refused k reason) = omega arith
  rank_some r (Prepare k n) = omega arith
  rank_some r (Voted k vote) = omega arith
  rank_some r (Commit k) = omega arith
  rank_some r (Abort k) = omega arith
  rank_some r (Ack k) = omega arith
  rank_some r (Inquire k) = omega arith

  pub rank_nine : (r : Bool) (b : Body L) → rank r b ≤ 9
  rank_nine true Open = omega arith
  rank_nine false Open = omega arith
  rank_nine true (Ticket k) = omega arith
  rank_nine false (Ticket k) = omega arith
  rank_nine true (Fetch k n g q) = omega arith
  rank_nine false (Fetch k n g q) = omega arith
  rank_nine true (Rows k n rows) = omega arith
  rank_nine false (Rows k n rows) = omega arith
  rank_nine r (Write k n g x) = omega arith
  rank_nine r (Refused k reason) = omega arith
  rank_nine r (Prepare k n) = omega arith
  rank_nine r (Voted k vote) = omega arith
  rank_nine r (Commit k) = omega arith
  rank_nine r (Abort k) = omega arith
  rank_nine r (Ack k) = omega arith
  rank_nine r (Inquire k) = omega arith

  -- what a site answers ranks lower than what it was told
  module _ (s : SiteState L) (t : Name) (r kept : Bool) where
    abbrev Lowers : Body L → Act L → Type 0
    Lowers b act = Every (λ c. suc (rank r c) ≤ rank r b) (said s act)

    opened_low : (r : Bool) (k : Name) → suc (rank {L = L} r (Ticket k)) ≤ rank {L = L} r Open
    opened_low true k = omega arith
    opened_low false k = omega arith

    refused_low : (r : Bool) (k : Name) (n : ℕ) (g : L.Leaf) (q : L.Query) → 3 ≤ rank {L = L} r (Fetch k n g q)
    refused_low true k n g q = omega arith
    refused_low false k n g q = omega arith

    rows_low : (r : Bool) (k : Name) (n : ℕ) (g : L.Leaf) (q : L.Query) (rows : L.Rows) → suc (rank {L = L} r (Rows k n rows)) ≤ rank {L = L} r (Fetch k n g q)
    rows_low true k n g q rows = omega arith
    rows_low false k n g q rows = omega arith

    fetch_lowers : (k : Name) (op : ℕ) (g : L.Leaf) (q : L.Query) (st : Status L) → Lowers (Fetch k op g q) (on_fetch s kept k op g q st)
    fetch_lowers k op g q Dead = (refused_low r k op g q, tt)
    fetch_lowers k op g q (Prepared u i) = tt
    fetch_lowers k op g q (Active v) =
        either (Lowers (Fetch k op g q)) (op == suc v.done) _ _
        (either (Lowers (Fetch k op g q)) (others_exclusive s k g) _ _ (refused_low r k op g q, tt) (either (Lowers (Fetch k op g q)) kept _ _ (rows_low r k op g q _, tt) tt)) tt

    write_lowers : (k : Name) (op : ℕ) (g : L.Leaf) (x : L.Write) (st : Status L) → Lowers (Write k op g x) (on_write k op g x st)
    write_lowers k op g x Dead = tt
    write_lowers k op g x (Prepared u i) = tt
    write_lowers k op g x (Active v) =
        either (Lowers (Write k op g x)) (op == suc v.done) _ _
        (either (Lowers (Write k op g x)) (v.foreign g) _ _ (omega arith, tt) (either (Lowers (Write k op g x)) (L.is_full g x v.changes) _ _ (omega arith, tt) tt)) tt

    prepare_lowers : (k : Name) (n : ℕ) (st : Status L) → Lowers (Prepare k n) (on_prepare kept t k n st)
    prepare_lowers k n Dead = (omega arith, tt)
    prepare_lowers k n (Prepared u i) = (omega arith, tt)
    prepare_lowers k n (Active v) =
        either (Lowers (Prepare k n)) (v.done == n) _ _
        (either (Lowers (Prepare k n)) (L.is_empty v.changes) _ _ (omega arith, tt) (either (Lowers (Prepare k n)) kept _ _ (omega arith, tt) (omega arith, tt))) (omega arith, tt)

    commit_lowers : (k : Name) (st : Status L) → Lowers (Commit k) (on_commit kept k st)
    commit_lowers k Dead = (omega arith, tt)
    commit_lowers k (Active v) = (omega arith, tt)
    commit_lowers k (Prepared u i) = either (Lowers (Commit k)) kept _ _ (omega arith, tt) tt

    abort_lowers : (k : Name) (st : Status L) → Lowers (Abort k) (on_abort kept k st)
    abort_lowers k Dead = tt
    abort_lowers k (Active v) = tt
    abort_lowers k (Prepared u i) = either (Lowers (Abort k)) kept _ _ tt tt

    pub site_lowers : (b : Body L) → Lowers b (on_letter s t kept b)
    site_lowers Open = (opened_low r _, tt)
    site_lowers (Fetch k op g q) = fetch_lowers k op g q (s.status k)
    site_lowers (Write k op g x) = write_lowers k op g x (s.status k)
    site_lowers (Prepare k n) = prepare_lowers k n (s.status k)
    site_lowers (Commit k) = commit_lowers k (s.status k)
    site_lowers (Abort k) = abort_lowers k (s.status k)
    site_lowers (Ticket k) = tt
    site_lowers (Rows k n rows) = tt
    site_lowers (Refused k reason) = tt
    site_lowers (Voted k vote) = tt
    site_lowers (Ack k) = tt
    site_lowers (Inquire k) = tt

  -- a turn whose letters rank below n, and which begins no reading
  pub record Lower (t : Name) (r : Bool) (n : ℕ) (turn : Transition L) : Type 0 where
    pub falls : is_reading turn.txn ≡ true → r ≡ true
    pub under : Every (λ l. (l.txn ≡ t) × (suc (rank (is_reading turn.txn) l.body) ≤ n)) turn.letters

  pub stays_low : (t : Name) (r : Bool) (n : ℕ) (x : Txn L) → r ≡ is_reading x → Lower t r n (stays x)
  stays_low t r n x e = record { falls = λ is. e ∙ is; under = tt }

  abort_only : (b : Bool) (k : Option Name) (c : Body L) → when b (to_abort k) ≡ Some c → suc (rank false c) ≤ 2
  abort_only true None c e = cc
  abort_only true (Some k) c e = subst (λ x. suc (rank false x) ≤ 2) (some_is e) (omega arith)
  abort_only false k c e = cc

  pub ends_low : (t : Name) (r : Bool) (n : ℕ) (u : Undecided L) (d : Deed L) → 2 ≤ n → Lower t r n (ends_by t u d)
  ends_low t r n u d more = record {
    falls = λ is. cc;
    under = every_letter (λ l. (l.txn ≡ t) × (suc (rank false l.body) ≤ n)) t _ L.sites (λ a b here e. (refl, (let low = abort_only (u.visited a && may_hold (vote_at u.stage a)) (u.ticket a) b e in omega arith)));
  }

  module _ (law : IsLawful L) where
    visit_is : (a b : Bool) → b ≡ true → not (a || (not a && b)) ≡ false
    visit_is true b e = refl
    visit_is false b e = ap not e

    -- all leaves are visited from now on
    pub all_visited : (u : Undecided L) (leaves : List L.Leaf) (g : L.Leaf) → In g leaves → not ((visits u leaves).visited (L.home g)) ≡ false
    all_visited u leaves g here = visit_is (u.visited (L.home g)) _ (any_in (λ h. L.same_site (L.home h) (L.home g)) g leaves here ((law.sites (L.home g) (L.home g)).1 refl))

  -- fetches go out
  pub asks_low : (t : Name) (u : Undecided L) (s : L.Statement) (asks : List (Ask L)) → Lower t true 8 (asks_go t u s asks)
  asks_low t u s asks = record { falls = λ is. refl; under = asks_each (λ l. (l.txn ≡ t) × (suc (rank true l.body) ≤ 8)) t u.ticket (λ g q k n e. (refl, omega arith)) asks u.sent }

  -- the writes that go out, and those that wait
  pub writing_low : (t : Name) (r : Bool) (n : ℕ) (v : Undecided L) (answer : L.Answer) (sent : L.Site → ℕ) (left : List (L.Leaf × L.Write)) (letters : List (Letter L)) →
      Every (λ l. (l.txn ≡ t) × (suc (rank false l.body) ≤ n)) letters → Lower t r n (writing t v answer sent left letters)
  writing_low t r n v answer sent [] letters under = record { falls = λ is. cc; under = under }
  writing_low t r n v answer sent (x ∷ ws) letters under = record { falls = λ is. cc; under = under }

  pub writes_low : (t : Name) (r : Bool) (n : ℕ) (u : Undecided L) (answer : L.Answer) (ws : List (L.Leaf × L.Write)) → 4 ≤ n → Lower t r n (writes_go t u answer ws)
  writes_low t r n u answer ws more = writing_low t r n u answer _ _ _ (writes_each (λ l. (l.txn ≡ t) × (suc (rank false l.body) ≤ n)) t u.ticket (λ g x k m e. (refl, omega arith)) ws u.sent)

  -- Opens and the writes of a statement that was read
  pub works_low : (t : Name) (r : Bool) (n : ℕ) (u : Undecided L) (s : L.Statement) (asks : List (Ask L)) (choice : Choice L) → 6 ≤ n → Lower t r n (works t u s asks choice)
  works_low t r n u s asks choice more =
      let leaves = map (λ (x : L.Leaf × L.Write). x.0) choice.1 in
      let out = writes_out {L = L} t u.ticket choice.1 u.sent in
      let low = writing_low t r n (visits u leaves) choice.0 out.sent out.left (opens t u leaves ++ out.letters)
      (every_append (λ l. (l.txn ≡ t) × (suc (rank false l.body) ≤ n)) (opens t u leaves) out.letters
      (every_letter (λ l. (l.txn ≡ t) × (suc (rank false l.body) ≤ n)) t _ L.sites (λ a b here e. (refl, subst (λ c. suc (rank false c) ≤ n) (sym (opening_is (is_new u leaves a) b e).1) (omega arith))))
      (writes_each (λ l. (l.txn ≡ t) × (suc (rank false l.body) ≤ n)) t u.ticket (λ g x k m e. (refl, omega arith)) choice.1 u.sent)) in
      let same_ = subst (Lower t r n) (sym (first_written t (visits u leaves) choice.0 (opens t u leaves) out.sent out.left out.letters)) low in
      record { falls = same_.falls; under = same_.under }
