-- Further steps of the coordinator's book: a first ticket, operations that go out, rows that come.
use Rattle.std.proofs.Common.{◌≡◌, refl, sym, ap, ap₂, ◌∙◌, subst, ℕ, Bool, true, ◌&&◌, List, [], ◌∷◌, ◌++◌, map, length, ⊎_elim, Option, Some, None, is_none, append-nil}
use Rattle.std.proofs.lemmas.Bool.{eqb-true}
use Rattle.protocol.specs.Language.{Lang, IsLawful, Name, put}
use Rattle.protocol.specs.Letter.{Rows, Letter}
use Rattle.protocol.specs.Site.{SiteState}
use Rattle.protocol.specs.Desk.{Ask, Reading, Writing, Undecided, Deed, asks_out, writes_out, is_numbered, awaits, with_rows}
use Rattle.protocol.proofs.Basics.{Every, every_more, In, in_left, put_all, either_if, left_true, right_true, some_is}
use Rattle.protocol.proofs.Fits.{Drawn}
use Rattle.protocol.proofs.Ops.{Op, sets, on}
use Rattle.protocol.proofs.Works.{works, own_of}
use Rattle.protocol.proofs.Book.{Ext, sets_at, AskSent, CameBy, AskAt, AskCame, unsent_of, asks_of, Told, BookAt, came_more, reads_more}
use Rattle.protocol.proofs.Sending.{AsksSent, WritesSent, did_same}

module _ {L : Lang} (law : IsLawful L) (o : L.Site → Name → Name) (sites : L.Site → SiteState L) (t : Name) where
  -- a first ticket
  pub book_ticket : (ops : L.Site → Name → List (Op L)) (letters : List (Letter L)) (past : List (Deed L)) (u : Undecided L) (a : L.Site) (k : Name) → u.ticket a ≡ None → Drawn (sites a) k → o a k ≡ t → BookAt o ops sites letters past t u →
      BookAt o ops sites letters past t (record u { ticket = put L.same_site a (Some k) u.ticket })
  book_ticket ops letters past u a k free drawn owner book =
      let new = put L.same_site a (Some k) u.ticket in
      let none : ops a k ≡ [] = book.free a k drawn owner free in
      record {
        sent = λ b j. put_all L.same_site law.sites a (Some k) u.ticket (λ b m. m ≡ Some j → u.sent b ≡ length (ops b j)) (λ is. subst (λ n. u.sent a ≡ length (ops a n)) (some_is is) (book.unsent a free ∙ ap length (sym none))) (λ b other e. book.sent b j e) b;
        unsent = put_all L.same_site law.sites a (Some k) u.ticket (λ b m. m ≡ None → u.sent b ≡ 0) (λ is. cc) (λ b other e. book.unsent b e);
        free = λ b j drawn_ owner_. put_all L.same_site law.sites a (Some k) u.ticket (λ b m. Drawn (sites b) j → o b j ≡ t → m ≡ None → ops b j ≡ []) (λ d w is. cc) (λ b other d w e. book.free b j d w e) b drawn_ owner_;
        did = λ g. ap (λ l. on L g l ++ on L g (unsent_of u.stage))
            (put_all L.same_site law.sites a (Some k) u.ticket (λ b m. sets_at ops b m ≡ sets_at ops b (u.ticket b)) (ap sets none ∙ ap (sets_at ops a) (sym free)) (λ b other. refl) (L.home g)) ∙ book.did g;
        reads = reads_more (AskCame t u.ticket ops letters) (AskCame t new ops letters) (λ own q c. record { rows = c.rows; number = c.number; are = c.are; sent = sent_new own q c.number c.sent; came = by_new own q c.number c.rows c.sent c.came }) [] (works past t) book.reads;
        asks = every_more (AskAt t u.ticket ops letters (own_of (works past t))) (AskAt t new ops letters (own_of (works past t))) (asks_of u.stage)
            (λ q at. record { sent = λ n e. sent_new (own_of (works past t)) q n (at.sent n e); came = λ rows e. let c = at.came rows e in (c.0, c.1, by_new (own_of (works past t)) q c.0 rows (at.sent c.0 c.1) c.2) }) book.asks;
        told = book.told;
      }
    where
      sent_new : (own : List (L.Leaf × L.Write)) (q : Ask L) (n : ℕ) → AskSent u.ticket ops own q n → AskSent (put L.same_site a (Some k) u.ticket) ops own q n
      sent_new own q n s = record {
        name = s.name;
        nth = s.nth;
        before = s.before;
        is = put_all L.same_site law.sites a (Some k) u.ticket (λ b m. u.ticket b ≡ Some s.name → m ≡ Some s.name) (λ e. let f : None ≡ Some s.name = sym free ∙ e in cc) (λ b other e. e) (L.home q.leaf) s.is;
      }

      by_new : (own : List (L.Leaf × L.Write)) (q : Ask L) (n : ℕ) (rows : L.Rows) → AskSent u.ticket ops own q n → CameBy t u.ticket letters q n rows → CameBy t (put L.same_site a (Some k) u.ticket) letters q n rows
      by_new own q n rows s by j e = by j (put_all L.same_site law.sites a (Some k) u.ticket (λ b m. u.ticket b ≡ Some s.name → m ≡ Some j → u.ticket b ≡ Some j) (λ was is. let f : None ≡ Some s.name = sym free ∙ was in cc) (λ b other was is. is) (L.home q.leaf) s.is e)

  grown_free : (ticket : L.Site → Option Name) (ops new : L.Site → Name → List (Op L)) → Ext ticket ops new → (a : L.Site) (k : Name) → ticket a ≡ None → ops a k ≡ [] → new a k ≡ []
  grown_free ticket ops new ext a k none e =
      let x = ext a k in
      x.1 ∙ ⊎_elim (λ f. ap₂ (λ p q. p ++ q) e f) (λ own. absurd (let f : None ≡ Some k = sym none ∙ own in cc)) x.2

  pub reading_did : (ops : L.Site → Name → List (Op L)) (letters : List (Letter L)) (past : List (Deed L)) (u : Undecided L) (s : L.Statement) (asks : List (Ask L)) → u.stage ≡ Reading s asks → BookAt o ops sites letters past t u →
      (g : L.Leaf) → on L g (sets_at ops (L.home g) (u.ticket (L.home g))) ≡ on L g (own_of (works past t))
  reading_did ops letters past u s asks stage book g = sym (append-nil (on L g (sets_at ops (L.home g) (u.ticket (L.home g))))) ∙ ap (λ x. on L g (sets_at ops (L.home g) (u.ticket (L.home g))) ++ on L g (unsent_of x)) (sym stage) ∙ book.did g

  -- fetches go out
  pub book_asks : (ops : L.Site → Name → List (Op L)) (letters extra : List (Letter L)) (past : List (Deed L)) (u : Undecided L) (s : L.Statement) (asks : List (Ask L)) (visited : L.Site → Bool) → u.stage ≡ Reading s asks → BookAt o ops sites letters past t u →
      (r : AsksSent law t u.ticket letters (own_of (works past t)) ops u.sent (asks_out t u.ticket asks u.sent)) →
      BookAt o r.new sites (letters ++ extra) past t (record u { visited = visited; sent = (asks_out t u.ticket asks u.sent).sent; stage = Reading s (asks_out t u.ticket asks u.sent).left })
  book_asks ops letters extra past u s asks visited stage book r =
      let out = asks_out t u.ticket asks u.sent in
      record {
        sent = r.counted;
        unsent = λ a e. r.unsent a e ∙ book.unsent a e;
        free = λ a k drawn owner none. grown_free u.ticket ops r.new r.ext a k none (book.free a k drawn owner none);
        did = λ g. append-nil (on L g (sets_at r.new (L.home g) (u.ticket (L.home g)))) ∙ ap (on L g) (did_same law t u.ticket ops r.new r.sets_same (L.home g) (u.ticket (L.home g))) ∙ reading_did ops letters past u s asks stage book g;
        reads = reads_more (AskCame t u.ticket ops letters) (AskCame t u.ticket r.new (letters ++ extra)) (came_more t u.ticket u.ticket ops r.new r.ext letters extra) [] (works past t) book.reads;
        asks = every_more (AskAt t u.ticket r.new letters (own_of (works past t))) (AskAt t u.ticket r.new (letters ++ extra) (own_of (works past t))) out.left
            (λ q at. record { sent = at.sent; came = λ rows e. let c = at.came rows e in (c.0, c.1, λ k f. in_left _ letters extra (c.2 k f)) }) r.asks;
        told = told_reading past s asks out.left (subst (λ x. Told past t x) stage book.told);
      }
    where
      told_reading : (past : List (Deed L)) (s : L.Statement) (asks left : List (Ask L)) → Told past t (Reading s asks) → Told past t (Reading s left)
      told_reading past s asks left told = record { statements = told.statements; answers = told.answers }

  -- writes go out
  pub book_writes : (ops : L.Site → Name → List (Op L)) (letters extra : List (Letter L)) (past : List (Deed L)) (u : Undecided L) (answer : L.Answer) (ws : List (L.Leaf × L.Write)) (visited : L.Site → Bool) → u.stage ≡ Writing answer ws → BookAt o ops sites letters past t u →
      (r : WritesSent law t u.ticket ops u.sent ws (writes_out {L = L} t u.ticket ws u.sent)) →
      BookAt o r.new sites (letters ++ extra) past t (record u { visited = visited; sent = (writes_out {L = L} t u.ticket ws u.sent).sent; stage = Writing answer (writes_out {L = L} t u.ticket ws u.sent).left })
  book_writes ops letters extra past u answer ws visited stage book r =
      let out = writes_out {L = L} t u.ticket ws u.sent in
      record {
        sent = r.counted;
        unsent = λ a e. r.unsent a e ∙ book.unsent a e;
        free = λ a k drawn owner none. grown_free u.ticket ops r.new r.ext a k none (book.free a k drawn owner none);
        did = λ g. r.did g ∙ ap (λ x. on L g (sets_at ops (L.home g) (u.ticket (L.home g))) ++ on L g (unsent_of x)) (sym stage) ∙ book.did g;
        reads = reads_more (AskCame t u.ticket ops letters) (AskCame t u.ticket r.new (letters ++ extra)) (came_more t u.ticket u.ticket ops r.new r.ext letters extra) [] (works past t) book.reads;
        asks = tt;
        told = told_writing past answer ws out.left (subst (λ x. Told past t x) stage book.told);
      }
    where
      told_writing : (past : List (Deed L)) (answer : L.Answer) (ws left : List (L.Leaf × L.Write)) → Told past t (Writing answer ws) → Told past t (Writing answer left)
      told_writing past answer ws left told = record { statements = told.statements; answers = told.answers }

  -- rows come
  pub rows_came : (y : L.Statement) (ops : L.Site → Name → List (Op L)) (letters : List (Letter L)) (own : List (L.Leaf × L.Write)) (ticket : L.Site → Option Name) (a : L.Site) (k : Name) (n : ℕ) (rows : L.Rows) → ticket a ≡ Some k → In (record { site = a; txn = t; body = Rows k n rows }) letters →
      (asks : List (Ask L)) → Every (AskAt t ticket ops letters own) asks → Every (AskAt t ticket ops letters own) (map (with_rows y a n rows) asks)
  rows_came y ops letters own ticket a k n rows mine here [] all = tt
  rows_came y ops letters own ticket a k n rows mine here (q ∷ qs) all = (
    either_if (AskAt t ticket ops letters own) (awaits y a n rows q) (record q { rows = Some rows }) q
        (λ is. let both = left_true (L.same_site (L.home q.leaf) a && is_numbered q.number n) (is_none q.rows) (left_true (L.same_site (L.home q.leaf) a && is_numbered q.number n && is_none q.rows) (L.well_formed y q.leaf rows) is) in
        let one = left_true (L.same_site (L.home q.leaf) a) (is_numbered q.number n) both in
        let number = numbered q.number (right_true (L.same_site (L.home q.leaf) a) (is_numbered q.number n) both) in
        record {
          sent = λ m e. let s = all.0.sent m e in record { name = s.name; is = s.is; nth = s.nth; before = s.before };
          came = λ r e. (
            n,
            number,
            λ j f.
                let site : L.home q.leaf ≡ a = (law.sites (L.home q.leaf) a).0 one in
                let name : k ≡ j = some_is (sym mine ∙ ap ticket (sym site) ∙ f) in
                subst (λ b. In (record { site = b; txn = t; body = Rows j n r }) letters) (sym site) (subst (λ i. In (record { site = a; txn = t; body = Rows i n r }) letters) name (subst (λ y. In (record { site = a; txn = t; body = Rows k n y }) letters) (some_is e) here)),
          );
        })
        (λ other. all.0),
    rows_came y ops letters own ticket a k n rows mine here qs all.1,
  )
    where
      numbered : (m : Option ℕ) → is_numbered m n ≡ true → m ≡ Some n
      numbered None e = cc
      numbered (Some i) e = ap Some (eqb-true i n e)
