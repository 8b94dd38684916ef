-- Single steps of the coordinator's book: a statement is accepted, its fetches go out, rows come, it is evaluated, its writes go out, it is answered.
use Rattle.std.proofs.Common.{◌≡◌, refl, sym, ap, ap₂, ◌∙◌, subst, true, List, [], ◌∷◌, ◌++◌, map, length, Option, Some, None, is_some, append-nil}
use Rattle.std.specs.List.{list_all}
use Rattle.std.proofs.lemmas.Grind.{flat_map-append}
use Rattle.std.proofs.lemmas.List.{map-append}
use Rattle.protocol.specs.Language.{Lang, Name}
use Rattle.protocol.specs.Letter.{Letter}
use Rattle.protocol.specs.Site.{SiteState}
use Rattle.protocol.specs.Desk.{Ask, Idle, Reading, Writing, Undecided, Deed, Stated, Worked, Answered, Choice, ask_of}
use Rattle.protocol.specs.Serial.{answers_of}
use Rattle.protocol.proofs.Basics.{Every, every_more, every_map, left_true, right_true}
use Rattle.protocol.proofs.Fits.{Drawn}
use Rattle.protocol.proofs.Ops.{Op, sets, on, on_append}
use Rattle.protocol.proofs.Works.{Work, works, own_of, SameView, stated_more, worked_more, answered_more}
use Rattle.protocol.proofs.Book.{Ext, sets_at, AskAt, AskCame, ReadsFrom, unsent_of, pending, owed, asks_of, Told, BookAt, ask_more, came_more, reads_more, reads_snoc}

module _ {L : Lang} (o : L.Site → Name → Name) (sites : L.Site → SiteState L) (t : Name) where
  -- nothing of the transaction happens: others' operations and letters don't matter
  pub book_same : (grow : L.Site → Option Name) (ops new : L.Site → Name → List (Op L)) (letters extra : List (Letter L)) (past later : List (Deed L)) (u : Undecided L) →
      Ext grow ops new → ((a : L.Site) (k : Name) → Drawn (sites a) k → o a k ≡ t → new a k ≡ ops a k) → ((a : L.Site) (k : Name) → u.ticket a ≡ Some k → Drawn (sites a) k × (o a k ≡ t)) →
      SameView past later t → BookAt o ops sites letters past t u → BookAt o new sites (letters ++ extra) later t u
  book_same grow ops new letters extra past later u ext keeps mine view book =
      let own = ap own_of view.works_same in
      record {
        sent = λ a k e. book.sent a k e ∙ ap length (sym (keeps a k (mine a k e).0 (mine a k e).1));
        unsent = book.unsent;
        free = λ a k drawn owner none. keeps a k drawn owner ∙ book.free a k drawn owner none;
        did = λ g. ap (λ l. on L g l ++ on L g (unsent_of u.stage)) (at (L.home g) (u.ticket (L.home g)) refl) ∙ book.did g ∙ ap (on L g) (sym own);
        reads = subst (ReadsFrom (AskCame t u.ticket new (letters ++ extra)) []) (sym view.works_same)
            (reads_more (AskCame t u.ticket ops letters) (AskCame t u.ticket new (letters ++ extra)) (came_more t u.ticket grow ops new ext letters extra) [] (works past t) book.reads);
        asks = subst (λ l. Every (AskAt t u.ticket new (letters ++ extra) l) (asks_of u.stage)) (sym own)
            (every_more (AskAt t u.ticket ops letters (own_of (works past t))) (AskAt t u.ticket new (letters ++ extra) (own_of (works past t))) (asks_of u.stage) (ask_more t u.ticket grow ops new ext letters extra (own_of (works past t))) book.asks);
        told = record {
          statements = view.statements_same ∙ book.told.statements ∙ ap (λ l. map (λ (x : Work L). x.statement) l ++ pending u.stage) (sym view.works_same);
          answers = ap (λ l. l ++ owed u.stage) view.answers_same ∙ book.told.answers ∙ ap (λ l. map (λ (x : Work L). x.choice.0) l) (sym view.works_same);
        };
      }
    where
      at : (a : L.Site) (m : Option Name) → u.ticket a ≡ m → sets_at new a m ≡ sets_at ops a m
      at a None e = refl
      at a (Some k) e = ap sets (keeps a k (mine a k e).0 (mine a k e).1)

  -- another stage with the same fields, in the same past
  pub book_stage : (ops : L.Site → Name → List (Op L)) (letters : List (Letter L)) (past : List (Deed L)) (u v : Undecided L) → v.ticket ≡ u.ticket → v.sent ≡ u.sent → unsent_of v.stage ≡ unsent_of u.stage →
      Every (AskAt t v.ticket ops letters (own_of (works past t))) (asks_of v.stage) → Told past t v.stage → BookAt o ops sites letters past t u → BookAt o ops sites letters past t v
  book_stage ops letters past u v ticket sent unsent asks told book = record {
    sent = λ a k e. ap (λ f. f a) sent ∙ book.sent a k (ap (λ f. f a) (sym ticket) ∙ e);
    unsent = λ a e. ap (λ f. f a) sent ∙ book.unsent a (ap (λ f. f a) (sym ticket) ∙ e);
    free = λ a k drawn owner e. book.free a k drawn owner (ap (λ f. f a) (sym ticket) ∙ e);
    did = λ g. ap₂ (λ m l. on L g (sets_at ops (L.home g) m) ++ on L g l) (ap (λ f. f (L.home g)) ticket) unsent ∙ book.did g;
    reads = subst (λ f. ReadsFrom (AskCame t f ops letters) [] (works past t)) (sym ticket) book.reads;
    asks = asks;
    told = told;
  }

  -- a statement is accepted
  pub book_stated : (ops : L.Site → Name → List (Op L)) (letters : List (Letter L)) (past : List (Deed L)) (u : Undecided L) (s : L.Statement) (fs : List (L.Leaf × L.Query)) → u.stage ≡ Idle → BookAt o ops sites letters past t u →
      BookAt o ops sites letters (past ++ Stated t s ∷ []) t (record u { stage = Reading s (map ask_of fs) })
  book_stated ops letters past u s fs idle book =
      let more = stated_more past t s in
      record {
        sent = book.sent;
        unsent = book.unsent;
        free = book.free;
        did = λ g. ap (λ x. on L g (sets_at ops (L.home g) (u.ticket (L.home g))) ++ on L g (unsent_of x)) (sym idle) ∙ book.did g ∙ ap (λ l. on L g (own_of l)) (sym more.0);
        reads = subst (ReadsFrom (AskCame t u.ticket ops letters) []) (sym more.0) book.reads;
        asks = every_map (AskAt t u.ticket ops letters (own_of (works (past ++ Stated t s ∷ []) t))) ask_of fs (λ f. record { sent = λ n e. cc; came = λ rows e. cc });
        told = record {
          statements = more.1 ∙ ap (λ l. l ++ s ∷ []) (book.told.statements ∙ ap (λ x. map (λ (x : Work L). x.statement) (works past t) ++ pending x) idle ∙ append-nil (map (λ (x : Work L). x.statement) (works past t))) ∙ ap (λ l. map (λ (x : Work L). x.statement) l ++ s ∷ []) (sym more.0);
          answers = ap (λ l. l ++ []) more.2 ∙ ap (λ x. answers_of past t ++ owed x) (sym idle) ∙ book.told.answers ∙ ap (λ l. map (λ (x : Work L). x.choice.0) l) (sym more.0);
        };
      }

  -- all its rows are in: it is evaluated
  pub book_worked : (ops : L.Site → Name → List (Op L)) (letters : List (Letter L)) (past : List (Deed L)) (u : Undecided L) (s : L.Statement) (asks : List (Ask L)) (choice : Choice L) → u.stage ≡ Reading s asks → list_all (λ q. is_some q.rows) asks ≡ true → BookAt o ops sites letters past t u →
      BookAt o ops sites letters (past ++ Worked t s asks choice ∷ []) t (record u { stage = Writing choice.0 choice.1 })
  book_worked ops letters past u s asks choice reading all book =
      let more = worked_more past t s asks choice in
      let x : Work L = record { statement = s; asks = asks; choice = choice } in
      record {
        sent = book.sent;
        unsent = book.unsent;
        free = book.free;
        did = λ g. ap (λ l. l ++ on L g choice.1) (sym (append-nil (on L g (sets_at ops (L.home g) (u.ticket (L.home g))))) ∙ ap (λ y. on L g (sets_at ops (L.home g) (u.ticket (L.home g))) ++ on L g (unsent_of y)) (sym reading) ∙ book.did g)
            ∙ sym (on_append L g (own_of (works past t)) choice.1)
            ∙ ap (on L g) (sym (ap own_of more.0 ∙ flat_map-append (λ (y : Work L). y.choice.1) (works past t) (x ∷ []) ∙ ap (λ l. own_of (works past t) ++ l) (append-nil choice.1)));
        reads = subst (ReadsFrom (AskCame t u.ticket ops letters) []) (sym more.0)
            (reads_snoc (AskCame t u.ticket ops letters) [] (works past t) x book.reads (all_came asks all (subst (λ y. Every (AskAt t u.ticket ops letters (own_of (works past t))) (asks_of y)) reading book.asks)));
        asks = tt;
        told = record {
          statements = more.1 ∙ book.told.statements ∙ ap (λ y. map (λ (x : Work L). x.statement) (works past t) ++ pending y) reading ∙ sym (append-nil (map (λ (x : Work L). x.statement) (works past t) ++ s ∷ []))
              ∙ ap (λ l. l ++ []) (sym (ap (map (λ (x : Work L). x.statement)) more.0 ∙ map-append (λ (x : Work L). x.statement) (works past t) (x ∷ [])));
          answers = ap (λ l. l ++ choice.0 ∷ []) (more.2 ∙ sym (append-nil (answers_of past t)) ∙ ap (λ y. answers_of past t ++ owed y) (sym reading) ∙ book.told.answers)
              ∙ sym (ap (map (λ (x : Work L). x.choice.0)) more.0 ∙ map-append (λ (x : Work L). x.choice.0) (works past t) (x ∷ []));
        };
      }
    where
      came_of : (q : Ask L) (rows : Option L.Rows) → q.rows ≡ rows → is_some rows ≡ true → AskAt t u.ticket ops letters (own_of (works past t)) q → AskCame t u.ticket ops letters (own_of (works past t)) q
      came_of q None e some at = cc
      came_of q (Some rows) e some at = let c = at.came rows e in record { rows = rows; number = c.0; are = e; sent = at.sent c.0 c.1; came = c.2 }

      all_came : (qs : List (Ask L)) → list_all (λ q. is_some q.rows) qs ≡ true → Every (AskAt t u.ticket ops letters (own_of (works past t))) qs → Every (AskCame t u.ticket ops letters (own_of (works past t))) qs
      all_came [] yes_ each = tt
      all_came (q ∷ qs) yes_ each = (came_of q q.rows refl (left_true (is_some q.rows) (list_all (λ q. is_some q.rows) qs) yes_) each.0, all_came qs (right_true (is_some q.rows) (list_all (λ q. is_some q.rows) qs) yes_) each.1)

  -- the answer is given
  pub book_answered : (ops : L.Site → Name → List (Op L)) (letters : List (Letter L)) (past : List (Deed L)) (u : Undecided L) (answer : L.Answer) → u.stage ≡ Writing answer [] → BookAt o ops sites letters past t u →
      BookAt o ops sites letters (past ++ Answered t answer ∷ []) t (record u { stage = Idle })
  book_answered ops letters past u answer writing book =
      let more = answered_more past t answer in
      record {
        sent = book.sent;
        unsent = book.unsent;
        free = book.free;
        did = λ g. ap (λ x. on L g (sets_at ops (L.home g) (u.ticket (L.home g))) ++ on L g (unsent_of x)) (sym writing) ∙ book.did g ∙ ap (λ l. on L g (own_of l)) (sym more.0);
        reads = subst (ReadsFrom (AskCame t u.ticket ops letters) []) (sym more.0) book.reads;
        asks = tt;
        told = record {
          statements = more.1 ∙ book.told.statements ∙ ap (λ x. map (λ (x : Work L). x.statement) (works past t) ++ pending x) writing ∙ ap (λ l. map (λ (x : Work L). x.statement) l ++ []) (sym more.0);
          answers = append-nil _ ∙ more.2 ∙ ap (λ x. answers_of past t ++ owed x) (sym writing) ∙ book.told.answers ∙ ap (λ l. map (λ (x : Work L). x.choice.0) l) (sym more.0);
        };
      }
