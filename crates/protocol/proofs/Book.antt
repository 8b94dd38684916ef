-- The coordinator's book: what it has sent is what its transactions ask and write, and what came stands behind their own writes.
use Rattle.std.proofs.Common.{◌≡◌, sym, ap, ◌∙◌, subst, ℕ, List, [], ◌∷◌, ◌++◌, map, length, ◌⊎◌, Option, Some, None, append_assoc, append-nil}
use Rattle.std.specs.Prelude.{⊤}
use Rattle.protocol.specs.Language.{Lang, Name}
use Rattle.protocol.specs.Letter.{Rows, Letter}
use Rattle.protocol.specs.Site.{SiteState}
use Rattle.protocol.specs.Desk.{Ask, Stage, Reading, Writing, Undecided, Deed}
use Rattle.protocol.specs.Serial.{statements_of, answers_of}
use Rattle.protocol.proofs.Basics.{Every, every_more, In, in_left}
use Rattle.protocol.proofs.Fits.{Drawn}
use Rattle.protocol.proofs.Ops.{Op, Get, sets, on}
use Rattle.protocol.proofs.Data.{NthOp}
use Rattle.protocol.proofs.Works.{Work, works, own_of}

module _ {L : Lang} where
  -- the operations sent may grow at these tickets alone
  abbrev pub Ext : (L.Site → Option Name) → (L.Site → Name → List (Op L)) → (L.Site → Name → List (Op L)) → Type 0
  Ext ticket ops new = (a : L.Site) (k : Name) → (more : List (Op L)) × (new a k ≡ ops a k ++ more) × ((more ≡ []) ⊎ (ticket a ≡ Some k))

  -- what was sent to the leaf's site
  abbrev pub sets_at : (L.Site → Name → List (Op L)) → L.Site → Option Name → List (L.Leaf × L.Write)
  sets_at ops a None = []
  sets_at ops a (Some k) = sets (ops a k)

  -- a fetch that went out stands behind exactly the transaction's own writes to its leaf
  pub record AskSent (ticket : L.Site → Option Name) (ops : L.Site → Name → List (Op L)) (own : List (L.Leaf × L.Write)) (q : Ask L) (n : ℕ) : Type 0 where
    pub name : Name
    pub is : ticket (L.home q.leaf) ≡ Some name
    pub nth : NthOp (ops (L.home q.leaf) name) n (Get q.leaf q.query)
    pub before : on L q.leaf (sets nth.before) ≡ on L q.leaf own

  -- its rows came by a letter
  abbrev pub CameBy : Name → (L.Site → Option Name) → List (Letter L) → Ask L → ℕ → L.Rows → Type 0
  CameBy t ticket letters q n rows = (k : Name) → ticket (L.home q.leaf) ≡ Some k → In (record { site = L.home q.leaf; txn = t; body = Rows k n rows }) letters

  pub record AskAt (t : Name) (ticket : L.Site → Option Name) (ops : L.Site → Name → List (Op L)) (letters : List (Letter L)) (own : List (L.Leaf × L.Write)) (q : Ask L) : Type 0 where
    pub sent : (n : ℕ) → q.number ≡ Some n → AskSent ticket ops own q n
    pub came : (rows : L.Rows) → q.rows ≡ Some rows → (n : ℕ) × (q.number ≡ Some n) × CameBy t ticket letters q n rows

  -- of an evaluated statement all rows came
  pub record AskCame (t : Name) (ticket : L.Site → Option Name) (ops : L.Site → Name → List (Op L)) (letters : List (Letter L)) (own : List (L.Leaf × L.Write)) (q : Ask L) : Type 0 where
    pub rows : L.Rows
    pub number : ℕ
    pub are : q.rows ≡ Some rows
    pub sent : AskSent ticket ops own q number
    pub came : CameBy t ticket letters q number rows

  -- each fetch of each work with the writes before it
  abbrev pub ReadsFrom : (List (L.Leaf × L.Write) → Ask L → Type 0) → List (L.Leaf × L.Write) → List (Work L) → Type 0
  ReadsFrom F own [] = ⊤
  ReadsFrom F own (x ∷ xs) = Every (F own) x.asks × ReadsFrom F (own ++ x.choice.1) xs

  abbrev pub unsent_of : Stage L → List (L.Leaf × L.Write)
  unsent_of (Writing answer ws) = ws
  unsent_of stage = []

  abbrev pub pending : Stage L → List L.Statement
  pending (Reading s asks) = s ∷ []
  pending stage = []

  abbrev pub owed : Stage L → List L.Answer
  owed (Writing answer ws) = answer ∷ []
  owed stage = []

  abbrev pub asks_of : Stage L → List (Ask L)
  asks_of (Reading s asks) = asks
  asks_of stage = []

  -- statements and answers are those of the works
  pub record Told (past : List (Deed L)) (t : Name) (stage : Stage L) : Type 0 where
    pub statements : statements_of past t ≡ map (λ x. x.statement) (works past t) ++ pending stage
    pub answers : answers_of past t ++ owed stage ≡ map (λ x. x.choice.0) (works past t)

  pub record BookAt (o : L.Site → Name → Name) (ops : L.Site → Name → List (Op L)) (sites : L.Site → SiteState L) (letters : List (Letter L)) (past : List (Deed L)) (t : Name) (u : Undecided L) : Type 0 where
    pub sent : (a : L.Site) (k : Name) → u.ticket a ≡ Some k → u.sent a ≡ length (ops a k)
    pub unsent : (a : L.Site) → u.ticket a ≡ None → u.sent a ≡ 0
    pub free : (a : L.Site) (k : Name) → Drawn (sites a) k → o a k ≡ t → u.ticket a ≡ None → ops a k ≡ []
    pub did : (g : L.Leaf) → on L g (sets_at ops (L.home g) (u.ticket (L.home g))) ++ on L g (unsent_of u.stage) ≡ on L g (own_of (works past t))
    pub reads : ReadsFrom (AskCame t u.ticket ops letters) [] (works past t)
    pub asks : Every (AskAt t u.ticket ops letters (own_of (works past t))) (asks_of u.stage)
    pub told : Told past t u.stage

  -- ---- how these facts stay
  abbrev pub nth_more : (xs more new : List (Op L)) (n : ℕ) (op : Op L) → new ≡ xs ++ more → NthOp xs n op → NthOp new n op
  nth_more xs more new n op is nth = record {
    before = nth.before;
    after = nth.after ++ more;
    number = nth.number;
    split = is ∙ ap (λ l. l ++ more) nth.split ∙ append_assoc nth.before (op ∷ nth.after) more;
  }

  module _ (t : Name) (ticket : L.Site → Option Name) (grow : L.Site → Option Name) (ops new : L.Site → Name → List (Op L)) (ext : Ext grow ops new) (letters extra : List (Letter L)) where
    pub sent_more : (own : List (L.Leaf × L.Write)) (q : Ask L) (n : ℕ) → AskSent ticket ops own q n → AskSent ticket new own q n
    sent_more own q n s = let x = ext (L.home q.leaf) s.name in record { name = s.name; is = s.is; nth = nth_more (ops (L.home q.leaf) s.name) x.0 (new (L.home q.leaf) s.name) n (Get q.leaf q.query) x.1 s.nth; before = s.before }

    by_more : (q : Ask L) (n : ℕ) (rows : L.Rows) → CameBy t ticket letters q n rows → CameBy t ticket (letters ++ extra) q n rows
    by_more q n rows by k e = in_left (record { site = L.home q.leaf; txn = t; body = Rows k n rows }) letters extra (by k e)

    pub ask_more : (own : List (L.Leaf × L.Write)) (q : Ask L) → AskAt t ticket ops letters own q → AskAt t ticket new (letters ++ extra) own q
    ask_more own q at = record {
      sent = λ n e. sent_more own q n (at.sent n e);
      came = λ rows e. let c = at.came rows e in (c.0, c.1, by_more q c.0 rows c.2);
    }

    pub came_more : (own : List (L.Leaf × L.Write)) (q : Ask L) → AskCame t ticket ops letters own q → AskCame t ticket new (letters ++ extra) own q
    came_more own q c = record { rows = c.rows; number = c.number; are = c.are; sent = sent_more own q c.number c.sent; came = by_more q c.number c.rows c.came }

  pub reads_more : (F G : List (L.Leaf × L.Write) → Ask L → Type 0) → ((own : List (L.Leaf × L.Write)) (q : Ask L) → F own q → G own q) → (own : List (L.Leaf × L.Write)) (xs : List (Work L)) → ReadsFrom F own xs → ReadsFrom G own xs
  reads_more F G to own [] all = tt
  reads_more F G to own (x ∷ xs) all = (every_more (F own) (G own) x.asks (to own) all.0, reads_more F G to (own ++ x.choice.1) xs all.1)

  -- one more work
  pub reads_snoc : (F : List (L.Leaf × L.Write) → Ask L → Type 0) (own : List (L.Leaf × L.Write)) (xs : List (Work L)) (x : Work L) → ReadsFrom F own xs → Every (F (own ++ own_of xs)) x.asks → ReadsFrom F own (xs ++ x ∷ [])
  reads_snoc F own [] x all last = (subst (λ l. Every (F l) x.asks) (append-nil own) last, tt)
  reads_snoc F own (y ∷ xs) x all last = (all.0, reads_snoc F (own ++ y.choice.1) xs x all.1 (subst (λ l. Every (F l) x.asks) (sym (append_assoc own y.choice.1 (own_of xs))) last))
