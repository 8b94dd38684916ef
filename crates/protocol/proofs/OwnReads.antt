-- What a transaction has read and written, as its own tickets show it.
use Rattle.std.proofs.Common.{◌≡◌, refl, sym, ap, ◌∙◌, subst, ℕ, suc, true, false, List, [], ◌∷◌, ◌++◌, length, ⊎_elim, Option, Some, None, append-nil, arith}
use Rattle.std.specs.List.{list_any}
use Rattle.protocol.specs.Language.{Lang, IsLawful, Name, same, written}
use Rattle.protocol.specs.Letter.{Rows}
use Rattle.protocol.specs.Site.{Visit, Status, Dead, Active, Prepared, has_lock}
use Rattle.protocol.specs.Desk.{Ask, Undecided, Known}
use Rattle.protocol.specs.World.{World}
use Rattle.protocol.specs.Serial.{settled}
use Rattle.protocol.proofs.Basics.{every_in, found, clash, same_law, by_test, or_cases, or_left}
use Rattle.protocol.proofs.Fits.{Own}
use Rattle.protocol.proofs.Ops.{Op, Get, get_leaf, sets, on, writes_to, writes_on, written_on, written_append, split_same}
use Rattle.protocol.proofs.Data.{NthOp, RowsAt, TellsBody}
use Rattle.protocol.proofs.Works.{Work, works, own_of}
use Rattle.protocol.proofs.Book.{sets_at, AskCame, ReadsFrom, unsent_of}
use Rattle.protocol.proofs.Line.{reads_from, RightFrom, right_same, every_here}
use Rattle.protocol.proofs.Settled.{changes_it, changes_exclusive, settled_none}
use Rattle.protocol.proofs.Base.{Base}

module _ {L : Lang} where
  get_query : (h g : L.Leaf) (p q : L.Query) → (let x : Op L = Get h p in x ≡ Get g q) → p ≡ q
  get_query h g p q e = cc

  -- two operations of one number are one
  nth_same : (ops : List (Op L)) (n : ℕ) (x y : Op L) (a : NthOp ops n x) (b : NthOp ops n y) → (a.before ≡ b.before) × (x ≡ y)
  nth_same ops n x y a b =
      let s = split_same a.before b.before (x ∷ a.after) (y ∷ b.after) (sym a.split ∙ b.split) (number (length a.before) (length b.before) (sym a.number ∙ b.number)) in
      (s.0, head x y a.after b.after s.1)
    where
      number : (m k : ℕ) → suc m ≡ suc k → m ≡ k
      number m k e = omega arith

      head : (x y : Op L) (xs ys : List (Op L)) → x ∷ xs ≡ y ∷ ys → x ≡ y
      head x y xs ys e = cc

  module _ (law : IsLawful L) (o : L.Site → Name → Name) (ops : L.Site → Name → List (Op L)) (w : World L) (t : Name) (base : Base o ops w) (u : Undecided L) (e : w.desk.txn t ≡ Known u) where
    -- a leaf that the transaction writes: its own ticket there, to which all its writes were sent
    pub own_sent : unsent_of u.stage ≡ [] → (g : L.Leaf) → on L g (sets_at ops (L.home g) (u.ticket (L.home g))) ≡ on L g (own_of (works w.past t))
    own_sent none g = sym (append-nil (on L g (sets_at ops (L.home g) (u.ticket (L.home g))))) ∙ ap (λ l. on L g (sets_at ops (L.home g) (u.ticket (L.home g))) ++ on L g l) (sym none) ∙ (base.book t u e).did g

    pub writes_at : unsent_of u.stage ≡ [] → (g : L.Leaf) → writes_to L g (own_of (works w.past t)) ≡ true → (k : Name) × Own (L.home g) k u × (writes_to L g (sets (ops (L.home g) k)) ≡ true)
    writes_at none g writes = go (u.ticket (L.home g)) refl
        (sym (writes_on L g (sets_at ops (L.home g) (u.ticket (L.home g)))) ∙ ap (writes_to L g) (own_sent none g) ∙ writes_on L g (own_of (works w.past t)) ∙ writes)
      where
        go : (m : Option Name) → u.ticket (L.home g) ≡ m → writes_to L g (sets_at ops (L.home g) m) ≡ true → (k : Name) × Own (L.home g) k u × (writes_to L g (sets (ops (L.home g) k)) ≡ true)
        go None f is = cc
        go (Some k) f is = (k, f, is)

    -- the tickets of others aren't its own
    pub apart_tickets : (j : Name) (v : Undecided L) → w.desk.txn j ≡ Known v → ((j ≡ t) → ⊥) → (a : L.Site) (k i : Name) → Own a k u → Own a i v → same k i ≡ false
    apart_tickets j v f other a k i own its = ⊎_elim
        (λ is. absurd (other (sym ((base.fit.known j v f).tickets a i its).1 ∙ ap (o a) (sym ((same_law k i).0 is)) ∙ ((base.fit.known t u e).tickets a k own).1)))
        (λ none. none) (by_test (same k i))

    module _ (active : (a : L.Site) (k : Name) → Own a k u → (v : Visit L) × ((w.sites a).status k ≡ Active v)) where
      -- what it read it has locked, and it is kept now
      one_read : (own : List (L.Leaf × L.Write)) (q : Ask L) → AskCame t u.ticket ops w.letters own q → ((k : Name) × Own (L.home q.leaf) k u × (has_lock q.leaf ((w.sites (L.home q.leaf)).status k) ≡ true)) × (q.rows ≡ Some (L.parts q.query (written L q.leaf own (settled w q.leaf))))
      one_read own q came =
          let a = L.home q.leaf in
          let k = came.sent.name in
          let visit = active a k came.sent.is in
          let rows : RowsAt (ops a k) (w.sites a) k came.number came.rows = every_in (λ l. TellsBody (ops l.site) (w.sites l.site) l.body) w.letters (record { site = a; txn = t; body = Rows k came.number came.rows }) base.tells (came.came k came.sent.is) in
          let one = nth_same (ops a k) came.number (Get rows.leaf rows.query) (Get q.leaf q.query) rows.nth came.sent.nth in
          let leaf = get_leaf rows.leaf q.leaf rows.query q.query one.1 in
          let query = get_query rows.leaf q.leaf rows.query q.query one.1 in
          let now = rows.now visit.0 visit.1 in
          let shared : visit.0.shared q.leaf ≡ true = subst (λ g. visit.0.shared g ≡ true) leaf now.0 in
          let lock : has_lock q.leaf ((w.sites a).status k) ≡ true = ap (has_lock q.leaf) visit.1 ∙ or_left (visit.0.shared q.leaf) (L.touches q.leaf visit.0.changes) shared in
          let settled_is : settled w q.leaf ≡ (w.sites a).kept q.leaf = settled_none law o ops w base q.leaf (λ j. ⊎_elim
          (λ is. ⊎_elim (λ same_. absurd (no_visit visit.0 ((w.sites a).status j) q.leaf (ap (w.sites a).status ((same_law j k).0 same_) ∙ visit.1) is))
          (λ other. clash lock ((base.locked a).alone j k q.leaf other (changes_exclusive w.past q.leaf ((w.sites a).status j) is))) (by_test (same j k)))
          (λ none. none) (by_test (changes_it w.past q.leaf ((w.sites a).status j)))) in (
            (k, came.sent.is, lock),
            came.are ∙ ap (λ r. Some r) (now.1
                ∙ ap (λ p. L.parts p (written L rows.leaf (sets rows.nth.before) ((w.sites a).kept rows.leaf))) query
                ∙ ap (λ g. L.parts q.query (written L g (sets rows.nth.before) ((w.sites a).kept g))) leaf
                ∙ ap (λ l. L.parts q.query (written L q.leaf (sets l) ((w.sites a).kept q.leaf))) one.0
                ∙ ap (L.parts q.query) (sym (written_on L q.leaf (sets came.sent.nth.before) ((w.sites a).kept q.leaf)) ∙ ap (λ l. written L q.leaf l ((w.sites a).kept q.leaf)) came.sent.before ∙ written_on L q.leaf own ((w.sites a).kept q.leaf) ∙ ap (written L q.leaf own) (sym settled_is))),
          )
        where
          no_visit : (v : Visit L) (st : Status L) (g : L.Leaf) → st ≡ Active v → changes_it w.past g st ≡ true → ⊥
          no_visit v Dead g f is = cc
          no_visit v (Active x) g f is = cc
          no_visit v (Prepared n i) g f is = cc

      -- all that it read is of the settled contents with its own earlier writes
      pub right_now : (own : List (L.Leaf × L.Write)) (xs : List (Work L)) → ReadsFrom (AskCame t u.ticket ops w.letters) own xs → RightFrom (λ g. written L g own (settled w g)) xs
      right_now own [] reads = tt
      right_now own (x ∷ xs) reads = (
        every_here (AskCame t u.ticket ops w.letters own) (λ q. q.rows ≡ Some (L.parts q.query (written L q.leaf own (settled w q.leaf)))) x.asks (λ q here came. (one_read own q came).1) reads.0,
        right_same law (λ g. written L g (own ++ x.choice.1) (settled w g)) (λ g. written L g x.choice.1 (written L g own (settled w g))) xs (λ g is. sym (written_append L g own x.choice.1 (settled w g))) (right_now (own ++ x.choice.1) xs reads.1),
      )

      -- a leaf that it read it has locked
      pub read_lock : (own : List (L.Leaf × L.Write)) (xs : List (Work L)) → ReadsFrom (AskCame t u.ticket ops w.letters) own xs → (g : L.Leaf) → reads_from g xs ≡ true → (k : Name) × Own (L.home g) k u × (has_lock g ((w.sites (L.home g)).status k) ≡ true)
      read_lock own [] reads g is = cc
      read_lock own (x ∷ xs) reads g is = ⊎_elim
          (λ here. let f = found (λ (q : Ask L). L.same_leaf q.leaf g) x.asks here in
          let one = one_read own f.0 (every_in (AskCame t u.ticket ops w.letters own) x.asks f.0 reads.0 f.1) in
          subst (λ h. (k : Name) × Own (L.home h) k u × (has_lock h ((w.sites (L.home h)).status k) ≡ true)) ((law.leaves f.0.leaf g).0 f.2) one.0)
          (λ below. read_lock (own ++ x.choice.1) xs reads.1 g below)
          (or_cases (list_any (λ (q : Ask L). L.same_leaf q.leaf g) x.asks) (reads_from g xs) is)
