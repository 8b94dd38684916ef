-- Fetches and writes go out in order: the book stays right.
use Rattle.std.proofs.Common.{◌&&◌, ◌≡◌, refl, sym, ap, ap₂, ◌∙◌, subst, ℕ, suc, false, List, [], ◌∷◌, ◌++◌, length, ◌⊎◌, inl, inr, ⊎_elim, Option, Some, None, append_assoc, append-nil, arith}
use Rattle.protocol.specs.Parts.{op_if, operations}
use Rattle.protocol.specs.Language.{Lang, IsLawful, Name, same, put}
use Rattle.protocol.specs.Letter.{Letter, is_for_desk}
use Rattle.protocol.specs.Site.{SiteState}
use Rattle.protocol.specs.Desk.{Ask, Out, ask_out, asks_out, write_out, writes_out}
use Rattle.protocol.proofs.Basics.{Every, every_more, put_all, put_here, same_law, by_test, clash, both_true, left_true, right_true, if_true, if_false, some_is}
use Rattle.protocol.proofs.Ops.{Op, Get, Set, sets, sets_append, on, on_append, length_of}
use Rattle.protocol.proofs.Data.{NthOp, TellsBody}
use Rattle.protocol.proofs.Book.{Ext, sets_at, AskAt, nth_more, ask_more}

module _ {L : Lang} where
  -- one more operation at a ticket
  abbrev pub put_op : L.Site → Name → Op L → (L.Site → Name → List (Op L)) → L.Site → Name → List (Op L)
  put_op a k op ops = put L.same_site a (put same k (ops a k ++ op ∷ []) (ops a)) ops

  -- letters of operations tell their places
  abbrev pub TellsOps : (L.Site → Name → List (Op L)) → Letter L → Type 0
  TellsOps ops l = ((s : SiteState L) → TellsBody (ops l.site) s l.body) × (is_for_desk l.body ≡ false)

  abbrev pub Counted : (L.Site → Option Name) → (L.Site → ℕ) → (L.Site → Name → List (Op L)) → Type 0
  Counted ticket sent ops = (a : L.Site) (k : Name) → ticket a ≡ Some k → sent a ≡ length (ops a k)

  pub ext_same : (ticket : L.Site → Option Name) (ops : L.Site → Name → List (Op L)) → Ext ticket ops ops
  ext_same ticket ops a k = ([], sym (append-nil (ops a k)), inl refl)

  ext_join : (ticket : L.Site → Option Name) (ops mid new : L.Site → Name → List (Op L)) → Ext ticket ops mid → Ext ticket mid new → Ext ticket ops new
  ext_join ticket ops mid new first second a k =
      let x = first a k in
      let y = second a k in (
        x.0 ++ y.0,
        y.1 ∙ ap (λ l. l ++ y.0) x.1 ∙ append_assoc (ops a k) x.0 y.0,
        ⊎_elim (λ e. ⊎_elim (λ f. inl (ap₂ (λ p q. p ++ q) e f)) (λ own. inr own) y.2) (λ own. inr own) x.2,
      )

  module _ (law : IsLawful L) where
    pub put_op_here : (a : L.Site) (k : Name) (op : Op L) (ops : L.Site → Name → List (Op L)) → put_op a k op ops a k ≡ ops a k ++ op ∷ []
    put_op_here a k op ops = ap (λ f. f k) (put_here L.same_site law.sites a (put same k (ops a k ++ op ∷ []) (ops a)) ops) ∙ put_here same same_law k (ops a k ++ op ∷ []) (ops a)

    -- by cases: the ticket itself, or any other
    pub put_op_all : (a : L.Site) (k : Name) (op : Op L) (ops : L.Site → Name → List (Op L)) (Q : L.Site → Name → List (Op L) → Type 0) → Q a k (ops a k ++ op ∷ []) → ((b : L.Site) (j : Name) → ((b ≡ a) → (j ≡ k) → ⊥) → Q b j (ops b j)) →
        (b : L.Site) (j : Name) → Q b j (put_op a k op ops b j)
    put_op_all a k op ops Q here there b j = put_all L.same_site law.sites a (put same k (ops a k ++ op ∷ []) (ops a)) ops (λ b f. Q b j (f j))
        (put_all same same_law k (ops a k ++ op ∷ []) (ops a) (λ j x. Q a j x) here (λ j other. there a j (λ e f. clash ((same_law j k).1 f) other)) j)
        (λ b other. there b j (λ e f. clash ((law.sites b a).1 e) other)) b

    -- the operation that was put, as a letter shows it
    put_op_is : (a : L.Site) (k : Name) (op : Op L) (ops : L.Site → Name → List (Op L)) (b : L.Site) (j : Name) → put_op a k op ops b j ≡ ops b j ++ op_if (L.same_site b a && same j k) op
    put_op_is a k op ops = put_op_all a k op ops (λ b j x. x ≡ ops b j ++ op_if (L.same_site b a && same j k) op)
        (ap (λ x. ops a k ++ op_if x op) (sym (both_true (L.same_site a a) (same k k) ((law.sites a a).1 refl) ((same_law k k).1 refl))))
        (λ b j other. sym (append-nil (ops b j)) ∙ ap (λ x. ops b j ++ op_if x op) (sym (⊎_elim (λ is. absurd (other ((law.sites b a).0 (left_true (L.same_site b a) (same j k) is)) ((same_law j k).0 (right_true (L.same_site b a) (same j k) is)))) (λ none. none) (by_test (L.same_site b a && same j k)))))

    put_op_ext : (a : L.Site) (k : Name) (op : Op L) (ticket : L.Site → Option Name) (ops : L.Site → Name → List (Op L)) → ticket a ≡ Some k → Ext ticket ops (put_op a k op ops)
    put_op_ext a k op ticket ops own = put_op_all a k op ops (λ b j x. (more : List (Op L)) × (x ≡ ops b j ++ more) × ((more ≡ []) ⊎ (ticket b ≡ Some j))) (op ∷ [], refl, inr own) (λ b j other. ([], sym (append-nil (ops b j)), inl refl))

    put_op_counted : (a : L.Site) (k : Name) (op : Op L) (ticket : L.Site → Option Name) (sent : L.Site → ℕ) (ops : L.Site → Name → List (Op L)) → ticket a ≡ Some k → Counted ticket sent ops → Counted ticket (put L.same_site a (suc (sent a)) sent) (put_op a k op ops)
    put_op_counted a k op ticket sent ops own counted b j = put_op_all a k op ops (λ b j x. ticket b ≡ Some j → put L.same_site a (suc (sent a)) sent b ≡ length x)
        (λ e. put_here L.same_site law.sites a (suc (sent a)) sent ∙ (let c = counted a k own in let m = length_of (ops a k) (op ∷ []) in omega arith))
        (λ b j other e. put_all L.same_site law.sites a (suc (sent a)) sent (λ b n. (((b ≡ a) → (j ≡ k) → ⊥)) → ticket b ≡ Some j → n ≡ length (ops b j))
        (λ no_ f. absurd (no_ refl (some_is (sym f ∙ own)))) (λ b off no_ f. counted b j f) b other e) b j

    put_unsent : (a : L.Site) (k : Name) (n : ℕ) (ticket : L.Site → Option Name) (sent : L.Site → ℕ) → ticket a ≡ Some k → (b : L.Site) → ticket b ≡ None → put L.same_site a n sent b ≡ sent b
    put_unsent a k n ticket sent own b = put_all L.same_site law.sites a n sent (λ b m. ticket b ≡ None → m ≡ sent b) (λ e. let f : None ≡ Some k = sym e ∙ own in cc) (λ b other e. refl) b

    abbrev put_nth : (a : L.Site) (k : Name) (op : Op L) (ticket : L.Site → Option Name) (sent : L.Site → ℕ) (ops : L.Site → Name → List (Op L)) → ticket a ≡ Some k → Counted ticket sent ops → NthOp (put_op a k op ops a k) (suc (sent a)) op
    put_nth a k op ticket sent ops own counted = record { before = ops a k; after = []; split = put_op_here a k op ops; number = ap suc (counted a k own) }

    module _ (t : Name) (ticket : L.Site → Option Name) where
      -- fetches that went out
      pub record AsksSent (letters : List (Letter L)) (own : List (L.Leaf × L.Write)) (ops : L.Site → Name → List (Op L)) (sent : L.Site → ℕ) (out : Out L (Ask L)) : Type 0 where
        pub new : L.Site → Name → List (Op L)
        pub counted : Counted ticket out.sent new
        pub unsent : (a : L.Site) → ticket a ≡ None → out.sent a ≡ sent a
        pub ext : Ext ticket ops new
        pub put_out : (a : L.Site) (k : Name) → new a k ≡ ops a k ++ operations out.letters a k
        pub sets_same : (a : L.Site) (k : Name) → sets (new a k) ≡ sets (ops a k)
        pub tells : Every (TellsOps new) out.letters
        pub asks : Every (AskAt t ticket new letters own) out.left

      pub did_same : (ops new : L.Site → Name → List (Op L)) → ((a : L.Site) (k : Name) → sets (new a k) ≡ sets (ops a k)) → (a : L.Site) (k : Option Name) → sets_at new a k ≡ sets_at ops a k
      did_same ops new same_ a None = refl
      did_same ops new same_ a (Some k) = same_ a k

      plain_more : (letters : List (Letter L)) (own : List (L.Leaf × L.Write)) (ops new : L.Site → Name → List (Op L)) → Ext ticket ops new → (q : Ask L) → AskAt t ticket ops letters own q → AskAt t ticket new letters own q
      plain_more letters own ops new ext q at = subst (λ l. AskAt t ticket new l own q) (append-nil letters) (ask_more t ticket ticket ops new ext letters [] own q at)

      pub asks_sent : (letters : List (Letter L)) (own : List (L.Leaf × L.Write)) (qs : List (Ask L)) (sent : L.Site → ℕ) (ops : L.Site → Name → List (Op L)) → Counted ticket sent ops →
          ((g : L.Leaf) → on L g (sets_at ops (L.home g) (ticket (L.home g))) ≡ on L g own) → Every (AskAt t ticket ops letters own) qs → AsksSent letters own ops sent (asks_out t ticket qs sent)
      asks_sent letters own [] sent ops counted did all = record { new = ops; counted = counted; unsent = λ a e. refl; ext = ext_same ticket ops; put_out = λ a k. sym (append-nil (ops a k)); sets_same = λ a k. refl; tells = tt; asks = tt }
      asks_sent letters own (q ∷ qs) sent ops counted did all = go q.number refl (ticket (L.home q.leaf)) refl (λ sent_ ops_ c d e. asks_sent letters own qs sent_ ops_ c d e)
        where
          waits : AsksSent letters own ops sent (asks_out t ticket qs sent) → AsksSent letters own ops sent (record { left = q ∷ (asks_out t ticket qs sent).left; sent = (asks_out t ticket qs sent).sent; letters = (asks_out t ticket qs sent).letters })
          waits r = record { new = r.new; counted = r.counted; unsent = r.unsent; ext = r.ext; put_out = r.put_out; sets_same = r.sets_same; tells = r.tells; asks = (plain_more letters own ops r.new r.ext q all.0, r.asks) }

          go : (m : Option ℕ) → q.number ≡ m → (k : Option Name) → ticket (L.home q.leaf) ≡ k →
              ((sent : L.Site → ℕ) (ops : L.Site → Name → List (Op L)) → Counted ticket sent ops → ((g : L.Leaf) → on L g (sets_at ops (L.home g) (ticket (L.home g))) ≡ on L g own) → Every (AskAt t ticket ops letters own) qs → AsksSent letters own ops sent (asks_out t ticket qs sent)) →
              AsksSent letters own ops sent (ask_out t q m k sent (asks_out t ticket qs))
          go None e None f rest = waits (rest sent ops counted did all.1)
          go (Some n) e None f rest = waits (rest sent ops counted did all.1)
          go (Some n) e (Some k) f rest = waits (rest sent ops counted did all.1)
          go None e (Some k) f rest =
              let a = L.home q.leaf in
              let op : Op L = Get q.leaf q.query in
              let mid = put_op a k op ops in
              let ext = put_op_ext a k op ticket ops f in
              let alike : (b : L.Site) (j : Name) → sets (mid b j) ≡ sets (ops b j) = put_op_all a k op ops (λ b j x. sets x ≡ sets (ops b j)) (sets_append (ops a k) (op ∷ []) ∙ append-nil (sets (ops a k))) (λ b j other. refl) in
              let r = rest (put L.same_site a (suc (sent a)) sent) mid (put_op_counted a k op ticket sent ops f counted)
              (λ g. ap (on L g) (did_same ops mid alike (L.home g) (ticket (L.home g))) ∙ did g) (every_more (AskAt t ticket ops letters own) (AskAt t ticket mid letters own) qs (plain_more letters own ops mid ext) all.1) in
              let nth = put_nth a k op ticket sent ops f counted in
              let x = r.ext a k in
              let last = nth_more (mid a k) x.0 (r.new a k) (suc (sent a)) op x.1 nth in
              record {
                new = r.new;
                counted = r.counted;
                unsent = λ b none. r.unsent b none ∙ put_unsent a k (suc (sent a)) ticket sent f b none;
                ext = ext_join ticket ops mid r.new ext r.ext;
                sets_same = λ b j. r.sets_same b j ∙ alike b j;
                put_out = λ b j. r.put_out b j ∙ ap (λ l. l ++ operations (asks_out t ticket qs (put L.same_site a (suc (sent a)) sent)).letters b j) (put_op_is a k op ops b j) ∙ append_assoc (ops b j) (op_if (L.same_site b a && same j k) op) (operations (asks_out t ticket qs (put L.same_site a (suc (sent a)) sent)).letters b j);
                tells = ((λ s. last, refl), r.tells);
                asks = (
                  record {
                    sent = λ n is. record { name = k; is = f; nth = record { before = last.before; after = last.after; split = last.split; number = sym (some_is is) ∙ last.number }; before = ap (λ m. on L q.leaf (sets_at ops a m)) (sym f) ∙ did q.leaf };
                    came = λ rows is. let c = all.0.came rows is in let g : None ≡ Some c.0 = sym e ∙ c.1 in cc;
                  },
                  r.asks,
                );
              }

      -- writes that went out
      pub record WritesSent (ops : L.Site → Name → List (Op L)) (sent : L.Site → ℕ) (ws : List (L.Leaf × L.Write)) (out : Out L (L.Leaf × L.Write)) : Type 0 where
        pub new : L.Site → Name → List (Op L)
        pub counted : Counted ticket out.sent new
        pub unsent : (a : L.Site) → ticket a ≡ None → out.sent a ≡ sent a
        pub ext : Ext ticket ops new
        pub put_out : (a : L.Site) (k : Name) → new a k ≡ ops a k ++ operations out.letters a k
        pub tells : Every (TellsOps new) out.letters
        pub did : (g : L.Leaf) → on L g (sets_at new (L.home g) (ticket (L.home g))) ++ on L g out.left ≡ on L g (sets_at ops (L.home g) (ticket (L.home g))) ++ on L g ws

      -- what one write adds at a leaf
      put_set : (g : L.Leaf) (x : L.Write) (k : Name) (ops : L.Site → Name → List (Op L)) → ticket (L.home g) ≡ Some k → (h : L.Leaf) →
          on L h (sets_at (put_op (L.home g) k (Set g x) ops) (L.home h) (ticket (L.home h))) ≡ on L h (sets_at ops (L.home h) (ticket (L.home h))) ++ on L h ((g, x) ∷ [])
      put_set g x k ops own h = go (ticket (L.home h)) refl
        where
          off : ((L.home h ≡ L.home g) → ⊥) → on L h ((g, x) ∷ []) ≡ []
          off apart = if_false (L.same_leaf g h) ((g, x) ∷ []) [] (⊎_elim (λ is. absurd (apart (ap L.home (sym ((law.leaves g h).0 is))))) (λ none. none) (by_test (L.same_leaf g h)))

          go : (m : Option Name) → ticket (L.home h) ≡ m → on L h (sets_at (put_op (L.home g) k (Set g x) ops) (L.home h) m) ≡ on L h (sets_at ops (L.home h) m) ++ on L h ((g, x) ∷ [])
          go None e = sym (off (λ is. let f : None ≡ Some k = sym e ∙ ap ticket is ∙ own in cc))
          go (Some j) e = put_op_all (L.home g) k (Set g x) ops (λ b i l. ticket b ≡ Some i → (L.home h ≡ b) → on L h (sets l) ≡ on L h (sets (ops b i)) ++ on L h ((g, x) ∷ []))
              (λ f here. ap (on L h) (sets_append (ops (L.home g) k) (Set g x ∷ [])) ∙ on_append L h (sets (ops (L.home g) k)) ((g, x) ∷ []))
              (λ b i other f here. sym (append-nil (on L h (sets (ops b i)))) ∙ ap (λ l. on L h (sets (ops b i)) ++ l) (sym (off (λ is. other (sym here ∙ is) (some_is (sym f ∙ ap ticket (sym here ∙ is) ∙ own))))))
              (L.home h) j e refl

      pub writes_sent : (ws : List (L.Leaf × L.Write)) (sent : L.Site → ℕ) (ops : L.Site → Name → List (Op L)) → Counted ticket sent ops → WritesSent ops sent ws (writes_out {L = L} t ticket ws sent)
      writes_sent [] sent ops counted = record { new = ops; counted = counted; unsent = λ a e. refl; ext = ext_same ticket ops; put_out = λ a k. sym (append-nil (ops a k)); tells = tt; did = λ g. refl }
      writes_sent (w ∷ ws) sent ops counted = go (ticket (L.home w.0)) refl (λ sent_ ops_ c. writes_sent ws sent_ ops_ c)
        where
          go : (k : Option Name) → ticket (L.home w.0) ≡ k → ((sent : L.Site → ℕ) (ops : L.Site → Name → List (Op L)) → Counted ticket sent ops → WritesSent ops sent ws (writes_out {L = L} t ticket ws sent)) →
              WritesSent ops sent (w ∷ ws) (write_out {L = L} t w k sent (writes_out {L = L} t ticket ws))
          go None f rest =
              let r = rest sent ops counted in
              record {
                new = r.new;
                counted = r.counted;
                unsent = r.unsent;
                ext = r.ext;
                put_out = r.put_out;
                tells = r.tells;
                did = λ h. ⊎_elim
                    (λ is. let none = ap (λ g. ticket (L.home g)) (sym ((law.leaves w.0 h).0 is)) ∙ f in
                    let at_new = ap (λ m. on L h (sets_at r.new (L.home h) m)) none in
                    let at_old = ap (λ m. on L h (sets_at ops (L.home h) m)) none in
                    let ih = ap (λ l. l ++ on L h (writes_out {L = L} t ticket ws sent).left) (sym at_new) ∙ r.did h ∙ ap (λ l. l ++ on L h ws) at_old in
                    ap (λ l. l ++ on L h (w ∷ (writes_out {L = L} t ticket ws sent).left)) at_new
                    ∙ if_true (L.same_leaf w.0 h) (w ∷ on L h (writes_out {L = L} t ticket ws sent).left) (on L h (writes_out {L = L} t ticket ws sent).left) is
                    ∙ ap (λ l. w ∷ l) ih
                    ∙ sym (if_true (L.same_leaf w.0 h) (w ∷ on L h ws) (on L h ws) is)
                    ∙ ap (λ l. l ++ on L h (w ∷ ws)) (sym at_old))
                    (λ other. ap (λ l. on L h (sets_at r.new (L.home h) (ticket (L.home h))) ++ l) (if_false (L.same_leaf w.0 h) (w ∷ on L h (writes_out {L = L} t ticket ws sent).left) (on L h (writes_out {L = L} t ticket ws sent).left) other)
                    ∙ r.did h ∙ ap (λ l. on L h (sets_at ops (L.home h) (ticket (L.home h))) ++ l) (sym (if_false (L.same_leaf w.0 h) (w ∷ on L h ws) (on L h ws) other)))
                    (by_test (L.same_leaf w.0 h));
              }
          go (Some k) f rest =
              let a = L.home w.0 in
              let op : Op L = Set w.0 w.1 in
              let mid = put_op a k op ops in
              let ext = put_op_ext a k op ticket ops f in
              let r = rest (put L.same_site a (suc (sent a)) sent) mid (put_op_counted a k op ticket sent ops f counted) in
              let nth = put_nth a k op ticket sent ops f counted in
              let x = r.ext a k in
              let last = nth_more (mid a k) x.0 (r.new a k) (suc (sent a)) op x.1 nth in
              record {
                new = r.new;
                counted = r.counted;
                unsent = λ b none. r.unsent b none ∙ put_unsent a k (suc (sent a)) ticket sent f b none;
                ext = ext_join ticket ops mid r.new ext r.ext;
                put_out = λ b j. r.put_out b j ∙ ap (λ l. l ++ operations (writes_out {L = L} t ticket ws (put L.same_site a (suc (sent a)) sent)).letters b j) (put_op_is a k op ops b j) ∙ append_assoc (ops b j) (op_if (L.same_site b a && same j k) op) (operations (writes_out {L = L} t ticket ws (put L.same_site a (suc (sent a)) sent)).letters b j);
                tells = ((λ s. last, refl), r.tells);
                did = λ h. r.did h ∙ ap (λ l. l ++ on L h ws) (put_set w.0 w.1 k ops f h) ∙ append_assoc (on L h (sets_at ops (L.home h) (ticket (L.home h)))) (on L h ((w.0, w.1) ∷ [])) (on L h ws)
                    ∙ ap (λ l. on L h (sets_at ops (L.home h) (ticket (L.home h))) ++ l) (sym (on_append L h ((w.0, w.1) ∷ []) ws));
              }
