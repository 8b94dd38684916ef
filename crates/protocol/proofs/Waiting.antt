-- What a statement still waits for is on its way: when nothing waits, its rows are in and its writes went out.
use Rattle.std.proofs.Common.{◌≡◌, refl, sym, ap, ◌∙◌, subst, ℕ, suc, true, false, List, [], ◌∷◌, ◌++◌, Option, Some, None, is_some, inl, append_assoc}
use Rattle.protocol.specs.Language.{Lang, IsLawful, Name, put}
use Rattle.protocol.specs.Letter.{Body, Open, Fetch, Ticket, Rows, Letter}
use Rattle.protocol.specs.Desk.{Ask, Undecided, ask_out, asks_out}
use Rattle.protocol.specs.World.{World}
pub use Rattle.protocol.specs.StatementCourse.{AskWaits, WriteWaits, came, unsent, sent, told}
use Rattle.protocol.proofs.Basics.{Every, In, every_more, in_left, in_right, if_true}
use Rattle.protocol.proofs.Queue.{at, at_append, VisitPlace, away, asked, offered, works}
use Rattle.protocol.proofs.AtDesk.{Stands}

module _ {L : Lang} where
  -- at a visited site without ticket something waits
  not_silent : (w : World L) (t : Name) (u : Undecided L) (a : L.Site) → Stands t u w → w.letters ≡ [] → u.visited a ≡ true → u.ticket a ≡ None → ⊥
  not_silent w t u a stands silent visited no_ticket = go (stands.spots a)
    where
      go : VisitPlace (w.sites a).status (u.visited a) (u.ticket a) (u.sent a) (at a w.letters) → ⊥
      go (away s) = let e : true ≡ false = sym visited ∙ s.unvisited in cc
      go (asked s) = let e : [] ≡ Open ∷ [] = sym (ap (at a) silent) ∙ s.waits in cc
      go (offered k s) = let e : [] ≡ Ticket k ∷ [] = sym (ap (at a) silent) ∙ s.waits in cc
      go (works k s) = let e : None ≡ Some k = sym no_ticket ∙ s.ticket in cc

  module _ (w : World L) (t : Name) (u : Undecided L) (stands : Stands t u w) (silent : w.letters ≡ []) where
    none_in : (a : L.Site) (c : Body L) → In c (at a w.letters) → ⊥
    none_in a c here = subst (λ x. In c (at a x)) silent here

    ask_came : (s : L.Statement) (q : Ask L) → AskWaits s u w.letters q → is_some q.rows ≡ true
    ask_came s q (came is) = is
    ask_came s q (unsent number visited no_ticket) = absurd (not_silent w t u (L.home q.leaf) stands silent visited no_ticket)
    ask_came s q (sent k n number here) = absurd (none_in (L.home q.leaf) (Fetch k n q.leaf q.query) here)
    ask_came s q (told k n rows number fits here) = absurd (none_in (L.home q.leaf) (Rows k n rows) here)

    -- when nothing waits, all rows are in
    pub all_came : (s : L.Statement) (asks : List (Ask L)) → Every (AskWaits s u w.letters) asks → Every (λ q. is_some q.rows ≡ true) asks
    all_came s asks all = every_more (AskWaits s u w.letters) (λ q. is_some q.rows ≡ true) asks (ask_came s) all

    -- and no write waits
    pub none_unsent : (ws : List (L.Leaf × L.Write)) → Every (WriteWaits u) ws → ws ≡ []
    none_unsent [] all = refl
    none_unsent (x ∷ ws) all = absurd (not_silent w t u (L.home x.0) stands silent all.0.visited all.0.no_ticket)

  -- ---- fetches that go out are on their way
  -- before they go out: a fetch without number is of a visited site
  pub data AskReady (s : L.Statement) (u : Undecided L) (letters : List (Letter L)) (q : Ask L) : Type 0 where
    new_ask : q.number ≡ None → u.visited (L.home q.leaf) ≡ true → AskReady s u letters q
    old_ask : (m : ℕ) → q.number ≡ Some m → AskWaits s u letters q → AskReady s u letters q

  pub in_at : (a : L.Site) (c : Body L) (xs ys : List (Letter L)) → In c (at a xs) → In c (at a (xs ++ ys))
  in_at a c xs ys here = subst (In c) (sym (at_append a xs ys)) (in_left c (at a xs) (at a ys) here)

  -- more letters hinder none
  pub waits_more : (s : L.Statement) (u : Undecided L) (xs ys : List (Letter L)) (q : Ask L) → AskWaits s u xs q → AskWaits s u (xs ++ ys) q
  waits_more s u xs ys q (came is) = came is
  waits_more s u xs ys q (unsent number visited no_ticket) = unsent number visited no_ticket
  waits_more s u xs ys q (sent k n number here) = sent k n number (in_at (L.home q.leaf) (Fetch k n q.leaf q.query) xs ys here)
  waits_more s u xs ys q (told k n rows number fits here) = told k n rows number fits (in_at (L.home q.leaf) (Rows k n rows) xs ys here)

  module _ (law : IsLawful L) (t : Name) (s : L.Statement) (u : Undecided L) where
    -- each fetch of these waits for a ticket or is on its way
    pub asks_wait : (old : List (Letter L)) (asks : List (Ask L)) (counts : L.Site → ℕ) → Every (AskReady s u old) asks → Every (AskWaits s u (old ++ (asks_out t u.ticket asks counts).letters)) (asks_out t u.ticket asks counts).left
    asks_wait old [] counts all = tt
    asks_wait old (q ∷ qs) counts all = go q.number (u.ticket (L.home q.leaf)) refl refl (λ old more. asks_wait old qs more)
      where
        ready_more : (l : Letter L) (qs : List (Ask L)) → Every (AskReady s u old) qs → Every (AskReady s u (old ++ l ∷ [])) qs
        ready_more l qs all = every_more (AskReady s u old) (AskReady s u (old ++ l ∷ [])) qs (λ x ready. one x ready) all
          where
            one : (x : Ask L) → AskReady s u old x → AskReady s u (old ++ l ∷ []) x
            one x (new_ask number visited) = new_ask number visited
            one x (old_ask m number waits) = old_ask m number (waits_more s u old (l ∷ []) x waits)

        still : (m : ℕ) → q.number ≡ Some m → AskReady s u old q → AskWaits s u old q
        still m e (new_ask number visited) = let f : Some m ≡ None = sym e ∙ number in cc
        still m e (old_ask n number waits) = waits

        waits_here : q.number ≡ None → u.ticket (L.home q.leaf) ≡ None → AskReady s u old q → AskWaits s u old q
        waits_here e f (new_ask number visited) = unsent e visited f
        waits_here e f (old_ask n number waits) = waits

        go : (m : Option ℕ) (k : Option Name) → q.number ≡ m → u.ticket (L.home q.leaf) ≡ k → ((old : List (Letter L)) (counts : L.Site → ℕ) → Every (AskReady s u old) qs → Every (AskWaits s u (old ++ (asks_out t u.ticket qs counts).letters)) (asks_out t u.ticket qs counts).left) →
            Every (AskWaits s u (old ++ (ask_out t q m k counts (asks_out t u.ticket qs)).letters)) (ask_out t q m k counts (asks_out t u.ticket qs)).left
        go None None e f rest = (waits_more s u old _ q (waits_here e f all.0), rest old counts all.1)
        go None (Some k) e f rest =
            let h = L.home q.leaf in
            let n = suc (counts h) in
            let l : Letter L = record { site = h; txn = t; body = Fetch k n q.leaf q.query } in
            let after = asks_out t u.ticket qs (put L.same_site h n counts) in
            subst (λ x. Every (AskWaits s u x) (record q { number = Some n } ∷ after.left)) (append_assoc old (l ∷ []) after.letters) (
              waits_more s u (old ++ l ∷ []) after.letters (record q { number = Some n })
                  (sent k n refl (subst (In l.body) (sym (at_append h old (l ∷ []))) (in_right l.body (at h old) (at h (l ∷ [])) (subst (In l.body) (sym (if_true (L.same_site h h) (l.body ∷ []) [] ((law.sites h h).1 refl))) (inl refl))))),
              rest (old ++ l ∷ []) (put L.same_site h n counts) (ready_more l qs all.1),
            )
        go (Some m) None e f rest = (waits_more s u old _ q (still m e all.0), rest old counts all.1)
        go (Some m) (Some k) e f rest = (waits_more s u old _ q (still m e all.0), rest old counts all.1)
