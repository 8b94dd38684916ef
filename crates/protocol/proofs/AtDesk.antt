-- One client's statement, letter by letter: each site stays at one of its places.
use Rattle.std.proofs.Common.{◌≡◌, refl, sym, ap, ap₂, ◌∙◌, subst, ℕ, not, ◌||◌, Bool, true, false, List, [], ◌∷◌, ◌++◌, Option, Some, None, inl, inr, ⊎_elim, append_assoc, append-nil}
use Rattle.std.specs.List.{list_any, cons_option}
use Rattle.std.specs.Option.{option_map}
use Rattle.protocol.specs.Language.{Lang, IsLawful, Name, same}
use Rattle.protocol.specs.Letter.{Body, Open, Letter, letters_to, is_for_desk}
use Rattle.protocol.specs.Site.{Status, on_letter, site_after, said}
use Rattle.protocol.specs.Desk.{Ask, Stage, Undecided, Known, Deed, is_undecided, is_new, opening, opens, visits, asks_out, writes_out}
use Rattle.protocol.specs.World.{World, addressed, with_site, turned}
pub use Rattle.protocol.specs.StatementCourse.{Stands}
use Rattle.protocol.proofs.Basics.{Every, In, every_append, every_map, put_all, same_law, if_true, if_false, by_test, clash, some_is, left_true, right_true, found, or_cases}
use Rattle.protocol.proofs.Locks.{Once}
use Rattle.protocol.proofs.Turns.{every_letter}
use Rattle.protocol.proofs.Going.{asks_each, writes_each}
use Rattle.protocol.proofs.Queue.{at, at_append, at_here, at_away, OutAt, VisitPlace, spot_out, spot_open, asks_at, writes_at}
use Rattle.protocol.proofs.AtSite.{Room, moved}

module _ {L : Lang} where
  -- a body, or none
  abbrev pub bodies_of : Option (Body L) → List (Body L)
  bodies_of None = []
  bodies_of (Some b) = b ∷ []

  -- a turn that goes on with the statement
  pub record Goes (t : Name) (u v : Undecided L) (letters : List (Letter L)) : Type 0 where
    pub own : Every (λ l. l.txn ≡ t) letters
    pub among : ((a : L.Site) → u.visited a ≡ true → In a L.sites) → (a : L.Site) → v.visited a ≡ true → In a L.sites
    pub spots : (a : L.Site) (f : Name → Status L) (bs : List (Body L)) → VisitPlace f (u.visited a) (u.ticket a) (u.sent a) bs → VisitPlace f (v.visited a) (v.ticket a) (v.sent a) (bs ++ at a letters)

  -- the coordinator's turn
  pub turn_stands : (t : Name) (u v : Undecided L) (w : World L) (letters : List (Letter L)) (deeds : List (Deed L)) → Stands t u w → Goes t u v letters → Stands t v (turned w t (record { txn = Known v; letters = letters; deeds = deeds }))
  turn_stands t u v w letters deeds stands goes = record {
    alone = every_append (λ l. l.txn ≡ t) w.letters letters stands.alone goes.own;
    others = put_all same same_law t (Known v) w.desk.txn (λ j x. same j t ≡ false → is_undecided x ≡ false) (λ other. clash ((same_law t t).1 refl) other) (λ j away other. stands.others j other);
    among = goes.among stands.among;
    spots = λ a. subst (VisitPlace (w.sites a).status (v.visited a) (v.ticket a) (v.sent a)) (sym (at_append a w.letters letters)) (goes.spots a (w.sites a).status (at a w.letters) (stands.spots a));
  }

  -- nothing is said to a site
  pub at_unsaid : (t : Name) (says : L.Site → Option (Body L)) (a : L.Site) (sites : List L.Site) → ((b : L.Site) → In b sites → L.same_site a b ≡ true → says b ≡ None) → at a (letters_to t says sites) ≡ []
  at_unsaid t says a [] none = refl
  at_unsaid t says a (b ∷ sites) none = go (says b) refl (at_unsaid t says a sites (λ c here. none c (inr here)))
    where
      go : (o : Option (Body L)) → says b ≡ o → at a (letters_to t says sites) ≡ [] → at a (cons_option (option_map (λ (body : Body L). record { site = b; txn = t; body = body }) o) (letters_to t says sites)) ≡ []
      go None e rest = rest
      go (Some c) e rest = ⊎_elim (λ is. (let f : None ≡ Some c = sym (none b (inl refl) is) ∙ e in cc)) (λ away. if_false (L.same_site a b) (c ∷ at a (letters_to t says sites)) (at a (letters_to t says sites)) away ∙ rest) (by_test (L.same_site a b))

  module _ (law : IsLawful L) where
    -- something is said to it once
    pub at_said : (t : Name) (says : L.Site → Option (Body L)) (a : L.Site) (c : Body L) (sites : List L.Site) → In a sites → Once sites → says a ≡ Some c → at a (letters_to t says sites) ≡ c ∷ []
    at_said t says a c [] here once e = absurd here
    at_said t says a c (b ∷ sites) (inl is) once e =
        go (says b) (ap says (sym is) ∙ e) (at_none (λ i. if_apart b sites is once.0 i))
      where
        at_none : ((i : L.Site) → In i sites → L.same_site a i ≡ false) → at a (letters_to t says sites) ≡ []
        at_none apart = at_apart sites apart
          where
            at_apart : (sites : List L.Site) → ((i : L.Site) → In i sites → L.same_site a i ≡ false) → at a (letters_to t says sites) ≡ []
            at_apart sites apart = at_unsaid t says a sites (λ i here same_. clash same_ (apart i here))

        if_apart : (b : L.Site) (sites : List L.Site) → a ≡ b → (In b sites → ⊥) → (i : L.Site) → In i sites → L.same_site a i ≡ false
        if_apart b sites is off i here = ⊎_elim (λ same_. absurd (off (subst (λ x. In x sites) (sym ((law.sites a i).0 same_) ∙ is) here))) (λ away. away) (by_test (L.same_site a i))

        go : (o : Option (Body L)) → o ≡ Some c → at a (letters_to t says sites) ≡ [] → at a (cons_option (option_map (λ (body : Body L). record { site = b; txn = t; body = body }) o) (letters_to t says sites)) ≡ c ∷ []
        go None f rest = cc
        go (Some d) f rest = if_true (L.same_site a b) (d ∷ at a (letters_to t says sites)) (at a (letters_to t says sites)) ((law.sites a b).1 is) ∙ ap₂ (λ x y. x ∷ y) (some_is f) rest
    at_said t says a c (b ∷ sites) (inr below) once e =
        go (says b) (at_said t says a c sites below once.1 e)
      where
        apart : L.same_site a b ≡ false
        apart = ⊎_elim (λ is. absurd (once.0 (subst (λ x. In x sites) ((law.sites a b).0 is) below))) (λ away. away) (by_test (L.same_site a b))

        go : (o : Option (Body L)) → at a (letters_to t says sites) ≡ c ∷ [] → at a (cons_option (option_map (λ (body : Body L). record { site = b; txn = t; body = body }) o) (letters_to t says sites)) ≡ c ∷ []
        go None rest = rest
        go (Some d) rest = if_false (L.same_site a b) (d ∷ at a (letters_to t says sites)) (at a (letters_to t says sites)) apart ∙ rest

    -- an Open to each new site
    open_step : (f : Name → Status L) (tk : Option Name) (n : ℕ) (bs out : List (Body L)) (x c : Bool) → (x ≡ true → c ≡ false) → (x ≡ true → out ≡ Open ∷ []) → (x ≡ false → out ≡ []) → VisitPlace f c tk n bs → VisitPlace f (c || x) tk n (bs ++ out)
    open_step f tk n bs out true true new one none spot = let e : true ≡ false = new refl in cc
    open_step f tk n bs out true false new one none spot = subst (λ z. VisitPlace f true tk n (bs ++ z)) (sym (one refl)) (spot_open f tk n bs spot)
    open_step f tk n bs out false true new one none spot = subst (VisitPlace f true tk n) (sym (ap (λ z. bs ++ z) (none refl) ∙ append-nil bs)) spot
    open_step f tk n bs out false false new one none spot = subst (VisitPlace f false tk n) (sym (ap (λ z. bs ++ z) (none refl) ∙ append-nil bs)) spot

    module _ (once : Once L.sites) (t : Name) (u : Undecided L) (leaves : List L.Leaf) (homes : (g : L.Leaf) → In g leaves → In (L.home g) L.sites) where
      opens_at_new : (a : L.Site) → is_new u leaves a ≡ true → at a (opens t u leaves) ≡ Open ∷ []
      opens_at_new a new =
          let g = found (λ g. L.same_site (L.home g) a) leaves (right_true (not (u.visited a)) (list_any (λ g. L.same_site (L.home g) a) leaves) new) in
          at_said t (λ b. opening (is_new u leaves b)) a Open L.sites (subst (λ b. In b L.sites) ((law.sites (L.home g.0) a).0 g.2) (homes g.0 g.1)) once (ap opening new)

      opens_at_old : (a : L.Site) → is_new u leaves a ≡ false → at a (opens t u leaves) ≡ []
      opens_at_old a old = at_unsaid t (λ b. opening (is_new u leaves b)) a L.sites (λ b here is. ap opening (ap (is_new u leaves) (sym ((law.sites a b).0 is)) ∙ old))

      -- new sites are visited, operations go out
      pub goes_on : (sent : L.Site → ℕ) (stage : Stage L) (out : List (Letter L)) → Every (λ l. l.txn ≡ t) out → ((a : L.Site) → OutAt (u.ticket a) (u.sent a) (sent a) (at a out)) → Goes t u (record (visits u leaves) { sent = sent; stage = stage }) (opens t u leaves ++ out)
      goes_on sent stage out own outs = record {
        own = every_append (λ l. l.txn ≡ t) (opens t u leaves) out (every_letter (λ l. l.txn ≡ t) t (λ a. opening (is_new u leaves a)) L.sites (λ a b here e. refl)) own;
        among = λ old a is. ⊎_elim (old a) (λ new. (let g = found (λ g. L.same_site (L.home g) a) leaves (right_true (not (u.visited a)) (list_any (λ g. L.same_site (L.home g) a) leaves) new) in subst (λ b. In b L.sites) ((law.sites (L.home g.0) a).0 g.2) (homes g.0 g.1))) (or_cases (u.visited a) (is_new u leaves a) is);
        spots = λ a f bs spot.
            let first = open_step f (u.ticket a) (u.sent a) bs (at a (opens t u leaves)) (is_new u leaves a) (u.visited a) (λ new. unvisited a new) (opens_at_new a) (opens_at_old a) spot in
            subst (VisitPlace f (u.visited a || is_new u leaves a) (u.ticket a) (sent a)) (append_assoc bs (at a (opens t u leaves)) (at a out) ∙ ap (λ x. bs ++ x) (sym (at_append a (opens t u leaves) out)))
            (spot_out f (u.visited a || is_new u leaves a) (u.ticket a) (u.sent a) (sent a) (bs ++ at a (opens t u leaves)) (at a out) first (outs a));
      }
        where
          unvisited : (a : L.Site) → is_new u leaves a ≡ true → u.visited a ≡ false
          unvisited a new = not_is (u.visited a) (left_true (not (u.visited a)) (list_any (λ g. L.same_site (L.home g) a) leaves) new)
            where
              not_is : (x : Bool) → not x ≡ true → x ≡ false
              not_is true e = cc
              not_is false e = refl

    -- sites are visited, letters go first, and operations go out
    pub record First (t : Name) (u : Undecided L) (visited : L.Site → Bool) (letters : List (Letter L)) : Type 0 where
      pub goes : (counts : L.Site → ℕ) (stage : Stage L) (out : List (Letter L)) → Every (λ l. l.txn ≡ t) out → ((a : L.Site) → OutAt (u.ticket a) (u.sent a) (counts a) (at a out)) → Goes t u (record u { visited = visited; sent = counts; stage = stage }) (letters ++ out)

    -- nobody new, and no letter
    pub first_none : (t : Name) (u : Undecided L) → First t u u.visited []
    first_none t u = record { goes = λ counts stage out own outs. record { own = own; among = λ old. old; spots = λ a f bs spot. spot_out f (u.visited a) (u.ticket a) (u.sent a) (counts a) bs (at a out) spot (outs a) } }

    -- Opens to the new sites of these leaves
    pub first_opens : Once L.sites → (t : Name) (u : Undecided L) (leaves : List L.Leaf) → ((g : L.Leaf) → In g leaves → In (L.home g) L.sites) → First t u (visits u leaves).visited (opens t u leaves)
    first_opens once t u leaves homes = record { goes = goes_on once t u leaves homes }

    -- fetches go out
    pub asks_goes : (t : Name) (u : Undecided L) (visited : L.Site → Bool) (letters : List (Letter L)) → First t u visited letters → (asks : List (Ask L)) (stage : Stage L) →
        Goes t u (record u { visited = visited; sent = (asks_out t u.ticket asks u.sent).sent; stage = stage }) (letters ++ (asks_out t u.ticket asks u.sent).letters)
    asks_goes t u visited letters first asks stage = first.goes _ stage _ (asks_each (λ l. l.txn ≡ t) t u.ticket (λ g q k n e. refl) asks u.sent) (λ a. asks_at law t u.ticket a asks u.sent)

    -- writes go out
    pub writes_goes : (t : Name) (u : Undecided L) (visited : L.Site → Bool) (letters : List (Letter L)) → First t u visited letters → (ws : List (L.Leaf × L.Write)) (stage : Stage L) →
        Goes t u (record u { visited = visited; sent = (writes_out {L = L} t u.ticket ws u.sent).sent; stage = stage }) (letters ++ (writes_out {L = L} t u.ticket ws u.sent).letters)
    writes_goes t u visited letters first ws stage = first.goes _ stage _ (writes_each (λ l. l.txn ≡ t) t u.ticket (λ g x k n e. refl) ws u.sent) (λ a. writes_at law t u.ticket a ws u.sent)

    -- a letter that waits in front comes to its site, and its store call is kept
    pub site_stands : (bare : (g : L.Leaf) → L.touches g L.none ≡ false) (t : Name) (u : Undecided L) (w : World L) (l : Letter L) (q : List (Letter L)) → w.letters ≡ l ∷ q → Stands t u w → is_for_desk l.body ≡ false → Room (w.sites l.site) l.body →
        let act = on_letter (w.sites l.site) l.txn true l.body in
        Stands t u (with_site (record w { letters = q }) l.site (site_after (w.sites l.site) act) (addressed l.site l.txn (said (w.sites l.site) act)))
    site_stands bare t u w l q e stands to_site room =
        let act = on_letter (w.sites l.site) l.txn true l.body in
        let replies = said (w.sites l.site) act in
        let alone = subst (Every (λ x. x.txn ≡ t)) e stands.alone in
        record {
          alone = every_append (λ x. x.txn ≡ t) q (addressed l.site l.txn replies) alone.1 (every_map (λ x. x.txn ≡ t) _ replies (λ b. alone.0));
          others = stands.others;
          among = stands.among;
          spots = put_all L.same_site law.sites l.site (site_after (w.sites l.site) act) w.sites (λ a s. VisitPlace s.status (u.visited a) (u.ticket a) (u.sent a) (at a (q ++ addressed l.site l.txn replies)))
              (let now = moved bare (w.sites l.site) l.txn (u.visited l.site) (u.ticket l.site) (u.sent l.site) l.body (at l.site q) to_site room
              (subst (VisitPlace (w.sites l.site).status (u.visited l.site) (u.ticket l.site) (u.sent l.site)) (ap (at l.site) e ∙ if_true (L.same_site l.site l.site) (l.body ∷ at l.site q) (at l.site q) ((law.sites l.site l.site).1 refl)) (stands.spots l.site)) in
              subst (VisitPlace (site_after (w.sites l.site) act).status (u.visited l.site) (u.ticket l.site) (u.sent l.site))
              (sym (at_append l.site q (addressed l.site l.txn replies) ∙ ap (λ x. at l.site q ++ x) (at_here l.site l.site l.txn replies ((law.sites l.site l.site).1 refl)))) now)
              (λ a other. subst (VisitPlace (w.sites a).status (u.visited a) (u.ticket a) (u.sent a))
              (ap (at a) e ∙ if_false (L.same_site a l.site) (l.body ∷ at a q) (at a q) other ∙ sym (at_append a q (addressed l.site l.txn replies) ∙ ap (λ x. at a q ++ x) (at_away a l.site l.txn replies other) ∙ append-nil (at a q))) (stands.spots a));
        }
