-- A site in the first phase of one client's transaction: how it is asked and votes, and what an end leaves there.
use Rattle.std.proofs.Common.{◌≡◌, refl, sym, ap, ◌∙◌, subst, ℕ, ◌==◌, ◌||◌, not, Bool, true, false, List, [], ◌∷◌, ◌++◌, if◌then◌else◌, Option, Some, None, is_some, ◌⊎◌, inl, inr, ⊎_elim}
use Rattle.std.proofs.lemmas.Bool.{eq-eqb}
use Rattle.protocol.specs.Language.{Lang, IsLawful, Name, same, put}
use Rattle.protocol.specs.Letter.{Vote, Yes, No, Read, Body, Open, Prepare, Commit, Ticket, Voted}
use Rattle.protocol.specs.Site.{Visit, Status, Dead, Active, Prepared, SiteState, Act, Prepares, Ends, is_prepared, on_letter, on_prepare, site_after, said}
use Rattle.protocol.specs.Desk.{Undecided, may_hold, voter_at, voters_of, commits}
use Rattle.protocol.specs.Parts.{In}
use Rattle.protocol.specs.VisitPlaces.{at, Unlocked, VisitPlace, away, asked, offered, works, Flow}
use Rattle.protocol.specs.AfterAbort.{Closed, Leaves, is_free, is_own, hears_commit, LeavingAt}
use Rattle.protocol.specs.Committing.{VotedBy, Ballot, is_aside, is_asked, has_voted, is_counted}
use Rattle.protocol.proofs.Basics.{in_flat, either, either_if, put_all, put_here, same_law, if_true, clash, by_test}

pub none_behind : {A : Type 0} (x y : A) (xs : List A) → x ∷ xs ≡ y ∷ [] → xs ≡ []
none_behind x y xs e = cc

-- the ticket that will hear Abort
abbrev pub Hears : Bool → Option Name → Option Vote → Name → Type 0
Hears b tk vote k = (b ≡ true) × (may_hold vote ≡ true) × (tk ≡ Some k)

module _ {L : Lang} (E : Type 0) where
  -- an excuse that was not needed
  pub counted_vote : (f : Name → Status L) (k : Name) (x : Vote) → (x ≡ No → ⊥) → VotedBy E f k x → VotedBy ⊥ f k x
  counted_vote f k Yes good by = by
  counted_vote f k Read good by = by
  counted_vote f k No good by = absurd (good refl)

  -- a site is asked to prepare
  module _ (s : SiteState L) (t k : Name) (tk : Option Name) (v : Visit L) (b : Bool) (vote : Option Vote) (visited : b ≡ true) (own : tk ≡ Some k) (none : vote ≡ None) (active : s.status k ≡ Active v) (free : (j : Name) → same j k ≡ false → Unlocked (s.status j)) where
    abbrev Asked : Act L → Type 0
    Asked act = Ballot E (site_after s act).status b tk vote (said s act)

    dead_free : (j : Name) → Unlocked (put same k Dead s.status j)
    dead_free = put_all same same_law k Dead s.status (λ j st. Unlocked st) tt free

    votes_read : Asked (Ends k (Voted k Read ∷ []))
    votes_read = has_voted k Read visited own none refl dead_free

    votes_no : E → Asked (Ends k (Voted k No ∷ []))
    votes_no excuse = has_voted k No visited own none refl (excuse, dead_free)

    votes_yes : Asked (Prepares k t v.changes)
    votes_yes = has_voted k Yes visited own none refl (
      ap is_prepared (put_here same same_law k (Prepared t v.changes) s.status),
      put_all same same_law k (Prepared t v.changes) s.status (λ j st. same j k ≡ false → Unlocked st) (λ other. clash ((same_law k k).1 refl) other) (λ j away_ other. free j other),
    )

    pub prepares : (kept : Bool) → (kept ≡ true) ⊎ E → Asked (on_letter s t kept (Prepare k v.done))
    prepares kept excuse = subst (λ st. Asked (on_prepare kept t k v.done st)) (sym active)
        (subst Asked (sym (if_true (v.done == v.done) _ (Ends k (Voted k No ∷ [])) (eq-eqb v.done v.done refl)))
        (either Asked (L.is_empty v.changes) _ _ votes_read
        (either_if Asked kept _ _ (λ is. votes_yes) (λ refused. ⊎_elim (λ is. clash is refused) votes_no excuse))))

  -- ---- from a statement
  pub begins_ballot : (f : Name → Status L) (b : Bool) (tk : Option Name) (n : ℕ) (bs more : List (Body L)) → VisitPlace f b tk n bs → bs ≡ [] → (b ≡ false → more ≡ []) → ((k : Name) → b ≡ true → tk ≡ Some k → more ≡ Prepare k n ∷ []) → Ballot E f b tk None (bs ++ more)
  begins_ballot f b tk n bs more (away s) silent none asks = is_aside s.unvisited refl (ap (λ x. x ++ more) silent ∙ none s.unvisited) s.free
  begins_ballot f b tk n bs more (asked s) silent none asks = let e : [] ≡ Open ∷ [] = sym silent ∙ s.waits in cc
  begins_ballot f b tk n bs more (offered k s) silent none asks = let e : [] ≡ Ticket k ∷ [] = sym silent ∙ s.waits in cc
  begins_ballot f b tk n bs more (works k s) silent none asks =
      is_asked k s.visit s.visited s.ticket refl (ap (λ x. x ++ more) silent ∙ asks k s.visited s.ticket ∙ ap (λ m. Prepare k m ∷ []) (sym (subst (Flow k s.visit.done n) silent s.flow))) s.active s.free

  -- ---- to an end
  locks_of : (O : Name → Type 0) (f : Name → Status L) (k : Name) (bs : List (Body L)) → O k → ((j : Name) → same j k ≡ false → Unlocked (f j)) → (j : Name) → Leaves O j (f j) bs
  locks_of O f k bs own free j = ⊎_elim (λ is. is_own (subst O (sym ((same_law j k).0 is)) own)) (λ other. is_free (free j other)) (by_test (same j k))

  pub ballot_leaving : (f : Name → Status L) (b : Bool) (tk : Option Name) (vote : Option Vote) (bs : List (Body L)) → Ballot E f b tk vote bs → LeavingAt (Hears b tk vote) f bs
  ballot_leaving f b tk vote bs (is_aside unvisited none silent free) = record { locks = λ j. is_free (free j); closed = subst (Closed (Hears b tk vote)) (sym silent) tt }
  ballot_leaving f b tk vote bs (is_asked k v visited own none waits active free) =
      let hears : Hears b tk vote k = (visited, ap may_hold none, own) in
      record { locks = locks_of (Hears b tk vote) f k bs hears free; closed = subst (Closed (Hears b tk vote)) (sym waits) (inl hears, tt) }
  ballot_leaving f b tk vote bs (has_voted k Yes visited own none waits by) = record { locks = locks_of (Hears b tk vote) f k bs (visited, ap may_hold none, own) by.1; closed = subst (Closed (Hears b tk vote)) (sym waits) tt }
  ballot_leaving f b tk vote bs (has_voted k Read visited own none waits by) = record { locks = λ j. is_free (by j); closed = subst (Closed (Hears b tk vote)) (sym waits) tt }
  ballot_leaving f b tk vote bs (has_voted k No visited own none waits by) = record { locks = λ j. is_free (by.1 j); closed = subst (Closed (Hears b tk vote)) (sym waits) tt }
  ballot_leaving f b tk vote bs (is_counted k Yes visited own is silent by) = record { locks = locks_of (Hears b tk vote) f k bs (visited, ap may_hold is, own) by.1; closed = subst (Closed (Hears b tk vote)) (sym silent) tt }
  ballot_leaving f b tk vote bs (is_counted k Read visited own is silent by) = record { locks = λ j. is_free (by j); closed = subst (Closed (Hears b tk vote)) (sym silent) tt }
  ballot_leaving f b tk vote bs (is_counted k No visited own is silent by) = absurd by.0

  -- all votes are in: only a site that voted Yes has locks, and its Commit goes out
  pub all_in_leaving : (f : Name → Status L) (b : Bool) (tk : Option Name) (vote : Option Vote) (bs more : List (Body L)) → Ballot E f b tk vote bs → (b ≡ true → is_some vote ≡ true) → ((k : Name) → b ≡ true → vote ≡ Some Yes → tk ≡ Some k → In (Commit k) more) → Closed (λ k. ⊥) more → LeavingAt (λ k. ⊥) f (bs ++ more)
  all_in_leaving f b tk vote bs more (is_aside unvisited none silent free) in_ hears closed = record { locks = λ j. is_free (free j); closed = subst (λ x. Closed (λ k. ⊥) (x ++ more)) (sym silent) closed }
  all_in_leaving f b tk vote bs more (is_asked k v visited own none waits active free) in_ hears closed = let e : false ≡ true = sym (ap is_some none) ∙ in_ visited in cc
  all_in_leaving f b tk vote bs more (has_voted k x visited own none waits by) in_ hears closed = let e : false ≡ true = sym (ap is_some none) ∙ in_ visited in cc
  all_in_leaving f b tk vote bs more (is_counted k Yes visited own is silent by) in_ hears closed = record {
    locks = λ j. ⊎_elim (λ same_. subst (λ i. Leaves (λ i. ⊥) i (f i) (bs ++ more)) (sym ((same_law j k).0 same_)) (commits_by by.0 (hears k visited is own))) (λ other. is_free (by.1 j other)) (by_test (same j k));
    closed = subst (λ x. Closed (λ k. ⊥) (x ++ more)) (sym silent) closed;
  }
    where
      commits_by : is_prepared (f k) ≡ true → In (Commit k) more → Leaves (λ i. ⊥) k (f k) (bs ++ more)
      commits_by row here = hears_commit row (subst (λ x. In (Commit k) (x ++ more)) (sym silent) here)
  all_in_leaving f b tk vote bs more (is_counted k Read visited own is silent by) in_ hears closed = record { locks = λ j. is_free (by j); closed = subst (λ x. Closed (λ k. ⊥) (x ++ more)) (sym silent) closed }
  all_in_leaving f b tk vote bs more (is_counted k No visited own is silent by) in_ hears closed = absurd by.0

  -- nothing waits: the vote is in
  pub silent_in : (f : Name → Status L) (b : Bool) (tk : Option Name) (vote : Option Vote) (bs : List (Body L)) → Ballot E f b tk vote bs → bs ≡ [] → (not b || is_some vote) ≡ true
  silent_in f b tk vote bs (is_aside unvisited none silent free) e = rw unvisited refl
  silent_in f b tk vote bs (is_asked k v visited own none waits active free) e = let f : [] ≡ Prepare k v.done ∷ [] = sym e ∙ waits in cc
  silent_in f b tk vote bs (has_voted k x visited own none waits by) e = let f : [] ≡ Voted k x ∷ [] = sym e ∙ waits in cc
  silent_in f b tk vote bs (is_counted k x visited own is silent by) e = rw (visited, is) refl

-- ---- voters
pub in_votes : (b : Bool) (vote : Option Vote) → (not b || is_some vote) ≡ true → b ≡ true → is_some vote ≡ true
in_votes true vote e is = e
in_votes false vote e is = cc

module _ {L : Lang} where
  -- a visited site that voted Yes is a voter
  pub is_voter : (u : Undecided L) (votes : L.Site → Option Vote) (a : L.Site) (k : Name) → In a L.sites → u.visited a ≡ true → votes a ≡ Some Yes → u.ticket a ≡ Some k → In (a, k) (voters_of u votes)
  is_voter u votes a k here visited is own = in_flat (λ b. if u.visited b then voter_at b (votes b) (u.ticket b) else []) a (a, k) L.sites here
      (subst (λ x. In (a, k) (if x then voter_at a (votes a) (u.ticket a) else [])) (sym visited) (subst (λ x. In (a, k) (voter_at a x (u.ticket a))) (sym is) (subst (λ x. In (a, k) (voter_at a (Some Yes) x)) (sym own) (inl refl))))

  -- its Commit goes out
  pub commit_out : IsLawful L → (t : Name) (a : L.Site) (k : Name) (voters : List (L.Site × Name)) → In (a, k) voters → In (Commit k) (at {L = L} a (commits t voters))
  commit_out law t a k [] here = absurd here
  commit_out law t a k (v ∷ voters) (inl e) = subst (In (Commit k)) (sym (if_true (L.same_site a v.0) (Commit v.1 ∷ at a (commits t voters)) (at a (commits t voters)) ((law.sites a v.0).1 (ap (λ x. x.0) e)))) (inl (ap (λ x. Commit x.1) e))
  commit_out law t a k (v ∷ voters) (inr below) = either (λ bs. In (Commit k) bs) (L.same_site a v.0) (Commit v.1 ∷ at a (commits t voters)) (at a (commits t voters)) (inr (commit_out law t a k voters below)) (commit_out law t a k voters below)
