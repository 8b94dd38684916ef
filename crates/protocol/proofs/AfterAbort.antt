-- A site that is being left: no letter gives anybody a lock that stays.
use Rattle.std.proofs.Common.{◌≡◌, refl, sym, ap, subst, ℕ, suc, ◌==◌, Bool, true, false, List, [], ◌∷◌, ◌++◌, ◌⊎◌, inl, inr, ⊎_elim}
use Rattle.std.specs.Prelude.{⊤}
use Rattle.protocol.specs.Language.{Lang, Name, same, put}
use Rattle.protocol.specs.Letter.{Body, Open, Fetch, Write, Prepare, Commit, Abort, Ticket, Rows, Refused, Voted, Ack, Inquire, Lock, Full, Gone, Yes, No, Read}
use Rattle.protocol.specs.Site.{Visit, Status, Dead, Active, Prepared, SiteState, Act, Says, Opens, Locks, is_prepared, others_exclusive, next_ticket, new_visit, on_letter, on_fetch, on_write, on_prepare, on_commit, on_abort, sees, site_after, said}
use Rattle.protocol.specs.VisitPlaces.{Unlocked}
use Rattle.protocol.specs.AfterAbort.{Closed, Leaves, is_free, is_own, hears_abort, hears_commit, LeavingAt, EndKept}
use Rattle.protocol.proofs.Basics.{Every, In, in_left, either, put_all, same_law, by_test, clash}
use Rattle.protocol.proofs.AtSite.{sees_unlocked}

module _ {L : Lang} where
  -- no operation
  abbrev pub NoOp : Body L → Type 0
  NoOp (Fetch k op g q) = ⊥
  NoOp (Write k op g x) = ⊥
  NoOp (Prepare k n) = ⊥
  NoOp body = ⊤

  -- it says nothing of an end
  abbrev pub NoEnd : Body L → Type 0
  NoEnd (Commit k) = ⊥
  NoEnd (Abort k) = ⊥
  NoEnd body = ⊤

  module _ (O : Name → Type 0) where
    or_more : (k : Name) (bs more : List (Body L)) → O k ⊎ In (Abort k) bs → O k ⊎ In (Abort k) (bs ++ more)
    or_more k bs more (inl own) = inl own
    or_more k bs more (inr here) = inr (in_left (Abort k) bs more here)

    pub closed_append : (bs more : List (Body L)) → Closed O bs → Closed O more → Closed O (bs ++ more)
    closed_append [] more closed rest = rest
    closed_append (Fetch k op g q ∷ bs) more closed rest = (or_more k bs more closed.0, closed_append bs more closed.1 rest)
    closed_append (Write k op g x ∷ bs) more closed rest = (or_more k bs more closed.0, closed_append bs more closed.1 rest)
    closed_append (Prepare k n ∷ bs) more closed rest = (or_more k bs more closed.0, closed_append bs more closed.1 rest)
    closed_append (Open ∷ bs) more closed rest = closed_append bs more closed rest
    closed_append (Commit k ∷ bs) more closed rest = closed_append bs more closed rest
    closed_append (Abort k ∷ bs) more closed rest = closed_append bs more closed rest
    closed_append (Ticket k ∷ bs) more closed rest = closed_append bs more closed rest
    closed_append (Rows k n rows ∷ bs) more closed rest = closed_append bs more closed rest
    closed_append (Refused k reason ∷ bs) more closed rest = closed_append bs more closed rest
    closed_append (Voted k x ∷ bs) more closed rest = closed_append bs more closed rest
    closed_append (Ack k ∷ bs) more closed rest = closed_append bs more closed rest
    closed_append (Inquire k ∷ bs) more closed rest = closed_append bs more closed rest

    pub closed_none : (bs : List (Body L)) → Every NoOp bs → Closed O bs
    closed_none [] none = tt
    closed_none (Fetch k op g q ∷ bs) none = absurd none.0
    closed_none (Write k op g x ∷ bs) none = absurd none.0
    closed_none (Prepare k n ∷ bs) none = absurd none.0
    closed_none (Open ∷ bs) none = closed_none bs none.1
    closed_none (Commit k ∷ bs) none = closed_none bs none.1
    closed_none (Abort k ∷ bs) none = closed_none bs none.1
    closed_none (Ticket k ∷ bs) none = closed_none bs none.1
    closed_none (Rows k n rows ∷ bs) none = closed_none bs none.1
    closed_none (Refused k reason ∷ bs) none = closed_none bs none.1
    closed_none (Voted k x ∷ bs) none = closed_none bs none.1
    closed_none (Ack k ∷ bs) none = closed_none bs none.1
    closed_none (Inquire k ∷ bs) none = closed_none bs none.1

    pub closed_rest : (c : Body L) (bs : List (Body L)) → Closed O (c ∷ bs) → Closed O bs
    closed_rest (Fetch k op g q) bs closed = closed.1
    closed_rest (Write k op g x) bs closed = closed.1
    closed_rest (Prepare k n) bs closed = closed.1
    closed_rest Open bs closed = closed
    closed_rest (Commit k) bs closed = closed
    closed_rest (Abort k) bs closed = closed
    closed_rest (Ticket k) bs closed = closed
    closed_rest (Rows k n rows) bs closed = closed
    closed_rest (Refused k reason) bs closed = closed
    closed_rest (Voted k x) bs closed = closed
    closed_rest (Ack k) bs closed = closed
    closed_rest (Inquire k) bs closed = closed

    pub leaves_more : (k : Name) (st : Status L) (bs more : List (Body L)) → Leaves O k st bs → Leaves O k st (bs ++ more)
    leaves_more k st bs more (is_free free) = is_free free
    leaves_more k st bs more (is_own own) = is_own own
    leaves_more k st bs more (hears_abort here) = hears_abort (in_left (Abort k) bs more here)
    leaves_more k st bs more (hears_commit row here) = hears_commit row (in_left (Commit k) bs more here)

    leaves_seen : (k : Name) (g : L.Leaf) (st : Status L) (bs : List (Body L)) → Leaves O k st bs → Leaves O k (sees g st) bs
    leaves_seen k g st bs (is_free free) = is_free (sees_unlocked g st free)
    leaves_seen k g st bs (is_own own) = is_own own
    leaves_seen k g st bs (hears_abort here) = hears_abort here
    leaves_seen k g Dead bs (hears_commit row here) = hears_commit row here
    leaves_seen k g (Active v) bs (hears_commit row here) = let e : false ≡ true = row in cc
    leaves_seen k g (Prepared t i) bs (hears_commit row here) = hears_commit row here

    -- a letter that says nothing of an end is gone
    pub leaves_rest : (k : Name) (st : Status L) (c : Body L) (bs : List (Body L)) → NoEnd c → Leaves O k st (c ∷ bs) → Leaves O k st bs
    leaves_rest k st c bs none (is_free free) = is_free free
    leaves_rest k st c bs none (is_own own) = is_own own
    leaves_rest k st c bs none (hears_abort (inl e)) = absurd (subst NoEnd (sym e) none)
    leaves_rest k st c bs none (hears_abort (inr below)) = hears_abort below
    leaves_rest k st c bs none (hears_commit row (inl e)) = absurd (subst NoEnd (sym e) none)
    leaves_rest k st c bs none (hears_commit row (inr below)) = hears_commit row below

    -- one of another ticket is
    other_abort : (j k : Name) (st : Status L) (bs : List (Body L)) → same j k ≡ false → Leaves O j st (Abort k ∷ bs) → Leaves O j st bs
    other_abort j k st bs other (is_free free) = is_free free
    other_abort j k st bs other (is_own own) = is_own own
    other_abort j k st bs other (hears_abort (inl e)) = clash ((same_law j k).1 cc) other
    other_abort j k st bs other (hears_abort (inr below)) = hears_abort below
    other_abort j k st bs other (hears_commit row (inl e)) = cc
    other_abort j k st bs other (hears_commit row (inr below)) = hears_commit row below

    other_commit : (j k : Name) (st : Status L) (bs : List (Body L)) → same j k ≡ false → Leaves O j st (Commit k ∷ bs) → Leaves O j st bs
    other_commit j k st bs other (is_free free) = is_free free
    other_commit j k st bs other (is_own own) = is_own own
    other_commit j k st bs other (hears_abort (inl e)) = cc
    other_commit j k st bs other (hears_abort (inr below)) = hears_abort below
    other_commit j k st bs other (hears_commit row (inl e)) = clash ((same_law j k).1 cc) other
    other_commit j k st bs other (hears_commit row (inr below)) = hears_commit row below

    -- a Commit to a ticket that isn't prepared
    no_commit : (j k : Name) (st : Status L) (bs : List (Body L)) → is_prepared st ≡ false → Leaves O j st (Commit k ∷ bs) → Leaves O j st bs
    no_commit j k st bs none (is_free free) = is_free free
    no_commit j k st bs none (is_own own) = is_own own
    no_commit j k st bs none (hears_abort (inl e)) = cc
    no_commit j k st bs none (hears_abort (inr below)) = hears_abort below
    no_commit j k st bs none (hears_commit row here) = clash row none

    pub leaving_lost : (f : Name → Status L) (c : Body L) (bs : List (Body L)) → NoEnd c → LeavingAt O f (c ∷ bs) → LeavingAt O f bs
    leaving_lost f c bs none leaving = record { locks = λ k. leaves_rest k (f k) c bs none (leaving.locks k); closed = closed_rest c bs leaving.closed }

    pub leaving_more : (f : Name → Status L) (bs more : List (Body L)) → Closed O more → LeavingAt O f bs → LeavingAt O f (bs ++ more)
    leaving_more f bs more none leaving = record { locks = λ k. leaves_more k (f k) bs more (leaving.locks k); closed = closed_append bs more leaving.closed none }

    -- ---- what a site does
    module _ (s : SiteState L) (bs : List (Body L)) where
      abbrev After : Act L → Type 0
      After act = LeavingAt O (site_after s act).status (bs ++ said s act)

      -- a letter that says nothing of an end. rest and closed: what is known without it
      module _ (rest : (k : Name) → Leaves O k (s.status k) bs) (closed : Closed O bs) where
        says_left : (replies : List (Body L)) → Closed O replies → After (Says replies)
        says_left replies none = record { locks = λ k. leaves_more k (s.status k) bs replies (rest k); closed = closed_append bs replies closed none }

        -- a ticket has another status
        put_left : (k : Name) (st : Status L) (replies : List (Body L)) → Closed O replies → Leaves O k st bs → LeavingAt O (put same k st s.status) (bs ++ replies)
        put_left k st replies none here = record {
          locks = put_all same same_law k st s.status (λ j x. Leaves O j x (bs ++ replies)) (leaves_more k st bs replies here) (λ j other. leaves_more j (s.status j) bs replies (rest j));
          closed = closed_append bs replies closed none;
        }

        -- its Abort comes behind
        by_abort : (k : Name) (st : Status L) → O k ⊎ In (Abort k) bs → Leaves O k st bs
        by_abort k st (inl own) = is_own own
        by_abort k st (inr here) = hears_abort here

        locks_left : (k : Name) (v : Visit L) (g : L.Leaf) (replies : List (Body L)) → Closed O replies → O k ⊎ In (Abort k) bs → After (Locks k v g replies)
        locks_left k v g replies none ends = record {
          locks = put_all same same_law k (Active v) (λ j. sees g (s.status j)) (λ j x. Leaves O j x (bs ++ replies)) (leaves_more k (Active v) bs replies (by_abort k (Active v) ends)) (λ j other. leaves_more j (sees g (s.status j)) bs replies (leaves_seen j g (s.status j) bs (rest j)));
          closed = closed_append bs replies closed none;
        }

        fetch_left : (kept : Bool) (k : Name) (op : ℕ) (g : L.Leaf) (q : L.Query) → O k ⊎ In (Abort k) bs → (st : Status L) → After (on_fetch s kept k op g q st)
        fetch_left kept k op g q ends Dead = says_left (Refused k Gone ∷ []) tt
        fetch_left kept k op g q ends (Prepared t i) = says_left [] tt
        fetch_left kept k op g q ends (Active v) = either After (op == suc v.done) _ _ (either After (others_exclusive s k g) _ _ (put_left k Dead (Refused k Lock ∷ []) tt (is_free tt)) (either After kept _ _ (locks_left k (record v { done = op; shared = put L.same_leaf g true v.shared }) g (Rows k op (L.parts q (L.changed g v.changes (s.kept g))) ∷ []) tt ends) (says_left [] tt))) (says_left [] tt)

        write_left : (k : Name) (op : ℕ) (g : L.Leaf) (x : L.Write) → O k ⊎ In (Abort k) bs → (st : Status L) → After (on_write k op g x st)
        write_left k op g x ends Dead = says_left [] tt
        write_left k op g x ends (Prepared t i) = says_left [] tt
        write_left k op g x ends (Active v) = either After (op == suc v.done) _ _ (either After (v.foreign g) _ _ (put_left k Dead (Refused k Lock ∷ []) tt (is_free tt)) (either After (L.is_full g x v.changes) _ _ (put_left k Dead (Refused k Full ∷ []) tt (is_free tt)) (locks_left k (record v { done = op; changes = L.add g x v.changes }) g [] tt ends))) (says_left [] tt)

        prepare_left : (kept : Bool) (t k : Name) (n : ℕ) → O k ⊎ In (Abort k) bs → (st : Status L) → After (on_prepare kept t k n st)
        prepare_left kept t k n ends Dead = says_left (Voted k No ∷ []) tt
        prepare_left kept t k n ends (Prepared j i) = says_left (Voted k Yes ∷ []) tt
        prepare_left kept t k n ends (Active v) = either After (v.done == n) _ _ (either After (L.is_empty v.changes) _ _ (put_left k Dead (Voted k Read ∷ []) tt (is_free tt)) (either After kept _ _ (put_left k (Prepared t v.changes) (Voted k Yes ∷ []) tt (by_abort k (Prepared t v.changes) ends)) (put_left k Dead (Voted k No ∷ []) tt (is_free tt)))) (put_left k Dead (Voted k No ∷ []) tt (is_free tt))

        open_left : (bare : (g : L.Leaf) → L.touches g L.none ≡ false) → After Opens
        open_left bare = put_left (next_ticket s) (Active (new_visit s)) (Ticket (next_ticket s) ∷ []) tt (is_free (λ g. bare g))

      -- a ticket dies by a letter that says its end
      dies_left : (k : Name) (replies : List (Body L)) → Closed O replies → Closed O bs → ((j : Name) → same j k ≡ false → Leaves O j (s.status j) bs) → LeavingAt O (put same k Dead s.status) (bs ++ replies)
      dies_left k replies none closed rest = record {
        locks = put_all same same_law k Dead s.status (λ j x. Leaves O j x (bs ++ replies)) (is_free tt) (λ j other. leaves_more j (s.status j) bs replies (rest j other));
        closed = closed_append bs replies closed none;
      }

      stays_left : (k : Name) (replies : List (Body L)) → Closed O replies → Closed O bs → Leaves O k (s.status k) bs → ((j : Name) → same j k ≡ false → Leaves O j (s.status j) bs) → LeavingAt O s.status (bs ++ replies)
      stays_left k replies none closed here rest = record {
        locks = λ j. ⊎_elim (λ is. subst (λ i. Leaves O i (s.status i) (bs ++ replies)) (sym ((same_law j k).0 is)) (leaves_more k (s.status k) bs replies here)) (λ other. leaves_more j (s.status j) bs replies (rest j other)) (by_test (same j k));
        closed = closed_append bs replies closed none;
      }

      commit_left : (k : Name) → LeavingAt O s.status (Commit k ∷ bs) → (st : Status L) → s.status k ≡ st → After (on_commit true k st)
      commit_left k leaving Dead e = stays_left k (Ack k ∷ []) tt leaving.closed (no_commit k k (s.status k) bs (ap is_prepared e) (leaving.locks k)) (λ j other. other_commit j k (s.status j) bs other (leaving.locks j))
      commit_left k leaving (Active v) e = stays_left k (Ack k ∷ []) tt leaving.closed (no_commit k k (s.status k) bs (ap is_prepared e) (leaving.locks k)) (λ j other. other_commit j k (s.status j) bs other (leaving.locks j))
      commit_left k leaving (Prepared t i) e = dies_left k (Ack k ∷ []) tt leaving.closed (λ j other. other_commit j k (s.status j) bs other (leaving.locks j))

      abort_left : (k : Name) → LeavingAt O s.status (Abort k ∷ bs) → (st : Status L) → s.status k ≡ st → After (on_abort true k st)
      abort_left k leaving Dead e = stays_left k [] tt leaving.closed (is_free (subst Unlocked (sym e) tt)) (λ j other. other_abort j k (s.status j) bs other (leaving.locks j))
      abort_left k leaving (Active v) e = dies_left k [] tt leaving.closed (λ j other. other_abort j k (s.status j) bs other (leaving.locks j))
      abort_left k leaving (Prepared t i) e = dies_left k [] tt leaving.closed (λ j other. other_abort j k (s.status j) bs other (leaving.locks j))

      -- each letter at its site
      pub left : (bare : (g : L.Leaf) → L.touches g L.none ≡ false) (t : Name) (kept : Bool) (c : Body L) → EndKept kept c → LeavingAt O s.status (c ∷ bs) → After (on_letter s t kept c)
      left bare t kept Open end leaving = open_left (λ k. leaves_rest k (s.status k) Open bs tt (leaving.locks k)) leaving.closed bare
      left bare t kept (Fetch k op g q) end leaving = fetch_left (λ j. leaves_rest j (s.status j) (Fetch k op g q) bs tt (leaving.locks j)) leaving.closed.1 kept k op g q leaving.closed.0 (s.status k)
      left bare t kept (Write k op g x) end leaving = write_left (λ j. leaves_rest j (s.status j) (Write k op g x) bs tt (leaving.locks j)) leaving.closed.1 k op g x leaving.closed.0 (s.status k)
      left bare t kept (Prepare k n) end leaving = prepare_left (λ j. leaves_rest j (s.status j) (Prepare k n) bs tt (leaving.locks j)) leaving.closed.1 kept t k n leaving.closed.0 (s.status k)
      left bare t kept (Commit k) end leaving = subst (λ b. After (on_commit b k (s.status k))) (sym end) (commit_left k leaving (s.status k) refl)
      left bare t kept (Abort k) end leaving = subst (λ b. After (on_abort b k (s.status k))) (sym end) (abort_left k leaving (s.status k) refl)
      left bare t kept (Ticket k) end leaving = says_left (λ j. leaves_rest j (s.status j) (Ticket k) bs tt (leaving.locks j)) leaving.closed [] tt
      left bare t kept (Rows k n rows) end leaving = says_left (λ j. leaves_rest j (s.status j) (Rows k n rows) bs tt (leaving.locks j)) leaving.closed [] tt
      left bare t kept (Refused k reason) end leaving = says_left (λ j. leaves_rest j (s.status j) (Refused k reason) bs tt (leaving.locks j)) leaving.closed [] tt
      left bare t kept (Voted k x) end leaving = says_left (λ j. leaves_rest j (s.status j) (Voted k x) bs tt (leaving.locks j)) leaving.closed [] tt
      left bare t kept (Ack k) end leaving = says_left (λ j. leaves_rest j (s.status j) (Ack k) bs tt (leaving.locks j)) leaving.closed [] tt
      left bare t kept (Inquire k) end leaving = says_left (λ j. leaves_rest j (s.status j) (Inquire k) bs tt (leaving.locks j)) leaving.closed [] tt
