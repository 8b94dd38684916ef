-- What a letter of a statement does at its site, while nobody else has a lock there.
use Rattle.std.proofs.Common.{◌≡◌, refl, sym, ap, ◌∙◌, subst, ℕ, suc, ◌==◌, not, ◌&&◌, ◌||◌, Bool, true, false, List, [], ◌∷◌, ◌++◌, if◌then◌else◌, Option, Some, inl, inr, append-nil}
use Rattle.std.proofs.lemmas.Bool.{eq-eqb}
use Rattle.protocol.specs.Language.{Lang, Name, same, put}
use Rattle.protocol.specs.Letter.{Body, Open, Fetch, Write, Prepare, Commit, Abort, Ticket, Rows, Refused, Voted, Ack, Inquire, Lock, Full, is_for_desk}
use Rattle.protocol.specs.Site.{Visit, Status, Dead, Active, Prepared, SiteState, Act, Says, Opens, Locks, Ends, has_lock, has_exclusive, others_exclusive, others_lock, next_ticket, new_visit, on_letter, on_fetch, on_write, sees, site_after, said}
pub use Rattle.protocol.specs.StatementCourse.{Room}
use Rattle.std.specs.List.{list_any}
use Rattle.protocol.proofs.Basics.{In, put_here, put_all, same_law, if_true, if_false, clash}
use Rattle.protocol.proofs.Queue.{Unlocked, unlocked_free, Flow, flow_append, VisitPlace, Asked, Works, away, asked, offered, works}

-- the heads of equal lists
pub head_is : {A : Type 0} (x y : A) (xs ys : List A) → x ∷ xs ≡ y ∷ ys → x ≡ y
head_is x y xs ys e = cc

not_other : (b c : Bool) → (b ≡ false → c ≡ false) → (not b && c) ≡ false
not_other true c free = refl
not_other false c free = free refl

-- nothing passes
none_any : {A : Type 0} (p : A → Bool) (xs : List A) → ((x : A) → In x xs → p x ≡ false) → list_any p xs ≡ false
none_any p [] none = refl
none_any p (x ∷ xs) none = rw (none x (inl refl)) (none_any p xs (λ y here. none y (inr here)))

module _ {L : Lang} where
  exclusive_locks : (g : L.Leaf) (st : Status L) → has_lock g st ≡ false → has_exclusive g st ≡ false
  exclusive_locks g Dead free = refl
  exclusive_locks g (Active v) free = or_none (v.shared g) (L.touches g v.changes) free
    where
      or_none : (a b : Bool) → (a || b) ≡ false → b ≡ false
      or_none true b e = cc
      or_none false b e = e
  exclusive_locks g (Prepared t i) free = free

  -- where the others have no lock, none is met
  pub none_exclusive : (s : SiteState L) (k : Name) (g : L.Leaf) → ((j : Name) → same j k ≡ false → Unlocked (s.status j)) → others_exclusive s k g ≡ false
  none_exclusive s k g free = none_any (λ j. not (same j k) && has_exclusive g (s.status j)) s.known (λ j here. not_other (same j k) (has_exclusive g (s.status j)) (λ other. exclusive_locks g (s.status j) (unlocked_free g (s.status j) (free j other))))

  pub none_locked : (s : SiteState L) (k : Name) (g : L.Leaf) → ((j : Name) → same j k ≡ false → Unlocked (s.status j)) → others_lock s k g ≡ false
  none_locked s k g free = none_any (λ j. not (same j k) && has_lock g (s.status j)) s.known (λ j here. not_other (same j k) (has_lock g (s.status j)) (λ other. unlocked_free g (s.status j) (free j other)))

  pub sees_unlocked : (g : L.Leaf) (st : Status L) → Unlocked st → Unlocked (sees g st)
  sees_unlocked g Dead free = free
  sees_unlocked g (Active v) free = free
  sees_unlocked g (Prepared t i) free = free

  -- a step in which the visit does one operation
  module _ (s : SiteState L) (b : Bool) (tk : Option Name) (n : ℕ) (k : Name) (bs : List (Body L)) where
    did : (visited : b ≡ true) (ticket : tk ≡ Some k) (v : Visit L) (g : L.Leaf) (replies : List (Body L)) → ((h : L.Leaf) → v.foreign h ≡ false) → ((j : Name) → same j k ≡ false → Unlocked (s.status j)) → Flow k v.done n (bs ++ replies) →
        VisitPlace (site_after s (Locks k v g replies)).status b tk n (bs ++ replies)
    did visited ticket v g replies own free flow = works k (record {
      visited = visited;
      ticket = ticket;
      visit = v;
      active = put_here same same_law k (Active v) (λ j. sees g (s.status j));
      own = own;
      free = λ j other. subst Unlocked (sym (if_false (same j k) (Active v) (sees g (s.status j)) other)) (sees_unlocked g (s.status j) (free j other));
      flow = flow;
    })

    -- a letter to a ticket finds its visit
    pub fetch_acts : (op : ℕ) (g : L.Leaf) (q : L.Query) (w : Works k s.status b tk n (Fetch k op g q ∷ bs)) →
        on_fetch s true k op g q (s.status k) ≡ Locks k (record w.visit { done = op; shared = put L.same_leaf g true w.visit.shared }) g (Rows k op (L.parts q (L.changed g w.visit.changes (s.kept g))) ∷ [])
    fetch_acts op g q w =
        let v = w.visit in
        let new = Locks k (record v { done = op; shared = put L.same_leaf g true v.shared }) g (Rows k op (L.parts q (L.changed g v.changes (s.kept g))) ∷ []) in
        ap (on_fetch s true k op g q) w.active
        ∙ if_true (op == suc v.done) (if others_exclusive s k g then Ends k (Refused k Lock ∷ []) else new) (Says []) (eq-eqb op (suc v.done) w.flow.1)
        ∙ if_false (others_exclusive s k g) (Ends k (Refused k Lock ∷ [])) new (none_exclusive s k g w.free)

    fetched : (op : ℕ) (g : L.Leaf) (q : L.Query) (w : Works k s.status b tk n (Fetch k op g q ∷ bs)) → (act : Act L) → on_fetch s true k op g q (s.status k) ≡ act → VisitPlace (site_after s act).status b tk n (bs ++ said s act)
    fetched op g q w act is =
        let v = w.visit in
        let rows = L.parts q (L.changed g v.changes (s.kept g)) in
        subst (λ a. VisitPlace (site_after s a).status b tk n (bs ++ said s a)) (sym (fetch_acts op g q w) ∙ is)
        (did w.visited w.ticket (record v { done = op; shared = put L.same_leaf g true v.shared }) g (Rows k op rows ∷ []) w.own w.free
        (flow_append k op n n bs (Rows k op rows ∷ []) (subst (λ x. Flow k x n bs) (sym w.flow.1) w.flow.2) (refl, refl)))

    wrote : (op : ℕ) (g : L.Leaf) (x : L.Write) (w : Works k s.status b tk n (Write k op g x ∷ bs)) → Room s (Write k op g x) → (act : Act L) → on_write k op g x (s.status k) ≡ act → VisitPlace (site_after s act).status b tk n (bs ++ said s act)
    wrote op g x w room act is =
        let v = w.visit in
        let new = Locks k (record v { done = op; changes = L.add g x v.changes }) g [] in
        let numbered : (op == suc v.done) ≡ true = eq-eqb op (suc v.done) w.flow.1 in
        let acts : on_write k op g x (s.status k) ≡ new =
        ap (on_write k op g x) w.active
        ∙ if_true (op == suc v.done) (if v.foreign g then Ends k (Refused k Lock ∷ []) else (if L.is_full g x v.changes then Ends k (Refused k Full ∷ []) else new)) (Says []) numbered
        ∙ if_false (v.foreign g) (Ends k (Refused k Lock ∷ [])) (if L.is_full g x v.changes then Ends k (Refused k Full ∷ []) else new) (w.own g)
        ∙ if_false (L.is_full g x v.changes) (Ends k (Refused k Full ∷ [])) new (room v w.active) in
        subst (λ a. VisitPlace (site_after s a).status b tk n (bs ++ said s a)) (sym acts ∙ is)
        (did w.visited w.ticket (record v { done = op; changes = L.add g x v.changes }) g [] w.own w.free
        (subst (Flow k op n) (sym (append-nil bs)) (subst (λ x. Flow k x n bs) (sym w.flow.1) w.flow.2)))

  -- a new visit
  opened : (bare : (g : L.Leaf) → L.touches g L.none ≡ false) (s : SiteState L) (b : Bool) (tk : Option Name) (n : ℕ) (bs : List (Body L)) → Asked s.status b tk n (Open ∷ bs) → VisitPlace (site_after s Opens).status b tk n (bs ++ said s Opens)
  opened bare s b tk n bs w =
      let k = next_ticket s in
      offered k (record {
        visited = w.visited;
        no_ticket = w.no_ticket;
        nothing_sent = w.nothing_sent;
        waits = ap (λ x. x ++ Ticket k ∷ []) (none_behind bs w.waits);
        visit = new_visit s;
        active = put_here same same_law k (Active (new_visit s)) s.status;
        nothing_done = refl;
        own = λ g. none_locked s k g (λ j other. w.free j);
        free = put_all same same_law k (Active (new_visit s)) s.status (λ j x. Unlocked x) (λ g. bare g) (λ j other. w.free j);
      })
    where
      none_behind : (bs : List (Body L)) → Open ∷ bs ≡ Open ∷ [] → bs ≡ []
      none_behind bs e = cc

  -- each letter of a statement at its site, its store call kept
  pub moved : (bare : (g : L.Leaf) → L.touches g L.none ≡ false) (s : SiteState L) (t : Name) (b : Bool) (tk : Option Name) (n : ℕ) (c : Body L) (bs : List (Body L)) → is_for_desk c ≡ false → Room s c → VisitPlace s.status b tk n (c ∷ bs) →
      VisitPlace (site_after s (on_letter s t true c)).status b tk n (bs ++ said s (on_letter s t true c))
  moved bare s t b tk n c bs to_site room (away w) = let e : c ∷ bs ≡ [] = w.silent in cc
  moved bare s t b tk n c bs to_site room (offered k w) = clash (ap is_for_desk (head_is c (Ticket k) bs [] w.waits)) to_site
  moved bare s t b tk n c bs to_site room (asked w) =
      let is : c ≡ Open = head_is c Open bs [] w.waits in
      subst (λ x. VisitPlace (site_after s (on_letter s t true x)).status b tk n (bs ++ said s (on_letter s t true x))) (sym is) (opened bare s b tk n bs (subst (λ x. Asked s.status b tk n (x ∷ bs)) is w))
  moved bare s t b tk n (Fetch j op g q) bs to_site room (works k w) =
      let is : j ≡ k = w.flow.0 in
      fetched s b tk n j bs op g q (subst (λ i. Works i s.status b tk n (Fetch j op g q ∷ bs)) (sym is) w) (on_fetch s true j op g q (s.status j)) refl
  moved bare s t b tk n (Write j op g x) bs to_site room (works k w) =
      let is : j ≡ k = w.flow.0 in
      wrote s b tk n j bs op g x (subst (λ i. Works i s.status b tk n (Write j op g x ∷ bs)) (sym is) w) room (on_write j op g x (s.status j)) refl
  moved bare s t b tk n (Rows j op rows) bs to_site room (works k w) = cc
  moved bare s t b tk n Open bs to_site room (works k w) = absurd w.flow
  moved bare s t b tk n (Prepare j m) bs to_site room (works k w) = absurd w.flow
  moved bare s t b tk n (Commit j) bs to_site room (works k w) = absurd w.flow
  moved bare s t b tk n (Abort j) bs to_site room (works k w) = absurd w.flow
  moved bare s t b tk n (Ticket j) bs to_site room (works k w) = absurd w.flow
  moved bare s t b tk n (Refused j reason) bs to_site room (works k w) = absurd w.flow
  moved bare s t b tk n (Voted j x) bs to_site room (works k w) = absurd w.flow
  moved bare s t b tk n (Ack j) bs to_site room (works k w) = absurd w.flow
  moved bare s t b tk n (Inquire j) bs to_site room (works k w) = absurd w.flow
