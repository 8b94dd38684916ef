-- A site's machine takes the same steps whether its leaves are named alone or as places: what it keeps, locks and says is at its own site.
use Rattle.std.proofs.Common.{◌≡◌, refl, sym, ap, ap₂, ◌∙◌, suc, ◌==◌, ◌&&◌, ◌||◌, not, Bool, true, false, List, [], ◌∷◌, ◌++◌, map, length, if◌then◌else◌, ◌^◌, nat_lt, nat_le, ⊎_elim, ℕ}
use Rattle.std.specs.List.{list_any, flat_map}
use Rattle.std.proofs.lemmas.List.{map-append}
use Rattle.protocol.specs.Language.{Lang, Name, same, put}
use Rattle.protocol.specs.Letter.{Body, Letter, No, Read, Lock, Full, Open, Fetch, Write, Prepare, Commit, Abort, Ticket, Rows, Refused, Voted, Ack, Inquire}
use Rattle.protocol.specs.Site.{Visit, Status, Dead, Active, Prepared, SiteState, Act, Says, Opens, Locks, Prepares, Applies, Ends, on_fetch, on_write, on_prepare, on_commit, on_abort, is_dead, is_active, has_exclusive, has_lock, others_exclusive, others_lock, next_ticket, new_visit, with_status, on_letter, on_give_up, site_after, said, sees, restarted, site_restarted, inquiry_of, inquiries, is_short, is_within}
use Rattle.protocol.specs.Catalogues.{Catalogues, Intended_at, Nothing, Some_at, same_place, only_at, add_at, is_nothing, touches_at, changed_at, is_full_at, listed, IsLawfulSite, body_at, letter_at, intended_at, visit_at, status_at, site_at, act_at}
use Rattle.protocol.proofs.Basics.{by_test, clash, if_true, if_false, any_same, all_same, filter_same, if_with}

-- a place is another one's where its site is, and its leaf
both_and : (x y z : Bool) → (x && (if y then true else z)) ≡ (if x && y then true else (x && z))
both_and true y z = refl
both_and false y z = refl

and_or : (x y z : Bool) → ((x && y) || (x && z)) ≡ (x && (y || z))
and_or true y z = refl
and_or false y z = refl

and_true : (x y : Bool) → x ≡ true → (x && y) ≡ y
and_true true y e = refl
and_true false y e = cc

and_none : (x : Bool) → (x && false) ≡ false
and_none true = refl
and_none false = refl

-- a test of all that says the same of each
any_and : {A : Type 0} (x : Bool) (c d : A → Bool) (xs : List A) → list_any (λ j. c j && (x && d j)) xs ≡ (x && list_any (λ j. c j && d j) xs)
any_and true c d xs = refl
any_and false c d [] = refl
any_and false c d (y ∷ xs) = ap₂ (λ (a b : Bool). a || b) (and_none (c y)) (any_and false c d xs)

module _ (M : Lang) (C : Catalogues M) (law : IsLawfulSite M) (a : M.Site) where
  abbrev L : Lang
  L = listed M C

  here : (b : M.Site) → M.same_site b b ≡ true
  here b = (law.sites b b).1 refl

  -- intentions of the site, at it and elsewhere
  own_at : (i : M.Intentions) → only_at M a i a ≡ i
  own_at i = if_true (M.same_site a a) i M.none (here a)

  -- what is read off intentions that were placed: at the site what they say, elsewhere what none say
  placed : {A : Type 0} (of : M.Intentions → A) (i : M.Intentions) (b : M.Site) → of (only_at M a i b) ≡ (if M.same_site b a then of i else of M.none)
  placed of i b = if_with of (M.same_site b a) i M.none

  by_empty : (Q : Intended_at M → Type 0) (i : M.Intentions) → (i ≡ M.none → Q Nothing) → Q (Some_at (only_at M a i)) → Q (intended_at M C a i)
  by_empty Q i none some = go (M.is_empty i) (λ e. none (law.only_none i e))
    where
      go : (b : Bool) → (b ≡ true → Q Nothing) → Q (if b then Nothing else Some_at (only_at M a i))
      go true none = none refl
      go false none = some

  touches_placed : (p : M.Site × M.Leaf) (i : M.Intentions) → touches_at M p (intended_at M C a i) ≡ (M.same_site p.0 a && M.touches p.1 i)
  touches_placed p i = by_empty (λ j. touches_at M p j ≡ (M.same_site p.0 a && M.touches p.1 i)) i
      (λ e. sym (ap (λ x. M.same_site p.0 a && x) (ap (M.touches p.1) e ∙ law.touches_none p.1) ∙ and_none (M.same_site p.0 a)))
      (placed (M.touches p.1) i p.0 ∙ ap (λ x. if M.same_site p.0 a then M.touches p.1 i else x) (law.touches_none p.1) ∙ as_and (M.same_site p.0 a) (M.touches p.1 i))
    where
      as_and : (x y : Bool) → (if x then y else false) ≡ (x && y)
      as_and true y = refl
      as_and false y = refl

  changed_placed : (p : M.Site × M.Leaf) (i : M.Intentions) (content : M.Content) → changed_at M p (intended_at M C a i) content ≡ (if M.same_site p.0 a then M.changed p.1 i content else content)
  changed_placed p i content = by_empty (λ j. changed_at M p j content ≡ (if M.same_site p.0 a then M.changed p.1 i content else content)) i
      (λ e. sym (ap (λ x. if M.same_site p.0 a then x else content) (ap (λ j. M.changed p.1 j content) e ∙ law.changed_none p.1 content) ∙ either_way (M.same_site p.0 a)))
      (placed (λ j. M.changed p.1 j content) i p.0 ∙ ap (λ x. if M.same_site p.0 a then M.changed p.1 i content else x) (law.changed_none p.1 content))
    where
      either_way : (b : Bool) → (if b then content else content) ≡ content
      either_way true = refl
      either_way false = refl

  pub changed_here : (g : M.Leaf) (i : M.Intentions) (content : M.Content) → changed_at M (a, g) (intended_at M C a i) content ≡ M.changed g i content
  changed_here g i content = changed_placed (a, g) i content ∙ if_true (M.same_site a a) _ _ (here a)

  full_placed : (g : M.Leaf) (x : M.Write) (i : M.Intentions) → is_full_at M (a, g) x (intended_at M C a i) ≡ M.is_full g x i
  full_placed g x i = by_empty (λ j. is_full_at M (a, g) x j ≡ M.is_full g x i) i (λ e. ap (M.is_full g x) (sym e)) (ap (M.is_full g x) (own_at i))

  pub empty_placed : (i : M.Intentions) → is_nothing M (intended_at M C a i) ≡ M.is_empty i
  empty_placed i = go (M.is_empty i)
    where
      go : (b : Bool) → is_nothing M (if b then Nothing else Some_at (only_at M a i)) ≡ b
      go true = refl
      go false = refl

  -- one more intention isn't none
  some_added : (g : M.Leaf) (x : M.Write) (i : M.Intentions) → M.is_empty (M.add g x i) ≡ false
  some_added g x i = ⊎_elim
      (λ e. clash (ap (M.touches g) (sym (law.only_none (M.add g x i) e)) ∙ (law.touches_add g g x i ∙ if_true (M.same_leaf g g) true (M.touches g i) ((law.leaves g g).1 refl))) (law.touches_none g))
      (λ none. none) (by_test (M.is_empty (M.add g x i)))

  add_placed : (g : M.Leaf) (x : M.Write) (i : M.Intentions) → intended_at M C a (M.add g x i) ≡ add_at M (a, g) x (intended_at M C a i)
  add_placed g x i = if_false (M.is_empty (M.add g x i)) Nothing (Some_at (only_at M a (M.add g x i))) (some_added g x i)
      ∙ by_empty (λ j. Some_at (only_at M a (M.add g x i)) ≡ add_at M (a, g) x j) i
      (λ e. ap (λ j. Some_at (only_at M a (M.add g x j))) e)
      (λ n. Some_at (λ b. (if_again (M.same_site b a) (M.add g x i) (M.add g x (only_at M a i a)) i (ap (M.add g x) (sym (own_at i)))) n))
    where
      if_again : (b : Bool) (u v w : M.Intentions) → u ≡ v → (if b then u else M.none) ≡ (if b then v else (if b then w else M.none))
      if_again true u v w e = e
      if_again false u v w e = refl

  -- ---- statuses
  dead_same : (st : Status M) → is_dead (status_at M C a st) ≡ is_dead st
  dead_same Dead = refl
  dead_same (Active v) = refl
  dead_same (Prepared t i) = refl

  active_same : (st : Status M) → is_active (status_at M C a st) ≡ is_active st
  active_same Dead = refl
  active_same (Active v) = refl
  active_same (Prepared t i) = refl

  short_same : (st : Status M) → is_short (status_at M C a st) ≡ is_short st
  short_same Dead = refl
  short_same (Active v) = refl
  short_same (Prepared t i) = refl

  exclusive_same : (p : M.Site × M.Leaf) (st : Status M) → has_exclusive p (status_at M C a st) ≡ (M.same_site p.0 a && has_exclusive p.1 st)
  exclusive_same p Dead = sym (and_none (M.same_site p.0 a))
  exclusive_same p (Active v) = touches_placed p v.changes
  exclusive_same p (Prepared t i) = touches_placed p i

  lock_same : (p : M.Site × M.Leaf) (st : Status M) → has_lock p (status_at M C a st) ≡ (M.same_site p.0 a && has_lock p.1 st)
  lock_same p Dead = sym (and_none (M.same_site p.0 a))
  lock_same p (Active v) = ap (λ x. (M.same_site p.0 a && v.shared p.1) || x) (touches_placed p v.changes) ∙ and_or (M.same_site p.0 a) (v.shared p.1) (M.touches p.1 v.changes)
  lock_same p (Prepared t i) = touches_placed p i

  others_exclusive_same : (s : SiteState M) (k : Name) (p : M.Site × M.Leaf) → others_exclusive (site_at M C a s) k p ≡ (M.same_site p.0 a && others_exclusive s k p.1)
  others_exclusive_same s k p = any_same _ _ (λ j. ap (λ (b : Bool). not (same j k) && b) (exclusive_same p (s.status j))) s.known ∙ any_and (M.same_site p.0 a) (λ j. not (same j k)) (λ j. has_exclusive p.1 (s.status j)) s.known

  others_lock_same : (s : SiteState M) (k : Name) (p : M.Site × M.Leaf) → others_lock (site_at M C a s) k p ≡ (M.same_site p.0 a && others_lock s k p.1)
  others_lock_same s k p = any_same _ _ (λ j. ap (λ (b : Bool). not (same j k) && b) (lock_same p (s.status j))) s.known ∙ any_and (M.same_site p.0 a) (λ j. not (same j k)) (λ j. has_lock p.1 (s.status j)) s.known

  -- a leaf more of those that a test passes
  put_placed : (g : M.Leaf) (test : M.Leaf → Bool) → (let whole : M.Site × M.Leaf → Bool = λ p. M.same_site p.0 a && put M.same_leaf g true test p.1 in whole ≡ put (same_place M) (a, g) true (λ p. M.same_site p.0 a && test p.1))
  put_placed g test i p = both_and (M.same_site p.0 a) (M.same_leaf p.1 g) (test p.1) i

  pub kept_here : (s : SiteState M) (g : M.Leaf) → (site_at M C a s).kept (a, g) ≡ s.kept g
  kept_here s g = if_true (M.same_site a a) (s.kept g) C.nothing (here a)

  -- ---- the table
  fetched_same : (s : SiteState M) (k : Name) (op : ℕ) (g : M.Leaf) (q : M.Query) (v : Visit M) →
      act_at M C a (Locks k (record v { done = op; shared = put M.same_leaf g true v.shared }) g (Rows k op (M.parts q (M.changed g v.changes (s.kept g))) ∷ []))
      ≡ Locks k (record (visit_at M C a v) { done = op; shared = put (same_place M) (a, g) true (visit_at M C a v).shared }) (a, g) (Rows k op (M.parts q (changed_at M (a, g) (intended_at M C a v.changes) ((site_at M C a s).kept (a, g)))) ∷ [])
  fetched_same s k op g q v = λ i. Locks k (record { done = op; changes = intended_at M C a v.changes; shared = put_placed g v.shared i; foreign = λ p. M.same_site p.0 a && v.foreign p.1 }) (a, g)
      (Rows k op (M.parts q (content i)) ∷ [])
    where
      content : M.changed g v.changes (s.kept g) ≡ changed_at M (a, g) (intended_at M C a v.changes) ((site_at M C a s).kept (a, g))
      content = sym (changed_placed (a, g) v.changes ((site_at M C a s).kept (a, g)) ∙ if_true (M.same_site a a) _ _ (here a) ∙ ap (M.changed g v.changes) (kept_here s g))

  written_same : (k : Name) (op : ℕ) (g : M.Leaf) (x : M.Write) (v : Visit M) →
      act_at M C a (Locks k (record v { done = op; changes = M.add g x v.changes }) g []) ≡ Locks k (record (visit_at M C a v) { done = op; changes = add_at M (a, g) x (intended_at M C a v.changes) }) (a, g) []
  written_same k op g x v = ap (λ i. Locks k (record { done = op; changes = i; shared = λ p. M.same_site p.0 a && v.shared p.1; foreign = λ p. M.same_site p.0 a && v.foreign p.1 }) (a, g) []) (add_placed g x v.changes)

  -- at the site a test of one of its leaves is that of the leaf
  at_home : (x : Bool) → (M.same_site a a && x) ≡ x
  at_home x = and_true (M.same_site a a) x (here a)

  pub act_same : (s : SiteState M) (t : Name) (kept : Bool) (b : Body M) → act_at M C a (on_letter s t kept b) ≡ on_letter (site_at M C a s) t kept (body_at M C a b)
  act_same s t kept Open = refl
  act_same s t kept (Fetch k op g q) = fetched (s.status k)
    where
      fetched : (st : Status M) → act_at M C a (on_fetch s kept k op g q st) ≡ on_fetch (site_at M C a s) kept k op (a, g) q (status_at M C a st)
      fetched Dead = refl
      fetched (Prepared u i) = refl
      fetched (Active v) = active (op == suc v.done) (others_exclusive s k g) (others_exclusive (site_at M C a s) k (a, g)) (others_exclusive_same s k (a, g) ∙ at_home (others_exclusive s k g)) kept
        where
          active : (next locked also : Bool) → also ≡ locked → (keeps : Bool) →
              act_at M C a (if next then (if locked then Ends k (Refused k Lock ∷ []) else (if keeps then Locks k (record v { done = op; shared = put M.same_leaf g true v.shared }) g (Rows k op (M.parts q (M.changed g v.changes (s.kept g))) ∷ []) else Says [])) else Says []) ≡
              (if next then (if also then Ends k (Refused k Lock ∷ []) else (if keeps then Locks k (record (visit_at M C a v) { done = op; shared = put (same_place M) (a, g) true (visit_at M C a v).shared }) (a, g) (Rows k op (M.parts q (changed_at M (a, g) (intended_at M C a v.changes) ((site_at M C a s).kept (a, g)))) ∷ []) else Says [])) else Says [])
          active false locked also is keeps = refl
          active true true true is keeps = refl
          active true true false is keeps = absurd cc
          active true false true is keeps = absurd cc
          active true false false is true = fetched_same s k op g q v
          active true false false is false = refl
  act_same s t kept (Write k op g x) = written (s.status k)
    where
      written : (st : Status M) → act_at M C a (on_write k op g x st) ≡ on_write k op (a, g) x (status_at M C a st)
      written Dead = refl
      written (Prepared u i) = refl
      written (Active v) = active (op == suc v.done) (v.foreign g) ((visit_at M C a v).foreign (a, g)) (at_home (v.foreign g)) (M.is_full g x v.changes) (is_full_at M (a, g) x (intended_at M C a v.changes)) (full_placed g x v.changes)
        where
          active : (next foreign also : Bool) → also ≡ foreign → (full too : Bool) → too ≡ full →
              act_at M C a (if next then (if foreign then Ends k (Refused k Lock ∷ []) else (if full then Ends k (Refused k Full ∷ []) else Locks k (record v { done = op; changes = M.add g x v.changes }) g [])) else Says []) ≡
              (if next then (if also then Ends k (Refused k Lock ∷ []) else (if too then Ends k (Refused k Full ∷ []) else Locks k (record (visit_at M C a v) { done = op; changes = add_at M (a, g) x (intended_at M C a v.changes) }) (a, g) [])) else Says [])
          active false foreign also is full too e = refl
          active true true true is full too e = refl
          active true true false is full too e = absurd cc
          active true false true is full too e = absurd cc
          active true false false is true true e = refl
          active true false false is true false e = absurd cc
          active true false false is false true e = absurd cc
          active true false false is false false e = written_same k op g x v
  act_same s t kept (Prepare k count) = prepared (s.status k)
    where
      prepared : (st : Status M) → act_at M C a (on_prepare kept t k count st) ≡ on_prepare kept t k count (status_at M C a st)
      prepared Dead = refl
      prepared (Prepared u i) = refl
      prepared (Active v) = active (v.done == count) (M.is_empty v.changes) (is_nothing M (intended_at M C a v.changes)) (empty_placed v.changes) kept
        where
          active : (done empty also : Bool) → also ≡ empty → (keeps : Bool) → act_at M C a (if done then (if empty then Ends k (Voted k Read ∷ []) else (if keeps then Prepares k t v.changes else Ends k (Voted k No ∷ []))) else Ends k (Voted k No ∷ [])) ≡
              (if done then (if also then Ends k (Voted k Read ∷ []) else (if keeps then Prepares k t (intended_at M C a v.changes) else Ends k (Voted k No ∷ []))) else Ends k (Voted k No ∷ []))
          active false empty also is keeps = refl
          active true true true is keeps = refl
          active true true false is keeps = absurd cc
          active true false true is keeps = absurd cc
          active true false false is true = refl
          active true false false is false = refl
  act_same s t kept (Commit k) = committed (s.status k) kept
    where
      committed : (st : Status M) (keeps : Bool) → act_at M C a (on_commit keeps k st) ≡ on_commit keeps k (status_at M C a st)
      committed Dead keeps = refl
      committed (Active v) keeps = refl
      committed (Prepared u i) true = refl
      committed (Prepared u i) false = refl
  act_same s t kept (Abort k) = aborted (s.status k) kept
    where
      aborted : (st : Status M) (keeps : Bool) → act_at M C a (on_abort keeps k st) ≡ on_abort keeps k (status_at M C a st)
      aborted Dead keeps = refl
      aborted (Active v) keeps = refl
      aborted (Prepared u i) true = refl
      aborted (Prepared u i) false = refl
  act_same s t kept (Ticket k) = refl
  act_same s t kept (Rows k op rows) = refl
  act_same s t kept (Refused k reason) = refl
  act_same s t kept (Voted k vote) = refl
  act_same s t kept (Ack k) = refl
  act_same s t kept (Inquire k) = refl

  -- ---- what a step makes of a site
  status_put : (k : Name) (st : Status M) (f : Name → Status M) (j : Name) → status_at M C a (put same k st f j) ≡ put same k (status_at M C a st) (λ x. status_at M C a (f x)) j
  status_put k st f j = if_with (status_at M C a) (same j k) st (f j)

  with_same : (s : SiteState M) (status : Name → Status M) (other : Name → Status (listed M C)) → ((j : Name) → status_at M C a (status j) ≡ other j) → (names : List Name) → site_at M C a (with_status s status names) ≡ with_status (site_at M C a s) other names
  with_same s status other agree names i = record {
    kept = λ p. if M.same_site p.0 a then s.kept p.1 else C.nothing;
    status = λ j. agree j i;
    known = filter_same (λ j. not (is_dead (status j))) (λ j. not (is_dead (other j))) names (λ j here. ap not (sym (dead_same (status j)) ∙ ap is_dead (agree j))) i;
    life = s.life;
    number = s.number;
  }

  sees_same : (g : M.Leaf) (st : Status M) → status_at M C a (sees g st) ≡ sees (a, g) (status_at M C a st)
  sees_same g Dead = refl
  sees_same g (Active v) = λ i. Active (record { done = v.done; changes = intended_at M C a v.changes; shared = λ p. M.same_site p.0 a && v.shared p.1; foreign = put_placed g v.foreign i })
  sees_same g (Prepared t i) = refl

  restarted_same : (st : Status M) → status_at M C a (restarted st) ≡ restarted (status_at M C a st)
  restarted_same Dead = refl
  restarted_same (Active v) = refl
  restarted_same (Prepared t i) = refl

  none_placed : intended_at M C a M.none ≡ Nothing
  none_placed = if_true (M.is_empty M.none) Nothing (Some_at (only_at M a M.none)) law.none_empty

  visit_same : (s : SiteState M) → visit_at M C a (new_visit s) ≡ new_visit (site_at M C a s)
  visit_same s i = record { done = 0; changes = none_placed i; shared = λ p. and_none (M.same_site p.0 a) i; foreign = λ p. sym (others_lock_same s (next_ticket s) p) i }

  put_same_status : (s : SiteState M) (k : Name) (st : Status M) (other : Status (listed M C)) → status_at M C a st ≡ other → (f : Name → Status M) (g : Name → Status (listed M C)) → ((j : Name) → status_at M C a (f j) ≡ g j) →
      site_at M C a (with_status s (put same k st f) s.known) ≡ with_status (site_at M C a s) (put same k other g) s.known
  put_same_status s k st other is f g agree = with_same s (put same k st f) (put same k other g) (λ j. status_put k st f j ∙ ap₂ (λ (x y : Status (listed M C)). if same j k then x else y) is (agree j)) s.known

  -- an applied row changes what its site keeps
  applied_same : (i : M.Intentions) (kept : M.Leaf → M.Content) (p : M.Site × M.Leaf) →
      (if M.same_site p.0 a then M.changed p.1 i (kept p.1) else C.nothing) ≡ changed_at M p (intended_at M C a i) (if M.same_site p.0 a then kept p.1 else C.nothing)
  applied_same i kept p = go (M.same_site p.0 a) ∙ sym (changed_placed p i (if M.same_site p.0 a then kept p.1 else C.nothing))
    where
      go : (b : Bool) → (if b then M.changed p.1 i (kept p.1) else C.nothing) ≡ (if b then M.changed p.1 i (if b then kept p.1 else C.nothing) else (if b then kept p.1 else C.nothing))
      go true = refl
      go false = refl

  -- the state after a step
  pub after_same : (s : SiteState M) (act : Act M) → site_at M C a (site_after s act) ≡ site_after (site_at M C a s) (act_at M C a act)
  after_same s (Says replies) = refl
  after_same s Opens =
      ap (λ (x : SiteState (listed M C)). record x { number = suc s.number })
      (with_same s (put same (next_ticket s) (Active (new_visit s)) s.status) (put same (next_ticket s) (Active (new_visit (site_at M C a s))) (λ j. status_at M C a (s.status j)))
      (λ j. status_put (next_ticket s) (Active (new_visit s)) s.status j ∙ ap (λ (v : Visit (listed M C)). if same j (next_ticket s) then Active v else status_at M C a (s.status j)) (visit_same s)) (s.known ++ next_ticket s ∷ []))
  after_same s (Locks k v g replies) = put_same_status s k (Active v) (Active (visit_at M C a v)) refl (λ j. sees g (s.status j)) (λ j. sees (a, g) (status_at M C a (s.status j))) (λ j. sees_same g (s.status j))
  after_same s (Prepares k t i) = put_same_status s k (Prepared t i) (Prepared t (intended_at M C a i)) refl s.status (λ j. status_at M C a (s.status j)) (λ j. refl)
  after_same s (Applies k i) = λ n. record (put_same_status s k Dead Dead refl s.status (λ j. status_at M C a (s.status j)) (λ j. refl) n) { kept = λ p. applied_same i s.kept p n }
  after_same s (Ends k replies) = put_same_status s k Dead Dead refl s.status (λ j. status_at M C a (s.status j)) (λ j. refl)

  -- what it says
  pub said_same : (s : SiteState M) (act : Act M) → map (body_at M C a) (said s act) ≡ said (site_at M C a s) (act_at M C a act)
  said_same s (Says replies) = refl
  said_same s Opens = refl
  said_same s (Locks k v g replies) = refl
  said_same s (Prepares k t i) = refl
  said_same s (Applies k i) = refl
  said_same s (Ends k replies) = refl

  -- giving a visit up, restarts and inquiries
  pub give_up_same : (k : Name) (st : Status M) → act_at M C a (on_give_up k st) ≡ on_give_up k (status_at M C a st)
  give_up_same k Dead = refl
  give_up_same k (Active v) = refl
  give_up_same k (Prepared t i) = refl

  pub restart_same : (s : SiteState M) → site_at M C a (site_restarted s) ≡ site_restarted (site_at M C a s)
  restart_same s =
      ap (λ (x : SiteState (listed M C)). record x { life = suc s.life; number = 0 })
      (with_same s (λ k. restarted (s.status k)) (λ k. restarted (status_at M C a (s.status k))) (λ j. restarted_same (s.status j)) s.known)

  inquiry_same : (k : Name) (st : Status M) → map (letter_at M C) (inquiry_of a k st) ≡ inquiry_of a k (status_at M C a st)
  inquiry_same k Dead = refl
  inquiry_same k (Active v) = refl
  inquiry_same k (Prepared t i) = refl

  pub inquiries_same : (s : SiteState M) → map (letter_at M C) (inquiries a s) ≡ inquiries a (site_at M C a s)
  inquiries_same s = each s.known
    where
      each : (names : List Name) → map (letter_at M C) (flat_map (λ k. inquiry_of a k (s.status k)) names) ≡ flat_map (λ k. inquiry_of a k (status_at M C a (s.status k))) names
      each [] = refl
      each (k ∷ names) = map-append (letter_at M C) (inquiry_of a k (s.status k)) (flat_map (λ k. inquiry_of a k (s.status k)) names) ∙ ap₂ (λ (xs ys : List (Letter (listed M C))). xs ++ ys) (inquiry_same k (s.status k)) (each names)

  -- the limits
  pub within_same : (s : SiteState M) → is_within (site_at M C a s) ≡ is_within s
  within_same s =
      ap₂ (λ (a b : Bool). nat_lt s.life (2 ^ 63) && nat_lt s.number (2 ^ 63) && a && b)
      (all_same (λ k. is_short (status_at M C a (s.status k))) (λ k. is_short (s.status k)) (λ k. short_same (s.status k)) s.known)
      (ap (λ (names : List Name). nat_le (length names) 1024) (filter_same (λ k. is_active (status_at M C a (s.status k))) (λ k. is_active (s.status k)) s.known (λ k here. active_same (s.status k))))
