-- The site's table seen as a list of rows: each act with the reason for which the table chose it.
use Rattle.std.proofs.Common.{◌≡◌, refl, ap, ℕ, suc, ◌==◌, Bool, true, false, [], ◌∷◌}
use Rattle.protocol.specs.Language.{Lang, Name, put}
use Rattle.protocol.specs.Letter.{Yes, No, Read, Reason, Lock, Full, Gone, Body, Open, Fetch, Write, Prepare, Commit, Abort, Ticket, Rows, Refused, Voted, Ack, Inquire}
use Rattle.protocol.specs.Site.{Visit, Status, Dead, Active, Prepared, SiteState, Act, Says, Opens, Locks, Prepares, Applies, Ends, is_prepared, others_exclusive, on_fetch, on_write, on_prepare, on_commit, on_abort, on_letter}
use Rattle.std.proofs.lemmas.Bool.{eqb-true}
use Rattle.protocol.proofs.Basics.{either, either_if}

pub data Acted {L : Lang} (s : SiteState L) (t : Name) : Body L → Act L → Type 0 where
  says_nothing : (b : Body L) → Acted s t b (Says [])
  says_gone : (k : Name) (op : ℕ) (g : L.Leaf) (q : L.Query) → Acted s t (Fetch k op g q) (Says (Refused k Gone ∷ []))
  says_no : (k : Name) (n : ℕ) → Acted s t (Prepare k n) (Says (Voted k No ∷ []))
  says_yes : (k : Name) (n : ℕ) (u : Name) (i : L.Intentions) → s.status k ≡ Prepared u i → Acted s t (Prepare k n) (Says (Voted k Yes ∷ []))
  says_ack : (k : Name) → is_prepared (s.status k) ≡ false → Acted s t (Commit k) (Says (Ack k ∷ []))
  opens : Acted s t Open Opens
  reads : (k : Name) (op : ℕ) (g : L.Leaf) (q : L.Query) (v : Visit L) → s.status k ≡ Active v → op ≡ suc v.done → others_exclusive s k g ≡ false →
      Acted s t (Fetch k op g q) (Locks k (record v { done = op; shared = put L.same_leaf g true v.shared }) g (Rows k op (L.parts q (L.changed g v.changes (s.kept g))) ∷ []))
  writes : (k : Name) (op : ℕ) (g : L.Leaf) (x : L.Write) (v : Visit L) → s.status k ≡ Active v → op ≡ suc v.done → v.foreign g ≡ false →
      Acted s t (Write k op g x) (Locks k (record v { done = op; changes = L.add g x v.changes }) g [])
  prepares : (k : Name) (n : ℕ) (v : Visit L) → s.status k ≡ Active v → v.done ≡ n → Acted s t (Prepare k n) (Prepares k t v.changes)
  only_read : (k : Name) (n : ℕ) (v : Visit L) → s.status k ≡ Active v → v.done ≡ n → L.is_empty v.changes ≡ true → Acted s t (Prepare k n) (Ends k (Voted k Read ∷ []))
  votes_no : (k : Name) (n : ℕ) (v : Visit L) → s.status k ≡ Active v → Acted s t (Prepare k n) (Ends k (Voted k No ∷ []))
  refuses : (b : Body L) (k : Name) (v : Visit L) (reason : Reason) → s.status k ≡ Active v → Acted s t b (Ends k (Refused k reason ∷ []))
  applies : (k u : Name) (i : L.Intentions) → s.status k ≡ Prepared u i → Acted s t (Commit k) (Applies k i)
  ends : (b : Body L) (k : Name) (v : Visit L) → s.status k ≡ Active v → Acted s t b (Ends k [])
  discards : (k u : Name) (i : L.Intentions) → s.status k ≡ Prepared u i → Acted s t (Abort k) (Ends k [])

module _ {L : Lang} (s : SiteState L) (t : Name) (kept : Bool) where
  fetched : (k : Name) (op : ℕ) (g : L.Leaf) (q : L.Query) (st : Status L) → s.status k ≡ st → Acted s t (Fetch k op g q) (on_fetch s kept k op g q st)
  fetched k op g q Dead e = says_gone k op g q
  fetched k op g q (Prepared u i) e = says_nothing (Fetch k op g q)
  fetched k op g q (Active v) e =
      either_if (Acted s t (Fetch k op g q)) (op == suc v.done) _ _
      (λ next. either_if (Acted s t (Fetch k op g q)) (others_exclusive s k g) _ _
      (λ held. refuses (Fetch k op g q) k v Lock e)
      (λ free. either (Acted s t (Fetch k op g q)) kept _ _ (reads k op g q v e (eqb-true op (suc v.done) next) free) (says_nothing (Fetch k op g q))))
      (λ other. says_nothing (Fetch k op g q))

  wrote : (k : Name) (op : ℕ) (g : L.Leaf) (x : L.Write) (st : Status L) → s.status k ≡ st → Acted s t (Write k op g x) (on_write k op g x st)
  wrote k op g x Dead e = says_nothing (Write k op g x)
  wrote k op g x (Prepared u i) e = says_nothing (Write k op g x)
  wrote k op g x (Active v) e =
      either_if (Acted s t (Write k op g x)) (op == suc v.done) _ _
      (λ next. either_if (Acted s t (Write k op g x)) (v.foreign g) _ _
      (λ held. refuses (Write k op g x) k v Lock e)
      (λ free. either (Acted s t (Write k op g x)) (L.is_full g x v.changes) _ _ (refuses (Write k op g x) k v Full e) (writes k op g x v e (eqb-true op (suc v.done) next) free)))
      (λ other. says_nothing (Write k op g x))

  asked : (k : Name) (n : ℕ) (st : Status L) → s.status k ≡ st → Acted s t (Prepare k n) (on_prepare kept t k n st)
  asked k n Dead e = says_no k n
  asked k n (Prepared u i) e = says_yes k n u i e
  asked k n (Active v) e =
      either_if (Acted s t (Prepare k n)) (v.done == n) _ _
      (λ all. either_if (Acted s t (Prepare k n)) (L.is_empty v.changes) _ _
      (λ empty. only_read k n v e (eqb-true v.done n all) empty)
      (λ some. either (Acted s t (Prepare k n)) kept _ _ (prepares k n v e (eqb-true v.done n all)) (votes_no k n v e)))
      (λ other. votes_no k n v e)

  told : (k : Name) (st : Status L) → s.status k ≡ st → Acted s t (Commit k) (on_commit kept k st)
  told k Dead e = says_ack k (ap is_prepared e)
  told k (Active v) e = says_ack k (ap is_prepared e)
  told k (Prepared u i) e = either (Acted s t (Commit k)) kept _ _ (applies k u i e) (says_nothing (Commit k))

  let_go : (k : Name) (st : Status L) → s.status k ≡ st → Acted s t (Abort k) (on_abort kept k st)
  let_go k Dead e = says_nothing (Abort k)
  let_go k (Active v) e = ends (Abort k) k v e
  let_go k (Prepared u i) e = either (Acted s t (Abort k)) kept _ _ (discards k u i e) (says_nothing (Abort k))

  -- every letter does what one of the rows says
  pub acted : (b : Body L) → Acted s t b (on_letter s t kept b)
  acted Open = opens
  acted (Fetch k op g q) = fetched k op g q (s.status k) refl
  acted (Write k op g x) = wrote k op g x (s.status k) refl
  acted (Prepare k n) = asked k n (s.status k) refl
  acted (Commit k) = told k (s.status k) refl
  acted (Abort k) = let_go k (s.status k) refl
  acted (Ticket k) = says_nothing (Ticket k)
  acted (Rows k op rows) = says_nothing (Rows k op rows)
  acted (Refused k reason) = says_nothing (Refused k reason)
  acted (Voted k vote) = says_nothing (Voted k vote)
  acted (Ack k) = says_nothing (Ack k)
  acted (Inquire k) = says_nothing (Inquire k)
