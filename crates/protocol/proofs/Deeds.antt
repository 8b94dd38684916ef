-- What the deeds of one more transaction add to those that were committed, to statements and to answers.
use Rattle.std.proofs.Common.{◌≡◌, refl, sym, ap, ap₂, ◌∙◌, subst, ◌||◌, Bool, true, false, List, [], ◌∷◌, ◌++◌, map, filter, inl, inr, ⊎_elim, append-nil, arith}
use Rattle.std.proofs.lemmas.Grind.{flat_map-append}
use Rattle.std.proofs.lemmas.List.Elements.{filter-append}
use Rattle.std.proofs.lemmas.List.Folds.{list_any-append}
use Rattle.std.specs.List.{list_any}
use Rattle.protocol.specs.Language.{Lang, IsLawful, Name, same}
use Rattle.protocol.specs.Desk.{Deed, Began, Stated, Worked, Answered, Phased, Committed, Aborted, Rolled_back, next_txn}
use Rattle.protocol.specs.World.{World}
use Rattle.protocol.specs.Serial.{commits_it, is_committed, phased_of, phases_of, committed, statement_in, statements_of, answer_in, answers_of}
use Rattle.protocol.specs.Client.{IsReached}
use Rattle.protocol.specs.AfterAbort.{Fruitless}
use Rattle.protocol.specs.Parts.{Work}
use Rattle.protocol.specs.ClientLaw.{log}
use Rattle.protocol.proofs.Basics.{Every, In, every_more, by_test, same_law, same_refl, if_true, if_false, or_false, filter_same}
use Rattle.protocol.proofs.Locks.{from_filter}
use Rattle.protocol.proofs.Fits.{Born}
use Rattle.protocol.proofs.Works.{txn_of, view_other}
use Rattle.protocol.proofs.InvariantSites.{IsDeep}
use Rattle.protocol.proofs.InvariantEvents.{run_deep, opening_deep}
use Rattle.protocol.proofs.ForgottenLetters.{behind}

-- filters that agree on a list
filter_none : {A : Type 0} (p : A → Bool) (xs : List A) → Every (λ x. p x ≡ false) xs → filter p xs ≡ []
filter_none p [] none = refl
filter_none p (x ∷ xs) none = if_false (p x) (x ∷ filter p xs) (filter p xs) none.0 ∙ filter_none p xs none.1

pub map_in : {A B : Type 0} (f g : A → B) (xs : List A) → ((x : A) → In x xs → f x ≡ g x) → map f xs ≡ map g xs
map_in f g [] same_ = refl
map_in f g (x ∷ xs) same_ = ap₂ (λ y ys. y ∷ ys) (same_ x (inl refl)) (map_in f g xs (λ y here. same_ y (inr here)))

module _ {L : Lang} where
  -- nothing was done of this transaction yet
  pub record IsFresh (past : List (Deed L)) (t : Name) : Type 0 where
    pub no_phase : In t (phases_of past) → ⊥
    pub no_commit : is_committed past t ≡ false
    pub no_statement : statements_of past t ≡ []
    pub no_answer : answers_of past t ≡ []

  -- the next transaction of a reached world
  pub next_is_fresh : IsLawful L → (whole : L.Whole) (w : World L) → IsReached whole w → IsFresh w.past (next_txn w.desk)
  next_is_fresh law whole w reached =
      let deep : IsDeep law whole (behind reached.gone w) = subst (IsDeep law whole) reached.is (run_deep law whole reached.events reached.opening (opening_deep law whole reached.opening reached.opens)) in
      let base = deep.2.base in
      let t = next_txn w.desk in
      record {
        no_phase = λ here. unborn (base.phased t here).0;
        no_commit = ⊎_elim (λ is. absurd (unborn (base.fit.committed t is).0)) (λ none. none) (by_test (is_committed w.past t));
        no_statement = (base.unborn t unborn).statements_same;
        no_answer = (base.unborn t unborn).answers_same;
      }
    where
      unborn : Born w.desk (next_txn w.desk) → ⊥
      unborn (inl older) = omega (arith, older)
      unborn (inr (e, drawn)) = omega (arith, drawn)

  -- deeds of the transaction alone
  abbrev pub Of : Name → List (Deed L) → Type 0
  Of t deeds = Every (λ d. txn_of d ≡ t) deeds

  other_commit : (t j : Name) (d : Deed L) → same t j ≡ false → txn_of d ≡ t → commits_it j d ≡ false
  other_commit t j (Committed u) other e = ap (λ i. same i j) e ∙ other
  other_commit t j (Began u) other e = refl
  other_commit t j (Stated u s) other e = refl
  other_commit t j (Worked u s asks choice) other e = refl
  other_commit t j (Answered u x) other e = refl
  other_commit t j (Phased u) other e = refl
  other_commit t j (Aborted u why) other e = refl
  other_commit t j (Rolled_back u) other e = refl

  no_commits : (t j : Name) (deeds : List (Deed L)) → same t j ≡ false → Of t deeds → list_any (commits_it j) deeds ≡ false
  no_commits t j [] other all = refl
  no_commits t j (d ∷ deeds) other all = rw (other_commit t j d other all.0) (no_commits t j deeds other all.1)

  own_phases : (t : Name) (deeds : List (Deed L)) → Of t deeds → Every (λ j. j ≡ t) (phases_of deeds)
  own_phases t [] all = tt
  own_phases t (Phased u ∷ deeds) all = (all.0, own_phases t deeds all.1)
  own_phases t (Began u ∷ deeds) all = own_phases t deeds all.1
  own_phases t (Stated u s ∷ deeds) all = own_phases t deeds all.1
  own_phases t (Worked u s asks choice ∷ deeds) all = own_phases t deeds all.1
  own_phases t (Answered u x ∷ deeds) all = own_phases t deeds all.1
  own_phases t (Committed u ∷ deeds) all = own_phases t deeds all.1
  own_phases t (Aborted u why ∷ deeds) all = own_phases t deeds all.1
  own_phases t (Rolled_back u ∷ deeds) all = own_phases t deeds all.1

  module _ (past : List (Deed L)) (t : Name) (fresh : IsFresh past t) (deeds : List (Deed L)) (own : Of t deeds) where
    apart : (j : Name) → In j (phases_of past) → same t j ≡ false
    apart j here = ⊎_elim (λ is. absurd (fresh.no_phase (subst (λ i. In i (phases_of past)) (sym ((same_law t j).0 is)) here))) (λ other. other) (by_test (same t j))

    others_committed : (j : Name) → In j (phases_of past) → is_committed (past ++ deeds) j ≡ is_committed past j
    others_committed j here = list_any-append (commits_it j) past deeds ∙ ap (λ b. is_committed past j || b) (no_commits t j deeds (apart j here) own) ∙ or_false (is_committed past j)

    -- the committed ones before, and those of these deeds
    pub committed_more : committed (past ++ deeds) ≡ committed past ++ filter (is_committed (past ++ deeds)) (phases_of deeds)
    committed_more = ap (filter (is_committed (past ++ deeds))) (flat_map-append phased_of past deeds) ∙ filter-append (is_committed (past ++ deeds)) (phases_of past) (phases_of deeds)
        ∙ ap (λ xs. xs ++ filter (is_committed (past ++ deeds)) (phases_of deeds)) (filter_same (is_committed (past ++ deeds)) (is_committed past) (phases_of past) others_committed)

    -- of those before nothing is shown
    not_own : (j : Name) → In j (phases_of past) → Every (λ d. same (txn_of d) j ≡ false) deeds
    not_own j here = every_more (λ d. txn_of d ≡ t) (λ d. same (txn_of d) j ≡ false) deeds (λ d e. ap (λ i. same i j) e ∙ apart j here) own

    pub statements_before : map (statements_of (past ++ deeds)) (committed past) ≡ map (statements_of past) (committed past)
    statements_before = map_in (statements_of (past ++ deeds)) (statements_of past) (committed past) (λ j here. (view_other past deeds j (not_own j (from_filter (is_committed past) j (phases_of past) here).0)).statements_same)

    pub answers_before : map (answers_of (past ++ deeds)) (committed past) ≡ map (answers_of past) (committed past)
    answers_before = map_in (answers_of (past ++ deeds)) (answers_of past) (committed past) (λ j here. (view_other past deeds j (not_own j (from_filter (is_committed past) j (phases_of past) here).0)).answers_same)

    pub statements_own : statements_of (past ++ deeds) t ≡ statements_of deeds t
    statements_own = flat_map-append (statement_in t) past deeds ∙ ap (λ xs. xs ++ statements_of deeds t) fresh.no_statement

    pub answers_own : answers_of (past ++ deeds) t ≡ answers_of deeds t
    answers_own = flat_map-append (answer_in t) past deeds ∙ ap (λ xs. xs ++ answers_of deeds t) fresh.no_answer

    -- it isn't among them
    pub none_committed : list_any (commits_it t) deeds ≡ false → committed (past ++ deeds) ≡ committed past
    none_committed none = committed_more ∙ ap (λ xs. committed past ++ xs) (filter_none (is_committed (past ++ deeds)) (phases_of deeds) (every_more (λ j. j ≡ t) (λ j. is_committed (past ++ deeds) j ≡ false) (phases_of deeds) (λ j e. ap (is_committed (past ++ deeds)) e ∙ not_it) (own_phases t deeds own))) ∙ append-nil (committed past)
      where
        not_it : is_committed (past ++ deeds) t ≡ false
        not_it = list_any-append (commits_it t) past deeds ∙ ap₂ (λ a b. a || b) fresh.no_commit none

    pub one_committed : phases_of deeds ≡ t ∷ [] → list_any (commits_it t) deeds ≡ true → committed (past ++ deeds) ≡ committed past ++ t ∷ []
    one_committed phases is = committed_more ∙ ap (λ xs. committed past ++ filter (is_committed (past ++ deeds)) xs) phases
        ∙ ap (λ xs. committed past ++ xs) (if_true (is_committed (past ++ deeds) t) (t ∷ []) [] (list_any-append (commits_it t) past deeds ∙ ap₂ (λ a b. a || b) fresh.no_commit is))

  -- ---- the deeds of a transaction
  pub log_own : (t : Name) (es : List (Work L)) → Of t (log t es)
  log_own t [] = tt
  log_own t (x ∷ es) = (refl, (refl, (refl, log_own t es)))

  pub log_phases : (t : Name) (es : List (Work L)) (more : List (Deed L)) → phases_of (log t es ++ more) ≡ phases_of more
  log_phases t [] more = refl
  log_phases t (x ∷ es) more = log_phases t es more

  pub log_commits : (t : Name) (es : List (Work L)) (more : List (Deed L)) → list_any (commits_it t) (log t es ++ more) ≡ list_any (commits_it t) more
  log_commits t [] more = refl
  log_commits t (x ∷ es) more = log_commits t es more

  pub log_statements : (t : Name) (es : List (Work L)) (more : List (Deed L)) → statements_of more t ≡ [] → statements_of (log t es ++ more) t ≡ map (λ x. x.statement) es
  log_statements t [] more none = none
  log_statements t (x ∷ es) more none = ap₂ (λ a b. a ++ b) (if_true (same t t) (x.statement ∷ []) [] (same_refl t)) (log_statements t es more none)

  pub log_answers : (t : Name) (es : List (Work L)) (more : List (Deed L)) → answers_of more t ≡ [] → answers_of (log t es ++ more) t ≡ map (λ x. x.choice.0) es
  log_answers t [] more none = none
  log_answers t (x ∷ es) more none = ap₂ (λ a b. a ++ b) (if_true (same t t) (x.choice.0 ∷ []) [] (same_refl t)) (log_answers t es more none)

  pub fruitless_own : (t : Name) (deeds : List (Deed L)) → Every (Fruitless t) deeds → Of t deeds × (list_any (commits_it t) deeds ≡ false)
  fruitless_own t [] all = (tt, refl)
  fruitless_own t (Stated u s ∷ deeds) all = let rest = fruitless_own t deeds all.1 in ((all.0, rest.0), rest.1)
  fruitless_own t (Worked u s asks choice ∷ deeds) all = let rest = fruitless_own t deeds all.1 in ((all.0, rest.0), rest.1)
  fruitless_own t (Answered u x ∷ deeds) all = let rest = fruitless_own t deeds all.1 in ((all.0, rest.0), rest.1)
  fruitless_own t (Phased u ∷ deeds) all = let rest = fruitless_own t deeds all.1 in ((all.0, rest.0), rest.1)
  fruitless_own t (Aborted u why ∷ deeds) all = let rest = fruitless_own t deeds all.1 in ((all.0, rest.0), rest.1)
  fruitless_own t (Rolled_back u ∷ deeds) all = let rest = fruitless_own t deeds all.1 in ((all.0, rest.0), rest.1)
  fruitless_own t (Began u ∷ deeds) all = absurd all.0
  fruitless_own t (Committed u ∷ deeds) all = absurd all.0
