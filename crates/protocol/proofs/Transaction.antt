-- A whole transaction of one client: from a quiet world to a quiet world.
use Rattle.std.proofs.Common.{◌≡◌, refl, sym, ap, ◌∙◌, subst, Bool, true, List, [], ◌∷◌, ◌++◌, map, ◌⊎◌, inl, inr, ⊎_elim, append-nil, append_assoc, false}
use Rattle.protocol.specs.Language.{Lang, IsLawful, Name}
use Rattle.protocol.specs.Letter.{Body, Letter, Open, Fetch, Write, Prepare, Commit, Abort, Ticket, Rows, Refused, Voted, Ack, Inquire}
use Rattle.protocol.specs.Desk.{Choice, Deed, Began, Stated, Worked, Answered, Phased, Committed, Aborted, Rolled_back, Why, State, Commit_call, Rollback, next_txn, desk_began, is_desk_within}
use Rattle.protocol.specs.World.{World, begun, begins, called}
use Rattle.protocol.specs.Client.{first, next, IsQuiet}
use Rattle.protocol.specs.StatementCourse.{Steady, InStatement, Well}
use Rattle.protocol.specs.AfterAbort.{EndKept, Within, Ending, Went}
use Rattle.protocol.specs.Committing.{Committing, CommitKept}
use Rattle.protocol.specs.Parts.{Work}
use Rattle.protocol.specs.ClientLaw.{taken, OfFirst, AllTaken, Doing, does_one, does, AllDone, log, Kept, ClientLaw}
use Rattle.protocol.proofs.Basics.{if_true}
use Rattle.protocol.proofs.Locks.{Once}
use Rattle.protocol.proofs.Limits.{begins_within, called_within, next_within}
use Rattle.protocol.proofs.Ended.{kept_end, ending_goes_on, ending_quiet}
use Rattle.protocol.proofs.Loose.{steady_loose, rollback_ends}
use Rattle.protocol.proofs.OneStatement.{statement_starts, statement_ends}
use Rattle.protocol.proofs.Overflow.{went_on}
use Rattle.protocol.proofs.Committing.{commit_starts, commit_goes_on, commit_ends}
use Rattle.protocol.proofs.StatementCourse.{begins_steady}

module _ {L : Lang} (law : IsLawful L) where
  -- what each letter keeps holds where none waits any more
  all_taken : (P : World L → Type 0) (ok : World L → Bool → Choice L → Letter L → Type 0) → ((w : World L) (l : Letter L) (q : List (Letter L)) → w.letters ≡ l ∷ q → Within w → (kept : Bool) (choice : Choice L) → ok w kept choice l → P w → P (next w kept choice)) →
      (takes : List (Bool × Choice L)) (w : World L) → Within w → P w → AllTaken ok takes w → P (taken takes w) × (Within (taken takes w) × ((taken takes w).letters ≡ []))
  all_taken P ok step [] w within holds none = (holds, (within, none))
  all_taken P ok step (x ∷ takes) w within holds all = all_taken P ok step takes (next w x.0 x.1) (next_within law w x.0 x.1 within) (go w.letters refl all.0) all.1
    where
      go : (letters : List (Letter L)) → w.letters ≡ letters → OfFirst ok w x.0 x.1 letters → P (next w x.0 x.1)
      go [] e tells = subst (λ letters. P (first w x.0 x.1 letters)) (sym e) holds
      go (l ∷ q) e tells = step w l q e within x.0 x.1 tells holds

  module _ (once : Once L.sites) where
    still_works : (t : Name) (s : L.Statement) (before : List (Deed L)) (w : World L) → Went ⊥ t s before w → InStatement t s before w
    still_works t s before w (inl at_) = at_
    still_works t s before w (inr failing) = absurd failing.0

    -- statements one after another
    all_done : (t : Name) (xs : List (Doing L)) (w : World L) → Steady t w → Within w → AllDone t w xs →
        Steady t (does t xs w) × (Within (does t xs w) × ((es : List (Work L)) × ((map (λ x. x.statement) es ≡ map (λ x. x.statement) xs) × ((does t xs w).past ≡ w.past ++ log t es))))
    all_done t [] w steady within all = (steady, (within, ([], (refl, sym (append-nil w.past)))))
    all_done t (x ∷ xs) w steady within all =
        let s = x.statement in
        let one = all.0 in
        let asked = called w t x.choice (State s) in
        let came = all_taken (InStatement t s w.past) (Well ⊥ s) (λ v l q e inside kept choice well at_. still_works t s w.past (next v kept choice) (went_on law once ⊥ t s w.past v inside kept choice l q e well (inl at_))) x.takes asked (called_within w t x.choice (State s) within) (statement_starts law once t s w x.choice steady one.fetched one.written one.within) one.all in
        let done = statement_ends law once t s w.past (does_one t w x) came.0 came.1.1 in
        let rest = all_done t xs (does_one t w x) done.0 came.1.0 all.1 in
        let entry : Work L = record { statement = s; asks = done.1.0; choice = done.1.1 } in (
          rest.0,
          (
            rest.1.0,
            (
              entry ∷ rest.1.1.0,
              (
                ap (λ y. s ∷ y) rest.1.1.1.0,
                rest.1.1.1.1 ∙ ap (λ y. y ++ log t rest.1.1.0) done.1.2 ∙ append_assoc w.past (Stated t s ∷ Worked t s done.1.0 done.1.1 ∷ Answered t done.1.1.0 ∷ []) (log t rest.1.1.0),
              ),
            ),
          ),
        )

    -- the deeds of a transaction up to its last request
    opened_past : (w : World L) → is_desk_within (desk_began w.desk) ≡ true → (begins w).past ≡ w.past ++ Began (next_txn w.desk) ∷ []
    opened_past w room = ap (λ (v : World L). v.past) (if_true (is_desk_within (desk_began w.desk)) (begun false w) w room)

    module _ (w : World L) (xs : List (Doing L)) (quiet : IsQuiet w) (within : Within w) (room : is_desk_within (desk_began w.desk) ≡ true) (all : AllDone (next_txn w.desk) (begins w) xs) where
      abbrev t : Name
      t = next_txn w.desk

      abbrev v : World L
      v = does t xs (begins w)

      abbrev Before : List (Work L) → List (Deed L)
      Before es = (w.past ++ Began t ∷ []) ++ log t es

      worked : Steady t v × (Within v × ((es : List (Work L)) × ((map (λ x. x.statement) es ≡ map (λ x. x.statement) xs) × (v.past ≡ Before es))))
      worked =
          let done = all_done t xs (begins w) (begins_steady w quiet room) (begins_within w within) all in
          (done.0, (done.1.0, (done.1.1.0, (done.1.1.1.0, done.1.1.1.1 ∙ ap (λ y. y ++ log t done.1.1.0) (opened_past w room)))))

      -- a commit: done, or there was an excuse E
      pub transaction_commits : (E : Type 0) (choice : Choice L) (takes : List (Bool × Choice L)) → AllTaken (λ y kept c l. CommitKept E kept l.body) takes (called v t choice Commit_call) →
          IsQuiet (taken takes (called v t choice Commit_call)) × ((es : List (Work L)) × (map (λ x. x.statement) es ≡ map (λ x. x.statement) xs) × (((taken takes (called v t choice Commit_call)).past ≡ Before es ++ (Phased t ∷ Committed t ∷ [])) ⊎ (E × ((why : Why) × ((taken takes (called v t choice Commit_call)).past ≡ Before es ++ (Phased t ∷ Aborted t why ∷ []))))))
      transaction_commits E choice takes kept =
          let asked = called v t choice Commit_call in
          let came = all_taken (Committing E t v.past) (λ y kept c l. CommitKept E kept l.body) (λ y l q e inside kept c keeps committing. commit_goes_on law once E t v.past y l q e inside kept c keeps committing) takes asked (called_within v t choice Commit_call worked.1.0) (commit_starts law once E t v.past v worked.0 choice worked.1.0 refl) kept in
          let done = commit_ends law once E t v.past (taken takes asked) came.0 came.1.1 in
          let es = worked.1.1.0 in
          let past = worked.1.1.1.1 in (
            done.0,
            (
              es,
              worked.1.1.1.0,
              ⊎_elim (λ is. inl (is ∙ ap (λ y. y ++ (Phased t ∷ Committed t ∷ [])) past)) (λ excused. inr (excused.0, (excused.1.0, excused.1.1 ∙ ap (λ y. y ++ (Phased t ∷ Aborted t excused.1.0 ∷ [])) past))) done.1,
            ),
          )

      pub transaction_rolls_back : (choice : Choice L) (takes : List (Bool × Choice L)) → AllTaken (λ y kept c l. EndKept kept l.body) takes (called v t choice Rollback) →
          IsQuiet (taken takes (called v t choice Rollback)) × ((es : List (Work L)) × (map (λ x. x.statement) es ≡ map (λ x. x.statement) xs) × ((taken takes (called v t choice Rollback)).past ≡ Before es ++ (Rolled_back t ∷ [])))
      transaction_rolls_back choice takes kept =
          let asked = called v t choice Rollback in
          let deeds = v.past ++ Rolled_back t ∷ [] in
          let came = all_taken (Ending deeds) (λ y kept c l. EndKept kept l.body) (λ y l q e inside kept c keeps ending. ending_goes_on law deeds y l q e ending law.touches_none inside kept c keeps) takes asked (called_within v t choice Rollback worked.1.0) (rollback_ends law once t v.past v choice (steady_loose t v worked.0) worked.1.0) kept in
          (ending_quiet law deeds (taken takes asked) came.0 came.1.1, (worked.1.1.0, worked.1.1.1.0, came.0.past ∙ ap (λ y. y ++ (Rolled_back t ∷ [])) worked.1.1.1.1))

    -- what is asked of each letter may be weaker
    taken_more : (P Q : World L → Bool → Choice L → Letter L → Type 0) → ((w : World L) (kept : Bool) (choice : Choice L) (l : Letter L) → P w kept choice l → Q w kept choice l) → (takes : List (Bool × Choice L)) (w : World L) → AllTaken P takes w → AllTaken Q takes w
    taken_more P Q to [] w none = none
    taken_more P Q to (x ∷ takes) w all = (go w.letters all.0, taken_more P Q to takes (next w x.0 x.1) all.1)
      where
        go : (letters : List (Letter L)) → OfFirst P w x.0 x.1 letters → OfFirst Q w x.0 x.1 letters
        go [] h = tt
        go (l ∷ q) h = to w x.0 x.1 l h

    pub kept_commit : (kept : Bool) (c : Body L) → kept ≡ true → CommitKept ⊥ kept c
    kept_commit kept (Prepare k n) is = inl is
    kept_commit kept (Voted k x) is = inl is
    kept_commit kept (Commit k) is = is
    kept_commit kept (Abort k) is = is
    kept_commit kept Open is = tt
    kept_commit kept (Fetch k op g q) is = tt
    kept_commit kept (Write k op g x) is = tt
    kept_commit kept (Ticket k) is = tt
    kept_commit kept (Rows k n rows) is = tt
    kept_commit kept (Refused k reason) is = tt
    kept_commit kept (Ack k) is = tt
    kept_commit kept (Inquire k) is = tt

    pub client_law : ClientLaw L
    client_law = record {
      commits = λ w xs choice takes quiet within room all kept.
          let done = transaction_commits w xs quiet within room all ⊥ choice takes (taken_more Kept (λ y kept c l. CommitKept ⊥ kept l.body) (λ y b c l is. kept_commit b l.body is) takes _ kept) in
          (done.0, (done.1.0, done.1.1, ⊎_elim (λ is. is) (λ none. absurd none.0) done.1.2));
      rolls_back = λ w xs choice takes quiet within room all kept. transaction_rolls_back w xs quiet within room all choice takes (taken_more Kept (λ y kept c l. EndKept kept l.body) (λ y b c l is. kept_end b l.body is) takes _ kept);
    }
