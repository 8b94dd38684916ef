-- What served machines do where all letters come smoothly.
use Rattle.std.proofs.Common.{◌≡◌, refl, sym, ap, ◌∙◌, subst, Bool, true, false, List, [], ◌∷◌, ◌++◌, map, ℕ, ◌⊎◌, inl, inr, ⊎_elim}
use Rattle.std.specs.List.{filter_map}
use Rattle.store.specs.Content.{Content}
use Rattle.meaning.specs.Whole.{Relations}
use Rattle.protocol.specs.Client.{IsQuiet, IsReached, first}
use Rattle.protocol.specs.Committing.{Committing}
use Rattle.protocol.specs.Desk.{Began, Choice, Commit_call, Committed, Deed, Phased, Rollback, Rolled_back, State, desk_began, is_desk_within, next_txn}
use Rattle.protocol.specs.Language.{IsLawful, Lang, Name}
use Rattle.protocol.specs.AfterAbort.{Ending, Within}
use Rattle.protocol.specs.StatementCourse.{Room}
use Rattle.protocol.specs.Letter.{Body, Letter, Open, Fetch, Write, Prepare, Commit, Abort, Ticket, Rows, Refused, Voted, Ack, Inquire}
use Rattle.protocol.specs.Site.{Active, Dead, Prepared, SiteState, Status, Visit}
use Rattle.protocol.specs.Serial.{AllExplained, Explained}
use Rattle.protocol.specs.WithoutRefusal.{InCourse, IsHoused, Ready, SmoothLaw}
use Rattle.protocol.specs.World.{World, begins, begun, called}
use Rattle.protocol.proofs.Basics.{by_test, if_true}
use Rattle.protocol.proofs.Data.{visit_is}
use Rattle.protocol.proofs.Ended.{ending_goes_on, ending_quiet, kept_end}
use Rattle.protocol.proofs.Loose.{rollback_ends, steady_loose}
use Rattle.protocol.proofs.Limits.{called_within, next_within}
use Rattle.protocol.proofs.Locks.{Once}
use Rattle.protocol.proofs.ForgottenLetters.{reached_law}
use Rattle.protocol.proofs.WithoutRefusal.{smooth_law}
use Rattle.protocol.specs.Delivery.{AllFounded, AllKept, AllSmooth, FindsNoRoom, FirstHinders, FirstIsFounded, FirstIsSmooth, Hinders, IsFounded, IsKept, IsSmooth, SomeHinder}
use Rattle.world.proofs.Reasoned.{seats_within}
use Rattle.desk.specs.declared.reply.Notice.{Notice}
use Rattle.desk.specs.declared.reply.Reply.TheVariants.{Begun}
use Rattle.desk.specs.Database.{Database, language}
use Rattle.desk.specs.Place.{Place}
use Rattle.desk.specs.State.{desk_of, notice_of}
use Rattle.desk.specs.Transition.{told}
use Rattle.world.specs.Mailbox.{Ask, AsksForNow, Coming, Passed_over, Serves, Taken, To_begin, To_do, Turned_away, all_come, asked, come, first_comes}
use Rattle.world.specs.Machines.{AreFit, Machines, world_of}
use Rattle.world.specs.Client.{IsServed}
use Rattle.world.specs.Smoothly.{IsReady, ServesUnlessRefused, ServesSmoothly, rests}
use Rattle.world.proofs.Beginning.{all_silent}
use Rattle.world.proofs.Reaching.{all_explained, all_reached, asked_reached}
use Rattle.world.proofs.Running.{all_both}
use Rattle.world.proofs.Sited.{AreSited, IsSited, Sited, called_sited, come_sited, not_passed, steady_sited}
use Rattle.desk.proofs.Explaining.{stated_plainly}

-- fit machines are within their limits
pub fit_within : (db : Database) (machines : Machines) (letters : List (Letter (language db))) (past : List (Deed (language db))) → AreFit db machines → Within (world_of db machines letters past)
fit_within db machines letters past fit = record { desk = fit.within; sites = λ name. seats_within db machines.seats name fit.sites }

-- what stands behind the same
pub same_behind : {A : Type 0} (past one other : List A) → past ++ one ≡ past ++ other → one ≡ other
same_behind [] one other e = e
same_behind (x ∷ past) one other e = same_behind past one other (tails x x (past ++ one) (past ++ other) e)
  where
    tails : {A : Type 0} (a b : A) (xs ys : List A) → a ∷ xs ≡ b ∷ ys → xs ≡ ys
    tails a b xs ys e = cc

-- a transaction that is ready under the catalogue of one number is so under that of another, where the same contents fit
pub ready_at : {L : Lang} {fits : L.Leaf → L.Content → Bool} (n m : ℕ) (t : Name) (w : World L) → Ready L n fits t w → Ready L m fits t w
ready_at n m t w ready = record { steady = ready.steady; fitting = ready.fitting }

-- n: the number of the catalogue in force
module _ (db : Database) (fits : Place → Content → Bool) (law : IsLawful (language db)) (once : Once db.sites) (housed : (n : ℕ) → IsHoused (language db) n fits) (n : ℕ) (whole : (language db).Whole) where
  abbrev smooth : SmoothLaw (language db) n fits
  smooth = smooth_law law once n fits (housed n)

  -- the letters of a statement come
  module _ (txn : Name) (statement : (language db).Statement) (before : List (Deed (language db))) where
    one_comes : (w : World (language db)) (c : Coming (language db)) (letters : List (Letter (language db))) → w.letters ≡ letters → Within w → FirstIsSmooth w c letters → IsReached whole (first_comes w c letters) → InCourse (language db) n fits txn statement before w →
        Within (first_comes w c letters) × InCourse (language db) n fits txn statement before (first_comes w c letters)
    one_comes w c [] e within is reached here = (within, here)
    one_comes w (Taken kept choice) (l ∷ q) e within is reached here = (
      subst (λ (letters : List (Letter (language db))). Within (first w kept choice letters)) e (next_within law w kept choice within),
      subst (λ (letters : List (Letter (language db))). InCourse (language db) n fits txn statement before (first w kept choice letters)) e
          (smooth.came whole w txn statement before kept choice l q e within is (subst (λ (letters : List (Letter (language db))). IsReached whole (first w kept choice letters)) (sym e) reached) here),
    )
    one_comes w (Turned_away choice) (l ∷ q) e within is reached here = absurd is
    one_comes w Passed_over (l ∷ q) e within is reached here = absurd is

    all_course : (cs : List (Coming (language db))) (w : World (language db)) → Within w → AllSmooth cs w → IsReached whole w → AllExplained (all_come cs w).past → InCourse (language db) n fits txn statement before w → InCourse (language db) n fits txn statement before (all_come cs w)
    all_course [] w within is reached explained here = here
    all_course (c ∷ cs) w within is reached explained here =
        let there : IsReached whole (come w c) = all_reached (reached_law law) whole (c ∷ []) w reached (all_explained cs (come w c) explained) in
        let one = one_comes w c w.letters refl within is.0 there here in
        all_course cs (come w c) one.0 is.1 there explained one.1

  -- those of a commit come
  module _ (txn : Name) (before : List (Deed (language db))) where
    one_voted : (w : World (language db)) (c : Coming (language db)) (letters : List (Letter (language db))) → w.letters ≡ letters → Within w → FirstIsSmooth w c letters → Committing ⊥ txn before w → Within (first_comes w c letters) × Committing ⊥ txn before (first_comes w c letters)
    one_voted w c [] e within is here = (within, here)
    one_voted w (Taken kept choice) (l ∷ q) e within is here = (
      subst (λ (letters : List (Letter (language db))). Within (first w kept choice letters)) e (next_within law w kept choice within),
      subst (λ (letters : List (Letter (language db))). Committing ⊥ txn before (first w kept choice letters)) e (smooth.voted w txn before kept choice l q e within is.is_kept here),
    )
    one_voted w (Turned_away choice) (l ∷ q) e within is here = absurd is
    one_voted w Passed_over (l ∷ q) e within is here = absurd is

    all_voted : (cs : List (Coming (language db))) (w : World (language db)) → Within w → AllSmooth cs w → Committing ⊥ txn before w → Committing ⊥ txn before (all_come cs w)
    all_voted [] w within is here = here
    all_voted (c ∷ cs) w within is here = let one = one_voted w c w.letters refl within is.0 here in all_voted cs (come w c) one.0 is.1 one.1

  -- those of a rollback come
  module _ (deeds : List (Deed (language db))) where
    one_ended : (w : World (language db)) (c : Coming (language db)) (letters : List (Letter (language db))) → w.letters ≡ letters → Within w → FirstIsSmooth w c letters → Ending deeds w → Within (first_comes w c letters) × Ending deeds (first_comes w c letters)
    one_ended w c [] e within is here = (within, here)
    one_ended w (Taken kept choice) (l ∷ q) e within is here = (
      subst (λ (letters : List (Letter (language db))). Within (first w kept choice letters)) e (next_within law w kept choice within),
      subst (λ (letters : List (Letter (language db))). Ending deeds (first w kept choice letters)) e (ending_goes_on law deeds w l q e here law.touches_none within kept choice (kept_end kept l.body is.is_kept)),
    )
    one_ended w (Turned_away choice) (l ∷ q) e within is here = absurd is
    one_ended w Passed_over (l ∷ q) e within is here = absurd is

    all_ended : (cs : List (Coming (language db))) (w : World (language db)) → Within w → AllSmooth cs w → Ending deeds w → Ending deeds (all_come cs w)
    all_ended [] w within is here = here
    all_ended (c ∷ cs) w within is here = let one = one_ended w c w.letters refl within is.0 here in all_ended cs (come w c) one.0 is.1 one.1

module _ (db : Database) (fits : Place → Content → Bool) (law : IsLawful (language db)) (once : Once db.sites) (housed : (n : ℕ) → IsHoused (language db) n fits) (whole : Relations) where
  -- a call, and what it has come to
  module _ (before after : Machines) (past : List (Deed (language db))) (heard : List Notice) (served : IsServed db whole before past) where
    abbrev here : World (language db)
    here = rests db before past

    abbrev n : ℕ
    n = before.table.version

    abbrev opened : (language db).Whole
    opened = (served.version, whole)

    abbrev smoothly : SmoothLaw (language db) n fits
    smoothly = smooth_law law once n fits (housed n)

    module _ (ask : Ask (language db)) (serves : Serves db ask before after heard) where
      pub all_here : AllExplained (all_come serves.comings (asked ask here)).past
      all_here = subst (λ (v : World (language db)). AllExplained v.past) (sym (serves.is past)) (all_both Explained past serves.deeds served.reached.explained serves.explained)

      pub asked_here : AsksForNow db n ask → IsReached opened (asked ask here)
      asked_here now = asked_reached db (reached_law law) whole served.version before served.fit past ask now served.reached (all_explained serves.comings (asked ask here) all_here)

      pub heard_of : (deeds : List (Deed (language db))) → past ++ serves.deeds ≡ past ++ deeds → map notice_of heard ≡ filter_map (told db) deeds
      heard_of deeds e = serves.replies ∙ ap (filter_map (told db)) (same_behind past serves.deeds deeds e)

    began : IsQuiet here → is_desk_within (desk_began (desk_of db before.table)) ≡ true → (serves : Serves db To_begin before after heard) →
        IsReady db fits (next_txn (desk_of db before.table)) after (past ++ serves.deeds) × (map notice_of heard ≡ (next_txn (desk_of db before.table), Begun) ∷ [])
    began quiet room serves =
        let is_begun = if_true (is_desk_within (desk_began here.desk)) (begun false here) here room in
        let silent : (begins here).letters ≡ [] = ap (λ (v : World (language db)). v.letters) (if_true (is_desk_within (desk_began here.desk)) (begun false here) here room) in
        let same = sym (all_silent serves.comings (begins here) silent) ∙ serves.is past in (
          ready_at n after.table.version (next_txn (desk_of db before.table)) (rests db after (past ++ serves.deeds)) (subst (Ready (language db) n fits (next_txn (desk_of db before.table))) same (smoothly.begun opened here served.reached quiet refl room)),
          heard_of To_begin serves (Began (next_txn here.desk) ∷ []) (sym (ap (λ (v : World (language db)). v.past) same) ∙ ap (λ (v : World (language db)). v.past) is_begun),
        )

    -- a rollback
    rolled_back : (txn : Name) (choice : Choice (language db)) → Ready (language db) n fits txn here → (serves : Serves db (To_do txn Rollback choice) before after heard) → AllSmooth serves.comings (called here txn choice Rollback) →
        IsQuiet (rests db after (past ++ serves.deeds)) × (past ++ serves.deeds ≡ past ++ Rolled_back txn ∷ [])
    rolled_back txn choice ready serves is =
        let within = fit_within db before [] past served.fit in
        let ended : Ending (past ++ Rolled_back txn ∷ []) (called here txn choice Rollback) = rollback_ends law once txn past here choice (steady_loose txn here ready.steady) within in
        let ending = subst (Ending (past ++ Rolled_back txn ∷ [])) (serves.is past) (all_ended db fits law once housed n opened (past ++ Rolled_back txn ∷ []) serves.comings (called here txn choice Rollback) (called_within here txn choice Rollback within) is ended) in
        (ending_quiet law (past ++ Rolled_back txn ∷ []) (rests db after (past ++ serves.deeds)) ending refl, ending.past)

    committed : (txn : Name) (choice : Choice (language db)) → Ready (language db) n fits txn here → (serves : Serves db (To_do txn Commit_call choice) before after heard) → AllSmooth serves.comings (called here txn choice Commit_call) →
        IsQuiet (rests db after (past ++ serves.deeds)) × (past ++ serves.deeds ≡ past ++ Phased txn ∷ Committed txn ∷ [])
    committed txn choice ready serves is =
        let within = fit_within db before [] past served.fit in
        smoothly.committed (rests db after (past ++ serves.deeds)) txn past
        (subst (Committing ⊥ txn past) (serves.is past) (all_voted db fits law once housed n opened txn past serves.comings (called here txn choice Commit_call) (called_within here txn choice Commit_call within) is (smoothly.asked here txn choice ready.steady within))) refl

pub serves_smoothly : (db : Database) (fits : Place → Content → Bool) → IsLawful (language db) → Once db.sites → ((n : ℕ) → IsHoused (language db) n fits) → ServesSmoothly db fits
serves_smoothly db fits law once housed = record {
  begins = λ whole before after past heard served quiet room serves. began db fits law once housed whole before after past heard served quiet room serves;
  answers = λ whole before after past txn statement choice heard served ready is room serves smooth_.
      let L = language db in
      let n = before.table.version in
      let opened : L.Whole = (served.version, whole) in
      let s : L.Statement = (n, statement) in
      let here = rests db before past in
      let ask = To_do txn (State s) choice in
      let reached = asked_here db fits law once housed whole before after past heard served ask serves (refl, is.stays) in
      let explained = all_here db fits law once housed whole before after past heard served ask serves in
      let law_of : SmoothLaw L n fits = smooth_law law once n fits (housed n) in
      let within = called_within here txn choice (State s) (fit_within db before [] past served.fit) in
      let came = all_course db fits law once housed n opened txn s past serves.comings (called here txn choice (State s)) within smooth_ reached explained (law_of.stated opened here txn s choice ready (stated_plainly db n statement is) refl is.stays room reached) in
      let done = law_of.answered (rests db after (past ++ serves.deeds)) txn s past (subst (InCourse L n fits txn s past) (serves.is past) came) refl is.stays in
      (ready_at n after.table.version txn (rests db after (past ++ serves.deeds)) done.0, (done.1.1.0, heard_of db fits law once housed whole before after past heard served ask serves _ done.1.2));
  commits = λ whole before after past txn choice heard served ready serves smooth_.
      let done = committed db fits law once housed whole before after past heard served txn choice ready serves smooth_ in
      (done.0, heard_of db fits law once housed whole before after past heard served (To_do txn Commit_call choice) serves _ done.1);
  rolls_back = λ whole before after past txn choice heard served ready serves smooth_.
      let done = rolled_back db fits law once housed whole before after past heard served txn choice ready serves smooth_ in
      (done.0, heard_of db fits law once housed whole before after past heard served (To_do txn Rollback choice) serves _ done.1);
}

-- ---- each letter comes smoothly, or something is refused
module _ (db : Database) where
  pub room_or_full : (s : SiteState (language db)) (body : Body (language db)) → Room s body ⊎ FindsNoRoom s body
  room_or_full s (Write ticket op leaf write) = go (s.status ticket) refl
    where
      go : (status : Status (language db)) → s.status ticket ≡ status → ((v : Visit (language db)) → s.status ticket ≡ Active v → (language db).is_full leaf write v.changes ≡ false) ⊎ ((v : Visit (language db)) × ((s.status ticket ≡ Active v) × ((language db).is_full leaf write v.changes ≡ true)))
      go Dead is = inl (λ v active. let e = sym is ∙ active in cc)
      go (Prepared t i) is = inl (λ v active. let e = sym is ∙ active in cc)
      go (Active x) is = ⊎_elim (λ full. inr (x, (is, full))) (λ room. inl (λ v active. ap (λ (y : Visit (language db)). (language db).is_full leaf write y.changes) (visit_is v x (sym active ∙ is)) ∙ room)) (by_test ((language db).is_full leaf write x.changes))
  room_or_full s Open = inl tt
  room_or_full s (Fetch k op g q) = inl tt
  room_or_full s (Prepare k n) = inl tt
  room_or_full s (Commit k) = inl tt
  room_or_full s (Abort k) = inl tt
  room_or_full s (Ticket k) = inl tt
  room_or_full s (Rows k n rows) = inl tt
  room_or_full s (Refused k reason) = inl tt
  room_or_full s (Voted k vote) = inl tt
  room_or_full s (Ack k) = inl tt
  room_or_full s (Inquire k) = inl tt

-- Unkept: what is the case where a store call isn't kept
module _ (db : Database) (law : IsLawful (language db)) (Unkept : Type 0) where
  one_smooth : (w : World (language db)) (c : Coming (language db)) (l : Letter (language db)) → IsSited l → IsFounded w c l → IsKept c ⊎ Unkept → IsSmooth w c l ⊎ Hinders Unkept w c l
  one_smooth w (Taken true choice) l sited founded kept = ⊎_elim (λ room. inl (record { is_kept = refl; within = founded.0; room = room })) (λ full. inr full) (room_or_full db (w.sites l.site) l.body)
  one_smooth w (Taken false choice) l sited founded kept = ⊎_elim (λ wrong. absurd wrong) (λ unkept. inr (unkept, founded)) kept
  one_smooth w (Turned_away choice) l sited founded kept = inr founded
  one_smooth w Passed_over l sited founded kept = absurd (not_passed db law w l sited founded)

  first_smooth : (w : World (language db)) (c : Coming (language db)) (letters : List (Letter (language db))) → AreSited letters → FirstIsFounded w c letters → IsKept c ⊎ Unkept → FirstIsSmooth w c letters ⊎ FirstHinders Unkept w c letters
  first_smooth w c [] sited founded kept = inl tt
  first_smooth w c (l ∷ q) sited founded kept = one_smooth w c l sited.0 founded kept

  all_smooth : (cs : List (Coming (language db))) (w : World (language db)) → Sited w → AllFounded cs w → AllKept cs ⊎ Unkept → AllSmooth cs w ⊎ SomeHinder Unkept cs w
  all_smooth [] w sited founded kept = inl tt
  all_smooth (c ∷ cs) w sited founded kept = ⊎_elim
      (λ smooth. ⊎_elim (λ rest. inl (smooth, rest)) (λ refused. inr (inr refused)) (all_smooth cs (come w c) (come_sited law w c w.letters refl sited) founded.1 (⊎_elim (λ all. inl all.1) (λ unkept. inr unkept) kept)))
      (λ refused. inr (inl refused)) (first_smooth w c w.letters sited.letters founded.0 (⊎_elim (λ all. inl all.0) (λ unkept. inr unkept) kept))

pub serves_unless_refused : (db : Database) (fits : Place → Content → Bool) → IsLawful (language db) → ServesSmoothly db fits → ServesUnlessRefused db fits
serves_unless_refused db fits lawful law = record {
  answers = λ whole before after past txn statement choice heard served ready is room serves. ⊎_elim
      (λ smooth. inl (law.answers whole before after past txn statement choice heard served ready is room serves smooth)) (λ refused. inr refused)
      (all_smooth db lawful _ serves.comings (called (rests db before past) txn choice (State (before.table.version, statement))) (called_sited (rests db before past) txn choice (State (before.table.version, statement)) (steady_sited txn (rests db before past) ready.steady)) (serves.founded past) serves.kept);
  commits = λ whole before after past txn choice heard served ready serves. ⊎_elim
      (λ smooth. inl (law.commits whole before after past txn choice heard served ready serves smooth)) (λ refused. inr refused)
      (all_smooth db lawful _ serves.comings (called (rests db before past) txn choice Commit_call) (called_sited (rests db before past) txn choice Commit_call (steady_sited txn (rests db before past) ready.steady)) (serves.founded past) serves.kept);
  rolls_back = λ whole before after past txn choice heard served ready serves. ⊎_elim
      (λ smooth. inl (law.rolls_back whole before after past txn choice heard served ready serves smooth)) (λ refused. inr refused)
      (all_smooth db lawful _ serves.comings (called (rests db before past) txn choice Rollback) (called_sited (rests db before past) txn choice Rollback (steady_sited txn (rests db before past) ready.steady)) (serves.founded past) serves.kept);
}
