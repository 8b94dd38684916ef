-- From the serial law: what one client's transactions answer and leave.
use Rattle.std.proofs.Common.{◌≡◌, refl, sym, ap, ap₂, ◌∙◌, true, false, List, [], ◌∷◌, ◌++◌, map, append_assoc}
use Rattle.std.proofs.lemmas.List.{map-append}
use Rattle.std.specs.List.{list_any}
use Rattle.protocol.specs.Language.{Lang, IsLawful, Name}
use Rattle.protocol.specs.Site.{Status, Dead, Active, Prepared}
use Rattle.protocol.specs.Desk.{Deed, Desk, Began, Stated, Worked, Answered, Phased, Committed, Aborted, Rolled_back, Why, next_txn}
use Rattle.protocol.specs.World.{World}
use Rattle.protocol.specs.Serial.{commits_it, committed, statements_of, answers_of, with_decided, with_all_decided, whole_after, answers_in_turn, serial_whole, serial_answers, IsSerial}
use Rattle.protocol.specs.Client.{IsReached, IsQuiet}
use Rattle.protocol.specs.VisitPlaces.{Unlocked}
use Rattle.protocol.specs.AfterAbort.{Since, Fruitless}
use Rattle.protocol.specs.Parts.{Work}
use Rattle.protocol.specs.ClientLaw.{log}
use Rattle.protocol.specs.OneClient.{Rebuilds, now, stated_in, answered_in, Outcome, Did_commit, Did_end, Leads, Follows, done_in, OneAtATime}
use Rattle.protocol.proofs.Basics.{Every, every_append, same_refl}
use Rattle.protocol.proofs.ForgottenLetters.{reached_serial}
use Rattle.protocol.proofs.SerialLaw.{serial_law}
use Rattle.protocol.proofs.Works.{txn_of}
use Rattle.protocol.proofs.Deeds.{IsFresh, Of, next_is_fresh, statements_before, answers_before, statements_own, answers_own, none_committed, one_committed, log_own, log_phases, log_commits, log_statements, log_answers, fruitless_own}

-- what follows the first elements of equal lists
tails : {A : Type 0} (a b : A) (xs ys : List A) → a ∷ xs ≡ b ∷ ys → xs ≡ ys
tails a b xs ys e = cc

-- the last elements of equal lists
last_is : {A : Type 0} (xs ys : List A) (x y : A) → xs ++ x ∷ [] ≡ ys ++ y ∷ [] → x ≡ y
last_is [] [] x y e = cc
last_is [] (b ∷ []) x y e = cc
last_is [] (b ∷ c ∷ ys) x y e = cc
last_is (a ∷ []) [] x y e = cc
last_is (a ∷ b ∷ xs) [] x y e = cc
last_is (a ∷ xs) (b ∷ ys) x y e = last_is xs ys x y (tails a b (xs ++ x ∷ []) (ys ++ y ∷ []) e)

module _ (L : Lang) where
  serial_whole_more : (xs : List (List L.Statement)) (ss : List L.Statement) (whole : L.Whole) → serial_whole L (xs ++ ss ∷ []) whole ≡ whole_after L ss (serial_whole L xs whole)
  serial_whole_more [] ss whole = refl
  serial_whole_more (x ∷ xs) ss whole = serial_whole_more xs ss (whole_after L x whole)

  serial_answers_more : (xs : List (List L.Statement)) (ss : List L.Statement) (whole : L.Whole) → serial_answers L (xs ++ ss ∷ []) whole ≡ serial_answers L xs whole ++ answers_in_turn L ss (serial_whole L xs whole) ∷ []
  serial_answers_more [] ss whole = refl
  serial_answers_more (x ∷ xs) ss whole = ap (λ r. answers_in_turn L x whole ∷ r) (serial_answers_more xs ss (whole_after L x whole))

module _ {L : Lang} (law : IsLawful L) where
  -- where nothing is prepared, the kept fragments are the settled ones
  none_decided : (d : Desk L) (g : L.Leaf) (status : Name → Status L) (names : List Name) (content : L.Content) → ((k : Name) → Unlocked (status k)) → with_all_decided d g status names content ≡ content
  none_decided d g status [] content free = refl
  none_decided d g status (k ∷ names) content free = ap (with_all_decided d g status names) (one (status k) (free k)) ∙ none_decided d g status names content free
    where
      one : (st : Status L) → Unlocked st → with_decided d g st content ≡ content
      one Dead free = refl
      one (Active v) free = refl
      one (Prepared t i) free = absurd free

  pub quiet_rebuilt : (whole : L.Whole) (w : World L) → IsReached whole w → IsQuiet w → Rebuilds w (now whole w)
  quiet_rebuilt whole w reached quiet g =
      let s = w.sites (L.home g) in
      sym (none_decided w.desk g s.status s.known (s.kept g) (quiet.calm (L.home g))) ∙ (reached_serial whole w reached (serial_law law)).rebuilt g

  -- one more transaction committed
  module _ (whole : L.Whole) (w v : World L) (reached : IsReached whole w) (later : IsReached whole v) where
    abbrev t : Name
    t = next_txn w.desk

    fresh : IsFresh w.past t
    fresh = next_is_fresh law whole w reached

    pub commits_serially : (es : List (Work L)) → Leads (Did_commit es) w v → (answered_in es ≡ answers_in_turn L (stated_in es) (now whole w)) × (now whole v ≡ whole_after L (stated_in es) (now whole w))
    commits_serially es past = (
      last_is (map (answers_of w.past) (committed w.past)) (serial_answers L before whole) (answered_in es) (answers_in_turn L (stated_in es) (serial_whole L before whole)) (sym answers ∙ serial.answers ∙ ap (λ ss. serial_answers L ss whole) statements ∙ serial_answers_more L before (stated_in es) whole),
      ap (λ ss. serial_whole L ss whole) statements ∙ serial_whole_more L before (stated_in es) whole,
    )
      where
        end : List (Deed L)
        end = Phased t ∷ Committed t ∷ []

        deeds : List (Deed L)
        deeds = Began t ∷ (log t es ++ end)

        before : List (List L.Statement)
        before = map (statements_of w.past) (committed w.past)

        serial : IsSerial whole v
        serial = reached_serial whole v later (serial_law law)

        is : v.past ≡ w.past ++ deeds
        is = past ∙ append_assoc (w.past ++ Began t ∷ []) (log t es) end ∙ append_assoc w.past (Began t ∷ []) (log t es ++ end)

        own : Of t deeds
        own = (refl, every_append (λ d. txn_of d ≡ t) (log t es) end (log_own t es) (refl, (refl, tt)))

        one : committed (w.past ++ deeds) ≡ committed w.past ++ t ∷ []
        one = one_committed w.past t fresh deeds own (log_phases t es end) (log_commits t es end ∙ its_own)
          where
            its_own : list_any (λ d. commits_it t d) end ≡ true
            its_own = rw (same_refl t) refl

        statements : map (statements_of v.past) (committed v.past) ≡ before ++ stated_in es ∷ []
        statements = ap (λ p. map (statements_of p) (committed p)) is ∙ ap (map (statements_of (w.past ++ deeds))) one ∙ map-append (statements_of (w.past ++ deeds)) (committed w.past) (t ∷ [])
            ∙ ap₂ (λ xs ss. xs ++ ss ∷ []) (statements_before w.past t fresh deeds own) (statements_own w.past t fresh deeds own ∙ log_statements t es end refl)

        answers : map (answers_of v.past) (committed v.past) ≡ map (answers_of w.past) (committed w.past) ++ answered_in es ∷ []
        answers = ap (λ p. map (answers_of p) (committed p)) is ∙ ap (map (answers_of (w.past ++ deeds))) one ∙ map-append (answers_of (w.past ++ deeds)) (committed w.past) (t ∷ [])
            ∙ ap₂ (λ xs ss. xs ++ ss ∷ []) (answers_before w.past t fresh deeds own) (answers_own w.past t fresh deeds own ∙ log_answers t es end refl)

    -- one more ended otherwise
    pub nothing_changed : Leads Did_end w v → now whole v ≡ now whole w
    nothing_changed since = ap (λ p. serial_whole L (map (statements_of p) (committed p)) whole) is
        ∙ ap (λ ts. serial_whole L (map (statements_of (w.past ++ deeds)) ts) whole) (none_committed w.past t fresh deeds own all.1)
        ∙ ap (λ ss. serial_whole L ss whole) (statements_before w.past t fresh deeds own)
      where
        deeds : List (Deed L)
        deeds = Began t ∷ since.more

        all : Of t since.more × (list_any (commits_it t) since.more ≡ false)
        all = fruitless_own t since.more since.fruitless

        own : Of t deeds
        own = (refl, all.0)

        is : v.past ≡ w.past ++ deeds
        is = since.is ∙ append_assoc w.past (Began t ∷ []) since.more

  -- transactions one after another
  pub serially : (whole : L.Whole) (xs : List (Outcome L)) (w v : World L) → IsReached whole w → Follows whole xs w v → (map answered_in (done_in xs) ≡ serial_answers L (map stated_in (done_in xs)) (now whole w)) × (now whole v ≡ serial_whole L (map stated_in (done_in xs)) (now whole w))
  serially whole [] w v reached follows = (refl, ap (now whole) (sym follows))
  serially whole (Did_end ∷ xs) w v reached follows =
      let rest = serially whole xs follows.0 v follows.1.0 follows.1.1.1 in
      let same_ = nothing_changed whole w follows.0 reached follows.1.0 follows.1.1.0 in
      (rest.0 ∙ ap (serial_answers L (map stated_in (done_in xs))) same_, rest.1 ∙ ap (serial_whole L (map stated_in (done_in xs))) same_)
  serially whole (Did_commit es ∷ xs) w v reached follows =
      let rest = serially whole xs follows.0 v follows.1.0 follows.1.1.1 in
      let one = commits_serially whole w follows.0 reached follows.1.0 es follows.1.1.0 in
      (ap₂ (λ a r. a ∷ r) one.0 (rest.0 ∙ ap (serial_answers L (map stated_in (done_in xs))) one.1), rest.1 ∙ ap (serial_whole L (map stated_in (done_in xs))) one.1)

  -- an end without a commit, as it is found
  pub since_aborted : (t : Name) (before past : List (Deed L)) (why : Why) → past ≡ before ++ Phased t ∷ Aborted t why ∷ [] → Since t before past
  since_aborted t before past why is = record { more = Phased t ∷ Aborted t why ∷ []; is = is; fruitless = (refl, (refl, tt)) }

  pub since_rolled_back : (t : Name) (before past : List (Deed L)) → past ≡ before ++ Rolled_back t ∷ [] → Since t before past
  since_rolled_back t before past is = record { more = Rolled_back t ∷ []; is = is; fruitless = (refl, tt) }

  log_fruitless : (t : Name) (es : List (Work L)) → Every (Fruitless t) (log t es)
  log_fruitless t [] = tt
  log_fruitless t (x ∷ es) = (refl, (refl, (refl, log_fruitless t es)))

  -- what happened since a transaction's answered statements happened since it began
  pub since_log : (t : Name) (before past : List (Deed L)) (es : List (Work L)) → Since t (before ++ log t es) past → Since t before past
  since_log t before past es since = record {
    more = log t es ++ since.more;
    is = since.is ∙ append_assoc before (log t es) since.more;
    fruitless = every_append (Fruitless t) (log t es) since.more (log_fruitless t es) since.fruitless;
  }

  log_append : (t : Name) (es more : List (Work L)) → log t (es ++ more) ≡ log t es ++ log t more
  log_append t [] more = refl
  log_append t (x ∷ es) more = ap (λ d. Stated t x.statement ∷ Worked t x.statement x.asks x.choice ∷ Answered t x.choice.0 ∷ d) (log_append t es more)

  -- one more statement
  pub log_more : (t : Name) (before past : List (Deed L)) (es : List (Work L)) (x : Work L) → past ≡ (before ++ log t es) ++ log t (x ∷ []) → past ≡ before ++ log t (es ++ x ∷ [])
  log_more t before past es x is = is ∙ append_assoc before (log t es) (log t (x ∷ [])) ∙ ap (λ d. before ++ d) (sym (log_append t es (x ∷ [])))

  pub one_at_a_time : OneAtATime L
  one_at_a_time = record {
    rebuilt = quiet_rebuilt;
    commits = λ whole w v es reached later leads. commits_serially whole w v reached later es leads;
    ends = λ whole w v reached later leads. nothing_changed whole w v reached later leads;
    all = serially;
  }
