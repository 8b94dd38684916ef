-- The serial law: along the line each committed transaction asks, answers and writes as in the serial run.
use Rattle.std.proofs.Common.{◌≡◌, refl, sym, ap, ap₂, ◌∙◌, subst, List, [], ◌∷◌, map, filter, inl, ⊎_elim, Some, append-nil, Bool, ◌||◌, ℕ, true, if◌then◌else◌}
use Rattle.protocol.specs.Language.{Lang, IsLawful, Name, same, written}
use Rattle.protocol.specs.Desk.{Deed, Began, Stated, Worked, Answered, Phased, Committed, Aborted, Rolled_back, Idle, is_undecided, is_moving}
use Rattle.protocol.specs.World.{Event, World, run}
use Rattle.protocol.specs.Serial.{committed, is_committed, phases_of, statements_of, answers_of, settled, Gives, Explained, AllExplained, whole_after, answers_in_turn, serial_whole, serial_answers, IsOpening, SerialLaw, committed_whole}
use Rattle.protocol.proofs.Basics.{Every, every_append, by_test, if_true, if_false, either, or_left}
use Rattle.protocol.proofs.Fits.{IsCommitted}
use Rattle.protocol.proofs.Ops.{written_append}
use Rattle.protocol.proofs.Works.{Work, work_in, works, own_of}
use Rattle.protocol.proofs.Book.{Told}
use Rattle.protocol.proofs.Line.{Line, RightFrom, after, every_here}
use Rattle.protocol.proofs.Invariant.{Counts}
use Rattle.protocol.proofs.Order.{InStep, ends, Order}
use Rattle.protocol.proofs.Versions.{Versions}
use Rattle.protocol.proofs.VersionedEvents.{run_versions}
use Rattle.protocol.proofs.InvariantSites.{IsDeep}
use Rattle.protocol.proofs.InvariantEvents.{run_deep, opening_deep}

module _ {L : Lang} where
  -- an evaluated statement answers and writes as its meaning over every whole database that gives its rows
  abbrev pub IsExplained : Work L → Type 0
  IsExplained x = L.IsStatement x.statement × ((whole : L.Whole) → L.IsWhole whole → L.tag x.statement ≡ L.version whole → Gives whole x.asks → (x.choice.0 ≡ (L.meaning x.statement whole).0) × (x.choice.1 ≡ L.writes whole (L.meaning x.statement whole).1))

  explained_in : (t : Name) (d : Deed L) → Explained d → Every IsExplained (work_in t d)
  explained_in t (Began u) e = tt
  explained_in t (Stated u s) e = tt
  explained_in t (Worked u s asks choice) e = either (Every IsExplained) (same u t) (record { statement = s; asks = asks; choice = choice } ∷ []) [] (e, tt) tt
  explained_in t (Answered u x) e = tt
  explained_in t (Phased u) e = tt
  explained_in t (Committed u) e = tt
  explained_in t (Aborted u why) e = tt
  explained_in t (Rolled_back u) e = tt

  pub explained_works : (t : Name) (past : List (Deed L)) → AllExplained past → Every IsExplained (works past t)
  explained_works t [] all = tt
  explained_works t (d ∷ past) all = every_append IsExplained (work_in t d) (works past t) (explained_in t d all.0) (explained_works t past all.1)

  module _ (law : IsLawful L) where
    -- the catalogue in force after one statement
    pub next_step : (s : L.Statement) (whole : L.Whole) (ss : List L.Statement) → L.IsStatement s → L.IsWhole whole → (step : InStep L (L.version whole) (s ∷ ss)) → InStep L (L.version (L.meaning s whole).1) ss
    next_step s whole ss is fits step = subst (λ n. InStep L n ss) (sym (law.counts s whole is fits step.0)) step.1

    -- the works of one transaction, each for the catalogue in force at its place, over contents of a whole database
    pub record Serially (xs : List (Work L)) (whole : L.Whole) (c : L.Leaf → L.Content) : Type 0 where
      pub is_whole : L.IsWhole (whole_after L (map (λ x. x.statement) xs) whole)
      pub answers : map (λ x. x.choice.0) xs ≡ answers_in_turn L (map (λ x. x.statement) xs) whole
      pub rebuilt : (g : L.Leaf) → written L g (own_of xs) (c g) ≡ L.content g (whole_after L (map (λ x. x.statement) xs) whole)
      pub in_force : L.version (whole_after L (map (λ x. x.statement) xs) whole) ≡ ends L (L.version whole) (map (λ x. x.statement) xs)

    pub serial_works : (xs : List (Work L)) (whole : L.Whole) (c : L.Leaf → L.Content) → L.IsWhole whole → ((g : L.Leaf) → c g ≡ L.content g whole) → RightFrom c xs → Every IsExplained xs → InStep L (L.version whole) (map (λ x. x.statement) xs) → Serially xs whole c
    serial_works [] whole c fits base right explained step = record { is_whole = fits; answers = refl; rebuilt = base; in_force = refl }
    serial_works (x ∷ xs) whole c fits base right explained step =
        let gives : Gives whole x.asks = every_here (λ q. q.rows ≡ Some (L.parts q.query (c q.leaf))) (λ q. q.rows ≡ Some (L.parts q.query (L.content q.leaf whole))) x.asks (λ q here is. is ∙ ap (λ d. Some (L.parts q.query d)) (base q.leaf)) right.0 in
        let is = explained.0.1 whole fits step.0 gives in
        let next : (g : L.Leaf) → written L g x.choice.1 (c g) ≡ L.content g (L.meaning x.statement whole).1 = λ g. ap₂ (λ ws d. written L g ws d) is.1 (base g) ∙ law.writes_right x.statement whole g explained.0.0 fits step.0 in
        let ss = map (λ (y : Work L). y.statement) xs in
        let rest = serial_works xs (L.meaning x.statement whole).1 (λ g. written L g x.choice.1 (c g)) (law.keeps_whole x.statement whole explained.0.0 fits step.0) next right.1 explained.1 (next_step x.statement whole ss explained.0.0 fits step) in
        record {
          is_whole = rest.is_whole;
          answers = ap₂ (λ a l. a ∷ l) is.0 rest.answers;
          rebuilt = λ g. written_append L g x.choice.1 (own_of xs) (c g) ∙ rest.rebuilt g;
          in_force = rest.in_force ∙ ap (λ n. ends L n ss) (law.counts x.statement whole explained.0.0 fits step.0);
        }

    -- the line of one world
    module _ (past : List (Deed L)) (V : Name → Type 0) (last : L.Leaf → L.Content) (U M : Name → Bool) (version : ℕ) (explained : AllExplained past) (told : (t : Name) → IsCommitted past t → Told past t Idle) (counts : (t : Name) → IsCommitted past t → V t) (in_turn : (t : Name) → IsCommitted past t → U t ≡ true) where
      abbrev of : List Name → List (List L.Statement)
      of ts = map (statements_of past) ts

      -- what holds of the committed ones among these, run over a whole database
      pub record SerialFrom (whole : L.Whole) (ts : List Name) : Type 0 where
        pub answers : map (answers_of past) ts ≡ serial_answers L (of ts) whole
        pub rebuilt : (g : L.Leaf) → last g ≡ L.content g (serial_whole L (of ts) whole)
        pub is_whole : L.IsWhole (serial_whole L (of ts) whole)
        pub in_force : L.version (serial_whole L (of ts) whole) ≡ version

      pub serial_line : (ts : List Name) (whole : L.Whole) (c : L.Leaf → L.Content) → L.IsWhole whole → ((g : L.Leaf) → c g ≡ L.content g whole) → Line (works past) (is_committed past) V last c ts →
          Order L (statements_of past) (is_committed past) U M version (L.version whole) ts → SerialFrom whole (filter (is_committed past) ts)
      serial_line [] whole c fits base line order = record { answers = refl; rebuilt = λ g. line g ∙ base g; is_whole = fits; in_force = order }
      serial_line (t ∷ ts) whole c fits base line order = ⊎_elim
          (λ done.
          let its = told t done in
          let statements : statements_of past t ≡ map (λ (x : Work L). x.statement) (works past t) = its.statements ∙ append-nil (map (λ (x : Work L). x.statement) (works past t)) in
          let answers : answers_of past t ≡ map (λ (x : Work L). x.choice.0) (works past t) = sym (append-nil (answers_of past t)) ∙ its.answers in
          let one = serial_works (works past t) whole c fits base (line.0 (counts t done)) (explained_works t past explained) (subst (InStep L (L.version whole)) statements (order.0 (in_turn t done))) in
          let after_it = whole_after L (map (λ (x : Work L). x.statement) (works past t)) whole in
          let number : (if is_committed past t then ends L (L.version whole) (statements_of past t) else L.version whole) ≡ L.version after_it =
          if_true (is_committed past t) (ends L (L.version whole) (statements_of past t)) (L.version whole) done ∙ ap (ends L (L.version whole)) statements ∙ sym one.in_force in
          let rest = serial_line ts after_it (after (is_committed past t) (works past t) c) one.is_whole
          (λ g. if_true (is_committed past t) (written L g (own_of (works past t)) (c g)) (c g) done ∙ one.rebuilt g) line.1 (subst (λ n. Order L (statements_of past) (is_committed past) U M version n ts) number order.2) in
          subst (SerialFrom whole) (sym (if_true (is_committed past t) (t ∷ filter (is_committed past) ts) (filter (is_committed past) ts) done)) (record {
            answers = ap₂ (λ a l. a ∷ l) (answers ∙ one.answers ∙ ap (λ ss. answers_in_turn L ss whole) (sym statements)) (rest.answers ∙ ap (λ ss. serial_answers L (of (filter (is_committed past) ts)) (whole_after L ss whole)) (sym statements));
            rebuilt = λ g. rest.rebuilt g ∙ ap (λ ss. L.content g (serial_whole L (of (filter (is_committed past) ts)) (whole_after L ss whole))) (sym statements);
            is_whole = subst (λ ss. L.IsWhole (serial_whole L (of (filter (is_committed past) ts)) (whole_after L ss whole))) (sym statements) rest.is_whole;
            in_force = ap (λ ss. L.version (serial_whole L (of (filter (is_committed past) ts)) (whole_after L ss whole))) statements ∙ rest.in_force;
          }))
          (λ not_.
          let rest = serial_line ts whole (after (is_committed past t) (works past t) c) fits (λ g. if_false (is_committed past t) (written L g (own_of (works past t)) (c g)) (c g) not_ ∙ base g) line.1
          (subst (λ n. Order L (statements_of past) (is_committed past) U M version n ts) (if_false (is_committed past t) (ends L (L.version whole) (statements_of past t)) (L.version whole) not_) order.2) in
          subst (SerialFrom whole) (sym (if_false (is_committed past t) (t ∷ filter (is_committed past) ts) (filter (is_committed past) ts) not_)) rest)
          (by_test (is_committed past t))

    -- the committed transactions of a world, one after another
    pub serial_committed : (whole : L.Whole) (w : World L) → L.IsWhole whole → (deep : IsDeep law whole w) → Versions (L.version whole) w → (explained : AllExplained w.past) →
        SerialFrom w.past (Counts deep.1 w) (settled w) (λ t. is_committed w.past t || is_undecided (w.desk.txn t)) (λ t. is_moving (w.desk.txn t)) w.version explained deep.2.base.told (λ t done. inl done) (λ t done. or_left (is_committed w.past t) (is_undecided (w.desk.txn t)) done) whole (committed w.past)
    serial_committed whole w fits deep versions explained = serial_line w.past (Counts deep.1 w) (settled w) _ _ w.version explained deep.2.base.told (λ t done. inl done) (λ t done. or_left (is_committed w.past t) (is_undecided (w.desk.txn t)) done)
        (phases_of w.past) whole (λ g. L.content g whole) fits (λ g. refl) deep.2.line versions.order

    -- what the committed ones of a run make of a whole database is one
    pub run_whole : (whole : L.Whole) (w : World L) (events : List (Event L)) → IsOpening whole w → AllExplained (run events w).past → L.IsWhole (committed_whole whole (run events w).past)
    run_whole whole w events opening explained = (serial_committed whole (run events w) opening.is_whole (run_deep law whole events w (opening_deep law whole w opening)) (run_versions law whole w events opening) explained).is_whole

    -- the serial law, for every lawful language
    pub serial_law : SerialLaw L
    serial_law whole w events opening explained =
        let serial = serial_committed whole (run events w) opening.is_whole (run_deep law whole events w (opening_deep law whole w opening)) (run_versions law whole w events opening) explained in
        record { answers = serial.answers; rebuilt = serial.rebuilt; in_force = serial.in_force }
