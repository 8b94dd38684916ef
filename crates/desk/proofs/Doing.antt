-- A statement that is stated, and one that goes on, is the protocol's, and its evaluation is explained.
use Rattle.std.proofs.Common.{arith, suc, nat_eq, nat_lt, ◌^◌, length, Result, Ok, Err, IfOk, ◌≡◌, refl, sym, ap, ◌∙◌, subst, ℕ, Bool, true, false, List, [], ◌∷◌, map, Option, Some, None, if◌then◌else◌}
use Rattle.std.specs.Option.{option_map}
use Rattle.meaning.specs.declared.answer.Answer.{Answer}
use Rattle.meaning.specs.declared.answer.Answer.TheVariants as answer
use Rattle.meaning.specs.declared.statement.Refragment.{Refragment}
use Rattle.meaning.specs.declared.statement.Statement.{Statement}
use Rattle.meaning.specs.declared.statement.Statement.TheVariants as statements
use Rattle.catalog.specs.Chain.{IsNext}
use Rattle.store.specs.declared.name.Ticket.{Ticket}
use Rattle.store.specs.declared.name.Txn.{Txn}
use Rattle.store.specs.declared.reply.Reply.TheVariants as replies
use Rattle.store.specs.declared.reply.Reply.{Reply}
use Rattle.store.specs.declared.reply.Rows.{Rows}
use Rattle.desk.specs.Receive.{may_send}
use Rattle.desk.specs.Receive.{goes_on as goes_on_by}
use Rattle.protocol.specs.Desk as desk
use Rattle.protocol.specs.Language.{Lang, Name}
use Rattle.protocol.specs.Letter as letter
use Rattle.protocol.specs.Letters.{name_of, txn_name}
use Rattle.protocol.specs.Serial.{AllExplained, Explained}
use Rattle.std.specs.BTreeMap.{is_at as is_key}
use Rattle.std.specs.Map.{keys_of, set_value}
use Rattle.std.specs.Result.{OnErr, OnOk}
use Rattle.std.proofs.lemmas.Map.Steps.{set_value_same}
use Rattle.store.specs.DeskContent.{DeskContent}
use Rattle.store.specs.Name.{txn_cmp}
use Rattle.desk.specs.declared.volatile.Volatile.{Volatile}
use Rattle.desk.specs.declared.fetches.Ask.{Ask}
use Rattle.desk.specs.declared.transaction.TxnState.TheVariants as standing
use Rattle.desk.specs.declared.statement.Progress.{Progress}
use Rattle.desk.specs.declared.transaction.Reading.{Reading}
use Rattle.desk.specs.declared.transaction.Stage.{Stage}
use Rattle.desk.specs.declared.transaction.Stage.TheVariants as stage
use Rattle.desk.specs.declared.transaction.Undecided.{Undecided}
use Rattle.desk.specs.declared.transaction.Unsent.{Unsent}
use Rattle.desk.specs.Commit.{is_first}
use Rattle.desk.specs.Fetches.{are_in, with_rows}
use Rattle.desk.specs.Database.{Database, language, replied, sent}
use Rattle.desk.specs.Does.{ArePlaced, Does, DoesIn, GoesOn, IsProgress, IsShort, Takes}
use Rattle.desk.specs.OfCatalogue.{IsOfCatalogue}
use Rattle.desk.specs.Planned.{IsOfPlan, IsPlanned, ask_from, asked}
use Rattle.desk.specs.ReducedPlan.{ReducedPlan, plan_in}
use Rattle.desk.specs.Send.{AreShort, AsksAtHome, UnsentAtHome}
use Rattle.desk.specs.Participants.{sites_of, participant_in}
use Rattle.desk.specs.Transaction.{ask_of, stage_of, txn_of, undecided_of, write_of}
use Rattle.desk.specs.State.{Fits, IsIn, Steps, VolatileState, volatile_from, volatile_of}
use Rattle.desk.specs.Stepped.{IsAtHome, is_reading, ticketed}
use Rattle.desk.specs.Statement.{ask_sites}
use Rattle.desk.specs.Transition.{AreParticipants}
use Rattle.desk.specs.Opening.{HaveParticipants}
use Rattle.desk.specs.Request.{open_in}
use Rattle.desk.proofs.Making.{goes_on}
use Rattle.desk.proofs.Raised.{TurnKeeps}
use Rattle.desk.proofs.Asked.{rows_home, rows_order}
use Rattle.desk.proofs.AtHomes.{all_placed, asks_fresh, asks_home, asks_order, asks_participants}
use Rattle.desk.proofs.Within.{same_plan}
use Rattle.desk.proofs.Counted.{named_is}
use Rattle.desk.proofs.Explaining.{known}
use Rattle.desk.proofs.Rowed.{all_in, rows_are}
use Rattle.desk.proofs.Short.{of_short, short_of}
use Rattle.catalog.specs.Catalogue.{Catalogue}
use Rattle.catalog.specs.FragmentLeaf.{schemas_of}
use Rattle.catalog.specs.Laws.{LeafNamesAreUnique}
use Rattle.meaning.specs.declared.schema.RelationSchema.{RelationSchema}
use Rattle.meaning.specs.Statement.{IsStatementOf}
use Rattle.plan.specs.Reduced.{FindsAll}
use Rattle.plan.specs.Stated.{AreFetchesOf}
use Rattle.reader.specs.Printable.{AreDistinct}
use Rattle.std.specs.List.{list_all}
use Rattle.std.specs.List.Sorted.{IsStrictlySortedBy}
use Rattle.store.specs.declared.letter.Letter.{Letter}
use Rattle.desk.specs.declared.reply.Notice.{Notice}
use Rattle.desk.specs.declared.participant.Participant.{Participant}
use Rattle.desk.specs.declared.transaction.TxnState.{TxnState}

-- what a statement's writes do needs no explanation
writing_explained : (L : Lang) (t : Name) (u : desk.Undecided L) (told : L.Answer) (sent : L.Site → ℕ) (left : List (L.Leaf × L.Write)) (letters : List (letter.Letter L)) → AllExplained (desk.writing t u told sent left letters).deeds
writing_explained L t u told sent [] letters = (tt, tt)
writing_explained L t u told sent (x ∷ left) letters = tt

pub writes_explained : (L : Lang) (t : Name) (u : desk.Undecided L) (told : L.Answer) (ws : List (L.Leaf × L.Write)) → AllExplained (desk.writes_go t u told ws).deeds
writes_explained L t u told ws = let out = desk.writes_out t u.ticket ws u.sent in writing_explained L t u told out.sent out.left out.letters

-- nor does a ticket
pub ticket_explained : (L : Lang) (t : Name) (u : desk.Undecided L) (choice : desk.Choice L) (st : desk.Stage L) → AllExplained (desk.ticket_goes t u choice st).deeds
ticket_explained L t u choice desk.Idle = tt
ticket_explained L t u choice (desk.Reading s asks) = tt
ticket_explained L t u choice (desk.Writing told ws) = writes_explained L t u told ws
ticket_explained L t u choice (desk.Voting votes) = tt

-- a step that is the same turn's
step_as : (db : Database) (txn : Txn) (new : Undecided) (step : Progress) (one other : desk.Transition (language db)) → one ≡ other → IsProgress db txn new step other → IsProgress db txn new step one
step_as db txn new step one other same is = subst (IsProgress db txn new step) (sym same) is

-- ---- a statement is stated
module _ (db : Database) (of : IsOfCatalogue db) (n : ℕ) (txn : Txn) (u : Undecided) (idle : u.stage ≡ stage.Idle) (stated : Statement) (plan : ReducedPlan) (planned : IsOfPlan db n stated plan (map (ask_from (db.catalogue n)) plan.fetches)) where
  abbrev asks : List Ask
  asks = map (ask_from (db.catalogue n)) plan.fetches

  abbrev wanted : desk.Choice (language db) → desk.Transition (language db)
  wanted choice = desk.on_request (txn_name txn) choice (desk.State (n, stated)) (desk.Known (undecided_of db u))

  abbrev begun : desk.Choice (language db) → List (desk.Ask (language db)) → desk.Transition (language db)
  begun choice list = desk.after_deed (desk.Stated (txn_name txn) (n, stated)) (desk.states (txn_name txn) (undecided_of db u) (n, stated) list choice)

  pub wanted_is : (choice : desk.Choice (language db)) → wanted choice ≡ begun choice (map (ask_of db) asks)
  wanted_is choice =
      ap (λ st. desk.on_state {L = language db} (txn_name txn) (undecided_of db u) (n, stated) choice (stage_of db u.participants st)) idle
      ∙ ap (λ (list : List (desk.Ask (language db))). begun choice list) (ap (map (desk.ask_of {L = language db})) (of.fetches n stated plan.fetches planned.statement.of_schemas planned.fetches) ∙ sym (asks_fresh db (db.catalogue n) plan.fetches))

  module _ (new : Undecided) (step : Progress) where
    pub states_reads : (first : Ask) (rest : List Ask) → asks ≡ first ∷ rest → ((choice : desk.Choice (language db)) → IsProgress db txn new step (desk.states (txn_name txn) (undecided_of db u) (n, stated) (map (ask_of db) asks) choice)) → IsIn db n (standing.Undecided new) → Does db n txn new step wanted
    states_reads first rest some is within =
        let choice : desk.Choice (language db) = (answer.Changed 0, []) in
        let one = is choice in
        record {
          choice = choice;
          step = step_as db txn new step (wanted choice) (begun choice (map (ask_of db) asks)) (wanted_is choice) (record { stands = one.stands; letters = one.letters; reply = one.reply; heard = one.heard; replies = one.replies });
          explained = subst (λ (turn : desk.Transition (language db)). AllExplained turn.deeds) (sym (wanted_is choice ∙ ap (λ (list : List Ask). begun choice (map (ask_of db) list)) some)) (tt, tt);
          placed = tt;
          within = within;
        }

    pub states_works : asks ≡ [] → (told : Answer) (unsent : List Unsent) → UnsentAtHome db unsent → Explained {L = language db} (desk.Worked (txn_name txn) (n, stated) (map (ask_of db) asks) (told, map write_of unsent)) →
        ((list : List (desk.Ask (language db))) → IsProgress db txn new step (desk.works (txn_name txn) (undecided_of db u) (n, stated) list (told, map write_of unsent))) → IsIn db n (standing.Undecided new) → Does db n txn new step wanted
    states_works none told unsent home why is within =
        let choice : desk.Choice (language db) = (told, map write_of unsent) in
        let one = is [] in
        let same : wanted choice ≡ begun choice [] = wanted_is choice ∙ ap (λ (list : List Ask). begun choice (map (ask_of db) list)) none in
        record {
          choice = choice;
          step = step_as db txn new step (wanted choice) (begun choice []) same (record { stands = one.stands; letters = one.letters; reply = one.reply; heard = one.heard; replies = one.replies });
          explained = subst (λ (turn : desk.Transition (language db)). AllExplained turn.deeds) (sym same)
              (tt, (subst (λ (list : List Ask). Explained {L = language db} (desk.Worked (txn_name txn) (n, stated) (map (ask_of db) list) choice)) none why, writes_explained (language db) (txn_name txn) (desk.visits (undecided_of db u) (map (λ w. w.0) choice.1)) told choice.1));
          placed = all_placed db unsent home;
          within = within;
        }

-- ---- a first ticket comes
pub ticket_does : (db : Database) (n : ℕ) (txn : Txn) (u new : Undecided) (site : List ℕ) (ticket : Ticket) (step : Progress) → (participant_in site u.participants).ticket ≡ None →
    ((choice : desk.Choice (language db)) → IsProgress db txn new step (desk.ticket_goes {L = language db} (txn_name txn) (ticketed db u site ticket) choice (stage_of db u.participants u.stage))) → IsIn db n (standing.Undecided new) →
    Does db n txn new step (λ choice. desk.on_known {L = language db} (txn_name txn) (undecided_of db u) site true choice (replied db site (replies.Ticket ticket)))
ticket_does db n txn u new site ticket step none is within =
    let choice : desk.Choice (language db) = (answer.Changed 0, []) in
    let same = ap (λ (o : Option Ticket). desk.on_ticket {L = language db} (txn_name txn) (undecided_of db u) site (name_of ticket) choice (option_map name_of o)) none in
    record {
      choice = choice;
      step = step_as db txn new step _ (desk.ticket_goes {L = language db} (txn_name txn) (ticketed db u site ticket) choice (stage_of db u.participants u.stage)) same (is choice);
      explained = subst (λ (turn : desk.Transition (language db)). AllExplained turn.deeds) (sym same) (ticket_explained (language db) (txn_name txn) (ticketed db u site ticket) choice (stage_of db u.participants u.stage));
      placed = tt;
      within = within;
    }

-- ---- rows come
module _ (db : Database) (n : ℕ) (txn : Txn) (u : Undecided) (site : List ℕ) (rows : Rows) where
  abbrev rowed : desk.Choice (language db) → desk.Transition (language db)
  rowed choice = desk.on_known {L = language db} (txn_name txn) (undecided_of db u) site true choice (replied db site (replies.Rows rows))

  abbrev rowed_if : desk.Choice (language db) → Bool → Stage → desk.Transition (language db)
  rowed_if choice first st = if first then desk.on_rows {L = language db} (txn_name txn) (undecided_of db u) site rows.op rows.parts choice (stage_of db u.participants st) else desk.stays (desk.Known (undecided_of db u))

  rowed_is : (choice : desk.Choice (language db)) (first : Bool) (st : Stage) → is_first rows.ticket (participant_in site u.participants).ticket ≡ first → u.stage ≡ st → rowed choice ≡ rowed_if choice first st
  rowed_is choice first st is here = ap (λ b. rowed_if choice b u.stage) (named_is rows.ticket (participant_in site u.participants).ticket ∙ is) ∙ ap (rowed_if choice first) here

  module _ (new : Undecided) (step : Progress) where
    -- nothing changes
    still : (choice : desk.Choice (language db)) → ArePlaced db choice.1 → rowed choice ≡ desk.stays (desk.Known (undecided_of db u)) → new ≡ u → step.letters.items ≡ [] → step.replies.items ≡ [] → IsIn db n (standing.Undecided u) → Does db n txn new step rowed
    still choice placed same is none quiet within = record {
      choice = choice;
      step = step_as db txn new step (rowed choice) (desk.stays (desk.Known (undecided_of db u))) same (record { stands = ap (λ x. desk.Known (undecided_of db x)) is; letters = ap (map (sent db)) none; reply = None; heard = quiet; replies = refl });
      explained = subst (λ (turn : desk.Transition (language db)). AllExplained turn.deeds) (sym same) tt;
      placed = placed;
      within = subst (λ x. IsIn db n (standing.Undecided x)) (sym is) within;
    }

    pub rows_strange : is_first rows.ticket (participant_in site u.participants).ticket ≡ false → new ≡ u → step.letters.items ≡ [] → step.replies.items ≡ [] → IsIn db n (standing.Undecided u) → Does db n txn new step rowed
    rows_strange other is none quiet within = let choice : desk.Choice (language db) = (answer.Changed 0, []) in still choice tt (rowed_is choice false u.stage other refl) is none quiet within

    pub rows_unread : is_reading u.stage ≡ false → new ≡ u → step.letters.items ≡ [] → step.replies.items ≡ [] → IsIn db n (standing.Undecided u) → Does db n txn new step rowed
    rows_unread other is none quiet within = let choice : desk.Choice (language db) = (answer.Changed 0, []) in still choice tt (go choice (is_first rows.ticket (participant_in site u.participants).ticket) refl ∙ refl) is none quiet within
      where
        stays_at : (choice : desk.Choice (language db)) (st : Stage) → is_reading st ≡ false → rowed_if choice true st ≡ desk.stays (desk.Known (undecided_of db u))
        stays_at choice stage.Idle e = refl
        stays_at choice (stage.Reading reading) e = cc
        stays_at choice (stage.Writing writing) e = refl
        stays_at choice stage.Voting e = refl

        go : (choice : desk.Choice (language db)) (b : Bool) → is_first rows.ticket (participant_in site u.participants).ticket ≡ b → rowed choice ≡ desk.stays (desk.Known (undecided_of db u))
        go choice true e = rowed_is choice true u.stage e refl ∙ stays_at choice u.stage other
        go choice false e = rowed_is choice false u.stage e refl

  -- they are put where they are waited for
  module _ (of : IsOfCatalogue db) (unique : LeafNamesAreUnique) (reading : Reading) (here : u.stage ≡ stage.Reading reading) (first : is_first rows.ticket (participant_in site u.participants).ticket ≡ true) (known_in : IsIn db n (standing.Undecided u)) where
    abbrev given : List Ask
    given = map (with_rows (db.catalogue n) site rows.op rows.parts) reading.asks.items

    reading_home : AsksAtHome db reading.asks.items
    reading_home = subst (IsAtHome db) here known_in.1

    of_reading : IsPlanned db n (stage.Reading reading)
    of_reading = subst (IsPlanned db n) here known_in.2

    planned : IsOfPlan db n reading.statement reading.plan reading.asks.items
    planned = of_reading.1

    pub planned_given : IsOfPlan db n reading.statement reading.plan given
    planned_given = same_plan db n reading.statement reading.plan reading.asks.items given (rows_order (db.catalogue n) site rows.op rows.parts reading.asks.items) planned

    pub turn_is : (choice : desk.Choice (language db)) → rowed choice ≡ desk.rows_go {L = language db} (txn_name txn) (undecided_of db u) (n, reading.statement) (map (ask_of db) given) choice
    turn_is choice =
        let all = known db of n unique reading.statement reading.plan reading.asks.items planned in
        rowed_is choice true (stage.Reading reading) first here
        ∙ ap (λ (m : ℕ). desk.on_rows {L = language db} (txn_name txn) (undecided_of db u) site rows.op rows.parts choice (desk.Reading (m, reading.statement) (map (ask_of db) reading.asks.items))) of_reading.0
        ∙ ap (λ (list : List (desk.Ask (language db))). desk.rows_go {L = language db} (txn_name txn) (undecided_of db u) (n, reading.statement) list choice) (sym (rows_are db of n reading.statement site rows.op rows.parts all.needs reading.asks.items reading.plan.fetches planned.in_order all.each))

    abbrev go_if : desk.Choice (language db) → Bool → desk.Transition (language db)
    go_if choice b = if b then desk.works {L = language db} (txn_name txn) (undecided_of db u) (n, reading.statement) (map (ask_of db) given) choice else desk.stays (desk.Known (record (undecided_of db u) { stage = desk.Reading (n, reading.statement) (map (ask_of db) given) }))

    module _ (new : Undecided) (step : Progress) where
      pub rows_wait : are_in given ≡ false → (after : Reading) → after.version ≡ reading.version → after.statement ≡ reading.statement → after.plan ≡ reading.plan → after.asks.items ≡ given → new.participants ≡ u.participants → new.moves ≡ u.moves → new.stage ≡ stage.Reading after → step.letters.items ≡ [] → step.replies.items ≡ [] → Does db n txn new step rowed
      rows_wait more after version statement plan items participants kind now none quiet =
          let choice : desk.Choice (language db) = (answer.Changed 0, []) in
          let same : rowed choice ≡ go_if choice false = turn_is choice ∙ ap (go_if choice) (all_in db given ∙ more) in
          record {
            choice = choice;
            step = step_as db txn new step (rowed choice) (go_if choice false) same (record {
              stands = λ i. desk.Known (record (undecided_of db (record { participants = participants i; stage = u.stage; moves = kind i })) { stage = (ap (stage_of db new.participants) now ∙ (λ j. desk.Reading ((version ∙ of_reading.0) j, statement j) (map (ask_of db) (items j)))) i });
              letters = ap (map (sent db)) none;
              reply = None;
              heard = quiet;
              replies = refl;
            });
            explained = subst (λ (turn : desk.Transition (language db)). AllExplained turn.deeds) (sym same) tt;
            placed = tt;
            within = (
              ap sites_of participants ∙ known_in.0,
              subst (IsAtHome db) (sym now) (subst (AsksAtHome db) (sym items) (rows_home (db.catalogue n) site rows.op rows.parts db reading.asks.items reading_home)),
              subst (IsPlanned db n) (sym now) (version ∙ of_reading.0, subst (λ s. IsOfPlan db n s after.plan after.asks.items) (sym statement) (subst (λ p. IsOfPlan db n reading.statement p after.asks.items) (sym plan) (subst (IsOfPlan db n reading.statement reading.plan) (sym items) planned_given))),
            );
          }

      pub rows_work : are_in given ≡ true → (told : Answer) (unsent : List Unsent) → UnsentAtHome db unsent → Explained {L = language db} (desk.Worked (txn_name txn) (n, reading.statement) (map (ask_of db) given) (told, map write_of unsent)) →
          IsProgress db txn new step (desk.works (txn_name txn) (undecided_of db u) (n, reading.statement) (map (ask_of db) given) (told, map write_of unsent)) → IsIn db n (standing.Undecided new) → Does db n txn new step rowed
      rows_work all told unsent home why is within =
          let choice : desk.Choice (language db) = (told, map write_of unsent) in
          let same : rowed choice ≡ go_if choice true = turn_is choice ∙ ap (go_if choice) (all_in db given ∙ all) in
          record {
            choice = choice;
            step = step_as db txn new step (rowed choice) (go_if choice true) same is;
            explained = subst (λ (turn : desk.Transition (language db)). AllExplained turn.deeds) (sym same) (why, writes_explained (language db) (txn_name txn) (desk.visits (undecided_of db u) (map (λ w. w.0) choice.1)) told choice.1);
            placed = all_placed db unsent home;
            within = within;
          }

-- ---- where a call may fail
module _ (db : Database) (of : IsOfCatalogue db) (n : ℕ) (txn : Txn) (u new : Undecided) (idle : u.stage ≡ stage.Idle) (stated : Statement) (plan : ReducedPlan) (list : List Ask) (of_plan : IsOfPlan db n stated plan list) (same : list ≡ map (ask_from (db.catalogue n)) plan.fetches) {E : Type 0} (result : Result Progress E) (within : OnOk result (IsIn db n (standing.Undecided new))) where
  planned_so : IsOfPlan db n stated plan (map (ask_from (db.catalogue n)) plan.fetches)
  planned_so = subst (IsOfPlan db n stated plan) same of_plan

  pub works_once : list ≡ [] → (told : Answer) (unsent : List Unsent) → UnsentAtHome db unsent → Explained {L = language db} (desk.Worked (txn_name txn) (n, stated) (map (ask_of db) list) (told, map write_of unsent)) →
      ((others : List (desk.Ask (language db))) → IfOk result (λ step. IsProgress db txn new step (desk.works (txn_name txn) (undecided_of db u) (n, stated) others (told, map write_of unsent)))) → IfOk result (λ step. Does db n txn new step (λ choice. desk.on_request (txn_name txn) choice (desk.State (n, stated)) (desk.Known (undecided_of db u))))
  works_once none told unsent home why is = go result within is
    where
      go : (result : Result Progress E) → OnOk result (IsIn db n (standing.Undecided new)) → ((others : List (desk.Ask (language db))) → IfOk result (λ step. IsProgress db txn new step (desk.works (txn_name txn) (undecided_of db u) (n, stated) others (told, map write_of unsent)))) → IfOk result (λ step. Does db n txn new step (λ choice. desk.on_request (txn_name txn) choice (desk.State (n, stated)) (desk.Known (undecided_of db u))))
      go (Ok step) within is = states_works db of n txn u idle stated plan planned_so new step (sym same ∙ none) told unsent home (subst (λ (l : List Ask). Explained {L = language db} (desk.Worked (txn_name txn) (n, stated) (map (ask_of db) l) (told, map write_of unsent))) same why) is within
      go (Err e) within is = tt

  pub reads_on : nat_eq (length list) 0 ≡ false → ((choice : desk.Choice (language db)) (first : Ask) (rest : List Ask) → list ≡ first ∷ rest → IfOk result (λ step. IsProgress db txn new step (desk.states (txn_name txn) (undecided_of db u) (n, stated) (map (ask_of db) list) choice))) →
      IfOk result (λ step. Does db n txn new step (λ choice. desk.on_request (txn_name txn) choice (desk.State (n, stated)) (desk.Known (undecided_of db u))))
  reads_on some is = at list refl result within is
    where
      at : (l : List Ask) → list ≡ l → (result : Result Progress E) → OnOk result (IsIn db n (standing.Undecided new)) → ((choice : desk.Choice (language db)) (first : Ask) (rest : List Ask) → list ≡ first ∷ rest → IfOk result (λ step. IsProgress db txn new step (desk.states (txn_name txn) (undecided_of db u) (n, stated) (map (ask_of db) list) choice))) →
          IfOk result (λ step. Does db n txn new step (λ choice. desk.on_request (txn_name txn) choice (desk.State (n, stated)) (desk.Known (undecided_of db u))))
      at [] e result within is = let f : true ≡ false = sym (ap (λ (l : List Ask). nat_eq (length l) 0) e) ∙ some in cc
      at (first ∷ rest) e (Ok step) within is = states_reads db of n txn u idle stated plan planned_so new step first rest (sym same ∙ e)
          (λ choice. subst (λ (l : List Ask). IsProgress db txn new step (desk.states (txn_name txn) (undecided_of db u) (n, stated) (map (ask_of db) l) choice)) same (is choice first rest e)) within
      at (first ∷ rest) e (Err x) within is = tt

-- rows that complete a statement
pub works_rows : (db : Database) (n : ℕ) (txn : Txn) (u new : Undecided) (site : List ℕ) (rows : Rows) (of : IsOfCatalogue db) (unique : LeafNamesAreUnique) (reading : Reading) → u.stage ≡ stage.Reading reading → is_first rows.ticket (participant_in site u.participants).ticket ≡ true → IsIn db n (standing.Undecided u) →
    (list : List Ask) → list ≡ map (with_rows (db.catalogue n) site rows.op rows.parts) reading.asks.items → are_in list ≡ true → (told : Answer) (unsent : List Unsent) → UnsentAtHome db unsent → Explained {L = language db} (desk.Worked (txn_name txn) (n, reading.statement) (map (ask_of db) list) (told, map write_of unsent)) →
    {E : Type 0} (result : Result Progress E) → IfOk result (λ step. IsProgress db txn new step (desk.works (txn_name txn) (undecided_of db u) (n, reading.statement) (map (ask_of db) list) (told, map write_of unsent))) → OnOk result (IsIn db n (standing.Undecided new)) →
    IfOk result (λ step. Does db n txn new step (λ choice. desk.on_known {L = language db} (txn_name txn) (undecided_of db u) site true choice (replied db site (replies.Rows rows))))
works_rows db n txn u new site rows of unique reading here first known_in list same all told unsent home why (Err e) is within = tt
works_rows db n txn u new site rows of unique reading here first known_in list same all told unsent home why (Ok step) is within =
    rows_work db n txn u site rows of unique reading here first known_in new step (sym (ap are_in same) ∙ all) told unsent home
    (subst (λ (l : List Ask). Explained {L = language db} (desk.Worked (txn_name txn) (n, reading.statement) (map (ask_of db) l) (told, map write_of unsent))) same why)
    (subst (λ (l : List Ask). IsProgress db txn new step (desk.works (txn_name txn) (undecided_of db u) (n, reading.statement) (map (ask_of db) l) (told, map write_of unsent))) same is) within

-- ---- the state in memory
pub goes_so : (db : Database) (kept : DeskContent) (old : Volatile) (after : VolatileState) (txn : Txn) (u new : Undecided) → Fits db kept (volatile_of old) → (volatile_of old).standing txn ≡ Some (standing.Undecided u) → AreShort new.participants →
    after ≡ volatile_from (set_value (is_key (txn_cmp txn)) old.standings.entries (standing.Undecided new)) old.undecided old.life old.number old.version → (step : Progress) (turn : desk.Choice (language db) → desk.Txn (language db) → desk.Transition (language db)) →
    Does db old.version txn new step (λ choice. turn choice (desk.Known (undecided_of db u))) → GoesOn db old after txn step (λ choice. turn choice (txn_of db ((volatile_of old).standing txn)))
goes_so db kept old after txn u new fits here short moved step turn does =
    subst (λ o. GoesOn db old after txn step (λ choice. turn choice (txn_of db o))) (sym here) (record {
      new = new;
      moved = moved;
      does = does;
      short = ap desk.is_short_txn (sym does.step.stands) ∙ of_short new.participants short db.sites;
    })

pub goes_ok : (db : Database) (kept : DeskContent) (old : Volatile) (after : VolatileState) (txn : Txn) (u : Undecided) (now : TxnState) → Fits db kept (volatile_of old) → (volatile_of old).standing txn ≡ Some (standing.Undecided u) →
    after ≡ volatile_from (set_value (is_key (txn_cmp txn)) old.standings.entries now) old.undecided old.life old.number old.version → (turn : desk.Choice (language db) → desk.Txn (language db) → desk.Transition (language db)) → {E : Type 0} (result : Result Progress E) →
    OnOk result (IsShort now) → IfOk result (λ step. DoesIn db old.version txn now step (λ choice. turn choice (desk.Known (undecided_of db u)))) → IfOk result (λ step. GoesOn db old after txn step (λ choice. turn choice (txn_of db ((volatile_of old).standing txn))))
goes_ok db kept old after txn u now fits here moved turn (Err e) short does = tt
goes_ok db kept old after txn u (standing.Undecided new) fits here moved turn (Ok step) short does = goes_so db kept old after txn u new fits here short moved step turn does
goes_ok db kept old after txn u (standing.Committed c) fits here moved turn (Ok step) short does = absurd (does)

-- nothing has changed where what stands there is the same
pub same_table : (old : Volatile) (after : VolatileState) (txn : Txn) (was now : TxnState) → (volatile_of old).standing txn ≡ Some was → after ≡ volatile_from (set_value (is_key (txn_cmp txn)) old.standings.entries now) old.undecided old.life old.number old.version → now ≡ was → after ≡ volatile_of old
same_table old after txn was now here moved same =
    moved ∙ ap (λ x. volatile_from (set_value (is_key (txn_cmp txn)) old.standings.entries x) old.undecided old.life old.number old.version) same
    ∙ ap (λ es. volatile_from es old.undecided old.life old.number old.version) (set_value_same (is_key (txn_cmp txn)) old.standings.entries was here)

pub same_ok : (old : Volatile) (after : VolatileState) (txn : Txn) (was now : TxnState) → (volatile_of old).standing txn ≡ Some was → after ≡ volatile_from (set_value (is_key (txn_cmp txn)) old.standings.entries now) old.undecided old.life old.number old.version → {A E : Type 0} (result : Result A E) → OnErr result (now ≡ was) → OnErr result (after ≡ volatile_of old)
same_ok old after txn was now here moved (Ok x) same = tt
same_ok old after txn was now here moved (Err e) same = same_table old after txn was now here moved same

pub empty_is : {A : Type 0} (list : List A) → nat_eq (length list) 0 ≡ true → list ≡ []
empty_is [] e = refl
empty_is (x ∷ list) e = let f : false ≡ true = sym (more (length list)) ∙ e in cc
  where
    more : (n : ℕ) → nat_eq (suc n) 0 ≡ false
    more n = grind (arith)

-- ---- what is known of a transaction in memory
module _ (db : Database) (kept : DeskContent) (table : VolatileState) (fits : Fits db kept table) (txn : Txn) (u : Undecided) (here : table.standing txn ≡ Some (standing.Undecided u)) where
  pub known_there : IsIn db table.version (standing.Undecided u)
  known_there = fits.sites txn (standing.Undecided u) here

  pub short_there : AreShort u.participants
  short_there = short_of u.participants (ap (list_all (λ a. nat_lt (participant_in a u.participants).sent (2 ^ 63))) known_there.0 ∙ sym (ap (λ o. desk.is_short_txn (txn_of db o)) here) ∙ fits.short txn)

  pub participants_there : IsOfCatalogue db → AreParticipants db u.participants
  participants_there of = record { sites = known_there.0; distinct = subst AreDistinct (sym (known_there.0 ∙ of.sites table.version)) (of.formed table.version).distinct }

-- ---- a plan that is made
pub plan_made : (db : Database) → IsOfCatalogue db → (n : ℕ) (catalogue : Catalogue) → db.catalogue n ≡ catalogue → (stated : Statement) (plan : ReducedPlan) (asks : List Ask) → IsStatementOf (schemas_of catalogue) stated → ((refragment : Refragment) → stated ≡ statements.Refragment refragment → IsNext (db.catalogue n) (db.catalogue (suc n)) refragment.relation.name) → AreFetchesOf catalogue stated plan.fetches → FindsAll catalogue stated plan.fetches (plan_in plan) →
    asks ≡ map (ask_from catalogue) plan.fetches → IsOfPlan db n stated plan asks
plan_made db of n catalogue same stated plan those is next are finds list = record {
  statement = record { of_schemas = subst (λ (ss : List RelationSchema). IsStatementOf ss stated) (sym (of.schemas n ∙ ap schemas_of same)) is; next = next };
  fetches = subst (λ cat. AreFetchesOf cat stated plan.fetches) (sym same) are;
  finds = subst (λ cat. FindsAll cat stated plan.fetches (plan_in plan)) (sym same) finds;
  in_order = ap (map asked) (list ∙ ap (λ cat. map (ask_from cat) plan.fetches) (sym same)) ∙ asks_order (db.catalogue n) plan.fetches;
}

module _ (db : Database) (of : IsOfCatalogue db) (n : ℕ) (unique : LeafNamesAreUnique) (stated : Statement) (plan : ReducedPlan) (list : List Ask) (of_plan : IsOfPlan db n stated plan list) (same : list ≡ map (ask_from (db.catalogue n)) plan.fetches) where
  pub ready_home : AsksAtHome db list
  ready_home = let all = known db of n unique stated plan list of_plan in subst (AsksAtHome db) (sym same) (asks_home db of n all.needs plan.fetches all.each)

  pub ready_participants : (participants : List Participant) → sites_of participants ≡ db.sites → HaveParticipants participants (ask_sites list)
  ready_participants participants those = let all = known db of n unique stated plan list of_plan in subst (λ (l : List Ask). HaveParticipants participants (ask_sites l)) (sym same) (asks_participants db of n participants those all.needs plan.fetches all.each)

-- ---- an idle transaction
pub idle_there : (o : Option TxnState) → option_map (λ found. found.stage) (open_in o) ≡ Some stage.Idle → (u : Undecided) × (o ≡ Some (standing.Undecided u)) × (u.stage ≡ stage.Idle)
idle_there None e = cc
idle_there (Some (standing.Undecided u)) e = (u, refl, cc)
idle_there (Some (standing.Committed c)) e = cc

pub undecided_is : {u v : Undecided} → standing.Undecided u ≡ standing.Undecided v → u ≡ v
undecided_is e = cc

pub some_standing : {s r : TxnState} → Some s ≡ Some r → s ≡ r
some_standing e = cc

pub standing_is : {u v : Undecided} → Some (standing.Undecided u) ≡ Some (standing.Undecided v) → u ≡ v
standing_is e = cc

-- ---- the call
module _ (db : Database) (kept : DeskContent) (volatile : Volatile) (sorted : IsStrictlySortedBy txn_cmp (keys_of volatile.standings.entries)) (fits : Fits db kept (volatile_of volatile)) (txn : Txn) (u : Undecided) (here : (volatile_of volatile).standing txn ≡ Some (standing.Undecided u))
    (wanted : desk.Choice (language db) → desk.Transition (language db)) (after : VolatileState) (step : Progress) (goes : GoesOn db volatile after txn step wanted) (turns : (choice : desk.Choice (language db)) → TurnKeeps (language db) (txn_name txn) (txn_of db ((volatile_of volatile).standing txn)) (wanted choice)) (written : List Letter) (heard : List Notice) (letters : written ≡ step.letters.items) (replies : heard ≡ step.replies.items) where
  pub steps_on : Steps db (volatile_of volatile) kept after txn (wanted goes.does.choice) written heard
  steps_on =
      goes_on db kept volatile.standings.entries volatile.undecided volatile.life volatile.number volatile.version sorted fits txn u goes.new here (wanted goes.does.choice) step.letters goes.does.step.reply goes.does.step.stands goes.does.step.letters goes.does.step.replies (turns goes.does.choice) goes.does.within goes.short after goes.moved written heard letters (replies ∙ goes.does.step.heard)

  pub takes_on : Takes db (volatile_of volatile) kept after txn wanted written heard
  takes_on = record { choice = goes.does.choice; steps = steps_on; explained = goes.does.explained; placed = goes.does.placed }

-- ---- letters by which a statement goes on
pub sending_there : (o : Option TxnState) (site : List ℕ) (said : Reply) → may_send o site said ≡ true → (u : Undecided) × (o ≡ Some (standing.Undecided u))
sending_there None site said e = cc
sending_there (Some (standing.Undecided u)) site said e = (u, refl)
sending_there (Some (standing.Committed c)) site said e = cc

pub first_none : (first : Option Ticket) (said : Reply) (ticket : Ticket) → said ≡ replies.Ticket ticket → goes_on_by first said ≡ true → first ≡ None
first_none None said ticket is e = refl
first_none (Some k) said ticket is e = let f : goes_on_by (Some k) (replies.Ticket ticket) ≡ true = subst (λ r. goes_on_by (Some k) r ≡ true) is e in cc

pub ticket_ok : (db : Database) (n : ℕ) (txn : Txn) (u new : Undecided) (site : List ℕ) (ticket : Ticket) → (participant_in site u.participants).ticket ≡ None → {E : Type 0} (result : Result Progress E) →
    ((choice : desk.Choice (language db)) → IfOk result (λ step. IsProgress db txn new step (desk.ticket_goes {L = language db} (txn_name txn) (ticketed db u site ticket) choice (stage_of db u.participants u.stage)))) → OnOk result (IsIn db n (standing.Undecided new)) →
    IfOk result (λ step. Does db n txn new step (λ choice. desk.on_known {L = language db} (txn_name txn) (undecided_of db u) site true choice (replied db site (replies.Ticket ticket))))
ticket_ok db n txn u new site ticket none (Err e) is within = tt
ticket_ok db n txn u new site ticket none (Ok step) is within = ticket_does db n txn u new site ticket step none is within

-- rows that come, with the catalogue and the fetches by other names
module _ (db : Database) (n : ℕ) (txn : Txn) (u : Undecided) (site : List ℕ) (rows : Rows) (of : IsOfCatalogue db) (unique : LeafNamesAreUnique) (reading : Reading) (here : u.stage ≡ stage.Reading reading) (first : is_first rows.ticket (participant_in site u.participants).ticket ≡ true) (known_in : IsIn db n (standing.Undecided u)) where
  pub planned_given_by : (list : List Ask) → list ≡ map (with_rows (db.catalogue n) site rows.op rows.parts) reading.asks.items → IsOfPlan db n reading.statement reading.plan list
  planned_given_by list same = same_plan db n reading.statement reading.plan reading.asks.items list (ap (map asked) same ∙ rows_order (db.catalogue n) site rows.op rows.parts reading.asks.items) (subst (IsPlanned db n) here known_in.2).1

pub rows_wait_by : (db : Database) (n : ℕ) (txn : Txn) (u new : Undecided) (site : List ℕ) (rows : Rows) (of : IsOfCatalogue db) (unique : LeafNamesAreUnique) (reading : Reading) → u.stage ≡ stage.Reading reading → is_first rows.ticket (participant_in site u.participants).ticket ≡ true → IsIn db n (standing.Undecided u) →
    (catalogue : Catalogue) → db.catalogue n ≡ catalogue → (list : List Ask) → list ≡ map (with_rows catalogue site rows.op rows.parts) reading.asks.items → are_in list ≡ false → (after : Reading) → after.version ≡ reading.version → after.statement ≡ reading.statement → after.plan ≡ reading.plan → after.asks.items ≡ list →
    new.participants ≡ u.participants → new.moves ≡ u.moves → new.stage ≡ stage.Reading after → (step : Progress) → step.letters.items ≡ [] → step.replies.items ≡ [] →
    Does db n txn new step (λ choice. desk.on_known {L = language db} (txn_name txn) (undecided_of db u) site true choice (replied db site (replies.Rows rows)))
rows_wait_by db n txn u new site rows of unique reading here first known_in catalogue same list list_is more after version statement plan items participants kind now step none quiet =
    let there = list_is ∙ ap (λ cat. map (with_rows cat site rows.op rows.parts) reading.asks.items) (sym same) in
    rows_wait db n txn u site rows of unique reading here first known_in new step (sym (ap are_in there) ∙ more) after version statement plan (items ∙ there) participants kind now none quiet
