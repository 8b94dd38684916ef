-- Steps of one machine are steps of the world, whichever catalogue comes into force.
use Rattle.std.proofs.Common.{arith, ◌≡◌, ◌≢◌, ◌⊎◌, refl, sym, ap, ◌∙◌, subst, ℕ, suc, ◌==◌, ◌&&◌, not, Bool, true, false, List, [], ◌∷◌, ◌++◌, map, Option, Some, None, is_some, ⊎_elim, inl, inr, if◌then◌else◌, append_assoc, ◌||◌, Result, Ok, Err, OnErr}
use Rattle.std.specs.List.{flat_map, list_all, list_any}
use Rattle.std.proofs.lemmas.Bool.{eq-eqb}
use Rattle.std.proofs.lemmas.Bool.Decides.{nat_tests}
use Rattle.std.proofs.lemmas.List.{append-nil}
use Rattle.catalog.specs.declared.relation.SplitRelation.{SplitRelation}
use Rattle.catalog.specs.Relation.{catalogue_of}
use Rattle.meaning.specs.Statement.{is_refragment}
use Rattle.meaning.specs.declared.statement.Statement.{Statement}
use Rattle.meaning.specs.declared.statement.Statement.TheVariants as kinds
use Rattle.store.specs.declared.letter.Letter as letters
use Rattle.store.specs.declared.name.Txn as names
use Rattle.store.specs.declared.reply.Reply as replies
use Rattle.store.specs.declared.letter.Body.TheVariants as body
use Rattle.store.specs.DeskContent.{DeskContent}
use Rattle.protocol.specs.Desk.{Choice, Desk, Known, Request, State, Transition, Txn as ProtocolTxn, Unknown, Row, Idle, began_as, fresh_as, on_state, ask_of, desk_after, desk_began, desk_restarted, is_committed, is_desk_within, is_moving, is_undecided, next_txn, on_desk_letter, on_request, refusal, txn_restarted, Began, Commit_call, Rollback, Give_up}
use Rattle.protocol.specs.Home.{AreHomed, AsksHomed, TxnHomed}
use Rattle.protocol.specs.Language.{Name, same}
use Rattle.protocol.specs.Letter.{Letter}
use Rattle.protocol.specs.Letters.{txn_name}
use Rattle.protocol.specs.Serial.{AllExplained}
use Rattle.protocol.specs.World.{World, begins, begun, called, comes, desk_lives, desk_restarts, is_empty, may_ask, may_begin, refragments, turned, turns, version_after}
use Rattle.protocol.specs.Desk as protocol
use Rattle.protocol.proofs.Basics.{both_true, by_test, clash, if_false, if_true, left_true, put_all, put_here, right_true, same_law}
use Rattle.protocol.proofs.Saying.{states_live}
use Rattle.protocol.proofs.Homed.{request_homed, restarts_homed, turn_homed}
use Rattle.desk.specs.declared.desk.Desk as desks
use Rattle.desk.specs.declared.refusal.Refusal.{Refusal}
use Rattle.desk.specs.declared.reply.Notice.{Notice}
use Rattle.desk.specs.declared.reply.Out.{Out}
use Rattle.desk.specs.declared.transaction.TxnState.{TxnState}
use Rattle.desk.specs.Database.{Database, IsPlace, language, replied, sent}
use Rattle.desk.specs.Does.{Takes}
use Rattle.desk.specs.OfCatalogue.{AreNextOf, InForce, IsNextOf, first_in, follow}
use Rattle.desk.specs.Recovery.{Restarts}
use Rattle.desk.specs.Refragmented.{RefragmentsBy}
use Rattle.desk.specs.Request.{txn_in}
use Rattle.desk.specs.State.{Begins, Fits, Steps, VolatileState, anyone_moves, desk_of, txn_at, volatile_of}
use Rattle.desk.specs.Transaction.{txn_of}
use Rattle.desk.specs.Transition.{is_moving as desk_moving}
use Rattle.desk.proofs.Raised.{TurnKeeps, letter_keeps, moving_is, request_keeps}
use Rattle.world.specs.Listed.{FitsList, ListAsked, ListCame, ListLeads, ListMoved, StandsIn}
use Rattle.world.specs.declared.fault.Fault.{Fault}
use Rattle.world.specs.declared.machines.Machines as code
use Rattle.world.specs.EventApplied.{told_by_desk}
use Rattle.world.specs.Frame.{StaysInForce}
use Rattle.world.specs.Machines.{Machines, world_of}
use Rattle.world.proofs.InForce.{nobody_after, nobody_begins, nobody_restarts}
use Rattle.world.proofs.Machinery.{comes_is, placed_after, restarted_explained, with_desk}
use Rattle.world.proofs.Placed.{stands_placed}
use Rattle.world.proofs.Reasoned.{passes_is}

-- nobody moves, where none comes later
abbrev pub Still : (db : Database) → List (List (List ℕ) × List SplitRelation) → VolatileState → Type 0
Still db later table = later ≡ [] → (t : Name) → is_moving ((desk_of db table).txn t) ≡ false

-- ---- who moves is alone
who_is_some : (o : Option TxnState) → desk_moving o ≡ true → is_some o ≡ true
who_is_some None e = cc
who_is_some (Some st) e = refl

-- so behind the turn by which it is committed nobody moves
pub nobody_left : (db : Database) (kept : DeskContent) (table : VolatileState) → Fits db kept table → (t : Name) (turn : Transition (language db)) → is_moving ((desk_of db table).txn t) ≡ true → is_undecided turn.txn ≡ false →
    (x : Name) → is_moving ((desk_after (desk_of db table) t turn.txn).txn x) ≡ false
nobody_left db kept table fits t turn moves ended = put_all same same_law t turn.txn (desk_of db table).txn (λ x y. is_moving y ≡ false) (unmoved turn.txn ended) (λ x apart. other x apart (by_test (is_moving ((desk_of db table).txn x))))
  where
    unmoved : (x : ProtocolTxn (language db)) → is_undecided x ≡ false → is_moving x ≡ false
    unmoved Unknown e = refl
    unmoved (Known u) e = cc
    unmoved (Row voters acked) e = refl

    moves_at : (x : Name) → is_moving ((desk_of db table).txn x) ≡ true → desk_moving (table.standing (txn_at x)) ≡ true
    moves_at x e = sym (moving_is db (table.standing (txn_at x))) ∙ e

    other : (x : Name) → same x t ≡ false → (is_moving ((desk_of db table).txn x) ≡ true) ⊎ (is_moving ((desk_of db table).txn x) ≡ false) → is_moving ((desk_of db table).txn x) ≡ false
    other x apart (inr none) = none
    other x apart (inl moving) =
        let alone : txn_at x ≡ txn_at t = (fits.moving (txn_at t) (moves_at t moves)).alone (txn_at x) (who_is_some (table.standing (txn_at x)) (moves_at x moving)) in
        clash ((same_law x t).1 (ap txn_name alone)) apart

-- ---- a turn of the coordinator
module _ (db : Database) (before : Machines) (kept : DeskContent) (after : VolatileState) (later : List (List (List ℕ) × List SplitRelation)) (txn : names.Txn) (wanted : Transition (language db)) (out : List letters.Letter) (notices : List Notice) (fit : FitsList db before) (steps : Steps db before.table kept after txn wanted out notices) (still : Still db later after) where
  turn_is : (waiting : List (Letter (language db))) (past : List (protocol.Deed (language db))) → turns (world_of db before waiting past) (txn_name txn) wanted ≡ world_of db (with_desk before kept after later) (waiting ++ map (sent db) out) (past ++ wanted.deeds)
  turn_is waiting past =
      let w = world_of db before waiting past in
      if_true (is_desk_within (desk_after w.desk (txn_name txn) wanted.txn)) (turned w (txn_name txn) wanted) w (ap is_desk_within (sym steps.state) ∙ steps.within) ∙
      (λ i. record { desk = sym steps.state i; sites = (world_of db before waiting past).sites; letters = waiting ++ sym steps.letters i; past = past ++ wanted.deeds; version = sym steps.version i })

  pub list_turn_leads : (step : World (language db) → World (language db)) → ((waiting : List (Letter (language db))) (past : List (protocol.Deed (language db))) → step (world_of db before waiting past) ≡ turns (world_of db before waiting past) (txn_name txn) wanted) → AreHomed (language db) (IsPlace db) wanted.letters → AllExplained wanted.deeds →
      ListLeads db step before (with_desk before kept after later) out notices
  list_turn_leads step is placed explained = record {
    deeds = wanted.deeds;
    fit = record { names = fit.names; leaves = fit.leaves; desk = steps.fits; within = steps.within; sites = fit.sites; still = still };
    is = λ waiting past. is waiting past ∙ turn_is waiting past;
    placed = subst (AreHomed (language db) (IsPlace db)) (sym steps.letters) placed;
    explained = explained;
    replies = steps.replies;
  }

-- what a client asks for, as the coordinator's turn
pub list_asked : (db : Database) (before : Machines) (kept : DeskContent) (after : VolatileState) (later : List (List (List ℕ) × List SplitRelation)) → later ≡ before.later → (txn : names.Txn) (choice : Choice (language db)) (request : Request (language db)) (out : List letters.Letter) (notices : List Notice) → FitsList db before →
    Steps db before.table kept after txn (on_request (txn_name txn) choice request (txn_in db before.table txn)) out notices → AsksHomed (language db) (IsPlace db) request choice → AllExplained (on_request (txn_name txn) choice request (txn_in db before.table txn)).deeds →
    may_ask (world_of db before [] []) (txn_name txn) request ≡ true → refusal request (txn_in db before.table txn) ≡ None → ListAsked db txn choice request before (with_desk before kept after later) out notices
unfolding list_turn_leads
list_asked db before kept after later same txn choice request out notices fit steps chosen explained may accepted =
    let wanted = on_request (txn_name txn) choice request (txn_in db before.table txn) in
    record {
      leads = list_turn_leads db before kept after later txn wanted out notices fit steps
          (λ none t. ap (λ (d : Desk (language db)). is_moving (d.txn t)) steps.state ∙ nobody_after db (desk_of db before.table) (txn_name txn) wanted (fit.still (sym same ∙ none)) (request_keeps (txn_name txn) choice request (txn_in db before.table txn)) t)
          (λ w. called w (txn_name txn) choice request) (λ waiting past. refl)
          (request_homed (language db) (IsPlace db) (txn_name txn) choice request (txn_in db before.table txn) chosen (stands_placed db before.desk before.table fit.desk (txn_name txn)) (placed_after db before.table kept after txn wanted out notices steps)) explained;
      may = may;
      accepted = accepted;
      within = ap is_desk_within (sym steps.state) ∙ steps.within;
      all = refl;
    }

-- one that is no statement may always be asked for; a statement for the catalogue in force may, where its transaction moves nothing
pub may_state : (db : Database) (before : Machines) (txn : names.Txn) (s : Statement) → desk_moving (before.table.standing txn) ≡ false → is_refragment s ≡ false → may_ask (world_of db before [] []) (txn_name txn) (State (before.table.version, s)) ≡ true
may_state db before txn s unmoved ordinary =
    let still : is_moving ((desk_of db before.table).txn (txn_name txn)) ≡ false = moving_is db (before.table.standing txn) ∙ unmoved in
    both_true (not (is_moving ((desk_of db before.table).txn (txn_name txn))) && (before.table.version == before.table.version)) (not (is_refragment s))
    (both_true (not (is_moving ((desk_of db before.table).txn (txn_name txn)))) (before.table.version == before.table.version) (ap not still) (eq-eqb before.table.version before.table.version refl)) (ap not ordinary)

-- ---- a transaction begins
module _ (db : Database) (before : Machines) (kept : DeskContent) (after : VolatileState) (later : List (List (List ℕ) × List SplitRelation)) (same : later ≡ before.later) (out : List letters.Letter) (notices : List Notice) (fit : FitsList db before) (begun_so : Begins db false before.table kept after out notices) where
  pub list_begin : ListLeads db begins before (with_desk before kept after later) out notices
  list_begin = record {
    deeds = Began (next_txn (desk_of db before.table)) ∷ [];
    fit = record { names = fit.names; leaves = fit.leaves; desk = begun_so.fits; within = begun_so.within; sites = fit.sites; still = λ none t. ap (λ (d : Desk (language db)). is_moving (d.txn t)) begun_so.state ∙ nobody_begins db (desk_of db before.table) (fit.still (sym same ∙ none)) t };
    is = λ waiting past.
        let w = world_of db before waiting past in
        if_true (is_desk_within (desk_began w.desk)) (begun false w) w (ap is_desk_within (sym begun_so.state) ∙ begun_so.within) ∙
        (λ i. record { desk = sym begun_so.state i; sites = w.sites; letters = (sym (append-nil waiting) ∙ ap (λ (l : List letters.Letter). waiting ++ map (sent db) l) (sym begun_so.letters)) i; past = w.past ++ Began (next_txn w.desk) ∷ []; version = sym begun_so.version i });
    placed = subst (λ (ls : List letters.Letter). AreHomed (language db) (IsPlace db) (map (sent db) ls)) (sym begun_so.letters) tt;
    explained = (tt, tt);
    replies = begun_so.replies;
  }

-- ---- the coordinator restarts: nobody moves then
module _ (db : Database) (before : Machines) (kept : DeskContent) (after : VolatileState) (later : List (List (List ℕ) × List SplitRelation)) (out : List letters.Letter) (notices : List Notice) (fit : FitsList db before) (restarted : Restarts db before.table kept after out notices) where
  pub list_restart : ListLeads db desk_restarts before (with_desk before kept after later) out notices
  list_restart =
      let d = desk_of db before.table in
      record {
        deeds = flat_map (λ t. (txn_restarted t (d.txn t)).deeds) d.known;
        fit = record { names = fit.names; leaves = fit.leaves; desk = restarted.fits; within = restarted.within; sites = fit.sites; still = λ none t. ap (λ (d : Desk (language db)). is_moving (d.txn t)) restarted.state ∙ nobody_restarts db (desk_of db before.table) t };
        is = λ waiting past.
            let w = world_of db before waiting past in
            if_true (is_desk_within (desk_restarted w.desk)) (desk_lives w) w (ap is_desk_within (sym restarted.state) ∙ restarted.within) ∙
            (λ i. record { desk = sym restarted.state i; sites = w.sites; letters = waiting ++ sym restarted.letters i; past = past ++ flat_map (λ t. (txn_restarted t (d.txn t)).deeds) d.known; version = sym restarted.version i });
        placed = subst (AreHomed (language db) (IsPlace db)) (sym restarted.letters) (restarts_homed (language db) (IsPlace db) d.txn d.known);
        explained = restarted_explained db d d.known;
        replies = restarted.replies;
      }

-- ---- which catalogues stand behind a letter
abbrev Catalogs : Type 0
Catalogs = (List (List ℕ) × List SplitRelation) × List (List (List ℕ) × List SplitRelation)

later_is : (one other : Catalogs) → one ≡ other → one.1 ≡ other.1
later_is one other e = ap (λ (pair : Catalogs). pair.1) e

-- a letter that a site sent to the coordinator
module _ (db : Database) (before : Machines) (kept : DeskContent) (after : VolatileState) (catalog now : List (List ℕ) × List SplitRelation) (later : List (List (List ℕ) × List SplitRelation)) (letter : letters.Letter) (reply : replies.Reply) (is : letter.body ≡ body.Reply reply) (keeps : Bool) (out : List letters.Letter) (notices : List Notice) (fit : FitsList db before)
    (takes : Takes db before.table kept after letter.txn (λ choice. on_desk_letter (txn_name letter.txn) letter.site keeps choice (replied db letter.site reply) (txn_in db before.table letter.txn)) out notices) where
  wanted : Transition (language db)
  wanted = on_desk_letter (txn_name letter.txn) letter.site keeps takes.choice (replied db letter.site reply) (txn_in db before.table letter.txn)

  keeps_turn : TurnKeeps (language db) (txn_name letter.txn) (txn_in db before.table letter.txn) wanted
  unfolding wanted
  keeps_turn = letter_keeps (txn_name letter.txn) takes.choice letter.site keeps (replied db letter.site reply) (txn_in db before.table letter.txn)

  abbrev raised : Bool
  raised = is_moving (txn_in db before.table letter.txn) && is_committed wanted.deeds (txn_name letter.txn)

  version_is : after.version ≡ (if raised then suc before.table.version else before.table.version)
  unfolding wanted
  version_is = takes.steps.version

  -- the version changes by the commit of who moves, and by nothing else
  by_raise : (b : Bool) → raised ≡ b → after.version ≡ (if b then suc before.table.version else before.table.version)
  by_raise b e = version_is ∙ ap (λ (c : Bool). if c then suc before.table.version else before.table.version) e

  state_is : desk_of db after ≡ desk_after (desk_of db before.table) (txn_name letter.txn) wanted.txn
  unfolding wanted
  state_is = takes.steps.state

  still_if : (later ≡ before.later) ⊎ (raised ≡ true) → Still db later after
  still_if (inl same) none t = ap (λ (d : Desk (language db)). is_moving (d.txn t)) state_is ∙ nobody_after db (desk_of db before.table) (txn_name letter.txn) wanted (fit.still (sym same ∙ none)) keeps_turn t
  still_if (inr rises) none t = ap (λ (d : Desk (language db)). is_moving (d.txn t)) state_is ∙ nobody_left db before.desk before.table fit.desk (txn_name letter.txn) wanted
      (left_true (is_moving (txn_in db before.table letter.txn)) (is_committed wanted.deeds (txn_name letter.txn)) rises) (keeps_turn.ends (right_true (is_moving (txn_in db before.table letter.txn)) (is_committed wanted.deeds (txn_name letter.txn)) rises)) t

  abbrev Stood : Type 0
  Stood = ◌≡◌ {A = Catalogs} (now, later) (if after.version == before.table.version then (catalog, before.later) else follow catalog before.later)

  apart : (n : ℕ) → (suc n == n) ≡ false
  apart n = grind (arith, nat_tests)

  -- the catalogues are the same, or they follow where who moves is committed
  cases : Stood → ((raised ≡ false) × ◌≡◌ {A = Catalogs} (now, later) (catalog, before.later)) ⊎ ((raised ≡ true) × ◌≡◌ {A = Catalogs} (now, later) (follow catalog before.later))
  cases stood = ⊎_elim
      (λ rises.
      let test : (after.version == before.table.version) ≡ false = ap (λ n. n == before.table.version) (by_raise true rises) ∙ apart before.table.version in
      inr (rises, stood ∙ ap (λ (b : Bool). if b then (catalog, before.later) else follow catalog before.later) test))
      (λ stays.
      let test : (after.version == before.table.version) ≡ true = eq-eqb after.version before.table.version (by_raise false stays) in
      inl (stays, stood ∙ ap (λ (b : Bool). if b then (catalog, before.later) else follow catalog before.later) test))
      (by_test raised)

  pub list_reply : Stood → ListCame db letter keeps before (with_desk before kept after later) out notices
  unfolding wanted keeps_turn version_is state_is still_if cases apart by_raise list_turn_leads
  list_reply stood = record {
    choice = takes.choice;
    within = passes_is db before letter reply is keeps takes.choice ∙ (ap is_desk_within (sym takes.steps.state) ∙ takes.steps.within);
    leads = list_turn_leads db before kept after later letter.txn (on_desk_letter (txn_name letter.txn) letter.site keeps takes.choice (replied db letter.site reply) (txn_in db before.table letter.txn)) out notices fit takes.steps
        (still_if (⊎_elim (λ same. inl (later_is (now, later) (catalog, before.later) same.1)) (λ rises. inr rises.0) (cases stood)))
        (λ w. comes w keeps takes.choice (sent db letter)) (λ waiting past. comes_is db letter reply is keeps takes.choice (world_of db before waiting past))
        (turn_homed (language db) (IsPlace db) (txn_name letter.txn) takes.choice letter.site keeps (replied db letter.site reply) (txn_in db before.table letter.txn) takes.placed (stands_placed db before.desk before.table fit.desk (txn_name letter.txn))
        (placed_after db before.table kept after letter.txn (on_desk_letter (txn_name letter.txn) letter.site keeps takes.choice (replied db letter.site reply) (txn_in db before.table letter.txn)) out notices takes.steps)) takes.explained;
  }

  -- and those of the database under their numbers
  follows_on : (n m : ℕ) (those : List (List (List ℕ) × List SplitRelation)) → m ≡ suc n → those ≢ [] → InForce db n catalog → AreNextOf db n those → ◌≡◌ {A = Catalogs} (now, later) (follow catalog those) → InForce db m now × AreNextOf db m later
  follows_on n m [] e some here next is = absurd (some refl)
  follows_on n m (c ∷ rest) e some here next is = (
    subst (λ (pair : Catalogs). InForce db m pair.0) (sym is) (subst (λ k. InForce db k c) (sym e) next.0),
    subst (λ (pair : Catalogs). AreNextOf db m pair.1) (sym is) (subst (λ k. AreNextOf db k rest) (sym e) next.1),
  )

  pub list_stands : Stood → InForce db before.table.version catalog → AreNextOf db before.table.version before.later → InForce db after.version now × AreNextOf db after.version later
  unfolding wanted keeps_turn version_is cases apart by_raise
  list_stands stood here next = ⊎_elim
      (λ same. (
        subst (λ (pair : Catalogs). InForce db after.version pair.0) (sym same.1) (subst (λ k. InForce db k catalog) (sym (by_raise false same.0)) here),
        subst (λ (pair : Catalogs). AreNextOf db after.version pair.1) (sym same.1) (subst (λ k. AreNextOf db k before.later) (sym (by_raise false same.0)) next),
      ))
      (λ rises. follows_on before.table.version after.version before.later (by_raise true rises.0)
      (λ none. clash (left_true (is_moving (txn_in db before.table letter.txn)) (is_committed wanted.deeds (txn_name letter.txn)) rises.0) (fit.still none (txn_name letter.txn))) here next rises.1)
      (cases stood)

-- ---- a relation gets another split
none_of_or : (a b : Bool) → (a || b) ≡ false → (a ≡ false) × (b ≡ false)
none_of_or true b e = cc
none_of_or false b e = (refl, e)

-- where nobody moves, a transaction may begin
none_moves : (db : Database) (standing : names.Txn → Option TxnState) (txns : List names.Txn) → list_any (λ txn. desk_moving (standing txn)) txns ≡ false → list_all (λ t. not (is_moving (txn_of db (standing (txn_at t))))) (map txn_name txns) ≡ true
none_moves db standing [] e = refl
none_moves db standing (txn ∷ txns) e =
    let none = none_of_or (desk_moving (standing txn)) (list_any (λ txn. desk_moving (standing txn)) txns) e in
    both_true (not (is_moving (txn_of db (standing txn)))) (list_all (λ t. not (is_moving (txn_of db (standing (txn_at t))))) (map txn_name txns)) (ap not (moving_is db (standing txn) ∙ none.0)) (none_moves db standing txns none.1)

pub may_begin_where : (db : Database) (before : Machines) → anyone_moves before.table ≡ false → may_begin (world_of db before [] []) ≡ true
may_begin_where db before none = none_moves db before.table.standing before.table.txns none

-- the first turn of a statement commits nobody
mute_first : (db : Database) (t : Name) (s : (language db).Statement) (choice : Choice (language db)) → is_committed (on_state {L = language db} t (fresh_as true) s choice Idle).deeds t ≡ false
mute_first db t s choice = (states_live {L = language db} t (fresh_as true) s (map ask_of ((language db).fetches s)) choice).mute.commits t

no_raise : (a b : Bool) → b ≡ false → (a && b) ≡ false
no_raise true b e = e
no_raise false b e = refl

module _ (db : Database) (before : Machines) (kept : DeskContent) (after : VolatileState) (later : List (List (List ℕ) × List SplitRelation)) (some : later ≢ []) (text : List ℕ) (out : List letters.Letter) (notices : List Notice) (fit : FitsList db before) (by : RefragmentsBy db before.table kept after text out notices) where
  abbrev stated : (language db).Statement
  stated = (before.table.version, kinds.Refragment by.refragment)

  abbrev d : Desk (language db)
  d = desk_of db before.table

  abbrev t : Name
  t = next_txn d

  abbrev turn : Transition (language db)
  turn = on_state t (fresh_as true) stated by.does.choice Idle

  moved_is : (waiting : List (Letter (language db))) (past : List (protocol.Deed (language db))) → refragments (world_of db before waiting past) stated by.does.choice ≡ world_of db (with_desk before kept after later) (waiting ++ map (sent db) out) (past ++ Began t ∷ turn.deeds)
  moved_is waiting past =
      let w = world_of db before waiting past in
      let v = begun true w in
      let within : is_desk_within (desk_after v.desk t turn.txn) ≡ true = ap is_desk_within (sym by.does.state) ∙ by.does.within in
      let same : version_after before.table.version (v.desk.txn t) t turn.deeds ≡ after.version =
      if_false (is_moving (v.desk.txn t) && is_committed turn.deeds t) (suc before.table.version) before.table.version (no_raise (is_moving (v.desk.txn t)) (is_committed turn.deeds t) (mute_first db t stated by.does.choice)) ∙ sym by.does.version in
      if_true (is_desk_within v.desk && is_desk_within (desk_after v.desk t turn.txn)) (turned v t turn) w (both_true (is_desk_within v.desk) (is_desk_within (desk_after v.desk t turn.txn)) by.does.begun within) ∙
      (λ i. record { desk = sym by.does.state i; sites = w.sites; letters = waiting ++ sym by.does.letters i; past = append_assoc past (Began t ∷ []) turn.deeds i; version = same i })

  placed_there : AreHomed (language db) (IsPlace db) turn.letters
  placed_there = request_homed (language db) (IsPlace db) t by.does.choice (State stated) (Known (fresh_as true)) by.does.placed tt
      (subst (TxnHomed (language db) (IsPlace db)) (ap (λ (e : Desk (language db)). e.txn t) by.does.state ∙ put_here same same_law t turn.txn (began_as true d).txn) (stands_placed db kept after by.does.fits t))

  pub list_moved : ListMoved db text before (with_desk before kept after later) out notices
  unfolding moved_is placed_there
  list_moved = record {
    refragment = by.refragment;
    choice = by.does.choice;
    spelled = by.spelled;
    leads = record {
      deeds = Began t ∷ turn.deeds;
      fit = record { names = fit.names; leaves = fit.leaves; desk = by.does.fits; within = by.does.within; sites = fit.sites; still = λ none. absurd (some none) };
      is = moved_is;
      placed = subst (AreHomed (language db) (IsPlace db)) (sym by.does.letters) placed_there;
      explained = (tt, by.does.explained);
      replies = by.does.replies;
    };
    may = both_true (is_empty d.known && (before.table.version == before.table.version)) true (both_true (is_empty d.known) (before.table.version == before.table.version) (ap (λ (txns : List names.Txn). is_empty (map txn_name txns)) by.does.alone) (eq-eqb before.table.version before.table.version refl)) refl;
    begun_within = by.does.begun;
    within = ap is_desk_within (sym by.does.state) ∙ by.does.within;
    all = refl;
  }

-- ---- which catalogues stand in a database
-- the next one is the first of those that come later
pub first_next : (db : Database) (n : ℕ) (later : List (List (List ℕ) × List SplitRelation)) → AreNextOf db n later → IsNextOf db n (first_in later)
first_next db n [] next = tt
first_next db n (c ∷ rest) next = next.0

pub stands_as : {D : Type 0} (db : Database) (old new : desks.Desk D) → new.volatile.version ≡ old.volatile.version → new.catalog ≡ old.catalog → new.later.items ≡ old.later.items → StandsIn db old → StandsIn db new
stands_as db old new version catalog later stands = record {
  here = ap db.catalogue version ∙ stands.here ∙ ap catalogue_of (sym catalog);
  next = subst (AreNextOf db new.volatile.version) (sym later) (subst (λ n. AreNextOf db n old.later.items) (sym version) stands.next);
}

-- the one in force, where none comes later
pub stands_single : {D : Type 0} (db : Database) (desk : desks.Desk D) → InForce db desk.volatile.version desk.catalog → desk.later.items ≡ [] → StandsIn db desk
stands_single db desk is none = record { here = is; next = subst (AreNextOf db desk.volatile.version) (sym none) tt }

-- a call that calls no store leaves the number that it keeps
pub stands_by_store : {D : Type 0} (db : Database) (kept : D → DeskContent) (old new : desks.Desk D) → new.store ≡ old.store → new.catalog ≡ old.catalog → new.later.items ≡ old.later.items → Fits db (kept old.store) (volatile_of old.volatile) → Fits db (kept new.store) (volatile_of new.volatile) → StandsIn db old → StandsIn db new
stands_by_store db kept old new store catalog later fit fits stands = stands_as db old new (fits.version ∙ ap (λ s. (kept s).version) store ∙ sym fit.version) catalog later stands

pub stands_same : {D : Type 0} (db : Database) (old new : desks.Desk D) → new ≡ old → StandsIn db old → StandsIn db new
stands_same db old new same stands = subst (StandsIn db) (sym same) stands

-- ---- the same is in force
pub desk_stays : {D S : Type 0} (old new : code.Machines D S) → new.desk ≡ old.desk → StaysInForce old new
desk_stays {D} old new same = record { version = ap (λ (d : desks.Desk D). d.volatile.version) same; catalog = ap (λ (d : desks.Desk D). d.catalog) same; later = ap (λ (d : desks.Desk D). d.later.items) same }

catalog_is : (one other : Catalogs) → one ≡ other → one.0 ≡ other.0
catalog_is one other e = ap (λ (pair : Catalogs). pair.0) e

-- so where a letter is refused: its turn doesn't happen
pub stays_where : {D S T E : Type 0} (result : Result T E) (old : code.Machines D S) (new : desks.Desk D) → OnErr result (volatile_of new.volatile ≡ volatile_of old.desk.volatile) →
    ◌≡◌ {A = Catalogs} (new.catalog, new.later.items) (if new.volatile.version == old.desk.volatile.version then (old.desk.catalog, old.desk.later.items) else follow old.desk.catalog old.desk.later.items) →
    OnErr result (StaysInForce old (record { alloc = old.alloc; desk = new; sites = old.sites; traffic = old.traffic }))
stays_where (Ok x) old new none stood = tt
stays_where (Err e) old new same stood =
    let version : new.volatile.version ≡ old.desk.volatile.version = ap (λ (table : VolatileState). table.version) same in
    let those : ◌≡◌ {A = Catalogs} (new.catalog, new.later.items) (old.desk.catalog, old.desk.later.items) = stood ∙ ap (λ (b : Bool). if b then (old.desk.catalog, old.desk.later.items) else follow old.desk.catalog old.desk.later.items) (eq-eqb new.volatile.version old.desk.volatile.version version) in
    record { version = version; catalog = catalog_is (new.catalog, new.later.items) (old.desk.catalog, old.desk.later.items) those; later = later_is (new.catalog, new.later.items) (old.desk.catalog, old.desk.later.items) those }

pub stays_by : {D S T E : Type 0} (result : Result T E) (old : code.Machines D S) (new : desks.Desk D) → OnErr result (volatile_of new.volatile ≡ volatile_of old.desk.volatile) → new.catalog ≡ old.desk.catalog → new.later.items ≡ old.desk.later.items →
    OnErr result (StaysInForce old (record { alloc = old.alloc; desk = new; sites = old.sites; traffic = old.traffic }))
stays_by (Ok x) old new none catalog later = tt
stays_by (Err e) old new same catalog later = record { version = ap (λ (table : VolatileState). table.version) same; catalog = catalog; later = later }

-- so by what the machines hold
pub stays_held : {D S T E : Type 0} (hold : code.Machines D S → Machines) (result : Result T E) (old new : code.Machines D S) → ((m : code.Machines D S) → (hold m).table.version ≡ m.desk.volatile.version) → OnErr result (hold new ≡ hold old) → new.desk.catalog ≡ old.desk.catalog → new.desk.later.items ≡ old.desk.later.items →
    OnErr result (StaysInForce old new)
stays_held hold (Ok x) old new version none catalog later = tt
stays_held hold (Err e) old new version same catalog later = record { version = sym (version new) ∙ ap (λ (m : Machines). m.table.version) same ∙ version old; catalog = catalog; later = later }

-- what the coordinator refuses is refused on
pub by_desk_stays : (P : Type 0) (done : Result Out Refusal) (result : Result Out Fault) → result ≡ told_by_desk done → OnErr done P → OnErr result P
by_desk_stays P (Ok out) result is holds = subst (λ r. OnErr r P) (sym is) tt
by_desk_stays P (Err refusal) result is holds = subst (λ r. OnErr r P) (sym is) holds
