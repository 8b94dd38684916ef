-- What a command comes to.
use Rattle.std.proofs.Common.{◌≡◌, refl, sym, ap, ◌∙◌, subst, ℕ, true, false, List, [], ◌∷◌, ◌++◌, append-nil, map, ◌⊎◌, inl, inr, ⊎_elim, Bool, Option, Some, None, Result, Ok, Err, IfErr, OnErr}
use Rattle.meaning.specs.declared.answer.Answer.{Answer as AnswerNow}
use Rattle.meaning.specs.declared.statement.Refragment.{Refragment}
use Rattle.meaning.specs.declared.statement.Statement.{Statement}
use Rattle.meaning.specs.declared.statement.Statement.TheVariants as statements
use Rattle.meaning.specs.Statement.{is_refragment}
use Rattle.meaning.specs.Whole.{Relations}
use Rattle.reader.specs.declared.command.Command.{Command}
use Rattle.reader.specs.declared.command.Command.TheVariants.{Run}
use Rattle.reader.specs.Command.{IsTextOf, OneCommandOfText}
use Rattle.store.specs.Content.{Content}
use Rattle.store.specs.declared.name.Txn.{Txn}
use Rattle.protocol.specs.Client.{ReachedLaw}
use Rattle.protocol.specs.Desk.{Deed}
use Rattle.protocol.specs.Letters.{txn_name}
use Rattle.protocol.proofs.Basics.{clash}
use Rattle.desk.specs.declared.refusal.Refusal as refusals
use Rattle.desk.specs.declared.refusal.Refusal.TheVariants.{Full}
use Rattle.desk.specs.declared.reply.Notice.{Notice}
use Rattle.desk.specs.declared.reply.Reply.TheVariants.{Answer, Begun}
use Rattle.desk.specs.Database.{Database, language}
use Rattle.desk.specs.Place.{Place}
use Rattle.desk.specs.Does.{StatesPastLimits}
use Rattle.desk.specs.State.{notice_of}
use Rattle.world.specs.declared.event.Call as calls
use Rattle.world.specs.declared.event.Call.TheVariants as call
use Rattle.world.specs.Client.{IsServed, autocommit_reply, is_end, still_open, tells}
use Rattle.world.specs.Commands.{CommandsFollow, Executes, IsCallOf, IsCommand, IsDecided, IsLone, IsRefragmented, IsStated, IsTakenBack, MovesFollow, Outcome, finds_no_number, has_answered, has_begun, has_committed, has_rolled_back, heard_in, is_hindered, is_misplaced, is_refragment_inside, is_too_much, is_too_much_alone}
use Rattle.world.specs.Course.{Begins, Commits, CommitsNone, Made, Move, Refragments, Refuses, Rolls_back, SomeHindered, States, deeds_in, said_in}
use Rattle.world.specs.Executed.{ObeysUnlessRefused, Stands}
use Rattle.world.specs.Frame.{MakesMoves}
use Rattle.world.specs.Machines.{Machines}
use Rattle.world.specs.Refused.{IsRefused}
use Rattle.world.specs.Settling.{GrowsQuiet}
use Rattle.world.specs.Stopping.{is_stop}
use Rattle.world.proofs.Beginning.{begin_leads}
use Rattle.world.proofs.Deeds.{committed_none, move_served}
use Rattle.world.proofs.Denials.{is_full, no_commit, no_rollback, no_room}
use Rattle.world.proofs.Executed.{heard_alone, not_ended, still_there, tells_more}
use Rattle.world.proofs.Hindering.{listed_served, made_hindered, made_reasons}
use Rattle.world.proofs.Moves.{back_cases, command_cases, decided_cases, lone_cases, refragmented_cases, stated_cases}
use Rattle.world.proofs.RoomToBegin.{numbers_run_out}
use Rattle.world.proofs.Standing.{begun, command_stands, stands_whenever, stated}

-- ---- a command that is refused commits nothing
module _ (told : refusals.Refusal) (reply : Result (List Notice) refusals.Refusal) (is : reply ≡ Err told) where
  not_heard : {A : Type 0} (heard : List Notice) → reply ≡ Ok heard → A
  not_heard heard says = let e : Ok heard ≡ Err told = sym says ∙ is in cc

  back_none : (txn : Txn) (moves : List Move) → IsTakenBack txn moves → CommitsNone moves
  back_none txn = back_cases txn CommitsNone (λ heard. tt) (λ why. tt)

  lone_none : (text : List ℕ) (moves : List Move) → IsLone text moves reply → CommitsNone moves
  lone_none text = lone_cases text reply CommitsNone
      (λ txn greeted. stated_cases text txn greeted reply CommitsNone
      (λ answered. decided_cases txn (greeted ++ answered) reply CommitsNone (λ ended says. not_heard (autocommit_reply (greeted ++ answered)) says) (λ decided goes says. not_heard (autocommit_reply ((greeted ++ answered) ++ decided)) says) (λ why back goes taken says. back_none txn back taken))
      (λ why back taken says. back_none txn back taken))
      (λ why says. tt)

  moved_none : (text : List ℕ) (moves : List Move) → IsRefragmented text moves reply → CommitsNone moves
  moved_none text = refragmented_cases text reply CommitsNone (λ came moves so. after came moves so)
    where
      after : (came : Result (List Notice) refusals.Refusal) (moves : List Move) → IsRefragmented text (Refragments text came ∷ moves) reply → CommitsNone moves
      after (Ok answered) moves so = decided_cases so.1.0 answered reply CommitsNone (λ ended says. not_heard (autocommit_reply answered) says) (λ decided goes says. not_heard (autocommit_reply (answered ++ decided)) says) (λ why back goes taken says. back_none so.1.0 back taken) moves so.1.2
      after (Err why) [] so = tt
      after (Err why) (move ∷ moves) none = absurd none

  pub refused_none : (schemas : _) (text : List ℕ) (current later : Option Txn) (moves : List Move) → IsCommand schemas text current later moves reply → CommitsNone moves
  refused_none schemas text current later = command_cases schemas text current later reply CommitsNone (λ still why says misplaced. tt) (λ txn heard of some says. tt) (λ txn given heard of still says. tt)
      (λ txn heard of none says. not_heard heard says) (λ txn heard of none says. tt) (λ asked why of still says. tt) (λ moves statement spelled ordinary none after_none lone. lone_none text moves lone) (λ moves refragment spelled none after_none moved. moved_none text moves moved)

-- so of a call of the code
pub refused_commits_none : {T : Type 0} (items : T → List Notice) (result : Result T refusals.Refusal) (schemas : _) (text : List ℕ) (current later : Option Txn) (moves : List Move) → IsCommand schemas text current later moves (heard_in items result) → OnErr result (CommitsNone moves)
refused_commits_none items (Ok x) schemas text current later moves command = tt
refused_commits_none items (Err why) schemas text current later moves command = refused_none why (Err why) refl schemas text current later moves command

-- ---- outcomes
module _ (db : Database) (fits : Place → Content → Bool) (reached : ReachedLaw (language db)) (obeys : ObeysUnlessRefused db fits) (law : GrowsQuiet db fits) (one : OneCommandOfText) (whole : Relations) (text : List ℕ) (reply : Result (List Notice) refusals.Refusal) where
  -- a lone statement was answered
  pub record IsAnswered (txn : Txn) : Type 0 where
    pub heard : List Notice
    pub answer : AnswerNow
    pub says : reply ≡ Ok heard
    pub hears : map notice_of heard ≡ (txn_name txn, Answer answer) ∷ []

  -- or something was refused on the way of its moves
  pub record IsHinderedOn (before after : Machines) (past : List (Deed (language db))) (moves : List Move) (made : Made db moves before after) : Type 0 where
    pub heard : List Notice
    pub says : reply ≡ Ok heard
    pub some : SomeHindered db moves before after past made

  -- or it is refused where its transaction has begun
  pub record MeetsLimit (txn : Txn) (before : Machines) : Type 0 where
    pub told : refusals.Refusal
    pub says : reply ≡ Err told
    pub full : told ≡ Full
    pub past_limits : StatesPastLimits db before.table txn text

  -- it was told so much of it that its client hears it, whatever was refused before
  decided_heard : (past : List (Deed (language db))) (txn : Txn) (greeted answered : List Notice) (before after : Machines) → (Stands db fits (Some txn) before past) ⊎ (tells is_end answered ≡ true) → (moves : List Move) → IsDecided txn (greeted ++ answered) moves reply → Made db moves before after →
      (heard : List Notice) × (reply ≡ Ok heard)
  decided_heard past txn greeted answered before after ready = decided_cases txn (greeted ++ answered) reply (λ moves. Made db moves before after → (heard : List Notice) × (reply ≡ Ok heard))
      (λ ended says same. (autocommit_reply (greeted ++ answered), says))
      (λ decided goes says made. (autocommit_reply ((greeted ++ answered) ++ decided), says))
      (λ why back goes taken says made. ⊎_elim (λ is. absurd (no_commit db fits txn before past why is made.1.0)) (λ ended. clash (tells_more greeted answered ended) goes) ready)

  decided_comes : (past : List (Deed (language db))) (txn : Txn) (greeted answered : List Notice) (answer : AnswerNow) (before after : Machines) → IsServed db whole before past → Stands db fits (Some txn) before past → map notice_of greeted ≡ (txn_name txn, Begun) ∷ [] → map notice_of answered ≡ (txn_name txn, Answer answer) ∷ [] →
      (moves : List Move) → IsDecided txn (greeted ++ answered) moves reply → (made : Made db moves before after) → IsAnswered txn ⊎ IsHinderedOn before after past moves made
  decided_comes past txn greeted answered answer before after served ready is_greeted is_answered = decided_cases txn (greeted ++ answered) reply (λ moves. (made : Made db moves before after) → IsAnswered txn ⊎ IsHinderedOn before after past moves made)
      (λ ended says same. clash ended (not_ended txn answered answer is_answered greeted is_greeted))
      (λ decided goes says made. ⊎_elim
      (λ done. inl (record { heard = autocommit_reply ((greeted ++ answered) ++ decided); answer = answer; says = says; hears = heard_alone txn answered answer is_answered greeted is_greeted decided done.1 }))
      (λ hindered. inr (record { heard = autocommit_reply ((greeted ++ answered) ++ decided); says = says; some = inl hindered }))
      (obeys.commits whole before made.0 past txn decided served ready made.1))
      (λ why back goes taken says made. absurd (no_commit db fits txn before past why ready made.1.0))

  -- the text of a statement that is no REFRAGMENT is that of none
  no_refragment : (statement : Statement) → IsTextOf db.schemas text (Run statement) → is_refragment statement ≡ false → (refragment : Refragment) → IsTextOf db.schemas text (Run (statements.Refragment refragment)) → ⊥
  no_refragment statement spelled ordinary refragment other =
      let same : Run statement ≡ Run (statements.Refragment refragment) = one db.schemas text (Run statement) (Run (statements.Refragment refragment)) spelled other in
      clash (ap moves_rows same) ordinary
    where
      moves_rows : Command → Bool
      moves_rows (Run stated) = is_refragment stated
      moves_rows other = false

  stated_comes : (statement : Statement) → IsTextOf db.schemas text (Run statement) → is_refragment statement ≡ false → (past : List (Deed (language db))) (txn : Txn) (greeted : List Notice) (before after : Machines) → IsServed db whole before past → Stands db fits (Some txn) before past → map notice_of greeted ≡ (txn_name txn, Begun) ∷ [] →
      (moves : List Move) → IsStated text txn greeted moves reply → (made : Made db moves before after) → (IsAnswered txn ⊎ IsHinderedOn before after past moves made) ⊎ MeetsLimit txn before
  stated_comes statement spelled ordinary past txn greeted before after served ready is_greeted = stated_cases text txn greeted reply (λ moves. (made : Made db moves before after) → (IsAnswered txn ⊎ IsHinderedOn before after past moves made) ⊎ MeetsLimit txn before)
      (λ answered moves decided made.
      let does = made.1 in
      let more = past ++ does.asks.serves.deeds in
      let served_more = move_served db whole reached (States txn text answered) before made.0 past served does in
      let heard = decided_heard more txn greeted answered made.0 after (⊎_elim (λ is. inl (stands_whenever db fits (Some txn) made.0 past more is.0)) (λ is. inr is.1) (stated db fits reached obeys law whole past text txn before made.0 answered served ready does)) moves decided made.2 in
      inl (⊎_elim
      (λ done. ⊎_elim (λ answered_so. inl answered_so) (λ hindered. inr (record { heard = hindered.heard; says = hindered.says; some = inr hindered.some }))
      (decided_comes more txn greeted answered done.1.0 made.0 after served_more (stands_whenever db fits (Some txn) made.0 (past ++ done.0.deeds) more done.0.stands) is_greeted done.1.1 moves decided made.2))
      (λ hindered. inr (record { heard = heard.0; says = heard.1; some = inl hindered }))
      (obeys.states whole before made.0 past text txn answered served ready does)))
      (λ why back taken says made.
      ⊎_elim
      (λ refragment. absurd (no_refragment statement spelled ordinary refragment.refragment refragment.spelled))
      (λ full. inr (record { told = why; says = says; full = full.0; past_limits = full.1 }))
      (is_full db fits one text statement spelled txn before past why served.fit ready made.1.0))

  module _ (past : List (Deed (language db))) (current later : Option Txn) (before after : Machines) (served : IsServed db whole before past) (stands : Stands db fits current before past) where
    abbrev Comes : (moves : List Move) → Made db moves before after → Type 0
    Comes moves made = Outcome db text current later before after past (deeds_in db moves before after made) reply

    as_open : (c : Option Txn) → current ≡ c → Stands db fits c before past
    as_open c same = subst (λ (x : Option Txn). Stands db fits x before past) same stands

    lone_comes : (statement : Statement) → IsTextOf db.schemas text (Run statement) → is_refragment statement ≡ false → current ≡ None → later ≡ None → (moves : List Move) → IsLone text moves reply → (made : Made db moves before after) → Comes moves made
    lone_comes statement spelled ordinary none after_none = lone_cases text reply (λ moves. (made : Made db moves before after) → Comes moves made)
        (λ txn greeted moves is made.
        let does = made.1 in
        let more = past ++ does.serves.deeds in
        let done = begun db fits reached obeys law whole past txn before made.0 greeted served (as_open None none) does in
        let served_more = move_served db whole reached (Begins txn greeted) before made.0 past served does in
        ⊎_elim
        (λ ended. ⊎_elim
        (λ (is_so : IsAnswered txn). has_answered txn statement is_so.heard is_so.answer is_so.says spelled (after_none ∙ sym none) is_so.hears)
        (λ hindered. is_hindered hindered.heard hindered.says (made_hindered db (Begins txn greeted ∷ moves) before after past made (inr hindered.some))) ended)
        (λ (limit : MeetsLimit txn made.0). is_too_much_alone limit.told limit.says (after_none ∙ sym none) limit.full none txn does.named made.0 does.serves.deeds (deeds_in db moves made.0 after made.2) refl (begin_leads db before made.0 greeted does.serves past) limit.past_limits)
        (stated_comes statement spelled ordinary more txn greeted made.0 after served_more (stands_whenever db fits (Some txn) made.0 past more done.0) done.1 moves is made.2))
        (λ why says made.
        let full = no_room db before why served.fit made.1.0 in
        finds_no_number why says (after_none ∙ sym none) full.0 none (inr (statement, spelled)) (numbers_run_out db before past served.fit (as_open None none) full.1))

    -- a single call is refused
    call_refused : (moves : List Move) (made : Made db moves before after) (asked : calls.Call) (told : refusals.Refusal) → reply ≡ Err told → later ≡ current → IsCallOf db.schemas text current asked → IsRefused db before.later before.table asked told → Comes moves made
    call_refused moves made call.Begin told says still is refused =
        let full = no_room db before told served.fit refused in
        finds_no_number told says still full.0 is.1 (inl is.0) (numbers_run_out db before past served.fit (as_open None is.1) full.1)
    call_refused moves made (call.State txn given) told says still is refused =
        ⊎_elim
        (λ refragment. is_refragment_inside told says still txn is.1 refragment)
        (λ full. is_too_much told says still full.0 txn is.1 full.1)
        (is_full db fits one text is.0.0 is.0.1 txn before past told served.fit (as_open (Some txn) is.1) (subst (λ (x : List ℕ). IsRefused db before.later before.table (call.State txn x) told) is.2 refused))
    call_refused moves made (call.Commit txn) told says still is refused = absurd (no_commit db fits txn before past told (as_open (Some txn) is.1) refused)
    call_refused moves made (call.Rollback txn) told says still is refused = absurd (no_rollback db fits txn before past told (as_open (Some txn) is.1) refused)
    call_refused moves made (call.GiveUp txn) told says still is refused = absurd is
    call_refused moves made (call.Refragment asked) told says still is refused = absurd is

    pub command_comes : (moves : List Move) → IsCommand db.schemas text current later moves reply → (made : Made db moves before after) → Comes moves made
    command_comes = command_cases db.schemas text current later reply (λ moves. (made : Made db moves before after) → Comes moves made)
        (λ still told says misplaced same. is_misplaced told says still misplaced)
        (λ txn heard is some says made. has_begun txn heard says is.0 some (begun db fits reached obeys law whole past txn before made.0 heard served (as_open None is.1) made.1).1)
        (λ txn given heard is still says made. ⊎_elim
        (λ done. has_answered txn is.0.0 heard done.1.0 says is.0.1 (still ∙ ap (λ (c : Option Txn). still_open c heard) is.1 ∙ still_there txn heard done.1.0 done.1.1 ∙ sym is.1) done.1.1)
        (λ hindered. is_hindered heard says (made_hindered db (States txn given heard ∷ []) before after past made (inl hindered)))
        (obeys.states whole before made.0 past given txn heard served (as_open (Some txn) is.1) made.1))
        (λ txn heard is none says made. ⊎_elim (λ done. has_committed txn heard says is.0 is.1 done.1) (λ hindered. is_hindered heard says (made_hindered db (Commits txn heard ∷ []) before after past made (inl hindered))) (obeys.commits whole before made.0 past txn heard served (as_open (Some txn) is.1) made.1))
        (λ txn heard is none says made. ⊎_elim (λ done. has_rolled_back txn heard says is.0 is.1 done.1) (λ hindered. is_hindered heard says (made_hindered db (Rolls_back txn heard ∷ []) before after past made (inl hindered))) (obeys.rolls_back whole before made.0 past txn heard served (as_open (Some txn) is.1) made.1))
        (λ asked told is still says made. call_refused (Refuses asked told ∷ []) made asked told says still is made.1.0)
        (λ moves statement spelled ordinary none after_none is. lone_comes statement spelled ordinary none after_none moves is)
        (λ moves refragment spelled none after_none. refragmented_cases text reply (λ moves. (made : Made db moves before after) → Comes moves made) (λ came more is made. absurd made.1) moves)

-- ---- the law
pub commands_follow : (db : Database) (fits : Place → Content → Bool) → ReachedLaw (language db) → ObeysUnlessRefused db fits → GrowsQuiet db fits → OneCommandOfText → MovesFollow db → CommandsFollow db fits
commands_follow db fits reached obeys law one follow whole text current later before after past reply moves served made command =
    let more = past ++ deeds_in db moves before after made in
    let served_more = follow.served whole moves before after past served made in
    record {
      moves = moves;
      deeds = deeds_in db moves before after made;
      command = command;
      served = listed_served db whole after more served_more;
      tells = λ entries told. follow.tells moves before after entries past told made;
      serial = λ entries told. follow.serial whole after (entries ++ said_in moves) more (follow.tells moves before after entries past told made) served_more;
      reasons = made_reasons db reached whole past (deeds_in db moves before after made) moves before after [] made refl (subst (IsServed db whole before) (sym (append-nil past)) served);
      uncommitted = λ refused is. committed_none db moves before after made past (refused_none refused reply is db.schemas text current later moves command);
      stands = λ stands. stands_whenever db fits later after past more (command_stands db fits reached obeys law whole past db.schemas text current later reply before after served stands moves command made);
      outcome = λ stands. command_comes db fits reached obeys law one whole text reply past current later before after served stands moves command made;
    }

-- of a call of the code that doesn't stop the database
pub executed : (db : Database) (fits : Place → Content → Bool) → CommandsFollow db fits → (whole : Relations) (text : List ℕ) (current later : Option Txn) (before after : Machines) (past : List (Deed (language db))) {T : Type 0} (items : T → List Notice) (result : Result T refusals.Refusal) →
    IsServed db whole before past → MakesMoves db before after result (λ done moves. IsCommand db.schemas text current later moves (heard_in items done)) → IfErr result (λ told. is_stop told ≡ false) → Executes db fits whole text current before later after past (heard_in items result)
executed db fits law whole text current later before after past items (Ok x) served made goes = law whole text current later before after past (Ok (items x)) made.moves served made.made made.is
executed db fits law whole text current later before after past items (Err why) served (inl stops) goes = clash stops goes
executed db fits law whole text current later before after past items (Err why) served (inr made) goes = law whole text current later before after past (Err why) made.moves served made.made made.is
