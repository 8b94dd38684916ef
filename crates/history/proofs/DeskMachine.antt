-- What the coordinator makes of a call, as an entry of its history has it.
use Rattle.std.proofs.Common.{◌≡◌, sym, subst, refl, ℕ, nat_eq, Bool, true, false, not, ◌&&◌, List, [], None, Result, Ok, Err, IfOk, OnOk}
use Rattle.std.specs.Cmp.Lexicographic.{pointwise}
use Rattle.std.specs.List.{list_any}
use Rattle.meaning.specs.declared.statement.Statement.{Statement}
use Rattle.protocol.specs.Desk as protocol
use Rattle.protocol.specs.Letters.{txn_name}
use Rattle.store.specs.declared.letter.Body as bodies
use Rattle.store.specs.declared.letter.Body.TheVariants as body
use Rattle.store.specs.declared.letter.Letter.{Letter}
use Rattle.store.specs.declared.name.Txn.{Txn}
use Rattle.store.specs.declared.reply.Reply.{Reply}
use Rattle.store.specs.DeskContent.{DeskContent, IsUnchanged}
use Rattle.desk.specs.declared.desk.Desk.{Desk}
use Rattle.desk.specs.declared.refusal.Refusal.{Refusal}
use Rattle.desk.specs.declared.reply.Out.{Out}
use Rattle.desk.specs.Database.{Database, language, replied}
use Rattle.desk.specs.Does.{States, Takes}
use Rattle.desk.specs.Receive.{is_reply, is_strange}
use Rattle.desk.specs.Recovery.{Restarts}
use Rattle.desk.specs.Refragmented.{RefragmentsBy}
use Rattle.desk.specs.Request.{txn_in}
use Rattle.desk.specs.State.{Begins, Steps, anyone_moves, volatile_of}
use Rattle.desk.specs.Transition.{is_moving}
use Rattle.world.specs.declared.event.Call as calls
use Rattle.world.specs.declared.event.Call.TheVariants as call
use Rattle.world.specs.declared.fault.Fault.{Fault}
use Rattle.world.specs.EventApplied.{told_by_desk}
use Rattle.world.proofs.Ends.{give_up_accepted}
use Rattle.world.proofs.Reasoned.{no_choice}
use Rattle.world.proofs.SiteSteps.{if_both}
use Rattle.history.specs.declared.entry.Entry.{Entry}
use Rattle.history.specs.declared.entry.Input as inputs
use Rattle.history.specs.declared.entry.Input.TheVariants as input
use Rattle.history.specs.DeskHistory.{Asks, DeskAccepts, DeskDoes, DeskMoves, DeskState, IsFit, desk_from}
use Rattle.history.specs.Entries.{accepted}

-- ---- what is kept where nothing has changed
unchanged : (old new : DeskContent) → IsUnchanged old new → new ≡ old
unchanged old new same i = record { commits = λ txn. same.commits txn i; life = same.life i; version = same.version i }

pub desk_same : {D : Type 0} (content : D → DeskContent) (old new : Desk D) → new.store ≡ old.store → volatile_of new.volatile ≡ volatile_of old.volatile → desk_from content new ≡ desk_from content old
desk_same content old new store table i = record { content = content (store i); table = table i }

pub desk_unchanged : {D : Type 0} (content : D → DeskContent) (old new : Desk D) → IsUnchanged (content old.store) (content new.store) → volatile_of new.volatile ≡ volatile_of old.volatile → desk_from content new ≡ desk_from content old
desk_unchanged content old new same table i = record { content = unchanged (content old.store) (content new.store) same i; table = table i }

-- ---- answers
if_all : {A T E : Type 0} (P : A → T → Type 0) (result : Result T E) → ((a : A) → IfOk result (P a)) → IfOk result (λ x. (a : A) → P a x)
if_all P (Ok x) all = all
if_all P (Err e) all = tt

on_any_ok : {T E Q : Type 0} (result : Result T E) → Q → OnOk result Q
on_any_ok (Ok x) q = q
on_any_ok (Err e) q = tt

on_with : {T E : Type 0} (Q : Type 0) (P : T → Type 0) (result : Result T E) → OnOk result Q → IfOk result P → IfOk result (λ x. Q × P x)
on_with Q P (Ok x) q p = (q, p)
on_with Q P (Err e) q p = tt

on_all_with : {A T E : Type 0} (Q : A → Type 0) (P : T → Type 0) (result : Result T E) → ((a : A) → OnOk result (Q a)) → IfOk result P → IfOk result (λ x. ((a : A) → Q a) × P x)
on_all_with Q P (Ok x) all p = (all, p)
on_all_with Q P (Err e) all p = tt

-- ---- a letter that is not passed over is a site's reply
pub said_is : (said : bodies.Body) (here : Bool) → not (is_reply said && here) ≡ false → ((reply : Reply) × (said ≡ body.Reply reply)) × (here ≡ true)
said_is (body.Order order) here is = absurd cc
said_is (body.Reply reply) true is = ((reply, refl), refl)
said_is (body.Reply reply) false is = absurd cc

module _ (db : Database) (before after : DeskState) (result : Result Out Refusal) where
  -- each entry that an accepted call may have is one of the history
  abbrev AcceptsAll : inputs.Input → Type 0
  AcceptsAll asked = IfOk result (λ out. (number : ℕ) → DeskAccepts db before (accepted number asked out) after)

  abbrev AreKept : Type 0
  AreKept = IfOk result (λ out. out.kept ≡ true)

  -- ---- what clients ask for, which changes nothing in the store
  module _ (stored : after.content ≡ before.content) where
    pub begin_accepts : (asked : calls.Call) → asked ≡ call.Begin → OnOk result (anyone_moves before.table ≡ false) → IfOk result (λ out. Begins db false before.table after.content after.table out.letters out.replies) → AreKept → AcceptsAll (input.Call asked)
    begin_accepts asked is still begins kept = subst (λ asked. AcceptsAll (input.Call asked)) (sym is)
        (if_both result (λ out begun kept number. record { fit = record { fits = begun.1.fits; within = begun.1.within }; does = record { still = begun.0; begins = begun.1 }; kept = λ silent. kept; content = λ called. stored })
        (on_with (anyone_moves before.table ≡ false) (λ (out : Out). Begins db false before.table after.content after.table out.letters out.replies) result still begins) kept)

    abbrev Requests : Txn → protocol.Request (language db) → protocol.Choice (language db) → Out → Type 0
    Requests txn request choice out = Steps db before.table after.content after.table txn (protocol.on_request (txn_name txn) choice request (txn_in db before.table txn)) out.letters out.replies

    requested : (asked : inputs.Input) (txn : Txn) (request : protocol.Request (language db)) → ((entry : Entry) → Asks db before txn request entry after → DeskDoes db asked before entry after) →
        OnOk result (protocol.refusal request (txn_in db before.table txn) ≡ None) → ((choice : protocol.Choice (language db)) → IfOk result (Requests txn request choice)) → AreKept → AcceptsAll asked
    requested asked txn request does unrefused steps kept =
        if_both result (λ out so kept number. record {
          fit = let step = so.1 (no_choice db) in record { fits = step.fits; within = step.within };
          does = does (accepted number asked out) (record { accepted = so.0; steps = so.1 });
          kept = λ silent. kept;
          content = λ called. stored;
        }) (on_with (protocol.refusal request (txn_in db before.table txn) ≡ None) (λ out. (choice : protocol.Choice (language db)) → Requests txn request choice out) result unrefused (if_all (Requests txn request) result steps)) kept

    pub commit_accepts : (asked : calls.Call) (txn : Txn) → asked ≡ call.Commit txn → OnOk result (protocol.refusal protocol.Commit_call (txn_in db before.table txn) ≡ None) → ((choice : protocol.Choice (language db)) → IfOk result (Requests txn protocol.Commit_call choice)) → AreKept → AcceptsAll (input.Call asked)
    commit_accepts asked txn is unrefused steps kept = subst (λ asked. AcceptsAll (input.Call asked)) (sym is) (requested (input.Call (call.Commit txn)) txn protocol.Commit_call (λ entry asks. asks) unrefused steps kept)

    pub rollback_accepts : (asked : calls.Call) (txn : Txn) → asked ≡ call.Rollback txn → OnOk result (protocol.refusal protocol.Rollback (txn_in db before.table txn) ≡ None) → ((choice : protocol.Choice (language db)) → IfOk result (Requests txn protocol.Rollback choice)) → AreKept → AcceptsAll (input.Call asked)
    rollback_accepts asked txn is unrefused steps kept = subst (λ asked. AcceptsAll (input.Call asked)) (sym is) (requested (input.Call (call.Rollback txn)) txn protocol.Rollback (λ entry asks. asks) unrefused steps kept)

    pub give_up_accepts : (asked : calls.Call) (txn : Txn) → asked ≡ call.GiveUp txn → ((choice : protocol.Choice (language db)) → IfOk result (Requests txn protocol.Give_up choice)) → AreKept → AcceptsAll (input.Call asked)
    give_up_accepts asked txn is steps kept = subst (λ asked. AcceptsAll (input.Call asked)) (sym is) (requested (input.Call (call.GiveUp txn)) txn protocol.Give_up (λ entry asks. asks) (on_any_ok result (give_up_accepted (txn_in db before.table txn))) steps kept)

    pub statement_accepts : (asked : calls.Call) (txn : Txn) (text : List ℕ) → asked ≡ call.State txn text → OnOk result (is_moving (before.table.standing txn) ≡ false) → ((statement : Statement) → OnOk result (protocol.refusal (protocol.State (before.table.version, statement)) (txn_in db before.table txn) ≡ None)) →
        IfOk result (λ out. States db before.table after.content after.table txn text out.letters out.replies) → AreKept → AcceptsAll (input.Call asked)
    statement_accepts asked txn text is still unrefused states kept = subst (λ asked. AcceptsAll (input.Call asked)) (sym is)
        (if_both result (λ out so kept number. record {
          fit = record { fits = so.1.1.runs.steps.fits; within = so.1.1.runs.steps.within };
          does = record { still = so.0; accepted = so.1.0; states = so.1.1 };
          kept = λ silent. kept;
          content = λ called. stored;
        }) (on_with (is_moving (before.table.standing txn) ≡ false) (λ (out : Out). ((statement : Statement) → protocol.refusal (protocol.State (before.table.version, statement)) (txn_in db before.table txn) ≡ None) × States db before.table after.content after.table txn text out.letters out.replies) result still
        (on_all_with (λ (statement : Statement). protocol.refusal (protocol.State (before.table.version, statement)) (txn_in db before.table txn) ≡ None) (λ (out : Out). States db before.table after.content after.table txn text out.letters out.replies) result unrefused states)) kept)

    pub refragment_accepts : (asked : calls.Call) (text : List ℕ) → asked ≡ call.Refragment text → IfOk result (λ out. RefragmentsBy db before.table after.content after.table text out.letters out.replies) → AreKept → AcceptsAll (input.Call asked)
    refragment_accepts asked text is refragments kept = subst (λ asked. AcceptsAll (input.Call asked)) (sym is)
        (if_both result (λ out moved kept number. record { fit = record { fits = moved.does.fits; within = moved.does.within }; does = moved; kept = λ silent. kept; content = λ called. stored }) refragments kept)

  -- ---- a restart
  pub restart_accepts : (asked : inputs.Input) → asked ≡ input.Restart → IfOk result (λ out. Restarts db before.table after.content after.table out.letters out.replies) → AreKept → AcceptsAll asked
  restart_accepts asked is restarts kept = subst AcceptsAll (sym is)
      (if_both result (λ out restarted kept number. record { fit = record { fits = restarted.fits; within = restarted.within }; does = restarted; kept = λ silent. kept; content = λ called. absurd cc }) restarts kept)

  -- ---- a letter
  module _ (letter : Letter) where
    abbrev TakesAs : Reply → Out → Type 0
    TakesAs reply out = Takes db before.table after.content after.table letter.txn (λ choice. protocol.on_desk_letter (txn_name letter.txn) letter.site out.kept choice (replied db letter.site reply) (txn_in db before.table letter.txn)) out.letters out.replies

    abbrev here : Bool
    here = list_any (λ site. pointwise nat_eq site letter.site) db.sites

    fit_after : (out : Out) → IsFit db before → (is_strange db.sites letter ≡ true → after ≡ before) → ((reply : Reply) → letter.body ≡ body.Reply reply → here ≡ true → TakesAs reply out) → (b : Bool) → is_strange db.sites letter ≡ b → IsFit db after
    fit_after out fit still takes true is = subst (IsFit db) (sym (still is)) fit
    fit_after out fit still takes false is =
        let said = said_is letter.body here is in
        let took = takes said.0.0 said.0.1 said.1 in
        record { fits = took.steps.fits; within = took.steps.within }

    pub take_accepts : (asked : inputs.Input) → asked ≡ input.Take letter → IsFit db before → (is_strange db.sites letter ≡ true → after ≡ before) → (is_strange db.sites letter ≡ true → IfOk result (λ out. (out.letters ≡ []) × (out.replies ≡ []) × (out.kept ≡ true))) →
        ((reply : Reply) → letter.body ≡ body.Reply reply → here ≡ true → IfOk result (TakesAs reply)) → AcceptsAll asked
    take_accepts asked is fit still silent takes = subst AcceptsAll (sym is) (go result silent takes)
      where
        go : (r : Result Out Refusal) → (is_strange db.sites letter ≡ true → IfOk r (λ out. (out.letters ≡ []) × (out.replies ≡ []) × (out.kept ≡ true))) → ((reply : Reply) → letter.body ≡ body.Reply reply → here ≡ true → IfOk r (TakesAs reply)) →
            IfOk r (λ out. (number : ℕ) → DeskAccepts db before (accepted number (input.Take letter) out) after)
        go (Ok out) silent takes = λ number. record {
          fit = fit_after out fit still takes (is_strange db.sites letter) refl;
          does = record { strange = λ is. (still is, ((silent is).0, (silent is).1)); takes = takes };
          kept = λ silent. absurd cc;
          content = λ called. absurd cc;
        }
        go (Err told) silent takes = tt

  -- ---- an answer as faults have it
  pub told_accepts : (asked : inputs.Input) (told : Result Out Fault) → told ≡ told_by_desk result → AcceptsAll asked → IfOk told (λ out. (number : ℕ) → DeskAccepts db before (accepted number asked out) after)
  told_accepts asked told is so = subst (λ r. IfOk r (λ out. (number : ℕ) → DeskAccepts db before (accepted number asked out) after)) (sym is) (go result so)
    where
      go : (r : Result Out Refusal) → IfOk r (λ out. (number : ℕ) → DeskAccepts db before (accepted number asked out) after) → IfOk (told_by_desk r) (λ out. (number : ℕ) → DeskAccepts db before (accepted number asked out) after)
      go (Ok out) so = so
      go (Err refusal) so = tt

-- ---- the entry
pub accepted_moves : (db : Database) (before after : DeskState) (entry : Entry) (asked : inputs.Input) (out : Out) → entry.input ≡ asked → entry.letters ≡ out.letters → entry.replies ≡ out.replies → entry.kept ≡ out.kept → entry.fault ≡ None →
    ((number : ℕ) → DeskAccepts db before (accepted number asked out) after) → DeskMoves db before entry after
accepted_moves db before after entry asked out input letters replies kept fault accepts =
    let same : accepted entry.number asked out ≡ entry = λ i. record { number = entry.number; input = sym input i; kept = sym kept i; letters = sym letters i; replies = sym replies i; fault = sym fault i } in
    subst (λ e. DeskMoves db before e after) same (accepts entry.number)
