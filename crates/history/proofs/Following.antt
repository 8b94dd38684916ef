-- The catalogues of a coordinator follow the number that its store keeps, and where none comes later nobody gives a relation another split.
use Rattle.std.proofs.Common.{◌≡◌, ◌≢◌, refl, sym, ap, ◌∙◌, subst, ℕ, suc, nat_eq, Bool, true, false, ◌==◌, ◌&&◌, if◌then◌else◌, List, [], ◌∷◌, ◌++◌, append_assoc, map, Option, None, Some, Result, Ok, Err, OnErr, OnOk, ⊎_elim}
use Rattle.std.proofs.lemmas.Bool.{eq-eqb, eqb-true}
use Rattle.std.specs.Cmp.Lexicographic.{pointwise}
use Rattle.std.specs.List.{list_any}
use Rattle.catalog.specs.declared.relation.SplitRelation.{SplitRelation}
use Rattle.catalog.specs.Catalogue.{Catalogue}
use Rattle.catalog.specs.Relation.{catalogue_of}
use Rattle.protocol.specs.Desk as protocol
use Rattle.protocol.specs.Desk.{is_moving}
use Rattle.protocol.specs.Language.{Name}
use Rattle.protocol.specs.Letters.{txn_name}
use Rattle.protocol.proofs.Basics.{by_test, clash, if_false, if_true, left_true, right_true}
use Rattle.store.specs.declared.letter.Letter.{Letter}
use Rattle.store.specs.declared.reply.Reply.{Reply}
use Rattle.desk.specs.declared.desk.Desk.{Desk}
use Rattle.desk.specs.declared.refusal.Refusal.{Refusal}
use Rattle.desk.specs.declared.reply.Out.{Out}
use Rattle.desk.specs.Database.{Database, language, replied}
use Rattle.desk.specs.Does.{Takes}
use Rattle.desk.specs.OfCatalogue.{IsNextOf, first_in, follow}
use Rattle.desk.specs.Receive.{is_strange}
use Rattle.desk.specs.Request.{txn_in}
use Rattle.desk.specs.State.{VolatileState, desk_of, volatile_of}
use Rattle.desk.proofs.Raised.{TurnKeeps, letter_keeps, request_keeps}
use Rattle.world.specs.declared.event.Call as calls
use Rattle.world.specs.declared.event.Call.TheVariants as call
use Rattle.world.specs.declared.fault.Fault.{Fault}
use Rattle.world.specs.EventApplied.{told_by_desk}
use Rattle.world.proofs.InForce.{nobody_after, nobody_begins, nobody_restarts}
use Rattle.world.proofs.Listing.{nobody_left}
use Rattle.world.proofs.Reasoned.{no_choice}
use Rattle.history.specs.declared.entry.Entry.{Entry}
use Rattle.history.specs.declared.entry.Input as inputs
use Rattle.history.specs.declared.entry.Input.TheVariants as input
use Rattle.history.specs.Catalogues.{HasFrom, catalogs_after}
use Rattle.history.specs.DeskHistory.{DeskAccepts, DeskAnswers, DeskDoes, DeskState, IsFit, TakesReply, is_call}
use Rattle.history.proofs.DeskMachine.{said_is}

abbrev pub Catalogs : Type 0
Catalogs = (List (List ℕ) × List SplitRelation) × List (List (List ℕ) × List SplitRelation)

-- the one in force, and those that come after it
abbrev pub all_of : Catalogs → List Catalogue
all_of catalogs = catalogue_of catalogs.0 ∷ map catalogue_of catalogs.1

-- where a database has those that come next, it has the next one
pub has_next : (db : Database) (n : ℕ) (later : List (List (List ℕ) × List SplitRelation)) → HasFrom db (suc n) (map catalogue_of later) → IsNextOf db n (first_in later)
has_next db n [] has = tt
has_next db n (next ∷ rest) has = has.0

-- nobody gives a relation another split
abbrev pub Nobody : Database → VolatileState → Type 0
Nobody db table = (t : Name) → is_moving ((desk_of db table).txn t) ≡ false

-- catalogues have the number in memory and those after it, and where none comes later nobody moves
pub record Follows (db : Database) (table : VolatileState) (catalogs : Catalogs) : Type 0 where
  pub has : HasFrom db table.version (all_of catalogs)
  pub still : catalogs.1 ≡ [] → Nobody db table

module _ (db : Database) (before after : DeskState) (entry : Entry) (fit : IsFit db before) where
  abbrev desk : protocol.Desk (language db)
  desk = desk_of db before.table

  -- a turn of a transaction
  calm_turn : (t : Name) (turn : protocol.Transition (language db)) → desk_of db after.table ≡ protocol.desk_after desk t turn.txn → TurnKeeps (language db) t (desk.txn t) turn → Nobody db before.table → Nobody db after.table
  calm_turn t turn is keeps none x = ap (λ (d : protocol.Desk (language db)). is_moving (d.txn x)) is ∙ nobody_after db desk t turn none keeps x

  -- what a letter does
  abbrev Turns : Letter → Reply → protocol.Choice (language db) → protocol.Transition (language db)
  Turns letter reply choice = protocol.on_desk_letter (txn_name letter.txn) letter.site entry.kept choice (replied db letter.site reply) (txn_in db before.table letter.txn)

  abbrev Took : Letter → Reply → Type 0
  Took letter reply = Takes db before.table after.content after.table letter.txn (Turns letter reply) entry.letters entry.replies

  calm_letter : (letter : Letter) → TakesReply db before letter entry after → (strange : Bool) → is_strange db.sites letter ≡ strange → Nobody db before.table → Nobody db after.table
  calm_letter letter did true is none = subst (λ (state : DeskState). Nobody db state.table) (sym (did.strange is).0) none
  calm_letter letter did false is none =
      let said = said_is letter.body (list_any (λ site. pointwise nat_eq site letter.site) db.sites) is in
      let took = did.takes said.0.0 said.0.1 said.1 in
      calm_turn (txn_name letter.txn) (Turns letter said.0.0 took.choice) took.steps.state (letter_keeps (txn_name letter.txn) took.choice letter.site entry.kept (replied db letter.site said.0.0) (txn_in db before.table letter.txn)) none

  -- nobody comes to move but by a REFRAGMENT
  calm : (asked : inputs.Input) → DeskDoes db asked before entry after → ((text : List ℕ) → asked ≢ input.Call (call.Refragment text)) → Nobody db before.table → Nobody db after.table
  calm (input.Call call.Begin) did other none = λ x. ap (λ (d : protocol.Desk (language db)). is_moving (d.txn x)) did.begins.state ∙ nobody_begins db desk none x
  calm (input.Call (call.State txn text)) did other none =
      let runs = did.states.runs in
      let request : protocol.Request (language db) = protocol.State (before.table.version, did.states.statement) in
      calm_turn (txn_name txn) (protocol.on_request (txn_name txn) runs.choice request (txn_in db before.table txn)) runs.steps.state (request_keeps (txn_name txn) runs.choice request (txn_in db before.table txn)) none
  calm (input.Call (call.Commit txn)) did other none = calm_turn (txn_name txn) (protocol.on_request (txn_name txn) (no_choice db) protocol.Commit_call (txn_in db before.table txn)) (did.steps (no_choice db)).state (request_keeps (txn_name txn) (no_choice db) protocol.Commit_call (txn_in db before.table txn)) none
  calm (input.Call (call.Rollback txn)) did other none = calm_turn (txn_name txn) (protocol.on_request (txn_name txn) (no_choice db) protocol.Rollback (txn_in db before.table txn)) (did.steps (no_choice db)).state (request_keeps (txn_name txn) (no_choice db) protocol.Rollback (txn_in db before.table txn)) none
  calm (input.Call (call.GiveUp txn)) did other none = calm_turn (txn_name txn) (protocol.on_request (txn_name txn) (no_choice db) protocol.Give_up (txn_in db before.table txn)) (did.steps (no_choice db)).state (request_keeps (txn_name txn) (no_choice db) protocol.Give_up (txn_in db before.table txn)) none
  calm (input.Call (call.Refragment text)) did other none = absurd (other text refl)
  calm (input.Take letter) did other none = calm_letter letter did (is_strange db.sites letter) refl none
  calm (input.GiveUp ticket) did other none = absurd did
  calm input.Inquire did other none = absurd did
  calm input.Restart did other none = λ x. ap (λ (d : protocol.Desk (language db)). is_moving (d.txn x)) did.state ∙ nobody_restarts db desk x

  -- a letter that brings another number brings the next one: who moved has ended, and was alone
  record Raised (letter : Letter) : Type 0 where
    up : after.table.version ≡ suc before.table.version
    moved : is_moving (desk.txn (txn_name letter.txn)) ≡ true
    nobody : Nobody db after.table

  module _ (letter : Letter) (reply : Reply) (took : Took letter reply) where
    abbrev t : Name
    t = txn_name letter.txn

    abbrev turn : protocol.Transition (language db)
    turn = Turns letter reply took.choice

    abbrev keeps : TurnKeeps (language db) t (desk.txn t) turn
    keeps = letter_keeps t took.choice letter.site entry.kept (replied db letter.site reply) (txn_in db before.table letter.txn)

    abbrev decides : Bool
    decides = is_moving (desk.txn t) && protocol.is_committed turn.deeds t

    raises : decides ≡ true → Raised letter
    raises is =
        let moved : is_moving (desk.txn t) ≡ true = left_true (is_moving (desk.txn t)) (protocol.is_committed turn.deeds t) is in
        let ended = keeps.ends (right_true (is_moving (desk.txn t)) (protocol.is_committed turn.deeds t) is) in
        record {
          up = took.steps.version ∙ if_true decides (suc before.table.version) before.table.version is;
          moved = moved;
          nobody = λ x. ap (λ (d : protocol.Desk (language db)). is_moving (d.txn x)) took.steps.state ∙ nobody_left db before.content before.table fit.fits t turn moved ended x;
        }

    raised_by : after.table.version ≢ before.table.version → Raised letter
    raised_by other = ⊎_elim raises (λ none. absurd (other (took.steps.version ∙ if_false decides (suc before.table.version) before.table.version none))) (by_test decides)

  raised : (letter : Letter) → TakesReply db before letter entry after → after.table.version ≢ before.table.version → (strange : Bool) → is_strange db.sites letter ≡ strange → Raised letter
  raised letter did other true is = absurd (other (ap (λ (state : DeskState). state.table.version) (did.strange is).0))
  raised letter did other false is =
      let said = said_is letter.body (list_any (λ site. pointwise nat_eq site letter.site) db.sites) is in
      raised_by letter said.0.0 (did.takes said.0.0 said.0.1 said.1) other

  -- ---- a call
  module _ {D : Type 0} (old : Desk D) (new : Catalogs) (number : before.table.version ≡ old.volatile.version) (here : Follows db before.table (old.catalog, old.later.items)) where
    -- it leaves the number, and the catalogues
    stays : after.table.version ≡ before.table.version → new ≡ (old.catalog, old.later.items) → (old.later.items ≡ [] → Nobody db before.table → Nobody db after.table) → Follows db after.table new
    stays same is none = record {
      has = subst (λ n. HasFrom db n (all_of new)) (sym same) (subst (λ catalogs. HasFrom db before.table.version (all_of catalogs)) (sym is) here.has);
      still = λ last. let was = sym (ap (λ (catalogs : Catalogs). catalogs.1) is) ∙ last in none was (here.still was);
    }

    -- it brings the next number, and the next catalogue
    rises : (letter : Letter) → Raised letter → new ≡ follow old.catalog old.later.items → (later : List (List (List ℕ) × List SplitRelation)) → old.later.items ≡ later → Follows db after.table new
    rises letter up is [] last = clash up.moved (here.still last (txn_name letter.txn))
    rises letter up is (next ∷ rest) more =
        let now : new ≡ (next, rest) = is ∙ ap (follow old.catalog) more in
        let had = subst (λ later. HasFrom db (suc before.table.version) (map catalogue_of later)) more here.has.1 in
        record {
          has = subst (λ n. HasFrom db n (all_of new)) (sym up.up) (subst (λ catalogs. HasFrom db (suc before.table.version) (all_of catalogs)) (sym now) had);
          still = λ last. up.nobody;
        }

    taken : (letter : Letter) → TakesReply db before letter entry after → (same : Bool) → (after.table.version == old.volatile.version) ≡ same → new ≡ (if after.table.version == old.volatile.version then (old.catalog, old.later.items) else follow old.catalog old.later.items) → Follows db after.table new
    taken letter did true e goes = stays (eqb-true after.table.version old.volatile.version e ∙ sym number) (goes ∙ if_true (after.table.version == old.volatile.version) (old.catalog, old.later.items) (follow old.catalog old.later.items) e) (λ last. calm_letter letter did (is_strange db.sites letter) refl)
    taken letter did false e goes =
        let other : after.table.version ≢ before.table.version = λ same. clash (eq-eqb after.table.version old.volatile.version (same ∙ number)) e in
        rises letter (raised letter did other (is_strange db.sites letter) refl) (goes ∙ if_false (after.table.version == old.volatile.version) (old.catalog, old.later.items) (follow old.catalog old.later.items) e) old.later.items refl

    -- an accepted one
    accepted_goes : (asked : inputs.Input) → entry.input ≡ asked → ((text : List ℕ) → entry.input ≡ input.Call (call.Refragment text) → old.later.items ≢ []) → DeskAccepts db before entry after → DeskDoes db asked before entry after → new ≡ catalogs_after asked old after.table.version → Follows db after.table new
    accepted_goes (input.Call asked) is next accepts did goes =
        let same : after.table.version ≡ before.table.version = accepts.fit.fits.version ∙ ap (λ content. content.version) (accepts.content (ap (is_call db) is)) ∙ sym fit.fits.version in
        stays same goes (λ last. calm (input.Call asked) did (λ text e. next text (is ∙ e) last))
    accepted_goes (input.Take letter) is next accepts did goes = taken letter did (after.table.version == old.volatile.version) refl goes
    accepted_goes (input.GiveUp ticket) is next accepts did goes = absurd did
    accepted_goes input.Inquire is next accepts did goes = absurd did
    accepted_goes input.Restart is next accepts did goes = stays did.version goes (λ last. calm input.Restart did (λ text e. cc))

    -- where nothing has changed no other number came
    refused_same : after ≡ before → (asked : inputs.Input) → new ≡ catalogs_after asked old after.table.version → new ≡ (old.catalog, old.later.items)
    refused_same is (input.Call asked) goes = goes
    refused_same is (input.Take letter) goes = goes ∙ if_true (after.table.version == old.volatile.version) (old.catalog, old.later.items) (follow old.catalog old.later.items) (eq-eqb after.table.version old.volatile.version (ap (λ (state : DeskState). state.table.version) is ∙ number))
    refused_same is (input.GiveUp ticket) goes = goes
    refused_same is input.Inquire goes = goes
    refused_same is input.Restart goes = goes

    -- each
    pub follows_on : (fault : Option Fault) → DeskAnswers db fault before entry after → ((text : List ℕ) → entry.input ≡ input.Call (call.Refragment text) → fault ≡ None → old.later.items ≢ []) → new ≡ catalogs_after entry.input old after.table.version → Follows db after.table new
    follows_on None accepts next goes = accepted_goes entry.input refl (λ text is. next text is refl) accepts accepts.does goes
    follows_on (Some told) refuses next goes = stays (ap (λ (state : DeskState). state.table.version) refuses.same) (refused_same refuses.same entry.input goes) (λ last none. subst (λ (state : DeskState). Nobody db state.table) (sym refuses.same) none)

-- ---- what is left of the catalogues
abbrev pub Left : List Catalogue → Catalogs → Type 0
Left catalogues catalogs = (passed : List Catalogue) × (catalogues ≡ passed ++ all_of catalogs)

follow_left : (catalogues passed : List Catalogue) (catalog : List (List ℕ) × List SplitRelation) (later : List (List (List ℕ) × List SplitRelation)) → catalogues ≡ passed ++ all_of (catalog, later) → Left catalogues (follow catalog later)
follow_left catalogues passed catalog [] are = (passed, are)
follow_left catalogues passed catalog (next ∷ rest) are = (passed ++ catalogue_of catalog ∷ [], are ∙ sym (append_assoc passed (catalogue_of catalog ∷ []) (all_of (next, rest))))

pub left_after : {D : Type 0} (catalogues passed : List Catalogue) (asked : inputs.Input) (old : Desk D) (now : ℕ) → catalogues ≡ passed ++ all_of (old.catalog, old.later.items) → Left catalogues (catalogs_after asked old now)
left_after catalogues passed (input.Call asked) old now are = (passed, are)
left_after catalogues passed (input.Take letter) old now are = go (now == old.volatile.version)
  where
    go : (b : Bool) → Left catalogues (if b then (old.catalog, old.later.items) else follow old.catalog old.later.items)
    go true = (passed, are)
    go false = follow_left catalogues passed old.catalog old.later.items are
left_after catalogues passed (input.GiveUp ticket) old now are = (passed, are)
left_after catalogues passed input.Inquire old now are = (passed, are)
left_after catalogues passed input.Restart old now are = (passed, are)

-- ---- what a call of the coordinator leaves, as its code has it
-- where what is in memory is the same, so are the catalogues
pub same_catalogs : {D : Type 0} (old new : Desk D) → (new.catalog, new.later.items) ≡ (if new.volatile.version == old.volatile.version then (old.catalog, old.later.items) else follow old.catalog old.later.items) → volatile_of new.volatile ≡ volatile_of old.volatile →
    (new.catalog ≡ old.catalog) × (new.later.items ≡ old.later.items)
same_catalogs old new goes same =
    let pair : (new.catalog, new.later.items) ≡ (old.catalog, old.later.items) = goes ∙ if_true (new.volatile.version == old.volatile.version) (old.catalog, old.later.items) (follow old.catalog old.later.items) (eq-eqb new.volatile.version old.volatile.version (ap (λ (table : VolatileState). table.version) same)) in
    (ap (λ (catalogs : Catalogs). catalogs.0) pair, ap (λ (catalogs : Catalogs). catalogs.1) pair)

pub told_err : (P : Type 0) (told : Result Out Fault) (result : Result Out Refusal) → told ≡ told_by_desk result → OnErr result P → OnErr told P
told_err P told result is so = subst (λ (r : Result Out Fault). OnErr r P) (sym is) (go result so)
  where
    go : (r : Result Out Refusal) → OnErr r P → OnErr (told_by_desk r) P
    go (Ok out) so = so
    go (Err refusal) so = so

pub told_ok : (P : Type 0) (told : Result Out Fault) (result : Result Out Refusal) → told ≡ told_by_desk result → OnOk result P → OnOk told P
told_ok P told result is so = subst (λ (r : Result Out Fault). OnOk r P) (sym is) (go result so)
  where
    go : (r : Result Out Refusal) → OnOk r P → OnOk (told_by_desk r) P
    go (Ok out) so = so
    go (Err refusal) so = so

pub any_err : {T E P : Type 0} (result : Result T E) → P → OnErr result P
any_err (Ok x) so = tt
any_err (Err e) so = so

pub call_is : {one other : calls.Call} → input.Call one ≡ input.Call other → one ≡ other
call_is e = cc

pub errs : {T E P Q : Type 0} (result : Result T E) → (P → Q) → OnErr result P → OnErr result Q
errs (Ok x) to so = tt
errs (Err e) to so = to so
