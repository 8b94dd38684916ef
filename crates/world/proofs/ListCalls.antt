-- Calls of one client over a list of catalogues: what was asked for and heard tells what has happened.
use Rattle.std.proofs.Common.{◌≡◌, ◌≢◌, refl, sym, ap, ◌∙◌, subst, ℕ, Bool, false, true, List, [], ◌∷◌, ◌++◌, append_assoc, map, if◌then◌else◌, inl, inr, ◌⊎◌, Result, Ok, Err, IfErr, IfOk, OnErr}
use Rattle.std.proofs.lemmas.List.{append-nil}
use Rattle.std.proofs.lemmas.List.Elements.{filter_map-append}
use Rattle.std.proofs.lemmas.Grind.{flat_map-append}
use Rattle.std.specs.List.{AllByRecursion, filter_map}
use Rattle.std.specs.Prelude.{⊤}
use Rattle.meaning.specs.Whole.{Relations}
use Rattle.meaning.specs.declared.statement.Statement.TheVariants as kinds
use Rattle.store.specs.declared.letter.Letter as letters
use Rattle.store.specs.declared.name.Txn.{Txn}
use Rattle.store.specs.DeskContent.{DeskContent}
use Rattle.store.specs.SiteContent.{SiteContent}
use Rattle.protocol.specs.Accepted.{stated_by, stated_of}
use Rattle.protocol.specs.Desk.{Began, Choice, Commit_call, Deed, Known, Rollback, fresh_as, next_txn}
use Rattle.protocol.specs.Language.{Name}
use Rattle.protocol.specs.Letters.{txn_name}
use Rattle.protocol.specs.NothingCommits.{is_of_commit}
use Rattle.protocol.specs.Serial.{committed, phased_of, phases_of}
use Rattle.protocol.specs.World.{World, begun, first_turn}
use Rattle.protocol.proofs.Basics.{clash, every_append}
use Rattle.protocol.proofs.NothingCommits.{committed_still}
use Rattle.desk.specs.declared.refusal.Refusal.{Refusal}
use Rattle.desk.specs.declared.refusal.Refusal.TheVariants as refusal
use Rattle.desk.specs.declared.reply.Notice.{Notice}
use Rattle.desk.specs.declared.reply.Out.{Out}
use Rattle.desk.specs.declared.reply.Reply.{Reply}
use Rattle.desk.specs.declared.reply.Reply.TheVariants.{Begun}
use Rattle.desk.specs.Database.{Database, language}
use Rattle.desk.specs.Request.{txn_in}
use Rattle.desk.specs.State.{desk_of, notice_of, volatile_of}
use Rattle.desk.specs.Transition.{told}
use Rattle.world.specs.declared.event.Call as calls
use Rattle.world.specs.declared.event.Call.TheVariants as call
use Rattle.world.specs.declared.event.Entry.{Entry}
use Rattle.world.specs.declared.event.Event.TheVariants as event
use Rattle.world.specs.declared.machines.Machines as code
use Rattle.world.specs.Contents.{OfStores, counted, held}
use Rattle.world.specs.Commands.{heard_in}
use Rattle.world.specs.Course.{Begins, Commits, CommitsNone, IsOne, Move, Refragments, Refuses, Rolls_back, States, said, said_in, said_of}
use Rattle.world.specs.Frame.{ListMakes, OverLists}
use Rattle.world.specs.Listed.{FitsList, IsListed, ListAsked, ListBegun, ListMoved, ListStated, StandsIn}
use Rattle.world.specs.ListServed.{HasItsReason, IsListServed, IsListServedOn, ListHeardIsSerial, ListMade, RefusedOnTheWay}
use Rattle.world.specs.Machines.{Machines, world_of}
use Rattle.world.specs.Refused.{IsRefused}
use Rattle.world.specs.Replies.{AreStated, Shows, Tells, phased_by, text_by}
use Rattle.world.specs.Stopping.{is_stop}
use Rattle.world.proofs.Counting.{with_counts}
use Rattle.world.proofs.Heard.{serial_run}
use Rattle.world.proofs.Listing.{stands_as}
use Rattle.world.proofs.Running.{all_both}
use Rattle.world.proofs.ListDelivering.{list_served_serial, on_then}
use Rattle.world.proofs.ListVain.{IsVain, VainlyGoes, begun_vain, moved_vain, rolled_back_vain, stated_vain}
use Rattle.world.proofs.Shown.{commit_shows, rollback_silent, state_shows}
use Rattle.world.proofs.Told.{tells_more}

-- ---- what is told
module _ (db : Database) where
  pub tells_no_more : (entries : List Entry) (past : List (Deed (language db))) → Tells db entries past → Tells db (entries ++ []) (past ++ [])
  tells_no_more entries past so = subst (λ es. Tells db es (past ++ [])) (sym (append-nil entries)) (subst (Tells db entries) (sym (append-nil past)) so)

pub said_both : (one more : List Move) → said_in (one ++ more) ≡ said_in one ++ said_in more
said_both [] more = refl
said_both (move ∷ one) more = ap (λ rest. said_of move ++ rest) (said_both one more) ∙ sym (append_assoc (said_of move) (said_in one) (said_in more))

-- the serial law, by what was asked for and heard
pub list_heard_serial : (db : Database) → IsListed db → ListHeardIsSerial db
list_heard_serial db listed whole machines entries past so served =
    let serial = list_served_serial db listed whole machines past served in
    serial_run db whole machines entries past so (record { answers = serial.answers; rebuilt = serial.rebuilt })

-- two lists of moves
none_both : (one more : List Move) → CommitsNone (one ++ more) → CommitsNone one × CommitsNone more
none_both [] more none = (tt, none)
none_both (Begins txn heard ∷ one) more none = none_both one more none
none_both (States txn text heard ∷ one) more none = none_both one more none
none_both (Commits txn heard ∷ one) more none = absurd none
none_both (Rolls_back txn heard ∷ one) more none = none_both one more none
none_both (Refragments text came ∷ one) more none = none_both one more none
none_both (Refuses asked told ∷ one) more none = none_both one more none

-- what holds of each item, from something else of each
all_to : {A : Type 0} {P Q : A → Type 0} (xs : List A) → ((x : A) → P x → Q x) → AllByRecursion P xs → AllByRecursion Q xs
all_to [] to all = tt
all_to (x ∷ xs) to all = (to x all.0, all_to xs to all.1)

-- machines refuse a call: memory ran out or a store failed, or for a reason of the coordinator's
abbrev pub MayRefuse : Database → Machines → calls.Call → Refusal → Type 0
MayRefuse db machines asked told = (is_stop told ≡ true) ⊎ IsRefused db machines.later machines.table asked told

-- which moves are made by a call with this answer
abbrev Kinds : Type 0 → Type 1
Kinds T = Result T Refusal → List Move → Type 0

module _ (db : Database) (whole : Relations) where
  -- ---- why calls are refused
  refused_front : (past one two : List (Deed (language db))) (asked : calls.Call) (told : Refusal) → (is_stop told ≡ true) ⊎ RefusedOnTheWay db whole past one asked told → (is_stop told ≡ true) ⊎ RefusedOnTheWay db whole past (one ++ two) asked told
  refused_front past one two asked told (inl stops) = inl stops
  refused_front past one two asked told (inr so) = inr (record { machines = so.machines; done = so.done; left = so.left ++ two; split = ap (λ ds. ds ++ two) so.split ∙ append_assoc so.done so.left two; served = so.served; reason = so.reason })

  refused_back : (past one two : List (Deed (language db))) (asked : calls.Call) (told : Refusal) → (is_stop told ≡ true) ⊎ RefusedOnTheWay db whole (past ++ one) two asked told → (is_stop told ≡ true) ⊎ RefusedOnTheWay db whole past (one ++ two) asked told
  refused_back past one two asked told (inl stops) = inl stops
  refused_back past one two asked told (inr so) = inr (record {
    machines = so.machines;
    done = one ++ so.done;
    left = so.left;
    split = ap (λ ds. one ++ ds) so.split ∙ sym (append_assoc one so.done so.left);
    served = subst (IsListServed db whole so.machines) (append_assoc past one so.done) so.served;
    reason = so.reason;
  })

  -- also where more was done later, and before
  reason_front : (past one two : List (Deed (language db))) (move : Move) → HasItsReason db whole past one move → HasItsReason db whole past (one ++ two) move
  reason_front past one two (Begins txn heard) so = tt
  reason_front past one two (States txn text heard) so = tt
  reason_front past one two (Commits txn heard) so = tt
  reason_front past one two (Rolls_back txn heard) so = tt
  reason_front past one two (Refragments text (Ok heard)) so = tt
  reason_front past one two (Refragments text (Err told)) so = refused_front past one two (call.Refragment text) told so
  reason_front past one two (Refuses asked told) so = refused_front past one two asked told so

  reason_back : (past one two : List (Deed (language db))) (move : Move) → HasItsReason db whole (past ++ one) two move → HasItsReason db whole past (one ++ two) move
  reason_back past one two (Begins txn heard) so = tt
  reason_back past one two (States txn text heard) so = tt
  reason_back past one two (Commits txn heard) so = tt
  reason_back past one two (Rolls_back txn heard) so = tt
  reason_back past one two (Refragments text (Ok heard)) so = tt
  reason_back past one two (Refragments text (Err told)) so = refused_back past one two (call.Refragment text) told so
  reason_back past one two (Refuses asked told) so = refused_back past one two asked told so

  -- of what is said nothing was refused
  was_spoken : (past deeds : List (Deed (language db))) (move : Move) (entry : Entry) → said_of move ≡ entry ∷ [] → HasItsReason db whole past deeds move
  was_spoken past deeds (Begins txn heard) entry is = tt
  was_spoken past deeds (States txn text heard) entry is = tt
  was_spoken past deeds (Commits txn heard) entry is = tt
  was_spoken past deeds (Rolls_back txn heard) entry is = tt
  was_spoken past deeds (Refragments text (Ok heard)) entry is = tt
  was_spoken past deeds (Refragments text (Err told)) entry is = absurd (cc)
  was_spoken past deeds (Refuses asked told) entry is = absurd (cc)

  -- the machines refuse it as they stand
  refused_here : (machines : Machines) (past : List (Deed (language db))) (asked : calls.Call) (told : Refusal) → MayRefuse db machines asked told → IsListServed db whole machines past → (is_stop told ≡ true) ⊎ RefusedOnTheWay db whole past [] asked told
  refused_here machines past asked told (inl stops) served = inl stops
  refused_here machines past asked told (inr reason) served = inr (record { machines = machines; done = []; left = []; split = refl; served = subst (IsListServed db whole machines) (sym (append-nil past)) served; reason = reason })

  -- ---- moves that are made
  pub made_on : (machines : Machines) (past : List (Deed (language db))) (kind : List Move → Type 0) → ListMade db whole machines past kind → IsListServedOn db whole machines past
  made_on machines past kind made = record { deeds = made.deeds; served = made.served }

  pub makes_on : {T : Type 0} (machines : Machines) (past : List (Deed (language db))) (result : Result T Refusal) (kind : Kinds T) → ListMakes db whole machines past result kind → IsListServedOn db whole machines past
  makes_on machines past (Ok x) kind made = made_on machines past (kind (Ok x)) made
  makes_on machines past (Err why) kind (inl stops) = stops.1
  makes_on machines past (Err why) kind (inr made) = made_on machines past (kind (Err why)) made

  -- they are of another kind too
  pub made_as : (machines : Machines) (past : List (Deed (language db))) (K M : List Move → Type 0) → ((moves : List Move) → K moves → M moves) → ListMade db whole machines past K → ListMade db whole machines past M
  made_as machines past K M so made = record { moves = made.moves; deeds = made.deeds; served = made.served; tells = made.tells; reasons = made.reasons; uncommitted = made.uncommitted; is = so made.moves made.is }

  pub makes_as : {T : Type 0} (machines : Machines) (past : List (Deed (language db))) (result : Result T Refusal) (K M : Kinds T) → ((moves : List Move) → K result moves → M result moves) → ListMakes db whole machines past result K → ListMakes db whole machines past result M
  makes_as machines past (Ok x) K M so made = made_as machines past (K (Ok x)) (M (Ok x)) so made
  makes_as machines past (Err why) K M so (inl stops) = inl stops
  makes_as machines past (Err why) K M so (inr made) = inr (made_as machines past (K (Err why)) (M (Err why)) so made)

  -- so of a call that doesn't stop the database
  pub makes_unless : {T : Type 0} (machines : Machines) (past : List (Deed (language db))) (result : Result T Refusal) (kind : Kinds T) → ListMakes db whole machines past result kind → IfErr result (λ told. is_stop told ≡ false) → ListMade db whole machines past (kind result)
  makes_unless machines past (Ok x) kind made goes = made
  makes_unless machines past (Err why) kind (inl stops) goes = clash stops.0 goes
  makes_unless machines past (Err why) kind (inr made) goes = made

  -- none is made
  pub none_made : (machines : Machines) (past : List (Deed (language db))) (kind : List Move → Type 0) → kind [] → IsListServed db whole machines past → ListMade db whole machines past kind
  none_made machines past kind is served = record { moves = []; deeds = []; served = subst (IsListServed db whole machines) (sym (append-nil past)) served; tells = λ entries so. tells_no_more db entries past so; reasons = tt; uncommitted = λ none. ap committed (append-nil past); is = is }

  -- some, and then others
  pub made_then : (middle after : Machines) (past : List (Deed (language db))) (K L M : List Move → Type 0) → ((one more : List Move) → K one → L more → M (one ++ more)) → (one : ListMade db whole middle past K) → ListMade db whole after (past ++ one.deeds) L → ListMade db whole after past M
  made_then middle after past K L M join one two = record {
    moves = one.moves ++ two.moves;
    deeds = one.deeds ++ two.deeds;
    served = subst (IsListServed db whole after) (append_assoc past one.deeds two.deeds) two.served;
    tells = λ entries so.
        subst (λ es. Tells db es (past ++ (one.deeds ++ two.deeds))) (append_assoc entries (said_in one.moves) (said_in two.moves) ∙ ap (λ more. entries ++ more) (sym (said_both one.moves two.moves)))
        (subst (Tells db ((entries ++ said_in one.moves) ++ said_in two.moves)) (append_assoc past one.deeds two.deeds) (two.tells (entries ++ said_in one.moves) (one.tells entries so)));
    reasons = all_both (HasItsReason db whole past (one.deeds ++ two.deeds)) one.moves two.moves (all_to one.moves (reason_front past one.deeds two.deeds) one.reasons) (all_to two.moves (reason_back past one.deeds two.deeds) two.reasons);
    uncommitted = λ none.
        let parts = none_both one.moves two.moves none in
        ap committed (sym (append_assoc past one.deeds two.deeds)) ∙ two.uncommitted parts.1 ∙ one.uncommitted parts.0;
    is = join one.moves two.moves one.is two.is;
  }

  pub makes_then : {U : Type 0} (middle after : Machines) (past : List (Deed (language db))) (result : Result U Refusal) (K : List Move → Type 0) (L M : Kinds U) → ((one more : List Move) → K one → L result more → M result (one ++ more)) → (one : ListMade db whole middle past K) →
      ListMakes db whole after (past ++ one.deeds) result L → ListMakes db whole after past result M
  makes_then middle after past (Ok y) K L M join one two = made_then middle after past K (L (Ok y)) (M (Ok y)) join one two
  makes_then middle after past (Err why) K L M join one (inl stops) = inl (stops.0, on_then db whole after past one.deeds stops.1)
  makes_then middle after past (Err why) K L M join one (inr two) = inr (made_then middle after past K (L (Err why)) (M (Err why)) join one two)

  -- ---- a call, and then its letters
  -- what a client heard by it begins with what it heard of its first deeds
  abbrev pub Opens : List (Deed (language db)) → List Notice → Type 0
  Opens first heard = (rest : List (Name × Reply)) × (map notice_of heard ≡ filter_map (told db) first ++ rest)

  call_made : (what : calls.Call) (move : Move) (after : Machines) (out : Out) (past first : List (Deed (language db))) (heard : List Notice) → said_of move ≡ said what heard ∷ [] → map notice_of out.replies ≡ filter_map (told db) first → map txn_name (phased_by (event.Call what)) ≡ phases_of first →
      (Opens first heard → AreStated db (text_by (event.Call what) heard) (stated_of first)) → (CommitsNone (move ∷ []) → IsVain db first out.letters) → VainlyGoes db whole after out.letters (past ++ first) out.replies heard → ListMade db whole after past (λ moves. (moves ≡ move ∷ []) × Opens first heard)
  call_made what move after out past first heard is answers phased stated vain all =
      let goes = all.0 in
      let deeds = first ++ goes.deeds in
      let hears : map notice_of heard ≡ filter_map (told db) first ++ filter_map (told db) goes.deeds = goes.replies ∙ ap (λ front. front ++ filter_map (told db) goes.deeds) answers in
      let opens : Opens first heard = (filter_map (told db) goes.deeds, hears) in
      let shows : Shows db (event.Call what) heard deeds = record {
        phased = phased ∙ sym (append-nil (phases_of first)) ∙ ap (λ rest. phases_of first ++ rest) (sym goes.unphased) ∙ sym (flat_map-append phased_of first goes.deeds);
        stated = subst (AreStated db (text_by (event.Call what) heard)) (sym (flat_map-append stated_by first goes.deeds ∙ ap (λ rest. stated_of first ++ rest) goes.unstated ∙ append-nil (stated_of first))) (stated opens);
      } in
      record {
        moves = move ∷ [];
        deeds = deeds;
        served = subst (IsListServed db whole after) (append_assoc past first goes.deeds) goes.served;
        tells = λ entries so. subst (λ es. Tells db (entries ++ (es ++ [])) (past ++ deeds)) (sym is) (tells_more db entries (said what heard) past deeds so shows (hears ∙ sym (filter_map-append (told db) first goes.deeds)));
        reasons = (was_spoken past deeds move (said what heard) is, tt);
        uncommitted = λ none. (let so = vain none in committed_still past deeds (every_append (λ d. is_of_commit d ≡ false) first goes.deeds so.0 (all.1 so.1)));
        is = (refl, opens);
      }

  -- so by what the letters of the call came to
  call_comes : {T R : Type 0} (what : calls.Call) (move : T → Move) (items : T → List Notice) (after : Machines) (out : Out) (past first : List (Deed (language db))) (result : Result T Refusal) (kind : Kinds T) → ((x : T) → said_of (move x) ≡ said what (items x) ∷ []) →
      map notice_of out.replies ≡ filter_map (told db) first → map txn_name (phased_by (event.Call what)) ≡ phases_of first → ((heard : List Notice) → Opens first heard → AreStated db (text_by (event.Call what) heard) (stated_of first)) → ((x : T) → Opens first (items x) → kind (Ok x) (move x ∷ [])) → ((x : T) → CommitsNone (move x ∷ []) → IsVain db first out.letters) → IfErr result (λ why. is_stop why ≡ true) →
      IfOk result (λ x. VainlyGoes db whole after out.letters (past ++ first) out.replies (items x)) × OnErr result (IsListServedOn db whole after (past ++ first)) × R → ListMakes db whole after past result kind × R
  call_comes what move items after out past first (Ok x) kind is answers phased stated so vain own goes = (
    made_as after past (λ moves. (moves ≡ move x ∷ []) × Opens first (items x)) (kind (Ok x)) (λ moves one. subst (kind (Ok x)) (sym one.0) (so x one.1)) (call_made what (move x) after out past first (items x) (is x) answers phased (stated (items x)) (vain x) goes.0),
    goes.2,
  )
  call_comes what move items after out past first (Err why) kind is answers phased stated so vain own goes = (inl (own, on_then db whole after past first goes.1), goes.2)

  pub commit_makes : {T R : Type 0} (txn : Txn) (choice : Choice (language db)) (move : T → Move) (items : T → List Notice) (before mid after : Machines) (out : Out) (past : List (Deed (language db))) (result : Result T Refusal) → ((x : T) → said_of (move x) ≡ said (call.Commit txn) (items x) ∷ []) →
      (asked : ListAsked db txn choice Commit_call before mid out.letters out.replies) → ((x : T) → CommitsNone (move x ∷ []) → ⊥) → IfErr result (λ why. is_stop why ≡ true) →
      IfOk result (λ x. VainlyGoes db whole after out.letters (past ++ asked.leads.deeds) out.replies (items x)) × OnErr result (IsListServedOn db whole after (past ++ asked.leads.deeds)) × R → ListMakes db whole after past result (IsOne move (call.Commit txn)) × R
  commit_makes txn choice move items before mid after out past result is asked never own goes =
      let shown = commit_shows (txn_name txn) choice (txn_in db before.table txn) asked.accepted in
      call_comes (call.Commit txn) move items after out past asked.leads.deeds result (IsOne move (call.Commit txn)) is asked.leads.replies (sym shown.0 ∙ ap phases_of (sym asked.all)) (λ heard opens. subst (AreStated db []) (sym (ap stated_of asked.all ∙ shown.1)) tt) (λ x opens. refl) (λ x none. absurd (never x none)) own goes

  pub rollback_makes : {T R : Type 0} (txn : Txn) (choice : Choice (language db)) (move : T → Move) (items : T → List Notice) (before mid after : Machines) (out : Out) (past : List (Deed (language db))) (result : Result T Refusal) → ((x : T) → said_of (move x) ≡ said (call.Rollback txn) (items x) ∷ []) →
      (asked : ListAsked db txn choice Rollback before mid out.letters out.replies) → IfErr result (λ why. is_stop why ≡ true) →
      IfOk result (λ x. VainlyGoes db whole after out.letters (past ++ asked.leads.deeds) out.replies (items x)) × OnErr result (IsListServedOn db whole after (past ++ asked.leads.deeds)) × R → ListMakes db whole after past result (IsOne move (call.Rollback txn)) × R
  rollback_makes txn choice move items before mid after out past result is asked own goes =
      let shown = rollback_silent (txn_name txn) choice (txn_in db before.table txn) in
      call_comes (call.Rollback txn) move items after out past asked.leads.deeds result (IsOne move (call.Rollback txn)) is asked.leads.replies (sym shown.0 ∙ ap phases_of (sym asked.all)) (λ heard opens. subst (AreStated db []) (sym (ap stated_of asked.all ∙ shown.1)) tt) (λ x opens. refl) (λ x none. rolled_back_vain db txn choice before mid out.letters out.replies asked) own goes

  pub state_makes : {T R : Type 0} (txn : Txn) (text : List ℕ) (move : T → Move) (items : T → List Notice) (before mid after : Machines) (out : Out) (past : List (Deed (language db))) (result : Result T Refusal) → ((x : T) → said_of (move x) ≡ said (call.State txn text) (items x) ∷ []) →
      (stated : ListStated db txn text before mid out.letters out.replies) → IfErr result (λ why. is_stop why ≡ true) →
      IfOk result (λ x. VainlyGoes db whole after out.letters (past ++ stated.asked.leads.deeds) out.replies (items x)) × OnErr result (IsListServedOn db whole after (past ++ stated.asked.leads.deeds)) × R → ListMakes db whole after past result (IsOne move (call.State txn text)) × R
  state_makes txn text move items before mid after out past result is stated own goes =
      let asked = stated.asked in
      let shown = state_shows (txn_name txn) (before.table.version, stated.statement) stated.choice (txn_in db before.table txn) asked.accepted in
      call_comes (call.State txn text) move items after out past asked.leads.deeds result (IsOne move (call.State txn text)) is asked.leads.replies (sym shown.0 ∙ ap phases_of (sym asked.all)) (λ heard opens. subst (AreStated db ((txn, text) ∷ [])) (sym (ap stated_of asked.all ∙ shown.1)) ((refl, stated.spelled), tt)) (λ x opens. refl) (λ x none. stated_vain db txn text before mid out.letters out.replies stated) own goes

  -- a transaction begins, of which its client hears
  some_heard : (t : Name) (rest more : List (Name × Reply)) (heard : List Notice) → map notice_of heard ≡ ((t, Begun) ∷ rest) ++ more → heard ≢ []
  some_heard t rest more heard is none = let e : (t, Begun) ∷ (rest ++ more) ≡ [] = sym is ∙ ap (map notice_of) none in cc

  pub begun_deeds : (before mid : Machines) (out : List letters.Letter) (notices : List Notice) → (began : ListBegun db before mid out notices) → began.leads.deeds ≡ Began (next_txn (desk_of db before.table)) ∷ []
  begun_deeds before mid out notices began =
      let w = world_of db before [] [] in
      sym (ap (λ (v : World (language db)). v.past) (began.leads.is [] [])) ∙ ap (λ (b : Bool). (if b then begun false w else w).past) began.within

  pub begin_makes : {T R : Type 0} (move : T → Move) (items : T → List Notice) (before mid after : Machines) (out : Out) (past : List (Deed (language db))) (result : Result T Refusal) → ((x : T) → said_of (move x) ≡ said call.Begin (items x) ∷ []) →
      (began : ListBegun db before mid out.letters out.replies) → IfErr result (λ why. is_stop why ≡ true) →
      IfOk result (λ x. VainlyGoes db whole after out.letters (past ++ began.leads.deeds) out.replies (items x)) × OnErr result (IsListServedOn db whole after (past ++ began.leads.deeds)) × R →
      ListMakes db whole after past result (λ done moves. IsOne move call.Begin done moves × IfOk done (λ x. items x ≢ [])) × R
  begin_makes move items before mid after out past result is began own goes =
      let deeds = begun_deeds before mid out.letters out.replies began in
      let t = next_txn (desk_of db before.table) in
      call_comes call.Begin move items after out past began.leads.deeds result (λ done moves. IsOne move call.Begin done moves × IfOk done (λ x. items x ≢ [])) is began.leads.replies (sym (ap phases_of deeds)) (λ heard opens. subst (AreStated db []) (sym (ap stated_of deeds)) tt)
      (λ x opens. (refl, some_heard t [] opens.0 (items x) (opens.1 ∙ ap (λ (ds : List (Deed (language db))). filter_map (told db) ds ++ opens.0) deeds))) (λ x none. begun_vain db before mid out.letters out.replies began) own goes

  -- the transaction that has begun is the one that the first notice names
  pub named_makes : {T : Type 0} (txn_of : T → Txn) (items : T → List Notice) (machines : Machines) (heard : List Notice) (past : List (Deed (language db))) (result : Result T Refusal) → ((txn : Txn) → ListMade db whole machines past (λ moves. (moves ≡ Begins txn heard ∷ []) × (heard ≢ []))) →
      IfOk result (λ x. items x ≡ heard) → OnErr result (heard ≡ []) → ListMakes db whole machines past result (IsOne (λ x. Begins (txn_of x) (items x)) call.Begin)
  named_makes txn_of items machines heard past (Ok x) all same none = made_as machines past (λ moves. (moves ≡ Begins (txn_of x) heard ∷ []) × (heard ≢ [])) (λ moves. moves ≡ Begins (txn_of x) (items x) ∷ []) (λ moves is. is.0 ∙ ap (λ hs. Begins (txn_of x) hs ∷ []) (sym same)) (all (txn_of x))
  named_makes txn_of items machines heard past (Err why) all same none = absurd ((all (record { life = 0; number = 0 })).is.1 none)

  pub unnamed_makes : {T U : Type 0} (one : T → Move) (other : U → Move) (items : T → List Notice) (machines : Machines) (why : Refusal) (past : List (Deed (language db))) → ListMakes {T = T} db whole machines past (Err why) (λ done moves. IsOne one call.Begin done moves × IfOk done (λ x. items x ≢ [])) →
      ListMakes {T = U} db whole machines past (Err why) (IsOne other call.Begin)
  unnamed_makes one other items machines why past (inl stops) = inl stops
  unnamed_makes one other items machines why past (inr made) = inr (made_as machines past (λ moves. (moves ≡ Refuses call.Begin why ∷ []) × ⊤) (λ moves. moves ≡ Refuses call.Begin why ∷ []) (λ moves is. is.0) made)

  -- a relation gets another split
  pub moved_makes : {T R : Type 0} (text : List ℕ) (items : T → List Notice) (before mid after : Machines) (out : Out) (past : List (Deed (language db))) (result : Result T Refusal) →
      (moved : ListMoved db text before mid out.letters out.replies) → IfErr result (λ why. is_stop why ≡ true) →
      IfOk result (λ x. VainlyGoes db whole after out.letters (past ++ moved.leads.deeds) out.replies (items x)) × OnErr result (IsListServedOn db whole after (past ++ moved.leads.deeds)) × R →
      ListMakes db whole after past result (λ done moves. (moves ≡ Refragments text (heard_in items done) ∷ []) × IfOk done (λ x. items x ≢ [])) × R
  moved_makes text items before mid after out past result moved own goes =
      let t = next_txn (desk_of db before.table) in
      let s : (language db).Statement = (before.table.version, kinds.Refragment moved.refragment) in
      let turn = first_turn (world_of db before [] []) s moved.choice in
      let shown : (phases_of turn.deeds ≡ []) × (stated_of turn.deeds ≡ (t, s) ∷ []) = state_shows {L = language db} t s moved.choice (Known (fresh_as true)) refl in
      let opened : (heard : List Notice) (opens : Opens moved.leads.deeds heard) → map notice_of heard ≡ ((t, Begun) ∷ filter_map (told db) turn.deeds) ++ opens.0 = λ heard opens. opens.1 ∙ ap (λ (ds : List (Deed (language db))). filter_map (told db) ds ++ opens.0) moved.all in
      call_comes (call.Refragment text) (λ x. Refragments text (Ok (items x))) items after out past moved.leads.deeds result (λ done moves. (moves ≡ Refragments text (heard_in items done) ∷ []) × IfOk done (λ x. items x ≢ [])) (λ x. refl) moved.leads.replies (sym (ap phases_of moved.all ∙ shown.0))
      (λ heard opens. subst (AreStated db (text_by (event.Call (call.Refragment text)) heard)) (sym (ap stated_of moved.all ∙ shown.1)) (first_named heard (filter_map (told db) turn.deeds) opens.0 (opened heard opens)))
      (λ x opens. (refl, some_heard t (filter_map (told db) turn.deeds) opens.0 (items x) (opened (items x) opens))) (λ x none. moved_vain db text before mid out.letters out.replies moved) own goes
    where
      -- the first notice names the transaction that has begun
      first_named : (heard : List Notice) (rest more : List (Name × Reply)) → map notice_of heard ≡ ((next_txn (desk_of db before.table), Begun) ∷ rest) ++ more →
          AreStated db (text_by (event.Call (call.Refragment text)) heard) ((next_txn (desk_of db before.table), (before.table.version, kinds.Refragment moved.refragment)) ∷ [])
      first_named [] rest more e = absurd (cc)
      first_named (first ∷ heard) rest more e = ((named, moved.spelled), tt)
        where
          named : txn_name first.txn ≡ next_txn (desk_of db before.table)
          named = let is : (txn_name first.txn, first.reply) ≡ (next_txn (desk_of db before.table), Begun) = cc in ap (λ (pair : Name × Reply). pair.0) is

  -- a call is refused, and nothing has changed
  none_said : (moves : List Move) (before after : Machines) (past : List (Deed (language db))) (kind : List Move → Type 0) → said_in moves ≡ [] → AllByRecursion (HasItsReason db whole past []) moves → kind moves → after ≡ before → IsListServed db whole before past → ListMade db whole after past kind
  none_said moves before after past kind none reasons is same served = record {
    moves = moves;
    deeds = [];
    served = subst (λ (m : Machines). IsListServed db whole m (past ++ [])) (sym same) (subst (IsListServed db whole before) (sym (append-nil past)) served);
    tells = λ entries so. subst (λ es. Tells db (entries ++ es) (past ++ [])) (sym none) (tells_no_more db entries past so);
    reasons = reasons;
    uncommitted = λ so. ap committed (append-nil past);
    is = is;
  }

  pub refused_makes : {T : Type 0} (move : T → Move) (asked : calls.Call) (why : Refusal) (before after : Machines) (past : List (Deed (language db))) → MayRefuse db before asked why → after ≡ before → IsListServed db whole before past → ListMakes {T = T} db whole after past (Err why) (IsOne move asked)
  refused_makes move asked why before after past may same served = inr (none_said (Refuses asked why ∷ []) before after past (λ moves. moves ≡ Refuses asked why ∷ []) refl (refused_here before past asked why may served, tt) refl same served)

  pub unmoved_makes : {T : Type 0} (text : List ℕ) (items : T → List Notice) (why : Refusal) (before after : Machines) (past : List (Deed (language db))) → MayRefuse db before (call.Refragment text) why → after ≡ before → IsListServed db whole before past →
      ListMakes {T = T} db whole after past (Err why) (λ done moves. (moves ≡ Refragments text (heard_in items done) ∷ []) × IfOk done (λ x. items x ≢ []))
  unmoved_makes text items why before after past may same served = inr (none_said (Refragments text (Err why) ∷ []) before after past (λ moves. (moves ≡ Refragments text (Err why) ∷ []) × ⊤) refl (refused_here before past (call.Refragment text) why may served, tt) (refl, tt) same served)

  -- ---- what is known of machines doesn't read how often media have refused
  fits_with : (machines : Machines) (counts : List ℕ) → FitsList db machines → FitsList db (with_counts machines counts)
  fits_with machines counts fit = record { names = fit.names; leaves = fit.leaves; desk = fit.desk; within = fit.within; sites = fit.sites; still = fit.still }

  fits_without : (machines : Machines) (counts : List ℕ) → FitsList db (with_counts machines counts) → FitsList db machines
  fits_without machines counts fit = record { names = fit.names; leaves = fit.leaves; desk = fit.desk; within = fit.within; sites = fit.sites; still = fit.still }

  pub served_with : (machines : Machines) (counts : List ℕ) (past : List (Deed (language db))) → IsListServed db whole machines past → IsListServed db whole (with_counts machines counts) past
  served_with machines counts past served = record { version = served.version; reached = served.reached; fit = fits_with machines counts served.fit }

  pub served_without : (machines : Machines) (counts : List ℕ) (past : List (Deed (language db))) → IsListServed db whole (with_counts machines counts) past → IsListServed db whole machines past
  served_without machines counts past served = record { version = served.version; reached = served.reached; fit = fits_without machines counts served.fit }

  made_with : (machines : Machines) (counts : List ℕ) (past : List (Deed (language db))) (kind : List Move → Type 0) → ListMade db whole machines past kind → ListMade db whole (with_counts machines counts) past kind
  made_with machines counts past kind made = record { moves = made.moves; deeds = made.deeds; served = served_with machines counts (past ++ made.deeds) made.served; tells = made.tells; reasons = made.reasons; uncommitted = made.uncommitted; is = made.is }

  pub makes_with : {T : Type 0} (machines : Machines) (counts : List ℕ) (past : List (Deed (language db))) (result : Result T Refusal) (kind : Kinds T) → ListMakes db whole machines past result kind → ListMakes db whole (with_counts machines counts) past result kind
  makes_with machines counts past (Ok x) kind made = made_with machines counts past (kind (Ok x)) made
  makes_with machines counts past (Err why) kind (inl stops) = inl (stops.0, record { deeds = stops.1.deeds; served = served_with machines counts (past ++ stops.1.deeds) stops.1.served })
  makes_with machines counts past (Err why) kind (inr made) = inr (made_with machines counts past (kind (Err why)) made)

-- so of a call of the code
module _ {D S : Type 0} (desk_is_clean : D → Type 0) (site_is_clean : S → Type 0) (desk_is_sound : D → Type 0) (site_is_sound : S → Type 0) (desk_kept : D → DeskContent) (site_kept : S → SiteContent) (desk_refused : D → ℕ) (site_refused : S → ℕ) where
  abbrev IsClean : code.Machines D S → Type 0
  IsClean = OfStores desk_is_clean site_is_clean

  abbrev IsSound : code.Machines D S → Type 0
  IsSound = OfStores desk_is_sound site_is_sound

  abbrev hold : code.Machines D S → Machines
  hold = held desk_kept site_kept

  abbrev view : code.Machines D S → Machines
  view = counted desk_kept site_kept desk_refused site_refused

  pub lists_counted : {T : Type 0} (old new : code.Machines D S) (result : Result T Refusal) (kind : Database → Kinds T) →
      ((db : Database) (whole : Relations) (past : List (Deed (language db))) → IsListed db → StandsIn db old.desk → IsClean new → IsSound old → IsListServed db whole (hold old) past → ListMakes db whole (hold new) past result (kind db) × StandsIn db new.desk) →
      OverLists IsClean IsSound view old new (λ db whole past. ListMakes db whole (view new) past result (kind db))
  lists_counted old new result kind lists db whole past listed stands clean sound served =
      let made = lists db whole past listed stands clean sound (served_without db whole (hold old) (view old).refused past served) in
      (makes_with db whole (hold new) (view new).refused past result (kind db) made.0, made.1)

  -- why a call is refused, as the machines of the code tell
  abbrev RefusesBy : code.Machines D S → calls.Call → Refusal → Type 0
  RefusesBy old asked why = (db : Database) → IsListed db → StandsIn db old.desk → FitsList db (hold old) → (why ≡ refusal.Memory) ⊎ IsRefused db old.desk.later.items (volatile_of old.desk.volatile) asked why

  told_so : (db : Database) (old : code.Machines D S) (asked : calls.Call) (why : Refusal) → (why ≡ refusal.Memory) ⊎ IsRefused db old.desk.later.items (volatile_of old.desk.volatile) asked why → MayRefuse db (hold old) asked why
  told_so db old asked why (inl memory) = inl (ap is_stop memory)
  told_so db old asked why (inr refused) = inr refused

  -- a call is refused, and nothing has changed
  stands_still : (db : Database) (old new : code.Machines D S) → hold new ≡ hold old → new.desk.catalog ≡ old.desk.catalog → new.desk.later.items ≡ old.desk.later.items → StandsIn db old.desk → StandsIn db new.desk
  stands_still db old new same catalog later stands = stands_as db old.desk new.desk (ap (λ (m : Machines). m.table.version) same) catalog later stands

  pub refused_lists : {T : Type 0} (move : T → Move) (asked : calls.Call) (why : Refusal) (old new : code.Machines D S) → RefusesBy old asked why → hold new ≡ hold old → new.desk.catalog ≡ old.desk.catalog → new.desk.later.items ≡ old.desk.later.items →
      OverLists IsClean IsSound view old new (λ db whole past. ListMakes {T = T} db whole (view new) past (Err why) (IsOne move asked))
  refused_lists {T} move asked why old new may same catalog later = lists_counted {T = T} old new (Err why) (λ db. IsOne move asked)
      (λ db whole past listed stands clean sound served. (refused_makes db whole move asked why (hold old) (hold new) past (told_so db old asked why (may db listed stands served.fit)) same served, stands_still db old new same catalog later stands))

  pub unbegun_lists : {T : Type 0} (move : T → Move) (items : T → List Notice) (why : Refusal) (old new : code.Machines D S) → RefusesBy old call.Begin why → hold new ≡ hold old → new.desk.catalog ≡ old.desk.catalog → new.desk.later.items ≡ old.desk.later.items →
      OverLists IsClean IsSound view old new (λ db whole past. ListMakes {T = T} db whole (view new) past (Err why) (λ done moves. IsOne move call.Begin done moves × IfOk done (λ x. items x ≢ [])))
  unbegun_lists {T} move items why old new may same catalog later = lists_counted {T = T} old new (Err why) (λ db done moves. IsOne move call.Begin done moves × IfOk done (λ x. items x ≢ []))
      (λ db whole past listed stands clean sound served. (
        makes_as db whole (hold new) past (Err why) (IsOne move call.Begin) (λ done moves. IsOne move call.Begin done moves × IfOk done (λ x. items x ≢ [])) (λ moves is. (is, tt)) (refused_makes db whole move call.Begin why (hold old) (hold new) past (told_so db old call.Begin why (may db listed stands served.fit)) same served),
        stands_still db old new same catalog later stands,
      ))

  pub unmoved_lists : {T : Type 0} (text : List ℕ) (items : T → List Notice) (why : Refusal) (old new : code.Machines D S) → RefusesBy old (call.Refragment text) why → hold new ≡ hold old → new.desk.catalog ≡ old.desk.catalog → new.desk.later.items ≡ old.desk.later.items →
      OverLists IsClean IsSound view old new (λ db whole past. ListMakes {T = T} db whole (view new) past (Err why) (λ done moves. (moves ≡ Refragments text (heard_in items done) ∷ []) × IfOk done (λ x. items x ≢ [])))
  unmoved_lists {T} text items why old new may same catalog later = lists_counted {T = T} old new (Err why) (λ db done moves. (moves ≡ Refragments text (heard_in items done) ∷ []) × IfOk done (λ x. items x ≢ []))
      (λ db whole past listed stands clean sound served. (unmoved_makes db whole text items why (hold old) (hold new) past (told_so db old (call.Refragment text) why (may db listed stands served.fit)) same served, stands_still db old new same catalog later stands))
