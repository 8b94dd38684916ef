-- What transactions come to that are run one after another.
use Rattle.std.proofs.Common.{◌≡◌, refl, sym, ap, ◌∙◌, subst, ℕ, Bool, true, false, ◌||◌, List, [], ◌∷◌, ◌++◌, map, ◌⊎◌, inl, inr, ⊎_elim, Some, None}
use Rattle.std.specs.List.{list_any}
use Rattle.meaning.specs.Whole.{Relations}
use Rattle.store.specs.Content.{Content}
use Rattle.store.specs.declared.name.Txn.{Txn}
use Rattle.protocol.specs.Client.{ReachedLaw}
use Rattle.protocol.specs.Desk.{Deed}
use Rattle.protocol.specs.Language.{Name}
use Rattle.protocol.specs.Letters.{txn_name}
use Rattle.protocol.proofs.Basics.{clash}
use Rattle.desk.specs.declared.refusal.Refusal.{Refusal}
use Rattle.desk.specs.declared.reply.Notice.{Notice}
use Rattle.desk.specs.declared.reply.Reply as replies
use Rattle.desk.specs.declared.reply.Reply.TheVariants.{Answer, Committed, RolledBack}
use Rattle.desk.specs.Database.{Database, language}
use Rattle.desk.specs.Place.{Place}
use Rattle.desk.specs.State.{notice_of}
use Rattle.world.specs.declared.event.Call as calls
use Rattle.world.specs.declared.event.Call.TheVariants as call
use Rattle.world.specs.declared.event.Entry.{Entry}
use Rattle.world.specs.declared.transaction.Came as cames
use Rattle.world.specs.declared.transaction.Came.TheVariants.{Heard, Refused}
use Rattle.world.specs.declared.transaction.End as ends
use Rattle.world.specs.declared.transaction.End.TheVariants as end
use Rattle.world.specs.declared.transaction.Outcome as outcomes
use Rattle.world.specs.declared.transaction.Outcome.TheVariants.{Ran, Unbegun}
use Rattle.world.specs.declared.transaction.Transaction.{Transaction}
use Rattle.world.specs.Commands.{MovesFollow}
use Rattle.world.specs.Batch.{Makes, RunsAll, RunsOne, StopsAt, calls_of_end, has_ended, tells_commit}
use Rattle.world.specs.BatchRuns.{FareAll, Fares, HasRun, WasStopped, ends_as_asked, finds_no_place, is_to_commit, was_hindered}
use Rattle.world.specs.Course.{Begins, Commits, Made, Move, Refuses, Rolls_back, SomeHindered, States, deeds_in, deeds_of, said_in}
use Rattle.world.specs.Machines.{Machines}
use Rattle.world.specs.Executed.{ObeysUnlessRefused, Stands}
use Rattle.world.specs.Client.{IsServed, ServedIsSerial, is_commit, is_end, tells}
use Rattle.world.specs.Settling.{GrowsQuiet}
use Rattle.world.specs.Replies.{Tells}
use Rattle.world.proofs.Batches.{as_many}
use Rattle.world.proofs.Deeds.{move_served}
use Rattle.world.proofs.Denials.{no_room, no_commit, no_rollback}
use Rattle.world.proofs.Executed.{tells_by}
use Rattle.world.proofs.Standing.{begun, stands_still, stands_whenever}

-- what one notice tells
tells_one : (is : replies.Reply → Bool) (heard : List Notice) (name : Name) (reply : replies.Reply) → map notice_of heard ≡ (name, reply) ∷ [] → tells is heard ≡ (is reply || false)
tells_one is heard name reply told = tells_by is heard ∙ ap (list_any (λ (x : Name × replies.Reply). is x.1)) told

-- a call that is refused ends no transaction
goes_on : (asked : calls.Call) (refusal : Refusal) → has_ended asked (Refused refusal) ≡ false
goes_on call.Begin refusal = refl
goes_on (call.State txn text) refusal = refl
goes_on (call.Commit txn) refusal = refl
goes_on (call.Rollback txn) refusal = refl
goes_on (call.GiveUp txn) refusal = refl
goes_on (call.Refragment asked) refusal = refl

module _ (db : Database) (fits : Place → Content → Bool) (reached : ReachedLaw (language db)) (obeys : ObeysUnlessRefused db fits) (quiet : GrowsQuiet db fits) (whole : Relations) where
  -- all is quiet after no more moves
  at_end : (middle after : Machines) (past : List (Deed (language db))) (more : List Move) → more ≡ [] → Made db more middle after → Stands db fits None middle past → Stands db fits None after past
  at_end middle after past more none made stands = subst (λ (m : Machines). Stands db fits None m past) (sym (subst (λ (moves : List Move). Made db moves middle after) none made)) stands

  -- ---- the calls of a transaction that is ready: all is quiet again, and it has ended as asked unless something was refused
  abbrev Ends : (end_of : ends.End) (came : List cames.Came) (before after : Machines) (past : List (Deed (language db))) (moves : List Move) → Made db moves before after → Type 0
  Ends end_of came before after past moves made = Stands db fits None after past × ((list_any tells_commit came ≡ is_to_commit end_of) ⊎ SomeHindered db moves before after past made)

  as_moves : (end_of : ends.End) (came : List cames.Came) (before after : Machines) (past : List (Deed (language db))) (moves all : List Move) → all ≡ moves → ((made : Made db moves before after) → Ends end_of came before after past moves made) → (made : Made db all before after) → Ends end_of came before after past all made
  as_moves end_of came before after past moves all is so = subst (λ (ms : List Move). (made : Made db ms before after) → Ends end_of came before after past ms made) (sym is) so

  rollback_fares : (txn : Txn) (came : List cames.Came) (ended : Bool) (before after : Machines) (past : List (Deed (language db))) → IsServed db whole before past → Stands db fits (Some txn) before past → (moves : List Move) → Makes (calls_of_end end.Rollback txn) came ended moves →
      (made : Made db moves before after) → Ends end.Rollback came before after past moves made
  rollback_fares txn [] ended before after past served ready moves makes = absurd makes
  rollback_fares txn (Refused refusal ∷ others) ended before after past served ready moves makes = as_moves end.Rollback (Refused refusal ∷ others) before after past (Refuses (call.Rollback txn) refusal ∷ makes.0) moves makes.1 (λ made. absurd (no_rollback db fits txn before past refusal ready made.1.0))
  rollback_fares txn (Heard heard ∷ others) ended before after past served ready moves makes = as_moves end.Rollback (Heard heard ∷ others) before after past (Rolls_back txn heard ∷ makes.0) moves makes.1 (λ made.
      let does = made.1 in
      let rests = stands_whenever db fits None made.0 (past ++ does.serves.deeds) past (quiet.rolls_back whole before made.0 past (txn_name txn) does.choice heard served ready does.serves) in
      ⊎_elim
      (λ last. (
        at_end made.0 after past makes.0 last.3 made.2 rests,
        ⊎_elim
            (λ told. inl (ap (λ (rest : List cames.Came). list_any tells_commit (Heard heard ∷ rest)) last.2 ∙ ap (λ (b : Bool). b || false) (tells_one is_commit heard (txn_name txn) RolledBack told.1)))
            (λ hindered. inr (inl hindered))
            (obeys.rolls_back whole before made.0 past txn heard served ready does),
      ))
      (λ goes. let e : true ≡ false = goes.0 in absurd (cc))
      makes.2)

  commit_fares : (txn : Txn) (came : List cames.Came) (ended : Bool) (before after : Machines) (past : List (Deed (language db))) → IsServed db whole before past → Stands db fits (Some txn) before past → (moves : List Move) → Makes (calls_of_end end.Commit txn) came ended moves →
      (made : Made db moves before after) → Ends end.Commit came before after past moves made
  commit_fares txn [] ended before after past served ready moves makes = absurd makes
  commit_fares txn (Refused refusal ∷ others) ended before after past served ready moves makes = as_moves end.Commit (Refused refusal ∷ others) before after past (Refuses (call.Commit txn) refusal ∷ makes.0) moves makes.1 (λ made. absurd (no_commit db fits txn before past refusal ready made.1.0))
  commit_fares txn (Heard heard ∷ others) ended before after past served ready moves makes = as_moves end.Commit (Heard heard ∷ others) before after past (Commits txn heard ∷ makes.0) moves makes.1 (λ made.
      let does = made.1 in
      let rests = stands_whenever db fits None made.0 (past ++ does.serves.deeds) past (quiet.commits whole before made.0 past (txn_name txn) does.choice heard served ready does.serves) in
      ⊎_elim
      (λ last. (
        at_end made.0 after past makes.0 last.3 made.2 rests,
        ⊎_elim
            (λ told. inl (ap (λ (rest : List cames.Came). list_any tells_commit (Heard heard ∷ rest)) last.2 ∙ ap (λ (b : Bool). b || false) (tells_one is_commit heard (txn_name txn) Committed told.1)))
            (λ hindered. inr (inl hindered))
            (obeys.commits whole before made.0 past txn heard served ready does),
      ))
      (λ goes. let e : true ≡ false = goes.0 in absurd (cc))
      makes.2)

  end_fares : (end_of : ends.End) (txn : Txn) (came : List cames.Came) (ended : Bool) (before after : Machines) (past : List (Deed (language db))) → IsServed db whole before past → Stands db fits (Some txn) before past → (moves : List Move) → Makes (calls_of_end end_of txn) came ended moves →
      (made : Made db moves before after) → Ends end_of came before after past moves made
  end_fares end.Commit txn came ended before after past served ready moves makes = commit_fares txn came ended before after past served ready moves makes
  end_fares end.Rollback txn came ended before after past served ready moves makes = rollback_fares txn came ended before after past served ready moves makes

  abbrev states : Txn → List (List ℕ) → List calls.Call
  states txn texts = map (λ (text : List ℕ). call.State txn text) texts

  course_fares : (end_of : ends.End) (txn : Txn) (texts : List (List ℕ)) (came : List cames.Came) (ended : Bool) (before after : Machines) (past : List (Deed (language db))) → IsServed db whole before past → Stands db fits (Some txn) before past → (moves : List Move) →
      Makes (states txn texts ++ calls_of_end end_of txn) came ended moves → (made : Made db moves before after) → Ends end_of came before after past moves made
  course_fares end_of txn [] came ended before after past served ready moves makes made = end_fares end_of txn came ended before after past served ready moves makes made
  course_fares end_of txn (text ∷ texts) [] ended before after past served ready moves makes made = absurd makes
  course_fares end_of txn (text ∷ texts) (Refused refusal ∷ others) ended before after past served ready moves makes made = as_moves end_of (Refused refusal ∷ others) before after past (Refuses (call.State txn text) refusal ∷ makes.0) moves makes.1
      (λ first. ⊎_elim
      (λ last. clash last.0 (goes_on (call.State txn text) refusal))
      (λ goes.
      let more = past ++ deeds_of db (Refuses (call.State txn text) refusal) before first.0 first.1 in
      let rest = course_fares end_of txn texts others ended first.0 after more (move_served db whole reached (Refuses (call.State txn text) refusal) before first.0 past served first.1)
      (stands_whenever db fits (Some txn) first.0 past more (stands_still db fits (Some txn) before first.0 past first.1.1 ready)) makes.0 goes.1 first.2 in
      (stands_whenever db fits None after more past rest.0, ⊎_elim (λ same. inl same) (λ hindered. inr (inr hindered)) rest.1))
      makes.2) made
  course_fares end_of txn (text ∷ texts) (Heard heard ∷ others) ended before after past served ready moves makes made = as_moves end_of (Heard heard ∷ others) before after past (States txn text heard ∷ makes.0) moves makes.1
      (λ first.
      let does = first.1 in
      let more = past ++ does.asks.serves.deeds in
      let served_more = move_served db whole reached (States txn text heard) before first.0 past served does in
      ⊎_elim
      (λ answered. ⊎_elim
      (λ last. clash last.0 (tells_one is_end heard (txn_name txn) (Answer answered.1.0) answered.1.1))
      (λ goes.
      let rest = course_fares end_of txn texts others ended first.0 after more served_more answered.0 makes.0 goes.1 first.2 in (
        stands_whenever db fits None after more past rest.0,
        ⊎_elim
            (λ same. inl (ap (λ (b : Bool). b || list_any tells_commit others) (tells_one is_commit heard (txn_name txn) (Answer answered.1.0) answered.1.1) ∙ same))
            (λ hindered. inr (inr hindered)) rest.1,
      ))
      makes.2)
      (λ over. ⊎_elim
      (λ last. (
        at_end first.0 after past makes.0 last.3 first.2 (stands_whenever db fits None first.0 more past over.0),
        ⊎_elim
            (λ was. clash over.1 (tells_one is_end heard (txn_name txn) (Answer was.1.0) was.1.1))
            (λ hindered. inr (inl hindered))
            (obeys.states whole before first.0 past text txn heard served ready does),
      ))
      (λ goes. clash over.1 goes.0)
      makes.2)
      (quiet.states whole before first.0 past (txn_name txn) does.statement does.asks.choice heard served ready does.fits does.asks.within does.asks.serves)) made

  -- ---- transactions, one after another
  abbrev Comes : (transaction : Transaction) (outcome : outcomes.Outcome) (before after : Machines) (past : List (Deed (language db))) (moves : List Move) → Made db moves before after → Type 0
  Comes transaction outcome before after past moves made = Fares db fits transaction outcome before after past moves made × Stands db fits None after (past ++ deeds_in db moves before after made)

  one_fares : (transaction : Transaction) (outcome : outcomes.Outcome) (before after : Machines) (past : List (Deed (language db))) → IsServed db whole before past → Stands db fits None before past → (moves : List Move) → RunsOne transaction outcome moves → (made : Made db moves before after) → Comes transaction outcome before after past moves made
  one_fares transaction (Unbegun refusal) before after past served stands moves run = subst (λ (ms : List Move). (made : Made db ms before after) → Comes transaction (Unbegun refusal) before after past ms made) (sym run)
      (λ made. (
        finds_no_place (ap Unbegun (no_room db before refusal served.fit made.1.0).0) (no_room db before refusal served.fit made.1.0).1,
        stands_whenever db fits None after past (past ++ deeds_in db (Refuses call.Begin refusal ∷ []) before after made) (at_end made.0 after past [] refl made.2 (stands_still db fits None before made.0 past made.1.1 stands)),
      ))
  one_fares transaction (Ran course) before after past served stands moves run = subst (λ (ms : List Move). (made : Made db ms before after) → Comes transaction (Ran course) before after past ms made) (sym run.1)
      (λ made.
      let more = past ++ made.1.serves.deeds in
      let first = begun db fits reached obeys quiet whole past course.txn before made.0 course.greeted served stands made.1 in
      let over = course_fares transaction.end course.txn transaction.texts course.came run.2.0 made.0 after more (move_served db whole reached (Begins course.txn course.greeted) before made.0 past served made.1) (stands_whenever db fits (Some course.txn) made.0 past more first.0) run.0 run.2.1 made.2 in
      (⊎_elim (λ same. ends_as_asked same) (λ hindered. was_hindered (inr hindered)) over.1, stands_whenever db fits None after more (past ++ deeds_in db (Begins course.txn course.greeted ∷ run.0) before after made) over.0))

  -- moves of one list and then of another
  pub apart : (one more : List Move) (before after : Machines) → Made db (one ++ more) before after → (middle : Machines) × Made db one before middle × Made db more middle after
  apart [] more before after made = (before, refl, made)
  apart (move ∷ one) more before after made = let rest = apart one more made.0 after made.2 in (rest.0, (made.0, made.1, rest.1), rest.2)

  pub all_fare : (transactions : List Transaction) (came : List outcomes.Outcome) (before after : Machines) (past : List (Deed (language db))) → MovesFollow db → IsServed db whole before past → Stands db fits None before past → (moves : List Move) → RunsAll transactions came moves → Made db moves before after →
      FareAll db fits transactions came before after past × Stands db fits None after past
  all_fare [] [] before after past follow served stands moves runs made =
      let same : after ≡ before = subst (λ (ms : List Move). Made db ms before after) runs made in
      (same, subst (λ (m : Machines). Stands db fits None m past) (sym same) stands)
  all_fare [] (first ∷ others) before after past follow served stands moves runs made = absurd runs
  all_fare (transaction ∷ rest) [] before after past follow served stands moves runs made = absurd runs
  all_fare (transaction ∷ rest) (first ∷ others) before after past follow served stands moves runs made =
      let parts = apart runs.0 runs.1 before after (subst (λ (ms : List Move). Made db ms before after) runs.2 made) in
      let middle = parts.0 in
      let more = past ++ deeds_in db runs.0 before middle parts.1 in
      let one = one_fares transaction first before middle past served stands runs.0 runs.3 parts.1 in
      let later = all_fare rest others middle after more follow (follow.served whole runs.0 before middle past served parts.1) one.1 runs.1 runs.4 parts.2 in
      ((runs.0, middle, parts.1, runs.3, one.0, one.1, later.0), stands_whenever db fits None after more past later.1)

  -- ---- so they have run, and one was stopped
  module _ (follow : MovesFollow db) where
    pub has_run : (transactions : List Transaction) (came : List outcomes.Outcome) (before after : Machines) (entries : List Entry) (past : List (Deed (language db))) → IsServed db whole before past → Tells db entries past → (moves : List Move) → RunsAll transactions came moves → Made db moves before after →
        HasRun db fits whole transactions came before after entries past
    has_run transactions came before after entries past served so moves runs made =
        let more = past ++ deeds_in db moves before after made in
        let told = follow.tells moves before after entries past so made in
        let served_more = follow.served whole moves before after past served made in
        record {
          moves = moves;
          made = made;
          runs = runs;
          served = served_more;
          tells = told;
          serial = follow.serial whole after (entries ++ said_in moves) more told served_more;
          fare = λ stands. (all_fare transactions came before after past follow served stands moves runs made).0;
          stands = λ stands. stands_whenever db fits None after past more (all_fare transactions came before after past follow served stands moves runs made).1;
        }

    pub was_stopped : ServedIsSerial db → (transactions : List Transaction) (done : List outcomes.Outcome) (before after : Machines) (entries : List Entry) (past : List (Deed (language db))) → IsServed db whole before past → Tells db entries past → StopsAt db transactions done before after →
        WasStopped db fits whole transactions done before after entries past
    was_stopped serial transactions done before after entries past served so stops =
        let ran = has_run stops.front done before stops.middle entries past served so stops.ran.moves stops.ran.is stops.ran.made in
        let more = past ++ deeds_in db ran.moves before stops.middle ran.made in
        let on = stops.on whole more ran.served in
        record {
          front = stops.front;
          at = stops.at;
          back = stops.back;
          is = stops.is;
          place = as_many stops.front done stops.ran.moves stops.ran.is;
          middle = stops.middle;
          ran = ran;
          deeds = on.deeds;
          served = on.served;
          serial = serial whole after (more ++ on.deeds) on.served;
        }
