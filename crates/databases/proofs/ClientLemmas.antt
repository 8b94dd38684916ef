-- Lemmas on a database for one client.
use Rattle.std.proofs.Common.{◌≡◌, ◌++◌, ◌∷◌, [], if◌then◌else◌, IfErr, IfOk, OnOk, ℕ, List, Option, None, Some, append_assoc, Bool, false, Result, Ok, Err, ap, refl, subst, sym, ◌∙◌}
use Rattle.std.proofs.lemmas.List.{append-nil}
use Rattle.terms.specs.declared.leaf.Leaf.{Leaf}
use Rattle.terms.specs.declared.value.Value.{Value}
use Rattle.meaning.specs.Whole.{FitsSchema, Relations}
use Rattle.catalog.specs.Catalogue.{Catalogue}
use Rattle.catalog.specs.FragmentLeaf.{catalogue_leaves, schemas_of}
use Rattle.store.specs.declared.name.Txn.{Txn}
use Rattle.protocol.specs.Desk.{Deed}
use Rattle.desk.specs.declared.refusal.Refusal.{Refusal}
use Rattle.desk.specs.declared.reply.Notice.{Notice}
use Rattle.desk.specs.Database.{Database, language}
use Rattle.world.specs.declared.event.Entry.{Entry}
use Rattle.world.specs.Commands.{Executes, MovesFollow}
use Rattle.world.specs.Course.{said_in}
use Rattle.desk.specs.CatalogueDatabase.{database, fits}
use Rattle.world.specs.Machines.{AreFit, Machines}
use Rattle.world.specs.Executed.{Stands}
use Rattle.world.specs.Client.{IsServed}
use Rattle.world.specs.ListServed.{IsListServed}
use Rattle.world.proofs.Hindering.{listed_served, served_alone}
use Rattle.world.specs.Settled.{AreThoseOf, parts_kept, rows_shown}
use Rattle.world.specs.Stopping.{is_stop}
use Rattle.world.specs.Replies.{Tells}
use Rattle.forms.specs.declared.mode.Mode.{Mode}
use Rattle.forms.specs.Mode.{line_in}
use Rattle.lines.specs.declared.reply.Reply as replies
use Rattle.databases.specs.PlayText.{refused_text}
use Rattle.lines.specs.Reply.{Answered, Refused, Told, told_by}
use Rattle.databases.specs.Client.{AnswersTask, GoesOn, IsAnswered, IsDone, Seen, CountsLeafAs, ShowsLeafAs, Standing, StandsStill, heard_text, standing_of}
use Rattle.databases.specs.Origin.{Begins, BeginsWith, IsBegun, Origin}
use Rattle.lines.specs.Script.{CountsLeaf, DumpsRelation, Nothing, Reading, Runs, ShowsLeaf, ShowsRelation, Unreadable}
use Rattle.databases.specs.Shown.{written_leaf}
use Rattle.databases.specs.Solo.{AnswersTasks, IsRun, IsRunFrom, IsStretch, said_by, said_by_tasks}

-- machines without the count of refusals
abbrev pub uncounted : Machines → Machines
uncounted machines = record machines { refused = [] }

-- where the count is all that differs, machines are served and stand as before
counted_fit : (db : Database) (machines : Machines) → AreFit db (uncounted machines) → AreFit db machines
counted_fit db machines fit = record { names = fit.names; leaves = fit.leaves; desk = fit.desk; within = fit.within; sites = fit.sites; single = fit.single; still = fit.still }

uncounted_fit : (db : Database) (machines : Machines) → AreFit db machines → AreFit db (uncounted machines)
uncounted_fit db machines fit = record { names = fit.names; leaves = fit.leaves; desk = fit.desk; within = fit.within; sites = fit.sites; single = fit.single; still = fit.still }

served_still : (db : Database) (whole : Relations) (old new : Machines) (past : List (Deed (language db))) → uncounted new ≡ uncounted old → IsServed db whole old past → IsServed db whole new past
served_still db whole old new past same served =
    let before : IsServed db whole (uncounted old) past = record { version = served.version; reached = served.reached; fit = uncounted_fit db old served.fit } in
    let after = subst (λ (machines : Machines). IsServed db whole machines past) (sym same) before in
    record { version = after.version; reached = after.reached; fit = counted_fit db new after.fit }

uncounted_stands : (catalogue : Catalogue) (current : Option Txn) (machines : Machines) (past : List (Deed (language (database catalogue)))) → Stands (database catalogue) (fits catalogue) current machines past → Stands (database catalogue) (fits catalogue) current (uncounted machines) past
uncounted_stands catalogue None machines past stands = stands
uncounted_stands catalogue (Some txn) machines past stands = stands

counted_stands : (catalogue : Catalogue) (current : Option Txn) (machines : Machines) (past : List (Deed (language (database catalogue)))) → Stands (database catalogue) (fits catalogue) current (uncounted machines) past → Stands (database catalogue) (fits catalogue) current machines past
counted_stands catalogue None machines past stands = stands
counted_stands catalogue (Some txn) machines past stands = stands

stands_on : (catalogue : Catalogue) (current : Option Txn) (old new : Machines) (past : List (Deed (language (database catalogue)))) → uncounted new ≡ uncounted old → Stands (database catalogue) (fits catalogue) current old past → Stands (database catalogue) (fits catalogue) current new past
stands_on catalogue current old new past same stands =
    counted_stands catalogue current new past (subst (λ (machines : Machines). Stands (database catalogue) (fits catalogue) current machines past) (sym same) (uncounted_stands catalogue current old past stands))

module _ {B : Type 0} {seen : Seen B} (catalogue : Catalogue) (whole : Relations) (past : List (Deed (language (database catalogue)))) (old new : B) (clean : seen.is_clean new) (h : GoesOn seen catalogue whole past old) where
  abbrev own : Catalogue
  own = seen.catalogue old

  abbrev before : Machines
  before = seen.machines old

  abbrev after : Machines
  after = seen.machines new

  abbrev Sounds : Type 0
  Sounds = seen.is_clean new → seen.is_sound old → seen.is_sound new

  abbrev Stays : Type 0
  Stays = seen.is_clean new → seen.is_sound old → uncounted after ≡ uncounted before

  own_fit : AreFit (database own) before
  own_fit = subst (λ (c : Catalogue). AreFit (database c) before) (sym h.catalog) h.served.fit

  -- a database goes on from what has happened
  goes_on : (later : List (Deed (language (database catalogue)))) → seen.stopped new ≡ None → seen.catalogue new ≡ seen.catalogue old → Sounds → IsServed (database catalogue) whole after later → Stands (database catalogue) (fits catalogue) (seen.current new) after later → GoesOn seen catalogue whole later new
  goes_on later going same sound served stands = record { going = going; catalog = same ∙ h.catalog; sound = sound clean h.sound; served = served; stands = stands }

  -- so does one of which something is shown
  pub shows_on : (seen.current new ≡ seen.current old) × (seen.stopped new ≡ seen.stopped old) → seen.catalogue new ≡ seen.catalogue old → Sounds → Stays → GoesOn seen catalogue whole past new
  shows_on still same sound stays = goes_on past (still.1 ∙ h.going) same sound (served_still (database catalogue) whole before after past (stays clean h.sound) h.served)
      (subst (λ (current : Option Txn). Stands (database catalogue) (fits catalogue) current after past) (sym still.0) (stands_on catalogue (seen.current old) before after past (stays clean h.sound) h.stands))

  pub stands_still : (seen.current new ≡ seen.current old) × (seen.stopped new ≡ seen.stopped old) → Stays → StandsStill (standing_of seen catalogue old past) (standing_of seen catalogue new past)
  stands_still still stays = record { machines = stays clean h.sound; current = still.0; past = refl }

  -- a command is executed, unless that stops the database
  abbrev ExecutesNext : List ℕ → Result (List Notice) Refusal → Catalogue → Type 0
  ExecutesNext text reply c = (whole : Relations) (past : List (Deed (language (database c)))) → seen.stopped old ≡ None → seen.is_clean new → seen.is_sound old → before.later ≡ [] → IsListServed (database c) whole before past → IfErr reply (λ told. is_stop told ≡ false) → Executes (database c) (fits c) whole text (seen.current old) before (seen.current new) after past reply

  does_next : (text : List ℕ) (reply : Result (List Notice) Refusal) → ExecutesNext text reply own → IfErr reply (λ told. is_stop told ≡ false) → Executes (database catalogue) (fits catalogue) whole text (seen.current old) before (seen.current new) after past reply
  does_next text reply next goes = subst (ExecutesNext text reply) h.catalog next whole past h.going clean h.sound h.served.fit.single (listed_served (database catalogue) whole before past h.served) goes

  is_done : (text : List ℕ) (reply : Result (List Notice) Refusal) (does : Executes (database catalogue) (fits catalogue) whole text (seen.current old) before (seen.current new) after past reply) →
      IsDone catalogue text (standing_of seen catalogue old past) (standing_of seen catalogue new (past ++ does.deeds)) reply
  is_done text reply does = record { moves = does.moves; deeds = does.deeds; command = does.command; outcome = does.outcome h.stands; tells = does.tells; happened = refl }

  goes_next : (text : List ℕ) (reply : Result (List Notice) Refusal) (does : Executes (database catalogue) (fits catalogue) whole text (seen.current old) before (seen.current new) after past reply) → seen.stopped new ≡ None → seen.catalogue new ≡ seen.catalogue old → after.later ≡ [] → Sounds →
      GoesOn seen catalogue whole (past ++ does.deeds) new
  goes_next text reply does going same alone sound = goes_on (past ++ does.deeds) going same sound (served_alone (database catalogue) whole after (past ++ does.deeds) alone does.served) (does.stands h.stands)

  -- it is heard
  pub is_heard : (mode : Mode) (text : List ℕ) (heard : List Notice) (told : List ℕ) → ExecutesNext text (Ok heard) own → seen.stopped new ≡ None → seen.catalogue new ≡ seen.catalogue old → after.later ≡ [] → Sounds →
      told ≡ heard_text mode heard → IsAnswered seen mode catalogue whole (Runs text) past old new (Answered told)
  is_heard mode text heard told next going same alone sound lines =
      let does = does_next text (Ok heard) next tt in
      record {
        later = past ++ does.deeds;
        goes_on = goes_next text (Ok heard) does going same alone sound;
        answers = record { heard = heard; does = is_done text (Ok heard) does; lines = lines };
      }

  -- a refusal that does not stop the database is told
  pub is_turned_away : {E : Type 0} (mode : Mode) (text : List ℕ) (refusal : Refusal) (result : Result replies.Reply E) → ExecutesNext text (Err refusal) own → (is_stop refusal ≡ false → seen.stopped new ≡ None) → seen.catalogue new ≡ seen.catalogue old → after.later ≡ [] → Sounds →
      seen.current new ≡ seen.current old → OnOk result (is_stop refusal ≡ false) → IfOk result (λ reply. told_by reply ≡ Refused (line_in mode (refused_text refusal))) → IfOk result (λ reply. IsAnswered seen mode catalogue whole (Runs text) past old new (told_by reply))
  is_turned_away mode text refusal (Ok reply) next going same alone sound still goes told =
      let does = does_next text (Err refusal) next goes in
      subst (IsAnswered seen mode catalogue whole (Runs text) past old new) (sym told) (record {
        later = past ++ does.deeds;
        goes_on = goes_next text (Err refusal) does (going goes) same alone sound;
        answers = record { refusal = refusal; does = is_done text (Err refusal) does; goes_on = goes; same = still; uncommitted = does.uncommitted refusal refl; line = refl };
      })
  is_turned_away mode text refusal (Err e) next going same alone sound still goes told = tt

  -- what is shown of the whole database that the fragments are those of, and of a leaf
  pub rows_of_own : (name : List ℕ) (shown : Option (List (List Value))) → ((whole : Relations) → seen.is_clean new → seen.is_sound old → AreFit (database own) before → AreThoseOf (database own) before whole → FitsSchema (schemas_of own) whole → shown ≡ rows_shown (database own) whole name) →
      (other : Relations) → AreThoseOf (database catalogue) before other → FitsSchema (schemas_of catalogue) other → shown ≡ rows_shown (database catalogue) other name
  rows_of_own name shown rows other those fits =
      let P : Catalogue → Type 0 = λ c. AreThoseOf (database c) before other → FitsSchema (schemas_of c) other → shown ≡ rows_shown (database c) other name in
      subst P h.catalog (λ those fits. rows other clean h.sound own_fit those fits) those fits

  pub parts_of_own : (leaf : _) (shown : Option (List (List Value))) → (seen.is_clean new → seen.is_sound old → AreFit (database own) before → shown ≡ parts_kept (database own) before leaf) → shown ≡ parts_kept (database catalogue) before leaf
  parts_of_own leaf shown parts = subst (λ (c : Catalogue). shown ≡ parts_kept (database c) before leaf) h.catalog (parts clean h.sound own_fit)

-- what does not stop the database
pub not_stopped : {T : Type 0} (result : Result T Refusal) (refusal : Refusal) (stopped : Option Refusal) → IfErr result (λ told. stopped ≡ (if is_stop told then Some told else None)) → result ≡ Err refusal → is_stop refusal ≡ false → stopped ≡ None
not_stopped result refusal stopped is here goes = subst (λ done. IfErr done (λ told. stopped ≡ (if is_stop told then Some told else None))) here is ∙ rw (goes) refl

-- where nothing has happened the same is told
pub still_told : (catalogue : Catalogue) (old new : Standing catalogue) (entries : List Entry) → Tells (database catalogue) entries old.past → new.past ≡ old.past → Tells (database catalogue) (entries ++ []) new.past
still_told catalogue old new entries so same = subst (Tells (database catalogue) (entries ++ [])) (sym same) (subst (λ es. Tells (database catalogue) es old.past) (sym (append-nil entries)) so)

leaf_still : (mode : Mode) (catalogue : Catalogue) (name : List ℕ) (leaf : Option Leaf) (old new : Standing catalogue) (told : List ℕ) → ShowsLeafAs mode catalogue name leaf old new told → StandsStill old new
leaf_still mode catalogue name None old new told shows = shows.0
leaf_still mode catalogue name (Some leaf) old new told shows = shows.0

count_still : (mode : Mode) (catalogue : Catalogue) (name : List ℕ) (leaf : Option Leaf) (old new : Standing catalogue) (told : List ℕ) → CountsLeafAs mode catalogue name leaf old new told → StandsStill old new
count_still mode catalogue name None old new told counts = counts.0
count_still mode catalogue name (Some leaf) old new told counts = counts.0

-- what a command and tasks asked for and heard tells what has happened
done_told : (catalogue : Catalogue) (text : List ℕ) (old new : Standing catalogue) (reply : Result (List Notice) Refusal) (entries : List Entry) → Tells (database catalogue) entries old.past → (does : IsDone catalogue text old new reply) → Tells (database catalogue) (entries ++ said_in does.moves) new.past
done_told catalogue text old new reply entries so does = subst (Tells (database catalogue) (entries ++ said_in does.moves)) (sym does.happened) (does.tells entries so)

pub task_told : (mode : Mode) (catalogue : Catalogue) (task : Reading) (old new : Standing catalogue) (told : Told) (entries : List Entry) → Tells (database catalogue) entries old.past → (answers : AnswersTask mode catalogue task old new told) →
    Tells (database catalogue) (entries ++ said_by mode catalogue task old new told answers) new.past
task_told mode catalogue Nothing old new told entries so answers = absurd answers
task_told mode catalogue (Runs text) old new (Answered told) entries so answers = done_told catalogue text old new (Ok answers.heard) entries so answers.does
task_told mode catalogue (Runs text) old new (Refused told) entries so answers = done_told catalogue text old new (Err answers.refusal) entries so answers.does
task_told mode catalogue (ShowsRelation name) old new (Answered told) entries so answers = still_told catalogue old new entries so answers.0.past
task_told mode catalogue (ShowsRelation name) old new (Refused told) entries so answers = absurd answers
task_told mode catalogue (ShowsLeaf name) old new (Answered told) entries so answers = still_told catalogue old new entries so (leaf_still mode catalogue name (written_leaf name (catalogue_leaves catalogue)) old new told answers).past
task_told mode catalogue (ShowsLeaf name) old new (Refused told) entries so answers = absurd answers
task_told mode catalogue (DumpsRelation name) old new (Answered told) entries so answers = still_told catalogue old new entries so answers.0.past
task_told mode catalogue (DumpsRelation name) old new (Refused told) entries so answers = absurd answers
task_told mode catalogue (CountsLeaf name) old new (Answered told) entries so answers = still_told catalogue old new entries so (count_still mode catalogue name (written_leaf name (catalogue_leaves catalogue)) old new told answers).past
task_told mode catalogue (CountsLeaf name) old new (Refused told) entries so answers = absurd answers
task_told mode catalogue Unreadable old new told entries so answers = absurd answers

tasks_told : (mode : Mode) (catalogue : Catalogue) (answers : List (Reading × Told)) (old new : Standing catalogue) (entries : List Entry) → Tells (database catalogue) entries old.past → (answered : AnswersTasks mode catalogue answers old new) →
    Tells (database catalogue) (entries ++ said_by_tasks mode catalogue answers old new answered) new.past
tasks_told mode catalogue [] old new entries so same = still_told catalogue old new entries so (ap (λ (standing : Standing catalogue). standing.past) same)
tasks_told mode catalogue (first ∷ others) old new entries so answered =
    let said = said_by mode catalogue first.0 old answered.0 first.1 answered.1 in
    subst (λ es. Tells (database catalogue) es new.past) (append_assoc entries said (said_by_tasks mode catalogue others answered.0 new answered.2))
    (tasks_told mode catalogue others answered.0 new (entries ++ said) (task_told mode catalogue first.0 old answered.0 first.1 entries so answered.1) answered.2)

-- tasks over a database that was opened over whole relations are a run of them
pub run_over : {B : Type 0} (seen : Seen B) (mode : Mode) (catalogue : Catalogue) (origin : Origin) (tasks : List Reading) (written : List ℕ) (any_refused : Bool) (opened ended : B) → IsBegun seen catalogue origin opened → MovesFollow (database catalogue) → (seen.is_clean ended → seen.is_clean opened) →
    ((whole : Relations) (past : List (Deed (language (database catalogue)))) → seen.is_clean ended → GoesOn seen catalogue whole past opened → IsStretch seen mode catalogue whole tasks past opened ended written any_refused) →
    (whole : Relations) → BeginsWith catalogue origin whole → seen.is_clean ended → IsRunFrom mode catalogue whole tasks written any_refused
run_over seen mode catalogue origin tasks written any_refused opened ended fresh law was_clean works whole begins clean =
    let begun = fresh.goes_on whole begins (was_clean clean) in
    let stretch = works whole [] clean begun in
    record {
      opening = standing_of seen catalogue opened [];
      opened = record { served = begun.served; none = refl; idle = fresh.idle };
      end = standing_of seen catalogue ended stretch.later;
      work = stretch.work;
      served = stretch.goes_on.served;
      stands = stretch.goes_on.stands;
      serial = law.serial whole (seen.machines ended) _ stretch.later (tasks_told mode catalogue stretch.work.answers (standing_of seen catalogue opened []) (standing_of seen catalogue ended stretch.later) [] (record { phased = refl; stated = tt; heard = refl }) stretch.work.answered) stretch.goes_on.served;
    }

-- tasks over a database that was opened are a run of them
pub run_from : {B : Type 0} (seen : Seen B) (IsOrigin : Origin → Type 0) (mode : Mode) (catalogue : Catalogue) (tasks : List Reading) (written : List ℕ) (any_refused : Bool) (opened ended : B) → Begins seen IsOrigin catalogue opened → MovesFollow (database catalogue) → (seen.is_clean ended → seen.is_clean opened) →
    ((whole : Relations) (past : List (Deed (language (database catalogue)))) → seen.is_clean ended → GoesOn seen catalogue whole past opened → IsStretch seen mode catalogue whole tasks past opened ended written any_refused) → IsRun seen IsOrigin mode catalogue tasks written any_refused
run_from seen IsOrigin mode catalogue tasks written any_refused opened ended fresh law was_clean works = record {
  origin = fresh.0;
  is_origin = fresh.1;
  ended = ended;
  ran = run_over seen mode catalogue fresh.0 tasks written any_refused opened ended fresh.2 law was_clean works;
}
