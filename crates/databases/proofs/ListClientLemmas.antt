-- Lemmas on a database for one client over a list of catalogues.
use Rattle.std.proofs.Common.{◌≡◌, ◌++◌, ◌∷◌, [], IfOk, OnErr, OnOk, map, ℕ, Bool, suc, List, Option, None, false, Result, Ok, Err, ap, refl, subst, sym, ◌∙◌}
use Rattle.terms.specs.declared.value.Value.{Value}
use Rattle.meaning.specs.declared.statement.Statement.{Statement}
use Rattle.meaning.specs.Whole.{Relations}
use Rattle.catalog.specs.declared.relation.SplitRelation.{SplitRelation}
use Rattle.catalog.specs.Catalogue.{Catalogue}
use Rattle.catalog.specs.Relation.{catalogue_of}
use Rattle.store.specs.declared.name.Txn.{Txn}
use Rattle.protocol.specs.Catalogues.{stated}
use Rattle.protocol.specs.Desk.{Deed}
use Rattle.protocol.specs.Language.{Name}
use Rattle.protocol.specs.Letters.{txn_name}
use Rattle.protocol.specs.Local.{local}
use Rattle.protocol.specs.Serial.{committed}
use Rattle.desk.specs.declared.desk.Desk.{Desk}
use Rattle.desk.specs.declared.refusal.Refusal.{Refusal}
use Rattle.desk.specs.declared.reply.Notice.{Notice}
use Rattle.desk.specs.CatalogueDatabase.{databases}
use Rattle.desk.specs.Database.{Database, language, statements}
use Rattle.desk.specs.OfCatalogue.{AreNextOf}
use Rattle.world.specs.Commands.{IsCommand}
use Rattle.world.specs.Course.{CommitsNone, said_in}
use Rattle.world.specs.Listed.{FitsList, IsListed, StandsIn}
use Rattle.world.specs.ListServed.{IsListServed, ListHeardIsSerial, ListMade}
use Rattle.world.specs.Machines.{Machines}
use Rattle.world.specs.Replies.{Tells, committed_in}
use Rattle.world.specs.Runs.{relations_after}
use Rattle.world.specs.Settled.{ShowsSerial, after_committed, rows_shown}
use Rattle.world.specs.Stopping.{is_stop}
use Rattle.world.proofs.Heard.{map_twice, what_stated, who_committed}
use Rattle.forms.specs.declared.mode.Mode.{Mode}
use Rattle.forms.specs.Mode.{line_in}
use Rattle.lines.specs.declared.reply.Reply as replies
use Rattle.databases.specs.PlayText.{refused_text}
use Rattle.lines.specs.Reply.{Answered, Refused, told_by}
use Rattle.lines.specs.Script.{Reading, Runs}
use Rattle.databases.specs.Client.{Seen, heard_text}
use Rattle.databases.specs.ListClient.{AreBehind, GoesOnOver, Happened, IsAnsweredOver, IsDoneOver, IsTold, StaysStill, list_standing_of, unhappened}
use Rattle.databases.specs.Origin.{BeginsWithOver, IsBegunOver, Origin}
use Rattle.databases.specs.Solo.{IsRunFromOver, IsStretchOver}
use Rattle.databases.proofs.ClientLemmas.{uncounted}

-- ---- the catalogues of a list
next_of : (db : Database) (n : ℕ) (later : List (List (List ℕ) × List SplitRelation)) → AreBehind db n (map catalogue_of later) → AreNextOf db n later
next_of db n [] behind = tt
next_of db n (next ∷ rest) behind = (behind.0, next_of db (suc n) rest behind.1)

pub behind_of : (db : Database) (n : ℕ) (later : List (List (List ℕ) × List SplitRelation)) → AreNextOf db n later → AreBehind db n (map catalogue_of later)
behind_of db n [] behind = tt
behind_of db n (next ∷ rest) behind = (behind.0, behind_of db (suc n) rest behind.1)

-- the coordinator of a database that goes on stands in its list
pub stands_in : {D : Type 0} (db : Database) (desk : Desk D) → db.catalogue desk.volatile.version ≡ catalogue_of desk.catalog → AreBehind db desk.volatile.version (map catalogue_of desk.later.items) → StandsIn db desk
stands_in db desk here next = record { here = here; next = next_of db desk.volatile.version desk.later.items next }

-- ---- where the count of refusals is all that differs, machines are served as before
counted_list : (db : Database) (machines : Machines) → FitsList db (uncounted machines) → FitsList db machines
counted_list db machines fit = record { names = fit.names; leaves = fit.leaves; desk = fit.desk; within = fit.within; sites = fit.sites; still = fit.still }

uncounted_list : (db : Database) (machines : Machines) → FitsList db machines → FitsList db (uncounted machines)
uncounted_list db machines fit = record { names = fit.names; leaves = fit.leaves; desk = fit.desk; within = fit.within; sites = fit.sites; still = fit.still }

list_still : (db : Database) (whole : Relations) (old new : Machines) (past : List (Deed (language db))) → uncounted new ≡ uncounted old → IsListServed db whole old past → IsListServed db whole new past
list_still db whole old new past same served =
    let before : IsListServed db whole (uncounted old) past = record { version = served.version; reached = served.reached; fit = uncounted_list db old served.fit } in
    let after = subst (λ (machines : Machines). IsListServed db whole machines past) (sym same) before in
    record { version = after.version; reached = after.reached; fit = counted_list db new after.fit }

-- ---- what is told
-- nothing has happened, and nothing is told
pub nothing_told : (db : Database) (whole other : Relations) (machines : Machines) → whole ≡ other → IsListServed db whole machines [] → IsTold db other machines unhappened
nothing_told db whole other machines same served = record { served = subst (λ (w : Relations). IsListServed db w machines []) same served; tells = record { phased = refl; stated = tt; heard = refl } }

-- what the committed transactions have made of a relation is what those of the entries make of it, one after another
pub rows_serial : (db : Database) (whole : Relations) (happened : Happened db) (name : List ℕ) (shown : Option (List (List Value))) → Tells db happened.entries happened.deeds → shown ≡ rows_shown db (after_committed db happened.deeds whole) name → ShowsSerial db whole happened.entries name shown
rows_serial db whole happened name shown so is =
    let stated_in : Name → List Statement = stated local (statements db) happened.deeds in
    let of : Txn → List Statement = λ txn. stated_in (txn_name txn) in
    let all : map stated_in (committed happened.deeds) ≡ map of (committed_in happened.entries) = ap (map stated_in) (sym (who_committed db happened.entries happened.deeds so)) ∙ map_twice stated_in txn_name (committed_in happened.entries) in
    record {
      statements = of;
      spelled = what_stated db happened.entries happened.deeds so;
      rows = is ∙ ap (λ (ss : List (List Statement)). rows_shown db (relations_after db ss whole) name) all;
    }

-- ---- calls
module _ {B : Type 0} {seen : Seen B} (db : Database) (whole : Relations) (happened : Happened db) (old new : B) (clean : seen.is_clean new) (h : GoesOnOver seen db whole happened old) where
  abbrev Sounds : Type 0
  Sounds = seen.is_clean new → seen.is_sound old → seen.is_sound new

  -- the catalogue in force now, of the number that the machines keep, and those behind it, are those of the list
  abbrev StandsNow : Type 0
  StandsNow = (seen.version new ≡ (seen.machines new).table.version) × (db.catalogue (seen.version new) ≡ seen.catalogue new) × AreBehind db (seen.version new) (seen.later new)

  goes_over : (later : Happened db) → seen.stopped new ≡ None → StandsNow → Sounds → IsTold db whole (seen.machines new) later → GoesOnOver seen db whole later new
  goes_over later going stands sound told = record { going = going; number = stands.0; here = stands.1; next = stands.2; sound = sound clean h.sound; told = told }

  -- something is shown
  pub shows_over : (seen.current new ≡ seen.current old) × (seen.stopped new ≡ seen.stopped old) → seen.version new ≡ seen.version old → seen.catalogue new ≡ seen.catalogue old → seen.later new ≡ seen.later old → Sounds →
      (seen.is_clean new → seen.is_sound old → uncounted (seen.machines new) ≡ uncounted (seen.machines old)) → GoesOnOver seen db whole happened new
  shows_over still version catalogue later sound stays =
      let number = version ∙ h.number ∙ sym (ap (λ (machines : Machines). machines.table.version) (stays clean h.sound)) in
      let here = ap (λ (n : ℕ). db.catalogue n) version ∙ h.here ∙ sym catalogue in
      let next = subst (λ (n : ℕ). AreBehind db n (seen.later new)) (sym version) (subst (λ (cs : List Catalogue). AreBehind db (seen.version old) cs) (sym later) h.next) in
      goes_over happened (still.1 ∙ h.going) (number, here, next) sound (record { served = list_still db whole (seen.machines old) (seen.machines new) happened.deeds (stays clean h.sound) h.told.served; tells = h.told.tells })

  pub stays_still : (seen.current new ≡ seen.current old) × (seen.stopped new ≡ seen.stopped old) → (seen.is_clean new → seen.is_sound old → uncounted (seen.machines new) ≡ uncounted (seen.machines old)) →
      StaysStill (list_standing_of seen old happened) (list_standing_of seen new happened)
  stays_still still stays = record { machines = stays clean h.sound; current = still.0; happened = refl }

  -- a command makes moves
  abbrev Makes : List ℕ → Result (List Notice) Refusal → Type 0
  Makes text reply = ListMade db whole (seen.machines new) happened.deeds (λ moves. IsCommand db.schemas text (seen.current old) (seen.current new) moves reply × OnErr reply (CommitsNone moves))

  abbrev more : (text : List ℕ) (reply : Result (List Notice) Refusal) → Makes text reply → Happened db
  more text reply made = record { deeds = happened.deeds ++ made.deeds; entries = happened.entries ++ said_in made.moves }

  told_more : (text : List ℕ) (reply : Result (List Notice) Refusal) (made : Makes text reply) → IsTold db whole (seen.machines new) (more text reply made)
  told_more text reply made = record { served = made.served; tells = made.tells happened.entries h.told.tells }

  is_done_over : (text : List ℕ) (reply : Result (List Notice) Refusal) (made : Makes text reply) → IsDoneOver db whole text (list_standing_of seen old happened) (list_standing_of seen new (more text reply made)) reply
  is_done_over text reply made = record { moves = made.moves; deeds = made.deeds; command = made.is.0; reasons = made.reasons; happened = refl; told = told_more text reply made }

  -- it is heard
  pub is_heard_over : (mode : Mode) (text : List ℕ) (heard : List Notice) (told : List ℕ) → Makes text (Ok heard) → seen.stopped new ≡ None → StandsNow → Sounds → told ≡ heard_text mode heard → IsAnsweredOver seen mode db whole (Runs text) happened old new (Answered told)
  is_heard_over mode text heard told made going stands sound lines = record {
    later = more text (Ok heard) made;
    goes_on = goes_over (more text (Ok heard) made) going stands sound (told_more text (Ok heard) made);
    answers = record { heard = heard; does = is_done_over text (Ok heard) made; lines = lines };
  }

  -- a refusal that does not stop the database is told
  pub is_turned_away_over : {E : Type 0} (mode : Mode) (text : List ℕ) (refusal : Refusal) (result : Result replies.Reply E) → (is_stop refusal ≡ false → Makes text (Err refusal)) → (is_stop refusal ≡ false → seen.stopped new ≡ None) → StandsNow → Sounds →
      seen.current new ≡ seen.current old → OnOk result (is_stop refusal ≡ false) → IfOk result (λ reply. told_by reply ≡ Refused (line_in mode (refused_text refusal))) → IfOk result (λ reply. IsAnsweredOver seen mode db whole (Runs text) happened old new (told_by reply))
  is_turned_away_over mode text refusal (Ok reply) makes going stands sound still goes told =
      let made = makes goes in
      subst (IsAnsweredOver seen mode db whole (Runs text) happened old new) (sym told) (record {
        later = more text (Err refusal) made;
        goes_on = goes_over (more text (Err refusal) made) (going goes) stands sound (told_more text (Err refusal) made);
        answers = record { refusal = refusal; does = is_done_over text (Err refusal) made; goes_on = goes; same = still; uncommitted = made.uncommitted made.is.1; line = refl };
      })
  is_turned_away_over mode text refusal (Err e) makes going stands sound still goes told = tt

-- ---- a run of tasks over a database of a list that was opened
pub list_run : {B : Type 0} (seen : Seen B) (mode : Mode) (first : Catalogue) (rest : List Catalogue) (origin : Origin) (tasks : List Reading) (written : List ℕ) (any_refused : Bool) (opened ended : B) → IsBegunOver seen first rest origin opened → IsListed (databases first rest) → ListHeardIsSerial (databases first rest) →
    (seen.is_clean ended → seen.is_clean opened) → ((whole : Relations) (happened : Happened (databases first rest)) → seen.is_clean ended → GoesOnOver seen (databases first rest) whole happened opened → IsStretchOver seen mode (databases first rest) whole tasks happened opened ended written any_refused) →
    (whole : Relations) → BeginsWithOver first rest origin whole → seen.is_clean ended → IsRunFromOver mode (databases first rest) whole tasks written any_refused
list_run seen mode first rest origin tasks written any_refused opened ended begun listed law was_clean works whole begins clean =
    let fresh = begun.goes_on whole begins (was_clean clean) in
    let stretch = works whole unhappened clean fresh in
    record {
      opening = list_standing_of seen opened unhappened;
      opened = record { told = fresh.told; none = refl; idle = begun.idle };
      end = list_standing_of seen ended stretch.later;
      work = stretch.work;
      told = stretch.goes_on.told;
      serial = law whole (seen.machines ended) stretch.later.entries stretch.later.deeds stretch.goes_on.told.tells stretch.goes_on.told.served;
    }
