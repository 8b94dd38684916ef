-- A step of the machines is one event more of a run.
use Rattle.std.proofs.Common.{◌≡◌, refl, sym, ap, ◌∙◌, subst, ℕ, zero, suc, Bool, true, List, [], ◌∷◌, ◌++◌, map, Some, slice_get, Result, Ok, Err, IfOk, false, ◌⊎◌}
use Rattle.std.proofs.lemmas.List.{map-append}
use Rattle.std.specs.List.{AllByRecursion, filter_map}
use Rattle.meaning.specs.Whole.{Relations}
use Rattle.store.specs.declared.letter.Letter as letters
use Rattle.reader.specs.Printable.{AreDistinct}
use Rattle.catalog.specs.declared.relation.SplitRelation.{SplitRelation}
use Rattle.catalog.specs.Catalogue.{Catalogue}
use Rattle.protocol.specs.Desk.{Choice, Deed}
use Rattle.protocol.specs.Language.{Lang}
use Rattle.protocol.specs.Letter.{Letter}
use Rattle.protocol.specs.Serial.{AllExplained, Explained}
use Rattle.protocol.specs.World as world
use Rattle.protocol.specs.World.{World, comes, delivered, happens, run}
use Rattle.desk.specs.Request.{IsOver}
use Rattle.desk.specs.Database.{Database, language, sent}
use Rattle.desk.specs.OfCatalogue.{InForce, IsOfCatalogue}
use Rattle.desk.specs.State.{notice_of}
use Rattle.desk.specs.Transition.{told}
use Rattle.desk.specs.declared.refusal.Refusal.{Refusal}
use Rattle.desk.specs.declared.reply.Out.{Out}
use Rattle.protocol.proofs.Basics.{some_is}
use Rattle.world.specs.declared.event.Entry.{Entry}
use Rattle.world.specs.declared.event.Event as events
use Rattle.world.specs.declared.event.Event.TheVariants as event
use Rattle.world.specs.declared.fault.Fault.{Fault}
use Rattle.world.specs.Events.{IsEvent}
use Rattle.world.specs.EventApplied.{told_by_desk}
use Rattle.world.specs.Machines.{AreOfPlaces, Machines, world_of}
use Rattle.world.specs.Posted.{letters_in}
use Rattle.protocol.specs.Accepted.{IsAccepted}
use Rattle.world.specs.Runs.{IsRun, IsSpared, Spares, StepsOn, entry_of}
use Rattle.world.specs.Listed.{FitsList}
use Rattle.world.specs.Taking.{ListCameUnless}
use Rattle.world.proofs.Placed.{placed_both}
use Rattle.world.specs.Replies.{Shows}
use Rattle.world.proofs.Told.{event_more, one_more, tells_more}

one_event_more : {L : Lang} (es : List (world.Event L)) (e : world.Event L) (w : World L) → run (es ++ e ∷ []) w ≡ happens (run es w) e
one_event_more [] e w = refl
one_event_more (first ∷ es) e w = one_event_more es e (happens w first)

pub all_both : {A : Type 0} (P : A → Type 0) (xs ys : List A) → AllByRecursion P xs → AllByRecursion P ys → AllByRecursion P (xs ++ ys)
all_both P [] ys one other = other
all_both P (x ∷ xs) ys one other = (one.0, all_both P xs ys one.1 other)

-- what a step comes to, by its parts
pub goes_by : (db : Database) (whole : Relations) (before after : Machines) (entries : List Entry) (past : List (Deed (language db))) (what : events.Event) (out : Out) (step : World (language db) → World (language db)) (e : world.Event (language db)) →
    IsRun db whole before entries past → (deeds : List (Deed (language db))) → FitsList db after → ((waiting : List (Letter (language db))) (past : List (Deed (language db))) → step (world_of db before waiting past) ≡ world_of db after (waiting ++ map (sent db) out.letters) (past ++ deeds)) → AreOfPlaces db out.letters → AllExplained deeds →
    map notice_of out.replies ≡ filter_map (told db) deeds → happens (world_of db before (map (sent db) (letters_in entries)) past) e ≡ step (world_of db before (map (sent db) (letters_in entries)) past) →
    IsEvent db before.table.version what out.kept e → IsAccepted (world_of db before (map (sent db) (letters_in entries)) past) e → Shows db what out.replies deeds → StepsOn db whole before after entries (entries ++ entry_of what out ∷ []) past
goes_by db whole before after entries past what out step e so deeds fit is placed explained replies event is_event accepted shows =
    let goes : happens (world_of db before (map (sent db) (letters_in entries)) past) e ≡ world_of db after (map (sent db) (letters_in (entries ++ entry_of what out ∷ []))) (past ++ deeds) =
    event ∙ is (map (sent db) (letters_in entries)) past ∙
    ap (λ (all : List (Letter (language db))). world_of db after all (past ++ deeds)) (sym (map-append (sent db) (letters_in entries) out.letters) ∙ ap (map (sent db)) (sym (one_more (λ (entry : Entry). entry.out.letters) entries (entry_of what out)))) in
    record {
      entry = entry_of what out;
      added = refl;
      step = e;
      is_event = is_event;
      accepted = accepted;
      deeds = deeds;
      is = goes;
      run_on = record {
        version = so.version;
        opening = so.opening;
        opens = so.opens;
        events = so.events ++ e ∷ [];
        are = event_more db so.opening entries so.events (entry_of what out) e so.are (subst (λ n. IsEvent db n what out.kept e) (ap (λ (w : World (language db)). w.version) (sym so.is)) is_event);
        is = one_event_more so.events e so.opening ∙ ap (λ w. happens w e) so.is ∙ goes;
        placed = subst (AreOfPlaces db) (sym (one_more (λ (entry : Entry). entry.out.letters) entries (entry_of what out))) (placed_both db (letters_in entries) out.letters so.placed placed);
        explained = all_both Explained past deeds so.explained explained;
        tells = tells_more db entries (entry_of what out) past deeds so.tells shows replies;
        fit = fit;
      };
    }

-- ---- the events
pub sent_at : (db : Database) (posted : List letters.Letter) (n : ℕ) (letter : letters.Letter) → slice_get posted n ≡ Some letter → slice_get (map (sent db) posted) n ≡ Some (sent db letter)
sent_at db [] zero letter e = cc
sent_at db [] (suc n) letter e = cc
sent_at db (l ∷ posted) zero letter e = ap (λ x. Some (sent db x)) (some_is e)
sent_at db (l ∷ posted) (suc n) letter e = sent_at db posted n letter e

-- the flag of a delivery is honoured. made: whether the store call is kept with which the letter came
spared_by : (Refused : Type 0) (db : Database) (before after : Machines) (entries : List Entry) (past : List (Deed (language db))) (out : Out) (n : ℕ) (letter : letters.Letter) (kept : Bool) → slice_get (letters_in entries) n ≡ Some letter → (made : Bool) (choice : Choice (language db)) (deeds : List (Deed (language db))) →
    ((waiting : List (Letter (language db))) (past : List (Deed (language db))) → comes (world_of db before waiting past) made choice (sent db letter) ≡ world_of db after (waiting ++ map (sent db) out.letters) (past ++ deeds)) → (made ≡ true) ⊎ ((kept ≡ false) ⊎ Refused) →
    IsSpared Refused db before after entries (entries ++ entry_of (event.Deliver n kept) out ∷ []) past n kept
spared_by Refused db before after entries past out n letter kept there made choice deeds is spared = record {
  kept = made;
  choice = choice;
  deeds = deeds;
  is = ap (delivered (world_of db before (map (sent db) (letters_in entries)) past) made choice) (sent_at db (letters_in entries) n letter there) ∙ is (map (sent db) (letters_in entries)) past ∙
      ap (λ (all : List (Letter (language db))). world_of db after all (past ++ deeds)) (sym (map-append (sent db) (letters_in entries) out.letters) ∙ ap (map (sent db)) (sym (one_more (λ (entry : Entry). entry.out.letters) entries (entry_of (event.Deliver n kept) out))));
  spared = spared;
}

pub list_spared_on : (Refused : Type 0) (db : Database) (before after : Machines) (entries : List Entry) (past : List (Deed (language db))) (out : Out) (n : ℕ) (letter : letters.Letter) (kept : Bool) → slice_get (letters_in entries) n ≡ Some letter →
    ListCameUnless ((kept ≡ false) ⊎ Refused) db letter before after out.letters out.replies → IsSpared Refused db before after entries (entries ++ entry_of (event.Deliver n kept) out ∷ []) past n kept
list_spared_on Refused db before after entries past out n letter kept there taken = spared_by Refused db before after entries past out n letter kept there taken.kept taken.came.choice taken.came.leads.deeds taken.came.leads.is taken.spared

-- entries of a log with room are those that it had, and one is put behind them
pub step_pushed : (db : Database) (whole : Relations) (before after : Machines) (entries roomy more : List Entry) (past : List (Deed (language db))) (entry : Entry) → roomy ≡ entries → more ≡ roomy ++ entry ∷ [] → StepsOn db whole before after roomy (roomy ++ entry ∷ []) past → StepsOn db whole before after entries more past
step_pushed db whole before after entries roomy more past entry same pushed on = subst (λ es. StepsOn db whole before after es more past) same (subst (λ es. StepsOn db whole before after roomy es past) (sym pushed) on)

pub spares_pushed : (Refused : Type 0) (db : Database) (before after : Machines) (entries roomy more : List Entry) (past : List (Deed (language db))) (entry : Entry) (what : events.Event) → roomy ≡ entries → more ≡ roomy ++ entry ∷ [] → Spares Refused db before after roomy (roomy ++ entry ∷ []) past what → Spares Refused db before after entries more past what
spares_pushed Refused db before after entries roomy more past entry what same pushed on = subst (λ es. Spares Refused db before after es more past what) same (subst (λ es. Spares Refused db before after roomy es past what) (sym pushed) on)

-- ---- what clients ask for
pub over_of : (db : Database) (n : ℕ) (catalog : List (List ℕ) × List SplitRelation) → IsOfCatalogue db → InForce db n catalog → IsOver db catalog.0
over_of db n catalog of is =
    let sites : db.sites ≡ catalog.0 = of.sites n ∙ ap (λ (x : Catalogue). x.sites) is in
    record { sites = sites; distinct = subst AreDistinct (sym (of.sites n)) (of.formed n).distinct }

-- what the coordinator answers is answered on
pub by_desk_ok : (P : Out → Type 0) (done : Result Out Refusal) (result : Result Out Fault) → result ≡ told_by_desk done → IfOk done P → IfOk result P
by_desk_ok P (Ok out) result is holds = subst (λ r. IfOk r P) (sym is) holds
by_desk_ok P (Err refusal) result is holds = subst (λ r. IfOk r P) (sym is) tt
