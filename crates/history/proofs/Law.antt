-- Histories that replay, put together by their numbers, are a run of the machines, whichever catalogue came into force.
use Rattle.std.proofs.Common.{◌≡◌, ◌≢◌, sym, ap, ◌∙◌, subst, ℕ, zero, suc, List, [], ◌∷◌, ◌++◌, append-nil, append_assoc, map, Some, slice_get, arith}
use Rattle.std.proofs.Math.Path.{fun_ext}
use Rattle.meaning.specs.Whole.{Relations}
use Rattle.reader.specs.Printable.{AreDistinct}
use Rattle.catalog.specs.declared.relation.SplitRelation.{SplitRelation}
use Rattle.store.specs.declared.letter.Letter.{Letter}
use Rattle.protocol.specs.Desk.{Deed}
use Rattle.site.specs.Seat.{Seat}
use Rattle.desk.specs.Database.{Database, language}
use Rattle.desk.specs.OfCatalogue.{IsOfCatalogue}
use Rattle.world.specs.declared.event.Entry as world
use Rattle.world.specs.Listed.{FitsList}
use Rattle.world.specs.Posted.{letters_in}
use Rattle.world.specs.Runs.{IsRun, RunsAreSerial, RunsOn}
use Rattle.world.specs.Sites.{reseated}
use Rattle.world.proofs.RunGoesOn.{runs_further, runs_same}
use Rattle.history.specs.declared.entry.Entry.{Entry}
use Rattle.history.specs.Brought.{HaveHappened, IsBroughtAt, happened_by}
use Rattle.history.specs.DeskHistory.{DeskMoves, DeskState}
use Rattle.history.specs.Merge.{Act, of_cell}
use Rattle.history.specs.Replays.{Replays}
use Rattle.history.specs.Weaving.{IsStill, WovenAreRuns, WovenAreSerial, machines_with}
use Rattle.history.proofs.Events.{Goes, desk_answers, site_answers}
use Rattle.history.proofs.Opens.{first_run, firsts, machines_over}
use Rattle.history.proofs.Turns.{SitesReplay, act_of, all_replay, cell_here, cell_other, none_left, turn}

module _ (db : Database) (later : List (List (List ℕ) × List SplitRelation)) (some : later ≢ []) (whole : Relations) (distinct : AreDistinct db.sites) where
  -- machines after an act, from which the acts behind it lead on
  record Moved (entry : Entry) (acts : List (Act Entry)) (last : DeskState) (lasts : List Seat) (entries happened : List world.Entry) (past : List (Deed (language db))) : Type 0 where
    desk : DeskState
    seats : List Seat
    goes : Goes db whole (machines_over desk seats later) entries past entry happened
    desk_left : Replays (DeskMoves db) desk (of_cell zero acts) last
    sites_left : SitesReplay (λ c. of_cell (suc c) acts) seats lasts

  -- one act
  moved : (cell : ℕ) (entry : Entry) (acts : List (Act Entry)) (desk last : DeskState) (seats lasts : List Seat) (entries : List world.Entry) (past : List (Deed (language db))) (n : ℕ) → IsRun db whole (machines_over desk seats later) entries past →
      Replays (DeskMoves db) desk (of_cell zero (act_of cell entry ∷ acts)) last → SitesReplay (λ c. of_cell (suc c) (act_of cell entry ∷ acts)) seats lasts → IsBroughtAt db.sites (letters_in entries) n cell entry.input →
      Moved entry acts last lasts entries (happened_by entry.fault db.sites n cell entry) past
  moved zero entry acts desk last seats lasts entries past n so desk_replays sites_replay brought =
      let played : Replays (DeskMoves db) desk (entry ∷ of_cell zero acts) last = subst (λ row. Replays (DeskMoves db) desk row last) (cell_here zero entry acts) desk_replays in
      record {
        desk = played.0;
        seats = seats;
        goes = desk_answers db later some whole desk played.0 seats entries past n entry so entry.fault played.1.0 brought;
        desk_left = played.1.1;
        sites_left = subst (λ rows. SitesReplay rows seats lasts) (fun_ext (λ c. cell_other zero (suc c) entry acts (λ e. omega (arith, e)))) sites_replay;
      }
  moved (suc k) entry acts desk last seats lasts entries past n so desk_replays sites_replay brought =
      let names = so.fit.names in
      let apart : (c : ℕ) → c ≢ k → suc k ≢ suc c = λ c ne e. ne (omega (arith, e)) in
      let turned = turn k entry (λ c. of_cell (suc c) (act_of (suc k) entry ∷ acts)) (λ c. of_cell (suc c) acts) seats lasts (record { here = cell_here (suc k) entry acts; others = λ c ne. cell_other (suc k) (suc c) entry acts (apart c ne) }) (subst AreDistinct (sym names) distinct) sites_replay in
      record {
        desk = desk;
        seats = reseated turned.seat.name turned.new seats;
        goes = site_answers db later whole desk seats turned.seat turned.new k entries past n entry so turned.there (subst (λ sites. slice_get sites k ≡ Some turned.seat.name) names turned.named) entry.fault turned.moves brought;
        desk_left = subst (λ row. Replays (DeskMoves db) desk row last) (cell_other (suc k) zero entry acts (λ e. omega (arith, e))) desk_replays;
        sites_left = turned.left;
      }

  -- act after act
  goes_on : (acts : List (Act Entry)) (desk last : DeskState) (seats lasts : List Seat) (entries happened : List world.Entry) (past : List (Deed (language db))) → IsRun db whole (machines_over desk seats later) entries past →
      Replays (DeskMoves db) desk (of_cell zero acts) last → SitesReplay (λ c. of_cell (suc c) acts) seats lasts → HaveHappened db.sites (letters_in entries) acts happened → RunsOn db whole (machines_over last lasts later) (entries ++ happened) past
  goes_on [] desk last seats lasts entries happened past so desk_replays sites_replay none =
      runs_same db whole (machines_over desk seats later) (machines_over last lasts later) entries (entries ++ happened) past so (λ i. machines_over (desk_replays i) (none_left seats lasts sites_replay i) later) (ap (λ (all : List world.Entry). entries ++ all) none ∙ append-nil entries)
  goes_on (act ∷ acts) desk last seats lasts entries happened past so desk_replays sites_replay did =
      let n = did.0 in
      let rest = did.1.1.0 in
      let one = happened_by act.entry.fault db.sites n act.cell act.entry in
      let here = moved act.cell act.entry acts desk last seats lasts entries past n so desk_replays sites_replay did.1.0 in
      let others = goes_on acts here.desk last here.seats lasts (entries ++ one) rest (past ++ here.goes.runs.deeds) here.goes.runs.run_on here.desk_left here.sites_left (subst (λ (sent : List Letter). HaveHappened db.sites sent acts rest) (sym here.goes.letters) did.1.1.1.1) in
      subst (λ (all : List world.Entry). RunsOn db whole (machines_over last lasts later) all past) (append_assoc entries one rest ∙ ap (λ (all : List world.Entry). entries ++ all) (sym did.1.1.1.0))
      (runs_further db whole (machines_over here.desk here.seats later) (machines_over last lasts later) (entries ++ one) ((entries ++ one) ++ rest) past here.goes.runs others)

-- ---- the law
-- some catalogue
abbrev another : List (List (List ℕ) × List SplitRelation)
another = ([], []) ∷ []

-- which catalogues come later is nothing of the protocol's world
as_they_come : (db : Database) (whole : Relations) (last : DeskState) (seats : List Seat) (later : List (List (List ℕ) × List SplitRelation)) (entries : List world.Entry) (past : List (Deed (language db))) → FitsList db (machines_over last seats later) →
    IsRun db whole (machines_over last seats another) entries past → IsRun db whole (machines_over last seats later) entries past
as_they_come db whole last seats later entries past fit run = record { version = run.version; opening = run.opening; opens = run.opens; events = run.events; are = run.are; is = run.is; placed = run.placed; explained = run.explained; tells = run.tells; fit = fit }

-- machines are fit for those that come, where nobody moves if none does
fit_for : (db : Database) (last : DeskState) (seats : List Seat) (later : List (List (List ℕ) × List SplitRelation)) → IsStill db last later → FitsList db (machines_over last seats another) → FitsList db (machines_over last seats later)
fit_for db last seats later still fit = record { names = fit.names; leaves = fit.leaves; desk = fit.desk; within = fit.within; sites = fit.sites; still = still }

pub woven_run : (db : Database) → IsOfCatalogue db → WovenAreRuns db
woven_run db of whole opening entries last pasts later acts happened recorded still rebuilds merged did =
    let distinct : AreDistinct db.sites = subst AreDistinct (sym (of.sites zero)) (of.formed zero).distinct in
    let some : another ≢ [] = λ e. cc in
    let seats = map (λ past. past.last) pasts in
    let run = goes_on db another some whole distinct acts recorded.desk.first last (firsts pasts recorded.sites) seats [] happened [] (first_run db whole opening entries last pasts recorded rebuilds another)
    (subst (λ row. Replays (DeskMoves db) recorded.desk.first row last) (sym (merged.whole zero)) recorded.desk.replays) (all_replay (λ c. of_cell (suc c) acts) pasts recorded.sites (λ c. merged.whole (suc c))) did in
    (run.deeds, as_they_come db whole last seats later happened run.deeds (fit_for db last seats later still run.run_on.fit) run.run_on)

-- and so they are serial
pub woven_serial : (db : Database) → WovenAreRuns db → RunsAreSerial db → WovenAreSerial db
woven_serial db runs serial whole opening entries last pasts later acts happened recorded still rebuilds merged did =
    let run = runs whole opening entries last pasts later acts happened recorded still rebuilds merged did in
    serial whole (machines_with last pasts later) happened run.0 run.1
