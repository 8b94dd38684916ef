-- What the history of the coordinator's cell makes of a call.
use Rattle.std.proofs.Common.{◌≡◌, ◌≢◌, sym, ap, ◌∙◌, subst, refl, ℕ, List, [], ◌∷◌, ◌++◌, map, false, Option, Some, None}
use Rattle.catalog.specs.declared.relation.SplitRelation.{SplitRelation}
use Rattle.catalog.specs.Relation.{catalogue_of}
use Rattle.protocol.specs.Desk.{is_moving}
use Rattle.store.specs.declared.commit.DeskKept.{DeskKept}
use Rattle.store.specs.DeskContent.{DeskContent, IsUnchanged, Lists}
use Rattle.store.specs.Frame.{LeavesStore}
use Rattle.desk.specs.declared.desk.Desk.{Desk}
use Rattle.desk.specs.Database.{Database}
use Rattle.desk.specs.OfCatalogue.{InForce, IsNextOf, IsOfCatalogue, first_in}
use Rattle.desk.specs.Recovery.{Rises}
use Rattle.desk.specs.Request.{IsOver}
use Rattle.desk.specs.State.{desk_of, txn_at, volatile_of}
use Rattle.world.specs.declared.event.Call.TheVariants as call
use Rattle.world.specs.declared.fault.Fault.{Fault}
use Rattle.world.proofs.InForce.{nobody_rises}
use Rattle.world.proofs.Running.{over_of}
use Rattle.history.specs.declared.entry.Entry.{Entry}
use Rattle.history.specs.declared.entry.Input as inputs
use Rattle.history.specs.declared.entry.Input.TheVariants as input
use Rattle.history.specs.Catalogues.{HasFrom, IsOfCatalogues, catalogs_after, catalogues_of}
use Rattle.history.specs.DeskHistory.{AddsDesk, DeskAnswers, DeskHolds, DeskMoves, DeskRecorded, DeskReplays, DeskState, IsFit, desk_from}
use Rattle.history.proofs.DeskMachine.{desk_unchanged}
use Rattle.history.proofs.Following.{Catalogs, Left, all_of, follows_on, has_next, left_after}
use Rattle.history.proofs.Growing.{replays_more}

-- after a call, what is in memory fits the store again
moved_fit : (db : Database) (told : Option Fault) (before : DeskState) (entry : Entry) (after : DeskState) → DeskAnswers db told before entry after → IsFit db before → IsFit db after
moved_fit db None before entry after accepts fit = accepts.fit
moved_fit db (Some told) before entry after refuses fit = subst (IsFit db) (sym refuses.same) fit

module _ {D : Type 0} (is_clean is_sound : D → Type 0) (refused : D → ℕ) (content : D → DeskContent) (catalogs : List (List (List ℕ) × List SplitRelation)) (opening : DeskKept) where
  -- a history begins: nothing has happened since the coordinator started but that its store was read
  pub desk_opens : (none : List Entry) (old new : Desk D) → none ≡ [] → map catalogue_of catalogs ≡ catalogues_of old → LeavesStore is_clean is_sound refused old.store new.store → new.volatile ≡ old.volatile → new.catalog ≡ old.catalog → new.later.items ≡ old.later.items → (is_clean new.store → is_sound old.store) →
      (is_clean new.store → Lists (content new.store) opening) → (is_clean new.store → is_sound old.store → IsUnchanged (content old.store) (content new.store)) → ((db : Database) → IsOver db old.catalog.0 → is_clean old.store → Rises db (content old.store) (volatile_of old.volatile)) →
      DeskHolds is_clean is_sound content catalogs opening none new
  desk_opens none old new empty copies store memory catalog later learnt lists same rises =
      let are : map catalogue_of catalogs ≡ catalogues_of new = copies ∙ sym (ap all_of (λ i. (catalog i, later i))) in
      record {
        passed = [];
        left = are;
        sound = λ clean. store.sound clean (learnt clean);
        replays = λ clean db is.
            let has : HasFrom db opening.version (catalogues_of new) = subst (HasFrom db opening.version) are is.has in
            let over = over_of db opening.version old.catalog is.base.of_catalogue (has.0 ∙ ap catalogue_of catalog) in
            let rose : Rises db (content new.store) (volatile_of new.volatile) = subst (λ (desk : DeskState). Rises db desk.content desk.table) (sym (desk_unchanged content old new (same clean (learnt clean)) (ap volatile_of memory))) (rises db over (store.clean clean)) in
            let number : opening.version ≡ new.volatile.version = (lists clean).catalogue ∙ sym rose.fits.version in
            record {
              recorded = subst (λ (entries : List Entry). DeskRecorded db opening entries (desk_from content new)) (sym empty) (record {
                first = desk_from content new;
                lists = lists clean;
                rises = rose;
                replays = refl;
                fit = record { fits = rose.fits; within = rose.within };
              });
              has = subst (λ n. HasFrom db n (catalogues_of new)) number has;
              still = λ last t. nobody_rises db (content new.store) (volatile_of new.volatile) rose (txn_at t);
            };
      }

  module _ (entries room : List Entry) (old new : Desk D) (same_entries : room ≡ entries) (store : LeavesStore is_clean is_sound refused old.store new.store) (holds : DeskHolds is_clean is_sound content catalogs opening entries old) where
    -- a call adds its entry
    module _ (asked : inputs.Input) (entry : Entry) (is_asked : entry.input ≡ asked) (in_force : (new.catalog, new.later.items) ≡ catalogs_after asked old new.volatile.version)
        (next : (text : List ℕ) → entry.input ≡ input.Call (call.Refragment text) → entry.fault ≡ None → old.later.items ≢ [])
        (moves : (db : Database) → IsOfCatalogue db → InForce db old.volatile.version old.catalog → IsNextOf db old.volatile.version (first_in old.later.items) → is_clean new.store → is_sound old.store → IsFit db (desk_from content old) → DeskMoves db (desk_from content old) entry (desk_from content new)) where
      desk_moves : is_clean new.store → (db : Database) → IsOfCatalogues db opening.version (map catalogue_of catalogs) → DeskMoves db (desk_from content old) entry (desk_from content new)
      desk_moves clean db is =
          let had = holds.replays (store.clean clean) db is in
          moves db is.base.of_catalogue had.has.0 (has_next db old.volatile.version old.later.items had.has.1) clean (holds.sound (store.clean clean)) had.recorded.fit

      pub desk_adds : (all : List Entry) → all ≡ room ++ entry ∷ [] → AddsDesk is_clean content (record { catalogs = catalogs; opening = opening; entries = entries; desk = old }) asked entry (record { catalogs = catalogs; opening = opening; entries = all; desk = new })
      desk_adds all more = record { input = is_asked; entries = more ∙ ap (λ entries. entries ++ entry ∷ []) same_entries; opening = refl; catalogs = refl; in_force = in_force; moves = desk_moves }

      pub desk_more : (all : List Entry) → all ≡ room ++ entry ∷ [] → DeskHolds is_clean is_sound content catalogs opening all new
      desk_more all more =
          let left : Left (map catalogue_of catalogs) (new.catalog, new.later.items) = subst (Left (map catalogue_of catalogs)) (sym in_force) (left_after (map catalogue_of catalogs) holds.passed asked old new.volatile.version holds.left) in
          let goes = subst (λ (asked : inputs.Input). (new.catalog, new.later.items) ≡ catalogs_after asked old new.volatile.version) (sym is_asked) in_force in
          record {
            passed = left.0;
            left = left.1;
            sound = λ clean. store.sound clean (holds.sound (store.clean clean));
            replays = λ clean db is.
                let had = holds.replays (store.clean clean) db is in
                let move = desk_moves clean db is in
                let follows = follows_on db (desk_from content old) (desk_from content new) entry had.recorded.fit old (new.catalog, new.later.items) refl (record { has = had.has; still = had.still }) entry.fault move next goes in
                record {
                  recorded = subst (λ (entries : List Entry). DeskRecorded db opening entries (desk_from content new)) (sym (more ∙ ap (λ entries. entries ++ entry ∷ []) same_entries)) (record {
                    first = had.recorded.first;
                    lists = had.recorded.lists;
                    rises = had.recorded.rises;
                    replays = replays_more (DeskMoves db) had.recorded.first entries (desk_from content old) entry (desk_from content new) had.recorded.replays move;
                    fit = moved_fit db entry.fault (desk_from content old) entry (desk_from content new) move had.recorded.fit;
                  });
                  has = follows.has;
                  still = follows.still;
                };
          }

    -- a call that adds none leaves it
    pub desk_stays : new.catalog ≡ old.catalog → new.later.items ≡ old.later.items → (is_clean new.store → is_sound old.store → desk_from content new ≡ desk_from content old) → DeskHolds is_clean is_sound content catalogs opening room new
    desk_stays catalog later same =
        let are : catalogues_of new ≡ catalogues_of old = ap all_of (λ i. (catalog i, later i)) in
        record {
          passed = holds.passed;
          left = holds.left ∙ ap (λ catalogues. holds.passed ++ catalogues) (sym are);
          sound = λ clean. store.sound clean (holds.sound (store.clean clean));
          replays = λ clean db is.
              let had = holds.replays (store.clean clean) db is in
              let here = same clean (holds.sound (store.clean clean)) in
              record {
                recorded = subst (λ (entries : List Entry). DeskRecorded db opening entries (desk_from content new)) (sym same_entries) (subst (DeskRecorded db opening entries) (sym here) had.recorded);
                has = subst (λ (state : DeskState). HasFrom db state.table.version (catalogues_of new)) (sym here) (subst (HasFrom db old.volatile.version) (sym are) had.has);
                still = λ last t. subst (λ (state : DeskState). is_moving ((desk_of db state.table).txn t) ≡ false) (sym here) (had.still (sym later ∙ last) t);
              };
        }
