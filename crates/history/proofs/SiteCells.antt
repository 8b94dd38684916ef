-- What the history of a site's cell makes of a call.
use Rattle.std.proofs.Common.{◌≡◌, sym, ap, ◌∙◌, subst, refl, ℕ, List, [], ◌∷◌, ◌++◌, Option, Some, None}
use Rattle.terms.specs.declared.leaf.Leaf.{Leaf}
use Rattle.store.specs.declared.prepared.SiteKept.{SiteKept}
use Rattle.store.specs.Frame.{LeavesStore}
use Rattle.store.specs.SiteContent.{IsUnchanged, Lists, SiteContent}
use Rattle.site.specs.declared.site.Site.{Site}
use Rattle.site.specs.Locks.{leaves_in}
use Rattle.site.specs.Recovery.{Begins}
use Rattle.site.specs.Seat.{IsSeated, Seat, seat_from}
use Rattle.site.specs.State.{volatile_of}
use Rattle.world.specs.declared.fault.Fault.{Fault}
use Rattle.world.proofs.SettledSites.{seat_stays}
use Rattle.history.specs.declared.entry.Entry.{Entry}
use Rattle.history.specs.SiteHistory.{SiteAnswers, SiteHolds, SiteMoves, SiteRecorded}
use Rattle.history.proofs.Growing.{replays_more}

-- after a call, what is in memory fits the store again
moved_seated : (told : Option Fault) (before : Seat) (entry : Entry) (after : Seat) → SiteAnswers told before entry after → IsSeated before → IsSeated after
moved_seated None before entry after accepts fits = accepts.does.fits
moved_seated (Some told) before entry after refuses fits = subst IsSeated (sym refuses.same) fits

-- and the leaves are the same
moved_leaves : (told : Option Fault) (before : Seat) (entry : Entry) (after : Seat) → SiteAnswers told before entry after → after.leaves ≡ before.leaves
moved_leaves None before entry after accepts = accepts.does.leaves
moved_leaves (Some told) before entry after refuses = ap (λ seat. seat.leaves) refuses.same

module _ {S : Type 0} (is_clean is_sound : S → Type 0) (refused : S → ℕ) (content : S → SiteContent) (opening : SiteKept) (leaves : List Leaf) where
  -- what a cell has of a site
  abbrev Holds : List Entry → Site S → Type 0
  Holds entries site = SiteHolds is_clean is_sound content opening entries site × (is_clean site.store → leaves ≡ leaves_in site.volatile.locks.items)

  -- a history begins: nothing has happened since the site started but that its store was read
  pub site_opens : (none : List Entry) (old new : Site S) → none ≡ [] → LeavesStore is_clean is_sound refused old.store new.store → new.volatile ≡ old.volatile → (is_clean new.store → is_sound old.store) → (is_clean new.store → Lists (content new.store) opening) → (is_clean new.store → is_sound old.store → IsUnchanged (content old.store) (content new.store)) →
      (is_clean old.store → Begins (content old.store) (volatile_of old.volatile)) → leaves ≡ leaves_in old.volatile.locks.items → Holds none new
  site_opens none old new empty store memory learnt lists same begins had =
      let began : is_clean new.store → Begins (content new.store) (volatile_of new.volatile) = λ clean.
      subst (λ (seat : Seat). Begins seat.kept seat.table) (sym (seat_stays content old new memory (same clean (learnt clean)))) (begins (store.clean clean)) in
      subst (λ (entries : List Entry). Holds entries new) (sym empty) (
        record {
          sound = λ clean. store.sound clean (learnt clean);
          recorded = λ clean. record {
            first = seat_from content new;
            lists = lists clean;
            begins = began clean;
            replays = refl;
            fits = (began clean).fits;
          };
        },
        λ clean. had ∙ ap (λ memory. leaves_in memory.locks.items) (sym memory),
      )

  module _ (entries room : List Entry) (old new : Site S) (same_entries : room ≡ entries) (store : LeavesStore is_clean is_sound refused old.store new.store) (holds : Holds entries old) where
    -- a call adds its entry
    pub site_more : (all : List Entry) (entry : Entry) → all ≡ room ++ entry ∷ [] → (is_clean new.store → is_sound old.store → IsSeated (seat_from content old) → SiteMoves (seat_from content old) entry (seat_from content new)) → Holds all new
    site_more all entry more moves =
        let move : is_clean new.store → SiteMoves (seat_from content old) entry (seat_from content new) = λ clean. moves clean (holds.0.sound (store.clean clean)) (holds.0.recorded (store.clean clean)).fits in
        subst (λ (entries : List Entry). Holds entries new) (sym (more ∙ ap (λ entries. entries ++ entry ∷ []) same_entries)) (
          record {
            sound = λ clean. store.sound clean (holds.0.sound (store.clean clean));
            recorded = λ clean.
                let had = holds.0.recorded (store.clean clean) in
                record {
                  first = had.first;
                  lists = had.lists;
                  begins = had.begins;
                  replays = replays_more SiteMoves had.first entries (seat_from content old) entry (seat_from content new) had.replays (move clean);
                  fits = moved_seated entry.fault (seat_from content old) entry (seat_from content new) (move clean) had.fits;
                };
          },
          λ clean. holds.1 (store.clean clean) ∙ sym (moved_leaves entry.fault (seat_from content old) entry (seat_from content new) (move clean)),
        )

    -- a call that adds none leaves it
    pub site_stays : (is_clean new.store → is_sound old.store → seat_from content new ≡ seat_from content old) → Holds room new
    site_stays same =
        let stays : is_clean new.store → seat_from content new ≡ seat_from content old = λ clean. same clean (holds.0.sound (store.clean clean)) in
        subst (λ (entries : List Entry). Holds entries new) (sym same_entries) (
          record {
            sound = λ clean. store.sound clean (holds.0.sound (store.clean clean));
            recorded = λ clean. subst (SiteRecorded opening entries) (sym (stays clean)) (holds.0.recorded (store.clean clean));
          },
          λ clean. holds.1 (store.clean clean) ∙ sym (ap (λ seat. seat.leaves) (stays clean)),
        )
