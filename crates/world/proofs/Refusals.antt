-- Why events are refused: what machines and their stores tell is the event's reason.
use Rattle.std.proofs.Common.{◌≡◌, ◌≢◌, ◌≤◌, ◌+◌, ◌^◌, ◌⊎◌, not, refl, sym, ap, subst, ℕ, Bool, false, true, List, Some, Result, Ok, Err, IfErr, IfSome, OnErr, inl, inr, ⊎_elim, slice_get}
use Rattle.std.specs.Prelude.{⊤}
use Rattle.store.specs.declared.fault.StoreFault.TheVariants as store_faults
use Rattle.store.specs.declared.letter.Letter.{Letter}
use Rattle.store.specs.DeskContent as of_desk
use Rattle.store.specs.SiteContent as of_site
use Rattle.site.specs.declared.fault.SiteFault as site_faults
use Rattle.site.specs.declared.fault.SiteFault.TheVariants as site_fault
use Rattle.site.specs.Recovery as site
use Rattle.desk.specs.declared.refusal.Refusal.{Refusal}
use Rattle.desk.specs.declared.refusal.Refusal.TheVariants as refusals
use Rattle.desk.specs.declared.reply.Out.{Out}
use Rattle.desk.specs.Database.{Database}
use Rattle.desk.specs.Recovery as desk
use Rattle.world.specs.declared.sites.SiteAction as doing
use Rattle.world.specs.declared.sites.SiteAction.TheVariants as things
use Rattle.world.specs.declared.event.Call.{Call}
use Rattle.world.specs.declared.event.Entry.{Entry}
use Rattle.world.specs.declared.event.Event as events
use Rattle.world.specs.declared.event.Event.TheVariants as event
use Rattle.world.specs.declared.fault.Fault.{Fault}
use Rattle.world.specs.declared.fault.Fault.TheVariants as fault
use Rattle.world.specs.Counted.{HaveRefused}
use Rattle.world.specs.Events.{is_unsent}
use Rattle.world.specs.EventApplied.{IsAtSite, told_by_desk}
use Rattle.world.specs.Machines.{Machines}
use Rattle.world.specs.Posted.{letters_in}
use Rattle.world.specs.Reasons.{Tells}
use Rattle.world.specs.Refused.{DeskRestartTells, HasOwnReason, IsRefused, IsRefusedFor, PlaceTells, SiteRestartTells}
use Rattle.world.specs.Seated.{place_of}
use Rattle.world.specs.Sites.{Seat, has_site, seat_of}
use Rattle.world.specs.Stopping.{StopsFor}
use Rattle.world.specs.Taking.{stop_of}
use Rattle.world.proofs.SiteSteps.{unchanged}

-- ---- what is said of a store holds of the stores that it is among
restarts_so : (S R Sounds Refuses : Type 0) → (Sounds → S) → (R → Refuses) → (kept : Bool) (seat : Seat) (told : site_faults.SiteFault) → SiteRestartTells S R kept seat told → SiteRestartTells Sounds Refuses kept seat told
restarts_so S R Sounds Refuses back on kept seat site_fault.Memory why = tt
restarts_so S R Sounds Refuses back on kept seat (site_fault.Store store_faults.Refused) why = ⊎_elim (λ unmade. inl unmade) (λ refused. inr (on refused)) why
restarts_so S R Sounds Refuses back on kept seat (site_fault.Store store_faults.Memory) why = tt
restarts_so S R Sounds Refuses back on kept seat (site_fault.Store store_faults.Damaged) why = λ so. why (back so)
restarts_so S R Sounds Refuses back on kept seat site_fault.Full why = λ so. why (back so)
restarts_so S R Sounds Refuses back on kept seat site_fault.Stranger why = absurd why

pub places_so : {T : Type 0} (result : Result T site_faults.SiteFault) (S R Sounds Refuses : Type 0) → (Sounds → S) → (R → Refuses) → (what : doing.SiteAction) (kept : Bool) (seat : Seat) → IfErr result (PlaceTells S R what kept seat) → IfErr result (PlaceTells Sounds Refuses what kept seat)
places_so (Ok done) S R Sounds Refuses back on what kept seat why = tt
places_so (Err told) S R Sounds Refuses back on (things.Take letter) kept seat why = tt
places_so (Err told) S R Sounds Refuses back on (things.GiveUp place ticket) kept seat why = absurd why
places_so (Err told) S R Sounds Refuses back on (things.Inquire place) kept seat why = why
places_so (Err told) S R Sounds Refuses back on (things.Restart place) kept seat why = restarts_so S R Sounds Refuses back on kept seat told why

-- ---- one site
pub letter_fails : {T : Type 0} (result : Result T site_faults.SiteFault) (S R : Type 0) (what : doing.SiteAction) (letter : Letter) (kept : Bool) (seat : Seat) → what ≡ things.Take letter → IfErr result (PlaceTells S R what kept seat)
letter_fails result S R what letter kept seat is = subst (λ (w : doing.SiteAction). IfErr result (PlaceTells S R w kept seat)) (sym is) (any result)
  where
    any : {T : Type 0} (result : Result T site_faults.SiteFault) → IfErr result (λ told. ⊤)
    any (Ok done) = tt
    any (Err told) = tt

site_fails : {T : Type 0} (result : Result T site_faults.SiteFault) (S R : Type 0) (kept : Bool) (seat : Seat) (after : of_site.SiteContent) →
    (result ≡ Err (site_fault.Store store_faults.Refused) → (kept ≡ false) ⊎ R) → (S → result ≡ Err (site_fault.Store store_faults.Damaged) → site.IsStrange seat.leaves after) → (S → result ≡ Err site_fault.Full → 2 ^ 63 ≤ after.life + 1) →
    result ≢ Err site_fault.Stranger → (S → OnErr result (of_site.IsUnchanged seat.kept after)) → IfErr result (SiteRestartTells S R kept seat)
site_fails (Ok done) S R kept seat after refusal damaged full own same = tt
site_fails (Err site_fault.Memory) S R kept seat after refusal damaged full own same = tt
site_fails (Err (site_fault.Store store_faults.Refused)) S R kept seat after refusal damaged full own same = refusal refl
site_fails (Err (site_fault.Store store_faults.Memory)) S R kept seat after refusal damaged full own same = tt
site_fails (Err (site_fault.Store store_faults.Damaged)) S R kept seat after refusal damaged full own same = λ so. subst (site.IsStrange seat.leaves) (unchanged seat.kept after (same so)) (damaged so refl)
site_fails (Err site_fault.Full) S R kept seat after refusal damaged full own same = λ so. subst (λ (n : ℕ). 2 ^ 63 ≤ n + 1) (same so).life (full so refl)
site_fails (Err site_fault.Stranger) S R kept seat after refusal damaged full own same = absurd (own refl)

pub restart_fails : {T : Type 0} (result : Result T site_faults.SiteFault) (S R : Type 0) (what : doing.SiteAction) (place : List ℕ) (kept : Bool) (seat : Seat) (after : of_site.SiteContent) → what ≡ things.Restart place →
    (result ≡ Err (site_fault.Store store_faults.Refused) → (kept ≡ false) ⊎ R) → (S → result ≡ Err (site_fault.Store store_faults.Damaged) → site.IsStrange seat.leaves after) → (S → result ≡ Err site_fault.Full → 2 ^ 63 ≤ after.life + 1) →
    result ≢ Err site_fault.Stranger → (S → OnErr result (of_site.IsUnchanged seat.kept after)) → IfErr result (PlaceTells S R what kept seat)
restart_fails result S R what place kept seat after is refusal damaged full own same = subst (λ (w : doing.SiteAction). IfErr result (PlaceTells S R w kept seat)) (sym is) (site_fails result S R kept seat after refusal damaged full own same)

-- the first site of a name fails so
pub first_fails : {T : Type 0} (result : Result T site_faults.SiteFault) (S R : Type 0) (what : doing.SiteAction) (kept : Bool) (first seat : Seat) → first ≡ seat → IfErr result (PlaceTells S R what kept first) → IfErr result (PlaceTells S R what kept seat)
first_fails result S R what kept first seat same why = subst (λ (s : Seat). IfErr result (PlaceTells S R what kept s)) same why

-- ---- the coordinator
desk_unchanged : (old new : of_desk.DeskContent) → of_desk.IsUnchanged old new → new ≡ old
desk_unchanged old new same i = record { commits = λ txn. same.commits txn i; life = same.life i; version = same.version i }

pub desk_fails : {T : Type 0} (result : Result T Refusal) (S R : Type 0) (kept : Bool) (sites : List (List ℕ)) (before after : of_desk.DeskContent) →
    IfErr result (λ told. (told ≡ refusals.Memory) ⊎ (told ≡ refusals.Full) ⊎ (told ≡ refusals.Store store_faults.Refused) ⊎ (told ≡ refusals.Store store_faults.Damaged)) →
    (result ≡ Err (refusals.Store store_faults.Refused) → (kept ≡ false) ⊎ R) → (S → result ≡ Err (refusals.Store store_faults.Damaged) → desk.IsStrange sites after) → (S → result ≡ Err refusals.Full → 2 ^ 63 ≤ after.life + 1) →
    (S → OnErr result (of_desk.IsUnchanged before after)) → IfErr result (DeskRestartTells S R kept sites before)
desk_fails (Ok done) S R kept sites before after own refusal damaged full same = tt
desk_fails {T} (Err told) S R kept sites before after own refusal damaged full same = go own
  where
    go : (told ≡ refusals.Memory) ⊎ (told ≡ refusals.Full) ⊎ (told ≡ refusals.Store store_faults.Refused) ⊎ (told ≡ refusals.Store store_faults.Damaged) → DeskRestartTells S R kept sites before told
    go (inl memory) = subst (DeskRestartTells S R kept sites before) (sym memory) tt
    go (inr (inl limit)) = subst (DeskRestartTells S R kept sites before) (sym limit) (λ so. subst (λ (n : ℕ). 2 ^ 63 ≤ n + 1) (same so).life (full so (ap Err limit)))
    go (inr (inr (inl refused))) = subst (DeskRestartTells S R kept sites before) (sym refused) (refusal (ap Err refused))
    go (inr (inr (inr strange))) = subst (DeskRestartTells S R kept sites before) (sym strange) (λ so. subst (desk.IsStrange sites) (desk_unchanged before after (same so)) (damaged so (ap Err strange)))

-- what the coordinator tells is told on
pub by_desk_err : (P : Fault → Type 0) (done : Result Out Refusal) (result : Result Out Fault) → result ≡ told_by_desk done → IfErr done (λ why. P (fault.Desk why)) → IfErr result P
by_desk_err P (Ok out) result is holds = subst (λ r. IfErr r P) (sym is) tt
by_desk_err P (Err refusal) result is holds = subst (λ r. IfErr r P) (sym is) holds

-- ---- events
module _ (Sound : Type 0) (db : Database) (before after : Machines) (entries : List Entry) where
  -- a call of a client
  pub call_refused : (done : Result Out Refusal) (asked : Call) → IfErr done (λ why. (why ≡ refusals.Memory) ⊎ IsRefused db before.later before.table asked why) →
      IfErr done (λ why. IsRefusedFor Sound db before after entries (event.Call asked) (fault.Desk why))
  call_refused (Ok out) asked why = tt
  call_refused (Err told) asked why = ⊎_elim (λ memory. inl (ap fault.Desk memory)) (λ refused. inr (inr (told, (refl, refused)))) why

  -- a restart of the coordinator
  pub desk_refused : (done : Result Out Refusal) (kept : Bool) (sites : List (List ℕ)) → db.sites ≡ sites → IfErr done (DeskRestartTells Sound (HaveRefused before.refused after.refused) kept sites before.desk) → IfErr done (λ why. IsRefusedFor Sound db before after entries (event.DeskRestarts kept) (fault.Desk why))
  desk_refused (Ok out) kept sites is why = tt
  desk_refused (Err told) kept sites is why = inr (inr (told, (refl, subst (λ (s : List (List ℕ)). DeskRestartTells Sound (HaveRefused before.refused after.refused) kept s before.desk told) (sym is) why)))

  -- what is done at a site
  pub place_refused : (what : doing.SiteAction) (kept : Bool) (at : events.Event) (seat : Seat) (told : site_faults.SiteFault) → IsAtSite what kept at → seat_of (place_of what) before.seats ≡ Some seat →
      PlaceTells Sound (HaveRefused before.refused after.refused) what kept seat told → IsRefusedFor Sound db before after entries at (fault.Site told)
  place_refused (things.Take letter) kept at seat told is there why = absurd is
  place_refused (things.GiveUp place ticket) kept at seat told is there why = absurd why
  place_refused (things.Inquire place) kept at seat told is there why = subst (λ (e : events.Event). IsRefusedFor Sound db before after entries e (fault.Site told)) (sym is) (inr (inr (ap fault.Site why)))
  place_refused (things.Restart place) kept at seat told is there why = subst (λ (e : events.Event). IsRefusedFor Sound db before after entries e (fault.Site told)) (sym is) (inr (inr (seat, there, told, refl, why)))

  -- there is no such letter, or no such site
  pub unsent_refused : (sites : List (List ℕ)) (what : events.Event) → db.sites ≡ sites → is_unsent sites entries what ≡ true → IsRefusedFor Sound db before after entries what fault.Unsent
  unsent_refused sites what is none = inr (inl (refl, subst (λ (s : List (List ℕ)). is_unsent s entries what ≡ true) (sym is) none))

  pub nowhere_refused : (sites : List (List ℕ)) (what : doing.SiteAction) (kept : Bool) (at : events.Event) → db.sites ≡ sites → IsAtSite what kept at → not (has_site sites (place_of what)) ≡ true → IsRefusedFor Sound db before after entries at fault.Unsent
  nowhere_refused sites (things.Take letter) kept at is here none = absurd here
  nowhere_refused sites (things.GiveUp place ticket) kept at is here none = unsent_refused sites at is (subst (λ (e : events.Event). is_unsent sites entries e ≡ true) (sym here) none)
  nowhere_refused sites (things.Inquire place) kept at is here none = unsent_refused sites at is (subst (λ (e : events.Event). is_unsent sites entries e ≡ true) (sym here) none)
  nowhere_refused sites (things.Restart place) kept at is here none = unsent_refused sites at is (subst (λ (e : events.Event). is_unsent sites entries e ≡ true) (sym here) none)

  -- a letter
  pub letter_refused : (number : ℕ) (kept : Bool) (letter : Letter) (result : Result Out Fault) → slice_get (letters_in entries) number ≡ Some letter → IfErr result (Tells db before letter) →
      (kept ≡ true → Sound → IfErr result (λ told. IfSome (stop_of told) (StopsFor before.refused after.refused))) → IfErr result (IsRefusedFor Sound db before after entries (event.Deliver number kept))
  letter_refused number kept letter (Ok out) there tells blames = tt
  letter_refused number true letter (Err told) there tells blames = inr (inr (letter, there, tells, λ so. inr (blames refl so)))
  letter_refused number false letter (Err told) there tells blames = inr (inr (letter, there, tells, λ so. inl refl))

  -- where the stores are clean now and were sound
  own_soundly : (what : events.Event) (told : Fault) → Sound → HasOwnReason Sound db before after entries what told → HasOwnReason ⊤ db before after entries what told
  own_soundly (event.Call asked) told so why = why
  own_soundly (event.Deliver number kept) told so why = (why.0, why.1, why.2, λ any. why.3 so)
  own_soundly (event.SiteGivesUp place ticket) told so why = why
  own_soundly (event.SiteInquires place) told so why = why
  own_soundly (event.SiteRestarts place kept) told so why = (why.0, why.1, why.2, why.3, restarts_so Sound (HaveRefused before.refused after.refused) ⊤ (HaveRefused before.refused after.refused) (λ any. so) (λ more. more) kept why.0 why.2 why.4)
  own_soundly (event.DeskRestarts kept) told so why = (why.0, (why.1.0, go why.0 why.1.1))
    where
      go : (told : Refusal) → DeskRestartTells Sound (HaveRefused before.refused after.refused) kept db.sites before.desk told → DeskRestartTells ⊤ (HaveRefused before.refused after.refused) kept db.sites before.desk told
      go refusals.Memory why = tt
      go refusals.Full why = λ any. why so
      go (refusals.Store store_faults.Refused) why = why
      go (refusals.Store store_faults.Damaged) why = λ any. why so
      go (refusals.Store store_faults.Memory) why = why
      go refusals.NoTransaction why = why
      go refusals.Busy why = why
      go refusals.Ended why = why
      go (refusals.Read unread) why = why
      go (refusals.Aborted by) why = why
      go refusals.NotAlone why = why
      go refusals.NoNext why = why
      go refusals.Chain why = why

  pub refused_soundly : (what : events.Event) (told : Fault) → Sound → IsRefusedFor Sound db before after entries what told → IsRefusedFor ⊤ db before after entries what told
  refused_soundly what told so (inl memory) = inl memory
  refused_soundly what told so (inr (inl unsent)) = inr (inl unsent)
  refused_soundly what told so (inr (inr why)) = inr (inr (own_soundly what told so why))
