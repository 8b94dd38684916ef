-- A site of the code that makes a step among the others, which stay as they are.
use Rattle.std.proofs.Common.{◌≡◌, ◌<◌, ◌≤◌, refl, sym, ap, ◌∙◌, subst, ℕ, Bool, true, false, List, [], ◌∷◌, ◌++◌, map, length, get_or, Some, None, Result, IfErr, IfOk, IfSome, inl, inr, if◌then◌else◌}
use Rattle.std.specs.Prelude.{slice_set}
use Rattle.std.specs.List.{AllByRecursion, position_or_len}
use Rattle.std.proofs.lemmas.List.{set_at}
use Rattle.store.specs.declared.letter.Letter.{Letter}
use Rattle.store.specs.Fault.{HasRefused}
use Rattle.store.specs.Frame.{LeavesStore}
use Rattle.store.specs.SiteContent.{SiteContent}
use Rattle.protocol.proofs.Basics.{some_is}
use Rattle.site.specs.declared.fault.SiteFault.{SiteFault}
use Rattle.site.specs.declared.site.Site.{Site}
use Rattle.world.specs.declared.fault.Fault.TheVariants as fault
use Rattle.world.specs.declared.sites.SiteAction.{SiteAction}
use Rattle.world.specs.Counted.{HaveRefused, NoFewer, counts_of}
use Rattle.world.specs.Frame.{LeavesSites}
use Rattle.world.specs.Refused.{PlaceTells}
use Rattle.world.specs.Seated.{SeatDoes, SomeSeatDoes, place_of, seat_from, seats_in}
use Rattle.world.specs.Sites.{IsSeated, Seat, is_called, seat_of}
use Rattle.world.specs.Stopping.{StopsFor}
use Rattle.world.specs.Taking.{stop_of}
use Rattle.world.proofs.Around.{IsAround, all_at, all_with, around, map_with, none_passes}
use Rattle.world.proofs.Counting.{at_most, no_fewer}
use Rattle.world.proofs.Refusals.{places_so}
use Rattle.world.proofs.SiteSteps.{if_ok, take_here, take_later}
use Rattle.world.proofs.Stops.{first_stops, other_stops}

module _ {S : Type 0} (refused : S → ℕ) (site new : Site S) (after : List (Site S)) where
  fewer_with : (before : List (Site S)) → refused site.store ≤ refused new.store → NoFewer (counts_of refused (before ++ site ∷ after)) (counts_of refused (before ++ new ∷ after))
  fewer_with [] more = (more, no_fewer (counts_of refused after))
  fewer_with (other ∷ before) more = (at_most (refused other.store), fewer_with before more)

  refused_with : (before : List (Site S)) → HasRefused (refused site.store) (refused new.store) → HaveRefused (counts_of refused (before ++ site ∷ after)) (counts_of refused (before ++ new ∷ after))
  refused_with [] more = inl more
  refused_with (other ∷ before) more = inr (refused_with before more)

-- one of them stops the database
stops_with : {S T : Type 0} (result : Result T SiteFault) (refused : S → ℕ) (before : List (Site S)) (site new : Site S) (after : List (Site S)) → IfErr result (λ told. IfSome (stop_of (fault.Site told)) (StopsFor (refused site.store ∷ []) (refused new.store ∷ []))) →
    IfErr result (λ told. IfSome (stop_of (fault.Site told)) (StopsFor (counts_of refused (before ++ site ∷ after)) (counts_of refused (before ++ new ∷ after))))
stops_with result refused [] site new after why = first_stops result (refused site.store) (refused new.store) (counts_of refused after) (counts_of refused after) why
stops_with result refused (other ∷ before) site new after why = other_stops result (refused other.store) (refused other.store) (counts_of refused (before ++ site ∷ after)) (counts_of refused (before ++ new ∷ after)) (stops_with result refused before site new after why)

-- no site has the name
none_called : {S : Type 0} (content : S → SiteContent) (name : List ℕ) (sites : List (Site S)) → AllByRecursion (λ site. is_called name (seat_from content site) ≡ false) sites → seat_of name (seats_in content sites) ≡ None
none_called content name [] none = refl
none_called content name (site ∷ sites) none = ap (λ (b : Bool). if b then Some (seat_from content site) else seat_of name (seats_in content sites)) none.0 ∙ none_called content name sites none.1

seat_at : {S : Type 0} (content : S → SiteContent) (name : List ℕ) (before : List (Site S)) (site : Site S) (after : List (Site S)) → AllByRecursion (λ site. is_called name (seat_from content site) ≡ false) before → is_called name (seat_from content site) ≡ true →
    seat_of name (seats_in content (before ++ site ∷ after)) ≡ Some (seat_from content site)
seat_at content name [] site after none called = ap (λ (b : Bool). if b then Some (seat_from content site) else seat_of name (seats_in content after)) called
seat_at content name (other ∷ before) site after none called = ap (λ (b : Bool). if b then Some (seat_from content other) else seat_of name (seats_in content (before ++ site ∷ after))) none.0 ∙ seat_at content name before site after none.1 called

seated_at : {S : Type 0} (content : S → SiteContent) (before : List (Site S)) (site : Site S) (after : List (Site S)) → AllByRecursion IsSeated (seats_in content (before ++ site ∷ after)) → IsSeated (seat_from content site)
seated_at content [] site after all = all.0
seated_at content (other ∷ before) site after all = seated_at content before site after all.1

does_at : {S : Type 0} (content : S → SiteContent) (what : SiteAction) (before : List (Site S)) (site new : Site S) (after : List (Site S)) (letters : List Letter) → AllByRecursion (λ site. is_called (place_of what) (seat_from content site) ≡ false) before →
    is_called (place_of what) (seat_from content site) ≡ true → SeatDoes what (seat_from content site) (seat_from content new) letters →
    SomeSeatDoes what (seat_from content site) (seats_in content (before ++ site ∷ after)) (seats_in content (before ++ new ∷ after)) letters
does_at content what [] site new after letters none called does =
    take_here (seat_from content site) (seat_from content new) (seat_from content site) (seats_in content after) what letters called does (seat_at content (place_of what) [] site after tt called)
does_at content what (other ∷ before) site new after letters none called does =
    take_later (seat_from content other) (seat_from content site) (seats_in content (before ++ site ∷ after)) (seats_in content (before ++ new ∷ after)) what letters none.0 (does_at content what before site new after letters none.1 called does)

-- the first site of a name, site, becomes new
module _ {S : Type 0} (content : S → SiteContent) (name : List ℕ) (sites : List (Site S)) (place : ℕ) (site new : Site S) (here : IsAround (λ site. is_called name (seat_from content site)) sites place site) where
  is_after : slice_set sites place new ≡ here.before ++ new ∷ here.after
  is_after = ap (λ (all : List (Site S)). slice_set all place new) here.is ∙ set_at here.before site here.after new place here.at

  among : (P : List (Site S) → List (Site S) → Type 0) → P (here.before ++ site ∷ here.after) (here.before ++ new ∷ here.after) → P sites (slice_set sites place new)
  among P holds = subst (λ (old : List (Site S)). P old (slice_set sites place new)) (sym here.is) (subst (P (here.before ++ site ∷ here.after)) (sym is_after) holds)

  pub was : (P : Site S → Type 0) → AllByRecursion P sites → P site
  was P all = all_at P here.before site here.after (subst (AllByRecursion P) here.is all)

  pub becomes : (P : Site S → Type 0) → AllByRecursion P (slice_set sites place new) → P new
  becomes P all = all_at P here.before new here.after (subst (AllByRecursion P) is_after all)

  pub was_seated : AllByRecursion IsSeated (seats_in content sites) → IsSeated (seat_from content site)
  was_seated all = seated_at content here.before site here.after (subst (λ (all : List (Site S)). AllByRecursion IsSeated (seats_in content all)) here.is all)

  pub same_seat : (seat : Seat) → seat_of name (seats_in content sites) ≡ Some seat → seat_from content site ≡ seat
  same_seat seat there = some_is (sym (seat_at content name here.before site here.after here.none here.passes) ∙ subst (λ (all : List (Site S)). seat_of name (seats_in content all) ≡ Some seat) here.is there)

  pub maps : {Y : Type 0} (f : Site S → Y) → f new ≡ f site → map f (slice_set sites place new) ≡ map f sites
  maps f same = among (λ old now. map f now ≡ map f old) (map_with f here.before site new here.after same)

  pub refuses : (refused : S → ℕ) → HasRefused (refused site.store) (refused new.store) → HaveRefused (counts_of refused sites) (counts_of refused (slice_set sites place new))
  refuses refused more = among (λ old now. HaveRefused (counts_of refused old) (counts_of refused now)) (refused_with refused site new here.after here.before more)

  pub stops : {T : Type 0} (result : Result T SiteFault) (refused : S → ℕ) → IfErr result (λ told. IfSome (stop_of (fault.Site told)) (StopsFor (refused site.store ∷ []) (refused new.store ∷ []))) →
      IfErr result (λ told. IfSome (stop_of (fault.Site told)) (StopsFor (counts_of refused sites) (counts_of refused (slice_set sites place new))))
  stops result refused why = among (λ old now. IfErr result (λ told. IfSome (stop_of (fault.Site told)) (StopsFor (counts_of refused old) (counts_of refused now)))) (stops_with result refused here.before site new here.after why)

  pub leaves : (is_clean is_sound : S → Type 0) (refused : S → ℕ) → LeavesStore is_clean is_sound refused site.store new.store → LeavesSites is_clean is_sound refused sites (slice_set sites place new)
  leaves is_clean is_sound refused step = among (LeavesSites is_clean is_sound refused) (record {
    clean = λ all. all_with (λ (s : Site S). is_clean s.store) here.before new site here.after (step.clean (all_at (λ (s : Site S). is_clean s.store) here.before new here.after all)) all;
    sound = λ clean all. all_with (λ (s : Site S). is_sound s.store) here.before site new here.after
        (step.sound (all_at (λ (s : Site S). is_clean s.store) here.before new here.after clean) (all_at (λ (s : Site S). is_sound s.store) here.before site here.after all)) all;
    counts = fewer_with refused site new here.after here.before step.counts;
  })

  pub fails : {T : Type 0} (result : Result T SiteFault) (is_clean is_sound : S → Type 0) (refused : S → ℕ) (what : SiteAction) (kept : Bool) (seat : Seat) → seat_of name (seats_in content sites) ≡ Some seat →
      IfErr result (PlaceTells (is_clean new.store × is_sound site.store) (HasRefused (refused site.store) (refused new.store)) what kept (seat_from content site)) →
      IfErr result (PlaceTells (AllByRecursion (λ site. is_clean site.store) (slice_set sites place new) × AllByRecursion (λ site. is_sound site.store) sites) (HaveRefused (counts_of refused sites) (counts_of refused (slice_set sites place new))) what kept seat)
  fails result is_clean is_sound refused what kept seat there why = places_so result (is_clean new.store × is_sound site.store) (HasRefused (refused site.store) (refused new.store)) _ _
      (λ so. (becomes (λ (s : Site S). is_clean s.store) so.0, was (λ (s : Site S). is_sound s.store) so.1)) (refuses refused) what kept seat
      (subst (λ (s : Seat). IfErr result (PlaceTells (is_clean new.store × is_sound site.store) (HasRefused (refused site.store) (refused new.store)) what kept s)) (same_seat seat there) why)

-- something is done at the first site of its place
pub does_among : {S T E : Type 0} (content : S → SiteContent) (items : T → List Letter) (result : Result T E) (what : SiteAction) (sites : List (Site S)) (place : ℕ) (site new : Site S) (here : IsAround (λ site. is_called (place_of what) (seat_from content site)) sites place site) →
    (seat : Seat) → seat_of (place_of what) (seats_in content sites) ≡ Some seat →
    IfOk result (λ letters. SeatDoes what (seat_from content site) (seat_from content new) (items letters)) → IfOk result (λ letters. SomeSeatDoes what seat (seats_in content sites) (seats_in content (slice_set sites place new)) (items letters))
does_among {S} content items result what sites place site new here seat there = if_ok result (λ letters does.
    subst (λ (s : Seat). SomeSeatDoes what s (seats_in content sites) (seats_in content (slice_set sites place new)) (items letters)) (same_seat content (place_of what) sites place site new here seat there)
    (among content (place_of what) sites place site new here (λ old now. SomeSeatDoes what (seat_from content site) (seats_in content old) (seats_in content now) (items letters))
    (does_at content what here.before site new here.after (items letters) here.none here.passes does)))

-- ---- what is found. told: the name as it was asked for; slice: the sites as they were looked through
module _ {S : Type 0} (content : S → SiteContent) (name told : List ℕ) (sites slice : List (Site S)) (place : ℕ) (asked : told ≡ name) (through : slice ≡ sites) (first : place ≡ position_or_len (λ site. is_called told (seat_from content site)) slice) where
  is_first : place ≡ position_or_len (λ site. is_called name (seat_from content site)) sites
  is_first = first ∙ ap (position_or_len (λ site. is_called told (seat_from content site))) through ∙ ap (λ (n : List ℕ). position_or_len (λ site. is_called n (seat_from content site)) sites) asked

  pub found : (site : Site S) → place < length sites → site ≡ get_or sites place site → IsAround (λ site. is_called name (seat_from content site)) sites place site
  found site within is = around (λ site. is_called name (seat_from content site)) sites place site is_first within is

  pub nowhere : length sites ≤ place → seat_of name (seats_in content sites) ≡ None
  nowhere past = none_called content name sites (none_passes (λ site. is_called name (seat_from content site)) sites (subst (λ (n : ℕ). length sites ≤ n) is_first past))
