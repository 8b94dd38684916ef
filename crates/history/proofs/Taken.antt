-- Cells that are taken apart, and the records that they make.
use Rattle.std.proofs.Common.{◌≡◌, refl, sym, ◌∙◌, subst, List, [], ◌∷◌, ◌++◌, map}
use Rattle.std.specs.List.{AllByRecursion}
use Rattle.std.proofs.lemmas.List.{map-append}
use Rattle.store.specs.SiteContent.{SiteContent}
use Rattle.site.specs.declared.site.Site.{Site}
use Rattle.site.specs.Seat.{seat_from}
use Rattle.world.proofs.Opened.{all_more}
use Rattle.history.specs.declared.records.Past.{Past}
use Rattle.history.specs.Records.{AreTaken, pasts_in}
use Rattle.history.specs.SiteHistory.{SiteHistory, SiteHolds, SiteRecorded}
use Rattle.history.specs.Weaving.{SitePast}

first_of : {A : Type 0} (a b : A) (xs ys : List A) → a ∷ xs ≡ b ∷ ys → a ≡ b
first_of a b xs ys e = cc

rest_of : {A : Type 0} (a b : A) (xs ys : List A) → a ∷ xs ≡ b ∷ ys → xs ≡ ys
rest_of a b xs ys e = cc

no_first : {A : Type 0} (b : A) (ys : List A) → [] ≡ b ∷ ys → ⊥
no_first b ys e = cc

module _ {S : Type 0} (is_clean is_sound : S → Type 0) (content : S → SiteContent) where
  -- one cell more was taken apart
  pub taken_more : (cells : List (SiteHistory S)) (sites : List (Site S)) (pasts : List Past) (cell : SiteHistory S) (site : Site S) (past : Past) → AreTaken is_clean is_sound content cells sites pasts →
      site ≡ cell.site → past.opening ≡ cell.opening → past.entries.items ≡ cell.entries → SiteHolds is_clean is_sound content cell.opening cell.entries cell.site →
      AreTaken is_clean is_sound content (cells ++ cell ∷ []) (sites ++ site ∷ []) (pasts ++ past ∷ [])
  taken_more cells sites pasts cell site past taken same opening entries holds = record {
    machines = (λ i. taken.machines i ++ same i ∷ []) ∙ sym (map-append (λ (c : SiteHistory S). c.site) cells (cell ∷ []));
    openings = map-append (λ (p : Past). p.opening) pasts (past ∷ []) ∙ (λ i. taken.openings i ++ opening i ∷ []) ∙ sym (map-append (λ (c : SiteHistory S). c.opening) cells (cell ∷ []));
    histories = map-append (λ (p : Past). p.entries.items) pasts (past ∷ []) ∙ (λ i. taken.histories i ++ entries i ∷ []) ∙ sym (map-append (λ (c : SiteHistory S). c.entries) cells (cell ∷ []));
    hold = all_more (λ (c : SiteHistory S). SiteHolds is_clean is_sound content c.opening c.entries c.site) cells cell taken.hold holds;
  }

  -- what holds of each cell makes its clean store sound
  sound_cells : (cells : List (SiteHistory S)) → AllByRecursion (λ (c : SiteHistory S). SiteHolds is_clean is_sound content c.opening c.entries c.site) cells →
      AllByRecursion (λ (site : Site S). is_clean site.store) (map (λ (c : SiteHistory S). c.site) cells) → AllByRecursion (λ (site : Site S). is_sound site.store) (map (λ (c : SiteHistory S). c.site) cells)
  sound_cells [] hold clean = tt
  sound_cells (c ∷ cells) hold clean = (hold.0.sound clean.0, sound_cells cells hold.1 clean.1)

  -- each site with what it has done is the site
  lasts_are : (cells : List (SiteHistory S)) (pasts : List Past) → map (λ (p : Past). p.opening) pasts ≡ map (λ (c : SiteHistory S). c.opening) cells →
      map (λ (past : SitePast). past.last) (pasts_in content (map (λ (c : SiteHistory S). c.site) cells) pasts) ≡ map (seat_from content) (map (λ (c : SiteHistory S). c.site) cells)
  lasts_are [] pasts same = refl
  lasts_are (c ∷ cells) [] same = absurd (no_first c.opening (map (λ (c : SiteHistory S). c.opening) cells) same)
  lasts_are (c ∷ cells) (p ∷ pasts) same =
      let later = lasts_are cells pasts (rest_of p.opening c.opening (map (λ (p : Past). p.opening) pasts) (map (λ (c : SiteHistory S). c.opening) cells) same) in λ i. seat_from content c.site ∷ later i

  -- and its opening and its entries are those that it had
  openings_are : (cells : List (SiteHistory S)) (pasts : List Past) → map (λ (p : Past). p.opening) pasts ≡ map (λ (c : SiteHistory S). c.opening) cells →
      map (λ (past : SitePast). past.opening) (pasts_in content (map (λ (c : SiteHistory S). c.site) cells) pasts) ≡ map (λ (p : Past). p.opening) pasts
  openings_are [] [] same = refl
  openings_are [] (p ∷ pasts) same = absurd (no_first p.opening (map (λ (p : Past). p.opening) pasts) (sym same))
  openings_are (c ∷ cells) [] same = absurd (no_first c.opening (map (λ (c : SiteHistory S). c.opening) cells) same)
  openings_are (c ∷ cells) (p ∷ pasts) same =
      let later = openings_are cells pasts (rest_of p.opening c.opening (map (λ (p : Past). p.opening) pasts) (map (λ (c : SiteHistory S). c.opening) cells) same) in λ i. p.opening ∷ later i

  histories_are : (cells : List (SiteHistory S)) (pasts : List Past) → map (λ (p : Past). p.opening) pasts ≡ map (λ (c : SiteHistory S). c.opening) cells →
      map (λ (past : SitePast). past.entries) (pasts_in content (map (λ (c : SiteHistory S). c.site) cells) pasts) ≡ map (λ (p : Past). p.entries.items) pasts
  histories_are [] [] same = refl
  histories_are [] (p ∷ pasts) same = absurd (no_first p.opening (map (λ (p : Past). p.opening) pasts) (sym same))
  histories_are (c ∷ cells) [] same = absurd (no_first c.opening (map (λ (c : SiteHistory S). c.opening) cells) same)
  histories_are (c ∷ cells) (p ∷ pasts) same =
      let later = histories_are cells pasts (rest_of p.opening c.opening (map (λ (p : Past). p.opening) pasts) (map (λ (c : SiteHistory S). c.opening) cells) same) in λ i. p.entries.items ∷ later i

  -- the history of each replays
  recorded_cells : (cells : List (SiteHistory S)) (pasts : List Past) → map (λ (p : Past). p.opening) pasts ≡ map (λ (c : SiteHistory S). c.opening) cells → map (λ (p : Past). p.entries.items) pasts ≡ map (λ (c : SiteHistory S). c.entries) cells →
      AllByRecursion (λ (c : SiteHistory S). SiteHolds is_clean is_sound content c.opening c.entries c.site) cells → AllByRecursion (λ (site : Site S). is_clean site.store) (map (λ (c : SiteHistory S). c.site) cells) →
      AllByRecursion (λ (past : SitePast). SiteRecorded past.opening past.entries past.last) (pasts_in content (map (λ (c : SiteHistory S). c.site) cells) pasts)
  recorded_cells [] pasts same entries hold clean = tt
  recorded_cells (c ∷ cells) [] same entries hold clean = tt
  recorded_cells (c ∷ cells) (p ∷ pasts) same entries hold clean =
      let opening = first_of p.opening c.opening (map (λ (p : Past). p.opening) pasts) (map (λ (c : SiteHistory S). c.opening) cells) same in
      let own = first_of p.entries.items c.entries (map (λ (p : Past). p.entries.items) pasts) (map (λ (c : SiteHistory S). c.entries) cells) entries in (
        subst (λ o. SiteRecorded o p.entries.items (seat_from content c.site)) (sym opening) (subst (λ es. SiteRecorded c.opening es (seat_from content c.site)) (sym own) (hold.0.recorded clean.0)),
        recorded_cells cells pasts (rest_of p.opening c.opening (map (λ (p : Past). p.opening) pasts) (map (λ (c : SiteHistory S). c.opening) cells) same)
            (rest_of p.entries.items c.entries (map (λ (p : Past). p.entries.items) pasts) (map (λ (c : SiteHistory S). c.entries) cells) entries) hold.1 clean.1,
      )

  -- ---- so of the sites and their pasts
  module _ (cells : List (SiteHistory S)) (sites : List (Site S)) (pasts : List Past) (taken : AreTaken is_clean is_sound content cells sites pasts) where
    pub taken_sound : AllByRecursion (λ (site : Site S). is_clean site.store) sites → AllByRecursion (λ (site : Site S). is_sound site.store) sites
    taken_sound = subst (λ ss. AllByRecursion (λ (site : Site S). is_clean site.store) ss → AllByRecursion (λ (site : Site S). is_sound site.store) ss) (sym taken.machines) (sound_cells cells taken.hold)

    pub taken_lasts : map (λ (past : SitePast). past.last) (pasts_in content sites pasts) ≡ map (seat_from content) sites
    taken_lasts = subst (λ ss. map (λ (past : SitePast). past.last) (pasts_in content ss pasts) ≡ map (seat_from content) ss) (sym taken.machines) (lasts_are cells pasts taken.openings)

    pub taken_openings : map (λ (past : SitePast). past.opening) (pasts_in content sites pasts) ≡ map (λ (p : Past). p.opening) pasts
    taken_openings = subst (λ ss. map (λ (past : SitePast). past.opening) (pasts_in content ss pasts) ≡ map (λ (p : Past). p.opening) pasts) (sym taken.machines) (openings_are cells pasts taken.openings)

    pub taken_histories : map (λ (past : SitePast). past.entries) (pasts_in content sites pasts) ≡ map (λ (p : Past). p.entries.items) pasts
    taken_histories = subst (λ ss. map (λ (past : SitePast). past.entries) (pasts_in content ss pasts) ≡ map (λ (p : Past). p.entries.items) pasts) (sym taken.machines) (histories_are cells pasts taken.openings)

    pub taken_recorded : AllByRecursion (λ (site : Site S). is_clean site.store) sites → AllByRecursion (λ (past : SitePast). SiteRecorded past.opening past.entries past.last) (pasts_in content sites pasts)
    taken_recorded = subst (λ ss. AllByRecursion (λ (site : Site S). is_clean site.store) ss → AllByRecursion (λ (past : SitePast). SiteRecorded past.opening past.entries past.last) (pasts_in content ss pasts)) (sym taken.machines)
        (recorded_cells cells pasts taken.openings taken.histories taken.hold)
