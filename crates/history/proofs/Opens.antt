-- The first states of recorded histories, put together, are an opening of the protocol.
use Rattle.std.proofs.Common.{◌≡◌, refl, sym, ap, ◌∙◌, subst, nat_eq, ℕ, Bool, true, false, List, [], ◌∷◌, map, Option, Some, None, if◌then◌else◌}
use Rattle.std.specs.Cmp.Lexicographic.{pointwise}
use Rattle.std.specs.List.{AllByRecursion, list_any}
use Rattle.std.specs.Option.{option_map}
use Rattle.std.specs.Ordering.{is_eq}
use Rattle.terms.specs.Leaf.{leaf_cmp}
use Rattle.catalog.specs.declared.relation.SplitRelation.{SplitRelation}
use Rattle.meaning.specs.Whole.{Relations}
use Rattle.store.specs.declared.commit.DeskKept.{DeskKept}
use Rattle.store.specs.Content.{made_by}
use Rattle.store.specs.DeskContent.{by_site, voters_in}
use Rattle.store.specs.SiteContent.{row_of}
use Rattle.protocol.proofs.Placing.{kept_here}
use Rattle.protocol.specs.Catalogues.{site_at}
use Rattle.protocol.specs.Local.{local}
use Rattle.site.specs.Seat.{Seat, is_called, state_at}
use Rattle.site.specs.State.{state_of}
use Rattle.site.proofs.Lawful.{local_lawful}
use Rattle.desk.specs.Database.{Database, IsPlace, statements}
use Rattle.desk.specs.Place.{Place}
use Rattle.world.specs.declared.fault.Fault.{Fault}
use Rattle.world.specs.Machines.{Machines}
use Rattle.world.specs.Runs.{IsRun}
use Rattle.world.specs.Sites.{states_of}
use Rattle.world.specs.Start.{IsAtRest}
use Rattle.world.proofs.ListIsBase.{list_run}
use Rattle.world.proofs.Openings.{list_at_rest}
use Rattle.world.proofs.Seating.{HasItsLeaves, name_is}
use Rattle.history.specs.declared.entry.Entry.{Entry}
use Rattle.history.specs.DeskHistory.{DeskState}
use Rattle.history.specs.Replays.{Replays}
use Rattle.history.specs.SiteHistory.{SiteAnswers, SiteMoves, SiteRecorded}
use Rattle.history.specs.Weaving.{AreRecorded, HasLeaves, Rebuilds, SitePast, fragment_at}

-- ---- a site keeps its name and its leaves, at each call
site_still : (fault : Option Fault) (before : Seat) (entry : Entry) (after : Seat) → SiteAnswers fault before entry after → (after.name ≡ before.name) × (after.leaves ≡ before.leaves)
site_still None before entry after so = (so.does.name, so.does.leaves)
site_still (Some told) before entry after so = (ap (λ (s : Seat). s.name) so.same, ap (λ (s : Seat). s.leaves) so.same)

-- so over its history
site_stays : (first : Seat) (entries : List Entry) (last : Seat) → Replays SiteMoves first entries last → (last.name ≡ first.name) × (last.leaves ≡ first.leaves)
site_stays first [] last so = (ap (λ (s : Seat). s.name) so, ap (λ (s : Seat). s.leaves) so)
site_stays first (entry ∷ entries) last so =
    let one = site_still entry.fault first entry so.0 so.1.0 in
    let rest = site_stays so.0 entries last so.1.1 in
    (rest.0 ∙ one.0, rest.1 ∙ one.1)

-- the machines of a coordinator and of sites, with the catalogues that come later
abbrev pub machines_over : DeskState → List Seat → List (List (List ℕ) × List SplitRelation) → Machines
machines_over desk seats later = record { desk = desk.content; table = desk.table; seats = seats; later = later; refused = [] }

-- each of these sites is recorded
abbrev pub AllRecorded : List SitePast → Type 0
AllRecorded pasts = AllByRecursion (λ (past : SitePast). SiteRecorded past.opening past.entries past.last) pasts

-- the sites as they were first
abbrev pub firsts : (pasts : List SitePast) → AllRecorded pasts → List Seat
firsts [] all = []
firsts (past ∷ pasts) all = all.0.first ∷ firsts pasts all.1

-- they had their names
first_names : (pasts : List SitePast) (all : AllRecorded pasts) → map (λ (seat : Seat). seat.name) (firsts pasts all) ≡ map (λ (past : SitePast). past.last.name) pasts
first_names [] all = refl
first_names (past ∷ pasts) all = λ i. sym (site_stays all.0.first past.entries past.last all.0.replays).0 i ∷ first_names pasts all.1 i

-- and their leaves
first_leaves : (db : Database) (pasts : List SitePast) (all : AllRecorded pasts) → AllByRecursion (λ (past : SitePast). HasLeaves db past.last) pasts → AllByRecursion (HasItsLeaves db) (firsts pasts all)
first_leaves db [] all have = tt
first_leaves db (past ∷ pasts) all have = (here, first_leaves db pasts all.1 have.1)
  where
    same : (past.last.name ≡ all.0.first.name) × (past.last.leaves ≡ all.0.first.leaves)
    same = site_stays all.0.first past.entries past.last all.0.replays

    here : HasItsLeaves db all.0.first
    here = λ leaf home. subst (λ leaves. list_any (λ other. is_eq (leaf_cmp leaf other)) leaves ≡ true) same.1 (have.0 leaf (subst (λ name. IsPlace db (name, leaf)) (sym same.0) home))

-- none had a prepared row
first_rests : (pasts : List SitePast) (all : AllRecorded pasts) → AllByRecursion (λ (past : SitePast). past.opening.rows.prepared ≡ []) pasts → AllByRecursion IsAtRest (firsts pasts all)
first_rests [] all none = tt
first_rests (past ∷ pasts) all none = (record { begins = all.0.begins; prepared = λ ticket. sym (all.0.lists.rows.rows ticket) ∙ ap (row_of ticket) none.0 }, first_rests pasts all.1 none.1)

-- each kept what its opening lists
first_keeps : (db : Database) (pasts : List SitePast) (all : AllRecorded pasts) (place : Place) → (states_of (statements db) (firsts pasts all) place.0).kept place ≡ fragment_at pasts place
first_keeps db [] all place = refl
first_keeps db (past ∷ pasts) all place =
    ap (λ (name : List ℕ). (if pointwise nat_eq place.0 name then state_at (statements db) first else states_of (statements db) (firsts pasts all.1) place.0).kept place) (sym named) ∙ go (is_called place.0 past.last) refl (first_keeps db pasts all.1 place)
  where
    first : Seat
    first = all.0.first

    named : past.last.name ≡ first.name
    named = (site_stays first past.entries past.last all.0.replays).0

    go : (b : Bool) → is_called place.0 past.last ≡ b → (states_of (statements db) (firsts pasts all.1) place.0).kept place ≡ fragment_at pasts place → (if b then state_at (statements db) first else states_of (statements db) (firsts pasts all.1) place.0).kept place ≡ (if b then made_by past.opening.parts place.1 else fragment_at pasts place)
    go false e later = later
    go true e later =
        let state = state_of first.kept first.table in
        ap (λ (name : List ℕ). (site_at local (statements db) name state).kept place) (sym named ∙ sym (name_is place.0 past.last.name e)) ∙ kept_here local (statements db) local_lawful place.0 state place.1 ∙ sym (all.0.lists.fragments place.1)

-- ---- the machines as they were first
module _ (db : Database) (whole : Relations) (opening : DeskKept) (entries : List Entry) (last : DeskState) (pasts : List SitePast) (recorded : AreRecorded db opening entries last pasts) (rebuilds : Rebuilds db opening.version whole pasts) where
  -- they are an opening, and nothing has happened to them yet
  pub first_run : (later : List (List (List ℕ) × List SplitRelation)) → IsRun db whole (machines_over recorded.desk.first (firsts pasts recorded.sites) later) [] []
  first_run later =
      let desk = recorded.desk in
      let machines = machines_over desk.first (firsts pasts recorded.sites) later in
      let version : opening.version ≡ desk.first.table.version = desk.lists.catalogue ∙ sym desk.rises.fits.version in
      list_run db whole machines (list_at_rest db whole machines rebuilds.fits (first_names pasts recorded.sites ∙ recorded.names) (first_leaves db pasts recorded.sites recorded.leaves) (first_rests pasts recorded.sites recorded.prepared)
      (λ place. first_keeps db pasts recorded.sites place ∙ rebuilds.content place ∙ ap (λ (n : ℕ). db.content n place whole) version)
      desk.rises (λ txn. sym (desk.lists.rows txn) ∙ ap (λ rows. option_map by_site (voters_in txn rows)) recorded.decided))
