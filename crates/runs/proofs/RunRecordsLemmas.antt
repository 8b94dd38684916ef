-- Lemmas on the relations that are shown where sessions have ended.
use Rattle.std.proofs.Common.{◌≡◌, ◌++◌, ◌∷◌, ℕ, List, [], Option, None, ap, ap₂, length, append-nil, append_assoc, flat_map, map, refl, subst, sym, ◌∙◌}
use Rattle.meaning.specs.declared.schema.RelationSchema.{RelationSchema}
use Rattle.meaning.specs.Whole.{Relations}
use Rattle.catalog.specs.declared.relation.SplitRelation.{SplitRelation}
use Rattle.catalog.specs.Catalogue.{Catalogue}
use Rattle.catalog.specs.Relation.{catalogue_of}
use Rattle.store.specs.DeskContent.{DeskContent}
use Rattle.store.specs.SiteContent.{SiteContent}
use Rattle.protocol.specs.Desk.{Deed}
use Rattle.desk.specs.Database.{Database, language}
use Rattle.std.proofs.lemmas.Grind.{flat_map-append}
use Rattle.std.proofs.lemmas.List.{map-append}
use Rattle.world.specs.declared.event.Entry as world
use Rattle.world.specs.declared.machines.Machines as code
use Rattle.world.specs.Contents.{OfStores, held}
use Rattle.world.specs.Machines.{Machines}
use Rattle.world.specs.Runs.{IsRun}
use Rattle.store.specs.declared.commit.DeskKept.{DeskKept}
use Rattle.desk.specs.State.{volatile_of}
use Rattle.history.specs.declared.entry.Entry.{Entry}
use Rattle.history.specs.declared.records.Past.{Past}
use Rattle.history.specs.declared.told.Told.{Told}
use Rattle.history.specs.declared.weave.WeaveFault as faults
use Rattle.history.specs.DeskHistory.{desk_from}
use Rattle.history.specs.Catalogues.{IsOfCatalogues}
use Rattle.history.specs.Records.{AreRecords, pasts_in}
use Rattle.history.specs.Weaving.{machines_with}
use Rattle.history.proofs.Standing.{stands_so}
use Rattle.world.specs.Listed.{IsListed, StandsIn}
use Rattle.world.proofs.Listing.{stands_as}
use Rattle.terms.specs.declared.value.Value.{Value}
use Rattle.world.specs.Frame.{StaysAsItIs}
use Rattle.world.specs.Settled.{ShowsSerial}
use Rattle.forms.specs.declared.mode.Mode.TheVariants.{Tabs}
use Rattle.forms.specs.Mode.{line_in}
use Rattle.databases.specs.Shown.{relation_text}
use Rattle.runs.specs.Run.{Found, IsOneRun, IsVerdict, Prints, ShowSerial, ShowsFound, relation_lines}

-- what is printed in four steps, of which the first is nothing
pub all_printed : (nothing first second third one two three : List ℕ) → nothing ≡ [] → one ≡ nothing ++ first → two ≡ one ++ second → three ≡ two ++ third → three ≡ first ++ second ++ third
all_printed nothing first second third one two three h1 h2 h3 h4 = h4 ∙ ap (λ text. text ++ third) (h3 ∙ ap (λ text. text ++ second) (h2 ∙ ap (λ text. text ++ first) h1))

both_serial : (db : Database) (whole : Relations) (happened : List world.Entry) (front back : List Found) → ShowSerial db whole happened front → ShowSerial db whole happened back → ShowSerial db whole happened (front ++ back)
both_serial db whole happened [] back one other = other
both_serial db whole happened (found ∷ front) back one other = (one.0, both_serial db whole happened front back one.1 other)

module _ {D S : Type 0} (desk_is_clean desk_is_sound : D → Type 0) (desk_content : D → DeskContent) (site_is_clean site_is_sound : S → Type 0) (site_content : S → SiteContent) (catalogue : Catalogue) where
  -- nothing is shown
  pub prints_none : (relations : List RelationSchema) (machines : code.Machines D S) (text : List ℕ) → length relations ≡ 0 → Prints desk_is_clean desk_is_sound desk_content site_is_clean site_is_sound site_content catalogue (map (λ relation. relation.name) relations) machines machines text text
  prints_none (relation ∷ relations) machines text none = absurd (cc)
  prints_none [] machines text none = record {
    shown = [];
    found = record { names_are = refl; clean = λ clean. clean; sound = λ clean sound. sound; same = λ clean sound. refl; catalog = refl; later = refl; serial = λ db whole happened past listed stands clean sound run. tt };
    printed = sym (append-nil text);
  }

  -- a relation is shown
  pub prints_one : (name : List ℕ) (rows : Option (List (List Value))) (old new : code.Machines D S) (before between after text : List ℕ)
      → (OfStores desk_is_clean site_is_clean new → OfStores desk_is_clean site_is_clean old)
      → (OfStores desk_is_clean site_is_clean new → OfStores desk_is_sound site_is_sound old → OfStores desk_is_sound site_is_sound new)
      → StaysAsItIs (OfStores desk_is_clean site_is_clean) (OfStores desk_is_sound site_is_sound) (held desk_content site_content) old new
      → new.desk.catalog ≡ old.desk.catalog → new.desk.later.items ≡ old.desk.later.items
      → ((db : Database) (whole : Relations) (happened : List world.Entry) (past : List (Deed (language db))) → IsListed db → StandsIn db old.desk → OfStores desk_is_clean site_is_clean new → OfStores desk_is_sound site_is_sound old → IsRun db whole (held desk_content site_content old) happened past → ShowsSerial db whole happened name rows)
      → text ≡ relation_text Tabs catalogue name rows → between ≡ before ++ line_in Tabs name → after ≡ between ++ text
      → Prints desk_is_clean desk_is_sound desk_content site_is_clean site_is_sound site_content catalogue (name ∷ []) old new before after
  prints_one name rows old new before between after text clean sound same catalog later serial text_is named shown =
      let found : Found = record { name = name; rows = rows } in
      record {
        shown = found ∷ [];
        found = record { names_are = refl; clean = clean; sound = sound; same = same; catalog = catalog; later = later; serial = λ db whole happened past listed stands clean sound run. (serial db whole happened past listed stands clean sound run, tt) };
        printed = shown ∙ ap₂ (λ front back. front ++ back) named text_is ∙ append_assoc before (name ++ 10 ∷ []) (relation_text Tabs catalogue name rows) ∙ ap (λ text. before ++ text) (append_assoc name (10 ∷ []) (relation_text Tabs catalogue name rows) ∙ sym (append-nil (relation_lines catalogue found)));
      }

  -- a relation is shown before others
  pub prints_more : (name : List ℕ) (names : List (List ℕ)) (old middle new : code.Machines D S) (before between after : List ℕ)
      → Prints desk_is_clean desk_is_sound desk_content site_is_clean site_is_sound site_content catalogue (name ∷ []) old middle before between
      → Prints desk_is_clean desk_is_sound desk_content site_is_clean site_is_sound site_content catalogue names middle new between after
      → Prints desk_is_clean desk_is_sound desk_content site_is_clean site_is_sound site_content catalogue (name ∷ names) old new before after
  prints_more name names old middle new before between after one others = record {
    shown = one.shown ++ others.shown;
    found = record {
      names_are = map-append (λ (found : Found). found.name) one.shown others.shown ∙ ap₂ (λ front back. front ++ back) one.found.names_are others.found.names_are;
      clean = λ clean. one.found.clean (others.found.clean clean);
      sound = λ clean sound. others.found.sound clean (one.found.sound (others.found.clean clean) sound);
      same = λ clean sound. others.found.same clean (one.found.sound (others.found.clean clean) sound) ∙ one.found.same (others.found.clean clean) sound;
      catalog = others.found.catalog ∙ one.found.catalog;
      later = others.found.later ∙ one.found.later;
      serial = λ db whole happened past listed stands clean sound run.
          let between_clean = others.found.clean clean in
          let same = one.found.same between_clean sound in
          let there = stands_as db old.desk middle.desk (ap (λ (machines : Machines). machines.table.version) same) one.found.catalog one.found.later stands in
          let run_there = subst (λ (machines : Machines). IsRun db whole machines happened past) (sym same) run in
          both_serial db whole happened one.shown others.shown (one.found.serial db whole happened past listed stands between_clean sound run) (others.found.serial db whole happened past listed there clean (one.found.sound between_clean sound) run_there);
    };
    printed = others.printed ∙ ap (λ text. text ++ flat_map (relation_lines catalogue) others.shown) one.printed ∙ append_assoc before (flat_map (relation_lines catalogue) one.shown) (flat_map (relation_lines catalogue) others.shown) ∙ ap (λ lines. before ++ lines) (sym (flat_map-append (relation_lines catalogue) one.shown others.shown));
  }

  -- histories without a fault are one run, and what is shown then is what its committed transactions make
  pub one_run : (machines ended : code.Machines D S) (catalogs : List (List (List ℕ) × List SplitRelation)) (opening : DeskKept) (entries : List Entry) (pasts : List Past) (lists : List (List Told)) (names : List (List ℕ)) (shown : List Found) (verdict : Option faults.WeaveFault)
      (db : Database) → IsListed db → IsOfCatalogues db opening.version (map catalogue_of catalogs)
      → AreRecords desk_is_clean desk_is_sound desk_content site_is_clean site_is_sound site_content machines catalogs opening entries pasts
      → ShowsFound desk_is_clean desk_is_sound desk_content site_is_clean site_is_sound site_content names machines ended shown
      → IsVerdict desk_is_clean desk_is_sound desk_content site_is_clean site_is_sound site_content machines catalogs opening entries pasts lists verdict
      → verdict ≡ None → OfStores desk_is_clean site_is_clean ended
      → IsOneRun desk_is_clean desk_is_sound desk_content site_is_clean site_is_sound site_content db machines opening entries pasts lists shown
  one_run machines ended catalogs opening entries pasts lists names shown verdict db listed of are found judged none clean =
      let last = desk_from desk_content machines.desk in
      let sites = pasts_in site_content machines.sites.items pasts in
      let clean_before = found.clean clean in
      let sound : OfStores desk_is_sound site_is_sound machines = (are.desk.sound clean_before.0, are.sites_sound clean_before.1) in
      let woven = subst (IsVerdict desk_is_clean desk_is_sound desk_content site_is_clean site_is_sound site_content machines catalogs opening entries pasts lists) none judged in
      let weaves = woven.run db listed of clean_before in
      let stands = stands_so desk_is_clean desk_is_sound desk_content site_is_clean site_is_sound site_content machines catalogs opening entries pasts are clean_before.0 db of in
      let are_held : machines_with last sites machines.desk.later.items ≡ held desk_content site_content machines =
      λ i. record { desk = desk_content machines.desk.store; table = volatile_of machines.desk.volatile; seats = are.lasts i; later = machines.desk.later.items; refused = [] } in
      record {
        events = woven.events;
        weaves = weaves;
        shows = λ whole rebuilt.
            let ran = weaves.run whole rebuilt in
            found.serial db whole weaves.woven.happened ran.past listed stands clean sound (subst (λ (now : Machines). IsRun db whole now weaves.woven.happened ran.past) are_held ran.run);
      }
