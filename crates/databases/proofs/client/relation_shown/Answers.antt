use Rattle.std.proofs.Common.{◌≡◌, ℕ, List, ap, map, option_map, subst, sym, ◌∙◌}
use Rattle.catalog.specs.Catalogue.{Catalogue}
use Rattle.catalog.specs.Relation.{catalogue_of}
use Rattle.desk.specs.CatalogueDatabase.{database}
use Rattle.world.specs.Machines.{Machines}
use Rattle.world.specs.Settled.{ShowsSerial, rows_shown}
use Rattle.databases.specs.Shown.{relation_text}
use Rattle.databases.proofs.ClientLemmas.{rows_of_own, shows_on, stands_still}
use Rattle.databases.proofs.ListClientLemmas.{rows_serial, shows_over, stands_in, stays_still}
use Rattle.databases.proofs.client.relation_shown.Goals as goal

pub returns-in-Ok : goal.returns-in-Ok
returns-in-Ok g c = record {
  clean = c.rebuilt.ensures.leaves.clean;
  answers = λ catalogue whole past clean h.
      let old = c.args.database.now in
      let new = c.rebuilt.new.self in
      let name = c.in_ok-name.name in
      let named : name ≡ c.args.name.now = c.in_ok-name.ensures in
      let found = option_map (λ rows. rows.items) c.in-Ok.found in
      let over = ap catalogue_of (c.catalog.ensures ∙ c.rebuilt.ensures.leaves.catalog) ∙ h.catalog in
      record {
        later = past;
        goes_on = shows_on catalogue whole past old new clean h c.rebuilt.ensures.still (ap catalogue_of c.rebuilt.ensures.leaves.catalog) c.rebuilt.ensures.leaves.sound c.rebuilt.ensures.same;
        answers = (
          stands_still catalogue whole past old new clean h c.rebuilt.ensures.still c.rebuilt.ensures.same,
          λ other those fits.
              c.in_ok-relation_text-in-Ok.ensures ∙ ap (λ (over : Catalogue). relation_text c.args.mode over name found) over
              ∙ ap (λ shown. relation_text c.args.mode catalogue name shown) (rows_of_own catalogue whole past old new clean h name found c.in-Ok.ensures.rows other those fits)
              ∙ ap (λ (n : List ℕ). relation_text c.args.mode catalogue n (rows_shown (database catalogue) other n)) named,
        );
      };
  over = λ db whole happened listed clean h.
      let old = c.args.database.now in
      let new = c.rebuilt.new.self in
      let name = c.in_ok-name.name in
      let named : name ≡ c.args.name.now = c.in_ok-name.ensures in
      let found = option_map (λ rows. rows.items) c.in-Ok.found in
      let over = ap catalogue_of (c.catalog.ensures ∙ c.rebuilt.ensures.leaves.catalog) ∙ sym h.here in
      let version = ap (λ (machines : Machines). machines.table.version) (c.rebuilt.ensures.same clean h.sound) in
      let rows = (c.in-Ok.ensures.lists db whole happened.deeds listed (stands_in db old.machines.desk h.here h.next) clean h.sound h.told.served).0 in
      record {
        later = happened;
        goes_on = shows_over db whole happened old new clean h c.rebuilt.ensures.still version (ap catalogue_of c.rebuilt.ensures.leaves.catalog) (ap (map catalogue_of) c.rebuilt.ensures.leaves.later) c.rebuilt.ensures.leaves.sound c.rebuilt.ensures.same;
        answers = (
          stays_still db whole happened old new clean h c.rebuilt.ensures.still c.rebuilt.ensures.same,
          (
            found,
            subst (λ (n : List ℕ). ShowsSerial db whole happened.entries n found) named (rows_serial db whole happened name found h.told.tells rows),
            c.in_ok-relation_text-in-Ok.ensures ∙ ap (λ (over : Catalogue). relation_text c.args.mode over name found) over ∙ ap (λ (n : List ℕ). relation_text c.args.mode (db.catalogue old.machines.desk.volatile.version) n found) named,
          ),
        );
      };
  err = tt;
}
