use Rattle.std.proofs.Common.{ap, map, option_map, sym, ◌∙◌}
use Rattle.catalog.specs.Catalogue.{Catalogue}
use Rattle.catalog.specs.Relation.{catalogue_of}
use Rattle.world.specs.Machines.{Machines}
use Rattle.databases.specs.Shown.{parts_text}
use Rattle.databases.proofs.ClientLemmas.{parts_of_own, shows_on, stands_still}
use Rattle.databases.proofs.ListClientLemmas.{shows_over, stands_in, stays_still}
use Rattle.databases.proofs.client.parts_shown.Goals as goal

pub returns-in_ok-parts_text-in-Ok : goal.returns-in_ok-parts_text-in-Ok
returns-in_ok-parts_text-in-Ok g c = record {
  clean = c.parts.ensures.leaves.clean;
  shown = λ catalogue whole past clean h.
      let old = c.args.database.now in
      let new = c.parts.new.self in
      let found = option_map (λ parts. parts.items) c.in-Ok.found in
      let over = ap catalogue_of (c.catalog.ensures ∙ c.parts.ensures.leaves.catalog) ∙ h.catalog in (
        shows_on catalogue whole past old new clean h c.parts.ensures.still (ap catalogue_of c.parts.ensures.leaves.catalog) c.parts.ensures.leaves.sound c.parts.ensures.same,
        (
          stands_still catalogue whole past old new clean h c.parts.ensures.still c.parts.ensures.same,
          c.in_ok-parts_text-in-Ok.ensures ∙ ap (λ (other : Catalogue). parts_text c.args.mode other c.args.name.now c.args.leaf.now found) over
              ∙ ap (λ shown. parts_text c.args.mode catalogue c.args.name.now c.args.leaf.now shown) (parts_of_own catalogue whole past old new clean h c.args.leaf.now found c.in-Ok.ensures.parts),
        ),
      );
  over = λ db whole happened listed clean h.
      let old = c.args.database.now in
      let new = c.parts.new.self in
      let found = option_map (λ parts. parts.items) c.in-Ok.found in
      let over = ap catalogue_of (c.catalog.ensures ∙ c.parts.ensures.leaves.catalog) ∙ sym h.here in
      let version = ap (λ (machines : Machines). machines.table.version) (c.parts.ensures.same clean h.sound) in
      let parts = (c.in-Ok.ensures.lists db listed (stands_in db old.machines.desk h.here h.next) clean h.sound h.told.served.fit).0 in (
        shows_over db whole happened old new clean h c.parts.ensures.still version (ap catalogue_of c.parts.ensures.leaves.catalog) (ap (map catalogue_of) c.parts.ensures.leaves.later) c.parts.ensures.leaves.sound c.parts.ensures.same,
        (
          stays_still db whole happened old new clean h c.parts.ensures.still c.parts.ensures.same,
          c.in_ok-parts_text-in-Ok.ensures ∙ ap (λ (other : Catalogue). parts_text c.args.mode other c.args.name.now c.args.leaf.now found) over
              ∙ ap (λ shown. parts_text c.args.mode (db.catalogue old.machines.desk.volatile.version) c.args.name.now c.args.leaf.now shown) parts,
        ),
      );
  err = tt;
}
