-- Why a client's database grows quiet.
use Rattle.std.proofs.Common.{ℕ}
use Rattle.catalog.specs.Relation.{catalogue_of}
use Rattle.desk.specs.CatalogueDatabase.{database, fits}
use Rattle.world.proofs.DatabaseIsHoused.{housed}
use Rattle.world.proofs.DatabaseSites.{sites_once}
use Rattle.world.proofs.Quieting.{quiet_after_commit, quiet_after_rollback}
use Rattle.world.proofs.StatementEnds.{quiet_or_ready}
use Rattle.world.proofs.laws.grows_quiet.Goals as goal

pub returns : goal.returns
returns c =
    let catalogue = catalogue_of c.args.catalog.now in
    let formed = c.relations.ensures.formed in
    let once = sites_once catalogue formed in
    let of = c.language_is_lawful.ensures.of_language in
    let houses = λ (n : ℕ). housed catalogue formed c.leaf_names_are_unique.ensures c.contents_ascend.ensures n in
    record {
      states = λ whole before after past txn statement choice heard served ready is room serves. quiet_or_ready (database catalogue) (fits catalogue) of once houses whole before after past txn statement choice heard served ready is room serves;
      commits = λ whole before after past txn choice heard served ready serves. quiet_after_commit (database catalogue) of once (fits catalogue) whole before after past txn choice heard ready served serves;
      rolls_back = λ whole before after past txn choice heard served ready serves. quiet_after_rollback (database catalogue) of once (fits catalogue) whole before after past txn choice heard ready served serves;
    }
