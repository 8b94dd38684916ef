use Rattle.std.proofs.Common.{rules, string_bytes}
use Rattle.catalog.specs.Relation.{catalogue_of}
use Rattle.runs.proofs.RunRecordsLemmas.{prints_none}
use Rattle.runs.proofs.run_records.+put_relations.Goals as goal

pub returns-in_default-clause-ok : goal.returns-in_default-clause-ok
returns-in_default-clause-ok g t c =
    prints_none g.D.DeskStore.is_clean g.D.DeskStore.is_sound g.D.DeskStore.kept g.S.SiteStore.is_clean g.S.SiteStore.is_sound g.S.SiteStore.kept (catalogue_of c.args.catalog.now) c.args.relations.now c.args.records.now.machines (string_bytes c.args.out.now) (search rules)
