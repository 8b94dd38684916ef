use Rattle.std.proofs.Common.{◌++◌, ap, rules, string_bytes, ◌∙◌}
use Rattle.catalog.specs.Relation.{catalogue_of}
use Rattle.forms.specs.declared.mode.Mode.TheVariants.{Tabs}
use Rattle.forms.specs.Mode.{line_in}
use Rattle.runs.proofs.RunRecordsLemmas.{prints_one}
use Rattle.runs.proofs.run_records.put_relation.Goals as goal

pub returns-clause-ok : goal.returns-clause-ok
returns-clause-ok g c =
    prints_one g.D.DeskStore.is_clean g.D.DeskStore.is_sound g.D.DeskStore.kept g.S.SiteStore.is_clean g.S.SiteStore.is_sound g.S.SiteStore.kept (catalogue_of c.args.catalog.now) c.args.name.now _ c.args.records.now.machines c.rebuilt.new.self.machines
    (string_bytes c.args.out.now) (string_bytes c.put_line.new.out) (string_bytes c.push_str.new.self) (string_bytes c.in_ok-rows.rows)
    c.rebuilt.ensures.leaves.clean c.rebuilt.ensures.leaves.sound c.rebuilt.ensures.same c.rebuilt.ensures.leaves.catalog c.rebuilt.ensures.leaves.later c.in-Ok.ensures.serial c.in_ok-rows.ensures (c.in_ok-put_line.ensures ∙ ap (λ name. string_bytes c.args.out.now ++ line_in Tabs name) (search rules)) (search rules)
