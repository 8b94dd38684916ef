use Rattle.std.proofs.Common.{◌∙◌}
use Rattle.catalog.specs.Relation.{catalogue_of}
use Rattle.lines.proofs.CheckLemmas.{said}
use Rattle.lines.proofs.check.check.Goals as goal

pub returns : goal.returns
returns g c =
    said (g.R.Read.remaining c.args.input) c.args.tree c.args.file (g.W.Write.contents c.args.output.now) (g.W.Write.contents c.write_text.new.output) (catalogue_of c.in_ok-catalog.catalog) c.as_str.result.now c.write_text.result
    c.in_ok-catalog.ensures.found c.in_ok-catalog.ensures.valid (c.as_str.ensures.value ∙ c.in_ok-text.ensures) c.write_text.ensures.written c.write_text.ensures.faults
