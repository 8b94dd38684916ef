-- Why `plan_text::planned` meets its contract.
use Rattle.std.proofs.Common.{◌++◌, [], ap, arith, string_bytes, ◌∙◌}
use Rattle.catalog.specs.Relation.{catalogue_of}
use Rattle.lines.specs.Plan.{fetch_line}
use Rattle.lines.proofs.CheckLemmas.{one_more_line}
use Rattle.lines.proofs.plan_text.planned.Goals as goal

pub loop-fetch-preserved : goal.loop-fetch-preserved
loop-fetch-preserved c =
    let line = fetch_line (catalogue_of c.args.catalog.now) in
    let text = string_bytes c.loop-fetch.text in
    one_more_line line c.as_slice-fetch-items.result.now c.loop-fetch.fetch-index c.fetch-item.result [] text (string_bytes c.put_fetch.new.out) (omega arith) c.loop-fetch.invariant
    (c.in_ok-put_fetch.ensures ∙ ap (λ fetch. text ++ line fetch) c.fetch-item.is)
