use Rattle.std.proofs.Common.{inr, List, ℕ, add-one, sym, ap, ◌∙◌, option_map}
use Rattle.std.specs.Borrow.{Bor}
use Rattle.toml.specs.View.{view}
use Rattle.catalog.proofs.TextBreaks.{texts_more, item_break}
use Rattle.catalog.proofs.column_texts.broken_columns.Goals as goal

pub loop-item-preserved : goal.loop-item-preserved
loop-item-preserved c =
    rw add-one (texts_more view c.args.items.now c.loop-item.item-index _ c.item-item.result c.in-Some.text.now c.loop-item.columns.items c.push.new.self.items c.in-Ok.column
    c.item-item.is c.loop-item-test.true (sym c.as_str.ensures ∙ ap (option_map (λ (text : Bor (List ℕ)). text.now)) c.in-Some.is) c.in_ok-push-in-Ok.ensures.items c.in-Ok.ensures.says c.loop-item.invariant)

pub returns-in-Err-clause-breaks : goal.returns-in-Err-clause-breaks
returns-in-Err-clause-breaks c of_text =
    inr (item_break view c.args.items.now c.loop-item.item-index _ c.item-item.result c.in-Some.text.now c.as_slice.result.now c.loop-item.columns.items c.in-Err.rule
    c.item-item.is c.loop-item-test.true (sym c.as_str.ensures ∙ ap (option_map (λ (text : Bor (List ℕ)). text.now)) c.in-Some.is) c.as_slice.ensures.value c.in-Err.ensures.fault of_text c.loop-item.invariant)
