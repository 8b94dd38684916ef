use Rattle.std.proofs.Common.{◌∙◌}
use Rattle.sqlstore.proofs.Naming.{other_front}
use Rattle.sqlstore.proofs.listing.has_name.Goals as goal

pub returns-then-not-starts_with : goal.returns-then-not-starts_with
returns-then-not-starts_with c = other_front c.args.leaf.now c.args.name.now c.as_bytes.result.now c.starts_with.result (c.as_bytes.ensures.value ∙ c.as_str.ensures) c.starts_with.ensures.value c.if-not-starts_with.true
