-- Why `text::order_of` ends: each turn looks at one byte fewer.
use Rattle.std.proofs.Common.{length}
use Rattle.terms.proofs.text.+order_of.Given as goal

abbrev pub decreases-order_of : goal.decreases-order_of
decreases-order_of l = length l.bytes.now
