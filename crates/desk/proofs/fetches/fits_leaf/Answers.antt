-- Why `fits_leaf` meets its contract.
use Rattle.std.proofs.Common.{rules, sym, ap, ◌∙◌}
use Rattle.std.specs.Option.{option_copied}
use Rattle.desk.proofs.Fitting.{fits_as}
use Rattle.desk.proofs.fetches.fits_leaf.Goals as goal

pub returns-in-Some : goal.returns-in-Some
returns-in-Some c = fits_as _ c.in-Some.leaf.now c.as_slice.result.now c.args.parts.now c.are_parts.result (sym c.leaf.ensures ∙ ap option_copied c.in-Some.is) (search rules) c.are_parts.ensures
