-- What a refusal says, by its rule.
use Rattle.catalog.specs.declared.fault.Rule.{Rule}
use Rattle.catalog.specs.declared.fault.Rule.TheVariants.{Gap, Overlap, Memory}

-- want of memory says nothing; a gap or an overlap says the first of these, and any other rule the second
abbrev pub RefusesBy : Type 0 → Type 0 → Rule → Type 0
RefusesBy inexact none Memory = Unit {0}
RefusesBy inexact none (Gap cell) = inexact
RefusesBy inexact none (Overlap cell) = inexact
RefusesBy inexact none _ = none
