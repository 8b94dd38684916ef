-- The resolver's own words, which a reader may skip: how a result stands to a meaning.
use Rattle.std.specs.Prelude.{◌≡◌, Option, Some, None, Result, Ok, Err}
use Rattle.reader.specs.declared.fault.ReadFault.{ReadFault}
use Rattle.reader.specs.declared.fault.Rule.{Rule}
use Rattle.reader.specs.declared.fault.Rule.TheVariants as rules

-- where a rule of the text refuses there is no meaning; that memory ran out says nothing
abbrev pub HasNone : {Y : Type 0} → Rule → Option Y → Type 0
HasNone rules.Memory meant = Unit {0}
HasNone rule meant = meant ≡ None

-- what a function answers, seen by view, is what is meant, if anything is
abbrev pub Resolves : {X Y : Type 0} → (X → Y) → Result X ReadFault → Option Y → Type 0
Resolves view (Ok x) meant = meant ≡ Some (view x)
Resolves view (Err fault) meant = HasNone fault.rule meant
