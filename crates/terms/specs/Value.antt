-- Values: their types, which ones a database holds, and their order.
use Rattle.std.specs.Prelude.{FitsSigned}
use Rattle.std.specs.Int.{w64}
use Rattle.std.specs.Ordering.{nat_cmp, int_cmp}
use Rattle.std.specs.Cmp.Lexicographic.{slice_cmp}
use Rattle.std.specs.declared.cmp.Ordering.{Ordering}
use Rattle.std.specs.declared.cmp.Ordering.TheVariants.{Less, Greater}
use Rattle.terms.specs.declared.value.Kind.{Kind}
use Rattle.terms.specs.declared.value.Kind.TheVariants as kinds
use Rattle.terms.specs.declared.value.Value.{Value}
use Rattle.terms.specs.declared.value.Value.TheVariants.{Int, Text}
use Rattle.terms.specs.Text.{IsTextUpTo}

-- the type of a value
abbrev pub kind_of : Value → Kind
kind_of (Int n) = kinds.Int
kind_of (Text bytes) = kinds.Text

-- a value that a database holds: an integer of 64 bits, or a text of at most 200 bytes
abbrev pub Fits : Value → Type 0
Fits (Int n) = FitsSigned w64 n
Fits (Text bytes) = IsTextUpTo 200 bytes

-- the order of values: integers as numbers, texts by their bytes, integers before texts
abbrev pub value_cmp : Value → Value → Ordering
value_cmp (Int m) (Int n) = int_cmp m n
value_cmp (Int m) (Text t) = Less
value_cmp (Text s) (Int n) = Greater
value_cmp (Text s) (Text t) = slice_cmp nat_cmp s t
