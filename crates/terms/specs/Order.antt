-- The order of values is total.
use Rattle.std.specs.Prelude.{◌≡◌, refl}
use Rattle.std.specs.Cmp.{IsTotalOrder, int_cmp_total}
use Rattle.std.specs.Cmp.Lexicographic.{nat_list_cmp_total}
use Rattle.std.specs.Ordering.{ordering_reverse}
use Rattle.std.specs.declared.cmp.Ordering.TheVariants.{Less, Equal}
use Rattle.terms.specs.declared.value.Value.{Value}
use Rattle.terms.specs.declared.value.Value.TheVariants.{Int, Text}
use Rattle.terms.specs.Value.{value_cmp}

antisymm : (x y : Value) → value_cmp x y ≡ ordering_reverse (value_cmp y x)
antisymm (Int m) (Int n) = int_cmp_total.antisymm m n
antisymm (Int m) (Text t) = refl
antisymm (Text s) (Int n) = refl
antisymm (Text s) (Text t) = nat_list_cmp_total.antisymm s t

trans : (x y z : Value) → value_cmp x y ≡ Less → value_cmp y z ≡ Less → value_cmp x z ≡ Less
trans (Int m) (Int n) (Int k) = int_cmp_total.trans m n k
trans (Int m) (Int n) (Text u) = λ below above. refl
trans (Int m) (Text t) (Int k) = λ below above. cc
trans (Int m) (Text t) (Text u) = λ below above. refl
trans (Text s) (Int n) (Int k) = λ below above. cc
trans (Text s) (Int n) (Text u) = λ below above. cc
trans (Text s) (Text t) (Int k) = λ below above. cc
trans (Text s) (Text t) (Text u) = nat_list_cmp_total.trans s t u

congr : (x y z : Value) → value_cmp x y ≡ Equal → value_cmp x z ≡ value_cmp y z
congr (Int m) (Int n) (Int k) = int_cmp_total.congr m n k
congr (Int m) (Int n) (Text u) = λ alike. refl
congr (Int m) (Text t) (Int k) = λ alike. cc
congr (Int m) (Text t) (Text u) = λ alike. cc
congr (Text s) (Int n) (Int k) = λ alike. cc
congr (Text s) (Int n) (Text u) = λ alike. cc
congr (Text s) (Text t) (Int k) = λ alike. refl
congr (Text s) (Text t) (Text u) = nat_list_cmp_total.congr s t u

-- the order of values is total
pub value_cmp_total : IsTotalOrder value_cmp
value_cmp_total = record { antisymm = antisymm; trans = trans; congr = congr }

-- values that compare as equal are the same
abbrev pub EqualValuesAreOne : Type 0
EqualValuesAreOne = (one other : Value) → value_cmp one other ≡ Equal → one ≡ other
