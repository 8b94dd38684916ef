-- Where one value is below another of its type, its successor is not above the other.
use Rattle.std.proofs.Common.{◌≡◌, ◌≤◌, ℕ, ℤ, pos, negsuc, ◌+ℤ◌, List, [], ◌∷◌, ◌++◌, Some, None, true, false, refl, sym, ◌∙◌, arith, ltb, ⊎_elim, get_or}
use Rattle.std.specs.Prelude.{FitsSigned, int_lt}
use Rattle.std.specs.List.{AllByRecursion}
use Rattle.std.specs.Int.{w64}
use Rattle.std.specs.Cmp.Lexicographic.{slice_cmp}
use Rattle.std.specs.Ordering.{is_gt, nat_cmp, int_cmp, ordering_then}
use Rattle.std.specs.declared.cmp.Ordering.{Ordering}
use Rattle.std.specs.declared.cmp.Ordering.TheVariants.{Less, Equal, Greater}
use Rattle.std.proofs.lemmas.Int.{ints}
use Rattle.std.proofs.lemmas.Bool.{le-ltb, ltb-false, cases_lt, cond-true}
use Rattle.std.proofs.lemmas.Bool.Decides.{nat_tests}
use Rattle.std.proofs.lemmas.List.Elements.{recursion_from_All, All-from_get_or}
use Rattle.std.proofs.lemmas.Str.{NoCharPasses-byte, encodes-chars}
use Rattle.std.specs.Str.{NonePass, NoCharPasses, chars}
use Rattle.terms.specs.Text.{IsPrintable, IsTextUpTo}
use Rattle.terms.specs.declared.value.Kind.{Kind}
use Rattle.terms.specs.declared.value.Value.{Value}
use Rattle.terms.specs.declared.value.Value.TheVariants.{Int, Text}
use Rattle.terms.specs.declared.value.Kind.TheVariants as kinds
use Rattle.terms.specs.Value.{value_cmp, kind_of, Fits}
use Rattle.terms.specs.TestValues.{after, least}

two_kinds : kinds.Int ≡ kinds.Text → ⊥
two_kinds same = cc

below_top : (m n : ℤ) → FitsSigned w64 n → int_cmp m n ≡ Less → int_lt m (pos 9223372036854775807) ≡ true
below_top m n fits less = grind (arith, ints)

below_next : (m : ℤ) → int_cmp m (m +ℤ pos 1) ≡ Less
below_next m = grind (arith, ints)

next_not_above : (m n : ℤ) → int_cmp m n ≡ Less → is_gt (int_cmp (m +ℤ pos 1) n) ≡ false
next_not_above m n less = grind (arith, ints)

not_below_least : (n : ℤ) → FitsSigned w64 n → is_gt (int_cmp (negsuc 9223372036854775807) n) ≡ false
not_below_least n fits = grind (arith, ints)

tied_byte : (a : ℕ) → nat_cmp a a ≡ Equal
tied_byte a = grind (arith)

below_longer : (bytes : List ℕ) → slice_cmp nat_cmp bytes (bytes ++ 32 ∷ []) ≡ Less
below_longer [] = refl
below_longer (byte ∷ bytes) = rw (tied_byte byte) (below_longer bytes)

-- the bytes of a text of printable characters are no control characters
none_pass : (cs : List ℕ) → AllByRecursion IsPrintable cs → NonePass (λ c. ltb c 32) cs
none_pass [] all = tt
none_pass (c ∷ cs) all = let low : 32 ≤ c = all.0.0 in (le-ltb c 32 low, none_pass cs all.1)

bytes_from_32 : (limit : ℕ) (bytes : List ℕ) → IsTextUpTo limit bytes → AllByRecursion (λ byte. 32 ≤ byte) bytes
bytes_from_32 limit bytes is_text =
    let Low : ℕ → Type 0 = λ byte. 32 ≤ byte in
    let none : NoCharPasses (λ c. ltb c 32) bytes = (chars bytes, encodes-chars bytes is_text.utf8, none_pass (chars bytes) (recursion_from_All IsPrintable (chars bytes) is_text.printable)) in
    recursion_from_All Low bytes (All-from_get_or Low bytes 0 (λ i within.
    ⊎_elim
    (λ ascii. ltb-false (get_or bytes i 0) 32 (NoCharPasses-byte (λ c. ltb c 32) bytes i none within ascii))
    (λ above. omega arith)
    (cases_lt (get_or bytes i 0) 128)))

empty_not_above : (bytes : List ℕ) → is_gt (slice_cmp nat_cmp [] bytes) ≡ false
empty_not_above [] = refl
empty_not_above (byte ∷ bytes) = refl

space_not_above : (byte : ℕ) → 32 ≤ byte → is_gt (nat_cmp 32 byte) ≡ false
space_not_above byte low = grind (arith, nat_tests)

neither_above : (first rest : Ordering) → is_gt first ≡ false → is_gt rest ≡ false → is_gt (ordering_then first rest) ≡ false
neither_above Less rest h k = refl
neither_above Equal rest h k = k
neither_above Greater rest h k = h

less_then : (first rest longer : Ordering) → ordering_then first rest ≡ Less → (rest ≡ Less → is_gt longer ≡ false) → is_gt (ordering_then first longer) ≡ false
less_then Less rest longer less more = refl
less_then Equal rest longer less more = more less
less_then Greater rest longer less more = cc

longer_not_above : (s t : List ℕ) → AllByRecursion (λ byte. 32 ≤ byte) t → slice_cmp nat_cmp s t ≡ Less → is_gt (slice_cmp nat_cmp (s ++ 32 ∷ []) t) ≡ false
longer_not_above [] [] all less = cc
longer_not_above [] (byte ∷ bytes) all less = neither_above (nat_cmp 32 byte) (slice_cmp nat_cmp [] bytes) (space_not_above byte all.0) (empty_not_above bytes)
longer_not_above (a ∷ s) [] all less = cc
longer_not_above (a ∷ s) (byte ∷ bytes) all less =
    less_then (nat_cmp a byte) (slice_cmp nat_cmp s bytes) (slice_cmp nat_cmp (s ++ 32 ∷ []) bytes) less (longer_not_above s bytes all.1)

-- a value of a type, which a database holds
pub record IsValueOf (kind : Kind) (value : Value) : Type 0 where
  pub of_kind : kind_of value ≡ kind
  pub fits : Fits value

-- the successor of what is below x, not above x
pub successor : (kind : Kind) (c x : Value) → kind_of c ≡ kind → IsValueOf kind x → value_cmp c x ≡ Less → (s : Value) × (after c ≡ Some s) × (value_cmp c s ≡ Less) × (is_gt (value_cmp s x) ≡ false)
successor kind (Int m) (Int n) same is less = (Int (m +ℤ pos 1), cond-true (int_lt m (pos 9223372036854775807)) (Some (Int (m +ℤ pos 1))) None (below_top m n is.fits less), below_next m, next_not_above m n less)
successor kind (Int m) (Text t) same is less = absurd (two_kinds (same ∙ sym is.of_kind))
successor kind (Text s) (Int n) same is less = absurd (two_kinds (is.of_kind ∙ sym same))
successor kind (Text s) (Text t) same is less = (Text (s ++ 32 ∷ []), refl, below_longer s, longer_not_above s t (bytes_from_32 200 t is.fits) less)

-- the least value is not above any
pub least_not_above : (kind : Kind) (x : Value) → IsValueOf kind x → is_gt (value_cmp (least kind) x) ≡ false
least_not_above kinds.Int (Int n) is = not_below_least n is.fits
least_not_above kinds.Int (Text t) is = refl
least_not_above kinds.Text (Int n) is = absurd (two_kinds is.of_kind)
least_not_above kinds.Text (Text []) is = refl
least_not_above kinds.Text (Text (byte ∷ bytes)) is = refl
