-- The two laws of spellings, and the loop that reads values.
use Rattle.std.proofs.Common.{◌≡◌, ℕ, suc, ◌-◌, ◌+◌, ◌<◌, ◌≤◌, false, cond, ltb, eqb, ◌||◌, List, [], ◌∷◌, ◌++◌, length, All, Result, Ok, Err, refl, sym, ap, subst, ◌∙◌, append_assoc, arith, inl, inr}
use Rattle.std.specs.List.{flat_map}
use Rattle.std.proofs.lemmas.Bool.{cases_lt, ltb-false, le-ltb, eqb-true, eqb-false, ne_eqb, or_parts, or_from}
use Rattle.std.proofs.lemmas.List.{append-nil, nil_from_length, get_or_past}
use Rattle.std.proofs.lemmas.List.Concat.{flat_map-cons}
use Rattle.terms.specs.declared.part_fault.PartFault.{PartFault}
use Rattle.terms.specs.declared.part_fault.PartFault.TheVariants.{Truncated, BadTag, BadText, Trailing, Memory}
use Rattle.terms.specs.declared.value.Value.{Value}
use Rattle.terms.specs.declared.value.Value.TheVariants.{Int, Text}
use Rattle.terms.specs.Stored.{◌>>=◌, Fails, HasKey, IsStorable, value_spelling, spelling, key_from, value_from, values_from, behind, part_from, SpelledIsRead, ReadIsSpelled}
use Rattle.terms.proofs.StoredValues.{AreBytes, AreBytes-rest, bind_ok, guard_ok, pass_ok, ok_is, Takes-then, key_takes, key_again, values_take, values_again}

-- ---- the loop

regroup : (front : List Value) (value : Value) (read : Result (List Value × List ℕ) PartFault) → behind front (read >>= λ others. Ok (value ∷ others.0, others.1)) ≡ behind (front ++ value ∷ []) read
regroup front value (Ok others) = ap (λ (values : List Value). Ok (values, others.1)) (simp append_assoc)
regroup front value (Err fault) = refl

pub goes_on : (front : List Value) (count i : ℕ) (bytes : List ℕ) (value : Value) (after : List ℕ) (total : Result (List Value × List ℕ) PartFault) → i < count → value_from bytes ≡ Ok (value, after)
    → behind front (values_from (count - i) bytes) ≡ total → behind (front ++ value ∷ []) (values_from (count - (i + 1)) after) ≡ total
unfolding values_from
goes_on front count i bytes value after total lt read so_far =
    let k : count - i ≡ suc (count - (i + 1)) = omega arith in
    let one : behind front (values_from (count - i) bytes) ≡ behind (front ++ value ∷ []) (values_from (count - (i + 1)) after) = rw (k, read) (regroup front value (values_from (count - (i + 1)) after)) in
    sym one ∙ so_far

-- a reading that failed fails, whatever was to come
fails_on : {A B : Type 0} (fault : PartFault) (read : Result A PartFault) (next : A → Result B PartFault) → Fails fault read → Fails fault (read >>= next)
fails_on Truncated read next fails = rw fails refl
fails_on BadTag read next fails = rw fails refl
fails_on BadText read next fails = rw fails refl
fails_on Trailing read next fails = rw fails refl
fails_on Memory read next fails = tt

pub ends : (fault : PartFault) (front : List Value) (count i : ℕ) (bytes : List ℕ) (total : Result (List Value × List ℕ) PartFault) → i < count → Fails fault (value_from bytes)
    → behind front (values_from (count - i) bytes) ≡ total → Fails fault total
unfolding values_from
ends fault front count i bytes total lt fails so_far =
    let k : count - i ≡ suc (count - (i + 1)) = omega arith in
    let next = λ (first : Value × List ℕ). values_from (count - (i + 1)) first.1 >>= λ others. Ok (first.0 ∷ others.0, others.1) in
    let whole : Fails fault (behind front (value_from bytes >>= next)) = fails_on fault (value_from bytes >>= next) (λ others. Ok (front ++ others.0, others.1)) (fails_on fault (value_from bytes) next fails) in
    subst (λ (read : Result (List Value × List ℕ) PartFault). Fails fault read) (ap (λ (n : ℕ). behind front (values_from n bytes)) (sym k) ∙ so_far) whole

pub is_done : (front : List Value) (count i : ℕ) (bytes : List ℕ) (total : Result (List Value × List ℕ) PartFault) → count ≤ i → behind front (values_from (count - i) bytes) ≡ total → total ≡ Ok (front, bytes)
unfolding values_from
is_done front count i bytes total le so_far =
    let k : count - i ≡ 0 = omega arith in
    let one : behind front (values_from (count - i) bytes) ≡ Ok (front, bytes) = rw k (ap (λ (values : List Value). Ok (values, bytes)) (append-nil front)) in
    sym so_far ∙ one

-- ---- the laws

from_all : (bytes : List ℕ) → All (λ byte. byte < 256) bytes → AreBytes bytes
from_all bytes all i =
    elim (cases_lt i (length bytes)) [
      | inl lt ↦ all i 0 lt
      | inr le ↦ rw (get_or_past bytes i 0 le) (omega arith)
    ]

-- a key stands first whatever follows it
key_first : (value : Value) (values : List Value) → HasKey (value ∷ []) → HasKey (value ∷ values)
key_first (Int n) values key = tt
key_first (Text bytes) values key = absurd key

-- what bytes spell is stored, and its spelling is they
pub bytes_spell : (bytes : List ℕ) (part : List Value) → AreBytes bytes → part_from bytes ≡ Ok part → IsStorable part × (spelling part ≡ bytes)
unfolding part_from
bytes_spell [] part fits e = absurd cc
bytes_spell (count ∷ bytes) part fits e =
    let ended = λ (x : List Value × List ℕ). cond (eqb (length x.1) 0) (Ok x.0) (Err Trailing) in
    let g = guard_ok (eqb count 0 || ltb 16 count) BadTag (key_from bytes >>= λ key. behind (key.0 ∷ []) (values_from (count - 1) key.1) >>= ended) part e in
    let counts = or_parts (eqb count 0) (ltb 16 count) g.0 in
    let some : count ≡ 0 → ⊥ = eqb-false count 0 counts.0 in
    let few : count ≤ 16 = ltb-false 16 count counts.1 in
    let a = bind_ok (key_from bytes) (λ key. behind (key.0 ∷ []) (values_from (count - 1) key.1) >>= ended) part g.1 in
    let b = bind_ok (behind (a.0.0 ∷ []) (values_from (count - 1) a.0.1)) ended part a.2 in
    let c = bind_ok (values_from (count - 1) a.0.1) (λ others. Ok ((a.0.0 ∷ []) ++ others.0, others.1)) b.0 b.1 in
    let d = pass_ok (eqb (length b.0.1) 0) Trailing (Ok b.0.0) part b.2 in
    let key = key_takes bytes a.0 (AreBytes-rest count bytes fits) a.1 in
    let others = values_take (count - 1) a.0.1 c.0 key.0.0.rest_fits c.1 in
    let made : List Value × List ℕ = (a.0.0 ∷ c.0.0, c.0.1) in
    let made-is : made ≡ b.0 = ok_is made b.0 c.2 in
    let nothing : c.0.1 ≡ [] = nil_from_length c.0.1 (ap (λ (x : List Value × List ℕ). length x.1) made-is ∙ eqb-true (length b.0.1) 0 d.0) in
    let both = (Takes-then bytes (value_spelling a.0.0) a.0.1 (flat_map value_spelling c.0.0) c.0.1 key.0.0 others.0).parts in
    let counted : length (a.0.0 ∷ c.0.0) ≡ count = omega (arith, others.1, some) in
    let spelled : spelling (a.0.0 ∷ c.0.0) ≡ count ∷ bytes =
    ap (λ (k : ℕ). k ∷ flat_map value_spelling (a.0.0 ∷ c.0.0)) counted
    ∙ ap (λ (t : List ℕ). count ∷ t) (flat_map-cons value_spelling a.0.0 c.0.0 ∙ sym (both ∙ ap (λ (rest : List ℕ). (value_spelling a.0.0 ++ flat_map value_spelling c.0.0) ++ rest) nothing ∙ append-nil (value_spelling a.0.0 ++ flat_map value_spelling c.0.0)))
    in
    let stored : IsStorable (a.0.0 ∷ c.0.0) = record { key = key_first a.0.0 c.0.0 key.1; few = omega (arith, counted); fit = (key.0.1, others.2) } in
    subst (λ (v : List Value). IsStorable v × (spelling v ≡ count ∷ bytes)) (ap (λ (x : List Value × List ℕ). x.0) made-is ∙ ok_is b.0.0 part d.1) (stored, spelled)

pub read_is_spelled : ReadIsSpelled
read_is_spelled bytes part all e = bytes_spell bytes part (from_all bytes all) e

pub spelled_is_read : SpelledIsRead
unfolding part_from
spelled_is_read [] stored = absurd stored.key
spelled_is_read (Text bytes ∷ values) stored = absurd stored.key
spelled_is_read (Int n ∷ values) stored =
    let count : (eqb (suc (length values)) 0 || ltb 16 (suc (length values))) ≡ false = or_from _ _ (ne_eqb _ _ (omega arith)) (le-ltb _ _ stored.few) in
    let key : key_from (flat_map value_spelling (Int n ∷ values)) ≡ Ok (Int n, flat_map value_spelling values) = ap key_from (flat_map-cons value_spelling (Int n) values) ∙ key_again n (flat_map value_spelling values) stored.fit.0 in
    let less : length (Int n ∷ values) - 1 ≡ length values = omega arith in
    let others : values_from (length (Int n ∷ values) - 1) (flat_map value_spelling values) ≡ Ok (values, []) = ap (λ (k : ℕ). values_from k (flat_map value_spelling values)) less ∙ ap (values_from (length values)) (sym (append-nil (flat_map value_spelling values))) ∙ values_again values [] stored.fit.1 in
    rw (count, key, others) refl
