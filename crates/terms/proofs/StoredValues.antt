-- What is read of a value is what was written of it, and the other way about.
use Rattle.std.proofs.Common.{◌≡◌, ℕ, zero, suc, ◌+◌, ◌^◌, ◌<◌, ◌≤◌, Bool, true, false, cond, ltb, eqb, List, [], ◌∷◌, ◌++◌, length, get_or, take, drop, Result, Ok, Err, refl, sym, ap, subst, ◌∙◌, append_assoc, arith, inl, inr, ◌⊎◌}
use Rattle.std.proofs.Common.{Fits as FitsUnsigned}
use Rattle.std.specs.Prelude.{ℤ, FitsSigned}
use Rattle.std.specs.Int.{w64, cast_signed, cast_unsigned, from_be_bytes, to_be_bytes}
use Rattle.std.specs.List.{flat_map, AllByRecursion}
use Rattle.std.proofs.lemmas.Bool.{cases_lt, ltb-false, le-ltb, eqb-true}
use Rattle.std.proofs.lemmas.Int.{of_z-to_z, to_z-of_z}
use Rattle.std.proofs.lemmas.List.{take_at, drop_at, take-append-drop, length-append, length-take, get_or-drop, get_or-take, get_or_past}
use Rattle.std.proofs.lemmas.List.Concat.{flat_map-cons}
use Rattle.std.proofs.lemmas.Nat.{be_bytes_8, from_be_bytes-to_be_bytes_8}
use Rattle.std.proofs.Math.Facts.{sfits_to_z, Fits-of_z}
use Rattle.terms.specs.declared.part_fault.PartFault.{PartFault}
use Rattle.terms.specs.declared.part_fault.PartFault.TheVariants.{Truncated, BadTag, BadText}
use Rattle.terms.specs.declared.value.Value.{Value}
use Rattle.terms.specs.declared.value.Value.TheVariants.{Int, Text}
use Rattle.terms.specs.Text.{IsTextUpTo}
use Rattle.terms.specs.Value.{Fits}
use Rattle.terms.specs.Stored.{◌>>=◌, HasKey, value_spelling, printable_from, int_from, text_from, key_from, value_from, values_from}
use Rattle.terms.proofs.StoredTexts.{printable_is, printable_ok}

-- each number is a byte's
abbrev pub AreBytes : List ℕ → Type 0
AreBytes bytes = (i : ℕ) → get_or bytes i 0 < 256

AreBytes-drop : (n : ℕ) (bytes : List ℕ) → AreBytes bytes → AreBytes (drop n bytes)
AreBytes-drop n bytes fit i = rw get_or-drop (fit (n + i))

AreBytes-take : (n : ℕ) (bytes : List ℕ) → AreBytes bytes → AreBytes (take n bytes)
AreBytes-take n bytes fit i =
    elim (cases_lt i n) [
      | inl lt ↦ rw (get_or-take n bytes i 0 lt) (fit i)
      | inr le ↦ rw (get_or_past (take n bytes) i 0 (omega (arith, length-take n bytes))) (omega arith)
    ]

pub AreBytes-rest : (byte : ℕ) (bytes : List ℕ) → AreBytes (byte ∷ bytes) → AreBytes bytes
AreBytes-rest byte bytes fit i = fit (suc i)

-- the value of a step that did not fail
pub bind_ok : {A B : Type 0} (read : Result A PartFault) (next : A → Result B PartFault) (y : B) → (read >>= next) ≡ Ok y → (x : A) × (read ≡ Ok x) × (next x ≡ Ok y)
bind_ok (Ok x) next y e = (x, refl, e)
bind_ok (Err fault) next y e = absurd cc

-- a test that did not fail
pub guard_ok : {A : Type 0} (test : Bool) (fault : PartFault) (read : Result A PartFault) (y : A) → cond test (Err fault) read ≡ Ok y → (test ≡ false) × (read ≡ Ok y)
guard_ok true fault read y e = absurd cc
guard_ok false fault read y e = (refl, e)

-- a test that was passed
pub pass_ok : {A : Type 0} (test : Bool) (fault : PartFault) (read : Result A PartFault) (y : A) → cond test read (Err fault) ≡ Ok y → (test ≡ true) × (read ≡ Ok y)
pass_ok true fault read y e = (refl, e)
pass_ok false fault read y e = absurd cc

abbrev done : {A : Type 0} → A → Result A PartFault
done x = Ok x

pub ok_is : {A : Type 0} (x y : A) → done x ≡ done y → x ≡ y
ok_is x y e = cc

-- what a reader took from the front
pub record Takes (bytes text rest : List ℕ) : Type 0 where
  pub parts : bytes ≡ text ++ rest
  pub rest_fits : AreBytes rest

pub Takes-then : (a x b y c : List ℕ) → Takes a x b → Takes b y c → Takes a (x ++ y) c
Takes-then a x b y c p q = record { parts = p.parts ∙ ap (λ (t : List ℕ). x ++ t) q.parts ∙ sym (append_assoc x y c); rest_fits = q.rest_fits }

-- a value that is read stands there, behind its tag
abbrev Read : List ℕ → Value × List ℕ → Type 0
Read bytes x = Takes bytes (value_spelling x.0) x.1 × Fits x.0

-- ---- integers

below : (bytes : List ℕ) → AreBytes bytes → from_be_bytes w64 bytes < 2 ^ 64
below bytes fits = omega (arith, fits 0, fits 1, fits 2, fits 3, fits 4, fits 5, fits 6, fits 7)

pub int_takes : (bytes : List ℕ) (x : Value × List ℕ) → AreBytes bytes → int_from bytes ≡ Ok x → Read (1 ∷ bytes) x × HasKey (x.0 ∷ [])
unfolding int_from
int_takes bytes x fits e =
    let number = from_be_bytes w64 (take 8 bytes) in
    let made : Value × List ℕ = (Int (cast_signed w64 number), drop 8 bytes) in
    let g = guard_ok (ltb (length bytes) 8) Truncated (Ok made) x e in
    let long : 8 ≤ length bytes = ltb-false _ _ g.0 in
    let front_fits = AreBytes-take 8 bytes fits in
    let small : number < 2 ^ 64 = below (take 8 bytes) front_fits in
    let within : FitsUnsigned w64 number = omega arith in
    let front : to_be_bytes w64 number ≡ take 8 bytes = be_bytes_8 (take 8 bytes) number (omega (arith, length-take 8 bytes)) front_fits refl in
    let spelled : to_be_bytes w64 (cast_unsigned w64 (cast_signed w64 number)) ≡ take 8 bytes = ap (to_be_bytes w64) (of_z-to_z w64 number small) ∙ front in
    let parts : 1 ∷ bytes ≡ value_spelling (Int (cast_signed w64 number)) ++ drop 8 bytes = ap (λ (t : List ℕ). 1 ∷ t) (sym (take-append-drop 8 bytes) ∙ ap (λ (t : List ℕ). t ++ drop 8 bytes) (sym spelled)) in
    subst (λ (y : Value × List ℕ). Read (1 ∷ bytes) y × HasKey (y.0 ∷ [])) (ok_is made x g.1) ((record { parts = parts; rest_fits = AreBytes-drop 8 bytes fits }, sfits_to_z within), tt)

-- eight bytes in front are read as a number
eight_read : (bytes rest : List ℕ) → length bytes ≡ 8 → int_from (bytes ++ rest) ≡ Ok (Int (cast_signed w64 (from_be_bytes w64 bytes)), rest)
unfolding int_from
eight_read bytes rest len =
    let long : ltb (length (bytes ++ rest)) 8 ≡ false = le-ltb _ _ (omega (arith, length-append bytes rest)) in
    rw (long, take_at bytes rest 8 len, drop_at bytes rest 8 len) refl

pub int_again : (n : ℤ) (rest : List ℕ) → FitsSigned w64 n → int_from (to_be_bytes w64 (cast_unsigned w64 n) ++ rest) ≡ Ok (Int n, rest)
int_again n rest fits =
    let within : FitsUnsigned w64 (cast_unsigned w64 n) = Fits-of_z fits in
    let small : cast_unsigned w64 n < 2 ^ 64 = omega arith in
    let back : cast_signed w64 (from_be_bytes w64 (to_be_bytes w64 (cast_unsigned w64 n))) ≡ n = ap (cast_signed w64) (from_be_bytes-to_be_bytes_8 (cast_unsigned w64 n) small) ∙ to_z-of_z w64 n fits in
    eight_read (to_be_bytes w64 (cast_unsigned w64 n)) rest refl ∙ ap (λ (m : ℤ). Ok (Int m, rest)) back

-- ---- texts

pub text_takes : (bytes : List ℕ) (x : Value × List ℕ) → AreBytes bytes → text_from bytes ≡ Ok x → Read (2 ∷ bytes) x
unfolding text_from
text_takes [] x fits e = absurd cc
text_takes (len ∷ bytes) x fits e =
    let made = λ (text : List ℕ). done {A = Value × List ℕ} (Text text, drop len bytes) in
    let g = guard_ok (ltb 200 len) BadText (cond (ltb (length bytes) len) (Err Truncated) (printable_from (take len bytes) >>= made)) x e in
    let h = guard_ok (ltb (length bytes) len) Truncated (printable_from (take len bytes) >>= made) x g.1 in
    let b = bind_ok (printable_from (take len bytes)) made x h.1 in
    let is = printable_ok (take len bytes) b.0 b.1 in
    let short : len ≤ 200 = ltb-false _ _ g.0 in
    let long : len ≤ length bytes = ltb-false _ _ h.0 in
    let whole : length (take len bytes) ≡ len = omega (arith, length-take len bytes) in
    let text : IsTextUpTo 200 (take len bytes) = record { short = omega arith; utf8 = is.1.0; printable = is.1.1 } in
    let parts : 2 ∷ len ∷ bytes ≡ value_spelling (Text (take len bytes)) ++ drop len bytes = ap (λ (k : ℕ). 2 ∷ k ∷ bytes) (sym whole) ∙ ap (λ (t : List ℕ). 2 ∷ length (take len bytes) ∷ t) (sym (take-append-drop len bytes)) in
    let read : Read (2 ∷ len ∷ bytes) (Text (take len bytes), drop len bytes) = (record { parts = parts; rest_fits = AreBytes-drop len bytes (AreBytes-rest len bytes fits) }, text) in
    subst (λ (y : Value × List ℕ). Read (2 ∷ len ∷ bytes) y) (ok_is (Text b.0, drop len bytes) x b.2) (subst (λ (t : List ℕ). Read (2 ∷ len ∷ bytes) (Text t, drop len bytes)) is.0 read)

pub text_again : (bytes rest : List ℕ) → IsTextUpTo 200 bytes → text_from (length bytes ∷ bytes ++ rest) ≡ Ok (Text bytes, rest)
unfolding text_from
text_again bytes rest text =
    let short : ltb 200 (length bytes) ≡ false = le-ltb _ _ text.short in
    let long : ltb (length (bytes ++ rest)) (length bytes) ≡ false = le-ltb _ _ (omega (arith, length-append bytes rest)) in
    rw (short, long, take_at bytes rest (length bytes) refl, drop_at bytes rest (length bytes) refl, printable_is bytes text.utf8 text.printable) refl

-- ---- keys and values

pub key_takes : (bytes : List ℕ) (x : Value × List ℕ) → AreBytes bytes → key_from bytes ≡ Ok x → Read bytes x × HasKey (x.0 ∷ [])
unfolding key_from
key_takes [] x fits e = absurd cc
key_takes (tag ∷ bytes) x fits e =
    let p = pass_ok (eqb tag 1) BadTag (int_from bytes) x e in
    subst (λ (t : ℕ). Read (t ∷ bytes) x × HasKey (x.0 ∷ [])) (sym (eqb-true tag 1 p.0)) (int_takes bytes x (AreBytes-rest tag bytes fits) p.1)

-- which of two readings gave the answer
chosen : {A : Type 0} (test : Bool) (one other : Result A PartFault) (y : A) → cond test one other ≡ Ok y → ((test ≡ true) × (one ≡ Ok y)) ⊎ (other ≡ Ok y)
chosen true one other y e = inl (refl, e)
chosen false one other y e = inr e

pub value_takes : (bytes : List ℕ) (x : Value × List ℕ) → AreBytes bytes → value_from bytes ≡ Ok x → Read bytes x
unfolding value_from
value_takes [] x fits e = absurd cc
value_takes (tag ∷ bytes) x fits e =
    elim (chosen (eqb tag 1) (int_from bytes) (cond (eqb tag 2) (text_from bytes) (Err BadTag)) x e) [
      | inl int ↦ subst (λ (t : ℕ). Read (t ∷ bytes) x) (sym (eqb-true tag 1 int.0)) (int_takes bytes x (AreBytes-rest tag bytes fits) int.1).0
      | inr other ↦
          let p = pass_ok (eqb tag 2) BadTag (text_from bytes) x other in
          subst (λ (t : ℕ). Read (t ∷ bytes) x) (sym (eqb-true tag 2 p.0)) (text_takes bytes x (AreBytes-rest tag bytes fits) p.1)
    ]

pub value_again : (value : Value) (rest : List ℕ) → Fits value → value_from (value_spelling value ++ rest) ≡ Ok (value, rest)
unfolding value_from
value_again (Int n) rest fits = int_again n rest fits
value_again (Text bytes) rest fits = text_again bytes rest fits

pub key_again : (n : ℤ) (rest : List ℕ) → FitsSigned w64 n → key_from (value_spelling (Int n) ++ rest) ≡ Ok (Int n, rest)
unfolding key_from
key_again n rest fits = int_again n rest fits

pub values_take : (n : ℕ) (bytes : List ℕ) (x : List Value × List ℕ) → AreBytes bytes → values_from n bytes ≡ Ok x → Takes bytes (flat_map value_spelling x.0) x.1 × (length x.0 ≡ n) × AllByRecursion Fits x.0
unfolding values_from
values_take zero bytes x fits e =
    subst (λ (y : List Value × List ℕ). Takes bytes (flat_map value_spelling y.0) y.1 × (length y.0 ≡ 0) × AllByRecursion Fits y.0) (ok_is ([], bytes) x e) (record { parts = refl; rest_fits = fits }, refl, tt)
values_take (suc n) bytes x fits e =
    let a = bind_ok (value_from bytes) (λ first. values_from n first.1 >>= λ others. Ok (first.0 ∷ others.0, others.1)) x e in
    let b = bind_ok (values_from n a.0.1) (λ others. Ok (a.0.0 ∷ others.0, others.1)) x a.2 in
    let first = value_takes bytes a.0 fits a.1 in
    let second = values_take n a.0.1 b.0 first.0.rest_fits b.1 in
    let both = Takes-then bytes (value_spelling a.0.0) a.0.1 (flat_map value_spelling b.0.0) b.0.1 first.0 second.0 in
    let made : List Value × List ℕ = (a.0.0 ∷ b.0.0, b.0.1) in
    subst (λ (y : List Value × List ℕ). Takes bytes (flat_map value_spelling y.0) y.1 × (length y.0 ≡ suc n) × AllByRecursion Fits y.0) (ok_is made x b.2) (rw flat_map-cons both, ap suc second.1, (first.1, second.2))

pub values_again : (values : List Value) (rest : List ℕ) → AllByRecursion Fits values → values_from (length values) (flat_map value_spelling values ++ rest) ≡ Ok (values, rest)
unfolding values_from
values_again [] rest fits = refl
values_again (value ∷ values) rest fits =
    let regrouped : flat_map value_spelling (value ∷ values) ++ rest ≡ value_spelling value ++ (flat_map value_spelling values ++ rest) = ap (λ (x : List ℕ). x ++ rest) (flat_map-cons value_spelling value values) ∙ append_assoc (value_spelling value) (flat_map value_spelling values) rest in
    ap (values_from (suc (length values))) regrouped ∙ rw (value_again value (flat_map value_spelling values ++ rest) fits.0, values_again values rest fits.1) refl
