-- Signs at the front of bytes.
use Rattle.std.proofs.Common.{◌≡◌, ℕ, ◌≤◌, Bool, true, false, List, [], ◌∷◌, ◌++◌, length, drop, Some, find, Decides, nat_eq, refl, sym, ap, arith, inl, inr, length-append, eqb, eqb-true, eq-eqb, ne_eqb, ◌||◌}
use Rattle.std.specs.List.{starts_with}
use Rattle.std.proofs.lemmas.Bool.{cases_Bool, eqb-false}
use Rattle.std.proofs.lemmas.Slice.Eq.{starts_is}
use Rattle.reader.specs.declared.sign.Sign.{Sign}
use Rattle.reader.specs.declared.sign.Sign.TheVariants.{Comma, Dot, Open, Close, Equal, NotEqual, Less, LessOrEqual, Greater, GreaterOrEqual, Plus, Minus, Star, Semicolon}
use Rattle.reader.specs.declared.sign.TheConstants.{SIGNS}
use Rattle.reader.specs.Sign.{sign_text}
use Rattle.reader.specs.Tokens.{Stops, sign_goes_on}
use Rattle.reader.specs.Reading.{sign_of}

pub nat_eq-Decides : (a b : ℕ) → Decides (nat_eq a b) (a ≡ b)
nat_eq-Decides a b = (eqb-true a b, eq-eqb a b)

pub find_passes : {X : Type 0} (test : X → Bool) (xs : List X) (x : X) → find test xs ≡ Some x → test x ≡ true
find_passes test [] x found = absurd cc
find_passes test (y ∷ xs) x found = elim (cases_Bool (test y)) [
  | inl passed ↦ let e : y ≡ x = let h = rw passed at found in cc in rw (← e) passed
  | inr failed ↦ find_passes test xs x (rw failed at found)
]

pub or_false : (a b : Bool) → (a || b) ≡ false → (a ≡ false) × (b ≡ false)
or_false true b e = absurd cc
or_false false b e = (refl, e)

-- the sign that is found stands there
pub sign_front : (bytes : List ℕ) (s : Sign) → sign_of bytes ≡ Some s → bytes ≡ sign_text s ++ drop (length (sign_text s)) bytes
unfolding sign_of
sign_front bytes s found = (starts_is nat_eq-Decides bytes (sign_text s) _ refl).0 (find_passes (λ s. starts_with nat_eq bytes (sign_text s)) SIGNS s found)

pub sign_fits : (bytes : List ℕ) (s : Sign) → sign_of bytes ≡ Some s → length (sign_text s) ≤ length bytes
sign_fits bytes s found = let e = ap length (sign_front bytes s found) in omega (arith, e, length-append (sign_text s) (drop (length (sign_text s)) bytes))

-- ---- the two laws

-- nothing goes on
pub never : (rest : List ℕ) → Stops (λ b. false) rest
never [] = tt
never (b ∷ rest) = refl

other_way : (a b : ℕ) → eqb a b ≡ false → eqb b a ≡ false
other_way a b apart = ne_eqb b a (λ same. eqb-false a b apart (sym same))

after_less : (rest : List ℕ) → sign_of (60 ∷ rest) ≡ Some Less → Stops (sign_goes_on Less) rest
unfolding sign_of
after_less [] read = tt
after_less (b ∷ rest) read = elim (cases_Bool (eqb 61 b)) [
  | inl equal ↦ let h = rw equal at read in absurd cc
  | inr unequal ↦ elim (cases_Bool (eqb 62 b)) [
    | inl greater ↦ let h = rw (unequal, greater) at read in absurd cc
    | inr other ↦ rw (other_way 61 b unequal, other_way 62 b other) refl
  ]
]

after_greater : (rest : List ℕ) → sign_of (62 ∷ rest) ≡ Some Greater → Stops (sign_goes_on Greater) rest
unfolding sign_of
after_greater [] read = tt
after_greater (b ∷ rest) read = elim (cases_Bool (eqb 61 b)) [
  | inl equal ↦ let h = rw equal at read in absurd cc
  | inr unequal ↦ other_way 61 b unequal
]

-- no longer sign stands there
pub sign_ends : (s : Sign) (rest : List ℕ) → sign_of (sign_text s ++ rest) ≡ Some s → Stops (sign_goes_on s) rest
sign_ends Less rest read = after_less rest read
sign_ends Greater rest read = after_greater rest read
sign_ends Comma rest read = never rest
sign_ends Dot rest read = never rest
sign_ends Open rest read = never rest
sign_ends Close rest read = never rest
sign_ends Equal rest read = never rest
sign_ends NotEqual rest read = never rest
sign_ends LessOrEqual rest read = never rest
sign_ends GreaterOrEqual rest read = never rest
sign_ends Plus rest read = never rest
sign_ends Minus rest read = never rest
sign_ends Star rest read = never rest
sign_ends Semicolon rest read = never rest

less_again : (rest : List ℕ) → Stops (sign_goes_on Less) rest → sign_of (60 ∷ rest) ≡ Some Less
unfolding sign_of
less_again [] stops = refl
less_again (b ∷ rest) stops =
    let p = or_false (eqb b 61) (eqb b 62) stops in
    rw (other_way b 61 p.0, other_way b 62 p.1) refl

greater_again : (rest : List ℕ) → Stops (sign_goes_on Greater) rest → sign_of (62 ∷ rest) ≡ Some Greater
unfolding sign_of
greater_again [] stops = refl
greater_again (b ∷ rest) stops = rw (other_way b 61 stops) refl

-- the table finds each of its own
pub sign_again : (s : Sign) (rest : List ℕ) → Stops (sign_goes_on s) rest → sign_of (sign_text s ++ rest) ≡ Some s
unfolding sign_of
sign_again Less rest stops = less_again rest stops
sign_again Greater rest stops = greater_again rest stops
sign_again Comma rest stops = refl
sign_again Dot rest stops = refl
sign_again Open rest stops = refl
sign_again Close rest stops = refl
sign_again Equal rest stops = refl
sign_again NotEqual rest stops = refl
sign_again LessOrEqual rest stops = refl
sign_again GreaterOrEqual rest stops = refl
sign_again Plus rest stops = refl
sign_again Minus rest stops = refl
sign_again Star rest stops = refl
sign_again Semicolon rest stops = refl
