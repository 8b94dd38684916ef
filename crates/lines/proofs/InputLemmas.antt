-- Lemmas on reading.
use Rattle.std.proofs.Common.{◌≡◌, ℕ, ◌+◌, ◌<◌, ◌≤◌, ◌++◌, true, List, [], length, take, Option, Some, None, Result, Ok, Err, OnOk, IfSome, is_ok, option_map, arith, subst, refl}
use Rattle.std.proofs.lemmas.Grind.{common_steps}

front_of : (bytes old new : List ℕ) (most : ℕ) → new ≡ old ++ take most bytes → old ≡ [] → new ≡ take most bytes
front_of bytes old new most is_new empty = rw (is_new, empty) refl

-- what was read into an empty list
pub front_read : {E : Type 0} (r : Result ℕ E) (known front : Option (List ℕ)) (old new : List ℕ) (most : ℕ) → is_ok r ≡ true → front ≡ option_map (take most) known → OnOk r (IfSome front (λ bytes. new ≡ old ++ bytes)) → old ≡ [] → IfSome known (λ bytes. new ≡ take most bytes)
front_read (Err e) known front old new most ok is_front h empty = absurd (cc)
front_read (Ok n) None front old new most ok is_front h empty = tt
front_read (Ok n) (Some bytes) front old new most ok is_front h empty =
    let P : Option (List ℕ) → Type 0 = λ f. IfSome f (λ bytes. new ≡ old ++ bytes) in
    front_of bytes old new most (subst P is_front h) empty

-- a front that is shorter than it may be is all there is
pub all_read : (bytes read : List ℕ) (limit : ℕ) → read ≡ take (limit + 1) bytes → length read ≤ limit → read ≡ bytes
all_read bytes read limit front short = grind (arith, common_steps)

pub all_within : (known : Option (List ℕ)) (read : List ℕ) (limit : ℕ) → IfSome known (λ bytes. read ≡ take (limit + 1) bytes) → length read ≤ limit → IfSome known (λ bytes. read ≡ bytes)
all_within None read limit front short = tt
all_within (Some bytes) read limit front short = all_read bytes read limit front short

-- a front that is too long shows that there is too much
pub too_much : (bytes read : List ℕ) (limit : ℕ) → read ≡ take (limit + 1) bytes → limit < length read → limit < length bytes
too_much bytes read limit front long = grind (arith, common_steps)

pub beyond : (known : Option (List ℕ)) (read : List ℕ) (limit : ℕ) → IfSome known (λ bytes. read ≡ take (limit + 1) bytes) → limit < length read → IfSome known (λ bytes. limit < length bytes)
beyond None read limit front long = tt
beyond (Some bytes) read limit front long = too_much bytes read limit front long
