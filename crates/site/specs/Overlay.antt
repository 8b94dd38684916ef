-- Parts overlaid with changes, both by ascending keys.
use Rattle.std.specs.Prelude.{ℤ, List, [], ◌∷◌, ◌++◌, Option, filter, int_lt, option_to_list}
use Rattle.std.specs.List.{flat_map}
use Rattle.terms.specs.declared.cond.Cond.{Cond}
use Rattle.terms.specs.declared.value.Value.{Value}
use Rattle.terms.specs.Cond.{conds_hold}
use Rattle.terms.specs.Row.{key_of}

-- the parts with keys below one, and above it
abbrev pub parts_below : ℤ → List (List Value) → List (List Value)
parts_below key parts = filter (λ part. int_lt (key_of part) key) parts

abbrev pub parts_above : ℤ → List (List Value) → List (List Value)
parts_above key parts = filter (λ part. int_lt key (key_of part)) parts

-- the part that a change puts, if it puts one and conditions hold of it
abbrev pub put_of : List Cond → ℤ × Option (List Value) → List (List Value)
put_of conds change = filter (conds_hold conds) (option_to_list change.1)

-- the parts that changes put
abbrev pub puts : List Cond → List (ℤ × Option (List Value)) → List (List Value)
puts conds changes = flat_map (put_of conds) changes

-- parts with changes made: at a key that a change has there is what it puts, and nothing else
abbrev pub overlaid : List Cond → List (List Value) → List (ℤ × Option (List Value)) → List (List Value)
overlaid conds parts [] = parts
overlaid conds parts (change ∷ changes) = parts_below change.0 parts ++ (put_of conds change ++ overlaid conds (parts_above change.0 parts) changes)
