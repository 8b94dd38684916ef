-- The key that conditions ask for, so that a fetch looks at one part and not at all.
use Rattle.std.specs.Prelude.{ℤ, nat_eq, List, [], ◌∷◌, Option, Some, None, if◌then◌else◌}
use Rattle.terms.specs.declared.cond.Cmp.{Cmp}
use Rattle.terms.specs.declared.cond.Cmp.TheVariants.{Eq, Ne, Lt, Le, Gt, Ge}
use Rattle.terms.specs.declared.cond.Cond.{Cond}
use Rattle.terms.specs.declared.value.Value.{Value}
use Rattle.terms.specs.declared.value.Value.TheVariants.{Int, Text}

-- the integer that a comparison wants a value to equal
abbrev pub equal_to : Cmp → Value → Option ℤ
equal_to Eq (Int key) = Some key
equal_to Eq (Text bytes) = None
equal_to Ne value = None
equal_to Lt value = None
equal_to Le value = None
equal_to Gt value = None
equal_to Ge value = None

-- the key that one condition asks for: a part's key is its first value
abbrev pub key_equality_of : Cond → Option ℤ
key_equality_of cond = if nat_eq cond.col 0 then equal_to cond.cmp cond.value else None

-- this, or else that
abbrev pub or_else : Option ℤ → Option ℤ → Option ℤ
or_else None other = other
or_else (Some key) other = Some key

-- the key that the first condition asks for that asks for one
abbrev pub key_equality : List Cond → Option ℤ
key_equality [] = None
key_equality (cond ∷ conds) = or_else (key_equality_of cond) (key_equality conds)
