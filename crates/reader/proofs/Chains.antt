-- Chains of steps, each of which may give nothing.
use Rattle.std.proofs.Common.{◌≡◌, Bool, true, false, cond, List, [], ◌∷◌, Option, Some, None, option_and_then, option_map, refl}
use Rattle.reader.specs.Scope.{only_one}

-- what a choice gives where its other side gives nothing
pub chosen : {A : Type 0} (test : Bool) (x : Option A) (y : A) → cond test x None ≡ Some y → (test ≡ true) × (x ≡ Some y)
chosen true x y is = (refl, is)
chosen false x y is = cc

-- what a choice gives where its first side gives nothing
pub refused : {A : Type 0} (test : Bool) (x : Option A) (y : A) → cond test None x ≡ Some y → (test ≡ false) × (x ≡ Some y)
refused true x y is = cc
refused false x y is = (refl, is)

-- the parts of a chain of steps that gave something
pub first_step : {A B : Type 0} (step : A → Option B) (o : Option A) (y : B) → option_and_then step o ≡ Some y → (x : A) × (o ≡ Some x) × (step x ≡ Some y)
first_step step None y is = cc
first_step step (Some x) y is = (x, refl, is)

pub mapped_step : {A B : Type 0} (view : A → B) (o : Option A) (y : B) → option_map view o ≡ Some y → (x : A) × (o ≡ Some x) × (view x ≡ y)
mapped_step view None y is = cc
mapped_step view (Some x) y is = (x, refl, cc)

-- the only one of a list is all of it
pub only_part : {A : Type 0} (xs : List A) (x : A) → only_one xs ≡ Some x → xs ≡ x ∷ []
only_part [] x is = cc
only_part (y ∷ []) x is = cc
only_part (y ∷ z ∷ xs) x is = cc

-- a limit on top of nothing
pub limited : {A : Type 0} (test : Bool) (x : Option A) → x ≡ None → cond test x None ≡ None
limited true x none = none
limited false x none = refl
