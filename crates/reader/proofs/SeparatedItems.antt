-- Lists with a separator between their items.
use Rattle.std.proofs.Common.{◌≡◌, List, ℕ, [], ◌∷◌, ◌++◌, map, Result, Ok, Err, OnOk, refl, ap, ◌∙◌}
use Rattle.std.specs.List.{flat_map}
use Rattle.reader.specs.PrintStatement.{separated_bytes}

continued_map : {A B : Type 0} (write : B → List ℕ) (view : A → B) (separator : List ℕ) (items : List A) → flat_map (λ y. separator ++ write (view y)) items ≡ flat_map (λ y. separator ++ write y) (map view items)
continued_map write view separator [] = refl
continued_map write view separator (x ∷ xs) = ap (λ rest. (separator ++ write (view x)) ++ rest) (continued_map write view separator xs)

separated_map : {A B : Type 0} (write : B → List ℕ) (view : A → B) (separator : List ℕ) (items : List A) → separated_bytes (λ x. write (view x)) separator items ≡ separated_bytes write separator (map view items)
separated_map write view separator [] = refl
separated_map write view separator (x ∷ xs) = ap (λ rest. write (view x) ++ rest) (continued_map write view separator xs)

-- what was put item by item is the text of the items as they are seen
pub on_ok_separated : {A B T E : Type 0} (result : Result T E) (old new : List ℕ) (write : B → List ℕ) (view : A → B) (separator : List ℕ) (items : List A) → OnOk result (new ≡ old ++ separated_bytes (λ x. write (view x)) separator items) → OnOk result (new ≡ old ++ separated_bytes write separator (map view items))
on_ok_separated (Ok x) old new write view separator items is = is ∙ ap (λ text. old ++ text) (separated_map write view separator items)
on_ok_separated (Err e) old new write view separator items is = is
