-- Items of which one more is put, and texts between marks.
use Rattle.std.proofs.Common.{◌≡◌, ◌++◌, ◌∷◌, ◌∙◌, [], ℕ, List, Result, Ok, Err, OnOk, ap, append_assoc, map, refl, arith}
use Rattle.std.specs.Prelude.{if◌then◌else◌}
use Rattle.std.specs.Result.{is_ok}
use Rattle.std.proofs.lemmas.Grind.{common_steps}
use Rattle.std.proofs.lemmas.List.Folds.{flat_map-map}
use Rattle.forms.specs.Separated.{separated}

-- what stands between these items and the next one
abbrev pub between : {A : Type 0} → ℕ → List A → List ℕ
between byte [] = []
between byte (item ∷ items) = byte ∷ []

pub separated-more : {A : Type 0} (write : A → List ℕ) (byte : ℕ) (items : List A) (item : A) → separated write byte (items ++ item ∷ []) ≡ separated write byte items ++ between byte items ++ write item
separated-more write byte [] item = grind (arith, common_steps)
separated-more write byte (first ∷ items) item = grind (arith, common_steps)

pub between-more : {A : Type 0} (byte : ℕ) (items : List A) (item : A) → between byte (items ++ item ∷ []) ≡ byte ∷ []
between-more byte [] item = refl
between-more byte (first ∷ items) item = refl

pub separated-map : {A B : Type 0} (write : B → List ℕ) (byte : ℕ) (f : A → B) (items : List A) → separated write byte (map f items) ≡ separated (λ item. write (f item)) byte items
separated-map write byte f [] = refl
separated-map write byte f (first ∷ items) = ap (λ rest. write (f first) ++ rest) (flat_map-map (λ other. byte ∷ write other) f items)

pub enclosed : (front : List ℕ) (begin : ℕ) (inside end : List ℕ) → ((front ++ begin ∷ []) ++ inside) ++ end ≡ front ++ begin ∷ (inside ++ end)
enclosed front begin inside end = simp append_assoc

-- what the last write puts
pub put_last : {T E : Type 0} (result : Result T E) (new more less wanted : List ℕ) → new ≡ (if is_ok result then more else less) → more ≡ wanted → OnOk result (new ≡ wanted)
put_last (Ok x) new more less wanted is same = is ∙ same
put_last (Err e) new more less wanted is same = tt
