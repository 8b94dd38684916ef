-- The fields of a record, up to a place.
use Rattle.std.proofs.Common.{◌≡◌, ℕ, ◌+◌, ◌<◌, ◌≤◌, ◌++◌, List, [], ◌∷◌, length, take, Some, None, arith, ap, ◌∙◌, inl, inr}
use Rattle.std.proofs.lemmas.Bool.{cases_lt}
use Rattle.std.proofs.lemmas.List.{take_more}
use Rattle.std.proofs.lemmas.Grind.{common_steps}
use Rattle.csv.specs.Records.{field_at}
use Rattle.csv.proofs.RecordFacts.{field-none, field-get, field-there}

pub within_fields : (fields : List (List ℕ)) (place : ℕ) (field : List ℕ) → field_at fields place ≡ Some field → place < length fields
within_fields fields place field found = elim (cases_lt place (length fields)) [
  | inl within ↦ within
  | inr beyond ↦ absurd (let none = field-none fields place beyond in cc)
]

-- the fields up to a place, and that one
pub fields_more : (fields : List (List ℕ)) (place : ℕ) (field : List ℕ) → field_at fields place ≡ Some field → take (place + 1) fields ≡ take place fields ++ field ∷ []
fields_more fields place field found =
    take_more fields place [] (within_fields fields place field found) ∙ ap (λ (last : List ℕ). take place fields ++ last ∷ []) (field-get fields place field found)

-- all of them, where none is at the place
pub fields_end : (fields : List (List ℕ)) (place : ℕ) → place ≤ length fields → field_at fields place ≡ None → take place fields ≡ fields
fields_end fields place within none = elim (cases_lt place (length fields)) [
  | inl before ↦ absurd (field-there fields place before none)
  | inr beyond ↦ let all : place ≡ length fields = omega arith in grind (arith, common_steps)
]
