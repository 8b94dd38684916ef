-- Values and conditions as statements write them.
use Rattle.std.specs.Prelude.{ℕ, ◌==◌, List, [], ◌∷◌, ◌++◌, unwrap_or, codes, if◌then◌else◌}
use Rattle.std.specs.Fmt.{signed_decimal}
use Rattle.std.specs.List.{flat_map, slice_get}
use Rattle.terms.specs.declared.cond.Cmp.{Cmp}
use Rattle.terms.specs.declared.cond.Cmp.TheVariants.{Eq, Ne, Lt, Le, Gt, Ge}
use Rattle.terms.specs.declared.cond.Cond.{Cond}
use Rattle.terms.specs.declared.value.Value.{Value}
use Rattle.terms.specs.declared.value.Value.TheVariants.{Int, Text}

-- each quote (39) doubled
abbrev pub doubled : List ℕ → List ℕ
doubled [] = []
doubled (byte ∷ bytes) = if byte == 39 then 39 ∷ 39 ∷ doubled bytes else byte ∷ doubled bytes

-- an integer in decimal, a text in quotes
abbrev pub value_text : Value → List ℕ
value_text (Int n) = signed_decimal n
value_text (Text bytes) = 39 ∷ doubled bytes ++ 39 ∷ []

-- texts of items, with a separator before each but the first
abbrev pub separated : {A : Type 0} → (A → List ℕ) → List ℕ → List A → List ℕ
separated text separator [] = []
separated text separator (item ∷ items) = text item ++ flat_map (λ later. separator ++ text later) items

abbrev pub values_text : List Value → List ℕ
values_text values = separated value_text (codes ", ") values

abbrev pub cmp_text : Cmp → List ℕ
cmp_text Eq = codes "="
cmp_text Ne = codes "<>"
cmp_text Lt = codes "<"
cmp_text Le = codes "<="
cmp_text Gt = codes ">"
cmp_text Ge = codes ">="

-- the name of a column; nothing where there is no such column
abbrev pub column_name : List (List ℕ) → ℕ → List ℕ
column_name columns col = unwrap_or (slice_get columns col) []

abbrev pub cond_text : List (List ℕ) → Cond → List ℕ
cond_text columns cond = column_name columns cond.col ++ codes " " ++ cmp_text cond.cmp ++ codes " " ++ value_text cond.value

abbrev pub conds_text : List (List ℕ) → List Cond → List ℕ
conds_text columns conds = separated (cond_text columns) (codes " AND ") conds
