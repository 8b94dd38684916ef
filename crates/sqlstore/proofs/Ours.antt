-- A schema whose parts are those of a site's is a site's.
use Rattle.std.proofs.Common.{◌≡◌, ℕ, Bool, List, [], ◌∷◌, length, get_or, Ok, Err, Result, IfOk, refl, sym, ap, ◌∙◌, arith}
use Rattle.std.specs.Bool.{Decides}
use Rattle.sqlite.specs.Schema.{Schema}
use Rattle.sqlite_tied.specs.Compute.{everything}
use Rattle.terms.specs.declared.memory.Memory.{Memory}
use Rattle.sqlstore.specs.Schemas.{site_indexes}
use Rattle.sqlstore.specs.Tables.{site_schema}

pub single : {X : Type 0} (xs : List X) (x : X) → length xs ≡ 1 → x ≡ get_or xs 0 x → xs ≡ x ∷ []
single [] x one is = absurd (omega (arith, one))
single (y ∷ []) x one is = ap (λ z. z ∷ []) (sym is)
single (y ∷ z ∷ xs) x one is = absurd (omega (arith, one))

pub one_key : (keys : List (List ℕ)) (only key : List ℕ) (same : Bool) → keys ≡ only ∷ [] → Decides same (only ≡ key) → Decides same (keys ≡ key ∷ [])
one_key keys only key same is decides = (λ yes. is ∙ ap (λ k. k ∷ []) (decides.0 yes), λ all. decides.1 (let both : only ∷ [] ≡ key ∷ [] = sym is ∙ all in cc))

indexes_are : site_schema.indexes ≡ site_indexes
unfolding everything
indexes_are = refl

pub schema_of : (one other : Schema) → one.tables ≡ other.tables → one.indexes ≡ other.indexes → one.views ≡ other.views → one ≡ other
schema_of one other tables indexes views = λ i. record { tables = tables i; indexes = indexes i; views = views i }

pub views_none : (schema : Schema) → schema ≡ site_schema → schema.views ≡ []
views_none schema is = ap (λ (s : Schema). s.views) is

pub indexes_same : (schema : Schema) → schema ≡ site_schema → schema.indexes ≡ site_indexes
indexes_same schema is = ap (λ (s : Schema). s.indexes) is ∙ indexes_are

pub schema_decided : (schema : Schema) (result : Result Bool Memory) → schema.indexes ≡ site_indexes → schema.views ≡ [] → IfOk result (λ are. Decides are (schema.tables ≡ site_schema.tables)) → IfOk result (λ is. Decides is (schema ≡ site_schema))
schema_decided schema (Ok are) indexes views decides = (λ yes. schema_of schema site_schema (decides.0 yes) (indexes ∙ sym indexes_are) views, λ is. decides.1 (ap (λ (s : Schema). s.tables) is))
schema_decided schema (Err e) indexes views decides = tt
