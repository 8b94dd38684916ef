-- A schema whose parts are those of the coordinator's is the coordinator's.
use Rattle.std.proofs.Common.{◌≡◌, Bool, List, [], ◌∷◌, codes, Ok, Err, Result, IfOk, refl, sym, ap, ◌∙◌}
use Rattle.std.specs.Bool.{Decides}
use Rattle.sqlite.specs.Schema.{Schema}
use Rattle.sqlite_tied.specs.Compute.{everything}
use Rattle.sqlite_schema.specs.declared.schema.Index.{Index}
use Rattle.terms.specs.declared.memory.Memory.{Memory}
use Rattle.sqlstore.specs.DeskTables.{desk_schema}
use Rattle.sqlstore.specs.Schemas.{index_of}
use Rattle.sqlstore.proofs.Ours.{schema_of}

abbrev desk_indexes : List Index
desk_indexes = index_of (codes "sqlite_autoindex_decided_1") 1 0 (1 ∷ 2 ∷ 3 ∷ []) ∷ []

desk_indexes_are : desk_schema.indexes ≡ desk_indexes
unfolding everything
desk_indexes_are = refl

pub desk_views_none : (schema : Schema) → schema ≡ desk_schema → schema.views ≡ []
desk_views_none schema is = ap (λ (s : Schema). s.views) is

pub desk_indexes_same : (schema : Schema) → schema ≡ desk_schema → schema.indexes ≡ desk_indexes
desk_indexes_same schema is = ap (λ (s : Schema). s.indexes) is ∙ desk_indexes_are

pub desk_schema_decided : (schema : Schema) (result : Result Bool Memory) → schema.indexes ≡ desk_indexes → schema.views ≡ [] → IfOk result (λ are. Decides are (schema.tables ≡ desk_schema.tables)) → IfOk result (λ is. Decides is (schema ≡ desk_schema))
desk_schema_decided schema (Ok are) indexes views decides = (λ yes. schema_of schema desk_schema (decides.0 yes) (indexes ∙ sym desk_indexes_are) views, λ is. decides.1 (ap (λ (s : Schema). s.tables) is))
desk_schema_decided schema (Err e) indexes views decides = tt
