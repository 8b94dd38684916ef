-- The fetches of a statement as a function: those of the leaves that tests pick. For an ON it is a test over the rows of both relations, in which its two columns are one.
use Rattle.std.specs.Prelude.{◌≡◌, ℕ, suc, ◌+◌, ◌==◌, ◌&&◌, Bool, true, not, if◌then◌else◌, List, [], ◌∷◌, ◌++◌, Some, map, filter, length}
use Rattle.std.specs.List.{AllByRecursion, list_all, list_any, slice_get}
use Rattle.terms.specs.declared.cond.Cond.{Cond}
use Rattle.terms.specs.declared.value.Kind.{Kind}
use Rattle.terms.specs.declared.value.Kind.TheVariants.{Int}
use Rattle.terms.specs.Cond.{IsCondOf}
use Rattle.terms.specs.TestValues.{column_holds, constants, test_values}
use Rattle.meaning.specs.declared.statement.Statement.{Statement}
use Rattle.catalog.specs.declared.fragment_leaf.FragmentLeaf.{FragmentLeaf}
use Rattle.meaning.specs.Statement.{IsStatementOf}
use Rattle.catalog.specs.Catalogue.{Catalogue, IsValidCatalogue}
use Rattle.catalog.specs.Formed.{IsFormed}
use Rattle.catalog.specs.FragmentLeaf.{schemas_of}
use Rattle.catalog.specs.Path.{wanted}
use Rattle.plan.specs.declared.fetch.Fetch.{Fetch}
use Rattle.plan.specs.declared.need.Need.{Need}
use Rattle.plan.specs.declared.need.Needs.{Needs}
use Rattle.plan.specs.declared.stated.Places.{Places}
use Rattle.plan.specs.declared.stated.Trial.{Trial}
use Rattle.plan.specs.Fetch.{fetch_of}
use Rattle.plan.specs.Need.{needs, on_column}
use Rattle.plan.specs.Stated.{AreFetchesOf, Tie, ByColumn, ByKey, kinds_in, leaves_of, ties_of}

-- whether in each column, from this one on, some test value meets the conditions
abbrev pub columns_met : List Cond → ℕ → List Kind → Bool
columns_met conds col [] = true
columns_met conds col (kind ∷ kinds) = list_any (column_holds conds col) (test_values kind (constants conds col)) && columns_met conds (suc col) kinds

-- whether no condition is on a column
abbrev pub is_free : List Cond → ℕ → Bool
is_free conds col = list_all (λ cond. not (cond.col == col)) conds

-- whether some row of these types meets conditions that fit them
abbrev pub can_be_met : List Kind → List Cond → Bool
can_be_met kinds conds = columns_met conds 0 kinds

-- the columns of a relation that stands first in the rows that are tried
abbrev pub own_places : Places
own_places = record { key = 0; past = 0 }

-- the columns of a joined relation: its key is the column of ON, and the others stand behind those of the relation after FROM
abbrev pub joined_places : ℕ → ℕ → Places
joined_places col width = record { key = col; past = width }

-- where a relation's column stands
abbrev pub place_of : Places → ℕ → ℕ
place_of places col = if col == 0 then places.key else places.past + col

-- conditions on a relation's columns, put on their places
abbrev pub put_on : Places → List Cond → List Cond
put_on places conds = map (λ cond. on_column (place_of places cond.col) cond) conds

-- two relations are joined by an integer column of the one and the key of the other
pub record AreJoined (kinds others : List Kind) (col : ℕ) : Type 0 where
  pub column : slice_get kinds col ≡ Some Int
  pub key : slice_get others 0 ≡ Some Int

-- an ON of a need joins its relation with the other, and the other's conditions fit its columns
abbrev pub TieFits : Catalogue → Need → Tie → Type 0
TieFits catalogue need (ByColumn col other) = AreJoined (kinds_in catalogue need.relation) (kinds_in catalogue other.relation) col × AllByRecursion (IsCondOf (kinds_in catalogue other.relation)) other.conds
TieFits catalogue need (ByKey col other) = AreJoined (kinds_in catalogue other.relation) (kinds_in catalogue need.relation) col × AllByRecursion (IsCondOf (kinds_in catalogue other.relation)) other.conds

-- rows that are tried: of these types, with a need's columns on these places, and with all that is asked of them
abbrev pub trial_of : List Kind → Places → List Cond → Trial
trial_of kinds places asked = record { kinds = kinds; places = places; asked = asked }

-- what rows are tried for a need alone, and what pairs of rows for an ON: of these types, with the need's columns on these places, and all that is asked of them beside a leaf's conditions
abbrev pub own_trial : Catalogue → Need → Trial
own_trial catalogue need = record { kinds = kinds_in catalogue need.relation; places = own_places; asked = need.conds }

abbrev pub asked_of_both : List Kind → ℕ → Need → Need → List Cond
asked_of_both kinds col need other = need.conds ++ put_on (joined_places col (length kinds)) other.conds

abbrev pub tie_trial : Catalogue → Need → Tie → Trial
tie_trial catalogue need (ByColumn col other) =
    let kinds = kinds_in catalogue need.relation in
    record { kinds = kinds ++ kinds_in catalogue other.relation; places = own_places; asked = asked_of_both kinds col need other }
tie_trial catalogue need (ByKey col other) =
    let kinds = kinds_in catalogue other.relation in
    record { kinds = kinds ++ kinds_in catalogue need.relation; places = joined_places col (length kinds); asked = asked_of_both kinds col other need }

abbrev pub trials_of : Catalogue → Need → List Tie → List Trial
trials_of catalogue need ties = own_trial catalogue need ∷ map (tie_trial catalogue need) ties

-- whether some row meets a leaf's conditions and all those that are asked
abbrev pub succeeds : FragmentLeaf → Trial → Bool
succeeds leaf trial = can_be_met trial.kinds (put_on trial.places leaf.conds ++ trial.asked)

-- a leaf is picked where it is wanted, and each trial succeeds
abbrev pub picks : List Trial → Need → FragmentLeaf → Bool
picks trials need leaf = wanted need.columns leaf.steps && list_all (succeeds leaf) trials

abbrev pub picked : List Trial → Need → List FragmentLeaf → List Fetch
picked trials need leaves = map (fetch_of need) (filter (picks trials need) leaves)

-- the fetches of some of the needs, from the one of a number on
abbrev pub fetches_from : Catalogue → Needs → ℕ → List Need → List Fetch
fetches_from catalogue needs number [] = []
fetches_from catalogue needs number (need ∷ later) =
    picked (trials_of catalogue need (ties_of needs number)) need (leaves_of catalogue need.relation) ++ fetches_from catalogue needs (suc number) later

abbrev pub fetches_for : Catalogue → Needs → List Fetch
fetches_for catalogue needs = fetches_from catalogue needs 0 needs.relations

-- the fetches of a statement
abbrev pub fetches_by : Catalogue → Statement → List Fetch
fetches_by catalogue statement = fetches_for catalogue (needs statement)

-- these are the needs of a statement of a catalogue's schema
pub record AreNeedsOf (catalogue : Catalogue) (needed : Needs) : Type 0 where
  pub statement : Statement
  pub are : needed ≡ needs statement
  pub of_schemas : IsStatementOf (schemas_of catalogue) statement

-- of a catalogue that was read, and a statement of its schema, these are the fetches
abbrev pub FetchesAreTold : Type 0
FetchesAreTold = (catalogue : Catalogue) (statement : Statement) → IsFormed catalogue → IsValidCatalogue catalogue → IsStatementOf (schemas_of catalogue) statement → AreFetchesOf catalogue statement (fetches_by catalogue statement)

-- and no other list is
abbrev pub OneListOfFetches : Type 0
OneListOfFetches = (catalogue : Catalogue) (statement : Statement) (one other : List Fetch) → AreFetchesOf catalogue statement one → AreFetchesOf catalogue statement other → one ≡ other
