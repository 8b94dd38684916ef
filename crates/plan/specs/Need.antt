-- What a statement needs of each of its relations: columns, and conditions on them.
use Rattle.std.specs.Prelude.{ℕ, ◌+◌, ◌==◌, ◌-◌, ◌&&◌, suc, nat_lt, not, Bool, if◌then◌else◌, List, [], ◌∷◌, ◌++◌, Option, Some, None, map, flat_map, filter, find, length}
use Rattle.std.specs.List.{range_with_len}
use Rattle.terms.specs.declared.cond.Cond.{Cond}
use Rattle.terms.specs.declared.cond.Cmp.TheVariants.{Eq}
use Rattle.terms.specs.declared.value.Value.{Value}
use Rattle.terms.specs.declared.value.Value.TheVariants.{Int}
use Rattle.terms.specs.Row.{key_of}
use Rattle.meaning.specs.declared.statement.Join.{Join}
use Rattle.meaning.specs.declared.statement.Select.{Select}
use Rattle.meaning.specs.declared.statement.Source.{Source}
use Rattle.meaning.specs.declared.statement.Statement.{Statement}
use Rattle.meaning.specs.declared.statement.Statement.TheVariants as statement
use Rattle.plan.specs.declared.link.Link.{Link}
use Rattle.plan.specs.declared.need.Need.{Need}
use Rattle.plan.specs.declared.need.Needs.{Needs}

-- whether a place among the columns of joined relations is of one that stands behind so many columns and has so many
abbrev pub is_of : ℕ → ℕ → ℕ → Bool
is_of before width place = not (nat_lt place before) && nat_lt (place - before) width

-- conditions on other columns
abbrev pub on_column : ℕ → Cond → Cond
on_column col cond = record { col = col; cmp = cond.cmp; value = cond.value }

-- the places that are such a relation's, and the conditions on them, counted from its first column
abbrev pub places_of : ℕ → ℕ → List ℕ → List ℕ
places_of before width places = map (λ place. place - before) (filter (is_of before width) places)

abbrev pub conds_of : ℕ → ℕ → List Cond → List Cond
conds_of before width conds = map (λ cond. on_column (cond.col - before) cond) (filter (λ cond. is_of before width cond.col) conds)

-- the first of the places that ONs make equal to a place
abbrev pub origin : List Link → ℕ → ℕ
origin [] place = place
origin (link ∷ links) place = if origin links place == link.key then link.place else origin links place

-- the places that ONs make equal, two by each
abbrev pub places_on : List Link → List ℕ
places_on links = flat_map (λ link. link.place ∷ link.key ∷ []) links

-- the place in a relation that has the value of a place elsewhere; there is one at most, since each ON makes the key of a new relation equal to what stands before it
abbrev pub equal_of : List Link → ℕ → ℕ → ℕ → Option ℕ
equal_of links before width place = find (λ other. is_of before width other && (origin links other == origin links place)) (places_on links)

-- a condition on another relation's column, carried to the column of this one that has its value
abbrev pub carried_to : ℕ → Cond → Option ℕ → List Cond
carried_to before cond None = []
carried_to before cond (Some place) = on_column (place - before) cond ∷ []

abbrev pub carried_one : List Link → ℕ → ℕ → Cond → List Cond
carried_one links before width cond = if is_of before width cond.col then [] else carried_to before cond (equal_of links before width cond.col)

abbrev pub carried : List Link → ℕ → ℕ → List Cond → List Cond
carried links before width conds = flat_map (carried_one links before width) conds

-- the columns that conditions are on
abbrev pub columns_of : List Cond → List ℕ
columns_of conds = map (λ cond. cond.col) conds

-- the columns that a SELECT reads: those in ON, those listed and those in WHERE
abbrev pub columns_read : List Link → Select → List ℕ
columns_read links select = places_on links ++ select.columns ++ columns_of select.conds

-- which of relations with so many columns each has a place, and as which of its columns
abbrev pub number_of : List ℕ → ℕ → ℕ
number_of [] place = 0
number_of (width ∷ widths) place = if nat_lt place width then 0 else suc (number_of widths (place - width))

abbrev pub column_of : List ℕ → ℕ → ℕ
column_of [] place = place
column_of (width ∷ widths) place = if nat_lt place width then place else column_of widths (place - width)

-- how many columns relations have together
abbrev pub width_of : List ℕ → ℕ
width_of [] = 0
width_of (width ∷ widths) = width + width_of widths

-- the ONs of joins behind relations with so many columns each
abbrev pub link_of : List ℕ → Join → Link
link_of widths join = record { place = join.col; key = width_of widths; from = number_of widths join.col; col = column_of widths join.col; joined = length widths }

abbrev pub links_behind : List ℕ → List Join → List Link
links_behind widths [] = []
links_behind widths (join ∷ joins) = link_of widths join ∷ links_behind (widths ++ length join.relation.columns ∷ []) joins

abbrev pub links_of : Select → List Link
links_of select = links_behind (length select.from.columns ∷ []) select.joins

-- what a SELECT needs of a relation that stands behind so many columns: besides its own conditions those that ONs carry to it
abbrev pub need_of : Select → List Link → ℕ → Source → Need
need_of select links before source = record {
  relation = source.name;
  columns = places_of before (length source.columns) (columns_read links select);
  conds = conds_of before (length source.columns) select.conds ++ carried links before (length source.columns) select.conds;
}

abbrev pub needs_behind : Select → List Link → ℕ → List Join → List Need
needs_behind select links before [] = []
needs_behind select links before (join ∷ joins) =
    need_of select links before join.relation ∷ needs_behind select links (before + length join.relation.columns) joins

abbrev pub needs_of_select : Select → List Link → Needs
needs_of_select select links = record {
  relations = need_of select links 0 select.from ∷ needs_behind select links (length select.from.columns) select.joins;
  links = links;
}

-- the condition that the key is that of a row
abbrev pub key_is : List Value → Cond
key_is row = record { col = 0; cmp = Eq; value = Int (key_of row) }

-- the first so many places
abbrev pub places_to : ℕ → List ℕ
places_to count = range_with_len 0 count

-- one relation alone is needed
abbrev pub alone : Need → Needs
alone need = record { relations = need ∷ []; links = [] }

-- a change needs all columns of the rows that it may change, a REFRAGMENT those of all rows; an INSERT needs to know whether its key is there
abbrev pub needs : Statement → Needs
needs (statement.Select select) = needs_of_select select (links_of select)
needs (statement.Insert insert) = alone (record { relation = insert.into; columns = []; conds = key_is insert.row ∷ [] })
needs (statement.Update update) = alone (record { relation = update.relation.name; columns = places_to (length update.relation.columns); conds = update.conds })
needs (statement.Delete delete) = alone (record { relation = delete.relation.name; columns = places_to (length delete.relation.columns); conds = delete.conds })
needs (statement.Refragment refragment) = alone (record { relation = refragment.relation.name; columns = places_to (length refragment.relation.columns); conds = [] })
