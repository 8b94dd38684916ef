-- Rows that come, and what is evaluated once all are in.
use Rattle.std.specs.Prelude.{ℕ, nat_eq, Bool, false, ◌&&◌, ◌||◌, if◌then◌else◌, List, Option, Some, None, is_none, is_some, length}
use Rattle.std.specs.Cmp.Lexicographic.{pointwise}
use Rattle.std.specs.List.{filter_map, list_all}
use Rattle.std.specs.Option.{option_map}
use Rattle.terms.specs.declared.value.Value.{Value}
use Rattle.catalog.specs.declared.fragment_leaf.FragmentLeaf.{FragmentLeaf}
use Rattle.catalog.specs.Catalogue.{Catalogue}
use Rattle.catalog.specs.FragmentLeaf.{catalogue_leaves, leaf_named}
use Rattle.answers.specs.FetchRows.{FetchRows}
use Rattle.answers.specs.Evaluated.{parts_climb}
use Rattle.protocol.specs.Desk.{is_numbered}
use Rattle.desk.specs.declared.fetches.Ask.{Ask}

-- whether rows can be parts of a leaf: each has a value for each column, and their keys ascend
abbrev pub fits_leaf : Option FragmentLeaf → List (List Value) → Bool
fits_leaf None rows = false
fits_leaf (Some leaf) rows = parts_climb (length leaf.columns) None rows

-- whether these rows are those that a fetch waits for
abbrev pub awaits : Catalogue → List ℕ → ℕ → List (List Value) → Ask → Bool
awaits catalogue site number rows ask =
    pointwise nat_eq ask.site site && is_numbered ask.number number && is_none ask.rows && fits_leaf (leaf_named ask.leaf (catalogue_leaves catalogue)) rows

-- the fetch with its rows, if these are they
abbrev pub with_rows : Catalogue → List ℕ → ℕ → List (List Value) → Ask → Ask
with_rows catalogue site number rows ask = if awaits catalogue site number rows ask then record ask { rows = Some rows } else ask

-- whether a fetch, and whether each, has its rows once these have come
abbrev pub has_rows_with : Catalogue → List ℕ → ℕ → List (List Value) → Ask → Bool
has_rows_with catalogue site number rows ask = is_some ask.rows || awaits catalogue site number rows ask

abbrev pub are_in_with : Catalogue → List ℕ → ℕ → List (List Value) → List Ask → Bool
are_in_with catalogue site number rows asks = list_all (has_rows_with catalogue site number rows) asks

-- whether all rows are in
abbrev pub are_in : List Ask → Bool
are_in asks = list_all (λ ask. is_some ask.rows) asks

-- what a fetch brought
abbrev pub brought_by : Ask → Option FetchRows
brought_by ask = option_map (λ rows. record { leaf = ask.leaf; parts = rows }) ask.rows

abbrev pub brought : List Ask → List FetchRows
brought asks = filter_map brought_by asks

-- the parts that a fetch has, and these where it has none
abbrev pub own_or : List (List Value) → Option (List (List Value)) → List (List Value)
own_or rows None = rows
own_or rows (Some own) = own

-- what a fetch brought where it waited for these rows, or had its own
abbrev pub fetched_with : List (List Value) → Ask → FetchRows
fetched_with rows ask = record { leaf = ask.leaf; parts = own_or rows ask.rows }
