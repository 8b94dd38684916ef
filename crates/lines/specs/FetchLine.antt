-- A fetch in a line.
use Rattle.std.specs.Prelude.{ℕ, ◌==◌, if◌then◌else◌, List, [], ◌∷◌, ◌++◌, Option, Some, None, codes}
use Rattle.std.specs.Fmt.{decimal}
use Rattle.terms.specs.Leaf.{leaf_text}
use Rattle.meaning.specs.Listed.{listed}
use Rattle.reader.specs.Written.{name_in}
use Rattle.catalog.specs.declared.fragment_leaf.FragmentLeaf.{FragmentLeaf}
use Rattle.catalog.specs.Catalogue.{Catalogue}
use Rattle.catalog.specs.FragmentLeaf.{catalogue_leaves, leaf_named, schemas_of}
use Rattle.plan.specs.declared.fetch.Fetch.{Fetch}
use Rattle.lines.specs.Columns.{columns_of, names_of_columns, where_text}

-- the name of a leaf's site, nothing where the leaf is not there
abbrev pub site_text : List (List ℕ) → Option FragmentLeaf → List ℕ
site_text sites None = []
site_text sites (Some leaf) = name_in sites leaf.site

-- a fetch's leaf, the leaf's site, and the conditions that it carries, by the names of the leaf's columns
abbrev pub fetch_line : Catalogue → Fetch → List ℕ
fetch_line catalogue fetch =
    leaf_text fetch.leaf ++ 32 ∷ site_text catalogue.sites (leaf_named fetch.leaf (catalogue_leaves catalogue))
    ++ where_text (names_of_columns (listed fetch.columns (columns_of (schemas_of catalogue) fetch.leaf.relation))) fetch.conds ++ 10 ∷ []

abbrev pub count_line : ℕ → List ℕ
count_line count = if count == 1 then codes "1 fetch" ++ 10 ∷ [] else decimal count ++ codes " fetches" ++ 10 ∷ []
