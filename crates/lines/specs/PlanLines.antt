-- What the program shows of a plan as a tree, line by line.
use Rattle.std.specs.Prelude.{ℕ, Bool, true, false, ◌&&◌, ◌||◌, List, [], ◌∷◌, ◌++◌, if◌then◌else◌, codes, drop}
use Rattle.meaning.specs.declared.schema.Column.{Column}
use Rattle.reader.specs.PrintStatement.{separated_bytes}
use Rattle.reader.specs.Written.{name_in}
use Rattle.catalog.specs.Catalogue.{Catalogue}
use Rattle.plan.specs.Shape.{Shape, Empty, Fetch, Filter, Project, Union, KeyJoin, Lookup}
use Rattle.lines.specs.Columns.{names_of_columns, where_text}
use Rattle.lines.specs.FetchLine.{fetch_line}
use Rattle.lines.specs.Level.{deeper, line}
use Rattle.lines.specs.declared.plan_lines.Within.{Within}
use Rattle.lines.specs.declared.plan_lines.Within.TheVariants as place

-- whether a plan has no row whatever its leaves have
abbrev pub reads_nothing : Shape → Bool
reads_nothing Empty = true
reads_nothing (Fetch read) = false
reads_nothing (Filter conds below) = reads_nothing below
reads_nothing (Project columns below) = reads_nothing below
reads_nothing (Union one other) = reads_nothing one && reads_nothing other
reads_nothing (KeyJoin one other) = reads_nothing one || reads_nothing other
reads_nothing (Lookup col width left right) = reads_nothing left || reads_nothing right

-- these columns beside the key, or the keys alone
abbrev pub cut_text : List (List ℕ) → List ℕ → List ℕ
cut_text names [] = codes "keys"
cut_text names (column ∷ columns) = codes "columns " ++ separated_bytes (name_in names) (codes ", ") (column ∷ columns)

-- a line that unites what stands below it, unless it goes on with what it stands within
abbrev pub head_line : Bool → List ℕ → List ℕ → List ℕ
head_line true front text = []
head_line false front text = line front text

-- the front of what it unites
abbrev pub inner : Bool → List ℕ → List ℕ
inner true front = front
inner false front = deeper front

abbrev pub is_union : Within → Bool
is_union place.Nothing = false
is_union place.Union = true
is_union place.Join = false

abbrev pub is_join : Within → Bool
is_join place.Nothing = false
is_join place.Union = false
is_join place.Join = true

-- the lines of a plan of rows over these columns, which stands within another, each with this front or one deeper; of a union only sides that may have rows are shown
abbrev pub plan_lines : Catalogue → List Column → Within → List ℕ → Shape → List ℕ
plan_lines catalogue columns within front Empty = line front (codes "nothing")
plan_lines catalogue columns within front (Fetch read) = front ++ codes "fetch " ++ fetch_line catalogue read
plan_lines catalogue columns within front (Filter conds below) =
    line front (codes "rows" ++ where_text (names_of_columns columns) conds) ++ plan_lines catalogue columns place.Nothing (deeper front) below
plan_lines catalogue columns within front (Project places below) =
    line front (cut_text (names_of_columns columns) places) ++ plan_lines catalogue columns place.Nothing (deeper front) below
plan_lines catalogue columns within front (Union one other) =
    if reads_nothing other then plan_lines catalogue columns within front one
    else (if reads_nothing one then plan_lines catalogue columns within front other
    else (head_line (is_union within) front (codes "union")
    ++ plan_lines catalogue columns place.Nothing (inner (is_union within) front) one
    ++ plan_lines catalogue columns place.Union (inner (is_union within) front) other))
plan_lines catalogue columns within front (KeyJoin one other) =
    head_line (is_join within) front (codes "join by key")
    ++ plan_lines catalogue columns place.Nothing (inner (is_join within) front) one
    ++ plan_lines catalogue columns place.Join (inner (is_join within) front) other
plan_lines catalogue columns within front (Lookup col width left right) =
    line front (codes "look up by " ++ name_in (names_of_columns columns) col)
    ++ plan_lines catalogue columns place.Nothing (deeper front) left
    ++ plan_lines catalogue (drop width columns) place.Nothing (deeper front) right
