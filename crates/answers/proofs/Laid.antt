-- How the rows of tables show what the rows of which they are made have.
use Rattle.std.proofs.Common.{◌≡◌, ℕ, ℤ, zero, suc, ◌+◌, ◌-◌, ◌<◌, ◌==◌, ◌&&◌, not, Bool, true, false, cond, drop, List, [], ◌∷◌, ◌++◌, length, filter, get_or, map, Option, Some, None, is_some, if◌then◌else◌, option_map, option_and_then, refl, ap, ap₂, sym, ◌∙◌, append_assoc, arith}
use Rattle.std.specs.List.{AllByRecursion, cons_option, slice_get}
use Rattle.std.proofs.lemmas.List.{append-nil, length-append, length-map, map-append}
use Rattle.std.proofs.lemmas.Option.{slice_get-map}
use Rattle.terms.specs.declared.cond.Cond.{Cond}
use Rattle.terms.specs.declared.value.Value.{Value}
use Rattle.terms.specs.declared.value.Value.TheVariants.{Int, Text}
use Rattle.terms.specs.Cond.{holds_of}
use Rattle.meaning.specs.Selected.{partner}
use Rattle.catalog.specs.Counts.{has}
use Rattle.catalog.specs.Keyed.{row_at}
use Rattle.plan.specs.Rows.{is_seen, seen_meets, seen_part}
use Rattle.plan.specs.Uniform.{beside, past}
use Rattle.answers.specs.declared.joined.Column.{Column}
use Rattle.answers.specs.declared.joined.Joined.{Joined}
use Rattle.answers.specs.Evaluated.{cut, meeting, pair, partner_pairs, picked}
use Rattle.answers.specs.Laid.{Table, column_of, found_at, integer, int_of, laid_beside, laid_from, laid_meets, laid_past, moved, numbers, or_zero, padded, row_of, seen_in, sources, table_seen, value_of}
use Rattle.answers.proofs.Picked.{seen_step}

-- padding

pub pad_row : (count place : ℕ) (row : List Value) (later : List (List Value)) → place < count → padded (count - place) (row ∷ later) ≡ row ∷ padded (count - (place + 1)) later
pad_row count place row later within = let is : count - place ≡ suc (count - (place + 1)) = omega (arith, within) in ap (λ (n : ℕ). padded n (row ∷ later)) is

pub pad_none : (count place : ℕ) → place < count → padded (count - place) [] ≡ [] ∷ padded (count - (place + 1)) []
pad_none count place within = let is : count - place ≡ suc (count - (place + 1)) = omega (arith, within) in ap (λ (n : ℕ). padded n []) is

pub pad_first : (count : ℕ) (row : List Value) (rows : List (List Value)) → 0 < count → padded count (row ∷ rows) ≡ row ∷ padded (count - 1) rows
pad_first count row rows some = let is : count ≡ suc (count - 1) = omega (arith, some) in ap (λ (n : ℕ). padded n (row ∷ rows)) is

pub pad_put : (count place : ℕ) (out made : List (List Value)) (row : List Value) (rest later left : List (List Value)) → place < count → rest ≡ row ∷ later → left ≡ later → made ≡ out ++ row ∷ [] → made ++ padded (count - (place + 1)) left ≡ out ++ padded (count - place) rest
pad_put count place out made row rest later left within is left_is made_is =
    ap₂ (λ (m l : List (List Value)). m ++ padded (count - (place + 1)) l) made_is left_is ∙ append_assoc out (row ∷ []) (padded (count - (place + 1)) later)
    ∙ ap (λ (more : List (List Value)). out ++ more) (sym (ap (padded (count - place)) is ∙ pad_row count place row later within))

pub pad_put_none : (count place : ℕ) (out made rest left : List (List Value)) → place < count → rest ≡ [] → left ≡ rest → made ≡ out ++ [] ∷ [] → made ++ padded (count - (place + 1)) left ≡ out ++ padded (count - place) rest
pad_put_none count place out made rest left within is left_is made_is =
    ap₂ (λ (m l : List (List Value)). m ++ padded (count - (place + 1)) l) made_is (left_is ∙ is) ∙ append_assoc out ([] ∷ []) (padded (count - (place + 1)) [])
    ∙ ap (λ (more : List (List Value)). out ++ more) (sym (ap (padded (count - place)) is ∙ pad_none count place within))

-- as many as there are
pad_length : (rows : List (List Value)) → padded (length rows) rows ≡ rows
pad_length [] = refl
pad_length (row ∷ rows) = ap (λ (more : List (List Value)). row ∷ more) (pad_length rows)

pub pad_all : (count : ℕ) (rows : List (List Value)) → length rows ≡ count → rows ≡ padded count rows
pad_all count rows all = sym (ap (λ (n : ℕ). padded n rows) (sym all) ∙ pad_length rows)

pub beside_is : (count : ℕ) (first other : List Value) (rest others own one made : List (List Value)) → 0 < count → own ≡ padded (count - 1) rest → one ≡ own ++ other ∷ [] → made ≡ one ++ others →
    first ∷ made ≡ padded count (first ∷ rest) ++ (other ∷ others)
beside_is count first other rest others own one made some own_is one_is made_is =
    ap (λ (more : List (List Value)). first ∷ more)
    (made_is ∙ ap (λ (m : List (List Value)). m ++ others) (one_is ∙ ap (λ (m : List (List Value)). m ++ other ∷ []) own_is) ∙ append_assoc (padded (count - 1) rest) (other ∷ []) others)
    ∙ ap (λ (m : List (List Value)). m ++ (other ∷ others)) (sym (pad_first count first rest some))

-- what stands in rows that are padded, and in those behind them
none_found : (source place : ℕ) → found_at [] source place ≡ None
none_found source place = refl

front_found : (count : ℕ) (rows others : List (List Value)) (source place : ℕ) → source < count → found_at (padded count rows ++ others) source place ≡ found_at rows source place
front_found zero rows others source place within = absurd (omega (arith, within))
front_found (suc count) [] others zero place within = refl
front_found (suc count) [] others (suc source) place within = front_found count [] others source place (omega (arith, within))
front_found (suc count) (row ∷ rows) others zero place within = refl
front_found (suc count) (row ∷ rows) others (suc source) place within = front_found count rows others source place (omega (arith, within))

behind_found : (count : ℕ) (rows others : List (List Value)) (source place : ℕ) → found_at (padded count rows ++ others) (count + source) place ≡ found_at others source place
behind_found zero rows others source place = let is : 0 + source ≡ source = omega arith in ap (λ (n : ℕ). found_at others n place) is
behind_found (suc count) [] others source place = let is : suc count + source ≡ suc (count + source) = omega arith in ap (λ (n : ℕ). found_at (padded (suc count) [] ++ others) n place) is ∙ behind_found count [] others source place
behind_found (suc count) (row ∷ rows) others source place =
    let is : suc count + source ≡ suc (count + source) = omega arith in ap (λ (n : ℕ). found_at (padded (suc count) (row ∷ rows) ++ others) n place) is ∙ behind_found count rows others source place

-- what a row shows

pub seen_is : (columns : List Column) (row : Joined) (number : ℕ) → seen_part (numbers columns) (row_of columns row) number ≡ seen_in columns row number
seen_is [] row number = refl
seen_is (column ∷ columns) row number =
    seen_step column.number (numbers columns) (value_of row column) (row_of columns row) number ∙ ap (λ (o : Option Value). cond (column.number == number) (Some (value_of row column)) o) (seen_is columns row number)
    ∙ at (column.number == number)
  where
    at : (t : Bool) → cond t (Some (value_of row column)) (seen_in columns row number) ≡ option_map (value_of row) (cond t (Some column) (column_of number columns))
    at true = refl
    at false = refl

pub meets_is : (conds : List Cond) (columns : List Column) (row : Joined) → laid_meets conds columns row ≡ seen_meets conds (seen_part (numbers columns) (row_of columns row))
meets_is [] columns row = refl
meets_is (c ∷ conds) columns row = ap₂ (λ one all. one && all) (ap (holds_of c) (sym (seen_is columns row c.col))) (meets_is conds columns row)

pub meeting_is : (conds : List Cond) (columns : List Column) (rows : List Joined) → map (row_of columns) (filter (laid_meets conds columns) rows) ≡ meeting conds (numbers columns) (map (row_of columns) rows)
meeting_is conds columns [] = refl
meeting_is conds columns (row ∷ rows) = at (laid_meets conds columns row) (seen_meets conds (seen_part (numbers columns) (row_of columns row))) (meets_is conds columns row) (meeting_is conds columns rows)
  where
    at : (t u : Bool) → t ≡ u → map (row_of columns) (filter (laid_meets conds columns) rows) ≡ meeting conds (numbers columns) (map (row_of columns) rows) →
        map (row_of columns) (cond t (row ∷ filter (laid_meets conds columns) rows) (filter (laid_meets conds columns) rows)) ≡ cond u (row_of columns row ∷ meeting conds (numbers columns) (map (row_of columns) rows)) (meeting conds (numbers columns) (map (row_of columns) rows))
    at true true is more = ap (λ (rest : List (List Value)). row_of columns row ∷ rest) more
    at false false is more = more
    at true false is more = absurd (cc)
    at false true is more = absurd (cc)

-- columns that are cut

numbers_cut : (test : ℕ → Bool) (columns : List Column) → numbers (filter (λ column. test column.number) columns) ≡ filter test (numbers columns)
numbers_cut test [] = refl
numbers_cut test (column ∷ columns) = at (test column.number) (numbers_cut test columns)
  where
    at : (t : Bool) → numbers (filter (λ column. test column.number) columns) ≡ filter test (numbers columns) →
        numbers (cond t (column ∷ filter (λ column. test column.number) columns) (filter (λ column. test column.number) columns)) ≡ cond t (column.number ∷ filter test (numbers columns)) (filter test (numbers columns))
    at true rest = ap (λ (more : List ℕ). column.number ∷ more) rest
    at false rest = rest

values_cut : (test : ℕ → Bool) (f : Column → Value) (columns : List Column) → map f (filter (λ column. test column.number) columns) ≡ picked test (numbers columns) (map f columns)
values_cut test f [] = refl
values_cut test f (column ∷ columns) = at (test column.number) (values_cut test f columns)
  where
    at : (t : Bool) → map f (filter (λ column. test column.number) columns) ≡ picked test (numbers columns) (map f columns) →
        map f (cond t (column ∷ filter (λ column. test column.number) columns) (filter (λ column. test column.number) columns)) ≡ cond t (f column ∷ picked test (numbers columns) (map f columns)) (picked test (numbers columns) (map f columns))
    at true rest = ap (λ (more : List Value). f column ∷ more) rest
    at false rest = rest

rows_cut : (test : ℕ → Bool) (columns : List Column) (rows : List Joined) → map (row_of (filter (λ column. test column.number) columns)) rows ≡ map (picked test (numbers columns)) (map (row_of columns) rows)
rows_cut test columns [] = refl
rows_cut test columns (row ∷ rows) = ap₂ (λ (one : List Value) (rest : List (List Value)). one ∷ rest) (values_cut test (value_of row) columns) (rows_cut test columns rows)

abbrev made : List ℕ → List (List Value) → Table
made columns rows = record { columns = columns; rows = rows }

pub cut_is : (wanted : List ℕ) (columns : List Column) (rows : List Joined) → table_seen (filter (λ column. is_seen wanted column.number) columns) rows ≡ cut wanted (table_seen columns rows)
cut_is wanted columns rows = ap₂ made (numbers_cut (is_seen wanted) columns) (rows_cut (is_seen wanted) columns rows)

-- rows of two

numbers_moved : (count : ℕ) (columns : List Column) → numbers (map (moved count) columns) ≡ numbers columns
numbers_moved count [] = refl
numbers_moved count (column ∷ columns) = ap (λ (rest : List ℕ). column.number ∷ rest) (numbers_moved count columns)

pub beside_numbers : (count : ℕ) (columns others : List Column) → numbers (laid_beside count columns others) ≡ beside (numbers columns) (numbers others)
beside_numbers count columns others =
    let new = filter (λ column. not (has (numbers columns) column.number)) others in
    map-append (λ (column : Column). column.number) columns (map (moved count) new) ∙ ap (λ (rest : List ℕ). numbers columns ++ rest) (numbers_moved count new ∙ numbers_cut (λ col. not (has (numbers columns) col)) others)

front_values : (count : ℕ) (columns : List Column) (row other both : Joined) → sources both ≡ padded count (sources row) ++ sources other → AllByRecursion (λ column. column.source < count) columns → map (value_of both) columns ≡ map (value_of row) columns
front_values count [] row other both is within = refl
front_values count (column ∷ columns) row other both is within =
    ap₂ (λ (one : Value) (rest : List Value). one ∷ rest)
    (ap or_zero (ap (λ (rows : List (List Value)). found_at rows column.source column.place) is ∙ front_found count (sources row) (sources other) column.source column.place within.0)) (front_values count columns row other both is within.1)

behind_values : (count : ℕ) (columns : List Column) (row other both : Joined) → sources both ≡ padded count (sources row) ++ sources other → map (value_of both) (map (moved count) columns) ≡ map (value_of other) columns
behind_values count [] row other both is = refl
behind_values count (column ∷ columns) row other both is =
    ap₂ (λ (one : Value) (rest : List Value). one ∷ rest)
    (ap or_zero (ap (λ (rows : List (List Value)). found_at rows (count + column.source) column.place) is ∙ behind_found count (sources row) (sources other) column.source column.place)) (behind_values count columns row other both is)

pub pair_is : (count : ℕ) (columns others : List Column) (row other both : Joined) → sources both ≡ padded count (sources row) ++ sources other → AllByRecursion (λ column. column.source < count) columns →
    row_of (laid_beside count columns others) both ≡ pair (numbers columns) (numbers others) (row_of columns row) (row_of others other)
pair_is count columns others row other both is within =
    let new = filter (λ column. not (has (numbers columns) column.number)) others in
    map-append (value_of both) columns (map (moved count) new)
    ∙ ap₂ (λ (one rest : List Value). one ++ rest) (front_values count columns row other both is within) (behind_values count new row other both is ∙ values_cut (λ col. not (has (numbers columns) col)) (value_of other) others)

-- columns counted on from a width

pub past_numbers : (width : ℕ) (columns : List Column) → numbers (laid_past width columns) ≡ past width (numbers columns)
past_numbers width [] = refl
past_numbers width (column ∷ columns) = ap (λ (rest : List ℕ). (width + column.number) ∷ rest) (past_numbers width columns)

pub past_row : (width : ℕ) (columns : List Column) (row : Joined) → row_of (laid_past width columns) row ≡ row_of columns row
past_row width [] row = refl
past_row width (column ∷ columns) row = ap (λ (rest : List Value). value_of row column ∷ rest) (past_row width columns row)

pub past_rows : (width : ℕ) (columns : List Column) (rows : List Joined) → map (row_of (laid_past width columns)) rows ≡ map (row_of columns) rows
past_rows width columns [] = refl
past_rows width columns (row ∷ rows) = ap₂ (λ (one : List Value) (rest : List (List Value)). one ∷ rest) (past_row width columns row) (past_rows width columns rows)

-- columns of one row in order

pub from_numbers : (place : ℕ) (columns : List ℕ) → numbers (laid_from place columns) ≡ columns
from_numbers place [] = refl
from_numbers place (number ∷ columns) = ap (λ (rest : List ℕ). number ∷ rest) (from_numbers (suc place) columns)

from_row : (place : ℕ) (columns : List ℕ) (front values : List Value) (row : Joined) → row.first ≡ front ++ values → place ≡ length front → length values ≡ length columns → row_of (laid_from place columns) row ≡ values
from_row place [] front [] row is at wide = refl
from_row place [] front (value ∷ values) row is at wide = absurd (omega (arith, wide))
from_row place (number ∷ columns) front [] row is at wide = absurd (omega (arith, wide))
from_row place (number ∷ columns) front (value ∷ values) row is at wide =
    ap₂ (λ (one : Value) (rest : List Value). one ∷ rest) (ap or_zero (ap₂ (λ (all : List Value) (n : ℕ). slice_get all n) is at ∙ there front))
    (from_row (suc place) columns (front ++ value ∷ []) values row (is ∙ sym (append_assoc front (value ∷ []) values)) (ap suc at ∙ sym (longer front)) (omega (arith, wide)))
  where
    there : (front : List Value) → slice_get (front ++ value ∷ values) (length front) ≡ Some value
    there [] = refl
    there (first ∷ front) = there front

    longer : (front : List Value) → length (front ++ value ∷ []) ≡ suc (length front)
    longer [] = refl
    longer (first ∷ front) = ap suc (longer front)

pub whole_row : (columns : List ℕ) (row : Joined) → length row.first ≡ length columns → row_of (laid_from 0 columns) row ≡ row.first
whole_row columns row wide = from_row 0 columns [] row.first row refl refl wide

-- rows that are put behind others

pub put_mapped : (columns : List Column) (found made : List Joined) (one row : Joined) → made ≡ found ++ one ∷ [] → one ≡ row → map (row_of columns) made ≡ map (row_of columns) found ++ row_of columns row ∷ []
put_mapped columns found made one row is same = ap (map (row_of columns)) (is ∙ ap (λ (last : Joined). found ++ last ∷ []) same) ∙ map-append (row_of columns) found (row ∷ [])

pub pair_put : (count : ℕ) (columns others : List Column) (found made : List Joined) (row other both : Joined) → made ≡ found ++ both ∷ [] → sources both ≡ padded count (sources row) ++ sources other → AllByRecursion (λ column. column.source < count) columns →
    map (row_of (laid_beside count columns others)) made ≡ map (row_of (laid_beside count columns others)) found ++ pair (numbers columns) (numbers others) (row_of columns row) (row_of others other) ∷ []
pair_put count columns others found made row other both is both_is within =
    put_mapped (laid_beside count columns others) found made both both is refl ∙ ap (λ (last : List Value). map (row_of (laid_beside count columns others)) found ++ last ∷ []) (pair_is count columns others row other both both_is within)

pub both_mapped : (columns : List Column) (found rest others middle made : List Joined) → middle ≡ found ++ rest → made ≡ middle ++ others → map (row_of columns) made ≡ (map (row_of columns) found ++ map (row_of columns) rest) ++ map (row_of columns) others
both_mapped columns found rest others middle made middle_is made_is =
    ap (map (row_of columns)) (made_is ∙ ap (λ (m : List Joined). m ++ others) middle_is) ∙ map-append (row_of columns) (found ++ rest) others
    ∙ ap (λ (m : List (List Value)). m ++ map (row_of columns) others) (map-append (row_of columns) found rest)

-- partners

pub found_partner : (columns others_columns : List Column) (row : Joined) (others : List Joined) (col : ℕ) (at : ℤ → Option ℕ) → ((key : ℤ) → option_and_then (slice_get (map (row_of others_columns) others)) (at key) ≡ row_at key (map (row_of others_columns) others)) →
    option_map (row_of others_columns) (option_and_then (λ key. option_and_then (slice_get others) (at key)) (int_of columns row col)) ≡ partner (map (row_of others_columns) others) (seen_part (numbers columns) (row_of columns row) col)
found_partner columns others_columns row others col at has = by_value (seen_in columns row col) ∙ ap (partner (map (row_of others_columns) others)) (sym (seen_is columns row col))
  where
    by_place : (p : Option ℕ) → option_map (row_of others_columns) (option_and_then (slice_get others) p) ≡ option_and_then (slice_get (map (row_of others_columns) others)) p
    by_place None = refl
    by_place (Some place) = sym (slice_get-map (row_of others_columns) others place)

    by_value : (v : Option Value) → option_map (row_of others_columns) (option_and_then (λ key. option_and_then (slice_get others) (at key)) (integer v)) ≡ partner (map (row_of others_columns) others) v
    by_value None = refl
    by_value (Some (Text bytes)) = refl
    by_value (Some (Int n)) = by_place (at n) ∙ has n

pub mapped_at : (columns : List Column) (rows : List Joined) (i : ℕ) (d : Joined) → get_or (map (row_of columns) rows) i (row_of columns d) ≡ row_of columns (get_or rows i d)
mapped_at columns [] i d = refl
mapped_at columns (row ∷ rows) zero d = refl
mapped_at columns (row ∷ rows) (suc i) d = mapped_at columns rows i d

-- rows that are made of one alone
pub alone_rows : (columns : List ℕ) (rows : List Joined) → AllByRecursion (λ row. length row ≡ length columns) (map (λ row. row.first) rows) → map (row_of (laid_from 0 columns)) rows ≡ map (λ row. row.first) rows
alone_rows columns [] wide = refl
alone_rows columns (row ∷ rows) wide = ap₂ (λ (one : List Value) (rest : List (List Value)). one ∷ rest) (whole_row columns row wide.0) (alone_rows columns rows wide.1)

pub wide_rows : (columns : List Column) (rows : List Joined) → AllByRecursion (λ row. length row ≡ length (numbers columns)) (map (row_of columns) rows)
wide_rows columns [] = tt
wide_rows columns (row ∷ rows) = (length-map columns (value_of row) ∙ sym (length-map columns (λ column. column.number)), wide_rows columns rows)

-- the rows from one on
dropped_more : (f : Joined → List Value) (rows : List Joined) (i : ℕ) (row : Joined) → i < length rows → row ≡ get_or rows i row → map f (drop i rows) ≡ f row ∷ map f (drop (suc i) rows)
dropped_more f [] i row within is = absurd (omega (arith, within))
dropped_more f (first ∷ rows) zero row within is = ap (λ (one : Joined). f one ∷ map f rows) (sym is)
dropped_more f (first ∷ rows) (suc i) row within is = dropped_more f rows i row (omega (arith, within)) is

pub dropped : (f : Joined → List Value) (rows : List Joined) (i : ℕ) (row : Joined) → i < length rows → row ≡ get_or rows i row → map f (drop i rows) ≡ f row ∷ map f (drop (i + 1) rows)
dropped f rows i row within is = let next : suc i ≡ i + 1 = omega arith in dropped_more f rows i row within is ∙ ap (λ (n : ℕ). f row ∷ map f (drop n rows)) next

pub partner_put : (col count : ℕ) (columns others_columns : List Column) (found made rest others : List Joined) (left : List (List Value)) (row other both : Joined) → made ≡ found ++ both ∷ [] → sources both ≡ padded count (sources row) ++ sources other →
    AllByRecursion (λ column. column.source < count) columns → left ≡ row_of columns row ∷ map (row_of columns) rest → partner (map (row_of others_columns) others) (seen_part (numbers columns) (row_of columns row) col) ≡ Some (row_of others_columns other) →
    map (row_of (laid_beside count columns others_columns)) made ++ partner_pairs col (numbers columns) (numbers others_columns) (map (row_of columns) rest) (map (row_of others_columns) others)
    ≡ map (row_of (laid_beside count columns others_columns)) found ++ partner_pairs col (numbers columns) (numbers others_columns) left (map (row_of others_columns) others)
partner_put col count columns others_columns found made rest others left row other both made_is both_is within left_is is =
    let more = partner_pairs col (numbers columns) (numbers others_columns) (map (row_of columns) rest) (map (row_of others_columns) others) in
    let pair_made = pair (numbers columns) (numbers others_columns) (row_of columns row) (row_of others_columns other) in
    let front = map (row_of (laid_beside count columns others_columns)) found in
    ap (λ (m : List (List Value)). m ++ more) (pair_put count columns others_columns found made row other both made_is both_is within) ∙ append_assoc front (pair_made ∷ []) more
    ∙ ap (λ (m : List (List Value)). front ++ m)
    (sym (ap (λ (l : List (List Value)). partner_pairs col (numbers columns) (numbers others_columns) l (map (row_of others_columns) others)) left_is
    ∙ ap (λ (o : Option (List Value)). cons_option (option_map (pair (numbers columns) (numbers others_columns) (row_of columns row)) o) more) is))

pub partner_none : (col : ℕ) (columns others_columns : List Column) (front : List (List Value)) (rest others : List Joined) (left : List (List Value)) (row : Joined) → left ≡ row_of columns row ∷ map (row_of columns) rest →
    partner (map (row_of others_columns) others) (seen_part (numbers columns) (row_of columns row) col) ≡ None →
    front ++ partner_pairs col (numbers columns) (numbers others_columns) (map (row_of columns) rest) (map (row_of others_columns) others) ≡ front ++ partner_pairs col (numbers columns) (numbers others_columns) left (map (row_of others_columns) others)
partner_none col columns others_columns front rest others left row left_is is =
    let more = partner_pairs col (numbers columns) (numbers others_columns) (map (row_of columns) rest) (map (row_of others_columns) others) in
    ap (λ (m : List (List Value)). front ++ m)
    (sym (ap (λ (l : List (List Value)). partner_pairs col (numbers columns) (numbers others_columns) l (map (row_of others_columns) others)) left_is
    ∙ ap (λ (o : Option (List Value)). cons_option (option_map (pair (numbers columns) (numbers others_columns) (row_of columns row)) o) more) is))

module _ (col count : ℕ) (columns others_columns : List Column) (rest others : List Joined) (left : List (List Value)) (row : Joined) (left_is : left ≡ row_of columns row ∷ map (row_of columns) rest) where
  abbrev pub partner_seen : Option (List Value)
  partner_seen = partner (map (row_of others_columns) others) (seen_part (numbers columns) (row_of columns row) col)

  abbrev pub with_other : Option Joined → Option (List (List Value))
  with_other other = option_map (λ partner. padded count (sources row) ++ sources partner) other

  abbrev pub laid : List Joined → List (List Value)
  laid found = map (row_of (laid_beside count columns others_columns)) found

  -- a row that was put together with its partner, if it has one
  pub put_with : (found made : List Joined) (other both : Option Joined) → made ≡ found ++ cons_option both [] → option_map sources both ≡ with_other other → AllByRecursion (λ column. column.source < count) columns → partner_seen ≡ option_map (row_of others_columns) other →
      laid made ++ partner_pairs col (numbers columns) (numbers others_columns) (map (row_of columns) rest) (map (row_of others_columns) others) ≡ laid found ++ partner_pairs col (numbers columns) (numbers others_columns) left (map (row_of others_columns) others)
  put_with found made None None made_is is within there =
      ap (λ (all : List Joined). laid all ++ partner_pairs col (numbers columns) (numbers others_columns) (map (row_of columns) rest) (map (row_of others_columns) others)) (made_is ∙ append-nil found)
      ∙ partner_none col columns others_columns (laid found) rest others left row left_is there
  put_with found made None (Some both) made_is is within there = cc
  put_with found made (Some other) None made_is is within there = cc
  put_with found made (Some other) (Some both) made_is is within there =
      let both_is : sources both ≡ padded count (sources row) ++ sources other = cc in
      partner_put col count columns others_columns found made rest others left row other both made_is both_is within left_is there

-- it is longer by one then, and by none otherwise
pub longer_with : {R : Type 0} (f : R → Joined) (with_other : Joined → List (List Value)) (found made : List Joined) (other : Option R) (both : Option Joined) → made ≡ found ++ cons_option both [] → option_map sources both ≡ option_map with_other (option_map f other) → length made ≡ length found + (if is_some other then 1 else 0)
longer_with f with_other found made None None made_is is = ap (λ (all : List Joined). length all) made_is ∙ length-append found []
longer_with f with_other found made None (Some both) made_is is = cc
longer_with f with_other found made (Some other) None made_is is = cc
longer_with f with_other found made (Some other) (Some both) made_is is = ap (λ (all : List Joined). length all) made_is ∙ length-append found (both ∷ [])
