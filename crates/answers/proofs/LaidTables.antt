-- What each node of a plan makes of tables, as their rows stand in the rows of which they are made.
use Rattle.std.proofs.Common.{◌≡◌, ◌⊎◌, inl, inr, ℕ, ◌+◌, ◌<◌, ◌==◌, true, false, List, [], ◌∷◌, length, filter, map, Option, Some, None, option_map, refl, ap, ap₂, sym, subst, ◌∙◌, arith}
use Rattle.std.specs.List.{AllByRecursion, cons_option, filter_map, list_all}
use Rattle.std.proofs.lemmas.Bool.{eqb-true}
use Rattle.std.proofs.lemmas.Bool.Decides.{nat_tests}
use Rattle.std.proofs.lemmas.List.{length-map}
use Rattle.terms.specs.declared.cond.Cond.{Cond}
use Rattle.terms.specs.declared.value.Value.{Value}
use Rattle.meaning.specs.Relation.{Ascends}
use Rattle.plan.specs.Rows.{is_seen, seen_part}
use Rattle.plan.specs.Uniform.{AreOnce, beside, past}
use Rattle.plan.proofs.CarriedConds.{both}
use Rattle.answers.specs.declared.joined.Column.{Column}
use Rattle.answers.specs.declared.joined.Joined.{Joined}
use Rattle.answers.specs.Evaluated.{cut, filtered, key_pairs, keyed, partner_pairs, partnered, united}
use Rattle.answers.specs.Laid.{Table, column_of, laid_beside, laid_from, laid_meets, laid_past, numbers, row_of, seen_in, table_seen, value_of}
use Rattle.answers.specs.Merged.{merged_rows}
use Rattle.answers.specs.Outcome.{shown}
use Rattle.answers.proofs.Laid.{alone_rows, beside_numbers, cut_is, from_numbers, meeting_is, past_numbers, past_rows, seen_is, whole_row, wide_rows}
use Rattle.answers.proofs.Whole.{whole_shown}

abbrev made : List ℕ → List (List Value) → Table
made columns rows = record { columns = columns; rows = rows }

pub seen_same : (table : Table) (columns same_columns : List Column) (rows same_rows : List Joined) → table ≡ table_seen columns rows → same_columns ≡ columns → same_rows ≡ rows → table ≡ table_seen same_columns same_rows
seen_same table columns same_columns rows same_rows is columns_is rows_is = is ∙ sym (ap₂ table_seen columns_is rows_is)

pub read_is : (columns : List ℕ) (laid : List Column) (rows : List Joined) (met_rows : List (List Value)) (result : Table) → result ≡ table_seen laid rows → laid ≡ laid_from 0 columns → map (λ row. row.first) rows ≡ met_rows →
    AllByRecursion (λ row. length row ≡ length columns) met_rows → result ≡ made columns met_rows
read_is columns laid rows met_rows result result_is laid_is is wide =
    let P : List (List Value) → Type 0 = AllByRecursion (λ row. length row ≡ length columns) in
    result_is ∙ ap (λ (l : List Column). table_seen l rows) laid_is ∙ ap₂ made (from_numbers 0 columns) (alone_rows columns rows (subst P (sym is) wide) ∙ is)

pub filtered_is : (conds : List Cond) (columns : List Column) (rows found : List Joined) (table : Table) → table ≡ table_seen columns rows → found ≡ filter (laid_meets conds columns) rows → table_seen columns found ≡ filtered conds table
filtered_is conds columns rows found table is found_is = ap (made (numbers columns)) (ap (map (row_of columns)) found_is ∙ meeting_is conds columns rows) ∙ ap (filtered conds) (sym is)

pub cut_made_is : (wanted : List ℕ) (columns found : List Column) (rows : List Joined) (table : Table) → table ≡ table_seen columns rows → found ≡ filter (λ column. is_seen wanted column.number) columns → table_seen found rows ≡ cut wanted table
cut_made_is wanted columns found rows table is found_is = ap (λ (l : List Column). table_seen l rows) found_is ∙ cut_is wanted columns rows ∙ ap (cut wanted) (sym is)

pub keyed_is : (count : ℕ) (columns columns_other beside_columns : List Column) (rows others found : List Joined) (one other result : Table) → one ≡ table_seen columns rows → other ≡ table_seen columns_other others → result ≡ table_seen beside_columns found →
    beside_columns ≡ laid_beside count columns columns_other →
    map (row_of (laid_beside count columns columns_other)) found ≡ key_pairs (numbers columns) (numbers columns_other) (map (row_of columns) rows) (map (row_of columns_other) others) → result ≡ keyed one other
keyed_is count columns columns_other beside_columns rows others found one other result one_is other_is result_is beside_is is =
    result_is ∙ ap (λ (l : List Column). table_seen l found) beside_is ∙ ap₂ made (beside_numbers count columns columns_other) is ∙ sym (ap₂ keyed one_is other_is)

some_row : (rows : List Joined) (f : Joined → List Value) → (length rows == 0) ≡ false → map f rows ≡ [] → ⊥
some_row [] f some none = cc
some_row (row ∷ rows) f some none = cc

all_numbers : (P : ℕ → Type 0) (columns : List Column) → AllByRecursion P (numbers columns) → AllByRecursion (λ column. P column.number) columns
all_numbers P [] all = tt
all_numbers P (column ∷ columns) all = (all.0, all_numbers P columns all.1)

pub past_within : (width : ℕ) (columns : List Column) (rows : List Joined) (table : Table) → table ≡ table_seen columns rows → (length rows == 0) ≡ false → (table.rows ≡ []) ⊎ AllByRecursion (λ col. width + col < 18446744073709551616) table.columns →
    AllByRecursion (λ column. width + column.number < 18446744073709551616) columns
past_within width columns rows table is some (inl none) = absurd (some_row rows (row_of columns) some (sym (ap (λ (t : Table). t.rows) is) ∙ none))
past_within width columns rows table is some (inr all) =
    let P : Table → Type 0 = λ t. AllByRecursion (λ col. width + col < 18446744073709551616) t.columns in
    all_numbers (λ col. width + col < 18446744073709551616) columns (subst P is all)

pub past_ascends : (width : ℕ) (columns past_columns : List Column) (rows : List Joined) (table : Table) → table ≡ table_seen columns rows → past_columns ≡ laid_past width columns → Ascends table.rows → Ascends (map (row_of past_columns) rows)
past_ascends width columns past_columns rows table is past_is order =
    let P : List (List Value) → Type 0 = λ all. Ascends all in
    subst P (ap (λ (t : Table). t.rows) is ∙ sym (ap (λ (l : List Column). map (row_of l) rows) past_is ∙ past_rows width columns rows)) order

pub partnered_is : (col width count : ℕ) (columns columns_other past_columns beside_columns : List Column) (rows others found : List Joined) (left right result : Table) → left ≡ table_seen columns rows → right ≡ table_seen columns_other others → (length others == 0) ≡ false →
    past_columns ≡ laid_past width columns_other → result ≡ table_seen beside_columns found → beside_columns ≡ laid_beside count columns past_columns →
    map (row_of (laid_beside count columns past_columns)) found ≡ partner_pairs col (numbers columns) (numbers past_columns) (map (row_of columns) rows) (map (row_of past_columns) others) → result ≡ partnered col width left right
partnered_is col width count columns columns_other past_columns beside_columns rows [] found left right result left_is right_is some past_is result_is beside_is is = absurd (cc)
partnered_is col width count columns columns_other past_columns beside_columns rows (first ∷ others) found left right result left_is right_is some past_is result_is beside_is is =
    let named : numbers past_columns ≡ past width (numbers columns_other) = ap numbers past_is ∙ past_numbers width columns_other in
    let shown : map (row_of past_columns) (first ∷ others) ≡ map (row_of columns_other) (first ∷ others) = ap (λ (l : List Column). map (row_of l) (first ∷ others)) past_is ∙ past_rows width columns_other (first ∷ others) in
    result_is ∙ ap (λ (l : List Column). table_seen l found) beside_is
    ∙ ap₂ made (beside_numbers count columns past_columns ∙ ap (λ (ns : List ℕ). beside (numbers columns) ns) named) (is ∙ ap₂ (λ (ns : List ℕ) (all : List (List Value)). partner_pairs col (numbers columns) ns (map (row_of columns) rows) all) named shown)
    ∙ sym (ap₂ (partnered col width) left_is right_is)

pub united_is : (columns columns_other made_columns : List Column) (rows others found : List Joined) (one other result : Table) → one ≡ table_seen columns rows → other ≡ table_seen columns_other others → (length rows == 0) ≡ false → (length others == 0) ≡ false →
    result ≡ table_seen made_columns found → numbers made_columns ≡ numbers columns → map (row_of made_columns) found ≡ merged_rows (map (row_of columns) rows) (map (row_of columns_other) others) → result ≡ united one other
united_is columns columns_other made_columns [] others found one other result one_is other_is some some_other result_is named is = absurd (cc)
united_is columns columns_other made_columns (row ∷ rows) [] found one other result one_is other_is some some_other result_is named is = absurd (cc)
united_is columns columns_other made_columns (row ∷ rows) (first ∷ others) found one other result one_is other_is some some_other result_is named is = result_is ∙ ap₂ made named is ∙ sym (ap₂ united one_is other_is)

-- rows that are put for themselves show what they showed
pub apart : (named : List ℕ) (laid columns : List Column) (alone rows : List Joined) → laid ≡ laid_from 0 named → named ≡ numbers columns → map (λ row. row.first) alone ≡ map (row_of columns) rows → map (row_of laid) alone ≡ map (row_of columns) rows
apart named laid columns alone rows laid_is named_is is =
    let P : List (List Value) → Type 0 = AllByRecursion (λ row. length row ≡ length (numbers columns)) in
    ap (λ (l : List Column). map (row_of l) alone) (laid_is ∙ ap (laid_from 0) named_is) ∙ alone_rows (numbers columns) alone (subst P (sym is) (wide_rows columns rows)) ∙ is

pub same_numbers : (columns columns_other : List Column) (rows others : List Joined) (one other : Table) → one ≡ table_seen columns rows → other ≡ table_seen columns_other others → (length rows == 0) ≡ false → (length others == 0) ≡ false →
    (one.rows ≡ []) ⊎ ((other.rows ≡ []) ⊎ (one.columns ≡ other.columns)) → numbers columns ≡ numbers columns_other
same_numbers columns columns_other rows others one other one_is other_is some some_other (inl none) = absurd (some_row rows (row_of columns) some (sym (ap (λ (t : Table). t.rows) one_is) ∙ none))
same_numbers columns columns_other rows others one other one_is other_is some some_other (inr (inl none)) = absurd (some_row others (row_of columns_other) some_other (sym (ap (λ (t : Table). t.rows) other_is) ∙ none))
same_numbers columns columns_other rows others one other one_is other_is some some_other (inr (inr same)) = sym (ap (λ (t : Table). t.columns) one_is) ∙ same ∙ ap (λ (t : Table). t.columns) other_is

pub apart_ascends : (laid columns : List Column) (alone rows : List Joined) (table : Table) → table ≡ table_seen columns rows → map (row_of laid) alone ≡ map (row_of columns) rows → Ascends table.rows → Ascends (map (row_of laid) alone)
apart_ascends laid columns alone rows table is same order = let P : List (List Value) → Type 0 = λ all. Ascends all in subst P (ap (λ (t : Table). t.rows) is ∙ sym same) order

-- what is shown

row_shown : (columns : List Column) (row : Joined) (places : List ℕ) → filter_map (seen_in columns row) places ≡ filter_map (seen_part (numbers columns) (row_of columns row)) places
row_shown columns row [] = refl
row_shown columns row (place ∷ places) = ap₂ (λ (o : Option Value) (rest : List Value). cons_option o rest) (sym (seen_is columns row place)) (row_shown columns row places)

columns_shown : (columns : List Column) (row : Joined) (places : List ℕ) → row_of (filter_map (λ place. column_of place columns) places) row ≡ filter_map (seen_in columns row) places
columns_shown columns row [] = refl
columns_shown columns row (place ∷ places) = with_first (column_of place columns) (columns_shown columns row places)
  where
    with_first : (found : Option Column) → row_of (filter_map (λ place. column_of place columns) places) row ≡ filter_map (seen_in columns row) places →
        row_of (cons_option found (filter_map (λ place. column_of place columns) places)) row ≡ cons_option (option_map (value_of row) found) (filter_map (seen_in columns row) places)
    with_first None rest = rest
    with_first (Some column) rest = ap (λ (values : List Value). value_of row column ∷ values) rest

pub all_columns_shown : (columns : List Column) (places : List ℕ) (rows : List Joined) → map (row_of (filter_map (λ place. column_of place columns) places)) rows ≡ map (λ row. filter_map (seen_in columns row) places) rows
all_columns_shown columns places [] = refl
all_columns_shown columns places (row ∷ rows) = ap₂ (λ (one : List Value) (rest : List (List Value)). one ∷ rest) (columns_shown columns row places) (all_columns_shown columns places rows)

pub rows_shown_is : (places : List ℕ) (columns : List Column) (rows : List Joined) → map (λ row. filter_map (seen_in columns row) places) rows ≡ shown places (numbers columns) (map (row_of columns) rows)
rows_shown_is places columns [] = refl
rows_shown_is places columns (row ∷ rows) = ap₂ (λ (one : List Value) (rest : List (List Value)). one ∷ rest) (row_shown columns row places) (rows_shown_is places columns rows)

firsts_are : (columns : List Column) (rows : List Joined) → columns ≡ laid_from 0 (numbers columns) → list_all (λ row. length row.first == length columns) rows ≡ true → map (row_of columns) rows ≡ map (λ row. row.first) rows
firsts_are columns [] laid wide = refl
firsts_are columns (row ∷ rows) laid wide =
    let each = both (length row.first == length columns) (list_all (λ row. length row.first == length columns) rows) wide in
    ap₂ (λ (one : List Value) (rest : List (List Value)). one ∷ rest)
    (ap (λ (l : List Column). row_of l row) laid ∙ whole_row (numbers columns) row (eqb-true (length row.first) (length columns) each.0 ∙ sym (length-map columns (λ column. column.number)))) (firsts_are columns rows laid each.1)

all_wide : (columns : List Column) (rows : List Joined) → list_all (λ row. length row == length (numbers columns)) (map (row_of columns) rows) ≡ true
all_wide columns [] = refl
all_wide columns (row ∷ rows) =
    let wide : length (row_of columns row) ≡ length (numbers columns) = length-map columns (value_of row) ∙ sym (length-map columns (λ column. column.number)) in
    let yes : (length (row_of columns row) == length (numbers columns)) ≡ true = grind (arith, nat_tests) in rw yes (all_wide columns rows)

pub firsts_shown : (places : List ℕ) (columns : List Column) (rows : List Joined) → columns ≡ laid_from 0 (numbers columns) → places ≡ numbers columns → AreOnce places → list_all (λ row. length row.first == length columns) rows ≡ true →
    map (λ row. row.first) rows ≡ shown places (numbers columns) (map (row_of columns) rows)
firsts_shown places columns rows laid same once wide =
    let P : List ℕ → Type 0 = AreOnce in
    sym (firsts_are columns rows laid wide) ∙ whole_shown places (numbers columns) (map (row_of columns) rows) same (subst P same once) (all_wide columns rows)
