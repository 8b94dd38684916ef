-- Proofs of the laws of JOINs.
use Rattle.std.proofs.Common.{◌≡◌, ℕ, zero, suc, ◌+◌, ◌<◌, ℤ, ◌<ℤ◌, Bool, true, false, cond, List, [], ◌∷◌, ◌++◌, length, map, take, drop, find, Option, Some, None, option_map, refl, ap, ap₂, sym, ◌∙◌, subst, arith}
use Rattle.std.specs.List.{AllByRecursion, cons_option, slice_get}
use Rattle.std.specs.Ordering.{int_eq}
use Rattle.terms.specs.declared.value.Value.{Value}
use Rattle.terms.specs.declared.value.Value.TheVariants.{Int, Text}
use Rattle.terms.specs.Row.{key_of}
use Rattle.meaning.specs.declared.statement.Join.{Join}
use Rattle.meaning.specs.Laws.{JoinsMayTurn, ReadsInOrder, UnmatchedIsDropped, turned}
use Rattle.meaning.specs.Relation.{Ascends}
use Rattle.meaning.specs.Selected.{joined, paired, partner, rows_joined}
use Rattle.meaning.specs.Whole.{Relations, rows_of}

pub unmatched_is_dropped : UnmatchedIsDropped
unmatched_is_dropped col others rows row none = ap (λ (o : Option (List Value)). cons_option (option_map (λ other. row ++ other) o) (joined col others rows)) none

-- a pair has the key of its first row
key_front : (row other : List Value) (value : Value) → key_of ((value ∷ row) ++ other) ≡ key_of (value ∷ row)
key_front row other (Int n) = refl
key_front row other (Text bytes) = refl

pair_key : (col : ℕ) (others : List (List Value)) (row made : List Value) → paired col others row ≡ Some made → key_of made ≡ key_of row
pair_key col others [] made is = absurd (cc)
pair_key col others (value ∷ row) made is = at (partner others (slice_get (value ∷ row) col)) is
  where
    at : (found : Option (List Value)) → option_map (λ other. (value ∷ row) ++ other) found ≡ Some made → key_of made ≡ key_of (value ∷ row)
    at None h = absurd (cc)
    at (Some other) h = let same : (value ∷ row) ++ other ≡ made = cc in ap key_of (sym same) ∙ key_front row other value

after_joined : (col : ℕ) (others : List (List Value)) (key : ℤ) (rows : List (List Value)) → AllByRecursion (λ later. key <ℤ key_of later) rows → AllByRecursion (λ later. key <ℤ key_of later) (joined col others rows)
after_joined col others key [] later = tt
after_joined col others key (row ∷ rows) later = step (paired col others row) refl (after_joined col others key rows later.1)
  where
    step : (made : Option (List Value)) → paired col others row ≡ made → AllByRecursion (λ l. key <ℤ key_of l) (joined col others rows) → AllByRecursion (λ l. key <ℤ key_of l) (cons_option made (joined col others rows))
    step None is more = more
    step (Some made) is more = (subst (λ k. key <ℤ k) (sym (pair_key col others row made is)) later.0, more)

joined_in_order : (col : ℕ) (others rows : List (List Value)) → Ascends rows → Ascends (joined col others rows)
joined_in_order col others [] order = tt
joined_in_order col others (row ∷ rows) order = step (paired col others row) refl (joined_in_order col others rows order.1)
  where
    step : (made : Option (List Value)) → paired col others row ≡ made → Ascends (joined col others rows) → Ascends (cons_option made (joined col others rows))
    step None is more = more
    step (Some made) is more =
        (subst (λ k. AllByRecursion (λ later. k <ℤ key_of later) (joined col others rows)) (sym (pair_key col others row made is)) (after_joined col others (key_of row) rows order.0), more)

all_in_order : (whole : Relations) (joins : List Join) (rows : List (List Value)) → Ascends rows → Ascends (rows_joined whole joins rows)
all_in_order whole [] rows order = order
all_in_order whole (join ∷ joins) rows order = all_in_order whole joins (joined join.col (rows_of whole join.relation.name) rows) (joined_in_order join.col (rows_of whole join.relation.name) rows order)

pub reads_in_order : ReadsInOrder
reads_in_order from joins whole order = all_in_order whole joins (rows_of whole from.name) order

-- a front of a list, and what stands behind it
get_front : (row other : List Value) (col : ℕ) → col < length row → slice_get (row ++ other) col ≡ slice_get row col
get_front [] other col within = absurd (omega (arith, within))
get_front (value ∷ row) other zero within = refl
get_front (value ∷ row) other (suc col) within = get_front row other col (omega (arith, within))

take_front : (row other : List Value) → take (length row) (row ++ other) ≡ row
take_front [] other = refl
take_front (value ∷ row) other = ap (λ rest. value ∷ rest) (take_front row other)

drop_front : (row other : List Value) → drop (length row) (row ++ other) ≡ other
drop_front [] other = refl
drop_front (value ∷ row) other = drop_front row other

drop_both : (row other last : List Value) → drop (length row + length other) ((row ++ other) ++ last) ≡ last
drop_both [] other last = let zero_is : 0 + length other ≡ length other = omega arith in ap (λ n. drop n (other ++ last)) zero_is ∙ drop_front other last
drop_both (value ∷ row) other last =
    let sum : suc (length row) + length other ≡ suc (length row + length other) = omega arith in
    ap (λ n. drop n (value ∷ ((row ++ other) ++ last))) sum ∙ drop_both row other last

more_front : (row other last : List Value) → (row ++ other) ++ last ≡ row ++ (other ++ last)
more_front [] other last = refl
more_front (value ∷ row) other last = ap (λ rest. value ∷ rest) (more_front row other last)

-- a row with partners on both sides, turned about
turned_pair : (width more : ℕ) (row one other : List Value) → length row ≡ width → length other ≡ more → (row ++ one) ++ other ≡ turned width more ((row ++ other) ++ one)
turned_pair width more row one other wide long =
    let whole = (row ++ other) ++ one in
    let split : whole ≡ row ++ (other ++ one) = more_front row other one in
    let front : take width whole ≡ row = ap₂ (λ (n : ℕ) (r : List Value). take n r) (sym wide) split ∙ take_front row (other ++ one) in
    let back : drop (width + more) whole ≡ one = ap₂ (λ (n m : ℕ). drop (n + m) whole) (sym wide) (sym long) ∙ drop_both row other one in
    let behind : drop width whole ≡ other ++ one = ap₂ (λ (n : ℕ) (r : List Value). drop n r) (sym wide) split ∙ drop_front row (other ++ one) in
    let middle : take more (drop width whole) ≡ other = ap₂ (λ (n : ℕ) (r : List Value). take n r) (sym long) behind ∙ take_front other one in
    more_front row one other ∙ sym (ap₂ (λ (r : List Value) (rest : List Value). r ++ rest) front (ap₂ (λ (a b : List Value). a ++ b) back middle))

found_step : (P : List Value → Type 0) (t : Bool) (first : List Value) (rest : Option (List Value)) (row : List Value) → P first → (rest ≡ Some row → P row) → cond t (Some first) rest ≡ Some row → P row
found_step P true first rest row here more is = let one : first ≡ row = cc in subst P one here
found_step P false first rest row here more is = more is

found_so : (P : List Value → Type 0) (test : List Value → Bool) (rows : List (List Value)) (row : List Value) → AllByRecursion P rows → find test rows ≡ Some row → P row
found_so P test [] row all is = absurd (cc)
found_so P test (first ∷ rows) row all is = found_step P (test first) first (find test rows) row all.0 (found_so P test rows row all.1) is

partner_so : (P : List Value → Type 0) (others : List (List Value)) (value : Option Value) (row : List Value) → AllByRecursion P others → partner others value ≡ Some row → P row
partner_so P others None row all is = absurd (cc)
partner_so P others (Some (Text bytes)) row all is = absurd (cc)
partner_so P others (Some (Int n)) row all is = found_so P (λ r. int_eq (key_of r) n) others row all is

-- one row, joined twice
abbrev twice : ℕ → List (List Value) → ℕ → List (List Value) → List Value → List (List Value) → List (List Value)
twice col others second_col second row rest = joined second_col second (cons_option (paired col others row) rest)

one_turned : (one other : ℕ) (ones others : List (List Value)) (width more : ℕ) (row : List Value) (rest rest_turned : List (List Value)) → length row ≡ width → AllByRecursion (λ r. length r ≡ more) others → one < width → other < width →
    joined other others rest ≡ map (turned width more) (joined one ones rest_turned) → twice one ones other others row rest ≡ map (turned width more) (twice other others one ones row rest_turned)
one_turned one other ones others width more row rest rest_turned wide long within within_other same = at (partner ones (slice_get row one)) (partner others (slice_get row other)) refl refl
  where
    inside : one < length row
    inside = omega (arith, within, wide)

    inside_other : other < length row
    inside_other = omega (arith, within_other, wide)

    beyond : (first : Option (List Value)) (value : List Value) → partner ones (slice_get row one) ≡ first → partner ones (slice_get (row ++ value) one) ≡ first
    beyond first value is = ap (partner ones) (get_front row value one inside) ∙ is

    beyond_other : (second : Option (List Value)) (value : List Value) → partner others (slice_get row other) ≡ second → partner others (slice_get (row ++ value) other) ≡ second
    beyond_other second value is = ap (partner others) (get_front row value other inside_other) ∙ is

    Left : Option (List Value) → List (List Value)
    Left first = joined other others (cons_option (option_map (λ x. row ++ x) first) rest)

    Right : Option (List Value) → List (List Value)
    Right second = map (turned width more) (joined one ones (cons_option (option_map (λ y. row ++ y) second) rest_turned))

    at : (first second : Option (List Value)) → partner ones (slice_get row one) ≡ first → partner others (slice_get row other) ≡ second → Left (partner ones (slice_get row one)) ≡ Right (partner others (slice_get row other))
    at None None is is_other = ap Left is ∙ same ∙ ap Right (sym is_other)
    at None (Some y) is is_other =
        ap Left is ∙ same
        ∙ sym (ap (λ (o : Option (List Value)). map (turned width more) (cons_option (option_map (λ x. (row ++ y) ++ x) o) (joined one ones rest_turned))) (beyond None y is))
        ∙ ap Right (sym is_other)
    at (Some x) None is is_other =
        ap Left is
        ∙ ap (λ (o : Option (List Value)). cons_option (option_map (λ y. (row ++ x) ++ y) o) (joined other others rest)) (beyond_other None x is_other)
        ∙ same ∙ ap Right (sym is_other)
    at (Some x) (Some y) is is_other =
        let there : length y ≡ more = partner_so (λ r. length r ≡ more) others (slice_get row other) y long is_other in
        ap Left is
        ∙ ap (λ (o : Option (List Value)). cons_option (option_map (λ z. (row ++ x) ++ z) o) (joined other others rest)) (beyond_other (Some y) x is_other)
        ∙ ap₂ (λ (r : List Value) (rs : List (List Value)). r ∷ rs) (turned_pair width more row x y wide there) same
        ∙ sym (ap (λ (o : Option (List Value)). map (turned width more) (cons_option (option_map (λ z. (row ++ y) ++ z) o) (joined one ones rest_turned))) (beyond (Some x) y is))
        ∙ ap Right (sym is_other)

all_turned : (one other : ℕ) (ones others : List (List Value)) (width more : ℕ) (rows : List (List Value)) → AllByRecursion (λ r. length r ≡ width) rows → AllByRecursion (λ r. length r ≡ more) others → one < width → other < width →
    joined other others (joined one ones rows) ≡ map (turned width more) (joined one ones (joined other others rows))
all_turned one other ones others width more [] wide long within within_other = refl
all_turned one other ones others width more (row ∷ rows) wide long within within_other =
    one_turned one other ones others width more row (joined one ones rows) (joined other others rows) wide.0 long within within_other (all_turned one other ones others width more rows wide.1 long within within_other)

pub joins_may_turn : JoinsMayTurn
joins_may_turn whole one other width count more rows wide long long_other within within_other =
    all_turned one.col other.col (rows_of whole one.relation.name) (rows_of whole other.relation.name) width more rows wide long_other within within_other
