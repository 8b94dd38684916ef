-- What rows show of their columns, when values are picked, put behind others, or counted on from a width.
use Rattle.std.proofs.Common.{◌≡◌, ℕ, suc, ◌+◌, ◌-◌, Bool, true, false, cond, not, ◌||◌, ◌==◌, List, [], ◌∷◌, ◌++◌, length, filter, Option, Some, None, option_map, option_and_then, nat_lt, refl, ap, sym, ◌∙◌, arith}
use Rattle.std.specs.List.{slice_get}
use Rattle.std.specs.Option.{option_or}
use Rattle.std.proofs.Math.Path.{fun_ext}
use Rattle.std.proofs.lemmas.Bool.Decides.{nat_tests}
use Rattle.std.proofs.lemmas.List.{append-nil}
use Rattle.terms.specs.declared.value.Value.{Value}
use Rattle.terms.specs.declared.value.Value.TheVariants.{Int, Text}
use Rattle.terms.specs.Row.{key_of}
use Rattle.catalog.specs.Counts.{has}
use Rattle.plan.specs.Fetch.{place_in}
use Rattle.plan.specs.Rows.{is_seen, merged, restricted, seen_part, shifted}
use Rattle.plan.specs.Uniform.{beside, past}
use Rattle.answers.specs.Evaluated.{pair, picked}

later : (place : Option ℕ) (value : Value) (values : List Value) → option_and_then (slice_get (value ∷ values)) (option_map suc place) ≡ option_and_then (slice_get values) place
later None value values = refl
later (Some place) value values = refl

-- the first column shows the first value
pub seen_step : (first : ℕ) (columns : List ℕ) (value : Value) (values : List Value) (col : ℕ) → seen_part (first ∷ columns) (value ∷ values) col ≡ cond (first == col) (Some value) (seen_part columns values col)
seen_step first columns value values col =
    elim (first == col) as (λ t. option_and_then (slice_get (value ∷ values)) (cond t (Some 0) (option_map suc (place_in col columns))) ≡ cond t (Some value) (seen_part columns values col)) [
      | true ↦ refl
      | false ↦ later (place_in col columns) value values
    ]

nothing_at : (values : List Value) (place : Option ℕ) → values ≡ [] → option_and_then (slice_get values) place ≡ None
nothing_at values None none = refl
nothing_at values (Some place) none = ap (λ (all : List Value). slice_get all place) none

-- no value shows nothing
pub nothing_seen : (columns : List ℕ) (col : ℕ) → seen_part columns [] col ≡ None
nothing_seen columns col = nothing_at [] (place_in col columns) refl

pub never : {A : Type 0} (t : Bool) → ◌≡◌ {A = Option A} None (cond t None None)
never true = refl
never false = refl

pub taken : {A : Type 0} (t p : Bool) (value rest : Option A) → (t ≡ true → p ≡ true) → cond t value (cond p rest None) ≡ cond p (cond t value rest) None
taken true p value rest is = let h : p ≡ true = is refl in rw h refl
taken false p value rest is = refl

pub passed_by : {A : Type 0} (t p : Bool) (value rest : Option A) → (t ≡ true → p ≡ false) → cond p rest None ≡ cond p (cond t value rest) None
passed_by true p value rest is = let h : p ≡ false = is refl in rw h refl
passed_by false p value rest is = refl

alike : (passes : ℕ → Bool) (first col : ℕ) (p : Bool) → passes first ≡ p → (first == col) ≡ true → passes col ≡ p
alike passes first col p is same = let one : first ≡ col = grind (arith, nat_tests) in ap passes (sym one) ∙ is

-- what is picked shows the columns that pass
pub picked_seen : (passes : ℕ → Bool) (columns : List ℕ) (values : List Value) (col : ℕ) → seen_part (filter passes columns) (picked passes columns values) col ≡ cond (passes col) (seen_part columns values col) None
picked_seen passes [] values col = never (passes col)
picked_seen passes (first ∷ columns) [] col =
    nothing_seen (filter passes (first ∷ columns)) col ∙ never (passes col) ∙ ap (λ (o : Option Value). cond (passes col) o None) (sym (nothing_seen (first ∷ columns) col))
picked_seen passes (first ∷ columns) (value ∷ values) col =
    let rest = picked_seen passes columns values col in
    elim (passes first) as (λ p. passes first ≡ p →
    seen_part (cond p (first ∷ filter passes columns) (filter passes columns)) (cond p (value ∷ picked passes columns values) (picked passes columns values)) col
    ≡ cond (passes col) (seen_part (first ∷ columns) (value ∷ values) col) None) [
      | true ↦ λ is.
          seen_step first (filter passes columns) value (picked passes columns values) col
          ∙ ap (λ (o : Option Value). cond (first == col) (Some value) o) rest
          ∙ taken (first == col) (passes col) (Some value) (seen_part columns values col) (alike passes first col true is)
          ∙ ap (λ (o : Option Value). cond (passes col) o None) (sym (seen_step first columns value values col))
      | false ↦ λ is.
          rest ∙ passed_by (first == col) (passes col) (Some value) (seen_part columns values col) (alike passes first col false is)
          ∙ ap (λ (o : Option Value). cond (passes col) o None) (sym (seen_step first columns value values col))
    ] refl

pub cut_seen : (wanted columns : List ℕ) (values : List Value) → seen_part (filter (is_seen wanted) columns) (picked (is_seen wanted) columns values) ≡ restricted wanted (seen_part columns values)
cut_seen wanted columns values = fun_ext (λ col. picked_seen (is_seen wanted) columns values col)

or_inside : (t : Bool) (value : Value) (one other : Option Value) → cond t (Some value) (option_or one other) ≡ option_or (cond t (Some value) one) other
or_inside true value one other = refl
or_inside false value one other = refl

-- values behind others show what these don't
pub behind_seen : (columns more : List ℕ) (row rest : List Value) (col : ℕ) → length row ≡ length columns → seen_part (columns ++ more) (row ++ rest) col ≡ option_or (seen_part columns row col) (seen_part more rest col)
behind_seen [] more [] rest col wide = refl
behind_seen [] more (value ∷ row) rest col wide = absurd (omega (arith, wide))
behind_seen (first ∷ columns) more [] rest col wide = absurd (omega (arith, wide))
behind_seen (first ∷ columns) more (value ∷ row) rest col wide =
    seen_step first (columns ++ more) value (row ++ rest) col
    ∙ ap (λ (o : Option Value). cond (first == col) (Some value) o) (behind_seen columns more row rest col (omega (arith, wide)))
    ∙ or_inside (first == col) value (seen_part columns row col) (seen_part more rest col)
    ∙ ap (λ (o : Option Value). option_or o (seen_part more rest col)) (sym (seen_step first columns value row col))

has_step : (t rest : Bool) (value : Value) (o other : Option Value) → (rest ≡ true → option_or o other ≡ o) → (t || rest) ≡ true → option_or (cond t (Some value) o) other ≡ cond t (Some value) o
has_step true rest value o other more h = refl
has_step false rest value o other more h = more h

-- a column that is there is seen, whatever else shows it
has_seen : (columns : List ℕ) (row : List Value) (col : ℕ) (other : Option Value) → length row ≡ length columns → has columns col ≡ true → option_or (seen_part columns row col) other ≡ seen_part columns row col
has_seen [] row col other wide h = absurd (cc)
has_seen (first ∷ columns) [] col other wide h = absurd (omega (arith, wide))
has_seen (first ∷ columns) (value ∷ row) col other wide h =
    let step = seen_step first columns value row col in
    ap (λ (o : Option Value). option_or o other) step
    ∙ has_step (first == col) (has columns col) value (seen_part columns row col) other (has_seen columns row col other (omega (arith, wide))) h ∙ sym step

pub or_none : {A : Type 0} (o : Option A) → option_or o None ≡ o
or_none None = refl
or_none (Some value) = refl

only_new : (columns : List ℕ) (row : List Value) (col : ℕ) (other : Option Value) → length row ≡ length columns → option_or (seen_part columns row col) (cond (not (has columns col)) other None) ≡ option_or (seen_part columns row col) other
only_new columns row col other wide =
    elim (has columns col) as (λ h. has columns col ≡ h → option_or (seen_part columns row col) (cond (not h) other None) ≡ option_or (seen_part columns row col) other) [
      | true ↦ λ is. or_none (seen_part columns row col) ∙ sym (has_seen columns row col other wide is)
      | false ↦ λ is. refl
    ] refl

-- two rows put together show what either does
pub pair_seen : (columns others : List ℕ) (row other : List Value) → length row ≡ length columns → seen_part (beside columns others) (pair columns others row other) ≡ merged (seen_part columns row) (seen_part others other)
pair_seen columns others row other wide =
    fun_ext (λ col.
    behind_seen columns (filter (λ c. not (has columns c)) others) row (picked (λ c. not (has columns c)) others other) col wide
    ∙ ap (λ (o : Option Value). option_or (seen_part columns row col) o) (picked_seen (λ c. not (has columns c)) others other col)
    ∙ only_new columns row col (seen_part others other col) wide)

past_step : (s l t : Bool) (value : Value) (rest : Option Value) → (l ≡ true → s ≡ false) → (l ≡ false → s ≡ t) → cond s (Some value) (cond l None rest) ≡ cond l None (cond t (Some value) rest)
past_step s true t value rest below from = let h : s ≡ false = below refl in rw h refl
past_step s false t value rest below from = let h : s ≡ t = from refl in rw h refl

is_below : (width first col : ℕ) → nat_lt col width ≡ true → (width + first == col) ≡ false
is_below width first col h = grind (arith, nat_tests)

is_past : (width first col : ℕ) → nat_lt col width ≡ false → (width + first == col) ≡ (first == col - width)
is_past width first col h =
    elim (first == col - width) as (λ t. (first == col - width) ≡ t → (width + first == col) ≡ t) [
      | true ↦ λ is. grind (arith, nat_tests)
      | false ↦ λ is. grind (arith, nat_tests)
    ] refl

past_at : (width : ℕ) (columns : List ℕ) (values : List Value) (col : ℕ) → seen_part (past width columns) values col ≡ cond (nat_lt col width) None (seen_part columns values (col - width))
past_at width [] values col = never (nat_lt col width)
past_at width (first ∷ columns) [] col =
    nothing_seen (past width (first ∷ columns)) col ∙ never (nat_lt col width) ∙ ap (λ (o : Option Value). cond (nat_lt col width) None o) (sym (nothing_seen (first ∷ columns) (col - width)))
past_at width (first ∷ columns) (value ∷ values) col =
    seen_step (width + first) (past width columns) value values col
    ∙ ap (λ (o : Option Value). cond (width + first == col) (Some value) o) (past_at width columns values col)
    ∙ past_step (width + first == col) (nat_lt col width) (first == col - width) value (seen_part columns values (col - width)) (is_below width first col) (is_past width first col)
    ∙ ap (λ (o : Option Value). cond (nat_lt col width) None o) (sym (seen_step first columns value values (col - width)))

-- columns counted on from a width show what they did
pub past_seen : (width : ℕ) (columns : List ℕ) (values : List Value) → seen_part (past width columns) values ≡ shifted width (seen_part columns values)
past_seen width columns values = fun_ext (λ col. past_at width columns values col)

-- as many values are picked as columns pass
pub picked_wide : (passes : ℕ → Bool) (columns : List ℕ) (values : List Value) → length values ≡ length columns → length (picked passes columns values) ≡ length (filter passes columns)
picked_wide passes [] values wide = refl
picked_wide passes (first ∷ columns) [] wide = absurd (omega (arith, wide))
picked_wide passes (first ∷ columns) (value ∷ values) wide =
    let rest = picked_wide passes columns values (omega (arith, wide)) in
    elim (passes first) as (λ p. length (cond p (value ∷ picked passes columns values) (picked passes columns values)) ≡ length (cond p (first ∷ filter passes columns) (filter passes columns))) [
      | true ↦ ap suc rest
      | false ↦ rest
    ]

-- the first column is the key's, and stays

pub key_first : (value : Value) (values others : List Value) → key_of (value ∷ values) ≡ key_of (value ∷ others)
key_first (Int n) values others = refl
key_first (Text bytes) values others = refl

key_seen : (wanted : List ℕ) (col : ℕ) → col ≡ 0 → is_seen wanted col ≡ true
key_seen wanted col is = let h : (col == 0) ≡ true = grind (arith, nat_tests) in rw h refl

pub cut_key : (wanted columns : List ℕ) (values : List Value) → slice_get columns 0 ≡ Some 0 → key_of (picked (is_seen wanted) columns values) ≡ key_of values
cut_key wanted [] values first = absurd (cc)
cut_key wanted (col ∷ columns) [] first = refl
cut_key wanted (col ∷ columns) (value ∷ values) first =
    let zero_is : col ≡ 0 = cc in
    rw (key_seen wanted col zero_is) (key_first value (picked (is_seen wanted) columns values) values)

pub cut_first : (wanted columns : List ℕ) → slice_get columns 0 ≡ Some 0 → slice_get (filter (is_seen wanted) columns) 0 ≡ Some 0
cut_first wanted [] first = absurd (cc)
cut_first wanted (col ∷ columns) first =
    let zero_is : col ≡ 0 = cc in
    rw (key_seen wanted col zero_is) first

pub pair_key : (columns others : List ℕ) (row other : List Value) → slice_get columns 0 ≡ Some 0 → length row ≡ length columns → key_of (pair columns others row other) ≡ key_of row
pair_key [] others row other first wide = absurd (cc)
pair_key (col ∷ columns) others [] other first wide = absurd (omega (arith, wide))
pair_key (col ∷ columns) others (value ∷ row) other first wide = key_first value (row ++ picked (λ c. not (has (col ∷ columns) c)) others other) row

pub beside_first : (columns others : List ℕ) → slice_get columns 0 ≡ Some 0 → slice_get (beside columns others) 0 ≡ Some 0
beside_first [] others first = absurd (cc)
beside_first (col ∷ columns) others first = first

-- what is picked of no values, behind others
pub picked_done : (passes : ℕ → Bool) (columns : List ℕ) (front rest all : List Value) → rest ≡ [] → front ++ picked passes columns rest ≡ all → front ≡ all
picked_done passes columns front rest all none is =
    sym (append-nil front) ∙ ap (λ (more : List Value). front ++ more) (sym (ap (picked passes columns) none ∙ nothing_picked columns)) ∙ is
  where
    nothing_picked : (cs : List ℕ) → picked passes cs [] ≡ []
    nothing_picked [] = refl
    nothing_picked (c ∷ cs) = refl

pub no_length : {A : Type 0} (items : List A) → length items ≡ 0 → items ≡ []
no_length [] none = refl
no_length (item ∷ items) none = absurd (omega (arith, none))
