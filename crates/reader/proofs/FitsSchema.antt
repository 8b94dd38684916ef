-- What a text means fits the schema: tokens, constants, columns and conditions.
use Rattle.std.proofs.Common.{◌≡◌, ℕ, zero, suc, ℤ, pos, neg_ℤ, ◌+◌, ◌<◌, ◌≤◌, ◌≤ℤ◌, ◌^◌, ◌-◌, Bool, true, false, List, [], ◌∷◌, Option, Some, option_map, length, nat_le, refl, ap, sym, subst, ◌∙◌, arith, FitsSigned}
use Rattle.std.specs.Int.{w64}
use Rattle.std.specs.List.{AllByRecursion, range_with_len}
use Rattle.std.proofs.lemmas.Bool.{leb-true}
use Rattle.std.proofs.lemmas.Int.{ints}
use Rattle.std.proofs.lemmas.List.FromFn.{length-range_with_len}
use Rattle.std.proofs.lemmas.Option.{slice_get_within}
use Rattle.terms.specs.declared.cond.Cond.{Cond}
use Rattle.terms.specs.declared.value.Kind.{Kind}
use Rattle.terms.specs.declared.value.Kind.TheVariants as kinds
use Rattle.terms.specs.declared.value.Value.{Value}
use Rattle.terms.specs.declared.value.Value.TheVariants as values
use Rattle.terms.specs.Cond.{IsCondOf, FitsConstant}
use Rattle.terms.specs.Row.{FitsKinds}
use Rattle.terms.specs.Text.{IsTextUpTo}
use Rattle.terms.specs.Value.{Fits, kind_of}
use Rattle.reader.specs.declared.keyword.Keyword.TheVariants as word
use Rattle.reader.specs.declared.scope.Found.{Found}
use Rattle.reader.specs.Grammar.{continued, separated, constant_text, column_text, comparison_sign, condition_text, conditions_text, where_text}
use Rattle.reader.specs.Names.{all_of, signed, greatest, integer_of, value_of, compared_of, number_of, place_in, places_of, cond_on, cond_of, conds_of, row_of}
use Rattle.reader.specs.Scope.{Scope, types_in, found_in}
use Rattle.reader.specs.Symbol.{Symbol, key, sign, name, number, text}
use Rattle.reader.specs.Tokens.{AreTokens, Spells, IsTextValue}
use Rattle.reader.specs.Tree as tree
use Rattle.reader.proofs.Chains.{chosen, first_step, mapped_step}
use Rattle.reader.proofs.Fits.{both_parts, fits_text}
use Rattle.reader.proofs.Places.{there_in}

-- a token's text is one that a text can say
abbrev pub IsSound : Symbol → Type 0
IsSound (key word) = Unit {0}
IsSound (sign mark) = Unit {0}
IsSound (name bytes) = Unit {0}
IsSound (number magnitude) = Unit {0}
IsSound (text bytes) = IsTextValue bytes

sound : (bytes : List ℕ) (t : Symbol) → Spells bytes t → IsSound t
sound bytes (key word) spells = tt
sound bytes (sign mark) spells = tt
sound bytes (name letters) spells = tt
sound bytes (number magnitude) spells = tt
sound bytes (text value) spells = spells.1

pub all_sound : (bytes : List ℕ) (ts : List Symbol) → AreTokens bytes ts → AllByRecursion IsSound ts
all_sound bytes [] are = tt
all_sound bytes (t ∷ ts) are = (sound are.5.lexeme t are.5.spells, all_sound are.2 ts are.6)

-- a constant whose text is one that a text can say
abbrev pub IsSoundConstant : tree.Constant → Type 0
IsSoundConstant (tree.integer is_negative magnitude) = Unit {0}
IsSoundConstant (tree.text bytes) = IsTextValue bytes

pub sound_constant : (constant : tree.Constant) → AllByRecursion IsSound (constant_text constant) → IsSoundConstant constant
sound_constant (tree.integer is_negative magnitude) all = tt
sound_constant (tree.text bytes) all = all.0

-- items that sound tokens write, one by one
sound_continued : {A : Type 0} (write : A → List Symbol) (separator : Symbol) (P : A → Type 0) → ((x : A) → AllByRecursion IsSound (write x) → P x) → (xs : List A) → AllByRecursion IsSound (continued write separator xs) → AllByRecursion P xs
sound_continued write separator P each [] all = tt
sound_continued write separator P each (x ∷ xs) all =
    let parts = both_parts IsSound (write x) (continued write separator xs) all.1 in
    (each x parts.0, sound_continued write separator P each xs parts.1)

pub sound_separated : {A : Type 0} (write : A → List Symbol) (separator : Symbol) (P : A → Type 0) → ((x : A) → AllByRecursion IsSound (write x) → P x) → (xs : List A) → AllByRecursion IsSound (separated write separator xs) → AllByRecursion P xs
sound_separated write separator P each [] all = tt
sound_separated write separator P each (x ∷ xs) all =
    let parts = both_parts IsSound (write x) (continued write separator xs) all in
    (each x parts.0, sound_continued write separator P each xs parts.1)

-- a condition whose constant is one that a text can say
abbrev pub IsSoundCondition : tree.Condition → Type 0
IsSoundCondition condition = IsSoundConstant condition.constant

sound_condition : (condition : tree.Condition) → AllByRecursion IsSound (condition_text condition) → IsSoundCondition condition
sound_condition condition all =
    let parts = both_parts IsSound (column_text condition.column) (sign (comparison_sign condition.comparison) ∷ constant_text condition.constant) all in
    sound_constant condition.constant parts.1.1

pub sound_conditions : (conditions : List tree.Condition) → AllByRecursion IsSound (conditions_text conditions) → AllByRecursion IsSoundCondition conditions
sound_conditions conditions all = sound_separated condition_text (key word.And) IsSoundCondition sound_condition conditions all

pub sound_where : (conditions : List tree.Condition) → AllByRecursion IsSound (where_text conditions) → AllByRecursion IsSoundCondition conditions
sound_where [] all = tt
sound_where (condition ∷ conditions) all = sound_conditions (condition ∷ conditions) all.1

-- ---- constants

-- an integer within its bound fits 64 bits
fits_negative : (magnitude : ℕ) → magnitude ≤ 2 ^ 63 → FitsSigned w64 (neg_ℤ (pos magnitude))
fits_negative magnitude small = omega (arith, ints)

fits_positive : (magnitude : ℕ) → magnitude ≤ 2 ^ 63 - 1 → FitsSigned w64 (pos magnitude)
fits_positive magnitude small = omega (arith, ints)

bounded : (is_negative : Bool) (magnitude : ℕ) → nat_le magnitude (greatest is_negative) ≡ true → FitsSigned w64 (signed is_negative magnitude)
bounded true magnitude small = fits_negative magnitude (leb-true magnitude (2 ^ 63) small)
bounded false magnitude small = fits_positive magnitude (leb-true magnitude (2 ^ 63 - 1) small)

-- a value that fits its column
abbrev pub FitsColumn : Kind → Value → Type 0
FitsColumn kind value = (kind_of value ≡ kind) × Fits value

integer_fits : (is_negative : Bool) (magnitude : ℕ) (value : Value) → integer_of is_negative magnitude ≡ Some value → FitsColumn kinds.Int value × FitsConstant value
integer_fits is_negative magnitude value is =
    let one = chosen (nat_le magnitude (greatest is_negative)) (Some (values.Int (signed is_negative magnitude))) value is in
    let same : values.Int (signed is_negative magnitude) ≡ value = cc one.1 in
    let P : Value → Type 0 = λ v. FitsColumn kinds.Int v × FitsConstant v in
    subst P same ((refl, bounded is_negative magnitude one.0), bounded is_negative magnitude one.0)

pub value_fits : (kind : Kind) (constant : tree.Constant) (value : Value) → IsSoundConstant constant → value_of kind constant ≡ Some value → FitsColumn kind value
value_fits kinds.Int (tree.integer is_negative magnitude) value is_sound is = (integer_fits is_negative magnitude value is).0
value_fits kinds.Int (tree.text bytes) value is_sound is = cc
value_fits kinds.Text (tree.integer is_negative magnitude) value is_sound is = cc
value_fits kinds.Text (tree.text bytes) value is_sound is =
    let P : Value → Type 0 = FitsColumn kinds.Text in
    let same : values.Text bytes ≡ value = cc in
    subst P same (refl, fits_text bytes is_sound)

shorter_text : (bytes : List ℕ) → IsTextUpTo 200 bytes → length bytes ≤ 100 → IsTextUpTo 100 bytes
shorter_text bytes is short = record { short = short; utf8 = is.utf8; printable = is.printable }

compared_fits : (kind : Kind) (constant : tree.Constant) (value : Value) → IsSoundConstant constant → compared_of kind constant ≡ Some value → (kind_of value ≡ kind) × FitsConstant value
compared_fits kinds.Int (tree.integer is_negative magnitude) value is_sound is =
    let fits = integer_fits is_negative magnitude value is in (fits.0.0, fits.1)
compared_fits kinds.Int (tree.text bytes) value is_sound is = cc
compared_fits kinds.Text (tree.integer is_negative magnitude) value is_sound is = cc
compared_fits kinds.Text (tree.text bytes) value is_sound is =
    let one = chosen (nat_le (length bytes) 100) (Some (values.Text bytes)) value is in
    let same : values.Text bytes ≡ value = cc one.1 in
    let P : Value → Type 0 = λ v. (kind_of v ≡ kinds.Text) × FitsConstant v in
    subst P same (refl, shorter_text bytes (fits_text bytes is_sound) (leb-true (length bytes) 100 one.0))

-- the number of a sum is within the same bound on both sides
signed_within : (is_negative : Bool) (magnitude : ℕ) → magnitude ≤ 2 ^ 63 - 1 → (neg_ℤ (pos 9223372036854775807) ≤ℤ signed is_negative magnitude) × (signed is_negative magnitude ≤ℤ pos 9223372036854775807)
signed_within true magnitude small = (omega (arith, ints), omega (arith, ints))
signed_within false magnitude small = (omega (arith, ints), omega (arith, ints))

pub number_within : (is_negative : Bool) (magnitude : ℕ) (n : ℤ) → number_of is_negative magnitude ≡ Some n → (neg_ℤ (pos 9223372036854775807) ≤ℤ n) × (n ≤ℤ pos 9223372036854775807)
number_within is_negative magnitude n is =
    let one = chosen (nat_le magnitude (2 ^ 63 - 1)) (Some (signed is_negative magnitude)) n is in
    let same : signed is_negative magnitude ≡ n = cc one.1 in
    let P : ℤ → Type 0 = λ m. (neg_ℤ (pos 9223372036854775807) ≤ℤ m) × (m ≤ℤ pos 9223372036854775807) in
    subst P same (signed_within is_negative magnitude (leb-true magnitude (2 ^ 63 - 1) one.0))

-- the row of an INSERT fits its relation
pub row_fits : (kinds : List Kind) (constants : List tree.Constant) (row : List Value) → AllByRecursion IsSoundConstant constants → row_of kinds constants ≡ Some row → FitsKinds kinds row
row_fits [] [] row all is = let P : List Value → Type 0 = FitsKinds [] in let same : [] ≡ row = cc in subst P same tt
row_fits [] (constant ∷ constants) row all is = cc
row_fits (kind ∷ kinds) [] row all is = cc
row_fits (kind ∷ kinds) (constant ∷ constants) row all is =
    let value = first_step (λ v. option_map (λ rest. v ∷ rest) (row_of kinds constants)) (value_of kind constant) row is in
    let rest = mapped_step (λ rest. value.0 ∷ rest) (row_of kinds constants) row value.2 in
    let fits = value_fits kind constant value.0 all.0 value.1 in
    let P : List Value → Type 0 = FitsKinds (kind ∷ kinds) in
    subst P rest.2 (fits.0, fits.1, row_fits kinds constants rest.0 all.1 rest.1)

-- ---- columns and conditions

-- answers of each item
pub all_answers : {A B : Type 0} (answer : A → Option B) (Sound : A → Type 0) (P : B → Type 0) → ((x : A) (y : B) → Sound x → answer x ≡ Some y → P y) → (xs : List A) (ys : List B) → AllByRecursion Sound xs → all_of answer xs ≡ Some ys → AllByRecursion P ys × (length ys ≡ length xs)
all_answers {A} {B} answer Sound P each [] ys all is =
    let Q : List B → Type 0 = λ zs. AllByRecursion P zs × (length zs ≡ 0) in
    let same : [] ≡ ys = cc in
    subst Q same (tt, refl)
all_answers {A} {B} answer Sound P each (x ∷ xs) ys all is =
    let first = first_step (λ y. option_map (λ rest. y ∷ rest) (all_of answer xs)) (answer x) ys is in
    let rest = mapped_step (λ rest. first.0 ∷ rest) (all_of answer xs) ys first.2 in
    let others = all_answers answer Sound P each xs rest.0 all.1 rest.1 in
    let Q : List B → Type 0 = λ zs. AllByRecursion P zs × (length zs ≡ suc (length xs)) in
    subst Q rest.2 ((each x first.0 all.0 first.1, others.0), ap suc others.1)

-- nothing is asked of these items
pub any_items : {A : Type 0} (xs : List A) → AllByRecursion (λ x. Unit {0}) xs
any_items [] = tt
any_items (x ∷ xs) = (tt, any_items xs)

-- a column's place is within its scope
place_within : (scope : Scope) (column : tree.Column) (place : ℕ) → place_in scope column ≡ Some place → place < length (types_in scope)
place_within scope column place is =
    let one = mapped_step (λ (f : Found). f.place) (found_in scope column) place is in
    let P : ℕ → Type 0 = λ n. n < length (types_in scope) in
    subst P one.2 (slice_get_within (types_in scope) one.0.place one.0.kind (there_in scope column one.0 one.1))

numbers_below : (a n limit : ℕ) → a + n ≤ limit → AllByRecursion (λ column. column < limit) (range_with_len a n)
numbers_below a zero limit within = tt
numbers_below a (suc n) limit within = (omega arith, numbers_below (a + 1) n limit (omega arith))

-- the listed places are within the scope, and at most 32
pub places_fit : (scope : Scope) (listed : tree.Listed) (places : List ℕ) → places_of scope listed ≡ Some places → AllByRecursion (λ column. column < length (types_in scope)) places × (length places ≤ 32)
places_fit scope tree.all places is =
    let one = chosen (nat_le (length (types_in scope)) 32) (Some (range_with_len 0 (length (types_in scope)))) places is in
    let few = leb-true (length (types_in scope)) 32 one.0 in
    let same : range_with_len 0 (length (types_in scope)) ≡ places = cc one.1 in
    let P : List ℕ → Type 0 = λ ps. AllByRecursion (λ column. column < length (types_in scope)) ps × (length ps ≤ 32) in
    subst P same (numbers_below 0 (length (types_in scope)) (length (types_in scope)) (omega arith), rw length-range_with_len few)
places_fit scope (tree.columns columns) places is =
    let one = chosen (nat_le (length columns) 32) (all_of (place_in scope) columns) places is in
    let few = leb-true (length columns) 32 one.0 in
    let answers = all_answers (place_in scope) (λ column. Unit {0}) (λ place. place < length (types_in scope)) (λ column place any. place_within scope column place) columns places (any_items columns) one.1 in
    (answers.0, rw answers.1 few)

-- a condition fits its scope
cond_fits : (scope : Scope) (condition : tree.Condition) (c : Cond) → IsSoundCondition condition → cond_of scope condition ≡ Some c → IsCondOf (types_in scope) c
cond_fits scope condition c is_sound is =
    let found = first_step (λ (f : Found). cond_on f condition) (found_in scope condition.column) c is in
    let value = mapped_step (λ (v : Value). record { col = found.0.place; cmp = condition.comparison; value = v }) (compared_of found.0.kind condition.constant) c found.2 in
    let fits = compared_fits found.0.kind condition.constant value.0 is_sound value.1 in
    let P : Cond → Type 0 = IsCondOf (types_in scope) in
    subst P value.2 (record { column = there_in scope condition.column found.0 found.1 ∙ ap Some (sym fits.0); constant = fits.1 })

-- conditions fit their scope, and are at most 8
pub conds_fit : (scope : Scope) (conditions : List tree.Condition) (conds : List Cond) → AllByRecursion IsSoundCondition conditions → conds_of scope conditions ≡ Some conds → AllByRecursion (IsCondOf (types_in scope)) conds × (length conds ≤ 8)
conds_fit scope conditions conds are_sound is =
    let one = chosen (nat_le (length conditions) 8) (all_of (cond_of scope) conditions) conds is in
    let few = leb-true (length conditions) 8 one.0 in
    let answers = all_answers (cond_of scope) IsSoundCondition (IsCondOf (types_in scope)) (cond_fits scope) conditions conds are_sound one.1 in
    (answers.0, rw answers.1 few)
