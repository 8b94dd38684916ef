-- The columns, constants and conditions of a printable statement are spellable.
use Rattle.std.proofs.Common.{◌≡◌, ℕ, ℤ, pos, negsuc, neg_ℤ, ◌<◌, ◌≤◌, ◌≤ℤ◌, ◌-◌, false, List, [], ◌∷◌, ◌++◌, Some, length, map, get_or, nat_lt, inl, inr, refl, ap, sym, subst, ◌∙◌, arith, FitsSigned}
use Rattle.std.specs.Char.{is_ascii_control}
use Rattle.std.specs.Int.{w64}
use Rattle.std.specs.List.{AllByRecursion, slice_get}
use Rattle.std.specs.Str.{chars}
use Rattle.std.proofs.Math.Utf8.{encode, encodes}
use Rattle.std.proofs.lemmas.Bool.{cases_lt, lt-ltb, le-ltb}
use Rattle.std.proofs.lemmas.Bool.Decides.{nat_tests}
use Rattle.std.proofs.lemmas.Int.{ints}
use Rattle.std.proofs.lemmas.List.{append-nil, length-map}
use Rattle.std.proofs.lemmas.List.Elements.{All-from_get_or, recursion_from_All}
use Rattle.std.proofs.lemmas.Str.{encodes-chars, inside_one}
use Rattle.terms.specs.declared.cond.Cond.{Cond}
use Rattle.terms.specs.declared.value.Kind.{Kind}
use Rattle.terms.specs.declared.value.Kind.TheVariants as kinds
use Rattle.terms.specs.declared.value.Value.{Value}
use Rattle.terms.specs.declared.value.Value.TheVariants as values
use Rattle.terms.specs.Cond.{IsCondOf, FitsConstant}
use Rattle.terms.specs.Row.{FitsKinds}
use Rattle.terms.specs.Text.{IsPrintable, IsTextUpTo}
use Rattle.terms.specs.Value.{Fits, kind_of}
use Rattle.meaning.specs.declared.schema.Column as schema
use Rattle.meaning.specs.declared.schema.RelationSchema.{RelationSchema}
use Rattle.meaning.specs.declared.statement.Assigned.{Assigned}
use Rattle.meaning.specs.declared.statement.Assigned.TheVariants as assigned
use Rattle.meaning.specs.declared.statement.Assignment.{Assignment}
use Rattle.meaning.specs.declared.statement.Source.{Source}
use Rattle.meaning.specs.declared.statement.Join.{Join}
use Rattle.meaning.specs.Schema.{kinds_of, names_of}
use Rattle.meaning.specs.Statement.{AreJoinsOf, IsAssignable, IsAssignmentOf}
use Rattle.reader.specs.Names.{source_of}
use Rattle.reader.specs.Printable.{IsNamed, AreNamed}
use Rattle.reader.specs.Scope.{Scope, types, types_in, one_relation, columns_alone}
use Rattle.reader.specs.Tokens.{IsName, IsTextValue}
use Rattle.reader.specs.Tree as tree
use Rattle.reader.specs.Written.{or_nothing, name_in, plain_column, qualified_column, column_of_joined, column_in, join_as, constant_as, condition_as, conditions_as, assigned_as, assignment_as}
use Rattle.reader.proofs.FitsCommand.{found_by_name}
use Rattle.reader.proofs.Places.{slice_get-front, slice_get-within_front, slice_get-behind}
use Rattle.reader.proofs.ResolvedColumns.{passed, not_passed, all_at, there_at, name_there}
use Rattle.reader.proofs.ResolvedJoins.{AreSources, tables, join_source, are_types, relation_is_named}
use Rattle.reader.proofs.Spellable.{IsColumn, IsConstant, IsCondition, IsJoin, IsAssigned, IsAssignment}

-- each item as it is written
pub all_mapped : {A B : Type 0} (write : A → B) (P : A → Type 0) (Q : B → Type 0) → ((x : A) → P x → Q (write x)) → (xs : List A) → AllByRecursion P xs → AllByRecursion Q (map write xs)
all_mapped write P Q each [] all = tt
all_mapped write P Q each (x ∷ xs) all = (each x all.0, all_mapped write P Q each xs all.1)

-- ---- texts

all_of_both : {A : Type 0} (P : A → Type 0) (xs ys : List A) → AllByRecursion P xs → AllByRecursion P ys → AllByRecursion P (xs ++ ys)
all_of_both P [] ys front behind = behind
all_of_both P (x ∷ xs) ys front behind = (front.0, all_of_both P xs ys front.1 behind)

no_control : (c : ℕ) → IsPrintable c → is_ascii_control c ≡ false
no_control c is = grind (arith, nat_tests, is.0, is.1)

high_is_no_control : (b : ℕ) → 128 ≤ b → is_ascii_control b ≡ false
high_is_no_control b high = grind (arith, nat_tests)

-- no control character, no control byte
char_bytes : (c : ℕ) → IsPrintable c → AllByRecursion (λ b. is_ascii_control b ≡ false) (encode c)
char_bytes c is =
    let P : ℕ → Type 0 = λ b. is_ascii_control b ≡ false in
    recursion_from_All P (encode c) (All-from_get_or P (encode c) 0 (λ i within.
    elim (cases_lt (get_or (encode c) i 0) 128) [
      | inl low ↦ subst P (inside_one c [] (encode c) i (sym (append-nil (encode c))) within low) (no_control c is)
      | inr high ↦ high_is_no_control (get_or (encode c) i 0) high
    ]))

chars_bytes : (cs : List ℕ) → AllByRecursion IsPrintable cs → AllByRecursion (λ b. is_ascii_control b ≡ false) (encodes cs)
chars_bytes [] all = tt
chars_bytes (c ∷ cs) all = all_of_both (λ b. is_ascii_control b ≡ false) (encode c) (encodes cs) (char_bytes c all.0) (chars_bytes cs all.1)

-- the bytes of a text that fits a column can be what a text says
pub text_value : (limit : ℕ) (bytes : List ℕ) → limit ≤ 200 → IsTextUpTo limit bytes → IsTextValue bytes
text_value limit bytes small is = record {
  is_printable =
      let P : List ℕ → Type 0 = AllByRecursion (λ b. is_ascii_control b ≡ false) in
      subst P (encodes-chars bytes is.utf8) (chars_bytes (chars bytes) (recursion_from_All IsPrintable (chars bytes) is.printable));
  is_utf8 = is.utf8;
  is_short = let short : length bytes ≤ limit = is.short in omega arith;
}

-- ---- constants

integer_spelled : (n : ℤ) → FitsSigned w64 n → IsConstant (constant_as (values.Int n))
integer_spelled (pos n) fits = omega (arith, ints)
integer_spelled (negsuc n) fits = omega (arith, ints)

pub value_spelled : (value : Value) → Fits value → IsConstant (constant_as value)
value_spelled (values.Int n) fits = integer_spelled n fits
value_spelled (values.Text bytes) fits = text_value 200 bytes (omega arith) fits

compared_spelled : (value : Value) → FitsConstant value → IsConstant (constant_as value)
compared_spelled (values.Int n) fits = integer_spelled n fits
compared_spelled (values.Text bytes) fits = text_value 100 bytes (omega arith) fits

pub row_spelled : (kinds : List Kind) (row : List Value) → FitsKinds kinds row → AllByRecursion IsConstant (map constant_as row)
row_spelled [] [] fits = tt
row_spelled [] (value ∷ row) fits = absurd fits
row_spelled (kind ∷ kinds) [] fits = absurd fits
row_spelled (kind ∷ kinds) (value ∷ row) fits = (value_spelled value fits.1, row_spelled kinds row fits.2)

-- ---- columns

-- each column of a scope is spellable as it is written
abbrev pub AreSpelled : Scope → (ℕ → tree.Column) → Type 0
AreSpelled scope write = (place : ℕ) (kind : Kind) → slice_get (types_in scope) place ≡ Some kind → IsColumn (write place)

-- the name at a place is a name
pub name_spelled : (columns : List schema.Column) (place : ℕ) (kind : Kind) → AllByRecursion IsName (map (λ c. c.name) columns) → slice_get (types columns) place ≡ Some kind → IsName (name_in (map (λ c. c.name) columns) place)
name_spelled columns place kind names is =
    let name = name_there columns place kind is in
    let same : name_in (map (λ c. c.name) columns) place ≡ name.0 = ap or_nothing name.1 in
    subst IsName (sym same) (all_at IsName (map (λ c. c.name) columns) place name.0 names name.1)

pub alone_spelled : (columns : List schema.Column) → AllByRecursion IsName (map (λ c. c.name) columns) → AreSpelled (columns_alone columns) (plain_column (map (λ c. c.name) columns))
alone_spelled columns names place kind is =
    let there : slice_get (types columns) place ≡ Some kind = ap (λ ks. slice_get ks place) (sym (append-nil (types columns))) ∙ is in
    record { qualifier = tt; name = name_spelled columns place kind names there }

pub one_spelled : (relation : RelationSchema) → AllByRecursion IsName (map (λ c. c.name) relation.columns) → AreSpelled (one_relation relation) (plain_column (map (λ c. c.name) relation.columns))
one_spelled relation names = alone_spelled relation.columns names

-- with the name of its relation
pub qualified_spelled : (relation : RelationSchema) (place : ℕ) (kind : Kind) → IsName relation.name → AllByRecursion IsName (map (λ c. c.name) relation.columns) → slice_get (types relation.columns) place ≡ Some kind → IsColumn (qualified_column (source_of relation) place)
qualified_spelled relation place kind name names is = record { qualifier = name; name = name_spelled relation.columns place kind names is }

-- of one relation, with its name
one_qualified : (relation : RelationSchema) (source : Source) (place : ℕ) (kind : Kind) → source_of relation ≡ source → IsNamed relation → slice_get (types relation.columns) place ≡ Some kind → IsColumn (qualified_column source place)
one_qualified relation source place kind same named is =
    let P : Source → Type 0 = λ s. IsColumn (qualified_column s place) in
    subst P same (qualified_spelled relation place kind named.name named.columns is)

-- of relations that are joined
pub joined_spelled : (relation : RelationSchema) (relations : List RelationSchema) (source : Source) (joins : List Join) → source_of relation ≡ source → AreSources joins relations → AllByRecursion IsNamed (relation ∷ relations) → (place : ℕ) (kind : Kind) → slice_get (types_in (tables (relation ∷ relations))) place ≡ Some kind → IsColumn (column_of_joined source joins place)
joined_spelled relation [] source [] same are named place kind is =
    let there : slice_get (types relation.columns) place ≡ Some kind = ap (λ ks. slice_get ks place) (sym (append-nil (types relation.columns))) ∙ is in
    one_qualified relation source place kind same named.0 there
joined_spelled relation (next ∷ relations) source [] same are named place kind is = absurd are
joined_spelled relation [] source (join ∷ joins) same are named place kind is = absurd are
joined_spelled relation (next ∷ relations) source (join ∷ joins) same are named place kind is =
    let count : length (types relation.columns) ≡ length relation.columns = length-map relation.columns (λ c. c.kind) in
    let count_names : length (names_of relation) ≡ length relation.columns = length-map relation.columns (λ c. c.name) in
    let others : List Kind = types_in (tables (next ∷ relations)) in
    let P : Source → Type 0 = λ s. IsColumn (column_of_joined s (join ∷ joins) place) in
    subst P same (
    elim (cases_lt place (length (names_of relation))) [
      | inl front ↦
          let there : slice_get (types relation.columns) place ≡ Some kind = sym (slice_get-within_front (types relation.columns) others place (omega arith)) ∙ is in
          subst IsColumn (sym (passed (nat_lt place (length (names_of relation))) _ _ _ (lt-ltb place _ front) refl)) (one_qualified relation (source_of relation) place kind refl named.0 there)
      | inr behind ↦
          let rest : ℕ = place - length (names_of relation) in
          let there : slice_get others rest ≡ Some kind = sym (slice_get-behind (types relation.columns) others rest place (omega arith)) ∙ is in
          subst IsColumn (sym (not_passed (nat_lt place (length (names_of relation))) _ _ _ (le-ltb place _ behind) refl)) (joined_spelled next relations join.relation joins are.0 are.1 named.1 rest kind there)
    ])

-- of all relations of a select: plain where nothing is joined
pub select_spelled : (relation : RelationSchema) (relations : List RelationSchema) (source : Source) (joins : List Join) → source_of relation ≡ source → AreSources joins relations → AllByRecursion IsNamed (relation ∷ relations) → AreSpelled (tables (relation ∷ relations)) (column_in source joins)
select_spelled relation [] source [] same are named =
    let P : Source → Type 0 = λ s. AreSpelled (one_relation relation) (plain_column s.columns) in
    subst P same (one_spelled relation named.0.columns)
select_spelled relation (next ∷ relations) source [] same are named = absurd are
select_spelled relation relations source (join ∷ joins) same are named = joined_spelled relation relations source (join ∷ joins) same are named

-- the joins
pub joins_spelled : (schema : List RelationSchema) → AreNamed schema → (earlier : List (List ℕ)) (before : List Kind) (joins : List Join) (all : List Kind) → AreJoinsOf schema earlier before joins all → (write : ℕ → tree.Column) → ((place : ℕ) (kind : Kind) → slice_get all place ≡ Some kind → IsColumn (write place)) → AllByRecursion IsJoin (map (join_as write) joins)
joins_spelled schema named earlier before [] all are write spelled = tt
joins_spelled schema named earlier before (join ∷ joins) all are write spelled =
    let is_named = relation_is_named schema join.relation.name are.0 named are.1.there in
    let source = join_source schema earlier before join are.0 are.1 in
    let N : List ℕ → Type 0 = IsName in
    let all_types = are_types schema earlier before (join ∷ joins) all are 0 write in
    let column : slice_get all join.col ≡ Some kinds.Int = ap (λ ks. slice_get ks join.col) all_types ∙ slice_get-front before _ join.col kinds.Int are.1.column in (
      record {
        relation = subst N (found_by_name schema join.relation.name are.0 are.1.there) is_named.name;
        left = spelled join.col kinds.Int column;
        right = one_qualified are.0 join.relation 0 kinds.Int source is_named are.1.key;
      },
      joins_spelled schema named (earlier ++ are.0.name ∷ []) (before ++ kinds_of are.0) joins all are.2 write spelled,
    )

-- the listed columns
pub places_spelled : (scope : Scope) (write : ℕ → tree.Column) → AreSpelled scope write → (places : List ℕ) → AllByRecursion (λ place. place < length (types_in scope)) places → AllByRecursion IsColumn (map write places)
places_spelled scope write are_spelled places all =
    all_mapped write (λ place. place < length (types_in scope)) IsColumn (λ place within. let kind = there_at (types_in scope) place within in are_spelled place kind.0 kind.1) places all

-- conditions
pub conds_spelled : (scope : Scope) (write : ℕ → tree.Column) → AreSpelled scope write → (conds : List Cond) → AllByRecursion (IsCondOf (types_in scope)) conds → AllByRecursion IsCondition (conditions_as write conds)
conds_spelled scope write are_spelled conds all =
    all_mapped (condition_as write) (IsCondOf (types_in scope)) IsCondition (λ cond fits. record {
      column = are_spelled cond.col (kind_of cond.value) fits.column;
      constant = compared_spelled cond.value fits.constant;
    }) conds all

-- ---- assignments

assigned_spelled : (columns : List schema.Column) (kind : Kind) (value : Assigned) → AllByRecursion IsName (map (λ c. c.name) columns) → IsAssignable (types columns) kind value → IsAssigned (assigned_as (map (λ c. c.name) columns) value)
assigned_spelled columns kind (assigned.Constant value) names fits = value_spelled value fits.1
assigned_spelled columns kind (assigned.Sum col (pos n)) names fits =
    let small : pos n ≤ℤ pos 9223372036854775807 = fits.3 in
    (name_spelled columns col kinds.Int names fits.1, omega (arith, ints))
assigned_spelled columns kind (assigned.Sum col (negsuc n)) names fits =
    let small : neg_ℤ (pos 9223372036854775807) ≤ℤ negsuc n = fits.2 in
    (name_spelled columns col kinds.Int names fits.1, omega (arith, ints))

pub sets_spelled : (columns : List schema.Column) → AllByRecursion IsName (map (λ c. c.name) columns) → (sets : List Assignment) → AllByRecursion (IsAssignmentOf (types columns)) sets → AllByRecursion IsAssignment (map (assignment_as (map (λ c. c.name) columns)) sets)
sets_spelled columns names sets all =
    all_mapped (assignment_as (map (λ c. c.name) columns)) (IsAssignmentOf (types columns)) IsAssignment (λ set fits. record {
      column = name_spelled columns set.col fits.kind names fits.column;
      value = assigned_spelled columns fits.kind set.value names fits.value;
    }) sets all
