-- Relations that are joined, as their joins are written: they are found again, with their columns.
use Rattle.std.proofs.Common.{◌≡◌, ◌≢◌, ℕ, ◌+◌, ◌-◌, ◌<◌, ◌&&◌, Bool, true, false, cond, List, [], ◌∷◌, ◌++◌, Some, None, option_map, length, length-append, map, append_assoc, append-nil, find, nat_eq, nat_lt, inl, inr, refl, ap, sym, subst, ◌∙◌, arith}
use Rattle.std.specs.Cmp.Lexicographic.{pointwise}
use Rattle.std.specs.List.{AllByRecursion, list_any, slice_get}
use Rattle.std.proofs.lemmas.Bool.{and_from, and_left, cases_lt, eq-eqb, lt-ltb, le-ltb, ne_eqb, or_from}
use Rattle.std.proofs.lemmas.List.{length-map, map-append}
use Rattle.std.proofs.lemmas.Option.{slice_get_within}
use Rattle.terms.specs.declared.value.Kind.{Kind}
use Rattle.terms.specs.declared.value.Kind.TheVariants as kinds
use Rattle.meaning.specs.declared.schema.RelationSchema.{RelationSchema}
use Rattle.meaning.specs.declared.statement.Source.{Source}
use Rattle.meaning.specs.declared.statement.Join.{Join}
use Rattle.meaning.specs.Schema.{relation_named, kinds_of, names_of}
use Rattle.meaning.specs.Statement.{IsJoinOf, AreJoinsOf}
use Rattle.reader.specs.declared.scope.Found.{Found}
use Rattle.reader.specs.Names.{Joined, all_of, source_of, is_key, other_than_key, join_of, other_of, others_of}
use Rattle.reader.specs.Printable.{AreDistinct, IsNamed, AreNamed}
use Rattle.reader.specs.Scope.{Scope, relation_table, types, types_in, and_others, all_found, only_one, counted_on, found_in_table, found_in, one_relation}
use Rattle.reader.specs.Tree as tree
use Rattle.reader.specs.Written.{plain_column, qualified_column, column_of_joined, column_in, join_as}
use Rattle.reader.proofs.FitsCommand.{found_by_name}
use Rattle.reader.proofs.Fits.{both_parts}
use Rattle.reader.proofs.Places.{slice_get-front, slice_get-within_front, slice_get-behind}
use Rattle.reader.proofs.ResolvedColumns.{next_step, passed, not_passed, other_bytes, AreFound, one_found, qualified_there, qualified_other}

-- ---- columns of relations that have other names

-- none of these relations has the name
abbrev pub AreOthers : List ℕ → List RelationSchema → Type 0
AreOthers name relations = AllByRecursion (λ r. r.name ≢ name) relations

-- no two of these relations have the same name
abbrev pub AreUnlike : List RelationSchema → Type 0
AreUnlike [] = Unit {0}
AreUnlike (relation ∷ relations) = AreOthers relation.name relations × AreUnlike relations

-- each has names of its own for its columns
abbrev pub HaveDistinct : List RelationSchema → Type 0
HaveDistinct relations = AllByRecursion (λ r. AreDistinct (names_of r)) relations

abbrev pub tables : List RelationSchema → Scope
tables relations = map relation_table relations

abbrev pub width : List RelationSchema → ℕ
width relations = length (types_in (tables relations))

abbrev at : ℕ → Kind → Found
at place kind = record { place = place; kind = kind }

-- a column of another relation is in none of them
none_there : (count : ℕ) (relations : List RelationSchema) (relation : RelationSchema) (place : ℕ) → AreOthers relation.name relations → all_found count (tables relations) (qualified_column (source_of relation) place) ≡ []
none_there count [] relation place others = refl
none_there count (other ∷ relations) relation place others =
    ap (λ o. and_others (option_map (counted_on count) o) (all_found (count + length other.columns) (tables relations) (qualified_column (source_of relation) place))) (qualified_other relation other place others.0)
    ∙ none_there (count + length other.columns) relations relation place others.1

-- a column of one of them is found where that one stands
pub found_with_name : (count : ℕ) (front : List RelationSchema) (relation : RelationSchema) (behind : List RelationSchema) (place : ℕ) (kind : Kind) → AreOthers relation.name front → AreOthers relation.name behind → AreDistinct (names_of relation) → slice_get (kinds_of relation) place ≡ Some kind
    → all_found count (tables (front ++ relation ∷ behind)) (qualified_column (source_of relation) place) ≡ at ((count + width front) + place) kind ∷ []
found_with_name count [] relation behind place kind before after distinct is =
    let column = qualified_column (source_of relation) place in
    ap (λ o. and_others (option_map (counted_on count) o) (all_found (count + length relation.columns) (tables behind) column)) (qualified_there relation place kind distinct is)
    ∙ ap (λ rest. at (count + place) kind ∷ rest) (none_there (count + length relation.columns) behind relation place after)
    ∙ (let e : count + place ≡ (count + 0) + place = omega arith in ap (λ n. at n kind ∷ []) e)
found_with_name count (first ∷ front) relation behind place kind before after distinct is =
    let column = qualified_column (source_of relation) place in
    let e : ((count + length first.columns) + width front) + place ≡ (count + width (first ∷ front)) + place = omega (arith, length-append (types first.columns) (types_in (tables front)), length-map first.columns (λ c. c.kind)) in
    ap (λ o. and_others (option_map (counted_on count) o) (all_found (count + length first.columns) (tables (front ++ relation ∷ behind)) column)) (qualified_other relation first place before.0)
    ∙ found_with_name (count + length first.columns) front relation behind place kind before.1 after distinct is
    ∙ ap (λ n. at n kind ∷ []) e

-- ---- columns as they are written

-- the joins are of these relations
abbrev pub AreSources : List Join → List RelationSchema → Type 0
AreSources [] [] = Unit {0}
AreSources [] (relation ∷ relations) = ⊥
AreSources (join ∷ joins) [] = ⊥
AreSources (join ∷ joins) (relation ∷ relations) = (source_of relation ≡ join.relation) × AreSources joins relations

-- a column that is written with the name of one of these relations is none of another
not_first : (first relation : RelationSchema) (relations : List RelationSchema) (source : Source) (joins : List Join) (place : ℕ) → source_of relation ≡ source → AreSources joins relations → AreOthers first.name (relation ∷ relations) → found_in_table (relation_table first) (column_of_joined source joins place) ≡ None
not_first first relation relations source [] place same are others =
    let P : Source → Type 0 = λ s. found_in_table (relation_table first) (qualified_column s place) ≡ None in
    subst P same (qualified_other relation first place (λ equal. others.0 (sym equal)))
not_first first relation [] source (join ∷ joins) place same are others = absurd are
not_first first relation (next ∷ relations) source (join ∷ joins) place same are others =
    let P : Source → Type 0 = λ s. found_in_table (relation_table first) (qualified_column s place) ≡ None in
    elim (nat_lt place (length source.columns)) as (λ t. found_in_table (relation_table first) (cond t (qualified_column source place) (column_of_joined join.relation joins (place - length source.columns))) ≡ None) [
      | true ↦ subst P same (qualified_other relation first place (λ equal. others.0 (sym equal)))
      | false ↦ not_first first next relations join.relation joins (place - length source.columns) are.0 are.1 others.1
    ]

-- a column of one relation
found_in_one : (count : ℕ) (relation : RelationSchema) (source : Source) (place : ℕ) (kind : Kind) → source_of relation ≡ source → AreDistinct (names_of relation) → slice_get (types_in (tables (relation ∷ []))) place ≡ Some kind
    → all_found count (tables (relation ∷ [])) (qualified_column source place) ≡ at (count + place) kind ∷ []
found_in_one count relation source place kind same distinct is =
    let P : Source → Type 0 = λ s. all_found count (tables (relation ∷ [])) (qualified_column s place) ≡ at (count + place) kind ∷ [] in
    let there : slice_get (types relation.columns) place ≡ Some kind = ap (λ ks. slice_get ks place) (sym (append-nil (types relation.columns))) ∙ is in
    subst P same (ap (λ o. and_others (option_map (counted_on count) o) []) (qualified_there relation place kind distinct there))

-- each column is found as it is written
pub found_as_written : (count : ℕ) (relation : RelationSchema) (relations : List RelationSchema) (source : Source) (joins : List Join) → source_of relation ≡ source → AreSources joins relations → AreUnlike (relation ∷ relations) → HaveDistinct (relation ∷ relations) → (place : ℕ) (kind : Kind) → slice_get (types_in (tables (relation ∷ relations))) place ≡ Some kind
    → all_found count (tables (relation ∷ relations)) (column_of_joined source joins place) ≡ at (count + place) kind ∷ []
found_as_written count relation [] source [] same are unlike distinct place kind is = found_in_one count relation source place kind same distinct.0 is
found_as_written count relation (next ∷ relations) source [] same are unlike distinct place kind is = absurd are
found_as_written count relation [] source (join ∷ joins) same are unlike distinct place kind is = absurd are
found_as_written count relation (next ∷ relations) source (join ∷ joins) same are unlike distinct place kind is =
    let P : Source → Type 0 = λ s. all_found count (tables (relation ∷ next ∷ relations)) (column_of_joined s (join ∷ joins) place) ≡ at (count + place) kind ∷ [] in
    let count_types : length (types relation.columns) ≡ length relation.columns = length-map relation.columns (λ c. c.kind) in
    let count_names : length (names_of relation) ≡ length relation.columns = length-map relation.columns (λ c. c.name) in
    let others : List Kind = types_in (tables (next ∷ relations)) in
    let Q : tree.Column → Type 0 = λ c. all_found count (tables (relation ∷ next ∷ relations)) c ≡ at (count + place) kind ∷ [] in
    subst P same (
    elim (cases_lt place (length (names_of relation))) [
      | inl front ↦
          let there : slice_get (types relation.columns) place ≡ Some kind = sym (slice_get-within_front (types relation.columns) others place (omega arith)) ∙ is in
          let e : (count + 0) + place ≡ count + place = omega arith in
          subst Q (sym (passed (nat_lt place (length (names_of relation))) _ _ _ (lt-ltb place _ front) refl))
          (found_with_name count [] relation (next ∷ relations) place kind tt unlike.0 distinct.0 there ∙ ap (λ n. at n kind ∷ []) e)
      | inr behind ↦
          let rest : ℕ = place - length (names_of relation) in
          let there : slice_get others rest ≡ Some kind = sym (slice_get-behind (types relation.columns) others rest place (omega arith)) ∙ is in
          let e : (count + length relation.columns) + rest ≡ count + place = omega arith in
          let column = column_of_joined join.relation joins rest in
          subst Q (sym (not_passed (nat_lt place (length (names_of relation))) _ _ _ (le-ltb place _ behind) refl))
          (ap (λ o. and_others (option_map (counted_on count) o) (all_found (count + length relation.columns) (tables (next ∷ relations)) column)) (not_first relation next relations join.relation joins rest are.0 are.1 unlike.0)
          ∙ found_as_written (count + length relation.columns) next relations join.relation joins are.0 are.1 unlike.1 distinct.1 rest kind there
          ∙ ap (λ n. at n kind ∷ []) e)
    ])

-- ---- relations of a statement that fits a schema

-- what holds of all holds of what is found among them
found_among : {A : Type 0} (P : A → Type 0) (test : A → Bool) (xs : List A) (x : A) → AllByRecursion P xs → find test xs ≡ Some x → P x
found_among P test [] x all is = absurd cc
found_among P test (y ∷ xs) x all is =
    elim (test y) as (λ t. cond t (Some y) (find test xs) ≡ Some x → P x) [
      | true ↦ λ here. let same : y ≡ x = cc in subst P same all.0
      | false ↦ λ later. found_among P test xs x all.1 later
    ] is

-- a relation that is found is one that a text can speak of
pub relation_is_named : (schema : List RelationSchema) (asked : List ℕ) (relation : RelationSchema) → AreNamed schema → relation_named asked schema ≡ Some relation → IsNamed relation
relation_is_named schema asked relation named is = found_among IsNamed (λ r. pointwise nat_eq r.name asked) schema relation named is

-- what is joined, as the joins are written with these columns
abbrev pub placed : (schema : List RelationSchema) (earlier : List (List ℕ)) (before : List Kind) (joins : List Join) (all : List Kind) → AreJoinsOf schema earlier before joins all → ℕ → (ℕ → tree.Column) → List Joined
placed schema earlier before [] all are count write = []
placed schema earlier before (join ∷ joins) all are count write =
    record { relation = are.0; before = count; written = join_as write join }
    ∷ placed schema (earlier ++ are.0.name ∷ []) (before ++ kinds_of are.0) joins all are.2 (count + length are.0.columns) write

abbrev pub relations_of : List Joined → List RelationSchema
relations_of joined = map (λ j. j.relation) joined

pub tables_of : (joined : List Joined) → map (λ j. relation_table j.relation) joined ≡ tables (relations_of joined)
tables_of [] = refl
tables_of (first ∷ joined) = ap (λ rest. relation_table first.relation ∷ rest) (tables_of joined)

-- the source of a relation
pub is_source : (source : Source) (relation : RelationSchema) → relation.name ≡ source.name → source.columns ≡ names_of relation → source_of relation ≡ source
is_source source relation name columns = λ i. record { name = name i; columns = sym columns i }

pub join_source : (schema : List RelationSchema) (earlier : List (List ℕ)) (before : List Kind) (join : Join) (other : RelationSchema) → IsJoinOf schema earlier before join other → source_of other ≡ join.relation
join_source schema earlier before join other is = is_source join.relation other (found_by_name schema join.relation.name other is.there) is.names

pub are_sources : (schema : List RelationSchema) (earlier : List (List ℕ)) (before : List Kind) (joins : List Join) (all : List Kind) (are : AreJoinsOf schema earlier before joins all) (count : ℕ) (write : ℕ → tree.Column) → AreSources joins (relations_of (placed schema earlier before joins all are count write))
are_sources schema earlier before [] all are count write = tt
are_sources schema earlier before (join ∷ joins) all are count write =
    (join_source schema earlier before join are.0 are.1, are_sources schema (earlier ++ are.0.name ∷ []) (before ++ kinds_of are.0) joins all are.2 (count + length are.0.columns) write)

-- the types are those of the relations, one after another
pub are_types : (schema : List RelationSchema) (earlier : List (List ℕ)) (before : List Kind) (joins : List Join) (all : List Kind) (are : AreJoinsOf schema earlier before joins all) (count : ℕ) (write : ℕ → tree.Column) → all ≡ before ++ types_in (tables (relations_of (placed schema earlier before joins all are count write)))
are_types schema earlier before [] all are count write = are ∙ sym (append-nil before)
are_types schema earlier before (join ∷ joins) all are count write =
    are_types schema (earlier ++ are.0.name ∷ []) (before ++ kinds_of are.0) joins all are.2 (count + length are.0.columns) write
    ∙ append_assoc before (kinds_of are.0) (types_in (tables (relations_of (placed schema (earlier ++ are.0.name ∷ []) (before ++ kinds_of are.0) joins all are.2 (count + length are.0.columns) write))))

-- ---- names that are unlike

abbrev names : List RelationSchema → List (List ℕ)
names relations = map (λ r. r.name) relations

-- one relation more, whose name none of them has
one_more : (relations : List RelationSchema) (other : RelationSchema) → AreUnlike relations → AllByRecursion (λ name. other.name ≢ name) (names relations) → AreUnlike (relations ++ other ∷ [])
one_more [] other unlike others = (tt, tt)
one_more (relation ∷ relations) other unlike others = (behind relations unlike.0, one_more relations other unlike.1 others.1)
  where
    behind : (rest : List RelationSchema) → AreOthers relation.name rest → AreOthers relation.name (rest ++ other ∷ [])
    behind [] are = (others.0, tt)
    behind (r ∷ rest) are = (are.0, behind rest are.1)

pub are_unlike : (schema : List RelationSchema) (earlier : List (List ℕ)) (before : List Kind) (joins : List Join) (all : List Kind) (are : AreJoinsOf schema earlier before joins all) (count : ℕ) (write : ℕ → tree.Column) (front : List RelationSchema) → earlier ≡ names front → AreUnlike front → AreUnlike (front ++ relations_of (placed schema earlier before joins all are count write))
are_unlike schema earlier before [] all are count write front same unlike = subst AreUnlike (sym (append-nil front)) unlike
are_unlike schema earlier before (join ∷ joins) all are count write front same unlike =
    let P : List (List ℕ) → Type 0 = AllByRecursion (λ name. are.0.name ≢ name) in
    let behind = are_unlike schema (earlier ++ are.0.name ∷ []) (before ++ kinds_of are.0) joins all are.2 (count + length are.0.columns) write (front ++ are.0 ∷ [])
    (ap (λ ns. ns ++ are.0.name ∷ []) same ∙ sym (map-append (λ (r : RelationSchema). r.name) front (are.0 ∷ [])))
    (one_more front are.0 unlike (subst P same are.1.another)) in
    subst AreUnlike (append_assoc front (are.0 ∷ []) (relations_of (placed schema (earlier ++ are.0.name ∷ []) (before ++ kinds_of are.0) joins all are.2 (count + length are.0.columns) write))) behind

-- those before one and those behind it have other names
unlike_parts : (front : List RelationSchema) (relation : RelationSchema) (behind : List RelationSchema) → AreUnlike (front ++ relation ∷ behind) → AreOthers relation.name front × AreOthers relation.name behind
unlike_parts [] relation behind unlike = (tt, unlike.0)
unlike_parts (first ∷ front) relation behind unlike =
    let parts = both_parts (λ r. r.name ≢ first.name) front (relation ∷ behind) unlike.0 in
    let others = unlike_parts front relation behind unlike.1 in
    ((λ equal. parts.1.0 (sym equal), others.0), others.1)

-- ---- what is written means the joins again

none_named_so : (earlier : List (List ℕ)) (other : List ℕ) → AllByRecursion (λ name. other ≢ name) earlier → list_any (λ name. pointwise nat_eq name other) earlier ≡ false
none_named_so [] other none = refl
none_named_so (name ∷ earlier) other none = or_from (pointwise nat_eq name other) (list_any (λ n. pointwise nat_eq n other) earlier) (other_bytes name other (λ same. none.0 (sym same))) (none_named_so earlier other none.1)

pub others_again : (schema : List RelationSchema) (earlier : List (List ℕ)) (before : List Kind) (joins : List Join) (all : List Kind) (are : AreJoinsOf schema earlier before joins all) (count : ℕ) (write : ℕ → tree.Column) → others_of schema earlier count (map (join_as write) joins) ≡ Some (placed schema earlier before joins all are count write)
others_again schema earlier before [] all are count write = refl
others_again schema earlier before (join ∷ joins) all are count write =
    let rest = placed schema (earlier ++ are.0.name ∷ []) (before ++ kinds_of are.0) joins all are.2 (count + length are.0.columns) write in
    let whole : List Joined = record { relation = are.0; before = count; written = join_as write join } ∷ rest in
    let there : other_of schema earlier (join_as write join) ≡ Some are.0 =
    next_step _ (relation_named join.relation.name schema) are.0 (Some are.0) are.1.there
    (not_passed (list_any (λ name. pointwise nat_eq name are.0.name) earlier) _ _ _ (none_named_so earlier are.0.name are.1.another) refl) in
    next_step _ (other_of schema earlier (join_as write join)) are.0 (Some whole) there
    (next_step _ (others_of schema (earlier ++ are.0.name ∷ []) (count + length are.0.columns) (map (join_as write) joins)) rest (Some whole)
    (others_again schema (earlier ++ are.0.name ∷ []) (before ++ kinds_of are.0) joins all are.2 (count + length are.0.columns) write) refl)

-- the column beside the key
beside_key : (joined : Joined) (col : ℕ) → col < joined.before → 0 < length joined.relation.columns → other_than_key joined col joined.before ≡ Some col
beside_key joined col within some =
    not_passed (is_key joined col && nat_lt joined.before joined.before) _ _ _ (and_left (is_key joined col) (nat_lt joined.before joined.before) (and_left (nat_eq col joined.before) (nat_lt 0 (length joined.relation.columns)) (ne_eqb col joined.before (λ same. omega (arith, same)))))
    (passed (is_key joined joined.before && nat_lt col joined.before) _ _ _ (and_from (is_key joined joined.before) (nat_lt col joined.before) (and_from (nat_eq joined.before joined.before) (nat_lt 0 (length joined.relation.columns)) (eq-eqb joined.before joined.before refl) (lt-ltb 0 _ some)) (lt-ltb col joined.before within)) refl)

-- the types of the relations before one, of its own and of those behind it
types_parts : (front : List RelationSchema) (relation : RelationSchema) (behind : List RelationSchema) → types_in (tables (front ++ relation ∷ behind)) ≡ types_in (tables front) ++ (kinds_of relation ++ types_in (tables behind))
types_parts [] relation behind = refl
types_parts (first ∷ front) relation behind =
    ap (λ rest. kinds_of first ++ rest) (types_parts front relation behind) ∙ sym (append_assoc (kinds_of first) (types_in (tables front)) (kinds_of relation ++ types_in (tables behind)))

join_again : (schema : List RelationSchema) (earlier : List (List ℕ)) (front : List RelationSchema) (other : RelationSchema) (behind : List RelationSchema) (join : Join) (write : ℕ → tree.Column) → AreUnlike (front ++ other ∷ behind) → AreDistinct (names_of other) → AreFound (tables (front ++ other ∷ behind)) write → IsJoinOf schema earlier (types_in (tables front)) join other
    → join_of (tables (front ++ other ∷ behind)) (record { relation = other; before = width front; written = join_as write join }) ≡ Some join
join_again schema earlier front other behind join write unlike distinct found is =
    let scope = tables (front ++ other ∷ behind) in
    let joined : Joined = record { relation = other; before = width front; written = join_as write join } in
    let source = join_source schema earlier (types_in (tables front)) join other is in
    let parts = unlike_parts front other behind unlike in
    let within : join.col < width front = slice_get_within (types_in (tables front)) join.col kinds.Int is.column in
    let some : 0 < length other.columns = let w : 0 < length (kinds_of other) = slice_get_within (kinds_of other) 0 kinds.Int is.key in omega (arith, length-map other.columns (λ c. c.kind)) in
    let column : slice_get (types_in scope) join.col ≡ Some kinds.Int =
    ap (λ ks. slice_get ks join.col) (types_parts front other behind) ∙ slice_get-front (types_in (tables front)) (kinds_of other ++ types_in (tables behind)) join.col kinds.Int is.column in
    let P : Source → Type 0 = λ s. found_in scope (qualified_column s 0) ≡ Some (at (width front) kinds.Int) in
    let e : (0 + width front) + 0 ≡ width front = omega arith in
    let key : found_in scope (qualified_column join.relation 0) ≡ Some (at (width front) kinds.Int) =
    subst P source (ap only_one (found_with_name 0 front other behind 0 kinds.Int parts.0 parts.1 distinct is.key) ∙ ap (λ n. Some (at n kinds.Int)) e) in
    ap (option_map (λ (column : ℕ). record { relation = source_of other; col = column }))
    (next_step _ (found_in scope (write join.col)) (at join.col kinds.Int) (Some join.col) (found join.col kinds.Int column)
    (next_step _ (found_in scope (qualified_column join.relation 0)) (at (width front) kinds.Int) (Some join.col) key
    (next_step _ (other_than_key joined join.col (width front)) join.col (Some join.col) (beside_key joined join.col within some) refl)))
    ∙ ap (λ (s : Source). Some (record { relation = s; col = join.col })) source

-- the relations with one more, and what stands behind it
width_more : (front : List RelationSchema) (other : RelationSchema) → width (front ++ other ∷ []) ≡ width front + length other.columns
width_more front other =
    ap length (types_parts front other [] ∙ ap (λ ks. types_in (tables front) ++ ks) (append-nil (kinds_of other)))
    ∙ length-append (types_in (tables front)) (kinds_of other) ∙ ap (λ n. width front + n) (length-map other.columns (λ c. c.kind))

types_more : (front : List RelationSchema) (other : RelationSchema) → types_in (tables (front ++ other ∷ [])) ≡ types_in (tables front) ++ kinds_of other
types_more front other = types_parts front other [] ∙ ap (λ ks. types_in (tables front) ++ ks) (append-nil (kinds_of other))

-- the joins of a scope
pub joins_again : (schema : List RelationSchema) (earlier : List (List ℕ)) (before : List Kind) (joins : List Join) (all : List Kind) (are : AreJoinsOf schema earlier before joins all) (count : ℕ) (write : ℕ → tree.Column) (front whole : List RelationSchema) → before ≡ types_in (tables front) → count ≡ width front → whole ≡ front ++ relations_of (placed schema earlier before joins all are count write) → AreUnlike whole → HaveDistinct whole → AreFound (tables whole) write
    → all_of (join_of (tables whole)) (placed schema earlier before joins all are count write) ≡ Some joins
joins_again schema earlier before [] all are count write front whole same counted parts unlike distinct found = refl
joins_again schema earlier before (join ∷ joins) all are count write front whole same counted parts unlike distinct found =
    let other = are.0 in
    let rest = placed schema (earlier ++ other.name ∷ []) (before ++ kinds_of other) joins all are.2 (count + length other.columns) write in
    let behind = relations_of rest in
    let J : List Kind → Type 0 = λ ks. IsJoinOf schema earlier ks join other in
    let here : join_of (tables whole) (record { relation = other; before = count; written = join_as write join }) ≡ Some join =
    let W : List RelationSchema → Type 0 = λ w. AreUnlike w → HaveDistinct w → AreFound (tables w) write → join_of (tables w) (record { relation = other; before = count; written = join_as write join }) ≡ Some join in
    let C : ℕ → Type 0 = λ n. join_of (tables (front ++ other ∷ behind)) (record { relation = other; before = n; written = join_as write join }) ≡ Some join in
    subst W (sym parts) (λ apart own is_found. subst C (sym counted) (join_again schema earlier front other behind join write apart (both_parts (λ r. AreDistinct (names_of r)) front (other ∷ behind) own).1.0 is_found (subst J same are.1))) unlike distinct found in
    next_step _ (join_of (tables whole) (record { relation = other; before = count; written = join_as write join })) join (Some (join ∷ joins)) here
    (ap (option_map (λ js. join ∷ js)) (joins_again schema (earlier ++ other.name ∷ []) (before ++ kinds_of other) joins all are.2 (count + length other.columns) write (front ++ other ∷ []) whole
    (ap (λ ks. ks ++ kinds_of other) same ∙ sym (types_more front other))
    (ap (λ n. n + length other.columns) counted ∙ sym (width_more front other))
    (parts ∙ sym (append_assoc front (other ∷ []) behind)) unlike distinct found))

-- ---- all relations of a select

-- each is one that a text can speak of
pub are_named : (schema : List RelationSchema) → AreNamed schema → (earlier : List (List ℕ)) (before : List Kind) (joins : List Join) (all : List Kind) (are : AreJoinsOf schema earlier before joins all) (count : ℕ) (write : ℕ → tree.Column) → AllByRecursion IsNamed (relations_of (placed schema earlier before joins all are count write))
are_named schema named earlier before [] all are count write = tt
are_named schema named earlier before (join ∷ joins) all are count write =
    (relation_is_named schema join.relation.name are.0 named are.1.there, are_named schema named (earlier ++ are.0.name ∷ []) (before ++ kinds_of are.0) joins all are.2 (count + length are.0.columns) write)

pub have_distinct : (relations : List RelationSchema) → AllByRecursion IsNamed relations → HaveDistinct relations
have_distinct [] named = tt
have_distinct (relation ∷ relations) named = (named.0.distinct, have_distinct relations named.1)

-- each column is found as it is written: by its plain name where nothing is joined
pub select_found : (relation : RelationSchema) (relations : List RelationSchema) (source : Source) (joins : List Join) → source_of relation ≡ source → AreSources joins relations → AreUnlike (relation ∷ relations) → HaveDistinct (relation ∷ relations) → AreFound (tables (relation ∷ relations)) (column_in source joins)
select_found relation [] source [] same are unlike distinct =
    let P : Source → Type 0 = λ s. AreFound (one_relation relation) (plain_column s.columns) in
    subst P same (one_found relation distinct.0)
select_found relation (next ∷ relations) source [] same are unlike distinct = absurd are
select_found relation relations source (join ∷ joins) same are unlike distinct = λ place kind is.
    let e : 0 + place ≡ place = omega arith in
    ap only_one (found_as_written 0 relation relations source (join ∷ joins) same are unlike distinct place kind is) ∙ ap (λ n. Some (at n kind)) e
