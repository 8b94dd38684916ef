-- Columns as they are written are found: the name at a place is the place's.
use Rattle.std.proofs.Common.{◌≡◌, ◌≢◌, ℕ, zero, suc, ◌+◌, ◌<◌, Bool, true, false, cond, List, [], ◌∷◌, Option, Some, None, option_and_then, option_map, length, map, nat_eq, refl, ap, sym, subst, ◌∙◌, arith}
use Rattle.std.specs.Cmp.Lexicographic.{pointwise}
use Rattle.std.specs.List.{AllByRecursion, position_from, slice_get}
use Rattle.std.proofs.lemmas.Bool.{false_from_ne_true}
use Rattle.std.proofs.lemmas.List.{append-nil}
use Rattle.std.proofs.lemmas.Option.{slice_get-map}
use Rattle.std.proofs.lemmas.Slice.Eq.{bytes_eq-Decides}
use Rattle.terms.specs.declared.value.Kind.{Kind}
use Rattle.meaning.specs.declared.schema.Column as schema
use Rattle.meaning.specs.declared.schema.RelationSchema.{RelationSchema}
use Rattle.reader.specs.declared.scope.Found.{Found}
use Rattle.reader.specs.Names.{source_of}
use Rattle.reader.specs.Printable.{AreDistinct}
use Rattle.reader.specs.Scope.{Table, Scope, one_relation, columns_alone, relation_table, types, types_in, column_named, and_others, only_one, counted_on, found_in_table, found_in}
use Rattle.reader.specs.Tree as tree
use Rattle.reader.specs.Written.{or_nothing, name_in, plain_column, qualified_column}
use Rattle.reader.proofs.Chains.{mapped_step}

-- ---- steps, one after another

-- a step that gives something, and the rest of the chain
pub next_step : {A B : Type 0} (step : A → Option B) (o : Option A) (x : A) (y : Option B) → o ≡ Some x → step x ≡ y → option_and_then step o ≡ y
next_step step o x y is then = ap (option_and_then step) is ∙ then

-- a test that is passed
pub passed : {A : Type 0} (test : Bool) (x other y : A) → test ≡ true → x ≡ y → cond test x other ≡ y
passed test x other y is same = ap (λ t. cond t x other) is ∙ same

-- a test that is not passed
pub not_passed : {A : Type 0} (test : Bool) (x other y : A) → test ≡ false → other ≡ y → cond test x other ≡ y
not_passed test x other y is same = ap (λ t. cond t x other) is ∙ same

-- ---- names

-- bytes are themselves
pub same_bytes : (bytes other : List ℕ) → bytes ≡ other → pointwise nat_eq bytes other ≡ true
same_bytes bytes other same = (bytes_eq-Decides bytes other).1 same

pub other_bytes : (bytes other : List ℕ) → bytes ≢ other → pointwise nat_eq bytes other ≡ false
other_bytes bytes other unlike = false_from_ne_true (pointwise nat_eq bytes other) (λ is. unlike ((bytes_eq-Decides bytes other).0 is))

-- what holds of all holds at a place
pub all_at : {A : Type 0} (P : A → Type 0) (xs : List A) (i : ℕ) (x : A) → AllByRecursion P xs → slice_get xs i ≡ Some x → P x
all_at P [] i x all is = absurd cc
all_at P (y ∷ xs) zero x all is = let same : y ≡ x = cc in subst P same all.0
all_at P (y ∷ xs) (suc i) x all is = all_at P xs i x all.1 is

pub there_at : {A : Type 0} (xs : List A) (i : ℕ) → i < length xs → (x : A) × (slice_get xs i ≡ Some x)
there_at [] i within = absurd (omega arith)
there_at (x ∷ xs) zero within = (x, refl)
there_at (x ∷ xs) (suc i) within = there_at xs i (omega arith)

-- the first column of a name at a place stands there, where no two names are the same
first_named : (columns : List schema.Column) (place at : ℕ) (name : List ℕ) → AreDistinct (map (λ c. c.name) columns) → slice_get (map (λ c. c.name) columns) place ≡ Some name → position_from (λ c. pointwise nat_eq c.name name) at columns ≡ Some (place + at)
first_named [] place at name distinct is = absurd cc
first_named (c ∷ columns) zero at name distinct is =
    let same : c.name ≡ name = cc in
    passed (pointwise nat_eq c.name name) (Some at) _ (Some (0 + at)) (same_bytes c.name name same) (let e : at ≡ 0 + at = omega arith in ap Some e)
first_named (c ∷ columns) (suc place) at name distinct is =
    not_passed (pointwise nat_eq c.name name) (Some at) _ _ (other_bytes c.name name (all_at (λ other. c.name ≢ other) (map (λ c. c.name) columns) place name distinct.0 is))
    (first_named columns place (at + 1) name distinct.1 is ∙ (let e : place + (at + 1) ≡ suc place + at = omega arith in ap Some e))

-- a column's name stands at its place
pub name_there : (columns : List schema.Column) (place : ℕ) (kind : Kind) → slice_get (types columns) place ≡ Some kind → (name : List ℕ) × (slice_get (map (λ c. c.name) columns) place ≡ Some name)
name_there columns place kind is =
    let column = mapped_step (λ (c : schema.Column). c.kind) (slice_get columns place) kind (sym (slice_get-map (λ c. c.kind) columns place) ∙ is) in
    (column.0.name, slice_get-map (λ c. c.name) columns place ∙ ap (option_map (λ (c : schema.Column). c.name)) column.1)

-- the name at a place is that of the column at the place
pub named_at : (columns : List schema.Column) (place : ℕ) (kind : Kind) → AreDistinct (map (λ c. c.name) columns) → slice_get (types columns) place ≡ Some kind → column_named columns (name_in (map (λ c. c.name) columns) place) ≡ Some (record { place = place; kind = kind })
named_at columns place kind distinct is =
    let name = name_there columns place kind is in
    let P : List ℕ → Type 0 = λ n. column_named columns n ≡ Some (record { place = place; kind = kind }) in
    let same : name_in (map (λ c. c.name) columns) place ≡ name.0 = ap or_nothing name.1 in
    subst P (sym same) (
    next_step _ (position_from (λ c. pointwise nat_eq c.name name.0) 0 columns) place (Some (record { place = place; kind = kind })) (first_named columns place 0 name.0 distinct name.1 ∙ (let e : place + 0 ≡ place = omega arith in ap Some e))
    (next_step _ (slice_get (types columns) place) kind (Some (record { place = place; kind = kind })) is refl)
    )

-- ---- scopes

-- each column of a scope is found as it is written
abbrev pub AreFound : Scope → (ℕ → tree.Column) → Type 0
AreFound scope write = (place : ℕ) (kind : Kind) → slice_get (types_in scope) place ≡ Some kind → found_in scope (write place) ≡ Some (record { place = place; kind = kind })

-- one that is found in the only table
pub alone_there : (table : Table) (column : tree.Column) (found : Found) → found_in_table table column ≡ Some found → found_in (table ∷ []) column ≡ Some found
alone_there table column found is =
    let e : 0 + found.place ≡ found.place = omega arith in
    ap (λ o. only_one (and_others (option_map (counted_on 0) o) [])) is ∙ ap (λ n. Some (record { place = n; kind = found.kind })) e

-- of columns alone
pub alone_found : (columns : List schema.Column) → AreDistinct (map (λ c. c.name) columns) → AreFound (columns_alone columns) (plain_column (map (λ c. c.name) columns))
alone_found columns distinct place kind is =
    let there : slice_get (types columns) place ≡ Some kind = ap (λ ks. slice_get ks place) (sym (append-nil (types columns))) ∙ is in
    alone_there (record { name = None; columns = columns }) (plain_column (map (λ c. c.name) columns) place) (record { place = place; kind = kind }) (named_at columns place kind distinct there)

-- of one relation
pub one_found : (relation : RelationSchema) → AreDistinct (map (λ c. c.name) relation.columns) → AreFound (one_relation relation) (plain_column (map (λ c. c.name) relation.columns))
one_found relation distinct place kind is =
    let there : slice_get (types relation.columns) place ≡ Some kind = ap (λ ks. slice_get ks place) (sym (append-nil (types relation.columns))) ∙ is in
    alone_there (relation_table relation) (plain_column (map (λ c. c.name) relation.columns) place) (record { place = place; kind = kind }) (named_at relation.columns place kind distinct there)

-- with the relation's name
pub qualified_there : (relation : RelationSchema) (place : ℕ) (kind : Kind) → AreDistinct (map (λ c. c.name) relation.columns) → slice_get (types relation.columns) place ≡ Some kind → found_in_table (relation_table relation) (qualified_column (source_of relation) place) ≡ Some (record { place = place; kind = kind })
qualified_there relation place kind distinct is = passed (pointwise nat_eq relation.name relation.name) _ None _ (same_bytes relation.name relation.name refl) (named_at relation.columns place kind distinct is)

-- another relation has no such column
pub qualified_other : (relation other : RelationSchema) (place : ℕ) → other.name ≢ relation.name → found_in_table (relation_table other) (qualified_column (source_of relation) place) ≡ None
qualified_other relation other place unlike = not_passed (pointwise nat_eq other.name relation.name) _ None None (other_bytes other.name relation.name unlike) refl
