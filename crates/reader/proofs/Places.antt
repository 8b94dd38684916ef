-- The columns of a scope that are found are there, with their types.
use Rattle.std.proofs.Common.{◌≡◌, ℕ, zero, suc, ◌+◌, ◌<◌, ◌≤◌, List, [], ◌∷◌, ◌++◌, Some, None, length, length-append, map, drop, get_or, option_map, append_assoc, nat_eq, refl, ap, sym, subst, ◌∙◌, arith}
use Rattle.std.specs.Cmp.Lexicographic.{pointwise}
use Rattle.std.specs.List.{AllByRecursion, position_from, slice_get}
use Rattle.std.proofs.lemmas.List.{length-map}
use Rattle.std.proofs.lemmas.Option.{slice_get_within}
use Rattle.terms.specs.declared.value.Kind.{Kind}
use Rattle.meaning.specs.declared.schema.Column as schema
use Rattle.reader.specs.declared.scope.Found.{Found}
use Rattle.reader.specs.declared.scope.Table as code_table
use Rattle.reader.specs.Scope.{Table, Scope, table_of, types, types_in, column_named, is_qualifier, found_in_table, counted_on, and_others, all_found, found_in}
use Rattle.reader.specs.Tree as tree
use Rattle.reader.proofs.Chains.{chosen, first_step, only_part}

-- what stands in a list's front stands in the whole
pub slice_get-front : {A : Type 0} (xs ys : List A) (i : ℕ) (x : A) → slice_get xs i ≡ Some x → slice_get (xs ++ ys) i ≡ Some x
slice_get-front [] ys i x is = cc
slice_get-front (y ∷ xs) ys zero x is = is
slice_get-front (y ∷ xs) ys (suc i) x is = slice_get-front xs ys i x is

-- within a list's front the whole has what the front has
pub slice_get-within_front : {A : Type 0} (xs ys : List A) (i : ℕ) → i < length xs → slice_get (xs ++ ys) i ≡ slice_get xs i
slice_get-within_front [] ys i within = absurd (omega arith)
slice_get-within_front (y ∷ xs) ys zero within = refl
slice_get-within_front (y ∷ xs) ys (suc i) within = slice_get-within_front xs ys i (omega arith)

-- behind a list's front stands the rest
pub slice_get-behind : {A : Type 0} (xs ys : List A) (i j : ℕ) → j ≡ length xs + i → slice_get (xs ++ ys) j ≡ slice_get ys i
slice_get-behind [] ys i j is = let same : j ≡ i = omega arith in ap (slice_get ys) same
slice_get-behind (x ∷ xs) ys i zero is = absurd (omega arith)
slice_get-behind (x ∷ xs) ys i (suc j) is = slice_get-behind xs ys i j (omega arith)

-- a column that is found by its name has its type at its place
pub named_there : (columns : List schema.Column) (name : List ℕ) (found : Found) → column_named columns name ≡ Some found → slice_get (types columns) found.place ≡ Some found.kind
named_there columns name found is =
    let place = first_step _ (position_from (λ c. pointwise nat_eq c.name name) 0 columns) found is in
    let kind = first_step _ (slice_get (types columns) place.0) found place.2 in
    let same : record { place = place.0; kind = kind.0 } ≡ found = cc in
    let P : Found → Type 0 = λ f. slice_get (types columns) f.place ≡ Some f.kind in
    subst P same kind.1

-- so has one that is found in a table
pub found_there : (table : Table) (column : tree.Column) (found : Found) → found_in_table table column ≡ Some found → slice_get (types table.columns) found.place ≡ Some found.kind
found_there table column found is =
    named_there table.columns column.name found (chosen (is_qualifier table.name column.relation) (column_named table.columns column.name) found is).1

pub found_within : (table : Table) (column : tree.Column) (found : Found) → found_in_table table column ≡ Some found → found.place < length table.columns
found_within table column found is =
    let within = slice_get_within (types table.columns) found.place found.kind (found_there table column found is) in
    omega (arith, length-map table.columns (λ c. c.kind))

-- a column that is found in a table has its type at its place, counted on from the columns before
found_behind : (before : List Kind) (tables : List Table) (table : Table) (column : tree.Column) (found : Found) → found_in_table table column ≡ Some found → slice_get (before ++ (types table.columns ++ types_in tables)) (length before + found.place) ≡ Some found.kind
found_behind before tables table column found is =
    slice_get-behind before (types table.columns ++ types_in tables) found.place (length before + found.place) refl
    ∙ slice_get-front (types table.columns) (types_in tables) found.place found.kind (found_there table column found is)

-- each column that tables have behind others has its type at its place
all_there : (before : List Kind) (count : ℕ) → count ≡ length before → (tables : List Table) (column : tree.Column) → AllByRecursion (λ f. slice_get (before ++ types_in tables) f.place ≡ Some f.kind) (all_found count tables column)
all_there before count same [] column = tt
all_there before count same (table ∷ tables) column =
    let Q : List Kind → Type 0 = λ ks. AllByRecursion (λ f. slice_get ks f.place ≡ Some f.kind) (all_found (count + length table.columns) tables column) in
    let counted : count + length table.columns ≡ length (before ++ types table.columns) = omega (arith, same, length-append before (types table.columns), length-map table.columns (λ c. c.kind)) in
    let others = subst Q (append_assoc before (types table.columns) (types_in tables)) (all_there (before ++ types table.columns) (count + length table.columns) counted tables column) in
    let all : List Kind = before ++ (types table.columns ++ types_in tables) in
    elim (found_in_table table column) as (λ o. found_in_table table column ≡ o → AllByRecursion (λ f. slice_get all f.place ≡ Some f.kind) (and_others (option_map (counted_on count) o) (all_found (count + length table.columns) tables column))) [
      | None ↦ λ none. others
      | Some found ↦ λ is.
          let P : ℕ → Type 0 = λ n. slice_get all (n + found.place) ≡ Some found.kind in
          (subst P (sym same) (found_behind before tables table column found is), others)
    ] refl

-- so has each column of a scope
pub there_in : (scope : Scope) (column : tree.Column) (found : Found) → found_in scope column ≡ Some found → slice_get (types_in scope) found.place ≡ Some found.kind
there_in scope column found is =
    let P : List Found → Type 0 = AllByRecursion (λ f. slice_get (types_in scope) f.place ≡ Some f.kind) in
    (subst P (only_part (all_found 0 scope column) found is) (all_there [] 0 refl scope column)).0

-- the columns of a table are among those of the tables from it on
pub columns_left : (tables : List code_table.Table) (i : ℕ) (d : code_table.Table) → i < length tables → length (get_or tables i d).columns.now ≤ length (types_in (map table_of (drop i tables)))
columns_left [] i d within = absurd (omega arith)
columns_left (table ∷ tables) zero d within = omega (arith, length-append (types table.columns.now) (types_in (map table_of tables)), length-map table.columns.now (λ c. c.kind))
columns_left (table ∷ tables) (suc i) d within = columns_left tables i d (omega arith)
